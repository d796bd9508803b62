use Rattle.scene_model.proofs.Wanting.{between_first, between_next, due_is_wanted, held_exactly, held_none, unwanted_is_later}
use Rattle.scene_model.proofs.table_laws.steps_want_what_they_read.Goals as goal

pub returns : goal.returns
returns c = record {
  due = due_is_wanted;
  later = unwanted_is_later;
  held = λ scene c j k ok kind held le. held_exactly scene ok c j kind k held le;
  held_none = λ scene c j k ok kind held before. held_none scene ok c j kind k held before;
  between = λ scene c j k ok kind between le small. between_first scene ok c j kind k between le small;
  next = λ scene c j ok kind between le. between_next scene ok c j kind between le;
}
