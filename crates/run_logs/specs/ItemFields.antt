-- The fields of a row that depend on what it tells.
use Rattle.std.specs.Prelude.{◌≡◌, true}
use Rattle.std.specs.Fmt.{decimal}
use Rattle.std.specs.List.{list_all}
use Rattle.music_base.specs.Names.{is_in_words}
use Rattle.scene_model.specs.Logs.{kind_field, local_field, global_field, time_field, value_field}
use Rattle.scene_model.specs.declared.row.RowItem.{RowItem}
use Rattle.run_logs.specs.declared.fields.ItemFields.{ItemFields}

-- they are those of the item, and need no quotation marks
pub record AreFieldsOf (item : RowItem) (fields : ItemFields) : Type 0 where
  pub kind : fields.kind.now ≡ kind_field item
  pub local : decimal fields.local ≡ local_field item
  pub global : decimal fields.global ≡ global_field item
  pub time : fields.time.now ≡ time_field item
  pub value : fields.value.now ≡ value_field item
  pub plain_kind : list_all is_in_words fields.kind.now ≡ true
  pub plain_time : list_all is_in_words fields.time.now ≡ true
  pub plain_value : list_all is_in_words fields.value.now ≡ true
