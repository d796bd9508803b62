-- Lines made of fields that stand ready and of numbers.
use Rattle.std.specs.Prelude.{◌≡◌, ◌<◌, ℕ, Bool, true, false, List, [], ◌∷◌, ◌++◌, length, slice_index_or, ℤ, codes}
use Rattle.std.specs.Fmt.{decimal, signed_decimal}
use Rattle.std.specs.List.{join_with_byte}
use Rattle.music_base.specs.Lines.{line_end}
use Rattle.scene_model.specs.Logs.{comma}
use Rattle.scene_model.specs.Scenes.{app_at, port_at}
use Rattle.scene_model.specs.declared.port.PortKind.{PortKind}
use Rattle.scene_model.specs.declared.port.PortKind.TheVariants.{Events, Values, Messages}
use Rattle.scene_model.specs.declared.row.RowItem.{RowItem}
use Rattle.scene_model.specs.declared.row.RowItem.TheVariants.{Event as EventRow, Value as ValueRow}
use Rattle.scene_model.specs.declared.scene.Scene.{Scene}
use Rattle.run_logs.specs.declared.ranks.RankFields.{RankFields}

-- the field of a port's kind
abbrev pub kind_name : PortKind → List ℕ
kind_name Events = codes "event"
kind_name Values = codes "cont"
kind_name Messages = codes "message"

-- the fields of application, port, kind and rank, with the commas around them
abbrev pub rank_fields : Scene → ℕ → ℕ → ℕ → List ℕ
rank_fields scene app port rank =
    join_with_byte comma ([] ∷ (app_at scene app).name ∷ (port_at scene app port).name ∷ kind_name (port_at scene app port).kind ∷ decimal rank ∷ [] ∷ [])

-- what is kept of a rank of a port: the port's kind, and the text of these fields
pub record AreRankFields (scene : Scene) (app port rank : ℕ) (fields : RankFields) : Type 0 where
  pub kind : fields.kind ≡ (port_at scene app port).kind
  pub text : fields.text.items ≡ rank_fields scene app port rank

-- P holds of each element and its place
abbrev pub EachAt : {X : Type 0} → (ℕ → X → Type 0) → List X → Type 0
EachAt {X} P xs = (i : ℕ) (past : X) → i < length xs → P i (slice_index_or xs i past)

-- the fields of the first ranks of a port, of the first ports of an application, and of the first applications
abbrev pub AreOfPort : Scene → ℕ → ℕ → List RankFields → Type 0
AreOfPort scene app port ranks = EachAt (AreRankFields scene app port) ranks

abbrev pub AreOfApp : Scene → ℕ → List (List RankFields) → Type 0
AreOfApp scene app ports = EachAt (AreOfPort scene app) ports

abbrev pub AreOfScene : Scene → List (List (List RankFields)) → Type 0
AreOfScene scene apps = EachAt (AreOfApp scene) apps

-- whether a row that tells this gets its line by the fields of a port of this kind
abbrev pub serves : PortKind → RowItem → Bool
serves Events (EventRow local global time) = true
serves Values (ValueRow local global value) = true
serves _ _ = false

-- the line of an event and the line of a value, where `clock` is the text of the clock, and `ready` stands between it and the
-- local place
abbrev pub event_line : List ℕ → List ℕ → ℕ → ℕ → ℕ → List ℕ
event_line clock ready local global time =
    clock ++ ready ++ decimal local ++ comma ∷ decimal global ++ comma ∷ decimal time ++ comma ∷ line_end ∷ []

abbrev pub value_line : List ℕ → List ℕ → ℕ → ℕ → ℤ → List ℕ
value_line clock ready local global value =
    clock ++ ready ++ decimal local ++ comma ∷ decimal global ++ comma ∷ comma ∷ signed_decimal value ++ line_end ∷ []
