-- A line of a row is its fields joined: those that stand ready, and the numbers between them.
use Rattle.std.proofs.Common.{◌≡◌, ℕ, ◌++◌, ◌∷◌, [], List, refl, sym, ap, ◌∙◌, append_assoc, arith}
use Rattle.std.specs.Fmt.{decimal, signed_decimal}
use Rattle.std.proofs.lemmas.Grind.{common_steps}
use Rattle.std.specs.Prelude.{ℤ, codes}
use Rattle.std.specs.List.{join_with_byte}
use Rattle.music_base.specs.Lines.{ended, line_end}
use Rattle.scene_model.specs.Logs.{comma, line_of}
use Rattle.scene_model.specs.Scenes.{app_at, port_at}
use Rattle.scene_model.specs.declared.port.PortKind.TheVariants.{Events, Values}
use Rattle.scene_model.specs.declared.row.Row.{Row}
use Rattle.scene_model.specs.declared.row.RowItem.TheVariants.{Event as EventRow, Value as ValueRow}
use Rattle.scene_model.specs.declared.scene.Scene.{Scene}
use Rattle.run_logs.specs.declared.ranks.RankFields.{RankFields}
use Rattle.run_logs.specs.QuickLines.{AreRankFields, event_line, value_line}

-- fields with a comma behind each, and what follows
abbrev commas : List (List ℕ) → List ℕ → List ℕ
commas [] text = text
commas (field ∷ fields) text = field ++ comma ∷ commas fields text

commas-append : (fields : List (List ℕ)) (text more : List ℕ) → commas fields text ++ more ≡ commas fields (text ++ more)
commas-append [] text more = refl
commas-append (field ∷ fields) text more = append_assoc field (comma ∷ commas fields text) more ∙ ap (λ rest. field ++ comma ∷ rest) (commas-append fields text more)

regrouped : (a b c d e f : List ℕ) → a ++ b ++ c ++ d ++ e ++ f ≡ a ++ (b ++ (c ++ (d ++ (e ++ f))))
regrouped a b c d e f = simp append_assoc

joined_event : (clock app port kind rank local global time : List ℕ)
    → clock ++ join_with_byte comma ([] ∷ app ∷ port ∷ kind ∷ rank ∷ [] ∷ []) ++ local ++ comma ∷ global ++ comma ∷ time ++ comma ∷ line_end ∷ []
    ≡ ended (join_with_byte comma (clock ∷ app ∷ port ∷ kind ∷ rank ∷ local ∷ global ∷ time ∷ [] ∷ []))
joined_event clock app port kind rank local global time =
    regrouped clock (commas ([] ∷ app ∷ port ∷ kind ∷ rank ∷ []) []) local (comma ∷ global) (comma ∷ time) (comma ∷ line_end ∷ [])
    ∙ ap (λ text. clock ++ text) (commas-append ([] ∷ app ∷ port ∷ kind ∷ rank ∷ []) [] (commas (local ∷ global ∷ time ∷ []) (line_end ∷ [])))
    ∙ sym (commas-append (clock ∷ app ∷ port ∷ kind ∷ rank ∷ local ∷ global ∷ time ∷ []) [] (line_end ∷ []))

joined_value : (clock app port kind rank local global value : List ℕ)
    → clock ++ join_with_byte comma ([] ∷ app ∷ port ∷ kind ∷ rank ∷ [] ∷ []) ++ local ++ comma ∷ global ++ comma ∷ comma ∷ value ++ line_end ∷ []
    ≡ ended (join_with_byte comma (clock ∷ app ∷ port ∷ kind ∷ rank ∷ local ∷ global ∷ [] ∷ value ∷ []))
joined_value clock app port kind rank local global value =
    regrouped clock (commas ([] ∷ app ∷ port ∷ kind ∷ rank ∷ []) []) local (comma ∷ global) (comma ∷ comma ∷ value) (line_end ∷ [])
    ∙ ap (λ text. clock ++ text) (commas-append ([] ∷ app ∷ port ∷ kind ∷ rank ∷ []) [] (commas (local ∷ global ∷ [] ∷ []) (value ++ line_end ∷ [])))
    ∙ sym (commas-append (clock ∷ app ∷ port ∷ kind ∷ rank ∷ local ∷ global ∷ [] ∷ []) value (line_end ∷ []))

-- the line of a row of an event, and of a row of a value
pub event_line_is : (scene : Scene) (row : Row) (fields : RankFields) (clock : List ℕ) (local global time : ℕ) (ready : List ℕ)
    → AreRankFields scene row.app row.port row.rank fields → fields.kind ≡ Events → ready ≡ fields.text.items
    → clock ≡ decimal row.clock → row.item ≡ EventRow local global time → event_line clock ready local global time ≡ line_of scene row
unfolding line_of
event_line_is scene row fields clock local global time ready are kind text at item =
    let of_port : (port_at scene row.app row.port).kind ≡ Events = sym are.kind ∙ kind in
    rw (text, are.text, of_port, item, at) (joined_event (decimal row.clock) (app_at scene row.app).name (port_at scene row.app row.port).name (codes "event") (decimal row.rank) (decimal local) (decimal global) (decimal time))

pub value_line_is : (scene : Scene) (row : Row) (fields : RankFields) (clock : List ℕ) (local global : ℕ) (value : ℤ) (ready : List ℕ)
    → AreRankFields scene row.app row.port row.rank fields → fields.kind ≡ Values → ready ≡ fields.text.items
    → clock ≡ decimal row.clock → row.item ≡ ValueRow local global value → value_line clock ready local global value ≡ line_of scene row
unfolding line_of
value_line_is scene row fields clock local global value ready are kind text at item =
    let of_port : (port_at scene row.app row.port).kind ≡ Values = sym are.kind ∙ kind in
    rw (text, are.text, of_port, item, at) (joined_value (decimal row.clock) (app_at scene row.app).name (port_at scene row.app row.port).name (codes "cont") (decimal row.rank) (decimal local) (decimal global) (signed_decimal value))

-- what is appended piece by piece is the line of a value
pub value_pushed : (page clock ready local global value : List ℕ)
    → page ++ clock ++ ready ++ local ++ comma ∷ global ++ comma ∷ [] ++ comma ∷ [] ++ value ++ line_end ∷ []
    ≡ page ++ (clock ++ ready ++ local ++ comma ∷ global ++ comma ∷ comma ∷ value ++ line_end ∷ [])
value_pushed page clock ready local global value = grind (arith, common_steps)
