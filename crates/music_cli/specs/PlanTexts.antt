-- The text of a plan: how many blocks each connection keeps at most.
use Rattle.std.specs.Prelude.{ℕ, ◌+◌, Bool, true, false, List, ◌++◌, length, slice_index, codes}
use Rattle.std.specs.Fmt.{decimal}
use Rattle.std.specs.List.{flat_map}
use Rattle.std.specs.Option.{is_some}
use Rattle.music_base.specs.Numbers.{below}
use Rattle.music_base.specs.Lines.{ended}
use Rattle.scene_model.specs.Scenes.{app_at, input_of, output_of, receiver, sender}
use Rattle.scene_model.specs.Waits.{stated}
use Rattle.scene_model.specs.declared.port.PortDecl.{PortDecl}
use Rattle.scene_model.specs.declared.scene.AppDecl.{AppDecl}
use Rattle.scene_model.specs.declared.scene.Scene.{Scene}

-- the names of an application and of one of its ports
abbrev pub port_text : AppDecl → PortDecl → List ℕ
port_text app port = app.name ++ codes "." ++ port.name

-- which connection it is, counted from 1, and its two ends
unfoldable pub ends_text : Scene → ℕ → List ℕ
ends_text scene c =
    decimal (c + 1)
    ++ codes ","
    ++ port_text (app_at scene (sender scene c)) (output_of scene c)
    ++ codes ","
    ++ port_text (app_at scene (receiver scene c)) (input_of scene c)

-- whether one of its ends states its limit
abbrev pub how_text : Bool → List ℕ
how_text true = codes "stated"
how_text false = codes "chosen"

unfoldable pub plan_line : Scene → ℕ → ℕ → Bool → List ℕ
plan_line scene c limit is_stated = ended (ends_text scene c ++ codes "," ++ decimal limit ++ codes "," ++ how_text is_stated)

unfoldable pub columns_line : List ℕ
columns_line = ended (codes "link,from,to,limit,how")

-- the names of the columns, and a line for each connection
abbrev pub plan_text : Scene → List ℕ → List ℕ
plan_text scene limits = columns_line ++ flat_map (λ c. plan_line scene c (slice_index limits c) (is_some (stated scene c))) (below (length scene.links))
