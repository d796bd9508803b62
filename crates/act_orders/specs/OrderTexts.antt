-- The text of an order of acts.
use Rattle.std.specs.Prelude.{ℕ, ◌+◌, List, ◌++◌, codes}
use Rattle.std.specs.Fmt.{decimal}
use Rattle.std.specs.List.{flat_map}
use Rattle.music_base.specs.Lines.{ended}
use Rattle.scene_model.specs.Scenes.{app_at}
use Rattle.scene_model.specs.declared.act.Act.{Act}
use Rattle.scene_model.specs.declared.act.Act.TheVariants.{Put, Run, Take}
use Rattle.scene_model.specs.declared.scene.Scene.{Scene}

-- what is done: a block is taken or put, with the number of its connection, counted from 1, or the application of a name
-- runs a step
abbrev pub act_words : Scene → Act → List ℕ
act_words scene (Take c) = codes "take " ++ decimal (c + 1)
act_words scene (Run a) = codes "run " ++ (app_at scene a).name
act_words scene (Put c) = codes "put " ++ decimal (c + 1)

unfoldable pub act_line : Scene → Act → List ℕ
act_line scene act = ended (act_words scene act)

-- a line for each act, in their order
abbrev pub order_text : Scene → List Act → List ℕ
order_text scene acts = flat_map (act_line scene) acts
