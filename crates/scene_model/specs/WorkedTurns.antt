-- Single steps, of which the laws say what their rules put out.
use Rattle.std.specs.Prelude.{List, [], ◌∷◌, pos, negsuc, codes}
use Rattle.music_base.specs.declared.item.Item.TheVariants.{Value}
use Rattle.scene_model.specs.Turns.{Moment, event, message}
use Rattle.scene_model.specs.WorkedScenes.{linear, output, input}
use Rattle.scene_model.specs.declared.rule.Rule.{Rule}
use Rattle.scene_model.specs.declared.rule.Rule.TheVariants.{Pass, SetValue, Ramp, CopyValues, When, Reply}
use Rattle.scene_model.specs.declared.port.PortKind.TheVariants.{Events, Values, Messages}

-- step 4 of an application that ticks each 10 ns, so from 40 to 50 ns. Its input `in` gets two events, its input `d` reads
-- a value for index 0, and its input `heard` gets a message
abbrev pub step_four : Moment
step_four = record {
  ports =
      input (codes "in") Events (linear 0 10)
      ∷ input (codes "d") Values (linear 0 1)
      ∷ input (codes "heard") Messages (linear 0 1)
      ∷ output (codes "out") Events (linear 0 4)
      ∷ output (codes "c") Values (linear 0 2)
      ∷ output (codes "said") Messages (linear 0 1)
      ∷ [];
  start = 0;
  tick = 10;
  step = 4;
  inputs = (event 1 38 ∷ event 3 39 ∷ []) ∷ (Value 0 (pos 7) ∷ []) ∷ (message (codes "go") 35 ∷ []) ∷ [] ∷ [] ∷ [] ∷ [];
}

-- each event again, with its index less two
abbrev pub pass_down : List Rule
pass_down = Pass (codes "in") (codes "out") (negsuc 1) 5 ∷ []

-- each event again with its index two on, and then an event while the value is above 6
abbrev pub pass_and_watch : List Rule
pass_and_watch = Pass (codes "in") (codes "out") (pos 2) 0 ∷ When (codes "d") 0 (pos 6) (codes "out") 0 ∷ []

-- the value times minus a half, and three
abbrev pub scale_down : List Rule
scale_down = CopyValues (codes "d") (codes "c") (negsuc 0) 2 (pos 3) ∷ []

-- two rules for index 0, and a ramp that leaves 64 bits
abbrev pub give_twice : List Rule
give_twice = SetValue (codes "c") 0 (pos 1) ∷ Ramp (codes "c") 1 (pos 1) (pos 9_000_000_000_000_000_000) ∷ SetValue (codes "c") 0 (pos 2) ∷ []

abbrev pub answer : List Rule
answer = Reply (codes "heard") (codes "said") 2 ∷ []
