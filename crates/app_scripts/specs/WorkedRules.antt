-- Small texts of rules, of which the laws say what they spell.
use Rattle.std.specs.Prelude.{ℕ, List, [], ◌∷◌, codes, Result}
use Rattle.scene_model.specs.WorkedScenes.{linear, input, output}
use Rattle.scene_model.specs.declared.port.PortDecl.{PortDecl}
use Rattle.scene_model.specs.declared.port.PortKind.TheVariants.{Events, Values, Messages}
use Rattle.scene_model.specs.declared.rule.Rule.{Rule}
use Rattle.app_scripts.specs.Rules.{rules_of}
use Rattle.app_scripts.specs.declared.fault.RuleFault.{RuleFault}

-- an output and an input of each kind
abbrev pub ports : List PortDecl
ports =
    output (codes "spikes") Events (linear 0 10)
    ∷ input (codes "in") Events (linear 0 10)
    ∷ output (codes "level") Values (linear 0 4)
    ∷ input (codes "seen") Values (linear 0 4)
    ∷ output (codes "note") Messages (linear 0 1)
    ∷ input (codes "cmd") Messages (linear 0 1)
    ∷ []

-- what a text spells for an application of these ports that ticks each millisecond, three times
abbrev pub spelled : List ℕ → Result (List Rule) RuleFault
spelled text = rules_of ports 1_000_000 3_000_000 text
