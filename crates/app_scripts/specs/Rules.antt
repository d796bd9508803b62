-- What a text of rules spells, or the fault of its first faulty rule.
use Rattle.std.specs.Prelude.{◌≡◌, ⊤, ℕ, ◌+◌, Bool, not, nat_le, if◌then◌else◌, List, [], length, Option, Some, None, Result, Err}
use Rattle.text_words.specs.Words.{declarations}
use Rattle.text_words.specs.InTurn.{in_turn, unless}
use Rattle.scene_model.specs.Limits.{most_rules}
use Rattle.scene_model.specs.Rules.{ports_stand, indices_stand, after_fits, rate_fits, runs_for}
use Rattle.scene_model.specs.Turns.{same_name}
use Rattle.scene_model.specs.declared.port.PortDecl.{PortDecl}
use Rattle.scene_model.specs.declared.rule.Rule.{Rule}
use Rattle.app_scripts.specs.Forms.{rule_in}
use Rattle.app_scripts.specs.declared.fault.RuleFault.{RuleFault}
use Rattle.app_scripts.specs.declared.fault.RuleFault.TheVariants.{RuleText, RulePort, RuleIndex, RuleAfter, RuleRate, Memory}

-- the port has this name
abbrev pub is_named : List ℕ → PortDecl → Bool
is_named name port = same_name port.name name

-- ---- the first fault

-- the first fault of a spelled rule at its place, in an application of these ports and this tick that runs for so long
unfoldable pub fault_of : List PortDecl → ℕ → ℕ → ℕ → Rule → Option RuleFault
fault_of ports tick lasts place rule =
    if not (ports_stand ports rule) then Some (RulePort place)
    else if not (indices_stand ports rule) then Some (RuleIndex place)
    else if not (after_fits tick rule) then Some (RuleAfter place)
    else if not (rate_fits lasts rule) then Some (RuleRate place) else None

-- the rule without a fault that words spell at a place, or the first fault there
abbrev pub judged : List PortDecl → ℕ → ℕ → ℕ → Option Rule → Result Rule RuleFault
judged ports tick lasts place None = Err (RuleText place)
judged ports tick lasts place (Some rule) = unless (fault_of ports tick lasts place rule) rule

-- what a rule's words give after the rules before it. Places count from 1
unfoldable pub rule_beside : List PortDecl → ℕ → ℕ → List Rule → List (List ℕ) → Result Rule RuleFault
rule_beside ports tick lasts before words =
    if nat_le most_rules (length before) then Err (RuleText (length before + 1))
    else judged ports tick lasts (length before + 1) (rule_in words)

-- the rules that a text spells for an application of these ports and this tick whose steps begin within a span, or the
-- fault of the first faulty rule
abbrev pub rules_of : List PortDecl → ℕ → ℕ → List ℕ → Result (List Rule) RuleFault
rules_of ports tick span text = in_turn (rule_beside ports tick (runs_for span tick)) [] (declarations text)

-- the reading has this fault; nothing is said of want of memory
abbrev pub IsFaultOf : {A : Type 0} → Result A RuleFault → RuleFault → Type 0
IsFaultOf reading Memory = ⊤
IsFaultOf reading fault = reading ≡ Err fault
