-- A rule that is read has no fault.
use Rattle.std.proofs.Common.{◌≡◌, ℕ, ◌+◌, ◌<◌, Bool, true, false, List, [], ◌∷◌, ◌++◌, length, refl, sym, ap, inl, inr, arith, length-append}
use Rattle.std.specs.Prelude.{Option, Some, None, Result, Ok, Err, not, ◌&&◌, if◌then◌else◌}
use Rattle.std.proofs.lemmas.Bool.{cases_lt, lt-leb, le-leb}
use Rattle.std.proofs.lemmas.List.Folds.{list_all-append}
use Rattle.text_words.specs.Words.{declarations}
use Rattle.text_words.specs.InTurn.{unless}
use Rattle.scene_model.specs.declared.port.PortDecl.{PortDecl}
use Rattle.scene_model.specs.declared.rule.Rule.{Rule}
use Rattle.app_scripts.specs.Forms.{rule_in}
use Rattle.scene_model.specs.Limits.{most_rules}
use Rattle.scene_model.specs.Rules.{AreRules, ports_stand, indices_stand, after_fits, rate_fits, stands, runs_for}
use Rattle.app_scripts.specs.Rules.{fault_of, judged, rule_beside, rules_of}
use Rattle.app_scripts.specs.declared.fault.RuleFault.{RuleFault}
use Rattle.app_scripts.specs.declared.fault.RuleFault.TheVariants.{RuleText}
use Rattle.scene_model.specs.Spellable.{is_spellable}
use Rattle.app_scripts.proofs.RuleForms.{is_spellable-rule_in}
use Rattle.text_words.proofs.Turns.{in_turn-keeps}

-- four tests in turn find no fault where all pass
all_pass : (a b c d : Bool) (e f g h : RuleFault)
    → (if not a then Some e else if not b then Some f else if not c then Some g else if not d then Some h else None) ≡ None
    → (a && b && c && d) ≡ true
all_pass true true true true e f g h none = refl
all_pass true true true false e f g h none = absurd cc
all_pass true true false d e f g h none = absurd cc
all_pass true false c d e f g h none = absurd cc
all_pass false b c d e f g h none = absurd cc

-- a rule in which no fault is found stands
stands-no_fault : (ports : List PortDecl) (tick lasts place : ℕ) (rule : Rule) → fault_of ports tick lasts place rule ≡ None → stands ports tick lasts rule ≡ true
unfolding fault_of
stands-no_fault ports tick lasts place rule none =
    all_pass (ports_stand ports rule) (indices_stand ports rule) (after_fits tick rule) (rate_fits lasts rule) _ _ _ _ none

-- ---- one rule after the others

-- a fault is no rule
abbrev Gives : RuleFault → Rule → Type 0
Gives fault rule = let failed : Result Rule RuleFault = Err fault in failed ≡ Ok rule

-- the rule is what was spelled, and it has no fault
pub record IsSpelled (ports : List PortDecl) (tick lasts : ℕ) (spelled : Option Rule) (rule : Rule) : Type 0 where
  pub spells : spelled ≡ Some rule
  pub stands_there : stands ports tick lasts rule ≡ true

-- nor is a rule given beside its fault
from_unless : (ports : List PortDecl) (tick lasts place : ℕ) (rule given : Rule) (fault : Option RuleFault)
    → fault_of ports tick lasts place rule ≡ fault → unless fault rule ≡ Ok given → IsSpelled ports tick lasts (Some rule) given
from_unless ports tick lasts place rule given None is gave =
    let same : rule ≡ given = cc in
    record { spells = ap (λ (r : Rule). Some r) same; stands_there = rw (sym same) (stands-no_fault ports tick lasts place rule is) }
from_unless ports tick lasts place rule given (Some fault) is gave = absurd cc

-- what is judged to be a rule was spelled, and stands
from_judged : (ports : List PortDecl) (tick lasts place : ℕ) (given : Rule) (spelled : Option Rule)
    → judged ports tick lasts place spelled ≡ Ok given → IsSpelled ports tick lasts spelled given
from_judged ports tick lasts place given None gave = absurd cc
from_judged ports tick lasts place given (Some rule) gave = from_unless ports tick lasts place rule given _ refl gave

-- one rule more is read
one_more : (ports : List PortDecl) (tick lasts : ℕ) (before : List Rule) (rule : Rule) → AreRules ports tick lasts before → length before < most_rules
    → is_spellable rule ≡ true → stands ports tick lasts rule ≡ true → AreRules ports tick lasts (before ++ rule ∷ [])
one_more ports tick lasts before rule so_far room spells is = record {
  spellable = rw (list_all-append is_spellable before (rule ∷ []), so_far.spellable, spells) refl;
  stand = rw (list_all-append (stands ports tick lasts) before (rule ∷ []), so_far.stand, is) refl;
  few = omega (arith, room, length-append before (rule ∷ []));
}

-- each rule that is read after the others is such a rule
kept : (ports : List PortDecl) (tick lasts : ℕ) (before : List Rule) (words : List (List ℕ)) (rule : Rule) → AreRules ports tick lasts before
    → rule_beside ports tick lasts before words ≡ Ok rule → AreRules ports tick lasts (before ++ rule ∷ [])
unfolding rule_beside
kept ports tick lasts before words rule so_far gave = elim (cases_lt (length before) most_rules) [
  | inl room ↦
      let is = from_judged ports tick lasts _ rule (rule_in words) (rw (lt-leb _ _ room) at gave) in
      one_more ports tick lasts before rule so_far room (is_spellable-rule_in words rule is.spells) is.stands_there
  | inr full ↦ let refused : Gives (RuleText (length before + 1)) rule = rw (le-leb _ _ full) at gave in absurd cc
]

-- all rules of a text are such rules
pub rules_of-are : (ports : List PortDecl) (tick span : ℕ) (text : List ℕ) (rules : List Rule) → rules_of ports tick span text ≡ Ok rules
    → AreRules ports tick (runs_for span tick) rules
rules_of-are ports tick span text rules gave =
    let lasts = runs_for span tick in
    in_turn-keeps (rule_beside ports tick lasts) (AreRules ports tick lasts) (kept ports tick lasts) (declarations text) [] rules
    (record { spellable = refl; stand = refl; few = omega arith }) gave
