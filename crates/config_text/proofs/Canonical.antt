-- The canonical spelling of a lawful configuration spells it.
use Rattle.std.proofs.Common.{◌≡◌, ◌≤◌, ◌∙◌, true, length, sym, ap, ℕ, List}
use Rattle.std.specs.Prelude.{Result, Ok, Err, IfOk}
use Rattle.std.specs.Global.{Vec}
use Rattle.config_text.specs.declared.config.Config.{Config}
use Rattle.config_text.specs.Lines.{longest_text}
use Rattle.config_text.specs.Text.{Line, config_of, fault_at, Spells}
use Rattle.config_text.specs.Canon.{canon, is_lawful_config}
use Rattle.config_text.proofs.CanonLines.{canon_written}
use Rattle.config_text.proofs.CanonConfig.{config_again}
use Rattle.config_text.proofs.CanonFree.{contents_faultless}

pub canon_again : (config : Config) → is_lawful_config config ≡ true → length (canon config) ≤ longest_text → Spells config (canon config)
canon_again config lawful short =
    let e = canon_written config lawful in
    record {
      short = short;
      faultless = λ i. ap (λ (ls : List Line). fault_at ls i) e ∙ contents_faultless config lawful i;
      is = sym (ap config_of e ∙ config_again config);
    }

pub written_again : {E : Type 0} (config : Config) (r : Result (Vec ℕ) E) → IfOk r (λ _. is_lawful_config config ≡ true) → IfOk r (λ v. v.items ≡ canon config) → IfOk r (λ v. length v.items ≤ longest_text → Spells config v.items)
written_again config (Ok v) lawful e = λ short. rw e (canon_again config lawful (rw (← e) short))
written_again config (Err x) lawful e = tt
