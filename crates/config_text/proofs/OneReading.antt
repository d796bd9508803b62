-- Each text spells one configuration, or has one first fault.
use Rattle.std.proofs.Common.{◌≡◌, ℕ, zero, suc, ◌<◌, ◌≤◌, ◌⊎◌, List, length, Option, Some, None, refl, sym, ap, ◌∙◌, inl, inr, arith}
use Rattle.std.specs.Prelude.{Ok}
use Rattle.std.proofs.lemmas.Bool.{cases_lt, cases_order}
use Rattle.std.proofs.lemmas.List.{get_or_past}
use Rattle.config_text.specs.declared.text_kind.TextKind.{TextKind}
use Rattle.config_text.specs.declared.text_kind.TextKind.TheVariants.{TooLong}
use Rattle.config_text.specs.declared.config.Config.{Config}
use Rattle.config_text.specs.Contents.{blank}
use Rattle.config_text.specs.Lines.{longest_text}
use Rattle.config_text.specs.Text.{lines, config_of, fault_at, Spells, HasFault}

module _ {K : Type 0} (fault : ℕ → Option K) where
  abbrev pub IsFirst : ℕ → K → Type 0
  IsFirst i kind = (fault i ≡ Some kind) × ((j : ℕ) → j < i → fault j ≡ None)

  step : (n : ℕ) → ((j : ℕ) → j < n → fault j ≡ None) → (o : Option K) → fault n ≡ o → ((j : ℕ) → j < suc n → fault j ≡ None) ⊎ ((i : ℕ) × (kind : K) × IsFirst i kind)
  step n none None e = inl (λ j lt. elim (cases_lt j n) [ inl below ↦ none j below | inr ge ↦ let same : j ≡ n = omega arith in rw same e ])
  step n none (Some kind) e = inr (n, kind, (e, none))

  first_below : (n : ℕ) → ((j : ℕ) → j < n → fault j ≡ None) ⊎ ((i : ℕ) × (kind : K) × IsFirst i kind)
  first_below zero = inl (λ j lt. absurd (omega arith))
  first_below (suc n) =
      elim (first_below n) [
        | inl none ↦ step n none (fault n) refl
        | inr found ↦ inr found
      ]

  one_first : (i j : ℕ) (a b : K) → IsFirst i a → IsFirst j b → (i ≡ j) × (a ≡ b)
  one_first i j a b f g =
      elim (cases_order i j) [
        | inl same ↦
            let e : Some a ≡ Some b = sym f.0 ∙ rw same g.0 in
            (same, cc)
        | inr apart ↦ elim apart [
          | inl below ↦ let e : Some a ≡ None = sym f.0 ∙ g.1 i below in absurd cc
          | inr above ↦ let e : Some b ≡ None = sym g.0 ∙ f.1 j above in absurd cc
        ]
      ]

past_lines : (bytes : List ℕ) (j : ℕ) → length (lines bytes) ≤ j → fault_at (lines bytes) j ≡ None
unfolding fault_at
past_lines bytes j ge = rw (get_or_past (lines bytes) j (Ok blank) ge) refl

pub some_reading : (bytes : List ℕ) → ((config : Config) × Spells config bytes) ⊎ ((line : ℕ) × (kind : TextKind) × HasFault bytes line kind)
some_reading bytes =
    elim (cases_lt longest_text (length bytes)) [
      | inl long ↦ inr (zero, TooLong, (long, refl))
      | inr short ↦ elim (first_below (fault_at (lines bytes)) (length (lines bytes))) [
        | inl none ↦ inl (
          config_of (lines bytes),
          record {
            short = short;
            faultless = λ j. elim (cases_lt j (length (lines bytes))) [ inl lt ↦ none j lt | inr ge ↦ past_lines bytes j ge ];
            is = refl;
          },
        )
        | inr found ↦ inr (suc found.0, found.1, (short, found.2.0, found.2.1))
      ]
    ]

pub apart : (bytes : List ℕ) (config : Config) (line : ℕ) (kind : TextKind) → Spells config bytes → HasFault bytes line kind → ⊥
apart bytes config zero kind spells fault = omega (arith, spells.short, fault.0)
apart bytes config (suc i) kind spells fault = let e : Some kind ≡ None = sym fault.1 ∙ spells.faultless i in cc

pub one_config : (bytes : List ℕ) (a b : Config) → Spells a bytes → Spells b bytes → a ≡ b
one_config bytes a b x y = x.is ∙ sym y.is

pub one_fault : (bytes : List ℕ) (m n : ℕ) (j k : TextKind) → HasFault bytes m j → HasFault bytes n k → (m ≡ n) × (j ≡ k)
one_fault bytes zero zero j k f g = (refl, f.1 ∙ sym g.1)
one_fault bytes zero (suc n) j k f g = absurd (omega (arith, f.0, g.0))
one_fault bytes (suc m) zero j k f g = absurd (omega (arith, f.0, g.0))
one_fault bytes (suc m) (suc n) j k f g =
    let same = one_first (fault_at (lines bytes)) m n j k (f.1, f.2) (g.1, g.2) in
    (ap suc same.0, same.1)
