-- The kinds of faults that `clap` finds, as lists that are empty or not.
use Rattle.std.proofs.Common.{◌≡◌, ◌∙◌, Bool, true, false, List, [], ◌∷◌, ap, sym, true≢false}
use Rattle.clap.specs.Kinds.{Kinds, or_else}
use Rattle.clap.specs.declared.error.kind.ErrorKind.{ErrorKind}

abbrev has_some : {X : Type 0} → List X → Bool
has_some [] = false
has_some (x ∷ xs) = true

pub cons≢nil : {X : Type 0} (x : X) (xs : List X) → x ∷ xs ≡ [] → ⊥
cons≢nil x xs e = true≢false (ap has_some e)

abbrev pub IsFault : Kinds → Type 0
IsFault ks = (k : ErrorKind) × (more : Kinds) × (ks ≡ k ∷ more)

pub first_fault : (a b : Kinds) → IsFault a → IsFault (or_else a b)
first_fault a b (k, more, is) = (k, more, ap (λ x. or_else x b) is)

pub second_fault : (a b : Kinds) → a ≡ [] → IsFault b → IsFault (or_else a b)
second_fault a b none (k, more, is) = (k, more, ap (λ x. or_else x b) none ∙ is)

pub no_fault : (a b : Kinds) → a ≡ [] → b ≡ [] → or_else a b ≡ []
no_fault a b x y = ap (λ z. or_else z b) x ∙ y

pub fault_stands : (ks : Kinds) → IsFault ks → ks ≡ [] → ⊥
fault_stands ks (k, more, is) none = cons≢nil k more (sym is ∙ none)
