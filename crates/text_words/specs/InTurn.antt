-- Results in steps: the first fault ends them.
use Rattle.std.specs.Prelude.{◌≡◌, ℕ, length, take, slice_get, IsSomeAnd, List, [], ◌∷◌, ◌++◌, Option, Some, None, Result, Ok, Err}

infixl 10 ◌>>=◌
abbrev pub ◌>>=◌ : {A B E : Type 0} → Result A E → (A → Result B E) → Result B E
(Ok x) >>= f = f x
(Err e) >>= f = Err e

-- the value, or this fault where there is none
abbrev pub some_or : {A E : Type 0} → Option A → E → Result A E
some_or None e = Err e
some_or (Some x) e = Ok x

-- the value, or the fault where there is one
abbrev pub unless : {A E : Type 0} → Option E → A → Result A E
unless None x = Ok x
unless (Some e) x = Err e

-- the same with each fault turned into another
abbrev pub faults_as : {A E F : Type 0} → (E → F) → Result A E → Result A F
faults_as f (Ok x) = Ok x
faults_as f (Err e) = Err (f e)

-- each read in turn beside what those before it gave, up to the first that is faulty
abbrev pub in_turn : {A B E : Type 0} → (List B → A → Result B E) → List B → List A → Result (List B) E
in_turn read before [] = Ok before
in_turn read before (x ∷ xs) = read before x >>= λ y. in_turn read (before ++ y ∷ []) xs

-- Place i, from 0, is the first faulty one: those before it give ys, one each, and beside these it has the fault e.
pub record IsFirst {A B E : Type 0} (read : List B → A → Result B E) (xs : List A) (i : ℕ) (ys : List B) (e : E) : Type 0 where
  pub gave : in_turn read [] (take i xs) ≡ Ok ys
  pub counts : length ys ≡ i
  pub faulty : IsSomeAnd (slice_get xs i) (λ x. read ys x ≡ Err e)
