-- What holds of a value that is found in steps.
use Rattle.std.proofs.Common.{◌≡◌, ℕ, suc, Bool, true, false, List, [], ◌∷◌, length, refl, ap}
use Rattle.std.specs.Prelude.{Option, Some, None, IfSome, option_map, nat_le, ◌&&◌, if◌then◌else◌}
use Rattle.std.specs.List.{AllByRecursion}
use Rattle.std.specs.Option.{option_or}
use Rattle.std.specs.Str.Parse.{digits_value}
use Rattle.std.proofs.lemmas.Bool.{and_parts}
use Rattle.music_base.specs.Counts.{count_up_to, is_count}
use Rattle.text_words.specs.Options.{◌>>=◌, ◌when◌, each}

-- a step and what goes on from it
pub IfSome-bind : {A B : Type 0} (P : A → Type 0) (Q : B → Type 0) (f : A → Option B) (o : Option A) → IfSome o P → ((x : A) → P x → IfSome (f x) Q) → IfSome (o >>= f) Q
IfSome-bind P Q f None is goes = tt
IfSome-bind P Q f (Some x) is goes = goes x is

-- the same where nothing is said of the step
pub IfSome-after : {A B : Type 0} (Q : B → Type 0) (f : A → Option B) (o : Option A) → ((x : A) → IfSome (f x) Q) → IfSome (o >>= f) Q
IfSome-after Q f None goes = tt
IfSome-after Q f (Some x) goes = goes x

-- a value under a test
pub IfSome-when : {A : Type 0} (P : A → Type 0) (x : A) (test : Bool) → (test ≡ true → P x) → IfSome (x when test) P
IfSome-when P x true is = is refl
IfSome-when P x false is = tt

-- a step under a test
pub IfSome-if : {A : Type 0} (P : A → Type 0) (o : Option A) (test : Bool) → (test ≡ true → IfSome o P) → IfSome (if test then o else None) P
IfSome-if P o true is = is refl
IfSome-if P o false is = tt

-- a value turned into another
pub IfSome-map : {A B : Type 0} (P : A → Type 0) (Q : B → Type 0) (f : A → B) (o : Option A) → IfSome o P → ((x : A) → P x → Q (f x)) → IfSome (option_map f o) Q
IfSome-map P Q f None is goes = tt
IfSome-map P Q f (Some x) is goes = goes x is

-- one value, and otherwise another
pub IfSome-or : {B : Type 0} (Q : B → Type 0) (f g : Option B) → IfSome f Q → IfSome g Q → IfSome (option_or f g) Q
IfSome-or Q None g is other = other
IfSome-or Q (Some x) g is other = is

-- a value that is known to be found
pub IfSome-of : {A : Type 0} (P : A → Type 0) (o : Option A) (x : A) → IfSome o P → o ≡ Some x → P x
IfSome-of P o x is found = let here : IfSome (Some x) P = rw found at is in here

-- one value for each of a list
pub IfSome-each : {A B : Type 0} (P : B → Type 0) (f : A → Option B) → ((x : A) → IfSome (f x) P) → (xs : List A) → IfSome (each f xs) (AllByRecursion P)
IfSome-each P f is [] = tt
IfSome-each P f is (x ∷ xs) =
    IfSome-bind P (AllByRecursion P) _ (f x) (is x) (λ y here.
    IfSome-bind (AllByRecursion P) (AllByRecursion P) _ (each f xs) (IfSome-each P f is xs) (λ ys there. (here, there)))

-- a count that is spelled is not above its limit
pub count_up_to-is : (most : ℕ) (text : List ℕ) → IfSome (count_up_to most text) (λ n. nat_le n most ≡ true)
unfolding count_up_to
count_up_to-is most text = IfSome-when (λ n. nat_le n most ≡ true) (digits_value 10 text) (is_count text && nat_le (digits_value 10 text) most) (λ is. (and_parts _ _ is).1)
