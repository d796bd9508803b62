-- What holds of a result that is found in steps.
use Rattle.std.proofs.Common.{◌≡◌, refl}
use Rattle.std.specs.Prelude.{Option, Some, None, IfSome, Result, Ok, Err, IfOk}
use Rattle.text_words.specs.InTurn.{◌>>=◌, some_or, faults_as}

-- a step and what goes on from it
pub IfOk-bind : {A B E : Type 0} (P : A → Type 0) (Q : B → Type 0) (f : A → Result B E) (r : Result A E) → IfOk r P → ((x : A) → P x → IfOk (f x) Q) → IfOk (r >>= f) Q
IfOk-bind P Q f (Err e) is goes = tt
IfOk-bind P Q f (Ok x) is goes = goes x is

-- the same where the step is known to give what it gives
pub IfOk-given : {A B E : Type 0} (Q : B → Type 0) (f : A → Result B E) (r : Result A E) → ((x : A) → r ≡ Ok x → IfOk (f x) Q) → IfOk (r >>= f) Q
IfOk-given Q f (Err e) goes = tt
IfOk-given Q f (Ok x) goes = goes x refl

-- a value, or a fault where there is none
pub IfOk-some_or : {A E : Type 0} (P : A → Type 0) (o : Option A) (e : E) → IfSome o P → IfOk (some_or o e) P
IfOk-some_or P None e is = tt
IfOk-some_or P (Some x) e is = is

-- a fault that is turned into another
pub IfOk-faults_as : {A E F : Type 0} (P : A → Type 0) (f : E → F) (r : Result A E) → IfOk r P → IfOk (faults_as f r) P
IfOk-faults_as P f (Ok x) is = is
IfOk-faults_as P f (Err e) is = tt

-- a result that is known to be found
pub IfOk-of : {A E : Type 0} (P : A → Type 0) (r : Result A E) (x : A) → IfOk r P → r ≡ Ok x → P x
IfOk-of {E = E} P r x is found = let here : IfOk {E = E} (Ok x) P = rw found at is in here

pub Ok-faults_as : {A E F : Type 0} (f : E → F) (r : Result A E) (x : A) → faults_as f r ≡ Ok x → r ≡ Ok x
Ok-faults_as f (Ok y) x found = cc
Ok-faults_as f (Err e) x found = absurd cc

-- what holds of whatever is found
pub IfOk-from : {A E : Type 0} (P : A → Type 0) (r : Result A E) → ((x : A) → r ≡ Ok x → P x) → IfOk r P
IfOk-from P (Ok x) is = is x refl
IfOk-from P (Err e) is = tt
