-- What is handed on of a result by a `?`, or by a last call.
use Rattle.std.specs.Prelude.{Result, Ok, Err, IfOk, IfErr, IsErrAnd}

pub IfErr-and : {A E : Type 0} (Q P : E → Type 0) (r : Result A E) → IsErrAnd r Q → ((e : E) → Q e → P e) → IfErr r P
IfErr-and Q P (Ok x) is each = tt
IfErr-and Q P (Err e) is each = each e is

pub IfErr-weaker : {A E : Type 0} (Q P : E → Type 0) (r : Result A E) → IfErr r Q → ((e : E) → Q e → P e) → IfErr r P
IfErr-weaker Q P (Ok x) is each = tt
IfErr-weaker Q P (Err e) is each = each e is

pub IfOk-weaker : {A E : Type 0} (Q P : A → Type 0) (r : Result A E) → IfOk r Q → ((x : A) → Q x → P x) → IfOk r P
IfOk-weaker Q P (Ok x) is each = each x is
IfOk-weaker Q P (Err e) is each = tt
