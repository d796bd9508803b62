-- What equations on `Some` tell.
use Rattle.std.proofs.Common.{◌≡◌, Some, None, is_some, ap, true≢false}
use Rattle.std.specs.Option.{unwrap_or}

pub some-same : {X : Type 0} (x y : X) → Some x ≡ Some y → x ≡ y
some-same x y same = ap (λ o. unwrap_or o x) same

pub some≢none : {X : Type 0} (x : X) → Some x ≡ None → ⊥
some≢none x same = true≢false (ap is_some same)
