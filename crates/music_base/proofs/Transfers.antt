-- One transfer of bytes after another.
use Rattle.std.proofs.Common.{◌≡◌, ℕ, ◌+◌, ◌-◌, ◌≤◌, List, ◌++◌, length, take, drop, None, Some, sym, ap, ◌∙◌, append_assoc, append-nil, refl, min, arith}
use Rattle.std.proofs.lemmas.List.{take-take, length-take, take-append-le, take_min}
use Rattle.std.proofs.Math.Seq.{take-add, take-append-add, take-length}
use Rattle.std.specs.Prelude.{Option, option_map}
use Rattle.music_base.specs.Outside.{Gave, Took, TookPrefix}

-- what a source gave in two calls
pub Gave-append : (before between after : Option (List ℕ)) (xs ys : List ℕ) → Gave before xs between → Gave between ys after → Gave before (xs ++ ys) after
Gave-append before between None xs ys first second = first ∙ ap (option_map (λ left. xs ++ left)) second
Gave-append before between (Some left) xs ys first second = first ∙ ap (option_map (λ left. xs ++ left)) second ∙ ap (λ l. Some l) (sym (append_assoc xs ys left))

-- what a sink took in two calls
pub Took-append : (before between after : Option (List ℕ)) (xs ys : List ℕ) → Took before xs between → Took between ys after → Took before (xs ++ ys) after
Took-append None between after xs ys first second = rw first at second
Took-append (Some taken) between after xs ys first second = (rw first at second) ∙ ap (λ l. Some l) (append_assoc taken xs ys)

-- the prefix that is done and a prefix of the rest are a longer prefix
pub take-append-take_drop : (bytes : List ℕ) (done n : ℕ) → done ≤ length bytes → n ≤ length (take (length bytes - done) (drop done bytes))
    → take done bytes ++ take n (take (length bytes - done) (drop done bytes)) ≡ take (done + n) bytes
take-append-take_drop bytes done n within le =
    let short : n ≤ length bytes - done = omega (arith, length-take {A = ℕ}) in
    ap (λ l. take done bytes ++ l) (take-take n (length bytes - done) (drop done bytes) short) ∙ sym (take-add done n bytes)

-- a prefix of the first part is a prefix of the whole
pub TookPrefix-front : (before after : Option (List ℕ)) (xs ys : List ℕ) → TookPrefix before xs after → TookPrefix before (xs ++ ys) after
TookPrefix-front before after xs ys prefix =
    let short : min prefix.0 (length xs) ≤ length xs = omega arith in
    let same : take (min prefix.0 (length xs)) (xs ++ ys) ≡ take prefix.0 xs = take-append-le (min prefix.0 (length xs)) xs ys short ∙ take_min prefix.0 xs in
    (min prefix.0 (length xs), rw same prefix.1)

-- the first part and a prefix of the second are a prefix of the whole
pub TookPrefix-behind : (before between after : Option (List ℕ)) (xs ys : List ℕ) → Took before xs between → TookPrefix between ys after → TookPrefix before (xs ++ ys) after
TookPrefix-behind before between after xs ys took prefix =
    (length xs + prefix.0, rw (take-append-add xs ys prefix.0) (Took-append before between after xs (take prefix.0 ys) took prefix.1))

-- the whole is a prefix of itself
pub TookPrefix-whole : (before after : Option (List ℕ)) (xs : List ℕ) → Took before xs after → TookPrefix before xs after
TookPrefix-whole before after xs took = (length xs, rw (take-length xs) took)

-- nothing is a prefix
pub TookPrefix-nothing : (before : Option (List ℕ)) (xs : List ℕ) → TookPrefix before xs before
TookPrefix-nothing None xs = (0, refl)
TookPrefix-nothing (Some taken) xs = (0, ap (λ l. Some l) (sym (append-nil taken)))
