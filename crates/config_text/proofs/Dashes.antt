-- Where no dash stands no arrow begins.
use Rattle.std.proofs.Common.{◌≡◌, ℕ, Bool, false, cond, eqb, List, [], ◌∷◌, ◌++◌, drop, Option, Some, None, refl, ap, ◌∙◌}
use Rattle.std.proofs.lemmas.Bool.{or_parts}
use Rattle.std.specs.List.{list_any, starts_with}
use Rattle.std.specs.Option.{option_map}
use Rattle.config_text.specs.declared.arrows.Arrow.{Arrow}
use Rattle.config_text.specs.declared.arrows.Arrow.TheVariants.{FromSender, FromReceiver}
use Rattle.config_text.specs.Bytes.{arrow, back_arrow}
use Rattle.config_text.specs.Connections.{AtArrow, onto, split_at_arrow}
use Rattle.config_text.proofs.Firsts.{and_false}

abbrev pub is_dash : ℕ → Bool
is_dash b = eqb 45 b

abbrev pub is_less : ℕ → Bool
is_less b = eqb 60 b

neither : {X : Type 0} (a b c : X) (s t : Bool) → s ≡ false → t ≡ false → cond s a (cond t b c) ≡ c
neither a b c s t e f = rw (e, f) refl

abbrev cut : Arrow → List ℕ → Option AtArrow
cut which xs = Some (record { before = []; behind = drop 1 xs; arrow = which })

pub no_arrow : (xs : List ℕ) → list_any is_dash xs ≡ false → split_at_arrow xs ≡ None
no_arrow [] none = refl
no_arrow (x ∷ []) none = let parts = or_parts (is_dash x) false none in rw (parts.0, and_false (eqb 60 x)) refl
no_arrow (x ∷ y ∷ xs) none =
    let parts = or_parts (is_dash x) (list_any is_dash (y ∷ xs)) none in
    let next = or_parts (is_dash y) (list_any is_dash xs) parts.1 in
    let plain : starts_with eqb (x ∷ y ∷ xs) arrow ≡ false = rw parts.0 refl in
    let back : starts_with eqb (x ∷ y ∷ xs) back_arrow ≡ false = rw next.0 (and_false (eqb 60 x)) in
    neither (cut FromSender (y ∷ xs)) (cut FromReceiver (y ∷ xs)) (option_map (onto x) (split_at_arrow (y ∷ xs))) _ _ plain back
    ∙ ap (option_map (onto x)) (no_arrow (y ∷ xs) parts.1)

pub arrow_at : (xs ys : List ℕ) → list_any is_dash xs ≡ false → list_any is_less xs ≡ false
    → split_at_arrow (xs ++ 45 ∷ 62 ∷ ys) ≡ Some (record { before = xs; behind = ys; arrow = FromSender })
arrow_at [] ys dashless lessless = refl
arrow_at (x ∷ xs) ys dashless lessless =
    let a = or_parts (is_dash x) (list_any is_dash xs) dashless in
    let b = or_parts (is_less x) (list_any is_less xs) lessless in
    rw (a.0, b.0, arrow_at xs ys a.1 b.1) refl
