-- Intervals in the order of their first indices, joined where they touch.
use Rattle.std.proofs.Common.{◌≡◌, ℕ, suc, ◌+◌, ◌<◌, ◌≤◌, Bool, true, false, List, [], ◌∷◌, ◌++◌, length, drop, get_or, refl, ap, ◌∙◌, inl, inr, arith, append_assoc, max}
use Rattle.std.specs.Prelude.{⊤, nat_le, nat_lt, ◌&&◌, ◌||◌, if◌then◌else◌}
use Rattle.std.specs.List.{list_any, list_all}
use Rattle.std.specs.List.Sorted.{IsNonDecreasingBy}
use Rattle.std.proofs.lemmas.Bool.{cases_lt, and_parts, lt-ltb, lt-leb, le-leb, ltb-true}
use Rattle.std.proofs.lemmas.Bool.Decides.{nat_tests}
use Rattle.std.proofs.lemmas.List.{drop_all, drop_more}
use Rattle.index_maps.specs.Intervals.{holds, is_some_interval, begins_above, are_apart}
use Rattle.index_maps.specs.declared.interval.Interval.{Interval}

-- none is empty, and they begin in this order, the first not below an index
abbrev pub AreInOrder : ℕ → List Interval → Type 0
AreInOrder low [] = ⊤
AreInOrder low (span ∷ spans) = (low ≤ span.first) × (span.first < span.after) × AreInOrder span.first spans

in_order_from : (low : ℕ) (spans : List Interval) → list_all is_some_interval spans ≡ true → IsNonDecreasingBy (λ (span : Interval). span.first) spans
    → ((d : Interval) → 0 < length spans → low ≤ (get_or spans 0 d).first) → AreInOrder low spans
in_order_from low [] some ascend from = tt
in_order_from low (span ∷ spans) some ascend from =
    let parts = and_parts (is_some_interval span) (list_all is_some_interval spans) some in (
      from span (omega arith),
      ltb-true span.first span.after parts.0,
      in_order_from span.first spans parts.1
          (λ i j d le lt. ascend (suc i) (suc j) d (omega arith) (omega arith))
          (λ d lt. ascend 0 1 d (omega arith) (omega arith)),
    )

pub are_in_order : (spans : List Interval) → list_all is_some_interval spans ≡ true → IsNonDecreasingBy (λ (span : Interval). span.first) spans → AreInOrder 0 spans
are_in_order spans some ascend = in_order_from 0 spans some ascend (λ d lt. omega arith)

in_order_lower : (low lower : ℕ) (spans : List Interval) → lower ≤ low → AreInOrder low spans → AreInOrder lower spans
in_order_lower low lower [] le ordered = tt
in_order_lower low lower (span ∷ spans) le ordered = let from : low ≤ span.first = ordered.0 in (omega arith, ordered.1, ordered.2)

-- ---- joined

-- the growing interval with one that touches it
abbrev pub longer : Interval → Interval → Interval
longer growing span = record { first = growing.first; after = max growing.after span.after }

-- the growing interval, which the next ones extend where they touch it
abbrev pub join : Interval → List Interval → List Interval
join growing [] = growing ∷ []
join growing (span ∷ spans) = if nat_le span.first growing.after then join (longer growing span) spans else (growing ∷ join span spans)

holds-longer : (g first after a b : ℕ) → first ≤ a → a ≤ after → (nat_le first g && nat_lt g (max after b)) ≡ ((nat_le first g && nat_lt g after) || (nat_le a g && nat_lt g b))
holds-longer g first after a b low touch = elim (cases_lt b after) [
  | inl lt ↦ let e : max after b ≡ after = omega arith in rw e (grind (arith, nat_tests))
  | inr ge ↦ let e : max after b ≡ b = omega arith in rw e (grind (arith, nat_tests))
]

or_assoc : (a b c : Bool) → ((a || b) || c) ≡ (a || (b || c))
or_assoc true b c = refl
or_assoc false b c = refl

pub holds-join : (g : ℕ) (growing : Interval) (spans : List Interval) → AreInOrder growing.first spans → list_any (holds g) (join growing spans) ≡ list_any (holds g) (growing ∷ spans)
holds-join g growing [] ordered = refl
holds-join g growing (span ∷ spans) ordered = elim (cases_lt growing.after span.first) [
  | inl apart ↦ rw (lt-leb span.first growing.after apart) (ap (λ (b : Bool). holds g growing || b) (holds-join g span spans ordered.2))
  | inr touch ↦
      let from : growing.first ≤ span.first = ordered.0 in
      let rest : Bool = list_any (holds g) spans in
      rw (le-leb span.first growing.after touch)
      (holds-join g (longer growing span) spans (in_order_lower span.first growing.first spans from ordered.2)
      ∙ (ap (λ (b : Bool). b || rest) (holds-longer g growing.first growing.after span.first span.after from touch) ∙ or_assoc (holds g growing) (holds g span) rest))
]

begins_above-join : (g : ℕ) (growing : Interval) (spans : List Interval) → begins_above g (join growing spans) ≡ nat_lt g growing.first
begins_above-join g growing [] = refl
begins_above-join g growing (span ∷ spans) = elim (cases_lt growing.after span.first) [
  | inl apart ↦ rw (lt-leb span.first growing.after apart) refl
  | inr touch ↦ rw (le-leb span.first growing.after touch) (begins_above-join g (longer growing span) spans)
]

pub are_apart-join : (growing : Interval) (spans : List Interval) → growing.first < growing.after → AreInOrder growing.first spans → are_apart (join growing spans) ≡ true
are_apart-join growing [] some ordered = rw (lt-ltb growing.first growing.after some) refl
are_apart-join growing (span ∷ spans) some ordered = elim (cases_lt growing.after span.first) [
  | inl apart ↦
      rw (lt-leb span.first growing.after apart, lt-ltb growing.first growing.after some, begins_above-join growing.after span spans, lt-ltb growing.after span.first apart)
      (are_apart-join span spans ordered.1 ordered.2)
  | inr touch ↦
      let from : growing.first ≤ span.first = ordered.0 in
      let more : growing.first < max growing.after span.after = omega arith in
      rw (le-leb span.first growing.after touch) (are_apart-join (longer growing span) spans more (in_order_lower span.first growing.first spans from ordered.2))
]

-- ---- in steps

-- the interval at place i touches the growing one
pub join_extends : (done : List Interval) (growing : Interval) (i : ℕ) (others all : List Interval) (d : Interval) → i < length others → (get_or others i d).first ≤ growing.after
    → done ++ join growing (drop i others) ≡ all → done ++ join (longer growing (get_or others i d)) (drop (i + 1) others) ≡ all
join_extends done growing i others all d lt touch so_far = rw (drop_more others i d lt, le-leb (get_or others i d).first growing.after touch) at so_far

-- or it does not
pub join_starts : (done : List Interval) (growing : Interval) (i : ℕ) (others all : List Interval) (d : Interval) → i < length others → growing.after < (get_or others i d).first
    → done ++ join growing (drop i others) ≡ all → (done ++ growing ∷ []) ++ join (get_or others i d) (drop (i + 1) others) ≡ all
join_starts done growing i others all d lt apart so_far =
    append_assoc done (growing ∷ []) (join (get_or others i d) (drop (i + 1) others))
    ∙ (rw (drop_more others i d lt, lt-leb (get_or others i d).first growing.after apart) at so_far)

-- ---- at the end

pub joined_is : (done : List Interval) (growing : Interval) (i : ℕ) (others all : List Interval) → length others ≤ i → done ++ join growing (drop i others) ≡ all → done ++ growing ∷ [] ≡ all
joined_is done growing i others all ge is = rw (drop_all i others ge) at is
