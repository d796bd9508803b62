-- Blocks in the order of their numbers.
use Rattle.std.proofs.Common.{ℕ, zero, suc, ◌+◌, ◌<◌, ◌≤◌, ◌≡◌, ◌⊎◌, inl, inr, refl, ◌∙◌, ap, subst, arith, List, [], ◌∷◌, ◌++◌, Bool, true, false, cond}
use Rattle.std.specs.Prelude.{◌==◌}
use Rattle.std.specs.List.{filter, flat_map, list_any, range_with_len}
use Rattle.std.proofs.lemmas.Bool.{cases_Bool, cases_eq, eq-eqb, eqb-true, ne_eqb}
use Rattle.music_base.proofs.Lists.{flat_map-agree_within}
use Rattle.music_base.specs.declared.item.Block.{Block}
use Rattle.music_base.specs.declared.item.Item.{Item}
use Rattle.port_inbox.specs.Due.{IsNumbered, items_numbered, left_in}

-- ---- what keeps the order

-- one more at the end
pub numbered_push : (blocks : List Block) (block : Block) (a n : ℕ) → a ≤ n → block.number ≡ n → IsNumbered a n blocks → IsNumbered a (n + 1) (blocks ++ block ∷ [])
numbered_push [] block a n le e h = (omega arith, omega arith, tt)
numbered_push (x ∷ blocks) block a n le e h = (h.0, omega (arith, h.1), numbered_push blocks block (suc x.number) n (omega (arith, h.1)) e h.2)

numbered_from : (blocks : List Block) (a d n : ℕ) → d ≤ a → IsNumbered a n blocks → IsNumbered d n blocks
numbered_from [] a d n le h = tt
numbered_from (x ∷ blocks) a d n le h = (omega (arith, h.0), h.1, h.2)

-- below a greater number
pub numbered_up : (blocks : List Block) (a n m : ℕ) → n ≤ m → IsNumbered a n blocks → IsNumbered a m blocks
numbered_up [] a n m le h = tt
numbered_up (x ∷ blocks) a n m le h = (h.0, omega (arith, h.1), numbered_up blocks (suc x.number) n m le h.2)

-- some left out
pub numbered_filter : (p : Block → Bool) (blocks : List Block) (a n : ℕ) → IsNumbered a n blocks → IsNumbered a n (filter p blocks)
numbered_filter p [] a n h = tt
numbered_filter p (x ∷ blocks) a n h = elim (cases_Bool (p x)) [
  | inl stays ↦ rw stays (h.0, h.1, numbered_filter p blocks (suc x.number) n h.2)
  | inr goes ↦ rw goes (numbered_from (filter p blocks) (suc x.number) a n (omega (arith, h.0)) (numbered_filter p blocks (suc x.number) n h.2))
]

-- ---- the block of a number

-- none has a number before the first
pub none_numbered : (blocks : List Block) (a n k : ℕ) → k < a → IsNumbered a n blocks → items_numbered blocks k ≡ []
none_numbered [] a n k lt h = refl
none_numbered (block ∷ blocks) a n k lt h =
    let other : (block.number == k) ≡ false = ne_eqb block.number k (λ e. omega (arith, h.0)) in
    rw other (none_numbered blocks (suc block.number) n k (omega (arith, h.0)) h.2)

-- after one more at the end
pub last_numbered : (blocks : List Block) (block : Block) (a n k : ℕ) → block.number ≡ n → IsNumbered a n blocks → items_numbered (blocks ++ block ∷ []) k ≡ (cond (n == k) block.items (items_numbered blocks k))
last_numbered [] block a n k e h = rw e refl
last_numbered (x ∷ blocks) block a n k e h = elim (cases_eq x.number k) [
  | inl same ↦
      let here : (x.number == k) ≡ true = eq-eqb x.number k same in
      let other : (n == k) ≡ false = ne_eqb n k (λ q. omega (arith, h.1)) in
      rw (here, other) refl
  | inr differ ↦ let other : (x.number == k) ≡ false = ne_eqb x.number k differ in rw other (last_numbered blocks block (suc x.number) n k e h.2)
]

-- block by block is number by number
pub numbered_flat : {Y : Type 0} (F : List Item → List Y) → F [] ≡ [] → (n a : ℕ) (blocks : List Block) → IsNumbered a (a + n) blocks
    → flat_map (λ k. F (items_numbered blocks k)) (range_with_len a n) ≡ flat_map (λ (block : Block). F block.items) blocks
numbered_flat F none zero a [] h = refl
numbered_flat F none zero a (b ∷ blocks) h = absurd (omega (arith, h.0, h.1))
numbered_flat F none (suc n) a [] h = nothing (range_with_len a (suc n))
  where
    nothing : (ks : List ℕ) → flat_map (λ k. F []) ks ≡ []
    nothing [] = refl
    nothing (k ∷ ks) = rw none (nothing ks)
numbered_flat F none (suc n) a (b ∷ blocks) h = go (cases_eq b.number a) (numbered_flat F none n (a + 1) blocks) (numbered_flat F none n (a + 1) (b ∷ blocks))
  where
    span : a + suc n ≡ a + 1 + n
    span = omega arith

    go : (b.number ≡ a) ⊎ (b.number ≡ a → ⊥)
        → (IsNumbered (a + 1) (a + 1 + n) blocks → flat_map (λ k. F (items_numbered blocks k)) (range_with_len (a + 1) n) ≡ flat_map (λ (x : Block). F x.items) blocks)
        → (IsNumbered (a + 1) (a + 1 + n) (b ∷ blocks) → flat_map (λ k. F (items_numbered (b ∷ blocks) k)) (range_with_len (a + 1) n) ≡ flat_map (λ (x : Block). F x.items) (b ∷ blocks))
        → F (items_numbered (b ∷ blocks) a) ++ flat_map (λ k. F (items_numbered (b ∷ blocks) k)) (range_with_len (a + 1) n) ≡ F b.items ++ flat_map (λ (x : Block). F x.items) blocks
    go (inl e) rest all =
        let here : (b.number == a) ≡ true = eq-eqb b.number a e in
        let one : suc b.number ≡ a + 1 = omega arith in
        let numbered : IsNumbered (a + 1) (a + 1 + n) blocks = subst (λ y. IsNumbered (a + 1) y blocks) span (subst (λ x. IsNumbered x (a + suc n) blocks) one h.2) in
        let others : flat_map (λ k. F (items_numbered (b ∷ blocks) k)) (range_with_len (a + 1) n) ≡ flat_map (λ k. F (items_numbered blocks k)) (range_with_len (a + 1) n) =
        flat_map-agree_within (λ k. F (items_numbered (b ∷ blocks) k)) (λ k. F (items_numbered blocks k)) (a + 1) n
        (λ k low high. let other : (b.number == k) ≡ false = ne_eqb b.number k (λ f. omega (arith, low)) in rw other refl) in
        rw here (ap (λ ys. F b.items ++ ys) (others ∙ rest numbered))
    go (inr differ) rest all =
        let off : (b.number == a) ≡ false = ne_eqb b.number a differ in
        let empty : items_numbered blocks a ≡ [] = none_numbered blocks (suc b.number) (a + suc n) a (omega (arith, h.0)) h.2 in
        let numbered : IsNumbered (a + 1) (a + 1 + n) (b ∷ blocks) = subst (λ y. IsNumbered (a + 1) y (b ∷ blocks)) span (omega (arith, h.0), h.1, h.2) in
        let here : F (items_numbered (b ∷ blocks) a) ≡ [] = rw (off, empty) none in
        rw here (all numbered)

-- ---- what is left of blocks

none_left : (test : Item → Bool) (items : List Item) → list_any test items ≡ false → filter test items ≡ []
none_left test [] h = refl
none_left test (x ∷ items) h = elim (cases_Bool (test x)) [
  | inl passes ↦ let bad : true ≡ false = rw passes at h in absurd cc
  | inr fails ↦ let rest : list_any test items ≡ false = rw fails at h in rw fails (none_left test items rest)
]

-- of the block of a number it is what of its items passes
pub left_is : (test : Item → Bool) (blocks : List Block) (a n k : ℕ) → IsNumbered a n blocks → items_numbered (left_in test blocks) k ≡ filter test (items_numbered blocks k)
left_is test [] a n k h = refl
left_is test (b ∷ blocks) a n k h = elim (cases_Bool (list_any test b.items)) [
  | inl some ↦ elim (cases_Bool (b.number == k)) [
    | inl here ↦ rw (some, here) refl
    | inr other ↦ rw (some, other) (left_is test blocks (suc b.number) n k h.2)
  ]
  | inr none ↦ elim (cases_Bool (b.number == k)) [
    | inl here ↦
        let e : b.number ≡ k = eqb-true b.number k here in
        let past : items_numbered blocks k ≡ [] = none_numbered blocks (suc b.number) n k (omega (arith, e)) h.2 in
        rw (none, here, left_is test blocks (suc b.number) n k h.2, past, none_left test b.items none) refl
    | inr other ↦ rw (none, other) (left_is test blocks (suc b.number) n k h.2)
  ]
]

-- dropping the blocks of which nothing passes leaves of each number what passes
pub dropped_is : (test : Item → Bool) (blocks : List Block) (a n k : ℕ) → IsNumbered a n blocks
    → filter test (items_numbered (filter (λ (block : Block). list_any test block.items) blocks) k) ≡ filter test (items_numbered blocks k)
dropped_is test [] a n k h = refl
dropped_is test (b ∷ blocks) a n k h = elim (cases_Bool (list_any test b.items)) [
  | inl some ↦ elim (cases_Bool (b.number == k)) [
    | inl here ↦ rw (some, here) refl
    | inr other ↦ rw (some, other) (dropped_is test blocks (suc b.number) n k h.2)
  ]
  | inr none ↦ elim (cases_Bool (b.number == k)) [
    | inl here ↦
        let e : b.number ≡ k = eqb-true b.number k here in
        let past : items_numbered blocks k ≡ [] = none_numbered blocks (suc b.number) n k (omega (arith, e)) h.2 in
        rw (none, here, dropped_is test blocks (suc b.number) n k h.2, past, none_left test b.items none) refl
    | inr other ↦ rw (none, other) (dropped_is test blocks (suc b.number) n k h.2)
  ]
]
