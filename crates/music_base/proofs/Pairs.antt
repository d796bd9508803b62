-- What holds of two lists side by side, place by place.
use Rattle.std.proofs.Common.{ℕ, zero, suc, ◌<◌, ◌≡◌, ◌⊎◌, inl, inr, refl, sym, ◌∙◌, ap, arith, List, [], ◌∷◌, map, length, get_or-set_same, get_or-set_other, slice_set}
use Rattle.std.specs.Prelude.{slice_index_or}
use Rattle.std.specs.List.{AllByRecursion}
use Rattle.std.proofs.lemmas.Bool.{cases_eq}
use Rattle.std.proofs.Math.ListN.{length-set}
use Rattle.music_base.specs.Pairs.{AllPaired}

pub paired_length : {X Y : Type 0} (P : X → Y → Type 0) (xs : List X) (ys : List Y) → AllPaired P xs ys → length xs ≡ length ys
paired_length P [] [] h = refl
paired_length P [] (y ∷ ys) h = absurd h
paired_length P (x ∷ xs) [] h = absurd h
paired_length P (x ∷ xs) (y ∷ ys) h = ap suc (paired_length P xs ys h.1)

pub paired_at : {X Y : Type 0} (P : X → Y → Type 0) (xs : List X) (ys : List Y) (dx : X) (dy : Y) → AllPaired P xs ys → (i : ℕ) → i < length xs → P (slice_index_or xs i dx) (slice_index_or ys i dy)
paired_at P [] ys dx dy h i small = absurd (omega arith)
paired_at P (x ∷ xs) [] dx dy h i small = absurd h
paired_at P (x ∷ xs) (y ∷ ys) dx dy h zero small = h.0
paired_at P (x ∷ xs) (y ∷ ys) dx dy h (suc i) small = paired_at P xs ys dx dy h.1 i (omega arith)

pub paired_from : {X Y : Type 0} (P : X → Y → Type 0) (xs : List X) (ys : List Y) (dx : X) (dy : Y) → length xs ≡ length ys → ((i : ℕ) → i < length xs → P (slice_index_or xs i dx) (slice_index_or ys i dy)) → AllPaired P xs ys
paired_from P [] [] dx dy e h = tt
paired_from P [] (y ∷ ys) dx dy e h = absurd (omega arith)
paired_from P (x ∷ xs) [] dx dy e h = absurd (omega arith)
paired_from P (x ∷ xs) (y ∷ ys) dx dy e h = (h zero (omega arith), paired_from P xs ys dx dy (omega arith) (λ i small. h (suc i) (omega arith)))

-- a function of each element of the second list that keeps P
pub paired_map : {X Y : Type 0} (P : X → Y → Type 0) (f : Y → Y) (xs : List X) (ys : List Y) → ((x : X) (y : Y) → P x y → P x (f y)) → AllPaired P xs ys → AllPaired P xs (map f ys)
paired_map P f [] [] keeps h = tt
paired_map P f [] (y ∷ ys) keeps h = absurd h
paired_map P f (x ∷ xs) [] keeps h = absurd h
paired_map P f (x ∷ xs) (y ∷ ys) keeps h = (keeps x y h.0, paired_map P f xs ys keeps h.1)

-- one element of the second list is written over
pub paired_set : {X Y : Type 0} (P : X → Y → Type 0) (xs : List X) (ys : List Y) (i : ℕ) (dx : X) (y : Y) → AllPaired P xs ys → (i < length xs → P (slice_index_or xs i dx) y) → AllPaired P xs (slice_set ys i y)
paired_set P xs ys i dx y h here =
    paired_from P xs (slice_set ys i y) dx y (paired_length P xs ys h ∙ sym (length-set ys i y)) (λ k small. go k small (cases_eq k i))
  where
    go : (k : ℕ) → k < length xs → (k ≡ i) ⊎ (k ≡ i → ⊥) → P (slice_index_or xs k dx) (slice_index_or (slice_set ys i y) k y)
    go k small (inl e) =
        let there : i < length ys = omega (arith, paired_length P xs ys h) in
        let at : P (slice_index_or xs i dx) y = here (omega arith) in
        rw (e, get_or-set_same ys i y y there) at
    go k small (inr ne) = rw (get_or-set_other ys i k y y ne) (paired_at P xs ys dx y h k small)

-- one element of a list is written over
pub all_set : {X : Type 0} (P : X → Type 0) (xs : List X) (i : ℕ) (x : X) → P x → AllByRecursion P xs → AllByRecursion P (slice_set xs i x)
all_set P [] i x is h = tt
all_set P (y ∷ xs) zero x is h = (is, h.1)
all_set P (y ∷ xs) (suc i) x is h = (h.0, all_set P xs i x is h.1)
