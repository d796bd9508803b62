-- The waits of a scene, connection by connection.
use Rattle.std.proofs.Common.{◌≡◌, ℕ, zero, suc, ◌+◌, ◌<◌, ◌≤◌, sym, subst, refl, arith, List, [], ◌∷◌, length, map, Option, None, Some, ℤ}
use Rattle.std.specs.Prelude.{All, Contains, slice_index, slice_index_or}
use Rattle.std.specs.List.{flat_map, range_with_len}
use Rattle.std.proofs.lemmas.List.{get_or-map}
use Rattle.std.proofs.lemmas.List.Elements.{All-nil, All-cons, All-append, All-contains, All-get_or, Contains-append_left, Contains-append_right}
use Rattle.scene_model.specs.declared.scene.Scene.{Scene}
use Rattle.scene_model.specs.declared.wait.Wait.{Wait}
use Rattle.scene_model.specs.Cover.{Passes}
use Rattle.scene_model.specs.Waits.{Limits, waits, waits_of, block_wait, room_wait, Fits}

-- ---- lists made of a piece for each number

Contains-pieces : {X : Type 0} (f : ℕ → List X) (a n i : ℕ) (x : X) → i < n → Contains (f (a + i)) x → Contains (flat_map f (range_with_len a n)) x
Contains-pieces f a zero i x lt has = absurd (omega arith)
Contains-pieces f a (suc n) zero x lt has = let e : a + 0 ≡ a = omega arith in Contains-append_left (f a) (flat_map f (range_with_len (a + 1) n)) x (subst (λ k. Contains (f k) x) e has)
Contains-pieces f a (suc n) (suc i) x lt has =
    let e : a + suc i ≡ a + 1 + i = omega arith in
    Contains-append_right (f a) (flat_map f (range_with_len (a + 1) n)) x (Contains-pieces f (a + 1) n i x (omega arith) (subst (λ k. Contains (f k) x) e has))

All-pieces : {X : Type 0} (P : X → Type 0) (f : ℕ → List X) (a n : ℕ) → ((k : ℕ) → a ≤ k → k < a + n → All P (f k)) → All P (flat_map f (range_with_len a n))
All-pieces P f a zero each = All-nil P
All-pieces P f a (suc n) each =
    All-append P (f a) (flat_map f (range_with_len (a + 1) n)) (each a (omega arith) (omega arith)) (All-pieces P f (a + 1) n (λ k low high. each k (omega arith) (omega arith)))

-- ---- the waits of one connection are among all

abbrev pub limit_of : Limits → ℕ → Option ℕ
limit_of limits c = slice_index_or limits c None

pub Contains-waits : (scene : Scene) (limits : Limits) (c : ℕ) (w : Wait) → c < length scene.links → Contains (waits_of scene c (limit_of limits c)) w → Contains (waits scene limits) w
Contains-waits scene limits c w link has =
    let e : c ≡ 0 + c = omega arith in
    Contains-pieces (λ d. waits_of scene d (limit_of limits d)) 0 (length scene.links) c w link (subst (λ d. Contains (waits_of scene d (limit_of limits d)) w) e has)

-- what holds of the waits of each connection holds of all
pub All-waits : (P : Wait → Type 0) (scene : Scene) (limits : Limits) → ((c : ℕ) → c < length scene.links → All P (waits_of scene c (limit_of limits c))) → All P (waits scene limits)
All-waits P scene limits each = All-pieces P (λ d. waits_of scene d (limit_of limits d)) 0 (length scene.links) (λ c low high. each c (omega arith))

All-one : {X : Type 0} (P : X → Type 0) (x : X) → P x → All P (x ∷ [])
All-one P x p = All-cons P x [] p (All-nil P)

pub All-waits_of : (P : Wait → Type 0) (scene : Scene) (c : ℕ) (limit : Option ℕ) → P (block_wait scene c) → ((m : ℕ) → limit ≡ Some m → P (room_wait scene c m)) → All P (waits_of scene c limit)
All-waits_of P scene c None block room = All-one P (block_wait scene c) block
All-waits_of P scene c (Some m) block room = All-cons P (block_wait scene c) (room_wait scene c m ∷ []) block (All-one P (room_wait scene c m) (room m refl))

Contains-block : (scene : Scene) (c : ℕ) (limit : Option ℕ) → Contains (waits_of scene c limit) (block_wait scene c)
Contains-block scene c None = (0, omega arith, refl)
Contains-block scene c (Some m) = (0, omega arith, refl)

pub block_among : (scene : Scene) (limits : Limits) (c : ℕ) → c < length scene.links → Contains (waits scene limits) (block_wait scene c)
block_among scene limits c link = Contains-waits scene limits c (block_wait scene c) link (Contains-block scene c (limit_of limits c))

pub room_among : (scene : Scene) (limits : Limits) (c m : ℕ) → c < length scene.links → limit_of limits c ≡ Some m → Contains (waits scene limits) (room_wait scene c m)
room_among scene limits c m link is =
    let there : Contains (waits_of scene c (Some m)) (room_wait scene c m) = (1, omega arith, refl) in
    Contains-waits scene limits c (room_wait scene c m) link (subst (λ limit. Contains (waits_of scene c limit) (room_wait scene c m)) (sym is) there)

-- ---- waits that pass

-- each connection has room for a block, and both of its waits pass
pub record EachPasses (scene : Scene) (limits : List ℕ) (potentials : List ℤ) : Type 0 where
  pub some : (c : ℕ) → c < length scene.links → 1 ≤ slice_index limits c
  pub block : (c : ℕ) → c < length scene.links → Passes (length scene.apps) potentials (block_wait scene c)
  pub room : (c : ℕ) → c < length scene.links → Passes (length scene.apps) potentials (room_wait scene c (slice_index limits c))

pub each_passes : (scene : Scene) (limits : List ℕ) (potentials : List ℤ) → length limits ≡ length scene.links → ((c : ℕ) → c < length scene.links → 1 ≤ slice_index limits c)
    → All (Passes (length scene.apps) potentials) (waits scene (map (λ m. Some m) limits)) → EachPasses scene limits potentials
each_passes scene limits potentials counted some passed = record {
  some = some;
  block = λ c link. All-contains P all (block_wait scene c) passed (block_among scene (map (λ m. Some m) limits) c link);
  room = λ c link. All-contains P all (room_wait scene c (slice_index limits c)) passed (room_among scene (map (λ m. Some m) limits) c (slice_index limits c) link (at c link));
}
  where
    P : Wait → Type 0
    P = Passes (length scene.apps) potentials

    all : List Wait
    all = waits scene (map (λ m. Some m) limits)

    at : (c : ℕ) → c < length scene.links → limit_of (map (λ m. Some m) limits) c ≡ Some (slice_index limits c)
    at c link = get_or-map (λ m. Some m) limits c 0 None (omega arith)

pub fits_each_passes : (scene : Scene) (limits : List ℕ) (potentials : List ℤ) → Fits scene limits potentials → EachPasses scene limits potentials
fits_each_passes scene limits potentials fits = each_passes scene limits potentials fits.limits_counted (λ c link. All-get_or (λ m. 1 ≤ m) limits c 0 (omega (arith, fits.limits_counted)) fits.limits_from) fits.passed
