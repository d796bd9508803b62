-- An accepted scene has limits, and with them every cycle is covered.
use Rattle.std.proofs.Common.{◌≡◌, ℕ, zero, suc, ◌+◌, ◌*◌, ◌<◌, ◌≤◌, refl, sym, ◌∙◌, ap, subst, ◌⊎◌, inl, inr, arith, List, [], ◌∷◌, ◌++◌, length, take, drop, map, get_or, Option, None, Some, ℤ, pos, negsuc, ◌+ℤ◌, ◌-ℤ◌, ◌*ℤ◌, append_assoc, length-append}
use Rattle.std.specs.Prelude.{All, slice_index, ◌≤ℤ◌, unsigned_abs}
use Rattle.std.proofs.lemmas.Bool.{cases_eq, cases_lt}
use Rattle.std.proofs.lemmas.Int.{ints}
use Rattle.std.proofs.lemmas.List.{take-append-le, take_all, get_or_append_left, length-map, map-append, append-nil, drop_all}
use Rattle.std.proofs.lemmas.List.FromFn.{length-map-range_with_len, get_or-map-range_with_len}
use Rattle.std.proofs.lemmas.List.Elements.{All-contains}
use Rattle.std.proofs.Math.Seq.{drop-cons}
use Rattle.std.proofs.Math.Nat.{mul-le-mul_left, mul-le-mul_right}
use Rattle.scene_model.specs.declared.scene.Scene.{Scene}
use Rattle.scene_model.specs.declared.wait.Wait.{Wait}
use Rattle.scene_model.specs.Clocks.{tick}
use Rattle.scene_model.specs.Scenes.{sender, receiver}
use Rattle.scene_model.specs.Cover.{AllCovered, HasUncovered, potential, Passes}
use Rattle.scene_model.specs.Waits.{Limits, waits, block_wait, room_wait, rounded, stated, stated_limits, IsAccepted, IsLeast, IsLimit, AreLimits}
use Rattle.scene_model.specs.WellFormed.{IsWellFormed}
use Rattle.scene_model.proofs.Cycles.{passed_are_covered}
use Rattle.scene_model.proofs.LeastWalks.{IsBetween, HasPotentials, potentials_or_uncovered, covered_have_potentials}
use Rattle.scene_model.proofs.SceneWaits.{limit_of, All-waits, All-waits_of, block_among, room_among}
use Rattle.scene_model.proofs.Searching.{IsFirst, first}

-- ---- whether every cycle is covered under some limits

module _ (scene : Scene) (ok : IsWellFormed scene) where
  -- the waits of a scene are between its applications
  pub between : (limits : Limits) → All (IsBetween (length scene.apps)) (waits scene limits)
  unfolding block_wait room_wait
  between limits = All-waits (IsBetween (length scene.apps)) scene limits (λ c link. All-waits_of (IsBetween (length scene.apps)) scene c (limit_of limits c) (ok.receivers c link, ok.senders c link) (λ m is. (ok.senders c link, ok.receivers c link)))

  covered_or_uncovered : (limits : Limits) → AllCovered (waits scene limits) ⊎ HasUncovered (waits scene limits)
  covered_or_uncovered limits = go (potentials_or_uncovered (length scene.apps) (waits scene limits) (between limits))
    where
      go : HasPotentials (length scene.apps) (waits scene limits) ⊎ HasUncovered (waits scene limits) → AllCovered (waits scene limits) ⊎ HasUncovered (waits scene limits)
      go (inl (potentials, counted, passed)) = inl (passed_are_covered (length scene.apps) potentials (waits scene limits) passed)
      go (inr uncovered) = inr uncovered

  pub have_potentials : (limits : Limits) → AllCovered (waits scene limits) → HasPotentials (length scene.apps) (waits scene limits)
  have_potentials limits covered = covered_have_potentials (length scene.apps) (waits scene limits) (between limits) covered

-- ---- a limit that is great enough

times_up : (n k : ℕ) (z : ℤ) → 1 ≤ n → pos k ≤ℤ z → pos k ≤ℤ (pos n *ℤ z)
times_up n k (pos d) some le = let m : 1 * d ≤ n * d = mul-le-mul_right d some in omega (arith, ints)
times_up n k (negsuc d) some le = absurd (omega (arith, ints))

within_size : (z : ℤ) → (z ≤ℤ pos (unsigned_abs z)) × (pos 0 ≤ℤ (z +ℤ pos (unsigned_abs z)))
within_size (pos n) = omega (arith, ints)
within_size (negsuc n) = omega (arith, ints)

-- more than the allowance and the potentials of both ends together
abbrev ample : Scene → List ℤ → ℕ → ℕ
ample scene potentials c = unsigned_abs (rounded scene c) + unsigned_abs (potential potentials (sender scene c)) + unsigned_abs (potential potentials (receiver scene c))

ample_passes : (scene : Scene) → IsWellFormed scene → (potentials : List ℤ) (c : ℕ) → c < length scene.links → Passes (length scene.apps) potentials (room_wait scene c (1 + ample scene potentials c))
unfolding room_wait
ample_passes scene ok potentials c link =
    let from : ℕ = unsigned_abs (potential potentials (sender scene c)) in
    let to : ℕ = unsigned_abs (potential potentials (receiver scene c)) in
    let limit : ℕ = 1 + ample scene potentials c in
    let n : sender scene c < length scene.apps = ok.senders c link in
    let t : 1 ≤ tick scene (sender scene c) = ok.ticks (sender scene c) (ok.senders c link) in
    let m : (limit + 1) * 1 ≤ (limit + 1) * tick scene (sender scene c) = mul-le-mul_left (limit + 1) t in
    let r = within_size (rounded scene c) in
    let a = within_size (potential potentials (sender scene c)) in
    let b = within_size (potential potentials (receiver scene c)) in
    let wide : pos (from + to + 1) ≤ℤ ((pos ((limit + 1) * tick scene (sender scene c) + tick scene (receiver scene c)) -ℤ rounded scene c) -ℤ pos 0) = omega (arith, ints) in
    let up = times_up (length scene.apps) (from + to + 1) ((pos ((limit + 1) * tick scene (sender scene c) + tick scene (receiver scene c)) -ℤ rounded scene c) -ℤ pos 0) (omega arith) wide in
    omega (arith, ints)

-- ---- lists of limits that differ at one place

at_place : (front : List (Option ℕ)) (x : Option ℕ) (back : List (Option ℕ)) → get_or (front ++ (x ∷ back)) (length front) None ≡ x
at_place [] x back = refl
at_place (y ∷ front) x back = at_place front x back

at_others : (front : List (Option ℕ)) (x y : Option ℕ) (back : List (Option ℕ)) (i : ℕ) → (i ≡ length front → ⊥) → get_or (front ++ (x ∷ back)) i None ≡ get_or (front ++ (y ∷ back)) i None
at_others [] x y back zero ne = absurd (ne refl)
at_others [] x y back (suc i) ne = refl
at_others (z ∷ front) x y back zero ne = refl
at_others (z ∷ front) x y back (suc i) ne = at_others front x y back i (λ e. ne (ap suc e))

-- ---- what is chosen and stated so far

-- the limits chosen for the first connections, and those stated for the rest
abbrev so_far : Scene → List ℕ → Limits
so_far scene xs = map (λ m. Some m) xs ++ drop (length xs) (stated_limits scene)

-- the same with m for the next connection
abbrev with_next : Scene → List ℕ → ℕ → Limits
with_next scene xs m = map (λ k. Some k) xs ++ (Some m ∷ drop (suc (length xs)) (stated_limits scene))

length-stated : (scene : Scene) → length (stated_limits scene) ≡ length scene.links
length-stated scene = length-map-range_with_len (stated scene) 0 (length scene.links)

-- what is stated from connection c on
stated_from : (scene : Scene) (c : ℕ) → c < length scene.links → drop c (stated_limits scene) ≡ stated scene c ∷ drop (suc c) (stated_limits scene)
stated_from scene c link =
    let at : get_or (stated_limits scene) c None ≡ stated scene c = get_or-map-range_with_len (stated scene) 0 (length scene.links) c c None link (omega arith) in
    drop-cons (stated_limits scene) c None (omega (arith, length-stated scene)) ∙ ap (λ o. o ∷ drop (suc c) (stated_limits scene)) at

so_far-is : (scene : Scene) (xs : List ℕ) → length xs < length scene.links → so_far scene xs ≡ map (λ m. Some m) xs ++ (stated scene (length xs) ∷ drop (suc (length xs)) (stated_limits scene))
so_far-is scene xs link = ap (λ rest. map (λ m. Some m) xs ++ rest) (stated_from scene (length xs) link)

length-push : (xs : List ℕ) (m : ℕ) → length (xs ++ m ∷ []) ≡ suc (length xs)
length-push xs m = omega (arith, length-append xs (m ∷ []))

so_far-push : (scene : Scene) (xs : List ℕ) (m : ℕ) → so_far scene (xs ++ m ∷ []) ≡ with_next scene xs m
so_far-push scene xs m = rw length-push (ap (λ zs. zs ++ drop (suc (length xs)) (stated_limits scene)) (map-append (λ k. Some k) xs (m ∷ [])) ∙ append_assoc (map (λ k. Some k) xs) (Some m ∷ []) (drop (suc (length xs)) (stated_limits scene)))

push-at : (xs : List ℕ) (m : ℕ) → slice_index (xs ++ m ∷ []) (length xs) ≡ m
push-at [] m = refl
push-at (x ∷ xs) m = push-at xs m

-- ---- a least limit depends on those before it alone

IsLeast-same : (scene : Scene) (xs ys : List ℕ) (c m : ℕ) → take c xs ≡ take c ys → IsLeast scene xs c m → IsLeast scene ys c m
IsLeast-same scene xs ys c m same is = record {
  some = is.some;
  covered = subst (λ front. AllCovered (waits scene (counted front m))) same is.covered;
  least = λ less low high. subst (λ front. HasUncovered (waits scene (counted front less))) same (is.least less low high);
}
  where
    counted : List ℕ → ℕ → Limits
    counted front k = map (λ l. Some l) front ++ (Some k ∷ drop (suc c) (stated_limits scene))

IsLimit-push : (scene : Scene) (xs : List ℕ) (m c : ℕ) → c < length xs → (o : Option ℕ) → IsLimit scene xs c o → IsLimit scene (xs ++ m ∷ []) c o
IsLimit-push scene xs m c lt (Some k) is = get_or_append_left xs (m ∷ []) 0 c lt ∙ is
IsLimit-push scene xs m c lt None is = subst (IsLeast scene (xs ++ m ∷ []) c) (sym (get_or_append_left xs (m ∷ []) 0 c lt)) (IsLeast-same scene xs (xs ++ m ∷ []) c (slice_index xs c) (sym (take-append-le c xs (m ∷ []) (omega arith))) is)

-- ---- one connection after another

-- the limits of the first connections, with which every cycle that counts so far is covered
pub record AreFirstLimits (scene : Scene) (xs : List ℕ) : Type 0 where
  pub each : (c : ℕ) → c < length xs → IsLimit scene xs c (stated scene c)
  pub covered : AllCovered (waits scene (so_far scene xs))

module _ (scene : Scene) (ok : IsWellFormed scene) (xs : List ℕ) (link : length xs < length scene.links) (are : AreFirstLimits scene xs) where
  one_more_limit : (m : ℕ) → IsLimit scene (xs ++ m ∷ []) (length xs) (stated scene (length xs)) → AllCovered (waits scene (with_next scene xs m)) → AreFirstLimits scene (xs ++ m ∷ [])
  one_more_limit m is covered = record {
    each = λ c lt. go c lt (cases_lt c (length xs));
    covered = subst (λ limits. AllCovered (waits scene limits)) (sym (so_far-push scene xs m)) covered;
  }
    where
      go : (c : ℕ) → c < length (xs ++ m ∷ []) → (c < length xs) ⊎ (length xs ≤ c) → IsLimit scene (xs ++ m ∷ []) c (stated scene c)
      go c lt (inl before) = IsLimit-push scene xs m c before (stated scene c) (are.each c before)
      go c lt (inr past) = let e : c ≡ length xs = omega (arith, length-push xs m) in subst (λ d. IsLimit scene (xs ++ m ∷ []) d (stated scene d)) (sym e) is

  -- a stated limit is taken
  next_stated : (m : ℕ) → stated scene (length xs) ≡ Some m → AreFirstLimits scene (xs ++ m ∷ [])
  next_stated m e = one_more_limit m (subst (IsLimit scene (xs ++ m ∷ []) (length xs)) (sym e) (push-at xs m))
      (subst (λ limits. AllCovered (waits scene limits)) (so_far-is scene xs link ∙ ap (λ o. map (λ k. Some k) xs ++ (o ∷ drop (suc (length xs)) (stated_limits scene))) e) are.covered)

  -- where none is stated, some limit covers all
  some_covers : stated scene (length xs) ≡ None → (n : ℕ) × AllCovered (waits scene (with_next scene xs (1 + n)))
  some_covers e =
      let found = have_potentials scene ok (so_far scene xs) are.covered in
      (ample scene found.0 (length xs), passed_are_covered (length scene.apps) found.0 (waits scene (with_next scene xs (1 + ample scene found.0 (length xs)))) (passed found.0 found.2))
    where
      passed : (potentials : List ℤ) → All (Passes (length scene.apps) potentials) (waits scene (so_far scene xs)) → All (Passes (length scene.apps) potentials) (waits scene (with_next scene xs (1 + ample scene potentials (length xs))))
      passed potentials before = All-waits P scene now (λ c at. All-waits_of P scene c (limit_of now c) (All-contains P (waits scene (so_far scene xs)) (block_wait scene c) before (block_among scene (so_far scene xs) c at)) (λ m is. room c at (cases_eq c (length xs)) m is))
        where
          P : Wait → Type 0
          P = Passes (length scene.apps) potentials

          enough : ℕ
          enough = 1 + ample scene potentials (length xs)

          now : Limits
          now = with_next scene xs enough

          here : limit_of now (length xs) ≡ Some enough
          here = ap (limit_of now) (sym (length-map xs (λ k. Some k))) ∙ at_place (map (λ k. Some k) xs) (Some enough) (drop (suc (length xs)) (stated_limits scene))

          others : (c : ℕ) → (c ≡ length xs → ⊥) → limit_of (so_far scene xs) c ≡ limit_of now c
          others c ne = ap (λ limits. limit_of limits c) (so_far-is scene xs link) ∙ at_others (map (λ k. Some k) xs) (stated scene (length xs)) (Some enough) (drop (suc (length xs)) (stated_limits scene)) c (λ f. ne (f ∙ length-map xs (λ k. Some k)))

          room : (c : ℕ) → c < length scene.links → (c ≡ length xs) ⊎ (c ≡ length xs → ⊥) → (m : ℕ) → limit_of now c ≡ Some m → P (room_wait scene c m)
          room c at (inl is) m e =
              let same : limit_of now (length xs) ≡ Some m = subst (λ d. limit_of now d ≡ Some m) is e in
              let limit : enough ≡ m = some_same enough m (sym here ∙ same) in
              subst (λ d. P (room_wait scene d m)) (sym is) (subst (λ k. P (room_wait scene (length xs) k)) limit (ample_passes scene ok potentials (length xs) link))
            where
              some_same : (i j : ℕ) → Some i ≡ Some j → i ≡ j
              some_same i j e = cc
          room c at (inr ne) m e = All-contains P (waits scene (so_far scene xs)) (room_wait scene c m) before (room_among scene (so_far scene xs) c m at (others c ne ∙ e))

  -- and the least that does is chosen
  next_chosen : stated scene (length xs) ≡ None → (m : ℕ) × AreFirstLimits scene (xs ++ m ∷ [])
  next_chosen e = go (first (λ m. AllCovered (waits scene (with_next scene xs m))) (λ m. HasUncovered (waits scene (with_next scene xs m))) (λ m. covered_or_uncovered scene ok (with_next scene xs m)) (some_covers e).0 (some_covers e).1)
    where
      go : (m : ℕ) × IsFirst (λ m. AllCovered (waits scene (with_next scene xs m))) (λ m. HasUncovered (waits scene (with_next scene xs m))) m → (m : ℕ) × AreFirstLimits scene (xs ++ m ∷ [])
      go (m, found) = (m, one_more_limit m (subst (IsLimit scene (xs ++ m ∷ []) (length xs)) (sym e) (subst (IsLeast scene (xs ++ m ∷ []) (length xs)) (sym (push-at xs m)) pushed)) found.here)
        where
          whole : take (length xs) xs ≡ xs
          whole = take_all (length xs) xs (omega arith)

          least : IsLeast scene xs (length xs) m
          least = record {
            some = found.some;
            covered = subst (λ front. AllCovered (waits scene (map (λ k. Some k) front ++ (Some m ∷ drop (suc (length xs)) (stated_limits scene))))) (sym whole) found.here;
            least = λ less low high. subst (λ front. HasUncovered (waits scene (map (λ k. Some k) front ++ (Some less ∷ drop (suc (length xs)) (stated_limits scene))))) (sym whole) (found.before less low high);
          }

          pushed : IsLeast scene (xs ++ m ∷ []) (length xs) m
          pushed = IsLeast-same scene xs (xs ++ m ∷ []) (length xs) m (sym (take-append-le (length xs) xs (m ∷ []) (omega arith))) least

  next_limit : (m : ℕ) × AreFirstLimits scene (xs ++ m ∷ [])
  next_limit = go (stated scene (length xs)) refl
    where
      go : (o : Option ℕ) → stated scene (length xs) ≡ o → (m : ℕ) × AreFirstLimits scene (xs ++ m ∷ [])
      go (Some m) e = (m, next_stated m e)
      go None e = next_chosen e

all_limits : (scene : Scene) → IsWellFormed scene → (n : ℕ) (xs : List ℕ) → length xs + n ≡ length scene.links → AreFirstLimits scene xs → (ys : List ℕ) × (length ys ≡ length scene.links) × AreFirstLimits scene ys
all_limits scene ok zero xs e are = (xs, omega arith, are)
all_limits scene ok (suc n) xs e are = let next = next_limit scene ok xs (omega arith) are in all_limits scene ok n (xs ++ next.0 ∷ []) (omega (arith, length-push xs next.0)) next.1

-- limits, with which every cycle is covered
abbrev pub CoveringLimits : Scene → List ℕ → Type 0
CoveringLimits scene limits = AreLimits scene limits × AllCovered (waits scene (map (λ m. Some m) limits))

pub accepted_have_limits : (scene : Scene) → IsWellFormed scene → IsAccepted scene → (limits : List ℕ) × CoveringLimits scene limits
accepted_have_limits scene ok accepted = go (all_limits scene ok (length scene.links) [] (omega arith) (record { each = λ c lt. absurd (omega arith); covered = accepted }))
  where
    go : (ys : List ℕ) × (length ys ≡ length scene.links) × AreFirstLimits scene ys → (limits : List ℕ) × CoveringLimits scene limits
    go (ys, counted, are) =
        let none : drop (length ys) (stated_limits scene) ≡ [] = drop_all (length ys) (stated_limits scene) (omega (arith, length-stated scene)) in
        let all : so_far scene ys ≡ map (λ m. Some m) ys = ap (λ rest. map (λ m. Some m) ys ++ rest) none ∙ append-nil (map (λ m. Some m) ys) in
        (ys, (record { counted = counted; each = are.each }, subst (λ limits. AllCovered (waits scene limits)) all are.covered))
