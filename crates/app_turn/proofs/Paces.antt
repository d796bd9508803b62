-- The paces of connections, and what is wanted at them.
use Rattle.std.proofs.Common.{ℕ, zero, suc, ◌+◌, ◌<◌, ◌≡◌, refl, sym, ◌∙◌, ap, arith, add-one, List, [], ◌∷◌, ◌++◌, length, map, take, get_or}
use Rattle.std.specs.Prelude.{slice_index, slice_set, int_lt, nat_lt, ℤ, pos, ◌+ℤ◌, ◌-ℤ◌}
use Rattle.std.specs.Int.{int_max}
use Rattle.std.specs.List.{AllByRecursion}
use Rattle.std.proofs.Math.Seq.{take-suc}
use Rattle.std.proofs.lemmas.Int.{clamps, ints}
use Rattle.std.proofs.lemmas.List.{get_or-map, length-map, map-append}
use Rattle.scene_model.specs.Clocks.{allowance, wanted}
use Rattle.scene_model.specs.Faults.{IsFaultless}
use Rattle.scene_model.specs.declared.scene.Scene.{Scene}
use Rattle.scene_model.proofs.Bounds.{allowance_at, timed_at}
use Rattle.scene_model.proofs.WantedBlocks.{wanted_is}
use Rattle.app_turn.specs.Paces.{IsPace, pace_of, wanted_at}
use Rattle.app_turn.specs.declared.needs.Pace.{Pace}
use Rattle.app_turn.proofs.Places.{written_more}

-- ---- of one connection

pub pace_bounds : (scene : Scene) (c : ℕ) → IsFaultless scene → c < length scene.links → IsPace (pace_of scene c)
unfolding pace_of
pace_bounds scene c fine small =
    let timed = timed_at scene c fine small in
    let near = allowance_at scene c timed in
    record { send_tick_from = timed.sends.tick_from; near = omega (arith, ints, near.low, near.high); receive_tick_to = timed.receives.tick_to }

pub pace_wants : (scene : Scene) (c step : ℕ) → wanted_at (pace_of scene c) step ≡ wanted scene c step
unfolding pace_of
pace_wants scene c step = sym (wanted_is scene c step)

pace_link : (scene : Scene) (c : ℕ) → (pace_of scene c).link ≡ c
unfolding pace_of
pace_link scene c = refl

-- ---- of a list of connections

pub paces_bounds : (scene : Scene) (links : List ℕ) → IsFaultless scene → ((i : ℕ) → i < length links → slice_index links i < length scene.links)
    → AllByRecursion IsPace (map (pace_of scene) links)
paces_bounds scene [] fine small = tt
paces_bounds scene (c ∷ cs) fine small = (pace_bounds scene c fine (small zero (omega arith)), paces_bounds scene cs fine (λ i l. small (suc i) (omega arith)))

pub paces_small : (scene : Scene) (links : List ℕ) (n : ℕ) → ((i : ℕ) → i < length links → slice_index links i < n)
    → AllByRecursion (λ (pace : Pace). pace.link < n) (map (pace_of scene) links)
unfolding pace_of
paces_small scene [] n small = tt
paces_small scene (c ∷ cs) n small = (small zero (omega arith), paces_small scene cs n (λ i l. small (suc i) (omega arith)))

-- one connection more
pub one_pace_more : (scene : Scene) (links : List ℕ) (place link : ℕ) (paces : List Pace) (pace : Pace) → place < length links → link ≡ slice_index links place
    → paces ≡ map (pace_of scene) (take place links) → pace ≡ pace_of scene link → paces ++ pace ∷ [] ≡ map (pace_of scene) (take (place + 1) links)
one_pace_more scene links place link paces pace small read so_far now =
    rw (add-one, take-suc links place 0 small, so_far, now, read) (sym (map-append (pace_of scene) (take place links) (slice_index links place ∷ [])))

-- what was written at the first connections stands there still after the next is written
pub needed_more : (scene : Scene) (links needs : List ℕ) (paces : List Pace) (step place y link : ℕ) (pace : Pace) → paces ≡ map (pace_of scene) links
    → place < length paces → pace ≡ get_or paces place pace → link ≡ pace.link → link < length needs → y ≡ wanted_at pace step
    → ((i : ℕ) → i < place → slice_index needs (slice_index links i) ≡ wanted scene (slice_index links i) step)
    → (i : ℕ) → i < place + 1 → slice_index (slice_set needs link y) (slice_index links i) ≡ wanted scene (slice_index links i) step
needed_more scene links needs paces step place y link pace paced small read own room now each =
    let long : length paces ≡ length links = ap (λ (ps : List Pace). length ps) paced ∙ length-map links (pace_of scene) in
    let is : pace ≡ pace_of scene (slice_index links place) = read ∙ ap (λ (ps : List Pace). get_or ps place pace) paced ∙ get_or-map (pace_of scene) links place 0 pace (omega (arith, long)) in
    let at : link ≡ slice_index links place = own ∙ ap (λ (p : Pace). p.link) is ∙ pace_link scene (slice_index links place) in
    let wants : y ≡ wanted scene link step = now ∙ ap (λ (p : Pace). wanted_at p step) is ∙ pace_wants scene (slice_index links place) step ∙ ap (λ c. wanted scene c step) (sym at) in
    written_more (λ c. wanted scene c step) links needs 0 place link y at room wants each

-- ---- one step

-- a block begins, the allowance added, before the end of a step where it begins before what is left of that time
pub begins_before : (begin end left : ℕ) (allowance : ℤ) → pos left ≡ int_max (pos end -ℤ allowance) (pos 0) → int_lt (pos begin +ℤ allowance) (pos end) ≡ nat_lt begin left
begins_before begin end left allowance is = grind (arith, ints, clamps)
