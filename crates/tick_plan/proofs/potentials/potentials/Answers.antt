use Rattle.std.proofs.Common.{◌≡◌, ◌≤◌, ℕ, ℤ, pos, List, length, map, All, Vec, refl, ap, ◌∙◌}
use Rattle.std.specs.Prelude.{Result, Ok, Err, IfOk, replicate, slice_index}
use Rattle.std.specs.declared.alloc.Global.{Global}
use Rattle.std.proofs.lemmas.List.{length-replicate}
use Rattle.music_base.specs.declared.errors.NoMemory.{NoMemory}
use Rattle.scene_model.specs.Cover.{IsWithin, Passes}
use Rattle.scene_model.specs.Limits.{most_apps}
use Rattle.scene_model.specs.declared.wait.Wait.{Wait}
use Rattle.tick_plan.specs.Heights.{HaveWalks, IsRelaxed}
use Rattle.tick_plan.specs.Plans.{IsPotential}
use Rattle.tick_plan.proofs.Searching.{read_again, zeros_low, IsRising-zeros, heights_low, near_zero, all_pass}
use Rattle.tick_plan.proofs.potentials.potentials.Goals as goal

pub raise_all-requires : goal.raise_all-requires
raise_all-requires c =
    IsRising-zeros _ _ c.deref_mut.result.now _ c.requires.few c.requires.within c.requires.covered (c.deref_mut.ensures.value ∙ c.in_ok-heights.ensures) refl

pub signed-requires : goal.signed-requires
signed-requires c =
    let same = read_again _ _ _ _ _ _ _ c.raise_all.ensures.walks c.in_ok-heights.heights.ok.0 (ap length c.in_ok-heights.ensures ∙ length-replicate c.args.applications 0) c.deref.ensures.value in
    rw same (heights_low _ _ _ _ c.requires.few c.requires.within c.raise_all.ensures.walks)

near_if : (n : ℕ) (all : List Wait) (starts now new : List ℕ) (r : Result (Vec ℤ Global) NoMemory) → n ≤ most_apps → All (IsWithin n) all → HaveWalks n all (slice_index starts) new →
    starts ≡ replicate n 0 → now ≡ new → IfOk r (λ p. p.items ≡ map (λ (h : ℕ). pos h) now) → IfOk r (λ p. All IsPotential p.items)
near_if n all starts now new (Err e) few within h zeros same is = tt
near_if n all starts now new (Ok p) few within h zeros same is =
    near_zero n all (slice_index starts) new p.items few within h (λ v. rw zeros (zeros_low n v)) (is ∙ ap (map (λ (h : ℕ). pos h)) same)

passed_if : (n : ℕ) (all : List Wait) (now new : List ℕ) (r : Result (Vec ℤ Global) NoMemory) → length new ≡ n → All (IsWithin n) all → All (IsRelaxed n new) all → now ≡ new →
    IfOk r (λ p. p.items ≡ map (λ (h : ℕ). pos h) now) → IfOk r (λ p. All (Passes n p.items) all)
passed_if n all now new (Err e) counted within relaxed same is = tt
passed_if n all now new (Ok p) counted within relaxed same is = all_pass n new p.items all counted (is ∙ ap (map (λ (h : ℕ). pos h)) same) within relaxed

pub returns-clause-near : goal.returns-clause-near
returns-clause-near c =
    let same = read_again _ _ _ _ _ _ _ c.raise_all.ensures.walks c.in_ok-heights.heights.ok.0 (ap length c.in_ok-heights.ensures ∙ length-replicate c.args.applications 0) c.deref.ensures.value in
    near_if _ _ c.deref_mut.result.now _ _ _ c.requires.few c.requires.within c.raise_all.ensures.walks (c.deref_mut.ensures.value ∙ c.in_ok-heights.ensures) same c.signed.ensures

pub returns-clause-passed : goal.returns-clause-passed
returns-clause-passed c =
    let same = read_again _ _ _ _ _ _ _ c.raise_all.ensures.walks c.in_ok-heights.heights.ok.0 (ap length c.in_ok-heights.ensures ∙ length-replicate c.args.applications 0) c.deref.ensures.value in
    passed_if _ _ _ _ _ c.raise_all.ensures.walks.counted c.requires.within c.raise_all.ensures.relaxed same c.signed.ensures
