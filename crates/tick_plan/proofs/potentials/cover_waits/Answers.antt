use Rattle.std.proofs.Common.{pos, ℕ, length, map, ap, ◌∙◌, arith}
use Rattle.std.proofs.lemmas.List.{length-map}
use Rattle.scene_model.proofs.Cycles.{passed_are_covered}
use Rattle.tick_plan.proofs.Searching.{HaveWalks-given, heights_low, near_zero, all_pass}
use Rattle.tick_plan.proofs.potentials.cover_waits.Goals as goal

pub signed-requires : goal.signed-requires
signed-requires c = rw c.deref.ensures.value (heights_low _ _ _ _ c.requires.few c.requires.within (HaveWalks-given _ _ _ _ c.in_ok-relax_all.ensures.search))

pub returns-clause-near : goal.returns-clause-near
returns-clause-near c =
    near_zero _ _ _ _ _ c.requires.few c.requires.within (HaveWalks-given _ _ _ _ c.in_ok-relax_all.ensures.search) (λ v. omega arith)
    (c.in_ok-signed.ensures ∙ ap (map (λ (h : ℕ). pos h)) c.deref.ensures.value)

pub returns-clause-passed : goal.returns-clause-passed
returns-clause-passed c =
    all_pass _ _ _ _ c.in_ok-relax_all.ensures.search.heights_counted
    (c.in_ok-signed.ensures ∙ ap (map (λ (h : ℕ). pos h)) c.deref.ensures.value) c.requires.within c.in_ok-relax_all.ensures.relaxed

pub returns-clause-covered : goal.returns-clause-covered
returns-clause-covered c =
    passed_are_covered c.args.applications c.in_ok-signed.field-0.items c.args.waits.now
    (all_pass _ _ _ _ c.in_ok-relax_all.ensures.search.heights_counted
    (c.in_ok-signed.ensures ∙ ap (map (λ (h : ℕ). pos h)) c.deref.ensures.value) c.requires.within c.in_ok-relax_all.ensures.relaxed)

pub returns-clause-counted : goal.returns-clause-counted
returns-clause-counted c =
    ap length c.in_ok-signed.ensures ∙ length-map c.deref.result.now (λ (h : ℕ). pos h) ∙ ap length c.deref.ensures.value ∙ c.in_ok-relax_all.ensures.search.heights_counted

pub relax_all-requires : goal.relax_all-requires
relax_all-requires c = record { few = c.requires.few; within = c.requires.within; search = c.in_ok-search.ensures c.args.waits.now }
