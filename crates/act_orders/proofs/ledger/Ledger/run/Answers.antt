use Rattle.std.proofs.Common.{◌≡◌, ◌∙◌, ◌≤◌, ◌<◌, ◌+◌, ap, arith, refl, length, ℕ, List, slice_set}
use Rattle.std.specs.Prelude.{slice_index}
use Rattle.scene_model.specs.Clocks.{wanted}
use Rattle.scene_model.specs.Orders.{one_more}
use Rattle.scene_model.specs.declared.act.Act.TheVariants.{Run}
use Rattle.act_orders.specs.OwnLinks.{into_of}
use Rattle.act_orders.proofs.Entering.{entered, needed, one_more_at}
use Rattle.act_orders.proofs.Ledgers.{few_next, into_count, into_read, into_small}
use Rattle.act_orders.proofs.Lists.{read_at}
use Rattle.act_orders.proofs.ledger.Ledger.run.Goals as goal

pub overflow_add-next : goal.overflow_add-next
overflow_add-next c =
    let e : c.app.inside.0 ≡ c.args.app = c.app.view_is in
    let now = read_at c.args.self.now.run.items _ _ _ e (omega (arith, c.requires.allowed.app, c.requires.kept.sound.runs)) c.index.ensures in
    let few : c.index.result.now + 1 ≤ 1_000_000 = omega (arith, now, few_next _ _ c.requires.kept c.args.app c.requires.allowed.app c.requires.allowed.step_left) in
    omega (arith, few)

pub index-into-requires : goal.index-into-requires
index-into-requires c = let e : c.app.inside.0 ≡ c.args.app = c.app.view_is in omega (arith, c.requires.allowed.app, into_count _ _ c.requires.kept, e)

pub need-requires-clause-links : goal.need-requires-clause-links
need-requires-clause-links c =
    let e : c.app.inside.0 ≡ c.args.app = c.app.view_is in
    let are : c.as_slice.result.now ≡ into_of c.args.scene.now c.args.app = c.as_slice.ensures ∙ into_read _ _ c.requires.kept c.args.app c.requires.allowed.app _ _ e c.index-into.ensures in
    into_small _ _ c.requires.kept c.args.app c.requires.allowed.app _ are

pub need-requires-clause-step : goal.need-requires-clause-step
need-requires-clause-step c =
    let e : c.app.inside.0 ≡ c.args.app = c.app.view_is in
    let now = read_at c.args.self.now.run.items _ _ _ e (omega (arith, c.requires.allowed.app, c.requires.kept.sound.runs)) c.index.ensures in
    omega (arith, now, few_next _ _ c.requires.kept c.args.app c.requires.allowed.app c.requires.allowed.step_left)

pub returns-clause-kept : goal.returns-clause-kept
returns-clause-kept c =
    let e : c.app.inside.0 ≡ c.args.app = c.app.view_is in
    let now = read_at c.args.self.now.run.items _ _ _ e (omega (arith, c.requires.allowed.app, c.requires.kept.sound.runs)) c.index.ensures in
    let are : c.as_slice.result.now ≡ into_of c.args.scene.now c.args.app = c.as_slice.ensures ∙ into_read _ _ c.requires.kept c.args.app c.requires.allowed.app _ _ e c.index-into.ensures in
    let more : slice_set c.args.self.now.run.items c.app.inside.0 (c.index.result.now + 1) ≡ one_more c.args.self.now.run.items c.args.app = one_more_at c.args.self.now.run.items _ _ _ e now in
    let each : (i : ℕ) → i < length c.as_slice.result.now → slice_index c.need.new.needs.items (slice_index c.as_slice.result.now i) ≡ wanted c.args.scene.now (slice_index c.as_slice.result.now i) (slice_index c.args.self.now.run.items c.args.app + 1) =
    rw now at c.need.ensures.each in
    entered c.args.scene.now c.args.self.now _ c.requires.kept (record { limits = refl; lasts = refl; most = refl; into = refl; out = refl }) (Run c.args.app) c.requires.allowed
    (ap (λ (r : List ℕ). record { run = r; put = c.args.self.now.put.items; taken = c.args.self.now.taken.items }) more)
    (c.need.ensures.count ∙ c.requires.kept.need_count)
    (needed c.args.scene.now c.args.self.now c.requires.kept c.args.app c.requires.allowed.app c.as_slice.result.now c.need.new.needs.items _ are more each c.need.ensures.others)
