use Rattle.std.proofs.Common.{◌≡◌, ◌∙◌, ◌<◌, arith, length, ℕ}
use Rattle.std.specs.Prelude.{slice_index}
use Rattle.act_orders.specs.OwnLinks.{into_of}
use Rattle.act_orders.proofs.Ledgers.{into_count, into_read, into_small, taken-iff}
use Rattle.act_orders.proofs.ledger.Ledger.took_all.Goals as goal

pub index-into-requires : goal.index-into-requires
index-into-requires c = let e : c.app.inside.0 ≡ c.args.app = c.app.view_is in omega (arith, c.requires.app, into_count _ _ c.requires.kept, e)

pub all_taken-requires-clause-taken : goal.all_taken-requires-clause-taken
all_taken-requires-clause-taken c =
    let e : c.app.inside.0 ≡ c.args.app = c.app.view_is in
    let are : c.as_slice.result.now ≡ into_of c.args.scene.now c.args.app = c.as_slice.ensures ∙ into_read _ _ c.requires.kept c.args.app c.requires.app _ _ e c.index-into.ensures in
    λ i small. let low = into_small _ _ c.requires.kept c.args.app c.requires.app _ are i small in omega (arith, low, c.requires.kept.sound.takes, c.deref.ensures.len)

pub returns : goal.returns
returns c =
    let e : c.app.inside.0 ≡ c.args.app = c.app.view_is in
    let are : c.as_slice.result.now ≡ into_of c.args.scene.now c.args.app = c.as_slice.ensures ∙ into_read _ _ c.requires.kept c.args.app c.requires.app _ _ e c.index-into.ensures in
    taken-iff _ _ c.requires.kept c.args.app c.requires.app _ are c.all_taken.result (rw (c.deref.ensures.value, c.deref-2.ensures.value) at c.all_taken.ensures)
