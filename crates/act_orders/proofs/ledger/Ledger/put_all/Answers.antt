use Rattle.std.proofs.Common.{◌≡◌, ◌∙◌, ◌<◌, arith, length, ℕ, sym}
use Rattle.std.specs.Prelude.{slice_index}
use Rattle.act_orders.specs.OwnLinks.{out_of}
use Rattle.act_orders.proofs.Ledgers.{most_count, out_count, out_read, out_small, put-iff}
use Rattle.act_orders.proofs.Lists.{read_at}
use Rattle.act_orders.proofs.ledger.Ledger.put_all.Goals as goal

pub index-out-requires : goal.index-out-requires
index-out-requires c = let e : c.app.inside.0 ≡ c.args.app = c.app.view_is in omega (arith, c.requires.app, out_count _ _ c.requires.kept, e)

pub all_put-requires-clause-put : goal.all_put-requires-clause-put
all_put-requires-clause-put c =
    let e : c.app.inside.0 ≡ c.args.app = c.app.view_is in
    let are : c.as_slice.result.now ≡ out_of c.args.scene.now c.args.app = c.as_slice.ensures ∙ out_read _ _ c.requires.kept c.args.app c.requires.app _ _ e c.index-out.ensures in
    λ i small. let low = out_small _ _ c.requires.kept c.args.app c.requires.app _ are i small in omega (arith, low, c.requires.kept.sound.puts, c.deref.ensures.len)

pub all_put-requires-clause-most : goal.all_put-requires-clause-most
all_put-requires-clause-most c = rw (c.deref.ensures.value, c.deref-2.ensures.value) (most_count _ _ c.requires.kept ∙ sym c.requires.kept.sound.puts)

pub returns : goal.returns
returns c =
    let e : c.app.inside.0 ≡ c.args.app = c.app.view_is in
    let are : c.as_slice.result.now ≡ out_of c.args.scene.now c.args.app = c.as_slice.ensures ∙ out_read _ _ c.requires.kept c.args.app c.requires.app _ _ e c.index-out.ensures in
    put-iff _ _ c.requires.kept c.args.app c.requires.app _ are _ (read_at c.args.self.now.run.items _ _ _ e (omega (arith, c.requires.app, c.requires.kept.sound.runs)) c.index-ran.ensures)
    c.all_put.result (rw (c.deref.ensures.value, c.deref-2.ensures.value) at c.all_put.ensures)
