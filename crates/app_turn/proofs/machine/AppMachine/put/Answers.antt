use Rattle.std.proofs.Common.{◌≡◌, ◌∙◌, ◌+◌, sym, ap, Some, None, Option, get_or, slice_set, arith, ◌<◌, length}
use Rattle.std.proofs.lemmas.List.{get_or_read}
use Rattle.music_base.specs.declared.item.Block.{Block}
use Rattle.scene_model.specs.Orders.{one_more}
use Rattle.app_turn.proofs.Acts.{gave, one_more-read, pending_is, put_back, put_same}
use Rattle.app_turn.proofs.machine.AppMachine.put.Goals as goal

pub returns-in-Err : goal.returns-in-Err
returns-in-Err g c =
    let wants = rw (← c.self.view_is, ← c.link.view_is) at c.requires.wants in
    let there : c.link.inside.0 < length c.self.inside.pending.items = omega (arith, wants.link, c.self.invariant.pendings) in
    let read : c.index_mut.result.now ≡ get_or c.self.inside.pending.items c.link.inside.0 None = get_or_read c.self.inside.pending.items c.link.inside.0 c.index_mut.result.now there c.index_mut.ensures.value None in
    let found : get_or c.self.inside.pending.items c.link.inside.0 None ≡ Some c.in-Err.full.0 = sym read ∙ sym c.in-Some.ensures.value ∙ ap (λ (b : Block). Some b) (sym c.in-Err.ensures.0) in
    (c.in-Err.ensures.1, put_same _ _ c.self.invariant _ (put_back c.self.inside.pending.items c.link.inside.0 _ _ None found) ∙ c.self.view_is)

pub returns-in-Ok : goal.returns-in-Ok
returns-in-Ok g c =
    let wants = rw (← c.self.view_is, ← c.link.view_is) at c.requires.wants in
    let there : c.link.inside.0 < length c.self.inside.pending.items = omega (arith, wants.link, c.self.invariant.pendings) in
    let read : c.index_mut.result.now ≡ get_or c.self.inside.pending.items c.link.inside.0 None = get_or_read c.self.inside.pending.items c.link.inside.0 c.index_mut.result.now there c.index_mut.ensures.value None in
    let found : get_or c.self.inside.pending.items c.link.inside.0 None ≡ Some c.in-Some.block = sym read ∙ sym c.in-Some.ensures.value in
    let more : slice_set c.self.inside.put.items c.link.inside.0 (c.index_mut-in-Ok.result.now + 1) ≡ one_more c.self.inside.put.items c.link.inside.0 =
    one_more-read c.self.inside.put.items c.link.inside.0 c.index_mut-in-Ok.result.now (omega (arith, wants.link, c.self.invariant.puts)) c.index_mut-in-Ok.ensures.value in (
      c.in-Some.block,
      rw (← c.self.view_is, ← c.link.view_is) (pending_is _ _ c.self.invariant c.link.inside.0 wants c.in-Some.block found),
      c.in-Ok.ensures,
      rw (← c.self.view_is, ← c.link.view_is) (gave _ _ c.self.invariant c.link.inside.0 wants _ _ more (ap (λ (o : Option Block). slice_set c.self.inside.pending.items c.link.inside.0 o) c.in-Some.ensures.after)),
    )
