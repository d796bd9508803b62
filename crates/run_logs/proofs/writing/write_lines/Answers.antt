use Rattle.std.proofs.Common.{◌≡◌, ◌∙◌, refl, ap, sym, length, take, arith}
use Rattle.std.proofs.lemmas.Bool.{eqb-true, eqb-false}
use Rattle.std.proofs.lemmas.List.{length-drop}
use Rattle.run_logs.proofs.Batches.{lines, none_written, writable_parts, batch_written, all_written, written_prefix, batch_prefix}
use Rattle.run_logs.proofs.writing.write_lines.Goals as goal

pub loop-rest-init : goal.loop-rest-init
loop-rest-init g c = record { written = none_written _ _ _ c.requires.writable; stays = refl }

pub returns-in_default-clause-prefix : goal.returns-in_default-clause-prefix
returns-in_default-clause-prefix g c = written_prefix _ _ _ _ _ c.loop-rest.invariant.written

pub returns-in_err-write_text-clause-prefix : goal.returns-in_err-write_text-clause-prefix
returns-in_err-write_text-clause-prefix g c =
    let text : c.text.result.now ≡ lines c.args.scene.now (take c.min.result c.loop-rest.rest.now) =
    c.text.ensures ∙ c.in-Ok.ensures ∙ ap (lines c.args.scene.now) c.split_at.ensures.front in
    batch_prefix _ _ _ _ _ _ _ c.loop-rest.invariant.written (rw text at c.in_err-write_text.ensures.prefix)

pub loop-rest-preserved : goal.loop-rest-preserved
loop-rest-preserved g c =
    let text : c.text.result.now ≡ lines c.args.scene.now (take c.min.result c.loop-rest.rest.now) =
    c.text.ensures ∙ c.in-Ok.ensures ∙ ap (lines c.args.scene.now) c.split_at.ensures.front in
    record {
      written = rw c.split_at.ensures.back (batch_written _ _ _ _ _ _ _ c.loop-rest.invariant.written (rw text at c.in_ok-write_text.ensures.all));
      stays = c.in_ok-write_text.ensures.stays ∙ c.loop-rest.invariant.stays;
    }

pub returns-clause-prefix : goal.returns-clause-prefix
returns-clause-prefix g c = written_prefix _ _ _ _ _ c.loop-rest.invariant.written

pub fill-requires-clause-writable : goal.fill-requires-clause-writable
fill-requires-clause-writable g c = rw c.split_at.ensures.front (writable_parts _ c.min.result _ c.loop-rest.invariant.written.writable).0

pub loop-rest-smaller : goal.loop-rest-smaller
loop-rest-smaller g c =
    let some = eqb-false (length c.loop-rest.rest.now) 0 (sym c.is_empty.ensures ∙ c.loop-rest-test.true) in
    omega (arith, ap length c.split_at.ensures.back, length-drop c.min.result c.loop-rest.rest.now, c.min.ensures, some)

pub returns-clause-all : goal.returns-clause-all
returns-clause-all g c = all_written _ _ _ _ _ c.loop-rest.invariant.written (eqb-true (length c.loop-rest.rest.now) 0 (sym c.is_empty.ensures ∙ c.loop-rest-test.false))
