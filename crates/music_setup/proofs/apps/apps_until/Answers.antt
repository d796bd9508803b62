-- Each section is read behind those before it.
use Rattle.std.proofs.Common.{◌≡◌, ◌≤◌, drop, length, [], refl, sym, ◌∙◌, arith}
use Rattle.std.specs.Prelude.{Ok}
use Rattle.std.proofs.lemmas.List.{drop_all, length-append}
use Rattle.music_setup.specs.Apps.{apps_until}
use Rattle.music_setup.proofs.Faultless.{apps_are}
use Rattle.music_setup.proofs.Next.{next_app, next_fault}
use Rattle.music_setup.proofs.apps.apps_until.Goals as goal

pub returns-in-Err-Kind-clause-fault : goal.returns-in-Err-Kind-clause-fault
returns-in-Err-Kind-clause-fault c =
    let gave = rw c.in-Err-Kind.field-0-is at c.in-Err-Kind.ensures.fault in
    rw c.in-Err-Kind.kind-is (sym c.loop-place.invariant.read ∙ next_fault c.args.config.now c.args.stop c.loop-place.place c.loop-place.apps _ c.in-Err-Kind.kind c.pair_at.ensures c.loop-place.invariant.counted gave)

pub loop-place-preserved : goal.loop-place-preserved
loop-place-preserved c =
    let next = next_app c.args.config.now c.args.stop c.loop-place.place c.loop-place.apps _ c.in-Ok.app c.pair_at.ensures c.loop-place.invariant.counted c.in-Ok.ensures.app in
    rw c.in_ok-push-in-Ok.ensures.ok (record {
      read = sym next ∙ c.loop-place.invariant.read;
      counted = rw (length-append, c.loop-place.invariant.counted) refl;
    })

pub returns-clause-apps : goal.returns-clause-apps
returns-clause-apps c =
    let past : length c.args.config.now.sections ≤ c.loop-place.place = omega (arith, c.len-place-end.ensures.len, c.loop-place-test.false) in
    sym (rw (drop_all c.loop-place.place c.args.config.now.sections past) at c.loop-place.invariant.read)

pub returns-clause-lawful : goal.returns-clause-lawful
returns-clause-lawful c =
    let past : length c.args.config.now.sections ≤ c.loop-place.place = omega (arith, c.len-place-end.ensures.len, c.loop-place-test.false) in
    let none : drop c.loop-place.place c.args.config.now.sections ≡ [] = drop_all c.loop-place.place c.args.config.now.sections past in
    let gave : apps_until c.args.config.now c.args.stop ≡ Ok c.loop-place.apps = sym (rw none at c.loop-place.invariant.read) in
    apps_are c.args.config.now c.args.stop c.loop-place.apps c.len-place-end.ensures.lawful c.requires gave
