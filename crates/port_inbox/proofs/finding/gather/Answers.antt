use Rattle.std.proofs.Common.{◌≡◌, ◌++◌, ◌<◌, [], refl, sym, ap, ◌∙◌, arith, get_or, length}
use Rattle.std.specs.List.{filter_map, flat_map}
use Rattle.std.proofs.lemmas.List.Elements.{filter_map-append}
use Rattle.music_base.proofs.Gathered.{gathered_end, gathered_flat}
use Rattle.port_inbox.specs.Arrivals.{EventLine, line_waiting, paired}
use Rattle.port_inbox.specs.Due.{falls_in}
use Rattle.port_inbox.specs.Gathering.{blocks_found, waiting_found}
use Rattle.port_inbox.proofs.OverLines.{line_found, paired_get, paired_length}
use Rattle.port_inbox.proofs.finding.gather.Goals as goal

pub loop-place-preserved : goal.loop-place-preserved
loop-place-preserved c routes same =
    let lines = c.args.lines.now in
    let place = c.loop-place.place in
    let line = c.index-lines-place.result in
    let pair : EventLine = record { line = line; routes = get_or routes place [] } in
    let within : place < length routes = omega (arith, c.loop-place-test.true, same) in
    let here : get_or (paired lines routes) place pair ≡ pair =
    paired_get lines routes place line pair c.loop-place-test.true within ∙ (λ i. record { line = sym c.index-lines-place.is i; routes = get_or routes place [] }) in
    let short : place < length (paired lines routes) = omega (arith, c.loop-place-test.true, paired_length lines routes same) in
    let made : filter_map (waiting_found routes) c.gather_line.new.out.items ≡ filter_map (waiting_found routes) c.loop-place.out.items ++ line_waiting c.args.start c.args.tick c.args.step (get_or (paired lines routes) place pair) =
    ap (filter_map (waiting_found routes)) c.in_ok-gather_line.ensures
    ∙ filter_map-append (waiting_found routes) c.loop-place.out.items (blocks_found (falls_in c.args.start c.args.tick c.args.step line.link.latency) place line.link line.kept)
    ∙ ap (λ more. filter_map (waiting_found routes) c.loop-place.out.items ++ more) (line_found c.args.start c.args.tick c.args.step place routes pair refl ∙ ap (line_waiting c.args.start c.args.tick c.args.step) (sym here)) in
    rw made (gathered_flat (line_waiting c.args.start c.args.tick c.args.step) (paired lines routes) place pair (filter_map (waiting_found routes) c.loop-place.out.items) _ short (c.loop-place.invariant routes same))

pub returns : goal.returns
returns c routes same =
    let lines = c.args.lines.now in
    gathered_end (flat_map (line_waiting c.args.start c.args.tick c.args.step)) (paired lines routes) c.loop-place.place (filter_map (waiting_found routes) c.loop-place.out.items) _ refl
    (omega (arith, c.loop-place-test.false, paired_length lines routes same)) (c.loop-place.invariant routes same)
