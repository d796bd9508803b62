use Rattle.std.proofs.Common.{◌≡◌, ◌∙◌, [], ◌∷◌, ◌++◌, length, ap, sym, arith, zero-add}
use Rattle.std.proofs.lemmas.List.FromFn.{length-map-range_with_len, map-range_with_len_more}
use Rattle.scene_make.specs.Made.{section_of}
use Rattle.scene_make.proofs.making.sections.Goals as goal

pub push-requires-clause-room : goal.push-requires-clause-room
push-requires-clause-room c =
    let len : length c.loop-place.sections ≡ c.loop-place.place = ap length c.loop-place.invariant ∙ length-map-range_with_len (section_of c.args.number) 0 c.loop-place.place in
    let lt = c.loop-place-test.true in
    omega (arith, len, lt)

pub loop-place-preserved : goal.loop-place-preserved
loop-place-preserved c =
    c.in_ok-push.ensures.ok
    ∙ (λ i. c.loop-place.invariant i ++ (c.in_ok-app_name.ensures i, c.in_ok-app_settings.ensures i) ∷ [])
    ∙ sym (map-range_with_len_more (section_of c.args.number) 0 c.loop-place.place c.loop-place.place (zero-add c.loop-place.place))
