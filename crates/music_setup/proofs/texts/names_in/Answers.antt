use Rattle.std.proofs.Common.{sym}
use Rattle.std.proofs.lemmas.List.{map-append}
use Rattle.music_setup.proofs.SceneNames.{next_name}
use Rattle.music_setup.proofs.texts.names_in.Goals as goal

pub loop-place-preserved : goal.loop-place-preserved
loop-place-preserved c =
    rw (c.in_ok-push.ensures.items, map-append, c.loop-place.invariant, c.as_slice.ensures.bytes)
    (sym (next_name c.args.sections.now c.loop-place.place _ c.pair_at.ensures))
