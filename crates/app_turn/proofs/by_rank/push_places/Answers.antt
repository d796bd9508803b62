use Rattle.std.proofs.Common.{◌∙◌, ◌++◌, ap, arith, get_or, refl, sym}
use Rattle.std.specs.List.{flat_map}
use Rattle.music_base.proofs.Gathered.{gathered_end}
use Rattle.music_base.proofs.Lists.{map-flat_map}
use Rattle.index_maps.specs.Maps.{globals_of}
use Rattle.scene_model.specs.Logs.{arrived_at}
use Rattle.app_turn.specs.ByRank.{no_item}
use Rattle.app_turn.specs.Rows.{arrived_rows, row_of}
use Rattle.app_turn.proofs.by_rank.push_places.Goals as goal

pub returns : goal.returns
returns c =
    let globals = globals_of c.args.ports.now c.args.place.now.rank in
    gathered_end (flat_map (λ i. arrived_rows c.args.place.now globals (get_or c.args.items.now i no_item))) c.args.places.now c.loop-at.at-index c.loop-at.rows _ refl (omega (arith, c.loop-at-test.false)) c.loop-at.invariant
    ∙ ap (λ ys. c.args.rows.now ++ ys) (sym (map-flat_map (row_of c.args.place.now) (λ i. arrived_at globals (get_or c.args.items.now i no_item)) c.args.places.now))
