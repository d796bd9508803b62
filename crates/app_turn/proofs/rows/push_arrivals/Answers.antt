use Rattle.std.proofs.Common.{◌∙◌, ◌++◌, ap, arith, refl, sym}
use Rattle.std.specs.List.{flat_map}
use Rattle.music_base.proofs.Gathered.{gathered_end}
use Rattle.music_base.proofs.Lists.{map-flat_map}
use Rattle.index_maps.specs.Maps.{globals_of}
use Rattle.scene_model.specs.Logs.{arrived_at}
use Rattle.app_turn.specs.Rows.{arrived_rows, row_of}
use Rattle.app_turn.proofs.rows.push_arrivals.Goals as goal

pub returns : goal.returns
returns c =
    let globals = globals_of c.args.ports.now c.args.place.now.rank in
    gathered_end (flat_map (arrived_rows c.args.place.now globals)) c.args.items.now c.loop-item.item-index c.loop-item.rows _ refl (omega (arith, c.loop-item-test.false)) c.loop-item.invariant
    ∙ ap (λ ys. c.args.rows.now ++ ys) (sym (map-flat_map (row_of c.args.place.now) (arrived_at globals) c.args.items.now))
