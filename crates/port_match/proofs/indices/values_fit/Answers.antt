use Rattle.std.proofs.Common.{◌∙◌, ℕ, List, ap}
use Rattle.std.specs.List.{list_all, list_any}
use Rattle.index_maps.specs.Intervals.{holds}
use Rattle.index_maps.specs.Maps.{indices}
use Rattle.scene_model.specs.Links.{covers}
use Rattle.port_match.proofs.Intervals.{all_maps_index}
use Rattle.port_match.proofs.indices.values_fit.Goals as goal

pub returns-in-Values : goal.returns-in-Values
unfolding covers
returns-in-Values c =
    let held = ap (λ (xs : List ℕ). list_all (λ g. list_any (holds g) c.args.outputs.now) xs) c.requires.inputs in
    let mapped = all_maps_index c.args.output.now.map c.args.outputs.now (indices c.args.input.now.map) c.requires.outputs_apart c.requires.outputs in
    rw c.in-Values.is (c.covers.ensures ∙ (held ∙ mapped))
