use Rattle.scene_model.proofs.Faultless.{app_is, connection_is, joined_once, links_to-few, output_maps_once, port_is, tick_is}
use Rattle.scene_model.proofs.WellFormedScenes.{well_formed}
use Rattle.scene_model.proofs.fault_laws.faultless_by_place.Goals as goal

pub returns : goal.returns
returns c = record {
  applications = λ scene a faultless lt. app_is scene faultless a lt;
  ports = λ scene a p faultless lt within. port_is scene faultless a p lt within;
  ticks = λ scene a faultless. tick_is scene faultless a;
  outputs_map_once = λ scene a p g faultless lt within output. output_maps_once scene faultless a p g lt within output;
  connections = λ scene c faultless lt. connection_is scene faultless c lt;
  joined_once = λ scene c d faultless before lt. joined_once scene faultless c d before lt;
  fed_once = λ scene b p faultless continuous. links_to-few scene faultless b p continuous;
  well_formed = well_formed;
}
