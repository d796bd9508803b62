-- The indices of a map, as a list.
use Rattle.std.proofs.Common.{ℕ, ◌≡◌, List}
use Rattle.index_maps.specs.Maps.{indices}
use Rattle.index_maps.specs.declared.map.PortMap.{PortMap}
use Rattle.index_maps.proofs.Ascending.{indices-ascends}
use Rattle.port_inbox.specs.KeptSamples.{AreIndices}

pub indices-ascend : (map : PortMap) (now : List ℕ) → now ≡ indices map → AreIndices now
indices-ascend map now is = rw is (indices-ascends map)
