-- How many values an application puts out and reads.
use Rattle.std.specs.Prelude.{ℕ, ◌*◌, List, length}
use Rattle.std.specs.List.{sum_by}
use Rattle.music_base.specs.Clocks.{steps_until}
use Rattle.music_base.specs.Numbers.{total_below}
use Rattle.index_maps.specs.Maps.{globals_of, rank_count}
use Rattle.index_maps.specs.declared.map.PortMap.{PortMap}
use Rattle.scene_model.specs.declared.port.PortDecl.{PortDecl}
use Rattle.scene_model.specs.declared.port.PortKind.{PortKind}
use Rattle.scene_model.specs.declared.port.PortKind.TheVariants.{Values}

-- how many indices the ranks of a port map, an index as often as ranks map it
unfoldable pub indices_mapped : PortMap → ℕ
indices_mapped map = total_below (λ rank. length (globals_of map rank)) (rank_count map)

-- a continuous port, be it an output or an input, has a value for each in each step
abbrev pub values_by : PortKind → PortMap → ℕ
values_by Values map = indices_mapped map
values_by _ map = 0

unfoldable pub values_in_step : List PortDecl → ℕ
values_in_step ports = sum_by (λ (port : PortDecl). values_by port.kind port.map) ports

-- how many values all steps have that begin within a span
abbrev pub values_in_run : ℕ → ℕ → List PortDecl → ℕ
values_in_run span tick ports = steps_until span tick * values_in_step ports
