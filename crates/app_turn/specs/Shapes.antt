-- The shape of a connection's blocks.
use Rattle.std.specs.Prelude.{ℕ}
use Rattle.index_maps.specs.Maps.{indices}
use Rattle.index_maps.specs.declared.map.PortMap.{PortMap}
use Rattle.scene_model.specs.Clocks.{start, tick}
use Rattle.scene_model.specs.Scenes.{output_of, sender}
use Rattle.scene_model.specs.declared.scene.Scene.{Scene}
use Rattle.scene_model.specs.declared.port.PortKind.{PortKind}
use Rattle.scene_model.specs.declared.port.PortKind.TheVariants as kinds
use Rattle.port_buffers.specs.declared.shapes.BlockShape.{BlockShape}
use Rattle.port_buffers.specs.declared.shapes.BlockShape.TheVariants as shapes

-- what an output of this kind and this map puts out in steps of this tick from a start on
abbrev pub shape_by : PortKind → PortMap → ℕ → ℕ → BlockShape
shape_by kinds.Events map start tick = shapes.Events start tick (indices map)
shape_by kinds.Values map start tick = shapes.Values (indices map)
shape_by kinds.Messages map start tick = shapes.Messages start tick

-- the shape of a connection's blocks, whose steps begin at the sender's start
unfoldable pub shape : Scene → ℕ → BlockShape
shape scene c = shape_by (output_of scene c).kind (output_of scene c).map (start scene (sender scene c)) (tick scene (sender scene c))
