use Rattle.step_core.proofs.Rooms.{finds_room}
use Rattle.step_core.proofs.laws.puts_find_room.Goals as goal

pub returns : goal.returns
returns c = finds_room
