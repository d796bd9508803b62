use Rattle.music_base.proofs.BytePlace.{byte_place_is}
use Rattle.music_base.proofs.bytes.byte_place.Goals as goal

pub returns-clause-place : goal.returns-clause-place
returns-clause-place c = byte_place_is c.args.byte c.args.bytes.now c.memchr.result c.memchr.ensures
