-- A source and a sink in memory, of which all is told.
use Rattle.std.specs.Prelude.{ℕ, ◌-◌, ◌++◌, List, length, drop, min}
use Rattle.music_base.specs.Causes.{counted}

-- A source: the bytes that it has left, how many it gives at most in one call, the numbers of the calls that fail,
-- and how many calls and faults there were.
pub record SourceInMemory : Type 0 where
  pub left : List ℕ
  pub piece : ℕ
  pub fails : List ℕ
  pub calls : ℕ
  pub faults : ℕ

-- the number of the next call, from 1
abbrev pub next_call : SourceInMemory → ℕ
next_call source = counted source.calls

-- after a call that failed: nothing was given
abbrev pub after_fault : SourceInMemory → SourceInMemory
after_fault source = record source { calls = next_call source; faults = counted source.faults }

-- how many bytes a call gives into a slice of that length: the least of the piece, the length and what is left
abbrev pub given_count : SourceInMemory → ℕ → ℕ
given_count source room = min (min source.piece room) (length source.left)

-- after a call that gave n bytes
abbrev pub after_giving : SourceInMemory → ℕ → SourceInMemory
after_giving source n = record source { left = drop n source.left; calls = next_call source }

-- A sink: the bytes that it took, how many it takes at most in one call, for how many it has room,
-- and how many calls and faults there were.
pub record SinkInMemory : Type 0 where
  pub taken : List ℕ
  pub piece : ℕ
  pub room : ℕ
  pub calls : ℕ
  pub faults : ℕ

-- how many bytes more the sink has room for
abbrev pub room_left : SinkInMemory → ℕ
room_left sink = sink.room - length sink.taken

-- after a call that failed: nothing was taken
abbrev pub after_refusal : SinkInMemory → SinkInMemory
after_refusal sink = record sink { calls = counted sink.calls; faults = counted sink.faults }

-- how many bytes a call takes of so many: the least of the piece, their number and what is left of the room
abbrev pub taken_count : SinkInMemory → ℕ → ℕ
taken_count sink offered = min (min sink.piece offered) (room_left sink)

-- after a call that took these bytes
abbrev pub after_taking : SinkInMemory → List ℕ → SinkInMemory
after_taking sink bytes = record sink { taken = sink.taken ++ bytes; calls = counted sink.calls }
