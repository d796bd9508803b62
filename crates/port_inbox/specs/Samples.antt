-- An inbox for values, and what it reads.
use Rattle.std.specs.Prelude.{ℕ, ◌+◌, ◌-◌, ◌*◌, ◌<◌, ◌≤◌, ◌≡◌, ◌==◌, min, Bool, false, nat_lt, if◌then◌else◌, List, [], ◌∷◌, ◌++◌, length, map, ℤ, pos, ◌+ℤ◌, ◌-ℤ◌, ◌*ℤ◌, Option, None, Some, slice_index_or}
use Rattle.std.specs.List.{list_any, range_with_len}
use Rattle.music_base.specs.Numbers.{floor_div}
use Rattle.music_base.specs.declared.item.Block.{Block}
use Rattle.music_base.specs.declared.item.Item.{Item}
use Rattle.music_base.specs.declared.item.Item.TheVariants.{Value}
use Rattle.scene_model.specs.Clocks.{delay, start, tick, wanted}
use Rattle.scene_model.specs.Faults.{IsFaultless}
use Rattle.scene_model.specs.Scenes.{input_of, links_to, port_at, sender}
use Rattle.scene_model.specs.Tables.{IsProper, Table, block_on, reading, steps_of, value_in}
use Rattle.scene_model.specs.declared.scene.Scene.{Scene}
use Rattle.scene_model.specs.declared.port.PortKind.TheVariants.{Values}
use Rattle.port_inbox.specs.Due.{items_numbered}

-- ---- samples

-- the count of blocks admitted, the last two of them, and what they are read by
pub record Samples : Type 0 where
  pub admitted : ℕ
  pub kept : List Block
  pub delay : ℕ
  pub interpolate : Bool
  pub send_tick : ℕ
  pub receive_tick : ℕ
  pub send_start : ℕ
  pub receive_start : ℕ

-- before the first block
abbrev pub fresh_samples : ℕ → Bool → ℕ → ℕ → ℕ → ℕ → Samples
fresh_samples delay interpolate send_tick receive_tick send_start receive_start = record {
  admitted = 0;
  kept = [];
  delay = delay;
  interpolate = interpolate;
  send_tick = send_tick;
  receive_tick = receive_tick;
  send_start = send_start;
  receive_start = receive_start;
}

-- the last of the blocks, alone
abbrev pub last_one : List Block → List Block
last_one [] = []
last_one (x ∷ []) = x ∷ []
last_one (x ∷ y ∷ blocks) = last_one (y ∷ blocks)

-- one block more: the last that was kept stays, and what was before it goes
abbrev pub with_sample : Samples → Block → Samples
with_sample s block = record s { admitted = s.admitted + 1; kept = last_one s.kept ++ block ∷ [] }

-- sample k of an index, or the last one before it
unfoldable pub sample_at : Samples → ℕ → ℕ → ℤ
sample_at s g k = value_in (items_numbered s.kept (min k (s.admitted - 1))) g

-- what step j reads: 0 where its clock lies before the first sample, which is one of the sender's start, and the delay
unfoldable pub read : Samples → ℕ → ℕ → ℤ
read s j g =
    let now = s.receive_start + j * s.receive_tick in
    let first = s.send_start + s.delay in
    if nat_lt now first then pos 0 else reading s.interpolate (sample_at s g) s.send_tick (now - first)

-- ---- of a connection

pub record IsSamplesOf (scene : Scene) (b p c : ℕ) (s : Samples) : Type 0 where
  pub only : links_to scene b p ≡ c ∷ []
  pub behind : s.delay ≡ delay scene c
  pub between : s.interpolate ≡ (input_of scene c).interpolate
  pub sends : s.send_tick ≡ tick scene (sender scene c)
  pub receives : s.receive_tick ≡ tick scene b
  pub sends_from : s.send_start ≡ start scene (sender scene c)
  pub receives_from : s.receive_start ≡ start scene b

-- the numbers below n that are n - 2 or more
abbrev pub last_two : ℕ → List ℕ
last_two n = range_with_len (n - 2) (min 2 n)

-- block k of a connection in a table
abbrev pub table_block : Scene → Table → ℕ → ℕ → Block
table_block scene table c k = record { number = k; items = block_on scene table c k }

-- the table has every block below the count, and the last two of these are kept
pub record HoldsSamples (scene : Scene) (c : ℕ) (s : Samples) (table : Table) : Type 0 where
  pub there : s.admitted ≤ length (steps_of table (sender scene c))
  pub last : s.kept ≡ map (table_block scene table c) (last_two s.admitted)

-- an inbox that was made for the one connection to a continuous input, that holds a proper table, and to which just the
-- blocks that a step wants were admitted
pub record IsSampled (scene : Scene) (b p c : ℕ) (s : Samples) (table : Table) (step : ℕ) : Type 0 where
  pub faultless : IsFaultless scene
  pub carries : (port_at scene b p).kind ≡ Values
  pub proper : IsProper scene table
  pub made : IsSamplesOf scene b p c s
  pub holds : HoldsSamples scene c s table
  pub has_wanted : s.admitted ≡ wanted scene c step

-- ---- values by the places of their indices

-- the value of an item, and 0 of one that is no value
abbrev pub value_of : Item → ℤ
value_of (Value global value) = value
value_of _ = pos 0

-- an index stands at a place of a list, or nowhere
abbrev pub IsPlaceOf : List ℕ → ℕ → Option ℕ → Type 0
IsPlaceOf indices g None = list_any (λ i. i == g) indices ≡ false
IsPlaceOf indices g (Some place) = (place < length indices) × (slice_index_or indices place 0 ≡ g)

-- a value and a part of the way to the next one, rounded down; with no weight the value itself
abbrev pub point_between : ℤ → ℤ → ℕ → ℕ → ℤ
point_between first next tick weight = if weight == 0 then first else first +ℤ floor_div ((next -ℤ first) *ℤ pos weight) tick

-- the same from sample k on
abbrev pub point : (ℕ → ℤ) → ℕ → ℕ → ℕ → ℤ
point samples tick k weight = point_between (samples k) (samples (k + 1)) tick weight
