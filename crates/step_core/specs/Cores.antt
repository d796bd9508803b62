-- What contracts see of a core, and what is true of its parts.
use Rattle.std.specs.Prelude.{ℕ, ℤ, ◌-◌, ◌<◌, ◌≤◌, ◌≡◌, ◌++◌, ◌↔◌, min, max, List, [], length, map, replicate, slice_index, slice_index_or}
use Rattle.std.specs.List.{flat_map, range_with_len}
use Rattle.circular_buffer.specs.Buffer.{Buffer, buffer}
use Rattle.music_base.specs.Numbers.{below, in_order}
use Rattle.music_base.specs.declared.item.Block.{Block}
use Rattle.scene_model.specs.Clocks.{clock, steps, wanted_blocks}
use Rattle.scene_model.specs.Faults.{IsFaultless}
use Rattle.scene_model.specs.Lives.{history}
use Rattle.scene_model.specs.Logs.{row_cmp, rows, step_rows}
use Rattle.scene_model.specs.Orders.{AllFinished, CanPut, CanTake, Counts, IsAllowed, IsLawful, IsSound, after, after_all, opening_counts, put_on, run_by, taken_from}
use Rattle.scene_model.specs.Scenes.{receiver, sender}
use Rattle.scene_model.specs.Waits.{Fits}
use Rattle.scene_model.specs.declared.act.Act.{Act}
use Rattle.scene_model.specs.declared.row.Row.{Row}
use Rattle.scene_model.specs.declared.scene.Scene.{Scene}
use Rattle.port_inbox.specs.Samples.{table_block}
use Rattle.run_logs.specs.Merging.{rows_of}
use Rattle.app_turn.specs.Machines.{Follows, Machine, put_by, taken_by}
use Rattle.app_turn.specs.Moves.{IsStarted}

-- a scene, the limits of its connections, the counts of what was done, and for each application how many of the steps run
-- have handed out their rows
pub record CoreView : Type 0 where
  pub scene : Scene
  pub limits : List ℕ
  pub counts : Counts
  pub released : List ℕ

-- ---- machines

abbrev pub no_machine : Machine
no_machine = record { scene = record { stop = 0; apps = []; links = [] }; app = 0; ran = 0; put = []; taken = []; state = []; waiting = []; pending = [] }

abbrev pub machine_at : List Machine → ℕ → Machine
machine_at machines a = slice_index_or machines a no_machine

-- the counts of the machines: a connection's puts are counted by its sender, and its takes by its receiver
unfoldable pub counts_of : Scene → List Machine → Counts
counts_of scene machines = record {
  run = map (λ (m : Machine). m.ran) machines;
  put = map (λ c. put_by (machine_at machines (sender scene c)) c) (below (length scene.links));
  taken = map (λ c. taken_by (machine_at machines (receiver scene c)) c) (below (length scene.links));
}

-- the machine is of this application
pub record IsMachineOf (scene : Scene) (a : ℕ) (m : Machine) : Type 0 where
  pub is_scene : m.scene ≡ scene
  pub is_app : m.app ≡ a
  pub puts : length m.put ≡ length scene.links
  pub takes : length m.taken ≡ length scene.links

-- there is a machine for each application, and the counts are its own
pub record AreOwn (scene : Scene) (machines : List Machine) (s : Counts) : Type 0 where
  pub counted : length machines ≡ length scene.apps
  pub each : (a : ℕ) → a < length scene.apps → IsMachineOf scene a (machine_at machines a)
  pub runs : (a : ℕ) → a < length scene.apps → (machine_at machines a).ran ≡ run_by s a
  pub puts : (c : ℕ) → c < length scene.links → put_by (machine_at machines (sender scene c)) c ≡ put_on s c
  pub takes : (c : ℕ) → c < length scene.links → taken_by (machine_at machines (receiver scene c)) c ≡ taken_from s c

-- ---- rings

abbrev pub ring_at : List (Buffer Block) → ℕ → Buffer Block
ring_at rings c = slice_index_or rings c (buffer [] 0)

-- block k of a connection in the history
abbrev pub past_block : Scene → ℕ → ℕ → Block
past_block scene c = table_block scene (history scene) c

-- the blocks of a connection in the history, from one number up to another
abbrev pub past_blocks : Scene → ℕ → ℕ → ℕ → List Block
past_blocks scene c from to = map (past_block scene c) (range_with_len from (to - from))

-- for how many blocks a ring is made: no more than can ever lie in it
abbrev pub room_for : Scene → List ℕ → ℕ → ℕ
room_for scene limits c = min (slice_index limits c) (max 1 (wanted_blocks scene c))

-- a ring holds the blocks of the history that were put and not taken
abbrev pub IsRing : Scene → List ℕ → Counts → ℕ → Buffer Block → Type 0
IsRing scene limits s c ring = ring ≡ buffer (past_blocks scene c (taken_from s c) (put_on s c)) (room_for scene limits c)

-- ---- rows

-- the rows of an application's steps in the history, from one step up to another
abbrev pub past_rows : Scene → ℕ → ℕ → ℕ → List Row
past_rows scene a from to = flat_map (step_rows scene (history scene) a) (range_with_len from (to - from))

-- step k of an application lies before each step that is left: no row that is still to come stands before its rows
abbrev pub IsPast : Scene → Counts → ℕ → ℕ → Type 0
IsPast scene s a k = (b : ℕ) → b < length scene.apps → run_by s b < steps scene b → clock scene a k < clock scene b (run_by s b)

-- Of each application the first steps have handed out their rows, and each of these lies before every step whose rows were not
-- handed out. The rows of the other steps that were run are held.
pub record AreHeld (scene : Scene) (s : Counts) (released : List ℕ) (held : List (List Row)) : Type 0 where
  pub released_counted : length released ≡ length scene.apps
  pub held_counted : length held ≡ length scene.apps
  pub were_run : (a : ℕ) → a < length scene.apps → slice_index released a ≤ run_by s a
  pub in_front : (a b j k : ℕ) → a < length scene.apps → b < length scene.apps →
      j < slice_index released a → slice_index released b ≤ k → k < steps scene b → clock scene a j < clock scene b k
  pub each : (a : ℕ) → a < length scene.apps → rows_of held a ≡ past_rows scene a (slice_index released a) (run_by s a)

-- ---- the core

-- the limits are those of a plan that fits the scene
abbrev pub ArePlanned : Scene → List ℕ → Type 0
ArePlanned scene limits = (potentials : List ℤ) × Fits scene limits potentials

-- what a core keeps true of its parts
pub record IsCore (scene : Scene) (limits : List ℕ) (s : Counts) (released : List ℕ)
    (machines : List Machine) (rings : List (Buffer Block)) (held : List (List Row)) : Type 0 where
  pub faultless : IsFaultless scene
  pub planned : ArePlanned scene limits
  pub sound : IsSound scene limits s
  pub own : AreOwn scene machines s
  pub follow : (a : ℕ) → a < length scene.apps → Follows (machine_at machines a) (history scene)
  pub rings_counted : length rings ≡ length scene.links
  pub each_ring : (c : ℕ) → c < length scene.links → IsRing scene limits s c (ring_at rings c)
  pub are_held : AreHeld scene s released held

-- ---- what contracts say

-- the rows of the steps run that were not released, in order
unfoldable pub rows_so_far : CoreView → List Row
rows_so_far core =
    in_order row_cmp (flat_map (λ a. past_rows core.scene a (slice_index core.released a) (run_by core.counts a)) (below (length core.scene.apps)))

-- the rows of the steps that were released, in order
unfoldable pub rows_out : CoreView → List Row
rows_out core =
    in_order row_cmp (flat_map (λ a. past_rows core.scene a 0 (slice_index core.released a)) (below (length core.scene.apps)))

-- what was released begins the log's rows
abbrev pub BeginsLog : CoreView → Type 0
BeginsLog core = (rest : List Row) × (rows_out core ++ rest ≡ rows core.scene (history core.scene))

-- The rows of all steps that are past were handed out, in order, behind those of the calls before, and nothing else changed.
pub record Released (before : CoreView) (handed : List Row) (after : CoreView) : Type 0 where
  pub same_scene : after.scene ≡ before.scene
  pub same_limits : after.limits ≡ before.limits
  pub same_counts : after.counts ≡ before.counts
  pub counted : length after.released ≡ length before.scene.apps
  pub were_run : (a : ℕ) → a < length before.scene.apps → slice_index after.released a ≤ run_by before.counts a
  pub behind : rows_out after ≡ rows_out before ++ handed
  pub each : (a k : ℕ) → a < length before.scene.apps → k < run_by before.counts a →
      (k < slice_index after.released a) ↔ IsPast before.scene before.counts a k
  pub begins : BeginsLog after
  -- where nothing is left to do, all rows of the log were handed out
  pub all : AllFinished before.scene before.counts → rows_out after ≡ rows before.scene (history before.scene)

-- nothing was done
abbrev pub opened : Scene → List ℕ → CoreView
opened scene limits = record { scene = scene; limits = limits; counts = opening_counts scene; released = replicate (length scene.apps) 0 }

abbrev pub Can : CoreView → Act → Type 0
Can core act = IsAllowed core.scene core.limits core.counts act

-- no block can be taken from the connection, and none put on it
abbrev pub IsStill : CoreView → ℕ → Type 0
IsStill core c = (CanTake core.scene core.counts c → ⊥) × (CanPut core.scene core.limits core.counts c → ⊥)

-- the core did this act, and nothing else that contracts see changed
abbrev pub did : CoreView → Act → CoreView
did core act = record core { counts = after core.counts act }

-- a core to which these acts were done, in this order
pub record IsAfter (scene : Scene) (limits : List ℕ) (acts : List Act) (core : CoreView) : Type 0 where
  pub is_scene : core.scene ≡ scene
  pub are_limits : core.limits ≡ limits
  pub lawful : IsLawful scene limits acts
  pub are_counts : core.counts ≡ after_all (opening_counts scene) acts

-- and that has nothing left to do
pub record IsDone (scene : Scene) (limits : List ℕ) (acts : List Act) (core : CoreView) : Type 0 where
  pub is_after : IsAfter scene limits acts core
  pub finished : AllFinished scene core.counts

-- ---- the parts before any act

-- a machine for each application, which ran no step, and to and from which no block moved
pub record AreStarted (scene : Scene) (machines : List Machine) : Type 0 where
  pub counted : length machines ≡ length scene.apps
  pub each : (a : ℕ) → a < length scene.apps → IsStarted scene a (machine_at machines a)

-- a ring for each connection, each without blocks
abbrev pub empty_rings : Scene → List ℕ → List (Buffer Block)
empty_rings scene limits = map (λ c. buffer [] (room_for scene limits c)) (below (length scene.links))
