-- The waits of a scene, the limits of its connections, and which scenes are accepted.
use Rattle.std.specs.Prelude.{◌≡◌, ◌≤◌, ◌<◌, ℕ, suc, ◌+◌, ◌*◌, ◌/◌, ◌^◌, min, max, ℤ, pos, ◌-ℤ◌, ◌≤ℤ◌, neg_ℤ, Option, None, Some, IfSome, List, [], ◌∷◌, ◌++◌, map, length, slice_index_or, slice_index, take, drop, All}
use Rattle.std.specs.Int.{IsInRange}
use Rattle.std.specs.List.{flat_map}
use Rattle.std.specs.Option.{option_or}
use Rattle.music_base.specs.Numbers.{below, gcd, floor_to}
use Rattle.scene_model.specs.Scenes.{link_at, sender, receiver, input_of, output_of}
use Rattle.scene_model.specs.Clocks.{tick, allowance}
use Rattle.scene_model.specs.Cover.{AllCovered, HasUncovered, Passes}
use Rattle.scene_model.specs.declared.scene.Scene.{Scene}
use Rattle.scene_model.specs.declared.wait.Wait.{Wait}
use Rattle.scene_model.specs.declared.wait.WaitKind.TheVariants.{ForBlock, ForRoom}

-- ---- the waits of a connection

-- what both ticks are multiples of
abbrev pub common_divisor : Scene → ℕ → ℕ
common_divisor scene c = gcd (tick scene (sender scene c)) (tick scene (receiver scene c))

-- the allowance, rounded down to such multiples, since both clocks are, each counted from its own start
abbrev pub rounded : Scene → ℕ → ℤ
rounded scene c = floor_to (common_divisor scene c) (allowance scene c)

-- the receiver waits for a block
unfoldable pub block_wait : Scene → ℕ → Wait
block_wait scene c = record {
  waiter = receiver scene c;
  awaited = sender scene c;
  link = c;
  kind = ForBlock;
  allowance = rounded scene c;
  burden = pos (tick scene (receiver scene c)) -ℤ pos (common_divisor scene c);
}

-- the sender waits for room, where the connection keeps at most m blocks
unfoldable pub room_wait : Scene → ℕ → ℕ → Wait
room_wait scene c m = record {
  waiter = sender scene c;
  awaited = receiver scene c;
  link = c;
  kind = ForRoom;
  allowance = pos ((m + 1) * tick scene (sender scene c) + tick scene (receiver scene c)) -ℤ rounded scene c;
  burden = pos 0;
}

-- ---- the waits of a scene

-- for each connection its limit, where it has one
abbrev pub Limits : Type 0
Limits = List (Option ℕ)

-- no limit is greater
abbrev pub greatest_limit : ℕ
greatest_limit = 10 ^ 17

-- a limit that is given is at least 1 and at most the greatest
abbrev pub IsLawfulLimit : Option ℕ → Type 0
IsLawfulLimit limit = IfSome limit (IsInRange 1 greatest_limit)

abbrev pub waits_of : Scene → ℕ → Option ℕ → List Wait
waits_of scene c None = block_wait scene c ∷ []
waits_of scene c (Some m) = block_wait scene c ∷ room_wait scene c m ∷ []

-- the waits of each connection under these limits, in the order of the connections
abbrev pub waits : Scene → Limits → List Wait
waits scene limits = flat_map (λ c. waits_of scene c (slice_index_or limits c None)) (below (length scene.links))

-- ---- stated limits

-- so many ticks of the receiver, in whole ticks of the sender
abbrev pub in_sender_ticks : Scene → ℕ → ℕ → ℕ
in_sender_ticks scene c ticks = ticks * tick scene (receiver scene c) / tick scene (sender scene c)

-- what the output and the input state of how many of their ticks are buffered, in ticks of the sender
abbrev pub stated_by : Scene → ℕ → Option ℕ → Option ℕ → Option ℕ
stated_by scene c None None = None
stated_by scene c (Some a) None = Some a
stated_by scene c None (Some b) = Some (max 1 (in_sender_ticks scene c b))
stated_by scene c (Some a) (Some b) = Some (max 1 (min a (in_sender_ticks scene c b)))

abbrev pub at_most : ℕ → Option ℕ → Option ℕ
at_most most None = None
at_most most (Some m) = Some (min m most)

-- the stated limit of a connection: its own, or else what its ends state together
unfoldable pub stated : Scene → ℕ → Option ℕ
stated scene c = at_most greatest_limit (option_or (link_at scene c).buffered (stated_by scene c (output_of scene c).buffered (input_of scene c).buffered))

abbrev pub stated_limits : Scene → Limits
stated_limits scene = map (stated scene) (below (length scene.links))

-- the waits of a scene under its stated limits
abbrev pub stated_waits : Scene → List Wait
stated_waits scene = waits scene (stated_limits scene)

-- ---- accepted scenes

-- a scene is accepted where every cycle of its waits under stated limits is covered
abbrev pub IsAccepted : Scene → Type 0
IsAccepted scene = AllCovered (stated_waits scene)

-- ---- the limits of an accepted scene

-- the limits that count when connection c gets m: those stated, and those chosen before
abbrev pub counting : Scene → List ℕ → ℕ → ℕ → Limits
counting scene limits c m = map (λ l. Some l) (take c limits) ++ Some m ∷ drop (suc c) (stated_limits scene)

-- the least limit with which every cycle that counts is covered
pub record IsLeast (scene : Scene) (limits : List ℕ) (c m : ℕ) : Type 0 where
  pub some : 1 ≤ m
  pub covered : AllCovered (waits scene (counting scene limits c m))
  pub least : (less : ℕ) → 1 ≤ less → less < m → HasUncovered (waits scene (counting scene limits c less))

-- a connection has its stated limit, and one that has none the least
abbrev pub IsLimit : Scene → List ℕ → ℕ → Option ℕ → Type 0
IsLimit scene limits c (Some m) = slice_index limits c ≡ m
IsLimit scene limits c None = IsLeast scene limits c (slice_index limits c)

pub record AreLimits (scene : Scene) (limits : List ℕ) : Type 0 where
  pub counted : length limits ≡ length scene.links
  pub each : (c : ℕ) → c < length limits → IsLimit scene limits c (stated scene c)

-- ---- plans

-- how far a potential lies from zero at most
abbrev pub greatest_potential : ℕ
greatest_potential = 10 ^ 24

-- a plan fits its scene: its numbers are in their ranges, and each wait under its limits passes
pub record Fits (scene : Scene) (limits : List ℕ) (potentials : List ℤ) : Type 0 where
  pub limits_counted : length limits ≡ length scene.links
  pub potentials_counted : length potentials ≡ length scene.apps
  pub limits_from : All (λ m. 1 ≤ m) limits
  pub limits_to : All (λ m. m ≤ greatest_limit) limits
  pub potentials_from : All (λ p. neg_ℤ (pos greatest_potential) ≤ℤ p) potentials
  pub potentials_to : All (λ p. p ≤ℤ pos greatest_potential) potentials
  pub passed : All (Passes (length scene.apps) potentials) (waits scene (map (λ l. Some l) limits))
