-- Blocks of values that are kept.
use Rattle.std.specs.Prelude.{ℕ, ◌+◌, ◌-◌, ◌^◌, ◌≤◌, min, ◌≡◌, ◌==◌, Bool, true, false, List, [], ◌∷◌, ◌++◌, map, ℤ, pos, Option, None, Some, IfSome, ⊤}
use Rattle.std.specs.Borrow.{Bor}
use Rattle.std.specs.Option.{option_to_list}
use Rattle.music_base.specs.Items.{AreValues}
use Rattle.music_base.specs.declared.item.Block.{Block}
use Rattle.music_base.specs.declared.item.Item.{Item}
use Rattle.music_base.specs.declared.item.Item.TheVariants.{Value}
use Rattle.scene_model.specs.Tables.{value_in}
use Rattle.port_inbox.specs.Due.{items_numbered}
use Rattle.port_inbox.specs.declared.kept_sample.KeptSample.{KeptSample}
use Rattle.port_inbox.specs.declared.kept_samples.KeptSamples.{KeptSamples}

abbrev pub is_value_of : Item → ℕ → Bool
is_value_of (Value global value) index = global == index
is_value_of _ index = false

-- indices that ascend
abbrev pub AscendFrom : ℕ → List ℕ → Type 0
AscendFrom low [] = ⊤
AscendFrom low (g ∷ gs) = (low ≤ g) × AscendFrom (g + 1) gs

abbrev pub AreIndices : List ℕ → Type 0
AreIndices indices = AscendFrom 0 indices

-- where the block is known to be regular it is
abbrev pub IsKept : List ℕ → KeptSample → Type 0
IsKept indices kept = kept.is_regular ≡ true → AreValues indices kept.block.items

-- the blocks themselves, the earlier one first
abbrev pub blocks_kept : KeptSamples → List Block
blocks_kept s = map (λ kept. kept.block) (option_to_list s.earlier ++ option_to_list s.latest)

-- the value of an index in a block, and 0 where there is no block
abbrev pub value_kept : Option (Bor KeptSample) → ℕ → ℤ
value_kept None g = pos 0
value_kept (Some kept) g = value_in kept.now.block.items g

-- sample k of an index, or the last one before it
abbrev pub sample_kept : KeptSamples → ℕ → ℕ → ℤ
sample_kept s g k = value_in (items_numbered (blocks_kept s) (min k (s.admitted - 1))) g

-- the indices ascend, the blocks are kept as they should be, and there is no earlier block without a later one
pub record AreKept (s : KeptSamples) : Type 0 where
  pub ascend : AreIndices s.indices
  pub is_earlier : IfSome s.earlier (IsKept s.indices)
  pub is_latest : IfSome s.latest (IsKept s.indices)
  pub both : s.latest ≡ None → s.earlier ≡ None

-- numbers in their ranges, beside samples
pub record AreReadable (delay send_tick receive_tick send_start receive_start : ℕ) (samples : KeptSamples) : Type 0 where
  pub late : delay ≤ 10 ^ 16
  pub some_tick : 1 ≤ send_tick
  pub sends : send_tick ≤ 10 ^ 12
  pub receives : receive_tick ≤ 10 ^ 12
  pub sends_from : send_start ≤ 10 ^ 15
  pub receives_from : receive_start ≤ 10 ^ 15
  pub kept : AreKept samples
