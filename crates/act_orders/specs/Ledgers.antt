-- What a ledger keeps true of itself.
use Rattle.std.specs.Prelude.{ℕ, ◌<◌, ◌≡◌, List, length, map, slice_index}
use Rattle.music_base.specs.Numbers.{below}
use Rattle.scene_model.specs.Clocks.{steps, wanted, wanted_blocks}
use Rattle.scene_model.specs.Faults.{IsFaultless}
use Rattle.scene_model.specs.Orders.{Counts, IsAllowed, IsLawful, IsSound, after_all, opening_counts, run_by}
use Rattle.scene_model.specs.Scenes.{receiver}
use Rattle.scene_model.specs.declared.act.Act.{Act}
use Rattle.scene_model.specs.declared.scene.Scene.{Scene}
use Rattle.act_orders.specs.OwnLinks.{into_of, out_of}
use Rattle.act_orders.specs.declared.ledger.Ledger.{Ledger}

-- its counts of steps run, and of blocks put and taken
abbrev pub counts_in : Ledger → Counts
counts_in x = record { run = x.run.items; put = x.put.items; taken = x.taken.items }

-- its counts are sound, and beside them stand what does not change, and how many blocks the next steps need
pub record IsLedger (scene : Scene) (x : Ledger) : Type 0 where
  pub faultless : IsFaultless scene
  pub limit_count : length x.limits.items ≡ length scene.links
  pub sound : IsSound scene x.limits.items (counts_in x)
  pub lasts_are : x.lasts.items ≡ map (steps scene) (below (length scene.apps))
  pub most_are : x.most.items ≡ map (wanted_blocks scene) (below (length scene.links))
  pub into_are : x.into.items ≡ map (into_of scene) (below (length scene.apps))
  pub out_are : x.out.items ≡ map (out_of scene) (below (length scene.apps))
  pub need_count : length x.needs.items ≡ length scene.links
  pub each_need : (c : ℕ) → c < length scene.links → slice_index x.needs.items c ≡ wanted scene c (run_by (counts_in x) (receiver scene c))

-- the act is allowed by what the ledger counts
abbrev pub Allows : Scene → Ledger → Act → Type 0
Allows scene x act = IsAllowed scene x.limits.items (counts_in x) act

-- a ledger in which just these acts were entered, each allowed by those before it
pub record IsAfter (scene : Scene) (limits : List ℕ) (acts : List Act) (x : Ledger) : Type 0 where
  pub kept : IsLedger scene x
  pub limits_are : x.limits.items ≡ limits
  pub lawful : IsLawful scene limits acts
  pub counts_are : counts_in x ≡ after_all (opening_counts scene) acts
