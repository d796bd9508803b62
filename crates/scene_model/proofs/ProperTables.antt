-- In a proper table no event or message is before its step, and no application has more steps than it runs.
use Rattle.std.proofs.Common.{ℕ, ◌+◌, ◌<◌, ◌≤◌, ◌≡◌, ◌⊎◌, inl, inr, sym, ap, subst, arith, List, [], ◌∷◌, length}
use Rattle.std.specs.Prelude.{slice_index_or}
use Rattle.std.specs.List.{AllByRecursion}
use Rattle.std.proofs.lemmas.Bool.{cases_lt}
use Rattle.std.proofs.lemmas.List.{get_or_past}
use Rattle.music_base.specs.Items.{AreValues, IsMessageWithin}
use Rattle.music_base.specs.declared.item.Item.{Item}
use Rattle.music_base.specs.declared.item.Item.TheVariants.{Event, Value, Message}
use Rattle.music_base.proofs.Lists.{All-weaker}
use Rattle.index_maps.specs.Maps.{indices}
use Rattle.scene_model.specs.Clocks.{clock, steps}
use Rattle.scene_model.specs.Scenes.{app_at, port_at}
use Rattle.scene_model.specs.Tables.{IsEventWithin, IsProper, IsProperBlock, StepOutput, Table, block, step_of, steps_of}
use Rattle.scene_model.specs.declared.port.Direction.{Direction}
use Rattle.scene_model.specs.declared.port.Direction.TheVariants.{Output, Input}
use Rattle.scene_model.specs.declared.port.PortDecl.{PortDecl}
use Rattle.scene_model.specs.declared.port.PortKind.{PortKind}
use Rattle.scene_model.specs.declared.port.PortKind.TheVariants.{Events, Values, Messages}
use Rattle.scene_model.specs.declared.scene.Scene.{Scene}
use Rattle.scene_model.proofs.Feeds.{IsFrom, IsShort, IsTimely}

event_from : (port : PortDecl) (from to : ℕ) (item : Item) → IsEventWithin port from to item → IsFrom from item
event_from port from to (Event e) h = h.0
event_from port from to (Message m) h = absurd h
event_from port from to (Value global value) h = tt

message_from : (from to : ℕ) (item : Item) → IsMessageWithin from to item → IsFrom from item
message_from from to (Event e) h = absurd h
message_from from to (Message m) h = h.0
message_from from to (Value global value) h = tt

values_from : (from : ℕ) (gs : List ℕ) (items : List Item) → AreValues gs items → AllByRecursion (IsFrom from) items
values_from from [] [] h = tt
values_from from [] (item ∷ items) h = absurd h
values_from from (g ∷ gs) [] h = absurd h
values_from from (g ∷ gs) (Value global value ∷ items) h = (tt, values_from from gs items h.1)
values_from from (g ∷ gs) (Event e ∷ items) h = absurd h
values_from from (g ∷ gs) (Message m ∷ items) h = absurd h

block_from : (direction : Direction) (kind : PortKind) (port : PortDecl) (from to : ℕ) (items : List Item) → IsProperBlock direction kind port from to items → AllByRecursion (IsFrom from) items
block_from Input kind port from to items h = subst (AllByRecursion (IsFrom from)) (sym h) tt
block_from Output Events port from to items h = All-weaker (IsEventWithin port from to) (IsFrom from) (event_from port from to) items h
block_from Output Messages port from to items h = All-weaker (IsMessageWithin from to) (IsFrom from) (message_from from to) items h
block_from Output Values port from to items h = values_from from (indices port.map) items h

pub proper_timely : (scene : Scene) (table : Table) → IsProper scene table → IsTimely scene table
proper_timely scene table proper a k p = go (cases_lt a (length scene.apps)) (cases_lt k (length (steps_of table a))) (cases_lt p (length (app_at scene a).ports))
  where
    none : step_of table a k ≡ [] → AllByRecursion (IsFrom (clock scene a k)) (block table a k p)
    none e = subst (λ (o : StepOutput). AllByRecursion (IsFrom (clock scene a k)) (slice_index_or o p [])) (sym e) tt

    go : (a < length scene.apps) ⊎ (length scene.apps ≤ a) → (k < length (steps_of table a)) ⊎ (length (steps_of table a) ≤ k) → (p < length (app_at scene a).ports) ⊎ (length (app_at scene a).ports ≤ p)
        → AllByRecursion (IsFrom (clock scene a k)) (block table a k p)
    go (inl app) (inl small) (inl port) = block_from (port_at scene a p).direction (port_at scene a p).kind (port_at scene a p) (clock scene a k) (clock scene a (k + 1)) (block table a k p) (proper.blocks a k p app small port)
    go (inl app) (inl small) (inr past) = let e : block table a k p ≡ [] = get_or_past (step_of table a k) p [] (omega (arith, proper.ports a k app small)) in subst (AllByRecursion (IsFrom (clock scene a k))) (sym e) tt
    go (inl app) (inr past) h = none (get_or_past (steps_of table a) k [] past)
    go (inr past) g h = none (ap (λ (row : List StepOutput). slice_index_or row k []) (get_or_past table a [] (omega (arith, proper.apps))))

pub proper_short : (scene : Scene) (table : Table) → IsProper scene table → IsShort scene table
proper_short scene table proper = record { rows = λ a. go a (cases_lt a (length scene.apps)) }
  where
    go : (a : ℕ) → (a < length scene.apps) ⊎ (length scene.apps ≤ a) → length (steps_of table a) ≤ steps scene a
    go a (inl app) = proper.steps a app
    go a (inr past) = let e : steps_of table a ≡ [] = get_or_past table a [] (omega (arith, proper.apps)) in rw e (omega arith)
