-- Blocks that fit their connection's shape, and what of kept blocks shows.
use Rattle.std.proofs.Common.{ℕ, ◌+◌, ◌*◌, ◌<◌, ◌≤◌, ◌≡◌, arith, refl, sym, ◌∙◌, List, [], ◌∷◌, length, Bool, true, false, inl, inr}
use Rattle.std.specs.List.{filter, list_any}
use Rattle.std.proofs.lemmas.Bool.{cases_Bool}
use Rattle.music_base.specs.Clocks.{steps_until}
use Rattle.music_base.proofs.Divisions.{lt-div_ceil}
use Rattle.music_base.specs.declared.item.Item.{Item}
use Rattle.music_base.specs.declared.item.Item.TheVariants.{Event, Value, Message}
use Rattle.music_base.specs.declared.item.Block.{Block}
use Rattle.index_maps.specs.Maps.{indices}
use Rattle.index_maps.proofs.Ascending.{has-indices}
use Rattle.scene_model.specs.Clocks.{clock, span, start, steps, tick}
use Rattle.scene_model.specs.Faults.{IsFaultless}
use Rattle.scene_model.specs.Scenes.{app_at, output_of, sender}
use Rattle.music_base.specs.Items.{AreValues, IsMessageWithin, time_of}
use Rattle.scene_model.specs.Tables.{IsEventWithin, IsProperBlock}
use Rattle.scene_model.specs.declared.scene.Scene.{Scene}
use Rattle.scene_model.specs.declared.port.PortDecl.{PortDecl}
use Rattle.scene_model.specs.declared.port.PortKind.{PortKind}
use Rattle.scene_model.specs.declared.port.PortKind.TheVariants.{Events, Values, Messages}
use Rattle.scene_model.specs.declared.port.Direction.TheVariants.{Output}
use Rattle.scene_model.proofs.Bounds.{timed_at}
use Rattle.scene_model.proofs.Faultless.{app_is, connection_is}
use Rattle.music_base.proofs.Lists.{All-weaker}
use Rattle.port_inbox.specs.Due.{AreShort, left_in}
use Rattle.port_buffers.specs.Shapes.{FitsShape, IsEventOf}
use Rattle.app_turn.specs.Shapes.{shape, shape_by}

-- ---- what a step puts out fits

event_fits : (port : PortDecl) (from to : ℕ) (item : Item) → IsEventWithin port from to item → IsEventOf (indices port.map) from to item
event_fits port from to (Event e) is = (is.0, is.1, has-indices e.global port.map ∙ is.2)
event_fits port from to (Value global value) is = absurd is
event_fits port from to (Message m) is = absurd is

fits_by : (kind : PortKind) (port : PortDecl) (starts ticks k : ℕ) (items : List Item) → IsProperBlock Output kind port (starts + k * ticks) (starts + (k + 1) * ticks) items → FitsShape (shape_by kind port.map starts ticks) (record { number = k; items = items })
fits_by Events port starts ticks k items h = All-weaker (IsEventWithin port (starts + k * ticks) (starts + (k + 1) * ticks)) (IsEventOf (indices port.map) (starts + k * ticks) (starts + (k + 1) * ticks)) (event_fits port (starts + k * ticks) (starts + (k + 1) * ticks)) items h
fits_by Values port starts ticks k items h = h
fits_by Messages port starts ticks k items h = h

pub fits : (scene : Scene) (c k : ℕ) (items : List Item) → IsProperBlock Output (output_of scene c).kind (output_of scene c) (clock scene (sender scene c) k) (clock scene (sender scene c) (k + 1)) items
    → FitsShape (shape scene c) (record { number = k; items = items })
unfolding shape
fits scene c k items h = fits_by (output_of scene c).kind (output_of scene c) (start scene (sender scene c)) (tick scene (sender scene c)) k items h

-- ---- what fits has times that can be added to a latency

event_short : (gs : List ℕ) (low high : ℕ) → high ≤ 10_000_000_000_000_000 → (item : Item) → IsEventOf gs low high item → time_of item ≤ 10_000_000_000_000_000
event_short gs low high h (Event e) is = omega (arith, is.1)
event_short gs low high h (Value global value) is = absurd is
event_short gs low high h (Message m) is = absurd is

message_short : (low high : ℕ) → high ≤ 10_000_000_000_000_000 → (item : Item) → IsMessageWithin low high item → time_of item ≤ 10_000_000_000_000_000
message_short low high h (Event e) is = absurd is
message_short low high h (Value global value) is = absurd is
message_short low high h (Message m) is = omega (arith, is.1)

values_short : (gs : List ℕ) (items : List Item) → AreValues gs items → AreShort items
values_short [] [] h = tt
values_short [] (item ∷ items) h = absurd h
values_short (g ∷ gs) [] h = absurd h
values_short (g ∷ gs) (Value global value ∷ items) h = (omega arith, values_short gs items h.1)
values_short (g ∷ gs) (Event e ∷ items) h = absurd h
values_short (g ∷ gs) (Message m ∷ items) h = absurd h

short_by : (kind : PortKind) (port : PortDecl) (starts ticks : ℕ) (block : Block) → starts + (block.number + 1) * ticks ≤ 10_000_000_000_000_000 → FitsShape (shape_by kind port.map starts ticks) block → AreShort block.items
short_by Events port starts ticks block high h = All-weaker (IsEventOf (indices port.map) (starts + block.number * ticks) (starts + (block.number + 1) * ticks)) (λ item. time_of item ≤ 10_000_000_000_000_000) (event_short (indices port.map) (starts + block.number * ticks) (starts + (block.number + 1) * ticks) high) block.items h
short_by Values port starts ticks block high h = values_short (indices port.map) block.items h
short_by Messages port starts ticks block high h = All-weaker (IsMessageWithin (starts + block.number * ticks) (starts + (block.number + 1) * ticks)) (λ item. time_of item ≤ 10_000_000_000_000_000) (message_short (starts + block.number * ticks) (starts + (block.number + 1) * ticks) high) block.items h

pub short : (scene : Scene) (c : ℕ) (block : Block) → IsFaultless scene → c < length scene.links → block.number < steps scene (sender scene c) → FitsShape (shape scene c) block → AreShort block.items
unfolding shape steps steps_until start
short scene c block ok link small h =
    let sends = (timed_at scene c ok link).sends in
    let app = app_is scene ok (sender scene c) (connection_is scene ok c link).from_app in
    let begins : block.number * tick scene (sender scene c) < span (app_at scene (sender scene c)) = (lt-div_ceil block.number (span (app_at scene (sender scene c))) (tick scene (sender scene c)) sends.tick_from).0 small in
    let start = app.start in
    let stop = app.stop in
    let longest = sends.tick_to in
    short_by (output_of scene c).kind (output_of scene c) (app_at scene (sender scene c)).start (tick scene (sender scene c)) block (omega arith) h

-- ---- forgotten blocks do not show

same_left : (p q : Item → Bool) → ((x : Item) → p x ≡ q x) → (xs : List Item) → list_any p xs ≡ list_any q xs
same_left p q same [] = refl
same_left p q same (x ∷ xs) = rw (same x, same_left p q same xs) refl

pub left_of_forgotten : (p q : Item → Bool) → ((x : Item) → p x ≡ q x) → (bs : List Block) → left_in q (filter (λ (b : Block). list_any p b.items) bs) ≡ left_in q bs
left_of_forgotten p q same [] = refl
left_of_forgotten p q same (b ∷ bs) = elim (cases_Bool (list_any p b.items)) [
  | inl some ↦ let also : list_any q b.items ≡ true = sym (same_left p q same b.items) ∙ some in rw (some, also, left_of_forgotten p q same bs) refl
  | inr none ↦ let also : list_any q b.items ≡ false = sym (same_left p q same b.items) ∙ none in rw (none, also) (left_of_forgotten p q same bs)
]
