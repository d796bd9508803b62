-- What a delivery forgets is not due in its step, so a second delivery of the step answers the same.
use Rattle.std.proofs.Common.{inl, inr, ℕ, ◌≡◌, refl, ap, List, [], ◌∷◌, map, Bool, false, Option, None}
use Rattle.std.specs.List.{filter, filter_map, flat_map, list_any}
use Rattle.std.proofs.lemmas.Bool.{cases_Bool, or_parts}
use Rattle.music_base.specs.Clocks.{due_step_from}
use Rattle.music_base.specs.Numbers.{in_order}
use Rattle.music_base.specs.declared.item.Block.{Block}
use Rattle.music_base.specs.declared.item.Item.{Item}
use Rattle.music_base.specs.declared.item.Item.TheVariants.{Event, Message, Value}
use Rattle.scene_model.specs.Tables.{Sent, sent_cmp}
use Rattle.event_routes.specs.Routing.{Route}
use Rattle.port_inbox.specs.Arrivals.{Waiting, delivered, line_waiting, paired, waiting, waiting_cmp}
use Rattle.port_inbox.specs.Due.{falls_from}
use Rattle.port_inbox.specs.Holding.{heard_of}
use Rattle.port_inbox.specs.Inboxes.{Inbox, Line, forgotten, moved_to}
use Rattle.port_inbox.specs.Words.{line_said, said, words_delivered}
use Rattle.port_inbox.specs.declared.arrivals.InboxLink.{InboxLink}
use Rattle.port_inbox.proofs.Answering.{not_now}

-- nothing is found in the blocks that are left out, where nothing is found in an item that the test fails
left_out : {W : Type 0} (test : Item → Bool) (find : Item → Option W) → ((item : Item) → test item ≡ false → find item ≡ None) → (blocks : List Block)
    → flat_map (λ (block : Block). filter_map find block.items) (filter (λ (block : Block). list_any test block.items) blocks) ≡ flat_map (λ (block : Block). filter_map find block.items) blocks
left_out test find none [] = refl
left_out {W} test find none (block ∷ blocks) = elim (cases_Bool (list_any test block.items)) [
  | inl some ↦ rw (some, left_out test find none blocks) refl
  | inr past ↦ rw (past, nothing block.items past, left_out test find none blocks) refl
]
  where
    nothing : (items : List Item) → list_any test items ≡ false → filter_map find items ≡ []
    nothing [] h = refl
    nothing (item ∷ items) h = let parts = or_parts (test item) (list_any test items) h in rw (none item parts.0, nothing items parts.1) refl

none_waits : (start tick step : ℕ) (link : InboxLink) (routes : List Route) (item : Item) → falls_from start tick step link.latency item ≡ false → waiting start tick step link routes item ≡ None
unfolding waiting
none_waits start tick step link routes (Event e) h = rw (not_now step (due_step_from e.time link.latency start tick) h) refl
none_waits start tick step link routes (Message m) h = refl
none_waits start tick step link routes (Value global value) h = refl

none_said : (start tick step : ℕ) (link : InboxLink) (item : Item) → falls_from start tick step link.latency item ≡ false → said start tick step link item ≡ None
unfolding said
none_said start tick step link (Event e) h = refl
none_said start tick step link (Message m) h = rw (not_now step (due_step_from m.time link.latency start tick) h) refl
none_said start tick step link (Value global value) h = refl

pub delivered_again : (step : ℕ) (inbox : Inbox) → delivered step (moved_to step inbox) ≡ delivered step inbox
unfolding delivered
delivered_again step inbox = ap (λ ws. map (λ (w : Waiting). w.arrival) (in_order waiting_cmp ws)) (over inbox.lines inbox.routes)
  where
    over : (lines : List Line) (routes : List (List Route))
        → flat_map (line_waiting inbox.start inbox.tick step) (paired (map (forgotten inbox.start inbox.tick step) lines) routes) ≡ flat_map (line_waiting inbox.start inbox.tick step) (paired lines routes)
    over [] routes = refl
    over (l ∷ lines) [] = refl
    over (l ∷ lines) (r ∷ routes) =
        rw (left_out (falls_from inbox.start inbox.tick step l.link.latency) (waiting inbox.start inbox.tick step l.link r) (none_waits inbox.start inbox.tick step l.link r) l.kept, over lines routes) refl

pub words_again : (step : ℕ) (inbox : Inbox) → words_delivered step (moved_to step inbox) ≡ words_delivered step inbox
unfolding words_delivered
words_again step inbox = ap (λ sent. map (λ (s : Sent). heard_of s.item) (in_order sent_cmp sent)) (over inbox.lines)
  where
    over : (lines : List Line) → flat_map (line_said inbox.start inbox.tick step) (map (forgotten inbox.start inbox.tick step) lines) ≡ flat_map (line_said inbox.start inbox.tick step) lines
    over [] = refl
    over (l ∷ lines) = rw (left_out (falls_from inbox.start inbox.tick step l.link.latency) (said inbox.start inbox.tick step l.link) (none_said inbox.start inbox.tick step l.link) l.kept, over lines) refl
