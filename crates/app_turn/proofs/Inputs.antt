-- What an inbox answers is what its input reads.
use Rattle.std.proofs.Common.{ℕ, ◌+◌, ◌<◌, ◌≤◌, ◌≡◌, ◌⊎◌, inl, inr, refl, ◌∙◌, ap, subst, List, [], ◌∷◌, map, length, get_or, pos}
use Rattle.std.specs.Prelude.{⊤}
use Rattle.std.specs.List.{AllByRecursion, filter, flat_map}
use Rattle.std.proofs.lemmas.Bool.{cases_lt}
use Rattle.std.proofs.lemmas.List.{get_or_past}
use Rattle.music_base.specs.Numbers.{below, in_order}
use Rattle.music_base.specs.declared.item.Item.{Item}
use Rattle.music_base.specs.declared.item.Item.TheVariants.{Event, Value, Message}
use Rattle.index_maps.specs.Maps.{indices}
use Rattle.scene_model.specs.Clocks.{clock, steps, wanted}
use Rattle.scene_model.specs.Faults.{IsFaultless}
use Rattle.scene_model.specs.Lives.{input_by}
use Rattle.scene_model.specs.Scenes.{input_of, link_at, links_to, output_of, port_at, sender}
use Rattle.music_base.specs.Items.{IsMessageWithin}
use Rattle.scene_model.specs.Tables.{IsEventWithin, IsProper, IsProperBlock, Sent, Table, arrivals, arrives, block_on, coming, sent_cmp, value}
use Rattle.scene_model.specs.declared.scene.Scene.{Scene}
use Rattle.scene_model.specs.declared.port.PortDecl.{PortDecl}
use Rattle.scene_model.specs.declared.port.PortKind.{PortKind}
use Rattle.scene_model.specs.declared.port.PortKind.TheVariants.{Events, Messages, Values}
use Rattle.scene_model.specs.declared.port.Direction.{Direction}
use Rattle.scene_model.specs.declared.port.Direction.TheVariants.{Output}
use Rattle.scene_model.proofs.Faultless.{connection_is}
use Rattle.scene_model.proofs.Feeds.{IsLinkTo, input_is, links_lead}
use Rattle.music_base.proofs.Lists.{All-of, All-flat_map, All-map, All-weaker}
use Rattle.port_inbox.proofs.Sampling.{read_is}
use Rattle.music_base.proofs.Lists.{All-filter, All-in_order}
use Rattle.port_inbox.specs.Holding.{HasWanted, HoldsFrom, IsFed, IsTold, arrival_of, heard, heard_of, words_heard}
use Rattle.port_inbox.specs.Inboxes.{Inbox}
use Rattle.port_inbox.specs.Samples.{HoldsSamples, IsSampled, Samples, read}
use Rattle.rule_turns.specs.Turning.{IsInput}
use Rattle.rule_turns.specs.Plans.{value_indices}
use Rattle.scene_model.proofs.ProperLives.{are_values}
use Rattle.port_inbox.specs.declared.arrivals.Heard.{Heard}
use Rattle.app_turn.specs.PortInboxes.{HoldsAt, IsPortInbox, message_of, only_link}
use Rattle.port_inbox.specs.Arrivals.{event_of}
use Rattle.app_turn.specs.declared.inbox.PortInbox.{PortInbox}
use Rattle.app_turn.specs.declared.inbox.PortInbox.TheVariants.{Silent, Unfed, Hears, Listens, Follows}

-- ---- what a connection brings

-- a block of a proper table on a connection of this kind
brings : (scene : Scene) → IsFaultless scene → (table : Table) → IsProper scene table → (c : ℕ) → c < length scene.links → (kind : PortKind) → (input_of scene c).kind ≡ kind
    → (P : List Item → Type 0) → P [] → ((from to : ℕ) (items : List Item) → IsProperBlock Output kind (output_of scene c) from to items → P items) → (k : ℕ) → P (block_on scene table c k)
brings scene fine table proper c small kind is P none each k = go (cases_lt k (length (get_or table (sender scene c) [])))
  where
    B : Direction → PortKind → Type 0
    B d q = IsProperBlock d q (output_of scene c) (clock scene (sender scene c) k) (clock scene (sender scene c) (k + 1)) (block_on scene table c k)

    go : (k < length (get_or table (sender scene c) [])) ⊎ (length (get_or table (sender scene c) []) ≤ k) → P (block_on scene table c k)
    go (inl l) =
        let link = connection_is scene fine c small in
        let it : B (output_of scene c).direction (output_of scene c).kind = proper.blocks (sender scene c) k (link_at scene c).from_port link.from_app l link.from_port in
        let kinds : (output_of scene c).kind ≡ kind = link.of_one_kind ∙ is in
        each _ _ _ (subst (λ q. B Output q) kinds (subst (λ d. B d (output_of scene c).kind) link.from_output it))
    go (inr past) = rw (get_or_past (get_or table (sender scene c) []) k [] past) none

-- each arrival at an input is one of the items of a block
arrivals_all : (scene : Scene) (table : Table) (b p j : ℕ) (P : Item → Type 0) → ((c : ℕ) → IsLinkTo scene b p c → (k : ℕ) → AllByRecursion P (block_on scene table c k)) → AllByRecursion P (arrivals scene table b p j)
unfolding arrivals
arrivals_all scene table b p j P each =
    All-map P (λ (s : Sent). s.item) (in_order sent_cmp (flat_map (coming scene table j) (links_to scene b p)))
    (All-in_order (λ (s : Sent). P s.item) sent_cmp (flat_map (coming scene table j) (links_to scene b p))
    (All-flat_map (λ (s : Sent). P s.item) (coming scene table j) (links_to scene b p)
    (All-weaker (IsLinkTo scene b p) (λ c. AllByRecursion (λ (s : Sent). P s.item) (coming scene table j c)) over (links_to scene b p) (links_lead scene b p))))
  where
    over : (c : ℕ) → IsLinkTo scene b p c → AllByRecursion (λ (s : Sent). P s.item) (coming scene table j c)
    over c at = All-flat_map (λ (s : Sent). P s.item) (λ k. map (λ item. record { item = item; app = sender scene c; port = (link_at scene c).from_port }) (filter (arrives scene c j) (block_on scene table c k))) (below (steps scene (sender scene c)))
        (All-of (λ k. AllByRecursion (λ (s : Sent). P s.item) (map (λ item. record { item = item; app = sender scene c; port = (link_at scene c).from_port }) (filter (arrives scene c j) (block_on scene table c k)))) (λ k. All-map (λ (s : Sent). P s.item) (λ item. record { item = item; app = sender scene c; port = (link_at scene c).from_port }) (filter (arrives scene c j) (block_on scene table c k))
        (All-filter P (arrives scene c j) (block_on scene table c k) (each c at k)))
        (below (steps scene (sender scene c))))

-- ---- arrivals are items again

abbrev IsOfEvent : Item → Type 0
IsOfEvent (Event e) = ⊤
IsOfEvent _ = ⊥

abbrev IsOfMessage : Item → Type 0
IsOfMessage (Message m) = ⊤
IsOfMessage _ = ⊥

event_within : (port : PortDecl) (from to : ℕ) (item : Item) → IsEventWithin port from to item → IsOfEvent item
event_within port from to (Event e) h = tt
event_within port from to (Value g v) h = absurd h
event_within port from to (Message m) h = absurd h

message_within : (from to : ℕ) (item : Item) → IsMessageWithin from to item → IsOfMessage item
message_within from to (Event e) h = absurd h
message_within from to (Value g v) h = absurd h
message_within from to (Message m) h = tt

events_again : (scene : Scene) (b p : ℕ) (xs : List Item) → AllByRecursion IsOfEvent xs → map event_of (map (arrival_of (port_at scene b p).map) xs) ≡ xs
events_again scene b p [] h = refl
events_again scene b p (Event e ∷ xs) h = ap (λ ys. Event e ∷ ys) (events_again scene b p xs h.1)
events_again scene b p (Value g v ∷ xs) h = absurd h.0
events_again scene b p (Message m ∷ xs) h = absurd h.0

words_again : (xs : List Item) → AllByRecursion IsOfMessage xs → map message_of (map heard_of xs) ≡ xs
words_again [] h = refl
words_again (Event e ∷ xs) h = absurd h.0
words_again (Value g v ∷ xs) h = absurd h.0
words_again (Message m ∷ xs) h = ap (λ ys. Message m ∷ ys) (words_again xs h.1)

-- ---- a port

module _ (scene : Scene) (fine : IsFaultless scene) (table : Table) (proper : IsProper scene table) (b p j : ℕ) where
  abbrev reads : List Item → Type 0
  reads items = items ≡ input_by (port_at scene b p).direction (port_at scene b p).kind scene table b j p

  kind_of : (kind : PortKind) → (port_at scene b p).kind ≡ kind → (c : ℕ) → IsLinkTo scene b p c → (input_of scene c).kind ≡ kind
  kind_of kind is c at = ap (λ (q : PortDecl). q.kind) (input_is scene b p c at) ∙ is

  pub reads_nothing : IsPortInbox scene b p j Silent → reads []
  reads_nothing here = rw here refl

  pub reads_zeros : IsPortInbox scene b p j Unfed → reads (map (λ g. Value g (pos 0)) (indices (port_at scene b p).map))
  unfolding value
  reads_zeros here = rw (here.0, here.1, here.2) refl

  pub reads_events : (inbox : Inbox) → IsPortInbox scene b p j (Hears inbox) → HasWanted scene b p inbox j → HoldsFrom scene b p inbox.lines table j
      → IsFed scene b p inbox table j × (map event_of (heard scene table b p j) ≡ input_by (port_at scene b p).direction (port_at scene b p).kind scene table b j p)
  reads_events inbox here wants holds = (
    record { faultless = fine; carries = here.0.carries; proper = proper; made = record { lined = here.0.lined; routed = here.1 }; holds = holds; has_wanted = wants },
    rw (here.0.input, here.0.carries) (events_again scene b p (arrivals scene table b p j) (arrivals_all scene table b p j IsOfEvent
        (λ c at. brings scene fine table proper c at.0 Events (kind_of Events here.0.carries c at) (AllByRecursion IsOfEvent) tt
        (λ from to items h. All-weaker (IsEventWithin (output_of scene c) from to) IsOfEvent (event_within (output_of scene c) from to) items h)))),
  )

  pub reads_words : (inbox : Inbox) → IsPortInbox scene b p j (Listens inbox) → HasWanted scene b p inbox j → HoldsFrom scene b p inbox.lines table j
      → IsTold scene b p inbox table j × (map message_of (words_heard scene table b p j) ≡ input_by (port_at scene b p).direction (port_at scene b p).kind scene table b j p)
  reads_words inbox here wants holds = (
    record { faultless = fine; carries = here.0.carries; proper = proper; made = record { lined = here.0.lined; no_routes = here.1 }; holds = holds; has_wanted = wants },
    rw (here.0.input, here.0.carries) (words_again (arrivals scene table b p j) (arrivals_all scene table b p j IsOfMessage
        (λ c at. brings scene fine table proper c at.0 Messages (kind_of Messages here.0.carries c at) (AllByRecursion IsOfMessage) tt
        (λ from to items h. All-weaker (IsMessageWithin from to) IsOfMessage (message_within from to) items h)))),
  )

  each_read : (s : Samples) → IsSampled scene b p (only_link scene b p) s table j → (gs : List ℕ) → map (λ g. Value g (read s j g)) gs ≡ map (λ g. Value g (value scene table b p j g)) gs
  each_read s fed [] = refl
  each_read s fed (g ∷ gs) = rw (read_is scene b p (only_link scene b p) s table j fed g, each_read s fed gs) refl

  pub reads_values : (s : Samples) → IsPortInbox scene b p j (Follows s) → s.admitted ≡ wanted scene (only_link scene b p) j → HoldsSamples scene (only_link scene b p) s table
      → reads (map (λ g. Value g (read s j g)) (indices (port_at scene b p).map))
  reads_values s here wants holds =
      rw (here.input, here.carries) (each_read s (record { faultless = fine; carries = here.carries; proper = proper; made = here.made; holds = holds; has_wanted = wants }) (indices (port_at scene b p).map))

-- ---- as code has them

module _ (scene : Scene) (fine : IsFaultless scene) (b p j : ℕ) (x : PortInbox) (here : IsPortInbox scene b p j x) (gs : List ℕ) (globals : gs ≡ value_indices (port_at scene b p).kind (port_at scene b p).map) where
  abbrev Reads : List Item → Type 0
  Reads items = (table : Table) → IsProper scene table → HoldsAt scene b p j x table → items ≡ input_by (port_at scene b p).direction (port_at scene b p).kind scene table b j p

  indices_are : (port_at scene b p).kind ≡ Values → gs ≡ indices (port_at scene b p).map
  indices_are kind = rw kind at globals

  pub unfed_as : x ≡ Unfed → (items : List Item) → items ≡ map (λ g. Value g (pos 0)) gs → Reads items
  unfed_as e items is table proper holds =
      let at : IsPortInbox scene b p j Unfed = rw e at here in
      is ∙ ap (map (λ g. Value g (pos 0))) (indices_are at.1) ∙ reads_zeros scene fine table proper b p j at

  pub hears_as : (inbox : Inbox) → x ≡ Hears inbox → HasWanted scene b p inbox j → (items : List Item)
      → ((table : Table) → IsFed scene b p inbox table j → items ≡ map event_of (heard scene table b p j)) → Reads items
  hears_as inbox e wants items answers table proper holds =
      let at : IsPortInbox scene b p j (Hears inbox) = rw e at here in
      let kept : HoldsFrom scene b p inbox.lines table j = rw e at holds in
      let r = reads_events scene fine table proper b p j inbox at wants kept in
      answers table r.0 ∙ r.1

  pub listens_as : (inbox : Inbox) → x ≡ Listens inbox → HasWanted scene b p inbox j → (ys : List Heard)
      → ((table : Table) → IsTold scene b p inbox table j → ys ≡ words_heard scene table b p j) → (items : List Item) → items ≡ map message_of ys → Reads items
  listens_as inbox e wants ys answers items is table proper holds =
      let at : IsPortInbox scene b p j (Listens inbox) = rw e at here in
      let kept : HoldsFrom scene b p inbox.lines table j = rw e at holds in
      let r = reads_words scene fine table proper b p j inbox at wants kept in
      is ∙ ap (map message_of) (answers table r.0) ∙ r.1

  pub follows_as : (s : Samples) → x ≡ Follows s → s.admitted ≡ wanted scene (only_link scene b p) j → (items : List Item) → items ≡ map (λ g. Value g (read s j g)) gs → Reads items
  follows_as s e wants items is table proper holds =
      let at : IsPortInbox scene b p j (Follows s) = rw e at here in
      let kept : HoldsSamples scene (only_link scene b p) s table = rw e at holds in
      is ∙ ap (map (λ g. Value g (read s j g))) (indices_are at.carries) ∙ reads_values scene fine table proper b p j s at wants kept

  -- and whatever table there is, they have their shape
  pub shaped_nothing : x ≡ Silent → IsInput (port_at scene b p).direction (port_at scene b p).kind (port_at scene b p) []
  shaped_nothing e = let at : IsPortInbox scene b p j Silent = rw e at here in rw at tt

  pub shaped_unfed : x ≡ Unfed → (items : List Item) → items ≡ map (λ g. Value g (pos 0)) gs → IsInput (port_at scene b p).direction (port_at scene b p).kind (port_at scene b p) items
  shaped_unfed e items is =
      let at : IsPortInbox scene b p j Unfed = rw e at here in
      rw (at.0, at.1, is, indices_are at.1) (are_values (λ g. pos 0) (indices (port_at scene b p).map))

  pub shaped_events : (inbox : Inbox) → x ≡ Hears inbox → (items : List Item) → IsInput (port_at scene b p).direction (port_at scene b p).kind (port_at scene b p) items
  shaped_events inbox e items = let at : IsPortInbox scene b p j (Hears inbox) = rw e at here in rw (at.0.input, at.0.carries) tt

  pub shaped_words : (inbox : Inbox) → x ≡ Listens inbox → (items : List Item) → IsInput (port_at scene b p).direction (port_at scene b p).kind (port_at scene b p) items
  shaped_words inbox e items = let at : IsPortInbox scene b p j (Listens inbox) = rw e at here in rw (at.0.input, at.0.carries) tt

  pub shaped_values : (s : Samples) → x ≡ Follows s → (items : List Item) → items ≡ map (λ g. Value g (read s j g)) gs → IsInput (port_at scene b p).direction (port_at scene b p).kind (port_at scene b p) items
  shaped_values s e items is =
      let at : IsPortInbox scene b p j (Follows s) = rw e at here in
      rw (at.input, at.carries, is, indices_are at.carries) (are_values (read s j) (indices (port_at scene b p).map))
