-- What is found of a table over one connection is what comes over it.
use Rattle.std.proofs.Common.{ℕ, suc, ◌+◌, ◌<◌, ◌≤◌, ◌≡◌, ◌⊎◌, inl, inr, refl, sym, ◌∙◌, ap, arith, List, [], ◌∷◌, map, Bool, true, false, cond, Option, Some, None}
use Rattle.std.specs.Prelude.{is_some, nat_lt, not, ◌==◌, ◌||◌}
use Rattle.std.specs.List.{AllByRecursion, cons_option, filter, filter_map, flat_map, list_any, position}
use Rattle.std.proofs.lemmas.Bool.{cases_Bool, cases_lt, le-leb, le-ltb, lt-ltb, ne_eqb}
use Rattle.index_maps.proofs.Positions.{place_some}
use Rattle.index_maps.specs.Maps.{globals_of, maps_index, rank_count}
use Rattle.index_maps.specs.declared.map.PortMap.{PortMap}
use Rattle.music_base.proofs.Lists.{All-weaker, filter-none, flat_map-agree_within, map-flat_map}
use Rattle.music_base.specs.Numbers.{below}
use Rattle.music_base.specs.declared.item.Block.{Block}
use Rattle.music_base.specs.declared.item.Item.{Item}
use Rattle.music_base.specs.declared.item.Item.TheVariants.{Event, Message, Value}
use Rattle.scene_model.proofs.Feeds.{IsFrom, IsLate, not_arriving}
use Rattle.scene_model.proofs.Wanted.{wanted_before-at_most, wanted_below}
use Rattle.scene_model.specs.Clocks.{clock, due, start, steps, tick, wanted, wants}
use Rattle.scene_model.specs.Due.{is_due_from, is_step_from}
use Rattle.scene_model.specs.Scenes.{input_of, link_at, output_of, receiver, sender}
use Rattle.scene_model.specs.Tables.{IsEventWithin, Sent, Table, arrives, block_on, coming, is_step}
use Rattle.scene_model.specs.WellFormed.{IsWellFormed}
use Rattle.scene_model.specs.declared.scene.Scene.{Scene}
use Rattle.event_routes.specs.Routing.{AreRoutes, routed, target_at, targets_of}
use Rattle.event_routes.specs.Routing.{Route}
use Rattle.event_routes.specs.declared.target.Target.{Target}
use Rattle.port_inbox.specs.Arrivals.{Waiting, no_targets, waiting}
use Rattle.port_inbox.specs.Due.{IsNumbered, falls_in, items_numbered}
use Rattle.port_inbox.specs.Holding.{IsLinkOf, KeepsFrom, arrival_of}
use Rattle.port_inbox.specs.Inboxes.{Line}
use Rattle.port_inbox.specs.Words.{said}
use Rattle.port_inbox.specs.declared.arrivals.InboxLink.{InboxLink}
use Rattle.port_inbox.proofs.Keeping.{due_is}
use Rattle.port_inbox.proofs.Numbered.{numbered_flat, numbered_up}
use Rattle.music_base.specs.Items.{IsMessageWithin}

-- ---- targets and maps

some_targets : (r : ℕ) (place : Option ℕ) (targets : List Target) → not (no_targets (cons_option (target_at r place) targets)) ≡ (is_some place || not (no_targets targets))
some_targets r None targets = refl
some_targets r (Some local) targets = refl

targets_over : (m : PortMap) (g : ℕ) (ranks : List ℕ)
    → not (no_targets (filter_map (λ r. target_at r (position (λ i. i == g) (globals_of m r))) ranks)) ≡ list_any (λ r. list_any (λ i. i == g) (globals_of m r)) ranks
targets_over m g [] = refl
targets_over m g (r ∷ ranks) =
    rw (some_targets r (position (λ i. i == g) (globals_of m r)) (filter_map (λ q. target_at q (position (λ i. i == g) (globals_of m q))) ranks), place_some g (globals_of m r), targets_over m g ranks) refl

-- an index has targets where some rank maps it
targets_mapped : (m : PortMap) (g : ℕ) → not (no_targets (targets_of m g)) ≡ maps_index m g
unfolding targets_of
targets_mapped m g = targets_over m g (below (rank_count m))

-- ---- one connection

abbrev pub tagged : Scene → ℕ → Item → Sent
tagged scene c item = record { item = item; app = sender scene c; port = (link_at scene c).from_port }

-- what a test finds in kept blocks is what comes, where it finds just that in the blocks of the table
module _ {W : Type 0} (scene : Scene) (timed : IsWellFormed scene) (table : Table) (c j : ℕ) (find : Item → Option W) (made : Sent → W)
    (not_due : (item : Item) → is_due_from scene c j item ≡ false → find item ≡ None)
    (finds : (k : ℕ) → filter_map find (block_on scene table c k) ≡ map made (map (tagged scene c) (filter (arrives scene c j) (block_on scene table c k))))
    (from : (k : ℕ) → AllByRecursion (IsFrom (clock scene (sender scene c) k)) (block_on scene table c k)) (late : IsLate scene c) where
  -- only what is due in the step or later is found
  only_due : (items : List Item) → filter_map find items ≡ filter_map find (filter (is_due_from scene c j) items)
  only_due [] = refl
  only_due (item ∷ items) = go (is_due_from scene c j item) refl (only_due items)
    where
      go : (b : Bool) → is_due_from scene c j item ≡ b → filter_map find items ≡ filter_map find (filter (is_due_from scene c j) items)
          → cons_option (find item) (filter_map find items) ≡ filter_map find (cond b (item ∷ filter (is_due_from scene c j) items) (filter (is_due_from scene c j) items))
      go true h rest = ap (λ ys. cons_option (find item) ys) rest
      go false h rest = rw (not_due item h) rest

  none_comes : (k : ℕ) → k < steps scene (sender scene c) → wanted scene c j ≤ k → filter (arrives scene c j) (block_on scene table c k) ≡ []
  none_comes k small past = elim (cases_Bool (wants scene c j k)) [
    | inl wanted ↦ absurd (omega (arith, wanted_below scene c j k small wanted))
    | inr unwanted ↦
        filter-none (arrives scene c j) (block_on scene table c k)
        (All-weaker (IsFrom (clock scene (sender scene c) k)) (λ item. arrives scene c j item ≡ false) (not_arriving scene timed c j k late unwanted) (block_on scene table c k) (from k))
  ]

  pub line_is : (line : Line) → KeepsFrom scene table j c line → line.admitted ≡ wanted scene c j → IsNumbered 0 line.admitted line.kept
      → flat_map (λ (block : Block). filter_map find block.items) line.kept ≡ map made (coming scene table j c)
  line_is line keeps exact numbered =
      sym (numbered_flat (filter_map find) refl (steps scene (sender scene c)) 0 line.kept (numbered_up line.kept 0 line.admitted (0 + steps scene (sender scene c)) (omega (arith, exact, within)) numbered))
      ∙ flat_map-agree_within (λ k. filter_map find (items_numbered line.kept k)) (λ k. map made (map (tagged scene c) (filter (arrives scene c j) (block_on scene table c k)))) 0 (steps scene (sender scene c))
      (λ k low high. one k (omega (arith, high)) (cases_lt k (wanted scene c j)))
      ∙ sym (map-flat_map made (λ k. map (tagged scene c) (filter (arrives scene c j) (block_on scene table c k))) (below (steps scene (sender scene c))))
    where
      within : wanted scene c j ≤ steps scene (sender scene c)
      within = wanted_before-at_most scene c (suc j)

      one : (k : ℕ) → k < steps scene (sender scene c) → (k < wanted scene c j) ⊎ (wanted scene c j ≤ k)
          → filter_map find (items_numbered line.kept k) ≡ map made (map (tagged scene c) (filter (arrives scene c j) (block_on scene table c k)))
      one k small (inl lt) =
          let t : nat_lt k line.admitted ≡ true = lt-ltb k line.admitted (omega (arith, exact)) in
          only_due (items_numbered line.kept k) ∙ ap (filter_map find) (keeps k) ∙ rw t (sym (only_due (block_on scene table c k)) ∙ finds k)
      one k small (inr past) =
          let t : nat_lt k line.admitted ≡ false = le-ltb k line.admitted (omega (arith, exact)) in
          only_due (items_numbered line.kept k) ∙ ap (filter_map find) (keeps k) ∙ rw (t, none_comes k small past) refl

-- ---- events and messages

-- what is not due in a step or later is not due in it
pub not_now : (j : ℕ) (d : Option ℕ) → is_step_from j d ≡ false → is_step j d ≡ false
not_now j None h = refl
not_now j (Some step) h = ne_eqb step j (λ e. let t = le-leb j step (omega arith) in cc)

abbrev pub waiting_for : PortMap → Sent → Waiting
waiting_for m sent = record { arrival = arrival_of m sent.item; app = sent.app; port = sent.port }

module _ (scene : Scene) (b c starts ticks j : ℕ) (link : InboxLink) (s : starts ≡ start scene b) (t : ticks ≡ tick scene b) (r : receiver scene c ≡ b) (is : IsLinkOf scene c link) where
  falls_is : (time : ℕ) → falls_in starts ticks j link.latency time ≡ is_step j (due scene c time)
  falls_is time = ap (is_step j) (due_is scene b c starts ticks link.latency time s t r is.late)

  pub not_said : (item : Item) → is_due_from scene c j item ≡ false → said starts ticks j link item ≡ None
  unfolding said
  not_said (Event e) h = refl
  not_said (Message m) h = rw (falls_is m.time, not_now j (due scene c m.time) h) refl
  not_said (Value global value) h = refl

  -- a message is said where it arrives
  pub all_said : (from to : ℕ) (items : List Item) → AllByRecursion (IsMessageWithin from to) items
      → filter_map (said starts ticks j link) items ≡ map (λ (sent : Sent). sent) (map (tagged scene c) (filter (arrives scene c j) items))
  unfolding said
  all_said from to [] h = refl
  all_said from to (Event e ∷ items) h = absurd h.0
  all_said from to (Message m ∷ items) h = rw (falls_is m.time, is.app, is.port) (go (is_step j (due scene c m.time)) (all_said from to items h.1))
    where
      go : (b : Bool) → filter_map (said starts ticks j link) items ≡ map (λ (sent : Sent). sent) (map (tagged scene c) (filter (arrives scene c j) items))
          → cons_option (cond b (Some (tagged scene c (Message m))) None) (filter_map (said starts ticks j link) items)
          ≡ map (λ (sent : Sent). sent) (map (tagged scene c) (cond b (Message m ∷ filter (arrives scene c j) items) (filter (arrives scene c j) items)))
      go true rest = ap (λ ys. tagged scene c (Message m) ∷ ys) rest
      go false rest = rest
  all_said from to (Value global value ∷ items) h = absurd h.0

  module _ (routes : List Route) where
    pub not_waiting : (item : Item) → is_due_from scene c j item ≡ false → waiting starts ticks j link routes item ≡ None
    unfolding waiting
    not_waiting (Event e) h = rw (falls_is e.time, not_now j (due scene c e.time) h) refl
    not_waiting (Message m) h = refl
    not_waiting (Value global value) h = refl

    module _ (routed_so : AreRoutes (output_of scene c).map (input_of scene c).map routes) where
      -- an event of a proper table waits where it arrives, with its targets
      one_waiting : (from to : ℕ) (item : Item) → IsEventWithin (output_of scene c) from to item
          → waiting starts ticks j link routes item ≡ cond (arrives scene c j item) (Some (waiting_for (input_of scene c).map (tagged scene c item))) None
      unfolding waiting
      one_waiting from to (Event e) h =
          let own : routed routes e.global ≡ targets_of (input_of scene c).map e.global = routed_so e.global ∙ rw h.2 refl in
          rw (own, targets_mapped (input_of scene c).map e.global, falls_is e.time, is.app, is.port) refl
      one_waiting from to (Message m) h = absurd h
      one_waiting from to (Value global value) h = absurd h

      pub all_waiting : (from to : ℕ) (items : List Item) → AllByRecursion (IsEventWithin (output_of scene c) from to) items
          → filter_map (waiting starts ticks j link routes) items ≡ map (waiting_for (input_of scene c).map) (map (tagged scene c) (filter (arrives scene c j) items))
      all_waiting from to [] h = refl
      all_waiting from to (item ∷ items) h = rw (one_waiting from to item h.0) (go (arrives scene c j item) (all_waiting from to items h.1))
        where
          go : (b : Bool) → filter_map (waiting starts ticks j link routes) items ≡ map (waiting_for (input_of scene c).map) (map (tagged scene c) (filter (arrives scene c j) items))
              → cons_option (cond b (Some (waiting_for (input_of scene c).map (tagged scene c item))) None) (filter_map (waiting starts ticks j link routes) items)
              ≡ map (waiting_for (input_of scene c).map) (map (tagged scene c) (cond b (item ∷ filter (arrives scene c j) items) (filter (arrives scene c j) items)))
          go true rest = ap (λ ys. waiting_for (input_of scene c).map (tagged scene c item) ∷ ys) rest
          go false rest = rest
