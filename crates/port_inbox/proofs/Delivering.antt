-- What an inbox delivers, fed from a proper table, is what its port hears.
use Rattle.std.proofs.Common.{ℕ, ◌+◌, ◌<◌, ◌≤◌, ◌≡◌, ◌⊎◌, inl, inr, refl, sym, ◌∙◌, ap, subst, List, [], ◌∷◌, ◌++◌, map, length, get_or}
use Rattle.std.specs.List.{AllByRecursion, flat_map}
use Rattle.std.proofs.lemmas.Bool.{cases_lt}
use Rattle.std.proofs.lemmas.List.{get_or_past, map-append}
use Rattle.music_base.proofs.Lists.{All-weaker, map-map}
use Rattle.music_base.proofs.Sorting.{in_order_map}
use Rattle.music_base.specs.Items.{IsMessageWithin}
use Rattle.music_base.specs.Numbers.{in_order}
use Rattle.music_base.specs.Pairs.{AllPaired}
use Rattle.music_base.specs.declared.item.Item.{Item}
use Rattle.music_base.specs.declared.item.Item.TheVariants.{Event, Message, Value}
use Rattle.index_maps.specs.declared.map.PortMap.{PortMap}
use Rattle.scene_model.proofs.Faultless.{connection_is}
use Rattle.scene_model.proofs.Feeds.{IsFrom, IsLate, IsLinkTo, input_is, is_late, links_lead}
use Rattle.scene_model.proofs.WellFormedScenes.{well_formed}
use Rattle.scene_model.specs.Clocks.{clock, wanted}
use Rattle.scene_model.specs.Faults.{IsFaultless}
use Rattle.scene_model.specs.Scenes.{input_of, link_at, links_to, output_of, port_at, sender}
use Rattle.scene_model.specs.Tables.{IsEventWithin, IsProper, IsProperBlock, Sent, Table, arrivals, block_on, coming, sent_cmp}
use Rattle.scene_model.specs.declared.port.Direction.{Direction}
use Rattle.scene_model.specs.declared.port.Direction.TheVariants.{Output}
use Rattle.scene_model.specs.declared.port.PortDecl.{PortDecl}
use Rattle.scene_model.specs.declared.port.PortKind.{PortKind}
use Rattle.scene_model.specs.declared.port.PortKind.TheVariants.{Events, Messages}
use Rattle.scene_model.specs.declared.scene.Scene.{Scene}
use Rattle.event_routes.specs.Routing.{Route}
use Rattle.port_inbox.specs.Arrivals.{Waiting, delivered, line_waiting, paired, waiting, waiting_cmp}
use Rattle.port_inbox.specs.Holding.{AreNumbered, IsFed, IsLinkOf, IsRoutesOf, IsTold, KeepsFrom, arrival_of, heard, heard_of, words_heard}
use Rattle.port_inbox.specs.Inboxes.{Inbox, Line}
use Rattle.port_inbox.specs.Words.{line_said, said, words_delivered}
use Rattle.port_inbox.proofs.Answering.{all_said, all_waiting, line_is, not_said, not_waiting, waiting_for}

-- ---- the blocks of a proper table

-- each block on a connection is one of a step of its output
block_is : (scene : Scene) → IsFaultless scene → (table : Table) → IsProper scene table → (c k : ℕ) → c < length scene.links → (P : List Item → Type 0) → P []
    → (IsProperBlock Output (input_of scene c).kind (output_of scene c) (clock scene (sender scene c) k) (clock scene (sender scene c) (k + 1)) (block_on scene table c k) → P (block_on scene table c k))
    → P (block_on scene table c k)
block_is scene faultless table proper c k small P none one = go (cases_lt k (length (get_or table (sender scene c) [])))
  where
    Q : Direction → PortKind → Type 0
    Q d q = IsProperBlock d q (output_of scene c) (clock scene (sender scene c) k) (clock scene (sender scene c) (k + 1)) (block_on scene table c k)

    go : (k < length (get_or table (sender scene c) [])) ⊎ (length (get_or table (sender scene c) []) ≤ k) → P (block_on scene table c k)
    go (inl lt) =
        let link = connection_is scene faultless c small in
        let it : Q (output_of scene c).direction (output_of scene c).kind = proper.blocks (sender scene c) k (link_at scene c).from_port link.from_app lt link.from_port in
        one (subst (λ q. Q Output q) link.of_one_kind (subst (λ d. Q d (output_of scene c).kind) link.from_output it))
    go (inr past) = rw (get_or_past (get_or table (sender scene c) []) k [] past) none

event_from : (port : PortDecl) (from to : ℕ) (item : Item) → IsEventWithin port from to item → IsFrom from item
event_from port from to (Event e) h = h.0
event_from port from to (Message m) h = absurd h
event_from port from to (Value global value) h = absurd h

message_from : (from to : ℕ) (item : Item) → IsMessageWithin from to item → IsFrom from item
message_from from to (Event e) h = absurd h
message_from from to (Message m) h = h.0
message_from from to (Value global value) h = absurd h

-- ---- events

-- the arrivals of what comes, whatever it is
answered : (m : PortMap) (step : ℕ) (inbox : Inbox) (sent : List Sent) → flat_map (line_waiting inbox.start inbox.tick step) (paired inbox.lines inbox.routes) ≡ map (waiting_for m) sent
    → delivered step inbox ≡ map (arrival_of m) (map (λ (s : Sent). s.item) (in_order sent_cmp sent))
unfolding delivered
answered m step inbox sent same =
    ap (λ ws. map (λ (w : Waiting). w.arrival) (in_order waiting_cmp ws)) same
    ∙ ap (map (λ (w : Waiting). w.arrival)) (in_order_map (waiting_for m) sent_cmp waiting_cmp (λ x y. refl) sent)
    ∙ map-map (λ (w : Waiting). w.arrival) (waiting_for m) (in_order sent_cmp sent)
    ∙ sym (map-map (arrival_of m) (λ (s : Sent). s.item) (in_order sent_cmp sent))

pub heard_is : (scene : Scene) (b p : ℕ) (table : Table) (step : ℕ) (inbox : Inbox) → IsFed scene b p inbox table step → delivered step inbox ≡ heard scene table b p step
unfolding arrivals
heard_is scene b p table step inbox fed =
    answered (port_at scene b p).map step inbox (flat_map (coming scene table step) (links_to scene b p))
    (over (links_to scene b p) inbox.lines inbox.routes (links_lead scene b p) fed.made.lined.numbered fed.made.lined.links fed.made.routed fed.holds fed.has_wanted)
  where
    Within : ℕ → ℕ → List Item → Type 0
    Within c k = AllByRecursion (IsEventWithin (output_of scene c) (clock scene (sender scene c) k) (clock scene (sender scene c) (k + 1)))

    kind_of : (c : ℕ) → IsLinkTo scene b p c → (input_of scene c).kind ≡ Events
    kind_of c at = ap (λ (q : PortDecl). q.kind) (input_is scene b p c at) ∙ fed.carries

    late : (c : ℕ) → IsLinkTo scene b p c → IsLate scene c
    late c at = is_late scene c (λ e. let f = kind_of c at in cc)

    events : (c : ℕ) → IsLinkTo scene b p c → (k : ℕ) → Within c k (block_on scene table c k)
    events c at k =
        block_is scene fed.faultless table fed.proper c k at.0 (Within c k) tt
        (λ it. subst (λ q. IsProperBlock Output q (output_of scene c) (clock scene (sender scene c) k) (clock scene (sender scene c) (k + 1)) (block_on scene table c k)) (kind_of c at) it)

    over : (cs : List ℕ) (lines : List Line) (routes : List (List Route)) → AllByRecursion (IsLinkTo scene b p) cs → AreNumbered lines → AllPaired (λ c (line : Line). IsLinkOf scene c line.link) cs lines
        → AllPaired (IsRoutesOf scene) cs routes → AllPaired (KeepsFrom scene table step) cs lines → AllPaired (λ c (line : Line). line.admitted ≡ wanted scene c step) cs lines
        → flat_map (line_waiting inbox.start inbox.tick step) (paired lines routes) ≡ map (waiting_for (port_at scene b p).map) (flat_map (coming scene table step) cs)
    over [] [] routes at n m q k w = refl
    over [] (l ∷ ls) routes at n m q k w = absurd k
    over (c ∷ cs) [] routes at n m q k w = absurd k
    over (c ∷ cs) (l ∷ ls) [] at n m q k w = absurd q
    over (c ∷ cs) (l ∷ ls) (r ∷ rs) at n m q k w =
        let line : line_waiting inbox.start inbox.tick step (record { line = l; routes = r }) ≡ map (waiting_for (input_of scene c).map) (coming scene table step c) =
        line_is scene (well_formed scene fed.faultless) table c step (waiting inbox.start inbox.tick step l.link r) (waiting_for (input_of scene c).map)
        (not_waiting scene b c inbox.start inbox.tick step l.link fed.made.lined.begins fed.made.lined.ticks at.0.1 m.0 r)
        (λ i. all_waiting scene b c inbox.start inbox.tick step l.link fed.made.lined.begins fed.made.lined.ticks at.0.1 m.0 r q.0 _ _ (block_on scene table c i) (events c at.0 i))
        (λ i. All-weaker _ (IsFrom (clock scene (sender scene c) i)) (event_from (output_of scene c) _ _) (block_on scene table c i) (events c at.0 i)) (late c at.0) l k.0 w.0 n.0 in
        let port : map (waiting_for (input_of scene c).map) (coming scene table step c) ≡ map (waiting_for (port_at scene b p).map) (coming scene table step c) =
        ap (λ (d : PortDecl). map (waiting_for d.map) (coming scene table step c)) (input_is scene b p c at.0) in
        ap (λ xs. xs ++ flat_map (line_waiting inbox.start inbox.tick step) (paired ls rs)) (line ∙ port)
        ∙ ap (λ xs. map (waiting_for (port_at scene b p).map) (coming scene table step c) ++ xs) (over cs ls rs at.1 n.1 m.1 q.1 k.1 w.1)
        ∙ sym (map-append (waiting_for (port_at scene b p).map) (coming scene table step c) (flat_map (coming scene table step) cs))

-- ---- messages

map-same : {X : Type 0} (xs : List X) → map (λ x. x) xs ≡ xs
map-same [] = refl
map-same (x ∷ xs) = ap (λ ys. x ∷ ys) (map-same xs)

pub told_is : (scene : Scene) (b p : ℕ) (table : Table) (step : ℕ) (inbox : Inbox) → IsTold scene b p inbox table step → words_delivered step inbox ≡ words_heard scene table b p step
unfolding arrivals words_delivered
told_is scene b p table step inbox told =
    ap (λ (sent : List Sent). map (λ (s : Sent). heard_of s.item) (in_order sent_cmp sent))
    (over (links_to scene b p) inbox.lines (links_lead scene b p) told.made.lined.numbered told.made.lined.links told.holds told.has_wanted)
    ∙ sym (map-map heard_of (λ (s : Sent). s.item) (in_order sent_cmp (flat_map (coming scene table step) (links_to scene b p))))
  where
    Within : ℕ → ℕ → List Item → Type 0
    Within c k = AllByRecursion (IsMessageWithin (clock scene (sender scene c) k) (clock scene (sender scene c) (k + 1)))

    kind_of : (c : ℕ) → IsLinkTo scene b p c → (input_of scene c).kind ≡ Messages
    kind_of c at = ap (λ (q : PortDecl). q.kind) (input_is scene b p c at) ∙ told.carries

    late : (c : ℕ) → IsLinkTo scene b p c → IsLate scene c
    late c at = is_late scene c (λ e. let f = kind_of c at in cc)

    messages : (c : ℕ) → IsLinkTo scene b p c → (k : ℕ) → Within c k (block_on scene table c k)
    messages c at k =
        block_is scene told.faultless table told.proper c k at.0 (Within c k) tt
        (λ it. subst (λ q. IsProperBlock Output q (output_of scene c) (clock scene (sender scene c) k) (clock scene (sender scene c) (k + 1)) (block_on scene table c k)) (kind_of c at) it)

    over : (cs : List ℕ) (lines : List Line) → AllByRecursion (IsLinkTo scene b p) cs → AreNumbered lines → AllPaired (λ c (line : Line). IsLinkOf scene c line.link) cs lines
        → AllPaired (KeepsFrom scene table step) cs lines → AllPaired (λ c (line : Line). line.admitted ≡ wanted scene c step) cs lines
        → flat_map (line_said inbox.start inbox.tick step) lines ≡ flat_map (coming scene table step) cs
    over [] [] at n m k w = refl
    over [] (l ∷ ls) at n m k w = absurd k
    over (c ∷ cs) [] at n m k w = absurd k
    over (c ∷ cs) (l ∷ ls) at n m k w =
        let line : line_said inbox.start inbox.tick step l ≡ map (λ (sent : Sent). sent) (coming scene table step c) =
        line_is scene (well_formed scene told.faultless) table c step (said inbox.start inbox.tick step l.link) (λ (sent : Sent). sent)
        (not_said scene b c inbox.start inbox.tick step l.link told.made.lined.begins told.made.lined.ticks at.0.1 m.0)
        (λ i. all_said scene b c inbox.start inbox.tick step l.link told.made.lined.begins told.made.lined.ticks at.0.1 m.0 _ _ (block_on scene table c i) (messages c at.0 i))
        (λ i. All-weaker _ (IsFrom (clock scene (sender scene c) i)) (message_from _ _) (block_on scene table c i) (messages c at.0 i)) (late c at.0) l k.0 w.0 n.0 in
        ap (λ (sent : List Sent). sent ++ flat_map (line_said inbox.start inbox.tick step) ls) (line ∙ map-same (coming scene table step c))
        ∙ ap (λ (sent : List Sent). coming scene table step c ++ sent) (over cs ls at.1 n.1 m.1 k.1 w.1)
