-- What is found over all connections is what waits there.
use Rattle.std.proofs.Common.{inl, inr, ℕ, zero, suc, ◌<◌, ◌≡◌, refl, sym, ◌∙◌, ap, arith, List, [], ◌∷◌, length, get_or, map, Bool, true, false, cond, not, ◌&&◌, Option, Some, None}
use Rattle.std.specs.List.{cons_option, filter, filter_map, flat_map}
use Rattle.std.specs.Cmp.{IsTotalOrder}
use Rattle.std.specs.declared.cmp.Ordering.{Ordering}
use Rattle.std.proofs.lemmas.Bool.{cases_Bool}
use Rattle.std.proofs.lemmas.Cmp.{nat_cmp_total, on_total, then_total}
use Rattle.std.proofs.lemmas.List.Elements.{filter_map-append}
use Rattle.std.proofs.lemmas.List.{map-append}
use Rattle.music_base.specs.declared.item.Block.{Block}
use Rattle.music_base.specs.declared.item.Item.{Item}
use Rattle.music_base.specs.declared.item.Item.TheVariants.{Event, Message, Value}
use Rattle.music_base.proofs.Lists.{map-map}
use Rattle.music_base.proofs.Sorting.{filter-in_order, in_order_map}
use Rattle.music_base.specs.Numbers.{in_order}
use Rattle.scene_model.specs.Tables.{Sent, sent_cmp}
use Rattle.event_routes.specs.Routing.{routed}
use Rattle.event_routes.specs.Routing.{Route}
use Rattle.port_inbox.specs.Arrivals.{EventLine, Waiting, delivered, line_waiting, no_targets, paired, waiting, waiting_cmp}
use Rattle.port_inbox.specs.Due.{falls_in}
use Rattle.port_inbox.specs.Gathering.{arrival_found, blocks_found, blocks_told, found, found_cmp, said_cmp, sent_said, targets_found, told, waiting_found}
use Rattle.port_inbox.specs.Holding.{heard_of}
use Rattle.port_inbox.specs.Inboxes.{Inbox, Line}
use Rattle.port_inbox.specs.Words.{line_said, said, words_delivered}
use Rattle.port_inbox.specs.declared.arrivals.InboxLink.{InboxLink}
use Rattle.port_inbox.specs.declared.finding.Found.{Found}
use Rattle.port_inbox.specs.declared.saying.Said.{Said}

-- ---- lists

-- where each item gives what its image under f is
pub filter_map-through : {X Y Z : Type 0} (f : Y → Z) (g : X → Option Y) (h : X → Option Z)
    → ((x : X) (ys : List Y) (zs : List Z) → map f ys ≡ zs → map f (cons_option (g x) ys) ≡ cons_option (h x) zs)
    → (xs : List X) → map f (filter_map g xs) ≡ filter_map h xs
filter_map-through f g h each [] = refl
filter_map-through f g h each (x ∷ xs) = each x (filter_map g xs) (filter_map h xs) (filter_map-through f g h each xs)

pub flat_map-through : {X Y Z : Type 0} (f : Y → Z) (g : X → List Y) (h : X → List Z) → ((x : X) → map f (g x) ≡ h x) → (xs : List X) → map f (flat_map g xs) ≡ flat_map h xs
flat_map-through f g h each [] = refl
flat_map-through f g h each (x ∷ xs) = rw (map-append, each x, flat_map-through f g h each xs) refl

-- ---- events

module _ (start tick step place : ℕ) (routes : List (List Route)) (link : InboxLink) (own : List Route) (at : get_or routes place [] ≡ own) where
  one_found : (item : Item) (ys : List Found) (zs : List Waiting) → filter_map (waiting_found routes) ys ≡ zs
      → filter_map (waiting_found routes) (cons_option (found (falls_in start tick step link.latency) place link item) ys) ≡ cons_option (waiting start tick step link own item) zs
  unfolding waiting
  one_found (Event e) ys zs rest = go (falls_in start tick step link.latency e.time) (no_targets (routed own e.global)) refl
    where
      go : (b t : Bool) → no_targets (routed own e.global) ≡ t
          → filter_map (waiting_found routes) (cons_option (cond b (Some (record { time = e.time; global = e.global; app = link.from_app; port = link.from_port; line = place })) None) ys)
          ≡ cons_option (cond (b && not t) (Some (record { arrival = record { time = e.time; global = e.global; targets = routed own e.global }; app = link.from_app; port = link.from_port })) None) zs
      go true true h = rw (at, h) rest
      go true false h = rw (at, h, rest) refl
      go false t h = rest
  one_found (Message m) ys zs rest = rest
  one_found (Value global value) ys zs rest = rest

  items_found : (items : List Item) → filter_map (waiting_found routes) (filter_map (found (falls_in start tick step link.latency) place link) items) ≡ filter_map (waiting start tick step link own) items
  items_found [] = refl
  items_found (item ∷ items) =
      one_found item (filter_map (found (falls_in start tick step link.latency) place link) items) (filter_map (waiting start tick step link own) items) (items_found items)

pub line_found : (start tick step place : ℕ) (routes : List (List Route)) (l : EventLine) → get_or routes place [] ≡ l.routes
    → filter_map (waiting_found routes) (blocks_found (falls_in start tick step l.line.link.latency) place l.line.link l.line.kept) ≡ line_waiting start tick step l
line_found start tick step place routes l at = over l.line.kept
  where
    over : (blocks : List Block) → filter_map (waiting_found routes) (blocks_found (falls_in start tick step l.line.link.latency) place l.line.link blocks)
        ≡ flat_map (λ (block : Block). filter_map (waiting start tick step l.line.link l.routes) block.items) blocks
    over [] = refl
    over (block ∷ blocks) = rw (filter_map-append, items_found start tick step place routes l.line.link l.routes at block.items, over blocks) refl

-- the pair at a place
pub paired_get : (lines : List Line) (routes : List (List Route)) (i : ℕ) (d : Line) (e : EventLine) → i < length lines → i < length routes
    → get_or (paired lines routes) i e ≡ record { line = get_or lines i d; routes = get_or routes i [] }
paired_get [] routes i d e lt small = absurd (omega arith)
paired_get (l ∷ ls) [] i d e lt small = absurd (omega arith)
paired_get (l ∷ ls) (r ∷ rs) zero d e lt small = refl
paired_get (l ∷ ls) (r ∷ rs) (suc i) d e lt small = paired_get ls rs i d e (omega arith) (omega arith)

pub paired_length : (lines : List Line) (routes : List (List Route)) → length lines ≡ length routes → length (paired lines routes) ≡ length lines
paired_length [] routes same = refl
paired_length (l ∷ ls) [] same = absurd (omega arith)
paired_length (l ∷ ls) (r ∷ rs) same = ap suc (paired_length ls rs (omega arith))

-- ---- messages

one_told : (start tick step : ℕ) (link : InboxLink) (item : Item) (ys : List Said) (zs : List Sent) → map sent_said ys ≡ zs
    → map sent_said (cons_option (told (falls_in start tick step link.latency) link item) ys) ≡ cons_option (said start tick step link item) zs
unfolding said
one_told start tick step link (Event e) ys zs rest = rest
one_told start tick step link (Message m) ys zs rest = go (falls_in start tick step link.latency m.time)
  where
    go : (b : Bool) → map sent_said (cons_option (cond b (Some (record { heard = record { time = m.time; word = m.word }; app = link.from_app; port = link.from_port })) None) ys)
        ≡ cons_option (cond b (Some (record { item = Message m; app = link.from_app; port = link.from_port })) None) zs
    go true = ap (λ (sent : List Sent). record { item = Message m; app = link.from_app; port = link.from_port } ∷ sent) rest
    go false = rest
one_told start tick step link (Value global value) ys zs rest = rest

pub line_told : (start tick step : ℕ) (line : Line) → map sent_said (blocks_told (falls_in start tick step line.link.latency) line.link line.kept) ≡ line_said start tick step line
line_told start tick step line =
    flat_map-through sent_said (λ (block : Block). filter_map (told (falls_in start tick step line.link.latency) line.link) block.items) (λ (block : Block). filter_map (said start tick step line.link) block.items)
    (λ (block : Block). filter_map-through sent_said (told (falls_in start tick step line.link.latency) line.link) (said start tick step line.link) (one_told start tick step line.link) block.items) line.kept

-- ---- the whole inbox

-- a function that keeps the order, and leaves out what fails a test
in_order-filter_map : {X Y : Type 0} (f : X → Y) (test : X → Bool) (g : X → Option Y) (cmp : X → X → Ordering) (other : Y → Y → Ordering) → IsTotalOrder cmp
    → ((x : X) → g x ≡ cond (test x) None (Some (f x))) → ((x y : X) → other (f x) (f y) ≡ cmp x y) → (xs : List X) → in_order other (filter_map g xs) ≡ filter_map g (in_order cmp xs)
in_order-filter_map {X} {Y} f test g cmp other total is same xs =
    ap (in_order other) (passing xs) ∙ in_order_map f cmp other same (filter (λ x. not (test x)) xs) ∙ ap (map f) (sym (filter-in_order cmp total (λ x. not (test x)) xs)) ∙ sym (passing (in_order cmp xs))
  where
    passing : (ys : List X) → filter_map g ys ≡ map f (filter (λ x. not (test x)) ys)
    passing [] = refl
    passing (y ∷ ys) = rw (is y) (go (test y) (passing ys))
      where
        go : (b : Bool) → filter_map g ys ≡ map f (filter (λ x. not (test x)) ys)
            → cons_option (cond b None (Some (f y))) (filter_map g ys) ≡ map f (cond (not b) (y ∷ filter (λ x. not (test x)) ys) (filter (λ x. not (test x)) ys))
        go true rest = rest
        go false rest = ap (λ zs. f y ∷ zs) rest

pub found_cmp-total : IsTotalOrder found_cmp
found_cmp-total =
    then_total (on_total (λ (f : Found). f.time) nat_cmp_total) (then_total (on_total (λ (f : Found). f.global) nat_cmp_total) (then_total (on_total (λ (f : Found). f.app) nat_cmp_total) (on_total (λ (f : Found). f.port) nat_cmp_total)))

-- without its sender, what waits is what arrives
arrivals_found : (routes : List (List Route)) (fs : List Found) → map (λ (w : Waiting). w.arrival) (filter_map (waiting_found routes) fs) ≡ filter_map (arrival_found routes) fs
arrivals_found routes [] = refl
arrivals_found routes (f ∷ fs) = elim (cases_Bool (no_targets (targets_found routes f))) [
  | inl none ↦ rw none (arrivals_found routes fs)
  | inr some ↦ rw (some, arrivals_found routes fs) refl
]

-- what was found on all connections, in order and with its targets, is what the inbox delivers
pub delivered_is : (step : ℕ) (inbox : Inbox) (all sorted : List Found) → filter_map (waiting_found inbox.routes) all ≡ flat_map (line_waiting inbox.start inbox.tick step) (paired inbox.lines inbox.routes)
    → sorted ≡ in_order found_cmp all → filter_map (arrival_found inbox.routes) sorted ≡ delivered step inbox
unfolding delivered
delivered_is step inbox all sorted same is =
    ap (filter_map (arrival_found inbox.routes)) is
    ∙ sym (arrivals_found inbox.routes (in_order found_cmp all))
    ∙ ap (map (λ (w : Waiting). w.arrival)) (sym (in_order-filter_map with_targets (λ f. no_targets (targets_found inbox.routes f)) (waiting_found inbox.routes) found_cmp waiting_cmp found_cmp-total (λ f. refl) (λ x y. refl) all))
    ∙ ap (λ ws. map (λ (w : Waiting). w.arrival) (in_order waiting_cmp ws)) same
  where
    with_targets : Found → Waiting
    with_targets f = record { arrival = record { time = f.time; global = f.global; targets = targets_found inbox.routes f }; app = f.app; port = f.port }

-- and what was said on all of them, in order, are the words that it delivers
pub words_are : (step : ℕ) (inbox : Inbox) (all sorted : List Said) → map sent_said all ≡ flat_map (line_said inbox.start inbox.tick step) inbox.lines
    → sorted ≡ in_order said_cmp all → map (λ (s : Said). s.heard) sorted ≡ words_delivered step inbox
unfolding words_delivered
words_are step inbox all sorted same is =
    ap (map (λ (s : Said). s.heard)) is
    ∙ sym (map-map (λ (s : Sent). heard_of s.item) sent_said (in_order said_cmp all))
    ∙ ap (map (λ (s : Sent). heard_of s.item)) (sym (in_order_map sent_said said_cmp sent_cmp (λ x y. refl) all))
    ∙ ap (λ (sent : List Sent). map (λ (s : Sent). heard_of s.item) (in_order sent_cmp sent)) same
