-- The machine that has run no step.
use Rattle.std.proofs.Common.{ℕ, ◌+◌, ◌<◌, ◌≤◌, ◌≡◌, ◌⊎◌, inl, inr, refl, sym, ◌∙◌, ap, subst, arith, Bool, List, [], length, map, replicate, None, Option}
use Rattle.std.specs.Prelude.{slice_index}
use Rattle.std.specs.List.{AllByRecursion}
use Rattle.std.proofs.lemmas.Bool.{cases_lt, le-ltb}
use Rattle.std.proofs.lemmas.List.{get_or_past, get_or-replicate, length-replicate}
use Rattle.std.proofs.lemmas.List.FromFn.{get_or-map-range_with_len, length-map-range_with_len}
use Rattle.music_base.specs.Numbers.{below}
use Rattle.music_base.specs.declared.item.Item.{Item}
use Rattle.music_base.specs.declared.item.Block.{Block}
use Rattle.scene_model.specs.Clocks.{steps, wanted, wanted_blocks}
use Rattle.scene_model.specs.Faults.{IsFaultless}
use Rattle.scene_model.specs.Orders.{EachFrom, EachTo}
use Rattle.scene_model.specs.Scenes.{app_at, input_of, link_at, links_to, receiver}
use Rattle.scene_model.specs.Tables.{Table}
use Rattle.scene_model.specs.Turns.{opening}
use Rattle.scene_model.specs.declared.scene.Scene.{Scene}
use Rattle.scene_model.specs.declared.port.PortKind.{PortKind}
use Rattle.scene_model.specs.declared.port.PortKind.TheVariants.{Events, Messages, Values}
use Rattle.scene_model.proofs.Feeds.{IsLinkTo}
use Rattle.music_base.proofs.Lists.{All-get_or}
use Rattle.scene_model.specs.Due.{is_due_from}
use Rattle.port_inbox.specs.Due.{left_in}
use Rattle.port_inbox.specs.Inboxes.{Inbox, Line, line_at, no_line}
use Rattle.app_turn.specs.Machines.{KeepsOf, Machine}
use Rattle.app_turn.specs.Moves.{IsStarted}
use Rattle.rule_turns.specs.Plans.{turn_plan}
use Rattle.rule_turns.specs.declared.plan.TurnPlan.{TurnPlan}
use Rattle.app_turn.specs.PortInboxes.{AreInboxes, IsFresh, IsPortInbox, admitted_by, inbox_at, left_by, waiting_in}
use Rattle.app_turn.specs.OwnLinks.{IsPlaceOf, into_of, out_of, place_on}
use Rattle.app_turn.specs.Paces.{pace_of}
use Rattle.app_turn.specs.Steps.{IsMachine}
use Rattle.app_turn.specs.declared.inbox.PortInbox.{PortInbox}
use Rattle.app_turn.specs.declared.needs.Pace.{Pace}
use Rattle.app_turn.specs.declared.inbox.PortInbox.TheVariants.{Silent, Unfed, Hears, Listens, Follows}
use Rattle.app_turn.proofs.Keeping.{lead_at}
use Rattle.app_turn.proofs.Places.{by_place, into_listed, listed_small, place_back, place_is}
use Rattle.app_turn.proofs.Views.{waiting_is}

fresh_line : (inbox : Inbox) (i : ℕ) → AllByRecursion (λ (l : Line). (l.admitted ≡ 0) × (l.kept ≡ [])) inbox.lines → ((line_at inbox i).admitted ≡ 0) × ((line_at inbox i).kept ≡ [])
fresh_line inbox i h = All-get_or (λ (l : Line). (l.admitted ≡ 0) × (l.kept ≡ [])) inbox.lines i no_line (refl, refl) h

none_admitted : (x : PortInbox) (i : ℕ) → IsFresh x → admitted_by x i ≡ 0
none_admitted Silent i h = refl
none_admitted Unfed i h = refl
none_admitted (Hears inbox) i h = (fresh_line inbox i h).0
none_admitted (Listens inbox) i h = (fresh_line inbox i h).0
none_admitted (Follows s) i h = h.0

nothing_left : (test : Item → Bool) (x : PortInbox) (i : ℕ) → IsFresh x → left_by test x i ≡ []
nothing_left test Silent i h = refl
nothing_left test Unfed i h = refl
nothing_left test (Hears inbox) i h = ap (left_in test) (fresh_line inbox i h).1
nothing_left test (Listens inbox) i h = ap (left_in test) (fresh_line inbox i h).1
nothing_left test (Follows s) i h = h.1

module _ (scene : Scene) (fine : IsFaultless scene) (app : ℕ) (small : app < length scene.apps) (xs : List PortInbox) (counted : length xs ≡ length (app_at scene app).ports)
    (each : (p : ℕ) → p < length xs → IsPortInbox scene app p 0 (inbox_at xs p) × IsFresh (inbox_at xs p)) (places : List ℕ) (placed : places ≡ map (place_on scene) (below (length scene.links))) where
  abbrev zeros : List ℕ
  zeros = replicate (length scene.links) 0

  place_at : (c : ℕ) → c < length scene.links → slice_index places c ≡ place_on scene c
  place_at c link = ap (λ (ps : List ℕ). slice_index ps c) placed ∙ get_or-map-range_with_len (place_on scene) 0 (length scene.links) c c 0 link here
    where
      here : 0 + c ≡ c
      here = omega arith

  zero_at : (c : ℕ) → c < length scene.links → slice_index (replicate (length scene.links) 0) c ≡ 0
  zero_at c link = get_or-replicate {A = ℕ} (length scene.links) c 0 0 link

  fresh_at : (p : ℕ) → IsFresh (inbox_at xs p)
  fresh_at p = go (cases_lt p (length xs))
    where
      go : (p < length xs) ⊎ (length xs ≤ p) → IsFresh (inbox_at xs p)
      go (inl l) = (each p l).1
      go (inr g) = subst IsFresh (sym (get_or_past xs p Silent g)) tt

  pub opened_are : AreInboxes scene app 0 (replicate (length scene.links) 0) places xs
  opened_are = record {
    counted = counted;
    each = λ p l. (each p l).0;
    placed = λ c link to. subst (IsPlaceOf scene app c) (sym (place_at c link)) (place_is scene app c link to);
    placed_back = λ p i l. let at : IsLinkTo scene app p (slice_index (links_to scene app p) i) = lead_at scene app p i l in place_at _ at.0 ∙ place_back scene app p _ i at.1 at.2 l refl;
    admitted = λ c link to. none_admitted (inbox_at xs (link_at scene c).to_port) (slice_index places c) (fresh_at _) ∙ sym (zero_at c link);
  }

  abbrev pub opened : List Bool → Machine
  opened state = record { scene = scene; app = app; ran = 0; put = replicate (length scene.links) 0; taken = replicate (length scene.links) 0; state = state; waiting = waiting_in scene app 0 xs places; pending = replicate (length scene.links) None }

  pub opened_is : (last : ℕ) (into out needs most : List ℕ) (paces : List Pace) (plan : TurnPlan) → last ≡ steps scene app → into ≡ into_of scene app → paces ≡ map (pace_of scene) into → out ≡ out_of scene app
      → length needs ≡ length scene.links → EachTo scene app (λ c. slice_index needs c ≡ wanted scene c 0)
      → length most ≡ length scene.links → EachFrom scene app (λ c. slice_index most c ≡ wanted_blocks scene c) → plan ≡ turn_plan (app_at scene app).ports (app_at scene app).rules
      → IsMachine (opened (opening (app_at scene app).rules)) (record { last = last; into = into; paces = paces; out = out; needs = needs; most = most; places = places; plan = plan; inboxes = xs })
  opened_is last into out needs most paces plan is_last comes_in paced goes_out need_count each_need most_count each_most planned = record {
    faultless = fine;
    here = small;
    all_steps = is_last;
    within = omega arith;
    puts = length-replicate (length scene.links) 0;
    takes = length-replicate (length scene.links) 0;
    pendings = length-replicate (length scene.links) None;
    need_count = need_count;
    most_count = most_count;
    place_count = ap (λ (ps : List ℕ). length ps) placed ∙ length-map-range_with_len (place_on scene) 0 (length scene.links);
    truth_count = refl;
    planned = planned;
    comes_in = comes_in;
    paced = paced;
    goes_out = goes_out;
    each_need = each_need;
    each_most = each_most;
    inboxes_are = opened_are;
    seen = refl;
    owed = λ c link from. rw (get_or-replicate {A = Option Block} (length scene.links) c None None link, get_or-replicate {A = ℕ} (length scene.links) c 0 0 link) (omega arith);
  }

  keeps_nothing : (kind : PortKind) (table : Table) (c : ℕ) → KeepsOf kind scene table 0 c 0 []
  keeps_nothing Values table c = refl
  keeps_nothing Events table c = λ k. rw (le-ltb k 0 (omega arith)) refl
  keeps_nothing Messages table c = λ k. rw (le-ltb k 0 (omega arith)) refl

  pub opened_started : IsStarted scene app (opened (opening (app_at scene app).rules))
  opened_started = record {
    is_scene = refl;
    is_app = refl;
    no_step = refl;
    none_put = refl;
    none_taken = refl;
    follows = λ table proper. record {
      proper = proper;
      there = λ c link to. rw (zero_at c link) (omega arith);
      keeps = λ c link to. rw (zero_at c link, waiting_is scene app 0 xs places c link to, nothing_left (is_due_from scene c 0) (inbox_at xs (link_at scene c).to_port) (slice_index places c) (fresh_at _)) (keeps_nothing (input_of scene c).kind table c);
      truths = refl;
      owed = λ c link from. rw (get_or-replicate {A = Option Block} (length scene.links) c None None link) tt;
    };
  }

  module _ (put taken : List ℕ) (state : List Bool) (pending : List (Option Block)) (puts : put ≡ replicate (length scene.links) 0) (takes : taken ≡ replicate (length scene.links) 0)
      (truths : state ≡ opening (app_at scene app).rules) (pendings : pending ≡ replicate (length scene.links) None) where
    opened_same : record { scene = scene; app = app; ran = 0; put = put; taken = taken; state = state; waiting = waiting_in scene app 0 xs places; pending = pending } ≡ opened (opening (app_at scene app).rules)
    opened_same = λ i. record { scene = scene; app = app; ran = 0; put = puts i; taken = takes i; state = truths i; waiting = waiting_in scene app 0 xs places; pending = pendings i }

    pub opened_as : (last : ℕ) (into out needs most : List ℕ) (paces : List Pace) (plan : TurnPlan) → last ≡ steps scene app → into ≡ into_of scene app → paces ≡ map (pace_of scene) into → out ≡ out_of scene app
        → length needs ≡ length scene.links → EachTo scene app (λ c. slice_index needs c ≡ wanted scene c 0)
        → length most ≡ length scene.links → EachFrom scene app (λ c. slice_index most c ≡ wanted_blocks scene c) → plan ≡ turn_plan (app_at scene app).ports (app_at scene app).rules
        → IsMachine (record { scene = scene; app = app; ran = 0; put = put; taken = taken; state = state; waiting = waiting_in scene app 0 xs places; pending = pending })
        (record { last = last; into = into; paces = paces; out = out; needs = needs; most = most; places = places; plan = plan; inboxes = xs })
    opened_as last into out needs most paces plan a b c d e f g h i = subst (λ (m : Machine). IsMachine m (record { last = last; into = into; paces = paces; out = out; needs = needs; most = most; places = places; plan = plan; inboxes = xs })) (sym opened_same)
        (opened_is last into out needs most paces plan a b c d e f g h i)

    pub started_as : IsStarted scene app (record { scene = scene; app = app; ran = 0; put = put; taken = taken; state = state; waiting = waiting_in scene app 0 xs places; pending = pending })
    started_as = subst (IsStarted scene app) (sym opened_same) opened_started

-- ---- the lists of a start

pub needs_are : (scene : Scene) (app j : ℕ) (into needs : List ℕ) → into ≡ into_of scene app
    → ((i : ℕ) → i < length into → slice_index needs (slice_index into i) ≡ wanted scene (slice_index into i) j) → EachTo scene app (λ c. slice_index needs c ≡ wanted scene c j)
needs_are scene app j into needs is each = (by_place (receiver scene) app (length scene.links) into (into_listed scene app into is) (λ c. slice_index needs c ≡ wanted scene c j)).0 each

pub most_count : (scene : Scene) (most : List ℕ) → most ≡ map (wanted_blocks scene) (below (length scene.links)) → length most ≡ length scene.links
most_count scene most is = ap (λ (xs : List ℕ). length xs) is ∙ length-map-range_with_len (wanted_blocks scene) 0 (length scene.links)

pub most_are : (scene : Scene) (app : ℕ) (most : List ℕ) → most ≡ map (wanted_blocks scene) (below (length scene.links)) → EachFrom scene app (λ c. slice_index most c ≡ wanted_blocks scene c)
most_are scene app most is c small from = ap (λ (xs : List ℕ). slice_index xs c) is ∙ get_or-map-range_with_len (wanted_blocks scene) 0 (length scene.links) c c 0 small (here c)
  where
    here : (n : ℕ) → 0 + n ≡ n
    here n = omega arith

pub zero_count : (n m : ℕ) (list : List ℕ) → list ≡ replicate n 0 → n ≡ m → length list ≡ m
zero_count n m list is e = ap (λ (xs : List ℕ). length xs) is ∙ length-replicate n 0 ∙ e

-- what a connection leads to is of the scene
pub into_of_small : (scene : Scene) (app : ℕ) (into : List ℕ) → into ≡ into_of scene app → (i : ℕ) → i < length into → slice_index into i < length scene.links
into_of_small scene app into is = listed_small (receiver scene) app (length scene.links) into (into_listed scene app into is)
