-- What stands at a port before the first step.
use Rattle.std.proofs.Common.{ℕ, zero, suc, ◌+◌, ◌<◌, ◌≤◌, ◌≡◌, ◌⊎◌, inl, inr, refl, sym, ◌∙◌, ap, subst, arith, List, [], ◌∷◌, ◌++◌, length, map, take, get_or, Bool, true, false, cond}
use Rattle.std.specs.Prelude.{◌==◌, ◌&&◌, slice_index}
use Rattle.std.specs.List.{AllByRecursion, filter}
use Rattle.std.proofs.lemmas.Bool.{cases_lt}
use Rattle.std.proofs.lemmas.List.{get_or_append_left}
use Rattle.std.proofs.lemmas.List.FromFn.{length-range_with_len}
use Rattle.music_base.specs.Numbers.{below}
use Rattle.index_maps.specs.Maps.{rank_count}
use Rattle.std.proofs.Math.Seq.{get_or-append_seam}
use Rattle.music_base.specs.Pairs.{AllPaired}
use Rattle.music_base.proofs.Lists.{All-map_of}
use Rattle.music_base.proofs.Pairs.{paired_length}
use Rattle.scene_model.specs.Clocks.{delay, start, tick}
use Rattle.scene_model.specs.Faults.{IsFaultless}
use Rattle.scene_model.specs.Scenes.{app_at, input_of, link_at, links_to, port_at, receiver, sender}
use Rattle.scene_model.specs.declared.port.Direction.TheVariants.{Input}
use Rattle.scene_model.specs.declared.port.PortKind.TheVariants.{Events, Messages, Values}
use Rattle.scene_model.specs.declared.scene.Scene.{Scene}
use Rattle.scene_model.proofs.Faultless.{app_is, connection_is, links_to-few, port_is}
use Rattle.scene_model.proofs.Feeds.{IsLinkTo}
use Rattle.event_routes.specs.Routing.{Route}
use Rattle.port_inbox.specs.Holding.{IsLinkOf, IsMadeFor, IsRoutesOf}
use Rattle.port_inbox.specs.Inboxes.{Line, fresh_inbox, fresh_line}
use Rattle.port_inbox.specs.Samples.{fresh_samples}
use Rattle.port_inbox.specs.declared.arrivals.InboxLink.{InboxLink}
use Rattle.port_inbox.proofs.Staying.{made_lines}
use Rattle.app_turn.specs.PortInboxes.{IsFresh, IsPortInbox, inbox_at}
use Rattle.app_turn.specs.declared.inbox.PortInbox.{PortInbox}
use Rattle.app_turn.specs.declared.inbox.PortInbox.TheVariants.{Silent, Hears, Listens, Follows}
use Rattle.app_turn.proofs.Keeping.{lead_at}

all_fresh : (links : List InboxLink) → AllByRecursion (λ (line : Line). (line.admitted ≡ 0) × (line.kept ≡ [])) (map fresh_line links)
all_fresh links = All-map_of (λ (line : Line). (line.admitted ≡ 0) × (line.kept ≡ [])) fresh_line (λ link. (refl, refl)) links

module _ (scene : Scene) (b p : ℕ) (input : (port_at scene b p).direction ≡ Input) (links : List InboxLink) (starts ticks : ℕ) (is_start : starts ≡ (app_at scene b).start) (is_tick : ticks ≡ (app_at scene b).tick)
    (are : AllPaired (IsLinkOf scene) (links_to scene b p) links) where
  made : IsMadeFor scene b p links starts ticks
  unfolding start tick
  made = record { begins = is_start; steps = is_tick; lines = are }

  pub fresh_events : (port_at scene b p).kind ≡ Events → (routes : List (List Route)) → AllPaired (IsRoutesOf scene) (links_to scene b p) routes
      → IsPortInbox scene b p 0 (Hears (fresh_inbox links routes starts ticks)) × IsFresh (Hears (fresh_inbox links routes starts ticks))
  fresh_events carries routes routed =
      ((record { input = input; carries = carries; lined = made_lines scene b p links routes starts ticks made; in_time = omega arith }, routed), all_fresh links)

  pub fresh_messages : (port_at scene b p).kind ≡ Messages
      → IsPortInbox scene b p 0 (Listens (fresh_inbox links [] starts ticks)) × IsFresh (Listens (fresh_inbox links [] starts ticks))
  fresh_messages carries =
      ((record { input = input; carries = carries; lined = made_lines scene b p links [] starts ticks made; in_time = omega arith }, refl), all_fresh links)

-- the one connection of a continuous input
only_one : (cs : List ℕ) → 0 < length cs → length cs ≤ 1 → cs ≡ slice_index cs 0 ∷ []
only_one [] some few = absurd (omega (arith, some))
only_one (c ∷ []) some few = refl
only_one (c ∷ d ∷ cs) some few = absurd (omega (arith, few))

pub first_small : (scene : Scene) (b p : ℕ) (i : ℕ) → i < length (links_to scene b p) → slice_index (links_to scene b p) i < length scene.links
first_small scene b p i some = (lead_at scene b p i some).0

module _ (scene : Scene) (fine : IsFaultless scene) (b p : ℕ) (input : (port_at scene b p).direction ≡ Input) (carries : (port_at scene b p).kind ≡ Values) (some : 0 < length (links_to scene b p)) where
  abbrev one : ℕ
  one = slice_index (links_to scene b p) 0

  pub fresh_values : IsPortInbox scene b p 0 (Follows (fresh_samples (delay scene one) (input_of scene one).interpolate (app_at scene (sender scene one)).tick (app_at scene (receiver scene one)).tick (app_at scene (sender scene one)).start (app_at scene (receiver scene one)).start))
  unfolding start tick
  fresh_values =
      let at : IsLinkTo scene b p (slice_index (links_to scene b p) 0) = lead_at scene b p 0 some in
      record {
        input = input;
        carries = carries;
        made = record {
          only = only_one (links_to scene b p) some (links_to-few scene fine b p carries);
          behind = refl;
          between = refl;
          sends = refl;
          receives = ap (λ a. (app_at scene a).tick) at.1;
          sends_from = refl;
          receives_from = ap (λ a. (app_at scene a).start) at.1;
        };
      }

-- one port more
pub one_stands : (P : ℕ → PortInbox → Type 0) (i : ℕ) (all : List PortInbox) (x : PortInbox) → length all ≡ i → ((p : ℕ) → p < i → P p (inbox_at all p)) → P i x → (p : ℕ) → p < i + 1 → P p (inbox_at (all ++ x ∷ []) p)
one_stands P i all x count each now p small = go (cases_lt p i)
  where
    go : (p < i) ⊎ (i ≤ p) → P p (inbox_at (all ++ x ∷ []) p)
    go (inl l) = subst (P p) (sym (get_or_append_left all (x ∷ []) Silent p (omega (arith, l, count)))) (each p l)
    go (inr g) =
        let is : p ≡ i = omega (arith, small, g) in
        let e : inbox_at (all ++ x ∷ []) i ≡ x = ap (λ n. inbox_at (all ++ x ∷ []) n) (sym count) ∙ get_or-append_seam all x [] Silent in
        let F : ℕ → Type 0 = λ q. P q (inbox_at (all ++ x ∷ []) q) in
        subst F (sym is) (subst (P i) (sym e) now)

-- ---- limits

filter_short : {X : Type 0} (p : X → Bool) (xs : List X) → length (filter p xs) ≤ length xs
filter_short p [] = omega arith
filter_short p (x ∷ xs) = go (p x) (filter_short p xs)
  where
    go : (b : Bool) → length (filter p xs) ≤ length xs → length (cond b (x ∷ filter p xs) (filter p xs)) ≤ suc (length xs)
    go true le = omega (arith, le)
    go false le = omega (arith, le)

pub few_links_to : (scene : Scene) → IsFaultless scene → (b p : ℕ) → length (links_to scene b p) ≤ 64
few_links_to scene fine b p =
    let few = fine.few_links in
    let part = filter_short (λ c. receiver scene c == b && (link_at scene c).to_port == p) (below (length scene.links)) in
    let all = length-range_with_len 0 (length scene.links) in
    omega (arith, few, part, all)

pub few_ranks : (scene : Scene) → IsFaultless scene → (c : ℕ) → c < length scene.links → rank_count (input_of scene c).map ≤ 64
few_ranks scene fine c small =
    let link = connection_is scene fine c small in
    let port = port_is scene fine (receiver scene c) (link_at scene c).to_port link.to_app link.to_port in
    let app = app_is scene fine (receiver scene c) link.to_app in
    let most = app.np.1 in
    omega (arith, port.ranks, most)

-- ---- pairs, one by one from the front

take_next : {X : Type 0} (xs : List X) (i : ℕ) (d : X) → i < length xs → take (i + 1) xs ≡ take i xs ++ get_or xs i d ∷ []
take_next [] i d lt = absurd (omega (arith, lt))
take_next (x ∷ xs) zero d lt = refl
take_next (x ∷ xs) (suc i) d lt = let e : suc i + 1 ≡ suc (i + 1) = omega arith in rw e (ap (λ ys. x ∷ ys) (take_next xs i d (omega (arith, lt))))

take_whole : {X : Type 0} (xs : List X) (i : ℕ) → length xs ≤ i → take i xs ≡ xs
take_whole [] zero le = refl
take_whole [] (suc i) le = refl
take_whole (x ∷ xs) zero le = absurd (omega (arith, le))
take_whole (x ∷ xs) (suc i) le = ap (λ ys. x ∷ ys) (take_whole xs i (omega (arith, le)))

paired_push : {X Y : Type 0} (P : X → Y → Type 0) (xs : List X) (ys : List Y) (x : X) (y : Y) → AllPaired P xs ys → P x y → AllPaired P (xs ++ x ∷ []) (ys ++ y ∷ [])
paired_push P [] [] x y h now = (now, tt)
paired_push P [] (z ∷ ys) x y h now = absurd h
paired_push P (w ∷ xs) [] x y h now = absurd h
paired_push P (w ∷ xs) (z ∷ ys) x y h now = (h.0, paired_push P xs ys x y h.1 now)

pub paired_next : {Y : Type 0} (P : ℕ → Y → Type 0) (xs : List ℕ) (ys : List Y) (i x : ℕ) (y : Y) → i < length xs → x ≡ slice_index xs i → AllPaired P (take i xs) ys → P x y → AllPaired P (take (i + 1) xs) (ys ++ y ∷ [])
paired_next P xs ys i x y lt is h now =
    rw (take_next xs i 0 lt) (paired_push P (take i xs) ys (get_or xs i 0) y h (subst (λ c. P c y) is now))

pub paired_whole : {Y : Type 0} (P : ℕ → Y → Type 0) (xs : List ℕ) (ys : List Y) (i : ℕ) → length xs ≤ i → AllPaired P (take i xs) ys → AllPaired P xs ys
paired_whole P xs ys i past h = subst (λ cs. AllPaired P cs ys) (take_whole xs i past) h

-- as many as there are connections
pub few_items : {Y : Type 0} (P : ℕ → Y → Type 0) (scene : Scene) → IsFaultless scene → (b p : ℕ) (links : List ℕ) (ys : List Y) → links ≡ links_to scene b p → AllPaired P links ys → length ys ≤ 64
few_items P scene fine b p links ys is h =
    let e = paired_length P links ys h in
    let few = few_links_to scene fine b p in
    let count : length links ≡ length (links_to scene b p) = ap (λ (cs : List ℕ). length cs) is in
    omega (arith, e, few, count)

pub same_items : {X Y : Type 0} (P : ℕ → X → Type 0) (Q : ℕ → Y → Type 0) (links : List ℕ) (xs : List X) (ys : List Y) → AllPaired P links xs → AllPaired Q links ys → length xs ≡ length ys
same_items P Q links xs ys h k = sym (paired_length P links xs h) ∙ paired_length Q links ys k

pub links_small : (scene : Scene) (b p : ℕ) (links : List ℕ) → links ≡ links_to scene b p → (i : ℕ) → i < length links → slice_index links i < length scene.links
links_small scene b p links is = subst (λ (cs : List ℕ). (i : ℕ) → i < length cs → slice_index cs i < length scene.links) (sym is) (first_small scene b p)
