-- What all inboxes of an application hold, by what contracts see of them.
use Rattle.std.proofs.Common.{ℕ, zero, suc, ◌<◌, ◌≤◌, ◌≡◌, ◌⊎◌, inl, inr, refl, sym, ◌∙◌, ap, subst, arith, List, [], ◌∷◌, length, true, false, nat_lt}
use Rattle.std.specs.Prelude.{slice_index, slice_index_or, ◌==◌, if◌then◌else◌}
use Rattle.std.specs.List.{AllByRecursion, filter}
use Rattle.std.proofs.lemmas.Bool.{cases_eq, eq-eqb, ne_eqb}
use Rattle.music_base.specs.Numbers.{below}
use Rattle.music_base.specs.declared.item.Block.{Block}
use Rattle.scene_model.specs.Clocks.{wanted}
use Rattle.scene_model.specs.Faults.{IsFaultless}
use Rattle.scene_model.specs.Scenes.{app_at, input_of, link_at, links_to, port_at, receiver, sender}
use Rattle.scene_model.specs.Tables.{Table, block_on, steps_of}
use Rattle.scene_model.specs.Orders.{EachTo}
use Rattle.scene_model.specs.declared.scene.Scene.{Scene}
use Rattle.scene_model.specs.declared.port.PortDecl.{PortDecl}
use Rattle.scene_model.specs.declared.port.PortKind.{PortKind}
use Rattle.scene_model.specs.declared.port.PortKind.TheVariants.{Events, Messages, Values}
use Rattle.scene_model.specs.declared.port.Direction.TheVariants.{Output, Input}
use Rattle.scene_model.proofs.Faultless.{connection_is}
use Rattle.scene_model.proofs.Feeds.{IsLinkTo, input_is, links_lead}
use Rattle.port_inbox.proofs.Keeping.{keeps_later}
use Rattle.music_base.proofs.Lists.{All-below, map-agree_each}
use Rattle.scene_model.specs.Due.{is_due_from}
use Rattle.port_inbox.specs.Due.{items_numbered, left_in}
use Rattle.port_inbox.specs.Holding.{HoldsFrom, KeepsFrom}
use Rattle.port_inbox.specs.Inboxes.{Inbox, Line, line_at, no_line}
use Rattle.app_turn.specs.Machines.{KeepsOf}
use Rattle.app_turn.specs.PortInboxes.{AreInboxes, AreKept, HoldsAt, IsLined, IsPortInbox, IsSettled, WantedAt, admitted_by, inbox_at, left_by, only_link, waiting_at, waiting_in}
use Rattle.app_turn.specs.declared.inbox.PortInbox.{PortInbox}
use Rattle.app_turn.specs.declared.inbox.PortInbox.TheVariants.{Silent, Unfed, Hears, Listens, Follows}
use Rattle.music_base.proofs.Pairs.{paired_at, paired_from}
use Rattle.app_turn.proofs.Views.{admitted_settled, count_of, held, left_at_settled, numbered_at, seen, stands_settled, waiting_is}

-- a connection of a port's list
pub lead_at : (scene : Scene) (b p i : ℕ) → i < length (links_to scene b p) → IsLinkTo scene b p (slice_index (links_to scene b p) i)
lead_at scene b p i small = go (links_to scene b p) i small (links_lead scene b p)
  where
    go : (cs : List ℕ) (i : ℕ) → i < length cs → AllByRecursion (IsLinkTo scene b p) cs → IsLinkTo scene b p (slice_index cs i)
    go [] i small h = absurd (omega arith)
    go (c ∷ cs) zero small h = h.0
    go (c ∷ cs) (suc i) small h = go cs i (omega arith) h.1

-- where nothing but one port has connections: an output has none
pub no_links : (scene : Scene) → IsFaultless scene → (b p : ℕ) → (port_at scene b p).direction ≡ Output → (i : ℕ) → i < length (links_to scene b p) → ⊥
no_links scene fine b p out i small =
    let at : IsLinkTo scene b p (slice_index (links_to scene b p) i) = lead_at scene b p i small in
    let e : (input_of scene (slice_index (links_to scene b p) i)).direction ≡ Output = ap (λ (q : PortDecl). q.direction) (input_is scene b p _ at) ∙ out in
    let f : (input_of scene (slice_index (links_to scene b p) i)).direction ≡ Input = (connection_is scene fine _ at.0).to_input in
    cc

module _ (scene : Scene) (fine : IsFaultless scene) (app j : ℕ) (taken places : List ℕ) (xs : List PortInbox) (are : AreInboxes scene app j taken places xs) where
  -- a connection of a port has its place there, and its count
  pub count_at : (p i : ℕ) → i < length (links_to scene app p) → admitted_by (inbox_at xs p) i ≡ slice_index taken (slice_index (links_to scene app p) i)
  count_at p i small =
      let at : IsLinkTo scene app p (slice_index (links_to scene app p) i) = lead_at scene app p i small in
      let c : admitted_by (inbox_at xs (link_at scene (slice_index (links_to scene app p) i)).to_port) (slice_index places (slice_index (links_to scene app p) i)) ≡ slice_index taken (slice_index (links_to scene app p) i) = are.admitted _ at.0 at.1 in
      rw (at.2, are.placed_back p i small) at c

  -- where the step's blocks were all taken, each inbox has just those
  wanted_by : (p : ℕ) → ((i : ℕ) → i < length (links_to scene app p) → admitted_by (inbox_at xs p) i ≡ wanted scene (slice_index (links_to scene app p) i) j) → (x : PortInbox) → inbox_at xs p ≡ x → IsPortInbox scene app p j x → WantedAt scene app p j x
  wanted_by p each Silent is h = tt
  wanted_by p each Unfed is h = tt
  wanted_by p each (Hears inbox) is h = paired_from (λ c (l : Line). l.admitted ≡ wanted scene c j) (links_to scene app p) inbox.lines 0 no_line (count_of scene app p inbox h.0.lined) (rw is at each)
  wanted_by p each (Listens inbox) is h = paired_from (λ c (l : Line). l.admitted ≡ wanted scene c j) (links_to scene app p) inbox.lines 0 no_line (count_of scene app p inbox h.0.lined) (rw is at each)
  wanted_by p each (Follows s) is h =
      let e : ((i : ℕ) → i < length (links_to scene app p) → s.admitted ≡ wanted scene (slice_index (links_to scene app p) i) j) = rw is at each in
      e 0 (let l : length (links_to scene app p) ≡ 1 = ap (λ (cs : List ℕ). length cs) h.made.only in omega (arith, l))

  pub wanted_at : EachTo scene app (λ c. slice_index taken c ≡ wanted scene c j) → (p : ℕ) → p < length xs → WantedAt scene app p j (inbox_at xs p)
  wanted_at all p small = wanted_by p (λ i l. let at : IsLinkTo scene app p (slice_index (links_to scene app p) i) = lead_at scene app p i l in count_at p i l ∙ all _ at.0 at.1) (inbox_at xs p) refl (are.each p small)

  -- what contracts see of them is a table's: then so is what they hold
  module _ (table : Table) (kept : AreKept scene app j taken (waiting_in scene app j xs places) table) where
    kept_by : (kind : PortKind) (p i : ℕ) → i < length (links_to scene app p) → (port_at scene app p).kind ≡ kind
        → KeepsOf kind scene table j (slice_index (links_to scene app p) i) (slice_index taken (slice_index (links_to scene app p) i)) (left_by (is_due_from scene (slice_index (links_to scene app p) i) j) (inbox_at xs p) i)
    kept_by kind p i small carries =
        let at : IsLinkTo scene app p (slice_index (links_to scene app p) i) = lead_at scene app p i small in
        let k : KeepsOf (input_of scene (slice_index (links_to scene app p) i)).kind scene table j (slice_index (links_to scene app p) i) (slice_index taken (slice_index (links_to scene app p) i)) (slice_index_or (waiting_in scene app j xs places) (slice_index (links_to scene app p) i) []) = kept.keeps _ at.0 at.1 in
        let w : slice_index_or (waiting_in scene app j xs places) (slice_index (links_to scene app p) i) [] ≡ left_by (is_due_from scene (slice_index (links_to scene app p) i) j) (inbox_at xs p) i =
        waiting_is scene app j xs places _ at.0 at.1 ∙ ap (λ q. left_by (is_due_from scene (slice_index (links_to scene app p) i) j) (inbox_at xs q) (slice_index places (slice_index (links_to scene app p) i))) at.2 ∙ ap (left_by (is_due_from scene (slice_index (links_to scene app p) i) j) (inbox_at xs p)) (are.placed_back p i small) in
        let e : (input_of scene (slice_index (links_to scene app p) i)).kind ≡ kind = ap (λ (q : PortDecl). q.kind) (input_is scene app p _ at) ∙ carries in
        let F : PortKind → Type 0 = λ q. KeepsOf q scene table j (slice_index (links_to scene app p) i) (slice_index taken (slice_index (links_to scene app p) i)) (slice_index_or (waiting_in scene app j xs places) (slice_index (links_to scene app p) i) []) in
        let G : List Block → Type 0 = λ bs. KeepsOf kind scene table j (slice_index (links_to scene app p) i) (slice_index taken (slice_index (links_to scene app p) i)) bs in
        subst G w (subst F e k)

    lines_hold : (p : ℕ) (kind : PortKind) (inbox : Inbox) → IsLined scene app p j kind inbox
        → ((i : ℕ) → i < length (links_to scene app p) → (line_at inbox i).admitted ≡ slice_index taken (slice_index (links_to scene app p) i))
        → ((i : ℕ) → i < length (links_to scene app p) → (k : ℕ) → items_numbered (left_in (is_due_from scene (slice_index (links_to scene app p) i) j) (line_at inbox i).kept) k ≡ (if nat_lt k (slice_index taken (slice_index (links_to scene app p) i)) then filter (is_due_from scene (slice_index (links_to scene app p) i) j) (block_on scene table (slice_index (links_to scene app p) i) k) else []))
        → HoldsFrom scene app p inbox.lines table j
    lines_hold p kind inbox h counts sees = paired_from (KeepsFrom scene table j) (links_to scene app p) inbox.lines 0 no_line (count_of scene app p inbox h.lined)
        (λ i small. held scene table j (slice_index (links_to scene app p) i) (slice_index taken (slice_index (links_to scene app p) i)) (line_at inbox i) (numbered_at inbox i h.lined.numbered) (counts i small) (sees i small))

    holds_by : (p : ℕ) (x : PortInbox) → inbox_at xs p ≡ x → IsPortInbox scene app p j x → HoldsAt scene app p j x table
    holds_by p Silent is h = tt
    holds_by p Unfed is h = tt
    holds_by p (Hears inbox) is h = lines_hold p Events inbox h.0 (λ i small. ap (λ z. admitted_by z i) (sym is) ∙ count_at p i small) (λ i small. rw is at (kept_by Events p i small h.0.carries))
    holds_by p (Listens inbox) is h = lines_hold p Messages inbox h.0 (λ i small. ap (λ z. admitted_by z i) (sym is) ∙ count_at p i small) (λ i small. rw is at (kept_by Messages p i small h.0.carries))
    holds_by p (Follows s) is h =
        let one : length (links_to scene app p) ≡ 1 = ap (λ (cs : List ℕ). length cs) h.made.only in
        let small : 0 < length (links_to scene app p) = omega (arith, one) in
        let at : IsLinkTo scene app p (only_link scene app p) = lead_at scene app p 0 small in
        let count : s.admitted ≡ slice_index taken (only_link scene app p) = ap (λ z. admitted_by z 0) (sym is) ∙ count_at p 0 small in
        let there : slice_index taken (only_link scene app p) ≤ length (steps_of table (sender scene (only_link scene app p))) = kept.there _ at.0 at.1 in
        record { there = omega (arith, count, there); last = rw (is, ← count) at (kept_by Values p 0 small h.carries) }

    pub holds_at : (p : ℕ) → p < length xs → HoldsAt scene app p j (inbox_at xs p) table
    holds_at p small = holds_by p (inbox_at xs p) refl (are.each p small)

  -- ---- after a delivery
  module _ (ys : List PortInbox) (counted : length ys ≡ length xs) (after : (p : ℕ) → p < length xs → IsSettled j (inbox_at xs p) (inbox_at ys p)) where
    -- the port of a connection
    port_small : (c : ℕ) → c < length scene.links → receiver scene c ≡ app → (link_at scene c).to_port < length xs
    port_small c link to =
        let l : (link_at scene c).to_port < length (app_at scene (receiver scene c)).ports = (connection_is scene fine c link).to_port in
        let F : ℕ → Type 0 = λ a. (link_at scene c).to_port < length (app_at scene a).ports in
        let m : (link_at scene c).to_port < length (app_at scene app).ports = subst F to l in
        omega (arith, m, are.counted)

    pub are_after : (k : ℕ) → j ≤ k → AreInboxes scene app k taken places ys
    are_after k le = record {
      counted = counted ∙ are.counted;
      each = λ p small. stands_settled scene app p j k (inbox_at xs p) (inbox_at ys p) le (are.each p (omega (arith, small, counted))) (after p (omega (arith, small, counted)));
      placed = are.placed;
      placed_back = are.placed_back;
      admitted = λ c link to. admitted_settled scene app (link_at scene c).to_port j (inbox_at xs (link_at scene c).to_port) (inbox_at ys (link_at scene c).to_port) (slice_index places c) (are.each _ (port_small c link to)) (after _ (port_small c link to)) (are.placed c link to).within ∙ are.admitted c link to;
    }

    -- each connection's view, from the step on
    view_after : (k c : ℕ) → j ≤ k → c < length scene.links → receiver scene c ≡ app
        → left_by (is_due_from scene c k) (inbox_at ys (link_at scene c).to_port) (slice_index places c) ≡ left_by (is_due_from scene c k) (inbox_at xs (link_at scene c).to_port) (slice_index places c)
    view_after k c le link to = left_at_settled scene app (link_at scene c).to_port j k c (slice_index places c) (inbox_at xs (link_at scene c).to_port) (inbox_at ys (link_at scene c).to_port) (are.each _ (port_small c link to)) (after _ (port_small c link to)) le (are.placed c link to).within (are.placed c link to).is to

    pub waiting_same : waiting_in scene app j ys places ≡ waiting_in scene app j xs places
    unfolding waiting_in waiting_at
    waiting_same = map-agree_each (waiting_at scene app j ys places) (waiting_at scene app j xs places) (below (length scene.links))
        (All-below (λ c. waiting_at scene app j ys places c ≡ waiting_at scene app j xs places c) (length scene.links) (λ c small. go c small (cases_eq (receiver scene c) app)))
      where
        go : (c : ℕ) → c < length scene.links → (receiver scene c ≡ app) ⊎ (receiver scene c ≡ app → ⊥) → waiting_at scene app j ys places c ≡ waiting_at scene app j xs places c
        go c small (inl to) = let t : (receiver scene c == app) ≡ true = eq-eqb (receiver scene c) app to in rw t (view_after j c (omega arith) small to)
        go c small (inr ne) = let t : (receiver scene c == app) ≡ false = ne_eqb (receiver scene c) app ne in rw t refl

    -- what is kept of a table is kept from the next step on
    pub kept_after : (table : Table) → AreKept scene app j taken (waiting_in scene app j xs places) table → (k : ℕ) → j ≤ k → AreKept scene app k taken (waiting_in scene app k ys places) table
    kept_after table kept k le = record { there = kept.there; keeps = λ c link to. each c link to (inbox_at xs (link_at scene c).to_port) refl }
      where
        now : (c : ℕ) → c < length scene.links → receiver scene c ≡ app → slice_index_or (waiting_in scene app k ys places) c [] ≡ left_by (is_due_from scene c k) (inbox_at xs (link_at scene c).to_port) (slice_index places c)
        now c link to = waiting_is scene app k ys places c link to ∙ view_after k c le link to

        kind_is : (c : ℕ) → receiver scene c ≡ app → (kind : PortKind) → (port_at scene app (link_at scene c).to_port).kind ≡ kind → (input_of scene c).kind ≡ kind
        kind_is c to kind carries = ap (λ b. (port_at scene b (link_at scene c).to_port).kind) to ∙ carries

        later : (c : ℕ) (link : c < length scene.links) (to : receiver scene c ≡ app) (kind : PortKind) (inbox : Inbox) → IsLined scene app (link_at scene c).to_port j kind inbox
            → (line_at inbox (slice_index places c)).admitted ≡ slice_index taken c → HoldsFrom scene app (link_at scene c).to_port inbox.lines table j
            → (n : ℕ) → items_numbered (left_in (is_due_from scene c k) (line_at inbox (slice_index places c)).kept) n ≡ (if nat_lt n (slice_index taken c) then filter (is_due_from scene c k) (block_on scene table c n) else [])
        later c link to kind inbox h count holds =
            let place = are.placed c link to in
            let at : KeepsFrom scene table j (slice_index (links_to scene app (link_at scene c).to_port) (slice_index places c)) (line_at inbox (slice_index places c)) = paired_at (KeepsFrom scene table j) (links_to scene app (link_at scene c).to_port) inbox.lines 0 no_line holds (slice_index places c) place.within in
            let here : KeepsFrom scene table j c (line_at inbox (slice_index places c)) = subst (λ d. KeepsFrom scene table j d (line_at inbox (slice_index places c))) place.is at in
            seen scene table k c (slice_index taken c) (line_at inbox (slice_index places c)) (numbered_at inbox (slice_index places c) h.lined.numbered) count (keeps_later scene table j k c (line_at inbox (slice_index places c)) le here)

        each : (c : ℕ) → c < length scene.links → receiver scene c ≡ app → (x : PortInbox) → inbox_at xs (link_at scene c).to_port ≡ x
            → KeepsOf (input_of scene c).kind scene table k c (slice_index taken c) (slice_index_or (waiting_in scene app k ys places) c [])
        each c link to x is =
            let F : List Block → Type 0 = λ bs. KeepsOf (input_of scene c).kind scene table k c (slice_index taken c) bs in
            subst F (sym (now c link to ∙ ap (λ z. left_by (is_due_from scene c k) z (slice_index places c)) is))
            (go x is (subst (IsPortInbox scene app (link_at scene c).to_port j) is (are.each _ (port_small c link to))) (subst (λ z. HoldsAt scene app (link_at scene c).to_port j z table) is (holds_at table kept _ (port_small c link to)))
            (ap (λ z. admitted_by z (slice_index places c)) (sym is) ∙ are.admitted c link to))
          where
            go : (x : PortInbox) → inbox_at xs (link_at scene c).to_port ≡ x → IsPortInbox scene app (link_at scene c).to_port j x → HoldsAt scene app (link_at scene c).to_port j x table → admitted_by x (slice_index places c) ≡ slice_index taken c
                → KeepsOf (input_of scene c).kind scene table k c (slice_index taken c) (left_by (is_due_from scene c k) x (slice_index places c))
            go Silent is h holds count = absurd (no_links scene fine app (link_at scene c).to_port h (slice_index places c) (are.placed c link to).within)
            go Unfed is h holds count = absurd (let e : length (links_to scene app (link_at scene c).to_port) ≡ 0 = ap (λ (cs : List ℕ). length cs) h.2 in omega (arith, e, (are.placed c link to).within))
            go (Hears inbox) is h holds count = rw (kind_is c to Events h.0.carries) (later c link to Events inbox h.0 count holds)
            go (Listens inbox) is h holds count = rw (kind_is c to Messages h.0.carries) (later c link to Messages inbox h.0 count holds)
            go (Follows s) is h holds count =
                let w : KeepsOf (input_of scene c).kind scene table j c (slice_index taken c) (slice_index_or (waiting_in scene app j xs places) c []) = kept.keeps c link to in
                let e : slice_index_or (waiting_in scene app j xs places) c [] ≡ s.kept = waiting_is scene app j xs places c link to ∙ ap (λ z. left_by (is_due_from scene c j) z (slice_index places c)) is in
                rw (kind_is c to Values h.carries) (rw (e, kind_is c to Values h.carries) at w)
