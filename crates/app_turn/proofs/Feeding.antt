-- What a block more, and room for it, change in the inboxes.
use Rattle.std.proofs.Common.{ℕ, ◌+◌, ◌<◌, ◌≤◌, ◌≡◌, ◌⊎◌, inl, inr, refl, sym, ◌∙◌, ap, subst, arith, List, [], ◌∷◌, length, get_or-set_same, get_or-set_other, slice_set, Bool, true, false}
use Rattle.std.specs.Prelude.{slice_index, slice_index_or, ◌==◌}
use Rattle.std.proofs.lemmas.Bool.{cases_eq, eq-eqb, ne_eqb}
use Rattle.std.proofs.Math.ListN.{length-set}
use Rattle.music_base.specs.Numbers.{below}
use Rattle.music_base.specs.declared.item.Item.{Item}
use Rattle.music_base.specs.declared.item.Block.{Block}
use Rattle.scene_model.specs.Faults.{IsFaultless}
use Rattle.scene_model.specs.Scenes.{app_at, input_of, link_at, links_to, port_at, receiver, sender}
use Rattle.scene_model.specs.Tables.{Table, block_on, steps_of}
use Rattle.scene_model.specs.Orders.{one_more}
use Rattle.scene_model.specs.declared.scene.Scene.{Scene}
use Rattle.scene_model.specs.declared.port.PortKind.{PortKind}
use Rattle.scene_model.specs.declared.port.PortKind.TheVariants.{Events, Messages}
use Rattle.scene_model.proofs.Faultless.{connection_is}
use Rattle.scene_model.proofs.Sound.{one_more-same, one_more-other}
use Rattle.port_inbox.proofs.Keeping.{keeps_admitted}
use Rattle.port_inbox.proofs.Numbered.{numbered_push}
use Rattle.music_base.proofs.Lists.{All-below, map-agree_each}
use Rattle.port_inbox.proofs.Sampling.{samples_admitted}
use Rattle.scene_model.specs.Due.{is_due_from}
use Rattle.port_inbox.specs.Due.{left_in}
use Rattle.port_inbox.specs.Holding.{KeepsFrom}
use Rattle.port_inbox.specs.Inboxes.{Inbox, Line, line_at, no_line, with_block, with_line}
use Rattle.app_turn.specs.Machines.{HasBlock, KeepsOf}
use Rattle.port_inbox.specs.Samples.{HoldsSamples, with_sample}
use Rattle.app_turn.specs.PortInboxes.{AreInboxes, AreKept, HasPlace, HoldsAt, IsLined, IsPortInbox, admitted_by, inbox_at, left_by, only_link, waiting_at, waiting_in, with_admitted, with_room}
use Rattle.app_turn.specs.declared.inbox.PortInbox.{PortInbox}
use Rattle.app_turn.specs.declared.inbox.PortInbox.TheVariants.{Silent, Unfed, Hears, Listens, Follows}
use Rattle.music_base.proofs.Pairs.{paired_at}
use Rattle.port_inbox.proofs.Staying.{lines_admitted, lines_reserved}
use Rattle.app_turn.proofs.Views.{count_of, numbered_at, seen, waiting_is}
use Rattle.app_turn.proofs.Keeping.{holds_at, no_links}

-- ---- one inbox

module _ (scene : Scene) (b p j : ℕ) (kind : PortKind) (inbox : Inbox) (h : IsLined scene b p j kind inbox) where
  pub small_line : (i : ℕ) → i < length (links_to scene b p) → i < length inbox.lines
  small_line i small = omega (arith, count_of scene b p inbox h.lined)

  -- with room at a connection, and with a block more
  lined_roomy : (i n : ℕ) → i < length (links_to scene b p) → IsLined scene b p j kind (with_line inbox i (record (line_at inbox i) { spare = n }))
  lined_roomy i n small = record { input = h.input; carries = h.carries; lined = lines_reserved scene b p i n inbox (small_line i small) h.lined; in_time = h.in_time }

  lined_fed : (i : ℕ) (block : Block) → i < length (links_to scene b p) → block.number ≡ (line_at inbox i).admitted → IsLined scene b p j kind (with_line inbox i (with_block (line_at inbox i) block))
  lined_fed i block small e = record { input = h.input; carries = h.carries; lined = lines_admitted scene b p i inbox block (small_line i small) e h.lined; in_time = h.in_time }

  line_same : (i : ℕ) (l : Line) → i < length (links_to scene b p) → line_at (with_line inbox i l) i ≡ l
  line_same i l small = get_or-set_same inbox.lines i l no_line (small_line i small)

  line_other : (i k : ℕ) (l : Line) → (k ≡ i → ⊥) → line_at (with_line inbox i l) k ≡ line_at inbox k
  line_other i k l ne = get_or-set_other inbox.lines i k l no_line ne

-- room: it stands, and its counts and what is seen are the same
pub roomy_stands : (scene : Scene) (b p j i n : ℕ) (x : PortInbox) → i < length (links_to scene b p) → IsPortInbox scene b p j x → IsPortInbox scene b p j (with_room x i n)
roomy_stands scene b p j i n Silent small h = h
roomy_stands scene b p j i n Unfed small h = h
roomy_stands scene b p j i n (Hears inbox) small h = (lined_roomy scene b p j Events inbox h.0 i n small, h.1)
roomy_stands scene b p j i n (Listens inbox) small h = (lined_roomy scene b p j Messages inbox h.0 i n small, h.1)
roomy_stands scene b p j i n (Follows s) small h = h

roomy_line : (scene : Scene) (b p j : ℕ) (kind : PortKind) (inbox : Inbox) (h : IsLined scene b p j kind inbox) (i n k : ℕ) → i < length (links_to scene b p)
    → ((line_at (with_line inbox i (record (line_at inbox i) { spare = n })) k).admitted ≡ (line_at inbox k).admitted) × ((line_at (with_line inbox i (record (line_at inbox i) { spare = n })) k).kept ≡ (line_at inbox k).kept)
roomy_line scene b p j kind inbox h i n k small = go (cases_eq k i)
  where
    new : Line
    new = record (line_at inbox i) { spare = n }

    go : (k ≡ i) ⊎ (k ≡ i → ⊥) → ((line_at (with_line inbox i (record (line_at inbox i) { spare = n })) k).admitted ≡ (line_at inbox k).admitted) × ((line_at (with_line inbox i (record (line_at inbox i) { spare = n })) k).kept ≡ (line_at inbox k).kept)
    go (inl e) = rw (e, line_same scene b p j kind inbox h i (record (line_at inbox i) { spare = n }) small) (refl, refl)
    go (inr ne) = rw (line_other scene b p j kind inbox h i k (record (line_at inbox i) { spare = n }) ne) (refl, refl)

pub roomy_admitted : (scene : Scene) (b p j i n k : ℕ) (x : PortInbox) → i < length (links_to scene b p) → IsPortInbox scene b p j x → admitted_by (with_room x i n) k ≡ admitted_by x k
roomy_admitted scene b p j i n k Silent small h = refl
roomy_admitted scene b p j i n k Unfed small h = refl
roomy_admitted scene b p j i n k (Hears inbox) small h = (roomy_line scene b p j Events inbox h.0 i n k small).0
roomy_admitted scene b p j i n k (Listens inbox) small h = (roomy_line scene b p j Messages inbox h.0 i n k small).0
roomy_admitted scene b p j i n k (Follows s) small h = refl

pub roomy_left : (test : Item → Bool) (scene : Scene) (b p j i n k : ℕ) (x : PortInbox) → i < length (links_to scene b p) → IsPortInbox scene b p j x → left_by test (with_room x i n) k ≡ left_by test x k
roomy_left test scene b p j i n k Silent small h = refl
roomy_left test scene b p j i n k Unfed small h = refl
roomy_left test scene b p j i n k (Hears inbox) small h = ap (left_in test) (roomy_line scene b p j Events inbox h.0 i n k small).1
roomy_left test scene b p j i n k (Listens inbox) small h = ap (left_in test) (roomy_line scene b p j Messages inbox h.0 i n k small).1
roomy_left test scene b p j i n k (Follows s) small h = refl

-- a block more: it stands, with one more at that place, and the others are the same
pub fed_stands : (scene : Scene) (b p j i : ℕ) (x : PortInbox) (block : Block) → i < length (links_to scene b p) → block.number ≡ admitted_by x i → IsPortInbox scene b p j x → IsPortInbox scene b p j (with_admitted x i block)
fed_stands scene b p j i Silent block small e h = h
fed_stands scene b p j i Unfed block small e h = h
fed_stands scene b p j i (Hears inbox) block small e h = (lined_fed scene b p j Events inbox h.0 i block small e, h.1)
fed_stands scene b p j i (Listens inbox) block small e h = (lined_fed scene b p j Messages inbox h.0 i block small e, h.1)
fed_stands scene b p j i (Follows s) block small e h = record { input = h.input; carries = h.carries; made = record { only = h.made.only; behind = h.made.behind; between = h.made.between; sends = h.made.sends; receives = h.made.receives; sends_from = h.made.sends_from; receives_from = h.made.receives_from } }

pub fed_admitted : (scene : Scene) (b p j i c : ℕ) (x : PortInbox) (block : Block) → i < length (links_to scene b p) → slice_index (links_to scene b p) i ≡ c → IsFaultless scene → IsPortInbox scene b p j x → admitted_by (with_admitted x i block) i ≡ admitted_by x i + 1
fed_admitted scene b p j i c Silent block small is fine h = absurd (no_links scene fine b p h i small)
fed_admitted scene b p j i c Unfed block small is fine h = absurd (let e : length (links_to scene b p) ≡ 0 = ap (λ (cs : List ℕ). length cs) h.2 in omega (arith, e, small))
fed_admitted scene b p j i c (Hears inbox) block small is fine h = ap (λ (l : Line). l.admitted) (line_same scene b p j Events inbox h.0 i (with_block (line_at inbox i) block) small)
fed_admitted scene b p j i c (Listens inbox) block small is fine h = ap (λ (l : Line). l.admitted) (line_same scene b p j Messages inbox h.0 i (with_block (line_at inbox i) block) small)
fed_admitted scene b p j i c (Follows s) block small is fine h = refl

-- at another place
one_place : (scene : Scene) (b p i k c : ℕ) → links_to scene b p ≡ c ∷ [] → i < length (links_to scene b p) → k < length (links_to scene b p) → k ≡ i
one_place scene b p i k c only small also = let e : length (links_to scene b p) ≡ 1 = ap (λ (cs : List ℕ). length cs) only in omega (arith, e, small, also)

pub fed_admitted_other : (scene : Scene) (b p j i k : ℕ) (x : PortInbox) (block : Block) → i < length (links_to scene b p) → k < length (links_to scene b p) → (k ≡ i → ⊥) → IsPortInbox scene b p j x → admitted_by (with_admitted x i block) k ≡ admitted_by x k
fed_admitted_other scene b p j i k Silent block small also ne h = refl
fed_admitted_other scene b p j i k Unfed block small also ne h = refl
fed_admitted_other scene b p j i k (Hears inbox) block small also ne h = ap (λ (l : Line). l.admitted) (line_other scene b p j Events inbox h.0 i k (with_block (line_at inbox i) block) ne)
fed_admitted_other scene b p j i k (Listens inbox) block small also ne h = ap (λ (l : Line). l.admitted) (line_other scene b p j Messages inbox h.0 i k (with_block (line_at inbox i) block) ne)
fed_admitted_other scene b p j i k (Follows s) block small also ne h = absurd (ne (one_place scene b p i k _ h.made.only small also))

pub fed_left_other : (test : Item → Bool) (scene : Scene) (b p j i k : ℕ) (x : PortInbox) (block : Block) → i < length (links_to scene b p) → k < length (links_to scene b p) → (k ≡ i → ⊥) → IsPortInbox scene b p j x → left_by test (with_admitted x i block) k ≡ left_by test x k
fed_left_other test scene b p j i k Silent block small also ne h = refl
fed_left_other test scene b p j i k Unfed block small also ne h = refl
fed_left_other test scene b p j i k (Hears inbox) block small also ne h = ap (λ (l : Line). left_in test l.kept) (line_other scene b p j Events inbox h.0 i k (with_block (line_at inbox i) block) ne)
fed_left_other test scene b p j i k (Listens inbox) block small also ne h = ap (λ (l : Line). left_in test l.kept) (line_other scene b p j Messages inbox h.0 i k (with_block (line_at inbox i) block) ne)
fed_left_other test scene b p j i k (Follows s) block small also ne h = absurd (ne (one_place scene b p i k _ h.made.only small also))

-- it keeps the table, where the block is the table's
pub fed_keeps : (scene : Scene) → IsFaultless scene → (table : Table) (b p j i c n : ℕ) (x : PortInbox) (block : Block) → i < length (links_to scene b p) → slice_index (links_to scene b p) i ≡ c → IsPortInbox scene b p j x
    → admitted_by x i ≡ n → block.number ≡ n → HasBlock scene table c block.number → block_on scene table c block.number ≡ block.items → HoldsAt scene b p j x table
    → KeepsOf (port_at scene b p).kind scene table j c (n + 1) (left_by (is_due_from scene c j) (with_admitted x i block) i)
fed_keeps scene fine table b p j i c n Silent block small is h count e has at holds = absurd (no_links scene fine b p h i small)
fed_keeps scene fine table b p j i c n Unfed block small is h count e has at holds = absurd (let e : length (links_to scene b p) ≡ 0 = ap (λ (cs : List ℕ). length cs) h.2 in omega (arith, e, small))
fed_keeps scene fine table b p j i c n (Hears inbox) block small is h count e has at holds =
    let old : KeepsFrom scene table j c (line_at inbox i) = subst (λ d. KeepsFrom scene table j d (line_at inbox i)) is (paired_at (KeepsFrom scene table j) (links_to scene b p) inbox.lines 0 no_line holds i small) in
    let number : block.number ≡ (line_at inbox i).admitted = e ∙ sym count in
    let new : KeepsFrom scene table j c (with_block (line_at inbox i) block) = keeps_admitted scene table j c (line_at inbox i) block (numbered_at inbox i h.0.lined.numbered) number (sym at) old in
    rw (h.0.carries, line_same scene b p j Events inbox h.0 i (with_block (line_at inbox i) block) small)
    (seen scene table j c (n + 1) (with_block (line_at inbox i) block) (numbered_push (line_at inbox i).kept block 0 (line_at inbox i).admitted (omega arith) number (numbered_at inbox i h.0.lined.numbered)) (ap (λ a. a + 1) count) new)
fed_keeps scene fine table b p j i c n (Listens inbox) block small is h count e has at holds =
    let old : KeepsFrom scene table j c (line_at inbox i) = subst (λ d. KeepsFrom scene table j d (line_at inbox i)) is (paired_at (KeepsFrom scene table j) (links_to scene b p) inbox.lines 0 no_line holds i small) in
    let number : block.number ≡ (line_at inbox i).admitted = e ∙ sym count in
    let new : KeepsFrom scene table j c (with_block (line_at inbox i) block) = keeps_admitted scene table j c (line_at inbox i) block (numbered_at inbox i h.0.lined.numbered) number (sym at) old in
    rw (h.0.carries, line_same scene b p j Messages inbox h.0 i (with_block (line_at inbox i) block) small)
    (seen scene table j c (n + 1) (with_block (line_at inbox i) block) (numbered_push (line_at inbox i).kept block 0 (line_at inbox i).admitted (omega arith) number (numbered_at inbox i h.0.lined.numbered)) (ap (λ a. a + 1) count) new)
fed_keeps scene fine table b p j i c n (Follows s) block small is h count e has at holds =
    let zero_place : 0 ≡ i = one_place scene b p i 0 _ h.made.only small (omega arith) in
    let only : only_link scene b p ≡ c = ap (slice_index (links_to scene b p)) zero_place ∙ is in
    let old : HoldsSamples scene c s table = subst (λ d. HoldsSamples scene d s table) only holds in
    let new : HoldsSamples scene c (with_sample s block) table = samples_admitted scene c table s block (e ∙ sym count) has (sym at) old in
    rw (h.carries, ← count) new.last

-- ---- all inboxes

module _ (scene : Scene) (fine : IsFaultless scene) (app j : ℕ) (taken places : List ℕ) (xs : List PortInbox) (are : AreInboxes scene app j taken places xs) (c : ℕ) (link : c < length scene.links) (to : receiver scene c ≡ app) where
  abbrev here : PortInbox
  here = inbox_at xs (link_at scene c).to_port

  pub port_small : (d : ℕ) → d < length scene.links → receiver scene d ≡ app → (link_at scene d).to_port < length xs
  port_small d l t =
      let s : (link_at scene d).to_port < length (app_at scene (receiver scene d)).ports = (connection_is scene fine d l).to_port in
      let m : (link_at scene d).to_port < length (app_at scene app).ports = subst (λ a. (link_at scene d).to_port < length (app_at scene a).ports) t s in
      omega (arith, m, are.counted)

  stands_here : IsPortInbox scene app (link_at scene c).to_port j (inbox_at xs (link_at scene c).to_port)
  stands_here = are.each _ (port_small c link to)

  -- the place of the connection
  pub has_place : HasPlace (inbox_at xs (link_at scene c).to_port) (slice_index places c)
  has_place = go (inbox_at xs (link_at scene c).to_port) stands_here
    where
      go : (x : PortInbox) → IsPortInbox scene app (link_at scene c).to_port j x → HasPlace x (slice_index places c)
      go Silent h = tt
      go Unfed h = tt
      go (Hears inbox) h = omega (arith, count_of scene app (link_at scene c).to_port inbox h.0.lined, (are.placed c link to).within)
      go (Listens inbox) h = omega (arith, count_of scene app (link_at scene c).to_port inbox h.0.lined, (are.placed c link to).within)
      go (Follows s) h = tt

  -- one inbox was replaced
  at_port : (y : PortInbox) (d : ℕ) → (link_at scene d).to_port ≡ (link_at scene c).to_port → inbox_at (slice_set xs (link_at scene c).to_port y) (link_at scene d).to_port ≡ y
  at_port y d e = ap (inbox_at (slice_set xs (link_at scene c).to_port y)) e ∙ get_or-set_same xs (link_at scene c).to_port y Silent (port_small c link to)

  off_port : (y : PortInbox) (p : ℕ) → (p ≡ (link_at scene c).to_port → ⊥) → inbox_at (slice_set xs (link_at scene c).to_port y) p ≡ inbox_at xs p
  off_port y p ne = get_or-set_other xs (link_at scene c).to_port p y Silent ne

  each_with : (y : PortInbox) → IsPortInbox scene app (link_at scene c).to_port j y → (p : ℕ) → p < length (slice_set xs (link_at scene c).to_port y) → IsPortInbox scene app p j (inbox_at (slice_set xs (link_at scene c).to_port y) p)
  each_with y h p small = go (cases_eq p (link_at scene c).to_port)
    where
      go : (p ≡ (link_at scene c).to_port) ⊎ (p ≡ (link_at scene c).to_port → ⊥) → IsPortInbox scene app p j (inbox_at (slice_set xs (link_at scene c).to_port y) p)
      go (inl e) = let F : ℕ → Type 0 = λ q. IsPortInbox scene app q j (inbox_at (slice_set xs (link_at scene c).to_port y) q) in
          subst F (sym e) (subst (IsPortInbox scene app (link_at scene c).to_port j) (sym (get_or-set_same xs (link_at scene c).to_port y Silent (port_small c link to))) h)
      go (inr ne) = subst (IsPortInbox scene app p j) (sym (off_port y p ne)) (are.each p (omega (arith, small, length-set xs (link_at scene c).to_port y)))

  -- another connection of the same port has another place
  other_place : (d : ℕ) → d < length scene.links → receiver scene d ≡ app → (d ≡ c → ⊥) → (link_at scene d).to_port ≡ (link_at scene c).to_port → slice_index places d ≡ slice_index places c → ⊥
  other_place d l t ne same e =
      ne (sym (are.placed d l t).is ∙ ap (λ p. slice_index (links_to scene app p) (slice_index places d)) same ∙ ap (slice_index (links_to scene app (link_at scene c).to_port)) e ∙ (are.placed c link to).is)

  within_port : (d : ℕ) → d < length scene.links → receiver scene d ≡ app → (link_at scene d).to_port ≡ (link_at scene c).to_port → slice_index places d < length (links_to scene app (link_at scene c).to_port)
  within_port d l t same = subst (λ p. slice_index places d < length (links_to scene app p)) same (are.placed d l t).within

  -- ---- room
  module _ (n : ℕ) where
    abbrev roomy : List PortInbox
    roomy = slice_set xs (link_at scene c).to_port (with_room (inbox_at xs (link_at scene c).to_port) (slice_index places c) n)

    admitted_roomy : (d : ℕ) → d < length scene.links → receiver scene d ≡ app → admitted_by (inbox_at roomy (link_at scene d).to_port) (slice_index places d) ≡ admitted_by (inbox_at xs (link_at scene d).to_port) (slice_index places d)
    admitted_roomy d l t = go (cases_eq (link_at scene d).to_port (link_at scene c).to_port)
      where
        go : ((link_at scene d).to_port ≡ (link_at scene c).to_port) ⊎ ((link_at scene d).to_port ≡ (link_at scene c).to_port → ⊥) → admitted_by (inbox_at roomy (link_at scene d).to_port) (slice_index places d) ≡ admitted_by (inbox_at xs (link_at scene d).to_port) (slice_index places d)
        go (inl e) = ap (λ z. admitted_by z (slice_index places d)) (at_port _ d e) ∙ roomy_admitted scene app (link_at scene c).to_port j (slice_index places c) n (slice_index places d) (inbox_at xs (link_at scene c).to_port) (are.placed c link to).within stands_here ∙ ap (λ p. admitted_by (inbox_at xs p) (slice_index places d)) (sym e)
        go (inr ne) = ap (λ z. admitted_by z (slice_index places d)) (off_port _ (link_at scene d).to_port ne)

    pub roomy_are : AreInboxes scene app j taken places roomy
    roomy_are = record {
      counted = length-set xs (link_at scene c).to_port _ ∙ are.counted;
      each = each_with _ (roomy_stands scene app (link_at scene c).to_port j (slice_index places c) n (inbox_at xs (link_at scene c).to_port) (are.placed c link to).within stands_here);
      placed = are.placed;
      placed_back = are.placed_back;
      admitted = λ d l t. admitted_roomy d l t ∙ are.admitted d l t;
    }

    pub roomy_waiting : waiting_in scene app j roomy places ≡ waiting_in scene app j xs places
    unfolding waiting_in waiting_at
    roomy_waiting = map-agree_each (waiting_at scene app j roomy places) (waiting_at scene app j xs places) (below (length scene.links))
        (All-below (λ d. waiting_at scene app j roomy places d ≡ waiting_at scene app j xs places d) (length scene.links) (λ d l. go d l (cases_eq (receiver scene d) app)))
      where
        view : (d : ℕ) → d < length scene.links → ((link_at scene d).to_port ≡ (link_at scene c).to_port) ⊎ ((link_at scene d).to_port ≡ (link_at scene c).to_port → ⊥)
            → left_by (is_due_from scene d j) (inbox_at roomy (link_at scene d).to_port) (slice_index places d) ≡ left_by (is_due_from scene d j) (inbox_at xs (link_at scene d).to_port) (slice_index places d)
        view d l (inl e) = ap (λ z. left_by (is_due_from scene d j) z (slice_index places d)) (at_port _ d e) ∙ roomy_left (is_due_from scene d j) scene app (link_at scene c).to_port j (slice_index places c) n (slice_index places d) (inbox_at xs (link_at scene c).to_port) (are.placed c link to).within stands_here ∙ ap (λ p. left_by (is_due_from scene d j) (inbox_at xs p) (slice_index places d)) (sym e)
        view d l (inr ne) = ap (λ z. left_by (is_due_from scene d j) z (slice_index places d)) (off_port _ (link_at scene d).to_port ne)

        go : (d : ℕ) → d < length scene.links → (receiver scene d ≡ app) ⊎ (receiver scene d ≡ app → ⊥) → waiting_at scene app j roomy places d ≡ waiting_at scene app j xs places d
        go d l (inl t) = let b : (receiver scene d == app) ≡ true = eq-eqb (receiver scene d) app t in rw b (view d l (cases_eq (link_at scene d).to_port (link_at scene c).to_port))
        go d l (inr ne) = let b : (receiver scene d == app) ≡ false = ne_eqb (receiver scene d) app ne in rw b refl

  -- ---- a block
  module _ (block : Block) (number : block.number ≡ slice_index taken c) (long : length taken ≡ length scene.links) where
    abbrev fed : List PortInbox
    fed = slice_set xs (link_at scene c).to_port (with_admitted (inbox_at xs (link_at scene c).to_port) (slice_index places c) block)

    admitted_here : admitted_by (inbox_at xs (link_at scene c).to_port) (slice_index places c) ≡ slice_index taken c
    admitted_here = are.admitted c link to

    admitted_fed : (d : ℕ) → d < length scene.links → receiver scene d ≡ app → (d ≡ c) ⊎ (d ≡ c → ⊥) → admitted_by (inbox_at fed (link_at scene d).to_port) (slice_index places d) ≡ slice_index (one_more taken c) d
    admitted_fed d l t (inl e) =
        let small : c < length taken = omega (arith, link, long) in
        rw e (ap (λ z. admitted_by z (slice_index places c)) (at_port _ c refl)
        ∙ fed_admitted scene app (link_at scene c).to_port j (slice_index places c) c (inbox_at xs (link_at scene c).to_port) block (are.placed c link to).within (are.placed c link to).is fine stands_here
        ∙ ap (λ a. a + 1) admitted_here ∙ sym (one_more-same taken c small))
    admitted_fed d l t (inr ne) = go (cases_eq (link_at scene d).to_port (link_at scene c).to_port) ∙ are.admitted d l t ∙ sym (one_more-other taken c d ne)
      where
        go : ((link_at scene d).to_port ≡ (link_at scene c).to_port) ⊎ ((link_at scene d).to_port ≡ (link_at scene c).to_port → ⊥) → admitted_by (inbox_at fed (link_at scene d).to_port) (slice_index places d) ≡ admitted_by (inbox_at xs (link_at scene d).to_port) (slice_index places d)
        go (inl e) = ap (λ z. admitted_by z (slice_index places d)) (at_port _ d e)
            ∙ fed_admitted_other scene app (link_at scene c).to_port j (slice_index places c) (slice_index places d) (inbox_at xs (link_at scene c).to_port) block (are.placed c link to).within (within_port d l t e) (other_place d l t ne e) stands_here
            ∙ ap (λ p. admitted_by (inbox_at xs p) (slice_index places d)) (sym e)
        go (inr off) = ap (λ z. admitted_by z (slice_index places d)) (off_port _ (link_at scene d).to_port off)

    pub fed_are : AreInboxes scene app j (one_more taken c) places fed
    fed_are = record {
      counted = length-set xs (link_at scene c).to_port _ ∙ are.counted;
      each = each_with _ (fed_stands scene app (link_at scene c).to_port j (slice_index places c) (inbox_at xs (link_at scene c).to_port) block (are.placed c link to).within (number ∙ sym admitted_here) stands_here);
      placed = are.placed;
      placed_back = are.placed_back;
      admitted = λ d l t. admitted_fed d l t (cases_eq d c);
    }

    pub fed_kept : (table : Table) → AreKept scene app j taken (waiting_in scene app j xs places) table → HasBlock scene table c block.number → block_on scene table c block.number ≡ block.items
        → AreKept scene app j (one_more taken c) (waiting_in scene app j fed places) table
    fed_kept table kept has at = record { there = λ d l t. there d l t (cases_eq d c); keeps = λ d l t. keeps d l t (cases_eq d c) }
      where
        small : c < length taken
        small = omega (arith, link, long)

        there : (d : ℕ) → d < length scene.links → receiver scene d ≡ app → (d ≡ c) ⊎ (d ≡ c → ⊥) → slice_index (one_more taken c) d ≤ length (steps_of table (sender scene d))
        there d l t (inl e) = let h : block.number < length (steps_of table (sender scene c)) = has in rw (e, one_more-same taken c small) (omega (arith, h, number))
        there d l t (inr ne) = rw (one_more-other taken c d ne) (kept.there d l t)

        keeps : (d : ℕ) → d < length scene.links → receiver scene d ≡ app → (d ≡ c) ⊎ (d ≡ c → ⊥) → KeepsOf (input_of scene d).kind scene table j d (slice_index (one_more taken c) d) (slice_index_or (waiting_in scene app j fed places) d [])
        keeps d l t (inl e) =
            let k : KeepsOf (port_at scene app (link_at scene c).to_port).kind scene table j c (slice_index taken c + 1) (left_by (is_due_from scene c j) (with_admitted (inbox_at xs (link_at scene c).to_port) (slice_index places c) block) (slice_index places c)) =
            fed_keeps scene fine table app (link_at scene c).to_port j (slice_index places c) c (slice_index taken c) (inbox_at xs (link_at scene c).to_port) block (are.placed c link to).within (are.placed c link to).is stands_here admitted_here number has at
            (holds_at scene fine app j taken places xs are table kept (link_at scene c).to_port (port_small c link to)) in
            let view : slice_index_or (waiting_in scene app j fed places) c [] ≡ left_by (is_due_from scene c j) (with_admitted (inbox_at xs (link_at scene c).to_port) (slice_index places c) block) (slice_index places c) =
            waiting_is scene app j fed places c link to ∙ ap (λ z. left_by (is_due_from scene c j) z (slice_index places c)) (at_port _ c refl) in
            let F : List Block → Type 0 = λ bs. KeepsOf (port_at scene app (link_at scene c).to_port).kind scene table j c (slice_index taken c + 1) bs in
            let G : ℕ → Type 0 = λ n. KeepsOf (port_at scene app (link_at scene c).to_port).kind scene table j c n (slice_index_or (waiting_in scene app j fed places) c []) in
            let H : ℕ → Type 0 = λ a. KeepsOf (port_at scene a (link_at scene c).to_port).kind scene table j c (slice_index (one_more taken c) c) (slice_index_or (waiting_in scene app j fed places) c []) in
            let K : ℕ → Type 0 = λ x. KeepsOf (input_of scene x).kind scene table j x (slice_index (one_more taken c) x) (slice_index_or (waiting_in scene app j fed places) x []) in
            subst K (sym e) (subst H (sym to) (subst G (sym (one_more-same taken c small)) (subst F (sym view) k)))
        keeps d l t (inr ne) =
            let view : slice_index_or (waiting_in scene app j fed places) d [] ≡ slice_index_or (waiting_in scene app j xs places) d [] = waiting_is scene app j fed places d l t ∙ go (cases_eq (link_at scene d).to_port (link_at scene c).to_port) ∙ sym (waiting_is scene app j xs places d l t) in
            let F : List Block → Type 0 = λ bs. KeepsOf (input_of scene d).kind scene table j d (slice_index taken d) bs in
            let G : ℕ → Type 0 = λ n. KeepsOf (input_of scene d).kind scene table j d n (slice_index_or (waiting_in scene app j fed places) d []) in
            subst G (sym (one_more-other taken c d ne)) (subst F (sym view) (kept.keeps d l t))
          where
            go : ((link_at scene d).to_port ≡ (link_at scene c).to_port) ⊎ ((link_at scene d).to_port ≡ (link_at scene c).to_port → ⊥)
                → left_by (is_due_from scene d j) (inbox_at fed (link_at scene d).to_port) (slice_index places d) ≡ left_by (is_due_from scene d j) (inbox_at xs (link_at scene d).to_port) (slice_index places d)
            go (inl e) = ap (λ z. left_by (is_due_from scene d j) z (slice_index places d)) (at_port _ d e)
                ∙ fed_left_other (is_due_from scene d j) scene app (link_at scene c).to_port j (slice_index places c) (slice_index places d) (inbox_at xs (link_at scene c).to_port) block (are.placed c link to).within (within_port d l t e) (other_place d l t ne e) stands_here
                ∙ ap (λ p. left_by (is_due_from scene d j) (inbox_at xs p) (slice_index places d)) (sym e)
            go (inr off) = ap (λ z. left_by (is_due_from scene d j) z (slice_index places d)) (off_port _ (link_at scene d).to_port off)
