-- What contracts see of inboxes, and what the inboxes hold.
use Rattle.std.proofs.Common.{ℕ, ◌+◌, ◌<◌, ◌≤◌, ◌≡◌, inl, inr, refl, sym, ◌∙◌, ap, subst, arith, List, [], ◌∷◌, length, Bool, true, false, nat_lt, Option, None, Some}
use Rattle.std.specs.Prelude.{slice_index, slice_index_or, ◌==◌, if◌then◌else◌}
use Rattle.std.specs.List.{filter, list_any}
use Rattle.std.proofs.lemmas.Bool.{cases_Bool, eq-eqb, le-leb, leb-true}
use Rattle.std.proofs.lemmas.List.{get_or-map}
use Rattle.std.proofs.lemmas.List.FromFn.{get_or-map-range_with_len}
use Rattle.music_base.specs.declared.item.Item.{Item}
use Rattle.music_base.specs.declared.item.Item.TheVariants.{Event, Value, Message}
use Rattle.music_base.specs.declared.item.Block.{Block}
use Rattle.music_base.proofs.Lists.{All-get_or}
use Rattle.music_base.proofs.Pairs.{paired_at, paired_length}
use Rattle.scene_model.specs.Clocks.{due, latency, start, tick}
use Rattle.scene_model.specs.Due.{is_due_from, is_step_from}
use Rattle.scene_model.specs.Scenes.{link_at, links_to, receiver}
use Rattle.scene_model.specs.Tables.{Table, block_on}
use Rattle.scene_model.specs.declared.scene.Scene.{Scene}
use Rattle.scene_model.specs.declared.port.PortKind.{PortKind}
use Rattle.scene_model.specs.declared.port.PortKind.TheVariants.{Events, Messages}
use Rattle.port_inbox.specs.Due.{IsNumbered, falls_from, items_numbered, left_in}
use Rattle.port_inbox.specs.Holding.{AreNumbered, HasLinesOf, IsLinkOf, KeepsFrom}
use Rattle.port_inbox.specs.Inboxes.{Inbox, Line, forgotten, line_at, moved_to, no_line}
use Rattle.port_inbox.proofs.Keeping.{due_is}
use Rattle.port_inbox.proofs.Numbered.{left_is}
use Rattle.port_inbox.proofs.Staying.{lines_delivered}
use Rattle.app_turn.specs.PortInboxes.{IsLined, IsPortInbox, IsSettled, admitted_by, inbox_at, left_by, settled, waiting_at, waiting_in}
use Rattle.app_turn.specs.declared.inbox.PortInbox.{PortInbox}
use Rattle.app_turn.specs.declared.inbox.PortInbox.TheVariants.{Silent, Unfed, Hears, Listens, Follows}

-- ---- one line

-- what is not seen of a block does not show where it is forgotten
left_later : (p q : Item → Bool) → ((x : Item) → q x ≡ true → p x ≡ true) → (bs : List Block)
    → left_in q (filter (λ (b : Block). list_any p b.items) bs) ≡ left_in q bs
left_later p q implies [] = refl
left_later p q implies (b ∷ bs) = elim (cases_Bool (list_any p b.items)) [
  | inl some ↦ rw (some, left_later p q implies bs) refl
  | inr none ↦ rw (none, unseen b.items none) (left_later p q implies bs)
]
  where
    unseen : (xs : List Item) → list_any p xs ≡ false → list_any q xs ≡ false
    unseen [] h = refl
    unseen (x ∷ xs) h = elim (cases_Bool (q x)) [
      | inl passes ↦ let also : p x ≡ true = implies x passes in let bad : true ≡ false = rw also at h in absurd cc
      | inr fails ↦ elim (cases_Bool (p x)) [
        | inl at ↦ let bad : true ≡ false = rw at at h in absurd cc
        | inr not_at ↦ let rest : list_any p xs ≡ false = rw not_at at h in rw fails (unseen xs rest)
      ]
    ]

step_later : (i j : ℕ) → i ≤ j → (d : Option ℕ) → is_step_from j d ≡ true → is_step_from i d ≡ true
step_later i j le None h = cc
step_later i j le (Some step) h = le-leb i step (let l = leb-true j step h in omega arith)

due_later : (scene : Scene) (c i j : ℕ) → i ≤ j → (item : Item) → is_due_from scene c j item ≡ true → is_due_from scene c i item ≡ true
due_later scene c i j le (Event e) h = step_later i j le (due scene c e.time) h
due_later scene c i j le (Message m) h = step_later i j le (due scene c m.time) h
due_later scene c i j le (Value global value) h = cc

-- what is due from a step on is what falls from it on, by what the inbox knows of the connection
falls_is : (scene : Scene) (b c starts ticks late j : ℕ) → starts ≡ start scene b → ticks ≡ tick scene b → receiver scene c ≡ b → late ≡ latency scene c
    → (item : Item) → falls_from starts ticks j late item ≡ is_due_from scene c j item
falls_is scene b c starts ticks late j begins steps to is (Event e) = ap (is_step_from j) (due_is scene b c starts ticks late e.time begins steps to is)
falls_is scene b c starts ticks late j begins steps to is (Message m) = ap (is_step_from j) (due_is scene b c starts ticks late m.time begins steps to is)
falls_is scene b c starts ticks late j begins steps to is (Value global value) = refl

-- of a line's blocks contracts see what keeps the table, and the other way round
module _ (scene : Scene) (table : Table) (j c n : ℕ) (l : Line) (numbered : IsNumbered 0 l.admitted l.kept) (count : l.admitted ≡ n) where
  abbrev sees : Type 0
  sees = (k : ℕ) → items_numbered (left_in (is_due_from scene c j) l.kept) k ≡ (if nat_lt k n then filter (is_due_from scene c j) (block_on scene table c k) else [])

  counted : (k : ℕ) → (if nat_lt k l.admitted then filter (is_due_from scene c j) (block_on scene table c k) else []) ≡ (if nat_lt k n then filter (is_due_from scene c j) (block_on scene table c k) else [])
  counted k = ap (λ a. if nat_lt k a then filter (is_due_from scene c j) (block_on scene table c k) else []) count

  pub seen : KeepsFrom scene table j c l → (k : ℕ) → items_numbered (left_in (is_due_from scene c j) l.kept) k ≡ (if nat_lt k n then filter (is_due_from scene c j) (block_on scene table c k) else [])
  seen keeps k = left_is (is_due_from scene c j) l.kept 0 l.admitted k numbered ∙ keeps k ∙ counted k

  pub held : ((k : ℕ) → items_numbered (left_in (is_due_from scene c j) l.kept) k ≡ (if nat_lt k n then filter (is_due_from scene c j) (block_on scene table c k) else [])) → KeepsFrom scene table j c l
  held sees k = sym (left_is (is_due_from scene c j) l.kept 0 l.admitted k numbered) ∙ sees k ∙ sym (counted k)

pub numbered_at : (inbox : Inbox) (i : ℕ) → AreNumbered inbox.lines → IsNumbered 0 (line_at inbox i).admitted (line_at inbox i).kept
numbered_at inbox i h = All-get_or (λ (l : Line). IsNumbered 0 l.admitted l.kept) inbox.lines i no_line tt h

-- ---- one inbox

module _ (scene : Scene) (b p : ℕ) (inbox : Inbox) (lined : HasLinesOf scene b p inbox) where
  pub count_of : length (links_to scene b p) ≡ length inbox.lines
  count_of = paired_length (λ c (l : Line). IsLinkOf scene c l.link) (links_to scene b p) inbox.lines lined.links

  pub link_of : (c i : ℕ) → i < length (links_to scene b p) → slice_index (links_to scene b p) i ≡ c → IsLinkOf scene c (line_at inbox i).link
  link_of c i small is = subst (λ d. IsLinkOf scene d (line_at inbox i).link) is
      (paired_at (λ c (l : Line). IsLinkOf scene c l.link) (links_to scene b p) inbox.lines 0 no_line lined.links i small)

  pub line_moved : (k i : ℕ) → i < length (links_to scene b p) → line_at (moved_to k inbox) i ≡ forgotten inbox.start inbox.tick k (line_at inbox i)
  line_moved k i small = get_or-map (forgotten inbox.start inbox.tick k) inbox.lines i no_line no_line (omega (arith, count_of))

  -- a delivery does not show from its step on
  pub left_settled : (c i k n : ℕ) → i < length (links_to scene b p) → slice_index (links_to scene b p) i ≡ c → receiver scene c ≡ b → k ≤ n
      → left_in (is_due_from scene c n) (line_at (moved_to k inbox) i).kept ≡ left_in (is_due_from scene c n) (line_at inbox i).kept
  left_settled c i k n small is to le =
      ap (λ (l : Line). left_in (is_due_from scene c n) l.kept) (line_moved k i small)
      ∙ left_later (falls_from inbox.start inbox.tick k (line_at inbox i).link.latency) (is_due_from scene c n)
      (λ item h. falls_is scene b c inbox.start inbox.tick (line_at inbox i).link.latency k lined.begins lined.ticks to (link_of c i small is).late item ∙ due_later scene c k n le item h)
      (line_at inbox i).kept

module _ (scene : Scene) (b p : ℕ) (kind : PortKind) (inbox : Inbox) where
  lined_moved : (j : ℕ) → IsLined scene b p j kind inbox → IsLined scene b p j kind (moved_to j inbox)
  lined_moved j h = record { input = h.input; carries = h.carries; lined = lines_delivered scene b p j inbox h.lined; in_time = omega arith }

  lined_later : (i j : ℕ) → i ≤ j → IsLined scene b p i kind inbox → IsLined scene b p j kind inbox
  lined_later i j le h = record { input = h.input; carries = h.carries; lined = h.lined; in_time = omega (arith, h.in_time, le) }

-- what stands at a port stands there later on, and after a delivery
stands_later : (scene : Scene) (b p i j : ℕ) (x : PortInbox) → i ≤ j → IsPortInbox scene b p i x → IsPortInbox scene b p j x
stands_later scene b p i j Silent le h = h
stands_later scene b p i j Unfed le h = h
stands_later scene b p i j (Hears inbox) le h = (lined_later scene b p Events inbox i j le h.0, h.1)
stands_later scene b p i j (Listens inbox) le h = (lined_later scene b p Messages inbox i j le h.0, h.1)
stands_later scene b p i j (Follows s) le h = h

stands_moved : (scene : Scene) (b p j : ℕ) (x : PortInbox) → IsPortInbox scene b p j x → IsPortInbox scene b p j (settled j x)
stands_moved scene b p j Silent h = h
stands_moved scene b p j Unfed h = h
stands_moved scene b p j (Hears inbox) h = (lined_moved scene b p Events inbox j h.0, h.1)
stands_moved scene b p j (Listens inbox) h = (lined_moved scene b p Messages inbox j h.0, h.1)
stands_moved scene b p j (Follows s) h = h

pub stands_settled : (scene : Scene) (b p j k : ℕ) (x y : PortInbox) → j ≤ k → IsPortInbox scene b p j x → IsSettled j x y → IsPortInbox scene b p k y
stands_settled scene b p j k x y le h (inl e) = stands_later scene b p j k y le (subst (IsPortInbox scene b p j) (sym e) h)
stands_settled scene b p j k x y le h (inr e) = stands_later scene b p j k y le (subst (IsPortInbox scene b p j) (sym e) (stands_moved scene b p j x h))

-- its counts, and what contracts see of it
admitted_moved : (scene : Scene) (b p j : ℕ) (x : PortInbox) (i : ℕ) → IsPortInbox scene b p j x → i < length (links_to scene b p) → admitted_by (settled j x) i ≡ admitted_by x i
admitted_moved scene b p j Silent i h small = refl
admitted_moved scene b p j Unfed i h small = refl
admitted_moved scene b p j (Hears inbox) i h small = ap (λ (l : Line). l.admitted) (line_moved scene b p inbox h.0.lined j i small)
admitted_moved scene b p j (Listens inbox) i h small = ap (λ (l : Line). l.admitted) (line_moved scene b p inbox h.0.lined j i small)
admitted_moved scene b p j (Follows s) i h small = refl

pub admitted_settled : (scene : Scene) (b p j : ℕ) (x y : PortInbox) (i : ℕ) → IsPortInbox scene b p j x → IsSettled j x y → i < length (links_to scene b p) → admitted_by y i ≡ admitted_by x i
admitted_settled scene b p j x y i h (inl e) small = ap (λ z. admitted_by z i) e
admitted_settled scene b p j x y i h (inr e) small = ap (λ z. admitted_by z i) e ∙ admitted_moved scene b p j x i h small

left_moved : (scene : Scene) (b p j n c i : ℕ) (x : PortInbox) → IsPortInbox scene b p j x → j ≤ n → i < length (links_to scene b p) → slice_index (links_to scene b p) i ≡ c → receiver scene c ≡ b
    → left_by (is_due_from scene c n) (settled j x) i ≡ left_by (is_due_from scene c n) x i
left_moved scene b p j n c i Silent h le small is to = refl
left_moved scene b p j n c i Unfed h le small is to = refl
left_moved scene b p j n c i (Hears inbox) h le small is to = left_settled scene b p inbox h.0.lined c i j n small is to le
left_moved scene b p j n c i (Listens inbox) h le small is to = left_settled scene b p inbox h.0.lined c i j n small is to le
left_moved scene b p j n c i (Follows s) h le small is to = refl

pub left_at_settled : (scene : Scene) (b p j n c i : ℕ) (x y : PortInbox) → IsPortInbox scene b p j x → IsSettled j x y → j ≤ n → i < length (links_to scene b p) → slice_index (links_to scene b p) i ≡ c → receiver scene c ≡ b
    → left_by (is_due_from scene c n) y i ≡ left_by (is_due_from scene c n) x i
left_at_settled scene b p j n c i x y h (inl e) le small is to = ap (λ z. left_by (is_due_from scene c n) z i) e
left_at_settled scene b p j n c i x y h (inr e) le small is to = ap (λ z. left_by (is_due_from scene c n) z i) e ∙ left_moved scene b p j n c i x h le small is to

-- ---- all inboxes

pub waiting_is : (scene : Scene) (app j : ℕ) (inboxes : List PortInbox) (places : List ℕ) (c : ℕ) → c < length scene.links → receiver scene c ≡ app
    → slice_index_or (waiting_in scene app j inboxes places) c [] ≡ left_by (is_due_from scene c j) (inbox_at inboxes (link_at scene c).to_port) (slice_index places c)
unfolding waiting_in waiting_at
waiting_is scene app j inboxes places c small to =
    get_or-map-range_with_len (waiting_at scene app j inboxes places) 0 (length scene.links) c c [] small (zero_more c) ∙ here
  where
    zero_more : (n : ℕ) → 0 + n ≡ n
    zero_more n = omega arith

    here : waiting_at scene app j inboxes places c ≡ left_by (is_due_from scene c j) (inbox_at inboxes (link_at scene c).to_port) (slice_index places c)
    here = let t : (receiver scene c == app) ≡ true = eq-eqb (receiver scene c) app to in rw t refl
