-- What calls leave of an inbox: it stays the one of its port, and holds a table as before.
use Rattle.std.proofs.Common.{ℕ, ◌<◌, ◌≤◌, ◌≡◌, refl, arith, false, List, [], ◌∷◌, length, map}
use Rattle.std.specs.Prelude.{nat_lt, slice_index, slice_index_or}
use Rattle.std.specs.List.{AllByRecursion}
use Rattle.std.proofs.lemmas.Bool.{le-ltb}
use Rattle.music_base.proofs.Lists.{All-at}
use Rattle.music_base.proofs.Pairs.{all_set, paired_at, paired_set}
use Rattle.music_base.specs.Pairs.{AllPaired}
use Rattle.music_base.specs.declared.item.Block.{Block}
use Rattle.scene_model.proofs.Feeds.{IsLinkTo, links_lead}
use Rattle.scene_model.specs.Scenes.{links_to}
use Rattle.scene_model.specs.Tables.{Table, block_on}
use Rattle.scene_model.specs.declared.scene.Scene.{Scene}
use Rattle.event_routes.specs.Routing.{Route}
use Rattle.port_inbox.specs.Due.{IsNumbered}
use Rattle.port_inbox.specs.Holding.{AreNumbered, HasLinesOf, HoldsFrom, IsLinkOf, IsMadeFor, KeepsFrom}
use Rattle.port_inbox.specs.Inboxes.{Inbox, Line, forgotten, fresh_inbox, fresh_line, line_at, moved_to, no_line, with_block, with_line}
use Rattle.port_inbox.specs.declared.arrivals.InboxLink.{InboxLink}
use Rattle.port_inbox.proofs.Keeping.{keeps_admitted, keeps_forgotten, keeps_later}
use Rattle.port_inbox.proofs.Numbered.{numbered_filter, numbered_push}

-- ---- a new inbox

pub made_lines : (scene : Scene) (b p : ℕ) (links : List InboxLink) (routes : List (List Route)) (starts ticks : ℕ) → IsMadeFor scene b p links starts ticks
    → HasLinesOf scene b p (fresh_inbox links routes starts ticks)
made_lines scene b p links routes starts ticks made = record {
  begins = made.begins;
  ticks = made.steps;
  links = linked (links_to scene b p) links made.lines;
  numbered = numbered links;
}
  where
    linked : (cs : List ℕ) (ls : List InboxLink) → AllPaired (IsLinkOf scene) cs ls → AllPaired (λ c (line : Line). IsLinkOf scene c line.link) cs (map fresh_line ls)
    linked [] [] h = tt
    linked [] (l ∷ ls) h = absurd h
    linked (c ∷ cs) [] h = absurd h
    linked (c ∷ cs) (l ∷ ls) h = (h.0, linked cs ls h.1)

    numbered : (ls : List InboxLink) → AreNumbered (map fresh_line ls)
    numbered [] = tt
    numbered (l ∷ ls) = (tt, numbered ls)

pub made_holds : (scene : Scene) (b p j : ℕ) (table : Table) (links : List InboxLink) (routes : List (List Route)) (starts ticks : ℕ) → IsMadeFor scene b p links starts ticks
    → HoldsFrom scene b p (fresh_inbox links routes starts ticks).lines table j
made_holds scene b p j table links routes starts ticks made = over (links_to scene b p) links made.lines
  where
    over : (cs : List ℕ) (ls : List InboxLink) → AllPaired (IsLinkOf scene) cs ls → AllPaired (KeepsFrom scene table j) cs (map fresh_line ls)
    over [] [] h = tt
    over [] (l ∷ ls) h = absurd h
    over (c ∷ cs) [] h = absurd h
    over (c ∷ cs) (l ∷ ls) h = ((λ k. let none : nat_lt k 0 ≡ false = le-ltb k 0 (omega arith) in rw none refl), over cs ls h.1)

-- ---- one connection is written over

-- by one of the same link, whose kept blocks are numbered
pub lines_with : (scene : Scene) (b p i : ℕ) (inbox : Inbox) (line : Line) → i < length inbox.lines → line.link ≡ (line_at inbox i).link → IsNumbered 0 line.admitted line.kept
    → HasLinesOf scene b p inbox → HasLinesOf scene b p (with_line inbox i line)
lines_with scene b p i inbox line lt same numbered lined = record {
  begins = lined.begins;
  ticks = lined.ticks;
  links =
      paired_set (λ c (l : Line). IsLinkOf scene c l.link) (links_to scene b p) inbox.lines i 0 line lined.links
      (λ small. rw same (paired_at (λ c (l : Line). IsLinkOf scene c l.link) (links_to scene b p) inbox.lines 0 no_line lined.links i small));
  numbered = all_set (λ (l : Line). IsNumbered 0 l.admitted l.kept) inbox.lines i line numbered lined.numbered;
}

numbered_at : (lines : List Line) (i : ℕ) → i < length lines → AreNumbered lines → IsNumbered 0 (slice_index_or lines i no_line).admitted (slice_index_or lines i no_line).kept
numbered_at lines i lt h = All-at (λ (l : Line). IsNumbered 0 l.admitted l.kept) lines i no_line h lt

pub lines_reserved : (scene : Scene) (b p i spare : ℕ) (inbox : Inbox) → i < length inbox.lines → HasLinesOf scene b p inbox → HasLinesOf scene b p (with_line inbox i (record (line_at inbox i) { spare = spare }))
lines_reserved scene b p i spare inbox lt lined = lines_with scene b p i inbox (record (line_at inbox i) { spare = spare }) lt refl (numbered_at inbox.lines i lt lined.numbered) lined

pub lines_admitted : (scene : Scene) (b p i : ℕ) (inbox : Inbox) (block : Block) → i < length inbox.lines → block.number ≡ (line_at inbox i).admitted → HasLinesOf scene b p inbox
    → HasLinesOf scene b p (with_line inbox i (with_block (line_at inbox i) block))
lines_admitted scene b p i inbox block lt e lined =
    lines_with scene b p i inbox (with_block (line_at inbox i) block) lt refl
    (numbered_push (line_at inbox i).kept block 0 (line_at inbox i).admitted (omega arith) e (numbered_at inbox.lines i lt lined.numbered)) lined

pub holds_reserved : (scene : Scene) (b p i spare j : ℕ) (table : Table) (inbox : Inbox) → i < length inbox.lines → HoldsFrom scene b p inbox.lines table j
    → HoldsFrom scene b p (with_line inbox i (record (line_at inbox i) { spare = spare })).lines table j
holds_reserved scene b p i spare j table inbox lt holds =
    paired_set (KeepsFrom scene table j) (links_to scene b p) inbox.lines i 0 (record (line_at inbox i) { spare = spare }) holds
    (λ small. paired_at (KeepsFrom scene table j) (links_to scene b p) inbox.lines 0 no_line holds i small)

pub holds_admitted : (scene : Scene) (b p i j : ℕ) (table : Table) (inbox : Inbox) (block : Block) → i < length inbox.lines → block.number ≡ (line_at inbox i).admitted
    → block.items ≡ block_on scene table (slice_index (links_to scene b p) i) block.number → AreNumbered inbox.lines → HoldsFrom scene b p inbox.lines table j
    → HoldsFrom scene b p (with_line inbox i (with_block (line_at inbox i) block)).lines table j
holds_admitted scene b p i j table inbox block lt e is numbered holds =
    paired_set (KeepsFrom scene table j) (links_to scene b p) inbox.lines i 0 (with_block (line_at inbox i) block) holds
    (λ small. keeps_admitted scene table j (slice_index (links_to scene b p) i) (line_at inbox i) block (numbered_at inbox.lines i lt numbered) e is
    (paired_at (KeepsFrom scene table j) (links_to scene b p) inbox.lines 0 no_line holds i small))

-- ---- from a later step on, and after a delivery

pub holds_later : (scene : Scene) (b p i j : ℕ) (table : Table) (lines : List Line) → i ≤ j → HoldsFrom scene b p lines table i → HoldsFrom scene b p lines table j
holds_later scene b p i j table lines le h = over (links_to scene b p) lines h
  where
    over : (cs : List ℕ) (ls : List Line) → AllPaired (KeepsFrom scene table i) cs ls → AllPaired (KeepsFrom scene table j) cs ls
    over [] [] k = tt
    over [] (l ∷ ls) k = absurd k
    over (c ∷ cs) [] k = absurd k
    over (c ∷ cs) (l ∷ ls) k = (keeps_later scene table i j c l le k.0, over cs ls k.1)

pub lines_delivered : (scene : Scene) (b p step : ℕ) (inbox : Inbox) → HasLinesOf scene b p inbox → HasLinesOf scene b p (moved_to step inbox)
lines_delivered scene b p step inbox lined = record {
  begins = lined.begins;
  ticks = lined.ticks;
  links = linked (links_to scene b p) inbox.lines lined.links;
  numbered = numbered inbox.lines lined.numbered;
}
  where
    forget : Line → Line
    forget line = forgotten inbox.start inbox.tick step line

    linked : (cs : List ℕ) (ls : List Line) → AllPaired (λ c (line : Line). IsLinkOf scene c line.link) cs ls → AllPaired (λ c (line : Line). IsLinkOf scene c line.link) cs (map (forgotten inbox.start inbox.tick step) ls)
    linked [] [] h = tt
    linked [] (l ∷ ls) h = absurd h
    linked (c ∷ cs) [] h = absurd h
    linked (c ∷ cs) (l ∷ ls) h = (h.0, linked cs ls h.1)

    numbered : (ls : List Line) → AreNumbered ls → AreNumbered (map (forgotten inbox.start inbox.tick step) ls)
    numbered [] h = tt
    numbered (l ∷ ls) h = (numbered_filter _ l.kept 0 l.admitted h.0, numbered ls h.1)

pub holds_delivered : (scene : Scene) (b p step : ℕ) (table : Table) (inbox : Inbox) → HasLinesOf scene b p inbox → HoldsFrom scene b p inbox.lines table step
    → HoldsFrom scene b p (moved_to step inbox).lines table step
holds_delivered scene b p step table inbox lined h = over (links_to scene b p) inbox.lines (links_lead scene b p) lined.numbered lined.links h
  where
    over : (cs : List ℕ) (ls : List Line) → AllByRecursion (IsLinkTo scene b p) cs → AreNumbered ls → AllPaired (λ c (line : Line). IsLinkOf scene c line.link) cs ls → AllPaired (KeepsFrom scene table step) cs ls
        → AllPaired (KeepsFrom scene table step) cs (map (forgotten inbox.start inbox.tick step) ls)
    over [] [] at n m k = tt
    over [] (l ∷ ls) at n m k = absurd k
    over (c ∷ cs) [] at n m k = absurd k
    over (c ∷ cs) (l ∷ ls) at n m k =
        (keeps_forgotten scene table b c inbox.start inbox.tick step l lined.begins lined.ticks at.0.1 m.0.late n.0 k.0, over cs ls at.1 n.1 m.1 k.1)
