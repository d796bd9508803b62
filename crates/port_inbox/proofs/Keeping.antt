-- What keeps a table: a later step, one more block, and forgetting what is past.
use Rattle.std.proofs.Common.{ℕ, ◌+◌, ◌<◌, ◌≤◌, ◌≡◌, ◌⊎◌, inl, inr, refl, sym, ◌∙◌, ap, arith, List, [], ◌∷◌, ◌++◌, Bool, true, false, cond, Option, Some, None}
use Rattle.std.specs.Prelude.{nat_lt, ◌==◌}
use Rattle.std.specs.List.{filter, list_any}
use Rattle.std.proofs.lemmas.Bool.{cases_eq, cases_lt, eq-eqb, le-leb, le-ltb, leb-true, lt-ltb, ne_eqb}
use Rattle.music_base.specs.Clocks.{due_step_from}
use Rattle.music_base.specs.declared.item.Block.{Block}
use Rattle.music_base.specs.declared.item.Item.{Item}
use Rattle.music_base.specs.declared.item.Item.TheVariants.{Event, Message, Value}
use Rattle.scene_model.specs.Clocks.{due, latency, start, tick}
use Rattle.scene_model.specs.Due.{is_due_from, is_step_from}
use Rattle.scene_model.specs.Scenes.{receiver}
use Rattle.scene_model.specs.Tables.{Table, block_on}
use Rattle.scene_model.specs.declared.scene.Scene.{Scene}
use Rattle.port_inbox.specs.Due.{IsNumbered, falls_from, items_numbered}
use Rattle.port_inbox.specs.Holding.{KeepsFrom}
use Rattle.port_inbox.specs.Inboxes.{Line, forgotten, with_block}
use Rattle.port_inbox.proofs.Numbered.{dropped_is, last_numbered}

-- ---- from a later step on

-- a weaker test before changes nothing
filter-weaker : {X : Type 0} (p q : X → Bool) → ((x : X) → p x ≡ true → q x ≡ true) → (xs : List X) → filter p (filter q xs) ≡ filter p xs
filter-weaker p q h [] = refl
filter-weaker {X} p q h (x ∷ xs) = go (p x) (q x) refl refl (filter-weaker p q h xs)
  where
    go : (b c : Bool) → p x ≡ b → q x ≡ c → filter p (filter q xs) ≡ filter p xs → filter p (cond c (x ∷ filter q xs) (filter q xs)) ≡ cond b (x ∷ filter p xs) (filter p xs)
    go true true e f r = rw e (ap (λ ys. x ∷ ys) r)
    go true false e f r = let t = h x e in cc
    go false true e f r = rw e r
    go false false e f r = r

step_later : (i j : ℕ) (d : Option ℕ) → i ≤ j → is_step_from j d ≡ true → is_step_from i d ≡ true
step_later i j None le h = cc
step_later i j (Some step) le h = le-leb i step (let l = leb-true j step h in omega arith)

pub keeps_later : (scene : Scene) (table : Table) (i j c : ℕ) (line : Line) → i ≤ j → KeepsFrom scene table i c line → KeepsFrom scene table j c line
keeps_later scene table i j c line le keeps k =
    sym (filter-weaker (is_due_from scene c j) (is_due_from scene c i) later (items_numbered line.kept k)) ∙ ap (filter (is_due_from scene c j)) (keeps k) ∙ go (nat_lt k line.admitted)
  where
    later : (item : Item) → is_due_from scene c j item ≡ true → is_due_from scene c i item ≡ true
    later (Event e) h = step_later i j (due scene c e.time) le h
    later (Message m) h = step_later i j (due scene c m.time) le h
    later (Value global value) h = cc

    go : (b : Bool) → filter (is_due_from scene c j) (cond b (filter (is_due_from scene c i) (block_on scene table c k)) []) ≡ cond b (filter (is_due_from scene c j) (block_on scene table c k)) []
    go true = filter-weaker (is_due_from scene c j) (is_due_from scene c i) later (block_on scene table c k)
    go false = refl

-- ---- after an admit

pub keeps_admitted : (scene : Scene) (table : Table) (j c : ℕ) (line : Line) (block : Block) → IsNumbered 0 line.admitted line.kept → block.number ≡ line.admitted → block.items ≡ block_on scene table c block.number
    → KeepsFrom scene table j c line → KeepsFrom scene table j c (with_block line block)
keeps_admitted scene table j c line block numbered e is keeps k = go (cases_eq line.admitted k)
  where
    go : (line.admitted ≡ k) ⊎ (line.admitted ≡ k → ⊥)
        → filter (is_due_from scene c j) (items_numbered (line.kept ++ block ∷ []) k) ≡ cond (nat_lt k (line.admitted + 1)) (filter (is_due_from scene c j) (block_on scene table c k)) []
    go (inl same) =
        let here : (line.admitted == k) ≡ true = eq-eqb line.admitted k same in
        let small : nat_lt k (line.admitted + 1) ≡ true = lt-ltb k (line.admitted + 1) (omega arith) in
        let items : block.items ≡ block_on scene table c k = is ∙ ap (block_on scene table c) (e ∙ same) in
        rw (last_numbered line.kept block 0 line.admitted k e numbered, here, small) (ap (filter (is_due_from scene c j)) items)
    go (inr differ) =
        let other : (line.admitted == k) ≡ false = ne_eqb line.admitted k differ in
        rw (last_numbered line.kept block 0 line.admitted k e numbered, other) (keeps k ∙ more (cases_lt k line.admitted))
      where
        more : (k < line.admitted) ⊎ (line.admitted ≤ k)
            → cond (nat_lt k line.admitted) (filter (is_due_from scene c j) (block_on scene table c k)) [] ≡ cond (nat_lt k (line.admitted + 1)) (filter (is_due_from scene c j) (block_on scene table c k)) []
        more (inl small) =
            let t : nat_lt k line.admitted ≡ true = lt-ltb k line.admitted small in
            let u : nat_lt k (line.admitted + 1) ≡ true = lt-ltb k (line.admitted + 1) (omega arith) in
            rw (t, u) refl
        more (inr past) =
            let t : nat_lt k line.admitted ≡ false = le-ltb k line.admitted past in
            let u : nat_lt k (line.admitted + 1) ≡ false = le-ltb k (line.admitted + 1) (omega (arith, differ)) in
            rw (t, u) refl

-- ---- after a delivery

-- due by the numbers of an inbox and by the scene
pub due_is : (scene : Scene) (b c starts ticks late t : ℕ) → starts ≡ start scene b → ticks ≡ tick scene b → receiver scene c ≡ b → late ≡ latency scene c → due_step_from t late starts ticks ≡ due scene c t
unfolding due
due_is scene b c starts ticks late t f e r l = rw (f, e, l, r) refl

falls_from_is : (scene : Scene) (b c starts ticks late j : ℕ) → starts ≡ start scene b → ticks ≡ tick scene b → receiver scene c ≡ b → late ≡ latency scene c → (item : Item)
    → falls_from starts ticks j late item ≡ is_due_from scene c j item
falls_from_is scene b c starts ticks late j f e r l (Event x) = ap (is_step_from j) (due_is scene b c starts ticks late x.time f e r l)
falls_from_is scene b c starts ticks late j f e r l (Message m) = ap (is_step_from j) (due_is scene b c starts ticks late m.time f e r l)
falls_from_is scene b c starts ticks late j f e r l (Value global value) = refl

-- the blocks kept are those of which something is due by the scene
pub lasting_is : (p q : Item → Bool) → ((item : Item) → p item ≡ q item) → (blocks : List Block)
    → filter (λ (block : Block). list_any p block.items) blocks ≡ filter (λ (block : Block). list_any q block.items) blocks
lasting_is p q same [] = refl
lasting_is p q same (block ∷ blocks) = rw (any block.items, lasting_is p q same blocks) refl
  where
    any : (items : List Item) → list_any p items ≡ list_any q items
    any [] = refl
    any (item ∷ items) = rw (same item, any items) refl

pub keeps_forgotten : (scene : Scene) (table : Table) (b c starts ticks j : ℕ) (line : Line) → starts ≡ start scene b → ticks ≡ tick scene b → receiver scene c ≡ b → line.link.latency ≡ latency scene c
    → IsNumbered 0 line.admitted line.kept → KeepsFrom scene table j c line → KeepsFrom scene table j c (forgotten starts ticks j line)
keeps_forgotten scene table b c starts ticks j line f e r late numbered keeps k =
    rw (lasting_is (falls_from starts ticks j line.link.latency) (is_due_from scene c j) (falls_from_is scene b c starts ticks line.link.latency j f e r late) line.kept)
    (dropped_is (is_due_from scene c j) line.kept 0 line.admitted k numbered ∙ keeps k)
