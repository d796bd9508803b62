-- Taking a block keeps a core.
use Rattle.std.proofs.Common.{ℕ, suc, ◌+◌, ◌-◌, ◌<◌, ◌≤◌, ◌≡◌, ◌⊎◌, inl, inr, refl, sym, ◌∙◌, ap, subst, arith, List, [], ◌∷◌, ◌++◌, length, map, get_or-set_same, get_or-set_other, slice_set}
use Rattle.std.specs.Prelude.{slice_index, slice_index_or}
use Rattle.std.specs.List.{range_with_len}
use Rattle.std.proofs.lemmas.Bool.{cases_eq}
use Rattle.std.proofs.lemmas.List.{get_or_read, set-get_or}
use Rattle.std.proofs.lemmas.List.FromFn.{map-range_with_len_more, length-map-range_with_len}
use Rattle.std.proofs.Math.ListN.{length-set}
use Rattle.scene_model.specs.declared.scene.Scene.{Scene}
use Rattle.scene_model.specs.declared.row.Row.{Row}
use Rattle.scene_model.specs.declared.act.Act.TheVariants.{Take}
use Rattle.scene_model.specs.Scenes.{sender, receiver}
use Rattle.scene_model.specs.Clocks.{steps}
use Rattle.scene_model.specs.Tables.{block_on}
use Rattle.scene_model.specs.Lives.{history}
use Rattle.scene_model.specs.Orders.{Counts, put_on, taken_from, one_more, after, CanTake}
use Rattle.scene_model.proofs.Sound.{after_act, one_more-same, one_more-other}
use Rattle.music_base.specs.declared.item.Block.{Block}
use Rattle.circular_buffer.specs.Buffer.{Buffer, buffer}
use Rattle.app_turn.specs.Machines.{Machine, taken_by, Follows, HasBlock, IsNext}
use Rattle.app_turn.specs.Moves.{Took, DidTake}
use Rattle.app_turn.specs.declared.turned.Turned.{Turned}
use Rattle.step_core.proofs.Ends.{took_if}
use Rattle.port_buffers.specs.contracts.ring.RingTakeEnd.TheImpl.{ghosts}
use Rattle.port_buffers.specs.Shapes.{FitsShape}
use Rattle.app_turn.specs.Shapes.{shape}
use Rattle.scene_model.proofs.Faultless.{connection_is}
use Rattle.step_core.specs.Cores.{machine_at, no_machine, ring_at, counts_of, past_block, past_blocks, IsRing, IsCore, room_for}
use Rattle.step_core.proofs.Histories.{has_block, past_fits}
use Rattle.step_core.proofs.Owning.{own-counts, took_own}

-- ---- the blocks of a ring

past-first : (scene : Scene) (c from to : ℕ) → from < to → past_blocks scene c from to ≡ past_block scene c from ∷ past_blocks scene c (from + 1) to
past-first scene c from to more =
    let e : to - from ≡ suc (to - (from + 1)) = omega arith in
    ap (λ n. map (past_block scene c) (range_with_len from n)) e

pub past-last : (scene : Scene) (c from to : ℕ) → from ≤ to → past_blocks scene c from (to + 1) ≡ past_blocks scene c from to ++ past_block scene c to ∷ []
past-last scene c from to most =
    let e : to + 1 - from ≡ (to - from) + 1 = omega arith in
    ap (λ n. map (past_block scene c) (range_with_len from n)) e ∙ map-range_with_len_more (past_block scene c) from (to - from) to (omega arith)

pub length-past : (scene : Scene) (c from to : ℕ) → length (past_blocks scene c from to) ≡ to - from
length-past scene c from to = length-map-range_with_len (past_block scene c) from (to - from)

cons-head : {X : Type 0} (x y : X) (xs ys : List X) → (x ∷ xs) ≡ (y ∷ ys) → x ≡ y
cons-head x y xs ys e = cc

cons-tail : {X : Type 0} (x y : X) (xs ys : List X) → (x ∷ xs) ≡ (y ∷ ys) → xs ≡ ys
cons-tail x y xs ys e = cc

module _ (scene : Scene) (limits : List ℕ) (s : Counts) (released : List ℕ) (machines : List Machine) (rings : List (Buffer Block)) (held : List (List Row)) (core : IsCore scene limits s released machines rings held) where
  -- what is taken next
  pub next_block : (c : ℕ) → CanTake scene s c → (b : Block) (rest : Buffer Block) → (ring_at rings c).items ≡ b ∷ rest.items → b ≡ past_block scene c (taken_from s c)
  next_block c can b rest e =
      cons-head b (past_block scene c (taken_from s c)) rest.items (past_blocks scene c (taken_from s c + 1) (put_on s c)) (sym e ∙ ap (λ (r : Buffer Block). r.items) (core.each_ring c can.link) ∙ past-first scene c (taken_from s c) (put_on s c) can.there)

  pub next_number : (c : ℕ) → CanTake scene s c → (b : Block) (rest : Buffer Block) → (ring_at rings c).items ≡ b ∷ rest.items → b.number ≡ taken_by (machine_at machines (receiver scene c)) c
  next_number c can b rest e = ap (λ (x : Block). x.number) (next_block c can b rest e) ∙ sym (core.own.takes c can.link)

  -- its step was run
  pub was_run : (c : ℕ) → CanTake scene s c → taken_from s c < steps scene (sender scene c)
  was_run c can =
      let on = core.sound.on c can.link in
      let ran = core.sound.at_most (sender scene c) (connection_is scene core.faultless c can.link).from_app in
      omega (arith, can.there, on.put_at_most, ran)

  -- the machines follow the history after one that did was replaced by one that does
  pub follow_with : (r : ℕ) (m : Machine) → r < length scene.apps → Follows m (history scene) → (a : ℕ) → a < length scene.apps → Follows (machine_at (slice_set machines r m) a) (history scene)
  follow_with r m small f a app = go (cases_eq a r)
    where
      go : (a ≡ r) ⊎ (a ≡ r → ⊥) → Follows (machine_at (slice_set machines r m) a) (history scene)
      go (inl e) =
          let there : r < length machines = omega (arith, small, core.own.counted) in
          let F : Machine → Type 0 = λ x. Follows x (history scene) in
          subst F (sym (ap (machine_at (slice_set machines r m)) e ∙ get_or-set_same machines r m no_machine there)) f
      go (inr ne) = let F : Machine → Type 0 = λ x. Follows x (history scene) in subst F (sym (get_or-set_other machines r a m no_machine ne)) (core.follow a app)

  -- the rings hold what they should after one was replaced, where the counts of the others stay
  pub rings_with : (c : ℕ) (t : Counts) (ring : Buffer Block) → c < length scene.links → IsRing scene limits t c ring → ((d : ℕ) → (d ≡ c → ⊥) → put_on t d ≡ put_on s d) → ((d : ℕ) → (d ≡ c → ⊥) → taken_from t d ≡ taken_from s d)
      → (d : ℕ) → d < length scene.links → IsRing scene limits t d (ring_at (slice_set rings c ring) d)
  rings_with c t ring link is puts takes d at = go (cases_eq d c)
    where
      go : (d ≡ c) ⊎ (d ≡ c → ⊥) → IsRing scene limits t d (ring_at (slice_set rings c ring) d)
      go (inl e) =
          let there : c < length rings = omega (arith, link, core.rings_counted) in
          let F : ℕ → Type 0 = λ x. IsRing scene limits t x (ring_at (slice_set rings c ring) x) in
          subst F (sym e) (get_or-set_same rings c ring (buffer [] 0) there ∙ is)
      go (inr ne) = get_or-set_other rings c d ring (buffer [] 0) ne ∙ core.each_ring d at ∙ ap (λ n. buffer (past_blocks scene d n (put_on s d)) (room_for scene limits d)) (sym (takes d ne)) ∙ ap (λ n. buffer (past_blocks scene d (taken_from t d) n) (room_for scene limits d)) (sym (puts d ne))

  module _ (c : ℕ) (can : CanTake scene s c) (b : Block) (m : Machine) (ring : Buffer Block) (took : Took (machine_at machines (receiver scene c)) c b m)
      (first : (ring_at rings c).items ≡ b ∷ ring.items) (room : ring.capacity ≡ (ring_at rings c).capacity) where
    r-small : receiver scene c < length scene.apps
    r-small = (connection_is scene core.faultless c can.link).to_app

    pub take_core : IsCore scene limits (after s (Take c)) released (slice_set machines (receiver scene c) m) (slice_set rings c ring) held
    take_core = record {
      faultless = core.faultless;
      planned = core.planned;
      sound = after_act scene limits s core.sound (Take c) can;
      own = took_own scene machines s core.own c (receiver scene c) b m can.link (omega (arith, can.link, core.sound.takes)) refl r-small took;
      follow = follow_with (receiver scene c) m r-small (took.follows (history scene) (core.follow (receiver scene c) r-small) has block);
      rings_counted = length-set rings c ring ∙ core.rings_counted;
      each_ring = rings_with c (after s (Take c)) ring can.link is (λ d ne. refl) (λ d ne. one_more-other s.taken c d ne);
      are_held = record { released_counted = core.are_held.released_counted; held_counted = core.are_held.held_counted; were_run = core.are_held.were_run; in_front = core.are_held.in_front; each = core.are_held.each };
    }
      where
        old : Machine
        old = machine_at machines (receiver scene c)

        has : HasBlock old.scene (history scene) c b.number
        has =
            let n : b.number ≡ taken_from s c = ap (λ (x : Block). x.number) (next_block c can b ring first) in
            let F : ℕ → Type 0 = λ k. HasBlock scene (history scene) c k in
            let G : Scene → Type 0 = λ x. HasBlock x (history scene) c b.number in
            subst G (sym (core.own.each (receiver scene c) r-small).is_scene) (subst F (sym n) (has_block scene limits core.faultless core.planned c (taken_from s c) can.link (was_run c can)))

        block : block_on old.scene (history scene) c b.number ≡ b.items
        block =
            let e : b ≡ past_block scene c (taken_from s c) = next_block c can b ring first in
            ap (λ (x : Scene). block_on x (history scene) c b.number) (core.own.each (receiver scene c) r-small).is_scene ∙ ap (λ (x : Block). block_on scene (history scene) c x.number) e ∙ sym (ap (λ (x : Block). x.items) e)

        is : IsRing scene limits (after s (Take c)) c ring
        is =
            let at : slice_index (one_more s.taken c) c ≡ taken_from s c + 1 = one_more-same s.taken c (omega (arith, can.link, core.sound.takes)) in
            let rest : ring.items ≡ past_blocks scene c (taken_from s c + 1) (put_on s c) = cons-tail b (past_block scene c (taken_from s c)) ring.items _ (sym first ∙ ap (λ (r : Buffer Block). r.items) (core.each_ring c can.link) ∙ past-first scene c (taken_from s c) (put_on s c) can.there) in
            let most : ring.capacity ≡ room_for scene limits c = room ∙ ap (λ (r : Buffer Block). r.capacity) (core.each_ring c can.link) in
            ap (λ (l : List Block). buffer l ring.capacity) (rest ∙ ap (λ n. past_blocks scene c n (put_on s c)) (sym at)) ∙ ap (buffer (past_blocks scene c (slice_index (one_more s.taken c) c) (put_on s c))) most

    pub take_counts : counts_of scene (slice_set machines (receiver scene c) m) ≡ after s (Take c)
    take_counts = own-counts scene (slice_set machines (receiver scene c) m) (after s (Take c)) take_core.own take_core.sound.runs take_core.sound.puts take_core.sound.takes

  -- a ring as it was
  pub same_ring : (c : ℕ) (y : Buffer Block) → c < length scene.links → y ≡ slice_index_or rings c y → y ≡ ring_at rings c
  same_ring c y link e = get_or_read rings c y (omega (arith, link, core.rings_counted)) e (buffer [] 0)

  pub same_machine : (r : ℕ) (x : Machine) → r < length scene.apps → x ≡ slice_index_or machines r x → x ≡ machine_at machines r
  same_machine r x small e = get_or_read machines r x (omega (arith, small, core.own.counted)) e no_machine

  -- the same as code has it: machine r is x, and the connection's ring y
  module _ (c r : ℕ) (x : Machine) (y : Buffer Block) (link : c < length scene.links) (small : r < length scene.apps) (x-is : x ≡ slice_index_or machines r x) (y-is : y ≡ slice_index_or rings c y) where
    x-at : x ≡ machine_at machines r
    x-at = same_machine r x small x-is

    y-at : y ≡ ring_at rings c
    y-at = same_ring c y link y-is

    -- nothing moved
    pub unmoved : (m : Machine) (ring : Buffer Block) → m ≡ x → ring ≡ y → IsCore scene limits (counts_of scene (slice_set machines r m)) released (slice_set machines r m) (slice_set rings c ring) held × (counts_of scene (slice_set machines r m) ≡ s)
    unmoved m ring is_machine is_ring =
        let machines_back : slice_set machines r m ≡ machines = ap (slice_set machines r) (is_machine ∙ x-at) ∙ set-get_or machines r no_machine in
        let rings_back : slice_set rings c ring ≡ rings = ap (slice_set rings c) (is_ring ∙ y-at) ∙ set-get_or rings c (buffer [] 0) in
        let e : counts_of scene (slice_set machines r m) ≡ s = ap (counts_of scene) machines_back ∙ own-counts scene machines s core.own core.sound.runs core.sound.puts core.sound.takes in
        let F : List Machine → Type 0 = λ q. IsCore scene limits (counts_of scene (slice_set machines r m)) released q (slice_set rings c ring) held in
        let G : List (Buffer Block) → Type 0 = λ q. IsCore scene limits (counts_of scene (slice_set machines r m)) released machines q held in
        let H : Counts → Type 0 = λ t. IsCore scene limits t released machines rings held in
        (subst F (sym machines_back) (subst G (sym rings_back) (subst H (sym e) core)), e)

    module _ (can : CanTake scene s c) (to : r ≡ receiver scene c) where
      pub gives_next : (b : Block) (rest : Buffer Block) → (y.items ≡ b ∷ rest.items) × (rest.capacity ≡ y.capacity) → IsNext x c b
      gives_next b rest e =
          let at : x ≡ machine_at machines (receiver scene c) = x-at ∙ ap (machine_at machines) to in
          let first : (ring_at rings c).items ≡ b ∷ rest.items = sym (ap (λ (q : Buffer Block). q.items) y-at) ∙ e.0 in
          let is_scene : x.scene ≡ scene = ap (λ (z : Machine). z.scene) at ∙ (core.own.each (receiver scene c) (connection_is scene core.faultless c link).to_app).is_scene in
          record {
            numbered = next_number c can b rest first ∙ sym (ap (λ (z : Machine). taken_by z c) at);
            fits = subst (λ (z : Scene). FitsShape (shape z c) b) (sym is_scene) (subst (FitsShape (shape scene c)) (sym (next_block c can b rest first)) (past_fits scene limits core.faultless core.planned c (taken_from s c) link (was_run c can)));
          }

      pub not_empty : (rest : Buffer Block) → (y.items ≡ []) × (rest ≡ y) → ⊥
      not_empty rest both =
          let e = both.0 in
          let n : past_blocks scene c (taken_from s c) (put_on s c) ≡ [] = sym (ap (λ (q : Buffer Block). q.items) (y-at ∙ core.each_ring c link)) ∙ e in
          let l : put_on s c - taken_from s c ≡ 0 = sym (length-past scene c (taken_from s c) (put_on s c)) ∙ ap (λ (q : List Block). length q) n in
          omega (arith, l, can.there)

      pub take_as : (b : Block) (m : Machine) (ring : Buffer Block) → (y.items ≡ b ∷ ring.items) × (ring.capacity ≡ y.capacity) → Took x c b m
          → IsCore scene limits (counts_of scene (slice_set machines r m)) released (slice_set machines r m) (slice_set rings c ring) held × (counts_of scene (slice_set machines r m) ≡ after s (Take c))
      take_as b m ring e took =
          let old : Took (machine_at machines (receiver scene c)) c b m = subst (λ (z : Machine). Took z c b m) (x-at ∙ ap (machine_at machines) to) took in
          let first : (ring_at rings c).items ≡ b ∷ ring.items = sym (ap (λ (q : Buffer Block). q.items) y-at) ∙ e.0 in
          let room : ring.capacity ≡ (ring_at rings c).capacity = e.1 ∙ ap (λ (q : Buffer Block). q.capacity) y-at in
          let G : ℕ → Type 0 = λ q. IsCore scene limits (counts_of scene (slice_set machines q m)) released (slice_set machines q m) (slice_set rings c ring) held × (counts_of scene (slice_set machines q m) ≡ after s (Take c)) in
          let F : Counts → Type 0 = λ t. IsCore scene limits t released (slice_set machines (receiver scene c) m) (slice_set rings c ring) held in
          let n = take_counts c can b m ring old first room in
          subst G (sym to) (subst F (sym n) (take_core c can b m ring old first room), n)

      pub took_next : (m : Machine) (ring : Buffer Block) (t : Turned) → DidTake ghosts y x c t ring m
          → IsCore scene limits (counts_of scene (slice_set machines r m)) released (slice_set machines r m) (slice_set rings c ring) held × (counts_of scene (slice_set machines r m) ≡ after s (Take c))
      took_next m ring t did = let took = took_if ghosts y ring x m c t did (not_empty ring) in take_as took.0 m ring took.1 took.2
