-- A put keeps a core.
use Rattle.std.proofs.Common.{ℕ, ◌+◌, ◌-◌, ◌<◌, ◌≡◌, refl, sym, ◌∙◌, ap, subst, arith, List, [], ◌∷◌, ◌++◌, length, slice_set, Some, Option}
use Rattle.std.specs.Prelude.{slice_index, slice_index_or, IfSome}
use Rattle.std.proofs.Math.ListN.{length-set}
use Rattle.scene_model.specs.declared.scene.Scene.{Scene}
use Rattle.music_base.specs.declared.item.Item.{Item}
use Rattle.scene_model.specs.declared.act.Act.TheVariants.{Put}
use Rattle.scene_model.specs.Scenes.{sender}
use Rattle.scene_model.specs.Clocks.{steps}
use Rattle.scene_model.specs.Tables.{block_on}
use Rattle.scene_model.specs.Lives.{history}
use Rattle.scene_model.specs.Orders.{Counts, put_on, taken_from, one_more, after, CanPut}
use Rattle.scene_model.proofs.Sound.{after_act, one_more-same, one_more-other}
use Rattle.music_base.specs.declared.item.Block.{Block}
use Rattle.port_buffers.specs.contracts.ring.RingPutEnd.TheImpl.{ghosts}
use Rattle.circular_buffer.specs.Buffer.{Buffer, buffer}
use Rattle.app_turn.specs.Machines.{Machine, pending_on, life_block, IsPending}
use Rattle.app_turn.specs.Moves.{DidPut, Gave}
use Rattle.app_turn.specs.declared.turned.Turned.{Turned}
use Rattle.step_core.proofs.Ends.{gave_if}
use Rattle.scene_model.specs.declared.row.Row.{Row}
use Rattle.scene_model.proofs.Faultless.{connection_is}
use Rattle.step_core.proofs.Rooms.{finds_room}
use Rattle.step_core.specs.Cores.{machine_at, ring_at, counts_of, past_block, past_blocks, IsRing, IsCore, room_for}
use Rattle.step_core.proofs.Histories.{life_is}
use Rattle.step_core.proofs.Owning.{own-counts, gave_own}
use Rattle.step_core.proofs.Takes.{length-past, past-last, follow_with, rings_with, same_ring, same_machine}

-- what is there, if something is
if_some : {X : Type 0} (P : X → Type 0) (o : Option X) (x : X) → o ≡ Some x → IfSome o P → P x
if_some {X = X} P o x e h = let F : Option X → Type 0 = λ q. IfSome q P in subst F e h

module _ (scene : Scene) (limits : List ℕ) (s : Counts) (released : List ℕ) (machines : List Machine) (rings : List (Buffer Block)) (held : List (List Row)) (core : IsCore scene limits s released machines rings held) where
  module _ (c : ℕ) (can : CanPut scene limits s c) (b : Block) (m : Machine) (ring : Buffer Block) (pending : IsPending (machine_at machines (sender scene c)) c b) (gave : Gave (machine_at machines (sender scene c)) c m)
      (last : ring ≡ buffer ((ring_at rings c).items ++ b ∷ []) (ring_at rings c).capacity) where
    r-small : sender scene c < length scene.apps
    r-small = (connection_is scene core.faultless c can.link).from_app

    put_block : b ≡ past_block scene c (put_on s c)
    put_block =
        let old = machine_at machines (sender scene c) in
        let of = core.own.each (sender scene c) r-small in
        let n : b.number ≡ put_on s c = pending.numbered ∙ core.own.puts c can.link in
        let f = core.follow (sender scene c) r-small in
        let link : c < length old.scene.links = rw of.is_scene can.link in
        let from : sender old.scene c ≡ old.app = ap (λ (x : Scene). sender x c) of.is_scene ∙ sym of.is_app in
        let life : b.items ≡ life_block old.scene (history scene) c b.number = if_some (λ (x : Block). x.items ≡ life_block old.scene (history scene) c x.number) (pending_on old c) b pending.is (f.owed c link from) in
        let there : put_on s c < steps scene (sender scene c) = omega (arith, can.made, core.sound.at_most (sender scene c) r-small) in
        let items : b.items ≡ block_on scene (history scene) c (put_on s c) = life ∙ ap (λ (x : Scene). life_block x (history scene) c b.number) of.is_scene ∙ ap (life_block scene (history scene) c) n ∙ life_is scene limits core.faultless core.planned c (put_on s c) can.link there in
        ap (λ (k : ℕ). record { number = k; items = b.items }) n ∙ ap (λ (i : List Item). record { number = put_on s c; items = i }) items

    pub put_core : IsCore scene limits (after s (Put c)) released (slice_set machines (sender scene c) m) (slice_set rings c ring) held
    put_core = record {
      faultless = core.faultless;
      planned = core.planned;
      sound = after_act scene limits s core.sound (Put c) can;
      own = gave_own scene machines s core.own c (sender scene c) m can.link (omega (arith, can.link, core.sound.puts)) refl r-small gave;
      follow = follow_with scene limits s released machines rings held core (sender scene c) m r-small (gave.follows (history scene) (core.follow (sender scene c) r-small));
      rings_counted = length-set rings c ring ∙ core.rings_counted;
      each_ring = rings_with scene limits s released machines rings held core c (after s (Put c)) ring can.link is (λ d ne. one_more-other s.put c d ne) (λ d ne. refl);
      are_held = record { released_counted = core.are_held.released_counted; held_counted = core.are_held.held_counted; were_run = core.are_held.were_run; in_front = core.are_held.in_front; each = core.are_held.each };
    }
      where
        is : IsRing scene limits (after s (Put c)) c ring
        is =
            let at : slice_index (one_more s.put c) c ≡ put_on s c + 1 = one_more-same s.put c (omega (arith, can.link, core.sound.puts)) in
            let old : ring_at rings c ≡ buffer (past_blocks scene c (taken_from s c) (put_on s c)) (room_for scene limits c) = core.each_ring c can.link in
            let more : (ring_at rings c).items ++ b ∷ [] ≡ past_blocks scene c (taken_from s c) (slice_index (one_more s.put c) c) =
            ap (λ (q : Buffer Block). q.items ++ b ∷ []) old ∙ ap (λ (x : Block). past_blocks scene c (taken_from s c) (put_on s c) ++ x ∷ []) put_block ∙ sym (past-last scene c (taken_from s c) (put_on s c) (core.sound.on c can.link).taken_were_put) ∙ ap (past_blocks scene c (taken_from s c)) (sym at) in
            last ∙ ap (λ (l : List Block). buffer l (ring_at rings c).capacity) more ∙ ap (λ (q : Buffer Block). buffer (past_blocks scene c (taken_from s c) (slice_index (one_more s.put c) c)) q.capacity) old

    pub put_counts : counts_of scene (slice_set machines (sender scene c) m) ≡ after s (Put c)
    put_counts = own-counts scene (slice_set machines (sender scene c) m) (after s (Put c)) put_core.own put_core.sound.runs put_core.sound.puts put_core.sound.takes

  -- the same as code has it: machine r is x, and the connection's ring y
  module _ (c r : ℕ) (x : Machine) (y : Buffer Block) (x-is : x ≡ slice_index_or machines r x) (y-is : y ≡ slice_index_or rings c y) (can : CanPut scene limits s c) (from : r ≡ sender scene c) where
    small : r < length scene.apps
    small = rw from ((connection_is scene core.faultless c can.link).from_app)

    x-at : x ≡ machine_at machines (sender scene c)
    x-at = same_machine scene limits s released machines rings held core r x small x-is ∙ ap (machine_at machines) from

    y-at : y ≡ ring_at rings c
    y-at = same_ring scene limits s released machines rings held core c y can.link y-is

    has_room : (rest : Buffer Block) → (length y.items ≡ y.capacity) × (rest ≡ y) → ⊥
    has_room rest both =
        let old = core.each_ring c can.link in
        let lies : length y.items ≡ put_on s c - taken_from s c = ap (λ (q : Buffer Block). length q.items) (y-at ∙ old) ∙ length-past scene c (taken_from s c) (put_on s c) in
        let most : y.capacity ≡ room_for scene limits c = ap (λ (q : Buffer Block). q.capacity) (y-at ∙ old) in
        omega (arith, lies, most, both.0, finds_room scene limits s c core.sound can)

    pub put_next : (m : Machine) (ring : Buffer Block) (t : Turned) → DidPut ghosts y x c t ring m
        → IsCore scene limits (counts_of scene (slice_set machines r m)) released (slice_set machines r m) (slice_set rings c ring) held × (counts_of scene (slice_set machines r m) ≡ after s (Put c))
    put_next m ring t did =
        let gave = gave_if ghosts y ring x m c t did (has_room ring) in
        let pending : IsPending (machine_at machines (sender scene c)) c gave.0 = subst (λ (z : Machine). IsPending z c gave.0) x-at gave.1 in
        let old : Gave (machine_at machines (sender scene c)) c m = subst (λ (z : Machine). Gave z c m) x-at gave.3 in
        let last : ring ≡ buffer ((ring_at rings c).items ++ gave.0 ∷ []) (ring_at rings c).capacity = gave.2.1 ∙ ap (λ (q : Buffer Block). buffer (q.items ++ gave.0 ∷ []) q.capacity) y-at in
        let G : ℕ → Type 0 = λ q. IsCore scene limits (counts_of scene (slice_set machines q m)) released (slice_set machines q m) (slice_set rings c ring) held × (counts_of scene (slice_set machines q m) ≡ after s (Put c)) in
        let F : Counts → Type 0 = λ t. IsCore scene limits t released (slice_set machines (sender scene c) m) (slice_set rings c ring) held in
        let n = put_counts c can gave.0 m ring pending old last in
        subst G (sym from) (subst F (sym n) (put_core c can gave.0 m ring pending old last), n)
