-- What taking and putting a block keep.
use Rattle.std.proofs.Common.{ℕ, suc, ◌+◌, ◌-◌, ◌^◌, ◌<◌, ◌≤◌, ◌≡◌, ◌⊎◌, inl, inr, refl, sym, ◌∙◌, ap, subst, arith, min, Bool, true, false, List, length, map, get_or-set_same, get_or-set_other, slice_set, Option, None, Some}
use Rattle.std.specs.Prelude.{slice_index, slice_index_or, IfSome, IsTrue, ◌↔◌}
use Rattle.std.specs.List.{AllByRecursion}
use Rattle.std.proofs.lemmas.Bool.{cases_eq}
use Rattle.std.proofs.lemmas.List.{get_or_read, set-set, set-get_or}
use Rattle.std.proofs.Math.ListN.{length-set}
use Rattle.music_base.specs.declared.item.Block.{Block}
use Rattle.scene_model.specs.Clocks.{steps, wanted, wanted_blocks}
use Rattle.scene_model.specs.Faults.{IsFaultless}
use Rattle.scene_model.specs.Orders.{EachFrom, EachTo, one_more}
use Rattle.scene_model.specs.Scenes.{link_at, receiver, sender}
use Rattle.scene_model.specs.Tables.{Table}
use Rattle.scene_model.specs.declared.scene.Scene.{Scene}
use Rattle.scene_model.proofs.Faultless.{connection_is, steps_are}
use Rattle.scene_model.proofs.Sound.{one_more-same, one_more-other}
use Rattle.scene_model.proofs.Wanted.{wanted_before-at_most}
use Rattle.app_turn.proofs.Fitting.{short}
use Rattle.port_inbox.specs.Due.{AreShort}
use Rattle.app_turn.specs.Machines.{Follows, HasFinished, IsNext, IsPending, IsPendingAt, Machine, WantsPut, WantsRun, WantsTake, life_block, pending_on, put_by, taken_by}
use Rattle.app_turn.specs.Moves.{Gave, Took}
use Rattle.app_turn.specs.PortInboxes.{AreInboxes, AreKept, HasPlace, IsRoomier, admitted_by, inbox_at, waiting_in, with_admitted}
use Rattle.app_turn.specs.Steps.{IsMachine, Parts}
use Rattle.app_turn.specs.Paces.{IsPace, pace_of}
use Rattle.app_turn.specs.declared.needs.Pace.{Pace}
use Rattle.app_turn.specs.declared.inbox.PortInbox.{PortInbox}
use Rattle.app_turn.proofs.Places.{by_place-iff, into_listed, listed_small, out_listed}
use Rattle.app_turn.proofs.Paces.{paces_bounds, paces_small}
use Rattle.app_turn.proofs.Feeding.{fed_are, fed_kept, has_place, port_small, roomy_are, roomy_waiting}

pub put_back : {X : Type 0} (xs : List X) (i : ℕ) (a b d : X) → slice_index_or xs i d ≡ b → slice_set (slice_set xs i a) i b ≡ xs
put_back xs i a b d e = set-set xs i a b ∙ ap (λ y. slice_set xs i y) (sym e) ∙ set-get_or xs i d

pub one_more-read : (xs : List ℕ) (i x : ℕ) → i < length xs → x ≡ slice_index_or xs i x → slice_set xs i (x + 1) ≡ one_more xs i
one_more-read xs i x small e = ap (λ y. slice_set xs i (y + 1)) (get_or_read xs i x small e 0)

pub wanted-few : (scene : Scene) (c j : ℕ) → IsFaultless scene → c < length scene.links → (wanted scene c j ≤ steps scene (sender scene c)) × (steps scene (sender scene c) ≤ 1_000_000)
wanted-few scene c j fine link = (wanted_before-at_most scene c (suc j), steps_are scene fine (sender scene c) (connection_is scene fine c link).from_app)

module _ (m : Machine) (x : Parts) (is : IsMachine m x) where
  -- with other x.inboxes of the same counts, of which as much is seen
  module _ (c : ℕ) (wants : WantsTake m c) where
    pub place_there : HasPlace (inbox_at x.inboxes (link_at m.scene c).to_port) (slice_index x.places c)
    place_there = has_place m.scene is.faultless m.app m.ran m.taken x.places x.inboxes is.inboxes_are c wants.link wants.here

    pub port_there : (link_at m.scene c).to_port < length x.inboxes
    port_there = port_small m.scene is.faultless m.app m.ran m.taken x.places x.inboxes is.inboxes_are c wants.link wants.here c wants.link wants.here

    module _ (ys : List PortInbox) (roomier : IsRoomier x.inboxes (link_at m.scene c).to_port (slice_index x.places c) ys) where
      are_roomier : AreInboxes m.scene m.app m.ran m.taken x.places ys
      are_roomier = subst (AreInboxes m.scene m.app m.ran m.taken x.places) (sym roomier.1) (roomy_are m.scene is.faultless m.app m.ran m.taken x.places x.inboxes is.inboxes_are c wants.link wants.here roomier.0)

      same_seen : waiting_in m.scene m.app m.ran ys x.places ≡ m.waiting
      same_seen = ap (λ z. waiting_in m.scene m.app m.ran z x.places) roomier.1 ∙ roomy_waiting m.scene is.faultless m.app m.ran m.taken x.places x.inboxes is.inboxes_are c wants.link wants.here roomier.0 ∙ sym is.seen

      pub roomier_is : IsMachine (record m { waiting = waiting_in m.scene m.app m.ran ys x.places }) (record x { inboxes = ys })
      roomier_is = record {
        faultless = is.faultless;
        here = is.here;
        all_steps = is.all_steps;
        within = is.within;
        puts = is.puts;
        takes = is.takes;
        pendings = is.pendings;
        need_count = is.need_count;
        most_count = is.most_count;
        place_count = is.place_count;
        truth_count = is.truth_count;
        planned = is.planned;
        comes_in = is.comes_in;
        paced = is.paced;
        goes_out = is.goes_out;
        each_need = is.each_need;
        each_most = is.each_most;
        inboxes_are = are_roomier;
        seen = refl;
        owed = is.owed;
      }

      pub roomier_same : record m { waiting = waiting_in m.scene m.app m.ran ys x.places } ≡ m
      roomier_same = ap (λ (w : List (List Block)). record m { waiting = w }) same_seen

      pub place_still : HasPlace (inbox_at ys (link_at m.scene c).to_port) (slice_index x.places c)
      place_still = has_place m.scene is.faultless m.app m.ran m.taken x.places ys are_roomier c wants.link wants.here

      pub port_still : (link_at m.scene c).to_port < length ys
      port_still = port_small m.scene is.faultless m.app m.ran m.taken x.places ys are_roomier c wants.link wants.here c wants.link wants.here

      module _ (block : Block) (next : IsNext m c block) where
        pub number_is : block.number ≡ admitted_by (inbox_at ys (link_at m.scene c).to_port) (slice_index x.places c)
        number_is = next.numbered ∙ sym (are_roomier.admitted c wants.link wants.here)

        pub few : block.number < 2 ^ 64 - 1
        few = let w = wanted-few m.scene c m.ran is.faultless wants.link in omega (arith, next.numbered, wants.is_wanted, w.0, w.1)

        pub are_short : AreShort block.items
        are_short = let w = wanted-few m.scene c m.ran is.faultless wants.link in short m.scene c block is.faultless wants.link (omega (arith, next.numbered, wants.is_wanted, w.0)) next.fits

        module _ (zs : List PortInbox) (fed : zs ≡ slice_set ys (link_at m.scene c).to_port (with_admitted (inbox_at ys (link_at m.scene c).to_port) (slice_index x.places c) block)) (taken : List ℕ) (more : taken ≡ one_more m.taken c) where
          abbrev took_machine : Machine
          took_machine = record m { taken = taken; waiting = waiting_in m.scene m.app m.ran zs x.places }

          pub took_is : IsMachine (record m { taken = taken; waiting = waiting_in m.scene m.app m.ran zs x.places }) (record x { inboxes = zs })
          took_is = record {
            faultless = is.faultless;
            here = is.here;
            all_steps = is.all_steps;
            within = is.within;
            puts = is.puts;
            takes = ap (λ (t : List ℕ). length t) more ∙ length-set m.taken c _ ∙ is.takes;
            pendings = is.pendings;
            need_count = is.need_count;
            most_count = is.most_count;
            place_count = is.place_count;
            truth_count = is.truth_count;
            planned = is.planned;
            comes_in = is.comes_in;
            paced = is.paced;
            goes_out = is.goes_out;
            each_need = is.each_need;
            each_most = is.each_most;
            inboxes_are = rw (fed, more) (fed_are m.scene is.faultless m.app m.ran m.taken x.places ys are_roomier c wants.link wants.here block next.numbered is.takes);
            seen = refl;
            owed = is.owed;
          }

          pub took : Took m c block (record m { taken = taken; waiting = waiting_in m.scene m.app m.ran zs x.places })
          took = record {
            same_scene = refl;
            same_app = refl;
            same_ran = refl;
            same_put = refl;
            same_pending = refl;
            counts = more;
            follows = λ table f has at.
                let k : AreKept m.scene m.app m.ran m.taken (waiting_in m.scene m.app m.ran ys x.places) table = record { there = f.there; keeps = rw (← same_seen) at f.keeps } in
                let n : AreKept m.scene m.app m.ran taken (waiting_in m.scene m.app m.ran zs x.places) table = rw (fed, more) (fed_kept m.scene is.faultless m.app m.ran m.taken x.places ys are_roomier c wants.link wants.here block next.numbered is.takes table k has at) in
                record { proper = f.proper; there = n.there; keeps = n.keeps; truths = f.truths; owed = f.owed };
          }

  -- ---- a block was put
  last_step : (scene : Scene) (c ran put : ℕ) (o : Option Block) → IsPendingAt scene c ran put o → put < ran → put < wanted_blocks scene c → put + 1 ≡ ran
  last_step scene c ran put None at made wants = absurd (omega arith)
  last_step scene c ran put (Some b) at made wants = at.1

  module _ (c : ℕ) (wants : WantsPut m c) (put : List ℕ) (pending : List (Option Block)) (more : put ≡ one_more m.put c) (gone : pending ≡ slice_set m.pending c None) where
    pub gave_is : IsMachine (record m { put = put; pending = pending }) x
    gave_is = record {
      faultless = is.faultless;
      here = is.here;
      all_steps = is.all_steps;
      within = is.within;
      puts = ap (λ (t : List ℕ). length t) more ∙ length-set m.put c _ ∙ is.puts;
      takes = is.takes;
      pendings = ap (λ (t : List (Option Block)). length t) gone ∙ length-set m.pending c _ ∙ is.pendings;
      need_count = is.need_count;
      most_count = is.most_count;
      place_count = is.place_count;
      truth_count = is.truth_count;
      planned = is.planned;
      comes_in = is.comes_in;
      paced = is.paced;
      goes_out = is.goes_out;
      each_need = is.each_need;
      each_most = is.each_most;
      inboxes_are = is.inboxes_are;
      seen = is.seen;
      owed = λ d link from. rw (more, gone) (go d link from (cases_eq d c));
    }
      where
        At : ℕ → Type 0
        At d = IsPendingAt m.scene d m.ran (slice_index (one_more m.put c) d) (slice_index_or (slice_set m.pending c None) d None)

        at_c : At c
        at_c =
            let small : c < length m.pending = omega (arith, wants.link, is.pendings) in
            let low : c < length m.put = omega (arith, wants.link, is.puts) in
            let next = last_step m.scene c m.ran (put_by m c) (pending_on m c) (is.owed c wants.link wants.here) wants.made wants.is_wanted in
            rw (get_or-set_same m.pending, one_more-same) (omega (arith, next, wants.is_wanted))

        go : (d : ℕ) → d < length m.scene.links → sender m.scene d ≡ m.app → (d ≡ c) ⊎ (d ≡ c → ⊥) → At d
        go d link from (inl e) = subst At (sym e) at_c
        go d link from (inr ne) = rw (get_or-set_other m.pending, one_more-other) (is.owed d link from)

    pub gave : Gave m c (record m { put = put; pending = pending })
    gave = record {
      same_scene = refl;
      same_app = refl;
      same_ran = refl;
      same_taken = refl;
      counts = more;
      owes = gone;
      follows = λ table f. record { proper = f.proper; there = f.there; keeps = f.keeps; truths = f.truths; owed = λ d link from. rw gone (go table f d link from (cases_eq d c)) };
    }
      where
        At : Table → ℕ → Type 0
        At table d = IfSome (slice_index_or (slice_set m.pending c None) d None) (λ (b : Block). b.items ≡ life_block m.scene table d b.number)

        go : (table : Table) → Follows m table → (d : ℕ) → d < length m.scene.links → sender m.scene d ≡ m.app → (d ≡ c) ⊎ (d ≡ c → ⊥) → At table d
        go table f d link from (inl e) =
            let at_c : At table c = let small : c < length m.pending = omega (arith, wants.link, is.pendings) in rw (get_or-set_same m.pending) tt in
            subst (At table) (sym e) at_c
        go table f d link from (inr ne) = rw (get_or-set_other m.pending) (f.owed d link from)

  -- a block that was found there
  pub pending_is : (c : ℕ) → WantsPut m c → (b : Block) → pending_on m c ≡ Some b → IsPending m c b
  pending_is c wants b e =
      let at : IsPendingAt m.scene c m.ran (put_by m c) (Some b) = rw e at (is.owed c wants.link wants.here) in
      record { is = e; numbered = at.0; of_last = omega (arith, at.0, at.1); fits = at.3 }

  pub put_same : (pending : List (Option Block)) → pending ≡ m.pending → record m { pending = pending } ≡ m
  put_same pending e = ap (λ (p : List (Option Block)). record m { pending = p }) e

  -- ---- its own connections
  pub into_small : (i : ℕ) → i < length x.into → slice_index x.into i < length m.scene.links
  into_small = listed_small (receiver m.scene) m.app (length m.scene.links) x.into (into_listed m.scene m.app x.into is.comes_in)

  pub paces_fit : AllByRecursion IsPace (map (pace_of m.scene) x.into)
  paces_fit = paces_bounds m.scene x.into is.faultless into_small

  pub needs_small : AllByRecursion (λ (pace : Pace). pace.link < length x.needs) (map (pace_of m.scene) x.into)
  needs_small = paces_small m.scene x.into (length x.needs) (λ i l. let small = into_small i l in omega (arith, small, is.need_count))

  pub out_small : (i : ℕ) → i < length x.out → slice_index x.out i < length m.scene.links
  out_small = listed_small (sender m.scene) m.app (length m.scene.links) x.out (out_listed m.scene m.app x.out is.goes_out)

  pub into_taken : (i : ℕ) → i < length x.into → slice_index x.into i < length m.taken
  into_taken i small = let l = into_small i small in omega (arith, l, is.takes)

  pub out_pending : (i : ℕ) → i < length x.out → slice_index x.out i < length m.pending
  out_pending i small = let l = out_small i small in omega (arith, l, is.pendings)

  pub few_steps : m.ran ≤ 1_000_000
  few_steps = let most = steps_are m.scene is.faultless m.app is.here in omega (arith, is.within, is.all_steps, most)

  taken-iff : (b : Bool) → (IsTrue b ↔ ((i : ℕ) → i < length x.into → slice_index m.taken (slice_index x.into i) ≡ slice_index x.needs (slice_index x.into i))) → (IsTrue b ↔ EachTo m.scene m.app (λ c. taken_by m c ≡ wanted m.scene c m.ran))
  taken-iff b iff =
      let all = by_place-iff (receiver m.scene) m.app (length m.scene.links) x.into (into_listed m.scene m.app x.into is.comes_in) (λ c. slice_index m.taken c ≡ slice_index x.needs c) b iff in
      (λ t c link to. all.0 t c link to ∙ is.each_need c link to, λ each. all.1 (λ c link to. each c link to ∙ sym (is.each_need c link to)))

  put-iff : (b : Bool) → (IsTrue b ↔ ((i : ℕ) → i < length x.out → slice_index_or m.pending (slice_index x.out i) None ≡ None)) → (IsTrue b ↔ EachFrom m.scene m.app (λ c. pending_on m c ≡ None))
  put-iff b iff = by_place-iff (sender m.scene) m.app (length m.scene.links) x.out (out_listed m.scene m.app x.out is.goes_out) (λ c. slice_index_or m.pending c None ≡ None) b iff

  -- nothing is to be put exactly where all wanted blocks of the steps run were put
  settled_put : (scene : Scene) (c ran put : ℕ) (o : Option Block) → IsPendingAt scene c ran put o → o ≡ None → put ≡ min ran (wanted_blocks scene c)
  settled_put scene c ran put None at e = at
  settled_put scene c ran put (Some b) at e = cc

  nothing_owed : (scene : Scene) (c ran put : ℕ) (o : Option Block) → IsPendingAt scene c ran put o → put ≡ min ran (wanted_blocks scene c) → o ≡ None
  nothing_owed scene c ran put None at e = refl
  nothing_owed scene c ran put (Some b) at e = absurd (omega (arith, at.1, at.2, e))

  pub runs-iff : m.ran < x.last → (a b : Bool) → a ≡ true → (IsTrue a ↔ ((i : ℕ) → i < length x.into → slice_index m.taken (slice_index x.into i) ≡ slice_index x.needs (slice_index x.into i)))
      → (IsTrue b ↔ ((i : ℕ) → i < length x.out → slice_index_or m.pending (slice_index x.out i) None ≡ None)) → (IsTrue b ↔ WantsRun m)
  runs-iff left a b yes_all takes puts = (
    λ t. record {
      step_left = omega (arith, left, is.all_steps);
      all_taken = (taken-iff a takes).0 yes_all;
      all_put = λ c link from. settled_put _ _ _ _ _ (is.owed c link from) ((put-iff b puts).0 t c link from);
    },
    λ (w : WantsRun m). (put-iff b puts).1 (λ c link from. nothing_owed _ _ _ _ _ (is.owed c link from) (w.all_put c link from)),
  )

  pub not_taken : (a b : Bool) → a ≡ false → b ≡ false → (IsTrue a ↔ ((i : ℕ) → i < length x.into → slice_index m.taken (slice_index x.into i) ≡ slice_index x.needs (slice_index x.into i))) → (IsTrue b ↔ WantsRun m)
  not_taken a b none is_no takes = (λ t. let bad : true ≡ false = sym t ∙ is_no in cc, λ (w : WantsRun m). let t = (taken-iff a takes).1 w.all_taken in let bad : true ≡ false = sym t ∙ none in cc)

  pub no_step : (b : Bool) → b ≡ false → (m.ran < x.last → ⊥) → (IsTrue b ↔ WantsRun m)
  no_step b is_no over = (λ t. let bad : true ≡ false = sym t ∙ is_no in cc, λ (w : WantsRun m). absurd (over (omega (arith, w.step_left, is.all_steps))))

  -- nothing to put after the last step
  put_all : (scene : Scene) (c ran put : ℕ) (o : Option Block) → IsPendingAt scene c ran put o → wanted_blocks scene c ≤ ran → o ≡ None → put ≡ wanted_blocks scene c
  put_all scene c ran put None at at_most e = omega arith
  put_all scene c ran put (Some b) at at_most e = cc

  none_left : (scene : Scene) (c ran put : ℕ) (o : Option Block) → IsPendingAt scene c ran put o → put ≡ wanted_blocks scene c → o ≡ None
  none_left scene c ran put None at e = refl
  none_left scene c ran put (Some b) at e = absurd (omega (arith, at.2))

  pub finished-iff : m.ran ≡ x.last → (b : Bool) → (IsTrue b ↔ ((i : ℕ) → i < length x.out → slice_index_or m.pending (slice_index x.out i) None ≡ None)) → (IsTrue b ↔ HasFinished m)
  finished-iff ran b places = let iff = put-iff b places in (λ t. record { all_run = ran ∙ is.all_steps; all_put = all (iff.0 t) }, λ f. iff.1 (λ c link from. none_left _ _ _ _ _ (is.owed c link from) (f.all_put c link from)))
    where
      all : EachFrom m.scene m.app (λ c. pending_on m c ≡ None) → EachFrom m.scene m.app (λ c. put_by m c ≡ wanted_blocks m.scene c)
      all none c link from =
          put_all _ _ _ _ _ (is.owed c link from) (let at = wanted_before-at_most m.scene c (steps m.scene (receiver m.scene c)) in let e : steps m.scene (sender m.scene c) ≡ m.ran = ap (steps m.scene) from ∙ sym is.all_steps ∙ sym ran in omega (arith, at, e)) (none c link from)
