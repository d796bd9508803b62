-- What the tests of a core say.
use Rattle.std.proofs.Common.{ℕ, ◌-◌, ◌<◌, ◌≤◌, ◌≡◌, ◌⊎◌, inl, inr, sym, ◌∙◌, ap, subst, arith, min, Bool, true, false, List, length, nat_lt}
use Rattle.std.specs.Prelude.{slice_index, slice_index_or, IsTrue, ◌↔◌}
use Rattle.std.proofs.lemmas.Bool.{cases_lt, lt-ltb, le-ltb}
use Rattle.scene_model.specs.declared.scene.Scene.{Scene}
use Rattle.scene_model.specs.Scenes.{sender, receiver}
use Rattle.scene_model.specs.Clocks.{steps, wanted, wanted_blocks}
use Rattle.scene_model.specs.Orders.{Counts, run_by, put_on, taken_from, CanTake, CanRun, CanPut}
use Rattle.music_base.specs.declared.item.Block.{Block}
use Rattle.circular_buffer.specs.Buffer.{Buffer}
use Rattle.app_turn.specs.Machines.{Machine, WantsTake, WantsRun, WantsPut}
use Rattle.scene_model.specs.declared.row.Row.{Row}
use Rattle.scene_model.proofs.Faultless.{connection_is}
use Rattle.step_core.specs.Cores.{machine_at, IsCore}
use Rattle.step_core.proofs.Owning.{put-here, taken-here}
use Rattle.step_core.proofs.Takes.{length-past, same_ring, same_machine}

-- a test of two numbers says what it says
pub lt-iff : {P : Type 0} (a b : ℕ) → (a < b → P) → (P → a < b) → IsTrue (nat_lt a b) ↔ P
lt-iff {P = P} a b there back = go (cases_lt a b)
  where
    go : (a < b) ⊎ (b ≤ a) → IsTrue (nat_lt a b) ↔ P
    go (inl l) = (λ _. there l, λ _. lt-ltb a b l)
    go (inr g) = (λ t. let e : false ≡ true = sym (le-ltb a b g) ∙ t in cc, λ p. absurd (omega (arith, back p)))

module _ (scene : Scene) (limits : List ℕ) (s : Counts) (released : List ℕ) (machines : List Machine) (rings : List (Buffer Block)) (held : List (List Row)) (core : IsCore scene limits s released machines rings held) where
  -- how many blocks lie in a ring
  pub lies_is : (c : ℕ) (y : Buffer Block) → c < length scene.links → y ≡ slice_index_or rings c y → length y.items ≡ put_on s c - taken_from s c
  lies_is c y link y-is = ap (λ (q : Buffer Block). length q.items) (same_ring scene limits s released machines rings held core c y link y-is ∙ core.each_ring c link) ∙ length-past scene c (taken_from s c) (put_on s c)

  pub can_take-iff : (c r : ℕ) (x : Machine) (y : Buffer Block) (n : ℕ) → x ≡ slice_index_or machines r x → y ≡ slice_index_or rings c y → r ≡ receiver scene c → n ≡ length y.items → WantsTake x c → c < length scene.links → IsTrue (nat_lt 0 n) ↔ CanTake scene s c
  can_take-iff c r x y n x-is y-is to count wants link =
      let app : receiver scene c < length scene.apps = (connection_is scene core.faultless c link).to_app in
      let at : x ≡ machine_at machines (receiver scene c) = same_machine scene limits s released machines rings held core r x (rw to app) x-is ∙ ap (machine_at machines) to in
      let w : WantsTake (machine_at machines (receiver scene c)) c = subst (λ (z : Machine). WantsTake z c) at wants in
      let of = core.own.each (receiver scene c) app in
      let runs = core.own.runs (receiver scene c) app in
      let takes = core.own.takes c link in
      let lies : n ≡ put_on s c - taken_from s c = count ∙ lies_is c y link y-is in
      let step : run_by s (receiver scene c) < steps scene (receiver scene c) = rw (of.is_scene, of.is_app, runs) at w.step_left in
      let more : taken_from s c < wanted scene c (run_by s (receiver scene c)) = rw (takes, of.is_scene, runs) at w.is_wanted in
      lt-iff 0 n (λ l. record { link = link; there = omega (arith, lies, l); step_left = step; is_wanted = more }) (λ can. omega (arith, lies, can.there))

  pub can_put-iff : (c r : ℕ) (x : Machine) (y : Buffer Block) (n m : ℕ) → x ≡ slice_index_or machines r x → y ≡ slice_index_or rings c y → r ≡ sender scene c → n ≡ length y.items → m ≡ slice_index limits c → WantsPut x c → c < length scene.links → IsTrue (nat_lt n m) ↔ CanPut scene limits s c
  can_put-iff c r x y n m x-is y-is from count limit wants link =
      let app : sender scene c < length scene.apps = (connection_is scene core.faultless c link).from_app in
      let at : x ≡ machine_at machines (sender scene c) = same_machine scene limits s released machines rings held core r x (rw from app) x-is ∙ ap (machine_at machines) from in
      let w : WantsPut (machine_at machines (sender scene c)) c = subst (λ (z : Machine). WantsPut z c) at wants in
      let of = core.own.each (sender scene c) app in
      let runs = core.own.runs (sender scene c) app in
      let puts = core.own.puts c link in
      let lies : n ≡ put_on s c - taken_from s c = count ∙ lies_is c y link y-is in
      let least = (core.sound.on c link).taken_were_put in
      let made : put_on s c < run_by s (sender scene c) = rw (puts, runs) at w.made in
      let more : put_on s c < wanted_blocks scene c = rw (puts, of.is_scene) at w.is_wanted in
      lt-iff n m (λ l. record { link = link; made = made; is_wanted = more; room = omega (arith, lies, l, limit, least) }) (λ can. omega (arith, lies, can.room, limit, least))

  -- a machine's conditions, from those of the counts
  module _ (r : ℕ) (x : Machine) (small : r < length scene.apps) (x-is : x ≡ slice_index_or machines r x) where
    x-at : x ≡ machine_at machines r
    x-at = same_machine scene limits s released machines rings held core r x small x-is

    pub wants_take : (c : ℕ) → r ≡ receiver scene c → CanTake scene s c → WantsTake x c
    wants_take c to can =
        let of = core.own.each r small in
        let runs = core.own.runs r small in
        let takes = taken-here scene machines s core.own r c can.link (sym to) in
        let step : run_by s r < steps scene r = rw to can.step_left in
        let more : taken_from s c < wanted scene c (run_by s r) = rw to can.is_wanted in
        let w : WantsTake (machine_at machines r) c = record {
          link = rw of.is_scene can.link;
          here = ap (λ (z : Scene). receiver z c) of.is_scene ∙ sym to ∙ sym of.is_app;
          step_left = rw (of.is_scene, of.is_app, runs) step;
          is_wanted = rw (takes, of.is_scene, runs) more;
        } in
        subst (λ (z : Machine). WantsTake z c) (sym x-at) w

    pub wants_put : (c : ℕ) → r ≡ sender scene c → CanPut scene limits s c → WantsPut x c
    wants_put c from can =
        let of = core.own.each r small in
        let runs = core.own.runs r small in
        let puts = put-here scene machines s core.own r c can.link (sym from) in
        let made : put_on s c < run_by s r = rw from can.made in
        let w : WantsPut (machine_at machines r) c = record {
          link = rw of.is_scene can.link;
          here = ap (λ (z : Scene). sender z c) of.is_scene ∙ sym from ∙ sym of.is_app;
          made = rw (puts, runs) made;
          is_wanted = rw (puts, of.is_scene) can.is_wanted;
        } in
        subst (λ (z : Machine). WantsPut z c) (sym x-at) w

    pub wants_run : CanRun scene s r → WantsRun x
    wants_run can =
        let of = core.own.each r small in
        let runs = core.own.runs r small in
        let w : WantsRun (machine_at machines r) = record {
          step_left = rw (of.is_scene, of.is_app, runs) can.step_left;
          all_taken = λ c at into.
              let link : c < length scene.links = rw of.is_scene at at in
              let to : receiver scene c ≡ r = ap (λ (z : Scene). receiver z c) (sym of.is_scene) ∙ into ∙ of.is_app in
              taken-here scene machines s core.own r c link to ∙ can.all_taken c link to ∙ ap (wanted scene c) (sym runs) ∙ ap (λ (z : Scene). wanted z c (machine_at machines r).ran) (sym of.is_scene);
          all_put = λ c at out.
              let link : c < length scene.links = rw of.is_scene at at in
              let from : sender scene c ≡ r = ap (λ (z : Scene). sender z c) (sym of.is_scene) ∙ out ∙ of.is_app in
              put-here scene machines s core.own r c link from ∙ can.all_put c link from ∙ ap (λ n. min n (wanted_blocks scene c)) (sym runs) ∙ ap (λ (z : Scene). min (machine_at machines r).ran (wanted_blocks z c)) (sym of.is_scene);
        } in
        subst WantsRun (sym x-at) w

    can_run : WantsRun x → CanRun scene s r
    can_run wants =
        let of = core.own.each r small in
        let runs = core.own.runs r small in
        let w : WantsRun (machine_at machines r) = subst WantsRun x-at wants in
        record {
          app = small;
          step_left = rw (of.is_scene, of.is_app, runs) at w.step_left;
          all_taken = λ c link to.
              let at : c < length (machine_at machines r).scene.links = rw of.is_scene link in
              let into : receiver (machine_at machines r).scene c ≡ (machine_at machines r).app = ap (λ (z : Scene). receiver z c) of.is_scene ∙ to ∙ sym of.is_app in
              sym (taken-here scene machines s core.own r c link to) ∙ w.all_taken c at into ∙ ap (λ (z : Scene). wanted z c (machine_at machines r).ran) of.is_scene ∙ ap (wanted scene c) runs;
          all_put = λ c link from.
              let at : c < length (machine_at machines r).scene.links = rw of.is_scene link in
              let out : sender (machine_at machines r).scene c ≡ (machine_at machines r).app = ap (λ (z : Scene). sender z c) of.is_scene ∙ from ∙ sym of.is_app in
              sym (put-here scene machines s core.own r c link from) ∙ w.all_put c at out ∙ ap (λ (z : Scene). min (machine_at machines r).ran (wanted_blocks z c)) of.is_scene ∙ ap (λ n. min n (wanted_blocks scene c)) runs;
        }

    pub can_run-iff : (b : Bool) → (IsTrue b ↔ WantsRun x) → IsTrue b ↔ CanRun scene s r
    can_run-iff b iff = (λ t. can_run (iff.0 t), λ can. iff.1 (wants_run can))

    pub no_take : (c : ℕ) → r ≡ receiver scene c → (b : Bool) → b ≡ false → (IsTrue b ↔ WantsTake x c) → IsTrue b ↔ CanTake scene s c
    no_take c to b is iff = (λ t. let e : false ≡ true = sym is ∙ t in cc, λ can. iff.1 (wants_take c to can))

    pub no_put : (c : ℕ) → r ≡ sender scene c → (b : Bool) → b ≡ false → (IsTrue b ↔ WantsPut x c) → IsTrue b ↔ CanPut scene limits s c
    no_put c from b is iff = (λ t. let e : false ≡ true = sym is ∙ t in cc, λ can. iff.1 (wants_put c from can))
