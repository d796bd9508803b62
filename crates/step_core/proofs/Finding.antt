-- Where no act is allowed, all applications are finished; lawful orders, one act longer.
use Rattle.std.proofs.Common.{ℕ, ◌+◌, ◌<◌, ◌≡◌, ◌⊎◌, inl, inr, refl, sym, ◌∙◌, ap, subst, List, [], ◌∷◌, ◌++◌, length, Option, None, Some}
use Rattle.std.specs.Prelude.{IfSome, MatchOption}
use Rattle.scene_model.specs.declared.scene.Scene.{Scene}
use Rattle.scene_model.specs.declared.act.Act.{Act}
use Rattle.scene_model.specs.declared.act.Act.TheVariants.{Take, Run, Put}
use Rattle.scene_model.specs.Orders.{Counts, after, after_all, CanTake, CanRun, CanPut, IsAllowed, IsLawfulFrom, AllFinished, SomeAllowed, opening_counts}
use Rattle.scene_model.proofs.Finish.{left_of, takes_one}
use Rattle.scene_model.proofs.Sound.{after_acts, opening_sound}
use Rattle.scene_model.proofs.Enabled.{enabled}
use Rattle.scene_model.proofs.Finish.{actor_unfinished}
use Rattle.scene_model.proofs.SceneWaits.{fits_each_passes}
use Rattle.scene_model.proofs.WellFormedScenes.{well_formed}
use Rattle.scene_model.proofs.Faultless.{connection_is}
use Rattle.scene_model.specs.declared.row.Row.{Row}
use Rattle.scene_model.specs.Orders.{actor}
use Rattle.music_base.specs.declared.item.Block.{Block}
use Rattle.circular_buffer.specs.Buffer.{Buffer}
use Rattle.app_turn.specs.Machines.{Machine}
use Rattle.step_core.specs.Cores.{Can, CoreView, IsAfter, IsCore, did}

module _ (scene : Scene) (limits : List ℕ) (s : Counts) (released : List ℕ) (machines : List Machine) (rings : List (Buffer Block)) (held : List (List Row)) (core : IsCore scene limits s released machines rings held) where
  pub all_done : ((c : ℕ) → c < length scene.links → (CanTake scene s c → ⊥) × (CanPut scene limits s c → ⊥)) → ((a : ℕ) → a < length scene.apps → CanRun scene s a → ⊥) → AllFinished scene s
  all_done no_link no_app = go (enabled scene (well_formed scene core.faultless) limits core.planned.0 (fits_each_passes scene limits core.planned.0 core.planned.1) s core.sound)
    where
      none : (act : Act) → IsAllowed scene limits s act → ⊥
      none (Take c) can = (no_link c can.link).0 can
      none (Run a) can = no_app a can.app can
      none (Put c) can = (no_link c can.link).1 can

      go : SomeAllowed scene limits s ⊎ AllFinished scene s → AllFinished scene s
      go (inl (act, can)) = absurd (none act can)
      go (inr all) = all

  -- an act that can be done is one of an application that is not finished
  pub not_finished : (act : Act) → IsAllowed scene limits s act → AllFinished scene s → ⊥
  not_finished act can all = actor_unfinished scene limits s act can (all (actor scene act) (small act can))
    where
      small : (act : Act) → IsAllowed scene limits s act → actor scene act < length scene.apps
      small (Take c) can = (connection_is scene core.faultless c can.link).to_app
      small (Run a) can = can.app
      small (Put c) can = (connection_is scene core.faultless c can.link).from_app

  -- where all are finished, no allowed act was found
  pub none_found : (act : Option Act) → IfSome act (IsAllowed scene limits s) → AllFinished scene s → act ≡ None
  none_found None can all = refl
  none_found (Some act) can all = absurd (not_finished act can all)

  -- and where none was found, all are finished
  pub found : (act : Option Act) → IfSome act (IsAllowed scene limits s) → ((c : ℕ) → c < length scene.links → (CanTake scene s c → ⊥) × (CanPut scene limits s c → ⊥))
      → (act ≡ None → (a : ℕ) → a < length scene.apps → CanRun scene s a → ⊥) → MatchOption act (AllFinished scene s) (IsAllowed scene limits s)
  found None can no_link no_app = all_done no_link (no_app refl)
  found (Some act) can no_link no_app = can

-- one order behind another
pub lawful_join : (scene : Scene) (limits : List ℕ) (s : Counts) (acts more : List Act) → IsLawfulFrom scene limits s acts → IsLawfulFrom scene limits (after_all s acts) more → IsLawfulFrom scene limits s (acts ++ more)
lawful_join scene limits s [] more lawful then = then
lawful_join scene limits s (act ∷ acts) more lawful then = (lawful.0, lawful_join scene limits (after s act) acts more lawful.1 then)

pub after_join : (s : Counts) (acts more : List Act) → after_all s (acts ++ more) ≡ after_all (after_all s acts) more
after_join s [] more = refl
after_join s (act ∷ acts) more = after_join (after s act) acts more

-- one act more, and one less to do
module _ (scene : Scene) (limits : List ℕ) (acts : List Act) (core next : CoreView) (act : Act) (so_far : IsAfter scene limits acts core) (can : Can core act) (is : next ≡ did core act) where
  can-here : IsAllowed scene limits (after_all (opening_counts scene) acts) act
  can-here =
      let F : Scene → Type 0 = λ x. IsAllowed x limits (after_all (opening_counts scene) acts) act in
      let G : List ℕ → Type 0 = λ x. IsAllowed core.scene x (after_all (opening_counts scene) acts) act in
      subst F so_far.is_scene (subst G so_far.are_limits (subst (λ (x : Counts). IsAllowed core.scene core.limits x act) so_far.are_counts can))

  pub after_act_is : IsAfter scene limits (acts ++ act ∷ []) next
  after_act_is = record {
    is_scene = ap (λ (x : CoreView). x.scene) is ∙ so_far.is_scene;
    are_limits = ap (λ (x : CoreView). x.limits) is ∙ so_far.are_limits;
    lawful = (so_far.lawful.0, lawful_join scene limits (opening_counts scene) acts (act ∷ []) so_far.lawful.1 (can-here, tt));
    are_counts = ap (λ (x : CoreView). x.counts) is ∙ ap (λ (x : Counts). after x act) so_far.are_counts ∙ sym (after_join (opening_counts scene) acts (act ∷ []));
  }

  pub one_less_left : left_of core.scene core.counts ≡ left_of next.scene next.counts + 1
  one_less_left =
      let sound = after_acts scene limits acts (opening_counts scene) (opening_sound scene limits) so_far.lawful.1 in
      let one = takes_one scene limits (after_all (opening_counts scene) acts) sound act can-here in
      ap (λ (x : Scene). left_of x core.counts) so_far.is_scene ∙ ap (left_of scene) so_far.are_counts ∙ one ∙ ap (λ (x : Counts). left_of scene (after x act) + 1) (sym so_far.are_counts) ∙ ap (λ (x : Scene). left_of x (after core.counts act) + 1) (sym so_far.is_scene) ∙ ap (λ (x : CoreView). left_of x.scene x.counts + 1) (sym is)
