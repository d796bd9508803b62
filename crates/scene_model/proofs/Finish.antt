-- In a live scene every lawful order can be continued until every application is finished: each act takes one from what is
-- left to do.
use Rattle.std.proofs.Common.{◌≡◌, ℕ, zero, suc, ◌+◌, ◌-◌, ◌<◌, ◌≤◌, refl, sym, subst, ◌⊎◌, inl, inr, arith, List, [], ◌∷◌, ◌++◌, length}
use Rattle.std.specs.Prelude.{slice_index}
use Rattle.std.proofs.lemmas.Bool.{cases_eq}
use Rattle.music_base.specs.Numbers.{total_below}
use Rattle.scene_model.specs.declared.scene.Scene.{Scene}
use Rattle.scene_model.specs.declared.act.Act.{Act}
use Rattle.scene_model.specs.declared.act.Act.TheVariants.{Take, Run, Put}
use Rattle.scene_model.specs.Clocks.{steps, wanted_blocks}
use Rattle.scene_model.specs.Scenes.{receiver}
use Rattle.scene_model.specs.Orders.{Counts, run_by, taken_from, one_more, actor, after, after_all, opening_counts, IsAllowed, IsLawful, IsLawfulFrom, IsSound, IsFinished, AllFinished, SomeAllowed, IsLive}
use Rattle.scene_model.proofs.Sound.{one_more-same, one_more-other, after_act, lawful_sound}
use Rattle.scene_model.proofs.Wanted.{wanted-at_most}

-- an application that can act is not finished
pub actor_unfinished : (scene : Scene) (limits : List ℕ) (s : Counts) (act : Act) → IsAllowed scene limits s act → IsFinished scene s (actor scene act) → ⊥
actor_unfinished scene limits s (Take c) can done = omega (arith, can.step_left, done.all_run)
actor_unfinished scene limits s (Run a) can done = omega (arith, can.step_left, done.all_run)
actor_unfinished scene limits s (Put c) can done = omega (arith, can.is_wanted, done.all_put c can.link refl)

-- ---- what is left to do

pub total_below-agree : (f g : ℕ → ℕ) (n : ℕ) → ((j : ℕ) → j < n → f j ≡ g j) → total_below f n ≡ total_below g n
total_below-agree f g zero same = refl
total_below-agree f g (suc n) same = omega (arith, same n (omega arith), total_below-agree f g n (λ j lt. same j (omega arith)))

pub total_below-same : (f g : ℕ → ℕ) (n i : ℕ) → n ≤ i → ((j : ℕ) → (j ≡ i → ⊥) → f j ≡ g j) → total_below f n ≡ total_below g n
total_below-same f g n i le others = total_below-agree f g n (λ j lt. others j (λ e. omega arith))

-- a sum in which one number is one more
pub total_below-more : (f g : ℕ → ℕ) (n i : ℕ) → i < n → g i ≡ f i + 1 → ((j : ℕ) → (j ≡ i → ⊥) → f j ≡ g j) → total_below g n ≡ total_below f n + 1
total_below-more f g zero i lt more others = absurd (omega arith)
total_below-more f g (suc n) i lt more others = go (cases_eq n i) (λ less. total_below-more f g n i less more others)
  where
    go : (n ≡ i) ⊎ (n ≡ i → ⊥) → (i < n → total_below g n ≡ total_below f n + 1) → g n + total_below g n ≡ f n + total_below f n + 1
    go (inl e) rest = let here : g n ≡ f n + 1 = subst (λ k. g k ≡ f k + 1) (sym e) more in omega (arith, total_below-same f g n i (omega arith) others)
    go (inr ne) rest = omega (arith, others n ne, rest (omega arith))

-- how much is left, where xs counts what was done of each of n
abbrev pub left_below : (ℕ → ℕ) → List ℕ → ℕ → ℕ
left_below most xs n = total_below (λ i. most i - slice_index xs i) n

left_below-one : (most : ℕ → ℕ) (xs : List ℕ) (n i : ℕ) → i < n → i < length xs → slice_index xs i < most i → left_below most xs n ≡ left_below most (one_more xs i) n + 1
left_below-one most xs n i small there below =
    total_below-more (λ j. most j - slice_index (one_more xs i) j) (λ j. most j - slice_index xs j) n i small (omega (arith, one_more-same xs i there)) (λ j ne. omega (arith, one_more-other xs i j ne))

-- the steps to run, and the blocks to put and to take
abbrev pub left_of : Scene → Counts → ℕ
left_of scene s = left_below (steps scene) s.run (length scene.apps) + left_below (wanted_blocks scene) s.put (length scene.links) + left_below (wanted_blocks scene) s.taken (length scene.links)

pub takes_one : (scene : Scene) (limits : List ℕ) (s : Counts) → IsSound scene limits s → (act : Act) → IsAllowed scene limits s act → left_of scene s ≡ left_of scene (after s act) + 1
takes_one scene limits s sound (Run a) can = let one = left_below-one (steps scene) s.run (length scene.apps) a can.app (omega (arith, can.app, sound.runs)) can.step_left in omega arith
takes_one scene limits s sound (Put c) can = let one = left_below-one (wanted_blocks scene) s.put (length scene.links) c can.link (omega (arith, can.link, sound.puts)) can.is_wanted in omega arith
takes_one scene limits s sound (Take c) can =
    let wants : taken_from s c < wanted_blocks scene c = omega (arith, can.is_wanted, wanted-at_most scene c (run_by s (receiver scene c)) can.step_left) in
    let one = left_below-one (wanted_blocks scene) s.taken (length scene.links) c can.link (omega (arith, can.link, sound.takes)) wants in
    omega arith

-- ---- going on

module _ (scene : Scene) (limits : List ℕ) where
  -- what being live says of the orders from some counts on
  abbrev GoesOn : Counts → Type 0
  GoesOn s = (acts : List Act) → IsLawfulFrom scene limits s acts → SomeAllowed scene limits (after_all s acts) ⊎ AllFinished scene (after_all s acts)

  goes_on : (s : Counts) (acts : List Act) → GoesOn s → IsLawfulFrom scene limits s acts → GoesOn (after_all s acts)
  goes_on s [] on lawful = on
  goes_on s (act ∷ acts) on lawful = goes_on (after s act) acts (λ more then. on (act ∷ more) (lawful.0, then)) lawful.1

  lawful_join : (s : Counts) (acts more : List Act) → IsLawfulFrom scene limits s acts → IsLawfulFrom scene limits (after_all s acts) more → IsLawfulFrom scene limits s (acts ++ more)
  lawful_join s [] more lawful then = then
  lawful_join s (act ∷ acts) more lawful then = (lawful.0, lawful_join (after s act) acts more lawful.1 then)

  after_join : (s : Counts) (acts more : List Act) → after_all (after_all s acts) more ≡ after_all s (acts ++ more)
  after_join s [] more = refl
  after_join s (act ∷ acts) more = after_join (after s act) acts more

  abbrev Finishing : Counts → Type 0
  Finishing s = (more : List Act) × IsLawfulFrom scene limits s more × AllFinished scene (after_all s more)

  finish : (n : ℕ) (s : Counts) → IsSound scene limits s → GoesOn s → left_of scene s ≤ n → Finishing s
  finish zero s sound on few = go (on [] tt)
    where
      go : SomeAllowed scene limits s ⊎ AllFinished scene s → Finishing s
      go (inl (act, can)) = absurd (omega (arith, takes_one scene limits s sound act can))
      go (inr all) = ([], tt, all)
  finish (suc n) s sound on few = go (on [] tt) (finish n)
    where
      go : SomeAllowed scene limits s ⊎ AllFinished scene s → ((t : Counts) → IsSound scene limits t → GoesOn t → left_of scene t ≤ n → Finishing t) → Finishing s
      go (inl (act, can)) rest =
          let found = rest (after s act) (after_act scene limits s sound act can) (λ acts lawful. on (act ∷ acts) (can, lawful)) (omega (arith, takes_one scene limits s sound act can)) in
          (act ∷ found.0, (can, found.1), found.2)
      go (inr all) rest = ([], tt, all)

pub can_finish : (scene : Scene) (limits : List ℕ) → IsLive scene limits → (acts : List Act) → IsLawful scene limits acts → (more : List Act) × IsLawful scene limits (acts ++ more) × AllFinished scene (after_all (opening_counts scene) (acts ++ more))
can_finish scene limits live acts lawful =
    let s : Counts = after_all (opening_counts scene) acts in
    let on = goes_on scene limits (opening_counts scene) acts (λ more then. live.goes_on more (live.one_each, then)) lawful.1 in
    let found = finish scene limits (left_of scene s) s (lawful_sound scene limits acts lawful.1) on (omega arith) in
    (found.0, (lawful.0, lawful_join scene limits (opening_counts scene) acts found.0 lawful.1 found.1), subst (AllFinished scene) (after_join scene limits (opening_counts scene) acts found.0) found.2)
