-- From sound counts, under limits with which all waits pass: some act is allowed, or every application is finished.
--
-- An unfinished application that cannot act waits for an unfinished one of less value, where the value of an application
-- is its clock, as many times as there are applications, and its potential.
use Rattle.std.proofs.Common.{◌≡◌, ℕ, zero, suc, ◌+◌, ◌*◌, ◌/◌, ◌<◌, ◌≤◌, min, refl, ◌⊎◌, inl, inr, arith, List, [], ◌∷◌, length, ℤ, pos, negsuc, ◌+ℤ◌, ◌-ℤ◌}
use Rattle.std.specs.Prelude.{slice_index, ◌<ℤ◌, ◌≤ℤ◌, unsigned_abs}
use Rattle.std.specs.Int.{IsGcd}
use Rattle.std.proofs.lemmas.Bool.{cases_lt, cases_eq}
use Rattle.std.proofs.lemmas.Int.{ints}
use Rattle.std.proofs.Math.Nat.{div-mul_cancel, pos_of_dvd_of_pos}
use Rattle.scene_model.specs.declared.scene.Scene.{Scene}
use Rattle.scene_model.specs.declared.act.Act.TheVariants.{Take, Run, Put}
use Rattle.scene_model.specs.Clocks.{tick, steps, run_time, allowance, wanted, wanted_blocks}
use Rattle.scene_model.specs.Scenes.{sender, receiver}
use Rattle.scene_model.specs.Cover.{potential}
use Rattle.scene_model.specs.Waits.{common_divisor, rounded, block_wait, room_wait}
use Rattle.scene_model.specs.WellFormed.{IsWellFormed}
use Rattle.scene_model.specs.Orders.{Counts, run_by, put_on, taken_from, IsSoundOn, IsSound, IsFinished, AllFinished, SomeAllowed, IsLive, after_all, opening_counts}
use Rattle.scene_model.proofs.Searching.{search_below}
use Rattle.scene_model.proofs.SceneWaits.{EachPasses}
use Rattle.scene_model.proofs.Sound.{lawful_sound}
use Rattle.scene_model.proofs.Wanted.{wanted_before-le, wanted_before-at_most, wanted-at_most, below_wanted, past_wanted}
use Rattle.music_base.proofs.Counting.{gcd-divides}
use Rattle.scene_model.proofs.Multiples.{block_apart, room_apart, less_value}

-- ---- what an unfinished application waits for

-- what is left of an application: a step, or a block to put
abbrev IsLeft : Scene → Counts → ℕ → Type 0
IsLeft scene s a = (run_by s a < steps scene a) ⊎ ((c : ℕ) × (c < length scene.links) × (sender scene c ≡ a) × (put_on s c < wanted_blocks scene c))

abbrev IsUnfinished : Scene → Counts → ℕ → Type 0
IsUnfinished scene s a = (a < length scene.apps) × IsLeft scene s a

abbrev value_of : Scene → List ℤ → Counts → ℕ → ℤ
value_of scene potentials s a = pos (length scene.apps * run_time scene a (run_by s a)) +ℤ potential potentials a

-- an unfinished application of less value
abbrev SomeLess : Scene → List ℤ → Counts → ℕ → Type 0
SomeLess scene potentials s a = (b : ℕ) × IsUnfinished scene s b × (value_of scene potentials s b <ℤ value_of scene potentials s a)

module _ (scene : Scene) (ok : IsWellFormed scene) where
  divides : (c : ℕ) → IsGcd (tick scene (sender scene c)) (tick scene (receiver scene c)) (common_divisor scene c)
  divides c = gcd-divides (tick scene (sender scene c)) (tick scene (receiver scene c))

  common_divisor-some : (c : ℕ) → c < length scene.links → 0 < common_divisor scene c
  common_divisor-some c link = pos_of_dvd_of_pos (divides c).0 (let t = ok.ticks (sender scene c) (ok.senders c link) in omega arith)

  -- both ticks are multiples
  sends : (c : ℕ) → tick scene (sender scene c) / common_divisor scene c * common_divisor scene c ≡ tick scene (sender scene c)
  sends c = div-mul_cancel (common_divisor scene c) (divides c).0

  receives : (c : ℕ) → tick scene (receiver scene c) / common_divisor scene c * common_divisor scene c ≡ tick scene (receiver scene c)
  receives c = div-mul_cancel (common_divisor scene c) (divides c).1

module _ (scene : Scene) (ok : IsWellFormed scene) (limits : List ℕ) (potentials : List ℤ) (passes : EachPasses scene limits potentials) (s : Counts) (sound : IsSound scene limits s) where
  -- the sender of connection c has put all blocks of its steps, and the receiver lacks the next one
  lacks_block : (c : ℕ) → c < length scene.links → run_by s (receiver scene c) < steps scene (receiver scene c) → put_on s c ≡ run_by s (sender scene c)
      → put_on s c < wanted scene c (run_by s (receiver scene c)) → SomeLess scene potentials s (receiver scene c)
  unfolding block_wait
  lacks_block c link left all lacking = (sender scene c, (ok.senders c link, inr (c, link, refl, omega (arith, wanted-at_most scene c (run_by s (receiver scene c)) left))), less)
    where
      less : value_of scene potentials s (sender scene c) <ℤ value_of scene potentials s (receiver scene c)
      less =
          let wants : (pos (run_time scene (sender scene c) (run_by s (sender scene c))) +ℤ allowance scene c) <ℤ pos (run_time scene (receiver scene c) (suc (run_by s (receiver scene c)))) =
          rw all at (below_wanted scene c (run_by s (receiver scene c)) (put_on s c) lacking) in
          less_value (length scene.apps) (run_time scene (sender scene c) (run_by s (sender scene c))) (run_time scene (receiver scene c) (run_by s (receiver scene c))) _ _ _
          (block_apart (common_divisor scene c) _ _ _ _ (run_by s (sender scene c)) (run_by s (receiver scene c)) (allowance scene c) (common_divisor-some scene ok c link) (sends scene ok c) (receives scene ok c) wants)
          (passes.block c link)

  -- connection c is full, and its receiver does not want the oldest block yet
  lacks_room : (c : ℕ) → c < length scene.links → put_on s c + 1 ≡ run_by s (sender scene c) → put_on s c ≡ taken_from s c + slice_index limits c
      → run_by s (receiver scene c) < steps scene (receiver scene c) → taken_from s c < steps scene (sender scene c) → wanted scene c (run_by s (receiver scene c)) ≤ taken_from s c → SomeLess scene potentials s (sender scene c)
  unfolding room_wait
  lacks_room c link last full left there unwanted = (receiver scene c, (ok.receivers c link, inl left), less)
    where
      runs : taken_from s c + slice_index limits c + 1 ≡ run_by s (sender scene c)
      runs = omega arith

      apart : (pos (run_time scene (receiver scene c) (run_by s (receiver scene c))) +ℤ ((pos ((slice_index limits c + 1) * tick scene (sender scene c) + tick scene (receiver scene c)) -ℤ rounded scene c) -ℤ pos 0)) ≤ℤ pos ((taken_from s c + slice_index limits c + 1) * tick scene (sender scene c))
      apart = room_apart (common_divisor scene c) _ _ _ _ (taken_from s c) (slice_index limits c) (run_by s (receiver scene c)) (allowance scene c) (common_divisor-some scene ok c link) (sends scene ok c) (receives scene ok c) (past_wanted scene c (run_by s (receiver scene c)) (taken_from s c) there unwanted)

      less : value_of scene potentials s (receiver scene c) <ℤ value_of scene potentials s (sender scene c)
      less = less_value (length scene.apps) (run_time scene (receiver scene c) (run_by s (receiver scene c))) (run_time scene (sender scene c) (run_by s (sender scene c))) _ _ _ (rw runs at apart) (passes.room c link)

  -- ---- what is at hand where a block is to be put, or to be taken

  blocked_put : (c : ℕ) → c < length scene.links → put_on s c < run_by s (sender scene c) → put_on s c < wanted_blocks scene c → SomeAllowed scene limits s ⊎ SomeLess scene potentials s (sender scene c)
  blocked_put c link made wants = room (cases_lt (put_on s c) (taken_from s c + slice_index limits c))
    where
      on : IsSoundOn scene c (slice_index limits c) (run_by s (sender scene c)) (run_by s (receiver scene c)) (put_on s c) (taken_from s c)
      on = sound.on c link

      some : 1 ≤ slice_index limits c
      some = passes.some c link

      ran : run_by s (sender scene c) ≤ steps scene (sender scene c)
      ran = sound.at_most (sender scene c) (ok.senders c link)

      -- a receiver whose steps were all run has taken all
      left : taken_from s c < put_on s c → (run_by s (receiver scene c) < steps scene (receiver scene c)) ⊎ (steps scene (receiver scene c) ≤ run_by s (receiver scene c)) → run_by s (receiver scene c) < steps scene (receiver scene c)
      left kept (inl lt) = lt
      left kept (inr ge) = absurd (omega (arith, on.taken_at_least, wanted_before-le scene c (steps scene (receiver scene c)) (run_by s (receiver scene c)) ge))

      oldest : put_on s c ≡ taken_from s c + slice_index limits c → run_by s (receiver scene c) < steps scene (receiver scene c) → (taken_from s c < wanted scene c (run_by s (receiver scene c))) ⊎ (wanted scene c (run_by s (receiver scene c)) ≤ taken_from s c) → SomeAllowed scene limits s ⊎ SomeLess scene potentials s (sender scene c)
      oldest full more (inl lt) = inl (Take c, record { link = link; there = omega arith; step_left = more; is_wanted = lt })
      oldest full more (inr ge) = inr (lacks_room c link (omega (arith, on.put_at_least)) full more (omega arith) ge)

      room : (put_on s c < taken_from s c + slice_index limits c) ⊎ (taken_from s c + slice_index limits c ≤ put_on s c) → SomeAllowed scene limits s ⊎ SomeLess scene potentials s (sender scene c)
      room (inl lt) = inl (Put c, record { link = link; made = made; is_wanted = wants; room = lt })
      room (inr ge) =
          let full : put_on s c ≡ taken_from s c + slice_index limits c = omega (arith, on.kept) in
          let more : run_by s (receiver scene c) < steps scene (receiver scene c) = left (omega arith) (cases_lt (run_by s (receiver scene c)) (steps scene (receiver scene c))) in
          oldest full more (cases_lt (taken_from s c) (wanted scene c (run_by s (receiver scene c))))

  blocked_take : (c : ℕ) → c < length scene.links → run_by s (receiver scene c) < steps scene (receiver scene c) → taken_from s c < wanted scene c (run_by s (receiver scene c)) → SomeAllowed scene limits s ⊎ SomeLess scene potentials s (receiver scene c)
  blocked_take c link left wants = kept (cases_lt (taken_from s c) (put_on s c))
    where
      on : IsSoundOn scene c (slice_index limits c) (run_by s (sender scene c)) (run_by s (receiver scene c)) (put_on s c) (taken_from s c)
      on = sound.on c link

      some : 1 ≤ slice_index limits c
      some = passes.some c link

      most : wanted scene c (run_by s (receiver scene c)) ≤ wanted_blocks scene c
      most = wanted-at_most scene c (run_by s (receiver scene c)) left

      made : put_on s c ≡ taken_from s c → (put_on s c < run_by s (sender scene c)) ⊎ (run_by s (sender scene c) ≤ put_on s c) → SomeAllowed scene limits s ⊎ SomeLess scene potentials s (receiver scene c)
      made empty (inl lt) = inl (Put c, record { link = link; made = lt; is_wanted = omega (arith, most); room = omega (arith, some) })
      made empty (inr ge) = inr (lacks_block c link left (omega (arith, on.put_at_most)) (omega arith))

      kept : (taken_from s c < put_on s c) ⊎ (put_on s c ≤ taken_from s c) → SomeAllowed scene limits s ⊎ SomeLess scene potentials s (receiver scene c)
      kept (inl lt) = inl (Take c, record { link = link; there = lt; step_left = left; is_wanted = wants })
      kept (inr ge) = made (omega (arith, on.taken_were_put)) (cases_lt (put_on s c) (run_by s (sender scene c)))

  -- ---- an unfinished application acts, or waits for one of less value

  acts_or_waits : (a : ℕ) → IsUnfinished scene s a → SomeAllowed scene limits s ⊎ SomeLess scene potentials s a
  acts_or_waits a unfinished = puts (search_below (length scene.links) MustPut HasPut each_put)
    where
      MustPut : ℕ → Type 0
      MustPut c = (sender scene c ≡ a) × (put_on s c < run_by s (sender scene c)) × (put_on s c < wanted_blocks scene c)

      HasPut : ℕ → Type 0
      HasPut c = sender scene c ≡ a → min (run_by s (sender scene c)) (wanted_blocks scene c) ≤ put_on s c

      decide_put : (c : ℕ) → (sender scene c ≡ a) ⊎ (sender scene c ≡ a → ⊥) → (put_on s c < run_by s (sender scene c)) ⊎ (run_by s (sender scene c) ≤ put_on s c) → (put_on s c < wanted_blocks scene c) ⊎ (wanted_blocks scene c ≤ put_on s c) → MustPut c ⊎ HasPut c
      decide_put c (inl e) (inl lt) (inl more) = inl (e, lt, more)
      decide_put c (inl e) (inl lt) (inr ge) = inr (λ _. omega arith)
      decide_put c (inl e) (inr ge) any = inr (λ _. omega arith)
      decide_put c (inr ne) any other = inr (λ e. absurd (ne e))

      each_put : (c : ℕ) → c < length scene.links → MustPut c ⊎ HasPut c
      each_put c link = decide_put c (cases_eq (sender scene c) a) (cases_lt (put_on s c) (run_by s (sender scene c))) (cases_lt (put_on s c) (wanted_blocks scene c))

      MustTake : ℕ → Type 0
      MustTake c = (receiver scene c ≡ a) × (taken_from s c < wanted scene c (run_by s (receiver scene c)))

      HasTaken : ℕ → Type 0
      HasTaken c = receiver scene c ≡ a → wanted scene c (run_by s (receiver scene c)) ≤ taken_from s c

      decide_take : (c : ℕ) → (receiver scene c ≡ a) ⊎ (receiver scene c ≡ a → ⊥) → (taken_from s c < wanted scene c (run_by s (receiver scene c))) ⊎ (wanted scene c (run_by s (receiver scene c)) ≤ taken_from s c) → MustTake c ⊎ HasTaken c
      decide_take c (inl e) (inl lt) = inl (e, lt)
      decide_take c (inl e) (inr ge) = inr (λ _. ge)
      decide_take c (inr ne) any = inr (λ e. absurd (ne e))

      each_taken : (c : ℕ) → c < length scene.links → MustTake c ⊎ HasTaken c
      each_taken c link = decide_take c (cases_eq (receiver scene c) a) (cases_lt (taken_from s c) (wanted scene c (run_by s (receiver scene c))))

      put_all : (c : ℕ) → c < length scene.links → sender scene c ≡ a → min (run_by s (sender scene c)) (wanted_blocks scene c) ≤ put_on s c → put_on s c ≡ min (run_by s a) (wanted_blocks scene c)
      put_all c link from ge = let most : put_on s c ≤ min (run_by s (sender scene c)) (wanted_blocks scene c) = (sound.on c link).put_at_most in rw (← from) (omega arith)

      taken_all : (c : ℕ) → c < length scene.links → receiver scene c ≡ a → run_by s a < steps scene a → wanted scene c (run_by s (receiver scene c)) ≤ taken_from s c → taken_from s c ≡ wanted scene c (run_by s a)
      taken_all c link to left ge =
          let more : run_by s (receiver scene c) < steps scene (receiver scene c) = rw to left in
          let most : taken_from s c ≤ wanted scene c (run_by s (receiver scene c)) = (sound.on c link).taken_for_next more in
          rw (← to) (omega arith)

      takes : ((c : ℕ) → c < length scene.links → HasPut c) → run_by s a < steps scene a → ((c : ℕ) × (c < length scene.links) × MustTake c) ⊎ ((c : ℕ) → c < length scene.links → HasTaken c) → SomeAllowed scene limits s ⊎ SomeLess scene potentials s a
      takes all left (inl found) =
          let more : run_by s (receiver scene found.0) < steps scene (receiver scene found.0) = rw found.2.0 left in
          rw (← found.2.0) (blocked_take found.0 found.1 more found.2.1)
      takes all left (inr each) = inl (Run a, record { app = unfinished.0; step_left = left; all_taken = λ c link to. taken_all c link to left (each c link to); all_put = λ c link from. put_all c link from (all c link from) })

      -- where all steps were run and their blocks put, nothing is left
      none : ((c : ℕ) → c < length scene.links → HasPut c) → steps scene a ≤ run_by s a → IsLeft scene s a → ⊥
      none all over (inl lt) = omega arith
      none all over (inr (c, link, from, lacking)) =
          let past : steps scene (sender scene c) ≤ run_by s (sender scene c) = rw from over in
          omega (arith, all c link from, wanted_before-at_most scene c (steps scene (receiver scene c)))

      runs : ((c : ℕ) → c < length scene.links → HasPut c) → (run_by s a < steps scene a) ⊎ (steps scene a ≤ run_by s a) → SomeAllowed scene limits s ⊎ SomeLess scene potentials s a
      runs all (inl left) = takes all left (search_below (length scene.links) MustTake HasTaken each_taken)
      runs all (inr over) = absurd (none all over unfinished.1)

      puts : ((c : ℕ) × (c < length scene.links) × MustPut c) ⊎ ((c : ℕ) → c < length scene.links → HasPut c) → SomeAllowed scene limits s ⊎ SomeLess scene potentials s a
      puts (inl found) = rw (← found.2.0) (blocked_put found.0 found.1 found.2.1 found.2.2)
      puts (inr all) = runs all (cases_lt (run_by s a) (steps scene a))

  -- values have a lower bound, so the way down ends
  descend : (low : ℕ) → ((a : ℕ) → pos 0 ≤ℤ (potential potentials a +ℤ pos low)) → (n a : ℕ) → IsUnfinished scene s a → (value_of scene potentials s a +ℤ pos low) <ℤ pos n → SomeAllowed scene limits s
  descend low bounded zero a unfinished below = let b = bounded a in absurd (omega (arith, ints))
  descend low bounded (suc n) a unfinished below = go (acts_or_waits a unfinished) (descend low bounded n)
    where
      go : SomeAllowed scene limits s ⊎ SomeLess scene potentials s a → ((b : ℕ) → IsUnfinished scene s b → (value_of scene potentials s b +ℤ pos low) <ℤ pos n → SomeAllowed scene limits s) → SomeAllowed scene limits s
      go (inl act) rest = act
      go (inr (b, left, less)) rest = rest b left (omega (arith, ints))

-- ---- potentials have a lower bound

above : (z : ℤ) (n : ℕ) → pos 0 ≤ℤ (z +ℤ pos (unsigned_abs z + n))
above (pos m) n = omega (arith, ints)
above (negsuc m) n = omega (arith, ints)

lower_at : (p : ℤ) (ps : List ℤ) (n : ℕ) → ((a : ℕ) → pos 0 ≤ℤ (potential ps a +ℤ pos n)) → (a : ℕ) → pos 0 ≤ℤ (potential (p ∷ ps) a +ℤ pos (unsigned_abs p + n))
lower_at p ps n each zero = above p n
lower_at p ps n each (suc a) = let b = each a in omega (arith, ints)

lowest : (ps : List ℤ) → (low : ℕ) × ((a : ℕ) → pos 0 ≤ℤ (potential ps a +ℤ pos low))
lowest [] = (0, λ a. omega (arith, ints))
lowest (p ∷ ps) = (unsigned_abs p + (lowest ps).0, lower_at p ps (lowest ps).0 (lowest ps).1)

magnitude : (z : ℤ) → z <ℤ pos (suc (unsigned_abs z))
magnitude (pos m) = omega (arith, ints)
magnitude (negsuc m) = omega (arith, ints)

-- ---- live

pub enabled : (scene : Scene) → IsWellFormed scene → (limits : List ℕ) (potentials : List ℤ) → EachPasses scene limits potentials → (s : Counts) → IsSound scene limits s → SomeAllowed scene limits s ⊎ AllFinished scene s
enabled scene ok limits potentials passes s sound = go (search_below (length scene.apps) (IsLeft scene s) (IsFinished scene s) each)
  where
    low : (low : ℕ) × ((a : ℕ) → pos 0 ≤ℤ (potential potentials a +ℤ pos low))
    low = lowest potentials

    ToPut : ℕ → ℕ → Type 0
    ToPut a c = (sender scene c ≡ a) × (put_on s c < wanted_blocks scene c)

    NonePut : ℕ → ℕ → Type 0
    NonePut a c = sender scene c ≡ a → wanted_blocks scene c ≤ put_on s c

    decide : (a : ℕ) → a < length scene.apps → (run_by s a < steps scene a) ⊎ (steps scene a ≤ run_by s a) → ((c : ℕ) × (c < length scene.links) × ToPut a c) ⊎ ((c : ℕ) → c < length scene.links → NonePut a c) → IsLeft scene s a ⊎ IsFinished scene s a
    decide a app (inl lt) any = inl (inl lt)
    decide a app (inr ge) (inl (c, link, (from, lacking))) = inl (inr (c, link, from, lacking))
    decide a app (inr ge) (inr all) = inr (record { all_run = let ran = sound.at_most a app in omega arith; all_put = λ c link from. let most = (sound.on c link).put_at_most in omega (arith, all c link from) })

    choose : (a c : ℕ) → (sender scene c ≡ a) ⊎ (sender scene c ≡ a → ⊥) → (put_on s c < wanted_blocks scene c) ⊎ (wanted_blocks scene c ≤ put_on s c) → ToPut a c ⊎ NonePut a c
    choose a c (inl e) (inl lt) = inl (e, lt)
    choose a c (inl e) (inr ge) = inr (λ _. ge)
    choose a c (inr ne) any = inr (λ e. absurd (ne e))

    each : (a : ℕ) → a < length scene.apps → IsLeft scene s a ⊎ IsFinished scene s a
    each a app = decide a app (cases_lt (run_by s a) (steps scene a)) (search_below (length scene.links) (ToPut a) (NonePut a) (λ c link. choose a c (cases_eq (sender scene c) a) (cases_lt (put_on s c) (wanted_blocks scene c))))

    go : ((a : ℕ) × (a < length scene.apps) × IsLeft scene s a) ⊎ ((a : ℕ) → a < length scene.apps → IsFinished scene s a) → SomeAllowed scene limits s ⊎ AllFinished scene s
    go (inl (a, app, left)) = inl (descend scene ok limits potentials passes s sound low.0 low.1 (suc (unsigned_abs (value_of scene potentials s a +ℤ pos low.0))) a (app, left) (magnitude (value_of scene potentials s a +ℤ pos low.0)))
    go (inr all) = inr all

pub live : (scene : Scene) → IsWellFormed scene → (limits : List ℕ) (potentials : List ℤ) → length limits ≡ length scene.links → EachPasses scene limits potentials → IsLive scene limits
live scene ok limits potentials counted passes = record {
  one_each = counted;
  goes_on = λ acts lawful. enabled scene ok limits potentials passes (after_all (opening_counts scene) acts) (lawful_sound scene limits acts lawful.1);
}
