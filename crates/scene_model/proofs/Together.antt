-- What the definitions come to where all applications start at 0 and stop together.
use Rattle.std.specs.Prelude.{if◌then◌else◌}
use Rattle.std.proofs.Common.{◌≡◌, ℕ, zero, suc, ◌+◌, ◌-◌, ◌*◌, ◌<◌, ◌≤◌, Bool, true, false, List, [], ◌∷◌, length, map, refl, ap, arith, ℤ, pos, ◌+ℤ◌, ◌-ℤ◌, Some}
use Rattle.std.specs.List.{AllByRecursion, filter, flat_map, range_with_len}
use Rattle.std.proofs.lemmas.Bool.{le-ltb}
use Rattle.std.proofs.lemmas.Int.{ints}
use Rattle.std.proofs.lemmas.List.Elements.{filter_agree}
use Rattle.music_base.specs.Clocks.{due_step_from}
use Rattle.music_base.specs.Numbers.{count_below, in_order}
use Rattle.music_base.specs.declared.item.Item.{Item}
use Rattle.music_base.specs.declared.item.Item.TheVariants.{Event, Value, Message}
use Rattle.music_base.proofs.Lists.{flat_map-agree_within}
use Rattle.scene_model.specs.Clocks.{allowance, clock, delay, due, latency, run_time, start, steps, tick, wanted, wanted_before, wanted_blocks, wants}
use Rattle.scene_model.specs.Lives.{moment}
use Rattle.scene_model.specs.Scenes.{link_at, links_to, receiver, sender}
use Rattle.scene_model.specs.Tables.{Sent, Table, arrivals, arrives, block_on, coming, sent_cmp, value, value_on, value_over}
use Rattle.scene_model.specs.Together.{RunTogether}
use Rattle.scene_model.specs.Together as together
use Rattle.scene_model.specs.Turns.{clock_of}
use Rattle.scene_model.specs.Waits.{block_wait, room_wait}
use Rattle.scene_model.specs.WellFormed.{IsWellFormed}
use Rattle.scene_model.specs.declared.scene.Scene.{Scene}

-- ---- lists

all_below : (p : ℕ → Bool) (a n m : ℕ) → a + n ≤ m → AllByRecursion (λ c. c < m) (filter p (range_with_len a n))
all_below p a zero m le = tt
all_below p a (suc n) m le = go (p a) (all_below p (a + 1) n m (omega arith))
  where
    go : (b : Bool) → AllByRecursion (λ c. c < m) (filter p (range_with_len (a + 1) n)) → AllByRecursion (λ c. c < m) (if b then a ∷ filter p (range_with_len (a + 1) n) else filter p (range_with_len (a + 1) n))
    go true rest = (omega arith, rest)
    go false rest = rest

flat_map-agree_all : {X : Type 0} (P : ℕ → Type 0) (f g : ℕ → List X) (cs : List ℕ) → ((c : ℕ) → P c → f c ≡ g c) → AllByRecursion P cs → flat_map f cs ≡ flat_map g cs
flat_map-agree_all P f g [] same all = refl
flat_map-agree_all P f g (c ∷ cs) same all = rw (same c all.0, flat_map-agree_all P f g cs same all.1) refl

count_below-agree : (n : ℕ) (p q : ℕ → Bool) → ((k : ℕ) → p k ≡ q k) → count_below n p ≡ count_below n q
count_below-agree zero p q same = refl
count_below-agree (suc n) p q same = rw (same n, count_below-agree n p q same) refl

no_difference : (z : ℤ) → (pos 0 -ℤ pos 0) +ℤ z ≡ z
no_difference z = omega (arith, ints)

module _ (scene : Scene) (ok : IsWellFormed scene) (is : RunTogether scene) where
  -- ---- clocks

  pub start-is : (a : ℕ) → a < length scene.apps → start scene a ≡ 0
  unfolding start
  start-is a app = is.starts a app

  pub steps-is : (a : ℕ) → a < length scene.apps → steps scene a ≡ together.steps scene a
  unfolding steps together.steps
  steps-is a app = let whole : scene.stop - 0 ≡ scene.stop = omega arith in rw (is.starts a app, is.stops a app, whole) refl

  pub clock-is : (a s : ℕ) → a < length scene.apps → clock scene a s ≡ run_time scene a s
  clock-is a s app = rw (start-is a app) (omega arith)

  pub moment-is : (table : Table) (a k : ℕ) → a < length scene.apps → clock_of (moment scene table a k) ≡ k * tick scene a
  moment-is table a k app = clock-is a k app

  pub due-is : (c time : ℕ) → c < length scene.links → due scene c time ≡ Some (together.due scene c time)
  unfolding due due_step_from together.due
  due-is c time link =
      let whole : time + latency scene c - 0 ≡ time + latency scene c = omega arith in
      rw (start-is (receiver scene c) (ok.receivers c link), le-ltb (time + latency scene c) 0 (omega arith), whole) refl

  pub allowance-is : (c : ℕ) → c < length scene.links → allowance scene c ≡ together.allowance scene c
  unfolding allowance together.allowance
  allowance-is c link =
      rw (start-is (sender scene c) (ok.senders c link), start-is (receiver scene c) (ok.receivers c link)) (no_difference _)

  -- ---- wanted blocks

  pub wanted-is : (c j : ℕ) → c < length scene.links → wanted scene c j ≡ together.wanted scene c j
  unfolding wanted together.wanted
  wanted-is c j link =
      rw (steps-is (sender scene c) (ok.senders c link))
      (count_below-agree (together.steps scene (sender scene c)) (wants scene c j) (together.wants scene c j) (λ k. rw (allowance-is c link) refl))

  wanted_before-is : (c j : ℕ) → c < length scene.links → wanted_before scene c j ≡ together.wanted_before scene c j
  wanted_before-is c zero link = refl
  wanted_before-is c (suc j) link = wanted-is c j link

  pub wanted_blocks-is : (c : ℕ) → c < length scene.links → wanted_blocks scene c ≡ together.wanted_blocks scene c
  wanted_blocks-is c link = rw (steps-is (receiver scene c) (ok.receivers c link)) (wanted_before-is c (together.steps scene (receiver scene c)) link)

  -- ---- what a step reads

  arrives-is : (c j : ℕ) → c < length scene.links → (item : Item) → arrives scene c j item ≡ together.arrives scene c j item
  arrives-is c j link (Event e) = rw (due-is c e.time link) refl
  arrives-is c j link (Message m) = rw (due-is c m.time link) refl
  arrives-is c j link (Value global value) = refl

  coming-is : (table : Table) (j c : ℕ) → c < length scene.links → coming scene table j c ≡ together.coming scene table j c
  coming-is table j c link =
      let sent : Item → Sent = λ item. record { item = item; app = sender scene c; port = (link_at scene c).from_port } in
      let same = flat_map-agree_within (λ k. map sent (filter (arrives scene c j) (block_on scene table c k))) (λ k. map sent (filter (together.arrives scene c j) (block_on scene table c k))) 0 (together.steps scene (sender scene c))
      (λ k low high. ap (map sent) (filter_agree (arrives scene c j) (together.arrives scene c j) (arrives-is c j link) (block_on scene table c k))) in
      rw (steps-is (sender scene c) (ok.senders c link)) same

  links_below : (b p : ℕ) → AllByRecursion (λ c. c < length scene.links) (links_to scene b p)
  links_below b p = all_below _ 0 (length scene.links) (length scene.links) (omega arith)

  pub arrivals-is : (table : Table) (b p j : ℕ) → arrivals scene table b p j ≡ together.arrivals scene table b p j
  unfolding arrivals together.arrivals
  arrivals-is table b p j =
      ap (λ (sent : List Sent). map (λ (s : Sent). s.item) (in_order sent_cmp sent))
      (flat_map-agree_all (λ c. c < length scene.links) (coming scene table j) (together.coming scene table j) (links_to scene b p) (λ c link. coming-is table j c link) (links_below b p))

  value_on-is : (table : Table) (j g c : ℕ) → c < length scene.links → value_on scene table j g c ≡ together.value_on scene table j g c
  value_on-is table j g c link =
      let sent : 0 + delay scene c ≡ delay scene c = omega arith in
      rw (clock-is (receiver scene c) j (ok.receivers c link), start-is (sender scene c) (ok.senders c link), sent) refl

  value_over-is : (table : Table) (j g : ℕ) (cs : List ℕ) → AllByRecursion (λ c. c < length scene.links) cs → value_over scene table j g cs ≡ together.value_over scene table j g cs
  value_over-is table j g [] all = refl
  value_over-is table j g (c ∷ cs) all = value_on-is table j g c all.0

  pub value-is : (table : Table) (b p j g : ℕ) → value scene table b p j g ≡ together.value scene table b p j g
  unfolding value together.value
  value-is table b p j g = value_over-is table j g (links_to scene b p) (links_below b p)

  -- ---- waits

  pub block_wait-is : (c : ℕ) → c < length scene.links → block_wait scene c ≡ together.block_wait scene c
  unfolding block_wait together.block_wait
  block_wait-is c link = rw (allowance-is c link) refl

  pub room_wait-is : (c m : ℕ) → c < length scene.links → room_wait scene c m ≡ together.room_wait scene c m
  unfolding room_wait together.room_wait
  room_wait-is c m link = rw (allowance-is c link) refl
