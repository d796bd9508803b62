-- What stands in a ledger, and when an act is allowed by it.
use Rattle.std.proofs.Common.{ℕ, suc, ◌+◌, ◌<◌, ◌≤◌, ◌≡◌, ◌⊎◌, inl, inr, refl, sym, ◌∙◌, ap, subst, arith, min, Bool, true, false, List, [], length, map}
use Rattle.std.specs.Prelude.{slice_index, slice_index_or, ◌↔◌, IsTrue, nat_lt}
use Rattle.std.proofs.lemmas.Bool.{lt-ltb, ltb-true}
use Rattle.std.proofs.lemmas.List.FromFn.{get_or-map-range_with_len, length-map-range_with_len}
use Rattle.music_base.specs.Numbers.{below}
use Rattle.scene_model.specs.Clocks.{steps, wanted, wanted_blocks}
use Rattle.scene_model.specs.Orders.{CanPut, CanRun, CanTake, EachFrom, EachTo, put_on, run_by, taken_from}
use Rattle.scene_model.specs.Scenes.{receiver, sender}
use Rattle.scene_model.specs.declared.scene.Scene.{Scene}
use Rattle.scene_model.proofs.Faultless.{connection_is, steps_are}
use Rattle.act_orders.specs.declared.ledger.Ledger.{Ledger}
use Rattle.act_orders.specs.Ledgers.{IsLedger, counts_in}
use Rattle.act_orders.specs.OwnLinks.{into_of, out_of}
use Rattle.act_orders.proofs.Lists.{by_place, into_listed, out_listed}

zero_more : (n : ℕ) → 0 + n ≡ n
zero_more n = omega arith

module _ (scene : Scene) (x : Ledger) (is : IsLedger scene x) where
  -- ---- lengths

  pub last_count : length x.lasts.items ≡ length scene.apps
  last_count = ap (λ (xs : List ℕ). length xs) is.lasts_are ∙ length-map-range_with_len (steps scene) 0 (length scene.apps)

  pub most_count : length x.most.items ≡ length scene.links
  most_count = ap (λ (xs : List ℕ). length xs) is.most_are ∙ length-map-range_with_len (wanted_blocks scene) 0 (length scene.links)

  pub into_count : length x.into.items ≡ length scene.apps
  into_count = ap (λ (xs : List (List ℕ)). length xs) is.into_are ∙ length-map-range_with_len (into_of scene) 0 (length scene.apps)

  pub out_count : length x.out.items ≡ length scene.apps
  out_count = ap (λ (xs : List (List ℕ)). length xs) is.out_are ∙ length-map-range_with_len (out_of scene) 0 (length scene.apps)

  -- ---- by place

  pub each_last : (a : ℕ) → a < length scene.apps → slice_index x.lasts.items a ≡ steps scene a
  each_last a small = ap (λ (xs : List ℕ). slice_index xs a) is.lasts_are ∙ get_or-map-range_with_len (steps scene) 0 (length scene.apps) a a 0 small (zero_more a)

  pub each_most : (c : ℕ) → c < length scene.links → slice_index x.most.items c ≡ wanted_blocks scene c
  each_most c small = ap (λ (xs : List ℕ). slice_index xs c) is.most_are ∙ get_or-map-range_with_len (wanted_blocks scene) 0 (length scene.links) c c 0 small (zero_more c)

  pub into_at : (a : ℕ) → a < length scene.apps → (d : List ℕ) → slice_index_or x.into.items a d ≡ into_of scene a
  into_at a small d = ap (λ (xs : List (List ℕ)). slice_index_or xs a d) is.into_are ∙ get_or-map-range_with_len (into_of scene) 0 (length scene.apps) a a d small (zero_more a)

  pub out_at : (a : ℕ) → a < length scene.apps → (d : List ℕ) → slice_index_or x.out.items a d ≡ out_of scene a
  out_at a small d = ap (λ (xs : List (List ℕ)). slice_index_or xs a d) is.out_are ∙ get_or-map-range_with_len (out_of scene) 0 (length scene.apps) a a d small (zero_more a)

  pub into_read : (a : ℕ) → a < length scene.apps → (i : ℕ) (d : List ℕ) → i ≡ a → d ≡ slice_index_or x.into.items i d → d ≡ into_of scene a
  into_read a small i d e is_d = is_d ∙ ap (λ n. slice_index_or x.into.items n d) e ∙ into_at a small d

  pub out_read : (a : ℕ) → a < length scene.apps → (i : ℕ) (d : List ℕ) → i ≡ a → d ≡ slice_index_or x.out.items i d → d ≡ out_of scene a
  out_read a small i d e is_d = is_d ∙ ap (λ n. slice_index_or x.out.items n d) e ∙ out_at a small d

  -- ---- ends

  pub to_app : (c : ℕ) → c < length scene.links → receiver scene c < length scene.apps
  to_app c link = (connection_is scene is.faultless c link).to_app

  pub from_app : (c : ℕ) → c < length scene.links → sender scene c < length scene.apps
  from_app c link = (connection_is scene is.faultless c link).from_app

  pub few_run : (a : ℕ) → a < length scene.apps → slice_index x.run.items a ≤ 1_000_000
  few_run a small = let most = steps_are scene is.faultless a small in let ran = is.sound.at_most a small in omega (arith, most, ran)

  pub few_next : (a : ℕ) → a < length scene.apps → slice_index x.run.items a < steps scene a → slice_index x.run.items a + 1 ≤ 1_000_000
  few_next a small less = let most = steps_are scene is.faultless a small in omega (arith, most, less)

  pub few_put : (c : ℕ) → c < length scene.links → slice_index x.put.items c ≤ 1_000_000
  few_put c link = let most = few_run (sender scene c) (from_app c link) in let put = (is.sound.on c link).put_at_most in omega (arith, most, put)

  pub few_taken : (c : ℕ) → c < length scene.links → slice_index x.taken.items c ≤ 1_000_000
  few_taken c link = let most = few_put c link in let taken = (is.sound.on c link).taken_were_put in omega (arith, most, taken)

  pub taken_of_put : (c : ℕ) → c < length scene.links → slice_index x.taken.items c ≤ slice_index x.put.items c
  taken_of_put c link = (is.sound.on c link).taken_were_put

  -- ---- when an act is allowed

  pub takes-iff : (c : ℕ) → c < length scene.links → (taken put need ran last : ℕ)
      → taken ≡ slice_index x.taken.items c → put ≡ slice_index x.put.items c → need ≡ slice_index x.needs.items c → ran ≡ slice_index x.run.items (receiver scene c) → last ≡ slice_index x.lasts.items (receiver scene c)
      → (b : Bool) → (IsTrue b ↔ ((taken < put) × (ran < last) × (taken < need))) → (IsTrue b ↔ CanTake scene (counts_in x) c)
  takes-iff c link taken put need ran last is_taken is_put is_need is_ran is_last b iff = (
    λ t. let h = iff.0 t in record { link = link; there = omega (arith, h.0, is_taken, is_put); step_left = omega (arith, h.1, all_steps, is_ran, is_last); is_wanted = omega (arith, h.2, needs, is_taken, is_need) },
    λ (can : CanTake scene (counts_in x) c). iff.1 (omega (arith, can.there, is_taken, is_put), omega (arith, can.step_left, all_steps, is_ran, is_last), omega (arith, can.is_wanted, needs, is_taken, is_need)),
  )
    where
      all_steps : slice_index x.lasts.items (receiver scene c) ≡ steps scene (receiver scene c)
      all_steps = each_last (receiver scene c) (to_app c link)

      needs : slice_index x.needs.items c ≡ wanted scene c (slice_index x.run.items (receiver scene c))
      needs = is.each_need c link

  pub puts-iff : (c : ℕ) → c < length scene.links → (put taken most limit ran : ℕ)
      → put ≡ slice_index x.put.items c → taken ≡ slice_index x.taken.items c → most ≡ slice_index x.most.items c → limit ≡ slice_index x.limits.items c → ran ≡ slice_index x.run.items (sender scene c)
      → (b : Bool) → (IsTrue b ↔ ((put < ran) × (put < most) × (put < taken + limit))) → (IsTrue b ↔ CanPut scene x.limits.items (counts_in x) c)
  puts-iff c link put taken most limit ran is_put is_taken is_most is_limit is_ran b iff = (
    λ t. let h = iff.0 t in record { link = link; made = omega (arith, h.0, is_put, is_ran); is_wanted = omega (arith, h.1, all, is_put, is_most); room = omega (arith, h.2, is_put, is_taken, is_limit) },
    λ (can : CanPut scene x.limits.items (counts_in x) c). iff.1 (omega (arith, can.made, is_put, is_ran), omega (arith, can.is_wanted, all, is_put, is_most), omega (arith, can.room, is_put, is_taken, is_limit)),
  )
    where
      all : slice_index x.most.items c ≡ wanted_blocks scene c
      all = each_most c link

  pub step-iff : (a : ℕ) → a < length scene.apps → (ran last : ℕ) → ran ≡ slice_index x.run.items a → last ≡ slice_index x.lasts.items a → (IsTrue (nat_lt ran last) ↔ (slice_index x.run.items a < steps scene a))
  step-iff a app ran last is_ran is_last = (
    λ t. let h = ltb-true ran last t in omega (arith, h, all, is_ran, is_last),
    λ less. lt-ltb ran last (omega (arith, less, all, is_ran, is_last)),
  )
    where
      all : slice_index x.lasts.items a ≡ steps scene a
      all = each_last a app

  -- ---- an application's own connections

  module _ (a : ℕ) (app : a < length scene.apps) where
    pub into-iff : (into : List ℕ) → into ≡ into_of scene a → (P : ℕ → Type 0) → ((i : ℕ) → i < length into → P (slice_index into i)) ↔ EachTo scene a P
    into-iff into are P = by_place (receiver scene) a (length scene.links) into (into_listed scene a into are) P

    pub out-iff : (out : List ℕ) → out ≡ out_of scene a → (P : ℕ → Type 0) → ((i : ℕ) → i < length out → P (slice_index out i)) ↔ EachFrom scene a P
    out-iff out are P = by_place (sender scene) a (length scene.links) out (out_listed scene a out are) P

    pub into_small : (into : List ℕ) → into ≡ into_of scene a → (i : ℕ) → i < length into → slice_index into i < length scene.links
    into_small into are = (into-iff into are (λ c. c < length scene.links)).1 (λ c link to. link)

    pub out_small : (out : List ℕ) → out ≡ out_of scene a → (i : ℕ) → i < length out → slice_index out i < length scene.links
    out_small out are = (out-iff out are (λ c. c < length scene.links)).1 (λ c link from. link)

    pub taken-iff : (into : List ℕ) → into ≡ into_of scene a → (b : Bool) → (IsTrue b ↔ ((i : ℕ) → i < length into → slice_index x.taken.items (slice_index into i) ≡ slice_index x.needs.items (slice_index into i)))
        → (IsTrue b ↔ EachTo scene a (λ c. slice_index x.taken.items c ≡ wanted scene c (slice_index x.run.items a)))
    taken-iff into are b iff = (
      λ t c link to. all.0 (iff.0 t) c link to ∙ need c link to,
      λ each. iff.1 (all.1 (λ c link to. each c link to ∙ sym (need c link to))),
    )
      where
        need : (c : ℕ) → c < length scene.links → receiver scene c ≡ a → slice_index x.needs.items c ≡ wanted scene c (slice_index x.run.items a)
        need c link to = is.each_need c link ∙ ap (λ d. wanted scene c (slice_index x.run.items d)) to

        all : ((i : ℕ) → i < length into → slice_index x.taken.items (slice_index into i) ≡ slice_index x.needs.items (slice_index into i)) ↔ EachTo scene a (λ c. slice_index x.taken.items c ≡ slice_index x.needs.items c)
        all = into-iff into are (λ c. slice_index x.taken.items c ≡ slice_index x.needs.items c)

    pub put-iff : (out : List ℕ) → out ≡ out_of scene a → (ran : ℕ) → ran ≡ slice_index x.run.items a → (b : Bool) → (IsTrue b ↔ ((i : ℕ) → i < length out → slice_index x.put.items (slice_index out i) ≡ min ran (slice_index x.most.items (slice_index out i))))
        → (IsTrue b ↔ EachFrom scene a (λ c. slice_index x.put.items c ≡ min (slice_index x.run.items a) (wanted_blocks scene c)))
    put-iff out are ran is_ran b iff = (
      λ t c link from. all.0 (iff.0 t) c link from ∙ most c link,
      λ each. iff.1 (all.1 (λ c link from. each c link from ∙ sym (most c link))),
    )
      where
        most : (c : ℕ) → c < length scene.links → min ran (slice_index x.most.items c) ≡ min (slice_index x.run.items a) (wanted_blocks scene c)
        most c link = ap (λ n. min n (slice_index x.most.items c)) is_ran ∙ ap (min (slice_index x.run.items a)) (each_most c link)

        all : ((i : ℕ) → i < length out → slice_index x.put.items (slice_index out i) ≡ min ran (slice_index x.most.items (slice_index out i))) ↔ EachFrom scene a (λ c. slice_index x.put.items c ≡ min ran (slice_index x.most.items c))
        all = out-iff out are (λ c. slice_index x.put.items c ≡ min ran (slice_index x.most.items c))
