-- The opening counts are sound, and each allowed act keeps counts sound.
use Rattle.std.proofs.Common.{◌≡◌, ℕ, zero, suc, ◌+◌, ◌<◌, ◌≤◌, min, refl, sym, ◌∙◌, ap, subst, ◌⊎◌, inl, inr, arith, List, [], ◌∷◌, length, replicate, get_or-set_same, get_or-set_other}
use Rattle.std.specs.Prelude.{slice_index}
use Rattle.std.proofs.Math.ListN.{length-set}
use Rattle.std.proofs.lemmas.Bool.{cases_eq}
use Rattle.std.proofs.lemmas.List.{length-replicate}
use Rattle.scene_model.specs.declared.scene.Scene.{Scene}
use Rattle.scene_model.specs.declared.act.Act.{Act}
use Rattle.scene_model.specs.declared.act.Act.TheVariants.{Take, Run, Put}
use Rattle.scene_model.specs.Scenes.{sender, receiver}
use Rattle.scene_model.specs.Clocks.{steps, wanted, wanted_before, wanted_blocks}
use Rattle.scene_model.specs.Orders.{Counts, run_by, put_on, taken_from, one_more, after, after_all, opening_counts, CanTake, CanRun, CanPut, IsAllowed, IsLawfulFrom, IsSoundOn, IsSound}
use Rattle.scene_model.proofs.Wanted.{wanted_before-le, wanted-at_most}

-- ---- one more at a place

pub one_more-same : (xs : List ℕ) (i : ℕ) → i < length xs → slice_index (one_more xs i) i ≡ slice_index xs i + 1
one_more-same xs i lt = rw get_or-set_same refl

pub one_more-other : (xs : List ℕ) (i j : ℕ) → (j ≡ i → ⊥) → slice_index (one_more xs i) j ≡ slice_index xs j
one_more-other xs i j ne = rw get_or-set_other refl

-- ---- one connection

module _ (scene : Scene) (c limit sent received put taken : ℕ) (sound : IsSoundOn scene c limit sent received put taken) where
  take_keeps : taken < put → received < steps scene (receiver scene c) → taken < wanted scene c received → IsSoundOn scene c limit sent received put (taken + 1)
  take_keeps there left wants = record {
    taken_were_put = omega arith;
    kept = omega arith;
    put_at_most = sound.put_at_most;
    put_at_least = sound.put_at_least;
    taken_for_next = λ _. omega arith;
    taken_at_most = omega (arith, wanted-at_most scene c received left);
    taken_at_least = omega arith;
  }

  put_keeps : put < sent → put < wanted_blocks scene c → put < taken + limit → IsSoundOn scene c limit sent received (put + 1) taken
  put_keeps made wants room = record {
    taken_were_put = omega arith;
    kept = omega arith;
    put_at_most = omega arith;
    put_at_least = omega arith;
    taken_for_next = sound.taken_for_next;
    taken_at_most = sound.taken_at_most;
    taken_at_least = sound.taken_at_least;
  }

  send_keeps : put ≡ min sent (wanted_blocks scene c) → IsSoundOn scene c limit (sent + 1) received put taken
  send_keeps all = record {
    taken_were_put = sound.taken_were_put;
    kept = sound.kept;
    put_at_most = omega arith;
    put_at_least = omega arith;
    taken_for_next = sound.taken_for_next;
    taken_at_most = sound.taken_at_most;
    taken_at_least = sound.taken_at_least;
  }

  receive_keeps : received < steps scene (receiver scene c) → taken ≡ wanted scene c received → IsSoundOn scene c limit sent (received + 1) put taken
  receive_keeps left all = record {
    taken_were_put = sound.taken_were_put;
    kept = sound.kept;
    put_at_most = sound.put_at_most;
    put_at_least = sound.put_at_least;
    taken_for_next = λ _. let more : wanted scene c received ≤ wanted scene c (received + 1) = wanted_before-le scene c (suc received) (suc (received + 1)) (omega arith) in omega arith;
    taken_at_most = sound.taken_at_most;
    taken_at_least = let next : received + 1 ≡ suc received = omega arith in let all_of : wanted_before scene c (suc received) ≤ taken = omega arith in rw next all_of;
  }

-- ---- all connections

-- what soundness says of a connection
abbrev On : Scene → List ℕ → Counts → ℕ → Type 0
On scene limits s c = IsSoundOn scene c (slice_index limits c) (run_by s (sender scene c)) (run_by s (receiver scene c)) (put_on s c) (taken_from s c)

module _ (scene : Scene) (limits : List ℕ) (s : Counts) (sound : IsSound scene limits s) where
  after_take : (c : ℕ) → CanTake scene s c → IsSound scene limits (after s (Take c))
  after_take c can = record {
    runs = sound.runs;
    puts = sound.puts;
    takes = length-set s.taken c _ ∙ sound.takes;
    at_most = sound.at_most;
    on = λ d small. go d small (cases_eq d c);
  }
    where
      here : On scene limits (after s (Take c)) c
      here = let there : c < length s.taken = omega (arith, can.link, sound.takes) in rw one_more-same (take_keeps scene c _ _ _ _ _ (sound.on c can.link) can.there can.step_left can.is_wanted)

      go : (d : ℕ) → d < length scene.links → (d ≡ c) ⊎ (d ≡ c → ⊥) → On scene limits (after s (Take c)) d
      go d small (inl e) = subst (On scene limits (after s (Take c))) (sym e) here
      go d small (inr ne) = rw one_more-other (sound.on d small)

  after_put : (c : ℕ) → CanPut scene limits s c → IsSound scene limits (after s (Put c))
  after_put c can = record {
    runs = sound.runs;
    puts = length-set s.put c _ ∙ sound.puts;
    takes = sound.takes;
    at_most = sound.at_most;
    on = λ d small. go d small (cases_eq d c);
  }
    where
      here : On scene limits (after s (Put c)) c
      here = let there : c < length s.put = omega (arith, can.link, sound.puts) in rw one_more-same (put_keeps scene c _ _ _ _ _ (sound.on c can.link) can.made can.is_wanted can.room)

      go : (d : ℕ) → d < length scene.links → (d ≡ c) ⊎ (d ≡ c → ⊥) → On scene limits (after s (Put c)) d
      go d small (inl e) = subst (On scene limits (after s (Put c))) (sym e) here
      go d small (inr ne) = rw one_more-other (sound.on d small)

  after_run : (a : ℕ) → CanRun scene s a → IsSound scene limits (after s (Run a))
  after_run a can = record {
    runs = length-set s.run a _ ∙ sound.runs;
    puts = sound.puts;
    takes = sound.takes;
    at_most = λ b small. bound b small (cases_eq b a);
    on = λ d small. received d small (cases_eq (receiver scene d) a) (sent d small (cases_eq (sender scene d) a));
  }
    where
      there : a < length s.run
      there = omega (arith, can.app, sound.runs)

      bound : (b : ℕ) → b < length scene.apps → (b ≡ a) ⊎ (b ≡ a → ⊥) → run_by (after s (Run a)) b ≤ steps scene b
      bound b small (inl e) = subst (λ x. run_by (after s (Run a)) x ≤ steps scene x) (sym e) (let t : a < length s.run = there in rw one_more-same (omega (arith, can.step_left)))
      bound b small (inr ne) = rw one_more-other (sound.at_most b small)

      -- the sender's new count, and still the receiver's old one
      Half : ℕ → Type 0
      Half d = IsSoundOn scene d (slice_index limits d) (run_by (after s (Run a)) (sender scene d)) (run_by s (receiver scene d)) (put_on s d) (taken_from s d)

      sent : (d : ℕ) → d < length scene.links → (sender scene d ≡ a) ⊎ (sender scene d ≡ a → ⊥) → Half d
      sent d small (inl e) =
          let old : IsSoundOn scene d (slice_index limits d) (run_by s a) (run_by s (receiver scene d)) (put_on s d) (taken_from s d) = rw e at (sound.on d small) in
          let t : a < length s.run = there in
          rw (e, one_more-same s.run a) (send_keeps scene d _ _ _ _ _ old (can.all_put d small e))
      sent d small (inr ne) = rw (one_more-other s.run a (sender scene d) ne) (sound.on d small)

      received : (d : ℕ) → d < length scene.links → (receiver scene d ≡ a) ⊎ (receiver scene d ≡ a → ⊥) → Half d → On scene limits (after s (Run a)) d
      received d small (inl e) half =
          let old : IsSoundOn scene d (slice_index limits d) (run_by (after s (Run a)) (sender scene d)) (run_by s a) (put_on s d) (taken_from s d) = rw e at half in
          let left : run_by s a < steps scene (receiver scene d) = rw e can.step_left in
          let F : ℕ → Type 0 = λ n. IsSoundOn scene d (slice_index limits d) (run_by (after s (Run a)) (sender scene d)) n (put_on s d) (taken_from s d) in
          subst F (sym (one_more-same s.run a there) ∙ ap (λ x. slice_index (one_more s.run a) x) (sym e)) (receive_keeps scene d _ _ _ _ _ old left (can.all_taken d small e))
      received d small (inr ne) half = rw (one_more-other s.run a (receiver scene d) ne) half

-- each allowed act keeps counts sound
pub after_act : (scene : Scene) (limits : List ℕ) (s : Counts) → IsSound scene limits s → (act : Act) → IsAllowed scene limits s act → IsSound scene limits (after s act)
after_act scene limits s sound (Take c) can = after_take scene limits s sound c can
after_act scene limits s sound (Run a) can = after_run scene limits s sound a can
after_act scene limits s sound (Put c) can = after_put scene limits s sound c can

pub after_acts : (scene : Scene) (limits : List ℕ) (acts : List Act) (s : Counts) → IsSound scene limits s → IsLawfulFrom scene limits s acts → IsSound scene limits (after_all s acts)
after_acts scene limits [] s sound lawful = sound
after_acts scene limits (act ∷ acts) s sound lawful = after_acts scene limits acts (after s act) (after_act scene limits s sound act lawful.0) lawful.1

-- ---- the opening counts

-- zeros are zero, also past their end
pub zero_at : (n i : ℕ) → slice_index (replicate n 0) i ≡ 0
zero_at zero i = refl
zero_at (suc n) zero = refl
zero_at (suc n) (suc i) = zero_at n i

pub opening_sound : (scene : Scene) (limits : List ℕ) → IsSound scene limits (opening_counts scene)
opening_sound scene limits = record {
  runs = length-replicate (length scene.apps) 0;
  puts = length-replicate (length scene.links) 0;
  takes = length-replicate (length scene.links) 0;
  at_most = λ a small. rw zero_at (omega arith);
  on = λ c small. simp zero_at (record {
    taken_were_put = omega arith;
    kept = omega arith;
    put_at_most = omega arith;
    put_at_least = omega arith;
    taken_for_next = λ _. omega arith;
    taken_at_most = omega arith;
    taken_at_least = omega arith;
  });
}

-- what any lawful order leads to is sound
pub lawful_sound : (scene : Scene) (limits : List ℕ) (acts : List Act) → IsLawfulFrom scene limits (opening_counts scene) acts → IsSound scene limits (after_all (opening_counts scene) acts)
lawful_sound scene limits acts lawful = after_acts scene limits acts (opening_counts scene) (opening_sound scene limits) lawful
