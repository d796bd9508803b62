-- The last two samples: what is kept after an admission, and what is read of them.
use Rattle.std.proofs.Common.{ℕ, zero, suc, ◌+◌, ◌-◌, ◌*◌, ◌/◌, ◌%◌, ◌<◌, ◌≤◌, ◌≡◌, ◌⊎◌, inl, inr, refl, sym, ◌∙◌, ap, subst, arith, List, [], ◌∷◌, ◌++◌, min, Bool, true, false, cond, map, length, ◌+ℤ◌}
use Rattle.std.specs.Prelude.{nat_lt, ◌==◌, pos, slice_index_or}
use Rattle.std.specs.List.{AllByRecursion, range_with_len}
use Rattle.std.proofs.lemmas.Bool.{cases_lt, cases_eq, ne_eqb, eq-eqb, ltb-false}
use Rattle.std.proofs.lemmas.List.{get_or_past}
use Rattle.std.proofs.Math.Nat.{lt-div-mul-add, mul-le-mul_right}
use Rattle.music_base.specs.declared.item.Block.{Block}
use Rattle.music_base.specs.declared.item.Item.{Item}
use Rattle.scene_model.specs.Clocks.{allowance, tick, steps, wants, wanted, clock, first_at, run_time}
use Rattle.scene_model.specs.Scenes.{sender, receiver, link_at, input_of}
use Rattle.scene_model.specs.Tables.{StepOutput, block_on, Table, sample, reading, value, value_on, value_over, value_in}
use Rattle.scene_model.specs.WellFormed.{IsWellFormed}
use Rattle.scene_model.specs.declared.port.PortDecl.{PortDecl}
use Rattle.scene_model.specs.declared.port.PortKind.TheVariants.{Values}
use Rattle.scene_model.specs.declared.scene.Scene.{Scene}
use Rattle.scene_model.proofs.Feeds.{IsHeld, IsInterpolated, IsLinkTo, between_test, between_wants, held_test, held_wants, input_is, links_lead, next_wants, reading_same, values_allowance}
use Rattle.scene_model.proofs.ProperTables.{proper_short}
use Rattle.scene_model.proofs.Wanted.{below_wanted, test_from_lt, tick_some, wanted_all, wanted_below}
use Rattle.scene_model.proofs.WellFormedScenes.{well_formed}
use Rattle.port_inbox.specs.Due.{items_numbered}
use Rattle.port_inbox.specs.Samples.{HoldsSamples, IsSampled, Samples, last_one, last_two, read, sample_at, with_sample}

-- ---- what the last two samples are read as

abbrev pub numbered_by : (ℕ → List Item) → ℕ → Block
numbered_by f k = record { number = k; items = f k }

kept_at : (f : ℕ → List Item) (n i : ℕ) → n ≤ i + 2 → i < n → items_numbered (map (numbered_by f) (last_two n)) i ≡ f i
kept_at f zero i le l = absurd (omega (arith, l))
kept_at f (suc zero) i le l = let e : i ≡ 0 = omega (arith, l) in rw e refl
kept_at f (suc (suc m)) i le l =
    let from : suc (suc m) - 2 ≡ m = omega arith in
    let two : min 2 (suc (suc m)) ≡ 2 = omega arith in
    rw (from, two) (go (cases_eq m i))
  where
    go : (m ≡ i) ⊎ (m ≡ i → ⊥) → items_numbered (map (numbered_by f) (range_with_len m 2)) i ≡ f i
    go (inl e) = let t : (m == i) ≡ true = eq-eqb m i e in rw t (ap f e)
    go (inr ne) =
        let t : (m == i) ≡ false = ne_eqb m i ne in
        let e : m + 1 ≡ i = omega (arith, ne, le, l) in
        let u : (m + 1 == i) ≡ true = eq-eqb (m + 1) i e in
        rw (t, u) (ap f e)

module _ (scene : Scene) (b p c : ℕ) (s : Samples) (table : Table) (j : ℕ) (fed : IsSampled scene b p c s table j) where
  at : IsLinkTo scene b p c
  at = (subst (AllByRecursion (IsLinkTo scene b p)) fed.made.only (links_lead scene b p)).0

  kind : (input_of scene c).kind ≡ Values
  kind = ap (λ (q : PortDecl). q.kind) (input_is scene b p c at) ∙ fed.carries

  fine : IsWellFormed scene
  fine = well_formed scene fed.faultless

  abbrev now : ℕ
  now = clock scene (receiver scene c) j

  abbrev first : ℕ
  first = first_at scene c

  held : (input_of scene c).interpolate ≡ false → IsHeld scene c
  held e = values_allowance scene c false kind e

  between : (input_of scene c).interpolate ≡ true → IsInterpolated scene c
  between e = values_allowance scene c true kind e

  -- a wanted sample, or the last before it, is among those that are kept
  matches : (g i : ℕ) → wants scene c j i ≡ true → wanted scene c j ≤ i + 2 → sample_at s g i ≡ sample scene table c g i
  unfolding sample_at
  matches g i want le = ap (λ (xs : List Item). value_in xs g) (go (cases_lt i (steps scene (sender scene c))))
    where
      n : ℕ
      n = length (slice_index_or table (sender scene c) [])

      long : wanted scene c j ≤ n
      long = subst (λ w. w ≤ n) fed.has_wanted fed.holds.there

      short : n ≤ steps scene (sender scene c)
      short = (proper_short scene table fed.proper).rows (sender scene c)

      kept : (k : ℕ) → wanted scene c j ≤ k + 2 → k < wanted scene c j → items_numbered s.kept k ≡ block_on scene table c k
      kept k near small = rw (fed.holds.last, fed.has_wanted) (kept_at (block_on scene table c) (wanted scene c j) k near small)

      empty : n ≡ 0 → (k : ℕ) → block_on scene table c k ≡ []
      empty e k = ap (λ (o : StepOutput). slice_index_or o (link_at scene c).from_port []) (get_or_past (slice_index_or table (sender scene c) []) k [] (omega arith))

      last : wanted scene c j ≡ steps scene (sender scene c) → steps scene (sender scene c) ≤ i → (0 < steps scene (sender scene c)) ⊎ (steps scene (sender scene c) ≤ 0) → items_numbered s.kept (min i (s.admitted - 1)) ≡ block_on scene table c (min i (n - 1))
      last all after (inl some) =
          let x : min i (s.admitted - 1) ≡ wanted scene c j - 1 = omega (arith, fed.has_wanted, all) in
          let y : min i (n - 1) ≡ wanted scene c j - 1 = omega (arith, long, short, all) in
          rw (x, y) (kept (wanted scene c j - 1) (omega arith) (omega (arith, all)))
      last all after (inr none) =
          let z : s.admitted ≡ 0 = omega (arith, fed.has_wanted, all) in
          rw (fed.holds.last, z) (sym (empty (omega (arith, short)) (min i (n - 1))))

      go : (i < steps scene (sender scene c)) ⊎ (steps scene (sender scene c) ≤ i) → items_numbered s.kept (min i (s.admitted - 1)) ≡ block_on scene table c (min i (n - 1))
      go (inl small) =
          let w : i < wanted scene c j = wanted_below scene c j i small want in
          let x : min i (s.admitted - 1) ≡ i = omega (arith, fed.has_wanted, w) in
          let y : min i (n - 1) ≡ i = omega (arith, long, w) in
          rw (x, y) (kept i le w)
      go (inr after) = last (wanted_all scene c j i after want) after (cases_lt 0 (steps scene (sender scene c)))

  -- no later sample is wanted
  near : (i : Bool) → (input_of scene c).interpolate ≡ i → first ≤ now → wanted scene c j ≤ (now - first) / tick scene (sender scene c) + 2
  near i e le = go i e (cases_lt ((now - first) / tick scene (sender scene c) + 2) (wanted scene c j))
    where
      some : 1 ≤ tick scene (sender scene c)
      some = tick_some scene fine (sender scene c)

      go : (i : Bool) → (input_of scene c).interpolate ≡ i → ((now - first) / tick scene (sender scene c) + 2 < wanted scene c j) ⊎ (wanted scene c j ≤ (now - first) / tick scene (sender scene c) + 2) → wanted scene c j ≤ (now - first) / tick scene (sender scene c) + 2
      go i f (inr ok) = ok
      go false f (inl more) =
          let m : ((now - first) / tick scene (sender scene c) + 2) * tick scene (sender scene c) ≤ (wanted scene c j - 1) * tick scene (sender scene c) = mul-le-mul_right (tick scene (sender scene c)) (omega arith) in
          let t : now - first < (now - first) / tick scene (sender scene c) * tick scene (sender scene c) + tick scene (sender scene c) = lt-div-mul-add some in
          let h = (held_test scene c j (wanted scene c j - 1) (held f)).0 (test_from_lt (pos (run_time scene (sender scene c) (wanted scene c j - 1)) +ℤ allowance scene c) (pos (run_time scene (receiver scene c) (suc j))) (below_wanted scene c j (wanted scene c j - 1) (omega arith))) in
          absurd (omega (arith, m, t, h, le, some))
      go true f (inl more) =
          let m : ((now - first) / tick scene (sender scene c) + 2) * tick scene (sender scene c) ≤ (wanted scene c j - 1) * tick scene (sender scene c) = mul-le-mul_right (tick scene (sender scene c)) (omega arith) in
          let t : now - first < (now - first) / tick scene (sender scene c) * tick scene (sender scene c) + tick scene (sender scene c) = lt-div-mul-add some in
          let h = (between_test scene c j (wanted scene c j - 1) (between f)).0 (test_from_lt (pos (run_time scene (sender scene c) (wanted scene c j - 1)) +ℤ allowance scene c) (pos (run_time scene (receiver scene c) (suc j))) (below_wanted scene c j (wanted scene c j - 1) (omega arith))) in
          absurd (omega (arith, m, t, h, le, some))

  reads : (i : Bool) → (input_of scene c).interpolate ≡ i → first ≤ now → wants scene c j ((now - first) / tick scene (sender scene c)) ≡ true
  reads false e le = held_wants scene fine c j (held e) le
  reads true e le = between_wants scene fine c j (between e) le

  next : (g : ℕ) → first ≤ now → (input_of scene c).interpolate ≡ true → ((now - first) % tick scene (sender scene c) ≡ 0) ⊎ ((now - first) % tick scene (sender scene c) ≡ 0 → ⊥)
      → ((now - first) % tick scene (sender scene c) ≡ 0) ⊎ (sample_at s g ((now - first) / tick scene (sender scene c) + 1) ≡ sample scene table c g ((now - first) / tick scene (sender scene c) + 1))
  next g le e (inl z) = inl z
  next g le e (inr nz) = inr (matches g ((now - first) / tick scene (sender scene c) + 1) (next_wants scene fine c j (between e) le (omega arith)) (let n = near true e le in omega (arith, n)))

  by_test : (g : ℕ) (t : Bool) → nat_lt now first ≡ t
      → cond t (pos 0) (reading (input_of scene c).interpolate (sample_at s g) (tick scene (sender scene c)) (now - first)) ≡ cond t (pos 0) (reading (input_of scene c).interpolate (sample scene table c g) (tick scene (sender scene c)) (now - first))
  by_test g true e = refl
  by_test g false e =
      let le : first ≤ now = ltb-false _ _ e in
      reading_same (input_of scene c).interpolate (sample_at s g) (sample scene table c g) (tick scene (sender scene c)) (now - first)
      (matches g ((now - first) / tick scene (sender scene c)) (reads (input_of scene c).interpolate refl le) (near (input_of scene c).interpolate refl le)) (λ f. next g le f (cases_eq _ 0))

  on_link : (g : ℕ) → read s j g ≡ value_on scene table j g c
  unfolding read sample_at
  on_link g = rw (fed.made.receives, fed.made.receives_from, fed.made.behind, fed.made.sends, fed.made.sends_from, fed.made.between, ← at.1) (by_test g (nat_lt now first) refl)

  pub read_is : (g : ℕ) → read s j g ≡ value scene table b p j g
  unfolding value
  read_is g = on_link g ∙ ap (value_over scene table j g) (sym fed.made.only)

-- ---- after an admit

two_more : (f : ℕ → List Item) (n : ℕ) → last_one (map (numbered_by f) (last_two n)) ++ numbered_by f n ∷ [] ≡ map (numbered_by f) (last_two (n + 1))
two_more f zero = refl
two_more f (suc zero) = refl
two_more f (suc (suc m)) =
    let from : suc (suc m) - 2 ≡ m = omega arith in
    let two : min 2 (suc (suc m)) ≡ 2 = omega arith in
    let next : suc (suc m) + 1 - 2 ≡ m + 1 = omega arith in
    let more : min 2 (suc (suc m) + 1) ≡ 2 = omega arith in
    let last : suc (suc m) ≡ m + 1 + 1 = omega arith in
    rw (from, two, next, more) (ap (λ k. numbered_by f (m + 1) ∷ numbered_by f k ∷ []) last)

pub samples_admitted : (scene : Scene) (c : ℕ) (table : Table) (s : Samples) (x : Block) → x.number ≡ s.admitted → x.number < length (slice_index_or table (sender scene c) []) → x.items ≡ block_on scene table c x.number
    → HoldsSamples scene c s table → HoldsSamples scene c (with_sample s x) table
samples_admitted scene c table s x e small is h =
    let same : x ≡ numbered_by (block_on scene table c) s.admitted = λ i. record { number = e i; items = (is ∙ ap (block_on scene table c) e) i } in
    record {
      there = omega (arith, e, small);
      last = ap (λ ks. last_one ks ++ x ∷ []) h.last ∙ ap (λ (y : Block). last_one (map (numbered_by (block_on scene table c)) (last_two s.admitted)) ++ y ∷ []) same ∙ two_more (block_on scene table c) s.admitted;
    }

-- before the first block every table is held
pub no_samples : (scene : Scene) (c : ℕ) (table : Table) (s : Samples) → s.admitted ≡ 0 → s.kept ≡ [] → HoldsSamples scene c s table
no_samples scene c table s e k = record { there = omega (arith, e); last = k ∙ (rw e refl) }
