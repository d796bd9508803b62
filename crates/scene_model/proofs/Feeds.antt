-- What a step reads of a table depends only on the blocks that it wants.
use Rattle.std.proofs.Common.{ℕ, suc, ◌+◌, ◌-◌, ◌*◌, ◌/◌, ◌%◌, ◌<◌, ◌≤◌, ◌≡◌, ◌⊎◌, inl, inr, min, refl, sym, ◌∙◌, ap, arith, List, [], ◌∷◌, length, map, Bool, true, false, cond, Option, Some, None, ℤ, pos, ◌+ℤ◌, ◌-ℤ◌}
use Rattle.std.specs.Prelude.{slice_index_or, nat_lt, ◌&&◌, ◌==◌, ◌↔◌}
use Rattle.std.specs.List.{AllByRecursion, filter}
use Rattle.std.proofs.lemmas.Bool.{cases_lt, cases_eq, and_parts, eqb-true, ltb-false}
use Rattle.std.proofs.lemmas.Int.{ints}
use Rattle.std.proofs.lemmas.List.{get_or_past}
use Rattle.std.proofs.Math.Nat.{lt-div-mul-add, div-mul-le_self, div-add-mod'}
use lib.IntN.{*ℤ-zero}
use Rattle.scene_model.specs.declared.scene.Scene.{Scene}
use Rattle.scene_model.specs.declared.port.PortDecl.{PortDecl}
use Rattle.music_base.specs.declared.item.Item.{Item}
use Rattle.music_base.specs.declared.item.Item.TheVariants.{Event, Value, Message}
use Rattle.scene_model.specs.declared.port.PortKind.{PortKind}
use Rattle.scene_model.specs.declared.port.PortKind.TheVariants.{Events, Values, Messages}
use Rattle.music_base.specs.Numbers.{below, in_order}
use Rattle.music_base.proofs.Lists.{All-below, All-passing, All-weaker, filter-none, flat_map-agree_each}
use Rattle.music_base.specs.Clocks.{due_step_from}
use Rattle.scene_model.specs.Clocks.{start, tick, steps, clock, latency, delay, due, allowance, allowance_by, later_start, run_time, wants, wanted, clock_at, first_at, last_sample}
use Rattle.scene_model.specs.Scenes.{sender, receiver, link_at, input_of, port_at, links_to}
use Rattle.scene_model.specs.Tables.{block_on, steps_of, Table, StepOutput, block, is_step, arrives, Sent, sent_cmp, coming, arrivals, value_in, sample, reading, value_on, value_over, value}
use Rattle.scene_model.specs.WellFormed.{IsWellFormed}
use Rattle.scene_model.proofs.Wanted.{lt_from_test, test_from_lt, tick_some, wanted_below, wanted_all}

-- an event or a message is not before this time
abbrev pub IsFrom : ℕ → Item → Type 0
IsFrom from (Event e) = from ≤ e.time
IsFrom from (Message m) = from ≤ m.time
IsFrom from (Value global value) = Unit {0}

-- no event or message of a step is before its clock
abbrev pub IsTimely : Scene → Table → Type 0
IsTimely scene table = (a k p : ℕ) → AllByRecursion (IsFrom (clock scene a k)) (block table a k p)

-- ---- arrivals

-- the allowance of a connection that brings events or messages
abbrev pub IsLate : Scene → ℕ → Type 0
IsLate scene c = allowance scene c ≡ later_start scene c +ℤ pos (latency scene c)

-- what is due in a step comes with its latency at the start or later
pub due_in : (time late start tick j : ℕ) → due_step_from time late start tick ≡ Some j → (start ≤ time + late) × ((time + late - start) / tick ≡ j)
unfolding due_step_from
due_in time late start tick j = go (nat_lt (time + late) start) refl
  where
    go : (b : Bool) → nat_lt (time + late) start ≡ b → cond b None (Some ((time + late - start) / tick)) ≡ Some j → (start ≤ time + late) × ((time + late - start) / tick ≡ j)
    go true past now = absurd cc
    go false since now = (ltb-false (time + late) start since, cc)

pub step_is : (j : ℕ) (d : Option ℕ) → is_step j d ≡ true → d ≡ Some j
step_is j None h = absurd cc
step_is j (Some step) h = ap (λ n. Some n) (eqb-true step j h)

-- a step wants each block that has something which is due in it
pub due_wants : (scene : Scene) → IsWellFormed scene → (c j k time : ℕ) → IsLate scene c → clock scene (sender scene c) k ≤ time → due scene c time ≡ Some j → wants scene c j k ≡ true
unfolding due
due_wants scene formed c j k time late from now =
    let begins : ℕ = start scene (receiver scene c) in
    let ticks : ℕ = tick scene (receiver scene c) in
    let since = due_in time (latency scene c) begins ticks j now in
    let before : time + latency scene c - begins < j * ticks + ticks = rw since.1 at (lt-div-mul-add {a = time + latency scene c - begins} (tick_some scene formed (receiver scene c))) in
    rw late (test_from_lt (pos (run_time scene (sender scene c) k) +ℤ (later_start scene c +ℤ pos (latency scene c))) (pos (run_time scene (receiver scene c) (suc j))) (omega (arith, ints, since.0)))

-- so nothing of a block that the step does not want is due in it
not_due : (scene : Scene) → IsWellFormed scene → (c j k time : ℕ) → IsLate scene c → wants scene c j k ≡ false → clock scene (sender scene c) k ≤ time → is_step j (due scene c time) ≡ false
not_due scene formed c j k time late unwanted from = go (is_step j (due scene c time)) refl
  where
    go : (b : Bool) → is_step j (due scene c time) ≡ b → is_step j (due scene c time) ≡ false
    go true now = let w : wants scene c j k ≡ true = due_wants scene formed c j k time late from (step_is j (due scene c time) now) in cc
    go false later = later

-- and nothing of it arrives
pub not_arriving : (scene : Scene) → IsWellFormed scene → (c j k : ℕ) → IsLate scene c → wants scene c j k ≡ false → (item : Item) → IsFrom (clock scene (sender scene c) k) item → arrives scene c j item ≡ false
not_arriving scene formed c j k late unwanted (Event e) from = rw (not_due scene formed c j k e.time late unwanted from) refl
not_arriving scene formed c j k late unwanted (Message m) from = not_due scene formed c j k m.time late unwanted from
not_arriving scene formed c j k late unwanted (Value global value) from = refl

-- two tables have the same first n blocks on a connection
abbrev pub AgreeBelow : Scene → Table → Table → ℕ → ℕ → Type 0
AgreeBelow scene one other c n = (k : ℕ) → k < n → block_on scene one c k ≡ block_on scene other c k

module _ (scene : Scene) (formed : IsWellFormed scene) (one other : Table) (from_one : IsTimely scene one) (from_other : IsTimely scene other) where
  -- where they agree on what step j wants, the same comes
  coming_same : (c j : ℕ) → IsLate scene c → AgreeBelow scene one other c (wanted scene c j) → coming scene one j c ≡ coming scene other j c
  coming_same c j late agree =
      flat_map-agree_each (λ k. sent (block_on scene one c k)) (λ k. sent (block_on scene other c k)) (below (steps scene (sender scene c)))
      (All-below (λ k. sent (block_on scene one c k) ≡ sent (block_on scene other c k)) (steps scene (sender scene c)) each)
    where
      sent : List Item → List Sent
      sent items = map (λ item. record { item = item; app = sender scene c; port = (link_at scene c).from_port }) (filter (arrives scene c j) items)

      none : (table : Table) → IsTimely scene table → (k : ℕ) → wants scene c j k ≡ false → filter (arrives scene c j) (block_on scene table c k) ≡ []
      none table from k unwanted =
          filter-none (arrives scene c j) (block_on scene table c k)
          (All-weaker (IsFrom (clock scene (sender scene c) k)) (λ item. arrives scene c j item ≡ false) (not_arriving scene formed c j k late unwanted) (block_on scene table c k)
          (from (sender scene c) k (link_at scene c).from_port))

      each : (k : ℕ) → k < steps scene (sender scene c) → sent (block_on scene one c k) ≡ sent (block_on scene other c k)
      each k small = go (wants scene c j k) refl
        where
          go : (b : Bool) → wants scene c j k ≡ b → sent (block_on scene one c k) ≡ sent (block_on scene other c k)
          go true e = ap sent (agree k (wanted_below scene c j k small e))
          go false e = rw (none one from_one k e, none other from_other k e) refl

-- a connection to port p of application b
abbrev pub IsLinkTo : Scene → ℕ → ℕ → ℕ → Type 0
IsLinkTo scene b p c = (c < length scene.links) × (receiver scene c ≡ b) × ((link_at scene c).to_port ≡ p)

pub links_lead : (scene : Scene) (b p : ℕ) → AllByRecursion (IsLinkTo scene b p) (links_to scene b p)
links_lead scene b p =
    let leads : ℕ → Bool = λ c. receiver scene c == b && (link_at scene c).to_port == p in
    All-weaker (λ c. (c < length scene.links) × (leads c ≡ true)) (IsLinkTo scene b p) (λ c h. (h.0, (both c h.1).0, (both c h.1).1)) (links_to scene b p)
    (All-passing (λ c. c < length scene.links) leads (below (length scene.links)) (All-below (λ c. c < length scene.links) (length scene.links) (λ c small. small)))
  where
    both : (c : ℕ) → (receiver scene c == b && (link_at scene c).to_port == p) ≡ true → (receiver scene c ≡ b) × ((link_at scene c).to_port ≡ p)
    both c h = let t = and_parts (receiver scene c == b) ((link_at scene c).to_port == p) h in (eqb-true _ _ t.0, eqb-true _ _ t.1)

late_by : (kind : PortKind) (interpolated : Bool) (latency delay send receive : ℕ) → (kind ≡ Values → ⊥) → allowance_by kind interpolated latency delay send receive ≡ pos latency
late_by Events interpolated latency delay send receive ne = refl
late_by Messages interpolated latency delay send receive ne = refl
late_by Values interpolated latency delay send receive ne = absurd (ne refl)

-- a connection that brings no values brings events or messages
pub is_late : (scene : Scene) (c : ℕ) → ((input_of scene c).kind ≡ Values → ⊥) → IsLate scene c
unfolding allowance
is_late scene c ne =
    ap (λ z. later_start scene c +ℤ z)
    (late_by (input_of scene c).kind (input_of scene c).interpolate (latency scene c) (delay scene c) (tick scene (sender scene c)) (tick scene (receiver scene c)) ne)

-- the input of a connection to port p of b
pub input_is : (scene : Scene) (b p c : ℕ) → IsLinkTo scene b p c → input_of scene c ≡ port_at scene b p
input_is scene b p c h = ap (λ x. port_at scene x (link_at scene c).to_port) h.1 ∙ ap (λ q. port_at scene b q) h.2

-- two tables have, and agree on, what step j of b wants
pub record SameFeed (scene : Scene) (one other : Table) (b j : ℕ) : Type 0 where
  pub agree : (c : ℕ) → c < length scene.links → receiver scene c ≡ b → AgreeBelow scene one other c (wanted scene c j)
  pub has_left : (c : ℕ) → c < length scene.links → receiver scene c ≡ b → wanted scene c j ≤ length (steps_of one (sender scene c))
  pub has_right : (c : ℕ) → c < length scene.links → receiver scene c ≡ b → wanted scene c j ≤ length (steps_of other (sender scene c))

-- no application has more steps in the table than in the scene
pub record IsShort (scene : Scene) (table : Table) : Type 0 where
  pub rows : (a : ℕ) → length (steps_of table a) ≤ steps scene a

-- so the same arrives
pub arrivals_same : (scene : Scene) → IsWellFormed scene → (one other : Table) → IsTimely scene one → IsTimely scene other → (b p j : ℕ)
    → SameFeed scene one other b j → ((port_at scene b p).kind ≡ Values → ⊥) → arrivals scene one b p j ≡ arrivals scene other b p j
unfolding arrivals
arrivals_same scene formed one other from_one from_other b p j feed ne =
    ap (λ (xs : List Sent). map (λ (s : Sent). s.item) (in_order sent_cmp xs))
    (flat_map-agree_each (coming scene one j) (coming scene other j) (links_to scene b p)
    (All-weaker (IsLinkTo scene b p) (λ c. coming scene one j c ≡ coming scene other j c) each (links_to scene b p) (links_lead scene b p)))
  where
    each : (c : ℕ) → IsLinkTo scene b p c → coming scene one j c ≡ coming scene other j c
    each c h =
        let late : IsLate scene c = is_late scene c (λ e. ne (ap (λ (port : PortDecl). port.kind) (sym (input_is scene b p c h)) ∙ e)) in
        coming_same scene formed one other from_one from_other c j late (feed.agree c h.0 h.1)

-- ---- which samples a step wants

-- the allowance of a connection whose values are held, and of one whose values are interpolated
abbrev pub IsHeld : Scene → ℕ → Type 0
IsHeld scene c = allowance scene c ≡ later_start scene c +ℤ (pos (delay scene c + tick scene (receiver scene c)) -ℤ pos 1)

abbrev pub IsInterpolated : Scene → ℕ → Type 0
IsInterpolated scene c = allowance scene c ≡ later_start scene c +ℤ (pos (delay scene c + tick scene (receiver scene c)) -ℤ pos (tick scene (sender scene c)))

pub values_allowance : (scene : Scene) (c : ℕ) (interpolated : Bool) → (input_of scene c).kind ≡ Values → (input_of scene c).interpolate ≡ interpolated
    → allowance scene c ≡ later_start scene c +ℤ allowance_by Values interpolated (latency scene c) (delay scene c) (tick scene (sender scene c)) (tick scene (receiver scene c))
unfolding allowance
values_allowance scene c interpolated e f = rw (e, f) refl

-- a held value wants the samples that are not later than what it reads
pub held_test : (scene : Scene) (c j k : ℕ) → IsHeld scene c → (wants scene c j k ≡ true) ↔ (first_at scene c + run_time scene (sender scene c) k ≤ clock_at scene c j)
held_test scene c j k held =
    let sent : ℤ = pos (run_time scene (sender scene c) k) +ℤ allowance scene c in
    let end : ℤ = pos (run_time scene (receiver scene c) (suc j)) in
    (λ w. let lt = lt_from_test sent end w in omega (arith, ints, lt, held), λ le. test_from_lt sent end (omega (arith, ints, held)))

-- an interpolated one those that are less than a tick later
pub between_test : (scene : Scene) (c j k : ℕ) → IsInterpolated scene c → (wants scene c j k ≡ true) ↔ (first_at scene c + run_time scene (sender scene c) k < clock_at scene c j + tick scene (sender scene c))
between_test scene c j k between =
    let sent : ℤ = pos (run_time scene (sender scene c) k) +ℤ allowance scene c in
    let end : ℤ = pos (run_time scene (receiver scene c) (suc j)) in
    (λ w. let lt = lt_from_test sent end w in omega (arith, ints, lt, between), λ lt. test_from_lt sent end (omega (arith, ints, between)))

-- so both want the last sample that is not later, and an interpolated one the next one too where that has a weight
module _ (scene : Scene) (formed : IsWellFormed scene) (c j : ℕ) where
  pub held_wants : IsHeld scene c → first_at scene c ≤ clock_at scene c j → wants scene c j (last_sample scene c j) ≡ true
  held_wants held le =
      let whole = div-mul-le_self (clock_at scene c j - first_at scene c) (tick scene (sender scene c)) in
      (held_test scene c j (last_sample scene c j) held).1 (omega (arith, whole))

  pub between_wants : IsInterpolated scene c → first_at scene c ≤ clock_at scene c j → wants scene c j (last_sample scene c j) ≡ true
  between_wants between le =
      let whole = div-mul-le_self (clock_at scene c j - first_at scene c) (tick scene (sender scene c)) in
      let some = tick_some scene formed (sender scene c) in
      (between_test scene c j (last_sample scene c j) between).1 (omega (arith, whole))

  pub next_wants : IsInterpolated scene c → first_at scene c ≤ clock_at scene c j → 0 < (clock_at scene c j - first_at scene c) % tick scene (sender scene c)
      → wants scene c j (last_sample scene c j + 1) ≡ true
  next_wants between le rest =
      let whole = div-add-mod' (clock_at scene c j - first_at scene c) (tick scene (sender scene c)) in
      (between_test scene c j (last_sample scene c j + 1) between).1 (omega (arith, whole))

-- ---- values

module _ (scene : Scene) (one other : Table) (short_one : IsShort scene one) (short_other : IsShort scene other) (b j : ℕ) (feed : SameFeed scene one other b j) where
  -- a step that is wanted, or the last before it
  last_same : (c k : ℕ) → c < length scene.links → receiver scene c ≡ b → wants scene c j k ≡ true
      → block_on scene one c (min k (length (steps_of one (sender scene c)) - 1)) ≡ block_on scene other c (min k (length (steps_of other (sender scene c)) - 1))
  last_same c k link to want = go (cases_lt k (steps scene (sender scene c)))
    where
      long_one : wanted scene c j ≤ length (steps_of one (sender scene c))
      long_one = feed.has_left c link to

      long_other : wanted scene c j ≤ length (steps_of other (sender scene c))
      long_other = feed.has_right c link to

      empty : (table : Table) → length (steps_of table (sender scene c)) ≡ 0 → (i : ℕ) → block_on scene table c i ≡ []
      empty table e i = ap (λ (o : StepOutput). slice_index_or o (link_at scene c).from_port []) (get_or_past (steps_of table (sender scene c)) i [] (omega arith))

      past : wanted scene c j ≡ steps scene (sender scene c) → steps scene (sender scene c) ≤ k → (0 < steps scene (sender scene c)) ⊎ (steps scene (sender scene c) ≤ 0)
          → block_on scene one c (min k (length (steps_of one (sender scene c)) - 1)) ≡ block_on scene other c (min k (length (steps_of other (sender scene c)) - 1))
      past all after (inl some) =
          let eg : min k (length (steps_of one (sender scene c)) - 1) ≡ steps scene (sender scene c) - 1 = omega (arith, long_one, short_one.rows (sender scene c)) in
          let eh : min k (length (steps_of other (sender scene c)) - 1) ≡ steps scene (sender scene c) - 1 = omega (arith, long_other, short_other.rows (sender scene c)) in
          rw (eg, eh) (feed.agree c link to (steps scene (sender scene c) - 1) (omega arith))
      past all after (inr none) = empty one (omega (arith, short_one.rows (sender scene c))) _ ∙ sym (empty other (omega (arith, short_other.rows (sender scene c))) _)

      go : (k < steps scene (sender scene c)) ⊎ (steps scene (sender scene c) ≤ k) → block_on scene one c (min k (length (steps_of one (sender scene c)) - 1)) ≡ block_on scene other c (min k (length (steps_of other (sender scene c)) - 1))
      go (inl small) =
          let w : k < wanted scene c j = wanted_below scene c j k small want in
          let eg : min k (length (steps_of one (sender scene c)) - 1) ≡ k = omega (arith, long_one) in
          let eh : min k (length (steps_of other (sender scene c)) - 1) ≡ k = omega (arith, long_other) in
          rw (eg, eh) (feed.agree c link to k w)
      go (inr after) = past (wanted_all scene c j k after want) after (cases_lt 0 (steps scene (sender scene c)))

  -- so the same sample is read
  sample_same : (c k g : ℕ) → c < length scene.links → receiver scene c ≡ b → wants scene c j k ≡ true → sample scene one c g k ≡ sample scene other c g k
  sample_same c k g link to want = ap (λ (o : List Item). value_in o g) (last_same c k link to want)

-- a reading depends on the sample at its time, and where it interpolates on the next one unless that has no weight
pub reading_same : (interpolated : Bool) (v w : ℕ → ℤ) (h x : ℕ) → v (x / h) ≡ w (x / h) → (interpolated ≡ true → (x % h ≡ 0) ⊎ (v (x / h + 1) ≡ w (x / h + 1))) → reading interpolated v h x ≡ reading interpolated w h x
reading_same false v w h x e next = e
reading_same true v w h x e next = go (next refl)
  where
    go : (x % h ≡ 0) ⊎ (v (x / h + 1) ≡ w (x / h + 1)) → reading true v h x ≡ reading true w h x
    go (inl zero_rest) = rw (zero_rest, e, *ℤ-zero, *ℤ-zero) refl
    go (inr f) = rw (e, f) refl

module _ (scene : Scene) (formed : IsWellFormed scene) (one other : Table) (short_one : IsShort scene one) (short_other : IsShort scene other) (b j : ℕ) (feed : SameFeed scene one other b j) where
  value_on_same : (g c : ℕ) → c < length scene.links → receiver scene c ≡ b → (input_of scene c).kind ≡ Values → value_on scene one j g c ≡ value_on scene other j g c
  value_on_same g c link to kind = go (nat_lt (clock_at scene c j) (first_at scene c)) refl
    where
      ticks : ℕ
      ticks = tick scene (sender scene c)

      late : ℕ
      late = clock_at scene c j - first_at scene c

      -- the sample k is the same where it is wanted
      same : (k : ℕ) → wants scene c j k ≡ true → sample scene one c g k ≡ sample scene other c g k
      same k want = sample_same scene one other short_one short_other b j feed c k g link to want

      first : (i : Bool) → (input_of scene c).interpolate ≡ i → first_at scene c ≤ clock_at scene c j → wants scene c j (last_sample scene c j) ≡ true
      first false e le = held_wants scene formed c j (values_allowance scene c false kind e) le
      first true e le = between_wants scene formed c j (values_allowance scene c true kind e) le

      next : first_at scene c ≤ clock_at scene c j → (input_of scene c).interpolate ≡ true → (late % ticks ≡ 0) ⊎ (late % ticks ≡ 0 → ⊥)
          → (late % ticks ≡ 0) ⊎ (sample scene one c g (late / ticks + 1) ≡ sample scene other c g (late / ticks + 1))
      next le e (inl none) = inl none
      next le e (inr some) = inr (same _ (next_wants scene formed c j (values_allowance scene c true kind e) le (omega arith)))

      go : (t : Bool) → nat_lt (clock_at scene c j) (first_at scene c) ≡ t
          → cond t (pos 0) (reading (input_of scene c).interpolate (sample scene one c g) ticks late) ≡ cond t (pos 0) (reading (input_of scene c).interpolate (sample scene other c g) ticks late)
      go true e = refl
      go false e =
          let le : first_at scene c ≤ clock_at scene c j = ltb-false _ _ e in
          reading_same (input_of scene c).interpolate (sample scene one c g) (sample scene other c g) ticks late (same _ (first (input_of scene c).interpolate refl le)) (λ f. next le f (cases_eq _ 0))

  -- so the same is read of each index
  pub value_same : (p g : ℕ) → (port_at scene b p).kind ≡ Values → value scene one b p j g ≡ value scene other b p j g
  unfolding value
  value_same p g kind = over (links_to scene b p) (links_lead scene b p)
    where
      over : (cs : List ℕ) → AllByRecursion (IsLinkTo scene b p) cs → value_over scene one j g cs ≡ value_over scene other j g cs
      over [] h = refl
      over (c ∷ cs) h = value_on_same g c h.0.0 h.0.1 (ap (λ (port : PortDecl). port.kind) (input_is scene b p c h.0) ∙ kind)
