-- The core before any act.
use Rattle.std.proofs.Common.{ℕ, ◌+◌, ◌<◌, ◌≤◌, ◌≡◌, ◌⊎◌, inl, inr, sym, ◌∙◌, ap, subst, arith, List, [], ◌∷◌, ◌++◌, length, map, replicate}
use Rattle.std.specs.Prelude.{slice_index}
use Rattle.std.proofs.lemmas.Bool.{cases_lt}
use Rattle.std.proofs.lemmas.List.{get_or-replicate, get_or_append_left, length-replicate}
use Rattle.std.proofs.lemmas.List.FromFn.{get_or-map-range_with_len, length-map-range_with_len, map-range_with_len_more}
use Rattle.std.proofs.Math.Seq.{get_or-append_seam}
use Rattle.circular_buffer.specs.Buffer.{Buffer, buffer}
use Rattle.music_base.specs.Numbers.{below}
use Rattle.music_base.specs.declared.item.Block.{Block}
use Rattle.scene_model.specs.Faults.{IsFaultless}
use Rattle.scene_model.specs.Lives.{history}
use Rattle.scene_model.specs.Orders.{Counts, opening_counts, put_on, run_by, taken_from}
use Rattle.scene_model.specs.Scenes.{receiver, sender}
use Rattle.scene_model.specs.declared.row.Row.{Row}
use Rattle.scene_model.specs.declared.scene.Scene.{Scene}
use Rattle.scene_model.proofs.Faultless.{connection_is}
use Rattle.scene_model.proofs.Sound.{opening_sound, zero_at}
use Rattle.app_turn.specs.Machines.{Machine}
use Rattle.app_turn.specs.Moves.{IsStarted}
use Rattle.step_core.specs.Cores.{AreHeld, AreOwn, ArePlanned, AreStarted, IsCore, IsRing, counts_of, empty_rings, machine_at, no_machine, opened, past_blocks, past_rows, ring_at, room_for}
use Rattle.step_core.proofs.Histories.{proper}
use Rattle.step_core.proofs.Owning.{own-counts}

module _ (scene : Scene) (limits : List ℕ) (faultless : IsFaultless scene) (planned : ArePlanned scene limits) (machines : List Machine) (started : AreStarted scene machines) where
  opening_own : AreOwn scene machines (opening_counts scene)
  opening_own = record {
    counted = started.counted;
    each = λ a app. let m = started.each a app in record {
      is_scene = m.is_scene;
      is_app = m.is_app;
      puts = ap (λ (l : List ℕ). length l) m.none_put ∙ length-replicate (length scene.links) 0;
      takes = ap (λ (l : List ℕ). length l) m.none_taken ∙ length-replicate (length scene.links) 0;
    };
    runs = λ a app. (started.each a app).no_step ∙ sym (zero_at (length scene.apps) a);
    puts = λ c link. ap (λ (l : List ℕ). slice_index l c) (started.each (sender scene c) (connection_is scene faultless c link).from_app).none_put;
    takes = λ c link. ap (λ (l : List ℕ). slice_index l c) (started.each (receiver scene c) (connection_is scene faultless c link).to_app).none_taken;
  }

  opening_ring : (c : ℕ) → c < length scene.links → IsRing scene limits (opening_counts scene) c (ring_at (empty_rings scene limits) c)
  opening_ring c link =
      let none : past_blocks scene c (taken_from (opening_counts scene) c) (put_on (opening_counts scene) c) ≡ [] = ap (λ n. past_blocks scene c n (put_on (opening_counts scene) c)) (zero_at (length scene.links) c) ∙ ap (past_blocks scene c 0) (zero_at (length scene.links) c) in
      get_or-map-range_with_len (λ d. buffer [] (room_for scene limits d)) 0 (length scene.links) c c (buffer [] 0) link (omega arith) ∙ ap (λ (l : List Block). buffer l (room_for scene limits c)) (sym none)

  opening_rows : AreHeld scene (opening_counts scene) (replicate (length scene.apps) 0) (replicate (length scene.apps) [])
  opening_rows = record {
    released_counted = length-replicate (length scene.apps) 0;
    held_counted = length-replicate {A = List Row} (length scene.apps) [];
    were_run = λ a app. omega (arith, zero_at (length scene.apps) a);
    in_front = λ a b j k app other low high left. absurd (omega (arith, zero_at (length scene.apps) a, low));
    each = λ a app. get_or-replicate {A = List Row} (length scene.apps) a [] [] app ∙ sym (ap (λ n. past_rows scene a n (run_by (opening_counts scene) a)) (zero_at (length scene.apps) a) ∙ ap (past_rows scene a 0) (zero_at (length scene.apps) a));
  }

  opening_core : IsCore scene limits (opening_counts scene) (replicate (length scene.apps) 0) machines (empty_rings scene limits) (replicate (length scene.apps) [])
  opening_core = record {
    faultless = faultless;
    planned = planned;
    sound = opening_sound scene limits;
    own = opening_own;
    follow = λ a app. (started.each a app).follows (history scene) (proper scene limits faultless planned);
    rings_counted = length-map-range_with_len (λ d. buffer {X = Block} [] (room_for scene limits d)) 0 (length scene.links);
    each_ring = opening_ring;
    are_held = opening_rows;
  }

  pub opening_counts_are : counts_of scene machines ≡ opening_counts scene
  opening_counts_are = own-counts scene machines (opening_counts scene) opening_own (length-replicate (length scene.apps) 0) (length-replicate (length scene.links) 0) (length-replicate (length scene.links) 0)

  pub opened_core : IsCore scene limits (counts_of scene machines) (replicate (length scene.apps) 0) machines (empty_rings scene limits) (replicate (length scene.apps) [])
  opened_core = let F : Counts → Type 0 = λ s. IsCore scene limits s (replicate (length scene.apps) 0) machines (empty_rings scene limits) (replicate (length scene.apps) []) in subst F (sym opening_counts_are) opening_core

  -- the same as code has it
  pub opened_as : (rings : List (Buffer Block)) (released : List ℕ) (held : List (List Row)) → rings ≡ empty_rings scene limits → released ≡ replicate (length scene.apps) 0 → held ≡ replicate (length scene.apps) []
      → IsCore scene limits (counts_of scene machines) released machines rings held
  opened_as rings released held are_rings none no_rows =
      let F : List (Buffer Block) → Type 0 = λ x. IsCore scene limits (counts_of scene machines) released machines x held in
      let G : List ℕ → Type 0 = λ x. IsCore scene limits (counts_of scene machines) x machines (empty_rings scene limits) held in
      let H : List (List Row) → Type 0 = λ x. IsCore scene limits (counts_of scene machines) (replicate (length scene.apps) 0) machines (empty_rings scene limits) x in
      subst F (sym are_rings) (subst G (sym none) (subst H (sym no_rows) opened_core))

  pub opened_view : (released : List ℕ) → released ≡ replicate (length scene.apps) 0 → record { scene = scene; limits = limits; counts = counts_of scene machines; released = released } ≡ opened scene limits
  opened_view released none =
      ap (λ (s : Counts). record { scene = scene; limits = limits; counts = s; released = released }) opening_counts_are ∙ ap (λ (l : List ℕ). record { scene = scene; limits = limits; counts = opening_counts scene; released = l }) none

-- the same over a scene and limits of its own
module _ (scene own : Scene) (same : own ≡ scene) (limits own_limits : List ℕ) (same_limits : own_limits ≡ limits) (faultless : IsFaultless scene) (planned : ArePlanned scene limits)
    (machines : List Machine) (started : AreStarted own machines) (released : List ℕ) (none : released ≡ replicate (length own.apps) 0) where
  own-faultless : IsFaultless own
  own-faultless = subst IsFaultless (sym same) faultless

  own-planned : ArePlanned own own_limits
  own-planned = subst (ArePlanned own) (sym same_limits) (subst (λ (x : Scene). ArePlanned x limits) (sym same) planned)

  pub started_core : (rings : List (Buffer Block)) (held : List (List Row)) → rings ≡ empty_rings own limits → held ≡ replicate (length own.apps) []
      → IsCore own own_limits (counts_of own machines) released machines rings held
  started_core rings held are_rings no_rows =
      opened_as own own_limits own-faultless own-planned machines started rings released held (are_rings ∙ ap (empty_rings own) (sym same_limits)) none no_rows

  pub started_view : record { scene = own; limits = own_limits; counts = counts_of own machines; released = released } ≡ opened scene limits
  started_view =
      opened_view own own_limits own-faultless own-planned machines started released none ∙ ap (λ (x : Scene). opened x own_limits) same ∙ ap (opened scene) same_limits

-- one machine more was started
pub started-more : (scene : Scene) (machines : List Machine) (m : Machine) (n : ℕ) → length machines ≡ n → ((a : ℕ) → a < n → IsStarted scene a (machine_at machines a)) → IsStarted scene n m → (a : ℕ) → a < n + 1 → IsStarted scene a (machine_at (machines ++ m ∷ []) a)
started-more scene machines m n counted each last a below = go (cases_lt a n)
  where
    go : (a < n) ⊎ (n ≤ a) → IsStarted scene a (machine_at (machines ++ m ∷ []) a)
    go (inl l) = subst (IsStarted scene a) (sym (get_or_append_left machines (m ∷ []) no_machine a (omega (arith, l, counted)))) (each a l)
    go (inr g) =
        let e : n ≡ a = omega arith in
        let F : ℕ → Type 0 = λ x. IsStarted scene x (machine_at (machines ++ m ∷ []) x) in
        subst F e (subst (IsStarted scene n) (sym (ap (machine_at (machines ++ m ∷ [])) (sym counted) ∙ get_or-append_seam machines m [] no_machine)) last)

-- one ring more was made
pub rings-more : (f : ℕ → Buffer Block) (i : ℕ) (ring : Buffer Block) (rings : List (Buffer Block)) → rings ≡ map f (below i) → ring ≡ f i → rings ++ ring ∷ [] ≡ map f (below (i + 1))
rings-more f i ring rings so_far now = rw (so_far, now) (sym (map-range_with_len_more f 0 i i (omega arith)))
