-- Queues with room for what is admitted.
use Rattle.std.proofs.Common.{◌≡◌, ◌≢◌, ◌⊎◌, ℕ, zero, suc, ◌+◌, ◌-◌, ◌<◌, ◌≤◌, List, [], ◌∷◌, ◌++◌, map, length, get_or, take, drop, append-nil, refl, sym, ap, subst, ◌∙◌, inl, inr, arith}
use Rattle.std.specs.Prelude.{slice_set, replicate}
use Rattle.std.specs.List.{AllByRecursion}
use Rattle.std.proofs.lemmas.Bool.{cases_order}
use Rattle.std.proofs.lemmas.List.{get_or-set_same, get_or-set_other, length-map, map-append, map-set, replicate_more, take_more_set}
use Rattle.std.proofs.Math.Seq.{take-length}
use Rattle.std.proofs.lemmas.List.Elements.{All-replicate, recursion_from_All}
use Rattle.music_base.proofs.Lists.{All-at, All-get_or, All-of, All-push, All-weaker}
use Rattle.music_base.proofs.Pairs.{all_set}
use Rattle.scene_model.specs.declared.row.Row.{Row}
use Rattle.run_logs.specs.Merging.{AreQueues, AreRowsOf, QueuedRows, held_by, rows_of}
use Rattle.run_logs.proofs.Nexts.{rows_at}

-- the rows of one application, in place of those that it had
pub rows_set : (held : List (List Row)) (place : ℕ) (rows : List Row) → place < length held → AreRowsOf place rows
    → ((b : ℕ) → AreRowsOf b (rows_of held b)) → (b : ℕ) → AreRowsOf b (rows_of (slice_set held place rows) b)
rows_set held place rows lt are all b = by_place (cases_order b place)
  where
    at_place : AreRowsOf place (rows_of (slice_set held place rows) place)
    at_place = subst (AreRowsOf place) (sym (get_or-set_same held place rows [] lt)) are

    elsewhere : b ≢ place → AreRowsOf b (rows_of (slice_set held place rows) b)
    elsewhere ne = subst (AreRowsOf b) (sym (get_or-set_other held place b rows [] ne)) (all b)

    by_place : ((b ≡ place) ⊎ ((b < place) ⊎ (place < b))) → AreRowsOf b (rows_of (slice_set held place rows) b)
    by_place (inl e) = subst (λ a. AreRowsOf a (rows_of (slice_set held place rows) a)) (sym e) at_place
    by_place (inr (inl below)) = elsewhere (λ e. omega arith)
    by_place (inr (inr above)) = elsewhere (λ e. omega arith)

-- one queue has other rows, and all have room for fewer lists
pub queue_set : (spare less : ℕ) (queues : List QueuedRows) (place : ℕ) (queue : QueuedRows) → AreQueues spare queues → less ≤ spare
    → place < length queues → less ≤ queue.spare → AreRowsOf place queue.rows → AreQueues less (slice_set queues place queue)
queue_set spare less queues place queue are le lt room rows = record {
  room = all_set (λ q. less ≤ q.spare) queues place queue room (All-weaker (λ q. spare ≤ q.spare) (λ q. less ≤ q.spare) (λ q s. omega arith) queues are.room);
  rows = subst (λ held. (b : ℕ) → AreRowsOf b (rows_of held b)) (sym (map-set (λ q. q.rows) queues place queue))
      (rows_set (held_by queues) place queue.rows (rw length-map lt) rows are.rows);
}

-- ---- admitting

module _ (spare : ℕ) (queues : List QueuedRows) (are : AreQueues spare queues) (app : ℕ) (within : app < length (held_by queues)) (queue : QueuedRows)
    (is : queue ≡ get_or queues app queue) (more : List Row) where
  abbrev pub after : QueuedRows
  after = record { rows = queue.rows ++ more; spare = queue.spare - 1 }

  within_queues : app < length queues
  within_queues = simp length-map at within

  its_rows : rows_of (held_by queues) app ≡ queue.rows
  its_rows = rows_at queues app queue within_queues is

  pub its_room : spare ≤ queue.spare
  its_room = let room : spare ≤ (get_or queues app queue).spare = All-at (λ (q : QueuedRows). spare ≤ q.spare) queues app queue are.room within_queues in omega (arith, ap (λ (q : QueuedRows). q.spare) is)

  pub rows_admitted : held_by (slice_set queues app after) ≡ slice_set (held_by queues) app (rows_of (held_by queues) app ++ more)
  rows_admitted = map-set (λ (q : QueuedRows). q.rows) queues app after ∙ ap (λ rows. slice_set (held_by queues) app (rows ++ more)) (sym its_rows)

  pub queues_admitted : AreRowsOf app (rows_of (held_by queues) app ++ more) → AreQueues (spare - 1) (slice_set queues app after)
  queues_admitted rows =
      let room = its_room in
      queue_set spare (spare - 1) queues app after are (omega arith) within_queues (omega arith) (subst (λ rs. AreRowsOf app (rs ++ more)) its_rows rows)

-- ---- making room

-- the first `done` queues have room for so many lists, and all hold what they held
pub record HaveRoom (count done : ℕ) (first queues : List QueuedRows) : Type 0 where
  pub held : held_by queues ≡ held_by first
  pub room : AllByRecursion (λ queue. count ≤ queue.spare) (take done queues)

pub none_has_room : (count : ℕ) (queues : List QueuedRows) → HaveRoom count 0 queues queues
none_has_room count queues = record { held = refl; room = tt }

same_rows : (queues : List QueuedRows) (place : ℕ) (queue past : QueuedRows) → queue.rows ≡ (get_or queues place past).rows → held_by (slice_set queues place queue) ≡ held_by queues
same_rows [] place queue past same = refl
same_rows (q ∷ queues) zero queue past same = ap (λ rows. rows ∷ held_by queues) same
same_rows (q ∷ queues) (suc place) queue past same = ap (λ held. q.rows ∷ held) (same_rows queues place queue past same)

pub one_has_room : (count done : ℕ) (first queues : List QueuedRows) (queue past : QueuedRows) → done < length queues
    → queue.rows ≡ (get_or queues done past).rows → count ≤ queue.spare → HaveRoom count done first queues → HaveRoom count (done + 1) first (slice_set queues done queue)
one_has_room count done first queues queue past lt same room so_far = record {
  held = same_rows queues done queue past same ∙ so_far.held;
  room = rw (take_more_set queues done queue lt) (All-push (λ q. count ≤ q.spare) (take done queues) queue so_far.room room);
}

-- ---- none held

none_of : (count b : ℕ) → rows_of (replicate count []) b ≡ []
none_of count b =
    All-get_or (λ (rows : List Row). rows ≡ []) (replicate count []) b [] refl
    (recursion_from_All (λ (rows : List Row). rows ≡ []) (replicate count []) (All-replicate (λ (rows : List Row). rows ≡ []) count [] refl))

pub hold_none : (count : ℕ) (queues : List QueuedRows) → held_by queues ≡ replicate count [] → AreQueues 0 queues
hold_none count queues none = record {
  room = All-of (λ q. 0 ≤ q.spare) (λ q. omega arith) queues;
  rows = λ b. subst (AreRowsOf b) (sym (ap (λ held. rows_of held b) none ∙ none_of count b)) (record { own = tt; order = tt });
}

pub one_more_holds_none : (count : ℕ) (queues : List QueuedRows) → held_by queues ≡ replicate count []
    → held_by (queues ++ record { rows = []; spare = 0 } ∷ []) ≡ replicate (count + 1) []
one_more_holds_none count queues none =
    map-append (λ (q : QueuedRows). q.rows) queues (record { rows = []; spare = 0 } ∷ []) ∙ ap (λ held. held ++ [] ∷ []) none ∙ replicate_more count []

-- ---- whole lists of queues

none_past : {X : Type 0} (n : ℕ) (xs : List X) → length xs ≡ n → drop n xs ≡ []
none_past zero [] is = refl
none_past zero (x ∷ xs) is = absurd (omega arith)
none_past (suc n) [] is = absurd (omega arith)
none_past (suc n) (x ∷ xs) is = none_past n xs (omega arith)

-- a list of the same length, written through a slice
pub written_back : {X : Type 0} (n : ℕ) (before after : List X) → length before ≡ n → length after ≡ n → take n (after ++ drop (length after) before) ≡ after
written_back n before after was is =
    rw (is, none_past n before was, append-nil, ← is) (take-length after)

-- where each holds what it held
pub room_for : (spare count : ℕ) (first queues : List QueuedRows) → held_by queues ≡ held_by first → AreQueues spare first
    → AllByRecursion (λ queue. count ≤ queue.spare) queues → AreQueues count queues
room_for spare count first queues held are room = record { room = room; rows = subst (λ held. (b : ℕ) → AreRowsOf b (rows_of held b)) (sym held) are.rows }

pub no_room_needed : (queues : List QueuedRows) → AllByRecursion (λ queue. 0 ≤ queue.spare) queues
no_room_needed queues = All-of (λ q. 0 ≤ q.spare) (λ q. omega arith) queues

-- where each has the room that it had
pub same_room : (count : ℕ) (first queues : List QueuedRows) → map (λ queue. queue.spare) queues ≡ map (λ queue. queue.spare) first
    → AllByRecursion (λ queue. count ≤ queue.spare) first → AllByRecursion (λ queue. count ≤ queue.spare) queues
same_room count [] [] same room = tt
same_room count [] (q ∷ queues) same room = absurd cc
same_room count (p ∷ first) [] same room = absurd cc
same_room count (p ∷ first) (q ∷ queues) same room =
    let here : q.spare ≡ p.spare = cc in
    let later : map (λ (queue : QueuedRows). queue.spare) queues ≡ map (λ (queue : QueuedRows). queue.spare) first = cc in
    (omega (arith, room.0), same_room count first queues later room.1)

pub same_length : (first queues : List QueuedRows) → held_by queues ≡ held_by first → length queues ≡ length first
same_length first queues same = simp length-map at (ap length same)

-- what a merge leaves
pub queues_left : (spare : ℕ) (first queues : List QueuedRows) → AreQueues spare first
    → map (λ queue. queue.spare) queues ≡ map (λ queue. queue.spare) first → ((b : ℕ) → AreRowsOf b (rows_of (held_by queues) b)) → AreQueues spare queues
queues_left spare first queues are same rows = record { room = same_room spare first queues same are.room; rows = rows }
