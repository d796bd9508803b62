-- Lists by place, and the connections of one application.
use Rattle.std.proofs.Common.{ℕ, zero, suc, ◌+◌, ◌<◌, ◌≤◌, ◌≡◌, ◌⊎◌, inl, inr, refl, sym, ◌∙◌, ap, subst, arith, List, [], ◌∷◌, ◌++◌, map, length, Bool, true, false, append-nil}
use Rattle.std.specs.Prelude.{slice_index, slice_index_or, ◌==◌, ◌↔◌, IsTrue}
use Rattle.std.specs.List.{AllByRecursion, filter}
use Rattle.std.proofs.lemmas.Bool.{cases_eq, cases_lt, eq-eqb, eqb-true}
use Rattle.std.proofs.lemmas.List.Elements.{filter-append}
use Rattle.std.proofs.lemmas.List.{get_or_append_left, get_or_read, length-append}
use Rattle.std.proofs.Math.Seq.{get_or-append_seam}
use Rattle.std.proofs.lemmas.List.FromFn.{map-range_with_len_more}
use Rattle.music_base.specs.Numbers.{below}
use Rattle.music_base.proofs.Lists.{All-at, All-below, All-passing, range_with_len-more}
use Rattle.scene_model.specs.Scenes.{receiver, sender}
use Rattle.scene_model.specs.declared.scene.Scene.{Scene}
use Rattle.act_orders.specs.OwnLinks.{into_of, out_of}

pub one_place_more : {X : Type 0} (f : ℕ → X) (i : ℕ) (x : X) (all : List X) → all ≡ map f (below i) → x ≡ f i → all ++ x ∷ [] ≡ map f (below (i + 1))
one_place_more f i x all so_far now = rw (so_far, now) (sym (map-range_with_len_more f 0 i i (omega arith)))

-- ---- lists of those that pass

filter_next : (test : ℕ → Bool) (m : ℕ) → filter test (below (m + 1)) ≡ filter test (below m) ++ filter test (m ∷ [])
filter_next test m = ap (filter test) (range_with_len-more 0 m ∙ ap (λ k. below m ++ k ∷ []) here) ∙ filter-append test (below m) (m ∷ [])
  where
    here : 0 + m ≡ m
    here = omega arith

pub filter_in : (test : ℕ → Bool) (m : ℕ) (xs : List ℕ) → test m ≡ true → xs ≡ filter test (below m) → xs ++ m ∷ [] ≡ filter test (below (m + 1))
filter_in test m xs passes e = let f : filter test (m ∷ []) ≡ m ∷ [] = rw passes refl in ap (λ (ys : List ℕ). ys ++ m ∷ []) e ∙ ap (λ (ys : List ℕ). filter test (below m) ++ ys) (sym f) ∙ sym (filter_next test m)

pub filter_out : (test : ℕ → Bool) (m : ℕ) (xs : List ℕ) → test m ≡ false → xs ≡ filter test (below m) → xs ≡ filter test (below (m + 1))
filter_out test m xs fails e = let f : filter test (m ∷ []) ≡ [] = rw fails refl in e ∙ sym (append-nil (filter test (below m))) ∙ ap (λ (ys : List ℕ). filter test (below m) ++ ys) (sym f) ∙ sym (filter_next test m)

-- one that passes stands at some place
filter_place : (test : ℕ → Bool) (n c : ℕ) → c < n → test c ≡ true → (length (filter test (below c)) < length (filter test (below n))) × (slice_index (filter test (below n)) (length (filter test (below c))) ≡ c)
filter_place test zero c small is = absurd (omega arith)
filter_place test (suc m) c small is = subst (λ k. (length (filter test (below c)) < length (filter test (below k))) × (slice_index (filter test (below k)) (length (filter test (below c))) ≡ c)) one (go (λ l. filter_place test m c l is) (cases_lt c m))
  where
    one : m + 1 ≡ suc m
    one = omega arith

    go : (c < m → (length (filter test (below c)) < length (filter test (below m))) × (slice_index (filter test (below m)) (length (filter test (below c))) ≡ c)) → (c < m) ⊎ (m ≤ c) → (length (filter test (below c)) < length (filter test (below (m + 1)))) × (slice_index (filter test (below (m + 1))) (length (filter test (below c))) ≡ c)
    go back (inl l) =
        let before = back l in
        let e = filter_next test m in
        let long : length (filter test (below (m + 1))) ≡ length (filter test (below m)) + length (filter test (m ∷ [])) = ap (λ (xs : List ℕ). length xs) e ∙ length-append (filter test (below m)) (filter test (m ∷ [])) in
        (omega (arith, before.0, long), ap (λ xs. slice_index xs (length (filter test (below c)))) e ∙ get_or_append_left (filter test (below m)) (filter test (m ∷ [])) 0 (length (filter test (below c))) before.0 ∙ before.1)
    go back (inr g) =
        let same : c ≡ m = omega arith in
        let passes : test m ≡ true = subst (λ k. test k ≡ true) same is in
        let e : filter test (below (m + 1)) ≡ filter test (below m) ++ m ∷ [] = filter_next test m ∙ rw passes refl in
        let long : length (filter test (below (m + 1))) ≡ length (filter test (below m)) + 1 = ap (λ (xs : List ℕ). length xs) e ∙ length-append (filter test (below m)) (m ∷ []) in
        rw same (omega (arith, long), ap (λ xs. slice_index xs (length (filter test (below m)))) e ∙ get_or-append_seam (filter test (below m)) m [] 0)

-- ---- lists of an application's own connections

-- the connections below n of which this end is at the application
abbrev pub listed : (ℕ → ℕ) → ℕ → ℕ → List ℕ
listed end app n = filter (λ c. end c == app) (below n)

module _ (end : ℕ → ℕ) (app n : ℕ) where
  all_small : AllByRecursion (λ c. (c < n) × ((end c == app) ≡ true)) (listed end app n)
  all_small = All-passing (λ c. c < n) (λ c. end c == app) (below n) (All-below (λ c. c < n) n (λ c small. small))

  -- of each connection that is listed is of each connection with this end
  pub by_place : (list : List ℕ) → list ≡ listed end app n → (P : ℕ → Type 0)
      → ((i : ℕ) → i < length list → P (slice_index list i)) ↔ ((c : ℕ) → c < n → end c ≡ app → P c)
  by_place list is P = (there, back)
    where
      there : ((i : ℕ) → i < length list → P (slice_index list i)) → (c : ℕ) → c < n → end c ≡ app → P c
      there each c small to =
          let it = filter_place (λ d. end d == app) n c small (eq-eqb (end c) app to) in
          let F : List ℕ → Type 0 = λ xs. (i : ℕ) → i < length xs → P (slice_index xs i) in
          subst P it.1 (subst F is each (length (filter (λ d. end d == app) (below c))) it.0)

      back : ((c : ℕ) → c < n → end c ≡ app → P c) → (i : ℕ) → i < length list → P (slice_index list i)
      back each i small =
          let F : List ℕ → Type 0 = λ xs. (k : ℕ) → k < length xs → P (slice_index xs k) in
          let at : (k : ℕ) → k < length (listed end app n) → P (slice_index (listed end app n) k) = λ k l.
          let h = All-at (λ c. (c < n) × ((end c == app) ≡ true)) (listed end app n) k 0 all_small l in each _ h.0 (eqb-true (end _) app h.1) in
          subst F (sym is) at i small

pub into_listed : (scene : Scene) (app : ℕ) (list : List ℕ) → list ≡ into_of scene app → list ≡ listed (receiver scene) app (length scene.links)
unfolding into_of
into_listed scene app list is = is

pub out_listed : (scene : Scene) (app : ℕ) (list : List ℕ) → list ≡ out_of scene app → list ≡ listed (sender scene) app (length scene.links)
unfolding out_of
out_listed scene app list is = is

-- what was read at a place
pub read : (xs : List ℕ) (i x : ℕ) → i < length xs → x ≡ slice_index_or xs i x → x ≡ slice_index xs i
read xs i x small e = get_or_read xs i x small e 0

pub read_at : (xs : List ℕ) (i j x : ℕ) → i ≡ j → j < length xs → x ≡ slice_index_or xs i x → x ≡ slice_index xs j
read_at xs i j x e small is = read xs i x (omega (arith, e, small)) is ∙ ap (slice_index xs) e
