-- Each connection's place among those of its port.
use Rattle.std.proofs.Common.{ℕ, zero, suc, ◌+◌, ◌<◌, ◌≤◌, ◌≡◌, ◌⊎◌, inl, inr, refl, sym, ◌∙◌, ap, subst, arith, List, [], ◌∷◌, ◌++◌, map, length, Bool, true, false, get_or-set_same, get_or-set_other, slice_set}
use Rattle.std.specs.Prelude.{slice_index, slice_index_or, ◌==◌, ◌&&◌, ◌↔◌, IsTrue}
use Rattle.std.specs.List.{AllByRecursion, filter}
use Rattle.std.proofs.lemmas.Bool.{cases_Bool, cases_eq, cases_lt, eq-eqb, eqb-true}
use Rattle.std.proofs.lemmas.List.Elements.{filter-append}
use Rattle.std.proofs.lemmas.List.{get_or_append_left, length-append}
use Rattle.std.proofs.Math.Seq.{get_or-append_seam}
use Rattle.std.proofs.lemmas.List.FromFn.{map-range_with_len_more}
use Rattle.music_base.specs.Numbers.{below}
use Rattle.music_base.proofs.Lists.{All-at, All-below, All-passing, range_with_len-more}
use Rattle.scene_model.specs.Scenes.{link_at, links_to, receiver, sender}
use Rattle.scene_model.specs.declared.scene.Scene.{Scene}
use Rattle.app_turn.specs.OwnLinks.{IsPlaceOf, into_of, out_of, place_on}

pub filter_next : (test : ℕ → Bool) (m : ℕ) → filter test (below (m + 1)) ≡ filter test (below m) ++ filter test (m ∷ [])
filter_next test m = ap (filter test) (range_with_len-more 0 m ∙ ap (λ k. below m ++ k ∷ []) here) ∙ filter-append test (below m) (m ∷ [])
  where
    here : 0 + m ≡ m
    here = omega arith

pub filter_place : (test : ℕ → Bool) (n c : ℕ) → c < n → test c ≡ true → (length (filter test (below c)) < length (filter test (below n))) × (slice_index (filter test (below n)) (length (filter test (below c))) ≡ c)
filter_place test zero c small is = absurd (omega arith)
filter_place test (suc m) c small is = subst (λ k. (length (filter test (below c)) < length (filter test (below k))) × (slice_index (filter test (below k)) (length (filter test (below c))) ≡ c)) one (go (λ l. filter_place test m c l is) (cases_lt c m))
  where
    one : m + 1 ≡ suc m
    one = omega arith

    go : (c < m → (length (filter test (below c)) < length (filter test (below m))) × (slice_index (filter test (below m)) (length (filter test (below c))) ≡ c)) → (c < m) ⊎ (m ≤ c) → (length (filter test (below c)) < length (filter test (below (m + 1)))) × (slice_index (filter test (below (m + 1))) (length (filter test (below c))) ≡ c)
    go back (inl l) =
        let before = back l in
        let e = filter_next test m in
        let long : length (filter test (below (m + 1))) ≡ length (filter test (below m)) + length (filter test (m ∷ [])) = ap (λ (xs : List ℕ). length xs) e ∙ length-append (filter test (below m)) (filter test (m ∷ [])) in
        (omega (arith, before.0, long), ap (λ xs. slice_index xs (length (filter test (below c)))) e ∙ get_or_append_left (filter test (below m)) (filter test (m ∷ [])) 0 (length (filter test (below c))) before.0 ∙ before.1)
    go back (inr g) =
        let same : c ≡ m = omega arith in
        let passes : test m ≡ true = subst (λ k. test k ≡ true) same is in
        let e : filter test (below (m + 1)) ≡ filter test (below m) ++ m ∷ [] = filter_next test m ∙ rw passes refl in
        let long : length (filter test (below (m + 1))) ≡ length (filter test (below m)) + 1 = ap (λ (xs : List ℕ). length xs) e ∙ length-append (filter test (below m)) (m ∷ []) in
        rw same (omega (arith, long), ap (λ xs. slice_index xs (length (filter test (below m)))) e ∙ get_or-append_seam (filter test (below m)) m [] 0)

pub filter_back : (test : ℕ → Bool) (n i : ℕ) → i < length (filter test (below n)) → length (filter test (below (slice_index (filter test (below n)) i))) ≡ i
filter_back test zero i small = absurd (omega arith)
filter_back test (suc m) i small = subst (λ k. i < length (filter test (below k)) → length (filter test (below (slice_index (filter test (below k)) i))) ≡ i) one (λ s. go (filter_back test m i) s (cases_lt i (length (filter test (below m))))) small
  where
    one : m + 1 ≡ suc m
    one = omega arith

    go : (i < length (filter test (below m)) → length (filter test (below (slice_index (filter test (below m)) i))) ≡ i) → i < length (filter test (below (m + 1))) → (i < length (filter test (below m))) ⊎ (length (filter test (below m)) ≤ i) → length (filter test (below (slice_index (filter test (below (m + 1))) i))) ≡ i
    go back s (inl l) =
        ap (λ xs. length (filter test (below (slice_index xs i)))) (filter_next test m) ∙ ap (λ k. length (filter test (below k))) (get_or_append_left (filter test (below m)) (filter test (m ∷ [])) 0 i l) ∙ back l
    go back s (inr g) = elim (cases_Bool (test m)) [
      | inl passes ↦
          let e : filter test (below (m + 1)) ≡ filter test (below m) ++ m ∷ [] = filter_next test m ∙ rw passes refl in
          let long : length (filter test (below (m + 1))) ≡ length (filter test (below m)) + 1 = ap (λ (xs : List ℕ). length xs) e ∙ length-append (filter test (below m)) (m ∷ []) in
          let at : i ≡ length (filter test (below m)) = omega (arith, long, s, g) in
          let last : slice_index (filter test (below (m + 1))) i ≡ m = ap (λ xs. slice_index xs i) e ∙ ap (slice_index (filter test (below m) ++ m ∷ [])) at ∙ get_or-append_seam (filter test (below m)) m [] 0 in
          ap (λ k. length (filter test (below k))) last ∙ sym at
      | inr fails ↦
          let e : filter test (below (m + 1)) ≡ filter test (below m) ++ [] = filter_next test m ∙ rw fails refl in
          let long : length (filter test (below (m + 1))) ≡ length (filter test (below m)) + 0 = ap (λ (xs : List ℕ). length xs) e ∙ length-append (filter test (below m)) [] in
          absurd (omega (arith, long, s, g))
    ]

-- of an application's port
abbrev leads : Scene → ℕ → ℕ → ℕ → Bool
leads scene app p d = receiver scene d == app && (link_at scene d).to_port == p

pub place_is : (scene : Scene) (app c : ℕ) → c < length scene.links → receiver scene c ≡ app → IsPlaceOf scene app c (place_on scene c)
unfolding place_on
place_is scene app c small to =
    let passes : leads scene app (link_at scene c).to_port c ≡ true = rw (eq-eqb (receiver scene c) app to, eq-eqb (link_at scene c).to_port (link_at scene c).to_port refl) refl in
    let it = filter_place (leads scene app (link_at scene c).to_port) (length scene.links) c small passes in
    let e : place_on scene c ≡ length (filter (leads scene app (link_at scene c).to_port) (below c)) = ap (λ a. length (filter (leads scene a (link_at scene c).to_port) (below c))) to in
    record { within = rw e it.0; is = rw e it.1 }

pub place_back : (scene : Scene) (app p c i : ℕ) → receiver scene c ≡ app → (link_at scene c).to_port ≡ p → i < length (links_to scene app p) → slice_index (links_to scene app p) i ≡ c → place_on scene c ≡ i
unfolding place_on
place_back scene app p c i to port small is =
    let e : place_on scene c ≡ length (filter (leads scene app p) (below c)) = ap (λ a. length (filter (leads scene a (link_at scene c).to_port) (below c))) to ∙ ap (λ q. length (filter (leads scene app q) (below c))) port in
    e ∙ ap (λ k. length (filter (leads scene app p) (below k))) (sym is) ∙ filter_back (leads scene app p) (length scene.links) i small

pub counted_in : (test : ℕ → Bool) (m n : ℕ) → test m ≡ true → n ≡ length (filter test (below m)) → n + 1 ≡ length (filter test (below (m + 1)))
counted_in test m n passes e =
    let f : filter test (below (m + 1)) ≡ filter test (below m) ++ m ∷ [] = filter_next test m ∙ rw passes refl in
    let long : length (filter test (below (m + 1))) ≡ length (filter test (below m)) + 1 = ap (λ (xs : List ℕ). length xs) f ∙ length-append (filter test (below m)) (m ∷ []) in
    omega (arith, long, e)

pub counted_out : (test : ℕ → Bool) (m n : ℕ) → test m ≡ false → n ≡ length (filter test (below m)) → n ≡ length (filter test (below (m + 1)))
counted_out test m n fails e =
    let f : filter test (below (m + 1)) ≡ filter test (below m) ++ [] = filter_next test m ∙ rw fails refl in
    let long : length (filter test (below (m + 1))) ≡ length (filter test (below m)) + 0 = ap (λ (xs : List ℕ). length xs) f ∙ length-append (filter test (below m)) [] in
    omega (arith, long, e)

pub one_place_more : (f : ℕ → ℕ) (i x : ℕ) (all : List ℕ) → all ≡ map f (below i) → x ≡ f i → all ++ x ∷ [] ≡ map f (below (i + 1))
one_place_more f i x all so_far now = rw (so_far, now) (sym (map-range_with_len_more f 0 i i (omega arith)))

-- ---- lists of an application's own connections

-- the connections below n of which this end is at the application
abbrev pub listed : (ℕ → ℕ) → ℕ → ℕ → List ℕ
listed end app n = filter (λ c. end c == app) (below n)

module _ (end : ℕ → ℕ) (app n : ℕ) where
  all_small : AllByRecursion (λ c. (c < n) × ((end c == app) ≡ true)) (listed end app n)
  all_small = All-passing (λ c. c < n) (λ c. end c == app) (below n) (All-below (λ c. c < n) n (λ c small. small))

  -- of each connection that is listed is of each connection with this end
  pub by_place : (list : List ℕ) → list ≡ listed end app n → (P : ℕ → Type 0)
      → ((i : ℕ) → i < length list → P (slice_index list i)) ↔ ((c : ℕ) → c < n → end c ≡ app → P c)
  by_place list is P = (there, back)
    where
      there : ((i : ℕ) → i < length list → P (slice_index list i)) → (c : ℕ) → c < n → end c ≡ app → P c
      there each c small to =
          let it = filter_place (λ d. end d == app) n c small (eq-eqb (end c) app to) in
          let F : List ℕ → Type 0 = λ xs. (i : ℕ) → i < length xs → P (slice_index xs i) in
          subst P it.1 (subst F is each (length (filter (λ d. end d == app) (below c))) it.0)

      back : ((c : ℕ) → c < n → end c ≡ app → P c) → (i : ℕ) → i < length list → P (slice_index list i)
      back each i small =
          let F : List ℕ → Type 0 = λ xs. (k : ℕ) → k < length xs → P (slice_index xs k) in
          let at : (k : ℕ) → k < length (listed end app n) → P (slice_index (listed end app n) k) = λ k l.
          let h = All-at (λ c. (c < n) × ((end c == app) ≡ true)) (listed end app n) k 0 all_small l in each _ h.0 (eqb-true (end _) app h.1) in
          subst F (sym is) at i small

  pub by_place-iff : (list : List ℕ) → list ≡ listed end app n → (P : ℕ → Type 0) (b : Bool)
      → (IsTrue b ↔ ((i : ℕ) → i < length list → P (slice_index list i))) → (IsTrue b ↔ ((c : ℕ) → c < n → end c ≡ app → P c))
  by_place-iff list is P b iff = (λ t. (by_place list is P).0 (iff.0 t), λ each. iff.1 ((by_place list is P).1 each))

  pub listed_small : (list : List ℕ) → list ≡ listed end app n → (i : ℕ) → i < length list → slice_index list i < n
  listed_small list is i small = (by_place list is (λ c. c < n)).1 (λ c l to. l) i small

pub into_listed : (scene : Scene) (app : ℕ) (list : List ℕ) → list ≡ into_of scene app → list ≡ listed (receiver scene) app (length scene.links)
unfolding into_of
into_listed scene app list is = is

pub out_listed : (scene : Scene) (app : ℕ) (list : List ℕ) → list ≡ out_of scene app → list ≡ listed (sender scene) app (length scene.links)
unfolding out_of
out_listed scene app list is = is

-- what was written at the first k of these places stands there still after the next is written
pub written_more : {X : Type 0} (f : ℕ → X) (list : List ℕ) (xs : List X) (d : X) (k c : ℕ) (y : X) → c ≡ slice_index list k → c < length xs → y ≡ f c
    → ((i : ℕ) → i < k → slice_index_or xs (slice_index list i) d ≡ f (slice_index list i))
    → (i : ℕ) → i < k + 1 → slice_index_or (slice_set xs c y) (slice_index list i) d ≡ f (slice_index list i)
written_more f list xs d k c y is small at each i lt = go (cases_eq (slice_index list i) c)
  where
    go : (slice_index list i ≡ c) ⊎ (slice_index list i ≡ c → ⊥) → slice_index_or (slice_set xs c y) (slice_index list i) d ≡ f (slice_index list i)
    go (inl e) = ap (λ n. slice_index_or (slice_set xs c y) n d) e ∙ get_or-set_same xs c y d small ∙ at ∙ ap f (sym e)
    go (inr ne) = get_or-set_other xs c (slice_index list i) y d ne ∙ each i (earlier (cases_eq i k))
      where
        earlier : (i ≡ k) ⊎ (i ≡ k → ⊥) → i < k
        earlier (inl e) = absurd (ne (ap (slice_index list) e ∙ sym is))
        earlier (inr nk) = omega (arith, nk, lt)

pub filter_in : (test : ℕ → Bool) (m : ℕ) (xs : List ℕ) → test m ≡ true → xs ≡ filter test (below m) → xs ++ m ∷ [] ≡ filter test (below (m + 1))
filter_in test m xs passes e = let f : filter test (m ∷ []) ≡ m ∷ [] = rw passes refl in ap (λ (ys : List ℕ). ys ++ m ∷ []) e ∙ ap (λ (ys : List ℕ). filter test (below m) ++ ys) (sym f) ∙ sym (filter_next test m)

pub filter_out : (test : ℕ → Bool) (m : ℕ) (xs : List ℕ) → test m ≡ false → xs ≡ filter test (below m) → xs ≡ filter test (below (m + 1))
filter_out test m xs fails e = let f : filter test (m ∷ []) ≡ [] = rw fails refl in e ∙ sym (append-nil (filter test (below m))) ∙ ap (λ (ys : List ℕ). filter test (below m) ++ ys) (sym f) ∙ sym (filter_next test m)
  where
    append-nil : (ys : List ℕ) → ys ++ [] ≡ ys
    append-nil [] = refl
    append-nil (y ∷ ys) = ap (λ zs. y ∷ zs) (append-nil ys)
