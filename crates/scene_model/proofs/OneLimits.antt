-- A scene has one list of limits.
use Rattle.std.proofs.Common.{◌≡◌, ℕ, zero, suc, ◌+◌, ◌<◌, ◌≤◌, refl, sym, ◌∙◌, ap, subst, ◌⊎◌, inl, inr, arith, List, [], ◌∷◌, ◌++◌, length, take, drop, map, Option, None, Some}
use Rattle.std.specs.Prelude.{slice_index}
use Rattle.std.proofs.lemmas.Bool.{cases_lt}
use Rattle.std.proofs.lemmas.List.{take_more}
use Rattle.std.proofs.lemmas.Grind.{same_number_lists}
use Rattle.scene_model.specs.declared.scene.Scene.{Scene}
use Rattle.scene_model.specs.Cover.{AllCovered}
use Rattle.scene_model.specs.Waits.{waits, counting, stated, stated_limits, IsLimit, AreLimits}
use Rattle.scene_model.proofs.Cycles.{covered_or_not}

-- of two limits after the same ones, neither is less: the greater has a cycle at the less that is not covered
not_less : (scene : Scene) (xs ys : List ℕ) (c : ℕ) → take c xs ≡ take c ys → (o : Option ℕ) → IsLimit scene xs c o → IsLimit scene ys c o → slice_index xs c < slice_index ys c → ⊥
not_less scene xs ys c same (Some m) x y less = let e : slice_index xs c ≡ m = x in let f : slice_index ys c ≡ m = y in omega arith
not_less scene xs ys c same None x y less =
    let e : counting scene xs c (slice_index xs c) ≡ counting scene ys c (slice_index xs c) = ap (λ front. map (λ m. Some m) front ++ (Some (slice_index xs c) ∷ drop (suc c) (stated_limits scene))) same in
    let covered : AllCovered (waits scene (counting scene ys c (slice_index xs c))) = subst (λ limits. AllCovered (waits scene limits)) e x.covered in
    covered_or_not (waits scene (counting scene ys c (slice_index xs c))) covered (y.least (slice_index xs c) x.some less)

module _ (scene : Scene) (xs ys : List ℕ) (x : AreLimits scene xs) (y : AreLimits scene ys) where
  same_at : (c : ℕ) → c < length xs → take c xs ≡ take c ys → slice_index xs c ≡ slice_index ys c
  same_at c lt same = go (cases_lt (slice_index xs c) (slice_index ys c)) (cases_lt (slice_index ys c) (slice_index xs c))
    where
      at_x : IsLimit scene xs c (stated scene c)
      at_x = x.each c lt

      at_y : IsLimit scene ys c (stated scene c)
      at_y = y.each c (omega (arith, x.counted, y.counted))

      go : (slice_index xs c < slice_index ys c) ⊎ (slice_index ys c ≤ slice_index xs c) → (slice_index ys c < slice_index xs c) ⊎ (slice_index xs c ≤ slice_index ys c) → slice_index xs c ≡ slice_index ys c
      go (inl less) any = absurd (not_less scene xs ys c same (stated scene c) at_x at_y less)
      go (inr ge) (inl less) = absurd (not_less scene ys xs c (sym same) (stated scene c) at_y at_x less)
      go (inr ge) (inr le) = omega arith

  same_front : (c : ℕ) → c ≤ length xs → take c xs ≡ take c ys
  same_front zero le = refl
  same_front (suc c) le =
      let front = same_front c (omega arith) in
      let here : slice_index xs c ≡ slice_index ys c = same_at c le front in
      let one : suc c ≡ c + 1 = omega arith in
      let more_x = take_more xs c 0 le in
      let more_y = take_more ys c 0 (omega (arith, x.counted, y.counted)) in
      rw one (more_x ∙ (ap (λ zs. zs ++ (slice_index xs c ∷ [])) front ∙ ap (λ n. take c ys ++ (n ∷ [])) here) ∙ sym more_y)

pub limits_same : (scene : Scene) (xs ys : List ℕ) → AreLimits scene xs → AreLimits scene ys → xs ≡ ys
limits_same scene xs ys x y = same_number_lists xs ys (x.counted ∙ sym y.counted) (λ c lt. same_at scene xs ys x y c lt (same_front scene xs ys x y c (omega arith)))
