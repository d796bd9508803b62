-- Port by port: what was delivered, and what was read.
use Rattle.std.proofs.Common.{ℕ, ◌+◌, ◌<◌, ◌≤◌, ◌≡◌, ◌⊎◌, inl, inr, refl, sym, ◌∙◌, ap, subst, arith, List, [], ◌∷◌, ◌++◌, map, length, get_or-set_same, get_or-set_other, slice_set}
use Rattle.std.specs.Prelude.{slice_index_or}
use Rattle.std.proofs.lemmas.Bool.{cases_eq, cases_lt}
use Rattle.std.proofs.lemmas.List.{get_or_append_left, get_or_read, get_or-map, length-map}
use Rattle.std.proofs.lemmas.List.FromFn.{map-range_with_len_more}
use Rattle.music_base.specs.Numbers.{below}
use Rattle.music_base.specs.declared.item.Item.{Item}
use Rattle.scene_model.specs.Scenes.{no_port}
use Rattle.scene_model.specs.declared.port.PortDecl.{PortDecl}
use Rattle.scene_model.specs.declared.rule.Rule.{Rule}
use Rattle.rule_turns.specs.Plans.{value_indices, turn_plan, uses_of_port}
use Rattle.rule_turns.specs.declared.plan.PortUses.{PortUses}
use Rattle.rule_turns.specs.declared.plan.TurnPlan.{TurnPlan}
use Rattle.app_turn.specs.PortInboxes.{IsSettled, inbox_at}
use Rattle.app_turn.specs.declared.inbox.PortInbox.{PortInbox}
use Rattle.app_turn.specs.declared.inbox.PortInbox.TheVariants.{Silent}

module _ (first xs : List PortInbox) (i j : ℕ) (x y : PortInbox) (small : i < length xs) (read : x ≡ slice_index_or xs i x)
    (before : (p : ℕ) → p < i → IsSettled j (inbox_at first p) (inbox_at xs p)) (rest : (p : ℕ) → i ≤ p → inbox_at xs p ≡ inbox_at first p) (now : IsSettled j x y) where
  pub first_is : x ≡ inbox_at first i
  first_is = get_or_read xs i x small read Silent ∙ rest i (omega arith)

  pub settled_at : (p : ℕ) → IsSettled j (inbox_at first p) (inbox_at (slice_set xs i y) p)
  settled_at p = go (cases_eq p i) (cases_lt p i)
    where
      go : (p ≡ i) ⊎ (p ≡ i → ⊥) → (p < i) ⊎ (i ≤ p) → IsSettled j (inbox_at first p) (inbox_at (slice_set xs i y) p)
      go (inl e) _ =
          let F : ℕ → Type 0 = λ q. IsSettled j (inbox_at first q) (inbox_at (slice_set xs i y) q) in
          let G : PortInbox → Type 0 = λ z. IsSettled j (inbox_at first i) z in
          let H : PortInbox → Type 0 = λ z. IsSettled j z y in
          subst F (sym e) (subst G (sym (get_or-set_same xs i y Silent small)) (subst H first_is now))
      go (inr ne) (inl l) = let G : PortInbox → Type 0 = λ z. IsSettled j (inbox_at first p) z in subst G (sym (get_or-set_other xs i p y Silent ne)) (before p l)
      go (inr ne) (inr g) = inl (get_or-set_other xs i p y Silent ne ∙ rest p g)

  pub rest_at : (p : ℕ) → i + 1 ≤ p → inbox_at (slice_set xs i y) p ≡ inbox_at first p
  rest_at p g = get_or-set_other xs i p y Silent (λ e. omega (arith, e, g)) ∙ rest p (omega arith)

pub one_read : (f : ℕ → List Item) (i : ℕ) (all : List (List Item)) (items : List Item) → all ≡ map f (below i) → items ≡ f i → all ++ items ∷ [] ≡ map f (below (i + 1))
one_read f i all items so_far now = rw (so_far, now) (sym (map-range_with_len_more f 0 i i (omega arith)))

pub length-plan : (ports : List PortDecl) (rules : List Rule) (plan : TurnPlan) → plan ≡ turn_plan ports rules → length plan.ports ≡ length ports
unfolding turn_plan
length-plan ports rules plan is = ap (λ (q : TurnPlan). length q.ports) is ∙ length-map ports (uses_of_port ports rules)

pub globals_are : (ports : List PortDecl) (rules : List Rule) (plan : TurnPlan) → plan ≡ turn_plan ports rules → (p : ℕ) → p < length ports → (u : PortUses) → u ≡ slice_index_or plan.ports p u
    → u.indices ≡ value_indices (slice_index_or ports p no_port).kind (slice_index_or ports p no_port).map
unfolding turn_plan
globals_are ports rules plan is p small u at =
    let there : p < length plan.ports = omega (arith, length-plan ports rules plan is, small) in
    let e : u ≡ slice_index_or plan.ports p (uses_of_port ports rules no_port) = get_or_read plan.ports p u there at (uses_of_port ports rules no_port) in
    let f : slice_index_or plan.ports p (uses_of_port ports rules no_port) ≡ slice_index_or (map (uses_of_port ports rules) ports) p (uses_of_port ports rules no_port) = ap (λ (q : TurnPlan). slice_index_or q.ports p (uses_of_port ports rules no_port)) is in
    ap (λ (w : PortUses). w.indices) (e ∙ f ∙ get_or-map (uses_of_port ports rules) ports p no_port (uses_of_port ports rules no_port) small)

-- one item list more, where something holds of each
pub one_holds : (P : ℕ → List Item → Type 0) (i : ℕ) (all : List (List Item)) (items : List Item) → length all ≡ i → ((p : ℕ) → p < i → P p (slice_index_or all p [])) → P i items → (p : ℕ) → p < i + 1 → P p (slice_index_or (all ++ items ∷ []) p [])
one_holds P i all items count each now p small = go (cases_lt p i)
  where
    go : (p < i) ⊎ (i ≤ p) → P p (slice_index_or (all ++ items ∷ []) p [])
    go (inl l) = let e : slice_index_or (all ++ items ∷ []) p [] ≡ slice_index_or all p [] = get_or_append_left all (items ∷ []) [] p (omega arith) in rw e (each p l)
    go (inr g) =
        let is : p ≡ i = omega (arith, small, g) in
        let e : slice_index_or (all ++ items ∷ []) i [] ≡ items = ap (λ n. slice_index_or (all ++ items ∷ []) n []) (sym count) ∙ last all in
        rw (is, e) now
      where
        last : (xs : List (List Item)) → slice_index_or (xs ++ items ∷ []) (length xs) [] ≡ items
        last [] = refl
        last (x ∷ xs) = last xs
