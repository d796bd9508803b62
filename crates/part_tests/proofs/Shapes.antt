-- What the inputs of a turn read has the shape that the turn asks for.
use Rattle.std.proofs.Common.{◌≡◌, ℕ, ◌+◌, ◌<◌, List, [], ◌∷◌, ◌++◌, length, get_or, take, refl, ap, subst, arith, inl, inr, add-one, ℤ}
use Rattle.std.proofs.lemmas.Bool.{cases_lt}
use Rattle.std.proofs.lemmas.List.{get_or_append_left, get_or_push, length-append, length-map, get_or-map}
use Rattle.std.proofs.Math.Seq.{take-suc}
use Rattle.music_base.specs.Items.{AreValues}
use Rattle.music_base.specs.declared.item.Item.{Item}
use Rattle.music_base.specs.declared.item.Item.TheVariants.{Event, Value, Message}
use Rattle.scene_model.specs.declared.port.PortDecl.{PortDecl}
use Rattle.scene_model.specs.declared.rule.Rule.{Rule}
use Rattle.rule_turns.specs.Plans.{indices_of, turn_plan, uses_of_port}
use Rattle.rule_turns.specs.declared.plan.PortUses.{PortUses}

values-push : (gs : List ℕ) (items : List Item) (g : ℕ) (v : ℤ) → AreValues gs items → AreValues (gs ++ g ∷ []) (items ++ Value g v ∷ [])
values-push [] [] g v are = (refl, tt)
values-push [] (_ ∷ _) g v are = absurd are
values-push (x ∷ gs) [] g v are = absurd are
values-push (x ∷ gs) (Value global value ∷ items) g v are = (are.0, values-push gs items g v are.1)
values-push (x ∷ gs) (Event e ∷ items) g v are = absurd are
values-push (x ∷ gs) (Message m ∷ items) g v are = absurd are

-- one value more
pub values-next : (gs : List ℕ) (items : List Item) (i d : ℕ) (v : ℤ) → i < length gs → AreValues (take i gs) items
    → AreValues (take (i + 1) gs) (items ++ Value (get_or gs i d) v ∷ [])
values-next gs items i d v lt are = rw (add-one, take-suc gs i d lt) (values-push (take i gs) items (get_or gs i d) v are)

-- one element more, of which the same holds by its place
pub each-push : {X : Type 0} (P : ℕ → X → Type 0) (xs : List X) (x d : X) → ((q : ℕ) → q < length xs → P q (get_or xs q d)) → P (length xs) x
    → (q : ℕ) → q < length (xs ++ x ∷ []) → P q (get_or (xs ++ x ∷ []) q d)
each-push P xs x d each is q lt = elim (cases_lt q (length xs)) [
  | inl before ↦ rw (get_or_append_left xs (x ∷ []) d q before) (each q before)
  | inr past ↦
      let size : length (xs ++ x ∷ []) ≡ length xs + 1 = length-append xs (x ∷ []) in
      let at : length xs ≡ q = omega arith in
      rw (get_or_push xs x d q at) (subst (λ n. P n x) at is)
]

-- ---- the uses of a plan, by port

pub length-uses : (ports : List PortDecl) (rules : List Rule) → length (turn_plan ports rules).ports ≡ length ports
unfolding turn_plan
length-uses ports rules = length-map ports (uses_of_port ports rules)

pub indices-uses : (ports : List PortDecl) (rules : List Rule) (p : ℕ) (d : PortUses) (e : PortDecl) → p < length ports
    → (get_or (turn_plan ports rules).ports p d).indices ≡ indices_of (get_or ports p e)
unfolding turn_plan
indices-uses ports rules p d e lt = ap (λ (uses : PortUses). uses.indices) (get_or-map (uses_of_port ports rules) ports p e d lt)
