-- The value of an index at its place.
use Rattle.std.proofs.Common.{ℕ, zero, suc, ℤ, ◌+◌, ◌≤◌, ◌≡◌, sym, arith, inl, inr, List, [], ◌∷◌, Option, Some, None}
use Rattle.std.specs.Prelude.{◌==◌, IfSome, slice_get}
use Rattle.std.proofs.lemmas.Bool.{cases_Bool, eqb-true, ne_eqb}
use Rattle.music_base.specs.declared.item.Item.{Item}
use Rattle.music_base.specs.declared.item.Item.TheVariants.{Event, Value, Message}
use Rattle.index_maps.specs.Maps.{indices}
use Rattle.index_maps.proofs.Ascending.{indices-ascends}
use Rattle.scene_model.specs.Tables.{value_in}
use Rattle.scene_model.specs.declared.port.Direction.{Direction}
use Rattle.scene_model.specs.declared.port.Direction.TheVariants.{Input}
use Rattle.scene_model.specs.declared.port.PortDecl.{PortDecl}
use Rattle.scene_model.specs.declared.port.PortKind.{PortKind}
use Rattle.scene_model.specs.declared.port.PortKind.TheVariants.{Values}
use Rattle.rule_turns.specs.Turning.{AreAscending, IsInput, value_of}
use Rattle.rule_turns.proofs.Ascending.{ascending-values}

above : (least : ℕ) (items : List Item) (i g : ℕ) (v : ℤ) → AreAscending least items → value_of g (slice_get items i) ≡ Some v → least ≤ g
above least [] i g v up is = cc
above least (Value h w ∷ items) zero g v up is = elim (cases_Bool (h == g)) [
  | inl t ↦ let same : h ≡ g = eqb-true h g t in omega (arith, same, up.0)
  | inr f ↦ let none : None ≡ Some v = rw f at is in absurd cc
]
above least (Value h w ∷ items) (suc i) g v up is = omega (arith, above (h + 1) items i g v up.1 is, up.0)
above least (Event e ∷ items) i g v up is = absurd up
above least (Message m ∷ items) i g v up is = absurd up

-- where values ascend, one of an index is its value
pub value-here : (least : ℕ) (items : List Item) (i g : ℕ) (v : ℤ) → AreAscending least items → value_of g (slice_get items i) ≡ Some v → v ≡ value_in items g
value-here least [] i g v up is = cc
value-here least (Value h w ∷ items) zero g v up is = elim (cases_Bool (h == g)) [
  | inl t ↦ let same : Some w ≡ Some v = rw t at is in rw t cc
  | inr f ↦ let none : None ≡ Some v = rw f at is in absurd cc
]
value-here least (Value h w ∷ items) (suc i) g v up is =
    let higher : h + 1 ≤ g = above (h + 1) items i g v up.1 is in
    rw (ne_eqb h g (λ same. omega (arith, same, higher))) (value-here (h + 1) items i g v up.1 is)
value-here least (Event e ∷ items) i g v up is = absurd up
value-here least (Message m ∷ items) i g v up is = absurd up

pub found_there : (items : List Item) (i g : ℕ) (found : Option ℤ) → AreAscending 0 items → found ≡ value_of g (slice_get items i) → IfSome found (λ v. v ≡ value_in items g)
found_there items i g None up is = tt
found_there items i g (Some v) up is = value-here 0 items i g v up (sym is)

-- what a continuous input reads ascends
pub read_ascends : (d : Direction) (k : PortKind) (decl : PortDecl) (items : List Item) → d ≡ Input → k ≡ Values → IsInput d k decl items → AreAscending 0 items
read_ascends d k decl items input carries shaped =
    let values = rw (input, carries) at shaped in
    ascending-values 0 (indices decl.map) items (indices-ascends decl.map) values
