-- Ports by their names and by their places.
use Rattle.std.proofs.Common.{◌+◌, ℕ, suc, ◌≡◌, ◌<◌, List, [], ◌∷◌, length, arith, refl, true, inl, inr}
use Rattle.std.specs.Prelude.{slice_index_or}
use Rattle.std.proofs.lemmas.Bool.{cases_Bool}
use Rattle.std.proofs.lemmas.Slice.Eq.{bytes_eq-Decides}
use Rattle.scene_model.specs.Ports.{names_differ}
use Rattle.scene_model.specs.Scenes.{no_port}
use Rattle.scene_model.specs.Tables.{StepOutput}
use Rattle.scene_model.specs.Turns.{same_name, port_named, items_named}
use Rattle.scene_model.specs.declared.port.PortDecl.{PortDecl}
use Rattle.scene_model.proofs.Emissions.{port_named-at}
use Rattle.rule_turns.specs.Plans.{place_named}

-- the port of a name is the one at its place
pub port_named-place : (ports : List PortDecl) (name : List ℕ) → port_named ports name ≡ slice_index_or ports (place_named ports name) no_port
port_named-place [] name = refl
port_named-place (p ∷ ps) name = elim (cases_Bool (same_name p.name name)) [
  | inl is ↦ rw is refl
  | inr differs ↦ let next : 1 + place_named ps name ≡ suc (place_named ps name) = omega arith in rw (differs, next) (port_named-place ps name)
]

-- and so are its items
pub items_named-place : (ports : List PortDecl) (lists : StepOutput) (name : List ℕ) → length lists ≡ length ports
    → items_named ports lists name ≡ slice_index_or lists (place_named ports name) []
items_named-place [] [] name each = refl
items_named-place [] (l ∷ ls) name each = absurd (omega arith)
items_named-place (p ∷ ps) [] name each = refl
items_named-place (p ∷ ps) (l ∷ ls) name each = elim (cases_Bool (same_name p.name name)) [
  | inl is ↦ rw is refl
  | inr differs ↦
      let next : 1 + place_named ps name ≡ suc (place_named ps name) = omega arith in
      rw (differs, next) (items_named-place ps ls name (omega arith))
]

-- an equal name is the name
pub name_is : (x y : List ℕ) → same_name x y ≡ true → x ≡ y
name_is x y is = (bytes_eq-Decides x y).0 is

-- where names differ, the port of the name of port p is port p
pub port_of_own_name : (ports : List PortDecl) (p : ℕ) → names_differ ports ≡ true → p < length ports
    → port_named ports (slice_index_or ports p no_port).name ≡ slice_index_or ports p no_port
port_of_own_name ports p differ lt =
    let name : List ℕ = (slice_index_or ports p no_port).name in
    port_named-at ports p name differ lt ((bytes_eq-Decides name name).1 refl)
