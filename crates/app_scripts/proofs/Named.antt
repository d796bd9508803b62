-- The port of a name is the first that has it.
use Rattle.std.proofs.Common.{◌≡◌, ℕ, true, false, List, [], ◌∷◌, refl, inl, inr}
use Rattle.std.specs.Prelude.{unwrap_or, is_some}
use Rattle.std.specs.List.{find}
use Rattle.std.proofs.lemmas.Bool.{cases_Bool}
use Rattle.music_base.specs.Names.{is_name}
use Rattle.scene_model.specs.Scenes.{no_port}
use Rattle.scene_model.specs.Turns.{port_named, same_name}
use Rattle.scene_model.specs.declared.port.PortDecl.{PortDecl}
use Rattle.app_scripts.specs.Rules.{is_named}

-- what stands for an absent port has no NAME
same_name-no_port : (name : List ℕ) → is_name name ≡ true → same_name no_port.name name ≡ false
same_name-no_port [] is = absurd cc
same_name-no_port (b ∷ bytes) is = refl

-- it is what a search finds
pub port_named-find : (ports : List PortDecl) (name : List ℕ) → port_named ports name ≡ unwrap_or (find (is_named name) ports) no_port
port_named-find [] name = refl
port_named-find (port ∷ ports) name = elim (cases_Bool (same_name port.name name)) [
  | inl is ↦ rw is refl
  | inr differs ↦ rw differs (port_named-find ports name)
]

-- it has the name where a search finds one
pub same_name-port_named : (ports : List PortDecl) (name : List ℕ) → is_name name ≡ true
    → same_name (port_named ports name).name name ≡ is_some (find (is_named name) ports)
same_name-port_named [] name is_name = same_name-no_port name is_name
same_name-port_named (port ∷ ports) name is_name = elim (cases_Bool (same_name port.name name)) [
  | inl is ↦ rw (is, is) refl
  | inr differs ↦ rw differs (same_name-port_named ports name is_name)
]

-- for the tests that look a port up
pub ruleset named = (port_named-find, same_name-port_named)
