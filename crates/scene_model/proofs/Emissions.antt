-- What the rules of an application emit on a port is what each rule that writes this port emits.
use Rattle.std.proofs.Common.{◌≡◌, ℕ, ◌<◌, Bool, true, false, not, cond, List, [], ◌∷◌, length, refl, sym, ap, ◌∙◌, zero, suc, arith}
use Rattle.std.specs.Prelude.{slice_index_or}
use Rattle.std.specs.List.{list_any, AllByRecursion}
use Rattle.std.proofs.lemmas.Bool.{and_parts, not-true}
use Rattle.std.proofs.lemmas.Slice.Eq.{bytes_eq-Decides}
use Rattle.music_base.specs.declared.item.Item.{Item}
use Rattle.music_base.proofs.Lists.{All-flat_map, All-weaker, All-when, none_passes}
use Rattle.scene_model.specs.Ports.{names_differ}
use Rattle.scene_model.specs.Scenes.{no_port}
use Rattle.scene_model.specs.Turns.{Moment, emissions, emitted, port_named, same_name, target_of, with_state}
use Rattle.scene_model.specs.declared.port.PortDecl.{PortDecl}
use Rattle.scene_model.specs.declared.rule.Rule.{Rule}
use Rattle.scene_model.specs.declared.rule.Rule.TheVariants.{When}

-- a rule stands beside its truth value as it stands alone
each_with_state : (R : Rule → Type 0) (rules : List Rule) (state : List Bool)
    → AllByRecursion R rules → AllByRecursion (λ (r : Rule × Bool). R r.0) (with_state rules state)
each_with_state R [] state h = tt
each_with_state R (When input index over output x ∷ rules) (was_over ∷ state) h = (h.0, each_with_state R rules state h.1)
each_with_state R (rule ∷ rules) state h = (h.0, each_with_state R rules state h.1)

-- what holds of all that each of these rules emits on a port holds of the emissions on it
pub emissions-each : (P : Item → Type 0) (R : Rule → Type 0) (m : Moment) (rules : List Rule) (state : List Bool) (name : List ℕ)
    → ((rule : Rule) (was : Bool) → R rule → same_name (target_of rule) name ≡ true → AllByRecursion P (emitted m rule was))
    → AllByRecursion R rules → AllByRecursion P (emissions m (with_state rules state) name)
emissions-each P R m rules state name each h =
    let here : Rule × Bool → List Item = λ r. cond (same_name (target_of r.0) name) (emitted m r.0 r.1) [] in
    All-flat_map P here (with_state rules state)
    (All-weaker (λ (r : Rule × Bool). R r.0) (λ r. AllByRecursion P (here r)) (λ r is. All-when P _ _ (each r.0 r.1 is)) _ (each_with_state R rules state h))

-- where names differ, the port of the name of port p is port p
pub port_named-at : (ports : List PortDecl) (p : ℕ) (name : List ℕ) → names_differ ports ≡ true → p < length ports
    → same_name name (slice_index_or ports p no_port).name ≡ true → port_named ports name ≡ slice_index_or ports p no_port
port_named-at [] p name differ lt same = absurd (omega arith)
port_named-at (x ∷ xs) zero name differ lt same =
    let is : name ≡ x.name = (bytes_eq-Decides name x.name).0 same in
    let back : same_name x.name name ≡ true = (bytes_eq-Decides x.name name).1 (sym is) in
    rw back refl
port_named-at (x ∷ xs) (suc p) name differ lt same =
    let front = and_parts (not (list_any (λ (y : PortDecl). same_name x.name y.name) xs)) (names_differ xs) differ in
    let is : name ≡ (slice_index_or xs p no_port).name = (bytes_eq-Decides name (slice_index_or xs p no_port).name).0 same in
    let apart : same_name x.name (slice_index_or xs p no_port).name ≡ false =
    none_passes (λ (y : PortDecl). same_name x.name y.name) xs p no_port (not-true _ front.0) (omega arith) in
    let other : same_name x.name name ≡ false = ap (same_name x.name) is ∙ apart in
    rw other (port_named-at xs p name front.1 (omega arith) same)
