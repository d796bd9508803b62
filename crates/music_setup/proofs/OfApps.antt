-- What the parts of an application, and the sections, give.
use Rattle.std.proofs.Common.{◌≡◌, ◌≤◌, true, ◌&&◌, nat_le, List, length, refl}
use Rattle.std.specs.Prelude.{Result}
use Rattle.std.specs.List.{list_all}
use Rattle.std.proofs.lemmas.Bool.{and_parts, leb-true}
use Rattle.config_text.specs.Lawful.{are_sections, is_lawful_section}
use Rattle.config_text.specs.Pairs.{SectionList, has_own_keys}
use Rattle.scene_model.specs.Limits.{most_apps}
use Rattle.text_words.specs.InTurn.{◌>>=◌, faults_as}
use Rattle.scene_model.specs.declared.port.PortDecl.{PortDecl}
use Rattle.scene_model.specs.declared.rule.Rule.{Rule}
use Rattle.port_table.specs.Ports as ports
use Rattle.port_table.specs.declared.fault.PortFault.{PortFault}
use Rattle.port_table.specs.declared.fault.PortFault.TheVariants as port
use Rattle.app_scripts.specs.Rules as rules
use Rattle.app_scripts.specs.declared.fault.RuleFault.{RuleFault}
use Rattle.app_scripts.specs.declared.fault.RuleFault.TheVariants as rule
use Rattle.music_setup.specs.Faults.{IsAppFault, of_ports, of_rules}
use Rattle.music_setup.specs.declared.fault.AppKind.{AppKind}
use Rattle.music_setup.specs.declared.fault.AppKind.TheVariants.{Ports, Rules}
use Rattle.music_setup.specs.declared.fault.AppFault.{AppFault}
use Rattle.music_setup.specs.declared.fault.AppFault.TheVariants.{Kind, NoMemory}

pub ports_fault : (reading : Result (List PortDecl) PortFault) (fault : PortFault) → ports.IsFaultOf reading fault → IsAppFault (faults_as Ports reading) (of_ports fault)
ports_fault reading port.Memory is = tt
ports_fault reading (port.PortText place) is = rw is refl
ports_fault reading (port.MapRepeated place index) is = rw is refl
ports_fault reading (port.OutputTwice place index) is = rw is refl

pub rules_fault : (reading : Result (List Rule) RuleFault) (fault : RuleFault) → rules.IsFaultOf reading fault → IsAppFault (faults_as Rules reading) (of_rules fault)
rules_fault reading rule.Memory is = tt
rules_fault reading (rule.RuleText place) is = rw is refl
rules_fault reading (rule.RulePort place) is = rw is refl
rules_fault reading (rule.RuleIndex place) is = rw is refl
rules_fault reading (rule.RuleAfter place) is = rw is refl
rules_fault reading (rule.RuleRate place) is = rw is refl

-- a step that is faulty ends the reading
pub fault_goes_on : {A B : Type 0} (reading : Result A AppKind) (next : A → Result B AppKind) (fault : AppFault) → IsAppFault reading fault → IsAppFault (reading >>= next) fault
fault_goes_on reading next NoMemory is = tt
fault_goes_on reading next (Kind kind) is = rw is refl

-- a configuration has no more sections than a scene applications
pub few_sections : (sections : SectionList) → are_sections sections ≡ true → length sections ≤ most_apps
few_sections sections lawful =
    leb-true (length sections) most_apps (and_parts (list_all is_lawful_section sections && has_own_keys sections) (nat_le (length sections) most_apps) lawful).1
