-- A fault that is answered is the one that the definitions give. Nothing is said of want of memory.
use Rattle.std.specs.Prelude.{◌≡◌, ⊤, Result, Err}
use Rattle.port_table.specs.declared.fault.PortFault.{PortFault}
use Rattle.port_table.specs.declared.fault.PortFault.TheVariants as port
use Rattle.app_scripts.specs.declared.fault.RuleFault.{RuleFault}
use Rattle.app_scripts.specs.declared.fault.RuleFault.TheVariants as rule
use Rattle.port_match.specs.declared.fault.MatchFault.{MatchFault}
use Rattle.port_match.specs.declared.fault.MatchFault.TheVariants as match
use Rattle.config_text.specs.declared.text_fault.TextFault.{TextFault}
use Rattle.config_text.specs.declared.text_fault.TextFault.TheVariants as text
use Rattle.tick_plan.specs.declared.fault.NegotiateFault.{NegotiateFault}
use Rattle.tick_plan.specs.declared.fault.NegotiateFault.TheVariants as plan
use Rattle.music_setup.specs.declared.fault.AppKind.{AppKind}
use Rattle.music_setup.specs.declared.fault.AppKind.TheVariants.{Ports, Rules}
use Rattle.music_setup.specs.declared.fault.AppFault.{AppFault}
use Rattle.music_setup.specs.declared.fault.AppFault.TheVariants.{Kind, NoMemory}
use Rattle.music_setup.specs.declared.fault.SceneFault.{SceneFault}
use Rattle.music_setup.specs.declared.fault.SetupFault.{SetupFault}
use Rattle.music_setup.specs.declared.fault.SetupFault.TheVariants as setup

-- ---- of an application

abbrev pub IsAppFault : {A : Type 0} → Result A AppKind → AppFault → Type 0
IsAppFault reading NoMemory = ⊤
IsAppFault reading (Kind kind) = reading ≡ Err kind

-- what a fault of its ports is, and one of its rules
abbrev pub of_ports : PortFault → AppFault
of_ports port.Memory = NoMemory
of_ports (port.PortText place) = Kind (Ports (port.PortText place))
of_ports (port.MapRepeated place index) = Kind (Ports (port.MapRepeated place index))
of_ports (port.OutputTwice place index) = Kind (Ports (port.OutputTwice place index))

abbrev pub of_rules : RuleFault → AppFault
of_rules rule.Memory = NoMemory
of_rules (rule.RuleText place) = Kind (Rules (rule.RuleText place))
of_rules (rule.RulePort place) = Kind (Rules (rule.RulePort place))
of_rules (rule.RuleIndex place) = Kind (Rules (rule.RuleIndex place))
of_rules (rule.RuleAfter place) = Kind (Rules (rule.RuleAfter place))
of_rules (rule.RuleRate place) = Kind (Rules (rule.RuleRate place))

-- ---- of a scene

-- the stop or an application has this fault; no other sort is one
abbrev pub IsSceneFault : {A : Type 0} → Result A SceneFault → SetupFault → Type 0
IsSceneFault reading setup.Memory = ⊤
IsSceneFault reading (setup.Scene fault) = reading ≡ Err fault
IsSceneFault reading (setup.Link _ _) = ⊥
IsSceneFault reading (setup.Uncovered _) = ⊥
IsSceneFault reading (setup.Text _ _) = ⊥

-- what a fault of the connections is
abbrev pub of_links : MatchFault → SetupFault
of_links match.Memory = setup.Memory
of_links (match.Link place kind) = setup.Link place kind

-- the stop, an application or a connection has this fault; a cycle is none of these, and that of a text is none of a
-- configuration
abbrev pub IsSetupFault : {A : Type 0} → Result A SetupFault → SetupFault → Type 0
IsSetupFault reading setup.Memory = ⊤
IsSetupFault reading (setup.Scene fault) = reading ≡ Err (setup.Scene fault)
IsSetupFault reading (setup.Link place kind) = reading ≡ Err (setup.Link place kind)
IsSetupFault reading (setup.Uncovered _) = ⊥
IsSetupFault reading (setup.Text _ _) = ⊥

-- ---- of a text and of a plan

-- what a fault of a text is, and what one of a plan
abbrev pub of_text : TextFault → SetupFault
of_text text.Memory = setup.Memory
of_text (text.At line kind) = setup.Text line kind

abbrev pub of_plan : NegotiateFault → SetupFault
of_plan plan.Memory = setup.Memory
of_plan (plan.Uncovered cycle) = setup.Uncovered cycle
