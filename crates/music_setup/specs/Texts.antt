-- The text of each fault, a line with its end.
use Rattle.std.specs.Prelude.{◌≢◌, ℕ, suc, ⊤, ◌<◌, ◌≤◌, List, [], ◌++◌, length, map, slice_index_or, codes, All, Option, Some, None}
use Rattle.std.specs.Fmt.{decimal}
use Rattle.config_text.specs.Pairs.{SectionList, SettingList}
use Rattle.config_text.specs.declared.config.Config.{Config}
use Rattle.config_text.specs.declared.text_kind.TextKind.{TextKind}
use Rattle.config_text.specs.declared.text_kind.TextKind.TheVariants as line
use Rattle.port_table.specs.declared.fault.PortFault.{PortFault}
use Rattle.port_table.specs.declared.fault.PortFault.TheVariants as port
use Rattle.app_scripts.specs.declared.fault.RuleFault.{RuleFault}
use Rattle.app_scripts.specs.declared.fault.RuleFault.TheVariants as rule
use Rattle.port_match.specs.declared.fault.LinkKind.{LinkKind}
use Rattle.port_match.specs.declared.fault.LinkKind.TheVariants.{UnknownApp, UnknownPort, Direction, Kind, Width, Unmapped, PairTwice, ContTwice}
use Rattle.scene_model.specs.Cover.{IsBounded, most_waits}
use Rattle.music_base.specs.Lines.{ended}
use Rattle.scene_model.specs.declared.wait.Wait.{Wait}
use Rattle.cycle_check.specs.CycleTexts.{IsBetween, cycle_text}
use Rattle.music_setup.specs.declared.fault.AppKind.{AppKind}
use Rattle.music_setup.specs.declared.fault.AppKind.TheVariants.{NpText, Binary, TickText, StartText, EndText, TooManySteps, Ports, Rules, TooManyValues}
use Rattle.music_setup.specs.declared.fault.SceneFault.{SceneFault}
use Rattle.music_setup.specs.declared.fault.SceneFault.TheVariants.{StopMissing, StopText, App}
use Rattle.music_setup.specs.declared.fault.SetupFault.{SetupFault}
use Rattle.music_setup.specs.declared.fault.SetupFault.TheVariants as setup

-- ---- a text

abbrev pub kind_name : TextKind → List ℕ
kind_name line.TooLong = codes "TooLong"
kind_name line.BadByte = codes "BadByte"
kind_name line.BadLine = codes "BadLine"
kind_name line.BadName = codes "BadName"
kind_name line.BadWidth = codes "BadWidth"
kind_name line.BadOption = codes "BadOption"
kind_name line.RepeatedSection = codes "RepeatedSection"
kind_name line.RepeatedSetting = codes "RepeatedSetting"
kind_name line.TooManySections = codes "TooManySections"
kind_name line.TooManyLinks = codes "TooManyLinks"

-- a line of the text, and its fault
unfoldable pub text_fault : ℕ → TextKind → List ℕ
text_fault line kind = ended (codes "text fault: line " ++ decimal line ++ codes ": " ++ kind_name kind)

-- ---- ports and rules

-- which one, by its place from 1, and what is wrong with it
abbrev pub at_place : List ℕ → ℕ → List ℕ → List ℕ
at_place what place kind = what ++ decimal place ++ codes ": " ++ kind

abbrev pub at_port : ℕ → List ℕ → List ℕ
at_port place kind = at_place (codes "port ") place kind

abbrev pub at_rule : ℕ → List ℕ → List ℕ
at_rule place kind = at_place (codes "rule ") place kind

-- want of memory has no text
unfoldable pub port_text : PortFault → List ℕ
port_text (port.PortText place) = at_port place (codes "PortText")
port_text (port.MapRepeated place index) = at_port place (codes "MapRepeated")
port_text (port.OutputTwice place index) = at_port place (codes "OutputTwice")
port_text port.Memory = []

unfoldable pub rule_text : RuleFault → List ℕ
rule_text (rule.RuleText place) = at_rule place (codes "RuleText")
rule_text (rule.RulePort place) = at_rule place (codes "RulePort")
rule_text (rule.RuleIndex place) = at_rule place (codes "RuleIndex")
rule_text (rule.RuleAfter place) = at_rule place (codes "RuleAfter")
rule_text (rule.RuleRate place) = at_rule place (codes "RuleRate")
rule_text rule.Memory = []

-- ---- a scene

abbrev pub app_text : AppKind → List ℕ
app_text NpText = codes "NpText"
app_text Binary = codes "Binary"
app_text TickText = codes "TickText"
app_text StartText = codes "StartText"
app_text EndText = codes "EndText"
app_text TooManySteps = codes "TooManySteps"
app_text (Ports fault) = port_text fault
app_text (Rules fault) = rule_text fault
app_text TooManyValues = codes "TooManyValues"

abbrev pub no_section : List ℕ × SettingList
no_section = ([], [])

-- the name of application a, which is that of its section
abbrev pub app_name : Option Config → ℕ → List ℕ
app_name None a = []
app_name (Some config) a = (slice_index_or config.sections a no_section).0

unfoldable pub scene_text : Option Config → SceneFault → List ℕ
scene_text config StopMissing = codes "StopMissing"
scene_text config StopText = codes "StopText"
scene_text config (App a kind) = codes "application " ++ app_name config a ++ codes ": " ++ app_text kind

-- ---- a connection

abbrev pub link_kind_name : LinkKind → List ℕ
link_kind_name UnknownApp = codes "UnknownApp"
link_kind_name UnknownPort = codes "UnknownPort"
link_kind_name Direction = codes "Direction"
link_kind_name Kind = codes "Kind"
link_kind_name Width = codes "Width"
link_kind_name Unmapped = codes "Unmapped"
link_kind_name PairTwice = codes "PairTwice"
link_kind_name ContTwice = codes "ContTwice"

-- a connection by its place from 1, and its fault
unfoldable pub link_text : ℕ → LinkKind → List ℕ
link_text place kind = ended (at_place (codes "link fault: connection ") (suc place) (link_kind_name kind))

-- ---- a cycle

-- the names of sections, in their order
abbrev pub names_in : SectionList → List (List ℕ)
names_in sections = map (λ (section : List ℕ × SettingList). section.0) sections

-- the names of the applications, which are those of the sections
abbrev pub app_names : Option Config → List (List ℕ)
app_names None = []
app_names (Some config) = names_in config.sections

-- ---- all faults

-- the text of a fault of a configuration, or of a text that is none. Want of memory has none
unfoldable pub text_of_fault : Option Config → SetupFault → List ℕ
text_of_fault config (setup.Text line kind) = text_fault line kind
text_of_fault config (setup.Scene fault) = ended (codes "scene fault: " ++ scene_text config fault)
text_of_fault config (setup.Link place what) = link_text place what
text_of_fault config (setup.Uncovered cycle) = cycle_text (app_names config) cycle.0.items
text_of_fault config setup.Memory = []

-- application a stands in the configuration
abbrev pub HasApp : Option Config → ℕ → Type 0
HasApp None a = ⊥
HasApp (Some config) a = a < length config.sections

-- a fault of ports or rules that has a text: want of memory is none
abbrev pub HasKindText : AppKind → Type 0
HasKindText (Ports fault) = fault ≢ port.Memory
HasKindText (Rules fault) = fault ≢ rule.Memory
HasKindText _ = ⊤

-- the application that the fault names stands in the configuration, and what is wrong with it has a text
abbrev pub IsOfConfig : Option Config → SceneFault → Type 0
IsOfConfig config StopMissing = ⊤
IsOfConfig config StopText = ⊤
IsOfConfig config (App a kind) = HasApp config a × HasKindText kind

-- a cycle of n applications whose numbers and length are within bounds
pub record HasCycleText (n : ℕ) (cycle : List Wait) : Type 0 where
  pub between : All (IsBetween n) cycle
  pub bounded : All IsBounded cycle
  pub short : length cycle ≤ most_waits

-- the fault is no want of memory, and what it names stands in the configuration
abbrev pub HasText : Option Config → SetupFault → Type 0
HasText config (setup.Text _ _) = ⊤
HasText config (setup.Scene fault) = IsOfConfig config fault
HasText config (setup.Link _ _) = ⊤
HasText config (setup.Uncovered cycle) = HasCycleText (length (app_names config)) cycle.0.items
HasText config setup.Memory = ⊥
