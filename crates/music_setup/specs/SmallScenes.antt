-- Small configurations, of which the laws say what they make.
use Rattle.std.specs.Prelude.{ℕ, List, [], ◌∷◌, codes, None, Some}
use Rattle.config_text.specs.Pairs.{SettingList}
use Rattle.config_text.specs.declared.link_text.LinkText.{LinkText}
use Rattle.config_text.specs.declared.config.Config.{Config}
use Rattle.scene_model.specs.declared.scene.AppDecl.{AppDecl}

-- an application that starts at 0 and ticks each nanosecond, three times, and has neither ports nor rules
abbrev pub plain_app : List ℕ → AppDecl
plain_app name = record { name = name; np = 1; start = 0; stop = 3; tick = 1; ports = []; rules = [] }

-- no setting, no section and no connection
abbrev pub nothing : Config
nothing = record { defaults = []; sections = []; links = [] }

-- a script that ticks each nanosecond, three times
abbrev pub defaults : SettingList
defaults = (codes "stoptime", codes "3e-9") ∷ (codes "binary", codes "script") ∷ (codes "timestep", codes "1e-9") ∷ []

-- one application of these settings, beside these defaults
abbrev pub alone : SettingList → Config
alone settings = record { defaults = defaults; sections = (codes "a", settings) ∷ []; links = [] }

-- two of them
abbrev pub both : SettingList → SettingList → Config
both first second = record { defaults = defaults; sections = (codes "a", first) ∷ (codes "b", second) ∷ []; links = [] }

-- a setting
abbrev pub np : List ℕ → List ℕ × List ℕ
np text = (codes "np", text)

abbrev pub binary : List ℕ → List ℕ × List ℕ
binary text = (codes "binary", text)

abbrev pub timestep : List ℕ → List ℕ × List ℕ
timestep text = (codes "timestep", text)

abbrev pub start : List ℕ → List ℕ × List ℕ
start text = (codes "start", text)

abbrev pub stoptime : List ℕ → List ℕ × List ℕ
stoptime text = (codes "stoptime", text)

abbrev pub ports : List ℕ → List ℕ × List ℕ
ports text = (codes "ports", text)

abbrev pub args : List ℕ → List ℕ × List ℕ
args text = (codes "args", text)

-- one application of these settings that ticks each nanosecond, beside a default stop
abbrev pub until : List ℕ → SettingList → Config
until stop settings = record (alone settings) { defaults = stoptime stop ∷ binary (codes "script") ∷ timestep (codes "1e-9") ∷ [] }

-- two applications of these settings, beside a default start
abbrev pub both_from : List ℕ → SettingList → SettingList → Config
both_from text first second = record (both first second) { defaults = start text ∷ defaults }

-- two applications, of which one puts out events and the other reads them, with these connections
abbrev pub joined : List LinkText → Config
joined links = record (both (ports (codes "out event o 0+1") ∷ []) (ports (codes "in event i 0+1") ∷ [])) { links = links }

-- a connection of these ports
abbrev pub from_to : List ℕ → List ℕ → List ℕ → List ℕ → LinkText
from_to a p b q = record { from_app = a; from_port = p; to_app = b; to_port = q; width = None; latency = None; buffered = None }

-- a.o -> b.i
abbrev pub right_one : LinkText
right_one = from_to (codes "a") (codes "o") (codes "b") (codes "i")

-- the same with a latency, and how many blocks are kept
abbrev pub right_one_late : LinkText
right_one_late = record right_one { latency = Some 1; buffered = Some 3 }

-- two that are faulty
abbrev pub back : LinkText
back = from_to (codes "b") (codes "i") (codes "a") (codes "o")

abbrev pub to_none : LinkText
to_none = from_to (codes "a") (codes "o") (codes "c") (codes "i")
