-- The configuration that is made from a number: a ring of applications, each of which sends events and values to the next.
use Rattle.std.specs.Prelude.{ℕ, ◌+◌, ◌*◌, ◌%◌, List, [], ◌∷◌, ◌++◌, map, Some, None, codes}
use Rattle.std.specs.Fmt.{decimal}
use Rattle.std.specs.List.{flat_map}
use Rattle.music_base.specs.Numbers.{below}
use Rattle.music_base.specs.Times.{canonical_time}
use Rattle.config_text.specs.Pairs.{SettingList}
use Rattle.config_text.specs.declared.config.Config.{Config}
use Rattle.config_text.specs.declared.link_text.LinkText.{LinkText}

-- how many applications there are
abbrev pub app_count : ℕ → ℕ
app_count n = 2 + n % 7

-- the stop, in ns: 1 to 5 seconds
abbrev pub stop_of : ℕ → ℕ
stop_of n = (1 + n % 5) * 1_000_000_000

-- the tick of application i, in ns: 1 to 3 milliseconds
abbrev pub tick_of : ℕ → ℕ → ℕ
tick_of n i = (1 + (n + i) % 3) * 1_000_000

-- the ranks of application i: one or two
abbrev pub ranks_of : ℕ → ℕ → ℕ
ranks_of n i = 1 + (n + i) % 2

-- ---- settings

abbrev pub default_settings : ℕ → SettingList
default_settings n = (codes "stoptime", canonical_time (stop_of n)) ∷ (codes "binary", codes "script") ∷ []

-- a0, a1 and so on
abbrev pub app_name : ℕ → List ℕ
app_name i = codes "a" ++ decimal i

-- events and values, in and out
abbrev pub ports_text : List ℕ
ports_text = codes "out event out split:0+100; in event in split:0+100 latency 0.01; out cont c split:0+4; in cont d split:0+4 delay 0.01"

-- application i emits events of index i, passes on those that it gets, and changes the values
abbrev pub rules_text : ℕ → List ℕ
rules_text i =
    codes "emit out "
    ++ decimal i
    ++ codes " every 0.002 from 0.0005; pass in to out shift 10 after 0; copy d to c scale 1/2 add 0.25; ramp c 0 from 0 by 0.001"

abbrev pub app_settings : ℕ → ℕ → SettingList
app_settings n i =
    (codes "np", decimal (ranks_of n i))
    ∷ (codes "timestep", canonical_time (tick_of n i))
    ∷ (codes "ports", ports_text)
    ∷ (codes "args", rules_text i)
    ∷ []

abbrev pub section_of : ℕ → ℕ → List ℕ × SettingList
section_of n i = (app_name i, app_settings n i)

-- ---- connections

abbrev pub event_link : ℕ → ℕ → LinkText
event_link from to = record {
  from_app = app_name from;
  from_port = codes "out";
  to_app = app_name to;
  to_port = codes "in";
  width = Some 100;
  latency = None;
  buffered = None;
}

abbrev pub value_link : ℕ → ℕ → LinkText
value_link from to = record {
  from_app = app_name from;
  from_port = codes "c";
  to_app = app_name to;
  to_port = codes "d";
  width = Some 4;
  latency = None;
  buffered = None;
}

-- from an application to the next one, and from the last to the first
abbrev pub links_from : ℕ → ℕ → List LinkText
links_from count i = let next = (i + 1) % count in event_link i next ∷ value_link i next ∷ []

-- ---- the whole

unfoldable pub made : ℕ → Config
made n = record {
  defaults = default_settings n;
  sections = map (section_of n) (below (app_count n));
  links = flat_map (links_from (app_count n)) (below (app_count n));
}
