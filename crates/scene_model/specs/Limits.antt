-- The limits of a scene. Each is itself accepted. The greatest time stands in a crate below.
use Rattle.std.specs.Prelude.{ℕ, ◌-◌, ◌^◌}
use Rattle.music_base.specs.declared.limits.TheConstants.{MOST_APPS, MOST_BUFFERED, MOST_LINKS}
use Rattle.index_maps.specs.declared.span.TheConstants.{INDEX_LIMIT}
use Rattle.scene_model.specs.declared.limits.TheConstants.{MOST_RANKS, MOST_PORTS, MOST_RULES, GREATEST_INDEX, LONGEST_TICK, MOST_STEPS, MOST_VALUES, MOST_PERIODS, GREATEST_SHIFT, GREATEST_NUMERATOR, GREATEST_DENOMINATOR}

-- ---- how many there are

-- how many applications a scene has at most, and how many connections
abbrev pub most_apps : ℕ
most_apps = MOST_APPS

abbrev pub most_links : ℕ
most_links = MOST_LINKS

-- how many processes an application has at most, each a rank, how many ports, and how many rules
abbrev pub most_ranks : ℕ
most_ranks = MOST_RANKS

abbrev pub most_ports : ℕ
most_ports = MOST_PORTS

abbrev pub most_rules : ℕ
most_rules = MOST_RULES

-- how many ticks a port may state at most that it buffers
abbrev pub most_buffered : ℕ
most_buffered = MOST_BUFFERED

-- ---- indices

-- the greatest global index, and the greatest width of a connection, which is above each index
abbrev pub greatest_index : ℕ
greatest_index = GREATEST_INDEX

abbrev pub greatest_width : ℕ
greatest_width = INDEX_LIMIT

-- ---- a whole run

-- how many ns lie between two steps of an application at most
abbrev pub longest_tick : ℕ
longest_tick = LONGEST_TICK

-- how many steps an application runs at most
abbrev pub most_steps : ℕ
most_steps = MOST_STEPS

-- how many values its continuous ports put out and read at most, in all of its steps
abbrev pub most_values : ℕ
most_values = MOST_VALUES

-- how many periods of a rule its whole run holds at most
abbrev pub most_periods : ℕ
most_periods = MOST_PERIODS

-- ---- numbers of rules

-- how far from zero a shift of indices and the numerator of a scale may lie, and how great a denominator may be
abbrev pub greatest_shift : ℕ
greatest_shift = GREATEST_SHIFT

abbrev pub greatest_numerator : ℕ
greatest_numerator = GREATEST_NUMERATOR

abbrev pub greatest_denominator : ℕ
greatest_denominator = GREATEST_DENOMINATOR

-- how far from zero a value may lie, in millionths: twelve digits before the point and six behind it
abbrev pub greatest_value : ℕ
greatest_value = 10 ^ 18 - 1
