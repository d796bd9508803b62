-- The value of a setting of a section.
use Rattle.std.specs.Prelude.{ℕ, List, Option, slice_get}
use Rattle.std.specs.Option.{option_or, option_and_then}
use Rattle.config_text.specs.declared.config.Config.{Config}
use Rattle.config_text.specs.Pairs.{value_of}

-- the section's own value, else the default
unfoldable pub looked_up : Config → ℕ → List ℕ → Option (List ℕ)
looked_up config section name =
    option_or (option_and_then (λ own. value_of own.1 name) (slice_get config.sections section)) (value_of config.defaults name)
