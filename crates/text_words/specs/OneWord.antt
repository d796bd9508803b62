-- A name and a time as words, and what stands behind the front of one.
use Rattle.std.specs.Prelude.{ℕ, List, length, take, drop, Option, bytes_eq}
use Rattle.std.specs.Result.{result_ok}
use Rattle.music_base.specs.Names.{is_name}
use Rattle.music_base.specs.Times.{time_value}
use Rattle.text_words.specs.Options.{◌when◌}

-- NAME
abbrev pub name_in : List ℕ → Option (List ℕ)
name_in word = word when is_name word

-- a time, in ns
abbrev pub time_in : List ℕ → Option ℕ
time_in word = result_ok (time_value word)

-- what stands behind a front, which has to be this one
abbrev pub behind : List ℕ → List ℕ → Option (List ℕ)
behind front text = drop (length front) text when bytes_eq (take (length front) text) front
