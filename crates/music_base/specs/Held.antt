-- Where a name and a word keep their bytes. No public clause cites this module.
use Rattle.std.specs.Prelude.{ℕ, List}
use Rattle.music_base.specs.declared.name.NameBytes.{NameBytes}
use Rattle.music_base.specs.declared.name.NameBytes.TheVariants as names
use Rattle.music_base.specs.declared.word.WordBytes.{WordBytes}
use Rattle.music_base.specs.declared.word.WordBytes.TheVariants as words

abbrev pub name_bytes : NameBytes → List ℕ
name_bytes (names.Short bytes) = bytes
name_bytes (names.Long bytes) = bytes.value.items

abbrev pub word_bytes : WordBytes → List ℕ
word_bytes (words.Short bytes) = bytes
word_bytes (words.Long bytes) = bytes.value.items
