-- Lines of comma-separated fields that need no quotation marks, in a text in memory.
use Rattle.std.specs.Prelude.{◌≡◌, ℕ, Bool, false, List, [], Option, Some, unwrap_or}
use Rattle.std.specs.List.{list_all}
use Rattle.music_base.specs.Names.{is_in_words}
use Rattle.csv.specs.Writing.{default_writer, writer_setup, fields_written, has_written, text_written}
use Rattle.csv.specs.declared.writer.Writer.{Writer}

-- each field has letters, digits, '_', '-' and '.' alone
abbrev pub are_plain : List (List ℕ) → Bool
are_plain fields = list_all (λ field. list_all is_in_words field) fields

-- what a writer wrote, over one whose bytes are its contents
abbrev pub written : {W : Type 0} → (W → Option (List ℕ)) → Writer W → List ℕ
written contents writer = unwrap_or (text_written contents writer) []

-- a writer with the usual settings, over one that tells its contents, of which no line is begun
pub record IsAtLineStart {W : Type 0} (contents : W → Option (List ℕ)) (writer : Writer W) : Type 0 where
  pub setup : writer_setup writer ≡ default_writer
  pub fields : fields_written writer ≡ 0
  pub clean : has_written writer ≡ false
  pub told : text_written contents writer ≡ Some (written contents writer)
