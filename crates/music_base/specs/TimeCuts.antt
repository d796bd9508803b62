-- Where a time text is cut. No public clause cites this module.
use Rattle.std.specs.Prelude.{◌≡◌}
use Rattle.std.specs.List.{list_any}
use Rattle.music_base.specs.Times.{is_exponent_mark, whole, fraction, exponent}
use Rattle.music_base.specs.declared.time_parts.TimeCut.{TimeCut}

-- the parts are those of the text
pub record IsCut (cut : TimeCut) : Type 0 where
  pub whole : cut.whole.now ≡ whole cut.text.now
  pub fraction : cut.fraction.now ≡ fraction cut.text.now
  pub mark : cut.has_mark ≡ list_any is_exponent_mark cut.text.now
  pub exponent : cut.exponent.now ≡ exponent cut.text.now
