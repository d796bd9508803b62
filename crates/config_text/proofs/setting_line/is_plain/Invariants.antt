use Rattle.std.proofs.Common.{◌≡◌, take}
use Rattle.std.specs.List.{list_all}
use Rattle.config_text.specs.Inner.{is_plain_byte}
use Rattle.config_text.proofs.setting_line.is_plain.Given as goal

abbrev pub invariant-loop-byte : goal.invariant-loop-byte
invariant-loop-byte l = l.plain ≡ list_all is_plain_byte (take l.byte-index l.bytes)
