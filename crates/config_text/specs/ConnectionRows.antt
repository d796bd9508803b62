-- Some connections by name.
use Rattle.std.specs.Prelude.{ℕ, Option, Result, Ok, codes}
use Rattle.config_text.specs.declared.link_text.LinkText.{LinkText}
use Rattle.config_text.specs.declared.text_kind.TextKind.{TextKind}
use Rattle.config_text.specs.Contents.{Content, connection}

-- from a.b to c.d, with the width, the latency and the buffer that are stated
abbrev pub ab_to_cd : Option ℕ → Option ℕ → Option ℕ → LinkText
ab_to_cd width latency buffered = record {
  from_app = codes "a";
  from_port = codes "b";
  to_app = codes "c";
  to_port = codes "d";
  width = width;
  latency = latency;
  buffered = buffered;
}

-- what is read of a line that says it
abbrev pub reads_ab_to_cd : Option ℕ → Option ℕ → Option ℕ → Result Content TextKind
reads_ab_to_cd width latency buffered = Ok (connection (ab_to_cd width latency buffered))
