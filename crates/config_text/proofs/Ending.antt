-- An end of a connection, as the code finds it.
use Rattle.std.proofs.Common.{◌≡◌, ℕ, true, false, ◌&&◌, List, refl}
use Rattle.std.specs.Prelude.{Ok, Err}
use Rattle.std.specs.List.{before_first, after_first}
use Rattle.music_base.specs.Names.{is_name}
use Rattle.config_text.specs.declared.text_kind.TextKind.TheVariants.{BadName}
use Rattle.music_base.specs.Times.{is_point}
use Rattle.config_text.specs.Parts.{trimmed}
use Rattle.config_text.specs.Connections.{end_in}

pub end_found : (text names app port : List ℕ) → names ≡ trimmed text → app ≡ before_first is_point names → port ≡ after_first is_point names
    → (is_name app && is_name port) ≡ true → end_in text ≡ Ok (app, port)
end_found text names app port whole left right are = rw (← whole, ← left, ← right, are) refl

pub end_missing : (text names app port : List ℕ) → names ≡ trimmed text → app ≡ before_first is_point names → port ≡ after_first is_point names
    → (is_name app && is_name port) ≡ false → end_in text ≡ Err BadName
end_missing text names app port whole left right are = rw (← whole, ← left, ← right, are) refl
