-- One more option is read.
use Rattle.std.proofs.Common.{◌≡◌, ℕ, true, false, List, [], ◌∷◌, Some, refl}
use Rattle.scene_model.specs.declared.port.PortKind.{PortKind}
use Rattle.scene_model.specs.declared.port.Direction.{Direction}
use Rattle.port_table.specs.declared.options.Options.{Options}
use Rattle.port_table.specs.Options.{is_flag, flag_in, valued_in, options_in}

pub flag_next : (direction : Direction) (kind : PortKind) (options more : Options) (word : List ℕ) (words : List (List ℕ))
    → is_flag word ≡ true → flag_in direction kind options word ≡ Some more → options_in direction kind options (word ∷ words) ≡ options_in direction kind more words
flag_next direction kind options more word [] flag e = rw (flag, e) refl
flag_next direction kind options more word (value ∷ words) flag e = rw (flag, e) refl

pub value_next : (direction : Direction) (kind : PortKind) (options more : Options) (word value : List ℕ) (words : List (List ℕ))
    → is_flag word ≡ false → valued_in direction kind options word value ≡ Some more → options_in direction kind options (word ∷ value ∷ words) ≡ options_in direction kind more words
value_next direction kind options more word value words flag e = rw (flag, e) refl
