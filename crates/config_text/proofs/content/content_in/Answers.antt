use Rattle.std.proofs.Common.{◌≡◌, ℕ, false, eqb, List, [], ◌∷◌, length, get_or, refl, sym}
use Rattle.std.specs.Prelude.{Ok}
use Rattle.std.proofs.lemmas.Bool.{ne_eqb, true≢false}
use Rattle.config_text.specs.declared.link_text.LinkText.{LinkText}
use Rattle.config_text.specs.Connections.{connection_in}
use Rattle.config_text.specs.Contents.{connection, is_setting, content_in}
use Rattle.config_text.specs.Inner.{link_of}
use Rattle.config_text.proofs.content.content_in.Goals as goal

link_read : (content : List ℕ) (link : LinkText) → eqb (length content) 0 ≡ false → (get_or content 0 0 ≡ 91 → ⊥) → is_setting content ≡ false
    → connection_in content ≡ Ok link → content_in content ≡ Ok (connection link)
link_read [] link some plain other is = absurd (true≢false some)
link_read (b ∷ bytes) link some plain other is = rw (ne_eqb b 91 plain, other, is) refl

pub returns-in_ok-connection : goal.returns-in_ok-connection
returns-in_ok-connection c =
    link_read c.args.content.now (link_of c.in_ok-connection.connection) (sym c.if-is_empty.ensures) c.if-content-eq91.false (sym c.if-is_setting.ensures) c.in_ok-connection.ensures
