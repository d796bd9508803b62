-- Parts of a text hold only bytes of the text.
use Rattle.std.proofs.Common.{◌≡◌, ℕ, zero, suc, ◌-◌, Bool, true, false, not, List, [], ◌∷◌, length, take, drop, refl}
use Rattle.std.specs.List.{list_all, list_any, prefix_len}
use Rattle.std.proofs.lemmas.Bool.{and_parts, and_from, not_from_false}
use Rattle.music_base.specs.Blanks.{is_blank}
use Rattle.config_text.specs.Bytes.{is_text_byte, is_quote}
use Rattle.config_text.specs.Parts.{trimmed, is_value, between_ends, without_leading_blanks}
use Rattle.config_text.specs.Contents.{is_quoted}

pub list_all-take : (p : ℕ → Bool) (n : ℕ) (xs : List ℕ) → list_all p xs ≡ true → list_all p (take n xs) ≡ true
list_all-take p zero xs all = refl
list_all-take p (suc n) [] all = refl
list_all-take p (suc n) (x ∷ xs) all =
    let parts = and_parts (p x) (list_all p xs) all in
    and_from (p x) _ parts.0 (list_all-take p n xs parts.1)

pub list_all-drop : (p : ℕ → Bool) (n : ℕ) (xs : List ℕ) → list_all p xs ≡ true → list_all p (drop n xs) ≡ true
list_all-drop p zero xs all = all
list_all-drop p (suc n) [] all = refl
list_all-drop p (suc n) (x ∷ xs) all = list_all-drop p n xs (and_parts (p x) (list_all p xs) all).1

pub text-trimmed : (xs : List ℕ) → list_all is_text_byte xs ≡ true → list_all is_text_byte (trimmed xs) ≡ true
text-trimmed xs all =
    list_all-take is_text_byte _ (without_leading_blanks xs) (list_all-drop is_text_byte (prefix_len is_blank xs) xs all)

pub quoted_value : (raw : List ℕ) → list_all is_text_byte raw ≡ true → is_quoted raw ≡ true → is_value (between_ends raw) ≡ true
quoted_value raw all quoted =
    let parts = and_parts _ (not (list_any is_quote (between_ends raw))) quoted in
    and_from _ _ (list_all-take is_text_byte (length raw - 2) (drop 1 raw) (list_all-drop is_text_byte 1 raw all)) parts.1

pub plain_value : (raw : List ℕ) → list_all is_text_byte raw ≡ true → list_any is_quote raw ≡ false → is_value raw ≡ true
plain_value raw all plain = and_from _ _ all (not_from_false _ plain)
