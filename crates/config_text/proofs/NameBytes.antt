-- What the bytes of names are not.
use Rattle.std.proofs.Common.{◌≡◌, ℕ, ◌<◌, Bool, true, false, not, eqb, leb, ◌&&◌, ◌||◌, List, [], ◌∷◌, length, get_or, refl, inl, inr, arith, lit<}
use Rattle.std.specs.Char.{is_ascii_alphanumeric}
use Rattle.std.specs.List.{list_any, list_all}
use Rattle.std.proofs.lemmas.Bool.{and_parts, or_from, or_cases, leb-true, eqb-true, agree_below, agree_below_at}
use Rattle.music_base.specs.Names.{is_name, is_in_names, begins_name}
use Rattle.config_text.specs.Bytes.{is_text_byte}
use Rattle.config_text.proofs.Firsts.{all-weaker}

below_from_range : (low high b : ℕ) → high < 128 → (leb low b && leb b high) ≡ true → b < 128
below_from_range low high b top within =
    let h = leb-true b high (and_parts (leb low b) (leb b high) within).1 in
    omega (arith, h)

-- a byte of a name is below 128
pub name_below : (b : ℕ) → is_in_names b ≡ true → b < 128
name_below b in_name =
    elim (or_cases (is_ascii_alphanumeric b) (eqb b 95) in_name) [
      | inl letter ↦ elim (or_cases ((leb 48 b && leb b 57) || (leb 65 b && leb b 90)) (leb 97 b && leb b 122) letter) [
        | inl first ↦ elim (or_cases (leb 48 b && leb b 57) (leb 65 b && leb b 90) first) [
          | inl digit ↦ below_from_range 48 57 b (lit< tt) digit
          | inr upper ↦ below_from_range 65 90 b (lit< tt) upper
        ]
        | inr lower ↦ below_from_range 97 122 b (lit< tt) lower
      ]
      | inr line ↦ omega (arith, eqb-true b 95 line)
    ]

-- a test that no byte of a name passes, which computes over all of them
abbrev pub misses_names : (ℕ → Bool) → Bool
misses_names p = agree_below (λ b. is_in_names b && p b) (λ b. false) 128

second_false : (x y : Bool) → x ≡ true → (x && y) ≡ false → y ≡ false
second_false true y first both = both
second_false false y first both = absurd cc

pub name_byte_misses : (p : ℕ → Bool) → misses_names p ≡ true → (b : ℕ) → is_in_names b ≡ true → p b ≡ false
name_byte_misses p misses b in_name =
    second_false (is_in_names b) (p b) in_name (agree_below_at (λ x. is_in_names x && p x) (λ x. false) 128 b misses (name_below b in_name))

pub none_in_name : (p : ℕ → Bool) → misses_names p ≡ true → (xs : List ℕ) → list_all is_in_names xs ≡ true → list_any p xs ≡ false
none_in_name p misses [] all = refl
none_in_name p misses (x ∷ xs) all =
    let parts = and_parts (is_in_names x) (list_all is_in_names xs) all in
    or_from (p x) (list_any p xs) (name_byte_misses p misses x parts.0) (none_in_name p misses xs parts.1)

-- bytes of names are bytes of the text
pub all_text : (xs : List ℕ) → list_all is_in_names xs ≡ true → list_all is_text_byte xs ≡ true
all_text = all-weaker is_in_names is_text_byte (λ b is. not_false (is_text_byte b) (name_byte_misses (λ c. not (is_text_byte c)) refl b is))
  where
    not_false : (t : Bool) → not t ≡ false → t ≡ true
    not_false true e = refl
    not_false false e = absurd cc

-- a name is a first byte and more, all of them bytes of names
pub record NameParts (name : List ℕ) : Type 0 where
  pub some : 0 < length name
  pub all : list_all is_in_names name ≡ true

pub name_parts : (name : List ℕ) → is_name name ≡ true → NameParts name
name_parts name is =
    let a = and_parts (leb 1 (length name) && leb (length name) 64 && begins_name (get_or name 0 0)) (list_all is_in_names name) is in
    let b = and_parts (leb 1 (length name) && leb (length name) 64) (begins_name (get_or name 0 0)) a.0 in
    let d = and_parts (leb 1 (length name)) (leb (length name) 64) b.0 in
    record { some = omega (arith, leb-true 1 (length name) d.0); all = a.1 }
