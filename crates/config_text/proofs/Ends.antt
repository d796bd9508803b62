-- What stands at the ends of a line: a CR, and blanks.
use Rattle.std.proofs.Common.{◌≡◌, ℕ, suc, ◌+◌, ◌-◌, ◌<◌, Bool, true, false, cond, ltb, eqb, ◌&&◌, List, [], ◌∷◌, ◌++◌, length, take, drop, get_or, refl, sym, ap, ◌∙◌, inl, inr, arith}
use Rattle.std.specs.List.{prefix_len, suffix_len}
use Rattle.std.proofs.lemmas.Bool.{and_parts, cases_Bool, ltb-true, lt-ltb, ne_eqb, eq-eqb, true≢false}
use Rattle.std.proofs.lemmas.List.{length-append, take-append-le, take_all, take_more, reverse-append}
use Rattle.std.proofs.lemmas.List.Sums.{suffix_len-le-length}
use Rattle.music_base.specs.Blanks.{is_blank}
use Rattle.config_text.specs.Parts.{without_cr, without_leading_blanks, without_trailing_blanks, begins_with_blank, ends_with_blank}

pub last_apart : (xs : List ℕ) → 0 < length xs → xs ≡ take (length xs - 1) xs ++ get_or xs (length xs - 1) 0 ∷ []
last_apart xs some =
    let e : length xs - 1 + 1 ≡ length xs = omega arith in
    sym (take_all (length xs) xs (omega arith)) ∙ ap (λ (n : ℕ). take n xs) (sym e) ∙ take_more xs (length xs - 1) 0 (omega arith)

-- ---- a CR at the end

without_cr-push : (front : List ℕ) (b : ℕ) → without_cr (front ++ b ∷ []) ≡ cond (eqb b 13) front (front ++ b ∷ [])
without_cr-push [] b = refl
without_cr-push (a ∷ []) b =
    elim (cases_Bool (eqb b 13)) [ inl is ↦ rw is refl | inr other ↦ rw other refl ]
without_cr-push (a ∷ c ∷ front) b =
    elim (cases_Bool (eqb b 13)) [
      | inl is ↦ let h = without_cr-push (c ∷ front) b in rw is (ap (λ (l : List ℕ). a ∷ l) (rw is at h))
      | inr other ↦ let h = without_cr-push (c ∷ front) b in rw other (ap (λ (l : List ℕ). a ∷ l) (rw other at h))
    ]

pub cr_dropped : (line : List ℕ) → 0 < length line → get_or line (length line - 1) 0 ≡ 13 → take (length line - 1) line ≡ without_cr line
cr_dropped line some is =
    sym (ap without_cr (last_apart line some) ∙ without_cr-push (take (length line - 1) line) (get_or line (length line - 1) 0) ∙ rw (eq-eqb _ 13 is) refl)

pub no_cr : (line : List ℕ) → (0 < length line → get_or line (length line - 1) 0 ≡ 13 → ⊥) → line ≡ without_cr line
no_cr [] other = refl
no_cr (b ∷ line) other =
    let some : 0 < length (b ∷ line) = omega arith in
    last_apart (b ∷ line) some ∙ sym (ap without_cr (last_apart (b ∷ line) some) ∙ without_cr-push (take (length (b ∷ line) - 1) (b ∷ line)) (get_or (b ∷ line) (length (b ∷ line) - 1) 0) ∙ rw (ne_eqb _ 13 (other some)) refl)

-- ---- blanks

pub second_fails : (x y : Bool) → x ≡ true → (x && y) ≡ false → y ≡ false
second_fails true y first both = both
second_fails false y first both = absurd (true≢false (sym first))

pub leading_yes : (bytes : List ℕ) → begins_with_blank bytes ≡ true → (0 < length bytes) × (without_leading_blanks (drop 1 bytes) ≡ without_leading_blanks bytes)
leading_yes [] begins = absurd (true≢false (sym begins))
leading_yes (b ∷ bytes) begins =
    let blank = and_parts (ltb 0 (length (b ∷ bytes))) (is_blank b) begins in
    let e : 1 + prefix_len is_blank bytes ≡ suc (prefix_len is_blank bytes) = omega arith in
    (omega arith, rw (blank.1, e) refl)

pub leading_no : (bytes : List ℕ) → begins_with_blank bytes ≡ false → without_leading_blanks bytes ≡ bytes
leading_no [] begins = refl
leading_no (b ∷ bytes) begins = rw (second_fails (ltb 0 (length (b ∷ bytes))) (is_blank b) (lt-ltb 0 _ (omega arith)) begins) refl

suffix_len-push_yes : (p : ℕ → Bool) (xs : List ℕ) (x : ℕ) → p x ≡ true → suffix_len p (xs ++ x ∷ []) ≡ 1 + suffix_len p xs
suffix_len-push_yes p xs x passes = rw (reverse-append xs (x ∷ []), passes) refl

suffix_len-push_no : (p : ℕ → Bool) (xs : List ℕ) (x : ℕ) → p x ≡ false → suffix_len p (xs ++ x ∷ []) ≡ 0
suffix_len-push_no p xs x fails = rw (reverse-append xs (x ∷ []), fails) refl

pub trailing-push_yes : (xs : List ℕ) (x : ℕ) → is_blank x ≡ true → without_trailing_blanks (xs ++ x ∷ []) ≡ without_trailing_blanks xs
trailing-push_yes xs x blank =
    let le = suffix_len-le-length is_blank xs in
    let len : length (xs ++ x ∷ []) - suffix_len is_blank (xs ++ x ∷ []) ≡ length xs - suffix_len is_blank xs =
    omega (arith, length-append xs (x ∷ []), suffix_len-push_yes is_blank xs x blank) in
    rw len (take-append-le (length xs - suffix_len is_blank xs) xs (x ∷ []) (omega arith))

pub trailing-push_no : (xs : List ℕ) (x : ℕ) → is_blank x ≡ false → without_trailing_blanks (xs ++ x ∷ []) ≡ xs ++ x ∷ []
trailing-push_no xs x other = take_all _ (xs ++ x ∷ []) (omega (arith, suffix_len-push_no is_blank xs x other))

pub trailing_yes : (bytes : List ℕ) → ends_with_blank bytes ≡ true → (0 < length bytes) × (without_trailing_blanks (take (length bytes - 1) bytes) ≡ without_trailing_blanks bytes)
trailing_yes bytes ends =
    let parts = and_parts (ltb 0 (length bytes)) (is_blank (get_or bytes (length bytes - 1) 0)) ends in
    let some = ltb-true 0 (length bytes) parts.0 in
    (some, sym (ap without_trailing_blanks (last_apart bytes some) ∙ trailing-push_yes (take (length bytes - 1) bytes) _ parts.1))

pub trailing_no : (bytes : List ℕ) → ends_with_blank bytes ≡ false → without_trailing_blanks bytes ≡ bytes
trailing_no [] ends = refl
trailing_no (b ∷ bytes) ends =
    let some : 0 < length (b ∷ bytes) = omega arith in
    let other : is_blank (get_or (b ∷ bytes) (length (b ∷ bytes) - 1) 0) ≡ false = second_fails (ltb 0 (length (b ∷ bytes))) _ (lt-ltb 0 _ some) ends in
    ap without_trailing_blanks (last_apart (b ∷ bytes) some) ∙ trailing-push_no (take (length (b ∷ bytes) - 1) (b ∷ bytes)) _ other ∙ sym (last_apart (b ∷ bytes) some)
