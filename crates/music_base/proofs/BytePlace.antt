-- The first place of a byte, as a search for it finds it.
use Rattle.std.proofs.Common.{◌≡◌, ℕ, ◌<◌, List, length, Option, Some, None, not, refl, sym, ap, ◌∙◌, inl, inr, arith}
use Rattle.std.specs.List.{position, position_or_len}
use Rattle.std.proofs.lemmas.Bool.{cases_lt, lt-ltb, le-ltb, true≢false}
use Rattle.std.proofs.lemmas.List.Sums.{passes_at_first, prefix_len_passes}
use Rattle.memchr.specs.Find.{IsFirstByte, is_byte}

pub byte_place_is : (byte : ℕ) (bytes : List ℕ) (r : Option ℕ) → IsFirstByte (is_byte byte) bytes r → r ≡ position (is_byte byte) bytes
byte_place_is byte bytes None h =
    let at = position_or_len (is_byte byte) bytes in
    elim (cases_lt at (length bytes)) [
      | inl lt ↦ absurd (h at (omega arith) lt (passes_at_first (is_byte byte) bytes 0 lt))
      | inr ge ↦ rw (le-ltb _ _ ge) refl
    ]
byte_place_is byte bytes (Some k) h =
    let at = position_or_len (is_byte byte) bytes in
    let within = h.0.high in
    elim (cases_lt at k) [
      | inl before ↦ let lt : at < length bytes = omega (arith, before, within) in absurd (h.0.before at (omega arith) before (passes_at_first (is_byte byte) bytes 0 lt))
      | inr ge ↦ elim (cases_lt k at) [
        | inl behind ↦ absurd (true≢false (sym (prefix_len_passes (λ b. not (is_byte byte b)) bytes k 0 behind) ∙ ap not h.1))
        | inr le ↦ let e : at ≡ k = omega (arith, ge, le) in rw (e, lt-ltb _ _ within) refl
      ]
    ]
