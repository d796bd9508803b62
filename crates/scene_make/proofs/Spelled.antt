-- The names and values of a made configuration are lawful, and its connections one application after another.
use Rattle.std.proofs.Common.{◌≡◌, ◌<◌, ◌+◌, ◌*◌, ◌%◌, ◌∙◌, ℕ, zero, suc, zero-add, true, refl, arith, ap, [], ◌∷◌, ◌++◌, map, None, length, length-append}
use Rattle.std.proofs.lemmas.Grind.{flat_map-append}
use Rattle.std.specs.Fmt.{decimal, digits}
use Rattle.std.specs.List.{flat_map}
use Rattle.music_base.proofs.Lists.{range_with_len-more}
use Rattle.music_base.specs.Names.{is_name}
use Rattle.music_base.specs.Numbers.{below}
use Rattle.music_base.specs.Times.{canonical_time}
use Rattle.config_text.specs.Pairs.{value_of}
use Rattle.config_text.specs.Parts.{is_value}
use Rattle.scene_make.specs.Made.{app_name, links_from, ranks_of, rules_text, section_of, stop_of, tick_of}

-- what holds of eight numbers, each by itself
eight : (P : ℕ → Type 0) → P 0 → P 1 → P 2 → P 3 → P 4 → P 5 → P 6 → P 7 → (i : ℕ) → i < 8 → P i
eight P a b c d e f g h zero lt = a
eight P a b c d e f g h (suc zero) lt = b
eight P a b c d e f g h (suc (suc zero)) lt = c
eight P a b c d e f g h (suc (suc (suc zero))) lt = d
eight P a b c d e f g h (suc (suc (suc (suc zero)))) lt = e
eight P a b c d e f g h (suc (suc (suc (suc (suc zero))))) lt = f
eight P a b c d e f g h (suc (suc (suc (suc (suc (suc zero)))))) lt = g
eight P a b c d e f g h (suc (suc (suc (suc (suc (suc (suc zero))))))) lt = h
eight P a b c d e f g h (suc (suc (suc (suc (suc (suc (suc (suc i)))))))) lt = absurd (omega (arith, lt))

pub name_is_name : (i : ℕ) → i < 8 → is_name (app_name i) ≡ true
unfolding digits
name_is_name = eight (λ i. is_name (app_name i) ≡ true) refl refl refl refl refl refl refl refl

pub rules_are_value : (i : ℕ) → i < 8 → is_value (rules_text i) ≡ true
unfolding digits
rules_are_value = eight (λ i. is_value (rules_text i) ≡ true) refl refl refl refl refl refl refl refl

few_are_value : (k : ℕ) → k < 8 → is_value (decimal (1 + k)) ≡ true
unfolding digits
few_are_value = eight (λ k. is_value (decimal (1 + k)) ≡ true) refl refl refl refl refl refl refl refl

ticks_are_value : (k : ℕ) → k < 8 → is_value (canonical_time ((1 + k) * 1_000_000)) ≡ true
unfolding canonical_time digits
ticks_are_value = eight (λ k. is_value (canonical_time ((1 + k) * 1_000_000)) ≡ true) refl refl refl refl refl refl refl refl

stops_are_value : (k : ℕ) → k < 8 → is_value (canonical_time ((1 + k) * 1_000_000_000)) ≡ true
unfolding canonical_time digits
stops_are_value = eight (λ k. is_value (canonical_time ((1 + k) * 1_000_000_000)) ≡ true) refl refl refl refl refl refl refl refl

pub np_is_value : (n i : ℕ) → is_value (decimal (ranks_of n i)) ≡ true
np_is_value n i = few_are_value ((n + i) % 2) (omega arith)

pub tick_is_value : (n i : ℕ) → is_value (canonical_time (tick_of n i)) ≡ true
tick_is_value n i = ticks_are_value ((n + i) % 3) (omega arith)

pub stop_is_value : (n : ℕ) → is_value (canonical_time (stop_of n)) ≡ true
stop_is_value n = stops_are_value (n % 5) (omega arith)

-- no earlier application has the name
pub name_is_new : (n i : ℕ) → i < 8 → value_of (map (section_of n) (below i)) (app_name i) ≡ None
unfolding digits
name_is_new n = eight (λ i. value_of (map (section_of n) (below i)) (app_name i) ≡ None) refl refl refl refl refl refl refl refl

-- with the connections of one application more
pub one_more : (count i : ℕ) → flat_map (links_from count) (below (i + 1)) ≡ flat_map (links_from count) (below i) ++ links_from count i
one_more count i =
    ap (flat_map (links_from count)) (range_with_len-more 0 i ∙ ap (λ k. below i ++ k ∷ []) (zero-add i))
    ∙ flat_map-append (links_from count) (below i) (i ∷ [])

-- two connections for each application
pub count_links : (count i : ℕ) → length (flat_map (links_from count) (below i)) ≡ 2 * i
count_links count zero = refl
count_links count (suc i) =
    let s : suc i ≡ i + 1 = omega arith in
    let more : length (flat_map (links_from count) (below i) ++ links_from count i) ≡ length (flat_map (links_from count) (below i)) + 2 =
    length-append (flat_map (links_from count) (below i)) (links_from count i) in
    let before = count_links count i in
    ap (λ k. length (flat_map (links_from count) (below k))) s ∙ ap length (one_more count i) ∙ omega (arith, more, before)
