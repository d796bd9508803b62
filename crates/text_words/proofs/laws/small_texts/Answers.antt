-- Each side computes.
use Rattle.std.proofs.Common.{refl}
use Rattle.text_words.specs.Words.{words, declarations}
use Rattle.music_base.specs.Counts.{count_up_to}
use Rattle.text_words.specs.Numbers.{signed_within, millionths, fixed}
use Rattle.text_words.proofs.laws.small_texts.Goals as goal

pub returns : goal.returns
unfolding words declarations count_up_to signed_within millionths fixed
returns c = record {
  two_words = refl;
  tabs_part_words = refl;
  blanks_have_no_word = refl;
  blank_pieces_are_skipped = refl;
  nothing_declares_nothing = refl;
  leading_zeros = refl;
  greatest_count = refl;
  count_above_the_most = refl;
  no_digit = refl;
  count_with_a_sign = refl;
  plus = refl;
  minus = refl;
  minus_zero = refl;
  sign_alone = refl;
  below_the_least = refl;
  half_below_zero = refl;
  whole_number = refl;
  one_millionth = refl;
  seven_digits_behind_the_point = refl;
  thirteen_digits_before_it = refl;
  nothing_behind_the_point = refl;
  nothing_before_the_point = refl;
  fixed_with_plus = refl;
}
