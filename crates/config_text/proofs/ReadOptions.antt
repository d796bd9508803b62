-- Options that are read are lawful.
use Rattle.std.proofs.Common.{◌≡◌, ℕ, Bool, true, false, cond, leb, ◌&&◌, List, [], ◌∷◌, refl, subst, Option, Some, None}
use Rattle.std.specs.Prelude.{codes, bytes_eq, is_none, IfSome}
use Rattle.std.specs.List.{list_any, before_first, after_first}
use Rattle.std.specs.Result.{result_ok}
use Rattle.std.specs.Str.Parse.{digits_value}
use Rattle.std.proofs.lemmas.Bool.{and_parts, and_from}
use Rattle.music_base.specs.Counts.{is_count, count_up_to}
use Rattle.music_base.specs.Times.{time_value, greatest_time}
use Rattle.music_base.proofs.TimeRange.{result_ok-time_value}
use Rattle.text_words.specs.Options.{◌>>=◌, ◌when◌}
use Rattle.text_words.specs.Words.{words}
use Rattle.config_text.specs.declared.link_options.LinkOptions.{LinkOptions}
use Rattle.config_text.specs.Bytes.{is_equals}
use Rattle.config_text.specs.Options.{no_options, most_buffered, latency_in, buffered_in, option_named, option_in, options_in_turn, options_in}
use Rattle.config_text.proofs.WrittenOptions.{LawfulOptions}

some_step : {A B : Type 0} (o : Option A) (f : A → Option B) (y : B) → (o >>= f) ≡ Some y → (a : A) × (o ≡ Some a) × (f a ≡ Some y)
some_step None f y e = absurd cc
some_step (Some a) f y e = (a, refl, e)

when_some : {A : Type 0} (x y : A) (t : Bool) → (x when t) ≡ Some y → (t ≡ true) × (x ≡ y)
when_some x y true e = (refl, cc)
when_some x y false e = absurd cc

time_fits : (o : Option ℕ) (time : ℕ) → IfSome o (λ t. leb t greatest_time ≡ true) → o ≡ Some time → leb time greatest_time ≡ true
time_fits None time fits e = absurd cc
time_fits (Some t) time fits e = let same : t ≡ time = cc in rw (← same) fits

counted : (text : List ℕ) (count : ℕ) → count_up_to most_buffered text ≡ Some count → leb count most_buffered ≡ true
unfolding count_up_to
counted text count e = go (is_count text) (leb (digits_value 10 text) most_buffered) refl e
  where
    go : (s t : Bool) → leb (digits_value 10 text) most_buffered ≡ t → cond (s && t) (Some (digits_value 10 text)) None ≡ Some count → leb count most_buffered ≡ true
    go true true is e = let same : digits_value 10 text ≡ count = cc in rw (← same) is
    go true false is e = absurd cc
    go false t is e = absurd cc

keeps_latency : (options more : LinkOptions) (text : List ℕ) → LawfulOptions options → latency_in options text ≡ Some more → LawfulOptions more
keeps_latency options more text lawful e =
    let time = some_step (result_ok (time_value text)) _ more e in
    let set = when_some (record options { latency = Some time.0 }) more (is_none options.latency) time.2 in
    subst LawfulOptions set.1 (record { latency = time_fits (result_ok (time_value text)) time.0 (result_ok-time_value text) time.1; buffered = lawful.buffered })

keeps_buffered : (options more : LinkOptions) (text : List ℕ) → LawfulOptions options → buffered_in options text ≡ Some more → LawfulOptions more
keeps_buffered options more text lawful e =
    let count = some_step (count_up_to most_buffered text) _ more e in
    let set = when_some (record options { buffered = Some count.0 }) more (leb 1 count.0 && is_none options.buffered) count.2 in
    subst LawfulOptions set.1 (record { latency = lawful.latency; buffered = and_from _ _ (and_parts (leb 1 count.0) (is_none options.buffered) set.0).0 (counted text count.0 count.1) })

keeps_named : (options more : LinkOptions) (name value : List ℕ) → LawfulOptions options → option_named options name value ≡ Some more → LawfulOptions more
keeps_named options more name value lawful e = go (bytes_eq name (codes "latency")) (bytes_eq name (codes "buffered")) e
  where
    go : (s t : Bool) → cond s (latency_in options value) (cond t (buffered_in options value) None) ≡ Some more → LawfulOptions more
    go true t e = keeps_latency options more value lawful e
    go false true e = keeps_buffered options more value lawful e
    go false false e = absurd cc

keeps_option : (options more : LinkOptions) (word : List ℕ) → LawfulOptions options → option_in options word ≡ Some more → LawfulOptions more
keeps_option options more word lawful e = go (list_any is_equals word) e
  where
    go : (t : Bool) → cond t (option_named options (before_first is_equals word) (after_first is_equals word)) None ≡ Some more → LawfulOptions more
    go true e = keeps_named options more (before_first is_equals word) (after_first is_equals word) lawful e
    go false e = absurd cc

keeps_all : (options more : LinkOptions) (all : List (List ℕ)) → LawfulOptions options → options_in_turn options all ≡ Some more → LawfulOptions more
keeps_all options more [] lawful e = let same : options ≡ more = cc in subst LawfulOptions same lawful
keeps_all options more (word ∷ others) lawful e =
    let next = some_step (option_in options word) _ more e in
    keeps_all next.0 more others (keeps_option options next.0 word lawful next.1) next.2

pub options_lawful : (text : List ℕ) (options : LinkOptions) → options_in text ≡ Some options → LawfulOptions options
unfolding options_in
options_lawful text options e = keeps_all no_options options (words text) (record { latency = refl; buffered = refl }) e
