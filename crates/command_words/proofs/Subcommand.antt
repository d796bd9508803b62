-- A subcommand: what `clap` makes of the words behind its name, and what the definition makes of them.
use Rattle.std.proofs.Common.{◌≡◌, ◌∙◌, ◌⊎◌, inl, inr, ℕ, zero, suc, Bool, true, false, cond, List, [], ◌∷◌, ◌++◌, Option, Some, None, is_some, length, ap, sym, refl, subst, true≢false, ◌||◌}
use Rattle.std.specs.Prelude.{slice_get, option_and_then, bytes_eq, fold}
use Rattle.std.specs.Str.{chars}
use Rattle.std.specs.List.{list_any}
use Rattle.clap.specs.Kinds.{Kinds, or_else}
use Rattle.clap.specs.Lexer.{long_of, short_of}
use Rattle.clap.specs.Walk.{Held, Row, Rule, Text, Waiting, Walk, arg_by_id, arg_by_long, arg_by_short, arg_by_index, finished, has_row, idle, option, settled, settled_rows, used, walked, with_default, positional, plain, bundle_met}
use Rattle.clap.specs.Simple.{Shape, new_shape}
use Rattle.clap.specs.Faults.{check_fault, defaults_fault, long_fault, settle_fault, turn_fault, use_fault, walk_fault, flags_fault}
use Rattle.clap.specs.declared.error.kind.ErrorKind.TheVariants as kind
use Rattle.command_words.specs.Words.{Options, no_options, options_from, with_one_word, is_option_name}
use Rattle.command_words.specs.declared.command.Command.{Command}
use Rattle.command_words.proofs.Faulty.{IsFault, first_fault, second_fault, no_fault, fault_stands}
use Rattle.command_words.proofs.Given.{Shows, built_option, get, get_set, id_of, joint, no_number, number_for, put, put_none, put_some, set, shows_more, single, use_again, use_first}
use Rattle.command_words.proofs.Lexed.{joined_tail, long_whole, short_whole}
use Rattle.command_words.proofs.Seen.{AllApart, Sees, Sort, counted, dashes, first_apart, is_joint, is_other, is_single, rest_apart, same_text, seen, sees_bundle, sees_dash, sees_long, sees_plain, sorted}
use Rattle.command_words.proofs.Somes.{some-same, some≢none}

abbrev pub leaf : Text → List Rule → Shape
leaf name rules = record (new_shape name) {
  rules = rules;
  no_binary_name = true;
  disable_help_flag = true;
  disable_help_subcommand = true;
  is_built = true;
}

abbrev pub held : List Row → Option (Text × List Text) → Held
held rows pending = record { rows = rows; pending = pending; skip = 0 }

abbrev pub here : Held → Waiting → Walk
here h waiting = record { held = h; waiting = waiting; position = 1; is_trailing = false; stopped = None }

-- what the rules of a subcommand know
pub record Knows (c : List Rule) (final : Options → Option Command) : Type 0 where
  pub named : (which : Bool) → (arg_by_long c (id_of which) ≡ Some (built_option (id_of which))) ⊎ (arg_by_long c (id_of which) ≡ None)
  pub by_id : (which : Bool) → arg_by_long c (id_of which) ≡ Some (built_option (id_of which)) → arg_by_id c (id_of which) ≡ Some (built_option (id_of which))
  pub others : (text : Text) → ((which : Bool) → text ≡ id_of which → ⊥) → arg_by_long c text ≡ None
  pub no_short : (x : ℕ) → arg_by_short c x ≡ None
  pub no_place : arg_by_index c 1 ≡ None
  pub defaults : (rows : List Row) → fold with_default rows c ≡ rows
  pub no_defaults : (rows : List Row) → defaults_fault rows c ≡ []
  pub checks : (name : Text) (rows : List Row) → check_fault (leaf name c) rows false ≡ []
  pub refuse : (which : Bool) (v : Text) (o : Options) → get which o ≡ Some v → (number_for which v ≡ None) ⊎ (arg_by_long c (id_of which) ≡ None) → final o ≡ None

module _ (name : Text) (c : List Rule) (final : Options → Option Command) (knows : Knows c final) where
  abbrev s : Shape
  s = leaf name c

  abbrev pub after : Walk → List Text → Walk
  after w words = fold (walked c []) w words

  abbrev pub end_fault : Held → Kinds
  end_fault h = or_else (settle_fault c false h) (or_else (defaults_fault (settled c h).rows c) (check_fault s (finished c h) false))

  abbrev pub fault : Walk → List Text → Kinds
  fault w words = or_else (walk_fault s [] w words) (end_fault (after w words).held)

  fault_more : (w next : Walk) (word : Text) (rest : List Text) → turn_fault s [] w word ≡ [] → walked c [] w word ≡ next → fault w (word ∷ rest) ≡ fault next rest
  unfolding walk_fault
  fault_more w next word rest none is = λ i. or_else (or_else (none i) (walk_fault s [] (is i) rest)) (end_fault (after (is i) rest).held)

  fault_stops : (w : Walk) (word : Text) (rest : List Text) → IsFault (turn_fault s [] w word) → fault w (word ∷ rest) ≡ [] → ⊥
  unfolding walk_fault
  fault_stops w word rest is = fault_stands _ (first_fault _ _ (first_fault _ _ is))

  -- options that the subcommand does not know are not given
  abbrev pub Only : Options → Type 0
  Only o = (which : Bool) → arg_by_long c (id_of which) ≡ None → get which o ≡ None

  only_more : (w : Bool) (v : Text) (o : Options) → arg_by_long c (id_of w) ≡ Some (built_option (id_of w)) → Only o → Only (set w o v)
  only_more true v o named only = λ which. elim which as (λ which. arg_by_long c (id_of which) ≡ None → get which (set true o v) ≡ None) [
    | true ↦ λ none. absurd (some≢none (built_option (id_of true)) (sym named ∙ none))
    | false ↦ λ none. only false none
  ]
  only_more false v o named only = λ which. elim which as (λ which. arg_by_long c (id_of which) ≡ None → get which (set false o v) ≡ None) [
    | false ↦ λ none. absurd (some≢none (built_option (id_of false)) (sym named ∙ none))
    | true ↦ λ none. only true none
  ]

  -- the words pass and give the options, or are refused on both sides
  abbrev pub Agrees : Walk → List Text → Option Options → Type 0
  Agrees w words r =
      ((fault w words ≡ []) × (o : Options) × (r ≡ Some o) × Shows (finished c (after w words).held) o × Only o)
      ⊎ ((fault w words ≡ [] → ⊥) × (option_and_then final r ≡ None))

  agrees_more : (w next : Walk) (word : Text) (rest : List Text) (r : Option Options) → turn_fault s [] w word ≡ [] → walked c [] w word ≡ next
      → Agrees next rest r → Agrees w (word ∷ rest) r
  agrees_more w next word rest r none is (inl (passes, o, gives, shows, only)) =
      inl (fault_more w next word rest none is ∙ passes, o, gives, subst (λ (v : Walk). Shows (finished c (after v rest).held) o) (sym is) shows, only)
  agrees_more w next word rest r none is (inr (fails, refused)) = inr ((λ e. fails (sym (fault_more w next word rest none is) ∙ e)), refused)

  -- what is held settles, and shows these options then
  pub record Fine (rows : List Row) (pending : Option (Text × List Text)) (o : Options) : Type 0 where
    pub settles : settle_fault c false (held rows pending) ≡ []
    pub shows : Shows (settled_rows c pending rows) o
    pub only : Only o

  agrees_end : (rows : List Row) (pending : Option (Text × List Text)) (o : Options) → Fine rows pending o → Agrees (here (held rows pending) idle) [] (Some o)
  unfolding walk_fault
  agrees_end rows pending o fine = inl (
    no_fault _ _ fine.settles (no_fault _ _ (knows.no_defaults _) (knows.checks name _)),
    o,
    refl,
    subst (λ xs. Shows xs o) (sym (knows.defaults (settled_rows c pending rows))) fine.shows,
    fine.only,
  )

  -- ---- turns

  long_fails : (r : Option Rule) (v : Option Text) (h : Held) → IsFault (settle_fault c false h) → IsFault (long_fault c false r v h)
  long_fails None v h is = (kind.UnknownArgument, [], refl)
  long_fails (Some a) v h is = go (Rattle.clap.specs.Walk.takes_values a) v
    where
      go : (b : Bool) (v : Option Text) → IsFault (cond b (Rattle.clap.specs.Faults.option_fault c false a v h)
          (cond (is_some v) (kind.TooManyValues ∷ []) (Rattle.clap.specs.Faults.react_fault c false a [] h)))
      go true None = is
      go true (Some v) = first_fault _ _ is
      go false None = first_fault _ _ is
      go false (Some v) = (kind.TooManyValues, [], refl)

  turn_long : (h : Held) (waiting : Waiting) (word : Text) (p : Text × Option Text) → bytes_eq word dashes ≡ false → long_of word ≡ Some p
      → IsFault (long_fault c false (arg_by_long c p.0) p.1 h) → IsFault (turn_fault s [] (here h waiting) word)
  turn_long h idle word p apart is fails = rw (apart, is) (first_fault _ _ fails)
  turn_long h (option id) word p apart is fails = rw (apart, is) (first_fault _ _ fails)
  turn_long h positional word p apart is fails = rw (apart, is) (first_fault _ _ fails)

  turn_plain : (h : Held) (word : Text) → bytes_eq word dashes ≡ false → long_of word ≡ None → short_of word ≡ None → IsFault (turn_fault s [] (here h idle) word)
  turn_plain h word apart no_long no_short = (kind.UnknownArgument, [], rw (apart, no_long, no_short, knows.no_place) refl)

  flags_fail : (n : ℕ) (flags : Text) (x : ℕ) (h : Held) → slice_get (chars flags) 0 ≡ Some x → flags_fault c false (suc n) flags 0 h ≡ kind.UnknownArgument ∷ []
  unfolding flags_fault
  flags_fail n flags x h first = rw (first, knows.no_short x) refl

  turn_bundle : (rows : List Row) (pending : Option (Text × List Text)) (waiting : Waiting) (word flags : Text) (x : ℕ) → bytes_eq word dashes ≡ false
      → long_of word ≡ None → short_of word ≡ Some flags → slice_get (chars flags) 0 ≡ Some x → IsFault (turn_fault s [] (here (held rows pending) waiting) word)
  turn_bundle rows pending waiting word flags x apart no_long is first = go waiting
    where
      fails : IsFault (flags_fault c false (length flags) flags 0 (held rows pending))
      fails =
          let n = counted word flags is in
          (kind.UnknownArgument, [], ap (λ k. flags_fault c false k flags 0 (held rows pending)) n.1 ∙ flags_fail n.0 flags x (held rows pending) first)

      go : (waiting : Waiting) → IsFault (turn_fault s [] (here (held rows pending) waiting) word)
      go idle = rw (apart, no_long, is) (first_fault _ _ fails)
      go (option id) = rw (apart, no_long, is) (first_fault _ _ fails)
      go positional = rw (apart, no_long, is) (first_fault _ _ fails)

  flags_quiet : (n : ℕ) (flags : Text) (h : Held) → slice_get (chars flags) 0 ≡ None → flags_fault c false n flags 0 h ≡ []
  unfolding flags_fault
  flags_quiet zero flags h first = refl
  flags_quiet (suc n) flags h first = rw first refl

  bundle_quiet : (n : ℕ) (flags : Text) (h : Held) → slice_get (chars flags) 0 ≡ None → bundle_met c n flags 0 plain h ≡ (h, plain)
  unfolding bundle_met
  bundle_quiet zero flags h first = refl
  bundle_quiet (suc n) flags h first = rw first refl

  -- a lone hyphen with bytes that are no text behind it, which no word has
  turn_dash : (rows : List Row) (pending : Option (Text × List Text)) (word flags : Text) → bytes_eq word dashes ≡ false → long_of word ≡ None
      → short_of word ≡ Some flags → slice_get (chars flags) 0 ≡ None → IsFault (turn_fault s [] (here (held rows pending) idle) word)
  turn_dash rows pending word flags apart no_long is first =
      (kind.UnknownArgument, [], rw (apart, no_long, is, flags_quiet (length flags) flags (held rows pending) first, bundle_quiet (length flags) flags (held rows pending) first, knows.no_place) refl)

  abbrev awaits : Bool → List Row → Walk
  awaits which rows = here (held rows (Some (id_of which, []))) (option (id_of which))

  abbrev has_value : Bool → List Row → Text → Walk
  has_value which rows v = here (held rows (Some (id_of which, v ∷ []))) idle

  value_plain : (which : Bool) (rows : List Row) (word : Text) → arg_by_id c (id_of which) ≡ Some (built_option (id_of which)) → bytes_eq word dashes ≡ false
      → long_of word ≡ None → short_of word ≡ None → (turn_fault s [] (awaits which rows) word ≡ []) × (walked c [] (awaits which rows) word ≡ has_value which rows word)
  unfolding walked
  value_plain true rows word by apart no_long no_short = (rw (apart, no_long, no_short) refl, rw (apart, no_long, no_short, by) refl)
  value_plain false rows word by apart no_long no_short = (rw (apart, no_long, no_short) refl, rw (apart, no_long, no_short, by) refl)

  value_dash : (which : Bool) (rows : List Row) (word flags : Text) → arg_by_id c (id_of which) ≡ Some (built_option (id_of which)) → bytes_eq word dashes ≡ false
      → long_of word ≡ None → short_of word ≡ Some flags → slice_get (chars flags) 0 ≡ None
      → (turn_fault s [] (awaits which rows) word ≡ []) × (walked c [] (awaits which rows) word ≡ has_value which rows word)
  unfolding walked
  value_dash true rows word flags by apart no_long is first =
      let q = flags_quiet (length flags) flags (held rows (Some (id_of true, []))) first in
      let m = bundle_quiet (length flags) flags (held rows (Some (id_of true, []))) first in
      (rw (apart, no_long, is, q, m) refl, rw (apart, no_long, is, m, by) refl)
  value_dash false rows word flags by apart no_long is first =
      let q = flags_quiet (length flags) flags (held rows (Some (id_of false, []))) first in
      let m = bundle_quiet (length flags) flags (held rows (Some (id_of false, []))) first in
      (rw (apart, no_long, is, q, m) refl, rw (apart, no_long, is, m, by) refl)

  -- an option with its value attached
  turn_joint : (which : Bool) (v : Text) (rows : List Row) (pending : Option (Text × List Text)) → arg_by_long c (id_of which) ≡ Some (built_option (id_of which))
      → turn_fault s [] (here (held rows pending) idle) (joint which v)
      ≡ or_else (or_else (settle_fault c false (held rows pending)) (use_fault false (built_option (id_of which)) (v ∷ []) (settled_rows c pending rows))) []
  turn_joint true v rows pending named = rw named refl
  turn_joint false v rows pending named = rw named refl

  walk_joint : (which : Bool) (v : Text) (rows : List Row) (pending : Option (Text × List Text)) → arg_by_long c (id_of which) ≡ Some (built_option (id_of which))
      → walked c [] (here (held rows pending) idle) (joint which v) ≡ here (held (used (built_option (id_of which)) (v ∷ []) (settled_rows c pending rows)) None) idle
  unfolding walked
  walk_joint true v rows pending named = rw named refl
  walk_joint false v rows pending named = rw named refl

  turn_single : (which : Bool) (rows : List Row) (pending : Option (Text × List Text)) → arg_by_long c (id_of which) ≡ Some (built_option (id_of which))
      → turn_fault s [] (here (held rows pending) idle) (single which) ≡ or_else (settle_fault c false (held rows pending)) []
  turn_single true rows pending named = rw named refl
  turn_single false rows pending named = rw named refl

  walk_single : (which : Bool) (rows : List Row) (pending : Option (Text × List Text)) → arg_by_long c (id_of which) ≡ Some (built_option (id_of which))
      → walked c [] (here (held rows pending) idle) (single which) ≡ awaits which (settled_rows c pending rows)
  unfolding walked
  walk_single true rows pending named = rw named refl
  walk_single false rows pending named = rw named refl

  turn_unknown_joint : (which : Bool) (v : Text) (rows : List Row) (pending : Option (Text × List Text)) → arg_by_long c (id_of which) ≡ None
      → IsFault (turn_fault s [] (here (held rows pending) idle) (joint which v))
  turn_unknown_joint true v rows pending named = (kind.UnknownArgument, [], rw named refl)
  turn_unknown_joint false v rows pending named = (kind.UnknownArgument, [], rw named refl)

  turn_unknown_single : (which : Bool) (rows : List Row) (pending : Option (Text × List Text)) → arg_by_long c (id_of which) ≡ None
      → IsFault (turn_fault s [] (here (held rows pending) idle) (single which))
  turn_unknown_single true rows pending named = (kind.UnknownArgument, [], rw named refl)
  turn_unknown_single false rows pending named = (kind.UnknownArgument, [], rw named refl)

  -- ---- words that neither side takes

  not_named : (which : Bool) (word name : Text) (v : Option Text) → name ≡ id_of which → word ≡ 45 ∷ 45 ∷ (name ++ joined_tail v)
      → (word ≡ single which → ⊥) → ((t : Text) → word ≡ joint which t → ⊥) → ⊥
  not_named true word name None e is nope yep = nope (is ∙ ap (λ n. 45 ∷ 45 ∷ (n ++ [])) e)
  not_named true word name (Some t) e is nope yep = yep t (is ∙ ap (λ n. 45 ∷ 45 ∷ (n ++ 61 ∷ t)) e)
  not_named false word name None e is nope yep = nope (is ∙ ap (λ n. 45 ∷ 45 ∷ (n ++ [])) e)
  not_named false word name (Some t) e is nope yep = yep t (is ∙ ap (λ n. 45 ∷ 45 ∷ (n ++ 61 ∷ t)) e)

  other_fails : (rows : List Row) (pending : Option (Text × List Text)) (word : Text) → bytes_eq word dashes ≡ false
      → ((which : Bool) → word ≡ single which → ⊥) → ((which : Bool) (v : Text) → word ≡ joint which v → ⊥)
      → Sees word → IsFault (turn_fault s [] (here (held rows pending) idle) word)
  other_fails rows pending word apart nope yep (sees_long p e) =
      let none : arg_by_long c p.0 ≡ None = knows.others p.0 (λ which same. not_named which word p.0 p.1 same (long_whole word p e) (nope which) (yep which)) in
      turn_long (held rows pending) idle word p apart e (kind.UnknownArgument, [], rw none refl)
  other_fails rows pending word apart nope yep (sees_bundle flags x l s f) = turn_bundle rows pending idle word flags x apart l s f
  other_fails rows pending word apart nope yep (sees_dash flags l s f) = turn_dash rows pending word flags apart l s f
  other_fails rows pending word apart nope yep (sees_plain l s) = turn_plain (held rows pending) word apart l s

  -- where what is pending can't be used, no words pass
  doomed : (rows : List Row) (pending : Option (Text × List Text)) (words : List Text) → IsFault (settle_fault c false (held rows pending)) → AllApart words
      → fault (here (held rows pending) idle) words ≡ [] → ⊥
  unfolding walk_fault
  doomed rows pending [] is apart = fault_stands _ (first_fault _ _ is)
  doomed rows pending (word ∷ rest) is apart = fault_stops (here (held rows pending) idle) word rest (go (first_apart word rest apart) (seen word))
    where
      go : bytes_eq word dashes ≡ false → Sees word → IsFault (turn_fault s [] (here (held rows pending) idle) word)
      go apart (sees_long p e) = turn_long (held rows pending) idle word p apart e (long_fails (arg_by_long c p.0) p.1 (held rows pending) is)
      go apart (sees_bundle flags x l s f) = turn_bundle rows pending idle word flags x apart l s f
      go apart (sees_dash flags l s f) = turn_dash rows pending word flags apart l s f
      go apart (sees_plain l s) = turn_plain (held rows pending) word apart l s

  -- ---- the definition, word by word

  then_same : (r : Option Options) → r ≡ option_and_then (λ o. Some o) r
  then_same None = refl
  then_same (Some o) = refl

  from_single_end : (which : Bool) (o : Options) → options_from (single which ∷ []) o ≡ None
  from_single_end true o = refl
  from_single_end false o = refl

  from_single : (which : Bool) (next : Text) (words : List Text) (o : Options) → options_from (single which ∷ next ∷ words) o ≡ option_and_then (options_from words) (put which o next)
  from_single true next words o = refl
  from_single false next words o = refl

  from_joint : (which : Bool) (v : Text) (rest : List Text) (o : Options) → options_from (joint which v ∷ rest) o ≡ option_and_then (options_from rest) (put which o v)
  from_joint true v [] o = then_same (put true o v)
  from_joint false v [] o = then_same (put false o v)
  from_joint true v (next ∷ words) o = refl
  from_joint false v (next ∷ words) o = refl

  from_other : (word : Text) (rest : List Text) (o : Options) → is_option_name word ≡ false → with_one_word o word ≡ None → options_from (word ∷ rest) o ≡ None
  from_other word [] o n j = j
  from_other word (next ∷ words) o n j = rw (n, j) refl

  then_none : (r : Option Options) (k : Options → Option Options) → ((o : Options) → r ≡ Some o → option_and_then final (k o) ≡ None)
      → option_and_then final (option_and_then k r) ≡ None
  then_none None k each = refl
  then_none (Some o) k each = each o refl

  -- a further option leaves those before it
  put_keeps : (w which : Bool) (o after : Options) (t v : Text) → put w o t ≡ Some after → get which o ≡ Some v → get which after ≡ Some v
  put_keeps w which o after t v gives has = go w which (get w o) refl gives has
    where
      go : (w which : Bool) (x : Option Text) → get w o ≡ x → put w o t ≡ Some after → get which o ≡ Some v → get which after ≡ Some v
      go w which (Some u) is gives has = absurd (some≢none after (sym gives ∙ put_some w o t u is))
      go true true None is gives has = absurd (some≢none v (sym has ∙ is))
      go false false None is gives has = absurd (some≢none v (sym has ∙ is))
      go true false None is gives has = ap (λ (p : Options). p.number) (sym (some-same _ _ (sym (put_none true o t is) ∙ gives))) ∙ has
      go false true None is gives has = ap (λ (p : Options). p.workers) (sym (some-same _ _ (sym (put_none false o t is) ∙ gives))) ∙ has

  put_has : (w : Bool) (o after : Options) (t : Text) → put w o t ≡ Some after → get w after ≡ Some t
  put_has w o after t gives = go (get w o) refl
    where
      go : (x : Option Text) → get w o ≡ x → get w after ≡ Some t
      go (Some u) is = absurd (some≢none after (sym gives ∙ put_some w o t u is))
      go None is = ap (get w) (sym (some-same _ _ (sym (put_none w o t is) ∙ gives))) ∙ get_set w o t

  abbrev IsBad : Bool → Text → Type 0
  IsBad which v = (number_for which v ≡ None) ⊎ (arg_by_long c (id_of which) ≡ None)

  -- what is refused once stays refused
  bad_stays : (which : Bool) (v : Text) → IsBad which v → (words : List Text) (o : Options) → get which o ≡ Some v → option_and_then final (options_from words o) ≡ None
  bad_stays which v bad [] o has = knows.refuse which v o has bad
  bad_stays which v bad (word ∷ []) o has = go (sorted word)
    where
      go : Sort word → option_and_then final (options_from (word ∷ []) o) ≡ None
      go (is_single w is) = ap (λ x. option_and_then final (options_from (x ∷ []) o)) is ∙ ap (option_and_then final) (from_single_end w o)
      go (is_joint w t is) =
          ap (λ x. option_and_then final (options_from (x ∷ []) o)) is ∙ ap (option_and_then final) (from_joint w t [] o)
          ∙ then_none (put w o t) (options_from []) (λ after gives. knows.refuse which v after (put_keeps w which o after t v gives has) bad)
      go (is_other n j nope yep) = ap (option_and_then final) (from_other word [] o n (j o))
  bad_stays which v bad (word ∷ next ∷ words) o has = go (sorted word) (bad_stays which v bad (next ∷ words)) (bad_stays which v bad words)
    where
      go : Sort word → ((o : Options) → get which o ≡ Some v → option_and_then final (options_from (next ∷ words) o) ≡ None)
          → ((o : Options) → get which o ≡ Some v → option_and_then final (options_from words o) ≡ None)
          → option_and_then final (options_from (word ∷ next ∷ words) o) ≡ None
      go (is_single w is) one two =
          ap (λ x. option_and_then final (options_from (x ∷ next ∷ words) o)) is ∙ ap (option_and_then final) (from_single w next words o)
          ∙ then_none (put w o next) (options_from words) (λ after gives. two after (put_keeps w which o after next v gives has))
      go (is_joint w t is) one two =
          ap (λ x. option_and_then final (options_from (x ∷ next ∷ words) o)) is ∙ ap (option_and_then final) (from_joint w t (next ∷ words) o)
          ∙ then_none (put w o t) (options_from (next ∷ words)) (λ after gives. one after (put_keeps w which o after t v gives has))
      go (is_other n j nope yep) one two = ap (option_and_then final) (from_other word (next ∷ words) o n (j o))

  abbrev pub HasDashes : List Text → Type 0
  HasDashes words = list_any (λ word. bytes_eq word dashes) words ≡ true

  dashes_behind : (w : Bool) (word : Text) (rest : List Text) → word ≡ single w → HasDashes (word ∷ rest) → HasDashes rest
  dashes_behind true word rest is e = subst (λ x. HasDashes (x ∷ rest)) is e
  dashes_behind false word rest is e = subst (λ x. HasDashes (x ∷ rest)) is e

  dashes_behind_joint : (w : Bool) (v word : Text) (rest : List Text) → word ≡ joint w v → HasDashes (word ∷ rest) → HasDashes rest
  dashes_behind_joint true v word rest is e = subst (λ x. HasDashes (x ∷ rest)) is e
  dashes_behind_joint false v word rest is e = subst (λ x. HasDashes (x ∷ rest)) is e

  -- `--` is no option and no value
  pub dashes_refused : (words : List Text) → HasDashes words → (o : Options) → option_and_then final (options_from words o) ≡ None
  dashes_refused [] e o = absurd (true≢false (sym e))
  dashes_refused (word ∷ []) e o = go (sorted word)
    where
      go : Sort word → option_and_then final (options_from (word ∷ []) o) ≡ None
      go (is_single w is) = absurd (true≢false (sym (dashes_behind w word [] is e)))
      go (is_joint w t is) = absurd (true≢false (sym (dashes_behind_joint w t word [] is e)))
      go (is_other n j nope yep) = ap (option_and_then final) (from_other word [] o n (j o))
  dashes_refused (word ∷ next ∷ words) e o = go (sorted word) (dashes_refused (next ∷ words)) (dashes_refused words)
    where
      go : Sort word → (HasDashes (next ∷ words) → (o : Options) → option_and_then final (options_from (next ∷ words) o) ≡ None)
          → (HasDashes words → (o : Options) → option_and_then final (options_from words o) ≡ None)
          → option_and_then final (options_from (word ∷ next ∷ words) o) ≡ None
      go (is_single w is) one two =
          ap (λ x. option_and_then final (options_from (x ∷ next ∷ words) o)) is ∙ ap (option_and_then final) (from_single w next words o)
          ∙ then_none (put w o next) (options_from words) (λ after gives. value (bytes_eq next dashes) refl after gives)
        where
          value : (b : Bool) → bytes_eq next dashes ≡ b → (after : Options) → put w o next ≡ Some after → option_and_then final (options_from words after) ≡ None
          value true t after gives = bad_stays w next (inl (ap (number_for w) (same_text next dashes t) ∙ no_number w (45 ∷ []))) words after (put_has w o after next gives)
          value false f after gives =
              let behind : HasDashes (next ∷ words) = dashes_behind w word (next ∷ words) is e in
              two (ap (λ b. b || list_any (λ word. bytes_eq word dashes) words) (sym f) ∙ behind) after
      go (is_joint w t is) one two =
          ap (λ x. option_and_then final (options_from (x ∷ next ∷ words) o)) is ∙ ap (option_and_then final) (from_joint w t (next ∷ words) o)
          ∙ then_none (put w o t) (options_from (next ∷ words)) (λ after gives. one (dashes_behind_joint w t word (next ∷ words) is e) after)
      go (is_other n j nope yep) one two = ap (option_and_then final) (from_other word (next ∷ words) o n (j o))

  -- ---- the walk, word by word

  abbrev pub Reads : List Text → Type 0
  Reads words = (rows : List Row) (pending : Option (Text × List Text)) (o : Options) → Fine rows pending o
      → Agrees (here (held rows pending) idle) words (options_from words o)

  joint_step : (w : Bool) (v : Text) (rest : List Text) → Reads rest → Reads (joint w v ∷ rest)
  joint_step w v rest reads rows pending o fine = go (knows.named w)
    where
      known : arg_by_long c (id_of w) ≡ Some (built_option (id_of w)) → (x : Option Text) → get w o ≡ x
          → Agrees (here (held rows pending) idle) (joint w v ∷ rest) (options_from (joint w v ∷ rest) o)
      known named None is =
          let gone : has_row (id_of w) (settled_rows c pending rows) ≡ false = fine.shows.has w ∙ ap is_some is in
          let quiet = turn_joint w v rows pending named ∙ no_fault _ _ (no_fault _ _ fine.settles (use_first (id_of w) v (settled_rows c pending rows) gone)) refl in
          let same = from_joint w v rest o ∙ ap (option_and_then (options_from rest)) (put_none w o v is) in
          agrees_more (here (held rows pending) idle) (here (held (used (built_option (id_of w)) (v ∷ []) (settled_rows c pending rows)) None) idle) (joint w v) rest _ quiet (walk_joint w v rows pending named)
          (subst (λ r. Agrees (here (held (used (built_option (id_of w)) (v ∷ []) (settled_rows c pending rows)) None) idle) rest r) (sym same)
          (reads (used (built_option (id_of w)) (v ∷ []) (settled_rows c pending rows)) None (set w o v) (record { settles = refl; shows = shows_more w v (settled_rows c pending rows) o fine.shows is; only = only_more w v o named fine.only })))
      known named (Some u) is =
          let there : has_row (id_of w) (settled_rows c pending rows) ≡ true = fine.shows.has w ∙ ap is_some is in
          let again = second_fault _ _ fine.settles (use_again (id_of w) v (settled_rows c pending rows) there) in
          inr (
            fault_stops (here (held rows pending) idle) (joint w v) rest (subst IsFault (sym (turn_joint w v rows pending named)) (first_fault _ _ again)),
            ap (option_and_then final) (from_joint w v rest o ∙ ap (option_and_then (options_from rest)) (put_some w o v u is)),
          )

      go : ((arg_by_long c (id_of w) ≡ Some (built_option (id_of w))) ⊎ (arg_by_long c (id_of w) ≡ None))
          → Agrees (here (held rows pending) idle) (joint w v ∷ rest) (options_from (joint w v ∷ rest) o)
      go (inl named) = known named (get w o) refl
      go (inr none) = inr (
        fault_stops (here (held rows pending) idle) (joint w v) rest (turn_unknown_joint w v rows pending none),
        ap (option_and_then final) (from_joint w v rest o)
            ∙ then_none (put w o v) (options_from rest) (λ after gives. bad_stays w v (inr none) rest after (put_has w o after v gives)),
      )

  awaits_fails : (w : Bool) (now : List Row) → arg_by_id c (id_of w) ≡ Some (built_option (id_of w)) → IsFault (settle_fault c false (held now (Some (id_of w, []))))
  awaits_fails w now by = (kind.InvalidValue, [], rw by refl)

  single_end : (w : Bool) → Reads (single w ∷ [])
  unfolding walk_fault
  single_end w rows pending o fine = inr (go (knows.named w), ap (option_and_then final) (from_single_end w o))
    where
      go : ((arg_by_long c (id_of w) ≡ Some (built_option (id_of w))) ⊎ (arg_by_long c (id_of w) ≡ None))
          → fault (here (held rows pending) idle) (single w ∷ []) ≡ [] → ⊥
      go (inr none) = fault_stops (here (held rows pending) idle) (single w) [] (turn_unknown_single w rows pending none)
      go (inl named) =
          let quiet = turn_single w rows pending named ∙ no_fault _ _ fine.settles refl in
          let more = fault_more (here (held rows pending) idle) (awaits w (settled_rows c pending rows)) (single w) [] quiet (walk_single w rows pending named) in
          λ e. fault_stands _ (first_fault _ _ (awaits_fails w (settled_rows c pending rows) (knows.by_id w named))) (sym more ∙ e)

  single_step : (w : Bool) (next : Text) (words : List Text) → AllApart (next ∷ words) → Reads words → Reads (single w ∷ next ∷ words)
  single_step w next words apart reads rows pending o fine = go (knows.named w)
    where
      bad_next : IsBad w next → option_and_then final (options_from (single w ∷ next ∷ words) o) ≡ None
      bad_next bad = ap (option_and_then final) (from_single w next words o)
          ∙ then_none (put w o next) (options_from words) (λ after gives. bad_stays w next bad words after (put_has w o after next gives))

      hyphen : (t : Text) → next ≡ 45 ∷ t → IsBad w next
      hyphen t is = inl (ap (number_for w) is ∙ no_number w t)

      pushed : arg_by_long c (id_of w) ≡ Some (built_option (id_of w)) → (arg_by_id c (id_of w) ≡ Some (built_option (id_of w))) → (turn_fault s [] (awaits w (settled_rows c pending rows)) next ≡ []) × (walked c [] (awaits w (settled_rows c pending rows)) next ≡ has_value w (settled_rows c pending rows) next)
          → Agrees (awaits w (settled_rows c pending rows)) (next ∷ words) (options_from (single w ∷ next ∷ words) o)
      pushed named by turned = case (get w o) refl
        where
          case : (x : Option Text) → get w o ≡ x → Agrees (awaits w (settled_rows c pending rows)) (next ∷ words) (options_from (single w ∷ next ∷ words) o)
          case None is =
              let gone : has_row (id_of w) (settled_rows c pending rows) ≡ false = fine.shows.has w ∙ ap is_some is in
              let same = from_single w next words o ∙ ap (option_and_then (options_from words)) (put_none w o next is) in
              agrees_more (awaits w (settled_rows c pending rows)) (has_value w (settled_rows c pending rows) next) next words _ turned.0 turned.1
              (subst (λ r. Agrees (has_value w (settled_rows c pending rows) next) words r) (sym same)
              (reads (settled_rows c pending rows) (Some (id_of w, next ∷ [])) (set w o next) (record {
                settles = rw by (use_first (id_of w) next (settled_rows c pending rows) gone);
                shows = rw by (shows_more w next (settled_rows c pending rows) o fine.shows is);
                only = only_more w next o named fine.only;
              })))
          case (Some u) is =
              let there : has_row (id_of w) (settled_rows c pending rows) ≡ true = fine.shows.has w ∙ ap is_some is in
              let again : IsFault (settle_fault c false (held (settled_rows c pending rows) (Some (id_of w, next ∷ [])))) = rw by (use_again (id_of w) next (settled_rows c pending rows) there) in
              inr (
                λ e. doomed (settled_rows c pending rows) (Some (id_of w, next ∷ [])) words again (rest_apart next words apart) (sym (fault_more (awaits w (settled_rows c pending rows)) (has_value w (settled_rows c pending rows) next) next words turned.0 turned.1) ∙ e),
                ap (option_and_then final) (from_single w next words o ∙ ap (option_and_then (options_from words)) (put_some w o next u is)),
              )

      waits : arg_by_long c (id_of w) ≡ Some (built_option (id_of w)) → (arg_by_id c (id_of w) ≡ Some (built_option (id_of w))) → Sees next → Agrees (awaits w (settled_rows c pending rows)) (next ∷ words) (options_from (single w ∷ next ∷ words) o)
      waits named by (sees_long p e) = inr (
        fault_stops (awaits w (settled_rows c pending rows)) next words (turn_long (held (settled_rows c pending rows) (Some (id_of w, []))) (option (id_of w)) next p (first_apart next words apart) e
            (long_fails (arg_by_long c p.0) p.1 (held (settled_rows c pending rows) (Some (id_of w, []))) (awaits_fails w (settled_rows c pending rows) by))),
        bad_next (hyphen (45 ∷ (p.0 ++ joined_tail p.1)) (long_whole next p e)),
      )
      waits named by (sees_bundle flags x l s f) = inr (
        fault_stops (awaits w (settled_rows c pending rows)) next words (turn_bundle (settled_rows c pending rows) (Some (id_of w, [])) (option (id_of w)) next flags x (first_apart next words apart) l s f),
        bad_next (hyphen flags (short_whole next flags s)),
      )
      waits named by (sees_dash flags l s f) = pushed named by (value_dash w (settled_rows c pending rows) next flags by (first_apart next words apart) l s f)
      waits named by (sees_plain l s) = pushed named by (value_plain w (settled_rows c pending rows) next by (first_apart next words apart) l s)

      go : ((arg_by_long c (id_of w) ≡ Some (built_option (id_of w))) ⊎ (arg_by_long c (id_of w) ≡ None))
          → Agrees (here (held rows pending) idle) (single w ∷ next ∷ words) (options_from (single w ∷ next ∷ words) o)
      go (inr none) = inr (fault_stops (here (held rows pending) idle) (single w) (next ∷ words) (turn_unknown_single w rows pending none), bad_next (inr none))
      go (inl named) =
          let quiet = turn_single w rows pending named ∙ no_fault _ _ fine.settles refl in
          agrees_more (here (held rows pending) idle) (awaits w (settled_rows c pending rows)) (single w) (next ∷ words) _ quiet (walk_single w rows pending named) (waits named (knows.by_id w named) (seen next))

  other_step : (word : Text) (rest : List Text) → bytes_eq word dashes ≡ false → is_option_name word ≡ false → ((o : Options) → with_one_word o word ≡ None)
      → ((which : Bool) → word ≡ single which → ⊥) → ((which : Bool) (v : Text) → word ≡ joint which v → ⊥) → Reads (word ∷ rest)
  other_step word rest apart n j nope yep rows pending o fine = inr (
    fault_stops (here (held rows pending) idle) word rest (other_fails rows pending word apart nope yep (seen word)),
    ap (option_and_then final) (from_other word rest o n (j o)),
  )

  pub reads_words : (words : List Text) → AllApart words → Reads words
  reads_words [] apart rows pending o fine = agrees_end rows pending o fine
  reads_words (word ∷ []) apart rows pending o fine = go (sorted word) (reads_words [] refl)
    where
      go : Sort word → Reads [] → Agrees (here (held rows pending) idle) (word ∷ []) (options_from (word ∷ []) o)
      go (is_single w is) more = subst (λ x. Agrees (here (held rows pending) idle) (x ∷ []) (options_from (x ∷ []) o)) (sym is) (single_end w rows pending o fine)
      go (is_joint w v is) more = subst (λ x. Agrees (here (held rows pending) idle) (x ∷ []) (options_from (x ∷ []) o)) (sym is) (joint_step w v [] more rows pending o fine)
      go (is_other n j nope yep) more = other_step word [] (first_apart word [] apart) n j nope yep rows pending o fine
  reads_words (word ∷ next ∷ words) apart rows pending o fine =
      go (sorted word) (reads_words (next ∷ words) (rest_apart word (next ∷ words) apart))
      (reads_words words (rest_apart next words (rest_apart word (next ∷ words) apart)))
    where
      go : Sort word → Reads (next ∷ words) → Reads words → Agrees (here (held rows pending) idle) (word ∷ next ∷ words) (options_from (word ∷ next ∷ words) o)
      go (is_single w is) one two =
          subst (λ x. Agrees (here (held rows pending) idle) (x ∷ next ∷ words) (options_from (x ∷ next ∷ words) o)) (sym is)
          (single_step w next words (rest_apart word (next ∷ words) apart) two rows pending o fine)
      go (is_joint w v is) one two =
          subst (λ x. Agrees (here (held rows pending) idle) (x ∷ next ∷ words) (options_from (x ∷ next ∷ words) o)) (sym is)
          (joint_step w v (next ∷ words) one rows pending o fine)
      go (is_other n j nope yep) one two = other_step word (next ∷ words) (first_apart word (next ∷ words) apart) n j nope yep rows pending o fine

  -- a whole subcommand, from its first word
  pub reads_leaf : (words : List Text) → AllApart words → Agrees (here (held [] None) idle) words (options_from words no_options)
  reads_leaf words apart = reads_words words apart [] None _ (record {
    settles = refl;
    shows = record {
      has = λ w. elim w as (λ w. false ≡ is_some (get w no_options)) [ true ↦ refl | false ↦ refl ];
      first = λ w. elim w as (λ w. None ≡ get w no_options) [ true ↦ refl | false ↦ refl ];
    };
    only = λ w none. elim w as (λ w. get w no_options ≡ None) [ true ↦ refl | false ↦ refl ];
  })

  -- where nothing is known, any word fails
  pub bare_fails : ((text : Text) → arg_by_long c text ≡ None) → (word : Text) (rest : List Text) → AllApart (word ∷ rest) → fault (here (held [] None) idle) (word ∷ rest) ≡ [] → ⊥
  bare_fails none word rest apart = fault_stops (here (held [] None) idle) word rest (go (first_apart word rest apart) (seen word))
    where
      go : bytes_eq word dashes ≡ false → Sees word → IsFault (turn_fault s [] (here (held [] None) idle) word)
      go apart (sees_long p e) = turn_long (held [] None) idle word p apart e (kind.UnknownArgument, [], rw (none p.0) refl)
      go apart (sees_bundle flags x l s f) = turn_bundle [] None idle word flags x apart l s f
      go apart (sees_dash flags l s f) = turn_dash [] None word flags apart l s f
      go apart (sees_plain l s) = turn_plain (held [] None) word apart l s
