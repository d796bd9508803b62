-- All words: what `clap` makes of them by the forms, and what the definition makes of them.
use Rattle.std.proofs.Common.{◌≡◌, ◌∙◌, ◌⊎◌, inl, inr, ℕ, zero, suc, Bool, true, false, cond, List, [], ◌∷◌, ◌++◌, Option, Some, None, is_some, length, ap, sym, refl, subst, true≢false, codes, ◌||◌, append-nil, append_assoc}
use Rattle.std.specs.Prelude.{slice_get, option_and_then, bytes_eq, find, fold}
use Rattle.std.specs.Str.{chars}
use Rattle.std.specs.List.{list_any}
use Rattle.std.specs.Option.{option_map}
use Rattle.clap.specs.Kinds.{Kinds, or_else}
use Rattle.clap.specs.Walk.{Held, Row, Rule, Text, Walk, answers_to, arg_by_id, arg_by_long, bundle_met, finished, has_row, idle, nothing_held, plain, rows_after, settled, subcommand_met, walk_from, walked, with_default}
use Rattle.clap.specs.Simple.{App, Shape, built, entered, label_of, names_of, new_shape, subcommand_of}
use Rattle.clap.specs.Faults.{check_fault, default_fault, defaults_fault, entered_fault, fault_of, flags_fault, given_default_fault, level_fault, settle_fault, turn_fault, walk_fault}
use Rattle.clap.specs.declared.error.kind.ErrorKind.TheVariants as kind
use Rattle.command_words.specs.Words.{Options, alone, command_named, command_of, load_command, no_options, number_in, options_of, run_command, workers_in}
use Rattle.command_words.specs.Forms.{command_in, command_matched, forms, options_in}
use Rattle.command_words.specs.declared.command.Command.{Command}
use Rattle.command_words.specs.declared.command.Command.TheVariants.{Check, Plan, Order, Run, Load}
use Rattle.command_words.proofs.Faulty.{IsFault, fault_stands, first_fault, no_fault}
use Rattle.command_words.proofs.Given.{Shows, built_option, get, id_of, number_for}
use Rattle.command_words.proofs.Seen.{AllApart, Sees, counted, dashes, first_apart, rest_apart, same_text, seen, sees_bundle, sees_dash, sees_long, sees_plain}
use Rattle.command_words.proofs.Subcommand.{Knows, bare_fails, dashes_refused, leaf, reads_leaf}
use Rattle.command_words.proofs.Somes.{some≢none}

-- ---- the forms, built

abbrev run_rules : List Rule
run_rules = built_option (codes "workers") ∷ []

abbrev load_rules : List Rule
load_rules = built_option (codes "number") ∷ built_option (codes "workers") ∷ []

abbrev ready : App
ready = record {
  top = record (new_shape (codes "music")) { is_leaf = false; no_binary_name = true; disable_help_flag = true; disable_help_subcommand = true; is_built = true };
  subs = leaf (codes "check") [] ∷ leaf (codes "plan") [] ∷ leaf (codes "order") [] ∷ leaf (codes "run") run_rules ∷ leaf (codes "load") load_rules ∷ [];
}

built_is : built forms ≡ ready
built_is = refl

-- whether two texts are the same, tested either way round
data Compared (a b : Text) : Type 0 where
  same : a ≡ b → Compared a b
  differ : bytes_eq a b ≡ false → bytes_eq b a ≡ false → Compared a b

compared : (a b : Text) → Compared a b
compared a b = go (bytes_eq a b) (bytes_eq b a) refl refl
  where
    go : (there back : Bool) → bytes_eq a b ≡ there → bytes_eq b a ≡ back → Compared a b
    go true back is same_back = same (same_text a b is)
    go false true is same_back = same (sym (same_text b a same_back))
    go false false is same_back = differ is same_back

-- which command a word names, if any
data Named (word : Text) : Type 0 where
  is_check : word ≡ codes "check" → Named word
  is_plan : word ≡ codes "plan" → Named word
  is_order : word ≡ codes "order" → Named word
  is_run : word ≡ codes "run" → Named word
  is_load : word ≡ codes "load" → Named word
  is_none : subcommand_met (names_of ready) idle word ≡ None → ((words : List Text) → command_named word words ≡ None) → Named word

named : (word : Text) → Named word
named word =
    go (compared word (codes "check")) (compared word (codes "plan")) (compared word (codes "order"))
    (compared word (codes "run")) (compared word (codes "load"))
  where
    go : Compared word (codes "check") → Compared word (codes "plan") → Compared word (codes "order")
        → Compared word (codes "run") → Compared word (codes "load") → Named word
    go (same is) p o r l = is_check is
    go (differ c c') (same is) o r l = is_plan is
    go (differ c c') (differ p p') (same is) r l = is_order is
    go (differ c c') (differ p p') (differ o o') (same is) l = is_run is
    go (differ c c') (differ p p') (differ o o') (differ r r') (same is) = is_load is
    go (differ c c') (differ p p') (differ o o') (differ r r') (differ l l') =
        is_none (rw (c', p', o', r', l') refl) (λ words. rw (c, p, o, r, l) refl)

-- ---- a first word that names no command

top_bundle_fails : (n : ℕ) (flags : Text) (x : ℕ) (h : Held) → slice_get (chars flags) 0 ≡ Some x → flags_fault [] false (suc n) flags 0 h ≡ kind.UnknownArgument ∷ []
unfolding flags_fault
top_bundle_fails n flags x h first = rw first refl

top_quiet : (n : ℕ) (flags : Text) (h : Held) → slice_get (chars flags) 0 ≡ None → (flags_fault [] false n flags 0 h ≡ []) × (bundle_met [] n flags 0 plain h ≡ (h, plain))
unfolding flags_fault bundle_met
top_quiet zero flags h first = (refl, refl)
top_quiet (suc n) flags h first = (rw first refl, rw first refl)

unnamed_fails : (word : Text) → bytes_eq word dashes ≡ false → subcommand_met (names_of ready) idle word ≡ None → Sees word
    → IsFault (turn_fault ready.top (names_of ready) (walk_from nothing_held) word)
unnamed_fails word apart none (sees_long p e) = (kind.UnknownArgument, [], rw (none, apart, e) refl)
unnamed_fails word apart none (sees_plain l s) = (kind.UnknownArgument, kind.InvalidSubcommand ∷ [], rw (none, apart, l, s) refl)
unnamed_fails word apart none (sees_dash flags l s f) =
    let q = top_quiet (length flags) flags nothing_held f in
    (kind.UnknownArgument, kind.InvalidSubcommand ∷ [], rw (none, apart, l, s, q.0, q.1) refl)
unnamed_fails word apart none (sees_bundle flags x l s f) =
    let n = counted word flags s in
    let fails : IsFault (flags_fault [] false (length flags) flags 0 nothing_held) =
    (kind.UnknownArgument, [], ap (λ k. flags_fault [] false k flags 0 nothing_held) n.1 ∙ top_bundle_fails n.0 flags x nothing_held f) in
    rw (none, apart, l, s) (first_fault _ _ fails)

-- ---- once a subcommand was met, it has the words behind it

abbrev met_at : Text → List Text → Walk
met_at name words = record (walk_from nothing_held) { stopped = Some (name, words) }

walk_rest : (name : Text) (before rest : List Text) → fold (walked [] (names_of ready)) (met_at name before) rest ≡ met_at name (before ++ rest)
unfolding walked
walk_rest name before [] = ap (met_at name) (sym (append-nil before))
walk_rest name before (word ∷ rest) = walk_rest name (before ++ word ∷ []) rest ∙ ap (met_at name) (append_assoc before (word ∷ []) rest)

quiet_rest : (name : Text) (before rest : List Text) → walk_fault ready.top (names_of ready) (met_at name before) rest ≡ []
unfolding walk_fault walked
quiet_rest name before [] = refl
quiet_rest name before (word ∷ rest) = quiet_rest name (before ++ word ∷ []) rest

-- ---- the five commands

abbrev nothing_final : Options → Option Command
nothing_final o = None

knows_none : Knows [] nothing_final
unfolding defaults_fault
knows_none = record {
  named = λ which. inr refl;
  by_id = λ which e. absurd (some≢none (built_option (id_of which)) (sym e));
  others = λ text e. refl;
  no_short = λ x. refl;
  no_place = refl;
  defaults = λ rows. refl;
  no_defaults = λ rows. refl;
  checks = λ name rows. refl;
  refuse = λ which v o e bad. refl;
}

same_rows : (b : Bool) (rows : List Row) → cond b rows rows ≡ rows
same_rows true rows = refl
same_rows false rows = refl

default_same : (id : Text) (rows : List Row) → with_default rows (built_option id) ≡ rows
default_same id rows = same_rows (has_row id rows) rows

default_quiet : (id : Text) (rows : List Row) → default_fault rows (built_option id) ≡ []
default_quiet id rows = go (has_row id rows)
  where
    go : (b : Bool) → cond (b || true) [] (given_default_fault (built_option id) []) ≡ []
    go true = refl
    go false = refl

other_name : (id text : Text) → (text ≡ id → ⊥) → (bytes_eq id text || false) ≡ false
other_name id text no_id = go (bytes_eq id text) refl
  where
    go : (b : Bool) → bytes_eq id text ≡ b → (b || false) ≡ false
    go true e = absurd (no_id (sym (same_text id text e)))
    go false e = refl

refuse_run : (which : Bool) (v : Text) (o : Options) → get which o ≡ Some v
    → (number_for which v ≡ None) ⊎ (arg_by_long run_rules (id_of which) ≡ None) → run_command o ≡ None
refuse_run true v o e (inr h) = absurd (some≢none (built_option (codes "workers")) h)
refuse_run true v o e (inl h) = go (is_some o.number)
  where
    go : (b : Bool) → cond b None (option_map (λ workers. Run workers) (workers_in o)) ≡ None
    go true = refl
    go false = rw (e, h) refl
refuse_run false v o e bad = rw e refl

refuse_load : (which : Bool) (v : Text) (o : Options) → get which o ≡ Some v
    → (number_for which v ≡ None) ⊎ (arg_by_long load_rules (id_of which) ≡ None) → load_command o ≡ None
refuse_load true v o e (inr h) = absurd (some≢none (built_option (codes "workers")) h)
refuse_load false v o e (inr h) = absurd (some≢none (built_option (codes "number")) h)
refuse_load false v o e (inl h) = rw (e, h) refl
refuse_load true v o e (inl h) = go (number_in o)
  where
    go : (n : Option ℕ) → option_and_then (λ number. option_map (λ workers. Load number workers) (workers_in o)) n ≡ None
    go None = refl
    go (Some n) = rw (e, h) refl

knows_run : Knows run_rules run_command
unfolding defaults_fault
knows_run = record {
  named = λ which. elim which as (λ which. (arg_by_long run_rules (id_of which) ≡ Some (built_option (id_of which))) ⊎ (arg_by_long run_rules (id_of which) ≡ None)) [
    | true ↦ inl refl
    | false ↦ inr refl
  ];
  by_id = λ which. elim which as (λ which. arg_by_long run_rules (id_of which) ≡ Some (built_option (id_of which)) → arg_by_id run_rules (id_of which) ≡ Some (built_option (id_of which))) [
    | true ↦ λ e. refl
    | false ↦ λ e. absurd (some≢none (built_option (codes "number")) (sym e))
  ];
  others = λ text no_id. rw (other_name (codes "workers") text (no_id true)) refl;
  no_short = λ x. refl;
  no_place = refl;
  defaults = λ rows. default_same (codes "workers") rows;
  no_defaults = λ rows. no_fault _ _ (default_quiet (codes "workers") rows) refl;
  checks = λ name rows. refl;
  refuse = refuse_run;
}

knows_load : Knows load_rules load_command
unfolding defaults_fault
knows_load = record {
  named = λ which. elim which as (λ which. (arg_by_long load_rules (id_of which) ≡ Some (built_option (id_of which))) ⊎ (arg_by_long load_rules (id_of which) ≡ None)) [
    | true ↦ inl refl
    | false ↦ inl refl
  ];
  by_id = λ which. elim which as (λ which. arg_by_long load_rules (id_of which) ≡ Some (built_option (id_of which)) → arg_by_id load_rules (id_of which) ≡ Some (built_option (id_of which))) [
    | true ↦ λ e. refl
    | false ↦ λ e. refl
  ];
  others = λ text no_id. rw (other_name (codes "workers") text (no_id true), other_name (codes "number") text (no_id false)) refl;
  no_short = λ x. refl;
  no_place = refl;
  defaults = λ rows. ap (λ (rs : List Row). with_default rs (built_option (codes "workers"))) (default_same (codes "number") rows) ∙ default_same (codes "workers") rows;
  no_defaults = λ rows. no_fault _ _ (default_quiet (codes "number") rows) (no_fault _ _ (default_quiet (codes "workers") (with_default rows (built_option (codes "number")))) refl);
  checks = λ name rows. refl;
  refuse = refuse_load;
}

-- ---- the parse and the definition

-- where the words pass, the matches give the command; where they do not, there is none
abbrev pub Exact : List Text → Type 0
Exact words = (fault_of forms words ≡ [] → command_in (subcommand_of forms words) ≡ command_of words) × ((fault_of forms words ≡ [] → ⊥) → command_of words ≡ None)

abbrev leaf_fault : Text → List Rule → List Text → Kinds
leaf_fault name rules rest = level_fault (leaf name rules) [] nothing_held rest false []

-- a word that names a subcommand
abbrev Met : Text → List Rule → Type 0
Met name rules = (rest : List Text) → (fault_of forms (name ∷ rest) ≡ or_else (leaf_fault name rules rest) [])
    × (subcommand_of forms (name ∷ rest) ≡ Some (name, rows_after rules [] rest))

abbrev top_tail : Walk → Kinds
top_tail w =
    or_else (entered_fault ready w.stopped) (or_else (settle_fault [] false w.held)
    (or_else (defaults_fault (settled [] w.held).rows [])
    (check_fault ready.top (finished [] w.held) (is_some (entered ready w.stopped)))))

abbrev found_form : Text → Option Shape
found_form name = find (λ s. answers_to name (label_of s)) ready.subs

abbrev all_after : Walk → List Text → Walk
all_after w rest = fold (walked [] (names_of ready)) w rest

met : (name : Text) (rules : List Rule) → walked [] (names_of ready) (walk_from nothing_held) name ≡ met_at name []
    → turn_fault ready.top (names_of ready) (walk_from nothing_held) name ≡ [] → found_form name ≡ Some (leaf name rules) → Met name rules
unfolding walk_fault defaults_fault
met name rules first turn found rest =
    let one : fault_of forms (name ∷ rest) ≡ or_else (walk_fault ready.top (names_of ready) (met_at name []) rest) (top_tail (all_after (met_at name []) rest)) =
    λ i. or_else (or_else (turn i) (walk_fault ready.top (names_of ready) (first i) rest)) (top_tail (all_after (first i) rest)) in
    let two : or_else (walk_fault ready.top (names_of ready) (met_at name []) rest) (top_tail (all_after (met_at name []) rest)) ≡ top_tail (met_at name rest) =
    λ i. or_else (quiet_rest name [] rest i) (top_tail (walk_rest name [] rest i)) in
    let three : top_tail (met_at name rest) ≡ or_else (leaf_fault name rules rest) [] = rw found refl in
    let stop : subcommand_of forms (name ∷ rest) ≡ entered ready (Some (name, rest)) =
    (λ i. entered ready (all_after (first i) rest).stopped) ∙ (λ i. entered ready (walk_rest name [] rest i).stopped) in
    let enters : entered ready (Some (name, rest)) ≡ Some (name, rows_after rules [] rest) = rw found refl in
    (one ∙ two ∙ three, stop ∙ enters)

met_check : Met (codes "check") []
unfolding walked
met_check = met (codes "check") [] refl refl refl

met_plan : Met (codes "plan") []
unfolding walked
met_plan = met (codes "plan") [] refl refl refl

met_order : Met (codes "order") []
unfolding walked
met_order = met (codes "order") [] refl refl refl

met_run : Met (codes "run") run_rules
unfolding walked
met_run = met (codes "run") run_rules refl refl refl

met_load : Met (codes "load") load_rules
unfolding walked
met_load = met (codes "load") load_rules refl refl refl

no_more : (a : Kinds) → or_else a [] ≡ a
no_more [] = refl
no_more (k ∷ ks) = refl

-- a command without options
exact_bare : (name : Text) (command : Command) → Met name [] → ((o : Options) → command_matched name o ≡ Some command)
    → ((rest : List Text) → command_of (name ∷ rest) ≡ alone command rest) → (rest : List Text) → AllApart rest → Exact (name ∷ rest)
unfolding walk_fault defaults_fault
exact_bare name command met named is [] apart = (
  λ passes. ap command_in (met []).1 ∙ named (options_in (rows_after [] [] [])) ∙ sym (is []),
  λ fails. absurd (fails ((met []).0)),
)
exact_bare name command met named is (word ∷ rest) apart = (
  λ passes. absurd (bare_fails name [] nothing_final knows_none (λ text. refl) word rest apart (sym (no_more (leaf_fault name [] (word ∷ rest))) ∙ sym (met (word ∷ rest)).0 ∙ passes)),
  λ fails. is (word ∷ rest),
)

shown : (rows : List Row) (o : Options) → Shows rows o → options_in rows ≡ o
shown rows o s = λ i. record { workers = s.first true i; number = s.first false i }

-- a command with options
exact_options : (name : Text) (rules : List Rule) (final : Options → Option Command) (knows : Knows rules final) → Met name rules
    → ((rest : List Text) → command_of (name ∷ rest) ≡ option_and_then final (options_of rest))
    → ((o : Options) → ((which : Bool) → arg_by_long rules (id_of which) ≡ None → get which o ≡ None) → command_matched name o ≡ final o)
    → (rest : List Text) → AllApart rest → Exact (name ∷ rest)
exact_options name rules final knows met is reads rest apart = elim (reads_leaf name rules final knows rest apart) [
  | inl h ↦ (
    λ passes. ap command_in (met rest).1 ∙ ap (command_matched name) (shown (rows_after rules [] rest) h.1 h.3) ∙ reads h.1 h.4
        ∙ sym (ap (option_and_then final) h.2) ∙ sym (is rest),
    λ fails. absurd (fails ((met rest).0 ∙ no_more (leaf_fault name rules rest) ∙ h.0)),
  )
  | inr h ↦ (
    λ passes. absurd (h.0 (sym (no_more (leaf_fault name rules rest)) ∙ sym (met rest).0 ∙ passes)),
    λ fails. is rest ∙ h.1,
  )
]

reads_run : (o : Options) → ((which : Bool) → arg_by_long run_rules (id_of which) ≡ None → get which o ≡ None)
    → command_matched (codes "run") o ≡ run_command o
reads_run o only =
    let none : o.number ≡ None = only false refl in
    rw none refl

reads_load : (o : Options) → ((which : Bool) → arg_by_long load_rules (id_of which) ≡ None → get which o ≡ None)
    → command_matched (codes "load") o ≡ load_command o
reads_load o only = refl

-- no first word that names no command
exact_none : (word : Text) (rest : List Text) → AllApart (word ∷ rest) → subcommand_met (names_of ready) idle word ≡ None
    → ((words : List Text) → command_named word words ≡ None) → Exact (word ∷ rest)
unfolding walk_fault
exact_none word rest apart none refused = (
  λ passes. absurd (fault_stands (fault_of forms (word ∷ rest)) (first_fault _ _ (first_fault _ _ (unnamed_fails word (first_apart word rest apart) none (seen word)))) passes),
  λ fails. refused rest,
)

pub exact : (words : List Text) → AllApart words → Exact words
unfolding walk_fault defaults_fault
exact [] apart = (λ passes. refl, λ fails. refl)
exact (word ∷ rest) apart = go (named word)
  where
    go : Named word → Exact (word ∷ rest)
    go (is_check e) = subst (λ w. Exact (w ∷ rest)) (sym e) (exact_bare (codes "check") Check met_check (λ o. refl) (λ words. refl) rest (rest_apart word rest apart))
    go (is_plan e) = subst (λ w. Exact (w ∷ rest)) (sym e) (exact_bare (codes "plan") Plan met_plan (λ o. refl) (λ words. refl) rest (rest_apart word rest apart))
    go (is_order e) = subst (λ w. Exact (w ∷ rest)) (sym e) (exact_bare (codes "order") Order met_order (λ o. refl) (λ words. refl) rest (rest_apart word rest apart))
    go (is_run e) = subst (λ w. Exact (w ∷ rest)) (sym e) (exact_options (codes "run") run_rules run_command knows_run met_run (λ words. refl) reads_run rest (rest_apart word rest apart))
    go (is_load e) = subst (λ w. Exact (w ∷ rest)) (sym e) (exact_options (codes "load") load_rules load_command knows_load met_load (λ words. refl) reads_load rest (rest_apart word rest apart))
    go (is_none m c) = exact_none word rest apart m c

some_word : (command : Command) (rest : List Text) → list_any (λ word. bytes_eq word dashes) rest ≡ true → alone command rest ≡ None
some_word command [] e = absurd (true≢false (sym e))
some_word command (word ∷ rest) e = refl

-- where a word is `--` there is no command
pub dashes_none : (words : List Text) → list_any (λ word. bytes_eq word dashes) words ≡ true → command_of words ≡ None
dashes_none [] e = absurd (true≢false (sym e))
dashes_none (word ∷ rest) e = go (bytes_eq word dashes) refl
  where
    behind : list_any (λ word. bytes_eq word dashes) rest ≡ true → Named word → command_named word rest ≡ None
    behind e (is_none m c) = c rest
    behind e (is_check is) = subst (λ w. command_named w rest ≡ None) (sym is) (some_word Check rest e)
    behind e (is_plan is) = subst (λ w. command_named w rest ≡ None) (sym is) (some_word Plan rest e)
    behind e (is_order is) = subst (λ w. command_named w rest ≡ None) (sym is) (some_word Order rest e)
    behind e (is_run is) = subst (λ w. command_named w rest ≡ None) (sym is) (dashes_refused (codes "run") run_rules run_command knows_run rest e no_options)
    behind e (is_load is) = subst (λ w. command_named w rest ≡ None) (sym is) (dashes_refused (codes "load") load_rules load_command knows_load rest e no_options)

    go : (b : Bool) → bytes_eq word dashes ≡ b → command_named word rest ≡ None
    go true is = subst (λ w. command_named w rest ≡ None) (sym (same_text word dashes is)) refl
    go false is = behind (ap (λ b. b || list_any (λ word. bytes_eq word dashes) rest) (sym is) ∙ e) (named word)
