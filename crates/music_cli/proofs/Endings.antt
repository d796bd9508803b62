-- What each way to end says of the status and of the text.
use Rattle.std.proofs.Common.{◌≡◌, ◌⊎◌, ℕ, ◌<◌, ◌≤◌, lit<, true, false, List, [], ◌++◌, length, take, Option, Some, None, refl, sym, ap, subst, ◌∙◌, inl, inr, arith, append-nil}
use Rattle.std.specs.Prelude.{◌≢◌}
use Rattle.std.proofs.lemmas.Bool.{cases_lt}
use Rattle.std.proofs.lemmas.List.{take_all}
use Rattle.std.proofs.Math.Seq.{take-append_seam}
use Rattle.music_base.specs.Outside.{Gave, GaveAtMost, TookPrefix, IsAtEnd}
use Rattle.music_base.proofs.Transfers.{TookPrefix-nothing}
use Rattle.command_words.specs.Words.{command_of}
use Rattle.command_words.specs.declared.command.Command.TheVariants.{Load}
use Rattle.music_cli.specs.Words.{are_accepted, take_input}
use Rattle.music_cli.specs.Answers.{Answers, AnswersMade, CanDo, can_end, number_of, usage_text, read_fault_text}
use Rattle.music_cli.specs.Clauses.{Ends, DidNotFail, NotUsage, HasReadFaultCause, HasWriteFaultCause, ShowsFaults, Untouched, Wrote, most_read, read_part, IsStatus, IsUsage, AnswersWhatWasRead, ReadAllThatCounts, WasRead, HasSomePrefix, HasAnswer, HasPrefix, IsComplete, IsSaid, IsRead, Ended, refused, no_words, source_failed, no_memory, answered, loaded}
use Rattle.music_cli.proofs.Input.{input_accepted, load_accepted, load_takes_none, not_both_so, words_made}
use Rattle.music_cli.proofs.SomeAnswers.{command_done, some_answer, usage_answer}
use Rattle.music_cli.proofs.Outcomes.{answer_outcome, memory_outcome, no_failure, read_fault_outcome, usage_outcome, write_fault_outcome}
use Rattle.music_cli.specs.declared.status.Status.{Status}
use Rattle.music_cli.specs.declared.status.Status.TheVariants.{Done, Usage, ReadFault, WriteFault, NoMemory}

-- ---- what was read

whole_part : (most : ℕ) (all bytes left : List ℕ) → all ≡ bytes ++ left → length bytes ≤ most → (length bytes < most → left ≡ []) → bytes ≡ take most all
whole_part most all bytes left split size end = elim (cases_lt (length bytes) most) [
  | inl less ↦
      let same : all ≡ bytes = split ∙ ap (λ l. bytes ++ l) (end less) ∙ append-nil bytes in
      rw same (sym (take_all most bytes size))
  | inr more ↦
      let n : length bytes ≡ most = omega (arith, size, more) in
      rw split (subst (λ (k : ℕ). bytes ≡ take k (bytes ++ left)) n (sym (take-append_seam bytes left)))
]

read_of : (most : ℕ) (before after : Option (List ℕ)) (bytes all : List ℕ) → Gave before bytes after → length bytes ≤ most → (length bytes < most → IsAtEnd after) → before ≡ Some all → bytes ≡ take most all
read_of most before None bytes all gave size end is = let none : Some all ≡ None = sym is ∙ gave in absurd cc
read_of most before (Some left) bytes all gave size end is =
    let e : Some all ≡ Some (bytes ++ left) = sym is ∙ gave in
    let split : all ≡ bytes ++ left = cc in
    whole_part most all bytes left split size end

-- the bytes that were read are the part of the source that counts
read_is : (source : Ends) (bytes all : List ℕ) → IsRead bytes source → source.before ≡ Some all → bytes ≡ read_part all
read_is source bytes all read is = read_of most_read source.before source.after bytes all read.gave read.size read.whole is

-- where nothing is read, no more is than may be
pub reads_nothing : (most : ℕ) (left : Option (List ℕ)) → GaveAtMost most left left
reads_nothing most None = ([], (refl, omega arith))
reads_nothing most (Some left) = ([], (refl, omega arith))

-- ---- the clauses

outcome_of_said : (words : List (List ℕ)) (said : Status) (text : List ℕ) (sink : Ends) (status : Status) → can_end (command_of words) said ≡ true → IsSaid said text sink status
    → can_end (command_of words) status ≡ true
outcome_of_said words said text sink status can is = elim is.cases [
  | inl done ↦ ap (can_end (command_of words)) done.0 ∙ can
  | inr fault ↦ ap (can_end (command_of words)) fault.0 ∙ write_fault_outcome (command_of words)
]

outcome : (words : List (List ℕ)) (source sink : Ends) (status : Status) → Ended words source sink status → can_end (command_of words) status ≡ true
outcome words source sink status (refused not_so untouched said) = outcome_of_said words Usage usage_text sink status (usage_outcome (command_of words) not_so) said
outcome words source sink status (no_words memory untouched same) = ap (can_end (command_of words)) memory ∙ memory_outcome (command_of words)
outcome words source sink status (source_failed takes failed said) = outcome_of_said words ReadFault read_fault_text sink status (read_fault_outcome (command_of words) takes) said
outcome words source sink status (no_memory takes memory calm same) = ap (can_end (command_of words)) memory ∙ memory_outcome (command_of words)
outcome words source sink status (answered takes bytes read given) = elim given.cases [
  | inl done ↦ ap (can_end (command_of words)) done.0 ∙ answer_outcome (command_of words) bytes given.status given.text given.found_so
  | inr gave_out ↦ elim gave_out [
    | inl fault ↦ ap (can_end (command_of words)) fault.0 ∙ write_fault_outcome (command_of words)
    | inr memory ↦ ap (can_end (command_of words)) memory.0 ∙ memory_outcome (command_of words)
  ]
]
outcome words source sink status (loaded number workers is untouched given live) = elim given.cases [
  | inl done ↦ ap (can_end (command_of words)) done.0 ∙ answer_outcome (command_of words) [] given.status given.text (words_made words [] number workers given.status given.text is given.found_so)
  | inr gave_out ↦ elim gave_out [
    | inl fault ↦ ap (can_end (command_of words)) fault.0 ∙ write_fault_outcome (command_of words)
    | inr memory ↦ ap (can_end (command_of words)) memory.0 ∙ memory_outcome (command_of words)
  ]
]

-- the result is one of those that can come to the words
pub is_status : (words : List (List ℕ)) (source sink : Ends) (status : Status) → Ended words source sink status → IsStatus words (number_of status)
is_status words source sink status ended = (status, outcome words source sink status ended, refl)

-- the statuses of a read fault, of a write fault and of want of memory are above 5
too_great : (status other : Status) → status ≡ other → 5 < number_of other → number_of status ≤ 5 → ⊥
too_great status other is great small = let same : number_of status ≡ number_of other = ap number_of is in above (number_of status) (number_of other) same great small
  where
    above : (m n : ℕ) → m ≡ n → 5 < n → m ≤ 5 → ⊥
    above m n same great small = omega arith

-- A call that ends with a status of at most 5: the words were refused, and the usage line was written; or an answer to what
-- was read, or that of `load`, was written, whole.
record IsUsageSaid (words : List (List ℕ)) (source sink : Ends) (status : Status) : Type 0 where
  refused_so : are_accepted words ≡ false
  untouched : Untouched source
  is : status ≡ Usage
  wrote : Wrote usage_text sink

record IsAnswerSaid (words : List (List ℕ)) (source sink : Ends) (status : Status) : Type 0 where
  takes_so : take_input words ≡ true
  bytes : List ℕ
  read : IsRead bytes source
  found : Status
  text : List ℕ
  is : number_of status ≡ number_of found
  answers : Answers words bytes found text
  wrote : Wrote text sink

record IsLoadSaid (words : List (List ℕ)) (sink : Ends) (status : Status) : Type 0 where
  number : ℕ
  workers : ℕ
  loads : command_of words ≡ Some (Load number workers)
  found : Status
  text : List ℕ
  is : number_of status ≡ number_of found
  answers : AnswersMade number workers found text
  wrote : Wrote text sink

whole : (words : List (List ℕ)) (source sink : Ends) (status : Status) → Ended words source sink status → number_of status ≤ 5
    → IsUsageSaid words source sink status ⊎ IsAnswerSaid words source sink status ⊎ IsLoadSaid words sink status
whole words source sink status (refused not_so untouched said) small = elim said.cases [
  | inl done ↦ inl (record { refused_so = not_so; untouched = untouched; is = done.0; wrote = done.1 })
  | inr fault ↦ absurd (too_great status WriteFault fault.0 (lit< tt) small)
]
whole words source sink status (no_words memory untouched same) small = absurd (too_great status NoMemory memory (lit< tt) small)
whole words source sink status (source_failed takes failed said) small = elim said.cases [
  | inl done ↦ absurd (too_great status ReadFault done.0 (lit< tt) small)
  | inr fault ↦ absurd (too_great status WriteFault fault.0 (lit< tt) small)
]
whole words source sink status (no_memory takes memory calm same) small = absurd (too_great status NoMemory memory (lit< tt) small)
whole words source sink status (answered takes bytes read given) small = elim given.cases [
  | inl done ↦ inr (inl (record { takes_so = takes; bytes = bytes; read = read; found = given.status; text = given.text; is = ap number_of done.0; answers = given.found_so; wrote = done.1 }))
  | inr gave_out ↦ elim gave_out [
    | inl fault ↦ absurd (too_great status WriteFault fault.0 (lit< tt) small)
    | inr memory ↦ absurd (too_great status NoMemory memory.0 (lit< tt) small)
  ]
]
whole words source sink status (loaded number workers is untouched given live) small = elim given.cases [
  | inl done ↦ inr (inr (record { number = number; workers = workers; loads = is; found = given.status; text = given.text; is = ap number_of done.0; answers = given.found_so; wrote = done.1 }))
  | inr gave_out ↦ elim gave_out [
    | inl fault ↦ absurd (too_great status WriteFault fault.0 (lit< tt) small)
    | inr memory ↦ absurd (too_great status NoMemory memory.0 (lit< tt) small)
  ]
]

pub has_answer : (words : List (List ℕ)) (source sink : Ends) (status : Status) → Ended words source sink status → HasAnswer words source sink (number_of status)
has_answer words source sink status ended all is small = elim (whole words source sink status ended small) [
  | inl usage ↦ (Usage, usage_text, ap number_of usage.is, usage_answer (command_of words) (read_part all) usage.refused_so, usage.wrote)
  | inr said ↦ elim said [
    | inl answer ↦
        let e : answer.bytes ≡ read_part all = read_is source answer.bytes all answer.read is in
        (answer.found, answer.text, answer.is, subst (λ (b : List ℕ). Answers words b answer.found answer.text) e answer.answers, answer.wrote)
    | inr load ↦ (load.found, load.text, load.is, words_made words (read_part all) load.number load.workers load.found load.text load.loads load.answers, load.wrote)
  ]
]

-- a sink of which nothing was asked took a prefix of any text
pub untouched_prefix : (text : List ℕ) (sink : Ends) → Untouched sink → TookPrefix sink.before text sink.after
untouched_prefix text sink same = subst (λ (after : Option (List ℕ)). TookPrefix sink.before text after) (sym same.0) (TookPrefix-nothing sink.before text)

-- each words and bytes have a text, of which such a sink took a prefix
some_text_prefix : (words : List (List ℕ)) (bytes : List ℕ) (sink : Ends) → Untouched sink → (text : List ℕ) × ((status : Status) × Answers words bytes status text) × TookPrefix sink.before text sink.after
some_text_prefix words bytes sink same =
    let answer : (status : Status) × (text : List ℕ) × Answers words bytes status text = some_answer (command_of words) bytes in
    (answer.1, (answer.0, answer.2), untouched_prefix answer.1 sink same)

pub has_prefix : (words : List (List ℕ)) (source sink : Ends) (status : Status) → Ended words source sink status → HasPrefix words source sink (number_of status)
has_prefix words source sink status (refused not_so untouched said) all is gave_out =
    (usage_text, inl (Usage, usage_answer (command_of words) (read_part all) not_so), said.prefix)
has_prefix words source sink status (no_words memory untouched same) all is gave_out =
    let some = some_text_prefix words (read_part all) sink same in
    (some.0, inl some.1, some.2)
has_prefix words source sink status (source_failed takes failed said) all is gave_out = (read_fault_text, inr (refl, failed), said.prefix)
has_prefix words source sink status (no_memory takes memory calm same) all is gave_out =
    let some = some_text_prefix words (read_part all) sink same in
    (some.0, inl some.1, some.2)
has_prefix words source sink status (answered takes bytes read given) all is gave_out =
    let e : bytes ≡ read_part all = read_is source bytes all read is in
    (given.text, inl (given.status, subst (λ (b : List ℕ). Answers words b given.status given.text) e given.found_so), given.prefix)
has_prefix words source sink status (loaded number workers loads untouched given live) all is gave_out =
    (given.text, inl (given.status, words_made words (read_part all) number workers given.status given.text loads given.found_so), given.prefix)

pub is_complete : (words : List (List ℕ)) (source sink : Ends) (status : Status) → Ended words source sink status → IsComplete words source sink (number_of status)
is_complete words source sink status (refused not_so untouched said) all takes is can calm_source calm_sink = absurd (not_both_so (are_accepted words) (input_accepted words takes) not_so)
is_complete words source sink status (no_words memory untouched same) all takes is can calm_source calm_sink = inr (ap number_of memory)
is_complete words source sink status (source_failed takes_so failed said) all takes is can calm_source calm_sink = absurd (calm_source failed)
is_complete words source sink status (no_memory takes_so memory calm same) all takes is can calm_source calm_sink = inr (ap number_of memory)
is_complete words source sink status (answered takes_so bytes read given) all takes is can calm_source calm_sink =
    let e : bytes ≡ read_part all = read_is source bytes all read is in
    let done_so : given.status ≡ Done = command_done (command_of words) bytes given.status given.text takes (subst CanDo (sym e) can) given.found_so in
    elim given.cases [
      | inl done ↦ inl (ap number_of (done.0 ∙ done_so))
      | inr gave_out ↦ elim gave_out [ inl fault ↦ absurd (calm_sink fault.1) | inr memory ↦ inr (ap number_of memory.0) ]
    ]
is_complete words source sink status (loaded number workers load untouched given live) all takes is can calm_source calm_sink =
    absurd (not_both_so (take_input words) takes (load_takes_none words number workers load))

-- refused words get the usage line, or a prefix of it, or nothing
pub is_usage : (words : List (List ℕ)) (source sink : Ends) (status : Status) → Ended words source sink status → IsUsage words source sink (number_of status)
is_usage words source sink status (refused not_so untouched said) not_accepted = elim said.cases [
  | inl done ↦ (inl (ap number_of done.0, done.1), untouched)
  | inr fault ↦ (inr (inl (ap number_of fault.0, said.prefix)), untouched)
]
is_usage words source sink status (no_words memory untouched same) not_accepted = (inr (inr (ap number_of memory, same)), untouched)
is_usage words source sink status (source_failed takes failed said) not_accepted = absurd (not_both_so (are_accepted words) (input_accepted words takes) not_accepted)
is_usage words source sink status (no_memory takes memory calm same) not_accepted = absurd (not_both_so (are_accepted words) (input_accepted words takes) not_accepted)
is_usage words source sink status (answered takes bytes read given) not_accepted = absurd (not_both_so (are_accepted words) (input_accepted words takes) not_accepted)
is_usage words source sink status (loaded number workers is untouched given live) not_accepted =
    absurd (not_both_so (are_accepted words) (load_accepted words number workers is) not_accepted)

-- words that take input get an answer to what was read
pub answers_what_was_read : (words : List (List ℕ)) (source sink : Ends) (status : Status) → Ended words source sink status → AnswersWhatWasRead words source sink (number_of status)
answers_what_was_read words source sink status ended takes small = elim (whole words source sink status ended small) [
  | inl usage ↦ absurd (not_both_so (are_accepted words) (input_accepted words takes) usage.refused_so)
  | inr said ↦ elim said [
    | inl answer ↦ (answer.bytes, answer.read, answer.found, answer.text, answer.is, answer.answers, answer.wrote)
    | inr load ↦ absurd (not_both_so (take_input words) takes (load_takes_none words load.number load.workers load.loads))
  ]
]

untouched_if : (words : List (List ℕ)) (source sink : Ends) (status : Status) → Ended words source sink status → take_input words ≡ false → Untouched source
untouched_if words source sink status (refused not_so untouched said) takes_none = untouched
untouched_if words source sink status (no_words memory untouched same) takes_none = untouched
untouched_if words source sink status (source_failed takes failed said) takes_none = absurd (not_both_so (take_input words) takes takes_none)
untouched_if words source sink status (no_memory takes memory calm same) takes_none = absurd (not_both_so (take_input words) takes takes_none)
untouched_if words source sink status (answered takes bytes read given) takes_none = absurd (not_both_so (take_input words) takes takes_none)
untouched_if words source sink status (loaded number workers is untouched given live) takes_none = untouched

at_end_or_most : (source : Ends) (bytes : List ℕ) → IsRead bytes source → ReadAllThatCounts source
at_end_or_most source bytes read = elim (cases_lt (length bytes) most_read) [
  | inl less ↦ (bytes, read.gave, inl (read.whole less))
  | inr more ↦ (bytes, read.gave, inr (omega (arith, read.size, more)))
]

-- of the source nothing was read, or all that counts
pub was_read : (words : List (List ℕ)) (source sink : Ends) (status : Status) → Ended words source sink status → WasRead words source (number_of status)
was_read words source sink status ended = record {
  untouched = untouched_if words source sink status ended;
  accepted = λ takes small.
      let answer = answers_what_was_read words source sink status ended takes small in
      at_end_or_most source answer.0 answer.1;
}

-- or a prefix of one, or of the text of a read fault
pub some_prefix : (words : List (List ℕ)) (source sink : Ends) (status : Status) → Ended words source sink status → HasSomePrefix words source sink (number_of status)
some_prefix words source sink status (refused not_so untouched said) takes gave_out = absurd (not_both_so (are_accepted words) (input_accepted words takes) not_so)
some_prefix words source sink status (no_words memory untouched same) takes gave_out = ([], inr (inr (refl, ap number_of memory)), untouched_prefix [] sink same)
some_prefix words source sink status (source_failed takes_so failed said) takes gave_out = (read_fault_text, inr (inl (refl, failed)), said.prefix)
some_prefix words source sink status (no_memory takes_so memory calm same) takes gave_out = ([], inr (inr (refl, ap number_of memory)), untouched_prefix [] sink same)
some_prefix words source sink status (answered takes_so bytes read given) takes gave_out =
    (given.text, inl (bytes, read, given.status, given.found_so), given.prefix)
some_prefix words source sink status (loaded number workers is untouched given live) takes gave_out =
    absurd (not_both_so (take_input words) takes (load_takes_none words number workers is))

-- ---- faults of the outside

-- a text that was said with a status other than that of usage
said_no_usage : (status result : Status) (text : List ℕ) (sink : Ends) → IsSaid status text sink result → number_of status ≢ 2 → number_of result ≢ 2
said_no_usage status result text sink said other two = elim said.cases [
  | inl done ↦ other (sym (ap number_of done.0) ∙ two)
  | inr fault ↦ let seven : number_of result ≡ 7 = ap number_of fault.0 in omega (arith, seven, two)
]

-- accepted words never get the status of refused ones
pub not_usage : (words : List (List ℕ)) (source sink : Ends) (status : Status) → Ended words source sink status → NotUsage words (number_of status)
not_usage words source sink status (refused not_so untouched said) accepted two = not_both_so (are_accepted words) accepted not_so
not_usage words source sink status (no_words memory untouched same) accepted two = let eight : number_of status ≡ 8 = ap number_of memory in omega (arith, eight, two)
not_usage words source sink status (source_failed some failed said) accepted two = said_no_usage ReadFault status read_fault_text sink said (λ e. omega (arith, e)) two
not_usage words source sink status (no_memory some memory calm same) accepted two = let eight : number_of status ≡ 8 = ap number_of memory in omega (arith, eight, two)
not_usage words source sink status (answered some bytes read given) accepted two = elim given.cases [
  | inl done ↦ (no_failure (command_of words) bytes given.status given.text accepted given.found_so).0 (sym (ap number_of done.0) ∙ two)
  | inr gave_out ↦ elim gave_out [
    | inl fault ↦ let seven : number_of status ≡ 7 = ap number_of fault.0 in omega (arith, seven, two)
    | inr memory ↦ let eight : number_of status ≡ 8 = ap number_of memory.0 in omega (arith, eight, two)
  ]
]
not_usage words source sink status (loaded number workers is untouched given live) accepted two = elim given.cases [
  | inl done ↦ (no_failure (command_of words) [] given.status given.text (load_accepted words number workers is) (words_made words [] number workers given.status given.text is given.found_so)).0 (sym (ap number_of done.0) ∙ two)
  | inr gave_out ↦ elim gave_out [
    | inl fault ↦ let seven : number_of status ≡ 7 = ap number_of fault.0 in omega (arith, seven, two)
    | inr memory ↦ let eight : number_of status ≡ 8 = ap number_of memory.0 in omega (arith, eight, two)
  ]
]

-- a read fault is one of the source, and is written
pub read_fault_cause : (words : List (List ℕ)) (source sink : Ends) (status : Status) → Ended words source sink status → HasReadFaultCause words source sink (number_of status)
read_fault_cause words source sink status (refused not_so untouched said) six = elim said.cases [
  | inl done ↦ let two : number_of status ≡ 2 = ap number_of done.0 in absurd (omega (arith, two, six))
  | inr fault ↦ let seven : number_of status ≡ 7 = ap number_of fault.0 in absurd (omega (arith, seven, six))
]
read_fault_cause words source sink status (no_words memory untouched same) six = let eight : number_of status ≡ 8 = ap number_of memory in absurd (omega (arith, eight, six))
read_fault_cause words source sink status (source_failed some failed said) six = elim said.cases [
  | inl done ↦ (some, failed, done.1)
  | inr fault ↦ let seven : number_of status ≡ 7 = ap number_of fault.0 in absurd (omega (arith, seven, six))
]
read_fault_cause words source sink status (no_memory some memory calm same) six = let eight : number_of status ≡ 8 = ap number_of memory in absurd (omega (arith, eight, six))
read_fault_cause words source sink status (answered some bytes read given) six = elim given.cases [
  | inl done ↦ absurd ((no_failure (command_of words) bytes given.status given.text (input_accepted words some) given.found_so).1 (sym (ap number_of done.0) ∙ six))
  | inr gave_out ↦ elim gave_out [
    | inl fault ↦ let seven : number_of status ≡ 7 = ap number_of fault.0 in absurd (omega (arith, seven, six))
    | inr memory ↦ let eight : number_of status ≡ 8 = ap number_of memory.0 in absurd (omega (arith, eight, six))
  ]
]
read_fault_cause words source sink status (loaded number workers is untouched given live) six = elim given.cases [
  | inl done ↦ absurd ((no_failure (command_of words) [] given.status given.text (load_accepted words number workers is) (words_made words [] number workers given.status given.text is given.found_so)).1 (sym (ap number_of done.0) ∙ six))
  | inr gave_out ↦ elim gave_out [
    | inl fault ↦ let seven : number_of status ≡ 7 = ap number_of fault.0 in absurd (omega (arith, seven, six))
    | inr memory ↦ let eight : number_of status ≡ 8 = ap number_of memory.0 in absurd (omega (arith, eight, six))
  ]
]

-- a write fault is one of the sink
pub write_fault_cause : (words : List (List ℕ)) (source sink : Ends) (status : Status) → Ended words source sink status → HasWriteFaultCause sink (number_of status)
write_fault_cause words source sink status (refused not_so untouched said) seven = elim said.cases [
  | inl done ↦ let two : number_of status ≡ 2 = ap number_of done.0 in absurd (omega (arith, two, seven))
  | inr fault ↦ fault.1
]
write_fault_cause words source sink status (no_words memory untouched same) seven = let eight : number_of status ≡ 8 = ap number_of memory in absurd (omega (arith, eight, seven))
write_fault_cause words source sink status (source_failed some failed said) seven = elim said.cases [
  | inl done ↦ let six : number_of status ≡ 6 = ap number_of done.0 in absurd (omega (arith, six, seven))
  | inr fault ↦ fault.1
]
write_fault_cause words source sink status (no_memory some memory calm same) seven = let eight : number_of status ≡ 8 = ap number_of memory in absurd (omega (arith, eight, seven))
write_fault_cause words source sink status (answered some bytes read given) seven = elim given.cases [
  | inl done ↦ absurd ((no_failure (command_of words) bytes given.status given.text (input_accepted words some) given.found_so).2 (sym (ap number_of done.0) ∙ seven))
  | inr gave_out ↦ elim gave_out [
    | inl fault ↦ fault.1
    | inr memory ↦ let eight : number_of status ≡ 8 = ap number_of memory.0 in absurd (omega (arith, eight, seven))
  ]
]
write_fault_cause words source sink status (loaded number workers is untouched given live) seven = elim given.cases [
  | inl done ↦ absurd ((no_failure (command_of words) [] given.status given.text (load_accepted words number workers is) (words_made words [] number workers given.status given.text is given.found_so)).2 (sym (ap number_of done.0) ∙ seven))
  | inr gave_out ↦ elim gave_out [
    | inl fault ↦ fault.1
    | inr memory ↦ let eight : number_of status ≡ 8 = ap number_of memory.0 in absurd (omega (arith, eight, seven))
  ]
]

-- a text that was said without a write fault left the sink's faults as they were
said_calm : (status result : Status) (text : List ℕ) (sink : Ends) → IsSaid status text sink result → number_of result ≢ 7 → DidNotFail sink
said_calm status result text sink said other = elim said.cases [ inl done ↦ done.2 | inr fault ↦ absurd (other (ap number_of fault.0)) ]

sink_shown : (words : List (List ℕ)) (source sink : Ends) (status : Status) → Ended words source sink status → number_of status ≢ 7 → DidNotFail sink
sink_shown words source sink status (refused not_so untouched said) other = said_calm Usage status usage_text sink said other
sink_shown words source sink status (no_words memory untouched same) other = same.1
sink_shown words source sink status (source_failed some failed said) other = said_calm ReadFault status read_fault_text sink said other
sink_shown words source sink status (no_memory some memory calm same) other = same.1
sink_shown words source sink status (answered some bytes read given) other = elim given.cases [
  | inl done ↦ done.2
  | inr gave_out ↦ elim gave_out [ inl fault ↦ absurd (other (ap number_of fault.0)) | inr memory ↦ memory.1 ]
]
sink_shown words source sink status (loaded number workers is untouched given live) other = elim given.cases [
  | inl done ↦ done.2
  | inr gave_out ↦ elim gave_out [ inl fault ↦ absurd (other (ap number_of fault.0)) | inr memory ↦ memory.1 ]
]

source_shown : (words : List (List ℕ)) (source sink : Ends) (status : Status) → Ended words source sink status → number_of status ≢ 6 → number_of status ≢ 7 → DidNotFail source
source_shown words source sink status (refused not_so untouched said) other another = untouched.1
source_shown words source sink status (no_words memory untouched same) other another = untouched.1
source_shown words source sink status (source_failed some failed said) other another = elim said.cases [
  | inl done ↦ absurd (other (ap number_of done.0))
  | inr fault ↦ absurd (another (ap number_of fault.0))
]
source_shown words source sink status (no_memory some memory calm same) other another = calm
source_shown words source sink status (answered some bytes read given) other another = read.unfailing
source_shown words source sink status (loaded number workers is untouched given live) other another = untouched.1

-- the status shows each fault of the outside
pub shows_faults : (words : List (List ℕ)) (source sink : Ends) (status : Status) → Ended words source sink status → ShowsFaults source sink (number_of status)
shows_faults words source sink status ended = record {
  of_the_sink = sink_shown words source sink status ended;
  of_the_source = source_shown words source sink status ended;
}
