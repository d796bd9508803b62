-- What holds of each call of the program, over any source and any sink.
use Rattle.std.specs.Prelude.{◌≡◌, ◌≢◌, ◌⊎◌, ℕ, ◌<◌, ◌≤◌, ◌+◌, true, false, List, [], length, take, Option, Some, Ok, IsTrue}
use Rattle.music_base.specs.Causes.{Rose}
use Rattle.music_base.specs.Outside.{Gave, GaveAtMost, IsAtEnd, Took, TookPrefix}
use Rattle.config_text.specs.Lines.{longest_text}
use Rattle.scene_model.specs.Waits.{IsAccepted}
use Rattle.scene_model.specs.declared.scene.Scene.{Scene}
use Rattle.music_setup.specs.Setups.{SpellsScene}
use Rattle.scene_make.specs.Made.{made}
use Rattle.music_setup.specs.Scenes.{scene_of}
use Rattle.command_words.specs.Words.{command_of}
use Rattle.command_words.specs.declared.command.Command.TheVariants.{Load}
use Rattle.music_cli.specs.Words.{are_accepted, take_input}
use Rattle.music_cli.specs.Answers.{Answers, AnswersMade, CanDo, HasLiveLimits, MakesLive, can_end, load_text, number_of, usage_text, read_fault_text}
use Rattle.music_cli.specs.declared.status.Status.{Status}
use Rattle.music_cli.specs.declared.status.Status.TheVariants.{Done, Usage, ReadFault, WriteFault, NoMemory}

-- A source, or a sink, before a call and after it: the bytes that it had left, or took, where it tells them, and how
-- often it had failed.
pub record Ends : Type 0 where
  pub before : Option (List ℕ)
  pub after : Option (List ℕ)
  pub faults_before : ℕ
  pub faults_after : ℕ

-- what a source or a sink tells of itself, and its faults, at the entry and at the exit of a call
abbrev pub ends : {T : Type 0} → (T → Option (List ℕ)) → (T → ℕ) → T → T → Ends
ends told faults old new =
    record { before = told old; after = told new; faults_before = faults old; faults_after = faults new }

-- its faults rose in the call
abbrev pub Failed : Ends → Type 0
Failed e = Rose e.faults_before e.faults_after

-- its faults are what they were
abbrev pub DidNotFail : Ends → Type 0
DidNotFail e = e.faults_after ≡ e.faults_before

-- nothing was asked of it
abbrev pub Untouched : Ends → Type 0
Untouched e = (e.after ≡ e.before) × DidNotFail e

-- a sink took this text, whole
abbrev pub Wrote : List ℕ → Ends → Type 0
Wrote text sink = Took sink.before text sink.after

-- a sink took a prefix of this text
abbrev pub WrotePrefix : List ℕ → Ends → Type 0
WrotePrefix text sink = TookPrefix sink.before text sink.after

-- how many bytes are read at most: one more than the longest text has
abbrev pub most_read : ℕ
most_read = longest_text + 1

-- of the bytes that were left in the source, those that are read
abbrev pub read_part : List ℕ → List ℕ
read_part left = take most_read left

-- what was read of a source: all that was left, or one byte more than the longest text has
pub record IsRead (bytes : List ℕ) (source : Ends) : Type 0 where
  pub gave : Gave source.before bytes source.after
  pub size : length bytes ≤ most_read
  pub whole : length bytes < most_read → IsAtEnd source.after
  pub unfailing : DidNotFail source

-- the status is one that an answer comes with: it is below that of a read fault
abbrev pub IsAnswered : ℕ → Type 0
IsAnswered result = result ≤ 5

-- ---- clauses for every source and sink

-- the result is one of the statuses that can come to these words at all
abbrev pub IsStatus : List (List ℕ) → ℕ → Type 0
IsStatus words result = (status : Status) × IsTrue (can_end (command_of words) status) × (result ≡ number_of status)

-- accepted words never get the status of wrong words
abbrev pub NotUsage : List (List ℕ) → ℕ → Type 0
NotUsage words result = IsTrue (are_accepted words) → result ≢ number_of Usage

-- the usage line was written, or a prefix of it where the sink failed, or nothing where memory gave out before
abbrev pub WroteUsage : Ends → ℕ → Type 0
WroteUsage sink result =
    ((result ≡ number_of Usage) × Wrote usage_text sink)
    ⊎ ((result ≡ number_of WriteFault) × WrotePrefix usage_text sink)
    ⊎ ((result ≡ number_of NoMemory) × Untouched sink)

-- refused words get the usage line and its status, but for a write fault and want of memory, and leave the source untouched
abbrev pub IsUsage : List (List ℕ) → Ends → Ends → ℕ → Type 0
IsUsage words source sink result = are_accepted words ≡ false → WroteUsage sink result × Untouched source

-- a read fault comes only to words that take input, where the source failed in this call; it is written
abbrev pub HasReadFaultCause : List (List ℕ) → Ends → Ends → ℕ → Type 0
HasReadFaultCause words source sink result = result ≡ number_of ReadFault →
    IsTrue (take_input words) × Failed source × Wrote read_fault_text sink

-- a write fault comes only where the sink failed in this call
abbrev pub HasWriteFaultCause : Ends → ℕ → Type 0
HasWriteFaultCause sink result = result ≡ number_of WriteFault → Failed sink

-- no fault of the sink is hidden, and none of the source, unless the sink failed after it
pub record ShowsFaults (source sink : Ends) (result : ℕ) : Type 0 where
  pub of_the_sink : result ≢ number_of WriteFault → DidNotFail sink
  pub of_the_source : result ≢ number_of ReadFault → result ≢ number_of WriteFault → DidNotFail source

-- where words that take input get a status below that of a read fault, the source was read to its end, or one byte further
-- than the longest text, and status and text are what the words and these bytes get
abbrev pub AnswersWhatWasRead : List (List ℕ) → Ends → Ends → ℕ → Type 0
AnswersWhatWasRead words source sink result = IsTrue (take_input words) → IsAnswered result →
    (bytes : List ℕ) × IsRead bytes source × (status : Status) × (text : List ℕ) × (result ≡ number_of status) × Answers words bytes status text × Wrote text sink

-- all that a source had left was read, or one byte more than the longest text has
abbrev pub ReadAllThatCounts : Ends → Type 0
ReadAllThatCounts source = (bytes : List ℕ) × Gave source.before bytes source.after × (IsAtEnd source.after ⊎ (length bytes ≡ most_read))

-- refused words and `load` leave the source untouched; and where other words get a status below that of a read fault, all
-- that counts of it was read
pub record WasRead (words : List (List ℕ)) (source : Ends) (result : ℕ) : Type 0 where
  pub untouched : take_input words ≡ false → Untouched source
  pub accepted : IsTrue (take_input words) → IsAnswered result → ReadAllThatCounts source

-- the text of an answer to these words and bytes that were read of the source, that of a read fault where the source
-- failed, and none where memory gave out
abbrev pub IsSomeText : List (List ℕ) → Ends → ℕ → List ℕ → Type 0
IsSomeText words source result text =
    ((bytes : List ℕ) × IsRead bytes source × (status : Status) × Answers words bytes status text)
    ⊎ ((text ≡ read_fault_text) × Failed source)
    ⊎ ((text ≡ []) × (result ≡ number_of NoMemory))

-- where writing or memory gave out after words that take input, the sink took a prefix of such a text
abbrev pub HasSomePrefix : List (List ℕ) → Ends → Ends → ℕ → Type 0
HasSomePrefix words source sink result = IsTrue (take_input words) → ((result ≡ number_of WriteFault) ⊎ (result ≡ number_of NoMemory)) →
    (text : List ℕ) × IsSomeText words source result text × WrotePrefix text sink

-- whatever the answer is, the source gave at most one byte more than the longest text has
abbrev pub ReadsNoMore : Ends → Type 0
ReadsNoMore source = GaveAtMost most_read source.before source.after

-- `load` writes the line of the scene that is made from its number, which is accepted
pub record IsLoad (number : ℕ) (sink : Ends) (result : ℕ) : Type 0 where
  pub scene : Scene
  pub makes : scene_of (made number) ≡ Ok scene
  pub accepted : IsAccepted scene
  pub answer : result ≡ number_of Done → Wrote (load_text number scene) sink
  -- whatever the status is, the sink took a prefix of that line
  pub prefix : WrotePrefix (load_text number scene) sink
  -- where the sink did not fail it is done, or memory gave out
  pub completeness : (Failed sink → ⊥) → (result ≡ number_of Done) ⊎ (result ≡ number_of NoMemory)
  -- where it is done the scene is live under its limits
  pub live : result ≡ number_of Done → HasLiveLimits scene

abbrev pub HasLoad : List (List ℕ) → Ends → ℕ → Type 0
HasLoad words sink result = (number workers : ℕ) → command_of words ≡ Some (Load number workers) → IsLoad number sink result

-- ---- clauses where the source tells its bytes

-- a status below that of a read fault comes with a text: both are what these words and bytes get
abbrev pub HasAnswer : List (List ℕ) → Ends → Ends → ℕ → Type 0
HasAnswer words source sink result = (bytes : List ℕ) → source.before ≡ Some bytes → IsAnswered result →
    (status : Status) × (text : List ℕ) × (result ≡ number_of status) × Answers words (read_part bytes) status text × Wrote text sink

-- the text of an answer to these words and bytes, or that of a read fault where the source failed
abbrev pub IsText : List (List ℕ) → List ℕ → Ends → List ℕ → Type 0
IsText words bytes source text = ((status : Status) × Answers words (read_part bytes) status text) ⊎ ((text ≡ read_fault_text) × Failed source)

-- where writing or memory gave out, the sink took a prefix of such a text
abbrev pub HasPrefix : List (List ℕ) → Ends → Ends → ℕ → Type 0
HasPrefix words source sink result = (bytes : List ℕ) → source.before ≡ Some bytes →
    ((result ≡ number_of WriteFault) ⊎ (result ≡ number_of NoMemory)) → (text : List ℕ) × IsText words bytes source text × WrotePrefix text sink

-- Completeness: where the words take input, and the bytes spell a configuration that describes an accepted scene, the
-- command is done, or memory gave out, where neither the source nor the sink failed.
abbrev pub IsComplete : List (List ℕ) → Ends → Ends → ℕ → Type 0
IsComplete words source sink result = (bytes : List ℕ) → IsTrue (take_input words) → source.before ≡ Some bytes → CanDo (read_part bytes) →
    (Failed source → ⊥) → (Failed sink → ⊥) → (result ≡ number_of Done) ⊎ (result ≡ number_of NoMemory)

-- where a command that takes input is done, the bytes spell a configuration whose scene has limits under which it is live
abbrev pub IsLiveWhenDone : List (List ℕ) → Ends → ℕ → Type 0
IsLiveWhenDone words source result = (bytes : List ℕ) → IsTrue (take_input words) → source.before ≡ Some bytes → result ≡ number_of Done →
    (scene : Scene) × SpellsScene (read_part bytes) scene × HasLiveLimits scene

-- ---- all of them

-- all that is promised of each call of the program
pub record TopClauses (words : List (List ℕ)) (source sink : Ends) (result : ℕ) : Type 0 where
  -- for every source and every sink
  pub status_in_range : IsStatus words result
  pub accepted_words_are_no_usage : NotUsage words result
  pub refused_words_are_usage : IsUsage words source sink result
  pub cause_of_a_read_fault : HasReadFaultCause words source sink result
  pub cause_of_a_write_fault : HasWriteFaultCause sink result
  pub faults_are_shown : ShowsFaults source sink result
  pub answers_what_was_read : AnswersWhatWasRead words source sink result
  pub what_was_read_of_the_source : WasRead words source result
  pub some_prefix : HasSomePrefix words source sink result
  pub reads_no_more : ReadsNoMore source
  pub load : HasLoad words sink result
  -- where the source tells its bytes
  pub answers : HasAnswer words source sink result
  pub prefix : HasPrefix words source sink result
  pub completeness : IsComplete words source sink result
  pub accepted_scenes_are_live : IsLiveWhenDone words source result

-- ---- how a call can end

-- A text was said with a status: it was written, or the sink failed and took a prefix of it.
pub record IsSaid (status : Status) (text : List ℕ) (sink : Ends) (result : Status) : Type 0 where
  pub cases : ((result ≡ status) × Wrote text sink × DidNotFail sink) ⊎ ((result ≡ WriteFault) × Failed sink)
  pub prefix : WrotePrefix text sink

-- An answer was given to bytes that were read: its text was written, or a prefix of it where the sink failed or memory
-- gave out.
pub record IsGiven (found : Status → List ℕ → Type 0) (sink : Ends) (result : Status) : Type 0 where
  pub status : Status
  pub text : List ℕ
  pub found_so : found status text
  pub cases : ((result ≡ status) × Wrote text sink × DidNotFail sink) ⊎ ((result ≡ WriteFault) × Failed sink) ⊎ ((result ≡ NoMemory) × DidNotFail sink)
  pub prefix : WrotePrefix text sink

-- The ways in which a call can end: the words were refused; memory gave out before they were read; the source failed; memory
-- gave out before the bytes were read; an answer was given to the bytes that were read; or `load` was answered.
pub data Ended (words : List (List ℕ)) (source sink : Ends) (result : Status) : Type 0 where
  refused : are_accepted words ≡ false → Untouched source → IsSaid Usage usage_text sink result → Ended words source sink result
  no_words : result ≡ NoMemory → Untouched source → Untouched sink → Ended words source sink result
  source_failed : take_input words ≡ true → Failed source → IsSaid ReadFault read_fault_text sink result → Ended words source sink result
  no_memory : take_input words ≡ true → result ≡ NoMemory → DidNotFail source → Untouched sink → Ended words source sink result
  answered : take_input words ≡ true → (bytes : List ℕ) → IsRead bytes source → IsGiven (Answers words bytes) sink result → Ended words source sink result
  loaded : (number workers : ℕ) → command_of words ≡ Some (Load number workers) → Untouched source → IsGiven (AnswersMade number workers) sink result
      → (result ≡ Done → MakesLive number) → Ended words source sink result
