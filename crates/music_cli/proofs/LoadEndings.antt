-- What each way to end says of `load`.
use Rattle.std.proofs.Common.{◌≡◌, ℕ, List, Some, Ok, sym, ap, subst, ◌∙◌, inl, inr, arith}
use Rattle.std.specs.Prelude.{is_some}
use Rattle.made_laws.proofs.Accepted.{makes_accepted}
use Rattle.command_words.specs.declared.command.Command.TheVariants.{Load}
use Rattle.music_cli.specs.Words.{are_accepted, take_input}
use Rattle.scene_model.specs.declared.scene.Scene.{Scene}
use Rattle.scene_make.specs.Made.{made}
use Rattle.music_setup.specs.Scenes.{scene_of}
use Rattle.music_cli.specs.Answers.{AnswersMade, HasLiveLimits, MakesLive, load_text, number_of}
use Rattle.music_cli.specs.Clauses.{Ends, HasLoad, IsGiven, IsLoad, Wrote, WrotePrefix, Ended, refused, no_words, source_failed, no_memory, answered, loaded}
use Rattle.music_cli.specs.declared.status.Status.{Status}
use Rattle.music_cli.specs.declared.status.Status.TheVariants.{Done}
use Rattle.music_cli.proofs.Input.{load_takes_none, not_both_so}
use Rattle.music_cli.proofs.Endings.{untouched_prefix}

-- a number makes one scene
live_scene : (number : ℕ) (scene : Scene) → scene_of (made number) ≡ Ok scene → MakesLive number → HasLiveLimits scene
live_scene number scene makes live =
    let other : scene_of (made number) ≡ Ok live.0 = live.1 in
    let same : live.0 ≡ scene = cc in
    subst HasLiveLimits same live.2

-- with status 0 an answer was given whole
given_whole : (P : Status → List ℕ → Type 0) (sink : Ends) (status : Status) (given : IsGiven P sink status) → number_of status ≡ 0 → (status ≡ given.status) × Wrote given.text sink
given_whole P sink status given zero = elim given.cases [
  | inl done ↦ (done.0, done.1)
  | inr gave_out ↦ elim gave_out [
    | inl fault ↦ let seven : number_of status ≡ 7 = ap number_of fault.0 in absurd (omega (arith, seven, zero))
    | inr memory ↦ let eight : number_of status ≡ 8 = ap number_of memory.0 in absurd (omega (arith, eight, zero))
  ]
]

-- an answer was given
given_load : (number workers : ℕ) (sink : Ends) (status : Status) → IsGiven (AnswersMade number workers) sink status → (status ≡ Done → MakesLive number) → IsLoad number sink (number_of status)
given_load number workers sink status given live =
    let found : AnswersMade number workers given.status given.text = given.found_so in
    record {
      scene = found.0;
      makes = found.1;
      accepted = found.2;
      answer = λ zero. subst (λ (text : List ℕ). Wrote text sink) found.3.1 (given_whole (AnswersMade number workers) sink status given zero).1;
      prefix = subst (λ (text : List ℕ). WrotePrefix text sink) found.3.1 given.prefix;
      completeness = λ calm. elim given.cases [
        | inl done ↦ inl (ap number_of (done.0 ∙ found.3.0))
        | inr gave_out ↦ elim gave_out [ inl fault ↦ absurd (calm fault.1) | inr memory ↦ inr (ap number_of memory.0) ]
      ];
      live = λ zero. live_scene number found.0 found.1 (live ((given_whole (AnswersMade number workers) sink status given zero).0 ∙ found.3.0));
    }

-- `load` writes the line of its scene, or a prefix of it
pub has_load : (words : List (List ℕ)) (source sink : Ends) (status : Status) → Ended words source sink status → HasLoad words sink (number_of status)
has_load words source sink status (refused not_so untouched said) number workers is = absurd (not_both_so (are_accepted words) (ap is_some is) not_so)
has_load words source sink status (no_words memory untouched same) number workers is =
    let makes = makes_accepted number in
    let eight : number_of status ≡ 8 = ap number_of memory in
    record {
      scene = makes.0;
      makes = makes.1;
      accepted = makes.2;
      answer = λ zero. absurd (omega (arith, eight, zero));
      prefix = untouched_prefix (load_text number makes.0) sink same;
      completeness = λ calm. inr eight;
      live = λ zero. absurd (omega (arith, eight, zero));
    }
has_load words source sink status (source_failed takes failed said) number workers is = absurd (not_both_so (take_input words) takes (load_takes_none words number workers is))
has_load words source sink status (no_memory takes memory calm same) number workers is = absurd (not_both_so (take_input words) takes (load_takes_none words number workers is))
has_load words source sink status (answered takes bytes read given) number workers is = absurd (not_both_so (take_input words) takes (load_takes_none words number workers is))
has_load words source sink status (loaded n w loads untouched given live) number workers is =
    let both : Some (Load n w) ≡ Some (Load number workers) = sym loads ∙ is in
    let same : n ≡ number = cc in
    subst (λ (m : ℕ). IsLoad m sink (number_of status)) same (given_load n w sink status given live)
