-- The applications of a made configuration are read as they are written out.
use Rattle.std.proofs.Common.{◌≡◌, ◌∙◌, ◌<◌, ℕ, ◌+◌, ◌-◌, ◌%◌, nat_le, List, [], ◌∷◌, length, map, Option, Some, unwrap_or, Result, Ok, Err, if◌then◌else◌, ap, arith, codes, slice_get, zero-add}
use Rattle.std.specs.Option.{option_or, option_and_then}
use Rattle.std.proofs.lemmas.List.FromFn.{get_or-map-range_with_len, length-map-range_with_len}
use Rattle.std.proofs.lemmas.Option.{slice_get-get_or}
use Rattle.config_text.specs.Lookup.{looked_up}
use Rattle.config_text.specs.Pairs.{value_of}
use Rattle.music_base.specs.Clocks.{steps_until}
use Rattle.music_base.specs.Numbers.{below}
use Rattle.scene_model.specs.Limits.{most_steps, most_values, most_rules}
use Rattle.scene_model.specs.Rules.{runs_for}
use Rattle.scene_model.specs.Values.{values_in_run}
use Rattle.scene_model.specs.declared.port.PortDecl.{PortDecl}
use Rattle.scene_model.specs.declared.rule.Rule.{Rule}
use Rattle.text_words.specs.InTurn.{◌>>=◌, in_turn, some_or, faults_as, unless}
use Rattle.text_words.specs.Words.{declarations}
use Rattle.port_table.specs.Ports.{ports_of}
use Rattle.app_scripts.specs.Forms.{rule_in}
use Rattle.app_scripts.specs.Rules.{rules_of, rule_beside, judged}
use Rattle.app_scripts.specs.declared.fault.RuleFault.{RuleFault}
use Rattle.app_scripts.specs.declared.fault.RuleFault.TheVariants.{RuleText}
use Rattle.music_setup.specs.Apps.{np_in, is_script, tick_in, start_in, end_in, stop_in, np_of, times_of, parts_in, app_in, app_beside, apps_of, apps_until, holds_or}
use Rattle.music_setup.specs.declared.fault.AppKind.TheVariants.{NpText, Binary, TickText, StartText, EndText, TooManySteps, Ports, Rules, TooManyValues}
use Rattle.music_setup.specs.declared.fault.SceneFault.TheVariants.{App, StopText}
use Rattle.scene_make.specs.Made.{made, app_count, app_name, app_settings, default_settings, ranks_of, rules_text, section_of, stop_of, tick_of}
use Rattle.made_laws.proofs.Fitting.{Fitting, fitting}
use Rattle.made_laws.proofs.InTurn.{in_turn-of_map, in_turn-numbers}
use Rattle.made_laws.proofs.MadeScenes.{made_ports, made_rules, made_app, made_apps, emits, passes_on, copies, rises}
use Rattle.made_laws.proofs.Texts.{ranks_spelled, ticks_spelled, stops_spelled, ports_spelled, rules_spelled}

-- ---- settings

-- the section of each application stands at its place
section_at : (n i : ℕ) → i < app_count n → slice_get (map (section_of n) (below (app_count n))) i ≡ Some (section_of n i)
section_at n i lt =
    let len = length-map-range_with_len (section_of n) 0 (app_count n) in
    slice_get-get_or (map (section_of n) (below (app_count n))) i (section_of n i) (omega (arith, len, lt))
    ∙ ap (λ section. Some section) (get_or-map-range_with_len (section_of n) 0 (app_count n) i i (section_of n i) lt (zero-add i))

-- a setting is the application's own, or else the default
found : (n i : ℕ) → i < app_count n → (name : List ℕ) → looked_up (made n) i name ≡ option_or (value_of (app_settings n i) name) (value_of (default_settings n) name)
unfolding looked_up made
found n i lt name = λ j. option_or (option_and_then (λ own. value_of own.1 name) (section_at n i lt j)) (value_of (default_settings n) name)

-- ---- the parts of an application

np_read : (n i : ℕ) → i < app_count n → np_of (made n) i ≡ Ok (ranks_of n i)
unfolding np_of
np_read n i lt =
    ap (λ text. some_or (np_in text) NpText) (found n i lt (codes "np"))
    ∙ ap (λ np. some_or np NpText) (ranks_spelled ((n + i) % 2) (omega arith))

-- its numbers are within the limits, and its rules have no fault
fit : (n i : ℕ) → i < app_count n → Fitting (n % 5) ((n + i) % 3) ((n + i) % 2) i
fit n i lt = fitting (n % 5) ((n + i) % 3) ((n + i) % 2) i (omega arith) (omega arith) (omega arith) (omega (arith, lt))

times_read : (n i : ℕ) → i < app_count n → times_of (made n) (stop_of n) i ≡ Ok (record { start = 0; stop = stop_of n; tick = tick_of n i })
unfolding times_of is_script start_in end_in
times_read n i lt =
    let script = ap is_script (found n i lt (codes "binary")) in
    let tick = ap tick_in (found n i lt (codes "timestep")) ∙ ticks_spelled ((n + i) % 3) (omega arith) in
    let start = ap start_in (found n i lt (codes "start")) in
    let end = ap (end_in (stop_of n)) (found n i lt (codes "stoptime")) ∙ stops_spelled (n % 5) (omega arith) in
    let few = (fit n i lt).steps in
    (λ j.
    holds_or (script j) Binary
    >>= λ _. some_or (tick j) TickText
    >>= λ tick. some_or (start j) StartText
    >>= λ start. some_or (end j) EndText
    >>= λ end. holds_or (nat_le (steps_until (end - start) tick) most_steps) TooManySteps
    >>= λ _. Ok (record { start = start; stop = end; tick = tick }))
    ∙ (λ j. holds_or (few j) TooManySteps >>= λ _. Ok (record { start = 0; stop = stop_of n; tick = tick_of n i }))

-- what a spelled rule gives behind the rules before it
abbrev judged_beside : List PortDecl → ℕ → ℕ → List Rule → Option Rule → Result Rule RuleFault
judged_beside ports tick lasts before rule =
    if nat_le most_rules (length before) then Err (RuleText (length before + 1)) else judged ports tick lasts (length before + 1) rule

-- the four rules, or the first of their faults
abbrev four : ℕ → Option RuleFault → Option RuleFault → Option RuleFault → Option RuleFault → Result (List Rule) RuleFault
four i a b c d = do
  first ← unless a (emits i)
  second ← unless b passes_on
  third ← unless c copies
  fourth ← unless d rises
  Ok (first ∷ second ∷ third ∷ fourth ∷ [])

rules_read : (n i : ℕ) → i < app_count n → rules_of (made_ports (ranks_of n i)) (tick_of n i) (stop_of n - 0) (rules_text i) ≡ Ok (made_rules i)
unfolding rule_beside
rules_read n i lt =
    let fits = fit n i lt in
    let beside = judged_beside (made_ports (ranks_of n i)) (tick_of n i) (runs_for (stop_of n - 0) (tick_of n i)) in
    in_turn-of_map beside rule_in [] (declarations (rules_text i))
    ∙ ap (in_turn beside []) (rules_spelled i (omega (arith, lt)))
    ∙ (λ j. four i (fits.emits_fits j) (fits.passes_fits j) (fits.copies_fits j) (fits.rises_fits j))

parts_read : (n i : ℕ) → i < app_count n
    → parts_in (made n) i (ranks_of n i) (record { start = 0; stop = stop_of n; tick = tick_of n i }) ≡ Ok (made_ports (ranks_of n i), made_rules i)
unfolding parts_in
parts_read n i lt =
    let ports = (λ j. ports_of (ranks_of n i) (unwrap_or (found n i lt (codes "ports") j) [])) ∙ ports_spelled ((n + i) % 2) (omega arith) in
    let args = found n i lt (codes "args") in
    let rules = rules_read n i lt in
    let few = (fit n i lt).values in
    (λ j.
    faults_as Ports (ports j)
    >>= λ ports. faults_as Rules (rules_of ports (tick_of n i) (stop_of n - 0) (unwrap_or (args j) []))
    >>= λ rules. holds_or (nat_le (values_in_run (stop_of n - 0) (tick_of n i) ports) most_values) TooManyValues
    >>= λ _. Ok (ports, rules))
    ∙ (λ j.
    faults_as Rules (rules j)
    >>= λ rules. holds_or (few j) TooManyValues
    >>= λ _. Ok (made_ports (ranks_of n i), rules))

-- ---- an application, and all

app_read : (n i : ℕ) → i < app_count n → app_in (made n) (stop_of n) i (app_name i) ≡ Ok (made_app (stop_of n) n i)
unfolding app_in
app_read n i lt =
    (λ j.
    np_read n i lt j
    >>= λ np. times_read n i lt j
    >>= λ times. parts_in (made n) i np times
    >>= λ parts. Ok (record { name = app_name i; np = np; start = times.start; stop = times.stop; tick = times.tick; ports = parts.0; rules = parts.1 }))
    ∙ (λ j.
    parts_read n i lt j
    >>= λ parts. Ok (record { name = app_name i; np = ranks_of n i; start = 0; stop = stop_of n; tick = tick_of n i; ports = parts.0; rules = parts.1 }))

beside_read : (n i : ℕ) → i < app_count n → app_beside (made n) (stop_of n) (map (made_app (stop_of n) n) (below i)) (section_of n i) ≡ Ok (made_app (stop_of n) n i)
beside_read n i lt =
    let len = length-map-range_with_len (made_app (stop_of n) n) 0 i in
    ap (λ a. faults_as (App a) (app_in (made n) (stop_of n) a (app_name i))) len
    ∙ ap (faults_as (App i)) (app_read n i lt)

pub apps_read : (n : ℕ) → apps_of (made n) ≡ Ok (stop_of n, made_apps (stop_of n) n (app_count n))
unfolding apps_of stop_in made
apps_read n =
    ap (λ stop. some_or stop StopText >>= λ stop. apps_until (made n) stop >>= λ apps. Ok (stop, apps)) (stops_spelled (n % 5) (omega arith))
    ∙ ap (λ apps. apps >>= λ apps. Ok (stop_of n, apps)) each
  where
    each : apps_until (made n) (stop_of n) ≡ Ok (made_apps (stop_of n) n (app_count n))
    each =
        let count : 0 + app_count n ≡ app_count n = zero-add (app_count n) in
        in_turn-numbers (app_beside (made n) (stop_of n)) (section_of n) (made_app (stop_of n) n) 0 (app_count n) (λ i lt. beside_read n i (omega (arith, lt, count)))
        ∙ ap (λ k. Ok (made_apps (stop_of n) n k)) count
