-- No fault of an application is want of memory.
use Rattle.std.proofs.Common.{◌≢◌, ℕ, ◌+◌, Bool, true, false, List, [], ◌∷◌, ◌++◌, length, Option, Some, None, ◌-◌}
use Rattle.std.specs.Prelude.{Result, Ok, Err, IfErr, IfSome, if◌then◌else◌, not, nat_le, codes}
use Rattle.music_base.specs.Clocks.{steps_until}
use Rattle.text_words.specs.InTurn.{◌>>=◌, faults_as, in_turn, some_or, unless}
use Rattle.text_words.specs.Words.{declarations}
use Rattle.config_text.specs.Lookup.{looked_up}
use Rattle.config_text.specs.declared.config.Config.{Config}
use Rattle.scene_model.specs.Limits.{most_rules, most_steps, most_values}
use Rattle.scene_model.specs.Rules.{after_fits, indices_stand, ports_stand, rate_fits, runs_for}
use Rattle.scene_model.specs.Values.{values_in_run}
use Rattle.scene_model.specs.declared.port.PortDecl.{PortDecl}
use Rattle.scene_model.specs.declared.rule.Rule.{Rule}
use Rattle.port_table.specs.MapWords.{map_repeat}
use Rattle.scene_model.specs.Ports.{output_twice}
use Rattle.port_table.specs.Ports.{beside, fault_beside, is_beyond, map_fault, port_beside, port_in, ports_of}
use Rattle.port_table.specs.declared.fault.PortFault.{PortFault}
use Rattle.port_table.specs.declared.fault.PortFault.TheVariants as port
use Rattle.app_scripts.specs.Forms.{rule_in}
use Rattle.app_scripts.specs.Rules.{fault_of, judged, rule_beside, rules_of}
use Rattle.app_scripts.specs.declared.fault.RuleFault.{RuleFault}
use Rattle.app_scripts.specs.declared.fault.RuleFault.TheVariants as rule
use Rattle.music_setup.specs.Apps.{app_in, end_in, holds_or, is_script, np_of, parts_in, ports_in, rules_in, span_of, start_in, tick_in, times_of}
use Rattle.music_setup.specs.declared.times.Times.{Times}
use Rattle.music_setup.specs.Texts.{HasKindText}
use Rattle.music_setup.specs.declared.fault.AppKind.TheVariants.{NpText, Binary, TickText, StartText, EndText, TooManySteps, Ports, Rules, TooManyValues}

-- ---- errors of readings in steps

either : {E : Type 0} (P : E → Type 0) (b : Bool) (x y : Option E) → IfSome x P → IfSome y P → IfSome (if b then x else y) P
either P true x y is_x is_y = is_x
either P false x y is_x is_y = is_y

IfErr-bind : {A B E : Type 0} (P : E → Type 0) (r : Result A E) (f : A → Result B E) → IfErr r P → ((x : A) → IfErr (f x) P) → IfErr (r >>= f) P
IfErr-bind P (Ok x) f first next = next x
IfErr-bind P (Err e) f first next = first

IfErr-unless : {A E : Type 0} (P : E → Type 0) (fault : Option E) (x : A) → IfSome fault P → IfErr (unless fault x) P
IfErr-unless P None x is = tt
IfErr-unless P (Some fault) x is = is

IfErr-some_or : {A E : Type 0} (P : E → Type 0) (o : Option A) (e : E) → P e → IfErr (some_or o e) P
IfErr-some_or P None e is = is
IfErr-some_or P (Some x) e is = tt

IfErr-holds_or : {E : Type 0} (P : E → Type 0) (test : Bool) (e : E) → P e → IfErr (holds_or test e) P
IfErr-holds_or P true e is = tt
IfErr-holds_or P false e is = is

IfErr-faults_as : {A E F : Type 0} (P : E → Type 0) (Q : F → Type 0) (f : E → F) (r : Result A E) → ((e : E) → P e → Q (f e)) → IfErr r P → IfErr (faults_as f r) Q
IfErr-faults_as P Q f (Ok x) each is = tt
IfErr-faults_as P Q f (Err e) each is = each e is

IfErr-in_turn : {A B E : Type 0} (P : E → Type 0) (read : List B → A → Result B E) → ((before : List B) (x : A) → IfErr (read before x) P)
    → (before : List B) (xs : List A) → IfErr (in_turn read before xs) P
IfErr-in_turn P read each before [] = tt
IfErr-in_turn P read each before (x ∷ xs) = IfErr-bind P (read before x) (λ y. in_turn read (before ++ y ∷ []) xs) (each before x) (λ y. IfErr-in_turn P read each (before ++ y ∷ []) xs)

-- ---- ports

abbrev IsPortKind : PortFault → Type 0
IsPortKind fault = fault ≢ port.Memory

of_map : (place : ℕ) (repeat twice : Option ℕ) → IfSome (map_fault place repeat twice) IsPortKind
of_map place (Some index) twice = λ e. cc
of_map place None (Some index) = λ e. cc
of_map place None None = tt

of_port : (before : List PortDecl) (declared : PortDecl) → IfSome (fault_beside before declared) IsPortKind
unfolding fault_beside
of_port before declared =
    either IsPortKind (is_beyond before declared.name) (Some (port.PortText (length before + 1))) _ (λ e. cc)
    (of_map (length before + 1) (map_repeat declared.map) (output_twice declared.direction declared.map))

of_declaration : (before : List PortDecl) (declared : Option PortDecl) → IfErr (beside before declared) IsPortKind
of_declaration before None = λ e. cc
of_declaration before (Some declared) = IfErr-unless IsPortKind (fault_beside before declared) declared (of_port before declared)

of_ports : (np : ℕ) (text : List ℕ) → IfErr (ports_of np text) IsPortKind
unfolding port_beside
of_ports np text = IfErr-in_turn IsPortKind (port_beside np) (λ before words. of_declaration before (port_in np words)) [] (declarations text)

-- ---- rules

abbrev IsRuleKind : RuleFault → Type 0
IsRuleKind fault = fault ≢ rule.Memory

first_of_four : (port index after rate : Bool) (place : ℕ)
    → IfSome (if port then Some (rule.RulePort place) else if index then Some (rule.RuleIndex place) else if after then Some (rule.RuleAfter place) else if rate then Some (rule.RuleRate place) else None) IsRuleKind
first_of_four true index after rate place = λ e. cc
first_of_four false true after rate place = λ e. cc
first_of_four false false true rate place = λ e. cc
first_of_four false false false true place = λ e. cc
first_of_four false false false false place = tt

of_rule : (ports : List PortDecl) (tick lasts place : ℕ) (spelled : Rule) → IfSome (fault_of ports tick lasts place spelled) IsRuleKind
unfolding fault_of
of_rule ports tick lasts place spelled =
    first_of_four (not (ports_stand ports spelled)) (not (indices_stand ports spelled)) (not (after_fits tick spelled)) (not (rate_fits lasts spelled)) place

of_judged : (ports : List PortDecl) (tick lasts place : ℕ) (spelled : Option Rule) → IfErr (judged ports tick lasts place spelled) IsRuleKind
of_judged ports tick lasts place None = λ e. cc
of_judged ports tick lasts place (Some spelled) = IfErr-unless IsRuleKind (fault_of ports tick lasts place spelled) spelled (of_rule ports tick lasts place spelled)

of_piece : (ports : List PortDecl) (tick lasts : ℕ) (before : List Rule) (words : List (List ℕ)) → IfErr (rule_beside ports tick lasts before words) IsRuleKind
unfolding rule_beside
of_piece ports tick lasts before words = go (nat_le most_rules (length before)) (judged ports tick lasts (length before + 1) (rule_in words)) (of_judged ports tick lasts (length before + 1) (rule_in words))
  where
    go : (beyond : Bool) (reading : Result Rule RuleFault) → IfErr reading IsRuleKind → IfErr (if beyond then Err (rule.RuleText (length before + 1)) else reading) IsRuleKind
    go true reading is = λ e. cc
    go false reading is = is

of_rules : (ports : List PortDecl) (tick stop : ℕ) (text : List ℕ) → IfErr (rules_of ports tick stop text) IsRuleKind
of_rules ports tick stop text = IfErr-in_turn IsRuleKind (rule_beside ports tick (runs_for stop tick)) (λ before words. of_piece ports tick (runs_for stop tick) before words) [] (declarations text)

-- ---- an application

of_np : (config : Config) (a : ℕ) → IfErr (np_of config a) HasKindText
unfolding np_of
of_np config a = IfErr-some_or HasKindText _ NpText tt

of_times : (config : Config) (stop a : ℕ) → IfErr (times_of config stop a) HasKindText
unfolding times_of
of_times config stop a =
    IfErr-bind HasKindText (holds_or (is_script (looked_up config a (codes "binary"))) Binary) _ (IfErr-holds_or HasKindText _ Binary tt) (λ scripted.
    IfErr-bind HasKindText (some_or (tick_in (looked_up config a (codes "timestep"))) TickText) _ (IfErr-some_or HasKindText _ TickText tt) (λ tick.
    IfErr-bind HasKindText (some_or (start_in (looked_up config a (codes "start"))) StartText) _ (IfErr-some_or HasKindText _ StartText tt) (λ start.
    IfErr-bind HasKindText (some_or (end_in stop (looked_up config a (codes "stoptime"))) EndText) _ (IfErr-some_or HasKindText _ EndText tt) (λ end.
    IfErr-bind HasKindText (holds_or (nat_le (steps_until (end - start) tick) most_steps) TooManySteps) _ (IfErr-holds_or HasKindText _ TooManySteps tt) (λ few. tt)))))

of_parts : (config : Config) (a np : ℕ) (times : Times) → IfErr (parts_in config a np times) HasKindText
unfolding parts_in
of_parts config a np times =
    let tick = times.tick in
    let span = span_of times in
    IfErr-bind HasKindText (ports_in np (looked_up config a (codes "ports"))) _ (IfErr-faults_as IsPortKind HasKindText Ports _ (λ fault is. is) (of_ports np _)) (λ ports.
    IfErr-bind HasKindText (rules_in ports tick span (looked_up config a (codes "args"))) _ (IfErr-faults_as IsRuleKind HasKindText Rules _ (λ fault is. is) (of_rules ports tick span _)) (λ rules.
    IfErr-bind HasKindText (holds_or (nat_le (values_in_run span tick ports) most_values) TooManyValues) _ (IfErr-holds_or HasKindText _ TooManyValues tt) (λ few. tt)))

pub of_app : (config : Config) (stop a : ℕ) (name : List ℕ) → IfErr (app_in config stop a name) HasKindText
unfolding app_in
of_app config stop a name =
    IfErr-bind HasKindText (np_of config a) _ (of_np config a) (λ np.
    IfErr-bind HasKindText (times_of config stop a) _ (of_times config stop a) (λ times.
    IfErr-bind HasKindText (parts_in config a np times) _ (of_parts config a np times) (λ parts. tt)))
