-- What the lives of applications without a fault put out can be written: each word stands in a rule, and 64 bits hold each value.
use Rattle.std.proofs.Common.{◌≡◌, ℕ, zero, suc, Bool, true, false, ◌+◌, ◌&&◌, not, List, [], ◌∷◌, length, sym, subst, inl, inr, arith, ℤ, pos, negsuc, ◌+ℤ◌}
use Rattle.std.specs.Prelude.{⊤, FitsSigned, IfSome, Option, None, Some, map, if◌then◌else◌, ◌==◌}
use Rattle.std.specs.Int.{w64}
use Rattle.std.specs.Option.{unwrap_or}
use Rattle.std.specs.List.{AllByRecursion, filter, cons_option, filter_map, flat_map, last_or}
use Rattle.std.proofs.lemmas.Bool.{and_parts, cases_Bool, cases_lt, leb-true}
use Rattle.std.proofs.lemmas.Int.{fits_signed_from_abs}
use Rattle.std.proofs.lemmas.List.{get_or_past}
use Rattle.std.proofs.lemmas.List.Elements.{recursion_from_All}
use Rattle.std.proofs.lemmas.List.Sums.{AllPass-from_list_all}
use Rattle.music_base.specs.Names.{is_word}
use Rattle.music_base.specs.Numbers.{below, in_order}
use Rattle.music_base.specs.declared.item.Item.{Item}
use Rattle.music_base.specs.declared.item.Item.TheVariants.{Event, Value, Message}
use Rattle.music_base.proofs.Lists.{All-filter, All-flat_map, All-flat_map_of, All-get_or, All-in_order, All-map, All-map_of, All-weaker, All-when}
use Rattle.index_maps.specs.Maps.{indices, maps_index}
use Rattle.index_maps.specs.declared.map.PortMap.{PortMap}
use Rattle.scene_model.specs.Clocks.{steps}
use Rattle.scene_model.specs.Faults.{IsFaultless}
use Rattle.scene_model.specs.Lives.{after_turns, again, history, input_by, inputs, life, moment, state_before, step_output}
use Rattle.scene_model.specs.Scenes.{app_at, link_at, links_to, no_app, port_at, sender}
use Rattle.scene_model.specs.Spellable.{is_spellable, is_value}
use Rattle.scene_model.specs.Tables.{Fits64Bits, Sent, StepOutput, Table, arrivals, arrives, block, block_on, coming, sent_cmp, step_of, steps_of, value}
use Rattle.scene_model.specs.Turns.{Moment, clock_of, emissions, emitted, event, event_mapped, given, input_items, is_over, is_within, items_named, map_named, message, passed, port_output, replied, same_name, saturated, target_of, times_within, turn, value_given, with_state}
use Rattle.scene_model.specs.declared.port.Direction.{Direction}
use Rattle.scene_model.specs.declared.port.Direction.TheVariants.{Output, Input}
use Rattle.scene_model.specs.declared.port.PortDecl.{PortDecl}
use Rattle.scene_model.specs.declared.port.PortKind.{PortKind}
use Rattle.scene_model.specs.declared.port.PortKind.TheVariants.{Values}
use Rattle.scene_model.specs.declared.rule.Rule.{Rule}
use Rattle.scene_model.specs.declared.rule.Rule.TheVariants.{EmitAt, EmitEvery, Pass, SetValue, Ramp, CopyValues, When, Say, Reply}
use Rattle.scene_model.specs.declared.scene.AppDecl.{AppDecl}
use Rattle.scene_model.specs.declared.scene.Scene.{Scene}
use Rattle.scene_model.proofs.Emissions.{emissions-each}
use Rattle.scene_model.proofs.Faultless.{app_is}

-- ---- words and values

-- a message's word is a word
abbrev pub HasWord : Item → Type 0
HasWord (Message said) = is_word said.word ≡ true
HasWord _ = ⊤

-- an item that can be written: its word is a word, and 64 bits hold its value
abbrev pub IsWritten : Item → Type 0
IsWritten item = HasWord item × Fits64Bits item

-- P holds of each item of a step
abbrev AllIn : (Item → Type 0) → StepOutput → Type 0
AllIn P = AllByRecursion (AllByRecursion P)

-- each item of a table can be written
abbrev pub IsWrittenTable : Table → Type 0
IsWrittenTable = AllByRecursion (AllByRecursion (AllIn IsWritten))

-- ---- what a rule emits

event_written : (output : PortMap) (time : ℕ) (z : ℤ) → AllByRecursion IsWritten (event_mapped output time z)
event_written output time (pos g) = All-when IsWritten (maps_index output g) (event g time ∷ []) (λ _. ((tt, tt), tt))
event_written output time (negsuc g) = tt

passed_written : (output : PortMap) (time : ℕ) (shift : ℤ) (item : Item) → AllByRecursion IsWritten (passed output time shift item)
passed_written output time shift (Event e) = event_written output time (pos e.global +ℤ shift)
passed_written output time shift item = tt

replied_written : (time : ℕ) (item : Item) → HasWord item → AllByRecursion IsWritten (replied time item)
replied_written time (Message said) word = ((word, tt), tt)
replied_written time item word = tt

named_in : (P : Item → Type 0) (ports : List PortDecl) (lists : StepOutput) (name : List ℕ) → AllIn P lists
    → AllByRecursion P (items_named ports lists name)
named_in P [] lists name h = tt
named_in P (port ∷ ports) [] name h = tt
named_in P (port ∷ ports) (items ∷ lists) name h = elim (cases_Bool (same_name port.name name)) [
  | inl same ↦ rw same h.0
  | inr other ↦ rw other (named_in P ports lists name h.1)
]

emitted_written : (m : Moment) → AllIn HasWord m.inputs → (rule : Rule) (was_over : Bool) → is_spellable rule ≡ true
    → AllByRecursion IsWritten (emitted m rule was_over)
emitted_written m words (EmitAt port index time) was_over is =
    All-when IsWritten (is_within m time) (event index time ∷ []) (λ _. ((tt, tt), tt))
emitted_written m words (EmitEvery port index every first) was_over is =
    All-map_of IsWritten (event index) (λ t. (tt, tt)) (times_within m every first)
emitted_written m words (Pass input output shift after) was_over is =
    let again : Item → List Item = passed (map_named m output) (clock_of m + after) shift in
    All-flat_map_of IsWritten again (passed_written (map_named m output) (clock_of m + after) shift) (input_items m input)
emitted_written m words (When input index over output x) was_over is =
    All-when IsWritten (is_over m input index over && not was_over) (event x (clock_of m) ∷ []) (λ _. ((tt, tt), tt))
emitted_written m words (Say port word every first) was_over is =
    let spelled : is_word word ≡ true = (and_parts _ _ (and_parts _ _ (and_parts _ _ is).0).0).1 in
    All-map_of IsWritten (message word) (λ t. (spelled, tt)) (times_within m every first)
emitted_written m words (Reply input output after) was_over is =
    let again : Item → List Item = replied (clock_of m + after) in
    All-flat_map IsWritten again (input_items m input) (All-weaker HasWord (λ item. AllByRecursion IsWritten (again item))
    (replied_written (clock_of m + after)) (input_items m input) (named_in HasWord m.ports m.inputs input words))
emitted_written m words rule was_over is = tt

-- ---- what value a rule gives

abbrev Fits : ℤ → Type 0
Fits = FitsSigned w64

saturated_fits : (z : ℤ) → Fits (saturated z)
unfolding saturated
saturated_fits (pos n) = record { sfits = omega arith }
saturated_fits (negsuc n) = record { sfits = omega arith }

value_fits : (value : ℤ) → is_value value ≡ true → Fits value
value_fits value is = let small = leb-true _ _ is in fits_signed_from_abs w64 value (omega arith)

some_when : (b : Bool) (value : ℤ) → Fits value → IfSome (if b then Some value else None) Fits
some_when true value fits = fits
some_when false value fits = tt

given_fits : (m : Moment) (g : ℕ) (rule : Rule) → is_spellable rule ≡ true → IfSome (given m g rule) Fits
given_fits m g (SetValue port index value) is = some_when (index == g) value (value_fits value (and_parts _ _ is).1)
given_fits m g (Ramp port index start by) is = some_when (index == g) _ (saturated_fits _)
given_fits m g (CopyValues input output numerator denominator add) is =
    some_when (maps_index (map_named m input) g) _ (saturated_fits _)
given_fits m g rule is = tt

-- the last that rules give
last_fits : (f : Rule → Option ℤ) (o : Option ℤ) (rules : List Rule) → IfSome o Fits
    → AllByRecursion (λ rule. IfSome (f rule) Fits) rules → IfSome (last_or o (filter_map f rules)) Fits
last_fits f o [] fits h = fits
last_fits f o (rule ∷ rules) fits h = go (f rule) h.0 (λ one this. last_fits f one rules this h.1)
  where
    go : (one : Option ℤ) → IfSome one Fits → ((before : Option ℤ) → IfSome before Fits → IfSome (last_or before (filter_map f rules)) Fits)
        → IfSome (last_or o (cons_option one (filter_map f rules))) Fits
    go None this rest = rest o fits
    go (Some value) this rest = rest (Some value) this

or_zero_fits : (o : Option ℤ) → IfSome o Fits → Fits (unwrap_or o (pos 0))
or_zero_fits None fits = record { sfits = omega arith }
or_zero_fits (Some value) fits = fits

-- ---- what a turn puts out

abbrev AreSpellable : List Rule → Type 0
AreSpellable = AllByRecursion (λ rule. is_spellable rule ≡ true)

module _ (rules : List Rule) (spelled : AreSpellable rules) (state : List Bool) (m : Moment) (words : AllIn HasWord m.inputs) where
  value_given_fits : (name : List ℕ) (g : ℕ) → Fits (value_given m rules name g)
  value_given_fits name g =
      or_zero_fits _ (last_fits gives None rules tt (All-weaker (λ rule. is_spellable rule ≡ true) (λ rule. IfSome (gives rule) Fits) each rules spelled))
    where
      gives : Rule → Option ℤ
      gives rule = if same_name (target_of rule) name then given m g rule else None

      each : (rule : Rule) → is_spellable rule ≡ true → IfSome (gives rule) Fits
      each rule is = elim (cases_Bool (same_name (target_of rule) name)) [
        | inl same ↦ rw same (given_fits m g rule is)
        | inr other ↦ rw other tt
      ]

  emissions_written : (name : List ℕ) → AllByRecursion IsWritten (emissions m (with_state rules state) name)
  emissions_written name =
      emissions-each IsWritten (λ rule. is_spellable rule ≡ true) m rules state name (λ rule was_over is _. emitted_written m words rule was_over is) spelled

  port_written : (direction : Direction) (kind : PortKind) (port : PortDecl) → AllByRecursion IsWritten (port_output rules state m direction kind port)
  port_written Input kind port = tt
  port_written Output Values port = All-map_of IsWritten (λ g. Value g (value_given m rules port.name g)) (λ g. (tt, value_given_fits port.name g)) _
  port_written Output kind port = emissions_written port.name

  turn_written : AllIn IsWritten (turn rules state m)
  unfolding turn
  turn_written = All-map_of (AllByRecursion IsWritten) (λ (port : PortDecl). port_output rules state m port.direction port.kind port)
      (λ port. port_written port.direction port.kind port) m.ports

-- ---- what a step reads

module _ (scene : Scene) (table : Table) (written : IsWrittenTable table) where
  pub block_written : (a k p : ℕ) → AllByRecursion IsWritten (block table a k p)
  block_written a k p = All-get_or (AllByRecursion IsWritten) (step_of table a k) p [] tt
      (All-get_or (AllIn IsWritten) (steps_of table a) k [] tt (All-get_or (AllByRecursion (AllIn IsWritten)) table a [] tt written))

  abbrev SentHasWord : Sent → Type 0
  SentHasWord sent = HasWord sent.item

  coming_words : (j c : ℕ) → AllByRecursion SentHasWord (coming scene table j c)
  coming_words j c =
      let send : Item → Sent = λ item. record { item = item; app = sender scene c; port = (link_at scene c).from_port } in
      let here : ℕ → List Item = λ k. filter (arrives scene c j) (block_on scene table c k) in
      All-flat_map_of SentHasWord (λ k. map send (here k)) (λ k. All-map SentHasWord send (here k)
      (All-filter HasWord (arrives scene c j) (block_on scene table c k)
      (All-weaker IsWritten HasWord (λ item is. is.0) _ (block_written (sender scene c) k (link_at scene c).from_port))))
      (below (steps scene (sender scene c)))

  pub arrivals_words : (b p j : ℕ) → AllByRecursion HasWord (arrivals scene table b p j)
  unfolding arrivals
  arrivals_words b p j =
      let sent : List Sent = flat_map (coming scene table j) (links_to scene b p) in
      All-map HasWord (λ (s : Sent). s.item) (in_order sent_cmp sent) (All-in_order SentHasWord sent_cmp sent
      (All-flat_map_of SentHasWord (coming scene table j) (coming_words j) (links_to scene b p)))

  input_words : (b j p : ℕ) (direction : Direction) (kind : PortKind) → AllByRecursion HasWord (input_by direction kind scene table b j p)
  input_words b j p Output kind = tt
  input_words b j p Input Values = All-map_of HasWord (λ g. Value g (value scene table b p j g)) (λ g. tt) (indices (port_at scene b p).map)
  input_words b j p Input kind = arrivals_words b p j

  inputs_words : (b j : ℕ) → AllIn HasWord (inputs scene table b j)
  inputs_words b j = All-map_of (AllByRecursion HasWord) (λ p. input_by (port_at scene b p).direction (port_at scene b p).kind scene table b j p)
      (λ p. input_words b j p (port_at scene b p).direction (port_at scene b p).kind) (below (length (app_at scene b).ports))

  again_written : ((a : ℕ) → AreSpellable (app_at scene a).rules) → IsWrittenTable (again scene table)
  unfolding step_output
  again_written spelled = All-map_of (AllByRecursion (AllIn IsWritten)) (life scene table) (λ a.
      All-map_of (AllIn IsWritten) (step_output scene table a) (λ k.
      turn_written (app_at scene a).rules (spelled a) (state_before scene table a k) (moment scene table a k) (inputs_words a k))
      (below (steps scene a))) (below (length scene.apps))

-- ---- the history

module _ (scene : Scene) (faultless : IsFaultless scene) where
  spellable : (a : ℕ) → AreSpellable (app_at scene a).rules
  spellable a = elim (cases_lt a (length scene.apps)) [
    | inl app ↦ recursion_from_All (λ rule. is_spellable rule ≡ true) (app_at scene a).rules
        (AllPass-from_list_all is_spellable (app_at scene a).rules (app_is scene faultless a app).rules.spellable)
    | inr past ↦ subst (λ (app : AppDecl). AreSpellable app.rules) (sym (get_or_past scene.apps a no_app past)) tt
  ]

  turns_written : (n : ℕ) → IsWrittenTable (after_turns scene n)
  turns_written zero = All-map_of (AllByRecursion (AllIn IsWritten)) (λ (_ : AppDecl). let none : List StepOutput = [] in none) (λ _. tt) scene.apps
  turns_written (suc n) = again_written scene (after_turns scene n) (turns_written n) spellable

  pub history_written : IsWrittenTable (history scene)
  unfolding history
  history_written = turns_written _

  pub history_fits : (a k p : ℕ) → AllByRecursion Fits64Bits (block (history scene) a k p)
  history_fits a k p = All-weaker IsWritten Fits64Bits (λ item is. is.1) _ (block_written scene (history scene) history_written a k p)
