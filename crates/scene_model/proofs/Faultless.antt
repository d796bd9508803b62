-- What holds of the parts of a scene without a fault, by their places.
use Rattle.std.proofs.Common.{◌≡◌, ℕ, zero, suc, ◌+◌, ◌<◌, ◌≤◌, Bool, true, false, ◌&&◌, List, [], ◌∷◌, length, refl, sym, ap, subst, ◌∙◌, inl, inr, arith}
use Rattle.std.specs.Prelude.{nat_lt, nat_le, ◌==◌, Option, Some, None, IfSome}
use Rattle.std.specs.Option.{unwrap_or}
use Rattle.std.specs.Int.{IsInRange}
use Rattle.std.specs.List.{filter, find, list_all, list_any, range_with_len}
use Rattle.std.proofs.lemmas.Bool.{and_parts, cases_Bool, cases_eq, cases_lt, eqb-true, leb-true, lt-ltb, ltb-true, ne_eqb}
use Rattle.std.proofs.lemmas.List.{get_or_past}
use Rattle.std.proofs.lemmas.List.Sums.{AllPass-from_list_all}
use Rattle.music_base.specs.Clocks.{steps_until}
use Rattle.music_base.specs.Times.{greatest_time}
use Rattle.music_base.proofs.Lists.{All-at, All-of, all_differ-at, filter-agree_within, filter-none}
use Rattle.index_maps.specs.Intervals.{first_shared, is_shared, ranks_mapping}
use Rattle.index_maps.specs.Maps.{indices, maps_index}
use Rattle.index_maps.specs.declared.map.PortMap.{PortMap}
use Rattle.index_maps.proofs.Ascending.{has-indices}
use Rattle.index_maps.proofs.Counts.{maps_index-ranks_mapping}
use Rattle.scene_model.specs.Clocks.{delay, latency, steps, tick}
use Rattle.scene_model.specs.Connections.{IsConnection}
use Rattle.scene_model.specs.Faults.{IsApp, IsFaultless}
use Rattle.scene_model.specs.Limits.{longest_tick, most_buffered, most_steps}
use Rattle.scene_model.specs.Links.{directions_fit, has_end, has_ends}
use Rattle.scene_model.specs.Links as links
use Rattle.scene_model.specs.Ports.{IsPort, output_twice, same_kind}
use Rattle.scene_model.specs.Scenes.{app_at, input_of, link_at, links_to, no_app, no_link, no_port, output_of, port_at, receiver, sender}
use Rattle.scene_model.specs.declared.port.Direction.{Direction}
use Rattle.scene_model.specs.declared.port.Direction.TheVariants.{Output, Input}
use Rattle.scene_model.specs.declared.port.PortKind.{PortKind}
use Rattle.scene_model.specs.declared.port.PortKind.TheVariants.{Events, Values, Messages}
use Rattle.scene_model.specs.declared.scene.AppDecl.{AppDecl}
use Rattle.scene_model.specs.declared.scene.Link.{Link}
use Rattle.scene_model.specs.declared.scene.Scene.{Scene}

-- ---- what tests tell

directed : (from to : Direction) → directions_fit from to ≡ true → (from ≡ Output) × (to ≡ Input)
directed Output Input is = (refl, refl)
directed Output Output is = absurd cc
directed Input Output is = absurd cc
directed Input Input is = absurd cc

pub of_one_kind : (kind other : PortKind) → same_kind kind other ≡ true → kind ≡ other
of_one_kind Events Events is = refl
of_one_kind Values Values is = refl
of_one_kind Messages Messages is = refl
of_one_kind Events Values is = absurd cc
of_one_kind Events Messages is = absurd cc
of_one_kind Values Events is = absurd cc
of_one_kind Values Messages is = absurd cc
of_one_kind Messages Events is = absurd cc
of_one_kind Messages Values is = absurd cc

-- what a connection states lies within its limits
pub record HasNumbers (link : Link) : Type 0 where
  pub latency : IfSome link.latency (λ latency. latency ≤ greatest_time)
  pub buffered : IfSome link.buffered (IsInRange 1 most_buffered)

early : (latency : Option ℕ) → links.is_latency latency ≡ true → IfSome latency (λ latency. latency ≤ greatest_time)
early None is = tt
early (Some latency) is = leb-true latency greatest_time is

keeps_some : (buffered : Option ℕ) → links.is_buffered buffered ≡ true → IfSome buffered (IsInRange 1 most_buffered)
keeps_some None is = tt
keeps_some (Some blocks) is = let parts = and_parts (nat_le 1 blocks) (nat_le blocks most_buffered) is in (leb-true 1 blocks parts.0, leb-true blocks most_buffered parts.1)

numbers_of : (link : Link) → links.has_lawful_numbers link ≡ true → HasNumbers link
numbers_of link are =
    let first = and_parts (links.is_width link.width && links.is_latency link.latency) (links.is_buffered link.buffered) are in
    let second = and_parts (links.is_width link.width) (links.is_latency link.latency) first.0 in
    record { latency = early link.latency second.1; buffered = keeps_some link.buffered first.1 }

-- a time of its own, or else another
own_or : (own : Option ℕ) (other : ℕ) → IfSome own (λ time. time ≤ greatest_time) → other ≤ greatest_time → unwrap_or own other ≤ greatest_time
own_or None other is le = le
own_or (Some own) other is le = is

-- ---- what lists tell

-- of numbers of which no two pass a test, at most one does
few_pass : (p : ℕ → Bool) (a n : ℕ) → ((i j : ℕ) → a ≤ i → i < j → j < a + n → p i ≡ true → p j ≡ false) → length (filter p (range_with_len a n)) ≤ 1
few_pass p a zero apart = omega arith
few_pass p a (suc n) apart = elim (cases_Bool (p a)) [
  | inl passes ↦
      let none : filter p (range_with_len (a + 1) n) ≡ [] =
      filter-agree_within p (λ j. false) (a + 1) n (λ j low high. apart a j (omega arith) (omega arith) (omega arith) passes)
      ∙ filter-none (λ j. false) (range_with_len (a + 1) n) (All-of (λ j. false ≡ false) (λ j. refl) (range_with_len (a + 1) n)) in
      rw (passes, none) (omega arith)
  | inr fails ↦ rw fails (few_pass p (a + 1) n (λ i j low before high. apart i j (omega arith) before (omega arith)))
]

-- what is found nowhere passes nowhere
none_found : (p : ℕ → Bool) (xs : List ℕ) (g : ℕ) → find p xs ≡ None → p g ≡ true → list_any (λ i. i == g) xs ≡ false
none_found p [] g none passes = refl
none_found p (x ∷ xs) g none passes = elim (cases_Bool (p x)) [
  | inl here ↦ let found : Some x ≡ None = rw here at none in absurd cc
  | inr fails ↦ elim (cases_eq x g) [
    | inl same ↦ let both : true ≡ false = sym passes ∙ (ap p (sym same) ∙ fails) in absurd cc
    | inr other ↦ rw (ne_eqb x g other) (none_found p xs g (rw fails at none) passes)
  ]
]

-- a port none of whose indices is shared maps no index at two ranks
mapped_once : (map : PortMap) (g : ℕ) → first_shared map ≡ None → ranks_mapping map g ≤ 1
unfolding first_shared
mapped_once map g none = elim (cases_lt 1 (ranks_mapping map g)) [
  | inl many ↦
      let absent : maps_index map g ≡ false = sym (has-indices g map) ∙ none_found (is_shared map) (indices map) g none (lt-ltb 1 (ranks_mapping map g) many) in
      let some : maps_index map g ≡ true = maps_index-ranks_mapping map g ∙ lt-ltb 0 (ranks_mapping map g) (omega (arith, many)) in
      absurd cc
  | inr few ↦ few
]

module _ (scene : Scene) (faultless : IsFaultless scene) where
  -- ---- applications and ports

  pub app_is : (a : ℕ) → a < length scene.apps → IsApp (app_at scene a)
  app_is a lt = All-at IsApp scene.apps a no_app faultless.apps.each lt

  pub port_is : (a p : ℕ) → a < length scene.apps → p < length (app_at scene a).ports → IsPort (app_at scene a).np (port_at scene a p)
  port_is a p lt within = All-at (IsPort (app_at scene a).np) (app_at scene a).ports p no_port (app_is a lt).ports.each within

  -- what stands for an absent application ticks, too
  pub tick_is : (a : ℕ) → IsInRange 1 longest_tick (tick scene a)
  unfolding tick
  tick_is a = elim (cases_lt a (length scene.apps)) [
    | inl lt ↦ (app_is a lt).tick
    | inr past ↦ subst (λ (app : AppDecl). IsInRange 1 longest_tick app.tick) (sym (get_or_past scene.apps a no_app past)) (omega arith, omega arith)
  ]

  pub steps_are : (a : ℕ) → a < length scene.apps → steps scene a ≤ most_steps
  unfolding steps tick steps_until
  steps_are a lt = (app_is a lt).few_steps

  -- ---- connections

  passes : (test : Link → Bool) (c : ℕ) → list_all test scene.links ≡ true → c < length scene.links → test (link_at scene c) ≡ true
  passes test c all lt = AllPass-from_list_all test scene.links all c no_link lt

  end_is : (a p : ℕ) → has_end scene.apps a p ≡ true → (a < length scene.apps) × (p < length (app_at scene a).ports)
  end_is a p is =
      let parts = and_parts (nat_lt a (length scene.apps)) (nat_lt p (length (app_at scene a).ports)) is in
      (ltb-true _ _ parts.0, ltb-true _ _ parts.1)

  pub numbers_are : (c : ℕ) → c < length scene.links → HasNumbers (link_at scene c)
  numbers_are c lt = numbers_of (link_at scene c) (passes links.has_lawful_numbers c faultless.link_numbers lt)

  pub connection_is : (c : ℕ) → c < length scene.links → IsConnection scene c
  unfolding sender receiver has_ends links.output_of links.input_of latency delay
  connection_is c lt =
      let link : Link = link_at scene c in
      let ends = and_parts (has_end scene.apps link.from_app link.from_port) (has_end scene.apps link.to_app link.to_port) (passes (has_ends scene.apps) c faultless.links.with_ends lt) in
      let from = end_is link.from_app link.from_port ends.0 in
      let to = end_is link.to_app link.to_port ends.1 in
      let directions = directed (output_of scene c).direction (input_of scene c).direction (passes (links.is_directed scene.apps) c faultless.links.directed lt) in
      let input = port_is link.to_app link.to_port to.0 to.1 in
      record {
        from_app = from.0;
        from_port = from.1;
        to_app = to.0;
        to_port = to.1;
        from_output = directions.0;
        to_input = directions.1;
        of_one_kind = of_one_kind (output_of scene c).kind (input_of scene c).kind (passes (links.is_of_one_kind scene.apps) c faultless.links.of_one_kind lt);
        latency = own_or (link_at scene c).latency _ (numbers_are c lt).latency input.latency;
        delay = own_or (link_at scene c).latency _ (numbers_are c lt).latency input.delay;
      }

  -- ---- two connections

  pub joined_once : (c d : ℕ) → c < d → d < length scene.links → links.same_ends (link_at scene c) (link_at scene d) ≡ false
  joined_once c d before lt = all_differ-at links.same_ends scene.links c d no_link faultless.links.pairs_once before lt

  not_fed : (kind : PortKind) (same : Bool) → kind ≡ Values → (links.is_continuous kind && same) ≡ false → same ≡ false
  not_fed Values same is not = not
  not_fed Events same is not = absurd cc
  not_fed Messages same is not = absurd cc

  -- where one leads to a continuous input, a later one does not
  fed_once : (b p c d : ℕ) → (port_at scene b p).kind ≡ Values → c < d → d < length scene.links
      → (receiver scene c == b && (link_at scene c).to_port == p) ≡ true → (receiver scene d == b && (link_at scene d).to_port == p) ≡ false
  unfolding receiver links.input_of
  fed_once b p c d continuous before lt first = elim (cases_Bool (receiver scene d == b && (link_at scene d).to_port == p)) [
    | inr not ↦ not
    | inl second ↦
        let here = and_parts ((link_at scene c).to_app == b) ((link_at scene c).to_port == p) first in
        let there = and_parts ((link_at scene d).to_app == b) ((link_at scene d).to_port == p) second in
        let app : (link_at scene d).to_app ≡ b = eqb-true _ _ there.0 in
        let port : (link_at scene d).to_port ≡ p = eqb-true _ _ there.1 in
        let kind : (port_at scene (link_at scene d).to_app (link_at scene d).to_port).kind ≡ Values = rw (app, port) continuous in
        let again : links.same_input (link_at scene c) (link_at scene d) ≡ true = rw (app, port, here.0, here.1) refl in
        let apart = all_differ-at (links.feeds_again scene.apps) scene.links c d no_link faultless.links.continuous_once before lt in
        let not : links.same_input (link_at scene c) (link_at scene d) ≡ false = not_fed _ (links.same_input (link_at scene c) (link_at scene d)) kind apart in
        let both : true ≡ false = sym again ∙ not in
        absurd cc
  ]

  pub links_to-few : (b p : ℕ) → (port_at scene b p).kind ≡ Values → length (links_to scene b p) ≤ 1
  links_to-few b p continuous = few_pass (λ c. receiver scene c == b && (link_at scene c).to_port == p) 0 (length scene.links) (λ c d low before high. fed_once b p c d continuous before (omega arith))

  -- ---- outputs

  pub output_maps_once : (a p g : ℕ) → a < length scene.apps → p < length (app_at scene a).ports → (port_at scene a p).direction ≡ Output → ranks_mapping (port_at scene a p).map g ≤ 1
  output_maps_once a p g lt within output =
      let once : output_twice (port_at scene a p).direction (port_at scene a p).map ≡ None = (port_is a p lt within).once in
      mapped_once (port_at scene a p).map g (rw output at once)
