-- Blocks that fit their connections, and agree where two connections begin at one output, are those of a proper table.
use Rattle.std.proofs.Common.{ℕ, ◌+◌, ◌<◌, ◌≤◌, ◌≡◌, ◌⊎◌, inl, inr, refl, sym, ◌∙◌, ap, subst, arith, List, [], length, map, pos}
use Rattle.std.specs.Prelude.{slice_index_or}
use Rattle.std.proofs.lemmas.Bool.{cases_lt, cases_eq}
use Rattle.std.proofs.lemmas.List.FromFn.{length-map-range_with_len, get_or-map-range_with_len}
use Rattle.music_base.specs.Numbers.{below}
use Rattle.music_base.specs.declared.item.Item.{Item}
use Rattle.index_maps.specs.Maps.{indices}
use Rattle.scene_model.specs.Clocks.{steps, clock}
use Rattle.scene_model.specs.Faults.{IsFaultless}
use Rattle.scene_model.specs.Passing.{Begins, Fitting, Passed, passed_on}
use Rattle.scene_model.specs.Scenes.{sender, link_at, app_at, port_at}
use Rattle.scene_model.specs.Tables.{Table, StepOutput, step_of, steps_of, block, IsProperBlock, IsProper}
use Rattle.scene_model.specs.declared.port.Direction.{Direction}
use Rattle.scene_model.specs.declared.port.Direction.TheVariants.{Output, Input}
use Rattle.scene_model.specs.declared.port.PortDecl.{PortDecl}
use Rattle.scene_model.specs.declared.port.PortKind.{PortKind}
use Rattle.scene_model.specs.declared.port.PortKind.TheVariants.{Events, Values, Messages}
use Rattle.scene_model.specs.declared.scene.Scene.{Scene}
use Rattle.scene_model.proofs.Faultless.{connection_is}
use Rattle.scene_model.proofs.ProperLives.{are_values}
use Rattle.scene_model.proofs.Searching.{search_below}

module _ (scene : Scene) (faultless : IsFaultless scene) (passed : Passed) (fitting : Fitting scene passed) where
  -- connection c begins at port p of a, and its block k passed
  abbrev PassedFrom : ℕ → ℕ → ℕ → ℕ → Type 0
  PassedFrom a k p c = (sender scene c ≡ a) × ((link_at scene c).from_port ≡ p) × (k < length (passed c))

  -- what port p of a may put out in step k
  abbrev IsBlock : ℕ → ℕ → ℕ → List Item → Type 0
  IsBlock a k p items = IsProperBlock (port_at scene a p).direction (port_at scene a p).kind (port_at scene a p) (clock scene a k) (clock scene a (k + 1)) items

  -- what it puts out in the joined table: what passed, where something did
  pub record Filled (a k p : ℕ) : Type 0 where
    pub items : List Item
    pub proper : IsBlock a k p items
    pub same : (c : ℕ) → c < length scene.links → PassedFrom a k p c → items ≡ passed_on passed c k

  decide : (a k p c : ℕ) → PassedFrom a k p c ⊎ (PassedFrom a k p c → ⊥)
  decide a k p c = go (cases_eq (sender scene c) a) (cases_eq (link_at scene c).from_port p) (cases_lt k (length (passed c)))
    where
      go : (sender scene c ≡ a) ⊎ (sender scene c ≡ a → ⊥) → ((link_at scene c).from_port ≡ p) ⊎ ((link_at scene c).from_port ≡ p → ⊥) → (k < length (passed c)) ⊎ (length (passed c) ≤ k) → PassedFrom a k p c ⊎ (PassedFrom a k p c → ⊥)
      go (inl e) (inl f) (inl l) = inl (e, f, l)
      go (inl e) (inl f) (inr g) = inr (λ h. let l : k < length (passed c) = h.2 in omega arith)
      go (inl e) (inr nf) g = inr (λ h. nf h.1)
      go (inr ne) f g = inr (λ h. ne h.0)

  -- where nothing passed: nothing, or values of 0
  filler : (direction : Direction) (kind : PortKind) (port : PortDecl) (from to : ℕ) → (items : List Item) × IsProperBlock direction kind port from to items
  filler Input kind port from to = ([], refl)
  filler Output Events port from to = ([], tt)
  filler Output Messages port from to = ([], tt)
  filler Output Values port from to = (_, are_values (λ g. pos 0) (indices port.map))

  fill : (a k p : ℕ) → Filled a k p
  fill a k p = go (search_below (length scene.links) (PassedFrom a k p) (λ c. PassedFrom a k p c → ⊥) (λ c link. decide a k p c))
    where
      go : ((c : ℕ) × (c < length scene.links) × PassedFrom a k p c) ⊎ ((c : ℕ) → c < length scene.links → PassedFrom a k p c → ⊥) → Filled a k p
      go (inr none) =
          let f = filler (port_at scene a p).direction (port_at scene a p).kind (port_at scene a p) (clock scene a k) (clock scene a (k + 1)) in
          record { items = f.0; proper = f.1; same = λ c link h. absurd (none c link h) }
      go (inl (c, link, h)) = record {
        items = passed_on passed c k;
        proper = subst (λ q. IsBlock a k q (passed_on passed c k)) h.1 (subst (λ b. IsBlock b k (link_at scene c).from_port (passed_on passed c k)) h.0 (fitting.fits c k link h.2));
        same = λ d other g. fitting.agree c d k link other (h.0 ∙ sym g.0) (h.1 ∙ sym g.1) h.2 g.2;
      }

  abbrev step_joined : ℕ → ℕ → StepOutput
  step_joined a k = map (λ p. (fill a k p).items) (below (length (app_at scene a).ports))

  abbrev steps_joined : ℕ → List StepOutput
  steps_joined a = map (step_joined a) (below (steps scene a))

  pub joined : Table
  joined = map steps_joined (below (length scene.apps))

  steps_are : (a : ℕ) → a < length scene.apps → steps_of joined a ≡ steps_joined a
  unfolding joined
  steps_are a app = get_or-map-range_with_len steps_joined 0 (length scene.apps) a a [] app (omega arith)

  length-steps : (a : ℕ) → a < length scene.apps → length (steps_of joined a) ≡ steps scene a
  length-steps a app = ap length (steps_are a app) ∙ length-map-range_with_len (step_joined a) 0 (steps scene a)

  step_is : (a k : ℕ) → a < length scene.apps → k < steps scene a → step_of joined a k ≡ step_joined a k
  step_is a k app small = ap (λ (row : List StepOutput). slice_index_or row k []) (steps_are a app) ∙ get_or-map-range_with_len (step_joined a) 0 (steps scene a) k k [] small (omega arith)

  block_is : (a k p : ℕ) → a < length scene.apps → k < steps scene a → p < length (app_at scene a).ports → block joined a k p ≡ (fill a k p).items
  block_is a k p app small here = ap (λ (o : StepOutput). slice_index_or o p []) (step_is a k app small) ∙ get_or-map-range_with_len (λ p. (fill a k p).items) 0 (length (app_at scene a).ports) p p [] here (omega arith)

  joined_proper : IsProper scene joined
  unfolding joined
  joined_proper = record {
    apps = length-map-range_with_len steps_joined 0 (length scene.apps);
    steps = λ a app. omega (arith, length-steps a app);
    ports = λ a k app small. ap length (step_is a k app (omega (arith, length-steps a app))) ∙ length-map-range_with_len (λ p. (fill a k p).items) 0 (length (app_at scene a).ports);
    blocks = λ a k p app small here. subst (IsBlock a k p) (sym (block_is a k p app (omega (arith, length-steps a app)) here)) (fill a k p).proper;
  }

  -- it begins with what passed on each connection
  pub joined_begins : Begins scene passed joined
  joined_begins = record {
    proper = joined_proper;
    there = λ c link. omega (arith, length-steps (sender scene c) (connection_is scene faultless c link).from_app, fitting.few c link);
    same = λ c k link small.
        let ends = connection_is scene faultless c link in
        block_is (sender scene c) k (link_at scene c).from_port ends.from_app (omega (arith, fitting.few c link)) ends.from_port
        ∙ (fill (sender scene c) k (link_at scene c).from_port).same c link (refl, refl, small);
  }
