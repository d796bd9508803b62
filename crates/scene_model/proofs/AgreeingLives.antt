-- A step of a life depends only on the blocks that it and the steps before it want.
use Rattle.std.proofs.Common.{ℕ, zero, suc, ◌<◌, ◌≤◌, ◌≡◌, refl, sym, ◌∙◌, ap, arith, length, map}
use Rattle.music_base.specs.Numbers.{below}
use Rattle.music_base.specs.declared.item.Item.{Item}
use Rattle.music_base.specs.declared.item.Item.TheVariants.{Value}
use Rattle.music_base.proofs.Lists.{map-agree}
use Rattle.index_maps.specs.Maps.{indices}
use Rattle.scene_model.specs.Clocks.{start, tick}
use Rattle.scene_model.specs.Lives.{input_by, moment, state_before, step_output}
use Rattle.scene_model.specs.Scenes.{app_at, port_at}
use Rattle.scene_model.specs.Tables.{IsProper, StepOutput, Table, value}
use Rattle.scene_model.specs.Turns.{next_state}
use Rattle.scene_model.specs.WellFormed.{IsWellFormed}
use Rattle.scene_model.specs.declared.port.Direction.{Direction}
use Rattle.scene_model.specs.declared.port.Direction.TheVariants.{Output, Input}
use Rattle.scene_model.specs.declared.port.PortKind.{PortKind}
use Rattle.scene_model.specs.declared.port.PortKind.TheVariants.{Events, Values, Messages}
use Rattle.scene_model.specs.declared.scene.Scene.{Scene}
use Rattle.scene_model.proofs.Feeds.{SameFeed, arrivals_same, value_same}
use Rattle.scene_model.proofs.ProperTables.{proper_short, proper_timely}

-- two proper tables
module _ (scene : Scene) (timed : IsWellFormed scene) (one other : Table) (proper : IsProper scene one) (also : IsProper scene other) where
  -- where they agree on what step j of b wants, each port reads the same
  input_same : (b j p : ℕ) → SameFeed scene one other b j → (direction : Direction) (kind : PortKind) → (port_at scene b p).kind ≡ kind → input_by direction kind scene one b j p ≡ input_by direction kind scene other b j p
  input_same b j p feed Output kind e = refl
  input_same b j p feed Input Events e =
      arrivals_same scene timed one other (proper_timely scene one proper) (proper_timely scene other also) b p j feed (λ f. let g : Events ≡ Values = sym e ∙ f in cc)
  input_same b j p feed Input Messages e =
      arrivals_same scene timed one other (proper_timely scene one proper) (proper_timely scene other also) b p j feed (λ f. let g : Messages ≡ Values = sym e ∙ f in cc)
  input_same b j p feed Input Values e =
      let read : Table → ℕ → Item = λ table g. Value g (value scene table b p j g) in
      map-agree (read one) (read other) (λ g. ap (Value g) (value_same scene timed one other (proper_short scene one proper) (proper_short scene other also) b j feed p g e)) (indices (port_at scene b p).map)

  moment_same : (b j : ℕ) → SameFeed scene one other b j → moment scene one b j ≡ moment scene other b j
  moment_same b j feed =
      let read : Table → StepOutput = λ table. map (λ p. input_by (port_at scene b p).direction (port_at scene b p).kind scene table b j p) (below (length (app_at scene b).ports)) in
      let same : read one ≡ read other = map-agree (λ p. input_by (port_at scene b p).direction (port_at scene b p).kind scene one b j p) (λ p. input_by (port_at scene b p).direction (port_at scene b p).kind scene other b j p)
      (λ p. input_same b j p feed (port_at scene b p).direction (port_at scene b p).kind refl) (below (length (app_at scene b).ports)) in
      ap (λ (inputs : StepOutput). record { ports = (app_at scene b).ports; start = start scene b; tick = tick scene b; step = j; inputs = inputs }) same

  -- so the state before a step is the same
  state_same : (b k : ℕ) → ((j : ℕ) → j < k → SameFeed scene one other b j) → state_before scene one b k ≡ state_before scene other b k
  state_same b zero feed = refl
  state_same b (suc k) feed = ap (next_state (app_at scene b).rules) (moment_same b k (feed k (omega arith)))

  -- and so is what it puts out
  pub step_output_same : (b k : ℕ) → ((j : ℕ) → j ≤ k → SameFeed scene one other b j) → step_output scene one b k ≡ step_output scene other b k
  unfolding step_output
  step_output_same b k feed = rw (state_same b k (λ j l. feed j (omega arith)), moment_same b k (feed k (omega arith))) refl
