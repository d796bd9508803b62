-- No application of a made configuration has too many steps or values, and none of its rules has a fault. It is computed for
-- each stop, tick, number of ranks and place.
use Rattle.std.proofs.Common.{◌≡◌, ◌<◌, ℕ, ◌+◌, ◌-◌, ◌*◌, ◌&&◌, Bool, true, nat_le, refl, Option, None}
use Rattle.std.specs.List.{list_all}
use Rattle.std.specs.Option.{is_none}
use Rattle.index_maps.specs.Intervals.{ranks_mapping}
use Rattle.music_base.specs.Clocks.{steps_until}
use Rattle.music_base.specs.Numbers.{below}
use Rattle.scene_model.specs.Limits.{most_steps, most_values}
use Rattle.scene_model.specs.Rules.{runs_for, has_port, is_mapped, is_rate}
use Rattle.scene_model.specs.Values.{indices_mapped, values_in_step, values_in_run}
use Rattle.scene_model.specs.declared.rule.Rule.{Rule}
use Rattle.app_scripts.specs.Rules.{fault_of}
use Rattle.app_scripts.specs.declared.fault.RuleFault.{RuleFault}
use Rattle.made_laws.proofs.MadeScenes.{made_ports, emits, passes_on, copies, rises}
use Rattle.made_laws.proofs.Tested.{at_one, both}
use Rattle.music_setup.proofs.OwnTimes.{none_is}

-- the fault of a rule at its place, in an application of 1 + r ranks with a tick of 1 + t ms and a stop of 1 + s seconds
abbrev pub fault_at : ℕ → ℕ → ℕ → ℕ → Rule → Option RuleFault
fault_at s t r place rule =
    fault_of (made_ports (1 + r)) ((1 + t) * 1_000_000) (runs_for ((1 + s) * 1_000_000_000 - 0) ((1 + t) * 1_000_000)) place rule

abbrev pub has_few_steps : ℕ → ℕ → Bool
has_few_steps s t = nat_le (steps_until ((1 + s) * 1_000_000_000 - 0) ((1 + t) * 1_000_000)) most_steps

abbrev pub has_few_values : ℕ → ℕ → ℕ → Bool
has_few_values s t r = nat_le (values_in_run ((1 + s) * 1_000_000_000 - 0) ((1 + t) * 1_000_000) (made_ports (1 + r))) most_values

abbrev fits : ℕ → ℕ → ℕ → ℕ → Bool
fits s t r i =
    has_few_steps s t
    && has_few_values s t r
    && is_none (fault_at s t r 1 (emits i))
    && is_none (fault_at s t r 2 passes_on)
    && is_none (fault_at s t r 3 copies)
    && is_none (fault_at s t r 4 rises)

abbrev fit_of : ℕ → ℕ → Bool
fit_of s t = list_all (λ r. list_all (fits s t r) (below 8)) (below 2)

all_fit : list_all (λ s. list_all (fit_of s) (below 3)) (below 5) ≡ true
unfolding steps_until ranks_mapping has_port is_mapped is_rate runs_for indices_mapped values_in_step fault_of
all_fit = refl

pub record Fitting (s t r i : ℕ) : Type 0 where
  pub steps : has_few_steps s t ≡ true
  pub values : has_few_values s t r ≡ true
  pub emits_fits : fault_at s t r 1 (emits i) ≡ None
  pub passes_fits : fault_at s t r 2 passes_on ≡ None
  pub copies_fits : fault_at s t r 3 copies ≡ None
  pub rises_fits : fault_at s t r 4 rises ≡ None

pub fitting : (s t r i : ℕ) → s < 5 → t < 3 → r < 2 → i < 8 → Fitting s t r i
fitting s t r i s< t< r< i< =
    let by_s = at_one (λ s. list_all (fit_of s) (below 3)) 5 all_fit s s< in
    let by_t = at_one (fit_of s) 3 by_s t t< in
    let by_r = at_one (λ r. list_all (fits s t r) (below 8)) 2 by_t r r< in
    let all = at_one (fits s t r) 8 by_r i i< in
    let a = both _ _ all in
    let b = both _ _ a.0 in
    let c = both _ _ b.0 in
    let d = both _ _ c.0 in
    let e = both _ _ d.0 in
    record {
      steps = e.0;
      values = e.1;
      emits_fits = none_is _ d.1;
      passes_fits = none_is _ c.1;
      copies_fits = none_is _ b.1;
      rises_fits = none_is _ a.1;
    }
