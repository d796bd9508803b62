use Rattle.std.proofs.Common.{◌≡◌, ap, ◌∙◌, ◌-◌}
use Rattle.indexmap.specs.IndexMap.{with_value_at, index_map_len}
use Rattle.config_text.specs.Lawful.{are_sections}
use Rattle.config_text.proofs.LastSection.{found_last}
use Rattle.config_text.proofs.Keeping.{set_same}
use Rattle.config_text.proofs.sections.Sections.shrink_last.Goals as goal
use Rattle.config_text.proofs.sections.Sections.shrink_last.Goals.{in-Some, in_default}

pub returns : goal.returns
returns c =
    elim c.match-last_mut.branch [
      | in-Some w ↦
          let d : c.match-last_mut.self-inside.entries ≡ with_value_at c.self.inside.entries (index_map_len c.self.inside.entries - 1) w.shrink_to_fit.new.self = ap (λ s. s.entries) w.self-inside-is in
          rw (d, w.shrink_to_fit.ensures) (set_same c.self.inside.entries.entries w.in-Some.settings.now (found_last c.self.inside.entries.entries w.in-Some.settings.now w.in-Some.ensures.value) ∙ c.self.view_is)
      | in_default w ↦ ap (λ s. s.entries.entries) w.self-inside-is ∙ c.self.view_is
    ]

pub invariant_of-self : goal.invariant_of-self
invariant_of-self c =
    elim c.match-last_mut.branch [
      | in-Some w ↦
          let d : c.match-last_mut.self-inside.entries ≡ with_value_at c.self.inside.entries (index_map_len c.self.inside.entries - 1) w.shrink_to_fit.new.self = ap (λ s. s.entries) w.self-inside-is in
          rw (d, w.shrink_to_fit.ensures) (ap are_sections (set_same c.self.inside.entries.entries w.in-Some.settings.now (found_last c.self.inside.entries.entries w.in-Some.settings.now w.in-Some.ensures.value)) ∙ c.self.invariant)
      | in_default w ↦ ap (λ s. are_sections s.entries.entries) w.self-inside-is ∙ c.self.invariant
    ]
