use Rattle.std.proofs.Common.{ap, length, ◌-◌}
use Rattle.indexmap.specs.IndexMap.{set_value_at}
use Rattle.config_text.proofs.LastSection.{found_last, on_ok, on_err}
use Rattle.config_text.proofs.Keeping.{sections_set, set_same}
use Rattle.config_text.proofs.sections.Sections.insert_setting.Goals as goal

pub invariant_of-self : goal.invariant_of-self
invariant_of-self c = sections_set c.self.inside.entries.entries (length c.self.inside.entries.entries - 1) c.insert.new.self c.insert.ensures.lawful c.self.invariant

pub returns-clause-fresh : goal.returns-clause-fresh
returns-clause-fresh c = rw (← c.self.view_is, found_last c.self.inside.entries.entries c.in-Some.settings.now c.in-Some.ensures.value) c.insert.ensures.fresh

pub returns-clause-entries : goal.returns-clause-entries
returns-clause-entries c =
    rw (← c.self.view_is, found_last c.self.inside.entries.entries c.in-Some.settings.now c.in-Some.ensures.value)
    (on_ok c.insert.result _ _ (ap (set_value_at c.self.inside.entries.entries (length c.self.inside.entries.entries - 1))) c.insert.ensures.entries)

pub returns-clause-err : goal.returns-clause-err
returns-clause-err c =
    rw (← c.self.view_is) (on_err c.insert.result _ _ (λ e. rw e (set_same c.self.inside.entries.entries c.in-Some.settings.now (found_last c.self.inside.entries.entries c.in-Some.settings.now c.in-Some.ensures.value))) c.insert.ensures.err)
