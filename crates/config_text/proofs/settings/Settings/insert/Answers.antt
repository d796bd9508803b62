use Rattle.std.proofs.Common.{refl}
use Rattle.config_text.proofs.Keeping.{settings_insert, turned}
use Rattle.config_text.proofs.settings.Settings.insert.Goals as goal

pub invariant_of-self-2 : goal.invariant_of-self-2
invariant_of-self-2 c = rw c.in_ok-old.ensures.entries (settings_insert c.self.inside.entries.entries c.args.name c.args.value c.self.invariant c.as_slice-name.ensures.name c.requires)

pub returns-clause-lawful : goal.returns-clause-lawful
returns-clause-lawful c = rw c.in_ok-old.ensures.entries (settings_insert c.self.inside.entries.entries c.args.name c.args.value c.self.invariant c.as_slice-name.ensures.name c.requires)

pub returns-clause-entries : goal.returns-clause-entries
returns-clause-entries c = rw (c.in_ok-old.ensures.entries, ← c.self.view_is) refl

pub returns-clause-fresh : goal.returns-clause-fresh
returns-clause-fresh c = turned c.is_none.result _ (rw (c.in_ok-old.ensures.old, c.self.view_is) at c.is_none.ensures)
