use Rattle.config_text.proofs.Adding.{nil_from, not_nil, both_ok, fresh_last, added_default, added_last}
use Rattle.config_text.proofs.reading.insert_setting.Goals as goal

pub returns-then-is_empty-clause-added : goal.returns-then-is_empty-clause-added
returns-then-is_empty-clause-added c =
    both_ok c.insert.result _ _ _ (λ fresh is e. added_default c.args.config.now c.args.name c.args.value c.insert.new.self fresh (nil_from c.args.config.now.sections c.if-is_empty.ensures) is e)
    c.insert.ensures.fresh c.insert.ensures.entries

pub returns-else-is_empty-clause-fresh : goal.returns-else-is_empty-clause-fresh
returns-else-is_empty-clause-fresh c = fresh_last c.insert_setting.result c.args.config.now c.args.name (not_nil c.args.config.now.sections c.if-is_empty.ensures) c.insert_setting.ensures.fresh

pub returns-else-is_empty-clause-added : goal.returns-else-is_empty-clause-added
returns-else-is_empty-clause-added c =
    both_ok c.insert_setting.result _ _ _ (λ fresh is e. added_last c.args.config.now c.args.name c.args.value c.insert_setting.new.self fresh (not_nil c.args.config.now.sections c.if-is_empty.ensures) is e)
    c.insert_setting.ensures.fresh c.insert_setting.ensures.entries
