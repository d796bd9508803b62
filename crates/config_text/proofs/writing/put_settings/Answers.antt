use Rattle.std.proofs.Common.{◌++◌, map, ap, ◌∙◌, arith}
use Rattle.std.specs.List.{flat_map}
use Rattle.std.proofs.lemmas.List.{take_all}
use Rattle.config_text.specs.Pairs.{SettingList}
use Rattle.music_base.specs.Lines.{ended}
use Rattle.config_text.specs.Canon.{setting_line}
use Rattle.config_text.proofs.Written.{setting_more}
use Rattle.config_text.proofs.writing.put_settings.Goals as goal

pub loop-place-preserved : goal.loop-place-preserved
loop-place-preserved c =
    rw c.in_ok-put_setting.ensures
    (setting_more c.loop-place.out.items c.args.out.now.items c.args.settings.now c.loop-place.place (c.pair_at.result.0.now, c.pair_at.result.1.now) c.pair_at.ensures c.loop-place.invariant)

pub returns-clause-text : goal.returns-clause-text
returns-clause-text c =
    c.loop-place.invariant
    ∙ ap (λ (all : SettingList). c.args.out.now.items ++ flat_map ended (map setting_line all)) (take_all c.loop-place.place c.args.settings.now (omega (arith, c.len-place-end.ensures.len)))

pub returns-clause-lawful : goal.returns-clause-lawful
returns-clause-lawful c = c.len-place-end.ensures.lawful
