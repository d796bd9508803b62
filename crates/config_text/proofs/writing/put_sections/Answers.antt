use Rattle.std.proofs.Common.{◌++◌, ap, ◌∙◌, arith}
use Rattle.std.specs.List.{flat_map}
use Rattle.std.proofs.lemmas.List.{take_all}
use Rattle.config_text.specs.Pairs.{SectionList}
use Rattle.music_base.specs.Lines.{ended}
use Rattle.config_text.specs.Canon.{section_lines}
use Rattle.config_text.proofs.Written.{section_more}
use Rattle.config_text.proofs.writing.put_sections.Goals as goal

pub loop-place-preserved : goal.loop-place-preserved
loop-place-preserved c =
    rw c.in_ok-put_section.ensures
    (section_more c.loop-place.out.items c.args.out.now.items c.args.sections.now c.loop-place.place (c.pair_at.result.0.now, c.pair_at.result.1.now) c.pair_at.ensures c.loop-place.invariant)

pub returns-clause-text : goal.returns-clause-text
returns-clause-text c =
    c.loop-place.invariant
    ∙ ap (λ (all : SectionList). c.args.out.now.items ++ flat_map ended (flat_map section_lines all)) (take_all c.loop-place.place c.args.sections.now (omega (arith, c.len-place-end.ensures.len)))

pub returns-clause-lawful : goal.returns-clause-lawful
returns-clause-lawful c = c.len-place-end.ensures.lawful
