use Rattle.std.proofs.Common.{sym, rules}
use Rattle.music_base.specs.Wants.{wanted}
use Rattle.music_base.proofs.Counting.{count_below-first, test_is}
use Rattle.music_base.proofs.wants.wanted.Goals as goal

pub returns-clause-first : goal.returns-clause-first
returns-clause-first c = search rules

pub returns-clause-count : goal.returns-clause-count
unfolding wanted
returns-clause-count c =
    sym (count_below-first c.args.sent c.multiples_before.result _ c.multiples_before.ensures.within (λ k lt. let f = returns-clause-first c k lt in test_is _ k c.multiples_before.result f.0 f.1))
