use Rattle.std.proofs.Common.{sym, ◌∙◌}
use Rattle.std.proofs.lemmas.List.{at_drop_all}
use Rattle.occ_syntax.specs.View.{numbers}
use Rattle.occ_usage.proofs.Scoped.{fresh, fresh_step, stale, fresh_all}
use Rattle.occ_usage.proofs.types.distinct.Goals as goal

pub loop-name-preserved : goal.loop-name-preserved
loop-name-preserved c = fresh_step _ _ _ _ _ _ c.loop-name-test.true c.contains.ensures c.if-contains.false c.in_ok-insert.ensures.ok c.loop-name.invariant

pub returns-then-contains : goal.returns-then-contains
returns-then-contains c = stale _ _ _ _ _ c.loop-name-test.true c.contains.ensures c.if-contains.true c.loop-name.invariant ∙ fresh_all (numbers c.args.names.now)

pub returns : goal.returns
returns c = sym (at_drop_all (λ ns. fresh c.loop-name.seen (numbers ns)) _ _ c.loop-name-test.false) ∙ c.loop-name.invariant ∙ fresh_all (numbers c.args.names.now)
