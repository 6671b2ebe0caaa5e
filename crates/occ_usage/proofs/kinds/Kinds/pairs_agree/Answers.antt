use Rattle.std.proofs.Common.{sym, ◌∙◌}
use Rattle.occ_syntax.specs.Scopes.{environment}
use Rattle.occ_usage.proofs.Scoped.{agree_so, uneven, pair_agrees, pairs_end}
use Rattle.occ_usage.proofs.kinds.Kinds.pairs_agree.Goals as goal

pub returns-then-vars-values : goal.returns-then-vars-values
returns-then-vars-values c = sym (uneven (environment c.args.self.now) c.args.vars.now c.args.values.now c.if-vars-values.true)

pub loop-place-preserved : goal.loop-place-preserved
loop-place-preserved c =
    let g = agree_so _ _ _ _ _ c.agree.ensures c.variable_width.ensures c.type_of.ensures ∙ c.if-not-agree.false in
    pair_agrees (environment c.args.self.now) _ _ _ _ _ _ c.loop-place-test.true c.if-vars-values.false c.index-values-place.is g c.loop-place.invariant

pub returns-then-not-agree : goal.returns-then-not-agree
returns-then-not-agree c =
    let g = agree_so _ _ _ _ _ c.agree.ensures c.variable_width.ensures c.type_of.ensures ∙ c.if-not-agree.true in
    pair_agrees (environment c.args.self.now) _ _ _ _ _ _ c.loop-place-test.true c.if-vars-values.false c.index-values-place.is g c.loop-place.invariant

pub returns : goal.returns
returns c = pairs_end (environment c.args.self.now) _ _ _ _ c.loop-place-test.false c.if-vars-values.false c.loop-place.invariant
