use Rattle.std.proofs.Common.{sym, ◌∙◌, rules, arith}
use Rattle.occ_traces.proofs.Choosing.{end_more, end_tells, none_ends}
use Rattle.occ_traces.proofs.choices.least_end.Goals as goal

pub returns-then-is_end : goal.returns-then-is_end
returns-then-is_end c = end_tells c.args.world.now c.args.params.now c.args.node c.args.but c.states.number c.assignment-bits.result c.assignment-bits.ensures
    (omega (arith, c.last_number-last.ensures, c.states.invariant.within)) (sym c.is_end.ensures ∙ c.if-is_end.true) c.states.invariant.before

pub returns-then-number-last : goal.returns-then-number-last
returns-then-number-last c = none_ends c.args.world.now c.args.params.now c.args.node c.args.but c.states.number c.assignment-bits.result c.assignment-bits.ensures
    (omega (arith, c.last_number-last.ensures)) (sym c.is_end.ensures ∙ c.if-is_end.false) c.states.invariant.before

pub states-preserved : goal.states-preserved
states-preserved c = record {
  within = search rules;
  before = end_more c.args.world.now c.args.params.now c.args.node c.args.but c.states.number c.assignment-bits.result c.assignment-bits.ensures
      (sym c.is_end.ensures ∙ c.if-is_end.false) c.states.invariant.before;
}
