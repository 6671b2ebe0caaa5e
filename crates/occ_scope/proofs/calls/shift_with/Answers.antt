use Rattle.std.proofs.lemmas.Result.{IfOk-weaker}
use Rattle.occ_scope.specs.Change.{IsChanged}
use Rattle.occ_scope.specs.Results.{IsShifted}
use Rattle.occ_scope.specs.Tables.{KeepShifted}
use Rattle.occ_scope.specs.declared.change.Change.TheVariants.{Shift}
use Rattle.occ_scope.proofs.Public.{shifted, shifted_none}
use Rattle.occ_scope.proofs.calls.shift_with.Goals as goal

pub node_after-requires-clause-memo : goal.node_after-requires-clause-memo
unfolding KeepShifted
node_after-requires-clause-memo c = record { each = c.requires.shifts.each }

pub returns-clause-shifts : goal.returns-clause-shifts
unfolding KeepShifted
returns-clause-shifts c = record { each = c.node_after.ensures.memo.each }

pub returns-clause-shifted : goal.returns-clause-shifted
returns-clause-shifted c = IfOk-weaker c.node_after.result (λ r. IsChanged c.node_after.new.world (Shift c.args.change) c.args.node r)
    (λ r. IsShifted c.args.world.now c.node_after.new.world c.args.change c.args.node r)
    (λ r is. shifted c.args.world.now c.node_after.new.world c.node_after.ensures.leads c.args.node r c.requires.node c.args.change c.ranges.change.fits is) c.node_after.ensures.changed

pub returns-then-change-eq0-clause-shifted : goal.returns-then-change-eq0-clause-shifted
returns-then-change-eq0-clause-shifted c = shifted_none c.args.world.now c.args.node c.args.change c.if-change-eq0.true c.requires.node
