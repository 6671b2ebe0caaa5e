use Rattle.std.proofs.Common.{refl}
use Rattle.std.proofs.lemmas.Result.{IfOk-weaker}
use Rattle.occ_scope.specs.Change.{IsChanged}
use Rattle.occ_scope.specs.Results.{IsRestricted}
use Rattle.occ_scope.specs.Tables.{KeepRestricted, chan_of}
use Rattle.occ_scope.specs.declared.change.Change.TheVariants.{Restrict}
use Rattle.occ_scope.proofs.Public.{restricted}
use Rattle.occ_scope.proofs.calls.restrict_with.Goals as goal

pub node_after-requires-clause-memo : goal.node_after-requires-clause-memo
unfolding KeepRestricted
node_after-requires-clause-memo c = c.requires.restricts

pub returns-clause-restricts : goal.returns-clause-restricts
unfolding KeepRestricted
returns-clause-restricts c = c.node_after.ensures.memo

pub returns-clause-chan : goal.returns-clause-chan
unfolding chan_of
returns-clause-chan c = refl

pub returns-clause-restricted : goal.returns-clause-restricted
unfolding chan_of
returns-clause-restricted c = IfOk-weaker c.node_after.result (λ r. IsChanged c.node_after.new.world (Restrict c.args.restricts.now.chan) c.args.node r)
    (λ r. IsRestricted c.args.world.now c.node_after.new.world c.args.restricts.now.chan c.args.node r)
    (λ r is. restricted c.args.world.now c.node_after.new.world c.node_after.ensures.leads c.args.node r c.requires.node c.args.restricts.now.chan is) c.node_after.ensures.changed
