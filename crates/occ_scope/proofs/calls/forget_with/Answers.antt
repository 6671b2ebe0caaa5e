use Rattle.std.proofs.Common.{refl}
use Rattle.std.proofs.lemmas.Result.{IfOk-weaker}
use Rattle.occ_scope.specs.Change.{IsChanged}
use Rattle.occ_scope.specs.Results.{IsForgotten}
use Rattle.occ_scope.specs.Tables.{KeepForgotten, bits_of}
use Rattle.occ_scope.specs.declared.change.Change.TheVariants.{Forget}
use Rattle.occ_scope.proofs.Public.{forgotten}
use Rattle.occ_scope.proofs.calls.forget_with.Goals as goal

pub node_after-requires-clause-memo : goal.node_after-requires-clause-memo
unfolding KeepForgotten
node_after-requires-clause-memo c = c.requires.forgets

pub returns-clause-forgets : goal.returns-clause-forgets
unfolding KeepForgotten
returns-clause-forgets c = c.node_after.ensures.memo

pub returns-clause-bits : goal.returns-clause-bits
unfolding bits_of
returns-clause-bits c = refl

pub returns-clause-forgotten : goal.returns-clause-forgotten
unfolding bits_of
returns-clause-forgotten c = IfOk-weaker c.node_after.result (λ r. IsChanged c.node_after.new.world (Forget c.args.forgets.now.bits) c.args.node r)
    (λ r. IsForgotten c.args.world.now c.node_after.new.world c.args.forgets.now.bits c.args.node r)
    (λ r is. forgotten c.args.world.now c.node_after.new.world c.node_after.ensures.leads c.args.node r c.requires.node c.args.forgets.now.bits is) c.node_after.ensures.changed
