use Rattle.std.proofs.Common.{◌≡◌, ◌&&◌, Bool}
use Rattle.std.specs.Prelude.{not}
use Rattle.std.proofs.lemmas.Result.{IfOk-weaker}
use Rattle.occ_node.specs.occ_accept.Accept.{is_on, refuses}
use Rattle.occ_node.specs.occ_base.declared.event.Event.{Event}
use Rattle.occ_scope.specs.Change.{stays}
use Rattle.occ_scope.proofs.Altering.{sets_restricted}
use Rattle.occ_scope.proofs.change.open_sets.Goals as goal

pub returns-in-Restrict-clause-refuses : goal.returns-in-Restrict-clause-refuses
returns-in-Restrict-clause-refuses c = IfOk-weaker c.without.result (λ r. (X : Event → Bool) → refuses r X ≡ refuses c.args.sets.now (λ e. X e && not (is_on c.in-Restrict.chan e)))
    (λ r. (X : Event → Bool) → refuses r X ≡ refuses c.args.sets.now (λ e. stays c.args.change e && X e))
    (λ r f. sets_restricted c.args.change c.in-Restrict.chan c.args.sets.now r c.in-Restrict.is f) c.without.ensures.refuses
