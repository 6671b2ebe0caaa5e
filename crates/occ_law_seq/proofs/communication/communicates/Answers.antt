use Rattle.std.proofs.Common.{ap, sym, ◌∙◌}
use Rattle.std.proofs.lemmas.Bool.{eqb-true}
use Rattle.occ_syntax.specs.View.{tree, waiting}
use Rattle.occ_law_seq.proofs.Communicating.{receives_where, same_test, sends_where}
use Rattle.occ_law_seq.proofs.communication.communicates.Goals as goal

pub returns-then-eq : goal.returns-then-eq
returns-then-eq c = receives_where (tree c.args.part.now) (waiting c.args.wait.now) _ _ _ _ _ c.in-Input.ensures (ap waiting c.in-Get.is)
    (eqb-true _ _ (sym c.eq.ensures ∙ c.if-eq.true)) (same_test _ _ _ c.eq-then-eq.ensures)

pub returns-then-eq-2 : goal.returns-then-eq-2
returns-then-eq-2 c = sends_where (tree c.args.part.now) (waiting c.args.wait.now) _ _ _ _ _ c.in-Output.ensures (ap waiting c.in-Put.is)
    (eqb-true _ _ (sym c.eq-in-Put.ensures ∙ c.if-eq-2.true)) c.same_expr.ensures
