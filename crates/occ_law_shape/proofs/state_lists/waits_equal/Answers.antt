use Rattle.std.proofs.Common.{◌≡◌, ◌↔◌, IsTrue, rules, ap}
use Rattle.std.proofs.lemmas.Result.{IfOk-weaker}
use Rattle.occ_syntax.specs.View.{waiting}
use Rattle.occ_syntax.proofs.Rows.{confirmed}
use Rattle.occ_law_shape.proofs.Equalities.{input_waits, output_waits, ready_waits}
use Rattle.occ_law_shape.proofs.state_lists.waits_equal.Goals as goal

pub returns-in-Skip-matches : goal.returns-in-Skip-matches
returns-in-Skip-matches g c = confirmed (ready_waits (g.E.Equality.equals c.args.equality.now) _ _ (ap waiting c.in-Skip.is) (ap waiting c.in-Skip-matches.is))

pub returns-then-eq : goal.returns-then-eq
returns-then-eq g c =
    let same : c.in-Get.chan.0 ≡ c.in-Get-right.c.0 = search rules in
    let test : IsTrue c.eq-then-eq.result ↔ (c.in-Get.var.0 ≡ c.in-Get-right.v.0) = search rules in
    input_waits (g.E.Equality.equals c.args.equality.now) _ _ _ _ _ _ _ (ap waiting c.in-Get.is) (ap waiting c.in-Get-right.is) same test

pub returns-else-ne : goal.returns-else-ne
returns-else-ne g c =
    let same : c.in-Put.chan.0 ≡ c.in-Put-right.c.0 = search rules in
    IfOk-weaker _ _ _ (λ answer. output_waits (g.E.Equality.equals c.args.equality.now) _ _ _ _ _ _ answer (ap waiting c.in-Put.is) (ap waiting c.in-Put-right.is) same) c.holds.ensures
