use Rattle.std.proofs.Common.{ap, ◌∙◌}
use Rattle.occ_syntax.specs.Tree.{send}
use Rattle.occ_syntax.specs.View.{exp, tree}
use Rattle.occ_law_right.proofs.Rights.{receives_as, sends_as}
use Rattle.occ_law_right.proofs.communication.wait_of.Goals as goal

pub returns-in-Input : goal.returns-in-Input
returns-in-Input c = receives_as (tree c.args.part.now) c.in-Input.chan.0 c.in-Input.var.0 c.in-Input.ensures

pub returns-in_ok-value-in-Output : goal.returns-in_ok-value-in-Output
returns-in_ok-value-in-Output c = sends_as (tree c.args.part.now) c.in-Output.chan.0 (exp c.in_ok-value-in-Output.value) (ap (send c.in-Output.chan.0) c.in_ok-value-in-Output.ensures ∙ c.in-Output.ensures)
