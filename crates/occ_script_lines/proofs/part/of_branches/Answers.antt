use Rattle.std.proofs.Common.{arith}
use Rattle.occ_script_lines.proofs.Children.{branch_past, branch_read}
use Rattle.occ_script_lines.proofs.part.of_branches.Goals as goal

pub returns-then-place-alternatives : goal.returns-then-place-alternatives
returns-then-place-alternatives c = branch_read c.args.alternatives.now c.args.place c.index-alternatives-place.result (omega arith) c.index-alternatives-place.is

pub returns-else-place-alternatives : goal.returns-else-place-alternatives
returns-else-place-alternatives c = branch_past c.args.alternatives.now c.args.place (omega arith)
