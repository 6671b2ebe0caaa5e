use Rattle.occ_syntax.specs.View.{in_alternatives}
use Rattle.occ_law_right.proofs.Growing.{branch_added}
use Rattle.occ_law_right.proofs.made.add_branch.Goals as goal

pub returns : goal.returns
returns c = branch_added (in_alternatives c.args.made.now) (in_alternatives c.push.new.self) c.args.guard c.args.part c.in_ok-push.ensures.ok
