use Rattle.occ_syntax.specs.View.{in_procs}
use Rattle.occ_law_right.proofs.Growing.{part_added}
use Rattle.occ_law_right.proofs.made.add.Goals as goal

pub returns : goal.returns
returns c = part_added (in_procs c.args.made.now) (in_procs c.push.new.self) c.args.part c.in_ok-push.ensures.ok
