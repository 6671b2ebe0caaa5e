use Rattle.occ_syntax.specs.View.{in_alternatives}
use Rattle.occ_law_par.proofs.Putting.{put_last}
use Rattle.occ_law_par.proofs.right_expand.add.Goals as goal

pub returns : goal.returns
returns c = put_last (in_alternatives c.args.made.now) (in_alternatives c.push.new.self) c.args.guard c.args.process c.in_ok-push.ensures.ok
