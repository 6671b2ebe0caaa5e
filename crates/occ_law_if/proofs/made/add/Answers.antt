use Rattle.occ_syntax.specs.View.{in_choices}
use Rattle.occ_law_if.proofs.Putting.{put_last}
use Rattle.occ_law_if.proofs.made.add.Goals as goal

pub returns : goal.returns
returns c = put_last (in_choices c.args.made.now) (in_choices c.push.new.self) (c.args.condition, c.args.process) c.in_ok-push.ensures.ok
