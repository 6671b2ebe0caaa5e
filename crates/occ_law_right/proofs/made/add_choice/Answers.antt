use Rattle.occ_syntax.specs.View.{in_choices}
use Rattle.occ_law_right.proofs.Growing.{choice_added}
use Rattle.occ_law_right.proofs.made.add_choice.Goals as goal

pub returns : goal.returns
returns c = choice_added (in_choices c.args.made.now) (in_choices c.push.new.self) c.args.condition c.args.part c.in_ok-push.ensures.ok
