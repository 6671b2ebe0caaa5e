use Rattle.std.proofs.Common.{ap, ◌∙◌}
use Rattle.occ_syntax.specs.Tree.{select}
use Rattle.occ_syntax.specs.View.{cases, in_choices}
use Rattle.occ_law_if.proofs.Putting.{put_is}
use Rattle.occ_law_if.proofs.made.finished.Goals as goal

pub returns : goal.returns
returns c =
    c.if_of.ensures ∙ ap select (put_is (cases (in_choices c.args.made)) (cases (in_choices c.add_copies.new.made)) (cases c.args.behind.now) c.in_ok-add_copies.ensures)
