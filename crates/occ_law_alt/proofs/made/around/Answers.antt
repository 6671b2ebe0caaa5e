use Rattle.std.proofs.Common.{ap, ◌∙◌}
use Rattle.occ_syntax.specs.Tree.{alt}
use Rattle.occ_syntax.specs.View.{branches, in_alternatives}
use Rattle.occ_law_alt.proofs.Making.{put_between}
use Rattle.occ_law_alt.proofs.made.around.Goals as goal

pub returns : goal.returns
returns c = c.alt_of.ensures ∙ ap alt (put_between (branches c.args.front.now) (branches c.args.rest.now) (in_alternatives c.in_ok-made.made) (in_alternatives c.push.new.self) (in_alternatives c.add_copies.new.made) c.args.branch
    c.in_ok-made.ensures c.in_ok-push.ensures.ok c.in_ok-add_copies.ensures)
