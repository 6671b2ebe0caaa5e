use Rattle.std.proofs.Common.{ap, ◌∙◌}
use Rattle.occ_syntax.specs.Tree.{alt}
use Rattle.occ_syntax.specs.View.{branches, in_alternatives}
use Rattle.occ_law_alt.proofs.Making.{link}
use Rattle.occ_law_alt.proofs.made.linked.Goals as goal

pub returns : goal.returns
returns c = c.alt_of.ensures ∙ ap alt (link (branches c.args.front.now) (branches c.args.middle.now) (branches c.args.rest.now)
    (branches (in_alternatives c.in_ok-made.made)) (branches (in_alternatives c.add_copies.new.made)) (branches (in_alternatives c.add_copies-2.new.made))
    c.in_ok-made.ensures c.in_ok-add_copies.ensures c.in_ok-add_copies-2.ensures)
