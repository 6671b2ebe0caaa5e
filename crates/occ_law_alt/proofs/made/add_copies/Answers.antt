use Rattle.occ_syntax.specs.View.{in_alternatives}
use Rattle.occ_law_alt.proofs.Making.{none_added, one_added}
use Rattle.occ_law_alt.proofs.made.add_copies.Goals as goal

pub loop-guard-init : goal.loop-guard-init
loop-guard-init c = none_added _

pub loop-guard-preserved : goal.loop-guard-preserved
loop-guard-preserved c = one_added (in_alternatives c.loop-guard.made) (in_alternatives c.push.new.self) c.args.more.now _ (c.in_ok-copy.field-0, c.in_ok-copy-2.field-0) c.loop-guard-item.result c.loop-guard.guard-index
    c.loop-guard-test.true c.loop-guard-item.is c.loop-guard.invariant c.in_ok-push.ensures.ok c.in_ok-copy.ensures.condition c.in_ok-copy.ensures.wait c.in_ok-copy-2.ensures
