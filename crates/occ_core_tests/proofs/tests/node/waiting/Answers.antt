use Rattle.occ_follow.proofs.from_node.Behaviours.{fit_nothing}
use Rattle.occ_core_tests.proofs.tests.node.waiting.Goals as goal

pub make-requires : goal.make-requires
make-requires c = fit_nothing c.args.world.now c.args.ends c.in_ok-accepts.accepts c.new.result c.in_ok-of.field-0 c.requires c.new.ensures c.in_ok-of.ensures c.in_ok-accepts.ensures.refuses c.in_ok-accepts.ensures.events
