use Rattle.std.proofs.Common.{◌++◌, ◌∷◌, [], ap, ◌∙◌}
use Rattle.occ_follow.proofs.from_node.Behaviours.{fit_one}
use Rattle.occ_core_tests.proofs.tests.node.before.Goals as goal

pub make-requires : goal.make-requires
make-requires c = fit_one c.args.world.now c.no_ends.result c.in_ok-accepts.accepts c.push.new.self c.in_ok-of.field-0 _ c.args.next c.no_ends.ensures.known
    (c.in_ok-push.ensures.ok ∙ ap (λ xs. xs ++ (_, c.args.next) ∷ []) c.new-offers.ensures) c.in_ok-of.ensures c.requires c.in_ok-accepts.ensures.refuses c.in_ok-accepts.ensures.events
