use Rattle.std.proofs.Common.{cond, ◌∙◌}
use Rattle.std.proofs.lemmas.Result.{IfOk-weaker}
use Rattle.occ_behaviour_read.specs.occ_dd.Store.{has}
use Rattle.occ_behaviour_read.proofs.from_dd.Callers.{keeps_refl, keeps_trans}
use Rattle.occ_follow.specs.occ_mdd.Maps.{IsMap, value}
use Rattle.occ_follow.proofs.from_node.Table.{holds_refl, rows-keeps}
use Rattle.occ_follow.specs.Sequence.{HasNodes}
use Rattle.occ_follow.proofs.Growing.{grows_from, has_either}
use Rattle.occ_core_tests.proofs.tests.follow.either_way.Goals as goal

pub returns-in_err-one-clause-grows : goal.returns-in_err-one-clause-grows
returns-in_err-one-clause-grows c = grows_from c.args.world.now _ (keeps_refl c.args.world.now.store) (holds_refl c.args.world.now.rows.keys)

pub returns-in_err-zero-clause-grows : goal.returns-in_err-zero-clause-grows
returns-in_err-zero-clause-grows c = grows_from c.args.world.now _ (keeps_refl c.args.world.now.store) (holds_refl c.args.world.now.rows.keys)

pub invariant_of-world-in-Break-branch-3 : goal.invariant_of-world-in-Break-branch-3
invariant_of-world-in-Break-branch-3 c = record { right = rows-keeps c.args.world.now.store c.bit.new.self c.bit.ensures.keeps c.args.world.now.rows.keys c.args.world.now.right }

pub returns-in_err-set-clause-grows : goal.returns-in_err-set-clause-grows
returns-in_err-set-clause-grows c = grows_from c.args.world.now _ c.bit.ensures.keeps (holds_refl c.args.world.now.rows.keys)

pub invariant_of-world-2 : goal.invariant_of-world-2
invariant_of-world-2 c = record {
  right = rows-keeps c.args.world.now.store c.ite.new.store (keeps_trans c.args.world.now.store c.bit.new.self c.ite.new.store c.bit.ensures.keeps c.ite.ensures.sets) c.args.world.now.rows.keys c.args.world.now.right;
}

pub returns-clause-grows : goal.returns-clause-grows
returns-clause-grows c = grows_from c.args.world.now _ (keeps_trans c.args.world.now.store c.bit.new.self c.ite.new.store c.bit.ensures.keeps c.ite.ensures.sets) (holds_refl c.args.world.now.rows.keys)

pub returns-clause-nodes : goal.returns-clause-nodes
returns-clause-nodes c =
    let m = c.constant-2.new.self in
    IfOk-weaker c.ite.result (λ r. IsMap c.ite.new.self r (λ x. cond (has c.bit.new.self c.in_ok-set.set x) (value m c.in_ok-one.one x) (value m c.in_ok-zero.zero x))) (HasNodes _)
    (λ r is. has_either c.args.world.now _ (grows_from c.args.world.now _ (keeps_trans c.args.world.now.store c.bit.new.self c.ite.new.store c.bit.ensures.keeps c.ite.ensures.sets) (holds_refl c.args.world.now.rows.keys))
    r c.args.high c.args.low c.requires.high c.requires.low (has c.bit.new.self c.in_ok-set.set) (value m c.in_ok-one.one) (value m c.in_ok-zero.zero) is
    (λ x. c.constant-2.ensures.keeps.same c.in_ok-one.one x c.in_ok-one.ensures.map.known ∙ c.in_ok-one.ensures.map.values x) (λ x. c.in_ok-zero.ensures.map.values x))
    c.ite.ensures.map
