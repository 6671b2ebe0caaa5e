use Rattle.occ_norm_frame.proofs.Worlds.{extends_trans, has_nodes-extends, may_have}
use Rattle.std.proofs.Common.{◌+◌}
use Rattle.std.proofs.lemmas.Result.{IfOk-weaker}
use Rattle.occ_bits.specs.occ_dd.Assignment.{with_bit}
use Rattle.occ_norm_frame.specs.Lifted.{IsEither}
use Rattle.occ_norm_frame.specs.Maps.{Lifts}
use Rattle.occ_norm_frame.specs.Changes.{IsFreed}
use Rattle.occ_norm_frame.proofs.Changing.{freed_both, freed_still, part_later, still_later}
use Rattle.occ_norm_frame.proofs.changes.freed_at.Goals as goal

pub returns-then-not-matters-clause-nodes : goal.returns-then-not-matters-clause-nodes
returns-then-not-matters-clause-nodes c = (has_nodes-extends c.args.world.now c.depends.new.self c.depends.ensures.extends c.args.map c.requires.map)

pub united-requires-clause-a : goal.united-requires-clause-a
united-requires-clause-a c = may_have c.cofactor-2.new.self c.in_ok-zero.zero (has_nodes-extends c.cofactor.new.self c.cofactor-2.new.self c.cofactor-2.ensures.extends c.in_ok-zero.zero (c.in_ok-zero.ensures.nodes (has_nodes-extends c.args.world.now c.depends.new.self c.depends.ensures.extends c.args.map c.requires.map)))

pub united-requires-clause-b : goal.united-requires-clause-b
united-requires-clause-b c = may_have c.cofactor-2.new.self c.in_ok-one.one (c.in_ok-one.ensures.nodes (has_nodes-extends c.args.world.now c.cofactor.new.self (extends_trans c.args.world.now c.depends.new.self c.cofactor.new.self c.depends.ensures.extends c.cofactor.ensures.extends) c.args.map c.requires.map))

pub returns-clause-nodes : goal.returns-clause-nodes
returns-clause-nodes c = c.united.ensures.nodes (has_nodes-extends c.cofactor.new.self c.cofactor-2.new.self c.cofactor-2.ensures.extends c.in_ok-zero.zero (c.in_ok-zero.ensures.nodes (has_nodes-extends c.args.world.now c.depends.new.self c.depends.ensures.extends c.args.map c.requires.map))) (c.in_ok-one.ensures.nodes (has_nodes-extends c.args.world.now c.cofactor.new.self (extends_trans c.args.world.now c.depends.new.self c.cofactor.new.self c.depends.ensures.extends c.cofactor.ensures.extends) c.args.map c.requires.map))

pub returns-then-not-matters-clause-freed : goal.returns-then-not-matters-clause-freed
returns-then-not-matters-clause-freed c = freed_still c.depends.new.self c.args.map c.args.bit c.requires.bit (has_nodes-extends c.args.world.now c.depends.new.self c.depends.ensures.extends c.args.map c.requires.map)
    (still_later c.args.world.now c.depends.new.self c.args.map c.args.bit c.depends.ensures.extends c.requires.map (c.in_ok-matters.ensures.independent c.if-not-matters.true))

pub returns-clause-freed : goal.returns-clause-freed
returns-clause-freed c =
    let first = c.depends.new.self in
    let second = c.cofactor.new.self in
    let third = c.cofactor-2.new.self in
    let last = c.united.new.self in
    let at_first = has_nodes-extends c.args.world.now first c.depends.ensures.extends c.args.map c.requires.map in
    let at_second = has_nodes-extends first second c.cofactor.ensures.extends c.args.map at_first in
    IfOk-weaker c.united.result (λ r. Lifts last c.in_ok-zero.zero c.in_ok-one.one r (IsEither last)) (λ r. IsFreed last c.args.bit (c.args.bit + 1) c.args.map r)
    (λ r lifts. freed_both last c.args.map r c.args.bit c.in_ok-zero.zero c.in_ok-one.one c.requires.bit
    (has_nodes-extends second last (extends_trans second third last c.cofactor-2.ensures.extends c.united.ensures.extends) c.args.map at_second)
    (part_later first second last c.args.map c.in_ok-zero.zero (λ x. with_bit x c.args.bit 0) c.cofactor.ensures.extends (extends_trans second third last c.cofactor-2.ensures.extends c.united.ensures.extends) at_first c.in_ok-zero.ensures.map)
    (part_later second third last c.args.map c.in_ok-one.one (λ x. with_bit x c.args.bit 1) c.cofactor-2.ensures.extends c.united.ensures.extends at_second c.in_ok-one.ensures.map)
    lifts)
    c.united.ensures.united
