use Rattle.std.proofs.Common.{refl}
use Rattle.std.proofs.lemmas.Result.{IfOk-weaker}
use Rattle.occ_norm_assign.proofs.Exchanging.{are_free-keeps}
use Rattle.occ_norm_assign.proofs.Keeping.{writes-extend}
use Rattle.occ_norm_assign.proofs.writes.are_joint.Goals as goal

pub is_full-requires : goal.is_full-requires
is_full-requires c = c.requires.map.known

pub are_apart-requires : goal.are_apart-requires
are_apart-requires c = record { writes = writes-extend c.args.world.now c.is_full.new.world c.is_full.ensures c.args.writes.now c.requires.writes }

pub returns-clause-free : goal.returns-clause-free
returns-clause-free c = IfOk-weaker c.are_apart.result _ _
    (λ r free e. are_free-keeps c.is_full.new.world.store c.are_apart.new.world.store c.are_apart.ensures.extends.grows.stored c.args.writes.now
    (writes-extend c.args.world.now c.is_full.new.world c.is_full.ensures c.args.writes.now c.requires.writes) _ refl (free e))
    c.are_apart.ensures.free
