use Rattle.std.proofs.Common.{sym, subst}
use Rattle.std.proofs.lemmas.Result.{IfOk-weaker}
use Rattle.occ_norm_frame.proofs.Worlds.{has_nodes-extends}
use Rattle.occ_norm_frame.proofs.Placing.{frame_layout, pairs_length}
use Rattle.occ_norm_frame.specs.occ_bits.Layout.{environment_in}
use Rattle.occ_syntax.specs.View.{exps, numbers}
use Rattle.occ_norm_assign.specs.Written.{AreDistinct, IsApplied}
use Rattle.occ_norm_assign.proofs.Apart.{assigned_distinct}
use Rattle.occ_norm_assign.proofs.Assigning.{assign_after}
use Rattle.occ_norm_assign.proofs.writes.assigned.Goals as goal

pub writes_of-requires-clause-same : goal.writes_of-requires-clause-same
writes_of-requires-clause-same c = pairs_length (environment_in c.args.frame.now.layout) c.args.assignment.now.vars.now c.args.assignment.now.values.now c.requires.pairs

pub applied-requires-clause-distinct : goal.applied-requires-clause-distinct
applied-requires-clause-distinct c = subst AreDistinct (sym c.deref.ensures.value)
    (assigned_distinct c.writes_of.new.world.store c.args.frame.now.layout (frame_layout c.args.frame.now.vars c.args.frame.now.layout c.args.frame.now.bits c.args.frame.now.kept)
    (numbers c.args.assignment.now.vars.now) (exps c.args.assignment.now.values.now) c.in_ok-writes.writes.items c.in_ok-writes.ensures.assigned c.requires.pairs)

pub applied-requires-clause-rest : goal.applied-requires-clause-rest
applied-requires-clause-rest c = has_nodes-extends c.args.world.now c.writes_of.new.world c.writes_of.ensures.extends c.args.rest c.requires.rest.has

pub returns-clause-after : goal.returns-clause-after
returns-clause-after c = IfOk-weaker c.applied.result _ _
    (λ r is Γ around. assign_after c.args.world.now c.writes_of.new.world c.applied.new.world c.writes_of.ensures.extends c.applied.ensures.extends
    c.args.frame.now.vars c.args.frame.now.layout c.args.frame.now.bits c.args.frame.now.keep c.args.frame.now.closed.items c.args.frame.now.kept c.args.frame.now.inside
    (numbers c.args.assignment.now.vars.now) (exps c.args.assignment.now.values.now) c.args.rest r c.requires.pairs c.requires.rest c.in_ok-writes.writes.items c.in_ok-writes.ensures.writes c.in_ok-writes.ensures.assigned
    (subst (λ ws. IsApplied c.applied.new.world ws c.args.frame.now.keep c.args.rest r) c.deref.ensures.value is) Γ around)
    c.applied.ensures.applied
