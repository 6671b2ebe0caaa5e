use Rattle.std.proofs.Common.{◌≡◌, ◌≤◌, ℕ, List, arith}
use Rattle.std.proofs.lemmas.Result.{IfOk-weaker}
use Rattle.occ_syntax.specs.occ_base.declared.names.Name.{Name}
use Rattle.occ_syntax.specs.occ_base.declared.width.Width.{Width}
use Rattle.occ_syntax.specs.Counts.{bits_of_scope}
use Rattle.occ_syntax.specs.declared.scope.Kind.{Kind}
use Rattle.occ_norm_frame.specs.Placed.{IsFrame}
use Rattle.occ_norm_frame.proofs.Worlds.{extends_trans, has_nodes-extends}
use Rattle.occ_norm_frame.proofs.After.{over-extends}
use Rattle.occ_norm_frame.proofs.Placing.{few_more}
use Rattle.occ_norm_par.proofs.Steps.{joints_none}
use Rattle.occ_norm_par.proofs.Sequels.{ended_after, made_after}
use Rattle.occ_norm_par.specs.declared.joint.Joint.{Joint}
use Rattle.occ_norm_par.proofs.parallel.Sides.sequel.Goals as goal

-- a frame has few bits
few_bits : (vars : List (Name × Kind)) (layout : List (Name × Width × ℕ)) (bits : ℕ) → IsFrame vars layout bits → bits ≤ 64
few_bits vars layout bits is = let few : bits_of_scope vars ≤ 24 = is.few in let same : bits ≡ bits_of_scope vars = is.bits_are in few_more bits (omega arith)

pub returns-then-nothing-clause-nodes : goal.returns-then-nothing-clause-nodes
returns-then-nothing-clause-nodes c = has_nodes-extends c.args.world.now c.is_ended.new.world c.is_ended.ensures.extends c.args.together c.requires.together.has

pub returns-then-nothing-clause-after : goal.returns-then-nothing-clause-after
returns-then-nothing-clause-after c Γ p within part =
    ended_after c.args.world.now c.is_ended.new.world c.is_ended.ensures.extends c.args.frame.now.layout c.args.frame.now.closed.items Γ p
    (record { written = c.args.self.now.written; needed = c.args.self.now.needed }) c.args.frame.now.keep c.args.rest c.args.together
    (c.in_ok-nothing.ensures.ended c.if-nothing.true) c.requires.together.has part

pub rebased-requires : goal.rebased-requires
rebased-requires c = has_nodes-extends c.args.world.now c.is_ended.new.world c.is_ended.ensures.extends c.args.rest c.requires.rest.has

pub sequel-requires-clause-map : goal.sequel-requires-clause-map
sequel-requires-clause-map c = over-extends c.args.world.now c.rebased.new.world (extends_trans c.args.world.now c.is_ended.new.world c.rebased.new.world c.is_ended.ensures.extends c.rebased.ensures.extends) c.args.frame.now.bits c.args.together c.requires.together

pub sequel-requires-clause-memo : goal.sequel-requires-clause-memo
sequel-requires-clause-memo c = joints_none c.rebased.new.world _ c.new.result c.new.ensures

pub returns-clause-after : goal.returns-clause-after
returns-clause-after c =
    let v = c.args.world.now in
    let u = c.rebased.new.world in
    let m = c.sequel.new.world in
    let w = c.rebased-2.new.world in
    let k1 = extends_trans v c.is_ended.new.world u c.is_ended.ensures.extends c.rebased.ensures.extends in
    let k2 = c.sequel.ensures.extends in
    let k3 = c.rebased-2.ensures.extends in
    let frame = c.args.frame.now in
    let j : Joint = record { written = c.args.self.now.written; needed = c.args.self.now.needed } in
    IfOk-weaker c.rebased-2.result _ _
    (λ r last Γ p within part.
    made_after v w (extends_trans v m w (extends_trans v u m k1 k2) k3) frame.layout frame.closed.items Γ p j frame.bits frame.keep
    c.args.together c.args.rest c.in_ok-next.next c.in_ok-map.map r u m k1 k2 k3 (few_bits frame.vars frame.layout frame.bits frame.kept) frame.inside
    c.requires.needed c.requires.together c.requires.rest c.in_ok-next.ensures.nodes c.in_ok-next.ensures.changed c.in_ok-map.ensures.joint last within part)
    c.rebased-2.ensures.changed
