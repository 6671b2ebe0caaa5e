use Rattle.std.proofs.Common.{◌≡◌, ◌+◌, ◌-◌, ℕ, sym, ◌∙◌, subst, arith}
use Rattle.std.proofs.lemmas.Result.{IfOk-weaker}
use Rattle.occ_norm_frame.specs.Maps.{digit}
use Rattle.occ_norm_frame.proofs.Worlds.{extends_trans, has_nodes-extends}
use Rattle.occ_norm_frame.specs.After.{IsOver}
use Rattle.occ_norm_frame.proofs.After.{over-extends}
use Rattle.occ_norm_par.specs.Joints.{IsJoint}
use Rattle.occ_norm_par.proofs.Made.{half_made, joint_made}
use Rattle.occ_norm_par.proofs.Steps.{digit_lt, joints_grow, joints_learnt, over_part}
use Rattle.occ_norm_par.proofs.joint.Known.+sequel.Goals as goal

-- one half
pub half-next_at-requires-clause-next : goal.half-next_at-requires-clause-next
half-next_at-requires-clause-next t c = has_nodes-extends c.args.world.now c.cofactor.new.self c.cofactor.ensures.extends c.args.stage.next c.requires.next

pub half-returns-in_err-map-clause-memo : goal.half-returns-in_err-map-clause-memo
half-returns-in_err-map-clause-memo t c = joints_grow c.args.world.now c.cofactor.new.self c.cofactor.ensures.extends c.args.joint c.args.self.now.memo c.requires.memo

pub half-returns-in_err-next-clause-memo : goal.half-returns-in_err-next-clause-memo
half-returns-in_err-next-clause-memo t c =
    let grow = extends_trans c.args.world.now c.cofactor.new.self c.next_at.new.world c.cofactor.ensures.extends c.next_at.ensures.extends in
    joints_grow c.args.world.now c.next_at.new.world grow c.args.joint c.args.self.now.memo c.requires.memo

pub half-sequel-requires : goal.half-sequel-requires
half-sequel-requires t c =
    let v = c.args.world.now in
    let u = c.cofactor.new.self in
    let w = c.next_at.new.world in
    let stage = c.args.stage in
    let part = over_part v u c.cofactor.ensures.extends (stage.left + 1) stage.left (digit c.args.one) stage.map c.in_ok-map.map (omega arith) (omega (arith, c.requires.left)) (digit_lt c.args.one)
    c.requires.map c.in_ok-map.ensures.map (c.in_ok-map.ensures.nodes c.requires.map.has) in (
      omega (arith, c.decreases),
      (
        omega (arith, c.requires.left),
        (
          over-extends u w c.next_at.ensures.extends stage.left c.in_ok-map.map part,
          (
            c.in_ok-next.ensures.stepped.after,
            joints_grow v w (extends_trans v u w c.cofactor.ensures.extends c.next_at.ensures.extends) c.args.joint c.args.self.now.memo c.requires.memo,
          ),
        ),
      ),
    )

pub half-returns-clause-half : goal.half-returns-clause-half
half-returns-clause-half t c =
    let stage = c.args.stage in
    IfOk-weaker c.sequel.result _ _
    (λ r is. half_made c.args.world.now c.cofactor.new.self c.next_at.new.world c.sequel.new.world c.cofactor.ensures.extends c.next_at.ensures.extends c.sequel.ensures.extends
    c.args.joint stage.left (digit c.args.one) stage.map stage.next c.in_ok-map.map c.in_ok-next.next r (omega (arith, c.requires.left)) c.requires.map.has c.in_ok-map.ensures.map c.in_ok-next.ensures.stepped is)
    c.sequel.ensures.joint

-- both halves
pub halves-half-requires-2 : goal.halves-half-requires-2
halves-half-requires-2 t c = (
  omega (arith, c.decreases),
  (
    c.requires.left,
    (
      over-extends c.args.world.now c.half.new.world c.half.ensures.extends (c.args.stage.left + 1) c.args.stage.map c.requires.map,
      (has_nodes-extends c.args.world.now c.half.new.world c.half.ensures.extends c.args.stage.next c.requires.next, c.half.ensures.memo),
    ),
  ),
)

pub halves-returns-in_err-set-clause-memo : goal.halves-returns-in_err-set-clause-memo
halves-returns-in_err-set-clause-memo t c = joints_grow c.half-2.new.world c.bit.new.self c.bit.ensures.extends c.args.joint c.half-2.new.self.memo c.half-2.ensures.memo

pub halves-returns-clause-memo : goal.halves-returns-clause-memo
halves-returns-clause-memo t c =
    let grow = extends_trans c.half-2.new.world c.bit.new.self c.choose.new.self c.bit.ensures.extends c.choose.ensures.extends in
    joints_grow c.half-2.new.world c.choose.new.self grow c.args.joint c.half-2.new.self.memo c.half-2.ensures.memo

pub halves-returns-clause-joint : goal.halves-returns-clause-joint
halves-returns-clause-joint t c =
    IfOk-weaker c.choose.result _ _
    (λ made is. joint_made c.half.new.world c.half-2.new.world c.bit.new.self c.choose.new.self c.half-2.ensures.extends c.bit.ensures.extends c.choose.ensures.extends
    c.args.joint c.args.stage.left c.args.stage.map c.args.stage.next c.in_ok-low.low c.in_ok-high.high made c.in_ok-set.set (omega (arith, c.requires.left))
    c.in_ok-low.ensures.half c.in_ok-high.ensures.half c.in_ok-set.ensures.set is)
    c.choose.ensures.map

-- as to the bits that are left
pub sequel-ended_sequel-requires-clause-map : goal.sequel-ended_sequel-requires-clause-map
sequel-ended_sequel-requires-clause-map t c = subst (λ (n : ℕ). IsOver c.args.world.now n c.args.stage.map) c.if-stage-eq0.true c.requires.map

pub sequel-returns-then-stage-eq0-clause-memo : goal.sequel-returns-then-stage-eq0-clause-memo
sequel-returns-then-stage-eq0-clause-memo t c = joints_grow c.args.world.now c.ended_sequel.new.world c.ended_sequel.ensures.extends c.args.joint c.args.self.now.memo c.requires.memo

pub sequel-returns-then-stage-eq0-clause-joint : goal.sequel-returns-then-stage-eq0-clause-joint
sequel-returns-then-stage-eq0-clause-joint t c =
    IfOk-weaker c.ended_sequel.result _ _
    (λ r is. subst (λ (n : ℕ). IsJoint c.ended_sequel.new.world c.args.joint n c.args.stage.map c.args.stage.next r) (sym c.if-stage-eq0.true) (is c.args.joint))
    c.ended_sequel.ensures.joint

pub sequel-returns-in-Some-clause-joint : goal.sequel-returns-in-Some-clause-joint
sequel-returns-in-Some-clause-joint t c = c.requires.memo.each _ c.in-Some.known (sym c.get.ensures ∙ c.in-Some.is)

pub sequel-halves-requires : goal.sequel-halves-requires
sequel-halves-requires t c =
    let left = c.args.stage.left in
    let more : left ≡ left - 1 + 1 = omega (arith, c.if-stage-eq0.false) in (
      omega (arith, c.decreases, c.if-stage-eq0.false),
      (
        omega (arith, c.requires.left, c.if-stage-eq0.false),
        (subst (λ (n : ℕ). IsOver c.args.world.now n c.args.stage.map) more c.requires.map, (c.requires.next, c.requires.memo)),
      ),
    )

pub sequel-returns-in_err-insert-clause-memo : goal.sequel-returns-in_err-insert-clause-memo
sequel-returns-in_err-insert-clause-memo t c =
    let w = c.halves.new.world in
    let stage = c.args.stage in
    let back : stage.left - 1 + 1 ≡ stage.left = omega (arith, c.if-stage-eq0.false) in
    joints_learnt w c.args.joint c.halves.new.self.memo c.insert.new.self (record { first = stage.left; second = stage.map.0; third = stage.next.0 }) c.in_ok-made.made c.halves.ensures.memo
    (subst (λ (n : ℕ). IsJoint w c.args.joint n stage.map stage.next c.in_ok-made.made) back c.in_ok-made.ensures.joint) c.insert.ensures

pub sequel-returns-clause-memo : goal.sequel-returns-clause-memo
sequel-returns-clause-memo t c =
    let w = c.halves.new.world in
    let stage = c.args.stage in
    let back : stage.left - 1 + 1 ≡ stage.left = omega (arith, c.if-stage-eq0.false) in
    joints_learnt w c.args.joint c.halves.new.self.memo c.insert.new.self (record { first = stage.left; second = stage.map.0; third = stage.next.0 }) c.in_ok-made.made c.halves.ensures.memo
    (subst (λ (n : ℕ). IsJoint w c.args.joint n stage.map stage.next c.in_ok-made.made) back c.in_ok-made.ensures.joint) c.insert.ensures

pub sequel-returns-clause-joint : goal.sequel-returns-clause-joint
sequel-returns-clause-joint t c =
    let stage = c.args.stage in
    let back : stage.left - 1 + 1 ≡ stage.left = omega (arith, c.if-stage-eq0.false) in
    subst (λ (n : ℕ). IsJoint c.halves.new.world c.args.joint n stage.map stage.next c.in_ok-made.made) back c.in_ok-made.ensures.joint
