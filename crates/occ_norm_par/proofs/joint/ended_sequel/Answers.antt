use Rattle.occ_norm_par.proofs.Steps.{joint_ended, ok_both, one_node}
use Rattle.occ_norm_par.proofs.joint.ended_sequel.Goals as goal

pub returns-clause-joint : goal.returns-clause-joint
returns-clause-joint c = ok_both c.followed.result _ _ _
    (λ r is has joint. joint_ended c.args.world.now c.followed.new.self c.followed.ensures.extends joint c.args.map c.args.next r c.node_at-node.result c.requires.map.has c.requires.next
    (one_node c.args.world.now c.args.map c.requires.map c.node_at-node.result c.node_at-node.ensures.value) is has)
    c.followed.ensures.sequel c.followed.ensures.nodes
