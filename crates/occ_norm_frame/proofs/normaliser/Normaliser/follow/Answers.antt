use Rattle.std.proofs.Common.{refl, sym, subst}
use Rattle.std.proofs.lemmas.Result.{IfOk-weaker}
use Rattle.occ_follow.specs.Sequence.{HasNodes, IsFollowed}
use Rattle.occ_weave.specs.occ_node.World.{IsNode, Leads}
use Rattle.occ_norm_frame.proofs.Worlds.{node_rows}
use Rattle.occ_norm_frame.proofs.normaliser.Normaliser.follow.Goals as goal

pub follow-requires-clause-node : goal.follow-requires-clause-node
follow-requires-clause-node c =
    let w = c.self.inside.lifting.weaver.world in
    node_rows (record w { maps = c.self.inside.maps }) w refl c.args.node (subst (λ v. IsNode v c.args.node) (sym c.self.view_is) c.requires.node)

pub follow-requires-clause-map : goal.follow-requires-clause-map
follow-requires-clause-map c = subst (λ v. HasNodes v c.args.map) (sym c.self.view_is) c.requires.map

pub returns-clause-leads : goal.returns-clause-leads
returns-clause-leads c = subst (λ v. Leads v (record c.follow.new.self.weaver.world { maps = c.follow.new.maps })) c.self.view_is c.follow.ensures.leads

pub returns-clause-followed : goal.returns-clause-followed
returns-clause-followed c = IfOk-weaker c.follow.result _ _
    (λ r is. subst (λ v. IsFollowed v (record c.follow.new.self.weaver.world { maps = c.follow.new.maps }) c.args.node c.args.map r) c.self.view_is is) c.follow.ensures.followed
