use Rattle.std.proofs.Common.{refl, ◌∙◌}
use Rattle.std.proofs.lemmas.Result.{IfOk-weaker}
use Rattle.occ_follow.proofs.Continuing.{has_later}
use Rattle.occ_norm_frame.proofs.Worlds.{followed_around, leads_around, leads_same, node_rows, right_lead}
use Rattle.occ_norm_frame.proofs.lifting.Lifting.follow.Goals as goal

pub follow-followed-requires-clause-node : goal.follow-followed-requires-clause-node
follow-followed-requires-clause-node c = node_rows c.args.self.now.weaver.world _ refl c.args.node c.requires.node

pub follow-followed-requires-clause-map : goal.follow-followed-requires-clause-map
follow-followed-requires-clause-map c =
    let v = record c.args.self.now.weaver.world { maps = c.args.maps.now } in
    has_later v _ (leads_same v _ refl refl c.swap.ensures.y_after) c.args.map c.requires.map

pub returns-clause-right : goal.returns-clause-right
returns-clause-right c =
    right_lead c.args.self.now _ (leads_around c.args.self.now.weaver.world _ c.follow-followed.new.world _ refl refl c.follow-followed.ensures.leads refl refl (c.swap-2.ensures.y_after ∙ c.swap.ensures.x_after)) c.requires.right

pub returns-clause-leads : goal.returns-clause-leads
returns-clause-leads c = leads_around (record c.args.self.now.weaver.world { maps = c.args.maps.now }) _ c.follow-followed.new.world _ refl refl c.follow-followed.ensures.leads refl refl
    (c.swap-2.ensures.x_after ∙ c.follow-followed.ensures.leads.maps ∙ c.swap.ensures.y_after)

pub returns-clause-followed : goal.returns-clause-followed
returns-clause-followed c =
    let v = record c.args.self.now.weaver.world { maps = c.args.maps.now } in
    let w = c.follow-followed.new.world in
    IfOk-weaker c.follow-followed.result _ _
    (λ r is. followed_around v _ w _ (leads_same v _ refl refl c.swap.ensures.y_after) c.follow-followed.ensures.leads (leads_same w _ refl refl c.swap-2.ensures.x_after)
    c.args.node c.args.map r (node_rows c.args.self.now.weaver.world v refl c.args.node c.requires.node) c.requires.map is) c.follow-followed.ensures.followed
