use Rattle.std.proofs.Common.{◌≡◌, sym, ap, ◌∙◌, subst}
use Rattle.std.proofs.lemmas.Result.{IfOk-weaker}
use Rattle.occ_weave.specs.occ_node.declared.world.World.{World}
use Rattle.occ_norm_frame.specs.Maps.{Extends, MayHaveNodes}
use Rattle.occ_norm_frame.proofs.Worlds.{extends_refl, has_nodes-extends, may_have, same_manner, two_nodes}
use Rattle.occ_norm_frame.proofs.normaliser.Normaliser.woven.Goals as goal

pub returns-in_err-begin-clause-extends : goal.returns-in_err-begin-clause-extends
returns-in_err-begin-clause-extends c =
    let u = record c.begin.new.self.weaver.world { maps = c.self.inside.maps } in
    let same : u ≡ c.args.self.now = ap (λ (w : World). record w { maps = c.self.inside.maps }) c.begin.ensures.world ∙ c.self.view_is in
    subst (λ v. Extends v u) same (extends_refl u)

pub lift-requires-clause-a : goal.lift-requires-clause-a
lift-requires-clause-a c =
    let same = ap (λ (w : World). record w { maps = c.self.inside.maps }) c.begin.ensures.world ∙ c.self.view_is in
    subst (λ v. MayHaveNodes v c.args.a) (sym same) (may_have c.args.self.now c.args.a c.requires.a)

pub lift-requires-clause-b : goal.lift-requires-clause-b
lift-requires-clause-b c =
    let same = ap (λ (w : World). record w { maps = c.self.inside.maps }) c.begin.ensures.world ∙ c.self.view_is in
    subst (λ v. MayHaveNodes v c.args.b) (sym same) (may_have c.args.self.now c.args.b c.requires.b)

pub returns-clause-extends : goal.returns-clause-extends
returns-clause-extends c =
    let same = ap (λ (w : World). record w { maps = c.self.inside.maps }) c.begin.ensures.world ∙ c.self.view_is in
    subst (λ v. Extends v (record c.lift.new.self.weaver.world { maps = c.lift.new.maps })) same c.lift.ensures.extends

pub returns-clause-woven : goal.returns-clause-woven
returns-clause-woven c =
    let w = record c.lift.new.self.weaver.world { maps = c.lift.new.maps } in
    IfOk-weaker c.lift.result _ _ (λ r is. same_manner w c.args.a c.args.b r _ _ _ _ c.in_ok-begin.ensures.written c.in_ok-begin.ensures.closed is) c.lift.ensures.lifted

pub returns-clause-nodes : goal.returns-clause-nodes
returns-clause-nodes c =
    let u = record c.begin.new.self.weaver.world { maps = c.self.inside.maps } in
    let w = record c.lift.new.self.weaver.world { maps = c.lift.new.maps } in
    let k = c.lift.ensures.extends in
    let same : u ≡ c.args.self.now = ap (λ (w : World). record w { maps = c.self.inside.maps }) c.begin.ensures.world ∙ c.self.view_is in
    let grows = subst (λ v. Extends v w) same k in
    IfOk-weaker c.lift.result _ _ (λ r is. two_nodes w c.args.a c.args.b r _ (λ p q s k. k.woven.known)
    (has_nodes-extends c.args.self.now w grows c.args.a c.requires.a) (has_nodes-extends c.args.self.now w grows c.args.b c.requires.b) is) c.lift.ensures.lifted
