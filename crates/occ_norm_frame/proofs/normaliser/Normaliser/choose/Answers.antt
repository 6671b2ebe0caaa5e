use Rattle.std.proofs.Common.{refl, sym, subst}
use Rattle.std.specs.Prelude.{if◌then◌else◌}
use Rattle.std.proofs.lemmas.Result.{IfOk-weaker}
use Rattle.occ_bits.specs.occ_dd.Store.{IsKnown as IsSetKnown, has}
use Rattle.occ_weave.specs.occ_mdd.Maps.{IsKnown, IsMap, value}
use Rattle.occ_weave.proofs.from_node.Table.{rows-keeps}
use Rattle.occ_follow.specs.Sequence.{HasNodes}
use Rattle.occ_norm_frame.specs.Maps.{MayHaveNodes}
use Rattle.occ_norm_frame.proofs.Worlds.{chosen_may, chosen_nodes, extends_at, extends_rows, right_sets}
use Rattle.occ_norm_frame.proofs.normaliser.Normaliser.choose.Goals as goal

pub ite-requires-clause-set : goal.ite-requires-clause-set
ite-requires-clause-set c = subst (λ v. IsSetKnown v.store c.args.set) (sym c.self.view_is) c.requires.set

pub ite-requires-clause-a : goal.ite-requires-clause-a
ite-requires-clause-a c = subst (λ v. IsKnown v.maps c.args.a) (sym c.self.view_is) c.requires.a

pub ite-requires-clause-b : goal.ite-requires-clause-b
ite-requires-clause-b c = subst (λ v. IsKnown v.maps c.args.b) (sym c.self.view_is) c.requires.b

pub invariant_of-self-inside : goal.invariant_of-self-inside
invariant_of-self-inside c =
    let w = c.self.inside.lifting.weaver.world in
    record { right = rows-keeps w.store c.ite.new.store c.ite.ensures.sets w.rows.keys w.right }

pub invariant_of-self : goal.invariant_of-self
invariant_of-self c = right_sets c.self.inside.lifting _ c.ite.ensures.sets refl refl c.self.invariant

pub returns-clause-extends : goal.returns-clause-extends
returns-clause-extends c =
    let u = record c.self.inside.lifting.weaver.world { maps = c.self.inside.maps } in
    extends_at u c.args.self.now _ c.self.view_is (extends_rows u _ c.ite.ensures.sets refl c.ite.ensures.keeps)

pub returns-clause-map : goal.returns-clause-map
returns-clause-map c = IfOk-weaker c.ite.result _ _
    (λ r is. subst (λ v. IsMap c.ite.new.self r (λ x. if has v.store c.args.set x then value v.maps c.args.a x else value v.maps c.args.b x)) c.self.view_is is) c.ite.ensures.map

pub returns-clause-may : goal.returns-clause-may
returns-clause-may c =
    let u = record c.self.inside.lifting.weaver.world { maps = c.self.inside.maps } in
    λ a b. IfOk-weaker c.ite.result _ _
    (λ r is. chosen_may u _ (extends_rows u _ c.ite.ensures.sets refl c.ite.ensures.keeps) (has u.store c.args.set) c.args.a c.args.b r
    (subst (λ v. MayHaveNodes v c.args.a) (sym c.self.view_is) a) (subst (λ v. MayHaveNodes v c.args.b) (sym c.self.view_is) b) is) c.ite.ensures.map

pub returns-clause-nodes : goal.returns-clause-nodes
returns-clause-nodes c =
    let u = record c.self.inside.lifting.weaver.world { maps = c.self.inside.maps } in
    λ a b. IfOk-weaker c.ite.result _ _
    (λ r is. chosen_nodes u _ (extends_rows u _ c.ite.ensures.sets refl c.ite.ensures.keeps) (has u.store c.args.set) c.args.a c.args.b r
    (subst (λ v. HasNodes v c.args.a) (sym c.self.view_is) a) (subst (λ v. HasNodes v c.args.b) (sym c.self.view_is) b) is) c.ite.ensures.map
