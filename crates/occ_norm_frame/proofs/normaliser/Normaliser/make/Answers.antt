use Rattle.std.proofs.Common.{sym, subst}
use Rattle.std.proofs.lemmas.Result.{IfOk-weaker}
use Rattle.occ_weave.specs.occ_node.World.{IsFit, Leads}
use Rattle.occ_norm_frame.proofs.Worlds.{fit_without, leads_with, made_with, right_lead}
use Rattle.occ_norm_frame.proofs.normaliser.Normaliser.make.Goals as goal

pub make-requires : goal.make-requires
make-requires c =
    let w = c.self.inside.lifting.weaver.world in
    let u = record w { maps = c.self.inside.maps } in
    fit_without u w c.args.row (subst (λ v. IsFit v c.args.row) (sym c.self.view_is) c.requires)

pub invariant_of-self : goal.invariant_of-self
invariant_of-self c = right_lead c.self.inside.lifting c.make.new.self c.make.ensures.leads c.self.invariant

pub returns-clause-leads : goal.returns-clause-leads
returns-clause-leads c =
    let w = c.self.inside.lifting.weaver.world in
    let u = record w { maps = c.self.inside.maps } in
    subst (λ v. Leads v (record c.make.new.self { maps = c.self.inside.maps })) c.self.view_is (leads_with u w c.make.new.self c.make.ensures.leads)

pub returns-clause-made : goal.returns-clause-made
returns-clause-made c =
    let u = record c.self.inside.lifting.weaver.world { maps = c.self.inside.maps } in
    IfOk-weaker c.make.result _ _ (λ r is. made_with u c.make.new.self r c.args.row is) c.make.ensures.made
