use Rattle.std.proofs.Common.{sym, subst}
use Rattle.std.proofs.lemmas.Result.{IfOk-weaker}
use Rattle.occ_weave.specs.occ_node.World.{Leads}
use Rattle.occ_weave.specs.occ_choice.Branches.{AreBranches, IsAlt}
use Rattle.occ_follow.proofs.from_scope.Keeping.{shifts-lead}
use Rattle.occ_weave.proofs.Keeping.{remembers-lead}
use Rattle.occ_norm_frame.proofs.Worlds.{alt_with, branches_without, leads_with}
use Rattle.occ_norm_frame.proofs.normaliser.Normaliser.alt.Goals as goal

pub alt_with-requires-clause-branches : goal.alt_with-requires-clause-branches
alt_with-requires-clause-branches c =
    let w = c.self.inside.lifting.weaver.world in
    branches_without (record w { maps = c.self.inside.maps }) w c.args.branches.now (subst (λ v. AreBranches v c.args.branches.now) (sym c.self.view_is) c.requires)

pub invariant_of-self : goal.invariant_of-self
invariant_of-self c =
    let f = c.self.inside.lifting in
    let w = c.alt_with.new.world in
    (remembers-lead _ _ f.weaver w c.alt_with.new.unions c.alt_with.ensures.leads c.alt_with.ensures.unions c.self.invariant.0, shifts-lead f.weaver.world w f.shifts c.alt_with.ensures.leads c.self.invariant.1)

pub returns-clause-leads : goal.returns-clause-leads
returns-clause-leads c =
    let w = c.self.inside.lifting.weaver.world in
    subst (λ v. Leads v (record c.alt_with.new.world { maps = c.self.inside.maps })) c.self.view_is (leads_with (record w { maps = c.self.inside.maps }) w c.alt_with.new.world c.alt_with.ensures.leads)

pub returns-clause-alt : goal.returns-clause-alt
returns-clause-alt c =
    let w = c.self.inside.lifting.weaver.world in
    let u = record w { maps = c.self.inside.maps } in
    IfOk-weaker c.alt_with.result _ _
    (λ r is. subst (λ v. IsAlt v (record c.alt_with.new.world { maps = c.self.inside.maps }) c.args.branches.now r) c.self.view_is
    (alt_with u w c.alt_with.new.world c.args.branches.now r (subst (λ v. AreBranches v c.args.branches.now) (sym c.self.view_is) c.requires) is)) c.alt_with.ensures.alt
