use Rattle.std.proofs.Common.{sym, ◌∙◌, subst, ◌++◌}
use Rattle.std.proofs.lemmas.Result.{IfOk-weaker}
use Rattle.occ_weave.specs.occ_choice.Branches.{AreBranches}
use Rattle.occ_norm_frame.specs.Growth.{both_branches}
use Rattle.occ_norm_frame.proofs.Worlds.{merged_now}
use Rattle.occ_norm_frame.proofs.nodes.merge.Goals as goal

pub alt_with-requires-clause-branches : goal.alt_with-requires-clause-branches
alt_with-requires-clause-branches c = subst (AreBranches c.args.world.now) (sym (c.deref-2.ensures.value ∙ c.in_ok-extend_from_slice.ensures.items ∙ (λ i. c.in_ok-branches.ensures i ++ (c.deref.ensures.value ∙ c.in_ok-others.ensures) i)))
    (both_branches c.args.world.now c.args.p c.args.q c.requires.p c.requires.q)

pub returns-clause-merged : goal.returns-clause-merged
returns-clause-merged c = IfOk-weaker c.alt_with.result _ _
    (λ r is. merged_now c.args.world.now c.alt_with.new.world c.alt_with.ensures.leads c.args.p c.args.q c.requires.p c.requires.q c.deref-2.result.now
    (c.deref-2.ensures.value ∙ c.in_ok-extend_from_slice.ensures.items ∙ (λ i. c.in_ok-branches.ensures i ++ (c.deref.ensures.value ∙ c.in_ok-others.ensures) i)) r is) c.alt_with.ensures.alt
