use Rattle.std.proofs.Common.{subst}
use Rattle.occ_law_seq.specs.occ_law.Instances.{sizes}
use Rattle.occ_law_seq.specs.occ_law.RuleTable.{DIRECT_SIDES}
use Rattle.occ_syntax.specs.View.{tree}
use Rattle.occ_law_right.proofs.Places.{nowhere}
use Rattle.occ_law_right.proofs.write.scope_right.Goals as goal

pub returns-in-Behind : goal.returns-in-Behind
returns-in-Behind c =
    let l = tree c.args.left.now in
    λ r d. nowhere c.args.law.0 c.args.scope.now _ _ l r c.requires.first (subst (λ at. DIRECT_SIDES c.args.law.0 c.args.scope.now (sizes at) l r) c.in-Behind.is d)

pub returns-in-Between : goal.returns-in-Between
returns-in-Between c =
    let l = tree c.args.left.now in
    λ r d. nowhere c.args.law.0 c.args.scope.now _ _ l r c.requires.first (subst (λ at. DIRECT_SIDES c.args.law.0 c.args.scope.now (sizes at) l r) c.in-Between.is d)
