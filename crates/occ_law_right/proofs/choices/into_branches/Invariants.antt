use Rattle.std.proofs.Common.{◌≡◌, drop}
use Rattle.occ_law_seq.specs.occ_law.Lists.{all_branches}
use Rattle.occ_law_seq.specs.occ_law_shape.Pieces.{each_branch}
use Rattle.occ_syntax.specs.Declarations.{declaring}
use Rattle.occ_syntax.specs.View.{branches, in_alternatives}
use Rattle.occ_law_right.proofs.choices.into_branches.Given as goal

-- what is written, and behind it what is still to be written
abbrev pub invariant-loop-guard : goal.invariant-loop-guard
invariant-loop-guard l =
    all_branches (branches (in_alternatives l.made))
    (each_branch (λ b. b) (λ w. w) (λ w p. declaring l.declaration.name.0 l.declaration.kind p) (branches (drop l.guard-index l.alternatives)))
    ≡ each_branch (λ b. b) (λ w. w) (λ w p. declaring l.declaration.name.0 l.declaration.kind p) (branches l.alternatives)
