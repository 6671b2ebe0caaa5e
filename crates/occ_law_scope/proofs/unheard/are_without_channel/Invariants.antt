use Rattle.std.proofs.Common.{◌≡◌, ◌↔◌, drop}
use Rattle.occ_law_shape.specs.occ_law.Scope.{without_channel}
use Rattle.occ_syntax.specs.View.{branches}
use Rattle.occ_law_scope.proofs.unheard.are_without_channel.Given as goal

-- the branches so far are right
abbrev pub invariant-loop-branch : goal.invariant-loop-branch
invariant-loop-branch l =
    (branches l.rest ≡ without_channel l.channel.0 l.width (branches (drop l.branch-index l.alternatives)))
    ↔ (branches l.others ≡ without_channel l.channel.0 l.width (branches l.alternatives))
