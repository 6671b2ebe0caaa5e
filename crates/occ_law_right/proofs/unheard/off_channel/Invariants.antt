use Rattle.std.proofs.Common.{◌≡◌, drop}
use Rattle.occ_law_seq.specs.occ_law.Lists.{all_branches}
use Rattle.occ_law_seq.specs.occ_law.Scope.{without_channel}
use Rattle.occ_syntax.specs.View.{branches, in_alternatives}
use Rattle.occ_law_right.proofs.unheard.off_channel.Given as goal

-- what is written, and behind it what is still to be written
abbrev pub invariant-loop-guard : goal.invariant-loop-guard
invariant-loop-guard l =
    all_branches (branches (in_alternatives l.made)) (without_channel l.channel.0 l.width (branches (drop l.guard-index l.alternatives)))
    ≡ without_channel l.channel.0 l.width (branches l.alternatives)
