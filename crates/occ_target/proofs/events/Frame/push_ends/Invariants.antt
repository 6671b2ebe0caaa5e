use Rattle.std.proofs.Common.{◌≡◌, ◌++◌, List, map, take}
use Rattle.occ_syntax.specs.Tree.{Tree, Waiting}
use Rattle.occ_syntax.specs.View.{branches, in_alternatives}
use Rattle.occ_target.specs.Framed.{frame_of}
use Rattle.occ_target.specs.Rows.{end_branch, guarded}
use Rattle.occ_target.proofs.events.Frame.push_ends.Given as goal

abbrev pub invariant-loop-state : goal.invariant-loop-state
invariant-loop-state l = (front : List (Waiting × Tree)) → branches (in_alternatives l.initial.made) ≡ guarded front
    → branches (in_alternatives l.made) ≡ guarded (front ++ map (end_branch (frame_of l.self)) (take l.state-index l.states))
