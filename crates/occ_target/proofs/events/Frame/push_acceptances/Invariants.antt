use Rattle.std.proofs.Common.{◌≡◌, ◌++◌, List, map, take}
use Rattle.occ_syntax.specs.Tree.{Tree, Waiting}
use Rattle.occ_syntax.specs.View.{branches, in_alternatives}
use Rattle.occ_target.specs.Framed.{frame_of}
use Rattle.occ_target.specs.Rows.{acceptance, guarded}
use Rattle.occ_target.proofs.events.Frame.push_acceptances.Given as goal

abbrev pub invariant-loop-set : goal.invariant-loop-set
invariant-loop-set l = (front : List (Waiting × Tree)) → branches (in_alternatives l.initial.made) ≡ guarded front
    → branches (in_alternatives l.made) ≡ guarded (front ++ map (acceptance (frame_of l.self) l.offers) (take l.set-index l.sets))
