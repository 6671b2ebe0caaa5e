use Rattle.std.proofs.Common.{◌≡◌, ◌++◌, List, drop}
use Rattle.occ_syntax.specs.Tree.{Tree, Waiting}
use Rattle.occ_syntax.specs.View.{branches, in_alternatives}
use Rattle.occ_target.specs.Framed.{frame_of}
use Rattle.occ_target.specs.Rows.{event_branches, guarded, of_events}
use Rattle.occ_target.proofs.events.Frame.of_events.Given as goal

-- the branches made so far, and those that are left to make, are all
abbrev pub invariant-loop-place : goal.invariant-loop-place
invariant-loop-place l = (front : List (Waiting × Tree)) × (branches (in_alternatives l.made) ≡ guarded front)
    × (front ++ event_branches (frame_of l.self) l.before (drop l.place l.offers) ≡ of_events (frame_of l.self) l.offers)
