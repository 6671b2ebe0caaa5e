use Rattle.std.proofs.Common.{◌≡◌, ◌++◌, List, drop, map}
use Rattle.occ_syntax.specs.Tree.{Exp, Tree}
use Rattle.occ_syntax.specs.View.{cases, in_choices, tree}
use Rattle.occ_target.specs.Program.{state_choices}
use Rattle.occ_target.specs.Rows.{choices}
use Rattle.occ_target.proofs.program.state_choices.Given as goal

-- the choices made so far, and those that are left to make, are all
abbrev pub invariant-loop-place : goal.invariant-loop-place
invariant-loop-place l = (front : List (Exp × Tree)) × (cases (in_choices l.made) ≡ choices front)
    × (front ++ state_choices l.params (map tree l.parts) l.place (drop l.place l.states) ≡ state_choices l.params (map tree l.parts) 0 l.states)
