use Rattle.std.proofs.Common.{◌≡◌, ◌≤◌, ◌↔◌, length, take, drop}
use Rattle.occ_syntax.specs.Tree.{no_case}
use Rattle.occ_syntax.specs.View.{cases}
use Rattle.occ_law_if.specs.Places.{Somewhere}
use Rattle.occ_law_if.proofs.places.somewhere.Given as goal

-- no place so far
abbrev pub invariant-loop-k : goal.invariant-loop-k
invariant-loop-k g l = record {
  within : l.k ≤ length l.others;
  same : cases (take l.k l.choices) ≡ cases (take l.k l.others);
  not_yet : Somewhere (g.P.ChoicePlace.joins l.place) (cases (take l.k l.choices)) (cases (drop l.k l.choices)) (cases (drop l.k l.others))
      ↔ Somewhere (g.P.ChoicePlace.joins l.place) no_case (cases l.choices) (cases l.others);
}
