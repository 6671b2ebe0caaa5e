use Rattle.std.proofs.Common.{◌≡◌, ◌+◌, ◌*◌, ◌≤◌, map, take}
use Rattle.occ_syntax.specs.Declarations.{declaring_all}
use Rattle.occ_syntax.specs.View.{tree, trees, cases, branches, in_procs, in_choices, in_alternatives}
use Rattle.occ_syntax.proofs.Weights.{weight, weight_of_all, weight_of_cases, weight_of_branches}
use Rattle.occ_syntax.proofs.Rows.{choice, alternative}
use Rattle.occ_meaning.specs.Rename.{replacing, renamed}
use Rattle.occ_names.proofs.Replaced.{made_choice, made_alternative}
use Rattle.occ_names.proofs.replace.Replace.+replace.Given as goal

abbrev pub decreases-part : goal.decreases-part
decreases-part l = 2 * weight (tree l.part.now) + 1

abbrev pub decreases-undeclared : goal.decreases-undeclared
decreases-undeclared l = 2 * weight (tree l.part.now)

abbrev pub decreases-parts : goal.decreases-parts
decreases-parts l = 2 * weight_of_all (trees l.parts.now)

abbrev pub decreases-choices : goal.decreases-choices
decreases-choices l = 2 * weight_of_cases (cases l.choices.now)

abbrev pub decreases-alternatives : goal.decreases-alternatives
decreases-alternatives l = 2 * weight_of_branches (branches l.alternatives.now)

-- the declarations so far, round the rest, are the whole
abbrev pub invariant-part-loop-name : goal.invariant-part-loop-name
invariant-part-loop-name l = record {
  whole : declaring_all l.declarations (renamed (tree l.rest) (replacing l.self.old.0 l.self.new.0)) ≡ renamed (tree l.part) (replacing l.self.old.0 l.self.new.0);
  left : weight (tree l.rest) ≤ weight (tree l.part);
}

abbrev pub decreases-part-loop-name : goal.decreases-part-loop-name
decreases-part-loop-name l = weight (tree l.rest)

abbrev pub invariant-parts-loop-part : goal.invariant-parts-loop-part
invariant-parts-loop-part l = map tree (in_procs l.made) ≡ map (λ p. renamed (tree p) (replacing l.self.old.0 l.self.new.0)) (take l.part-index l.parts)

abbrev pub invariant-choices-loop-condition : goal.invariant-choices-loop-condition
invariant-choices-loop-condition l = map choice (in_choices l.made) ≡ map (made_choice (replacing l.self.old.0 l.self.new.0)) (take l.condition-index l.choices)

abbrev pub invariant-alternatives-loop-guard : goal.invariant-alternatives-loop-guard
invariant-alternatives-loop-guard l = map alternative (in_alternatives l.made) ≡ map (made_alternative (replacing l.self.old.0 l.self.new.0)) (take l.guard-index l.alternatives)
