use Rattle.std.proofs.Common.{◌≡◌, ◌+◌, ◌*◌, ◌≤◌, length, take, drop}
use Rattle.occ_syntax.specs.Scopes.{environment}
use Rattle.occ_syntax.specs.Types.{types_kept, all_types_kept, cases_kept, branches_kept}
use Rattle.occ_syntax.specs.View.{tree, trees, cases, branches}
use Rattle.occ_syntax.proofs.Weights.{weight, weight_of_all, weight_of_cases, weight_of_branches}
use Rattle.occ_usage.proofs.typing.Typing.+typing.Given as goal

abbrev pub decreases-part : goal.decreases-part
decreases-part l = 2 * weight (tree l.part.now) + 1

abbrev pub decreases-undeclared : goal.decreases-undeclared
decreases-undeclared l = 2 * weight (tree l.part.now)

abbrev pub decreases-parts : goal.decreases-parts
decreases-parts l = 2 * weight_of_all (trees l.parts.now)

abbrev pub decreases-choices : goal.decreases-choices
decreases-choices l = 2 * weight_of_cases (cases l.choices.now)

abbrev pub decreases-alternatives : goal.decreases-alternatives
decreases-alternatives l = 2 * weight_of_branches (branches l.alternatives.now)

-- the declarations so far are kept, so the whole is where the rest is
abbrev pub invariant-part-loop-name : goal.invariant-part-loop-name
invariant-part-loop-name l = record {
  kept : types_kept (tree l.rest) (environment l.self.kinds) ≡ types_kept (tree l.part) (environment l.fn.self.kinds);
  kinds : take l.before l.self.kinds ≡ l.fn.self.kinds;
  longer : l.before ≤ length l.self.kinds;
  left : weight (tree l.rest) ≤ weight (tree l.part);
}

abbrev pub decreases-part-loop-name : goal.decreases-part-loop-name
decreases-part-loop-name l = weight (tree l.rest)

abbrev pub invariant-parts-loop-part : goal.invariant-parts-loop-part
invariant-parts-loop-part l = record {
  kept : all_types_kept (trees (drop l.part-index l.parts)) (environment l.fn.self.kinds) ≡ all_types_kept (trees l.parts) (environment l.fn.self.kinds);
  kinds : l.self.kinds ≡ l.fn.self.kinds;
}

abbrev pub invariant-choices-loop-condition : goal.invariant-choices-loop-condition
invariant-choices-loop-condition l = record {
  kept : cases_kept (cases (drop l.condition-index l.choices)) (environment l.fn.self.kinds) ≡ cases_kept (cases l.choices) (environment l.fn.self.kinds);
  kinds : l.self.kinds ≡ l.fn.self.kinds;
}

abbrev pub invariant-alternatives-loop-guard : goal.invariant-alternatives-loop-guard
invariant-alternatives-loop-guard l = record {
  kept : branches_kept (branches (drop l.guard-index l.alternatives)) (environment l.fn.self.kinds) ≡ branches_kept (branches l.alternatives) (environment l.fn.self.kinds);
  kinds : l.self.kinds ≡ l.fn.self.kinds;
}
