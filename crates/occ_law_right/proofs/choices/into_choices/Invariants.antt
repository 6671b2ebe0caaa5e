use Rattle.std.proofs.Common.{◌≡◌, drop}
use Rattle.occ_law_seq.specs.occ_law.Lists.{all_cases}
use Rattle.occ_law_seq.specs.occ_law_shape.Pieces.{each_choice}
use Rattle.occ_syntax.specs.Declarations.{declaring}
use Rattle.occ_syntax.specs.View.{cases, in_choices}
use Rattle.occ_law_right.proofs.choices.into_choices.Given as goal

-- what is written, and behind it what is still to be written
abbrev pub invariant-loop-condition : goal.invariant-loop-condition
invariant-loop-condition l =
    all_cases (cases (in_choices l.made)) (each_choice (λ b. b) (declaring l.declaration.name.0 l.declaration.kind) (cases (drop l.condition-index l.choices)))
    ≡ each_choice (λ b. b) (declaring l.declaration.name.0 l.declaration.kind) (cases l.choices)
