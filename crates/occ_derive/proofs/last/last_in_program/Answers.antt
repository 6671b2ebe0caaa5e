use Rattle.std.proofs.Common.{◌≤◌, ℕ, subst}
use Rattle.std.specs.List.{AllByRecursion}
use Rattle.occ_derive.proofs.Below.{program_below}
use Rattle.occ_derive.specs.Derived.{ParamIsBelow}
use Rattle.occ_derive.proofs.last.last_in_program.Goals as goal

pub returns : goal.returns
returns c =
    program_below c.greater-header.result c.last_in_params.result c.greater.result c.args.program.now c.greater-header.ensures.first
    c.greater-header.ensures.second c.greater.ensures.first
    (subst (AllByRecursion (ParamIsBelow c.last_in_params.result)) c.items.ensures c.last_in_params.ensures)
    (subst (λ (n : ℕ). n ≤ c.greater.result) c.greatest_name.ensures c.greater.ensures.second)
