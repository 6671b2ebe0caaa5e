use Rattle.std.proofs.Common.{subst}
use Rattle.std.specs.List.{AllByRecursion}
use Rattle.occ_derive.proofs.Below.{all_below}
use Rattle.occ_derive.specs.Derived.{IsBelow}
use Rattle.occ_derive.proofs.last.last_name.Goals as goal

pub returns : goal.returns
returns c =
    all_below c.last_in_program.result c.last_in_program-2.result c.greater-ends.result c.last_in_steps.result c.greater.result c.args.from.now
    c.args.outcome.now c.last_in_program.ensures c.last_in_program-2.ensures c.greater-ends.ensures.first c.greater-ends.ensures.second
    c.greater.ensures.first (subst (AllByRecursion (IsBelow c.last_in_steps.result)) c.items.ensures c.last_in_steps.ensures)
    c.greater.ensures.second
