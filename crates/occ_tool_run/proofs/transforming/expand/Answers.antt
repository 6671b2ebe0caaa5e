use Rattle.std.proofs.Common.{ℕ, List, subst}
use Rattle.occ_tool_run.specs.Judged.{IsAcceptedFrom, IsRefusedFrom}
use Rattle.occ_tool_run.specs.Stored.{OfStored}
use Rattle.occ_tool_run.specs.Transforms.{IsExpandedTo}
use Rattle.occ_tool_run.proofs.Judging.{refuse, take_stored}
use Rattle.occ_tool_run.proofs.Engine.{names_from}
use Rattle.occ_tool_run.proofs.transforming.expand.Goals as goal

pub expand_program-requires : goal.expand_program-requires
expand_program-requires c = names_from c.read_programs_have_known_names.ensures c.args.program.now _ _ c.in-Ok.accepted.program c.in-Ok.ensures.accepted

pub returns-in-Ok-clause-expands : goal.returns-in-Ok-clause-expands
returns-in-Ok-clause-expands c =
    let P : List (List ℕ) → Type 0 = λ old. IsAcceptedFrom c.args.program.now old c.accept.new.names c.in-Ok.accepted.program in
    take_stored c.expand_program.result c.args.program.now _ c.in-Ok.accepted.program (IsExpandedTo c.args.path.now) (subst P c.new-names.ensures c.in-Ok.ensures.accepted) c.expand_program.ensures.expanded

pub returns-in-Err-clause-expands : goal.returns-in-Err-clause-expands
returns-in-Err-clause-expands c =
    let P : List (List ℕ) → Type 0 = λ old. IsRefusedFrom c.args.program.now old c.accept.new.names c.in-Err.refusal in
    refuse c.refused.result c.args.program.now _ c.in-Err.refusal (OfStored (IsExpandedTo c.args.path.now)) c.refused.ensures.refused (subst P c.new-names.ensures c.in-Err.ensures.refused)
