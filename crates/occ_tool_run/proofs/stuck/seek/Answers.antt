use Rattle.std.proofs.Common.{ℕ, List, subst}
use Rattle.occ_tool_run.specs.Answers.{IsSought}
use Rattle.occ_tool_run.specs.Judged.{IsAcceptedFrom, IsRefusedFrom}
use Rattle.occ_tool_run.proofs.Judging.{refuse, take}
use Rattle.occ_tool_run.proofs.stuck.seek.Goals as goal

pub returns-in-Ok-clause-seeks : goal.returns-in-Ok-clause-seeks
returns-in-Ok-clause-seeks c =
    let P : List (List ℕ) → Type 0 = λ old. IsAcceptedFrom c.args.program.now old c.accept.new.names c.in-Ok.accepted.program in
    take c.sought.result c.args.program.now _ c.in-Ok.accepted.program IsSought (subst P c.new-names.ensures c.in-Ok.ensures.accepted) c.sought.ensures.sought

pub returns-in-Err-clause-seeks : goal.returns-in-Err-clause-seeks
returns-in-Err-clause-seeks c =
    let P : List (List ℕ) → Type 0 = λ old. IsRefusedFrom c.args.program.now old c.accept.new.names c.in-Err.refusal in
    refuse c.refused.result c.args.program.now _ c.in-Err.refusal IsSought c.refused.ensures.refused (subst P c.new-names.ensures c.in-Err.ensures.refused)
