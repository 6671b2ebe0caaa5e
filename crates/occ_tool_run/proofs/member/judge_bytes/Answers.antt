use Rattle.std.proofs.Common.{◌∙◌, ap}
use Rattle.occ_tool_run.proofs.Members.{claim_judged, claim_refused}
use Rattle.occ_tool_run.proofs.member.judge_bytes.Goals as goal

pub returns-in_ok-is_member-in-Ok-clause-judged : goal.returns-in_ok-is_member-in-Ok-clause-judged
returns-in_ok-is_member-in-Ok-clause-judged c =
    claim_judged c.behaviours_are_read_as_written.ensures c.args.bytes.now c.args.names.now _ c.args.accepted.now.program c.in-Ok.behaviour c.in_ok-is_member-in-Ok.field-0 (c.items.ensures ∙ ap (λ p. p.params) c.program-program.ensures.same)
    c.requires.short c.requires.distinct c.requires.interface c.in-Ok.ensures.read c.in_ok-is_member-in-Ok.ensures

pub returns-in-Err-clause-judged : goal.returns-in-Err-clause-judged
returns-in-Err-clause-judged c =
    claim_refused c.faults_stand_where_nothing_goes_on.ensures c.refuse_claim.result c.args.bytes.now c.args.names.now _ c.args.accepted.now.program c.in-Err.fault (c.items.ensures ∙ ap (λ p. p.params) c.program-program.ensures.same)
    c.requires.short c.requires.distinct c.requires.interface c.refuse_claim.ensures.told c.in-Err.ensures.read
