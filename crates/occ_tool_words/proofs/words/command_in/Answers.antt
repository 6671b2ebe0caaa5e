use Rattle.std.proofs.Common.{◌∙◌, sym, true≢false}
use Rattle.occ_tool_words.proofs.Parsing.{as_asked, unfit, accepted, refused}
use Rattle.occ_tool_words.proofs.words.command_in.Goals as goal

pub returns-then-not-are_plain : goal.returns-then-not-are_plain
returns-then-not-are_plain c = unfit c.args.words.now (sym c.are_plain.ensures ∙ c.if-not-are_plain.true)

pub returns-in-Ok : goal.returns-in-Ok
returns-in-Ok c =
    as_asked c.command_found.result _ _
    (accepted _ c.args.words.now c.in-Ok.matches c.in_ok-command_line.ensures (sym c.are_plain.ensures ∙ c.if-not-are_plain.false)
    c.in-Ok.ensures.matches c.in-Ok.ensures.kinds) c.command_found.ensures

pub returns : goal.returns
returns c = refused _ c.args.words.now c.in-Err.error c.in_ok-command_line.ensures (sym c.are_plain.ensures ∙ c.if-not-are_plain.false)
    c.in-Err.ensures.kinds (λ k. true≢false (sym (c.is_memory.ensures.1 k) ∙ c.if-is_memory.false))
