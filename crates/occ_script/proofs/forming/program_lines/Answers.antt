use Rattle.std.proofs.Common.{Option, inl, subst, sym, ◌∙◌}
use Rattle.std.specs.Prelude.{MatchOption}
use Rattle.occ_parse_part.specs.occ_parse.declared.fault.ParseFault.{ParseFault}
use Rattle.occ_script.specs.declared.fault.ScriptFault.{ScriptFault}
use Rattle.occ_script.specs.Lines.{IsIll, IsWell}
use Rattle.occ_script.specs.Refusals.{IsBadProgram, bad_lines, no_lines}
use Rattle.occ_script.proofs.forming.program_lines.Goals as goal
use Rattle.occ_script_lines.specs.Sections.{section}

pub returns-then-is_blank-clause-refused : goal.returns-then-is_blank-clause-refused
returns-then-is_blank-clause-refused c = inl (no_lines (sym c.is_blank.ensures ∙ c.if-is_blank.true))

pub returns-in-Some-clause-refused : goal.returns-in-Some-clause-refused
returns-in-Some-clause-refused c =
    let s = section c.args.section.now in
    let ill = subst (λ (o : Option ParseFault). MatchOption o (IsWell c.args.content c.args.names.now s) (IsIll c.args.content c.args.names.now s)) c.in-Some.is c.in_ok-fault.ensures.found in
    inl (subst (λ (e : ScriptFault). IsBadProgram c.args.content c.args.names.now s c.args.next e) (sym c.text_fault.ensures) (bad_lines c.in-Some.fault (sym c.is_blank.ensures ∙ c.if-is_blank.false) ill))
