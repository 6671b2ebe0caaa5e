use Rattle.std.proofs.Common.{inl, refl}
use Rattle.std.proofs.lemmas.Result.{err_from_is_err_and}
use Rattle.occ_script.proofs.Ordered.{another_source, bad_end, bad_source, line_is, no_section}
use Rattle.occ_script.proofs.forming.derivation.Goals as goal
use Rattle.occ_script_lines.specs.Left.{left}
use Rattle.occ_script_lines.specs.Sections.{section}

pub returns-in_default-clause-refused : goal.returns-in_default-clause-refused
returns-in_default-clause-refused c = inl (no_section c.args.last c.args.names.now (left c.args.sections) c.in_default.ensures)

pub returns-then-not-is_line-clause-refused : goal.returns-then-not-is_line-clause-refused
returns-then-not-is_line-clause-refused c =
    inl (another_source c.args.last c.args.names.now (left c.args.sections) (left c.next.new.self) (section c.in-Some.source) c.in-Some.ensures (line_is _ _ _ _ _ _ c.is_line.ensures refl c.row.ensures c.if-not-is_line.true))

pub returns-in_err-from-clause-refused : goal.returns-in_err-from-clause-refused
returns-in_err-from-clause-refused c =
    let p = err_from_is_err_and c.from_residual.result c.from_residual.ensures.1 in
    rw (p.1, p.2) (bad_source c.args.last c.next_line-next.result c.args.names.now (left c.args.sections) (left c.next.new.self) (section c.in-Some.source) c.in_err-from.field-0.0 c.in-Some.ensures
    (line_is _ _ _ _ _ _ c.is_line.ensures refl c.row.ensures c.if-not-is_line.false) c.next_line-next.ensures c.in_err-from.ensures.refused)

pub returns-in_err-steps-clause-refused : goal.returns-in_err-steps-clause-refused
returns-in_err-steps-clause-refused c =
    let p = err_from_is_err_and c.from_residual-in_err-steps.result c.from_residual-in_err-steps.ensures.1 in
    rw (p.1, p.2) (bad_end c.args.last c.args.names.now c.program_lines.new.names (left c.args.sections) (left c.next.new.self) (section c.in-Some.source) c.in_ok-from.from.text.items c.in_err-steps.field-0.0 c.in-Some.ensures
    (line_is _ _ _ _ _ _ c.is_line.ensures refl c.row.ensures c.if-not-is_line.false) c.in_ok-from.ensures.found c.in_ok-from.ensures.table c.in_err-steps.ensures.refused)
