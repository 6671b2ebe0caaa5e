use Rattle.std.proofs.Common.{inl}
use Rattle.std.proofs.lemmas.Result.{err_from_is_err_and}
use Rattle.occ_script.proofs.Ordered.{bad_target_lines, more_behind}
use Rattle.occ_script.proofs.forming.target.Goals as goal
use Rattle.occ_script_lines.specs.Left.{left}
use Rattle.occ_script_lines.specs.Sections.{section}

pub returns-in_err-lines-clause-refused : goal.returns-in_err-lines-clause-refused
returns-in_err-lines-clause-refused c =
    let p = err_from_is_err_and c.from_residual.result c.from_residual.ensures.1 in
    rw (p.1, p.2) (bad_target_lines c.args.last c.next_line-next.result c.args.names.now (section c.args.to.now) (left c.args.behind) c.in_err-lines.field-0.0 c.next_line-next.ensures c.in_err-lines.ensures.refused)

pub returns-in-Some-clause-refused : goal.returns-in-Some-clause-refused
returns-in-Some-clause-refused c =
    inl (more_behind c.args.last c.args.names.now (section c.args.to.now) (section c.in-Some.more) (left c.args.behind) (left c.next.new.self) c.in_ok-lines.lines.text.items c.in-Some.ensures c.in_ok-lines.ensures.found)
