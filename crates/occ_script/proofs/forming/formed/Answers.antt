use Rattle.std.proofs.Common.{inl, sym, ◌∙◌}
use Rattle.std.proofs.lemmas.Result.{err_from_is_err_and}
use Rattle.occ_script.specs.Refusals.{no_line}
use Rattle.occ_script.proofs.Ordered.{bad_behind_of, bad_head_of, err_weaker}
use Rattle.occ_script.proofs.forming.formed.Goals as goal
use Rattle.occ_script_lines.specs.Left.{left}
use Rattle.occ_script_lines.specs.Sections.{section}

pub returns-in_default-clause-refused : goal.returns-in_default-clause-refused
returns-in_default-clause-refused c = inl (no_line (sym c.new-sections.ensures ∙ c.in_default.ensures))

pub returns-in_err-check_head-clause-refused : goal.returns-in_err-check_head-clause-refused
returns-in_err-check_head-clause-refused c =
    let p = err_from_is_err_and c.from_residual.result c.from_residual.ensures.1 in
    rw (p.1, p.2) (bad_head_of c.args.text.now c.args.names.now (section c.in-Some.head) (left c.next.new.self) c.in_err-check_head.field-0.0 (sym c.new-sections.ensures ∙ c.in-Some.ensures) c.in_err-check_head.ensures.refused)

pub returns-clause-refused : goal.returns-clause-refused
returns-clause-refused c =
    err_weaker c.derivation.result _ _
    (λ e h. bad_behind_of c.args.text.now c.args.names.now c.check_head.new.names (section c.in-Some.head) (left c.next.new.self) c.last_line.result e (sym c.new-sections.ensures ∙ c.in-Some.ensures) c.in_ok-check_head.ensures.found
    c.in_ok-check_head.ensures.table c.last_line.ensures h) c.derivation.ensures.refused
