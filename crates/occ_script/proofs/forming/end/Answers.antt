use Rattle.std.proofs.Common.{inl, refl}
use Rattle.std.proofs.lemmas.Result.{err_from_is_err_and}
use Rattle.occ_script_lines.proofs.from_lex.Interned.{extends_trans}
use Rattle.occ_script.proofs.Ordered.{bad_step, bad_target, end_is, line_is, none_left, one_more}
use Rattle.occ_script.proofs.forming.end.Goals as goal
use Rattle.occ_script_lines.specs.Left.{left}
use Rattle.occ_script_lines.specs.Sections.{section}

pub returns-in_err-lines-clause-refused : goal.returns-in_err-lines-clause-refused
returns-in_err-lines-clause-refused c =
    let p = err_from_is_err_and c.from_residual.result c.from_residual.ensures.1 in
    rw (p.1, p.2) (bad_target c.args.last c.args.names.now c.loop-section.names (left c.args.sections) (left c.loop-section.sections) (left c.next.new.self) (section c.in-Some.section) c.loop-section.steps c.in_err-lines.field-0.0
    c.loop-section.invariant.behind c.in-Some.ensures (line_is _ _ _ _ _ _ c.is_line.ensures refl c.row.ensures c.if-is_line.true) c.in_err-lines.ensures.refused)

pub returns-then-is_line-clause-found : goal.returns-then-is_line-clause-found
returns-then-is_line-clause-found c =
    end_is c.args.last c.args.names.now c.loop-section.names c.target.new.names (left c.args.sections) (left c.loop-section.sections) (left c.next.new.self) (section c.in-Some.section) c.loop-section.steps c.in_ok-lines.lines.text.items
    c.loop-section.invariant.behind c.in-Some.ensures c.in_ok-lines.ensures.alone (line_is _ _ _ _ _ _ c.is_line.ensures refl c.row.ensures c.if-is_line.true) c.in_ok-lines.ensures.found c.in_ok-lines.ensures.table

pub returns-in_err-step-clause-refused : goal.returns-in_err-step-clause-refused
returns-in_err-step-clause-refused c =
    let p = err_from_is_err_and c.from_residual-in_err-step.result c.from_residual-in_err-step.ensures.1 in
    rw (p.1, p.2) (bad_step c.args.last c.args.names.now c.loop-section.names (left c.args.sections) (left c.loop-section.sections) (left c.next.new.self) (section c.in-Some.section) c.loop-section.steps c.in_err-step.field-0.0
    c.loop-section.invariant.behind c.in-Some.ensures (line_is _ _ _ _ _ _ c.is_line.ensures refl c.row.ensures c.if-is_line.false) c.in_err-step.ensures.refused)

pub loop-section-preserved : goal.loop-section-preserved
loop-section-preserved c = record {
  behind = one_more c.args.last c.args.names.now c.loop-section.names c.step.new.names (left c.args.sections) (left c.loop-section.sections) (left c.next.new.self) (section c.in-Some.section) c.loop-section.steps c.push.new.self
      c.in_ok-step.field-0 c.loop-section.invariant.behind c.in-Some.ensures (line_is _ _ _ _ _ _ c.is_line.ensures refl c.row.ensures c.if-is_line.false) c.in_ok-step.ensures.found c.in_ok-push.ensures.ok;
  extends = extends_trans c.args.names.now c.loop-section.names c.step.new.names c.loop-section.invariant.extends c.step.ensures.extends;
}

pub returns-in_err-push-clause-extends : goal.returns-in_err-push-clause-extends
returns-in_err-push-clause-extends c = extends_trans c.args.names.now c.loop-section.names c.step.new.names c.loop-section.invariant.extends c.step.ensures.extends

pub returns-clause-refused : goal.returns-clause-refused
returns-clause-refused c =
    inl (none_left c.args.last c.args.names.now c.loop-section.names (left c.args.sections) (left c.loop-section.sections) c.loop-section.steps c.loop-section.invariant.behind c.in_default.ensures)
