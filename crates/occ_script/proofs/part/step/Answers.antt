use Rattle.std.proofs.Common.{ap, inl, sym, ◌∙◌}
use Rattle.std.specs.Prelude.{codes}
use Rattle.std.proofs.lemmas.Result.{err_from_is_err_and}
use Rattle.occ_script.specs.Refusals.{no_step_line}
use Rattle.occ_script.proofs.Ordered.{bad_part_of, head_there, no_head_there}
use Rattle.occ_script.proofs.part.step.Goals as goal
use Rattle.occ_script_lines.specs.Lines.{head_of}
use Rattle.occ_script_lines.specs.Sections.{section}

pub returns-in_default-clause-refused : goal.returns-in_default-clause-refused
returns-in_default-clause-refused c =
    inl (no_step_line (sym (ap (head_of (codes "STEP")) c.row.ensures) ∙ no_head_there (head_of (codes "STEP") c.row.result.now) c.in_ok-head.field-0 c.in_ok-head.ensures c.in_default.is))

pub returns-in_err-part-clause-refused : goal.returns-in_err-part-clause-refused
returns-in_err-part-clause-refused c =
    let p = err_from_is_err_and c.from_residual-in_err-part.result c.from_residual-in_err-part.ensures.1 in
    rw (p.1, p.2) (bad_part_of c.args.names.now (section c.args.section.now) _ c.in_err-part.field-0.0
    (sym (ap (head_of (codes "STEP")) c.row.ensures) ∙ head_there (head_of (codes "STEP") c.row.result.now) c.in_ok-head.field-0 c.in-Some.head c.in_ok-head.ensures c.in-Some.is) c.in_err-part.ensures.refused)

pub returns-clause-found : goal.returns-clause-found
returns-clause-found c = record {
  name = c.in-Some.head.law.now;
  head = sym (ap (head_of (codes "STEP")) c.row.ensures) ∙ head_there (head_of (codes "STEP") c.row.result.now) c.in_ok-head.field-0 c.in-Some.head c.in_ok-head.ensures c.in-Some.is;
  law = c.law.ensures;
  has_part = c.in_ok-part.ensures.there;
  part = c.in_ok-part.ensures.found;
}
