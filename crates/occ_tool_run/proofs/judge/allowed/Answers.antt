use Rattle.std.proofs.Common.{◌∙◌, refl, sym, ap}
use Rattle.occ_tool_run.specs.Answers.{allowed}
use Rattle.occ_tool_run.proofs.Pairs.{parameters_known}
use Rattle.occ_tool_run.proofs.Named.{refined_named}
use Rattle.occ_tool_run.proofs.judge.allowed.Goals as goal

pub returns-clause-printable : goal.returns-clause-printable
returns-clause-printable c =
    let one_interface = sym (c.items.ensures ∙ ap (λ p. p.params) c.program-one.ensures.same) ∙ c.have_one_interface.ensures.0 c.if-not-have_one_interface.false
    ∙ (c.items-2.ensures ∙ ap (λ p. p.params) c.program-two.ensures.same) in
    refined_named c.args.left.now.program.params c.args.names (parameters_known c.args.names c.args.left.now.program c.args.right.now.program one_interface c.requires) c.in_ok-refined.refined
    c.in_ok-refined.ensures.named

pub returns-clause-settles : goal.returns-clause-settles
returns-clause-settles c =
    let one_interface = sym (c.items.ensures ∙ ap (λ p. p.params) c.program-one.ensures.same) ∙ c.have_one_interface.ensures.0 c.if-not-have_one_interface.false
    ∙ (c.items-2.ensures ∙ ap (λ p. p.params) c.program-two.ensures.same) in
    allowed c.in_ok-refined.refined one_interface c.in_ok-refined.ensures.refined refl
