use Rattle.std.proofs.Common.{◌∙◌, refl, sym, ap}
use Rattle.occ_tool_run.proofs.Pairs.{parameters_known}
use Rattle.occ_tool_run.proofs.Named.{refined_named}
use Rattle.occ_lts.specs.Traces.{compared}
use Rattle.occ_lts.proofs.TracesTold.{allowed_fits, allowed_own}
use Rattle.occ_lts.proofs.comparing.compare.Goals as goal

pub returns-clause-printable : goal.returns-clause-printable
returns-clause-printable c =
    let one_interface = sym (c.items.ensures ∙ ap (λ p. p.params) c.program-one.ensures.same) ∙ c.have_one_interface.ensures.0 c.if-not-have_one_interface.false
    ∙ (c.items-2.ensures ∙ ap (λ p. p.params) c.program-two.ensures.same) in
    refined_named c.args.left.now.program.params c.args.names (parameters_known c.args.names c.args.left.now.program c.args.right.now.program one_interface c.requires) c.in_ok-refined.refined
    c.in_ok-refined.ensures.named

pub returns-clause-compares : goal.returns-clause-compares
returns-clause-compares c =
    let one_interface = sym (c.items.ensures ∙ ap (λ p. p.params) c.program-one.ensures.same) ∙ c.have_one_interface.ensures.0 c.if-not-have_one_interface.false
    ∙ (c.items-2.ensures ∙ ap (λ p. p.params) c.program-two.ensures.same) in
    compared c.in_ok-refined.refined one_interface c.in_ok-refined.ensures.answer refl

pub returns-clause-status : goal.returns-clause-status
returns-clause-status c = allowed_own c.args.names c.in_ok-refined.refined

pub returns-clause-usage : goal.returns-clause-usage
returns-clause-usage c = allowed_fits c.args.names c.in_ok-refined.refined
