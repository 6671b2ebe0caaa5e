use Rattle.std.proofs.Common.{◌∙◌, refl, sym, ap}
use Rattle.occ_tool_run.specs.Answers.{compared}
use Rattle.occ_tool_run.proofs.Pairs.{parameters_known}
use Rattle.occ_tool_run.proofs.Named.{verdict_named}
use Rattle.occ_tool_run.proofs.judge.compared.Goals as goal

pub returns-clause-printable : goal.returns-clause-printable
returns-clause-printable c =
    let one_interface = sym (c.items.ensures ∙ ap (λ p. p.params) c.program-one.ensures.same) ∙ c.have_one_interface.ensures.0 c.if-not-have_one_interface.false
    ∙ (c.items-2.ensures ∙ ap (λ p. p.params) c.program-two.ensures.same) in
    verdict_named c.args.left.now.program.params c.args.names (parameters_known c.args.names c.args.left.now.program c.args.right.now.program one_interface c.requires) c.in_ok-verdict.verdict
    c.in_ok-verdict.ensures.printable

pub returns-clause-settles : goal.returns-clause-settles
returns-clause-settles c =
    let one_interface = sym (c.items.ensures ∙ ap (λ p. p.params) c.program-one.ensures.same) ∙ c.have_one_interface.ensures.0 c.if-not-have_one_interface.false
    ∙ (c.items-2.ensures ∙ ap (λ p. p.params) c.program-two.ensures.same) in
    compared c.in_ok-verdict.verdict one_interface c.in_ok-verdict.ensures.verdict refl
