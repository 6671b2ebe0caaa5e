use Rattle.std.proofs.Common.{sym, arith}
use Rattle.occ_syntax.proofs.Widths.{variable_within}
use Rattle.occ_syntax.proofs.eval.+bits.Goals as goal

pub returns-in-Some-clause-least : goal.returns-in-Some-clause-least
returns-in-Some-clause-least t c =
    let within = variable_within c.args.scope.now _ c.in-Some.width c.requires.scope (sym c.in-Some.ensures) in
    omega (arith, within.0, c.bits.ensures)

pub returns-in-Some-clause-most : goal.returns-in-Some-clause-most
returns-in-Some-clause-most t c =
    let within = variable_within c.args.scope.now _ c.in-Some.width c.requires.scope (sym c.in-Some.ensures) in
    omega (arith, within.1, c.bits.ensures)
