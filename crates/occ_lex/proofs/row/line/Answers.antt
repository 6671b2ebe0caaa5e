use Rattle.std.proofs.Common.{ap, sym, length, ◌<◌, ◌^◌, ◌∙◌, arith, rules}
use Rattle.std.proofs.lemmas.Result.{err_from_is_err_and}
use Rattle.occ_lex.proofs.RowLemmas.{code-le-row, indent, tab_line, blank_line, odd_line, read_line, faulty_line}
use Rattle.occ_lex.proofs.row.line.Goals as goal

pub returns-then-contains : goal.returns-then-contains
returns-then-contains c = tab_line c.args.number c.args.first c.args.row.now c.code-code.result.now c.code-code.ensures (sym c.contains.ensures.value ∙ c.if-contains.true)

pub returns-in_default : goal.returns-in_default
returns-in_default c = blank_line c.args.number c.args.first c.args.row.now c.code-code.result.now c.code-code.ensures (sym c.contains.ensures.value ∙ c.if-contains.false) (sym c.in_default.ensures)

pub returns-then-indent-eq1 : goal.returns-then-indent-eq1
returns-then-indent-eq1 c = odd_line c.args.number c.args.first c.args.row.now c.code-code.result.now c.code-code.ensures (sym c.contains.ensures.value ∙ c.if-contains.false) c.in-Some.indent (sym c.in-Some.ensures) c.if-indent-eq1.true

pub tokens-requires : goal.tokens-requires
tokens-requires c = omega (arith, ap length c.code-code.ensures, code-le-row c.args.row.now)

pub returns-in_err-tokens : goal.returns-in_err-tokens
returns-in_err-tokens c =
    let p = err_from_is_err_and c.from_residual.result c.from_residual.ensures.1 in
    rw (p.1, p.2) (faulty_line c.args.number c.args.first c.args.row.now c.code-code.result.now c.code-code.ensures (sym c.contains.ensures.value ∙ c.if-contains.false) c.in-Some.indent (sym c.in-Some.ensures) c.in_err-tokens.field-0.0 c.if-indent-eq1.false c.in_err-tokens.ensures)

pub overflow_cast-level : goal.overflow_cast-level
overflow_cast-level c =
    let small : c.in-Some.indent < 2 ^ 32 = omega (arith, (indent c.code-code.result.now c.in-Some.indent (sym c.in-Some.ensures)).2, ap length c.code-code.ensures, code-le-row c.args.row.now) in
    search rules

pub returns : goal.returns
returns c = read_line c.args.number c.args.first c.args.row.now c.code-code.result.now c.code-code.ensures (sym c.contains.ensures.value ∙ c.if-contains.false) c.in-Some.indent (sym c.in-Some.ensures) c.in_ok-tokens.tokens c.if-indent-eq1.false c.in_ok-tokens.ensures
