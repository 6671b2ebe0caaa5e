use Rattle.std.proofs.Common.{sym, ◌∙◌}
use Rattle.occ_lex.proofs.Tables.{token_value, token_word, token_sign, no_some}
use Rattle.occ_lex.proofs.symbol_reading.symbol.Goals as goal

pub unreachable-requires : goal.unreachable-requires
unreachable-requires c =
    let e = token_value _ _ _ _ c.requires.spelled c.requires.good c.in-Numeral.is c.text-text.ensures c.numeral_value.ensures in
    absurd cc

pub unreachable-requires-in-None-keyword : goal.unreachable-requires-in-None-keyword
unreachable-requires-in-None-keyword c = no_some _ c.in-None-keyword.is (token_word _ _ _ _ c.requires.spelled c.in-Word.is c.text-text.ensures c.keyword.ensures)

pub unreachable-requires-in-None-sign : goal.unreachable-requires-in-None-sign
unreachable-requires-in-None-sign c = no_some _ c.in-None-sign.is (token_sign _ _ _ _ c.requires.spelled c.in-Sign.is c.text-text.ensures c.sign.ensures)

pub returns-in-Some-clause-symbol : goal.returns-in-Some-clause-symbol
returns-in-Some-clause-symbol c =
    let e = sym c.in-Some.is ∙ token_value _ _ _ _ c.requires.spelled c.requires.good c.in-Numeral.is c.text-text.ensures c.numeral_value.ensures in
    rw c.in-Numeral.is (cc)
