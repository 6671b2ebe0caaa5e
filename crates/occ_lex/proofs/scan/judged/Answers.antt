use Rattle.std.proofs.Common.{◌≡◌, sym, Some}
use Rattle.occ_lex.specs.declared.token.TokenKind.TheVariants as kind
use Rattle.occ_lex.specs.Spelling.{kind_of}
use Rattle.occ_lex.proofs.TokenLemmas.{numeral_large, numeral_good}
use Rattle.occ_lex.proofs.scan.judged.Goals as goal

pub returns-in-Some : goal.returns-in-Some
returns-in-Some c =
    let numeral : kind_of c.args.text.now ≡ Some kind.Numeral = cc in
    sym (numeral_good c.args.text.now c.in-Some.field-0 numeral (sym c.in-Some.ensures))

pub returns-in-None-numeral_value : goal.returns-in-None-numeral_value
returns-in-None-numeral_value c =
    let numeral : kind_of c.args.text.now ≡ Some kind.Numeral = cc in
    sym (numeral_large c.args.text.now numeral (sym c.in-None-numeral_value.ensures))
