use Rattle.std.proofs.Common.{sym, arith, ◌∙◌}
use Rattle.std.proofs.lemmas.List.Sums.{prefix_len-le-length}
use Rattle.occ_lex.specs.Spelling.{is_digit, is_name_byte}
use Rattle.occ_lex.proofs.Longest.{longest_nil, longest_name, longest_numeral, longest_sign}
use Rattle.occ_lex.proofs.scan.token_len.Goals as goal

pub returns-in-empty-clause-longest : goal.returns-in-empty-clause-longest
returns-in-empty-clause-longest c = longest_nil c.args.bytes.now (omega arith)

pub returns-in-len1-up-clause-longest : goal.returns-in-len1-up-clause-longest
returns-in-len1-up-clause-longest c = c.name_len.ensures ∙ longest_name c.args.bytes.now (omega arith) (sym c.is_letter.ensures ∙ c.if-is_letter.true)

pub returns-in-len1-up-clause-within : goal.returns-in-len1-up-clause-within
returns-in-len1-up-clause-within c = omega (arith, c.name_len.ensures, prefix_len-le-length is_name_byte c.args.bytes.now)

pub returns-in-len1-up-2-clause-longest : goal.returns-in-len1-up-2-clause-longest
returns-in-len1-up-2-clause-longest c = c.numeral_len.ensures ∙ longest_numeral c.args.bytes.now (omega arith) (sym c.is_digit.ensures ∙ c.if-is_digit.true)

pub returns-in-len1-up-2-clause-within : goal.returns-in-len1-up-2-clause-within
returns-in-len1-up-2-clause-within c = omega (arith, c.numeral_len.ensures, prefix_len-le-length is_digit c.args.bytes.now)

pub returns-in_default-clause-longest : goal.returns-in_default-clause-longest
returns-in_default-clause-longest c = c.sign_len.ensures ∙ longest_sign c.args.bytes.now (omega arith) (sym c.is_letter.ensures ∙ c.if-is_letter.false) (sym c.is_digit.ensures ∙ c.if-is_digit.false)
