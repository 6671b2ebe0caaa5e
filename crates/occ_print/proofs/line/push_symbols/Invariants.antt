use Rattle.std.proofs.Common.{◌≡◌, ◌++◌, drop}
use Rattle.occ_parse_forms.specs.occ_lex.Printed.{pieces_text}
use Rattle.occ_print.specs.Spelled.{pieces, pieces_behind}
use Rattle.occ_print.proofs.line.push_symbols.Given as goal

-- the text so far, with that of the symbols that are left, is the whole
abbrev pub invariant-loop-symbol : goal.invariant-loop-symbol
invariant-loop-symbol l =
    l.text.items ++ pieces_text (pieces_behind l.names l.header l.before (drop l.symbol-index l.symbols)) ≡ l.fn.text.items ++ pieces_text (pieces l.names l.symbols)
