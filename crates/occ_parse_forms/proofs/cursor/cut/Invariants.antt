use Rattle.std.proofs.Common.{◌≡◌, ◌++◌, take, drop, Some}
use Rattle.occ_parse_forms.specs.Symbols.{cut, then_read}
use Rattle.occ_parse_forms.proofs.cursor.cut.Given as goal

-- the sign is looked for from here on
abbrev pub invariant-loop-i : goal.invariant-loop-i
invariant-loop-i l = then_read (cut l.sign (drop l.i l.symbols)) (λ parts. Some (take l.i l.symbols ++ parts.0, parts.1)) ≡ cut l.sign l.symbols
