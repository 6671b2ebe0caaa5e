use Rattle.std.proofs.Common.{◌≡◌, ◌≤◌, true, take}
use Rattle.std.specs.List.{list_all}
use Rattle.occ_lex.specs.Spelling.{is_digit, value_of}
use Rattle.occ_script_lines.proofs.text.numeral.Given as goal

abbrev pub invariant-loop-byte : goal.invariant-loop-byte
invariant-loop-byte l = record {
  value : l.value ≡ value_of (take l.byte-index l.digits);
  small : l.value ≤ 4294967295;
  digits : list_all is_digit (take l.byte-index l.digits) ≡ true;
}
