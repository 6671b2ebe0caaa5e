use Rattle.std.proofs.Common.{◌≡◌, ◌≤◌, take}
use Rattle.occ_nform_table.specs.occ_lex.Spelling.{value_of}
use Rattle.occ_nform_read.proofs.words.value_of.Given as goal

abbrev pub invariant-loop-byte : goal.invariant-loop-byte
invariant-loop-byte l = record {
  value : l.value ≡ value_of (take l.byte-index l.word);
  small : l.value ≤ 4294967295;
}
