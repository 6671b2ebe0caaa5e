use Rattle.std.proofs.Common.{◌≡◌, drop}
use Rattle.occ_parse_forms.specs.Reading.{are_distinct}
use Rattle.occ_parse_forms.proofs.line.are_distinct.Given as goal

abbrev pub invariant-loop-i : goal.invariant-loop-i
invariant-loop-i l = are_distinct (drop l.i l.items) ≡ are_distinct l.items
