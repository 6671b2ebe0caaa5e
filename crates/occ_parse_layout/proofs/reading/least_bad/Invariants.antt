use Rattle.std.proofs.Common.{◌≡◌, [], drop, take}
use Rattle.occ_parse_layout.specs.Layout.{least_bad_behind, laid_rows}
use Rattle.occ_parse_layout.specs.Scan.{Describes, IsRunServed, nearest_first}
use Rattle.occ_parse_layout.proofs.reading.least_bad.Given as goal

abbrev pub invariant-loop-at : goal.invariant-loop-at
invariant-loop-at l =
    Describes (nearest_first (take l.at l.rows)) l.passed
    × IsRunServed l.more l.passed.declared (laid_rows (drop l.at l.rows))
    × (l.passed.frame ≡ l.fn.frame)
    × (least_bad_behind l.fn.frame l.more (nearest_first (take l.at l.rows)) (laid_rows (drop l.at l.rows)) ≡ least_bad_behind l.fn.frame l.more [] (laid_rows l.rows))
