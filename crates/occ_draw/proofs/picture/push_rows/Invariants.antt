use Rattle.std.proofs.Common.{◌≡◌, ◌++◌, drop}
use Rattle.occ_draw.specs.Pictures.{rows_text}
use Rattle.occ_draw.proofs.picture.push_rows.Given as goal

abbrev pub invariant-loop-number : goal.invariant-loop-number
invariant-loop-number l = l.text.items ++ rows_text l.names l.number (drop l.number l.rows) ≡ l.fn.text.items ++ rows_text l.names 0 l.rows
