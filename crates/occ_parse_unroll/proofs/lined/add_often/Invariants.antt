use Rattle.std.proofs.Common.{◌≡◌, ◌++◌, ◌-◌, replicate}
use Rattle.occ_parse_unroll.proofs.lined.add_often.Given as goal

abbrev pub invariant-loop : goal.invariant-loop
invariant-loop l = l.lines ++ replicate (l.count - l.counter) l.line ≡ l.fn.lines ++ replicate l.count l.line
