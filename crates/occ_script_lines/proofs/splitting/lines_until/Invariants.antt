use Rattle.std.proofs.Common.{◌-◌, length}
use Rattle.occ_script_lines.proofs.Divided.{IsCounted}
use Rattle.occ_script_lines.proofs.splitting.lines_until.Given as goal

abbrev pub invariant-loop-at : goal.invariant-loop-at
invariant-loop-at l = IsCounted l.format l.text l.at l.count

abbrev pub decreases-loop-at : goal.decreases-loop-at
decreases-loop-at l = length l.text - l.at
