use Rattle.std.proofs.Common.{take}
use Rattle.occ_script_back.specs.Said.{IsShortPath}
use Rattle.occ_derive.proofs.last.read_path.Given as goal

-- the numbers so far have 32 bits
abbrev pub invariant-loop-number : goal.invariant-loop-number
invariant-loop-number l = IsShortPath (take l.number-index l.path)
