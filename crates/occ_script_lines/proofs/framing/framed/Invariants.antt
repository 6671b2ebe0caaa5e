use Rattle.std.proofs.Common.{◌≡◌, map, take}
use Rattle.occ_script_lines.specs.Sections.{blank}
use Rattle.occ_script_lines.proofs.framing.framed.Given as goal

abbrev pub invariant-loop-byte : goal.invariant-loop-byte
invariant-loop-byte l = l.text.items ≡ map blank (take l.byte-index l.byte-items)
