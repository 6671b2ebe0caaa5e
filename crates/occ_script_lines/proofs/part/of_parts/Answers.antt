use Rattle.std.proofs.Common.{arith}
use Rattle.occ_script_lines.proofs.Children.{part_past, part_read}
use Rattle.occ_script_lines.proofs.part.of_parts.Goals as goal

pub returns-then-place-parts : goal.returns-then-place-parts
returns-then-place-parts c = part_read c.args.parts.now c.args.place c.index-parts-place.result (omega arith) c.index-parts-place.is

pub returns-else-place-parts : goal.returns-else-place-parts
returns-else-place-parts c = part_past c.args.parts.now c.args.place (omega arith)
