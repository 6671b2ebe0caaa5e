-- What binds the lines of a section: the program behind FROM has all limits of programs, and parts and the program behind TO have
-- no replicators.
use Rattle.occ_parse_part.specs.occ_parse_layout.declared.placed.Frame.{Frame}
use Rattle.occ_parse_part.specs.occ_parse_layout.declared.placed.Frame.TheVariants as frame
use Rattle.occ_parse_part.specs.occ_parse.declared.bound.Bound.{Bound}
use Rattle.occ_parse_part.specs.occ_parse.declared.bound.Bound.TheVariants as bound
use Rattle.occ_script.specs.declared.content.Content.{Content}
use Rattle.occ_script.specs.declared.content.Content.TheVariants as content

abbrev pub bound_of : Content → Bound
bound_of content.First = bound.First
bound_of content.Part = bound.Script
bound_of content.Last = bound.Script

abbrev pub frame_of : Content → Frame
frame_of content.First = frame.Program
frame_of content.Part = frame.Part
frame_of content.Last = frame.Plain
