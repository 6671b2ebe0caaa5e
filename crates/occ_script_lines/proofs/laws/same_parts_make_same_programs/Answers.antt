use Rattle.occ_script_lines.proofs.Scoping.{put_in_same}
use Rattle.occ_script_lines.proofs.laws.same_parts_make_same_programs.Goals as goal

pub returns : goal.returns
returns c = put_in_same
