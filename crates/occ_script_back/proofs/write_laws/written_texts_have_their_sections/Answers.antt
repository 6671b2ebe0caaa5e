use Rattle.occ_script_back.proofs.Cutting.{chunks_cut}
use Rattle.occ_script_back.proofs.write_laws.written_texts_have_their_sections.Goals as goal

pub returns : goal.returns
returns c = chunks_cut
