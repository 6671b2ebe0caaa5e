use Rattle.occ_script_write.specs.occ_syntax.View.{tree}
use Rattle.occ_script_back.proofs.Staying.{part_stays, program_stays}
use Rattle.occ_script_back.proofs.write_laws.printed_texts_stay.Goals as goal

pub returns : goal.returns
returns c = record {
  parts = λ names t P Q scope part g h. part_stays names P t Q g scope part h;
  programs = λ names t P Q program g h. program_stays names P t Q g program.name.0 program.params (tree program.body) h;
}
