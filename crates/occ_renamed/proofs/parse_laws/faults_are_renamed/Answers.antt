use Rattle.occ_renamed.proofs.Faults.{all_bits_same, counts_same, directions_same, names_same, types_same}
use Rattle.occ_renamed.proofs.parse_laws.faults_are_renamed.Goals as goal

pub returns : goal.returns
returns c = record {
  names = λ f Γ lines one. names_same f one Γ Γ lines;
  types = λ f Γ lines one. types_same f one Γ Γ lines;
  directions = λ f Γ lines one. directions_same f one Γ Γ lines;
  counts = λ f Γ lines one. counts_same f one Γ Γ lines;
  bits = λ f Γ lines one. all_bits_same f one Γ Γ lines;
}
