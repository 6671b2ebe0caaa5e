use Rattle.occ_complete.proofs.Heaviest.{expansion_weighs}
use Rattle.occ_complete.proofs.par_laws.expansions_are_no_heavier.Goals as goal

pub returns : goal.returns
returns c = expansion_weighs
