use Rattle.occ_dd.proofs.DiagramLemmas.{canonical}
use Rattle.occ_dd.proofs.diagram_law.functions_have_one_number.Goals as goal

pub returns : goal.returns
returns g c = canonical _ c.args._table.now.diagram
