use Rattle.occ_meaning.proofs.Redeclared.{itself_replaced}
use Rattle.occ_meaning.proofs.rename.replacing_by_itself_changes_nothing.Goals as goal

pub returns : goal.returns
returns c = itself_replaced
