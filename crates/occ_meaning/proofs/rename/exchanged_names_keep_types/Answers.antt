use Rattle.occ_meaning.proofs.RenamedTrees.{types_under}
use Rattle.occ_meaning.proofs.Renaming.{exchange_is}
use Rattle.occ_meaning.specs.Rename.{exchanging}
use Rattle.occ_meaning.proofs.rename.exchanged_names_keep_types.Goals as goal

pub returns : goal.returns
returns c = λ p a b Γ. types_under p (exchanging a b) (exchange_is a b) Γ
