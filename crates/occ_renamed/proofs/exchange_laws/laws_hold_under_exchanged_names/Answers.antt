use Rattle.occ_renamed.proofs.Laws.{law_under}
use Rattle.occ_renamed.proofs.exchange_laws.laws_hold_under_exchanged_names.Goals as goal
use Rattle.occ_replay_rules.proofs.from_meaning.Renaming.{exchange_is}
use Rattle.occ_replay_rules.specs.occ_meaning.Rename.{exchanging}

pub returns : goal.returns
returns c = λ n S l r a b h. law_under (exchanging a b) (exchange_is a b) n S l r h
