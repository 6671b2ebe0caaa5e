use Rattle.occ_renamed.proofs.Usage.{keeps_under}
use Rattle.occ_renamed.proofs.exchange_laws.exchanged_names_keep_the_rules.Goals as goal
use Rattle.occ_replay_rules.proofs.from_meaning.Renaming.{exchange_is}
use Rattle.occ_replay_rules.specs.occ_meaning.Rename.{exchanging}

pub returns : goal.returns
returns c = λ Γ p a b k. keeps_under Γ p (exchanging a b) (exchange_is a b) k
