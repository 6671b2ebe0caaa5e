use Rattle.occ_replay_rules.proofs.from_meaning.Renaming.{exchange_is}
use Rattle.occ_replay_rules.specs.occ_meaning.Rename.{exchanging}
use Rattle.occ_renamed.proofs.Moving.{moves_under}
use Rattle.occ_renamed.proofs.script_laws.moves_stay_moves.Goals as goal

pub returns : goal.returns
returns c = λ S p q moves a b h. moves_under (exchanging a b) (exchange_is a b) S p q moves h
