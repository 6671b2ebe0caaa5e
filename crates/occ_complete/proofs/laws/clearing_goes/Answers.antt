use Rattle.occ_complete.proofs.Leaving.{clearing_goes}
use Rattle.occ_complete_states.proofs.Scopes.{scope_front}
use Rattle.occ_complete.proofs.laws.clearing_goes.Goals as goal

pub returns : goal.returns
returns c = λ S ys p whole all. clearing_goes S (scope_front S ys whole) ys all whole p
