use Rattle.std.proofs.Common.{[], ◌∷◌}
use Rattle.occ_place.proofs.Interned.{interned_within}
use Rattle.occ_place.proofs.places.texts_of.Goals as goal

pub text-requires : goal.text-requires
text-requires c = interned_within c.args.names _ (35 ∷ []) _ _ c.in_ok-last.ensures.number c.in_ok-last.ensures.table c.loop-number-test.true
