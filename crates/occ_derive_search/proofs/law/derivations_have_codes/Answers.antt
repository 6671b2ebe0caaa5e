use Rattle.occ_derive_search.proofs.Deriving.{derivation_coded}
use Rattle.occ_derive_search.proofs.law.derivations_have_codes.Goals as goal

pub returns : goal.returns
returns c = λ S p q moves scope keeps steps. derivation_coded S p q moves steps
