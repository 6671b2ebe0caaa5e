use Rattle.occ_derive_laws.proofs.Holding.{law_slide}
use Rattle.occ_derive_laws.proofs.alt_laws.alt_slide_holds.Goals as goal

pub returns : goal.returns
returns c = law_slide
