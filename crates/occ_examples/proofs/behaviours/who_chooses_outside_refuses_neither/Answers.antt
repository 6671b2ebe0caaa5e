use Rattle.occ_examples.proofs.behaviours.who_chooses_outside_refuses_neither.Goals as goal
use Rattle.occ_law.proofs.from_meaning.Facts.{false_not_true}
use Rattle.occ_law.specs.occ_syntax.Scopes.{among}
use Rattle.occ_examples.proofs.Beginnings.{outside_needs}
use Rattle.occ_examples.specs.Programs.{c, d, holding, output_of}
use Rattle.std.proofs.Common.{[], ◌∷◌, refl, sym}

pub returns : goal.returns
returns given = (
  λ h. false_not_true (sym (outside_needs (holding 0 0) [] (among (output_of c 1 ∷ [])) h refl).0),
  λ h. false_not_true (sym (outside_needs (holding 0 0) [] (among (output_of d 1 ∷ [])) h refl).1),
)
