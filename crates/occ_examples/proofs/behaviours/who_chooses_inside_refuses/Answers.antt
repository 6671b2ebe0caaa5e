use Rattle.occ_examples.proofs.behaviours.who_chooses_inside_refuses.Goals as goal
use Rattle.occ_law.specs.occ_syntax.Meaning.{at_ready, taken}
use Rattle.occ_law.specs.occ_syntax.Scopes.{among}
use Rattle.occ_examples.proofs.Beginnings.{inside_needs, send_waits}
use Rattle.occ_examples.specs.Programs.{c, d, holding, output_of}
use Rattle.std.proofs.Common.{[], ◌∷◌, inl, inr, refl}

pub returns : goal.returns
returns given = (
  taken (inr (inl (refl, (holding 0 0, [], at_ready, send_waits (holding 0 0) d 1 (among (output_of c 1 ∷ [])) refl)))),
  (
    taken (inl (refl, (holding 0 0, [], at_ready, send_waits (holding 0 0) c 1 (among (output_of d 1 ∷ [])) refl))),
    λ h. inside_needs (holding 0 0) [] (among (output_of c 1 ∷ output_of d 1 ∷ [])) h refl refl refl,
  ),
)
