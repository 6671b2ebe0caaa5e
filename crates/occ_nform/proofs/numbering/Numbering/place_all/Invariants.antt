use Rattle.occ_nform.specs.Numbering.{ArePlaced}
use Rattle.occ_nform.proofs.numbering.Numbering.place_all.Given as goal

abbrev pub invariant-loop-draft : goal.invariant-loop-draft
invariant-loop-draft l = (goal.iterator-loop-draft).can_next l.draft-iterator × (goal.iterator-loop-draft).is_finite l.draft-iterator × ArePlaced l.initial.self l.self l.yielded
