use Rattle.occ_meaning.proofs.Refusals.{part_shrinks}
use Rattle.std.proofs.Common.{inl}
use Rattle.occ_meaning.proofs.behaviour.refusals_shrink.Goals as goal

pub returns : goal.returns
returns c = λ Γ p s t X W sub d. (part_shrinks p).more Γ s t X W (λ e h. inl (sub e h)) d
