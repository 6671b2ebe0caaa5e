use Rattle.std.proofs.Common.{◌≡◌, ℕ, map, take}
use Rattle.occ_syntax.specs.occ_base.declared.event.Event.{Event}
use Rattle.occ_nform_table.specs.Lines.{rank}
use Rattle.occ_nform_read.proofs.lines.offer_ranks.Given as goal

abbrev pub invariant-loop-offer : goal.invariant-loop-offer
invariant-loop-offer l = l.ranks.items ≡ map (λ (o : Event × ℕ). rank l.params o.0) (take l.offer-index l.offers)
