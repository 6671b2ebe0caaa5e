use Rattle.std.proofs.Common.{◌≡◌, ◌<◌, ◌^◌, ◌+◌, drop}
use Rattle.occ_syntax.specs.Counts.{capped}
use Rattle.occ_nform.specs.Counts.{offers_in}
use Rattle.occ_nform.proofs.figures.offers_in.Given as goal

abbrev pub invariant-loop-row : goal.invariant-loop-row
invariant-loop-row l = (capped (l.offers + offers_in (drop l.row-index l.rows)) ≡ capped (offers_in l.rows)) × (l.offers < 2 ^ 64)
