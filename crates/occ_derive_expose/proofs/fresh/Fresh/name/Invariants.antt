use Rattle.occ_derive_trail.specs.occ_lex.Growth.{GrowsByNames}
use Rattle.occ_derive_expose.proofs.fresh.Fresh.name.Given as goal

-- the table has grown by the names that were tried
abbrev pub invariant-loop-number : goal.invariant-loop-number
invariant-loop-number l = GrowsByNames l.fn.names l.names
