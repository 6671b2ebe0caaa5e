use Rattle.occ_derive_trail.specs.occ_lex.Growth.{GrowsByNames}
use Rattle.occ_derive_expose.proofs.naming.apart.Given as goal

-- the table has grown by the names that were made
abbrev pub invariant-loop-path : goal.invariant-loop-path
invariant-loop-path l = GrowsByNames l.fn.names l.names
