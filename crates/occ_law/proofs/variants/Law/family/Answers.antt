use Rattle.std.proofs.Common.{◌≤◌, subst}
use Rattle.occ_law.specs.Numbers.{first_of, last_of}
use Rattle.occ_law.proofs.Rows.{said}
use Rattle.occ_law.proofs.variants.Law.family.Goals as goal

pub returns-clause-first : goal.returns-clause-first
returns-clause-first c = subst (λ n. first_of c.row.result.family ≤ n) c.row.ensures.law (said c.row.result c.row.ensures.kept).0

pub returns-clause-last : goal.returns-clause-last
returns-clause-last c = subst (λ n. n ≤ last_of c.row.result.family) c.row.ensures.law (said c.row.result c.row.ensures.kept).1
