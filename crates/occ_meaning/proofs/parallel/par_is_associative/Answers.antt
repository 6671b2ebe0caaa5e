use Rattle.occ_meaning.proofs.Alike.{same_back, same_through}
use Rattle.occ_meaning.proofs.Parts.{par_flat}
use Rattle.occ_meaning.specs.Parallel.{one, two}
use Rattle.occ_syntax.specs.Tree.{and_tree, no_tree, par}
use Rattle.occ_meaning.proofs.parallel.par_is_associative.Goals as goal

pub returns : goal.returns
returns c = λ Γ p q r. let left = par (two (par (two p q)) r) in let right = par (two p (par (two q r))) in let flat = par (and_tree p (two q r)) in same_through Γ left flat right (par_flat Γ no_tree (two p q) (one r)) (same_back Γ right flat (par_flat Γ (one p) (two q r) no_tree))
