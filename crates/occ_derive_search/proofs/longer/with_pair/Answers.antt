use Rattle.occ_derive_search.proofs.Lists.{pair_more}
use Rattle.occ_syntax.specs.View.{tree}
use Rattle.occ_derive_search.proofs.longer.with_pair.Goals as goal

pub returns-in_ok-push-in-Assign-2 : goal.returns-in_ok-push-in-Assign-2
unfolding tree
returns-in_ok-push-in-Assign-2 c =
    λ next h. pair_more c.in-Assign.vars c.push.new.self c.in-Assign.values c.push-in-Assign.new.self c.args.var c.args.value (tree c.args.whole) next
    c.in-Assign.ensures c.in_ok-push-in-Assign.ensures.ok c.in_ok-push-in-Assign-2.ensures.ok h
