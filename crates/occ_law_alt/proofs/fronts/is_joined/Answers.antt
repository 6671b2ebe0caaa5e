use Rattle.occ_syntax.specs.View.{branches}
use Rattle.occ_syntax.proofs.Rows.{refuted}
use Rattle.occ_law_alt.proofs.Begun.{joined_where}
use Rattle.occ_law_alt.proofs.fronts.is_joined.Goals as goal

pub returns-in-Some : goal.returns-in-Some
returns-in-Some c = joined_where (branches c.args.front.now) (branches c.args.whole.now) (branches c.in-Some.found.now) (branches c.args.rest.now) _ c.in-Some.ensures c.same_branches.ensures

pub returns-in-None : goal.returns-in-None
returns-in-None c = refuted (c.in-None.ensures (branches c.args.rest.now))
