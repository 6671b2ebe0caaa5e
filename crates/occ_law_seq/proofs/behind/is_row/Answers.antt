use Rattle.occ_syntax.specs.View.{tree, trees}
use Rattle.occ_syntax.proofs.Rows.{refuted}
use Rattle.occ_law_seq.proofs.behind.is_row.Goals as goal

pub returns-in-None : goal.returns-in-None
returns-in-None c = refuted (c.in-None.ensures (tree c.args.part.now) (trees c.args.behind.now))
