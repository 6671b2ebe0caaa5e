use Rattle.occ_norm_alt.proofs.AtOnce.{NextsTo}
use Rattle.occ_norm_alt.proofs.rows.Rows.nexts.Given as goal

abbrev pub invariant-loop-number : goal.invariant-loop-number
invariant-loop-number l = NextsTo l.world l.self.inputs.first l.self.inputs.bits l.self.next l.state l.number l.nodes.items
