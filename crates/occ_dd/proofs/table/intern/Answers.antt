use Rattle.occ_dd.specs.contracts.node.NodeEq.TheImpl.Laws.{laws-law}
use Rattle.occ_dd.proofs.Growth.{interned}
use Rattle.occ_dd.proofs.table.intern.Goals as goal

pub returns-clause-nodes : goal.returns-clause-nodes
returns-clause-nodes g c =
    let laws = laws-law g.row.T g.T.Eq g.T.Eq-dict g.T.PartialEq g.T.PartialEq-dict (record { laws = g.met.T.Eq.laws }) (record { laws = g.met.T.PartialEq.laws }) in
    interned laws c.args.nodes.now.keys c.insert_full.new.self.keys c.args.node c.in_ok-place.ensures.keys
