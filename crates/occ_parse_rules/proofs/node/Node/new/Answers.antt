use Rattle.occ_parse_rules.proofs.Views.{grafted_is}
use Rattle.occ_parse_rules.proofs.node.Node.new.Goals as goal

pub returns : goal.returns
unfolding Rattle.occ_parse_rules.specs.declared.node.Node.TheViews.out-Node Rattle.occ_parse_rules.specs.Forest.in_nodes denote.Hole.Carrier.out Rattle.occ_parse_rules.specs.declared.node.Node.TheViews.roll-Node denote.Hole.Carrier.roll
returns c = λ rest. grafted_is _ rest
