use Rattle.occ_parse_rules.proofs.Views.{grafted_is}
use Rattle.occ_parse_rules.proofs.node.Node.seen.Goals as goal

pub returns : goal.returns
returns c = λ rest. rw (c.items.ensures) (grafted_is _ rest)
