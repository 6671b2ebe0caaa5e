use Rattle.std.proofs.Common.{sym, ◌∙◌}
use Rattle.occ_norm_frame.proofs.After.{map_node}
use Rattle.occ_norm_frame.proofs.Keeping.{never_none}
use Rattle.occ_norm_frame.proofs.frame_nodes.node_at.Goals as goal

pub unreachable-requires : goal.unreachable-requires
unreachable-requires c = never_none c.args.world.now c.args.map c.requires c.args.state c.ranges.state.fits (sym c.get.ensures ∙ c.in-None.is)

pub returns-clause-there : goal.returns-clause-there
returns-clause-there c = map_node c.args.world.now c.args.map c.requires c.args.state c.ranges.state.fits c.in-Some.node (sym c.get.ensures ∙ c.in-Some.is)
