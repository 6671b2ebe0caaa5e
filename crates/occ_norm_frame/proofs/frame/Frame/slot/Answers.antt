use Rattle.occ_bits.proofs.Values.{never_missing}
use Rattle.occ_norm_frame.proofs.Placing.{frame_layout, slot_few, slot_some, slot_within}
use Rattle.std.proofs.Common.{sym, ◌∙◌}
use Rattle.occ_norm_frame.proofs.frame.Frame.slot.Goals as goal

pub unreachable-requires : goal.unreachable-requires
unreachable-requires c = never_missing c.args.self.now.layout c.args.name.0 (sym c.entry.ensures ∙ c.in-None.is) c.requires

pub returns-clause-within : goal.returns-clause-within
returns-clause-within c = slot_within c.args.self.now.layout (frame_layout c.args.self.now.vars c.args.self.now.layout c.args.self.now.bits c.args.self.now.kept) c.args.name.0 c.in-Some.entry (sym c.entry.ensures ∙ c.in-Some.is)

pub returns-clause-some : goal.returns-clause-some
returns-clause-some c = slot_some c.args.self.now.layout (frame_layout c.args.self.now.vars c.args.self.now.layout c.args.self.now.bits c.args.self.now.kept) c.args.name.0 c.in-Some.entry (sym c.entry.ensures ∙ c.in-Some.is)

pub returns-clause-few : goal.returns-clause-few
returns-clause-few c = slot_few c.args.self.now.layout (frame_layout c.args.self.now.vars c.args.self.now.layout c.args.self.now.bits c.args.self.now.kept) c.args.name.0 c.in-Some.entry (sym c.entry.ensures ∙ c.in-Some.is)
