use Rattle.std.proofs.Common.{ap, sym, ◌∙◌, subst, length}
use Rattle.occ_syntax.specs.Tree.{alt}
use Rattle.occ_syntax.proofs.Views.{tree-Alt}
use Rattle.occ_target.specs.Framed.{frame_of, AreBelow}
use Rattle.occ_target.specs.Rows.{guarded, of_events}
use Rattle.occ_target.proofs.Below.{below_chosen}
use Rattle.occ_target.proofs.events.Frame.accepting.Goals as goal

pub of_events-requires : goal.of_events-requires
of_events-requires c = subst (AreBelow (length c.args.self.now.parts.now)) (sym (c.items.ensures ∙ c.in_ok-moves.ensures)) (below_chosen _ c.args.set.now c.args.offers.now c.requires)

pub returns : goal.returns
returns c = tree-Alt _ ∙ ap alt c.in_ok-made.ensures ∙ ap (λ xs. alt (guarded (of_events (frame_of c.args.self.now) xs))) (c.items.ensures ∙ c.in_ok-moves.ensures)
