use Rattle.std.proofs.Common.{length, ◌∙◌}
use Rattle.std.proofs.lemmas.Iterator.Adapters.{YieldsList-from_vec}
use Rattle.std.proofs.lemmas.Iterator.Consumers.{YieldsList-turn}
use Rattle.occ_nform.proofs.Placing.{placed_step, still_known}
use Rattle.occ_nform.proofs.numbering.Numbering.place_all.Goals as goal

pub place-requires : goal.place-requires
place-requires c =
    let gives = c.into_iter-draft-iterator.ensures.into_iter_gives in
    let t = YieldsList-turn (YieldsList-from_vec {s = c.into_iter-draft-iterator.result} c.args.drafts.items gives.0 (gives.1 ∙ c.args.drafts.ok.0))
    c.loop-draft.yielded c.loop-draft.draft-iterator c.loop-draft.yielded_by c.next.result c.next.new.self c.in-Some.draft c.in-Some.is c.next.ensures.steps in
    still_known c.args.self.now c.loop-draft.self c.loop-draft.yielded c.args.drafts.items c.in-Some.draft c.loop-draft.invariant.2 c.requires.known (length c.loop-draft.yielded) t.0 t.1

pub loop-draft-preserved : goal.loop-draft-preserved
loop-draft-preserved c = (tt, tt, placed_step c.args.self.now c.loop-draft.self c.place.new.self c.loop-draft.yielded c.in-Some.draft c.loop-draft.invariant.2 c.in_ok-place.ensures)
