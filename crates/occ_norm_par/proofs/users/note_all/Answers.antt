use Rattle.indexmap.specs.IndexMap.{get}
use Rattle.occ_norm_par.specs.Spans.{same_name}
use Rattle.occ_norm_par.proofs.Spanning.{noted_end, noted_more}
use Rattle.occ_norm_par.proofs.users.note_all.Goals as goal

pub loop-end-preserved : goal.loop-end-preserved
loop-end-preserved c = λ n. noted_more _ _ _ n (get same_name c.args.used.now n) _ _ c.args.place c.loop-end-test.true (c.loop-end.invariant n) (c.in_ok-note.ensures n)

pub returns : goal.returns
returns c = λ n. noted_end _ _ n (get same_name c.args.used.now n) _ c.args.place c.loop-end-test.false (c.loop-end.invariant n)
