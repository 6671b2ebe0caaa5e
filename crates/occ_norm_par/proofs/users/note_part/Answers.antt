use Rattle.indexmap.specs.IndexMap.{get}
use Rattle.occ_norm_par.specs.Spans.{same_name}
use Rattle.occ_norm_par.proofs.Spanning.{noted_part}
use Rattle.occ_norm_par.proofs.users.note_part.Goals as goal

pub returns : goal.returns
returns c = λ n. noted_part c.args.part.now _ _ n (get same_name c.args.used.now n) _ c.args.place c.as_slice.ensures.value c.in_ok-found.ensures.members (c.in_ok-note_all.ensures n)
