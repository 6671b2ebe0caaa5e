use Rattle.occ_derive_search.proofs.Lists.{par_more, seq_more}
use Rattle.occ_syntax.specs.View.{tree}
use Rattle.occ_derive_search.proofs.longer.with_part.Goals as goal

pub returns-in_ok-push-in-Seq : goal.returns-in_ok-push-in-Seq
returns-in_ok-push-in-Seq c =
    λ next h. seq_more c.in-Seq.parts c.push.new.self c.args.part (tree c.args.whole) next c.in-Seq.ensures c.in_ok-push-in-Seq.ensures.ok h

pub returns-in_ok-push-in-Par : goal.returns-in_ok-push-in-Par
returns-in_ok-push-in-Par c =
    λ next h. par_more c.in-Par.parts c.push-in-Par.new.self c.args.part (tree c.args.whole) next c.in-Par.ensures c.in_ok-push-in-Par.ensures.ok h
