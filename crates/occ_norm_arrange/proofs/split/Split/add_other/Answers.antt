use Rattle.std.proofs.Common.{subst, sym}
use Rattle.occ_syntax.specs.View.{in_procs, tree, trees}
use Rattle.occ_norm_arrange.proofs.Listed.{trees_pushed}
use Rattle.occ_norm_arrange.proofs.Noting.{notes_of}
use Rattle.occ_norm_arrange.proofs.Splitting.{split_other}
use Rattle.occ_norm_arrange.specs.Split.{IsSplit}
use Rattle.occ_meaning.specs.Parallel.{all_of, one}
use Rattle.occ_norm_arrange.proofs.split.Split.add_other.Goals as goal

pub returns : goal.returns
returns c = λ _ ps a.
    let p = tree c.args.part.now in
    let old = c.args.self.now in
    let pushed = trees_pushed (in_procs c.push.new.self) (in_procs old.others) c.in_ok-copy.field-0 p c.in_ok-push.ensures.ok c.in_ok-copy.ensures in
    subst (λ zs. IsSplit (all_of ps (one p)) (trees (in_procs old.front)) zs old.writes c.note_all.new.set) (sym pushed)
    (split_other ps (trees (in_procs old.front)) (trees (in_procs old.others)) old.writes old.names c.note_all.new.set p a c.requires.off (notes_of _ _ _ _ c.requires.free c.in_ok-note_all.ensures))
