use Rattle.std.proofs.Common.{ap, subst, sym, ◌∙◌}
use Rattle.occ_meaning.specs.Parallel.{all_of, one}
use Rattle.occ_syntax.specs.Names.{is_in}
use Rattle.occ_syntax.specs.View.{in_procs, numbers, tree, trees}
use Rattle.occ_norm_arrange.proofs.Listed.{trees_pushed}
use Rattle.occ_norm_arrange.proofs.Noting.{apart_from, notes_of}
use Rattle.occ_norm_arrange.proofs.Splitting.{split_front}
use Rattle.occ_norm_arrange.specs.Split.{IsSplit}
use Rattle.occ_norm_arrange.proofs.split.Split.add_straight.Goals as goal

pub returns : goal.returns
returns c = λ _ ps a.
    let p = tree c.args.part.now in
    let old = c.args.self.now in
    let pushed = trees_pushed (in_procs c.push.new.self) (in_procs old.front) c.in_ok-copy.field-0 p c.in_ok-push.ensures.ok c.in_ok-copy.ensures in
    subst (λ zs. IsSplit (all_of ps (one p)) zs (trees (in_procs old.others)) c.note_all.new.set c.note_all-2.new.set) (sym pushed)
    (split_front ps (trees (in_procs old.front)) (trees (in_procs old.others)) old.writes c.note_all.new.set old.names c.note_all-2.new.set p a c.requires.straight c.requires.off
    (apart_from c.as_slice.result.now old.names _ (λ x. ap (λ ns. is_in (numbers ns) x) c.as_slice.ensures.value ∙ c.in_ok-own.ensures.members x) (sym c.has_any.ensures ∙ c.if-has_any.false))
    (notes_of _ _ _ _ (λ x. ap (λ ns. is_in (numbers ns) x) c.as_slice-2.ensures.value ∙ c.in_ok-own.ensures.members x) c.in_ok-note_all.ensures)
    (notes_of _ _ _ _ c.requires.free c.in_ok-note_all-2.ensures))
