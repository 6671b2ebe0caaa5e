use Rattle.std.proofs.Common.{◌≡◌, ◌∙◌, ap, subst, sym, arith}
use Rattle.std.specs.List.Sorted.{IsPermutation}
use Rattle.std.proofs.lemmas.Grind.{common_steps}
use Rattle.occ_nform_table.specs.Normal.{first_mark}
use Rattle.occ_nform_read.proofs.Ranks.{sets_rise, accepts_by_ranks}
use Rattle.occ_nform_read.proofs.lines.accepts_fault.Goals as goal

pub sets_fault-requires-clause-sets : goal.sets_fault-requires-clause-sets
sets_fault-requires-clause-sets c = sets_rise c.args.params.now c.args.accepts.now c.items.result.now (c.items.ensures ∙ c.in_ok-sets.ensures) c.requires.rising

pub returns : goal.returns
returns c =
    let sorted : c.as_slice.result.now ≡ c.sort.new.ranks = grind (arith, common_steps) in
    c.sets_fault.ensures ∙ ap (first_mark c.args.line) (accepts_by_ranks c.args.params.now c.args.offers.now c.args.accepts.now c.as_mut_slice.result.now c.as_slice.result.now c.items.result.now
    (c.as_mut_slice.ensures.value ∙ c.in_ok-offered.ensures) (subst (IsPermutation c.as_mut_slice.result.now) (sym sorted) c.sort.ensures.permutation) (c.items.ensures ∙ c.in_ok-sets.ensures))
