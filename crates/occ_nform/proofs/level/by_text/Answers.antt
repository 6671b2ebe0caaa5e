use Rattle.std.proofs.Common.{rules}
use Rattle.std.proofs.lemmas.Cmp.{nat_list_cmp_total}
use Rattle.std.proofs.lemmas.Fn.{always_returns_same}
use Rattle.std.proofs.lemmas.List.MinMax.{ranks_by}
use Rattle.occ_nform.specs.declared.level.Draft.{Draft}
use Rattle.occ_nform.specs.Numbering.{text_before}
use Rattle.occ_nform.proofs.level.by_text.Goals as goal

pub returns : goal.returns
returns c = record {
  same = c.sort_unstable_by.ensures.permutation;
  sorted = c.sort_unstable_by.ensures.sorted text_before (ranks_by nat_list_cmp_total (λ (d : Draft). d.text.items)) (always_returns_same _ _ _ (λ a r f' k. (search rules, search rules)));
}
