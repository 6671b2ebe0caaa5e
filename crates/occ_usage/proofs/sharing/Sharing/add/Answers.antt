use Rattle.std.proofs.Common.{ap, ◌∙◌}
use Rattle.occ_syntax.specs.Names.{is_in}
use Rattle.occ_syntax.specs.View.{numbers}
use Rattle.occ_names.specs.Once.{has}
use Rattle.occ_names.specs.Mentions.{same_end, end_numbers}
use Rattle.occ_usage.proofs.Shared.{one_part_more}
use Rattle.occ_usage.proofs.sharing.Sharing.add.Goals as goal

pub returns : goal.returns
returns c =
    λ ps h. one_part_more ps _ _ _ _ _ _ c.share_names.new.set _ (numbers c.as_slice-named.result.now) (numbers c.as_slice-set.result.now) _ _ _ _ (end_numbers c.as_slice-used.result.now) h
    (λ x. ap (λ ks. is_in (numbers ks) x) c.as_slice-named.ensures.value ∙ c.in_ok-free.ensures.members x)
    (λ x. ap (λ ks. is_in (numbers ks) x) c.as_slice-set.ensures.value ∙ c.in_ok-written.ensures.members x)
    (λ b d. ap (λ ks. has same_end (end_numbers ks) (b, d)) c.as_slice-used.ensures.value ∙ c.in_ok-ends.ensures.members b d)
    c.in_ok-share_names.ensures c.in_ok-share_names-2.ensures c.in_ok-share_ends.ensures c.in_ok-add_names.ensures c.in_ok-add_names-2.ensures c.in_ok-add_ends.ensures
