use Rattle.std.proofs.Common.{ap, ◌∙◌}
use Rattle.std.proofs.lemmas.List.{at_drop_all}
use Rattle.occ_syntax.specs.View.{tree}
use Rattle.occ_names.specs.Once.{has, firsts, is_distinct}
use Rattle.occ_names.specs.Mentions.{mentions, ends_in, same_end, end_numbers}
use Rattle.occ_names.proofs.Listed.{put_more, all_put, with_all-firsts, has_firsts, firsts_distinct, ends_tested}
use Rattle.occ_names.proofs.Members.{next_ends_in, ends_are}
use Rattle.occ_names.proofs.listing.ends.Goals as goal

pub loop-mention-preserved : goal.loop-mention-preserved
loop-mention-preserved c =
    put_more same_end _ _ _ _ _ _ _ c.in_ok-insert_any.ensures.ok c.end.ensures (next_ends_in _ _ c.loop-mention-test.true) c.loop-mention.invariant

pub returns : goal.returns
returns c =
    let listed =
    ap end_numbers c.in_ok-from_slice.ensures.items ∙ c.ends.ensures
    ∙ all_put same_end _ _ _ (at_drop_all ends_in _ _ c.loop-mention-test.false) c.loop-mention.invariant
    ∙ with_all-firsts same_end ends_tested _
    ∙ ap (λ ms. firsts same_end (ends_in ms)) (c.items-mention-items.ensures ∙ c.in_ok-mentions.ensures) in
    record {
      order = listed;
      members = λ b d. ap (λ l. has same_end l (b, d)) listed ∙ has_firsts same_end ends_tested _ (b, d) ∙ ends_are (tree c.args.part.now) b d;
      once = ap (is_distinct same_end) listed ∙ firsts_distinct same_end ends_tested (ends_in (mentions (tree c.args.part.now)));
    }
