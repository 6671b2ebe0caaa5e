use Rattle.std.proofs.Common.{ap, ◌∙◌}
use Rattle.std.proofs.lemmas.List.{at_drop_all}
use Rattle.occ_syntax.specs.View.{numbers, tree}
use Rattle.occ_names.specs.Once.{same_number, has, firsts, is_distinct}
use Rattle.occ_names.specs.Mentions.{mentions, set_in}
use Rattle.occ_names.proofs.Listed.{put_more, all_put, with_all-firsts, has_firsts, firsts_distinct, numbers_tested}
use Rattle.occ_names.proofs.Members.{next_set_in, written_is}
use Rattle.occ_names.proofs.listing.written.Goals as goal

pub loop-mention-preserved : goal.loop-mention-preserved
loop-mention-preserved c =
    put_more same_number _ _ _ _ _ _ _ c.in_ok-insert_any.ensures.ok c.written.ensures (next_set_in _ _ c.loop-mention-test.true) c.loop-mention.invariant

pub returns : goal.returns
returns c =
    let listed =
    ap numbers c.in_ok-from_slice.ensures.items ∙ c.names.ensures
    ∙ all_put same_number _ _ _ (at_drop_all set_in _ _ c.loop-mention-test.false) c.loop-mention.invariant
    ∙ with_all-firsts same_number numbers_tested _
    ∙ ap (λ ms. firsts same_number (set_in ms)) (c.items-mention-items.ensures ∙ c.in_ok-mentions.ensures) in
    record {
      order = listed;
      members = λ x. ap (λ l. has same_number l x) listed ∙ has_firsts same_number numbers_tested _ x ∙ written_is (tree c.args.part.now) x;
      once = ap (is_distinct same_number) listed ∙ firsts_distinct same_number numbers_tested (set_in (mentions (tree c.args.part.now)));
    }
