use Rattle.std.proofs.Common.{◌∙◌, ◌++◌, ap}
use Rattle.occ_stepped.proofs.showing.joined.Goals as goal

pub returns : goal.returns
returns c = record {
  before = c.in_ok-text.text.items;
  after = c.args.after.now;
  is = c.in_ok-extend_from_slice-2.ensures.items
      ∙ ap (λ t. t ++ c.args.after.now) (c.in_ok-extend_from_slice.ensures.items ∙ ap (λ r. c.in_ok-text.text.items ++ r) c.deref.ensures.value);
}
