use Rattle.std.proofs.Common.{◌≡◌, ◌++◌, ◌∙◌, ap}
use Rattle.occ_accept.specs.Accept.{in_set}
use Rattle.occ_accept.proofs.Sets.{in_either}
use Rattle.occ_accept.proofs.set.AcceptSet.union.Goals as goal

pub returns : goal.returns
returns c e =
    let both : c.extend_from_slice.new.self.items ≡ c.args.self.now ++ c.args.other.now =
    c.in_ok-extend_from_slice.ensures.items ∙ (λ i. c.in_ok-events.ensures.items i ++ c.items-2.ensures.items i) ∙ ap (λ xs. xs ++ c.args.other.now) c.items.ensures.items in
    c.gather.ensures e ∙ ap (λ set. in_set set e) both ∙ in_either c.args.self.now c.args.other.now e
