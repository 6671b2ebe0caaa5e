use Rattle.std.proofs.Common.{◌≡◌, true, ap, ◌∙◌, rules}
use Rattle.occ_accept.specs.Order.{event_cmp, strict}
use Rattle.occ_accept.specs.Accept.{in_set}
use Rattle.occ_accept.proofs.Sets.{set_searched}
use Rattle.occ_accept.proofs.set.AcceptSet.has.Goals as goal

pub returns : goal.returns
returns c =
    let v : c.deref.result.now ≡ c.args.self.now = search rules in
    let s : strict event_cmp c.deref.result.now ≡ true = search rules in
    c.is_ok.ensures.value ∙ set_searched c.deref.result.now c.args.event c.binary_search.result c.binary_search.ensures.bound c.binary_search.ensures.position s ∙ ap (λ set. in_set set c.args.event) v
