use Rattle.std.proofs.Common.{◌≡◌, ◌++◌, map, ap, ◌∙◌}
use Rattle.std.proofs.lemmas.Result.{IfOk-weaker}
use Rattle.occ_compare.specs.occ_dd.Store.{has}
use Rattle.occ_nform_rows.specs.Ends.{byte_state_at, places_of}
use Rattle.occ_nform_rows.specs.Lists.{AreEnds}
use Rattle.occ_nform_rows.proofs.Rows.{ends_listed}
use Rattle.occ_nform_rows.proofs.lister.Lister.listed_ends.Goals as goal

pub returns : goal.returns
returns c =
    let s = c.args.store.now in
    let ps = c.args.self.now.params.now in
    let found = c.in_ok-add_members.ensures ∙ (λ i. c.new-found.ensures.items i ++ places_of ps (has s c.args.set) (c.interface_bits-bits.ensures i) 0) in
    IfOk-weaker c.states_at.result (λ states. states ≡ map (byte_state_at ps) c.as_slice.result.now) (AreEnds s ps c.args.set)
    (λ states is. ends_listed s ps c.args.set c.add_members.new.found.items c.in_order-places.result.items states c.args.self.now.kept found c.in_order-places.ensures.increasing c.in_order-places.ensures.members
    (is ∙ ap (map (byte_state_at ps)) c.as_slice.ensures.value)) c.states_at.ensures
