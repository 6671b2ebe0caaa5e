use Rattle.std.proofs.Common.{◌≡◌, ◌≤◌, true, not, length, sym, ap, ◌∙◌, subst, rules, arith}
use Rattle.std.proofs.lemmas.Fn.{filter_same}
use Rattle.std.specs.List.{insert, list_any, prefix_len}
use Rattle.std.specs.Cmp.Lexicographic.{slice_cmp}
use Rattle.std.specs.Ordering.{is_lt}
use Rattle.occ_accept.specs.Order.{event_cmp, strict}
use Rattle.occ_accept.specs.Accept.{IsAntichain, in_some, is_part, refuses}
use Rattle.occ_accept.proofs.Chains.{left_over, added, added_chain, added_refuses, added_events, part_there, prefix_within}
use Rattle.occ_accept.proofs.antichain.add.Goals as goal

kept_is : (c : goal.In_ok-insert) → c.retain.new.self.items ≡ left_over c.args.sets.now.items c.args.set
kept_is c = filter_same _ (λ kept. not (is_part c.args.set kept)) _ (λ x b f' k. search rules) _ _ c.retain.ensures.filtered

new_is : (c : goal.In_ok-insert) → c.insert.new.self.items ≡ added c.args.sets.now.items c.args.set
new_is c =
    let kept : c.retain.new.self.items ≡ left_over c.args.sets.now.items c.args.set = kept_is c in
    let place : c.place-place.result ≡ prefix_len (λ kept. is_lt (slice_cmp event_cmp kept c.args.set)) (left_over c.args.sets.now.items c.args.set) =
    c.place-place.ensures ∙ ap (prefix_len (λ kept. is_lt (slice_cmp event_cmp kept c.args.set))) (c.deref-2.ensures.value ∙ kept) in
    c.in_ok-insert.ensures.items ∙ (λ i. insert (kept i) (place i) c.args.set)

pub insert-requires : goal.insert-requires
insert-requires c = let h : c.place-place.result ≤ length c.deref-2.result.now = rw c.place-place.ensures (prefix_within _ c.deref-2.result.now) in omega (arith, c.deref-2.ensures.len)

pub returns-then-has_part-clause-refuses : goal.returns-then-has_part-clause-refuses
returns-then-has_part-clause-refuses c X = part_there c.args.sets.now.items c.args.set X (ap (list_any (λ kept. is_part kept c.args.set)) (sym c.deref.ensures.value) ∙ sym c.has_part.ensures ∙ c.if-has_part.true)

pub returns-clause-chain : goal.returns-clause-chain
returns-clause-chain c = subst IsAntichain (sym (new_is c)) (added_chain c.args.sets.now.items c.args.set c.requires (let s : strict event_cmp c.args.set ≡ true = search rules in s)
    (ap (list_any (λ kept. is_part kept c.args.set)) (sym c.deref.ensures.value) ∙ sym c.has_part.ensures ∙ c.if-has_part.false))

pub returns-clause-refuses : goal.returns-clause-refuses
returns-clause-refuses c X = ap (λ sets. refuses sets X) (new_is c) ∙ added_refuses c.args.sets.now.items c.args.set X

pub returns-clause-events : goal.returns-clause-events
returns-clause-events c e h = added_events c.args.sets.now.items c.args.set e (ap (λ sets. in_some sets e) (sym (new_is c)) ∙ h)
