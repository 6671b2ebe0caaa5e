use Rattle.std.proofs.Common.{◌≡◌, true, not, List, ap, ◌∙◌, sym, subst, rules}
use Rattle.std.proofs.lemmas.Fn.{filter_same}
use Rattle.std.specs.List.{filter}
use Rattle.occ_base.specs.declared.event.Event.{Event}
use Rattle.occ_accept.specs.Order.{event_cmp, strict}
use Rattle.occ_accept.specs.Accept.{is_on}
use Rattle.occ_accept.proofs.Strict.{strict_filter}
use Rattle.occ_accept.proofs.Events.{cmp_total}
use Rattle.occ_accept.proofs.set.AcceptSet.without.Goals as goal

left : (c : goal.After-retain) → c.retain.new.self.items ≡ filter (λ (e : Event). not (is_on c.args.chan e)) c.args.self.now
left c = filter_same _ (λ (e : Event). not (is_on c.args.chan e)) _ (λ x b f' k. search rules) _ _ c.retain.ensures.filtered
    ∙ ap (filter (λ (e : Event). not (is_on c.args.chan e))) (c.in_ok-events.ensures.items ∙ c.items.ensures.items)

pub invariant_of-result : goal.invariant_of-result
invariant_of-result c = subst (λ (xs : List Event). strict event_cmp xs ≡ true) (sym (left c)) (strict_filter cmp_total (λ (e : Event). not (is_on c.args.chan e)) c.args.self.now c.items.ensures.strict)

pub returns : goal.returns
returns c = left c
