use Rattle.std.proofs.Common.{◌≡◌, ◌<◌, ◌||◌, ℕ, zero, suc, Bool, true, false, cond, List, [], ◌∷◌, Some, None, Result, Ok, Err, length, get_or, map, is_some, refl, sym, ap, ◌∙◌, subst, ⊎_elim, arith}
use Rattle.std.proofs.lemmas.Bool.{and_parts, or_parts, cases_Bool}
use Rattle.std.specs.List.{list_all, list_any, HoldsAt}
use Rattle.std.specs.List.Sorted.{IsBinarySearchResult, IsSearchInRange}
use Rattle.std.specs.Cmp.{tied_back, alike_right, eq_by_cmp_equiv}
use Rattle.std.specs.Ordering.{is_lt, is_eq, eq_by_cmp, ordering_reverse}
use Rattle.std.specs.declared.cmp.Ordering.{Ordering}
use Rattle.std.specs.declared.cmp.Ordering.TheVariants.{Less, Equal}
use Rattle.occ_accept.specs.occ_base.declared.event.Event.{Event}
use Rattle.occ_accept.specs.occ_base.contracts.event.EventOrd.TheImpl.{ghosts as event_ord}
use Rattle.occ_accept.specs.occ_base.contracts.event.EventPartialEq.TheImpl.{ghosts as event_eq}
use Rattle.occ_accept.specs.Order.{event_cmp, strict}
use Rattle.occ_accept.specs.Accept.{in_set}
use Rattle.occ_accept.proofs.Strict.{less_is, any_same}
use Rattle.occ_accept.proofs.Events.{cmp_total, eq_is}
use Rattle.occ_accept.proofs.Sets.{cmp_same}
use Rattle.occ_accept.proofs.Search.{searched}
use Rattle.occ_node.specs.Offers.{offer_cmp, next_in, is_offered}
use Rattle.occ_node.specs.declared.node.NodeId.{NodeId}

all_place : {A : Type 0} (p : A → Bool) (xs : List A) (i : ℕ) (d : A) → i < length xs → list_all p xs ≡ true → p (get_or xs i d) ≡ true
all_place p [] i d h k = absurd (omega arith)
all_place p (x ∷ xs) zero d h k = (and_parts (p x) (list_all p xs) k).0
all_place p (x ∷ xs) (suc i) d h k = all_place p xs i d (omega arith) (and_parts (p x) (list_all p xs) k).1

-- an event that goes behind another is not equal to it, nor to what equals it
behind : (e f g : Event) → is_lt (event_cmp f g) ≡ true → event_cmp g e ≡ Equal → eq_by_cmp event_cmp e f ≡ false
behind e f g less same =
    let h : event_cmp f e ≡ Less = sym (alike_right cmp_total g e f same) ∙ less_is (event_cmp f g) less in
    ap is_eq (cmp_total.antisymm e f ∙ ap ordering_reverse h)

found_next : (e : Event) (offers : List (Event × NodeId)) (i : ℕ) (d : Event × NodeId) → i < length offers → strict offer_cmp offers ≡ true → HoldsAt (λ o. event_cmp o.0 e ≡ Equal) offers i → next_in offers e ≡ Some (get_or offers i d).1
found_next e [] i d h s at = absurd (omega arith)
found_next e (o ∷ offers) zero d h s at = ap (λ c. cond c (Some o.1) (next_in offers e)) (ap is_eq (tied_back cmp_total o.0 e (at d)))
found_next e (o ∷ offers) (suc i) d h s at =
    let p = and_parts (list_all (λ y. is_lt (event_cmp o.0 y.0)) offers) (strict offer_cmp offers) s in
    let less = all_place (λ y. is_lt (event_cmp o.0 y.0)) offers i d (omega arith) p.0 in
    ap (λ c. cond c (Some o.1) (next_in offers e)) (behind e o.0 (get_or offers i d).0 less (at d)) ∙ found_next e offers i d (omega arith) p.1 at

none_next : (e : Event) (offers : List (Event × NodeId)) → list_any (λ o. eq_by_cmp event_cmp e o.0) offers ≡ false → next_in offers e ≡ None
none_next e [] h = refl
none_next e (o ∷ offers) h =
    let p = or_parts (eq_by_cmp event_cmp e o.0) (list_any (λ o. eq_by_cmp event_cmp e o.0) offers) h in
    ap (λ c. cond c (Some o.1) (next_in offers e)) p.0 ∙ none_next e offers p.1

as_cmp : (e : Event) (offers : List (Event × NodeId)) (r : Result ℕ ℕ) → IsBinarySearchResult (λ o. event_ord.cmp o.0 e) offers r → IsBinarySearchResult (λ o. event_cmp o.0 e) offers r
as_cmp e offers r = subst (λ (R : Event → Event → Ordering). IsBinarySearchResult (λ o. R o.0 e) offers r) cmp_same

-- what a binary search by the event finds
pub find_ok : (e : Event) (offers : List (Event × NodeId)) (i : ℕ) (d : Event × NodeId) → IsSearchInRange (Ok i) (length offers) → strict offer_cmp offers ≡ true
    → IsBinarySearchResult (λ o. event_ord.cmp o.0 e) offers (Ok i) → Some (get_or offers i d).1 ≡ next_in offers e
find_ok e offers i d h s at = sym (found_next e offers i d h s (as_cmp e offers (Ok i) at))

pub find_err : (e : Event) (offers : List (Event × NodeId)) (i : ℕ) → IsSearchInRange (Err i) (length offers) → strict offer_cmp offers ≡ true
    → IsBinarySearchResult (λ o. event_ord.cmp o.0 e) offers (Err i) → None ≡ next_in offers e
find_err e offers i h s at = sym (none_next e offers (sym (searched cmp_total (λ o. o.0) offers e (Err i) h (as_cmp e offers (Err i) at) s)))

-- what `contains` answers
pub contains_in : (e : Event) (events : List Event) → list_any (λ f. event_eq.eq f e) events ≡ in_set events e
contains_in e events = any_same (λ f. event_eq.eq f e) (eq_by_cmp event_cmp e) (λ f. eq_is f e ∙ (eq_by_cmp_equiv cmp_total).symm f e) events

-- the events of offers
pub events_offered : (offers : List (Event × NodeId)) (e : Event) → in_set (map (λ (o : Event × NodeId). o.0) offers) e ≡ is_offered offers e
events_offered [] e = refl
events_offered (o ∷ offers) e = let rest : in_set (map (λ (o : Event × NodeId). o.0) offers) e ≡ is_offered offers e = events_offered offers e in
    ⊎_elim
    (λ (t : eq_by_cmp event_cmp e o.0 ≡ true). ap (λ c. c || in_set (map (λ (o : Event × NodeId). o.0) offers) e) t ∙ sym (ap (λ c. is_some (cond c (Some o.1) (next_in offers e))) t))
    (λ (f : eq_by_cmp event_cmp e o.0 ≡ false). ap (λ c. c || in_set (map (λ (o : Event × NodeId). o.0) offers) e) f ∙ rest ∙ sym (ap (λ c. is_some (cond c (Some o.1) (next_in offers e))) f))
    (cases_Bool (eq_by_cmp event_cmp e o.0))
