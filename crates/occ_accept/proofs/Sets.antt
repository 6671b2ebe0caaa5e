use Rattle.std.proofs.Common.{◌≡◌, ◌||◌, ◌++◌, ℕ, true, List, [], ◌∷◌, Result, length, refl, sym, ap, ◌∙◌, subst}
use Rattle.std.proofs.lemmas.Bool.{and_from}
use Rattle.std.proofs.lemmas.List.Folds.{list_any-append}
use Rattle.std.proofs.lemmas.List.Kept.{IsStrictlySortedBy-dedup, Contains-dedup, Contains-from_dedup}
use Rattle.std.proofs.lemmas.List.Sorted.{list_any-IsPermutation}
use Rattle.std.proofs.lemmas.Map.Views.{Contains-from_any, list_any-from_Contains}
use Rattle.std.specs.List.{list_all, dedup, AllByRecursion}
use Rattle.std.specs.List.Sorted.{IsSorted, IsStrictlySortedBy, IsPermutation, IsBinarySearchResult, IsSearchInRange}
use Rattle.std.specs.Result.{is_ok}
use Rattle.std.specs.Cmp.{eq_by_cmp_equiv}
use Rattle.std.specs.Ordering.{is_lt, eq_by_cmp}
use Rattle.std.specs.declared.cmp.Ordering.{Ordering}
use Rattle.std.specs.declared.cmp.Ordering.TheVariants.{Less}
use Rattle.occ_base.specs.declared.event.Event.{Event}
use Rattle.occ_base.specs.contracts.event.EventOrd.TheImpl.{ghosts as event_ord}
use Rattle.occ_base.specs.contracts.event.EventPartialEq.TheImpl.{ghosts as event_eq}
use Rattle.occ_base.specs.contracts.event.EventEq.TheImpl.Laws.{laws-law as event_equiv}
use Rattle.occ_accept.specs.Order.{event_cmp, strict}
use Rattle.occ_accept.specs.Accept.{in_set}
use Rattle.occ_accept.proofs.Strict.{same_tests, tied_same}
use Rattle.occ_accept.proofs.Events.{cmp_is, eq_is, cmp_total, event_exact}
use Rattle.occ_accept.proofs.Search.{searched}

pub cmp_same : event_ord.cmp ≡ event_cmp
cmp_same i e f = cmp_is e f i

eq_exact : (e f : Event) → event_eq.eq e f ≡ true → e ≡ f
eq_exact e f h = tied_same cmp_total event_exact e f (sym (eq_is e f) ∙ h)

-- what a binary search for an event says
pub set_searched : (set : List Event) (e : Event) (r : Result ℕ ℕ) → IsSearchInRange r (length set) → IsBinarySearchResult (λ f. event_ord.cmp f e) set r
    → strict event_cmp set ≡ true → is_ok r ≡ in_set set e
set_searched set e r range found h = searched cmp_total (λ f. f) set e r range (subst (λ (R : Event → Event → Ordering). IsBinarySearchResult (λ f. R f e) set r) cmp_same found) h

-- ---- the union: sorted, each event once
all_less : (x : Event) (xs : List Event) → AllByRecursion (λ y. event_cmp x y ≡ Less) xs → list_all (λ y. is_lt (event_cmp x y)) xs ≡ true
all_less x [] h = refl
all_less x (y ∷ ys) h = and_from (is_lt (event_cmp x y)) (list_all (λ y. is_lt (event_cmp x y)) ys) (ap is_lt h.0) (all_less x ys h.1)

strict_from : (xs : List Event) → IsStrictlySortedBy event_cmp xs → strict event_cmp xs ≡ true
unfolding IsStrictlySortedBy
strict_from [] h = refl
strict_from (x ∷ xs) h = and_from (list_all (λ y. is_lt (event_cmp x y)) xs) (strict event_cmp xs) (all_less x xs h.0) (strict_from xs h.1)

pub union_strict : (ys zs : List Event) → IsSorted event_ord.cmp ys → zs ≡ dedup event_eq.eq ys → strict event_cmp zs ≡ true
union_strict ys zs sorted is = strict_from zs (subst (IsStrictlySortedBy event_cmp) (sym is)
    (IsStrictlySortedBy-dedup cmp_total eq_is ys (subst (λ (R : Event → Event → Ordering). IsSorted R ys) cmp_same sorted)))

deduped : (ys : List Event) (e : Event) → in_set (dedup event_eq.eq ys) e ≡ in_set ys e
deduped ys e = same_tests (in_set (dedup event_eq.eq ys) e) (in_set ys e)
    (λ h. list_any-from_Contains (eq_by_cmp_equiv cmp_total) e ys (Contains-from_dedup event_eq.eq ys e (Contains-from_any (tied_same cmp_total event_exact) e (dedup event_eq.eq ys) h)))
    (λ h. list_any-from_Contains (eq_by_cmp_equiv cmp_total) e (dedup event_eq.eq ys) (Contains-dedup event_equiv eq_exact ys e (Contains-from_any (tied_same cmp_total event_exact) e ys h)))

pub gathered : (events ys zs : List Event) → IsPermutation events ys → zs ≡ dedup event_eq.eq ys → (e : Event) → in_set zs e ≡ in_set events e
gathered events ys zs moved is e = ap (λ set. in_set set e) is ∙ deduped ys e ∙ sym (list_any-IsPermutation (eq_by_cmp event_cmp e) events ys moved)

pub in_either : (a b : List Event) (e : Event) → in_set (a ++ b) e ≡ (in_set a e || in_set b e)
in_either a b e = list_any-append (eq_by_cmp event_cmp e) a b
