use Rattle.std.proofs.Common.{◌≡◌, ◌==◌, true, List, [], ◌∷◌, Some, refl, ap, ◌∙◌}
use Rattle.std.proofs.lemmas.Bool.{eqb-true, false≢true}
use Rattle.std.specs.Cmp.{IsTotalOrder, then_total, on_total, nat_cmp_total}
use Rattle.std.specs.Cmp.{unsigned_ties}
use Rattle.std.specs.Cmp.Lexicographic.{slice_cmp, slice_partial_cmp, lists_total, lists_agrees}
use Rattle.std.specs.Ordering.{is_some_and, is_lt, is_eq, eq_by_cmp, nat_cmp, ordering_then}
use Rattle.std.specs.declared.cmp.Ordering.{Ordering}
use Rattle.std.specs.declared.cmp.Ordering.TheVariants.{Less, Equal, Greater}
use Rattle.occ_base.specs.declared.event.Dir.{Dir}
use Rattle.occ_base.specs.declared.event.Dir.TheVariants.{Input, Output}
use Rattle.occ_base.specs.declared.event.Event.{Event}
use Rattle.occ_base.specs.contracts.event.EventOrd.TheImpl.{ghosts as event_ord}
use Rattle.occ_base.specs.contracts.event.EventPartialOrd.TheImpl.{ghosts as event_part}
use Rattle.occ_base.specs.contracts.event.EventPartialEq.TheImpl.{ghosts as event_eq}
use Rattle.occ_base.specs.contracts.event.DirOrd.TheImpl.{ghosts as dir_ord}
use Rattle.occ_base.specs.contracts.event.EventOrd.TheImpl.Laws.{matches_partial_cmp-law as partial_law, matches_eq-law as eq_law}
use Rattle.occ_accept.specs.Order.{event_cmp, dir_number}
use Rattle.occ_accept.proofs.Strict.{IsExact, equal_is}

dir_is : (d e : Dir) → dir_ord.cmp d e ≡ nat_cmp (dir_number d) (dir_number e)
dir_is Input Input = refl
dir_is Input Output = refl
dir_is Output Input = refl
dir_is Output Output = refl

-- the derived order of events is the one of specs/
pub cmp_is : (e f : Event) → event_ord.cmp e f ≡ event_cmp e f
cmp_is e f i = ordering_then (nat_cmp e.chan.0 f.chan.0) (ordering_then (dir_is e.dir f.dir i) (nat_cmp e.value f.value))

pub part_is : (e f : Event) → event_part.partial_cmp e f ≡ Some (event_cmp e f)
part_is e f = partial_law e f ∙ ap Some (cmp_is e f)

pub eq_is : (e f : Event) → event_eq.eq e f ≡ eq_by_cmp event_cmp e f
eq_is e f = eq_law e f ∙ ap is_eq (cmp_is e f)

dir_exact : (d e : Dir) → (dir_number d == dir_number e) ≡ true → d ≡ e
dir_exact Input Input h = refl
dir_exact Input Output h = absurd (false≢true h)
dir_exact Output Input h = absurd (false≢true h)
dir_exact Output Output h = refl

then_equal : (r s : Ordering) → is_eq (ordering_then r s) ≡ true → (is_eq r ≡ true) × (is_eq s ≡ true)
then_equal Less s e = absurd (false≢true e)
then_equal Equal s e = (refl, e)
then_equal Greater s e = absurd (false≢true e)

pub event_exact : IsExact event_cmp
event_exact e f h =
    let p = then_equal (nat_cmp e.chan.0 f.chan.0) (ordering_then (nat_cmp (dir_number e.dir) (dir_number f.dir)) (nat_cmp e.value f.value)) (ap is_eq h) in
    let q = then_equal (nat_cmp (dir_number e.dir) (dir_number f.dir)) (nat_cmp e.value f.value) p.1 in
    let chan : e.chan.0 ≡ f.chan.0 = eqb-true e.chan.0 f.chan.0 (unsigned_ties e.chan.0 f.chan.0 ∙ p.0) in
    let dir : e.dir ≡ f.dir = dir_exact e.dir f.dir (unsigned_ties (dir_number e.dir) (dir_number f.dir) ∙ q.0) in
    let value : e.value ≡ f.value = eqb-true e.value f.value (unsigned_ties e.value f.value ∙ q.1) in
    λ i. record { chan = record { 0 = chan i }; dir = dir i; value = value i }

lists_exact : (xs ys : List Event) → is_eq (slice_cmp event_cmp xs ys) ≡ true → xs ≡ ys
lists_exact [] [] h = refl
lists_exact [] (y ∷ ys) h = absurd (false≢true h)
lists_exact (x ∷ xs) [] h = absurd (false≢true h)
lists_exact (x ∷ xs) (y ∷ ys) h =
    let p = then_equal (event_cmp x y) (slice_cmp event_cmp xs ys) h in
    let first : x ≡ y = event_exact x y (equal_is (event_cmp x y) p.0) in
    let rest : xs ≡ ys = lists_exact xs ys p.1 in
    λ i. first i ∷ rest i

-- sets of events by their first difference
pub set_exact : IsExact (slice_cmp event_cmp)
set_exact xs ys h = lists_exact xs ys (ap is_eq h)

pub cmp_total : IsTotalOrder event_cmp
cmp_total = then_total (on_total (λ e. e.chan.0) nat_cmp_total) (then_total (on_total (λ e. dir_number e.dir) nat_cmp_total) (on_total (λ e. e.value) nat_cmp_total))

pub sets_total : IsTotalOrder (slice_cmp event_cmp)
sets_total = lists_total cmp_total

-- what a comparison of slices answers
pub less_is_cmp : (xs ys : List Event) → is_some_and is_lt (slice_partial_cmp event_part.partial_cmp xs ys) ≡ is_lt (slice_cmp event_cmp xs ys)
less_is_cmp xs ys = ap (is_some_and is_lt) (lists_agrees part_is xs ys)
