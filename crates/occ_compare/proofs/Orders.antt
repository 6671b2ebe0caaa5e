-- Where neither of two things is less, they are one: events, sets and states.
use Rattle.std.proofs.Common.{◌≡◌, ◌≤◌, ◌<◌, ◌==◌, ◌&&◌, ◌||◌, ◌^◌, ℕ, Bool, true, false, nat_lt, List, [], ◌∷◌, length, refl, sym, ap, ◌∙◌, arith}
use Rattle.std.proofs.lemmas.Bool.{and_parts, or_parts, eqb-true, eq-eqb, ltb-false, false≢true}
use Rattle.std.specs.Cmp.{IsTotalOrder}
use Rattle.std.specs.Cmp.Lexicographic.{slice_cmp}
use Rattle.std.specs.Ordering.{is_lt, is_eq, nat_cmp, ordering_then, ordering_reverse}
use Rattle.std.specs.declared.cmp.Ordering.{Ordering}
use Rattle.std.specs.declared.cmp.Ordering.TheVariants.{Less, Equal, Greater}
use Rattle.occ_syntax.specs.occ_base.declared.event.Event.{Event}
use Rattle.occ_syntax.specs.occ_base.declared.names.Name.{Name}
use Rattle.occ_syntax.specs.occ_base.Width.{bits_of}
use Rattle.occ_syntax.specs.declared.scope.Kind.{Kind}
use Rattle.occ_syntax.specs.declared.scope.Kind.TheVariants.{Var, Chan}
use Rattle.occ_behaviour.specs.States.{is_state, state_less}
use Rattle.occ_node.proofs.from_accept.Strict.{IsExact, equal_is, and_skip}
use Rattle.occ_compare.specs.Orders.{print_cmp, list_cmp, set_cmp}
use Rattle.occ_compare.proofs.Printing.{print_total, print_exact, sets_order}

neither : {A : Type 0} {R : A → A → Ordering} → IsTotalOrder R → IsExact R → (x y : A) → (is_lt (R x y) ≡ true → ⊥) → (is_lt (R y x) ≡ true → ⊥) → x ≡ y
neither {A} {R} o exact x y h k = by (R x y) refl
  where
    by : (r : Ordering) → R x y ≡ r → x ≡ y
    by Less e = absurd (h (ap is_lt e))
    by Equal e = exact x y e
    by Greater e = absurd (k (ap is_lt (o.antisymm y x ∙ ap ordering_reverse e)))

then_equal : (r s : Ordering) → is_eq (ordering_then r s) ≡ true → (is_eq r ≡ true) × (is_eq s ≡ true)
then_equal Less s e = absurd (false≢true e)
then_equal Equal s e = (refl, e)
then_equal Greater s e = absurd (false≢true e)

lists_exact : {A : Type 0} {R : A → A → Ordering} → IsExact R → (xs ys : List A) → is_eq (slice_cmp R xs ys) ≡ true → xs ≡ ys
lists_exact {A} {R} exact [] [] h = refl
lists_exact {A} {R} exact [] (y ∷ ys) h = absurd (false≢true h)
lists_exact {A} {R} exact (x ∷ xs) [] h = absurd (false≢true h)
lists_exact {A} {R} exact (x ∷ xs) (y ∷ ys) h =
    let p = then_equal (R x y) (slice_cmp R xs ys) h in
    let first : x ≡ y = exact x y (equal_is (R x y) p.0) in
    let rest : xs ≡ ys = lists_exact exact xs ys p.1 in
    λ i. first i ∷ rest i

sets_exact : (ps : List (Name × Kind)) → IsExact (set_cmp ps)
sets_exact ps xs ys h = lists_exact (print_exact ps) xs ys (then_equal (nat_cmp (length xs) (length ys)) (list_cmp ps xs ys) (ap is_eq h)).1

-- two events neither of which goes before the other are one
pub one_event : (ps : List (Name × Kind)) (e f : Event) → (is_lt (print_cmp ps e f) ≡ true → ⊥) → (is_lt (print_cmp ps f e) ≡ true → ⊥) → e ≡ f
one_event ps e f h k = neither (print_total ps) (print_exact ps) e f h k

-- the same of lists, which are sets and traces
pub one_list : (ps : List (Name × Kind)) (s t : List Event) → (is_lt (set_cmp ps s t) ≡ true → ⊥) → (is_lt (set_cmp ps t s) ≡ true → ⊥) → s ≡ t
one_list ps s t h k = neither (sets_order ps) (sets_exact ps) s t h k

between : (u v : ℕ) → v ≤ u → u ≤ v → u ≡ v
between u v h k = omega arith

not_true : (b : Bool) → (b ≡ true → ⊥) → b ≡ false
not_true true h = absurd (h refl)
not_true false h = refl

states_one : (ps : List (Name × Kind)) (s u : List (Name × ℕ)) → is_state ps s ≡ true → is_state ps u ≡ true → state_less s u ≡ false → state_less u s ≡ false → s ≡ u
states_one [] [] [] p q h k = refl
states_one [] [] (x ∷ xs) p q h k = absurd (false≢true q)
states_one [] (v ∷ vs) u p q h k = absurd (false≢true p)
states_one ((n, Chan w d) ∷ ps) s u p q h k = states_one ps s u p q h k
states_one ((n, Var w) ∷ ps) [] u p q h k = absurd (false≢true p)
states_one ((n, Var w) ∷ ps) (v ∷ vs) [] p q h k = absurd (false≢true q)
states_one ((n, Var w) ∷ ps) (v ∷ vs) (x ∷ xs) p q h k =
    let a = and_parts (v.0.0 == n.0 && nat_lt v.1 (2 ^ bits_of w)) (is_state ps vs) p in
    let b = and_parts (x.0.0 == n.0 && nat_lt x.1 (2 ^ bits_of w)) (is_state ps xs) q in
    let name : v.0.0 ≡ x.0.0 = eqb-true v.0.0 n.0 (and_parts (v.0.0 == n.0) (nat_lt v.1 (2 ^ bits_of w)) a.0).0 ∙ sym (eqb-true x.0.0 n.0 (and_parts (x.0.0 == n.0) (nat_lt x.1 (2 ^ bits_of w)) b.0).0) in
    let l = or_parts (nat_lt v.1 x.1) (v.1 == x.1 && state_less vs xs) h in
    let m = or_parts (nat_lt x.1 v.1) (x.1 == v.1 && state_less xs vs) k in
    let value : v.1 ≡ x.1 = between v.1 x.1 (ltb-false v.1 x.1 l.0) (ltb-false x.1 v.1 m.0) in
    let rest : vs ≡ xs = states_one ps vs xs a.1 b.1
    (sym (and_skip (v.1 == x.1) (state_less vs xs) (eq-eqb v.1 x.1 value)) ∙ l.1)
    (sym (and_skip (x.1 == v.1) (state_less xs vs) (eq-eqb x.1 v.1 (sym value))) ∙ m.1) in
    λ i. (record { 0 = name i }, value i) ∷ rest i

-- two states of an interface neither of which goes before the other are one
pub one_state : (ps : List (Name × Kind)) (s u : List (Name × ℕ)) → is_state ps s ≡ true → is_state ps u ≡ true → (state_less s u ≡ true → ⊥) → (state_less u s ≡ true → ⊥) → s ≡ u
one_state ps s u p q h k = states_one ps s u p q (not_true (state_less s u) h) (not_true (state_less u s) k)
