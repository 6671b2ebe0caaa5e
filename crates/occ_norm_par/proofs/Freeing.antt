-- Sets of states in which bits are freed, or known.
use Rattle.std.proofs.Common.{◌≡◌, ◌⊎◌, inl, inr, ⊎_elim, ℕ, ◌+◌, ◌<◌, ◌≤◌, ◌==◌, ◌&&◌, ◌||◌, Bool, true, false, cond, not, List, Result, Ok, Err, IfOk, length, refl, sym, ap, ◌∙◌, subst, arith}
use Rattle.std.specs.Int.{bit_at}
use Rattle.std.specs.List.{All}
use Rattle.std.proofs.lemmas.Bool.{and_from, cases_eq, not_from_false, or_left, or_right}
use Rattle.occ_norm_frame.specs.occ_bits.Words.{digit}
use Rattle.occ_norm_frame.proofs.from_bits.Numbers.{digit-keeps}
use Rattle.occ_norm_frame.proofs.from_dd.Callers.{known-keeps}
use Rattle.occ_norm_frame.specs.occ_dd.Store.{IsKnown, IsSet, Keeps, has}
use Rattle.occ_norm_frame.specs.occ_dd.declared.set.SetId.{SetId}
use Rattle.occ_norm_frame.specs.occ_dd.declared.store.Store.{Store}
use Rattle.occ_norm_frame.specs.occ_dd.Assignment.{with_bit}
use Rattle.occ_norm_frame.proofs.from_dd.Bits.{bit_at-with_bit_other, bit_at-with_bit_same, bit_cases, is_one, is_zero, zero_is}
use Rattle.occ_syntax.specs.occ_base.declared.names.Name.{Name}
use Rattle.occ_syntax.specs.occ_base.declared.width.Width.{Width}
use Rattle.occ_norm_frame.specs.occ_bits.Layout.{environment_in, state_of}
use Rattle.occ_syntax.specs.declared.scope.Kind.{Kind}
use Rattle.occ_syntax.specs.Eval.{is_true}
use Rattle.occ_syntax.specs.Tree.{Exp}
use Rattle.occ_norm_frame.proofs.After.{state_below}
use Rattle.occ_norm_frame.specs.Placed.{IsFrame}
use Rattle.occ_norm_frame.specs.After.{AgreeBelow}
use Rattle.occ_norm_par.specs.States.{AreStates, HasFreed, HasThose, set_at}

-- what an answer has, where that follows
pub if_ok : {A E : Type 0} (r : Result A E) (P Q : A → Type 0) → ((a : A) → P a → Q a) → IfOk r P → IfOk r Q
if_ok (Ok a) P Q f h = f a h
if_ok (Err e) P Q f h = h

-- ---- sets as the store grows
pub states-keeps : (s t : Store) → Keeps s t → (n : ℕ) (a : SetId) → AreStates s n a → AreStates t n a
states-keeps s t k n a is = record {
  known = known-keeps s t k a is.known;
  same = λ x y agree. k.same a x is.known ∙ is.same x y agree ∙ sym (k.same a y is.known);
}

-- a set of a test that doesn't look at the bits from n on
pub states_of_test : (s : Store) (n : ℕ) (r : SetId) (test : ℕ → Bool) → IsSet s r test → ((x y : ℕ) → AgreeBelow n x y → test x ≡ test y) → AreStates s n r
states_of_test s n r test is same = record { known = is.known; same = λ x y agree. is.members x ∙ same x y agree ∙ sym (is.members y) }

pub both_states : (s t : Store) (n : ℕ) (a b r : SetId) → AreStates s n a → AreStates s n b → IsSet t r (λ x. has s a x && has s b x) → AreStates t n r
both_states s t n a b r ha hb is = states_of_test t n r (λ x. has s a x && has s b x) is (λ x y agree. (λ j. ha.same x y agree j && hb.same x y agree j))

pub without_states : (s t : Store) (n : ℕ) (a b r : SetId) → AreStates s n a → AreStates s n b → IsSet t r (λ x. has s a x && not (has s b x)) → AreStates t n r
without_states s t n a b r ha hb is = states_of_test t n r (λ x. has s a x && not (has s b x)) is (λ x y agree. (λ j. ha.same x y agree j && not (hb.same x y agree j)))

pub either_states : (s t : Store) (n : ℕ) (a b r : SetId) → AreStates s n a → AreStates s n b → IsSet t r (λ x. has s a x || has s b x) → AreStates t n r
either_states s t n a b r ha hb is = states_of_test t n r (λ x. has s a x || has s b x) is (λ x y agree. (λ j. ha.same x y agree j || hb.same x y agree j))

pub empty_states : (s : Store) (n : ℕ) (r : SetId) → IsSet s r (λ x. false) → AreStates s n r
empty_states s n r is = states_of_test s n r (λ x. false) is (λ x y agree. refl)

pub condition_states : (s : Store) (vars : List (Name × Kind)) (layout : List (Name × Width × ℕ)) (n : ℕ) → IsFrame vars layout n → (e : Exp) (r : SetId) → IsSet s r (λ x. is_true (environment_in layout) e (state_of layout x)) → AreStates s n r
condition_states s vars layout n frame e r is = states_of_test s n r (λ x. is_true (environment_in layout) e (state_of layout x)) is (λ x y agree. ap (is_true (environment_in layout) e) (state_below vars layout n frame x y agree))

-- ---- bits freed
-- whether a state or one that differs from it in this bit alone is in the set, if the bit is among some
abbrev pub freed_test : Store → ℕ → ℕ → SetId → ℕ → Bool
freed_test s bits i set x = cond (bit_at bits i == 1) (has s set (with_bit x i 0) || has s set (with_bit x i 1)) (has s set x)

-- r has all assignments that differ from a member of the set in some of the bits below n at most, of those below i
abbrev pub HasFreedBelow : Store → ℕ → ℕ → ℕ → SetId → SetId → Type 0
HasFreedBelow s n bits i from r = (x y : ℕ) → has s from x ≡ true → ((k : ℕ) → k < n → (i ≤ k) ⊎ (bit_at bits k ≡ 0) → bit_at x k ≡ bit_at y k) → has s r y ≡ true

pub freed_none : (s : Store) (n bits : ℕ) (from : SetId) → AreStates s n from → HasFreedBelow s n bits 0 from from
freed_none s n bits from is x y hx agree = sym (is.same x y (λ k h. agree k h (inl (omega arith)))) ∙ hx

pub freed_all : (s : Store) (n bits i : ℕ) (from r : SetId) → n ≤ i → HasFreedBelow s n bits i from r → HasFreed s n bits from r
freed_all s n bits i from r h is x y hx agree = is x y hx (λ k l c. ⊎_elim (λ (m : i ≤ k). absurd (omega (arith, h, l, m))) (λ (z : bit_at bits k ≡ 0). agree k l z) c)

with_agree : (n x y i v : ℕ) → v < 2 → AgreeBelow n x y → AgreeBelow n (with_bit x i v) (with_bit y i v)
with_agree n x y i v small agree k h = ⊎_elim
    (λ (e : k ≡ i). subst (λ m. bit_at (with_bit x i v) m ≡ bit_at (with_bit y i v) m) (sym e) (bit_at-with_bit_same x i v small ∙ sym (bit_at-with_bit_same y i v small)))
    (λ (ne : k ≡ i → ⊥). bit_at-with_bit_other x i v k ne ∙ agree k h ∙ sym (bit_at-with_bit_other y i v k ne))
    (cases_eq k i)

pub freed_states : (s t : Store) (n bits i : ℕ) (set r : SetId) → AreStates s n set → IsSet t r (freed_test s bits i set) → AreStates t n r
freed_states s t n bits i set r was is = states_of_test t n r (freed_test s bits i set) is
    (λ x y agree. (λ j. cond (bit_at bits i == 1)
    (was.same (with_bit x i 0) (with_bit y i 0) (with_agree n x y i 0 (omega arith) agree) j || was.same (with_bit x i 1) (with_bit y i 1) (with_agree n x y i 1 (omega arith) agree) j)
    (was.same x y agree j)))

pub freed_next : (s t : Store) → Keeps s t → (n bits i : ℕ) (from set r : SetId) → IsKnown s from → HasFreedBelow s n bits i from set → IsSet t r (freed_test s bits i set) → HasFreedBelow t n bits (i + 1) from r
freed_next s t keeps n bits i from set r known was is x y hx agree = is.members y ∙ at (bit_at bits i == 1) refl
  where
    old : has s from x ≡ true
    old = sym (keeps.same from x known) ∙ hx

    later : (k : ℕ) → (k ≡ i → ⊥) → (i ≤ k) ⊎ (bit_at bits k ≡ 0) → (i + 1 ≤ k) ⊎ (bit_at bits k ≡ 0)
    later k ne c = ⊎_elim (λ (h : i ≤ k). inl (omega (arith, h, ne))) (λ (z : bit_at bits k ≡ 0). inr z) c

    through : (v : ℕ) → v < 2 → bit_at x i ≡ v → (k : ℕ) → k < n → (i ≤ k) ⊎ (bit_at bits k ≡ 0) → bit_at x k ≡ bit_at (with_bit y i v) k
    through v small z k h c = ⊎_elim
        (λ (e : k ≡ i). subst (λ m. bit_at x m ≡ bit_at (with_bit y i v) m) (sym e) (z ∙ sym (bit_at-with_bit_same y i v small)))
        (λ (ne : k ≡ i → ⊥). agree k h (later k ne c) ∙ sym (bit_at-with_bit_other y i v k ne))
        (cases_eq k i)

    here : (k : ℕ) → bit_at bits i ≡ 0 → (i ≤ k) ⊎ (bit_at bits k ≡ 0) → (i + 1 ≤ k) ⊎ (bit_at bits k ≡ 0)
    here k z c = ⊎_elim (λ (e : k ≡ i). inr (ap (bit_at bits) e ∙ z)) (λ (ne : k ≡ i → ⊥). later k ne c) (cases_eq k i)

    at : (b : Bool) → (bit_at bits i == 1) ≡ b → freed_test s bits i set y ≡ true
    at true e = ap (λ b. cond b (has s set (with_bit y i 0) || has s set (with_bit y i 1)) (has s set y)) e
        ∙ ⊎_elim
        (λ (z : bit_at x i ≡ 0). or_left (has s set (with_bit y i 0)) (has s set (with_bit y i 1)) (was x (with_bit y i 0) old (through 0 (omega arith) z)))
        (λ (z : bit_at x i ≡ 1). or_right (has s set (with_bit y i 0)) (has s set (with_bit y i 1)) (was x (with_bit y i 1) old (through 1 (omega arith) z)))
        (bit_cases x i)
    at false e = ap (λ b. cond b (has s set (with_bit y i 0) || has s set (with_bit y i 1)) (has s set y)) e
        ∙ was x y old (λ k h c. agree k h (here k (zero_is bits i e) c))

-- ---- a bit known
-- whether a bit has a value
abbrev pub bit_is : Bool → ℕ → ℕ → Bool
bit_is value bit x = cond value (bit_at x bit == 1) (not (bit_at x bit == 1))

pub having_states : (s t : Store) (n bit : ℕ) (value : Bool) (set r : SetId) → bit < n → AreStates s n set → IsSet t r (λ x. has s set x && bit_is value bit x) → AreStates t n r
having_states s t n bit value set r h was is = states_of_test t n r (λ x. has s set x && bit_is value bit x) is
    (λ x y agree. (λ j. was.same x y agree j && cond value (agree bit h j == 1) (not (agree bit h j == 1))))

-- from a digit that has one value in all states of a set
pub having_those : (s t : Store) → Keeps s t → (bit : ℕ) (value : Bool) (from a to r : SetId) → IsKnown s from → IsKnown s a → IsKnown s to
    → ((x : ℕ) → has s from x ≡ true → has s a x ≡ value) → IsSet t r (λ x. has s to x && bit_is value bit x) → HasThose t (λ x y. bit_at y bit ≡ digit t a x) from to r
having_those s t keeps bit value from a to r kf ka kt one is x y hx hy e =
    is.members y ∙ and_from (has s to y) (bit_is value bit y) (sym (keeps.same to y kt) ∙ hy) (there value (keeps.same a x ka ∙ one x (sym (keeps.same from x kf) ∙ hx)))
  where
    there : (b : Bool) → has t a x ≡ b → bit_is b bit y ≡ true
    there true k = is_one y bit (e ∙ ap (λ b. cond b 1 0) k)
    there false k = not_from_false (bit_at y bit == 1) (is_zero y bit (e ∙ ap (λ b. cond b 1 0) k))

-- ---- relations of members
pub those-keeps : (s t : Store) → Keeps s t → (F G : ℕ → ℕ → Type 0) (from to r : SetId) → IsKnown s from → IsKnown s to → IsKnown s r → ((x y : ℕ) → G x y → F x y) → HasThose s F from to r → HasThose t G from to r
those-keeps s t k F G from to r kf kt kr f is x y hx hy g = k.same r y kr ∙ is x y (sym (k.same from x kf) ∙ hx) (sym (k.same to y kt) ∙ hy) (f x y g)

pub those_then : (t : Store) (F G H : ℕ → ℕ → Type 0) (from to mid r : SetId) → ((x y : ℕ) → H x y → F x y × G x y) → HasThose t F from to mid → HasThose t G from mid r → HasThose t H from to r
those_then t F G H from to mid r f first second x y hx hy h = let p = f x y h in second x y hx (first x y hx hy p.0) p.1

-- the first digits, so many, are what they become in the second state
abbrev pub Digits : Store → ℕ → List SetId → ℕ → ℕ → ℕ → Type 0
Digits s first digits n x y = (i : ℕ) → i < n → bit_at y (first + i) ≡ digit s (set_at digits i) x

pub digits_none : (s : Store) (F : ℕ → ℕ → Type 0) (from to : SetId) → HasThose s F from to to
digits_none s F from to x y hx hy f = hy

pub digits_next : (s t : Store) → Keeps s t → (first n : ℕ) (digits : List SetId) (from to mid r : SetId) → All (IsKnown s) digits → n < length digits → IsKnown s from → IsKnown s to → IsKnown s mid
    → HasThose s (Digits s first digits n) from to mid → HasThose t (λ x y. bit_at y (first + n) ≡ digit t (set_at digits n) x) from mid r → HasThose t (Digits t first digits (n + 1)) from to r
digits_next s t k first n digits from to mid r known h kf kt km one next =
    those_then t (Digits t first digits n) (λ x y. bit_at y (first + n) ≡ digit t (set_at digits n) x) (Digits t first digits (n + 1)) from to mid r
    (λ x y all. ((λ i l. all i (omega (arith, l))), all n (omega arith)))
    (those-keeps s t k (Digits s first digits n) (Digits t first digits n) from to mid kf kt km
    (λ x y all i l. all i l ∙ digit-keeps s t k (set_at digits i) x (known i (record { 0 = 0 }) (omega (arith, l, h)))) one)
    next
