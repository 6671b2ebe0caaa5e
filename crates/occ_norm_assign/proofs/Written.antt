-- What the writes of an assignment make of an assignment of bits, and of the state that it stands for.
use Rattle.std.proofs.Common.{◌≡◌, ◌⊎◌, inl, inr, ℕ, zero, suc, ◌+◌, ◌<◌, ◌≤◌, ◌^◌, ◌==◌, ◌||◌, ◌++◌, Bool, true, false, not, cond, List, [], ◌∷◌, Some, length, get_or, refl, sym, ap, ◌∙◌, subst, arith, append_assoc, ⊎_elim}
use Rattle.std.proofs.lemmas.Bool.{and_parts, eqb-true, eq-eqb}
use Rattle.std.specs.Int.{bit_at}
use Rattle.std.specs.List.{list_any}
use Rattle.occ_syntax.specs.occ_base.declared.names.Name.{Name}
use Rattle.occ_syntax.specs.occ_base.declared.width.Width.{Width}
use Rattle.occ_syntax.specs.occ_base.Width.{bits_of}
use Rattle.occ_norm_frame.specs.occ_bits.Layout.{IsLayout, entry_of, environment_in, state_of}
use Rattle.occ_norm_frame.specs.occ_bits.Words.{digit, number_at, value_at}
use Rattle.occ_norm_frame.proofs.from_bits.Compared.{same_count}
use Rattle.occ_norm_frame.proofs.from_bits.Laid.{found_width}
use Rattle.occ_norm_frame.proofs.from_bits.Numbers.{digit_small, number_below, number_bit, word-keeps}
use Rattle.occ_norm_frame.specs.occ_dd.Assignment.{with_bit}
use Rattle.occ_norm_frame.proofs.from_dd.Bits.{bit_at-with_bit_other, bit_at-with_bit_same}
use Rattle.occ_norm_frame.specs.occ_dd.Store.{Keeps}
use Rattle.occ_norm_frame.specs.occ_dd.declared.set.SetId.{SetId}
use Rattle.occ_norm_frame.specs.occ_dd.declared.store.Store.{Store}
use Rattle.occ_syntax.specs.Eval.{bits_in, bits_of_exp, eval}
use Rattle.occ_syntax.specs.Meaning.{assigned}
use Rattle.occ_syntax.specs.Scopes.{Environment, Values, variable_width, with_value}
use Rattle.occ_syntax.specs.Tree.{Exp, variable}
use Rattle.occ_syntax.specs.Types.{agree, pairs_kept, type_of}
use Rattle.occ_norm_assign.specs.Written.{AreAssigned, IsWritten, digit_writes, onto}
use Rattle.occ_norm_assign.specs.declared.writes.Write.{Write}
use Rattle.occ_norm_assign.proofs.Places.{state_put}

-- ---- writes in turn
pub onto_append : (s : Store) (first second : List Write) (x y : ℕ) → onto s (first ++ second) x y ≡ onto s second x (onto s first x y)
onto_append s [] second x y = refl
onto_append s (w ∷ first) second x y = onto_append s first second x (with_bit y w.bit (digit s w.set x))

pub onto_outside : (s : Store) (sets : List SetId) (f x y k : ℕ) → (k < f) ⊎ (f + length sets ≤ k) → bit_at (onto s (digit_writes f sets) x y) k ≡ bit_at y k
onto_outside s [] f x y k out = refl
onto_outside s (a ∷ sets) f x y k out =
    onto_outside s sets (f + 1) x (with_bit y f (digit s a x)) k (⊎_elim (λ (h : k < f). inl (omega arith)) (λ (h : f + suc (length sets) ≤ k). inr (omega arith)) out)
    ∙ bit_at-with_bit_other y f (digit s a x) k (⊎_elim (λ (h : k < f). λ (e : k ≡ f). omega arith) (λ (h : f + suc (length sets) ≤ k). λ (e : k ≡ f). omega arith) out)

pub onto_inside : (s : Store) (sets : List SetId) (f x y i : ℕ) (d : SetId) → i < length sets → bit_at (onto s (digit_writes f sets) x y) (f + i) ≡ digit s (get_or sets i d) x
onto_inside s [] f x y i d h = absurd (omega (arith, h))
onto_inside s (a ∷ sets) f x y zero d h =
    let here : f + 0 ≡ f = omega arith in
    ap (λ k. bit_at (onto s (digit_writes (f + 1) sets) x (with_bit y f (digit s a x))) k) here
    ∙ onto_outside s sets (f + 1) x (with_bit y f (digit s a x)) f (inl (omega arith)) ∙ bit_at-with_bit_same y f (digit s a x) (digit_small s a x)
onto_inside s (a ∷ sets) f x y (suc i) d h =
    let next : f + suc i ≡ f + 1 + i = omega arith in
    ap (λ k. bit_at (onto s (digit_writes (f + 1) sets) x (with_bit y f (digit s a x))) k) next
    ∙ onto_inside s sets (f + 1) x (with_bit y f (digit s a x)) i d (omega (arith, h))

-- ---- the state after the writes of one variable
pub count_is : (layout : List (Name × Width × ℕ)) (y : ℕ) (w : Width) (f : ℕ) (e : Exp) → entry_of layout y ≡ Some (w, f)
    → agree (variable_width (environment_in layout) y) (type_of (environment_in layout) e) ≡ true → bits_of_exp (environment_in layout) e ≡ bits_of w
count_is layout y w f e found h = sym (same_count (environment_in layout) (variable y) e h) ∙ ap bits_in (found_width layout y w f found)

pub state_written : (s : Store) (layout : List (Name × Width × ℕ)) → IsLayout layout → (y : ℕ) (e : Exp) (writes : List Write) → IsWritten s layout y e writes
    → agree (variable_width (environment_in layout) y) (type_of (environment_in layout) e) ≡ true → (x z : ℕ)
    → state_of layout (onto s writes x z) ≡ with_value (state_of layout z) y (value_at layout e x)
state_written s layout is y e writes w h x z =
    ap (λ ws. state_of layout (onto s ws x z)) w.each
    ∙ state_put layout is y w.width w.first z (onto s (digit_writes w.first w.sets) x z) (number_at s w.sets x) w.entry
    (subst (λ n. number_at s w.sets x < 2 ^ n) count (number_below s w.sets x))
    (λ i k. let below : i < length w.sets = subst (λ n. i < n) (sym count) k in onto_inside s w.sets w.first x z i none below ∙ sym (number_bit s w.sets x i none below))
    (λ k out. onto_outside s w.sets w.first x z k (subst (λ n. (k < w.first) ⊎ (w.first + n ≤ k)) (sym count) out))
    ∙ ap (λ v. with_value (state_of layout z) y v) (w.value.number x)
  where
    none : SetId
    none = record { 0 = 0 }

    count : length w.sets ≡ bits_of w.width
    count = w.value.digits ∙ count_is layout y w.width w.first e w.entry h

-- ---- an assignment on values that may differ from those in which the right sides are evaluated
abbrev pub put_all : List ℕ → List Exp → Environment → Values → Values → Values
put_all [] es Γ s b = b
put_all (x ∷ xs) [] Γ s b = b
put_all (x ∷ xs) (e ∷ es) Γ s b = with_value (put_all xs es Γ s b) x (eval Γ e s)

pub put_assigned : (xs : List ℕ) (es : List Exp) (Γ : Environment) (s : Values) → put_all xs es Γ s s ≡ assigned xs es Γ s
put_assigned [] es Γ s = refl
put_assigned (x ∷ xs) [] Γ s = refl
put_assigned (x ∷ xs) (e ∷ es) Γ s = ap (λ (b : Values). with_value b x (eval Γ e s)) (put_assigned xs es Γ s)

swapped : (b : Values) (x y v u : ℕ) → (x == y) ≡ false → with_value (with_value b x v) y u ≡ with_value (with_value b y u) x v
swapped b x y v u ne = λ i z. at z (z == x) (z == y) refl refl i
  where
    at : (z : ℕ) (p q : Bool) → (z == x) ≡ p → (z == y) ≡ q → with_value (with_value b x v) y u z ≡ with_value (with_value b y u) x v z
    at z true true k l = absurd (let c : true ≡ false = sym (eq-eqb x y (sym (eqb-true z x k) ∙ eqb-true z y l)) ∙ ne in cc)
    at z true false k l = (λ i. cond (l i) u (cond (k i) v (b z))) ∙ sym (λ i. cond (k i) v (cond (l i) u (b z)))
    at z false true k l = (λ i. cond (l i) u (cond (k i) v (b z))) ∙ sym (λ i. cond (k i) v (cond (l i) u (b z)))
    at z false false k l = (λ i. cond (l i) u (cond (k i) v (b z))) ∙ sym (λ i. cond (k i) v (cond (l i) u (b z)))

pub off_first : (p q : Bool) → not (p || q) ≡ true → (p ≡ false) × (not q ≡ true)
off_first true q h = absurd (cc)
off_first false q h = (refl, h)

pub put_later : (xs : List ℕ) (es : List Exp) (Γ : Environment) (s b : Values) (x v : ℕ) → not (list_any (λ y. x == y) xs) ≡ true
    → put_all xs es Γ s (with_value b x v) ≡ with_value (put_all xs es Γ s b) x v
put_later [] es Γ s b x v off = refl
put_later (y ∷ ys) [] Γ s b x v off = refl
put_later (y ∷ ys) (e ∷ es) Γ s b x v off =
    let p = off_first (x == y) (list_any (λ z. x == z) ys) off in
    ap (λ (c : Values). with_value c y (eval Γ e s)) (put_later ys es Γ s b x v p.1) ∙ swapped (put_all ys es Γ s b) x y v (eval Γ e s) p.0

-- ---- the state after all writes
pub state_all : (s : Store) (layout : List (Name × Width × ℕ)) → IsLayout layout → (ys : List ℕ) (es : List Exp) (writes : List Write) → AreAssigned s layout ys es writes → pairs_kept (environment_in layout) ys es ≡ true
    → (x z : ℕ) → state_of layout (onto s writes x z) ≡ put_all ys es (environment_in layout) (state_of layout x) (state_of layout z)
state_all s layout is [] es writes a kept x z = ap (λ ws. state_of layout (onto s ws x z)) a
state_all s layout is (y ∷ ys) [] writes a kept x z = ap (λ ws. state_of layout (onto s ws x z)) a
state_all s layout is (y ∷ ys) (e ∷ es) writes a kept x z =
    let p = and_parts _ _ kept in
    let q = and_parts _ _ p.0 in
    ap (λ ws. state_of layout (onto s ws x z)) a.whole
    ∙ ap (state_of layout) (onto_append s a.first a.others x z)
    ∙ state_all s layout is ys es a.others a.more p.1 x (onto s a.first x z)
    ∙ ap (put_all ys es (environment_in layout) (state_of layout x)) (state_written s layout is y e a.first a.written q.0 x z)
    ∙ put_later ys es (environment_in layout) (state_of layout x) (state_of layout z) y (value_at layout e x) q.1

-- ---- more writes, and a store that has grown

pub assigned_more : (s : Store) (layout : List (Name × Width × ℕ)) (ys : List ℕ) (es : List Exp) (writes part : List Write) (y : ℕ) (e : Exp) → AreAssigned s layout ys es writes → length ys ≡ length es → IsWritten s layout y e part
    → AreAssigned s layout (ys ++ y ∷ []) (es ++ e ∷ []) (writes ++ part)
assigned_more s layout [] [] writes part y e a size is = record { first = part; others = []; whole = ap (λ ws. ws ++ part) a ∙ sym (no_more part); written = is; more = refl }
  where
    no_more : (ws : List Write) → ws ++ [] ≡ ws
    no_more [] = refl
    no_more (w ∷ ws) = ap (λ (r : List Write). w ∷ r) (no_more ws)
assigned_more s layout [] (d ∷ es) writes part y e a size is = absurd (omega (arith, size))
assigned_more s layout (z ∷ ys) [] writes part y e a size is = absurd (omega (arith, size))
assigned_more s layout (z ∷ ys) (d ∷ es) writes part y e a size is = record {
  first = a.first;
  others = a.others ++ part;
  whole = ap (λ ws. ws ++ part) a.whole ∙ append_assoc a.first a.others part;
  written = a.written;
  more = assigned_more s layout ys es a.others part y e a.more (omega (arith, size)) is;
}

written-keeps : (s t : Store) → Keeps s t → (layout : List (Name × Width × ℕ)) (y : ℕ) (e : Exp) (writes : List Write) → IsWritten s layout y e writes → IsWritten t layout y e writes
written-keeps s t k layout y e writes is = record {
  width = is.width;
  first = is.first;
  sets = is.sets;
  entry = is.entry;
  value = word-keeps s t k (bits_of_exp (environment_in layout) e) is.sets (value_at layout e) is.value;
  each = is.each;
}

pub assigned-keeps : (s t : Store) → Keeps s t → (layout : List (Name × Width × ℕ)) (ys : List ℕ) (es : List Exp) (writes : List Write) → AreAssigned s layout ys es writes → AreAssigned t layout ys es writes
assigned-keeps s t k layout [] es writes a = a
assigned-keeps s t k layout (y ∷ ys) [] writes a = a
assigned-keeps s t k layout (y ∷ ys) (e ∷ es) writes a = record { first = a.first; others = a.others; whole = a.whole; written = written-keeps s t k layout y e a.first a.written; more = assigned-keeps s t k layout ys es a.others a.more }
