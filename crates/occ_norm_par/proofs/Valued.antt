-- Assignments: what each variable has behind them, bit by bit.
use Rattle.std.proofs.Common.{◌≡◌, ◌&&◌, ⊎_elim, ℕ, zero, suc, ◌+◌, ◌/◌, ◌^◌, ◌<◌, ◌≤◌, ◌==◌, ◌||◌, Bool, true, false, not, cond, List, [], ◌∷◌, Some, get_or, length, refl, sym, ap, ◌∙◌, subst, arith}
use Rattle.std.specs.Int.{bit_at}
use Rattle.std.specs.List.{list_any}
use Rattle.std.proofs.lemmas.Bool.{and_parts, cases_Bool, eq-eqb, eqb-true}
use Rattle.occ_syntax.specs.occ_base.declared.names.Name.{Name}
use Rattle.occ_syntax.specs.occ_base.declared.width.Width.{Width}
use Rattle.occ_syntax.specs.occ_base.Width.{bits_of}
use Rattle.occ_norm_frame.specs.occ_bits.Layout.{entry_of, environment_in, laid_out, state_of}
use Rattle.occ_norm_frame.specs.occ_bits.Words.{IsValue, digit, value_at}
use Rattle.occ_norm_frame.proofs.from_bits.Arithmetic.{higher_bit, low_bit}
use Rattle.occ_norm_frame.proofs.from_bits.Compared.{same_count}
use Rattle.occ_norm_frame.proofs.from_bits.Laid.{found_state, found_width, same_pair}
use Rattle.occ_norm_frame.proofs.from_bits.Numbers.{number_bit, word-keeps}
use Rattle.occ_norm_frame.proofs.from_bits.Parts.{value_same}
use Rattle.occ_norm_frame.specs.occ_dd.Store.{IsKnown, Keeps}
use Rattle.occ_norm_frame.specs.occ_dd.declared.set.SetId.{SetId}
use Rattle.occ_norm_frame.specs.occ_dd.declared.store.Store.{Store}
use Rattle.occ_norm_frame.proofs.from_meaning.Facts.{none_not_some}
use Rattle.occ_syntax.specs.declared.expr.Expr.{Expr}
use Rattle.occ_syntax.specs.declared.scope.Kind.{Kind}
use Rattle.occ_syntax.specs.declared.scope.Kind.TheVariants.{Var, Chan}
use Rattle.occ_syntax.specs.Counts.{bits_of_scope}
use Rattle.occ_syntax.specs.Eval.{bits_in, bits_of_exp, eval}
use Rattle.occ_syntax.specs.Meaning.{Outcome, assigned, ended, refusing, ends as part_ends}
use Rattle.occ_syntax.specs.Scopes.{Environment, Values, variable_width}
use Rattle.occ_syntax.specs.Tree.{Exp, Tree, assign, variable}
use Rattle.occ_syntax.specs.Types.{agree, is_pair, pairs_kept, type_of, types_kept}
use Rattle.occ_syntax.specs.View.{exp, exps, numbers}
use Rattle.occ_norm_frame.specs.Placed.{Fits, IsFrame}
use Rattle.occ_norm_frame.proofs.Placing.{fits_assign, pair_at, width_here}
use Rattle.occ_norm_par.specs.States.{EndsIn, HasThose, set_at}
use Rattle.occ_norm_par.proofs.Freeing.{those-keeps}

abbrev end_of : Outcome → Values
end_of (ended s) = s
end_of (refusing X) = λ x. 0

pub same_end : (s r : Values) → ended s ≡ ended r → s ≡ r
same_end s r e = ap end_of e

-- ---- the bits of a variable
slot_in : (a : ℕ) (scope : List (Name × Kind)) (y : ℕ) (w : Width) (f : ℕ) → entry_of (laid_out a scope) y ≡ Some (w, f) → f + bits_of w ≤ a + bits_of_scope scope
slot_in a [] y w f e = none_not_some e
slot_in a ((n, Chan v d) ∷ scope) y w f e = omega (arith, slot_in a scope y w f e)
slot_in a ((n, Var v) ∷ scope) y w f e = ⊎_elim
    (λ (t : (y == n.0) ≡ true). let g : (v, a) ≡ (w, f) = same_pair (v, a) (w, f) (sym (ap (λ b. cond b (Some (v, a)) (entry_of (laid_out (a + bits_of v) scope) y)) t) ∙ e) in
    let at : a ≡ f = ap (λ (p : Width × ℕ). p.1) g in
    let long : bits_of v ≡ bits_of w = ap (λ (p : Width × ℕ). bits_of p.0) g in omega arith)
    (λ (t : (y == n.0) ≡ false). omega (arith, slot_in (a + bits_of v) scope y w f (sym (ap (λ b. cond b (Some (v, a)) (entry_of (laid_out (a + bits_of v) scope) y)) t) ∙ e)))
    (cases_Bool (y == n.0))

-- a variable's bits are below the count of the frame
pub slot_below : (vars : List (Name × Kind)) (layout : List (Name × Width × ℕ)) (n : ℕ) → IsFrame vars layout n → (y : ℕ) (w : Width) (f : ℕ) → entry_of layout y ≡ Some (w, f) → f + bits_of w ≤ n
slot_below vars layout n frame y w f e =
    let count : n ≡ bits_of_scope vars = frame.bits_are in
    let low = slot_in 0 vars y w f (ap (λ l. entry_of l y) (sym frame.layout_is) ∙ e) in
    omega (arith, count, low)

-- a value has as many bits as the variable that it goes to
pub count_of : (layout : List (Name × Width × ℕ)) (y : ℕ) (w : Width) (f : ℕ) (e : Exp) → entry_of layout y ≡ Some (w, f)
    → agree (variable_width (environment_in layout) y) (type_of (environment_in layout) e) ≡ true → bits_of_exp (environment_in layout) e ≡ bits_of w
count_of layout y w f e found h = sym (same_count (environment_in layout) (variable y) e h) ∙ ap bits_in (found_width layout y w f found)

-- a variable that has a value has the bits of the digits of that value
pub bits_of_value : (s : Store) (layout : List (Name × Width × ℕ)) (v : ℕ) (w : Width) (f : ℕ) (e : Exp) (sets : List SetId) (d : SetId) → entry_of layout v ≡ Some (w, f) → IsValue s layout e sets
    → bits_of_exp (environment_in layout) e ≡ bits_of w → (x y : ℕ) → state_of layout y v ≡ value_at layout e x → (i : ℕ) → i < length sets → bit_at y (f + i) ≡ digit s (get_or sets i d) x
bits_of_value s layout v w f e sets d found is count x y same i h =
    let low : i < bits_of w = subst (λ n. i < n) (is.digits ∙ count) h in
    sym (low_bit (y / 2 ^ f) (bits_of w) i low ∙ higher_bit y f i)
    ∙ ap (λ m. bit_at m i) (sym (found_state layout v w f y found) ∙ same ∙ sym (is.number x))
    ∙ number_bit s sets x i d h

-- ---- the values that an assignment gives
assigned_at : (Γ : Environment) (xs : List Name) (es : List Expr) (i : ℕ) (x : Name) (e : Expr) (s : Values) → pairs_kept Γ (numbers xs) (exps es) ≡ true → i < length xs
    → assigned (numbers xs) (exps es) Γ s (get_or xs i x).0 ≡ eval Γ (exp (get_or es i e)) s
assigned_at Γ [] es i x e s h k = absurd (omega (arith, k))
assigned_at Γ (y ∷ xs) [] i x e s h k = absurd (let f : false ≡ true = h in cc)
assigned_at Γ (y ∷ xs) (d ∷ es) zero x e s h k = ap (λ b. cond b (eval Γ (exp d) s) (assigned (numbers xs) (exps es) Γ s y.0)) (eq-eqb y.0 y.0 refl)
assigned_at Γ (y ∷ xs) (d ∷ es) (suc i) x e s h k =
    let p = and_parts (agree (variable_width Γ y.0) (type_of Γ (exp d)) && not (list_any (λ z. y.0 == z) (numbers xs))) (pairs_kept Γ (numbers xs) (exps es)) h in
    let q = and_parts (agree (variable_width Γ y.0) (type_of Γ (exp d))) (not (list_any (λ z. y.0 == z) (numbers xs))) p.0 in
    ap (λ b. cond b (eval Γ (exp d) s) (assigned (numbers xs) (exps es) Γ s (get_or xs i x).0)) (off xs i (omega (arith, k)) q.1)
    ∙ assigned_at Γ xs es i x e s p.1 (omega (arith, k))
  where
    first_off : (p q : Bool) → not (p || q) ≡ true → (p ≡ false) × (not q ≡ true)
    first_off true q h = absurd (let f : false ≡ true = h in cc)
    first_off false q h = (refl, h)

    turned : (a b : ℕ) → (a == b) ≡ false → (b == a) ≡ false
    turned a b h = ⊎_elim (λ (t : (b == a) ≡ true). absurd (let f : true ≡ false = sym (eq-eqb a b (sym (eqb-true b a t))) ∙ h in cc)) (λ (t : (b == a) ≡ false). t) (cases_Bool (b == a))

    off : (zs : List Name) (j : ℕ) → j < length zs → not (list_any (λ z. y.0 == z) (numbers zs)) ≡ true → ((get_or zs j x).0 == y.0) ≡ false
    off [] j l n = absurd (omega (arith, l))
    off (z ∷ zs) zero l n = turned y.0 z.0 (first_off (y.0 == z.0) (list_any (λ z. y.0 == z) (numbers zs)) n).0
    off (z ∷ zs) (suc j) l n = off zs j (omega (arith, l)) (first_off (y.0 == z.0) (list_any (λ z. y.0 == z) (numbers zs)) n).1

-- the first variables, so many, have in y the values of their expressions in x
abbrev pub Valued : List (Name × Width × ℕ) → List Name → List Expr → Expr → ℕ → ℕ → ℕ → Type 0
Valued layout xs es d n x y = (i : ℕ) → i < n → state_of layout y (get_or xs i (record { 0 = 0 })).0 ≡ value_at layout (exp (get_or es i d)) x

pub assigned_ends : (s : Store) (vars : List (Name × Kind)) (layout : List (Name × Width × ℕ)) (n : ℕ) → IsFrame vars layout n → (p : Tree) (xs : List Name) (es : List Expr) (d : Expr) (count : ℕ) (from all r : SetId)
    → p ≡ assign (numbers xs) (exps es) → count ≤ length xs → EndsIn s vars layout p from all → HasThose s (Valued layout xs es d count) from all r → EndsIn s vars layout p from r
assigned_ends s vars layout n frame p xs es d count from all r e few ends those Γ around types x y t hx done =
    those x y hx (ends Γ around types x y t hx done) values
  where
    kept : pairs_kept Γ (numbers xs) (exps es) ≡ true
    kept = (and_parts (is_pair (numbers xs)) (pairs_kept Γ (numbers xs) (exps es)) (ap (λ q. types_kept q Γ) (sym e) ∙ types)).1

    state : state_of layout y ≡ assigned (numbers xs) (exps es) Γ (state_of layout x)
    state = same_end (state_of layout y) (assigned (numbers xs) (exps es) Γ (state_of layout x)) (subst (λ q. part_ends Γ q (state_of layout x) t (state_of layout y)) e done).1

    values : Valued layout xs es d count x y
    values i h = (λ j. state j (get_or xs i (record { 0 = 0 })).0) ∙ assigned_at Γ xs es i (record { 0 = 0 }) d (state_of layout x) kept (omega (arith, h, few))
        ∙ value_same Γ (environment_in layout) (state_of layout x) (state_of layout x) (exp (get_or es i d)) (λ z k. width_here Γ vars layout n frame around z) (λ z k. refl)

-- nothing is known of any variable yet
pub valued_none : (s : Store) (F : ℕ → ℕ → Type 0) (from all : SetId) → HasThose s F from all all
valued_none s F from all x y hx hy f = hy

-- one more variable; the stores: before, with the value's digits, after
pub valued_next : (s t u : Store) → Keeps s u → Keeps t u → (layout : List (Name × Width × ℕ)) (xs : List Name) (es : List Expr) (d e : Expr) (n : ℕ) (w : Width) (f : ℕ) (sets : List SetId) (from all mid r : SetId)
    → IsKnown s from → IsKnown s all → IsKnown s mid → e ≡ get_or es n d
    → entry_of layout (get_or xs n (record { 0 = 0 })).0 ≡ Some (w, f) → IsValue t layout (exp e) sets → bits_of_exp (environment_in layout) (exp e) ≡ bits_of w
    → HasThose s (Valued layout xs es d n) from all mid → HasThose u (λ x y. (i : ℕ) → i < length sets → bit_at y (f + i) ≡ digit u (set_at sets i) x) from mid r
    → HasThose u (Valued layout xs es d (n + 1)) from all r
valued_next s t u k l layout xs es d e n w f sets from all mid r kf ka km at found is count first second x y hx hy values =
    second x y hx (those-keeps s u k (Valued layout xs es d n) (Valued layout xs es d n) from all mid kf ka km (λ x y v. v) first x y hx hy (λ i h. values i (omega (arith, h))))
    (bits_of_value u layout (get_or xs n (record { 0 = 0 })).0 w f (exp e) sets (record { 0 = 0 }) found (word-keeps t u l (bits_of_exp (environment_in layout) (exp e)) sets (value_at layout (exp e)) is) count x y
    (values n (omega arith) ∙ ap (λ (b : Expr). value_at layout (exp b) x) (sym at)))

-- the types of a variable and its value
pub agree_at : (vars : List (Name × Kind)) (layout : List (Name × Width × ℕ)) (n : ℕ) → IsFrame vars layout n → (p : Tree) → Fits vars p → (xs : List Name) (es : List Expr) → p ≡ assign (numbers xs) (exps es) → (i : ℕ) (e : Expr) → i < length xs → e ≡ get_or es i e
    → agree (variable_width (environment_in layout) (get_or xs i (record { 0 = 0 })).0) (type_of (environment_in layout) (exp e)) ≡ true
agree_at vars layout n frame p fits xs es is i e h at =
    subst (λ (d : Expr). agree (variable_width (environment_in layout) (get_or xs i (record { 0 = 0 })).0) (type_of (environment_in layout) (exp d)) ≡ true) (sym at)
    (pair_at (environment_in layout) xs es i (record { 0 = 0 }) e (fits_assign vars layout n frame p (numbers xs) (exps es) fits is) h)
