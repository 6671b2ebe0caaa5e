-- The bits of different variables are apart.
use Rattle.std.proofs.Common.{◌≡◌, ◌⊎◌, inl, inr, ℕ, ◌+◌, ◌/◌, ◌%◌, ◌^◌, ◌<◌, ◌≤◌, ◌==◌, Bool, true, false, cond, List, [], ◌∷◌, Option, Some, None, refl, sym, ap, ◌∙◌, arith, ⊎_elim}
use Rattle.std.proofs.Math.Nat.{mod-lt}
use Rattle.std.proofs.lemmas.Bool.{cases_Bool, eqb-true, eq-eqb}
use Rattle.std.proofs.lemmas.Nat.{pow_pos}
use Rattle.std.proofs.lemmas.Nat.Bits.{same_from_bits_below}
use Rattle.std.specs.Int.{bit_at}
use Rattle.occ_syntax.specs.occ_base.declared.names.Name.{Name}
use Rattle.occ_syntax.specs.occ_base.declared.width.Width.{Width}
use Rattle.occ_syntax.specs.occ_base.Width.{bits_of}
use Rattle.occ_syntax.specs.declared.scope.Kind.{Kind}
use Rattle.occ_syntax.specs.declared.scope.Kind.TheVariants.{Var, Chan}
use Rattle.occ_syntax.specs.Scopes.{with_value}
use Rattle.occ_norm_frame.specs.occ_bits.Layout.{IsLayout, entry_of, laid_out, scope_in, state_of}
use Rattle.occ_norm_frame.proofs.from_bits.Arithmetic.{higher_bit, low_bit}
use Rattle.occ_norm_frame.proofs.from_bits.Laid.{found_state, same_pair}
use Rattle.occ_norm_frame.proofs.After.{zero_off}

-- ---- a variable's number and its bits
pub row_bit : (x f n i : ℕ) → i < n → bit_at (x / 2 ^ f % 2 ^ n) i ≡ bit_at x (f + i)
row_bit x f n i h = low_bit (x / 2 ^ f) n i h ∙ higher_bit x f i

pub same_row : (x y f n : ℕ) → ((i : ℕ) → i < n → bit_at x (f + i) ≡ bit_at y (f + i)) → x / 2 ^ f % 2 ^ n ≡ y / 2 ^ f % 2 ^ n
same_row x y f n h = same_from_bits_below n _ _ (mod-lt (x / 2 ^ f) (pow_pos n)) (mod-lt (y / 2 ^ f) (pow_pos n)) (λ i k. row_bit x f n i k ∙ h i k ∙ sym (row_bit y f n i k))

pub row_is : (x f n v : ℕ) → v < 2 ^ n → ((i : ℕ) → i < n → bit_at x (f + i) ≡ bit_at v i) → x / 2 ^ f % 2 ^ n ≡ v
row_is x f n v below h = same_from_bits_below n _ _ (mod-lt (x / 2 ^ f) (pow_pos n)) below (λ i k. row_bit x f n i k ∙ h i k)

-- ---- the bits of different variables
starts : (a : ℕ) (scope : List (Name × Kind)) (y : ℕ) (w : Width) (f : ℕ) → entry_of (laid_out a scope) y ≡ Some (w, f) → a ≤ f
starts a [] y w f e = absurd (cc)
starts a ((n, Var v) ∷ scope) y w f e = ⊎_elim
    (λ (t : (y == n.0) ≡ true).
    let here : a ≡ f = ap (λ (p : Width × ℕ). p.1) (same_pair (v, a) (w, f) (sym (ap (λ b. cond b (Some (v, a)) (entry_of (laid_out (a + bits_of v) scope) y)) t) ∙ e)) in omega arith)
    (λ (t : (y == n.0) ≡ false). omega (arith, starts (a + bits_of v) scope y w f (sym (ap (λ b. cond b (Some (v, a)) (entry_of (laid_out (a + bits_of v) scope) y)) t) ∙ e)))
    (cases_Bool (y == n.0))
starts a ((n, Chan v d) ∷ scope) y w f e = starts a scope y w f e

apart_in : (a : ℕ) (scope : List (Name × Kind)) (y z : ℕ) (v w : Width) (f g : ℕ) → (y == z) ≡ false → entry_of (laid_out a scope) y ≡ Some (v, f) → entry_of (laid_out a scope) z ≡ Some (w, g)
    → (f + bits_of v ≤ g) ⊎ (g + bits_of w ≤ f)
apart_in a [] y z v w f g ne e k = absurd (cc)
apart_in a ((n, Chan u d) ∷ scope) y z v w f g ne e k = apart_in a scope y z v w f g ne e k
apart_in a ((n, Var u) ∷ scope) y z v w f g ne e k = both (λ i j. apart_in (a + bits_of u) scope y z v w f g ne i j) (y == n.0) (z == n.0) refl refl
  where
    rest : List (Name × Width × ℕ)
    rest = laid_out (a + bits_of u) scope

    both : (entry_of rest y ≡ Some (v, f) → entry_of rest z ≡ Some (w, g) → (f + bits_of v ≤ g) ⊎ (g + bits_of w ≤ f)) → (b c : Bool) → (y == n.0) ≡ b → (z == n.0) ≡ c → (f + bits_of v ≤ g) ⊎ (g + bits_of w ≤ f)
    both later_on true true s t = absurd (let q : true ≡ false = sym (eq-eqb y z (eqb-true y n.0 s ∙ sym (eqb-true z n.0 t))) ∙ ne in cc)
    both later_on true false s t =
        let sum : a + bits_of u ≡ f + bits_of v = ap (λ (p : Width × ℕ). p.1 + bits_of p.0) (same_pair (u, a) (v, f) (sym (ap (λ b. cond b (Some (u, a)) (entry_of rest y)) s) ∙ e)) in
        let later : a + bits_of u ≤ g = starts (a + bits_of u) scope z w g (sym (ap (λ b. cond b (Some (u, a)) (entry_of rest z)) t) ∙ k) in
        inl (omega arith)
    both later_on false true s t =
        let sum : a + bits_of u ≡ g + bits_of w = ap (λ (p : Width × ℕ). p.1 + bits_of p.0) (same_pair (u, a) (w, g) (sym (ap (λ b. cond b (Some (u, a)) (entry_of rest z)) t) ∙ k)) in
        let later : a + bits_of u ≤ f = starts (a + bits_of u) scope y v f (sym (ap (λ b. cond b (Some (u, a)) (entry_of rest y)) s) ∙ e) in
        inr (omega arith)
    both later_on false false s t = later_on (sym (ap (λ b. cond b (Some (u, a)) (entry_of rest y)) s) ∙ e) (sym (ap (λ b. cond b (Some (u, a)) (entry_of rest z)) t) ∙ k)

pub apart : (entries : List (Name × Width × ℕ)) → IsLayout entries → (y z : ℕ) (v w : Width) (f g : ℕ) → (y == z) ≡ false → entry_of entries y ≡ Some (v, f) → entry_of entries z ≡ Some (w, g)
    → (f + bits_of v ≤ g) ⊎ (g + bits_of w ≤ f)
apart entries is y z v w f g ne e k = apart_in 0 (scope_in entries) y z v w f g ne (ap (λ es. entry_of es y) (sym is.laid) ∙ e) (ap (λ es. entry_of es z) (sym is.laid) ∙ k)

-- ---- the state once the bits of one variable are others
pub state_put : (entries : List (Name × Width × ℕ)) → IsLayout entries → (y : ℕ) (w : Width) (f x z v : ℕ) → entry_of entries y ≡ Some (w, f) → v < 2 ^ bits_of w
    → ((i : ℕ) → i < bits_of w → bit_at z (f + i) ≡ bit_at v i) → ((k : ℕ) → (k < f) ⊎ (f + bits_of w ≤ k) → bit_at z k ≡ bit_at x k)
    → state_of entries z ≡ with_value (state_of entries x) y v
state_put entries is y w f x z v found below inside outside = λ i u. at u i
  where
    other : (u : ℕ) (o : Option (Width × ℕ)) → (u == y) ≡ false → entry_of entries u ≡ o → state_of entries z u ≡ state_of entries x u
    other u None ne e = zero_off entries z u e ∙ sym (zero_off entries x u e)
    other u (Some (d, g)) ne e =
        found_state entries u d g z e
        ∙ same_row z x g (bits_of d) (λ i h. outside (g + i) (⊎_elim
        (λ (l : g + bits_of d ≤ f). inl (omega arith))
        (λ (l : f + bits_of w ≤ g). inr (omega arith))
        (apart entries is u y d w g f ne e found)))
        ∙ sym (found_state entries u d g x e)

    at : (u : ℕ) → state_of entries z u ≡ with_value (state_of entries x) y v u
    at u = ⊎_elim
        (λ (t : (u == y) ≡ true).
        ap (state_of entries z) (eqb-true u y t) ∙ found_state entries y w f z found ∙ row_is z f (bits_of w) v below inside ∙ sym (ap (λ b. cond b v (state_of entries x u)) t))
        (λ (t : (u == y) ≡ false). other u (entry_of entries u) t refl ∙ sym (ap (λ b. cond b v (state_of entries x u)) t))
        (cases_Bool (u == y))
