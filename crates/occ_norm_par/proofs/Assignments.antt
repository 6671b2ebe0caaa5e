-- Assignments, and the states that they stand for.
use Rattle.std.proofs.Common.{◌≡◌, ℕ, ◌+◌, ◌-◌, ◌/◌, ◌%◌, ◌^◌, ◌<◌, ◌≤◌, ◌==◌, true, false, cond, List, [], ◌∷◌, Option, Some, None, ⊎_elim, refl, sym, ap, ◌∙◌, subst, arith}
use Rattle.std.specs.Int.{bit_at}
use Rattle.std.proofs.lemmas.Bool.{and_parts, cases_lt, eqb-true, false_from_ne_true}
use Rattle.occ_syntax.specs.occ_base.declared.names.Name.{Name}
use Rattle.occ_syntax.specs.occ_base.declared.width.Width.{Width}
use Rattle.occ_syntax.specs.occ_base.Width.{bits_of}
use Rattle.occ_norm_frame.specs.occ_bits.Layout.{entry_of, laid_out, state_of}
use Rattle.occ_norm_frame.proofs.from_bits.Arithmetic.{higher_bit, low_bit}
use Rattle.occ_norm_frame.proofs.from_bits.Laid.{found_state, found_width, fresh_first, laid_width}
use Rattle.occ_norm_frame.proofs.from_meaning.Facts.{at_itself, none_not_some}
use Rattle.occ_norm_frame.proofs.from_meaning.Frame.{part_value}
use Rattle.occ_syntax.specs.declared.scope.Kind.{Kind}
use Rattle.occ_syntax.specs.declared.scope.Kind.TheVariants.{Var, Chan}
use Rattle.occ_syntax.specs.Counts.{bits_of_scope}
use Rattle.occ_syntax.specs.Meaning.{ends as part_ends}
use Rattle.occ_syntax.specs.Names.{written}
use Rattle.occ_syntax.specs.Scopes.{Environment, Trace, Values, environment, variable_kind, variable_width}
use Rattle.occ_syntax.specs.Tree.{Tree}
use Rattle.occ_syntax.specs.Types.{scope_kept, types_kept}
use Rattle.occ_norm_frame.proofs.After.{digits_same, states_reached, zero_off}
use Rattle.occ_norm_frame.proofs.FrameBits.{pow_more}
use Rattle.occ_norm_frame.specs.Placed.{IsAround, IsFrame}

same_digits : (x y f n : ℕ) → x / 2 ^ f % 2 ^ n ≡ y / 2 ^ f % 2 ^ n → (i : ℕ) → i < n → bit_at x (f + i) ≡ bit_at y (f + i)
same_digits x y f n e i l =
    sym (low_bit (x / 2 ^ f) n i l ∙ higher_bit x f i) ∙ ap (λ m. bit_at m i) e ∙ (low_bit (y / 2 ^ f) n i l ∙ higher_bit y f i)

-- a variable has one value in assignments that have the same of its bits
pub value_by_bits : (layout : List (Name × Width × ℕ)) (x y v : ℕ)
    → ((w : Width) (f : ℕ) → entry_of layout v ≡ Some (w, f) → (k : ℕ) → f ≤ k → k < f + bits_of w → bit_at x k ≡ bit_at y k) → state_of layout x v ≡ state_of layout y v
value_by_bits layout x y v h = each (entry_of layout v) refl
  where
    each : (o : Option (Width × ℕ)) → entry_of layout v ≡ o → state_of layout x v ≡ state_of layout y v
    each None e = zero_off layout x v e ∙ sym (zero_off layout y v e)
    each (Some (w, f)) e = found_state layout v w f x e ∙ digits_same x y f (bits_of w) (h w f e) ∙ sym (found_state layout v w f y e)

pub bits_by_value : (layout : List (Name × Width × ℕ)) (x y v : ℕ) (w : Width) (f : ℕ) → entry_of layout v ≡ Some (w, f) → state_of layout x v ≡ state_of layout y v
    → (k : ℕ) → f ≤ k → k < f + bits_of w → bit_at x k ≡ bit_at y k
bits_by_value layout x y v w f e same_value k l h =
    let here : f + (k - f) ≡ k = omega arith in
    subst (λ n. bit_at x n ≡ bit_at y n) here
    (same_digits x y f (bits_of w) (sym (found_state layout v w f x e) ∙ same_value ∙ found_state layout v w f y e) (k - f) (omega arith))

-- ---- each bit below the count is one of a variable
pub record IsCovered (layout : List (Name × Width × ℕ)) (k : ℕ) : Type 0 where
  pub var : ℕ
  pub width : Width
  pub first : ℕ
  pub found : entry_of layout var ≡ Some (width, first)
  pub low : first ≤ k
  pub high : k < first + bits_of width

covered_in : (a : ℕ) (scope : List (Name × Kind)) (k : ℕ) → scope_kept scope ≡ true → a ≤ k → k < a + bits_of_scope scope → IsCovered (laid_out a scope) k
covered_in a [] k h l u = absurd (omega arith)
covered_in a ((n, Chan w d) ∷ scope) k h l u = covered_in a scope k (and_parts _ _ h).1 l (omega arith)
covered_in a ((n, Var w) ∷ scope) k h l u = ⊎_elim
    (λ (t : k < a + bits_of w). record { var = n.0; width = w; first = a; found = ap (λ b. cond b (Some (w, a)) (entry_of (laid_out (a + bits_of w) scope) n.0)) (at_itself n.0); low = l; high = t })
    (λ (t : a + bits_of w ≤ k).
    let r = covered_in (a + bits_of w) scope k (and_parts _ _ h).1 t (omega arith) in
    let other : (r.var == n.0) ≡ false = apart r.var r.width (sym (laid_width (a + bits_of w) scope r.var (and_parts _ _ h).1) ∙ found_width (laid_out (a + bits_of w) scope) r.var r.width r.first r.found) in
    record { var = r.var; width = r.width; first = r.first; found = ap (λ b. cond b (Some (w, a)) (entry_of (laid_out (a + bits_of w) scope) r.var)) other ∙ r.found; low = r.low; high = r.high })
    (cases_lt k (a + bits_of w))
  where
    apart : (v : ℕ) (width : Width) → variable_width (environment scope) v ≡ Some width → (v == n.0) ≡ false
    apart v width e = false_from_ne_true (v == n.0)
        (λ t. none_not_some (sym (ap variable_kind (ap (environment scope) (eqb-true v n.0 t) ∙ fresh_first (n, Var w) scope h)) ∙ e))

-- the values are the state of an assignment
pub record HasEnd (layout : List (Name × Width × ℕ)) (s : Values) : Type 0 where
  pub y : ℕ
  pub below : y < 2 ^ 64
  pub is : s ≡ state_of layout y

module _ (vars : List (Name × Kind)) (layout : List (Name × Width × ℕ)) (bits : ℕ) (frame : IsFrame vars layout bits) where
  pub covered : (k : ℕ) → k < bits → IsCovered layout k
  covered k h =
      let count : bits ≡ bits_of_scope vars = frame.bits_are in
      subst (λ l. IsCovered l k) (sym frame.layout_is) (covered_in 0 vars k frame.scope (omega arith) (omega arith))

  module _ (Γ : Environment) (around : IsAround Γ vars) where
    module _ (p : Tree) (types : types_kept p Γ ≡ true) where
      -- a variable that isn't written is kept
      pub value_kept : (v : ℕ) → written p v ≡ false → (s : Values) (t : Trace) (s' : Values) → part_ends Γ p s t s' → s' v ≡ s v
      value_kept v h s t s' d = (part_value p Γ types v h).value Γ s t s' d

      -- each final state is that of an assignment
      pub end_state : (x : ℕ) (t : Trace) (s : Values) → part_ends Γ p (state_of layout x) t s → HasEnd layout s
      end_state x t s d =
          let found = states_reached vars layout bits frame Γ around p types x t s d in
          let few : bits_of_scope vars ≤ 24 = frame.few in
          let count : bits ≡ bits_of_scope vars = frame.bits_are in
          record { y = found.0; below = pow_more bits 64 found.0 (omega (arith, few, count)) found.1; is = found.2 }
