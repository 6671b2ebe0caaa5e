use Rattle.std.proofs.Common.{◌≡◌, ◌≤◌, ◌==◌, ℕ, true, false, cond, List, [], ◌∷◌, Some, sym, ap, ◌∙◌, subst, arith, ⊎_elim, refl}
use Rattle.std.proofs.lemmas.Bool.{and_parts, cases_Bool, leb-true, eq-eqb, eqb-true}
use Rattle.occ_base.specs.declared.names.Name.{Name}
use Rattle.occ_base.specs.declared.width.Width.{Width}
use Rattle.occ_base.specs.declared.width.Width.TheVariants.{Bool as TruthValue, Word}
use Rattle.occ_base.specs.Width.{bits_of}
use Rattle.occ_syntax.specs.declared.scope.Kind.{Kind}
use Rattle.occ_syntax.specs.declared.scope.Kind.TheVariants.{Var, Chan}
use Rattle.occ_syntax.specs.Scopes.{environment, variable_width, variable_kind}
use Rattle.occ_syntax.specs.Types.{scope_kept, is_width, width_of_kind, same_width}

-- two widths are the same exactly where they are equal
pub same_widths : (a b : Width) → same_width a b ≡ true → a ≡ b
same_widths TruthValue TruthValue h = refl
same_widths (Word a) (Word b) h = ap Word (eqb-true a b h)
same_widths TruthValue (Word b) h = cc
same_widths (Word a) TruthValue h = cc

pub same_as_itself : (a : Width) → same_width a a ≡ true
same_as_itself TruthValue = refl
same_as_itself (Word bits) = eq-eqb bits bits refl

-- a width has 1 to 8 bits
pub width_within : (w : Width) → is_width w ≡ true → (1 ≤ bits_of w) × (bits_of w ≤ 8)
width_within TruthValue h = (omega arith, omega arith)
width_within (Word bits) h = let k = and_parts _ _ h in (leb-true _ _ k.0, leb-true _ _ k.1)

-- a variable of a scope has a width
pub variable_is_wide : (scope : List (Name × Kind)) (x : ℕ) (w : Width) → scope_kept scope ≡ true → variable_width (environment scope) x ≡ Some w → is_width w ≡ true
variable_is_wide [] x w h e = cc
variable_is_wide (entry ∷ entries) x w h e =
    let parts = and_parts _ _ h in
    ⊎_elim
    (λ (t : (x == entry.0.0) ≡ true). of_kind entry.1 w (and_parts _ _ parts.0).1 (sym (ap (λ b. variable_kind (cond b (Some entry.1) (environment entries x))) t) ∙ e))
    (λ (t : (x == entry.0.0) ≡ false). variable_is_wide entries x w parts.1 (sym (ap (λ b. variable_kind (cond b (Some entry.1) (environment entries x))) t) ∙ e))
    (cases_Bool (x == entry.0.0))
  where
    of_kind : (k : Kind) (w : Width) → is_width (width_of_kind k) ≡ true → variable_kind (Some k) ≡ Some w → is_width w ≡ true
    of_kind (Var v) w h e = let same : v ≡ w = cc in subst (λ v. is_width v ≡ true) same h
    of_kind (Chan v d) w h e = cc

pub variable_within : (scope : List (Name × Kind)) (x : ℕ) (w : Width) → scope_kept scope ≡ true → variable_width (environment scope) x ≡ Some w → (1 ≤ bits_of w) × (bits_of w ≤ 8)
variable_within scope x w h e = width_within w (variable_is_wide scope x w h e)
