-- What the types of a declaration say of it, and of types that agree.
use Rattle.std.proofs.Common.{◌≡◌, ◌∙◌, ℕ, Bool, true, false, ◌&&◌, ◌==◌, Option, None, Some, if◌then◌else◌, is_none, refl, ap, sym}
use Rattle.std.proofs.lemmas.Bool.{and_from, and_parts}
use Rattle.occ_renamed.specs.occ_base.declared.width.Width.{Width}
use Rattle.occ_renamed.proofs.from_meaning.Facts.{name_at, none_not_some}
use Rattle.occ_renamed.proofs.from_meaning.States.{fresh_name}
use Rattle.occ_renamed.specs.occ_meaning.Parallel.{two}
use Rattle.occ_renamed.specs.occ_syntax.declared.scope.Kind.{Kind}
use Rattle.occ_renamed.specs.occ_syntax.declared.scope.Kind.TheVariants.{Var}
use Rattle.occ_renamed.specs.occ_syntax.Scopes.{Environment, variable_kind, variable_width, with_name}
use Rattle.occ_renamed.specs.occ_syntax.Tree.{Tree, seq}
use Rattle.occ_renamed.specs.occ_syntax.Types.{agree, can_declare, is_width, types_kept}
use Rattle.occ_renamed.proofs.from_syntax.Widths.{same_as_itself}

-- a declaration that keeps types: its name is new, and what it governs keeps types in its scope
pub record Opened (Γ : Environment) (x : ℕ) (w : Width) (kind : Kind) (p : Tree) : Type 0 where
  pub can : can_declare Γ x w ≡ true
  pub new : Γ x ≡ None
  pub width : is_width w ≡ true
  pub types : types_kept p (with_name Γ x kind) ≡ true

pub opened : (Γ : Environment) (x : ℕ) (w : Width) (kind : Kind) (p : Tree) → (can_declare Γ x w && types_kept p (with_name Γ x kind)) ≡ true
    → Opened Γ x w kind p
opened Γ x w kind p t =
    let k = and_parts (can_declare Γ x w) (types_kept p (with_name Γ x kind)) t in
    record { can = k.0; new = fresh_name Γ x w k.0; width = (and_parts (is_none (Γ x)) (is_width w) k.0).1; types = k.1 }

pub may_declare : (Γ : Environment) (x : ℕ) (w : Width) → Γ x ≡ None → is_width w ≡ true → can_declare Γ x w ≡ true
may_declare Γ x w new width = and_from (is_none (Γ x)) (is_width w) (ap is_none new) width

-- a name that is new inside a scope isn't the one declared there
pub apart_names : (Γ : Environment) (c : ℕ) (kind : Kind) (x : ℕ) → with_name Γ c kind x ≡ None → (x == c) ≡ false
apart_names Γ c kind x new = at (x == c) refl
  where
    at : (b : Bool) → (x == c) ≡ b → b ≡ false
    at false e = refl
    at true e = none_not_some (sym new ∙ ap (λ b. if b then Some kind else Γ x) e)

-- ---- two parts

pub two_types : (Γ : Environment) (p q : Tree) → types_kept p Γ ≡ true → types_kept q Γ ≡ true → types_kept (seq (two p q)) Γ ≡ true
two_types Γ p q h k = and_from (types_kept p Γ) (types_kept q Γ && true) h (and_from (types_kept q Γ) true k refl)

pub types_of_two : (Γ : Environment) (p q : Tree) → types_kept (seq (two p q)) Γ ≡ true → (types_kept p Γ ≡ true) × (types_kept q Γ ≡ true)
types_of_two Γ p q t = let k = and_parts (types_kept p Γ) (types_kept q Γ && true) t in (k.0, (and_parts (types_kept q Γ) true k.1).0)

-- ---- types that agree

pub agree_both : (a b : Option Width) (w : Width) → a ≡ Some w → b ≡ Some w → agree a b ≡ true
agree_both a b w h k = (λ i. agree (h i) (k i)) ∙ same_as_itself w

-- the width of a declared variable in its scope
pub declared_width : (Γ : Environment) (x : ℕ) (w : Width) → variable_width (with_name Γ x (Var w)) x ≡ Some w
declared_width Γ x w = ap variable_kind (name_at Γ x (Var w))
