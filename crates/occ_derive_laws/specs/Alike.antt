-- Lists of variables, and expressions of which one may stand for the other.
use Rattle.std.specs.Prelude.{ℕ, ◌≡◌, false, List, [], ◌∷◌, Some}
use Rattle.occ_renamed.specs.occ_base.declared.names.Name.{Name}
use Rattle.occ_renamed.specs.occ_base.declared.width.Width.{Width}
use Rattle.occ_renamed.specs.occ_law.States.{IsEqualAlways}
use Rattle.occ_renamed.specs.occ_syntax.declared.scope.Kind.{Kind}
use Rattle.occ_renamed.specs.occ_syntax.Names.{is_in}
use Rattle.occ_renamed.specs.occ_syntax.Scopes.{Environment, environment, variable_width}
use Rattle.occ_renamed.specs.occ_syntax.Tree.{Exp}
use Rattle.occ_renamed.specs.occ_syntax.Types.{type_of}

-- variables in scope, each once
abbrev pub AreVariables : Environment → List ℕ → Type 0
AreVariables Γ [] = Unit {0}
AreVariables Γ (x ∷ xs) = ((w : Width) × (variable_width Γ x ≡ Some w)) × (is_in xs x ≡ false) × AreVariables Γ xs

-- no variable stands twice
abbrev pub IsOnce : List ℕ → Type 0
IsOnce [] = Unit {0}
IsOnce (x ∷ xs) = (is_in xs x ≡ false) × IsOnce xs

-- two expressions of one type that have one value in every state, and name few bits
pub record IsAlike (S : List (Name × Kind)) (e f : Exp) : Type 0 where
  pub always : IsEqualAlways S e f
  pub typed : type_of (environment S) f ≡ type_of (environment S) e
