-- What a state tells of the part behind it.
use Rattle.std.specs.Prelude.{ℕ, ◌≡◌, ◌<◌, ◌^◌, true, false, List, [], ◌∷◌, ◌++◌, Some}
use Rattle.std.specs.List.{AllByRecursion}
use Rattle.occ_derive_laws.specs.occ_base.declared.names.Name.{Name}
use Rattle.occ_derive_laws.specs.occ_base.declared.width.Width.{Width}
use Rattle.occ_derive_laws.specs.occ_base.Width.{bits_of}
use Rattle.occ_complete_states.specs.Configured.{IsEnding}
use Rattle.occ_complete_states.specs.Heads.{or_else}
use Rattle.occ_complete_states.specs.Leads.{Leads}
use Rattle.occ_complete_states.specs.States.{scope_of, told}
use Rattle.occ_derive_laws.specs.occ_meaning.Context.{case_at}
use Rattle.occ_derive_laws.specs.occ_meaning.Parallel.{two}
use Rattle.occ_derive_laws.specs.occ_syntax.declared.scope.Kind.{Kind}
use Rattle.occ_derive_laws.specs.occ_syntax.declared.scope.Kind.TheVariants.{Var}
use Rattle.occ_derive_laws.specs.occ_syntax.Names.{is_in}
use Rattle.occ_derive_laws.specs.occ_syntax.Scopes.{IsState, Values, environment, with_value}
use Rattle.occ_derive_laws.specs.occ_syntax.Tree.{Exp, Waiting, ready, Tree, assign, seq, select, alt, declare, Cases}
use Rattle.occ_derive_laws.specs.occ_syntax.Types.{is_pair, scope_kept}
use Rattle.occ_derive_laws.specs.occ_target.Rows.{guarded}
use Rattle.occ_derive_laws.specs.occ_target.States.{variables}
use Rattle.occ_derive_laws.specs.occ_target_laws.Shapes.{Header}

-- a scope with some variable, and a state of it
pub record IsTold (T : List (Name × Kind)) (s : Values) : Type 0 where
  pub scope : scope_kept T ≡ true
  pub filled : is_pair (variables T) ≡ true
  pub state : IsState (environment T) s

-- An assignment is evaluated: the state after it is told.
pub record IsAssigned (T : List (Name × Kind)) (s : Values) (xs : List ℕ) (es : List Exp) : Type 0 where
  pub after : Values
  pub state : IsState (environment T) after
  pub others : (x : ℕ) → is_in xs x ≡ false → after x ≡ s x
  pub leads : Leads T (seq (two (told T s) (assign xs es))) (told T after)

-- The choice that is taken.
pub record IsTaken (T : List (Name × Kind)) (s : Values) (cs : Cases) (p : Tree) : Type 0 where
  pub place : ℕ
  pub part : Tree
  pub there : case_at (or_else cs p) place ≡ Some part
  pub leads : Leads T (seq (two (told T s) (select (or_else cs p)))) (seq (two (told T s) part))

-- The part ends.
pub record Ends (h : Header) (p : Tree) : Type 0 where
  pub part : Tree
  pub leads : Leads (scope_of h) p part
  pub ending : IsEnding h part

-- the branch goes on at once, with one value of the variable
pub record BeginsWith (T : List (Name × Kind)) (s : Values) (y : ℕ) (w : Width) (p : Tree) (b : Waiting × Tree) : Type 0 where
  pub value : ℕ
  pub small : value < 2 ^ bits_of w
  pub form : b ≡ (ready, declare y w (seq (two (told (T ++ (record { 0 = y }, Var w) ∷ []) (with_value s y value)) p)))

-- A declared variable begins with each of its values.
pub record Begins (T : List (Name × Kind)) (s : Values) (y : ℕ) (w : Width) (p : Tree) : Type 0 where
  pub branches : List (Waiting × Tree)
  pub each : AllByRecursion (BeginsWith T s y w p) branches
  pub leads : Leads T (seq (two (told T s) (declare y w p))) (alt (guarded branches))
