-- Branches behind a state, all of whose guards are known.
use Rattle.std.specs.Prelude.{ℕ, ◌≡◌, ◌<◌, ◌^◌, true, false, List, ◌++◌, Some}
use Rattle.std.specs.List.{AllByRecursion}
use Rattle.occ_derive_laws.specs.occ_base.declared.event.Dir.TheVariants.{Input, Output}
use Rattle.occ_derive_laws.specs.occ_base.declared.names.Name.{Name}
use Rattle.occ_derive_laws.specs.occ_base.declared.width.Width.{Width}
use Rattle.occ_derive_laws.specs.occ_base.Width.{bits_of}
use Rattle.occ_derive_laws.specs.occ_derive_moves.Unified.{is_target}
use Rattle.occ_derive_laws.specs.occ_derive_moves.Weight.{weight}
use Rattle.occ_complete_states.specs.Configured.{IsLeft, IsOpenBranch}
use Rattle.occ_complete_states.specs.Leads.{Leads}
use Rattle.occ_complete_states.specs.States.{facts, scope_of, told}
use Rattle.occ_derive_laws.specs.occ_law.Lists.{assigned_without}
use Rattle.occ_derive_laws.specs.occ_meaning.Parallel.{two}
use Rattle.occ_derive_laws.specs.occ_syntax.declared.scope.Kind.{Kind}
use Rattle.occ_derive_laws.specs.occ_syntax.Scopes.{Values, allows, channel_width, environment, variable_width}
use Rattle.occ_derive_laws.specs.occ_syntax.Tree.{Waiting, ready, input, output, Tree, seq, alt}
use Rattle.occ_derive_laws.specs.occ_target.Rows.{guarded}
use Rattle.occ_derive_laws.specs.occ_target.States.{constant, variables}
use Rattle.occ_derive_laws.specs.occ_target_laws.Shapes.{Header}

-- what a branch goes on with: less than this is left to do
pub record GoesOn (h : Header) (ys : List (Name × Kind)) (limit : ℕ) (p : Tree) : Type 0 where
  pub is_left : IsLeft h ys p
  pub light : weight p < limit

-- The branch goes on at once, puts out a constant, or takes a value in, each with the state in front of what is left. An input changes
-- its variable, which is none of the variables for inputs.
pub data IsTelling (h : Header) (ys : List (Name × Kind)) (s : Values) (limit : ℕ) : Waiting × Tree → Type 0 where
  goes_at_once : (p : Tree) → GoesOn h ys limit p → IsTelling h ys s limit (ready, seq (two (told (scope_of h ++ ys) s) p))
  puts_out : (c : ℕ) (w : Width) (v : ℕ) (p : Tree) → channel_width (environment (scope_of h ++ ys)) c ≡ Some w
      → allows (environment (scope_of h ++ ys) c) Output ≡ true → v < 2 ^ bits_of w → GoesOn h ys limit p
      → IsTelling h ys s limit (output c (constant w v), seq (two (told (scope_of h ++ ys) s) p))
  takes_in : (c x : ℕ) (w : Width) (p : Tree) → channel_width (environment (scope_of h ++ ys)) c ≡ Some w
      → allows (environment (scope_of h ++ ys) c) Input ≡ true → variable_width (environment (scope_of h ++ ys)) x ≡ Some w → is_target h x ≡ false
      → GoesOn h ys limit p
      → IsTelling h ys s limit (input c x, seq (two (assigned_without x (variables (scope_of h ++ ys)) (facts (scope_of h ++ ys) s)) p))

-- the part leads to an ALT of such branches
pub record Opens (h : Header) (limit : ℕ) (p : Tree) : Type 0 where
  pub branches : List (Waiting × Tree)
  pub each : AllByRecursion (IsOpenBranch h limit) branches
  pub leads : Leads (scope_of h) p (alt (guarded branches))
