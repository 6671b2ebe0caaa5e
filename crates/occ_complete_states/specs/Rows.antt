-- Branches in a list, all of whose conditions are TRUE.
use Rattle.std.specs.Prelude.{ℕ, ◌≡◌, Bool, false, true, ◌||◌, List, [], ◌∷◌, ◌++◌, map}
use Rattle.occ_derive_laws.specs.occ_base.declared.names.Name.{Name}
use Rattle.occ_complete_states.specs.Leads.{Leads}
use Rattle.occ_derive_laws.specs.occ_law.Choice.{is_ready}
use Rattle.occ_derive_laws.specs.occ_syntax.declared.scope.Kind.{Kind}
use Rattle.occ_derive_laws.specs.occ_syntax.Declarations.{declaring_all}
use Rattle.occ_derive_laws.specs.occ_syntax.Names.{free_in_waiting}
use Rattle.occ_derive_laws.specs.occ_syntax.Tree.{Waiting, ready, Tree, alt}
use Rattle.occ_derive_laws.specs.occ_target.Rows.{guarded}

-- whether the ALT goes on at once in some branch
abbrev pub has_ready : List (Waiting × Tree) → Bool
has_ready [] = false
has_ready (b ∷ bs) = is_ready b.0 || has_ready bs

-- the branches with other ones in the place of one: its process leads to another one, or to an ALT that goes on at once, whose branches
-- these are
pub data Replaces (S : List (Name × Kind)) : Waiting × Tree → List (Waiting × Tree) → Type 0 where
  changed : (w : Waiting) (p q : Tree) → Leads S p q → Replaces S (w, p) ((w, q) ∷ [])
  flattened : (p : Tree) (bs : List (Waiting × Tree)) → Leads S p (alt (guarded bs)) → has_ready bs ≡ true → Replaces S (ready, p) bs

-- each branch is replaced, one behind the other
pub data AllReplaced (S : List (Name × Kind)) : List (Waiting × Tree) → List (Waiting × Tree) → Type 0 where
  none_left : AllReplaced S [] []
  one_more : {b : Waiting × Tree} {new bs cs : List (Waiting × Tree)} → Replaces S b new → AllReplaced S bs cs → AllReplaced S (b ∷ bs) (new ++ cs)

-- whether some guard names a variable
abbrev pub guard_names : List (Waiting × Tree) → ℕ → Bool
guard_names [] x = false
guard_names (b ∷ bs) x = free_in_waiting b.0 x || guard_names bs x

-- the processes of branches within declarations
abbrev pub each_declaring : List (Name × Kind) → List (Waiting × Tree) → List (Waiting × Tree)
each_declaring ys bs = map (λ (b : Waiting × Tree). (b.0, declaring_all ys b.1)) bs
