-- The rules of types, in other words.
use Rattle.std.specs.Prelude.{ℕ, Bool, true, false, ◌&&◌, List, [], ◌∷◌}
use Rattle.occ_syntax.specs.occ_base.declared.names.Name.{Name}
use Rattle.occ_syntax.specs.declared.scope.Kind.{Kind}
use Rattle.occ_syntax.specs.declared.scope.Kind.TheVariants.{Var, Chan}
use Rattle.std.specs.Prelude.{None}
use Rattle.occ_syntax.specs.Scopes.{Environment, variable_width}
use Rattle.occ_syntax.specs.Tree.{Exp}
use Rattle.occ_syntax.specs.Types.{agree, type_of, is_width, width_of_kind}

-- as many expressions as variables, each of its variable's type
abbrev pub agreeing_pairs : Environment → List ℕ → List Exp → Bool
agreeing_pairs Γ [] [] = true
agreeing_pairs Γ (x ∷ xs) (e ∷ es) = agree (variable_width Γ x) (type_of Γ e) && agreeing_pairs Γ xs es
agreeing_pairs Γ [] (e ∷ es) = false
agreeing_pairs Γ (x ∷ xs) [] = false

-- the kinds of a scope have widths
abbrev pub widths_kept : List (Name × Kind) → Bool
widths_kept [] = true
widths_kept (entry ∷ entries) = is_width (width_of_kind entry.1) && widths_kept entries

-- a channel that a part declares has no mark
abbrev pub unmarked : Kind → Kind
unmarked (Var width) = Var width
unmarked (Chan width dir) = Chan width None
