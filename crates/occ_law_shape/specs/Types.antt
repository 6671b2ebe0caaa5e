-- What the types of expressions that are to be compared have to be.
use Rattle.std.specs.Prelude.{Bool, true, ◌&&◌, List, [], ◌∷◌}
use Rattle.occ_syntax.specs.Scopes.{Environment}
use Rattle.occ_syntax.specs.Tree.{Exp, Waiting}
use Rattle.occ_syntax.specs.Types.{agree, is_condition, type_of, waiting_kept}

-- expressions in one place of two lists have one type, as far as both go
abbrev pub agree_each : Environment → List Exp → List Exp → Bool
agree_each Γ [] fs = true
agree_each Γ (e ∷ es) [] = true
agree_each Γ (e ∷ es) (f ∷ fs) = agree (type_of Γ e) (type_of Γ f) && agree_each Γ es fs

-- a guard keeps types and directions
abbrev pub is_guard : Environment → Exp → Waiting → Bool
is_guard Γ b w = is_condition Γ b && waiting_kept Γ w
