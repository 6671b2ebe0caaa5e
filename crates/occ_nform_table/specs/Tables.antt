-- Which tables are normal: those that a normal text is read as.
use Rattle.std.specs.Prelude.{ℕ, suc, ◌+◌, ◌<◌, ◌≤◌, ◌^◌, ◌≡◌, Bool, true, false, ◌&&◌, nat_lt, List, [], ◌∷◌, ◌++◌, length, Option, None, Some}
use Rattle.std.specs.List.{list_all, AllByRecursion}
use Rattle.occ_lex.specs.occ_base.declared.event.Event.{Event}
use Rattle.occ_lex.specs.occ_base.declared.names.Name.{Name}
use Rattle.occ_syntax.specs.declared.scope.Kind.{Kind}
use Rattle.occ_syntax.specs.declared.scope.Kind.TheVariants.{Var, Chan}
use Rattle.occ_syntax.specs.Counts.{bits_of_scope}
use Rattle.occ_syntax.specs.Scopes.{environment, in_interface}
use Rattle.occ_behaviour.specs.States.{is_state}
use Rattle.occ_nform_table.specs.declared.table.TableRow.{TableRow}
use Rattle.occ_nform_table.specs.Lines.{AreNamed, HaveWidths, can_follow, is_param_name, is_rising, text_of}
use Rattle.occ_nform_table.specs.Normal.{Parts, table_fault}

-- a channel of an interface is marked
abbrev pub is_marked : Kind → Bool
is_marked (Var width) = true
is_marked (Chan width None) = false
is_marked (Chan width (Some dir)) = true

-- each parameter has a name that a program can have, and can follow those before it
unfoldable pub are_params : List (List ℕ) → List (Name × Kind) → List (Name × Kind) → Bool
are_params names before [] = true
are_params names before (p ∷ params) =
    (is_param_name (text_of names p.0) && is_marked p.1 && can_follow names before (text_of names p.0, p.1)) && are_params names (before ++ p ∷ []) params

-- what the reading of rows needs to know of parameters
pub record IsInterface (names : List (List ℕ)) (params : List (Name × Kind)) : Type 0 where
  pub named : AreNamed names params
  pub wide : HaveWidths params
  pub few : length params ≤ 16
  pub bits : bits_of_scope params ≤ 16

-- the lines of row n have their forms
pub record IsRowOf (params : List (Name × Kind)) (n : ℕ) (row : TableRow) : Type 0 where
  pub ends : AllByRecursion (λ state. is_state params state ≡ true) row.ends
  pub accepts : AllByRecursion (λ set. (list_all (in_interface (environment params)) set ≡ true) × (is_rising params 0 set ≡ true)) row.accepts
  pub offers : AllByRecursion (λ (o : Event × ℕ). (in_interface (environment params) o.0 ≡ true) × (o.1 < n)) row.offers

-- so have those of the rows from row n on
abbrev pub AreRowsOf : List (Name × Kind) → ℕ → List TableRow → Type 0
AreRowsOf params n [] = Unit {0}
AreRowsOf params n (row ∷ rows) = IsRowOf params n row × AreRowsOf params (n + 1) rows

-- A normal table: each part has its form, and nothing is out of order, no least acceptance, empty or not reached.
pub record IsNormal (t : Parts) : Type 0 where
  pub interface : IsInterface t.names t.params
  pub params : are_params t.names [] t.params ≡ true
  pub rows : AreRowsOf t.params 0 t.rows
  pub count : length t.states ≡ 2 ^ bits_of_scope t.params
  pub states : AllByRecursion (λ n. n < length t.rows) t.states
  pub fine : table_fault t ≡ None
