-- How a table is written as a normal text.
use Rattle.std.specs.Prelude.{ℕ, ◌+◌, ◌/◌, ◌%◌, ◌^◌, List, [], ◌∷◌, ◌++◌, Option, None, Some, codes, decimal}
use Rattle.occ_lex.specs.occ_base.declared.event.Dir.{Dir}
use Rattle.occ_lex.specs.occ_base.declared.names.Name.{Name}
use Rattle.occ_lex.specs.occ_base.declared.width.Width.{Width}
use Rattle.occ_lex.specs.occ_base.declared.width.Width.TheVariants.{Bool as Truth, Word}
use Rattle.occ_lex.specs.occ_base.Width.{bits_of}
use Rattle.occ_syntax.specs.declared.scope.Kind.{Kind}
use Rattle.occ_syntax.specs.declared.scope.Kind.TheVariants.{Var, Chan}
use Rattle.occ_syntax.specs.Counts.{bits_of_scope}
use Rattle.occ_behaviour.specs.Texts.{mark_text, state_text}
use Rattle.occ_nform_table.specs.declared.table.TableRow.{TableRow}
use Rattle.occ_nform_table.specs.Lines.{text_of}
use Rattle.occ_nform_table.specs.Judging.{row_text}

-- ---- parameters

abbrev pub width_text : Width → List ℕ
width_text Truth = codes "BOOL"
width_text (Word bits) = codes "WORD" ++ decimal bits

abbrev pub marked_text : Option Dir → List ℕ
marked_text None = []
marked_text (Some dir) = mark_text dir

-- a parameter as it stands in a header
unfoldable pub param_text : List ℕ → Kind → List ℕ
param_text name (Var width) = width_text width ++ codes " " ++ name
param_text name (Chan width dir) = codes "CHAN OF " ++ width_text width ++ codes " " ++ name ++ marked_text dir

unfoldable pub params_text : List (List ℕ) → List (Name × Kind) → List ℕ
params_text names [] = []
params_text names (p ∷ params) = codes "PARAM " ++ param_text (text_of names p.0) p.1 ++ codes "\n" ++ params_text names params

-- ---- rows and states

-- the rows from row n on
unfoldable pub rows_text : List (List ℕ) → ℕ → List TableRow → List ℕ
rows_text names n [] = []
rows_text names n (row ∷ rows) = codes "ROW " ++ decimal n ++ codes "\n" ++ row_text names row ++ rows_text names (n + 1) rows

-- the state that has that place among the states in their order, counted from 0
abbrev pub state_at_place : List (Name × Kind) → ℕ → List (Name × ℕ)
state_at_place [] k = []
state_at_place ((name, Chan width dir) ∷ params) k = state_at_place params k
state_at_place ((name, Var width) ∷ params) k =
    (name, k / 2 ^ bits_of_scope params % 2 ^ bits_of width) ∷ state_at_place params (k % 2 ^ bits_of_scope params)

-- the rows of the states from the k-th on
unfoldable pub states_text : List (Name × Kind) → ℕ → List ℕ → List ℕ
states_text params k [] = []
states_text params k (n ∷ states) = codes "STATE " ++ state_text (state_at_place params k) ++ codes " " ++ decimal n ++ codes "\n" ++ states_text params (k + 1) states

-- the text of a table
unfoldable pub table_text : List (List ℕ) → List (Name × Kind) → List TableRow → List ℕ → List ℕ
table_text names params rows states = codes "occam-normal 1\n" ++ params_text names params ++ rows_text names 0 rows ++ states_text params 0 states
