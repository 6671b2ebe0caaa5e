-- Normal texts, by how tables are written.
use Rattle.std.specs.Prelude.{ℕ, ◌<◌, ◌≤◌, ◌≡◌, ◌^◌, ◌++◌, List, length, map, None, Some, codes, decimal}
use Rattle.std.specs.List.{AllByRecursion}
use Rattle.occ_syntax.specs.occ_base.Names.{IsDistinct}
use Rattle.occ_syntax.specs.occ_base.declared.names.Name.{Name}
use Rattle.occ_syntax.specs.occ_base.Width.{IsWidth}
use Rattle.occ_nform_read.specs.occ_lex.Rows.{rows}
use Rattle.occ_nform_read.specs.occ_lex.Spelling.{kind_of}
use Rattle.occ_nform_read.specs.occ_lex.declared.token.TokenKind.TheVariants as token
use Rattle.occ_syntax.specs.Counts.{bits_of_scope}
use Rattle.occ_syntax.specs.declared.scope.Kind.{Kind}
use Rattle.occ_syntax.specs.declared.scope.Kind.TheVariants.{Chan, Var}
use Rattle.occ_nform_read.specs.occ_nform_table.Lines.{text_of}
use Rattle.occ_nform_read.specs.occ_nform_table.Normal.{Parts, table_fault}
use Rattle.occ_nform_read.specs.occ_nform_table.Tables.{AreRowsOf}
use Rattle.occ_nform_read.specs.occ_nform_table.Texts.{table_text}
use Rattle.occ_nform_read.specs.occ_nform_table.declared.table.TableFault.{TableFault}
use Rattle.occ_nform_read.specs.occ_nform_table.declared.table.TableFault.TheVariants as fault
use Rattle.occ_nform_read.specs.occ_nform_table.Behaviours.{Stands}
use Rattle.occ_nform_read.specs.occ_nform_table.declared.table.TableRow.{TableRow}
use Rattle.occ_syntax.specs.Tree.{Tree}
use Rattle.occ_behaviour_read.specs.Stops.{StopsAt}

-- a name as a program can have it: no reserved word, and at most 32 characters
abbrev pub IsPlain : List ℕ → Type 0
IsPlain text = (length text ≤ 32) × (kind_of text ≡ Some token.Name)

-- the name of a parameter, which may be an element of an array
pub data IsParamName (text : List ℕ) : Type 0 where
  plain : IsPlain text → IsParamName text
  element : (array : List ℕ) (index : ℕ) → IsPlain array → index ≤ 255 → text ≡ array ++ codes "[" ++ decimal index ++ codes "]"
      → IsParamName text

-- a variable, or a channel with a mark, of a width that there is
abbrev pub IsParamKind : Kind → Type 0
IsParamKind (Var width) = IsWidth width
IsParamKind (Chan width None) = ⊥
IsParamKind (Chan width (Some dir)) = IsWidth width

abbrev pub IsParam : List (List ℕ) → Name × Kind → Type 0
IsParam names p = (p.0.0 < length names) × IsParamName (text_of names p.0) × IsParamKind p.1

-- Each part has its form. The names are those of the parameters in their order, each once, and rows are counted by 32 bits.
pub record IsTable (t : Parts) : Type 0 where
  pub params : AllByRecursion (IsParam t.names) t.params
  pub few_params : length t.params ≤ 16
  pub few_bits : bits_of_scope t.params ≤ 16
  pub distinct : IsDistinct t.names
  pub named : t.names ≡ map (λ (p : Name × Kind). text_of t.names p.0) t.params
  pub rows : AreRowsOf t.params 0 t.rows
  pub few : length t.rows < 2 ^ 32
  pub count : length t.states ≡ 2 ^ bits_of_scope t.params
  pub states : AllByRecursion (λ n. n < length t.rows) t.states

-- the lines are those of the table's text
pub record IsTableText (t : Parts) (lines : List (List ℕ)) : Type 0 where
  pub form : IsTable t
  pub written : lines ≡ rows (table_text t.names t.params t.rows t.states)

abbrev pub AreTableLines : List (List ℕ) → Type 0
AreTableLines lines = (t : Parts) × IsTableText t lines

-- Why lines aren't those of a normal text: the first behind which no table's text goes on, or else the first fault of the table.
pub data IsTableFault (lines : List (List ℕ)) (why : TableFault) : Type 0 where
  misshapen : (line : ℕ) → StopsAt AreTableLines lines line → why ≡ fault.Form line → IsTableFault lines why
  disordered : (t : Parts) → IsTableText t lines → table_fault t ≡ Some why → IsTableFault lines why

-- The table of a program with these parameters: its rows and states have their forms, it has no fault, and it stands for the program.
pub record IsTableOf (names : List (List ℕ)) (params : List (Name × Kind)) (p : Tree) (rows : List TableRow) (states : List ℕ) : Type 0 where
  pub rows_are : AreRowsOf params 0 rows
  pub count : length states ≡ 2 ^ bits_of_scope params
  pub low : AllByRecursion (λ n. n < length rows) states
  pub fine : table_fault (record { names = names; params = params; rows = rows; states = states }) ≡ None
  pub stands : Stands params rows states p

-- The text is that of a table of the program.
pub record IsTextOf (names : List (List ℕ)) (params : List (Name × Kind)) (p : Tree) (text : List ℕ) : Type 0 where
  pub rows : List TableRow
  pub states : List ℕ
  pub table : IsTableOf names params p rows states
  pub written : text ≡ table_text names params rows states
