-- The picture of a table, as a text of the DOT language.
use Rattle.std.specs.Prelude.{ℕ, zero, suc, ◌+◌, ◌==◌, if◌then◌else◌, List, [], ◌∷◌, ◌++◌, length, codes, decimal}
use Rattle.std.specs.List.{flat_map}
use Rattle.occ_syntax.specs.occ_base.declared.event.Event.{Event}
use Rattle.occ_syntax.specs.occ_base.declared.names.Name.{Name}
use Rattle.occ_syntax.specs.declared.scope.Kind.{Kind}
use Rattle.occ_tool_run.specs.occ_behaviour.Texts.{spaced, state_text}
use Rattle.occ_tool_run.specs.occ_nform_table.declared.table.TableRow.{TableRow}
use Rattle.occ_tool_run.specs.occ_nform_table.Texts.{state_at_place}
use Rattle.occ_draw.specs.declared.edges.Edge.{Edge}
use Rattle.occ_draw.specs.Spans.{events_text}
use Rattle.occ_draw.specs.Edges.{edges_of}
use Rattle.occ_draw.specs.Strings.{quoted}

-- states as they are written, with one space between
abbrev pub states_text : List (List (Name × ℕ)) → List ℕ
states_text states = spaced state_text states

-- ---- rows

-- the line of a label that has the final states, where there is one
abbrev pub ends_line : List (List (Name × ℕ)) → List ℕ
ends_line [] = []
ends_line (state ∷ states) = codes "\nEND " ++ states_text (state ∷ states)

abbrev pub accept_line : List (List ℕ) → List Event → List ℕ
accept_line names set = codes "\nACCEPT {" ++ events_text names set ++ codes "}"

-- the label of row n
abbrev pub row_label : List (List ℕ) → ℕ → TableRow → List ℕ
row_label names n row = codes "ROW " ++ decimal n ++ ends_line row.ends ++ flat_map (accept_line names) row.accepts

-- the node of row n
abbrev pub node_text : List (List ℕ) → ℕ → TableRow → List ℕ
node_text names n row = codes "  r" ++ decimal n ++ codes " [label=" ++ quoted (row_label names n row) ++ codes "];\n"

-- an edge of row n
abbrev pub edge_text : List (List ℕ) → ℕ → Edge → List ℕ
edge_text names n edge =
    codes "  r" ++ decimal n ++ codes " -> r" ++ decimal edge.offer.1 ++ codes " [label=" ++ quoted (events_text names edge.events) ++ codes "];\n"

-- row n: its node and its edges
abbrev pub row_text : List (List ℕ) → ℕ → TableRow → List ℕ
row_text names n row = node_text names n row ++ flat_map (edge_text names n) (edges_of row.offers)

-- the rows from row n on
unfoldable pub rows_text : List (List ℕ) → ℕ → List TableRow → List ℕ
rows_text names n [] = []
rows_text names n (row ∷ rows) = row_text names n row ++ rows_text names (n + 1) rows

-- ---- initial states

-- the states, from that of place k on, that lead to row n, where these are the rows that they lead to
unfoldable pub states_to : List (Name × Kind) → ℕ → ℕ → List ℕ → List (List (Name × ℕ))
states_to params n k [] = []
states_to params n k (row ∷ rows) = (if row == n then state_at_place params k ∷ [] else []) ++ states_to params n (k + 1) rows

-- a node without a frame that has a label, and an edge from it to row n
abbrev pub entry_lines : ℕ → List ℕ → List ℕ
entry_lines n label = codes "  s" ++ decimal n ++ codes " [shape=plaintext, label=" ++ quoted label ++ codes "];\n  s" ++ decimal n ++ codes " -> r" ++ decimal n ++ codes ";\n"

-- the entry of row n: the states that lead to it, where there are any
abbrev pub entry_text : ℕ → List (List (Name × ℕ)) → List ℕ
entry_text n [] = []
entry_text n (state ∷ states) = entry_lines n (states_text (state ∷ states))

-- the entries of so many rows from row n on
unfoldable pub entries_text : List (Name × Kind) → List ℕ → ℕ → ℕ → List ℕ
entries_text params states n zero = []
entries_text params states n (suc more) = entry_text n (states_to params n 0 states) ++ entries_text params states (n + 1) more

-- the picture of a table
abbrev pub dot_text : List (List ℕ) → List (Name × Kind) → List TableRow → List ℕ → List ℕ
dot_text names params rows states =
    codes "digraph rows {\n  node [shape=box];\n" ++ entries_text params states 0 (length rows) ++ rows_text names 0 rows ++ codes "}\n"
