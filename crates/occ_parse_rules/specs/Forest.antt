-- Lines as a forest, by their levels.
use Rattle.std.specs.Prelude.{ℕ, ◌≡◌, ◌+◌, List, [], ◌∷◌, ◌++◌}
use Rattle.std.specs.Borrow.{Bor}
use Rattle.occ_parse_forms.specs.declared.form.Form.{Form}
use Rattle.occ_parse_forms.specs.Shape.{Shape, shape}
use Rattle.occ_parse_rules.specs.declared.node.Node.{Node, Node'}
use Rattle.occ_parse_rules.specs.declared.node.Nodes.{Nodes, Nodes', Row_of-Node, end_of-Node, more_of-Node, out-Nodes}

-- Lines one below another at one level: each has its number in the text, what it says, and the lines below it.
pub data Forest : Type 0 where
  no_line : Forest
  and_line : (number : ℕ) → Shape → (below : Forest) → (rest : Forest) → Forest

-- a line by itself: its number, its level and what it says
pub record Laid : Type 0 where
  pub number : ℕ
  pub level : ℕ
  pub shape : Shape

-- the lines of a forest from top to bottom, where the outermost ones stand at a level
abbrev pub lines_at : ℕ → Forest → List Laid
lines_at level no_line = []
lines_at level (and_line number s below rest) = record { number = number; level = level; shape = s } ∷ (lines_at (level + 1) below ++ lines_at level rest)

-- the lines that a node holds, in front of others
unfoldable mutual
  pub grafted : Node → Forest → Forest
  grafted (Node' line form below) rest = and_line line (shape form) (under below) rest

  pub under : Nodes → Forest
  under (Nodes' s row) = row_forest row

  pub row_forest : {m : _} → Row_of-Node m → Forest
  row_forest end_of-Node = no_line
  row_forest (more_of-Node node rest) = grafted node (row_forest rest)

-- the forest that a list of nodes is
abbrev pub forest : List Node → Forest
forest [] = no_line
forest (node ∷ nodes) = grafted node (forest nodes)

unfoldable pub in_nodes : Nodes → List Node
in_nodes nodes = (out-Nodes nodes).list.items

-- the node is a line with that number, that says this, and has these lines below it
abbrev pub IsLine : Node → ℕ → Form → List Node → Type 0
IsLine node line form below = (rest : Forest) → grafted node rest ≡ and_line line (shape form) (forest below) rest

abbrev pub IsSeen : Node → ℕ × Bor Form × Bor (List Node) → Type 0
IsSeen node seen = IsLine node seen.0 seen.1.now seen.2.now
