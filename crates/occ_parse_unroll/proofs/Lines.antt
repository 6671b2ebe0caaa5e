-- Lines one by one.
use Rattle.std.proofs.Common.{◌≡◌, ℕ, ◌+◌, ◌<◌, ◌≤◌, List, length, drop, get_or, ap, sym, ◌∙◌}
use Rattle.std.proofs.lemmas.List.{drop_more, drop_all}
use Rattle.occ_parse_forms.specs.declared.form.Form.{Form}
use Rattle.occ_parse_forms.specs.Shape.{Shape, shape}
use Rattle.occ_parse_rules.specs.declared.node.Node.{Node}
use Rattle.occ_parse_rules.specs.Forest.{Forest, no_line, and_line, grafted, forest, IsLine}

-- how many lines there are
unfoldable pub lines : Forest → ℕ
lines no_line = 0
lines (and_line number s below rest) = 1 + lines below + lines rest

-- the lines from the one at a place on, where that line is known
pub lines_at : (nodes : List Node) (i : ℕ) (node : Node) (number : ℕ) (form : Form) (below : List Node)
    → i < length nodes → node ≡ get_or nodes i node → IsLine node number form below
    → forest (drop i nodes) ≡ and_line number (shape form) (forest below) (forest (drop (i + 1) nodes))
lines_at nodes i node number form below h e seen =
    ap forest (drop_more nodes i node h) ∙ ap (λ n. grafted n (forest (drop (i + 1) nodes))) (sym e) ∙ seen (forest (drop (i + 1) nodes))

pub lines-and : (f : Forest) (number : ℕ) (s : Shape) (below rest : Forest) → f ≡ and_line number s below rest → lines f ≡ 1 + lines below + lines rest
unfolding lines
lines-and f number s below rest e = ap lines e

-- behind the last line
pub lines_done : (nodes : List Node) (i : ℕ) → length nodes ≤ i → forest (drop i nodes) ≡ no_line
lines_done nodes i h = ap forest (drop_all i nodes h)
