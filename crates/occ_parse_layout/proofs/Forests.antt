-- Lines taken one after another, with the lines below them, are those of the forest that grows.
use Rattle.std.proofs.Common.{◌≡◌, ℕ, ◌+◌, ◌<◌, ◌≤◌, List, [], ◌∷◌, ◌++◌, reverse, refl, sym, subst, ap, ◌∙◌, arith, append_assoc, Option, Some, option_to_list, Result, Ok, Err, IfOk, OnOk}
use Rattle.occ_parse_rules.specs.occ_base.declared.memory.Memory.{Memory}
use Rattle.occ_parse_rules.specs.declared.node.Nodes.{Nodes}
use Rattle.std.proofs.lemmas.List.{reverse-append, reverse-reverse, append-nil}
use Rattle.occ_parse_rules.specs.occ_parse_forms.Shape.{shape}
use Rattle.occ_parse_rules.specs.declared.node.Node.{Node, Node'}
use Rattle.occ_parse_rules.specs.Forest.{Forest, no_line, Laid, lines_at, grafted, forest, in_nodes, IsLine}
use Rattle.occ_parse_layout.specs.declared.placed.Placed.{Placed}
use Rattle.occ_parse_layout.specs.Layout.{laid, laid_rows}
use Rattle.occ_parse_layout.specs.Nesting.{Nest, left, IsAbove, Takes}

pub left_push : (xs : List Placed) (x : Placed) → left (xs ++ x ∷ []) ≡ laid x ∷ left xs
left_push xs x = ap laid_rows (reverse-append xs (x ∷ []))

pub left_reversed : (xs : List Placed) → left (reverse xs) ≡ laid_rows xs
left_reversed xs = ap laid_rows (reverse-reverse xs)

lines_grafted : (node : Node) (level : ℕ) (rest : Forest) → lines_at level (grafted node rest) ≡ lines_at level (grafted node no_line) ++ lines_at level rest
unfolding grafted Rattle.occ_parse_rules.specs.Forest.under
lines_grafted (Node' line form below) level rest =
    ap (λ (xs : List Laid). record { number = line; level = level; shape = shape form } ∷ (xs ++ lines_at level rest)) (sym (append-nil _))

pub lines_push : (level : ℕ) (nodes : List Node) (node : Node) → lines_at level (forest (nodes ++ node ∷ [])) ≡ lines_at level (forest nodes) ++ lines_at level (forest (node ∷ []))
lines_push level [] node = refl
lines_push level (first ∷ nodes) node =
    lines_grafted first level (forest (nodes ++ node ∷ []))
    ∙ ap (λ (xs : List Laid). lines_at level (grafted first no_line) ++ xs) (lines_push level nodes node)
    ∙ sym (append_assoc (lines_at level (grafted first no_line)) (lines_at level (forest nodes)) (lines_at level (forest (node ∷ []))))
    ∙ ap (λ (xs : List Laid). xs ++ lines_at level (forest (node ∷ []))) (sym (lines_grafted first level (forest nodes)))

lines_of_one : (node : Node) (row : Placed) (below : List Node) → IsLine node row.number row.form below → lines_at row.level (forest (node ∷ [])) ≡ laid row ∷ lines_at (row.level + 1) (forest below)
lines_of_one node row below is = ap (lines_at row.level) (is no_line) ∙ ap (λ (xs : List Laid). laid row ∷ xs) (append-nil _)

one_more_here : (row : Placed) (start w w1 w2 : List Laid) (nodes below after : List Node) (node : Node)
    → start ≡ lines_at row.level (forest nodes) ++ w → w ≡ laid row ∷ w1 → w1 ≡ lines_at (row.level + 1) (forest below) ++ w2
    → IsLine node row.number row.form below → after ≡ nodes ++ node ∷ []
    → start ≡ lines_at row.level (forest after) ++ w2
one_more_here row start w w1 w2 nodes below after node s e e1 is push =
    s ∙ ap (λ (xs : List Laid). lines_at row.level (forest nodes) ++ xs) (e ∙ ap (λ (xs : List Laid). laid row ∷ xs) e1)
    ∙ ap (λ (xs : List Laid). lines_at row.level (forest nodes) ++ (xs ++ w2)) (sym (lines_of_one node row below is))
    ∙ sym (append_assoc (lines_at row.level (forest nodes)) (lines_at row.level (forest (node ∷ []))) w2)
    ∙ ap (λ (xs : List Laid). xs ++ w2) (sym (lines_push row.level nodes node) ∙ ap (λ (xs : List Node). lines_at row.level (forest xs)) (sym push))

-- one more line at the level, with the lines below it
pub one_more : (level : ℕ) (row : Placed) (start w w1 w2 : List Laid) (nodes below after : List Node) (node : Node)
    → start ≡ lines_at level (forest nodes) ++ w → (w ≡ laid row ∷ w1) × (row.level ≡ level) → w1 ≡ lines_at (row.level + 1) (forest below) ++ w2
    → IsLine node row.number row.form below → after ≡ nodes ++ node ∷ []
    → start ≡ lines_at level (forest after) ++ w2
one_more level row start w w1 w2 nodes below after node s t e1 is push =
    subst (λ (m : ℕ). start ≡ lines_at m (forest after) ++ w2) t.1
    (one_more_here row start w w1 w2 nodes below after node (subst (λ (m : ℕ). start ≡ lines_at m (forest nodes) ++ w) (sym t.1) s) t.0 e1 is push)

nest_back : (base level : ℕ) (w : List Laid) → IsAbove (level + 1) w × Nest base (level + 1) w → Nest base level w
nest_back base level [] h = tt
nest_back base level (r ∷ rows) h = let a : r.level < level + 1 = h.0 in (h.1.0, omega arith, h.1.2)

-- what is left behind a line and the lines below it still nests
pub nest_more : (base level : ℕ) (row : Placed) (w w1 w2 : List Laid) → (w ≡ laid row ∷ w1) × (row.level ≡ level)
    → ((b : ℕ) → Nest b (row.level + 1) w1 → IsAbove (row.level + 1) w2 × Nest b (row.level + 1) w2)
    → Nest base level w → Nest base level w2
nest_more base level row w w1 w2 t step nest =
    let inside : Nest base level (laid row ∷ w1) = subst (λ (xs : List Laid). Nest base level xs) t.0 nest in
    subst (λ (m : ℕ). Nest base m w2) t.1 (nest_back base row.level w2 (step base inside.2))

nothing_left : (base : ℕ) (w : List Laid) → IsAbove base w × Nest base base w → w ≡ []
nothing_left base [] h = refl
nothing_left base (r ∷ rows) h = let a : r.level < base = h.0 in let b : base ≤ r.level = h.1.0 in absurd (omega arith)

pub all_taken : (base : ℕ) (w w' lines : List Laid) (rows old : List Placed) → Nest base base (laid_rows rows) → old ≡ reverse rows → w ≡ left old → w ≡ lines ++ w'
    → ((b : ℕ) → Nest b base w → IsAbove base w' × Nest b base w') → lines ≡ laid_rows rows
all_taken base w w' lines rows old nest e s l step =
    let same : w ≡ laid_rows rows = s ∙ ap left e ∙ left_reversed rows in
    let none = nothing_left base w' (step base (subst (λ (xs : List Laid). Nest base base xs) (sym same) nest)) in
    sym (append-nil lines) ∙ ap (λ (xs : List Laid). lines ++ xs) (sym none) ∙ sym l ∙ same

pub popped : (level : ℕ) (old new : List Placed) (result : Option Placed) (q : Placed) → old ≡ new ++ option_to_list result → result ≡ Some q → q.level ≡ level → Takes level (left old) result (left new)
popped level old new result q e is at =
    subst (λ (o : Option Placed). Takes level (left old) o (left new)) (sym is)
    (ap left (e ∙ ap (λ (o : Option Placed). new ++ option_to_list o) is) ∙ left_push new q, at)

pub taken : (base level : ℕ) (rows old new : List Placed) (result : Result Nodes Memory) → Nest base base (laid_rows rows) → level ≡ base → old ≡ reverse rows
    → IfOk result (λ nodes. left old ≡ lines_at level (forest (in_nodes nodes)) ++ left new)
    → OnOk result ((b : ℕ) → Nest b level (left old) → IsAbove level (left new) × Nest b level (left new))
    → IfOk result (λ nodes. lines_at base (forest (in_nodes nodes)) ≡ laid_rows rows)
taken base level rows old new (Err e) nest at reversed lines step = tt
taken base level rows old new (Ok nodes) nest at reversed lines step =
    all_taken base (left old) (left new) _ rows old nest reversed refl
    (subst (λ (m : ℕ). left old ≡ lines_at m (forest (in_nodes nodes)) ++ left new) at lines)
    (subst (λ (m : ℕ). (b : ℕ) → Nest b m (left old) → IsAbove m (left new) × Nest b m (left new)) at step)
