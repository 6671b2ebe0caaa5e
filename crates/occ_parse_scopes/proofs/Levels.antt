-- Judging lines one after another: what each line adds, and what stands in scope behind it.
use Rattle.std.specs.Prelude.{ℕ, suc, ◌≡◌, ◌+◌, ◌-◌, ◌<◌, ◌≤◌, List, [], ◌∷◌, Option, Some, None, length, drop, get_or}
use Rattle.std.proofs.Common.{sym, ap, subst, ◌∙◌, arith, add-one, drop-cons}
use Rattle.occ_parse_forms.specs.Shape.{Shape, header, close, skip, stop, assign, receive, send, group, declare, condition, guard, nothing}
use Rattle.occ_parse_rules.specs.declared.node.Node.{Node}
use Rattle.occ_parse_rules.specs.declared.sort.Entry.{Entry}
use Rattle.occ_parse_rules.specs.Forest.{Forest, no_line, and_line, forest, grafted}
use Rattle.occ_parse_rules.specs.Judging.{or_else, on_line, inside, behind, first_fault}
use Rattle.occ_parse_rules.specs.Places.{Sorts, declared_in, entries_of, param_entries, counter_of}
use Rattle.occ_parse_scopes.specs.Checking.{StandsOn}

-- ---- faults of a line in front of others

pub fault_behind : {F : Type 0} (judge : Sorts → Shape → Option F) (outer Γ : Sorts) (number : ℕ) (s : Shape) (below rest : Forest) → judge Γ s ≡ None → first_fault judge (inside Γ s) (inside Γ s) below ≡ None → first_fault judge outer Γ (and_line number s below rest) ≡ first_fault judge outer (behind outer Γ s) rest
fault_behind judge outer Γ number s below rest h k = λ i. or_else (on_line number (h i)) (or_else (k i) (first_fault judge outer (behind outer Γ s) rest))

-- ---- lines in a list

pub forest_next : (nodes : List Node) (i : ℕ) (node : Node) → i < length nodes → node ≡ get_or nodes i node → forest (drop i nodes) ≡ grafted node (forest (drop (i + 1) nodes))
forest_next nodes i node h e =
    ap forest (drop-cons nodes i node h ∙ (λ j. sym e j ∷ drop (sym (add-one i) j) nodes))

-- how many lines a forest has
abbrev pub weight : Forest → ℕ
weight no_line = 0
weight (and_line number s below rest) = suc (weight below + weight rest)

pub weight_next : (nodes : List Node) (i : ℕ) (node : Node) (number : ℕ) (s : Shape) (below : Forest) → i < length nodes → node ≡ get_or nodes i node → ((rest : Forest) → grafted node rest ≡ and_line number s below rest) → weight (forest (drop i nodes)) ≡ suc (weight below + weight (forest (drop (i + 1) nodes)))
weight_next nodes i node number s below h e g = ap weight (forest_next nodes i node h e ∙ g (forest (drop (i + 1) nodes)))

-- ---- scopes that stand on others

pub stands_itself : (Γ : Sorts) → StandsOn Γ Γ
stands_itself Γ = let e : length Γ - length Γ ≡ 0 = omega arith in (omega arith, ap (λ n. drop n Γ) e)

pub stands_more : (Γ Δ : Sorts) (entry : Entry) → StandsOn Δ Γ → StandsOn (entry ∷ Δ) Γ
stands_more Γ Δ entry h =
    let k = h.0 in
    let e : suc (length Δ) - length Γ ≡ suc (length Δ - length Γ) = omega arith in
    (omega arith, ap (λ n. drop n (entry ∷ Δ)) e ∙ h.1)

pub stands_all : (Γ Δ : Sorts) (entries : List Entry) → StandsOn Δ Γ → StandsOn (declared_in Δ entries) Γ
stands_all Γ Δ [] h = h
stands_all Γ Δ (entry ∷ entries) h = stands_all Γ (entry ∷ Δ) entries (stands_more Γ Δ entry h)

pub stands_inside : (Γ : Sorts) (s : Shape) → StandsOn (inside Γ s) Γ
stands_inside Γ (header name params) = stands_all Γ Γ (param_entries params) (stands_itself Γ)
stands_inside Γ close = stands_itself Γ
stands_inside Γ skip = stands_itself Γ
stands_inside Γ stop = stands_itself Γ
stands_inside Γ (assign xs es) = stands_itself Γ
stands_inside Γ (receive c x) = stands_itself Γ
stands_inside Γ (send c e) = stands_itself Γ
stands_inside Γ (group g None) = stands_itself Γ
stands_inside Γ (group g (Some times)) = stands_more Γ Γ (counter_of times) (stands_itself Γ)
stands_inside Γ (declare kind ds) = stands_itself Γ
stands_inside Γ (condition e) = stands_itself Γ
stands_inside Γ (guard e w) = stands_itself Γ
stands_inside Γ nothing = stands_itself Γ

pub stands_behind : (Γ Δ : Sorts) (s : Shape) → StandsOn Δ Γ → StandsOn (behind Γ Δ s) Γ
stands_behind Γ Δ (declare kind ds) h = stands_all Γ Δ (entries_of kind ds) h
stands_behind Γ Δ (header name params) h = stands_itself Γ
stands_behind Γ Δ close h = stands_itself Γ
stands_behind Γ Δ skip h = stands_itself Γ
stands_behind Γ Δ stop h = stands_itself Γ
stands_behind Γ Δ (assign xs es) h = stands_itself Γ
stands_behind Γ Δ (receive c x) h = stands_itself Γ
stands_behind Γ Δ (send c e) h = stands_itself Γ
stands_behind Γ Δ (group g times) h = stands_itself Γ
stands_behind Γ Δ (condition e) h = stands_itself Γ
stands_behind Γ Δ (guard e w) h = stands_itself Γ
stands_behind Γ Δ nothing h = stands_itself Γ

-- ---- the scope behind a line and those below it

pub closed_again : (Γ Γ1 Γ2 Γ3 Γ4 : Sorts) (s : Shape) (depth : ℕ) → Γ1 ≡ Γ → depth ≡ length Γ1 → Γ2 ≡ inside Γ1 s → Γ3 ≡ Γ2 → Γ4 ≡ drop (length Γ3 - depth) Γ3 → Γ4 ≡ Γ
closed_again Γ Γ1 Γ2 Γ3 Γ4 s depth e1 e e2 e3 e4 =
    let k : Γ3 ≡ inside Γ1 s = e3 ∙ e2 in
    e4 ∙ (λ i. drop (length (k i) - e i) (k i)) ∙ (stands_inside Γ1 s).1 ∙ e1

pub closes : (Γ1 Γ2 Γ3 : Sorts) (s : Shape) (depth : ℕ) → depth ≡ length Γ1 → Γ2 ≡ inside Γ1 s → Γ3 ≡ Γ2 → depth ≤ length Γ3
closes Γ1 Γ2 Γ3 s depth e e2 e3 =
    let k = (stands_inside Γ1 s).0 in
    omega (arith, ap length (e3 ∙ e2))

pub passed : (Γ0 Γ Γ4 Γ5 : Sorts) (s : Shape) (outer : ℕ) → StandsOn Γ Γ0 → outer ≡ length Γ0 → Γ4 ≡ Γ → Γ5 ≡ behind (drop (length Γ4 - outer) Γ4) Γ4 s → Γ5 ≡ behind Γ0 Γ s
passed Γ0 Γ Γ4 Γ5 s outer h e e4 e5 =
    e5 ∙ (λ i. behind (drop (length (e4 i) - e i) (e4 i)) (e4 i) s) ∙ ap (λ q. behind q Γ s) h.1

-- a line without a fault, and none below it: what is left goes on behind it
pub next_line : {F : Type 0} (judge : Sorts → Shape → Option F) (Γ0 Γ Γ2 Γ5 : Sorts) (nodes : List Node) (i : ℕ) (node : Node) (number : ℕ) (s : Shape) (below : Forest) (w : Option (ℕ × F)) (n : ℕ) → i < length nodes → node ≡ get_or nodes i node → ((rest : Forest) → grafted node rest ≡ and_line number s below rest) → judge Γ s ≡ None → Γ2 ≡ inside Γ s → first_fault judge Γ2 Γ2 below ≡ None → Γ5 ≡ behind Γ0 Γ s → StandsOn Γ Γ0 × (first_fault judge Γ0 Γ (forest (drop i nodes)) ≡ w) × (weight (forest (drop i nodes)) ≤ n) → StandsOn Γ5 Γ0 × (first_fault judge Γ0 Γ5 (forest (drop (i + 1) nodes)) ≡ w) × (weight (forest (drop (i + 1) nodes)) ≤ n)
next_line judge Γ0 Γ Γ2 Γ5 nodes i node number s below w n h e g none e2 none_below e5 k =
    let rest = forest (drop (i + 1) nodes) in
    let whole = forest_next nodes i node h e ∙ g rest in
    let below_none = subst (λ q. first_fault judge q q below ≡ None) e2 none_below in
    let heavy = weight_next nodes i node number s below h e g in
    let least = k.2 in (
      subst (λ q. StandsOn q Γ0) (sym e5) (stands_behind Γ0 Γ s k.0),
      (λ j. first_fault judge Γ0 (e5 j) rest) ∙ sym (fault_behind judge Γ0 Γ number s below rest none below_none) ∙ ap (first_fault judge Γ0 Γ) (sym whole) ∙ k.1,
      omega (arith, heavy, least),
    )
