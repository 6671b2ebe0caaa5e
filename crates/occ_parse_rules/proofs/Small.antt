-- Where no declaration brings too many bits into scope, no place of the unrolled program has too many.
use Rattle.std.proofs.Common.{◌≡◌, refl, ap, sym, ◌∙◌, subst, false, ◌+◌, ◌*◌, ◌≤◌, nat_lt, if◌then◌else◌, max, zero, suc, arith, length, map, Option, Some, None, List, [], ◌∷◌, ◌++◌, ℕ, not, ◌&&◌, true}
use Rattle.std.proofs.lemmas.Bool.{ltb-false, lt-ltb, and_parts}
use Rattle.occ_meaning.proofs.Facts.{false_not_true}
use Rattle.occ_meaning.specs.occ_base.declared.names.Name.{Name}
use Rattle.occ_meaning.specs.occ_syntax.declared.scope.Kind.{Kind}
use Rattle.occ_meaning.specs.occ_syntax.declared.scope.Kind.TheVariants as kind
use Rattle.occ_meaning.specs.occ_syntax.Counts.{bits_of_kind, bits_of_scope, most_bits, most_bits_of_all, most_bits_of_cases, most_bits_of_branches}
use Rattle.occ_meaning.specs.occ_syntax.Declarations.{declaring, declaring_all}
use Rattle.occ_meaning.specs.occ_syntax.Tree.{Tree, Trees, no_tree, and_tree, Cases, no_case, and_case, Branches, no_branch, and_branch}
use Rattle.occ_parse_forms.specs.declared.form.Declared.{Declared}
use Rattle.occ_parse_forms.specs.declared.form.Group.{Group}
use Rattle.occ_parse_forms.specs.declared.form.Group.TheVariants as word
use Rattle.occ_parse_forms.specs.declared.form.Param.{Param}
use Rattle.occ_parse_forms.specs.declared.form.Times.{Times}
use Rattle.occ_parse_forms.specs.Shape.{Shape}
use Rattle.occ_parse_forms.specs.Shape as line
use Rattle.occ_parse_rules.specs.Forest.{Forest, no_line, and_line}
use Rattle.occ_parse_rules.specs.Judging.{or_else, on_line, inside, behind, first_fault}
use Rattle.occ_parse_rules.specs.Limits.{bits_of_sort, bits_in_scope, passes_bits, bits_fault, has_copies, copied_lines}
use Rattle.occ_parse_rules.specs.Places.{Place, Sorts, Indices, places, entry_of, entries_of, sort_of, declared_in, param_entries, counter_of, numbers_from, with_index}
use Rattle.occ_parse_rules.specs.Unrolled.{Numbers, named, all_named, params_named, trees_then, cases_then, branches_then, copies, copied, first_tree, as_parts, slot, construct, process, part_line, nested_cases, case_line, nested_branches, branch_line, unrolled, slot_process}
use Rattle.occ_parse_rules.specs.Programs.{param_scope}
use Rattle.occ_parse_rules.proofs.Facts.{or_else_none, on_line_none, if_none}
use Rattle.occ_parse_rules.proofs.Kept.{part_is, behind_is}
use Rattle.occ_parse_rules.specs.Sound.{are_options, are_placed, is_declare, options_below}

-- ---- bits of declarations

max_most : (a b n : ℕ) → a ≤ n → b ≤ n → max a b ≤ n
max_most a b n h k = omega (arith, h, k)

bits_append : (a b : List (Name × Kind)) → bits_of_scope (a ++ b) ≡ bits_of_scope a + bits_of_scope b
bits_append [] b = omega arith
bits_append (e ∷ a) b = omega (arith, bits_append a b)

kind_bits : (k : Kind) → bits_of_kind k ≡ bits_of_sort (sort_of k)
kind_bits (kind.Var width) = refl
kind_bits (kind.Chan width mark) = refl

place_bits : (N : Numbers) (k : Kind) (ps : List Place) → bits_of_scope (map (λ p. (record { 0 = N p.name p.element }, k)) ps) ≡ length ps * bits_of_sort (sort_of k)
place_bits N k [] = omega arith
place_bits N k (p ∷ ps) = omega (arith, kind_bits k, place_bits N k ps)

named_bits : (N : Numbers) (k : Kind) (d : Declared) → bits_of_scope (named N k d) ≡ length (places d) * bits_of_sort (sort_of k)
named_bits N k d = place_bits N k (places d)

all_bits : (N : Numbers) (k : Kind) (ds : List Declared) (Γ : Sorts) → bits_in_scope (declared_in Γ (entries_of k ds)) ≡ bits_in_scope Γ + bits_of_scope (all_named N k ds)
all_bits N k [] Γ = omega arith
all_bits N k (d ∷ ds) Γ = omega (arith, all_bits N k ds (entry_of k d ∷ Γ), bits_append (named N k d) (all_named N k ds), named_bits N k d)

pub param_bits : (N : Numbers) (ps : List Param) (Γ : Sorts) → bits_in_scope (declared_in Γ (param_entries ps)) ≡ bits_in_scope Γ + bits_of_scope (params_named N ps)
param_bits N [] Γ = omega arith
param_bits N (p ∷ ps) Γ = omega (arith, param_bits N ps (entry_of p.kind p.declared ∷ Γ), bits_append (named N p.kind p.declared) (params_named N ps), named_bits N p.kind p.declared)

one_declared : (x : ℕ) (k : Kind) (p : Tree) (n : ℕ) → most_bits (declaring x k p) n ≡ most_bits p (n + bits_of_kind k)
one_declared x (kind.Var width) p n = refl
one_declared x (kind.Chan width mark) p n = ap (most_bits p) (omega arith)

declared_most : (ds : List (Name × Kind)) (p : Tree) (n : ℕ) → most_bits (declaring_all ds p) n ≡ most_bits p (n + bits_of_scope ds)
declared_most [] p n = ap (most_bits p) (omega arith)
declared_most (d ∷ ds) p n = one_declared d.0.0 d.1 (declaring_all ds p) n ∙ (declared_most ds p (n + bits_of_kind d.1) ∙ ap (most_bits p) (omega arith))

-- ---- lists

trees_most : (n : ℕ) (a b : Trees) → most_bits_of_all a n ≤ 24 → most_bits_of_all b n ≤ 24 → most_bits_of_all (trees_then a b) n ≤ 24
trees_most n no_tree b h k = k
trees_most n (and_tree p ps) b h k = max_most (most_bits p n) (most_bits_of_all (trees_then ps b) n) 24 (omega (arith, h)) (trees_most n ps b (omega (arith, h)) k)

cases_most : (n : ℕ) (a b : Cases) → most_bits_of_cases a n ≤ 24 → most_bits_of_cases b n ≤ 24 → most_bits_of_cases (cases_then a b) n ≤ 24
cases_most n no_case b h k = k
cases_most n (and_case e p cs) b h k = max_most (most_bits p n) (most_bits_of_cases (cases_then cs b) n) 24 (omega (arith, h)) (cases_most n cs b (omega (arith, h)) k)

branches_most : (n : ℕ) (a b : Branches) → most_bits_of_branches a n ≤ 24 → most_bits_of_branches b n ≤ 24 → most_bits_of_branches (branches_then a b) n ≤ 24
branches_most n no_branch b h k = k
branches_most n (and_branch e w p bs) b h k = max_most (most_bits p n) (most_bits_of_branches (branches_then bs b) n) 24 (omega (arith, h)) (branches_most n bs b (omega (arith, h)) k)

first_most : (n : ℕ) (ps : Trees) → n ≤ 24 → most_bits_of_all ps n ≤ 24 → most_bits (first_tree ps) n ≤ 24
first_most n no_tree l h = l
first_most n (and_tree p ps) l h = omega (arith, h)

all_copies : {A : Type 0} (join : A → A → A) (none : A) (P : A → Type 0) → P none → ((a b : A) → P a → P b → P (join a b))
    → (times : Times) (Γ : Sorts) (ρ : Indices) (copy : Sorts → Indices → A) (vs : List ℕ)
    → ((v : ℕ) → P (copy (counter_of times ∷ Γ) (with_index ρ times.index.0 v))) → P (copies join none times Γ ρ copy vs)
all_copies join none P e j times Γ ρ copy [] h = e
all_copies join none P e j times Γ ρ copy (v ∷ vs) h =
    j (copy (counter_of times ∷ Γ) (with_index ρ times.index.0 v)) (copies join none times Γ ρ copy vs) (h v) (all_copies join none P e j times Γ ρ copy vs h)

-- ---- lines

Fine : Sorts → Sorts → Forest → Type 0
Fine outer Γ f = first_fault bits_fault outer Γ (copied_lines f) ≡ None

record IsFine (outer Γ : Sorts) (s : Shape) (below rest : Forest) : Type 0 where
  here : passes_bits Γ s ≡ false
  under : first_fault bits_fault (inside Γ s) (inside Γ s) (if has_copies s then copied_lines below else no_line) ≡ None
  next : Fine outer (behind outer Γ s) rest

fine : (outer Γ : Sorts) (n : ℕ) (s : Shape) (below rest : Forest) → Fine outer Γ (and_line n s below rest) → IsFine outer Γ s below rest
unfolding Fine
fine outer Γ n s below rest h =
    let deeper = if has_copies s then copied_lines below else no_line in
    let one = or_else_none (on_line n (bits_fault Γ s)) (or_else (first_fault bits_fault (inside Γ s) (inside Γ s) deeper) (first_fault bits_fault outer (behind outer Γ s) (copied_lines rest))) h in
    let two = or_else_none (first_fault bits_fault (inside Γ s) (inside Γ s) deeper) (first_fault bits_fault outer (behind outer Γ s) (copied_lines rest)) one.1 in
    record { here = (if_none (passes_bits Γ s) _ _ (on_line_none n (bits_fault Γ s) one.0)).0; under = two.0; next = two.1 }

record Small (N : Numbers) (f : Forest) : Type 0 where
  parts : (outer Γ : Sorts) (waiting : List (Name × Kind)) (ρ : Indices) (n : ℕ) → Fine outer Γ f → bits_in_scope outer ≡ n → bits_in_scope Γ ≡ n + bits_of_scope waiting → bits_in_scope Γ ≤ 24 → n ≤ 24
      → most_bits_of_all ((unrolled N f).parts outer Γ waiting ρ) n ≤ 24
  cases : (Γ : Sorts) (ρ : Indices) (n : ℕ) → are_options f ≡ true → Fine Γ Γ f → bits_in_scope Γ ≡ n → n ≤ 24 → most_bits_of_cases ((unrolled N f).cases Γ ρ) n ≤ 24
  branches : (Γ : Sorts) (ρ : Indices) (n : ℕ) → are_options f ≡ true → Fine Γ Γ f → bits_in_scope Γ ≡ n → n ≤ 24 → most_bits_of_branches ((unrolled N f).branches Γ ρ) n ≤ 24

as_parts_small : (N : Numbers) (below : Forest) → Small N below → (n : ℕ) → n ≤ 24 → (Γ : Sorts) (ρ : Indices) → Fine Γ Γ below → bits_in_scope Γ ≡ n → most_bits_of_all (as_parts (unrolled N below) Γ ρ) n ≤ 24
as_parts_small N below k n l Γ ρ f e = k.parts Γ Γ [] ρ n f e (omega (arith, e)) (omega (arith, e, l)) l

slot_small : (N : Numbers) (below : Forest) → Small N below → (n : ℕ) → n ≤ 24 → (Γ : Sorts) (ρ : Indices) → Fine Γ Γ below → bits_in_scope Γ ≡ n → most_bits (slot (unrolled N below) Γ ρ) n ≤ 24
slot_small N below k n l Γ ρ f e = first_most n (as_parts (unrolled N below) Γ ρ) l (as_parts_small N below k n l Γ ρ f e)

copied_small : {A : Type 0} (join : A → A → A) (none : A) (P : A → Type 0) → P none → ((a b : A) → P a → P b → P (join a b))
    → (g : Group) (times : Option Times) (Γ : Sorts) (ρ : Indices) (copy : Sorts → Indices → A) (below : Forest) (n : ℕ) → bits_in_scope Γ ≡ n
    → first_fault bits_fault (inside Γ (line.group g times)) (inside Γ (line.group g times)) (if has_copies (line.group g times) then copied_lines below else no_line) ≡ None
    → ((Δ : Sorts) (σ : Indices) → Fine Δ Δ below → bits_in_scope Δ ≡ n → P (copy Δ σ)) → P (copied join none times Γ ρ copy)
unfolding Fine
copied_small join none P e j g None Γ ρ copy below n q f h = h Γ ρ f q
copied_small join none P e j g (Some times) Γ ρ copy below n q f h = by_count times.count refl
  where
    by_count : (m : ℕ) → times.count ≡ m → P (copies join none times Γ ρ copy (numbers_from times.base times.count))
    by_count zero c = subst (λ m. P (copies join none times Γ ρ copy (numbers_from times.base m))) (sym c) e
    by_count (suc m) c = all_copies join none P e j times Γ ρ copy (numbers_from times.base times.count) (λ v.
        h (counter_of times ∷ Γ) (with_index ρ times.index.0 v)
        (ap (λ b. first_fault bits_fault (counter_of times ∷ Γ) (counter_of times ∷ Γ) (if b then copied_lines below else no_line)) (sym (ap (nat_lt 0) c ∙ lt-ltb 0 (suc m) (omega arith))) ∙ f)
        (omega (arith, q)))

construct_small : (N : Numbers) (below : Forest) → Small N below → (g : Group) (times : Option Times) → options_below (line.group g times) below ≡ true → (Γ : Sorts) (ρ : Indices) (n : ℕ) → n ≤ 24 → bits_in_scope Γ ≡ n
    → first_fault bits_fault (inside Γ (line.group g times)) (inside Γ (line.group g times)) (if has_copies (line.group g times) then copied_lines below else no_line) ≡ None
    → most_bits (construct g times (unrolled N below) Γ ρ) n ≤ 24
construct_small N below k word.Seq times o Γ ρ n l q f =
    copied_small trees_then no_tree (λ ps. most_bits_of_all ps n ≤ 24) l (trees_most n) word.Seq times Γ ρ (as_parts (unrolled N below)) below n q f (as_parts_small N below k n l)
construct_small N below k word.Par times o Γ ρ n l q f =
    copied_small trees_then no_tree (λ ps. most_bits_of_all ps n ≤ 24) l (trees_most n) word.Par times Γ ρ (as_parts (unrolled N below)) below n q f (as_parts_small N below k n l)
construct_small N below k word.If times o Γ ρ n l q f =
    copied_small cases_then no_case (λ cs. most_bits_of_cases cs n ≤ 24) l (cases_most n) word.If times Γ ρ (unrolled N below).cases below n q f (λ Δ σ r e. k.cases Δ σ n o r e l)
construct_small N below k word.Alt times o Γ ρ n l q f =
    copied_small branches_then no_branch (λ bs. most_bits_of_branches bs n ≤ 24) l (branches_most n) word.Alt times Γ ρ (unrolled N below).branches below n q f (λ Δ σ r e. k.branches Δ σ n o r e l)

process_small : (N : Numbers) (s : Shape) (below rest : Forest) → options_below s below ≡ true → Small N below → (outer Γ : Sorts) (ρ : Indices) (n : ℕ) → n ≤ 24 → bits_in_scope Γ ≡ n → IsFine outer Γ s below rest
    → most_bits (process N s (unrolled N below) Γ ρ) n ≤ 24
process_small N (line.header name params) below rest o k outer Γ ρ n l q f = l
process_small N line.close below rest o k outer Γ ρ n l q f = l
process_small N line.skip below rest o k outer Γ ρ n l q f = l
process_small N line.stop below rest o k outer Γ ρ n l q f = l
process_small N (line.assign xs es) below rest o k outer Γ ρ n l q f = l
process_small N (line.receive c x) below rest o k outer Γ ρ n l q f = l
process_small N (line.send c e) below rest o k outer Γ ρ n l q f = l
process_small N (line.group g times) below rest o k outer Γ ρ n l q f = construct_small N below k g times o Γ ρ n l q f.under
process_small N (line.declare kind ds) below rest o k outer Γ ρ n l q f = l
process_small N (line.condition e) below rest o k outer Γ ρ n l q f = l
process_small N (line.guard e w) below rest o k outer Γ ρ n l q f = l
process_small N line.nothing below rest o k outer Γ ρ n l q f = l

PartSmall : (N : Numbers) (m : ℕ) (s : Shape) (below rest : Forest) → Type 0
PartSmall N m s below rest = (outer Γ : Sorts) (waiting : List (Name × Kind)) (ρ : Indices) (n : ℕ) → Fine outer Γ (and_line m s below rest) → bits_in_scope outer ≡ n → bits_in_scope Γ ≡ n + bits_of_scope waiting
    → bits_in_scope Γ ≤ 24 → n ≤ 24 → most_bits_of_all (part_line N s (unrolled N below) (unrolled N rest) outer Γ waiting ρ) n ≤ 24

one_part : (N : Numbers) (m : ℕ) (s : Shape) (below rest : Forest) → options_below s below ≡ true → Small N below → Small N rest → is_declare s ≡ false → PartSmall N m s below rest
unfolding PartSmall
one_part N m s below rest opts kb kr d = λ outer Γ waiting ρ n f e w l i.
    let g = fine outer Γ m s below rest f in
    subst (λ ps. most_bits_of_all ps n ≤ 24) (sym (part_is N s (unrolled N below) (unrolled N rest) outer Γ waiting ρ d))
    (max_most (most_bits (declaring_all waiting (process N s (unrolled N below) Γ ρ)) n) (most_bits_of_all ((unrolled N rest).parts outer outer [] ρ) n) 24
    (subst (λ z. z ≤ 24) (sym (declared_most waiting (process N s (unrolled N below) Γ ρ) n))
    (process_small N s below rest opts kb outer Γ ρ (n + bits_of_scope waiting) (omega (arith, w, l)) w g))
    (kr.parts outer outer [] ρ n (subst (λ Δ. Fine outer Δ rest) (behind_is s outer Γ d) g.next) e (omega (arith, e)) (omega (arith, e, i)) i))

declared_part : (N : Numbers) (m : ℕ) (k : Kind) (ds : List Declared) (below rest : Forest) → Small N rest → PartSmall N m (line.declare k ds) below rest
unfolding PartSmall
declared_part N m k ds below rest kr = λ outer Γ waiting ρ n f e w l i.
    let g = fine outer Γ m (line.declare k ds) below rest f in
    kr.parts outer (declared_in Γ (entries_of k ds)) (waiting ++ all_named N k ds) ρ n g.next e
    (omega (arith, all_bits N k ds Γ, bits_append waiting (all_named N k ds), w)) (ltb-false 24 (bits_in_scope (declared_in Γ (entries_of k ds))) g.here) i

any_part : (N : Numbers) (m : ℕ) (s : Shape) (below rest : Forest) → options_below s below ≡ true → Small N below → Small N rest → PartSmall N m s below rest
unfolding is_declare
any_part N m (line.header name params) below rest o kb kr = one_part N m (line.header name params) below rest o kb kr refl
any_part N m line.close below rest o kb kr = one_part N m line.close below rest o kb kr refl
any_part N m line.skip below rest o kb kr = one_part N m line.skip below rest o kb kr refl
any_part N m line.stop below rest o kb kr = one_part N m line.stop below rest o kb kr refl
any_part N m (line.assign xs es) below rest o kb kr = one_part N m (line.assign xs es) below rest o kb kr refl
any_part N m (line.receive c x) below rest o kb kr = one_part N m (line.receive c x) below rest o kb kr refl
any_part N m (line.send c e) below rest o kb kr = one_part N m (line.send c e) below rest o kb kr refl
any_part N m (line.group g times) below rest o kb kr = one_part N m (line.group g times) below rest o kb kr refl
any_part N m (line.declare kind ds) below rest o kb kr = declared_part N m kind ds below rest kr
any_part N m (line.condition e) below rest o kb kr = one_part N m (line.condition e) below rest o kb kr refl
any_part N m (line.guard e w) below rest o kb kr = one_part N m (line.guard e w) below rest o kb kr refl
any_part N m line.nothing below rest o kb kr = one_part N m line.nothing below rest o kb kr refl

CasesSmall : (N : Numbers) (m : ℕ) (s : Shape) (below rest : Forest) → Type 0
CasesSmall N m s below rest = (Γ : Sorts) (ρ : Indices) (n : ℕ) → are_options (and_line m s below rest) ≡ true → Fine Γ Γ (and_line m s below rest) → bits_in_scope Γ ≡ n → n ≤ 24 → most_bits_of_cases (case_line N s (unrolled N below) (unrolled N rest) Γ ρ) n ≤ 24

rest_cases : (N : Numbers) (m : ℕ) (s : Shape) (below rest : Forest) → Small N rest → is_declare s ≡ false → (Γ : Sorts) (ρ : Indices) (n : ℕ) → are_options (and_line m s below rest) ≡ true → Fine Γ Γ (and_line m s below rest) → bits_in_scope Γ ≡ n → n ≤ 24
    → most_bits_of_cases ((unrolled N rest).cases Γ ρ) n ≤ 24
rest_cases N m s below rest kr d Γ ρ n p f e l = kr.cases Γ ρ n (and_parts (not (is_declare s)) (are_options rest) p).1 (subst (λ Δ. Fine Γ Δ rest) (behind_is s Γ Γ d) (fine Γ Γ m s below rest f).next) e l

nested_cases_small : (N : Numbers) (below : Forest) → Small N below → (g : Group) (times : Option Times) → options_below (line.group g times) below ≡ true → (Γ : Sorts) (ρ : Indices) (n : ℕ) → n ≤ 24 → bits_in_scope Γ ≡ n
    → first_fault bits_fault (inside Γ (line.group g times)) (inside Γ (line.group g times)) (if has_copies (line.group g times) then copied_lines below else no_line) ≡ None
    → most_bits_of_cases (nested_cases g times (unrolled N below) Γ ρ) n ≤ 24
nested_cases_small N below k word.Seq times o Γ ρ n l q f = l
nested_cases_small N below k word.Par times o Γ ρ n l q f = l
nested_cases_small N below k word.Alt times o Γ ρ n l q f = l
nested_cases_small N below k word.If times o Γ ρ n l q f =
    copied_small cases_then no_case (λ cs. most_bits_of_cases cs n ≤ 24) l (cases_most n) word.If times Γ ρ (unrolled N below).cases below n q f (λ Δ σ r e. k.cases Δ σ n o r e l)

one_case : (N : Numbers) (m : ℕ) (s : Shape) (below rest : Forest) → options_below s below ≡ true → Small N below → Small N rest → CasesSmall N m s below rest
unfolding CasesSmall is_declare Fine
one_case N m (line.header name params) below rest o kb kr = λ Γ ρ n p f e l. rest_cases N m (line.header name params) below rest kr refl Γ ρ n p f e l
one_case N m line.close below rest o kb kr = λ Γ ρ n p f e l. rest_cases N m line.close below rest kr refl Γ ρ n p f e l
one_case N m line.skip below rest o kb kr = λ Γ ρ n p f e l. rest_cases N m line.skip below rest kr refl Γ ρ n p f e l
one_case N m line.stop below rest o kb kr = λ Γ ρ n p f e l. rest_cases N m line.stop below rest kr refl Γ ρ n p f e l
one_case N m (line.assign xs es) below rest o kb kr = λ Γ ρ n p f e l. rest_cases N m (line.assign xs es) below rest kr refl Γ ρ n p f e l
one_case N m (line.receive c x) below rest o kb kr = λ Γ ρ n p f e l. rest_cases N m (line.receive c x) below rest kr refl Γ ρ n p f e l
one_case N m (line.send c x) below rest o kb kr = λ Γ ρ n p f e l. rest_cases N m (line.send c x) below rest kr refl Γ ρ n p f e l
one_case N m (line.group g times) below rest o kb kr = λ Γ ρ n p f e l.
    cases_most n (nested_cases g times (unrolled N below) Γ ρ) ((unrolled N rest).cases Γ ρ)
    (nested_cases_small N below kb g times o Γ ρ n l e (fine Γ Γ m (line.group g times) below rest f).under)
    (rest_cases N m (line.group g times) below rest kr refl Γ ρ n p f e l)
one_case N m (line.declare kind ds) below rest o kb kr = λ Γ ρ n p f e l. false_not_true p
one_case N m (line.condition c) below rest o kb kr = λ Γ ρ n p f e l.
    max_most (most_bits (slot (unrolled N below) Γ ρ) n) (most_bits_of_cases ((unrolled N rest).cases Γ ρ) n) 24
    (slot_small N below kb n l Γ ρ (fine Γ Γ m (line.condition c) below rest f).under e) (rest_cases N m (line.condition c) below rest kr refl Γ ρ n p f e l)
one_case N m (line.guard c w) below rest o kb kr = λ Γ ρ n p f e l. rest_cases N m (line.guard c w) below rest kr refl Γ ρ n p f e l
one_case N m line.nothing below rest o kb kr = λ Γ ρ n p f e l. rest_cases N m line.nothing below rest kr refl Γ ρ n p f e l

BranchesSmall : (N : Numbers) (m : ℕ) (s : Shape) (below rest : Forest) → Type 0
BranchesSmall N m s below rest = (Γ : Sorts) (ρ : Indices) (n : ℕ) → are_options (and_line m s below rest) ≡ true → Fine Γ Γ (and_line m s below rest) → bits_in_scope Γ ≡ n → n ≤ 24 → most_bits_of_branches (branch_line N s (unrolled N below) (unrolled N rest) Γ ρ) n ≤ 24

rest_branches : (N : Numbers) (m : ℕ) (s : Shape) (below rest : Forest) → Small N rest → is_declare s ≡ false → (Γ : Sorts) (ρ : Indices) (n : ℕ) → are_options (and_line m s below rest) ≡ true → Fine Γ Γ (and_line m s below rest) → bits_in_scope Γ ≡ n → n ≤ 24
    → most_bits_of_branches ((unrolled N rest).branches Γ ρ) n ≤ 24
rest_branches N m s below rest kr d Γ ρ n p f e l = kr.branches Γ ρ n (and_parts (not (is_declare s)) (are_options rest) p).1 (subst (λ Δ. Fine Γ Δ rest) (behind_is s Γ Γ d) (fine Γ Γ m s below rest f).next) e l

nested_branches_small : (N : Numbers) (below : Forest) → Small N below → (g : Group) (times : Option Times) → options_below (line.group g times) below ≡ true → (Γ : Sorts) (ρ : Indices) (n : ℕ) → n ≤ 24 → bits_in_scope Γ ≡ n
    → first_fault bits_fault (inside Γ (line.group g times)) (inside Γ (line.group g times)) (if has_copies (line.group g times) then copied_lines below else no_line) ≡ None
    → most_bits_of_branches (nested_branches g times (unrolled N below) Γ ρ) n ≤ 24
nested_branches_small N below k word.Seq times o Γ ρ n l q f = l
nested_branches_small N below k word.Par times o Γ ρ n l q f = l
nested_branches_small N below k word.If times o Γ ρ n l q f = l
nested_branches_small N below k word.Alt times o Γ ρ n l q f =
    copied_small branches_then no_branch (λ bs. most_bits_of_branches bs n ≤ 24) l (branches_most n) word.Alt times Γ ρ (unrolled N below).branches below n q f (λ Δ σ r e. k.branches Δ σ n o r e l)

guarded : (N : Numbers) (m : ℕ) (s : Shape) (below rest : Forest) → Small N below → Small N rest → is_declare s ≡ false → (Γ : Sorts) (ρ : Indices) (n : ℕ) → are_options (and_line m s below rest) ≡ true → Fine Γ Γ (and_line m s below rest) → Fine Γ Γ below
    → bits_in_scope Γ ≡ n → n ≤ 24 → max (most_bits (slot (unrolled N below) Γ ρ) n) (most_bits_of_branches ((unrolled N rest).branches Γ ρ) n) ≤ 24
guarded N m s below rest kb kr d Γ ρ n p f g e l =
    max_most (most_bits (slot (unrolled N below) Γ ρ) n) (most_bits_of_branches ((unrolled N rest).branches Γ ρ) n) 24 (slot_small N below kb n l Γ ρ g e) (rest_branches N m s below rest kr d Γ ρ n p f e l)

one_branch : (N : Numbers) (m : ℕ) (s : Shape) (below rest : Forest) → options_below s below ≡ true → Small N below → Small N rest → BranchesSmall N m s below rest
unfolding BranchesSmall is_declare Fine
one_branch N m (line.header name params) below rest o kb kr = λ Γ ρ n p f e l. rest_branches N m (line.header name params) below rest kr refl Γ ρ n p f e l
one_branch N m line.close below rest o kb kr = λ Γ ρ n p f e l. rest_branches N m line.close below rest kr refl Γ ρ n p f e l
one_branch N m line.skip below rest o kb kr = λ Γ ρ n p f e l. rest_branches N m line.skip below rest kr refl Γ ρ n p f e l
one_branch N m line.stop below rest o kb kr = λ Γ ρ n p f e l. rest_branches N m line.stop below rest kr refl Γ ρ n p f e l
one_branch N m (line.assign xs es) below rest o kb kr = λ Γ ρ n p f e l. rest_branches N m (line.assign xs es) below rest kr refl Γ ρ n p f e l
one_branch N m (line.receive c x) below rest o kb kr = λ Γ ρ n p f e l. guarded N m (line.receive c x) below rest kb kr refl Γ ρ n p f (fine Γ Γ m (line.receive c x) below rest f).under e l
one_branch N m (line.send c x) below rest o kb kr = λ Γ ρ n p f e l. guarded N m (line.send c x) below rest kb kr refl Γ ρ n p f (fine Γ Γ m (line.send c x) below rest f).under e l
one_branch N m (line.group g times) below rest o kb kr = λ Γ ρ n p f e l.
    branches_most n (nested_branches g times (unrolled N below) Γ ρ) ((unrolled N rest).branches Γ ρ)
    (nested_branches_small N below kb g times o Γ ρ n l e (fine Γ Γ m (line.group g times) below rest f).under)
    (rest_branches N m (line.group g times) below rest kr refl Γ ρ n p f e l)
one_branch N m (line.declare kind ds) below rest o kb kr = λ Γ ρ n p f e l. false_not_true p
one_branch N m (line.condition c) below rest o kb kr = λ Γ ρ n p f e l. rest_branches N m (line.condition c) below rest kr refl Γ ρ n p f e l
one_branch N m (line.guard c w) below rest o kb kr = λ Γ ρ n p f e l. guarded N m (line.guard c w) below rest kb kr refl Γ ρ n p f (fine Γ Γ m (line.guard c w) below rest f).under e l
one_branch N m line.nothing below rest o kb kr = λ Γ ρ n p f e l. rest_branches N m line.nothing below rest kr refl Γ ρ n p f e l

small : (N : Numbers) (f : Forest) → are_placed f ≡ true → Small N f
unfolding PartSmall CasesSmall BranchesSmall
small N no_line q = record { parts = λ outer Γ waiting ρ n f e w l i. i; cases = λ Γ ρ n p f e l. l; branches = λ Γ ρ n p f e l. l }
small N (and_line m s below rest) q =
    let opts = and_parts (options_below s below) (are_placed below && are_placed rest) q in
    let placed = and_parts (are_placed below) (are_placed rest) opts.1 in
    record {
      parts = any_part N m s below rest opts.0 (small N below placed.0) (small N rest placed.1);
      cases = one_case N m s below rest opts.0 (small N below placed.0) (small N rest placed.1);
      branches = one_branch N m s below rest opts.0 (small N below placed.0) (small N rest placed.1);
    }

pub scopes_small : (N : Numbers) (params : List Param) (below : Forest) → are_placed below ≡ true → bits_in_scope (param_scope params) ≤ 24
    → first_fault bits_fault (param_scope params) (param_scope params) (copied_lines below) ≡ None
    → most_bits (slot_process N (param_scope params) below) (bits_of_scope (params_named N params)) ≤ 24
unfolding Fine
scopes_small N params below q l f = slot_small N below (small N below q) (bits_of_scope (params_named N params)) (omega (arith, param_bits N params [], l)) (param_scope params) (λ i. 0) f (omega (arith, param_bits N params []))
