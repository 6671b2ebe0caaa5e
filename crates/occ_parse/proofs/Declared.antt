-- Each name that a program declares has a text in the table that reading leaves.
use Rattle.std.proofs.Common.{◌≡◌, ℕ, zero, suc, ◌+◌, ◌<◌, ◌≤◌, Bool, true, false, nat_lt, eqb, cond, true≢false, get_or, List, [], ◌∷◌, ◌++◌, map, length, Option, Some, None, refl, sym, ap, subst, ◌∙◌, arith, ◌&&◌, ◌||◌, inl, inr}
use Rattle.std.specs.Str.{bytes_eq}
use Rattle.std.specs.List.{AllByRecursion, list_all, flat_map, position_or_len}
use Rattle.std.proofs.lemmas.Bool.{and_parts, and_from, ltb-true, lt-ltb, cases_lt, cases_Bool, eq-eqb}
use Rattle.std.proofs.lemmas.List.Folds.{position_or_len_push}
use Rattle.occ_syntax.specs.occ_base.declared.names.Name.{Name}
use Rattle.occ_syntax.specs.occ_base.Names.{place_of}
use Rattle.occ_syntax.proofs.from_base.Naming.{place-le}
use Rattle.occ_syntax.specs.declared.scope.Kind.{Kind}
use Rattle.occ_syntax.specs.declared.scope.Kind.TheVariants.{Var, Chan}
use Rattle.occ_syntax.specs.declared.scope.Program.{Program}
use Rattle.occ_syntax.specs.Declarations.{declaring, declaring_all}
use Rattle.occ_syntax.specs.Tree.{Tree, Trees, no_tree, and_tree, Cases, no_case, and_case, Branches, no_branch, and_branch}
use Rattle.occ_syntax.specs.Tree as syntax
use Rattle.occ_syntax.specs.View.{tree}
use Rattle.occ_parse_rules.specs.occ_lex.Symbols.{Extends}
use Rattle.occ_parse_rules.proofs.from_lex.Interned.{extends_same}
use Rattle.occ_parse_rules.specs.occ_parse_forms.declared.form.Declared.{Declared}
use Rattle.occ_parse_rules.specs.occ_parse_forms.declared.form.Declared.TheVariants as declared
use Rattle.occ_parse_rules.specs.occ_parse_forms.declared.form.Group.{Group}
use Rattle.occ_parse_rules.specs.occ_parse_forms.declared.form.Group.TheVariants as word
use Rattle.occ_parse_rules.specs.occ_parse_forms.declared.form.Param.{Param}
use Rattle.occ_parse_rules.specs.occ_parse_forms.declared.form.Times.{Times}
use Rattle.occ_parse_rules.specs.occ_parse_forms.Shape.{Shape, header, close, skip, stop, assign, receive, send, group, declare, condition, guard, nothing}
use Rattle.occ_parse_rules.specs.Forest.{Forest, no_line, and_line}
use Rattle.occ_parse_rules.specs.Places.{Place, Sorts, Indices, places, elements_from, declared_in, entries_of, counter_of, numbers_from, with_index}
use Rattle.occ_parse_rules.specs.Unrolled.{Numbers, named, all_named, params_named, trees_then, cases_then, branches_then, copies, copied, first_tree, Lines, as_parts, slot, construct, process, part_line, nested_cases, case_line, nested_branches, branch_line, unrolled, slot_process}
use Rattle.occ_parse_rules.specs.Passing.{declared_passes, param_passes, shape_passes}
use Rattle.occ_parse_rules.specs.Programs.{param_scope}
use Rattle.occ_parse_unroll.specs.Elements.{program_places, with_elements}
use Rattle.occ_parse_unroll.specs.Numbers.{element_text, number_in}
use Rattle.occ_parse.specs.declared.bound.Bound.{Bound}
use Rattle.occ_parse.specs.Drafts.{params_in, header_params, header_below}
use Rattle.occ_parse.specs.Reading.{IsLaidOut, names_in}
use Rattle.occ_parse.specs.Known.{declares, all_declare, cases_declare, branches_declare, params_declare, is_below, NamesAreKnown}
use Rattle.occ_parse.proofs.Texts.{in_table}
use Rattle.occ_parse.proofs.Places.{places_extend}
use Rattle.occ_parse.proofs.Knowing.{EachLine, IsLineOf, each_map, lines_are_of, line_passes}

-- ---- what the lines declare passes a test

module _ (N : Numbers) (Q : ℕ → Bool) where
  abbrev Good : Place → Type 0
  Good p = Q (N p.name p.element) ≡ true

  abbrev GoodOnes : List Declared → Type 0
  GoodOnes ds = AllByRecursion (λ d. AllByRecursion Good (places d)) ds

  abbrev GoodLine : Shape → Type 0
  GoodLine (declare kind ds) = GoodOnes ds
  GoodLine (header name params) = Unit {0}
  GoodLine close = Unit {0}
  GoodLine skip = Unit {0}
  GoodLine stop = Unit {0}
  GoodLine (assign xs es) = Unit {0}
  GoodLine (receive c x) = Unit {0}
  GoodLine (send c e) = Unit {0}
  GoodLine (group g times) = Unit {0}
  GoodLine (condition e) = Unit {0}
  GoodLine (guard e w) = Unit {0}
  GoodLine nothing = Unit {0}

  both_pass : (xs ys : List (Name × Kind)) → params_declare Q xs ≡ true → params_declare Q ys ≡ true → params_declare Q (xs ++ ys) ≡ true
  both_pass [] ys h k = k
  both_pass (x ∷ xs) ys h k =
      let p = and_parts (Q x.0.0) (params_declare Q xs) h in
      and_from (Q x.0.0) (params_declare Q (xs ++ ys)) p.0 (both_pass xs ys p.1 k)

  places_pass : (k : Kind) (ps : List Place) → AllByRecursion Good ps → params_declare Q (map (λ p. (record { 0 = N p.name p.element }, k)) ps) ≡ true
  places_pass k [] h = refl
  places_pass k (p ∷ ps) h = and_from (Q (N p.name p.element)) (params_declare Q (map (λ q. (record { 0 = N q.name q.element }, k)) ps)) h.0 (places_pass k ps h.1)

  names_pass : (k : Kind) (ds : List Declared) → GoodOnes ds → params_declare Q (all_named N k ds) ≡ true
  names_pass k [] h = refl
  names_pass k (d ∷ ds) h = both_pass (named N k d) (all_named N k ds) (places_pass k (places d) h.0) (names_pass k ds h.1)

  params_pass : (ps : List Param) → AllByRecursion (λ p. AllByRecursion Good (places p.declared)) ps → params_declare Q (params_named N ps) ≡ true
  params_pass [] h = refl
  params_pass (p ∷ ps) h = both_pass (named N p.kind p.declared) (params_named N ps) (places_pass p.kind (places p.declared) h.0) (params_pass ps h.1)

  around_one : (x : ℕ) (k : Kind) (p : Tree) → Q x ≡ true → declares Q p ≡ true → declares Q (declaring x k p) ≡ true
  around_one x (Var w) p h d = and_from (Q x) (declares Q p) h d
  around_one x (Chan w m) p h d = and_from (Q x) (declares Q p) h d

  around : (ds : List (Name × Kind)) (p : Tree) → params_declare Q ds ≡ true → declares Q p ≡ true → declares Q (declaring_all ds p) ≡ true
  around [] p h d = d
  around (e ∷ ds) p h d =
      let k = and_parts (Q e.0.0) (params_declare Q ds) h in
      around_one e.0.0 e.1 (declaring_all ds p) k.0 (around ds p k.1 d)

  first_passes : (ts : Trees) → all_declare Q ts ≡ true → declares Q (first_tree ts) ≡ true
  first_passes no_tree h = refl
  first_passes (and_tree p ps) h = (and_parts (declares Q p) (all_declare Q ps) h).0

  then_trees : (a b : Trees) → all_declare Q a ≡ true → all_declare Q b ≡ true → all_declare Q (trees_then a b) ≡ true
  then_trees no_tree b h k = k
  then_trees (and_tree p ps) b h k =
      let q = and_parts (declares Q p) (all_declare Q ps) h in
      and_from (declares Q p) (all_declare Q (trees_then ps b)) q.0 (then_trees ps b q.1 k)

  then_cases : (a b : Cases) → cases_declare Q a ≡ true → cases_declare Q b ≡ true → cases_declare Q (cases_then a b) ≡ true
  then_cases no_case b h k = k
  then_cases (and_case e p ps) b h k =
      let q = and_parts (declares Q p) (cases_declare Q ps) h in
      and_from (declares Q p) (cases_declare Q (cases_then ps b)) q.0 (then_cases ps b q.1 k)

  then_branches : (a b : Branches) → branches_declare Q a ≡ true → branches_declare Q b ≡ true → branches_declare Q (branches_then a b) ≡ true
  then_branches no_branch b h k = k
  then_branches (and_branch e w p ps) b h k =
      let q = and_parts (declares Q p) (branches_declare Q ps) h in
      and_from (declares Q p) (branches_declare Q (branches_then ps b)) q.0 (then_branches ps b q.1 k)

  -- what lines one below another stand for declares what passes
  record Passes (l : Lines) : Type 0 where
    parts : (outer Γ : Sorts) (ds : List (Name × Kind)) (ρ : Indices) → params_declare Q ds ≡ true → all_declare Q (l.parts outer Γ ds ρ) ≡ true
    cases : (Γ : Sorts) (ρ : Indices) → cases_declare Q (l.cases Γ ρ) ≡ true
    branches : (Γ : Sorts) (ρ : Indices) → branches_declare Q (l.branches Γ ρ) ≡ true

  slot_passes : (l : Lines) → Passes l → (Γ : Sorts) (ρ : Indices) → declares Q (slot l Γ ρ) ≡ true
  slot_passes l f Γ ρ = first_passes (l.parts Γ Γ [] ρ) (f.parts Γ Γ [] ρ refl)

  module _ {A : Type 0} (F : A → Bool) (join : A → A → A) (none : A) (joined : (a b : A) → F a ≡ true → F b ≡ true → F (join a b) ≡ true) (nothing_passes : F none ≡ true) where
    copies_pass : (times : Times) (Γ : Sorts) (ρ : Indices) (copy : Sorts → Indices → A) (vs : List ℕ) → ((Δ : Sorts) (σ : Indices) → F (copy Δ σ) ≡ true) → F (copies join none times Γ ρ copy vs) ≡ true
    copies_pass times Γ ρ copy [] h = nothing_passes
    copies_pass times Γ ρ copy (v ∷ vs) h =
        joined (copy (counter_of times ∷ Γ) (with_index ρ times.index.0 v)) (copies join none times Γ ρ copy vs) (h (counter_of times ∷ Γ) (with_index ρ times.index.0 v)) (copies_pass times Γ ρ copy vs h)

    copied_passes : (times : Option Times) (Γ : Sorts) (ρ : Indices) (copy : Sorts → Indices → A) → ((Δ : Sorts) (σ : Indices) → F (copy Δ σ) ≡ true) → F (copied join none times Γ ρ copy) ≡ true
    copied_passes None Γ ρ copy h = h Γ ρ
    copied_passes (Some times) Γ ρ copy h = copies_pass times Γ ρ copy (numbers_from times.base times.count) h

  trees_copied : (times : Option Times) (l : Lines) → Passes l → (Γ : Sorts) (ρ : Indices) → all_declare Q (copied trees_then no_tree times Γ ρ (as_parts l)) ≡ true
  trees_copied times l f Γ ρ = copied_passes (all_declare Q) trees_then no_tree then_trees refl times Γ ρ (as_parts l) (λ Δ σ. f.parts Δ Δ [] σ refl)

  cases_copied : (times : Option Times) (l : Lines) → Passes l → (Γ : Sorts) (ρ : Indices) → cases_declare Q (copied cases_then no_case times Γ ρ l.cases) ≡ true
  cases_copied times l f Γ ρ = copied_passes (cases_declare Q) cases_then no_case then_cases refl times Γ ρ l.cases f.cases

  branches_copied : (times : Option Times) (l : Lines) → Passes l → (Γ : Sorts) (ρ : Indices) → branches_declare Q (copied branches_then no_branch times Γ ρ l.branches) ≡ true
  branches_copied times l f Γ ρ = copied_passes (branches_declare Q) branches_then no_branch then_branches refl times Γ ρ l.branches f.branches

  construct_passes : (g : Group) (times : Option Times) (l : Lines) → Passes l → (Γ : Sorts) (ρ : Indices) → declares Q (construct g times l Γ ρ) ≡ true
  construct_passes word.Seq times l f Γ ρ = trees_copied times l f Γ ρ
  construct_passes word.Par times l f Γ ρ = trees_copied times l f Γ ρ
  construct_passes word.If times l f Γ ρ = cases_copied times l f Γ ρ
  construct_passes word.Alt times l f Γ ρ = branches_copied times l f Γ ρ

  process_passes : (s : Shape) (l : Lines) → Passes l → (Γ : Sorts) (ρ : Indices) → declares Q (process N s l Γ ρ) ≡ true
  process_passes (header name params) l f Γ ρ = refl
  process_passes close l f Γ ρ = refl
  process_passes skip l f Γ ρ = refl
  process_passes stop l f Γ ρ = refl
  process_passes (assign xs es) l f Γ ρ = refl
  process_passes (receive c x) l f Γ ρ = refl
  process_passes (send c e) l f Γ ρ = refl
  process_passes (group g times) l f Γ ρ = construct_passes g times l f Γ ρ
  process_passes (declare kind ds) l f Γ ρ = refl
  process_passes (condition e) l f Γ ρ = refl
  process_passes (guard e w) l f Γ ρ = refl
  process_passes nothing l f Γ ρ = refl

  -- a line that begins a process, and the lines behind it
  begun : (s : Shape) (l r : Lines) → Passes l → Passes r → (outer Γ : Sorts) (ds : List (Name × Kind)) (ρ : Indices) → params_declare Q ds ≡ true
      → (declares Q (declaring_all ds (process N s l Γ ρ)) && all_declare Q (r.parts outer outer [] ρ)) ≡ true
  begun s l r f g outer Γ ds ρ h =
      and_from (declares Q (declaring_all ds (process N s l Γ ρ))) (all_declare Q (r.parts outer outer [] ρ)) (around ds (process N s l Γ ρ) h (process_passes s l f Γ ρ)) (g.parts outer outer [] ρ refl)

  part_passes : (s : Shape) → GoodLine s → (l r : Lines) → Passes l → Passes r → (outer Γ : Sorts) (ds : List (Name × Kind)) (ρ : Indices) → params_declare Q ds ≡ true
      → all_declare Q (part_line N s l r outer Γ ds ρ) ≡ true
  part_passes (declare kind es) good l r f g outer Γ ds ρ h = g.parts outer (declared_in Γ (entries_of kind es)) (ds ++ all_named N kind es) ρ (both_pass ds (all_named N kind es) h (names_pass kind es good))
  part_passes (header name params) good l r f g outer Γ ds ρ h = begun (header name params) l r f g outer Γ ds ρ h
  part_passes close good l r f g outer Γ ds ρ h = begun close l r f g outer Γ ds ρ h
  part_passes skip good l r f g outer Γ ds ρ h = begun skip l r f g outer Γ ds ρ h
  part_passes stop good l r f g outer Γ ds ρ h = begun stop l r f g outer Γ ds ρ h
  part_passes (assign xs es) good l r f g outer Γ ds ρ h = begun (assign xs es) l r f g outer Γ ds ρ h
  part_passes (receive c x) good l r f g outer Γ ds ρ h = begun (receive c x) l r f g outer Γ ds ρ h
  part_passes (send c e) good l r f g outer Γ ds ρ h = begun (send c e) l r f g outer Γ ds ρ h
  part_passes (group w times) good l r f g outer Γ ds ρ h = begun (group w times) l r f g outer Γ ds ρ h
  part_passes (condition e) good l r f g outer Γ ds ρ h = begun (condition e) l r f g outer Γ ds ρ h
  part_passes (guard e w) good l r f g outer Γ ds ρ h = begun (guard e w) l r f g outer Γ ds ρ h
  part_passes nothing good l r f g outer Γ ds ρ h = begun nothing l r f g outer Γ ds ρ h

  nested_cases_pass : (w : Group) (times : Option Times) (l : Lines) → Passes l → (Γ : Sorts) (ρ : Indices) → cases_declare Q (nested_cases w times l Γ ρ) ≡ true
  nested_cases_pass word.If times l f Γ ρ = cases_copied times l f Γ ρ
  nested_cases_pass word.Seq times l f Γ ρ = refl
  nested_cases_pass word.Par times l f Γ ρ = refl
  nested_cases_pass word.Alt times l f Γ ρ = refl

  case_passes : (s : Shape) (l r : Lines) → Passes l → Passes r → (Γ : Sorts) (ρ : Indices) → cases_declare Q (case_line N s l r Γ ρ) ≡ true
  case_passes (condition e) l r f g Γ ρ = and_from (declares Q (slot l Γ ρ)) (cases_declare Q (r.cases Γ ρ)) (slot_passes l f Γ ρ) (g.cases Γ ρ)
  case_passes (group w times) l r f g Γ ρ = then_cases (nested_cases w times l Γ ρ) (r.cases Γ ρ) (nested_cases_pass w times l f Γ ρ) (g.cases Γ ρ)
  case_passes (header name params) l r f g Γ ρ = g.cases Γ ρ
  case_passes close l r f g Γ ρ = g.cases Γ ρ
  case_passes skip l r f g Γ ρ = g.cases Γ ρ
  case_passes stop l r f g Γ ρ = g.cases Γ ρ
  case_passes (assign xs es) l r f g Γ ρ = g.cases Γ ρ
  case_passes (receive c x) l r f g Γ ρ = g.cases Γ ρ
  case_passes (send c e) l r f g Γ ρ = g.cases Γ ρ
  case_passes (declare kind ds) l r f g Γ ρ = g.cases Γ ρ
  case_passes (guard e w) l r f g Γ ρ = g.cases Γ ρ
  case_passes nothing l r f g Γ ρ = g.cases Γ ρ

  nested_branches_pass : (w : Group) (times : Option Times) (l : Lines) → Passes l → (Γ : Sorts) (ρ : Indices) → branches_declare Q (nested_branches w times l Γ ρ) ≡ true
  nested_branches_pass word.Alt times l f Γ ρ = branches_copied times l f Γ ρ
  nested_branches_pass word.Seq times l f Γ ρ = refl
  nested_branches_pass word.Par times l f Γ ρ = refl
  nested_branches_pass word.If times l f Γ ρ = refl

  guarded : (l r : Lines) → Passes l → Passes r → (Γ : Sorts) (ρ : Indices) → (declares Q (slot l Γ ρ) && branches_declare Q (r.branches Γ ρ)) ≡ true
  guarded l r f g Γ ρ = and_from (declares Q (slot l Γ ρ)) (branches_declare Q (r.branches Γ ρ)) (slot_passes l f Γ ρ) (g.branches Γ ρ)

  branch_passes : (s : Shape) (l r : Lines) → Passes l → Passes r → (Γ : Sorts) (ρ : Indices) → branches_declare Q (branch_line N s l r Γ ρ) ≡ true
  branch_passes (receive c x) l r f g Γ ρ = guarded l r f g Γ ρ
  branch_passes (send c e) l r f g Γ ρ = guarded l r f g Γ ρ
  branch_passes (guard e w) l r f g Γ ρ = guarded l r f g Γ ρ
  branch_passes (group w times) l r f g Γ ρ = then_branches (nested_branches w times l Γ ρ) (r.branches Γ ρ) (nested_branches_pass w times l f Γ ρ) (g.branches Γ ρ)
  branch_passes (header name params) l r f g Γ ρ = g.branches Γ ρ
  branch_passes close l r f g Γ ρ = g.branches Γ ρ
  branch_passes skip l r f g Γ ρ = g.branches Γ ρ
  branch_passes stop l r f g Γ ρ = g.branches Γ ρ
  branch_passes (assign xs es) l r f g Γ ρ = g.branches Γ ρ
  branch_passes (declare kind ds) l r f g Γ ρ = g.branches Γ ρ
  branch_passes (condition e) l r f g Γ ρ = g.branches Γ ρ
  branch_passes nothing l r f g Γ ρ = g.branches Γ ρ

  lines_pass : (f : Forest) → EachLine GoodLine f → Passes (unrolled N f)
  lines_pass no_line h = record { parts = λ outer Γ ds ρ k. refl; cases = λ Γ ρ. refl; branches = λ Γ ρ. refl }
  lines_pass (and_line number s below rest) h =
      let inner = lines_pass below h.1.0 in
      let others = lines_pass rest h.1.1 in
      record {
        parts = λ outer Γ ds ρ k. part_passes s h.0 (unrolled N below) (unrolled N rest) inner others outer Γ ds ρ k;
        cases = λ Γ ρ. case_passes s (unrolled N below) (unrolled N rest) inner others Γ ρ;
        branches = λ Γ ρ. branch_passes s (unrolled N below) (unrolled N rest) inner others Γ ρ;
      }

  program_passes : (Γ : Sorts) (f : Forest) → EachLine GoodLine f → declares Q (slot_process N Γ f) ≡ true
  program_passes Γ f h = slot_passes (unrolled N f) (lines_pass f h) Γ (λ i. 0)

  -- ---- names below a bound

  module _ (n : ℕ) (step : (x : ℕ) (k : Option ℕ) → x < n → Q (N x k) ≡ true) where
    elements_good : (x k m : ℕ) → x < n → AllByRecursion Good (elements_from x k m)
    elements_good x k zero h = tt
    elements_good x k (suc m) h = (step x (Some k) h, elements_good x (k + 1) m h)

    places_good : (d : Declared) → declared_passes (is_below n) d ≡ true → AllByRecursion Good (places d)
    places_good (declared.Plain x) h = (step x.0 None (ltb-true x.0 n h), tt)
    places_good (declared.Element x k) h = (step x.0 (Some k) (ltb-true x.0 n h), tt)
    places_good (declared.Array x m) h = elements_good x.0 0 m (ltb-true x.0 n h)

    ones_good : (ds : List Declared) → list_all (declared_passes (is_below n)) ds ≡ true → GoodOnes ds
    ones_good [] h = tt
    ones_good (d ∷ ds) h =
        let p = and_parts (declared_passes (is_below n) d) (list_all (declared_passes (is_below n)) ds) h in
        (places_good d p.0, ones_good ds p.1)

    params_good : (ps : List Param) → list_all (param_passes (is_below n)) ps ≡ true → AllByRecursion (λ p. AllByRecursion Good (places p.declared)) ps
    params_good [] h = tt
    params_good (p ∷ ps) h =
        let k = and_parts (param_passes (is_below n) p) (list_all (param_passes (is_below n)) ps) h in
        (places_good p.declared (and_parts (declared_passes (is_below n) p.declared) _ k.0).0, params_good ps k.1)

    line_good : (s : Shape) → shape_passes (is_below n) s ≡ true → GoodLine s
    line_good (declare kind ds) h = ones_good ds (and_parts _ (list_all (declared_passes (is_below n)) ds) h).1
    line_good (header name params) h = tt
    line_good close h = tt
    line_good skip h = tt
    line_good stop h = tt
    line_good (assign xs es) h = tt
    line_good (receive c x) h = tt
    line_good (send c e) h = tt
    line_good (group g times) h = tt
    line_good (condition e) h = tt
    line_good (guard e w) h = tt
    line_good nothing h = tt

    header_good : (s : Shape) → shape_passes (is_below n) s ≡ true → AllByRecursion (λ p. AllByRecursion Good (places p.declared)) (params_in s)
    header_good (header name params) h = params_good params (and_parts (is_below n name.0) (list_all (param_passes (is_below n)) params) h).1
    header_good (declare kind ds) h = tt
    header_good close h = tt
    header_good skip h = tt
    header_good stop h = tt
    header_good (assign xs es) h = tt
    header_good (receive c x) h = tt
    header_good (send c e) h = tt
    header_good (group g times) h = tt
    header_good (condition e) h = tt
    header_good (guard e w) h = tt
    header_good nothing h = tt

    forest_good : (f : Forest) → EachLine (λ s. shape_passes (is_below n) s ≡ true) f → EachLine GoodLine f
    forest_good f h = each_map (λ s. shape_passes (is_below n) s ≡ true) GoodLine line_good f h

    all_params : (f : Forest) → EachLine (λ s. shape_passes (is_below n) s ≡ true) f → params_declare Q (params_named N (header_params f)) ≡ true
    all_params no_line h = refl
    all_params (and_line number s below rest) h = params_pass (params_in s) (header_good s h.0)

    all_declared : (f : Forest) (Γ : Sorts) → EachLine (λ s. shape_passes (is_below n) s ≡ true) f → declares Q (slot_process N Γ (header_below f)) ≡ true
    all_declared no_line Γ h = program_passes Γ no_line tt
    all_declared (and_line number s below rest) Γ h = program_passes Γ below (forest_good below h.1.0)

-- ---- two tests together

module _ (P Q R : ℕ → Bool) (both : (x : ℕ) → P x ≡ true → Q x ≡ true → R x ≡ true) where
  mutual
    together : (p : Tree) → declares P p ≡ true → declares Q p ≡ true → declares R p ≡ true
    together syntax.skip h k = refl
    together syntax.stop h k = refl
    together (syntax.assign xs es) h k = refl
    together (syntax.receive c x) h k = refl
    together (syntax.send c e) h k = refl
    together (syntax.seq ps) h k = together_all ps h k
    together (syntax.par ps) h k = together_all ps h k
    together (syntax.select cs) h k = together_cases cs h k
    together (syntax.alt bs) h k = together_branches bs h k
    together (syntax.declare x w p) h k =
        let a = and_parts (P x) (declares P p) h in
        let b = and_parts (Q x) (declares Q p) k in
        and_from (R x) (declares R p) (both x a.0 b.0) (together p a.1 b.1)
    together (syntax.connect x w p) h k =
        let a = and_parts (P x) (declares P p) h in
        let b = and_parts (Q x) (declares Q p) k in
        and_from (R x) (declares R p) (both x a.0 b.0) (together p a.1 b.1)

    together_all : (ps : Trees) → all_declare P ps ≡ true → all_declare Q ps ≡ true → all_declare R ps ≡ true
    together_all no_tree h k = refl
    together_all (and_tree p ps) h k =
        let a = and_parts (declares P p) (all_declare P ps) h in
        let b = and_parts (declares Q p) (all_declare Q ps) k in
        and_from (declares R p) (all_declare R ps) (together p a.0 b.0) (together_all ps a.1 b.1)

    together_cases : (ps : Cases) → cases_declare P ps ≡ true → cases_declare Q ps ≡ true → cases_declare R ps ≡ true
    together_cases no_case h k = refl
    together_cases (and_case e p ps) h k =
        let a = and_parts (declares P p) (cases_declare P ps) h in
        let b = and_parts (declares Q p) (cases_declare Q ps) k in
        and_from (declares R p) (cases_declare R ps) (together p a.0 b.0) (together_cases ps a.1 b.1)

    together_branches : (ps : Branches) → branches_declare P ps ≡ true → branches_declare Q ps ≡ true → branches_declare R ps ≡ true
    together_branches no_branch h k = refl
    together_branches (and_branch e w p ps) h k =
        let a = and_parts (declares P p) (branches_declare P ps) h in
        let b = and_parts (declares Q p) (branches_declare Q ps) k in
        and_from (declares R p) (branches_declare R ps) (together p a.0 b.0) (together_branches ps a.1 b.1)

  together_params : (ps : List (Name × Kind)) → params_declare P ps ≡ true → params_declare Q ps ≡ true → params_declare R ps ≡ true
  together_params [] h k = refl
  together_params (e ∷ ps) h k =
      let a = and_parts (P e.0.0) (params_declare P ps) h in
      let b = and_parts (Q e.0.0) (params_declare Q ps) k in
      and_from (R e.0.0) (params_declare R ps) (both e.0.0 a.0 b.0) (together_params ps a.1 b.1)

-- ---- numbers in a table, and in the table with the empty text behind it

or_first : (a b : Bool) → a ≡ true → (a || b) ≡ true
or_first true b h = refl
or_first false b h = absurd cc

or_second : (a b : Bool) → b ≡ true → (a || b) ≡ true
or_second true b h = refl
or_second false b h = h

abbrev beside : ℕ → ℕ → Bool
beside n x = nat_lt x n || nat_lt n x

text_is_not_empty : (a : List ℕ) (k : ℕ) → bytes_eq (element_text a k) [] ≡ false
text_is_not_empty [] k = refl
text_is_not_empty (x ∷ a) k = refl

at_most : (t : List (List ℕ)) (x : ℕ) (k : Option ℕ) → x < length t → is_below (length t + 1) (number_in t x k) ≡ true
at_most t x None h = lt-ltb x (length t + 1) (omega (arith, h))
at_most t x (Some k) h =
    let text = element_text (get_or t x []) k in
    lt-ltb (place_of t text) (length t + 1) (omega (arith, place-le t text))

below_bound : (n p : ℕ) → p ≤ n → eqb p n ≡ false → p < n
below_bound n p le apart =
    elim (cases_lt p n) [
      | inl h ↦ h
      | inr h ↦ (let same : p ≡ n = omega (arith, le, h) in absurd (true≢false (sym (eq-eqb p n same) ∙ apart)))
    ]

found_or_behind : (n p : ℕ) (miss : Bool) → p ≤ n → miss ≡ false → beside n (cond (eqb p n) (n + cond miss 0 1) p) ≡ true
found_or_behind n p miss le missed =
    elim (cases_Bool (eqb p n)) [
      | inl same ↦ (let e : cond (eqb p n) (n + cond miss 0 1) p ≡ n + 1 = ap (λ b. cond b (n + cond miss 0 1) p) same ∙ ap (λ b. n + cond b 0 1) missed in
          ap (beside n) e ∙ or_second (nat_lt (n + 1) n) (nat_lt n (n + 1)) (lt-ltb n (n + 1) (omega arith)))
      | inr apart ↦ (let e : cond (eqb p n) (n + cond miss 0 1) p ≡ p = ap (λ b. cond b (n + cond miss 0 1) p) apart in
          ap (beside n) e ∙ or_first (nat_lt p n) (nat_lt n p) (lt-ltb p n (below_bound n p le apart)))
    ]

abbrev longer_table : List (List ℕ) → List (List ℕ)
longer_table t = t ++ [] ∷ []

not_last : (t : List (List ℕ)) (x : ℕ) (k : Option ℕ) → x < length t → beside (length t) (number_in (longer_table t) x k) ≡ true
not_last t x None h = or_first (nat_lt x (length t)) (nat_lt (length t) x) (lt-ltb x (length t) h)
not_last t x (Some k) h =
    let text = element_text (get_or (longer_table t) x []) k in
    let test = bytes_eq text in
    let e : place_of (longer_table t) text ≡ cond (eqb (position_or_len test t) (length t)) (length t + cond (test []) 0 1) (position_or_len test t) = position_or_len_push test t [] in
    ap (beside (length t)) e ∙ found_or_behind (length t) (position_or_len test t) (test []) (place-le t text) (text_is_not_empty (get_or (longer_table t) x []) k)

-- a number that is at most n, and isn't n, is below n
is_less : (n x : ℕ) → is_below (n + 1) x ≡ true → beside n x ≡ true → is_below n x ≡ true
is_less n x h k =
    let most : x < n + 1 = ltb-true x (n + 1) h in
    elim (cases_Bool (nat_lt x n)) [
      | inl less ↦ less
      | inr other ↦ (let more : nat_lt n x ≡ true = sym (ap (λ b. b || nat_lt n x) other) ∙ k in
          let bad : n < x = ltb-true n x more in absurd (omega (arith, most, bad)))
    ]

-- What is read, which is the same by each table that goes on from the one that reading leaves, declares names of that one.
pub known_from : (b : Bound) (text : List ℕ) (old new : List (List ℕ)) (f : Forest) → IsLaidOut b text old f → Extends (names_in text old) new → (program : Program)
    → ((t : List (List ℕ)) → Extends new t → program.params ≡ params_named (number_in t) (header_params f))
    → ((t : List (List ℕ)) → Extends new t → tree program.body ≡ slot_process (number_in t) (param_scope (header_params f)) (header_below f))
    → NamesAreKnown new program
known_from b text old new f l e program params body =
    let n = length new in
    let passing : EachLine (λ s. shape_passes (is_below n) s ≡ true) f =
    each_map (IsLineOf new) (λ s. shape_passes (is_below n) s ≡ true) (line_passes new (is_below n) (in_table new)) f (lines_are_of b text old new f l e) in
    let Γ = param_scope (header_params f) in
    let t = longer_table new in
    let on : Extends new t = ([] ∷ [], refl) in
    let N = number_in new in
    let M = number_in t in
    let P = is_below (n + 1) in
    let Q = beside n in
    record {
      params = together_params P Q (is_below n) (is_less n) program.params
          (ap (params_declare P) (params new (extends_same new)) ∙ all_params N P n (at_most new) f passing)
          (ap (params_declare Q) (params t on) ∙ all_params M Q n (not_last new) f passing);
      body = together P Q (is_below n) (is_less n) (tree program.body)
          (ap (declares P) (body new (extends_same new)) ∙ all_declared N P n (at_most new) f Γ passing)
          (ap (declares Q) (body t on) ∙ all_declared M Q n (not_last new) f Γ passing);
    }

-- the same of what reading leaves
pub known_of : (b : Bound) (text : List ℕ) (old mid new : List (List ℕ)) (f h : Forest) (ps : List Param) (below : Forest) (program : Program)
    → IsLaidOut b text old f → mid ≡ names_in text old → h ≡ f → ps ≡ header_params h → below ≡ header_below h → new ≡ with_elements mid ps below
    → ((t : List (List ℕ)) → Extends new t → program.params ≡ params_named (number_in t) ps)
    → ((t : List (List ℕ)) → Extends new t → tree program.body ≡ slot_process (number_in t) (param_scope ps) below)
    → NamesAreKnown new program
known_of b text old mid new f h ps below program l m also p q table params body =
    let ps_are : ps ≡ header_params f = p ∙ ap (λ k. header_params k) also in
    let below_is : below ≡ header_below f = q ∙ ap (λ k. header_below k) also in
    let on : Extends (names_in text old) new = subst (λ t. Extends t new) m (subst (Extends mid) (sym table) (places_extend mid (program_places ps below))) in
    known_from b text old new f l on program
    (λ t e. params t e ∙ ap (λ qs. params_named (number_in t) qs) ps_are)
    (λ t e. body t e ∙ ap (λ qs. slot_process (number_in t) (param_scope qs) below) ps_are ∙ ap (λ k. slot_process (number_in t) (param_scope (header_params f)) k) below_is)
