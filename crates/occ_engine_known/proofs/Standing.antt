-- What lines stand for declares the places that they declare, and no others.
use Rattle.std.proofs.Common.{◌≡◌, ℕ, Bool, true, List, [], ◌∷◌, ◌++◌, map, Option, Some, None, refl}
use Rattle.std.specs.List.{flat_map}
use Rattle.std.proofs.lemmas.Bool.{and_parts, and_from}
use Rattle.occ_engine.specs.occ_base.declared.names.Name.{Name}
use Rattle.occ_engine.specs.occ_parse.Known.{all_declare, branches_declare, cases_declare, declares, params_declare}
use Rattle.occ_engine.specs.occ_parse_forms.declared.form.Declared.{Declared}
use Rattle.occ_engine.specs.occ_parse_forms.declared.form.Group.{Group}
use Rattle.occ_engine.specs.occ_parse_forms.declared.form.Group.TheVariants as word
use Rattle.occ_engine.specs.occ_parse_forms.declared.form.Times.{Times}
use Rattle.occ_engine.specs.occ_parse_forms.Shape.{Shape}
use Rattle.occ_engine.specs.occ_parse_forms.Shape as line
use Rattle.occ_engine.specs.occ_parse_rules.Forest.{Forest, no_line, and_line}
use Rattle.occ_engine.specs.occ_parse_rules.Places.{Indices, Place, Sorts, counter_of, declared_in, entries_of, numbers_from, places, with_index}
use Rattle.occ_engine.specs.occ_parse_rules.Unrolled.{Lines, Numbers, all_named, branch_line, branches_then, case_line, cases_then, construct, copied, copies, first_tree, nested_branches, nested_cases, part_line, process, slot, slot_process, trees_then, unrolled}
use Rattle.occ_engine.specs.occ_parse_rules.Agreement.{AreIn, AreKnown, Known, declared_places}
use Rattle.occ_engine.specs.occ_syntax.declared.scope.Kind.{Kind}
use Rattle.occ_engine.specs.occ_syntax.declared.scope.Kind.TheVariants.{Chan, Var}
use Rattle.occ_engine.specs.occ_syntax.Declarations.{declaring, declaring_all}
use Rattle.occ_engine.specs.occ_syntax.Tree.{Tree, Trees, no_tree, and_tree, Cases, no_case, and_case, Branches, no_branch, and_branch}

module _ (N : Numbers) (test : ℕ → Bool) where
  -- the number of the place passes the test
  abbrev pub good : Known
  good x k = test (N x k)

  -- ---- declarations

  abbrev NamesPass : List (Name × Kind) → Type 0
  NamesPass ds = params_declare test ds ≡ true

  more_names : (ds es : List (Name × Kind)) → NamesPass ds → NamesPass es → NamesPass (ds ++ es)
  more_names [] es h k = k
  more_names (d ∷ ds) es h k =
      let a = and_parts (test d.0.0) (params_declare test ds) h in
      and_from (test d.0.0) (params_declare test (ds ++ es)) a.0 (more_names ds es a.1 k)

  numbered : (k : Kind) (ps qs : List Place) (es : List (Name × Kind)) → AreIn good (ps ++ qs) → (AreIn good qs → NamesPass es)
      → NamesPass (map (λ (p : Place). (record { 0 = N p.name p.element }, k)) ps ++ es)
  numbered k [] qs es h f = f h
  numbered k (p ∷ ps) qs es h f =
      and_from (good p.name p.element) (params_declare test (map (λ (q : Place). (record { 0 = N q.name q.element }, k)) ps ++ es)) h.0
      (numbered k ps qs es h.1 f)

  all_numbered : (k : Kind) (ds : List Declared) → AreIn good (flat_map places ds) → NamesPass (all_named N k ds)
  all_numbered k [] h = refl
  all_numbered k (d ∷ ds) h = numbered k (places d) (flat_map places ds) (all_named N k ds) h (all_numbered k ds)

  one_around : (x : ℕ) (k : Kind) (p : Tree) → test x ≡ true → declares test p ≡ true → declares test (declaring x k p) ≡ true
  one_around x (Var w) p h d = and_from (test x) (declares test p) h d
  one_around x (Chan w mark) p h d = and_from (test x) (declares test p) h d

  all_around : (ds : List (Name × Kind)) (p : Tree) → NamesPass ds → declares test p ≡ true → declares test (declaring_all ds p) ≡ true
  all_around [] p h d = d
  all_around (e ∷ ds) p h d =
      let a = and_parts (test e.0.0) (params_declare test ds) h in one_around e.0.0 e.1 (declaring_all ds p) a.0 (all_around ds p a.1 d)

  -- ---- lists, and copies that are lists one behind the other

  record IsKept {A : Type 0} (passes : A → Bool) (join : A → A → A) (none : A) : Type 0 where
    empty : passes none ≡ true
    both : (a b : A) → passes a ≡ true → passes b ≡ true → passes (join a b) ≡ true

  trees_both : (ps qs : Trees) → all_declare test ps ≡ true → all_declare test qs ≡ true → all_declare test (trees_then ps qs) ≡ true
  trees_both no_tree qs h k = k
  trees_both (and_tree p ps) qs h k =
      let a = and_parts (declares test p) (all_declare test ps) h in
      and_from (declares test p) (all_declare test (trees_then ps qs)) a.0 (trees_both ps qs a.1 k)

  cases_both : (cs ds : Cases) → cases_declare test cs ≡ true → cases_declare test ds ≡ true → cases_declare test (cases_then cs ds) ≡ true
  cases_both no_case ds h k = k
  cases_both (and_case e p cs) ds h k =
      let a = and_parts (declares test p) (cases_declare test cs) h in
      and_from (declares test p) (cases_declare test (cases_then cs ds)) a.0 (cases_both cs ds a.1 k)

  branches_both : (bs cs : Branches) → branches_declare test bs ≡ true → branches_declare test cs ≡ true
      → branches_declare test (branches_then bs cs) ≡ true
  branches_both no_branch cs h k = k
  branches_both (and_branch e w p bs) cs h k =
      let a = and_parts (declares test p) (branches_declare test bs) h in
      and_from (declares test p) (branches_declare test (branches_then bs cs)) a.0 (branches_both bs cs a.1 k)

  trees_kept : IsKept (all_declare test) trees_then no_tree
  trees_kept = record { empty = refl; both = trees_both }

  cases_kept : IsKept (cases_declare test) cases_then no_case
  cases_kept = record { empty = refl; both = cases_both }

  branches_kept : IsKept (branches_declare test) branches_then no_branch
  branches_kept = record { empty = refl; both = branches_both }

  each_copy : {A : Type 0} (passes : A → Bool) (join : A → A → A) (none : A) → IsKept passes join none
      → (times : Times) (Γ : Sorts) (ρ : Indices) (copy : Sorts → Indices → A)
      → ((Δ : Sorts) (σ : Indices) → passes (copy Δ σ) ≡ true) → (vs : List ℕ) → passes (copies join none times Γ ρ copy vs) ≡ true
  each_copy passes join none k times Γ ρ copy f [] = k.empty
  each_copy passes join none k times Γ ρ copy f (v ∷ vs) =
      let Δ = counter_of times ∷ Γ in
      let σ = with_index ρ times.index.0 v in
      k.both (copy Δ σ) (copies join none times Γ ρ copy vs) (f Δ σ) (each_copy passes join none k times Γ ρ copy f vs)

  all_copies : {A : Type 0} (passes : A → Bool) (join : A → A → A) (none : A) → IsKept passes join none
      → (times : Option Times) (Γ : Sorts) (ρ : Indices) (copy : Sorts → Indices → A)
      → ((Δ : Sorts) (σ : Indices) → passes (copy Δ σ) ≡ true) → passes (copied join none times Γ ρ copy) ≡ true
  all_copies passes join none k None Γ ρ copy f = f Γ ρ
  all_copies passes join none k (Some times) Γ ρ copy f =
      each_copy passes join none k times Γ ρ copy f (numbers_from times.base times.count)

  -- ---- lines

  record Stands (l : Lines) : Type 0 where
    parts : (outer Γ : Sorts) (ds : List (Name × Kind)) (ρ : Indices) → NamesPass ds → all_declare test (l.parts outer Γ ds ρ) ≡ true
    cases : (Γ : Sorts) (ρ : Indices) → cases_declare test (l.cases Γ ρ) ≡ true
    branches : (Γ : Sorts) (ρ : Indices) → branches_declare test (l.branches Γ ρ) ≡ true

  first_stands : (ps : Trees) → all_declare test ps ≡ true → declares test (first_tree ps) ≡ true
  first_stands no_tree h = refl
  first_stands (and_tree p ps) h = (and_parts (declares test p) (all_declare test ps) h).0

  module _ (l : Lines) (f : Stands l) where
    in_slot : (Γ : Sorts) (ρ : Indices) → declares test (slot l Γ ρ) ≡ true
    in_slot Γ ρ = first_stands (l.parts Γ Γ [] ρ) (f.parts Γ Γ [] ρ refl)

    in_cases : (times : Option Times) (Γ : Sorts) (ρ : Indices) → cases_declare test (copied cases_then no_case times Γ ρ l.cases) ≡ true
    in_cases times Γ ρ = all_copies (cases_declare test) cases_then no_case cases_kept times Γ ρ l.cases f.cases

    in_branches : (times : Option Times) (Γ : Sorts) (ρ : Indices)
        → branches_declare test (copied branches_then no_branch times Γ ρ l.branches) ≡ true
    in_branches times Γ ρ = all_copies (branches_declare test) branches_then no_branch branches_kept times Γ ρ l.branches f.branches

    in_trees : (times : Option Times) (Γ : Sorts) (ρ : Indices)
        → all_declare test (copied trees_then no_tree times Γ ρ (λ Δ σ. l.parts Δ Δ [] σ)) ≡ true
    in_trees times Γ ρ =
        all_copies (all_declare test) trees_then no_tree trees_kept times Γ ρ (λ Δ σ. l.parts Δ Δ [] σ) (λ Δ σ. f.parts Δ Δ [] σ refl)

    in_construct : (g : Group) (times : Option Times) (Γ : Sorts) (ρ : Indices) → declares test (construct g times l Γ ρ) ≡ true
    in_construct word.Seq times Γ ρ = in_trees times Γ ρ
    in_construct word.Par times Γ ρ = in_trees times Γ ρ
    in_construct word.If times Γ ρ = in_cases times Γ ρ
    in_construct word.Alt times Γ ρ = in_branches times Γ ρ

    in_process : (s : Shape) (Γ : Sorts) (ρ : Indices) → declares test (process N s l Γ ρ) ≡ true
    in_process (line.group g times) Γ ρ = in_construct g times Γ ρ
    in_process other Γ ρ = refl

    in_nested_cases : (g : Group) (times : Option Times) (Γ : Sorts) (ρ : Indices) → cases_declare test (nested_cases g times l Γ ρ) ≡ true
    in_nested_cases word.If times Γ ρ = in_cases times Γ ρ
    in_nested_cases other times Γ ρ = refl

    in_nested_branches : (g : Group) (times : Option Times) (Γ : Sorts) (ρ : Indices)
        → branches_declare test (nested_branches g times l Γ ρ) ≡ true
    in_nested_branches word.Alt times Γ ρ = in_branches times Γ ρ
    in_nested_branches other times Γ ρ = refl

    -- a line with lines below it, and the lines behind those

    module _ (r : Lines) (g : Stands r) where
      part_stands : (s : Shape) → AreIn good (declared_places s) → (outer Γ : Sorts) (ds : List (Name × Kind)) (ρ : Indices) → NamesPass ds
          → all_declare test (part_line N s l r outer Γ ds ρ) ≡ true
      part_stands (line.declare k es) known outer Γ ds ρ h =
          g.parts outer (declared_in Γ (entries_of k es)) (ds ++ all_named N k es) ρ
          (more_names ds (all_named N k es) h (all_numbered k es known))
      part_stands s known outer Γ ds ρ h =
          and_from _ _ (all_around ds (process N s l Γ ρ) h (in_process s Γ ρ)) (g.parts outer outer [] ρ refl)

      case_stands : (s : Shape) (Γ : Sorts) (ρ : Indices) → cases_declare test (case_line N s l r Γ ρ) ≡ true
      case_stands (line.condition e) Γ ρ = and_from _ _ (in_slot Γ ρ) (g.cases Γ ρ)
      case_stands (line.group w times) Γ ρ =
          cases_both (nested_cases w times l Γ ρ) (r.cases Γ ρ) (in_nested_cases w times Γ ρ) (g.cases Γ ρ)
      case_stands other Γ ρ = g.cases Γ ρ

      branch_stands : (s : Shape) (Γ : Sorts) (ρ : Indices) → branches_declare test (branch_line N s l r Γ ρ) ≡ true
      branch_stands (line.receive c x) Γ ρ = and_from _ _ (in_slot Γ ρ) (g.branches Γ ρ)
      branch_stands (line.send c e) Γ ρ = and_from _ _ (in_slot Γ ρ) (g.branches Γ ρ)
      branch_stands (line.guard e w) Γ ρ = and_from _ _ (in_slot Γ ρ) (g.branches Γ ρ)
      branch_stands (line.group w times) Γ ρ =
          branches_both (nested_branches w times l Γ ρ) (r.branches Γ ρ) (in_nested_branches w times Γ ρ) (g.branches Γ ρ)
      branch_stands other Γ ρ = g.branches Γ ρ

  lines_stand : (f : Forest) → AreKnown good f → Stands (unrolled N f)
  lines_stand no_line h = record { parts = λ outer Γ ds ρ k. refl; cases = λ Γ ρ. refl; branches = λ Γ ρ. refl }
  lines_stand (and_line number s below rest) h =
      let l = unrolled N below in
      let r = unrolled N rest in
      let inner = lines_stand below h.1.0 in
      let others = lines_stand rest h.1.1 in
      record {
        parts = part_stands l inner r others s h.0;
        cases = case_stands l inner r others s;
        branches = branch_stands l inner r others s;
      }

  -- where the places that the lines declare have numbers that pass a test, the names that the process declares pass it
  pub slot_stands : (Γ : Sorts) (f : Forest) → AreKnown good f → declares test (slot_process N Γ f) ≡ true
  slot_stands Γ f h = in_slot (unrolled N f) (lines_stand f h) Γ (λ i. 0)
