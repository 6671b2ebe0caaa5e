-- What a fault of usage names has a text, where the names of the program have.
use Rattle.std.proofs.Common.{◌≡◌, ◌<◌, ◌++◌, ℕ, Bool, cond, true, false, refl, subst, List, [], ◌∷◌, length, nat_lt}
use Rattle.std.specs.List.{list_all}
use Rattle.std.proofs.lemmas.Bool.{and_parts, and_from, ltb-true}
use Rattle.occ_syntax.specs.occ_base.declared.event.Dir.{Dir}
use Rattle.occ_syntax.specs.occ_base.declared.event.Dir.TheVariants.{Input, Output}
use Rattle.occ_syntax.specs.occ_base.declared.names.Name.{Name}
use Rattle.occ_syntax.specs.declared.scope.Kind.{Kind}
use Rattle.occ_syntax.specs.declared.scope.Program.{Program}
use Rattle.occ_syntax.specs.Tree.{Tree, skip, stop, assign, receive, send, seq, par, select, alt, declare, connect, Trees, no_tree, and_tree, Cases, no_case, and_case, Branches, no_branch, and_branch}
use Rattle.occ_syntax.specs.View.{tree}
use Rattle.occ_run_schedule.specs.occ_names.Mentions.{called}
use Rattle.occ_run_schedule.specs.occ_usage.Accepted.{usage_faults}
use Rattle.occ_run_schedule.specs.occ_usage.Faults.{shared_variable, shared_end, variable_faults, end_fault, end_faults, later, after, faults, faults_of_all, faults_of_cases, faults_of_branches, names_of}
use Rattle.occ_run_schedule.specs.occ_usage.declared.fault.UsageFault.{UsageFault}
use Rattle.occ_run_schedule.specs.occ_usage.declared.fault.UsageFault.TheVariants as shared
use Rattle.occ_tool_words.specs.occ_parse.Known.{declares, all_declare, cases_declare, branches_declare, params_declare, is_below, NamesAreKnown}
use Rattle.occ_tool_run.specs.Texts.{FaultIsNamed}

abbrev Named : ℕ → UsageFault → Type 0
Named n (shared.SharedVariable node name) = name.0 < n
Named n (shared.SharedEnd node name dir) = name.0 < n
Named n shared.Memory = ⊥

abbrev AllNamed : ℕ → List UsageFault → Type 0
AllNamed n [] = Unit {0}
AllNamed n (f ∷ fs) = (Named n f) × (AllNamed n fs)

append_named : (n : ℕ) (fs gs : List UsageFault) → AllNamed n fs → AllNamed n gs → AllNamed n (fs ++ gs)
append_named n [] gs h k = k
append_named n (f ∷ fs) gs h k = (h.0, append_named n fs gs h.1 k)

abbrev below : ℕ → List ℕ → Bool
below n xs = list_all (λ x. nat_lt x n) xs

if_named : (n : ℕ) (b : Bool) (f : UsageFault) (fs : List UsageFault) → Named n f → AllNamed n fs → AllNamed n (cond b (f ∷ fs) fs)
if_named n true f fs h k = (h, k)
if_named n false f fs h k = k

variables_named : (n : ℕ) (test : ℕ → Bool) (node : ℕ) (xs : List ℕ) → below n xs ≡ true → AllNamed n (variable_faults test node xs)
variables_named n test node [] h = tt
variables_named n test node (x ∷ xs) h =
    let p = and_parts (nat_lt x n) (below n xs) h in
    if_named n (test x) (shared.SharedVariable node (called x)) (variable_faults test node xs) (ltb-true x n p.0) (variables_named n test node xs p.1)

end_named : (n : ℕ) (test : Bool) (node c : ℕ) (d : Dir) → c < n → AllNamed n (end_fault test node c d)
end_named n test node c d h = if_named n test (shared.SharedEnd node (called c) d) [] h tt

ends_named : (n : ℕ) (test : ℕ → Dir → Bool) (node : ℕ) (cs : List ℕ) → below n cs ≡ true → AllNamed n (end_faults test node cs)
ends_named n test node [] h = tt
ends_named n test node (c ∷ cs) h =
    let p = and_parts (nat_lt c n) (below n cs) h in
    let lt = ltb-true c n p.0 in
    append_named n (end_fault (test c Input) node c Input ++ end_fault (test c Output) node c Output) (end_faults test node cs)
    (append_named n (end_fault (test c Input) node c Input) (end_fault (test c Output) node c Output) (end_named n (test c Input) node c Input lt) (end_named n (test c Output) node c Output lt))
    (ends_named n test node cs p.1)

one_more : (n : ℕ) (xs : List ℕ) (x : ℕ) → below n xs ≡ true → nat_lt x n ≡ true → below n (xs ++ x ∷ []) ≡ true
one_more n [] x h k = and_from (nat_lt x n) true k refl
one_more n (y ∷ ys) x h k =
    let p = and_parts (nat_lt y n) (below n ys) h in
    and_from (nat_lt y n) (below n (ys ++ x ∷ [])) p.0 (one_more n ys x p.1 k)

mutual
  faults_named : (n : ℕ) (p : Tree) (node : ℕ) (xs : List ℕ) → below n xs ≡ true → declares (is_below n) p ≡ true → AllNamed n (faults p node xs)
  faults_named n skip node xs h d = tt
  faults_named n stop node xs h d = tt
  faults_named n (assign ys es) node xs h d = tt
  faults_named n (receive c x) node xs h d = tt
  faults_named n (send c e) node xs h d = tt
  faults_named n (seq ps) node xs h d = all_faults_named n ps (later node) xs h d
  faults_named n (par ps) node xs h d =
      append_named n (variable_faults (shared_variable ps) node xs ++ end_faults (shared_end ps) node xs) (faults_of_all ps (later node) xs)
      (append_named n (variable_faults (shared_variable ps) node xs) (end_faults (shared_end ps) node xs) (variables_named n (shared_variable ps) node xs h) (ends_named n (shared_end ps) node xs h))
      (all_faults_named n ps (later node) xs h d)
  faults_named n (select cs) node xs h d = case_faults_named n cs (later node) xs h d
  faults_named n (alt bs) node xs h d = branch_faults_named n bs (later node) xs h d
  faults_named n (declare x w p) node xs h d =
      let k = and_parts (nat_lt x n) (declares (is_below n) p) d in
      faults_named n p (later node) (xs ++ x ∷ []) (one_more n xs x h k.0) k.1
  faults_named n (connect c w p) node xs h d =
      let k = and_parts (nat_lt c n) (declares (is_below n) p) d in
      faults_named n p (later node) (xs ++ c ∷ []) (one_more n xs c h k.0) k.1

  all_faults_named : (n : ℕ) (ps : Trees) (node : ℕ) (xs : List ℕ) → below n xs ≡ true → all_declare (is_below n) ps ≡ true → AllNamed n (faults_of_all ps node xs)
  all_faults_named n no_tree node xs h d = tt
  all_faults_named n (and_tree p ps) node xs h d =
      let k = and_parts (declares (is_below n) p) (all_declare (is_below n) ps) d in
      append_named n (faults p node xs) (faults_of_all ps (after p node) xs) (faults_named n p node xs h k.0) (all_faults_named n ps (after p node) xs h k.1)

  case_faults_named : (n : ℕ) (cs : Cases) (node : ℕ) (xs : List ℕ) → below n xs ≡ true → cases_declare (is_below n) cs ≡ true → AllNamed n (faults_of_cases cs node xs)
  case_faults_named n no_case node xs h d = tt
  case_faults_named n (and_case e p cs) node xs h d =
      let k = and_parts (declares (is_below n) p) (cases_declare (is_below n) cs) d in
      append_named n (faults p node xs) (faults_of_cases cs (after p node) xs) (faults_named n p node xs h k.0) (case_faults_named n cs (after p node) xs h k.1)

  branch_faults_named : (n : ℕ) (bs : Branches) (node : ℕ) (xs : List ℕ) → below n xs ≡ true → branches_declare (is_below n) bs ≡ true → AllNamed n (faults_of_branches bs node xs)
  branch_faults_named n no_branch node xs h d = tt
  branch_faults_named n (and_branch e w p bs) node xs h d =
      let k = and_parts (declares (is_below n) p) (branches_declare (is_below n) bs) d in
      append_named n (faults p node xs) (faults_of_branches bs (after p node) xs) (faults_named n p node xs h k.0) (branch_faults_named n bs (after p node) xs h k.1)

names_below : (n : ℕ) (params : List (Name × Kind)) → params_declare (is_below n) params ≡ true → below n (names_of params) ≡ true
names_below n [] h = refl
names_below n (e ∷ params) h =
    let p = and_parts (nat_lt e.0.0 n) (params_declare (is_below n) params) h in
    and_from (nat_lt e.0.0 n) (below n (names_of params)) p.0 (names_below n params p.1)

fault_named : (names : List (List ℕ)) (f : UsageFault) → Named (length names) f → FaultIsNamed names f
fault_named names (shared.SharedVariable node name) h = h
fault_named names (shared.SharedEnd node name dir) h = h
fault_named names shared.Memory h = h

pub first_named : (names : List (List ℕ)) (program : Program) (f : UsageFault) (fs : List UsageFault) → NamesAreKnown names program → usage_faults program ≡ f ∷ fs → FaultIsNamed names f
first_named names program f fs known found =
    let n = length names in
    let all = faults_named n (tree program.body) 0 (names_of program.params) (names_below n program.params known.params) known.body in
    let k : AllNamed n (f ∷ fs) = subst (AllNamed n) found all in
    fault_named names f k.0
