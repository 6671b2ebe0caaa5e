-- What breaks the usage rule, PAR by PAR.
use Rattle.std.specs.Prelude.{ℕ, ◌+◌, ◌-◌, ◌^◌, min, Bool, false, ◌&&◌, ◌||◌, List, [], ◌∷◌, ◌++◌, map, Option, None, Some, if◌then◌else◌}
use Rattle.occ_syntax.specs.occ_base.declared.event.Dir.{Dir}
use Rattle.occ_syntax.specs.occ_base.declared.event.Dir.TheVariants.{Input, Output}
use Rattle.occ_syntax.specs.occ_base.declared.names.Name.{Name}
use Rattle.occ_syntax.specs.declared.scope.Kind.{Kind}
use Rattle.occ_syntax.specs.Names.{free, written, uses_end, free_in_some, written_in_some, end_in_some}
use Rattle.occ_syntax.specs.Tree.{Tree, skip, stop, assign, receive, send, seq, par, select, alt, declare, connect, Trees, no_tree, and_tree, Cases, no_case, and_case, Branches, no_branch, and_branch}
use Rattle.occ_names.specs.Mentions.{called}
use Rattle.occ_usage.specs.declared.fault.UsageFault.{UsageFault}
use Rattle.occ_usage.specs.declared.fault.UsageFault.TheVariants.{SharedVariable, SharedEnd}

-- one part assigns or inputs the variable, and another names it
abbrev pub shared_variable : Trees → ℕ → Bool
shared_variable no_tree x = false
shared_variable (and_tree p ps) x = ((written p x && free_in_some ps x) || (free p x && written_in_some ps x)) || shared_variable ps x

-- two parts use the end of a channel
abbrev pub shared_end : Trees → ℕ → Dir → Bool
shared_end no_tree c d = false
shared_end (and_tree p ps) c d = (uses_end p c d && end_in_some ps c d) || shared_end ps c d

-- the faults of the PAR of number n, among names in their order: the variables that the test shows, and the ends
abbrev pub variable_faults : (ℕ → Bool) → ℕ → List ℕ → List UsageFault
variable_faults test n [] = []
variable_faults test n (x ∷ xs) = if test x then SharedVariable n (called x) ∷ variable_faults test n xs else variable_faults test n xs

abbrev pub end_fault : Bool → ℕ → ℕ → Dir → List UsageFault
end_fault test n c d = if test then SharedEnd n (called c) d ∷ [] else []

abbrev pub end_faults : (ℕ → Dir → Bool) → ℕ → List ℕ → List UsageFault
end_faults test n [] = []
end_faults test n (c ∷ cs) = (end_fault (test c Input) n c Input ++ end_fault (test c Output) n c Output) ++ end_faults test n cs

-- The processes of a part are numbered in preorder, each once. A number that no u32 holds is the greatest u32.
abbrev pub later : ℕ → ℕ
later n = min (n + 1) (2 ^ 32 - 1)

-- the number behind those of a part, whose own number is n
abbrev mutual
  pub after : Tree → ℕ → ℕ
  after skip n = later n
  after stop n = later n
  after (assign xs es) n = later n
  after (receive c x) n = later n
  after (send c e) n = later n
  after (seq ps) n = after_all ps (later n)
  after (par ps) n = after_all ps (later n)
  after (select cs) n = after_cases cs (later n)
  after (alt bs) n = after_branches bs (later n)
  after (declare x w p) n = after p (later n)
  after (connect c w p) n = after p (later n)

  pub after_all : Trees → ℕ → ℕ
  after_all no_tree n = n
  after_all (and_tree p ps) n = after_all ps (after p n)

  pub after_cases : Cases → ℕ → ℕ
  after_cases no_case n = n
  after_cases (and_case e p cs) n = after_cases cs (after p n)

  pub after_branches : Branches → ℕ → ℕ
  after_branches no_branch n = n
  after_branches (and_branch e w p bs) n = after_branches bs (after p n)

-- The faults of a part whose own number is n, where these names are in scope, from outside in: PAR by PAR in preorder,
-- at each PAR variables before ends, each in the order of the scope, inputs before outputs.
abbrev mutual
  pub faults : Tree → ℕ → List ℕ → List UsageFault
  faults skip n xs = []
  faults stop n xs = []
  faults (assign ys es) n xs = []
  faults (receive c x) n xs = []
  faults (send c e) n xs = []
  faults (seq ps) n xs = faults_of_all ps (later n) xs
  faults (par ps) n xs = (variable_faults (shared_variable ps) n xs ++ end_faults (shared_end ps) n xs) ++ faults_of_all ps (later n) xs
  faults (select cs) n xs = faults_of_cases cs (later n) xs
  faults (alt bs) n xs = faults_of_branches bs (later n) xs
  faults (declare x w p) n xs = faults p (later n) (xs ++ x ∷ [])
  faults (connect c w p) n xs = faults p (later n) (xs ++ c ∷ [])

  pub faults_of_all : Trees → ℕ → List ℕ → List UsageFault
  faults_of_all no_tree n xs = []
  faults_of_all (and_tree p ps) n xs = faults p n xs ++ faults_of_all ps (after p n) xs

  pub faults_of_cases : Cases → ℕ → List ℕ → List UsageFault
  faults_of_cases no_case n xs = []
  faults_of_cases (and_case e p cs) n xs = faults p n xs ++ faults_of_cases cs (after p n) xs

  pub faults_of_branches : Branches → ℕ → List ℕ → List UsageFault
  faults_of_branches no_branch n xs = []
  faults_of_branches (and_branch e w p bs) n xs = faults p n xs ++ faults_of_branches bs (after p n) xs

abbrev pub first : List UsageFault → Option UsageFault
first [] = None
first (f ∷ fs) = Some f

-- the names of a scope, in its order
abbrev pub names_of : List (Name × Kind) → List ℕ
names_of scope = map (λ (entry : Name × Kind). entry.0.0) scope
