-- Lists of parts that are the same one by one, and the places in a tree.
use Rattle.occ_syntax.specs.Same.{SAME}
use Rattle.occ_syntax.specs.Scopes.{Environment, with_name}
use Rattle.occ_syntax.specs.Tree.{Branches, Cases, Exp, Tree, Trees, Waiting, alt, and_branch, and_case, and_tree, assign, connect, declare, no_branch, no_case, no_tree, par, receive, select, send, seq, skip, stop}
use Rattle.occ_syntax.specs.declared.scope.Kind.TheVariants.{Chan, Var}
use Rattle.std.specs.Option.{option_and_then, option_map, unwrap_or}
use Rattle.std.specs.Prelude.{List, None, Option, Some, [], suc, zero, ℕ, ◌∷◌}

pub data EachSame (Γ : Environment) : Trees → Trees → Type 0 where
  no_parts : EachSame Γ no_tree no_tree
  and_part : {p q : Tree} {ps qs : Trees} → SAME Γ p q → EachSame Γ ps qs → EachSame Γ (and_tree p ps) (and_tree q qs)

-- choices of the same conditions
pub data EachChoiceSame (Γ : Environment) : Cases → Cases → Type 0 where
  no_choices : EachChoiceSame Γ no_case no_case
  and_choice : {e : Exp} {p q : Tree} {cs ds : Cases} → SAME Γ p q → EachChoiceSame Γ cs ds → EachChoiceSame Γ (and_case e p cs) (and_case e q ds)

-- alternatives of the same guards
pub data EachBranchSame (Γ : Environment) : Branches → Branches → Type 0 where
  no_alternatives : EachBranchSame Γ no_branch no_branch
  and_alternative : {e : Exp} {w : Waiting} {p q : Tree} {bs ds : Branches} → SAME Γ p q → EachBranchSame Γ bs ds → EachBranchSame Γ (and_branch e w p bs) (and_branch e w q ds)

-- ---- the parts of a process by their numbers, from 0

abbrev pub tree_at : Trees → ℕ → Option Tree
tree_at no_tree i = None
tree_at (and_tree p ps) zero = Some p
tree_at (and_tree p ps) (suc i) = tree_at ps i

abbrev pub case_at : Cases → ℕ → Option Tree
case_at no_case i = None
case_at (and_case e p cs) zero = Some p
case_at (and_case e p cs) (suc i) = case_at cs i

abbrev pub branch_at : Branches → ℕ → Option Tree
branch_at no_branch i = None
branch_at (and_branch e w p bs) zero = Some p
branch_at (and_branch e w p bs) (suc i) = branch_at bs i

abbrev pub only_at : Tree → ℕ → Option Tree
only_at p zero = Some p
only_at p (suc i) = None

-- of SEQ and PAR the part, of IF and ALT the process of the choice or the branch, of a declaration what it governs
abbrev pub child : Tree → ℕ → Option Tree
child skip i = None
child stop i = None
child (assign xs es) i = None
child (receive c x) i = None
child (send c e) i = None
child (seq ps) i = tree_at ps i
child (par ps) i = tree_at ps i
child (select cs) i = case_at cs i
child (alt bs) i = branch_at bs i
child (declare x w p) i = only_at p i
child (connect c w p) i = only_at p i

-- the same with that part replaced, where there is one

abbrev pub with_tree : Trees → ℕ → Tree → Trees
with_tree no_tree i r = no_tree
with_tree (and_tree p ps) zero r = and_tree r ps
with_tree (and_tree p ps) (suc i) r = and_tree p (with_tree ps i r)

abbrev pub with_case : Cases → ℕ → Tree → Cases
with_case no_case i r = no_case
with_case (and_case e p cs) zero r = and_case e r cs
with_case (and_case e p cs) (suc i) r = and_case e p (with_case cs i r)

abbrev pub with_branch : Branches → ℕ → Tree → Branches
with_branch no_branch i r = no_branch
with_branch (and_branch e w p bs) zero r = and_branch e w r bs
with_branch (and_branch e w p bs) (suc i) r = and_branch e w p (with_branch bs i r)

abbrev pub with_only : Tree → ℕ → Tree → Tree
with_only p zero r = r
with_only p (suc i) r = p

abbrev pub with_child : Tree → ℕ → Tree → Tree
with_child skip i r = skip
with_child stop i r = stop
with_child (assign xs es) i r = assign xs es
with_child (receive c x) i r = receive c x
with_child (send c e) i r = send c e
with_child (seq ps) i r = seq (with_tree ps i r)
with_child (par ps) i r = par (with_tree ps i r)
with_child (select cs) i r = select (with_case cs i r)
with_child (alt bs) i r = alt (with_branch bs i r)
with_child (declare x w p) i r = declare x w (with_only p i r)
with_child (connect c w p) i r = connect c w (with_only p i r)

-- the environment of the parts of a process
abbrev pub environment_below : Environment → Tree → Environment
environment_below Γ skip = Γ
environment_below Γ stop = Γ
environment_below Γ (assign xs es) = Γ
environment_below Γ (receive c x) = Γ
environment_below Γ (send c e) = Γ
environment_below Γ (seq ps) = Γ
environment_below Γ (par ps) = Γ
environment_below Γ (select cs) = Γ
environment_below Γ (alt bs) = Γ
environment_below Γ (declare x w p) = with_name Γ x (Var w)
environment_below Γ (connect c w p) = with_name Γ c (Chan w None)

-- ---- a path: the numbers on the way down

-- the part at a path, where there is one
abbrev pub part_at : List ℕ → Tree → Option Tree
part_at [] p = Some p
part_at (i ∷ path) p = option_and_then (part_at path) (child p i)

-- the environment there
abbrev pub environment_at : List ℕ → Environment → Tree → Environment
environment_at [] Γ p = Γ
environment_at (i ∷ path) Γ p = unwrap_or (option_map (environment_at path (environment_below Γ p)) (child p i)) Γ

-- the tree with the part at a path replaced, where there is one
abbrev pub put : List ℕ → Tree → Tree → Tree
put [] p r = r
put (i ∷ path) p r = unwrap_or (option_map (λ q. with_child p i (put path q r)) (child p i)) p
