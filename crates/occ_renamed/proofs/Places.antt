-- Parts at paths, what is put there, and what is in scope there, under other names.
use Rattle.occ_replay_rules.specs.occ_base.declared.names.Name.{Name}
use Rattle.occ_renamed.specs.Scopes.{scope_renamed}
use Rattle.occ_replay_rules.specs.occ_meaning.Context.{branch_at, case_at, child, only_at, part_at, put, tree_at, with_branch, with_case, with_child, with_only, with_tree}
use Rattle.occ_replay_rules.specs.occ_meaning.Rename.{all_renamed, branches_renamed, cases_renamed, renamed, renamed_exp, renamed_waiting}
use Rattle.occ_replay_rules.specs.occ_script_lines.Places.{declared_by, scope_list}
use Rattle.occ_replay_rules.specs.occ_syntax.Tree.{Branches, Cases, Tree, Trees, alt, and_branch, and_case, and_tree, assign, connect, declare, no_branch, no_case, no_tree, par, receive, select, send, seq, skip, stop}
use Rattle.occ_replay_rules.specs.occ_syntax.declared.scope.Kind.{Kind}
use Rattle.std.proofs.Common.{List, None, Option, Some, [], ap, refl, suc, sym, zero, ℕ, ◌++◌, ◌∙◌, ◌∷◌, ◌≡◌}
use Rattle.std.specs.Option.{option_and_then, option_map, unwrap_or}

-- a part that may be there, under other names
abbrev pub maybe_renamed : (ℕ → ℕ) → Option Tree → Option Tree
maybe_renamed f o = option_map (λ q. renamed q f) o

tree_at_under : (f : ℕ → ℕ) (ps : Trees) (i : ℕ) → tree_at (all_renamed ps f) i ≡ maybe_renamed f (tree_at ps i)
tree_at_under f no_tree i = refl
tree_at_under f (and_tree p ps) zero = refl
tree_at_under f (and_tree p ps) (suc i) = tree_at_under f ps i

case_at_under : (f : ℕ → ℕ) (cs : Cases) (i : ℕ) → case_at (cases_renamed cs f) i ≡ maybe_renamed f (case_at cs i)
case_at_under f no_case i = refl
case_at_under f (and_case e p cs) zero = refl
case_at_under f (and_case e p cs) (suc i) = case_at_under f cs i

branch_at_under : (f : ℕ → ℕ) (bs : Branches) (i : ℕ) → branch_at (branches_renamed bs f) i ≡ maybe_renamed f (branch_at bs i)
branch_at_under f no_branch i = refl
branch_at_under f (and_branch e w p bs) zero = refl
branch_at_under f (and_branch e w p bs) (suc i) = branch_at_under f bs i

only_at_under : (f : ℕ → ℕ) (p : Tree) (i : ℕ) → only_at (renamed p f) i ≡ maybe_renamed f (only_at p i)
only_at_under f p zero = refl
only_at_under f p (suc i) = refl

child_under : (f : ℕ → ℕ) (p : Tree) (i : ℕ) → child (renamed p f) i ≡ maybe_renamed f (child p i)
child_under f skip i = refl
child_under f stop i = refl
child_under f (assign xs es) i = refl
child_under f (receive c x) i = refl
child_under f (send c e) i = refl
child_under f (seq ps) i = tree_at_under f ps i
child_under f (par ps) i = tree_at_under f ps i
child_under f (select cs) i = case_at_under f cs i
child_under f (alt bs) i = branch_at_under f bs i
child_under f (declare x w p) i = only_at_under f p i
child_under f (connect c w p) i = only_at_under f p i

with_tree_under : (f : ℕ → ℕ) (ps : Trees) (i : ℕ) (r : Tree) → with_tree (all_renamed ps f) i (renamed r f) ≡ all_renamed (with_tree ps i r) f
with_tree_under f no_tree i r = refl
with_tree_under f (and_tree p ps) zero r = refl
with_tree_under f (and_tree p ps) (suc i) r = ap (and_tree (renamed p f)) (with_tree_under f ps i r)

with_case_under : (f : ℕ → ℕ) (cs : Cases) (i : ℕ) (r : Tree) → with_case (cases_renamed cs f) i (renamed r f) ≡ cases_renamed (with_case cs i r) f
with_case_under f no_case i r = refl
with_case_under f (and_case e p cs) zero r = refl
with_case_under f (and_case e p cs) (suc i) r = ap (and_case (renamed_exp f e) (renamed p f)) (with_case_under f cs i r)

with_branch_under : (f : ℕ → ℕ) (bs : Branches) (i : ℕ) (r : Tree)
    → with_branch (branches_renamed bs f) i (renamed r f) ≡ branches_renamed (with_branch bs i r) f
with_branch_under f no_branch i r = refl
with_branch_under f (and_branch e w p bs) zero r = refl
with_branch_under f (and_branch e w p bs) (suc i) r = ap (and_branch (renamed_exp f e) (renamed_waiting f w) (renamed p f)) (with_branch_under f bs i r)

with_only_under : (f : ℕ → ℕ) (p : Tree) (i : ℕ) (r : Tree) → with_only (renamed p f) i (renamed r f) ≡ renamed (with_only p i r) f
with_only_under f p zero r = refl
with_only_under f p (suc i) r = refl

with_child_under : (f : ℕ → ℕ) (p : Tree) (i : ℕ) (r : Tree) → with_child (renamed p f) i (renamed r f) ≡ renamed (with_child p i r) f
with_child_under f skip i r = refl
with_child_under f stop i r = refl
with_child_under f (assign xs es) i r = refl
with_child_under f (receive c x) i r = refl
with_child_under f (send c e) i r = refl
with_child_under f (seq ps) i r = ap seq (with_tree_under f ps i r)
with_child_under f (par ps) i r = ap par (with_tree_under f ps i r)
with_child_under f (select cs) i r = ap select (with_case_under f cs i r)
with_child_under f (alt bs) i r = ap alt (with_branch_under f bs i r)
with_child_under f (declare x w p) i r = ap (declare (f x) w) (with_only_under f p i r)
with_child_under f (connect c w p) i r = ap (connect (f c) w) (with_only_under f p i r)

-- ---- paths

below_at : (f : ℕ → ℕ) (path : List ℕ) → ((q : Tree) → part_at path (renamed q f) ≡ maybe_renamed f (part_at path q)) → (o : Option Tree)
    → option_and_then (part_at path) (maybe_renamed f o) ≡ maybe_renamed f (option_and_then (part_at path) o)
below_at f path h None = refl
below_at f path h (Some q) = h q

pub part_at_under : (f : ℕ → ℕ) (path : List ℕ) (p : Tree) → part_at path (renamed p f) ≡ maybe_renamed f (part_at path p)
part_at_under f [] p = refl
part_at_under f (i ∷ path) p = ap (option_and_then (part_at path)) (child_under f p i) ∙ below_at f path (part_at_under f path) (child p i)

below_put : (f : ℕ → ℕ) (path : List ℕ) (p r : Tree) (i : ℕ) → ((q : Tree) → put path (renamed q f) (renamed r f) ≡ renamed (put path q r) f)
    → (o : Option Tree)
    → unwrap_or (option_map (λ q. with_child (renamed p f) i (put path q (renamed r f))) (maybe_renamed f o)) (renamed p f)
    ≡ renamed (unwrap_or (option_map (λ q. with_child p i (put path q r)) o) p) f
below_put f path p r i h None = refl
below_put f path p r i h (Some q) = ap (with_child (renamed p f) i) (h q) ∙ with_child_under f p i (put path q r)

pub put_under : (f : ℕ → ℕ) (path : List ℕ) (p r : Tree) → put path (renamed p f) (renamed r f) ≡ renamed (put path p r) f
put_under f [] p r = refl
put_under f (i ∷ path) p r =
    ap (λ o. unwrap_or (option_map (λ q. with_child (renamed p f) i (put path q (renamed r f))) o) (renamed p f)) (child_under f p i)
    ∙ below_put f path p r i (λ q. put_under f path q r) (child p i)

-- ---- scopes

scope_both : (f : ℕ → ℕ) (S R : List (Name × Kind)) → scope_renamed f (S ++ R) ≡ scope_renamed f S ++ scope_renamed f R
scope_both f [] R = refl
scope_both f (entry ∷ S) R = ap (λ z. (record { 0 = f entry.0.0 }, entry.1) ∷ z) (scope_both f S R)

declared_under : (f : ℕ → ℕ) (p : Tree) → declared_by (renamed p f) ≡ scope_renamed f (declared_by p)
declared_under f skip = refl
declared_under f stop = refl
declared_under f (assign xs es) = refl
declared_under f (receive c x) = refl
declared_under f (send c e) = refl
declared_under f (seq ps) = refl
declared_under f (par ps) = refl
declared_under f (select cs) = refl
declared_under f (alt bs) = refl
declared_under f (declare x w p) = refl
declared_under f (connect c w p) = refl

below_scope : (f : ℕ → ℕ) (path : List ℕ) (S : List (Name × Kind)) (p : Tree)
    → ((R : List (Name × Kind)) (q : Tree) → scope_list path (scope_renamed f R) (renamed q f) ≡ scope_renamed f (scope_list path R q)) → (o : Option Tree)
    → unwrap_or (option_map (scope_list path (scope_renamed f S ++ declared_by (renamed p f))) (maybe_renamed f o)) (scope_renamed f S)
    ≡ scope_renamed f (unwrap_or (option_map (scope_list path (S ++ declared_by p)) o) S)
below_scope f path S p h None = refl
below_scope f path S p h (Some q) =
    ap (λ R. scope_list path R (renamed q f)) (ap (λ z. scope_renamed f S ++ z) (declared_under f p) ∙ sym (scope_both f S (declared_by p)))
    ∙ h (S ++ declared_by p) q

pub scope_list_under : (f : ℕ → ℕ) (path : List ℕ) (S : List (Name × Kind)) (p : Tree)
    → scope_list path (scope_renamed f S) (renamed p f) ≡ scope_renamed f (scope_list path S p)
scope_list_under f [] S p = refl
scope_list_under f (i ∷ path) S p =
    ap (λ o. unwrap_or (option_map (scope_list path (scope_renamed f S ++ declared_by (renamed p f))) o) (scope_renamed f S)) (child_under f p i)
    ∙ below_scope f path S p (scope_list_under f path) (child p i)
