-- SAME is kept in every context, and at every path.
-- ---- lists that are the same part by part
use Rattle.occ_syntax.specs.occ_base.declared.width.Width.{Width}
use Rattle.occ_meaning.proofs.Alike.{GuardsInto, Into, alternatives_into, and_guard_into, back, beside_into, channel_into, chosen_into, followed_into, forth, into_itself, keeps_through, no_guard_into, same_back, same_from, same_itself, variable_into}
use Rattle.occ_meaning.proofs.Facts.{and_four, and_three, none_not_some, some_is}
use Rattle.occ_meaning.proofs.States.{fresh_name, part_states}
use Rattle.occ_meaning.specs.Context.{EachBranchSame, EachChoiceSame, EachSame, and_alternative, and_choice, and_part, branch_at, case_at, child, environment_at, environment_below, no_alternatives, no_choices, no_parts, only_at, part_at, put, tree_at, with_branch, with_case, with_child, with_only, with_tree}
use Rattle.occ_syntax.specs.Meaning.{Meaning, at_the_same_time, beside_all, first_choice, guards, in_turn, meaning}
use Rattle.occ_syntax.specs.Same.{SAME}
use Rattle.occ_syntax.specs.Scopes.{Environment, with_name}
use Rattle.occ_syntax.specs.Tree.{Branches, Cases, Tree, Trees, alt, and_branch, and_case, and_tree, assign, connect, declare, no_branch, no_case, no_tree, par, receive, select, send, seq, skip, stop}
use Rattle.occ_syntax.specs.Types.{all_types_kept, branches_kept, can_declare, cases_kept, is_condition, types_kept, waiting_kept}
use Rattle.occ_syntax.specs.declared.scope.Kind.TheVariants.{Chan, Var}
use Rattle.std.proofs.Common.{List, None, Option, Some, [], refl, subst, suc, sym, true, zero, ℕ, ◌∷◌, ◌≡◌}
use Rattle.std.proofs.lemmas.Bool.{and_parts}
use Rattle.std.specs.Option.{option_and_then, option_map, unwrap_or}

turn_into : (Γ : Environment) (ps qs : Trees) → all_types_kept ps Γ ≡ true → EachSame Γ ps qs
    → Into Γ (in_turn ps) (in_turn qs) × Into Γ (in_turn qs) (in_turn ps)
turn_into Γ ps qs h no_parts = (into_itself Γ (in_turn no_tree), into_itself Γ (in_turn no_tree))
turn_into Γ ps qs h (and_part {p} {q} {ps = us} {qs = bs} same rest) =
    let k = and_parts (types_kept p Γ) (all_types_kept us Γ) h in
    let r = turn_into Γ us bs k.1 rest in
    let keeps = part_states p Γ k.0 in (
      followed_into Γ (meaning p) (meaning q) (in_turn us) (in_turn bs) keeps (forth Γ p q same) r.0,
      followed_into Γ (meaning q) (meaning p) (in_turn bs) (in_turn us) (keeps_through Γ (meaning p) (meaning q) (back Γ p q same) keeps) (back Γ p q same) r.1,
    )

pub seq_same : (Γ : Environment) (ps qs : Trees) → all_types_kept ps Γ ≡ true → EachSame Γ ps qs → SAME Γ (seq ps) (seq qs)
seq_same Γ ps qs h k = let r = turn_into Γ ps qs h k in same_from Γ (seq ps) (seq qs) r.0 r.1

beside_all_into : (Γ : Environment) (ps qs : Trees) (m m' n n' : Meaning) → EachSame Γ ps qs → Into Γ m m' → Into Γ n n'
    → Into Γ (beside_all ps m n) (beside_all qs m' n')
beside_all_into Γ ps qs m m' n n' no_parts hm hn = hm
beside_all_into Γ ps qs m m' n n' (and_part same rest) hm hn = beside_into Γ m m' n n' hm hn

each_back : (Γ : Environment) (ps qs : Trees) → EachSame Γ ps qs → EachSame Γ qs ps
each_back Γ ps qs no_parts = no_parts
each_back Γ ps qs (and_part {p} {q} {ps = us} {qs = bs} same rest) = and_part (same_back Γ p q same) (each_back Γ us bs rest)

parallel_into : (Γ : Environment) (ps qs : Trees) → EachSame Γ ps qs → Into Γ (at_the_same_time ps) (at_the_same_time qs)
parallel_into Γ ps qs no_parts = into_itself Γ (at_the_same_time no_tree)
parallel_into Γ ps qs (and_part {p} {q} {ps = us} {qs = bs} same rest) =
    beside_all_into Γ us bs (meaning p) (meaning q) (at_the_same_time us) (at_the_same_time bs) rest (forth Γ p q same) (parallel_into Γ us bs rest)

pub par_same : (Γ : Environment) (ps qs : Trees) → EachSame Γ ps qs → SAME Γ (par ps) (par qs)
par_same Γ ps qs h = same_from Γ (par ps) (par qs) (parallel_into Γ ps qs h) (parallel_into Γ qs ps (each_back Γ ps qs h))

cases_into : (Γ : Environment) (cs ds : Cases) → EachChoiceSame Γ cs ds
    → Into Γ (first_choice cs) (first_choice ds) × Into Γ (first_choice ds) (first_choice cs)
cases_into Γ cs ds no_choices = (into_itself Γ (first_choice no_case), into_itself Γ (first_choice no_case))
cases_into Γ cs ds (and_choice {e} {p} {q} {cs = us} {ds = bs} same rest) =
    let r = cases_into Γ us bs rest in (
      chosen_into Γ e (meaning p) (meaning q) (first_choice us) (first_choice bs) (forth Γ p q same) r.0,
      chosen_into Γ e (meaning q) (meaning p) (first_choice bs) (first_choice us) (back Γ p q same) r.1,
    )

pub select_same : (Γ : Environment) (cs ds : Cases) → EachChoiceSame Γ cs ds → SAME Γ (select cs) (select ds)
select_same Γ cs ds h = let r = cases_into Γ cs ds h in same_from Γ (select cs) (select ds) r.0 r.1

branches_into : (Γ : Environment) (bs ds : Branches) → branches_kept bs Γ ≡ true → EachBranchSame Γ bs ds
    → GuardsInto Γ (guards bs) (guards ds) × GuardsInto Γ (guards ds) (guards bs)
branches_into Γ bs ds h no_alternatives = (no_guard_into Γ, no_guard_into Γ)
branches_into Γ bs ds h (and_alternative {e} {w} {p} {q} {bs = us} {ds = cs} same rest) =
    let k = and_four (is_condition Γ e) (waiting_kept Γ w) (types_kept p Γ) (branches_kept us Γ) h in
    let r = branches_into Γ us cs k.3 rest in (
      and_guard_into Γ e w (meaning p) (meaning q) (guards us) (guards cs) k.1 (forth Γ p q same) r.0,
      and_guard_into Γ e w (meaning q) (meaning p) (guards cs) (guards us) k.1 (back Γ p q same) r.1,
    )

pub alt_same : (Γ : Environment) (bs ds : Branches) → branches_kept bs Γ ≡ true → EachBranchSame Γ bs ds → SAME Γ (alt bs) (alt ds)
alt_same Γ bs ds h k =
    let r = branches_into Γ bs ds h k in
    same_from Γ (alt bs) (alt ds) (alternatives_into Γ (guards bs) (guards ds) r.0) (alternatives_into Γ (guards ds) (guards bs) r.1)

pub declare_same : (Γ : Environment) (x : ℕ) (w : Width) (p q : Tree) → Γ x ≡ None → SAME (with_name Γ x (Var w)) p q
    → SAME Γ (declare x w p) (declare x w q)
declare_same Γ x w p q fresh h =
    same_from Γ (declare x w p) (declare x w q)
    (variable_into Γ x w (meaning p) (meaning q) fresh (forth (with_name Γ x (Var w)) p q h))
    (variable_into Γ x w (meaning q) (meaning p) fresh (back (with_name Γ x (Var w)) p q h))

pub connect_same : (Γ : Environment) (c : ℕ) (w : Width) (p q : Tree) → SAME (with_name Γ c (Chan w None)) p q
    → SAME Γ (connect c w p) (connect c w q)
connect_same Γ c w p q h =
    same_from Γ (connect c w p) (connect c w q)
    (channel_into Γ c w (meaning p) (meaning q) (forth (with_name Γ c (Chan w None)) p q h))
    (channel_into Γ c w (meaning q) (meaning p) (back (with_name Γ c (Chan w None)) p q h))

-- ---- one part replaced

pub each_itself : (Γ : Environment) (ps : Trees) → EachSame Γ ps ps
each_itself Γ no_tree = no_parts
each_itself Γ (and_tree p ps) = and_part (same_itself Γ p) (each_itself Γ ps)

pub each_choice_itself : (Γ : Environment) (cs : Cases) → EachChoiceSame Γ cs cs
each_choice_itself Γ no_case = no_choices
each_choice_itself Γ (and_case e p cs) = and_choice (same_itself Γ p) (each_choice_itself Γ cs)

pub each_branch_itself : (Γ : Environment) (bs : Branches) → EachBranchSame Γ bs bs
each_branch_itself Γ no_branch = no_alternatives
each_branch_itself Γ (and_branch e w p bs) = and_alternative (same_itself Γ p) (each_branch_itself Γ bs)

same_at : (Γ : Environment) (p q r : Tree) → Some p ≡ Some q → SAME Γ q r → SAME Γ p r
same_at Γ p q r e h = let P : Tree → Type 0 = λ z. SAME Γ z r in subst P (sym (some_is e)) h

with_tree_same : (Γ : Environment) (ps : Trees) (i : ℕ) (q r : Tree) → tree_at ps i ≡ Some q → SAME Γ q r → EachSame Γ ps (with_tree ps i r)
with_tree_same Γ no_tree i q r e h = no_parts
with_tree_same Γ (and_tree p ps) zero q r e h = and_part (same_at Γ p q r e h) (each_itself Γ ps)
with_tree_same Γ (and_tree p ps) (suc i) q r e h = and_part (same_itself Γ p) (with_tree_same Γ ps i q r e h)

with_case_same : (Γ : Environment) (cs : Cases) (i : ℕ) (q r : Tree) → case_at cs i ≡ Some q → SAME Γ q r → EachChoiceSame Γ cs (with_case cs i r)
with_case_same Γ no_case i q r e h = no_choices
with_case_same Γ (and_case b p cs) zero q r e h = and_choice (same_at Γ p q r e h) (each_choice_itself Γ cs)
with_case_same Γ (and_case b p cs) (suc i) q r e h = and_choice (same_itself Γ p) (with_case_same Γ cs i q r e h)

with_branch_same : (Γ : Environment) (bs : Branches) (i : ℕ) (q r : Tree) → branch_at bs i ≡ Some q → SAME Γ q r
    → EachBranchSame Γ bs (with_branch bs i r)
with_branch_same Γ no_branch i q r e h = no_alternatives
with_branch_same Γ (and_branch b w p bs) zero q r e h = and_alternative (same_at Γ p q r e h) (each_branch_itself Γ bs)
with_branch_same Γ (and_branch b w p bs) (suc i) q r e h = and_alternative (same_itself Γ p) (with_branch_same Γ bs i q r e h)

with_only_same : (Γ : Environment) (p : Tree) (i : ℕ) (q r : Tree) → only_at p i ≡ Some q → SAME Γ q r → SAME Γ p (with_only p i r)
with_only_same Γ p zero q r e h = same_at Γ p q r e h
with_only_same Γ p (suc i) q r e h = same_itself Γ p

pub child_same : (Γ : Environment) (p : Tree) → types_kept p Γ ≡ true → (i : ℕ) (q r : Tree) → child p i ≡ Some q
    → SAME (environment_below Γ p) q r → SAME Γ p (with_child p i r)
child_same Γ skip t i q r e h = none_not_some e
child_same Γ stop t i q r e h = none_not_some e
child_same Γ (assign xs es) t i q r e h = none_not_some e
child_same Γ (receive c x) t i q r e h = none_not_some e
child_same Γ (send c z) t i q r e h = none_not_some e
child_same Γ (seq ps) t i q r e h = seq_same Γ ps (with_tree ps i r) t (with_tree_same Γ ps i q r e h)
child_same Γ (par ps) t i q r e h = par_same Γ ps (with_tree ps i r) (with_tree_same Γ ps i q r e h)
child_same Γ (select cs) t i q r e h = select_same Γ cs (with_case cs i r) (with_case_same Γ cs i q r e h)
child_same Γ (alt bs) t i q r e h = alt_same Γ bs (with_branch bs i r) t (with_branch_same Γ bs i q r e h)
child_same Γ (declare x w p) t i q r e h =
    declare_same Γ x w p (with_only p i r) (fresh_name Γ x w (and_parts (can_declare Γ x w) (types_kept p (with_name Γ x (Var w))) t).0) (with_only_same (with_name Γ x (Var w)) p i q r e h)
child_same Γ (connect c w p) t i q r e h = connect_same Γ c w p (with_only p i r) (with_only_same (with_name Γ c (Chan w None)) p i q r e h)

-- ---- the parts of a well-typed part are well-typed

tree_types : (Γ : Environment) (ps : Trees) → all_types_kept ps Γ ≡ true → (i : ℕ) (q : Tree) → tree_at ps i ≡ Some q → types_kept q Γ ≡ true
tree_types Γ no_tree t i q e = none_not_some e
tree_types Γ (and_tree p ps) t zero q e = let P : Tree → Type 0 = λ z. types_kept z Γ ≡ true in subst P (some_is e) (and_parts (types_kept p Γ) (all_types_kept ps Γ) t).0
tree_types Γ (and_tree p ps) t (suc i) q e = tree_types Γ ps (and_parts (types_kept p Γ) (all_types_kept ps Γ) t).1 i q e

case_types : (Γ : Environment) (cs : Cases) → cases_kept cs Γ ≡ true → (i : ℕ) (q : Tree) → case_at cs i ≡ Some q → types_kept q Γ ≡ true
case_types Γ no_case t i q e = none_not_some e
case_types Γ (and_case b p cs) t zero q e = let P : Tree → Type 0 = λ z. types_kept z Γ ≡ true in subst P (some_is e) (and_three (is_condition Γ b) (types_kept p Γ) (cases_kept cs Γ) t).1
case_types Γ (and_case b p cs) t (suc i) q e = case_types Γ cs (and_three (is_condition Γ b) (types_kept p Γ) (cases_kept cs Γ) t).2 i q e

branch_types : (Γ : Environment) (bs : Branches) → branches_kept bs Γ ≡ true → (i : ℕ) (q : Tree) → branch_at bs i ≡ Some q → types_kept q Γ ≡ true
branch_types Γ no_branch t i q e = none_not_some e
branch_types Γ (and_branch b w p bs) t zero q e = let P : Tree → Type 0 = λ z. types_kept z Γ ≡ true in subst P (some_is e) (and_four (is_condition Γ b) (waiting_kept Γ w) (types_kept p Γ) (branches_kept bs Γ) t).2
branch_types Γ (and_branch b w p bs) t (suc i) q e = branch_types Γ bs (and_four (is_condition Γ b) (waiting_kept Γ w) (types_kept p Γ) (branches_kept bs Γ) t).3 i q e

only_types : (Γ : Environment) (p : Tree) → types_kept p Γ ≡ true → (i : ℕ) (q : Tree) → only_at p i ≡ Some q → types_kept q Γ ≡ true
only_types Γ p t zero q e = let P : Tree → Type 0 = λ z. types_kept z Γ ≡ true in subst P (some_is e) t
only_types Γ p t (suc i) q e = none_not_some e

pub child_types : (Γ : Environment) (p : Tree) → types_kept p Γ ≡ true → (i : ℕ) (q : Tree) → child p i ≡ Some q
    → types_kept q (environment_below Γ p) ≡ true
child_types Γ skip t i q e = none_not_some e
child_types Γ stop t i q e = none_not_some e
child_types Γ (assign xs es) t i q e = none_not_some e
child_types Γ (receive c x) t i q e = none_not_some e
child_types Γ (send c z) t i q e = none_not_some e
child_types Γ (seq ps) t i q e = tree_types Γ ps t i q e
child_types Γ (par ps) t i q e = tree_types Γ ps t i q e
child_types Γ (select cs) t i q e = case_types Γ cs t i q e
child_types Γ (alt bs) t i q e = branch_types Γ bs t i q e
child_types Γ (declare x w p) t i q e = only_types (with_name Γ x (Var w)) p (and_parts (can_declare Γ x w) (types_kept p (with_name Γ x (Var w))) t).1 i q e
child_types Γ (connect c w p) t i q e = only_types (with_name Γ c (Chan w None)) p (and_parts (can_declare Γ c w) (types_kept p (with_name Γ c (Chan w None))) t).1 i q e

-- ---- at a path

pub part_types : (path : List ℕ) (Γ : Environment) (p q : Tree) → types_kept p Γ ≡ true → part_at path p ≡ Some q
    → types_kept q (environment_at path Γ p) ≡ true
part_types [] Γ p q t e = let P : Tree → Type 0 = λ z. types_kept z Γ ≡ true in subst P (some_is e) t
part_types (i ∷ path) Γ p q t e = below (λ c u h. part_types path (environment_below Γ p) c q u h) (child p i) refl e
  where
    below : ((c : Tree) → types_kept c (environment_below Γ p) ≡ true → part_at path c ≡ Some q → types_kept q (environment_at path (environment_below Γ p) c) ≡ true)
        → (o : Option Tree) → child p i ≡ o → option_and_then (part_at path) o ≡ Some q
        → types_kept q (unwrap_or (option_map (environment_at path (environment_below Γ p)) o) Γ) ≡ true
    below ih None is h = none_not_some h
    below ih (Some c) is h = ih c (child_types Γ p t i c is) h

pub put_same : (path : List ℕ) (Γ : Environment) (p q r : Tree) → types_kept p Γ ≡ true → part_at path p ≡ Some q
    → SAME (environment_at path Γ p) q r → SAME Γ p (put path p r)
put_same [] Γ p q r t e h = same_at Γ p q r e h
put_same (i ∷ path) Γ p q r t e h = below (λ c u k same. put_same path (environment_below Γ p) c q r u k same) (child p i) refl e h
  where
    below : ((c : Tree) → types_kept c (environment_below Γ p) ≡ true → part_at path c ≡ Some q → SAME (environment_at path (environment_below Γ p) c) q r → SAME (environment_below Γ p) c (put path c r))
        → (o : Option Tree) → child p i ≡ o → option_and_then (part_at path) o ≡ Some q
        → SAME (unwrap_or (option_map (environment_at path (environment_below Γ p)) o) Γ) q r
        → SAME Γ p (unwrap_or (option_map (λ c. with_child p i (put path c r)) o) p)
    below ih None is k same = same_itself Γ p
    below ih (Some c) is k same = child_same Γ p t i c (put path c r) is (ih c (child_types Γ p t i c is) k same)
