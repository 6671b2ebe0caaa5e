-- Parts counted, and the lines on which they are printed.
use Rattle.std.proofs.Common.{◌≡◌, ℕ, suc, ◌+◌, List, [], ◌∷◌, ◌++◌, length, refl, sym, ap, ◌∙◌, arith}
use Rattle.std.proofs.lemmas.List.{length-append}
use Rattle.occ_tool_run.specs.occ_print.Lines.{TextLine, all_lines, branch_lines, case_lines, part_lines}
use Rattle.occ_syntax.specs.declared.expr.Expr.{Expr}
use Rattle.occ_syntax.specs.declared.expr.Guard.{Guard}
use Rattle.occ_syntax.specs.declared.proc.Proc.{Proc}
use Rattle.occ_syntax.specs.Counts.{capped, controls, controls_of_all, controls_of_branches, controls_of_cases}
use Rattle.occ_syntax.specs.Tree.{Tree, skip, stop, assign, receive, send, seq, par, select, alt, declare, connect, Trees, no_tree, and_tree, Cases, no_case, and_case, Branches, no_branch, and_branch}
use Rattle.occ_syntax.specs.View.{branches, cases, trees}
use Rattle.occ_draw.specs.Words.{branches_in, choices_in, lines_of, parts_in}

-- one more than a count
more : (m n : ℕ) → m ≡ n → suc m ≡ 1 + n
more m n e = omega (arith, e)

pub parts_counted : (ps : List Proc) → length ps ≡ parts_in (trees ps)
parts_counted [] = refl
parts_counted (p ∷ ps) = more _ _ (parts_counted ps)

pub choices_counted : (cs : List (Expr × Proc)) → length cs ≡ choices_in (cases cs)
choices_counted [] = refl
choices_counted (c ∷ cs) = more _ _ (choices_counted cs)

pub branches_counted : (bs : List (Guard × Proc)) → length bs ≡ branches_in (branches bs)
branches_counted [] = refl
branches_counted (b ∷ bs) = more _ _ (branches_counted bs)

-- two rows of lines together, and behind one line more
both : (xs ys : List TextLine) (m n : ℕ) → length xs ≡ m → length ys ≡ n → length (xs ++ ys) ≡ m + n
both xs ys m n e f = length-append xs ys ∙ ap (λ k. k + length ys) e ∙ ap (λ k. m + k) f

behind : (xs ys : List TextLine) (m n : ℕ) → length xs ≡ m → length ys ≡ n → suc (length (xs ++ ys)) ≡ 1 + m + n
behind xs ys m n e f = omega (arith, both xs ys m n e f)

-- a part is printed on as many lines as it has controls
mutual
  part_long : (level : ℕ) (p : Tree) → length (part_lines level p) ≡ controls p
  part_long level skip = refl
  part_long level stop = refl
  part_long level (assign xs es) = refl
  part_long level (receive c x) = refl
  part_long level (send c e) = refl
  part_long level (seq ps) = more _ _ (all_long (level + 1) ps)
  part_long level (par ps) = more _ _ (all_long (level + 1) ps)
  part_long level (select cs) = more _ _ (cases_long (level + 1) cs)
  part_long level (alt bs) = more _ _ (branches_long (level + 1) bs)
  part_long level (declare x w p) = more _ _ (part_long level p)
  part_long level (connect c w p) = more _ _ (part_long level p)

  all_long : (level : ℕ) (ps : Trees) → length (all_lines level ps) ≡ controls_of_all ps
  all_long level no_tree = refl
  all_long level (and_tree p ps) = both (part_lines level p) (all_lines level ps) (controls p) (controls_of_all ps) (part_long level p) (all_long level ps)

  cases_long : (level : ℕ) (cs : Cases) → length (case_lines level cs) ≡ controls_of_cases cs
  cases_long level no_case = refl
  cases_long level (and_case e p cs) = behind (part_lines (level + 1) p) (case_lines level cs) (controls p) (controls_of_cases cs) (part_long (level + 1) p) (cases_long level cs)

  branches_long : (level : ℕ) (bs : Branches) → length (branch_lines level bs) ≡ controls_of_branches bs
  branches_long level no_branch = refl
  branches_long level (and_branch e w p bs) = behind (part_lines (level + 1) p) (branch_lines level bs) (controls p) (controls_of_branches bs) (part_long (level + 1) p) (branches_long level bs)

pub lines_are : (p : Tree) → capped (controls p) ≡ lines_of p
lines_are p = ap capped (sym (part_long 0 p))
