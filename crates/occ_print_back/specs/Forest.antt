-- The lines of a printed program as a forest, on consecutive lines of a text.
use Rattle.std.specs.Prelude.{ℕ, ◌+◌, None}
use Rattle.occ_print.specs.occ_syntax.declared.scope.Kind.TheVariants as kind
use Rattle.occ_print.specs.occ_syntax.Tree.{Tree, skip, stop, assign, receive, send, seq, par, select, alt, declare, connect, Trees, no_tree, and_tree, Cases, no_case, and_case, Branches, no_branch, and_branch}
use Rattle.occ_print.specs.occ_parse_forms.declared.form.Group.TheVariants as word
use Rattle.occ_print.specs.occ_parse_forms.Shape as line
use Rattle.occ_parse.specs.occ_parse_rules.Forest.{Forest, no_line, and_line}
use Rattle.occ_parse.specs.occ_parse_rules.Places.{Place}
use Rattle.occ_print_back.specs.Said.{whole_said, assign_shape, receive_shape, send_shape, guard_shape, declaration_shape}

-- how many lines a part has
abbrev mutual
  pub height : Tree → ℕ
  height skip = 1
  height stop = 1
  height (assign xs es) = 1
  height (receive c x) = 1
  height (send c e) = 1
  height (seq ps) = 1 + height_of_all ps
  height (par ps) = 1 + height_of_all ps
  height (select cs) = 1 + height_of_cases cs
  height (alt bs) = 1 + height_of_branches bs
  height (declare x w p) = 1 + height p
  height (connect c w p) = 1 + height p

  pub height_of_all : Trees → ℕ
  height_of_all no_tree = 0
  height_of_all (and_tree p ps) = height p + height_of_all ps

  pub height_of_cases : Cases → ℕ
  height_of_cases no_case = 0
  height_of_cases (and_case e p cs) = 1 + height p + height_of_cases cs

  pub height_of_branches : Branches → ℕ
  height_of_branches no_branch = 0
  height_of_branches (and_branch e w p bs) = 1 + height p + height_of_branches bs

-- The lines of a part, the first of which has this number, in front of others at its level.
abbrev mutual
  pub part_forest : (ℕ → Place) → ℕ → Tree → Forest → Forest
  part_forest P n skip rest = and_line n line.skip no_line rest
  part_forest P n stop rest = and_line n line.stop no_line rest
  part_forest P n (assign xs es) rest = and_line n (assign_shape P xs es) no_line rest
  part_forest P n (receive c x) rest = and_line n (receive_shape P c x) no_line rest
  part_forest P n (send c e) rest = and_line n (send_shape P c e) no_line rest
  part_forest P n (seq ps) rest = and_line n (line.group word.Seq None) (parts_forest P (n + 1) ps) rest
  part_forest P n (par ps) rest = and_line n (line.group word.Par None) (parts_forest P (n + 1) ps) rest
  part_forest P n (select cs) rest = and_line n (line.group word.If None) (cases_forest P (n + 1) cs) rest
  part_forest P n (alt bs) rest = and_line n (line.group word.Alt None) (branches_forest P (n + 1) bs) rest
  part_forest P n (declare x w p) rest = and_line n (declaration_shape P x (kind.Var w)) no_line (part_forest P (n + 1) p rest)
  part_forest P n (connect c w p) rest = and_line n (declaration_shape P c (kind.Chan w None)) no_line (part_forest P (n + 1) p rest)

  pub parts_forest : (ℕ → Place) → ℕ → Trees → Forest
  parts_forest P n no_tree = no_line
  parts_forest P n (and_tree p ps) = part_forest P n p (parts_forest P (n + height p) ps)

  pub cases_forest : (ℕ → Place) → ℕ → Cases → Forest
  cases_forest P n no_case = no_line
  cases_forest P n (and_case e p cs) =
      and_line n (line.condition (whole_said P e)) (part_forest P (n + 1) p no_line) (cases_forest P (n + 1 + height p) cs)

  pub branches_forest : (ℕ → Place) → ℕ → Branches → Forest
  branches_forest P n no_branch = no_line
  branches_forest P n (and_branch e w p bs) =
      and_line n (guard_shape P e w) (part_forest P (n + 1) p no_line) (branches_forest P (n + 1 + height p) bs)
