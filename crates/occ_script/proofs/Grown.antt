-- Names that have texts in a table have them in a longer one.
use Rattle.std.proofs.Common.{◌≡◌, ℕ, ◌≤◌, true, List, [], ◌∷◌, length, refl, arith}
use Rattle.std.proofs.lemmas.Bool.{and_from, and_parts, lt-ltb, ltb-true}
use Rattle.occ_syntax.specs.occ_base.declared.names.Name.{Name}
use Rattle.occ_script_lines.specs.occ_lex.Symbols.{Extends}
use Rattle.occ_script_lines.proofs.from_lex.Interned.{longer}
use Rattle.occ_parse_part.specs.occ_parse.Known.{NamesAreKnown, all_declare, branches_declare, cases_declare, declares, is_below, params_declare}
use Rattle.occ_syntax.specs.declared.scope.Kind.{Kind}
use Rattle.occ_syntax.specs.declared.scope.Program.{Program}
use Rattle.occ_syntax.specs.Tree.{Branches, Cases, Tree, Trees, alt, and_branch, and_case, and_tree, assign, connect, declare, no_branch, no_case, no_tree, par, receive, select, send, seq, skip, stop}
use Rattle.occ_syntax.specs.View.{tree}

below : (n m x : ℕ) → n ≤ m → is_below n x ≡ true → is_below m x ≡ true
below n m x h e = lt-ltb x m (omega (arith, h, ltb-true x n e))

module _ (n m : ℕ) (h : n ≤ m) where
  mutual
    tree_grown : (p : Tree) → declares (is_below n) p ≡ true → declares (is_below m) p ≡ true
    tree_grown skip e = refl
    tree_grown stop e = refl
    tree_grown (assign xs es) e = refl
    tree_grown (receive c x) e = refl
    tree_grown (send c v) e = refl
    tree_grown (seq ps) e = trees_grown ps e
    tree_grown (par ps) e = trees_grown ps e
    tree_grown (select cs) e = cases_grown cs e
    tree_grown (alt bs) e = branches_grown bs e
    tree_grown (declare x w p) e = let both = and_parts (is_below n x) (declares (is_below n) p) e in and_from _ _ (below n m x h both.0) (tree_grown p both.1)
    tree_grown (connect c w p) e = let both = and_parts (is_below n c) (declares (is_below n) p) e in and_from _ _ (below n m c h both.0) (tree_grown p both.1)

    trees_grown : (ps : Trees) → all_declare (is_below n) ps ≡ true → all_declare (is_below m) ps ≡ true
    trees_grown no_tree e = refl
    trees_grown (and_tree p ps) e = let both = and_parts (declares (is_below n) p) (all_declare (is_below n) ps) e in and_from _ _ (tree_grown p both.0) (trees_grown ps both.1)

    cases_grown : (cs : Cases) → cases_declare (is_below n) cs ≡ true → cases_declare (is_below m) cs ≡ true
    cases_grown no_case e = refl
    cases_grown (and_case v p cs) e = let both = and_parts (declares (is_below n) p) (cases_declare (is_below n) cs) e in and_from _ _ (tree_grown p both.0) (cases_grown cs both.1)

    branches_grown : (bs : Branches) → branches_declare (is_below n) bs ≡ true → branches_declare (is_below m) bs ≡ true
    branches_grown no_branch e = refl
    branches_grown (and_branch v w p bs) e = let both = and_parts (declares (is_below n) p) (branches_declare (is_below n) bs) e in and_from _ _ (tree_grown p both.0) (branches_grown bs both.1)

  params_grown : (ps : List (Name × Kind)) → params_declare (is_below n) ps ≡ true → params_declare (is_below m) ps ≡ true
  params_grown [] e = refl
  params_grown (p ∷ ps) e = let both = and_parts (is_below n p.0.0) (params_declare (is_below n) ps) e in and_from _ _ (below n m p.0.0 h both.0) (params_grown ps both.1)

-- a program's names have texts in each longer table
pub known_grown : (old new : List (List ℕ)) (program : Program) → Extends old new → NamesAreKnown old program → NamesAreKnown new program
known_grown old new program h k =
    let more : length old ≤ length new = longer old new h in
    record { params = params_grown (length old) (length new) more program.params k.params; body = tree_grown (length old) (length new) more (tree program.body) k.body }
