-- The most symbols on a line, part by part.
use Rattle.std.proofs.Common.{◌≡◌, ℕ, ◌+◌, ◌-◌, ◌*◌, ◌^◌, ◌<◌, ◌≤◌, min, max, eqb, List, [], ◌∷◌, ◌++◌, length, get_or, take, drop, map, refl, ap, ◌∙◌, arith}
use Rattle.std.specs.List.{flat_map}
use Rattle.std.proofs.lemmas.List.{length-append, at_drop_more, at_drop_all, take_more, map-append}
use Rattle.occ_syntax.specs.declared.expr.Expr.{Expr}
use Rattle.occ_syntax.specs.declared.expr.Guard.{Guard}
use Rattle.occ_syntax.specs.declared.proc.Proc.{Proc}
use Rattle.occ_syntax.specs.declared.scope.Kind.{Kind}
use Rattle.occ_syntax.specs.declared.scope.Kind.TheVariants as kind
use Rattle.occ_syntax.specs.Counts.{capped}
use Rattle.occ_syntax.specs.Declarations.{declaring}
use Rattle.occ_syntax.specs.Tree.{Tree, skip, stop, assign, receive, send, seq, par, select, alt, declare, connect, Trees, no_tree, and_tree, Cases, no_case, and_case, Branches, no_branch, and_branch}
use Rattle.occ_syntax.specs.View.{exp, waiting, tree, trees, cases, branches}
use Rattle.occ_parse_forms.specs.Lines.{comma}
use Rattle.occ_print.specs.Symbols.{comma_behind, name_symbol, separated, whole_symbols, assign_symbols, send_symbols, guard_symbols, declaration_symbols}
use Rattle.occ_print.specs.Lines.{TextLine, part_lines, all_lines, case_lines, branch_lines, most_symbols}
use Rattle.occ_print.proofs.Lists.{is_none, none_taken, separated-more, is_none-map}

pub most-append : (xs ys : List TextLine) → most_symbols (xs ++ ys) ≡ max (most_symbols xs) (most_symbols ys)
most-append [] ys = omega arith
most-append (x ∷ xs) ys = omega (arith, most-append xs ys)

abbrev mutual
  pub widest : Tree → ℕ
  widest skip = 1
  widest stop = 1
  widest (assign xs es) = length (assign_symbols xs es)
  widest (receive c x) = 3
  widest (send c e) = length (send_symbols c e)
  widest (seq ps) = max 1 (widest_of_all ps)
  widest (par ps) = max 1 (widest_of_all ps)
  widest (select cs) = max 1 (widest_of_cases cs)
  widest (alt bs) = max 1 (widest_of_branches bs)
  widest (declare x w p) = max 3 (widest p)
  widest (connect c w p) = max 5 (widest p)

  pub widest_of_all : Trees → ℕ
  widest_of_all no_tree = 0
  widest_of_all (and_tree p ps) = max (widest p) (widest_of_all ps)

  pub widest_of_cases : Cases → ℕ
  widest_of_cases no_case = 0
  widest_of_cases (and_case e p cs) = max (length (whole_symbols e)) (max (widest p) (widest_of_cases cs))

  pub widest_of_branches : Branches → ℕ
  widest_of_branches no_branch = 0
  widest_of_branches (and_branch e w p bs) = max (length (guard_symbols e w)) (max (widest p) (widest_of_branches bs))

mutual
  pub part_widest : (level : ℕ) (p : Tree) → most_symbols (part_lines level p) ≡ widest p
  part_widest level skip = omega arith
  part_widest level stop = omega arith
  part_widest level (assign xs es) = omega arith
  part_widest level (receive c x) = omega arith
  part_widest level (send c e) = omega arith
  part_widest level (seq ps) = omega (arith, all_widest (level + 1) ps)
  part_widest level (par ps) = omega (arith, all_widest (level + 1) ps)
  part_widest level (select cs) = omega (arith, cases_widest (level + 1) cs)
  part_widest level (alt bs) = omega (arith, branches_widest (level + 1) bs)
  part_widest level (declare x w p) = omega (arith, part_widest level p)
  part_widest level (connect c w p) = omega (arith, part_widest level p)

  pub all_widest : (level : ℕ) (ps : Trees) → most_symbols (all_lines level ps) ≡ widest_of_all ps
  all_widest level no_tree = refl
  all_widest level (and_tree p ps) = omega (arith, most-append (part_lines level p) (all_lines level ps), part_widest level p, all_widest level ps)

  pub cases_widest : (level : ℕ) (cs : Cases) → most_symbols (case_lines level cs) ≡ widest_of_cases cs
  cases_widest level no_case = refl
  cases_widest level (and_case e p cs) =
      omega (arith, most-append (part_lines (level + 1) p) (case_lines level cs), part_widest (level + 1) p, cases_widest level cs)

  pub branches_widest : (level : ℕ) (bs : Branches) → most_symbols (branch_lines level bs) ≡ widest_of_branches bs
  branches_widest level no_branch = refl
  branches_widest level (and_branch e w p bs) =
      omega (arith, most-append (part_lines (level + 1) p) (branch_lines level bs), part_widest (level + 1) p, branches_widest level bs)

pub widest-declaring : (x : ℕ) (k : Kind) (p : Tree) → widest (declaring x k p) ≡ max (length (declaration_symbols 0 k)) (widest p)
widest-declaring x (kind.Var w) p = refl
widest-declaring x (kind.Chan w d) p = refl

-- one declaration further in
pub declaration_further : (p b : Tree) (x : ℕ) (k : Kind) (a r m : ℕ) → p ≡ declaring x k b → r ≡ length (declaration_symbols 0 k) → m ≡ max a r
    → max m (widest b) ≡ max a (widest p)
declaration_further p b x k a r m e f g =
    let h = ap widest e ∙ widest-declaring x k b in
    omega (arith, h, f, g)

-- one part further
pub part_further : (ps : List Proc) (i a m r : ℕ) (p : Proc) → i < length ps → p ≡ get_or ps i p → r ≡ capped (most_symbols (part_lines 0 (tree p))) → m ≡ max a r
    → capped (max m (widest_of_all (trees (drop (i + 1) ps)))) ≡ capped (max a (widest_of_all (trees (drop i ps))))
part_further ps i a m r p h e f g =
    let s : widest_of_all (trees (drop i ps)) ≡ max (widest (tree (get_or ps i p))) (widest_of_all (trees (drop (i + 1) ps))) = at_drop_more (λ qs. widest_of_all (trees qs)) ps i p h in
    let t : widest (tree p) ≡ widest (tree (get_or ps i p)) = ap (λ q. widest (tree q)) e in
    omega (arith, s, t, f, g, part_widest 0 (tree p))

pub case_further : (cs : List (Expr × Proc)) (i a m n l r : ℕ) (c : Expr × Proc) → i < length cs → c ≡ get_or cs i c
    → l ≡ capped (length (whole_symbols (exp c.0))) → n ≡ max a l → r ≡ capped (most_symbols (part_lines 0 (tree c.1))) → m ≡ max n r
    → capped (max m (widest_of_cases (cases (drop (i + 1) cs)))) ≡ capped (max a (widest_of_cases (cases (drop i cs))))
case_further cs i a m n l r c h e j k f g =
    let d = get_or cs i c in
    let s : widest_of_cases (cases (drop i cs)) ≡ max (length (whole_symbols (exp d.0))) (max (widest (tree d.1)) (widest_of_cases (cases (drop (i + 1) cs))))
    = at_drop_more (λ qs. widest_of_cases (cases qs)) cs i c h in
    let t : widest (tree c.1) ≡ widest (tree d.1) = ap (λ (q : Expr × Proc). widest (tree q.1)) e in
    let u : length (whole_symbols (exp c.0)) ≡ length (whole_symbols (exp d.0)) = ap (λ (q : Expr × Proc). length (whole_symbols (exp q.0))) e in
    omega (arith, s, t, u, f, g, j, k, part_widest 0 (tree c.1))

pub branch_further : (bs : List (Guard × Proc)) (i a m n l r : ℕ) (b : Guard × Proc) → i < length bs → b ≡ get_or bs i b
    → l ≡ capped (length (guard_symbols (exp b.0.condition) (waiting b.0.wait))) → n ≡ max a l → r ≡ capped (most_symbols (part_lines 0 (tree b.1))) → m ≡ max n r
    → capped (max m (widest_of_branches (branches (drop (i + 1) bs)))) ≡ capped (max a (widest_of_branches (branches (drop i bs))))
branch_further bs i a m n l r b h e j k f g =
    let d = get_or bs i b in
    let s : widest_of_branches (branches (drop i bs)) ≡ max (length (guard_symbols (exp d.0.condition) (waiting d.0.wait))) (max (widest (tree d.1)) (widest_of_branches (branches (drop (i + 1) bs))))
    = at_drop_more (λ qs. widest_of_branches (branches qs)) bs i b h in
    let t : widest (tree b.1) ≡ widest (tree d.1) = ap (λ (q : Guard × Proc). widest (tree q.1)) e in
    let u : length (guard_symbols (exp b.0.condition) (waiting b.0.wait)) ≡ length (guard_symbols (exp d.0.condition) (waiting d.0.wait))
    = ap (λ (q : Guard × Proc). length (guard_symbols (exp q.0.condition) (waiting q.0.wait))) e in
    omega (arith, s, t, u, f, g, j, k, part_widest 0 (tree b.1))

pub parts_seen : (ps : List Proc) (i a : ℕ) → length ps ≤ i → a < 2 ^ 64 → capped (max a (widest_of_all (trees (drop i ps)))) ≡ a
parts_seen ps i a h k =
    let s : widest_of_all (trees (drop i ps)) ≡ 0 = at_drop_all (λ qs. widest_of_all (trees qs)) ps i h in
    omega (arith, s, k)

pub cases_seen : (cs : List (Expr × Proc)) (i a : ℕ) → length cs ≤ i → a < 2 ^ 64 → capped (max a (widest_of_cases (cases (drop i cs)))) ≡ a
cases_seen cs i a h k =
    let s : widest_of_cases (cases (drop i cs)) ≡ 0 = at_drop_all (λ qs. widest_of_cases (cases qs)) cs i h in
    omega (arith, s, k)

pub branches_seen : (bs : List (Guard × Proc)) (i a : ℕ) → length bs ≤ i → a < 2 ^ 64 → capped (max a (widest_of_branches (branches (drop i bs)))) ≡ a
branches_seen bs i a h k =
    let s : widest_of_branches (branches (drop i bs)) ≡ 0 = at_drop_all (λ qs. widest_of_branches (branches qs)) bs i h in
    omega (arith, s, k)

-- a construct with parts
pub seq_tokens : (p : Tree) (ps : Trees) (a n : ℕ) → p ≡ seq ps → a ≡ capped (most_symbols (all_lines 0 ps)) → n ≡ max a 1 → n ≡ capped (most_symbols (part_lines 0 p))
seq_tokens p ps a n e f g =
    let h = ap widest e in
    omega (arith, h, f, g, all_widest 0 ps, part_widest 0 p)

pub par_tokens : (p : Tree) (ps : Trees) (a n : ℕ) → p ≡ par ps → a ≡ capped (most_symbols (all_lines 0 ps)) → n ≡ max a 1 → n ≡ capped (most_symbols (part_lines 0 p))
par_tokens p ps a n e f g =
    let h = ap widest e in
    omega (arith, h, f, g, all_widest 0 ps, part_widest 0 p)

pub select_tokens : (p : Tree) (cs : Cases) (a n : ℕ) → p ≡ select cs → a ≡ capped (most_symbols (case_lines 0 cs)) → n ≡ max a 1 → n ≡ capped (most_symbols (part_lines 0 p))
select_tokens p cs a n e f g =
    let h = ap widest e in
    omega (arith, h, f, g, cases_widest 0 cs, part_widest 0 p)

pub alt_tokens : (p : Tree) (bs : Branches) (a n : ℕ) → p ≡ alt bs → a ≡ capped (most_symbols (branch_lines 0 bs)) → n ≡ max a 1 → n ≡ capped (most_symbols (part_lines 0 p))
alt_tokens p bs a n e f g =
    let h = ap widest e in
    omega (arith, h, f, g, branches_widest 0 bs, part_widest 0 p)

-- names with commas
flat_names : (xs : List ℕ) → length (flat_map (λ x. comma ∷ name_symbol x ∷ []) xs) ≡ 2 * length xs
flat_names [] = refl
flat_names (x ∷ xs) = omega (arith, flat_names xs)

pub names_length : (xs : List ℕ) → length (separated (λ x. name_symbol x ∷ []) xs) ≡ 2 * length xs - 1
names_length [] = refl
names_length (x ∷ xs) = omega (arith, flat_names xs)

-- one value more
pub value_counted : (es : List Expr) (i a b s t m : ℕ) (e : Expr) → i < length es → e ≡ get_or es i e
    → a ≡ capped (length (separated whole_symbols (map exp (take i es)))) → b ≡ length (comma_behind (eqb i 0)) → s ≡ min (a + b) (2 ^ 64 - 1)
    → t ≡ capped (length (whole_symbols (exp e))) → m ≡ min (s + t) (2 ^ 64 - 1) → m ≡ capped (length (separated whole_symbols (map exp (take (i + 1) es))))
value_counted es i a b s t m e h f g j k l o =
    let ys = map exp (take i es) in
    let d = get_or es i e in
    let p : map exp (take (i + 1) es) ≡ ys ++ exp d ∷ [] = ap (map exp) (take_more es i e h) ∙ map-append exp (take i es) (d ∷ []) in
    let q : length (separated whole_symbols (map exp (take (i + 1) es))) ≡ length (separated whole_symbols ys ++ (comma_behind (is_none ys) ++ whole_symbols (exp d)))
    = ap (λ zs. length (separated whole_symbols zs)) p ∙ ap length (separated-more whole_symbols ys (exp d)) in
    let r : length (comma_behind (is_none ys)) ≡ length (comma_behind (eqb i 0)) = ap (λ x. length (comma_behind x)) (is_none-map exp (take i es) ∙ none_taken es i h) in
    let u : length (whole_symbols (exp e)) ≡ length (whole_symbols (exp d)) = ap (λ x. length (whole_symbols (exp x))) f in
    omega (arith, q, r, u, g, j, k, l, o, length-append (separated whole_symbols ys) (comma_behind (is_none ys) ++ whole_symbols (exp d)), length-append (comma_behind (is_none ys)) (whole_symbols (exp d)))
