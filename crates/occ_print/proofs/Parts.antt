-- The lines of a part, one after another: what is printed, and that its names are known.
use Rattle.std.proofs.Common.{◌≡◌, ℕ, ◌+◌, ◌<◌, List, [], ◌∷◌, ◌++◌, length, get_or, drop, refl, ap, sym, ◌∙◌, subst, append_assoc}
use Rattle.std.proofs.lemmas.List.{at_drop_more}
use Rattle.occ_syntax.specs.declared.expr.Expr.{Expr}
use Rattle.occ_syntax.specs.declared.expr.Guard.{Guard}
use Rattle.occ_syntax.specs.declared.proc.Proc.{Proc}
use Rattle.occ_syntax.specs.declared.scope.Kind.{Kind}
use Rattle.occ_syntax.specs.declared.scope.Kind.TheVariants.{Var, Chan}
use Rattle.occ_syntax.specs.Declarations.{declaring}
use Rattle.occ_syntax.specs.Tree.{Tree}
use Rattle.occ_syntax.specs.View.{exp, waiting, tree, trees, cases, branches}
use Rattle.occ_parse_forms.specs.occ_lex.Printed.{printed_line}
use Rattle.occ_parse_forms.specs.occ_lex.Symbols.{IsKnown}
use Rattle.std.specs.List.{AllByRecursion}
use Rattle.std.specs.Prelude.{Result, Ok, Err, OnOk}
use Rattle.occ_print.specs.Symbols.{declaration_symbols, guard_symbols, whole_symbols}
use Rattle.occ_print.specs.Lines.{TextLine, line, part_lines, all_lines, case_lines, branch_lines}
use Rattle.occ_print.specs.Known.{LinesAreKnown}
use Rattle.occ_print.specs.Spelled.{printed, lines_text}
use Rattle.occ_print.proofs.Lists.{all-front, all-back}
use Rattle.occ_print.proofs.Texts.{line_then, lines_before, line_before}

pub declaring_lines : (level x : ℕ) (k : Kind) (p : Tree) → part_lines level (declaring x k p) ≡ line level (declaration_symbols x k) ∷ part_lines level p
declaring_lines level x (Var w) p = refl
declaring_lines level x (Chan w d) p = refl

pub next_part : (level : ℕ) (ps : List Proc) (i : ℕ) (p : Proc) → i < length ps → p ≡ get_or ps i p
    → all_lines level (trees (drop i ps)) ≡ part_lines level (tree p) ++ all_lines level (trees (drop (i + 1) ps))
next_part level ps i p h e =
    at_drop_more (λ qs. all_lines level (trees qs)) ps i p h ∙ ap (λ q. part_lines level (tree q) ++ all_lines level (trees (drop (i + 1) ps))) (sym e)

pub next_case : (level : ℕ) (cs : List (Expr × Proc)) (i : ℕ) (c : Expr × Proc) → i < length cs → c ≡ get_or cs i c
    → case_lines level (cases (drop i cs)) ≡ line level (whole_symbols (exp c.0)) ∷ (part_lines (level + 1) (tree c.1) ++ case_lines level (cases (drop (i + 1) cs)))
next_case level cs i c h e =
    at_drop_more (λ qs. case_lines level (cases qs)) cs i c h
    ∙ ap (λ (q : Expr × Proc). line level (whole_symbols (exp q.0)) ∷ (part_lines (level + 1) (tree q.1) ++ case_lines level (cases (drop (i + 1) cs)))) (sym e)

pub next_branch : (level : ℕ) (bs : List (Guard × Proc)) (i : ℕ) (b : Guard × Proc) → i < length bs → b ≡ get_or bs i b
    → branch_lines level (branches (drop i bs))
    ≡ line level (guard_symbols (exp b.0.condition) (waiting b.0.wait)) ∷ (part_lines (level + 1) (tree b.1) ++ branch_lines level (branches (drop (i + 1) bs)))
next_branch level bs i b h e =
    at_drop_more (λ qs. branch_lines level (branches qs)) bs i b h
    ∙ ap (λ (q : Guard × Proc). line level (guard_symbols (exp q.0.condition) (waiting q.0.wait)) ∷ (part_lines (level + 1) (tree q.1) ++ branch_lines level (branches (drop (i + 1) bs)))) (sym e)

-- a line off the front
pub line_off : (names : List (List ℕ)) (all : List TextLine) (l : TextLine) (back : List TextLine) (t0 t1 : List ℕ)
    → all ≡ l ∷ back → t1 ≡ t0 ++ printed_line (printed names l) → t1 ++ lines_text names back ≡ t0 ++ lines_text names all
line_off names all l back t0 t1 e f =
    ap (λ t. t ++ lines_text names back) f ∙ append_assoc t0 (printed_line (printed names l)) (lines_text names back) ∙ ap (λ ls. t0 ++ lines_text names ls) (sym e)

-- the names on the first line, on the lines in front, and on those behind
pub first_known : (names : List (List ℕ)) (all : List TextLine) (l : TextLine) (back : List TextLine) → all ≡ l ∷ back → LinesAreKnown names all
    → AllByRecursion (IsKnown names) l.symbols
first_known names all l back e h = (subst (LinesAreKnown names) e h).0

pub rest_known : (names : List (List ℕ)) (all : List TextLine) (l : TextLine) (back : List TextLine) → all ≡ l ∷ back → LinesAreKnown names all → LinesAreKnown names back
rest_known names all l back e h = (subst (LinesAreKnown names) e h).1

pub front_known : (names : List (List ℕ)) (all front back : List TextLine) → all ≡ front ++ back → LinesAreKnown names all → LinesAreKnown names front
front_known names all front back e h = all-front (λ (l : TextLine). AllByRecursion (IsKnown names) l.symbols) front back (subst (LinesAreKnown names) e h)

pub back_known : (names : List (List ℕ)) (all front back : List TextLine) → all ≡ front ++ back → LinesAreKnown names all → LinesAreKnown names back
back_known names all front back e h = all-back (λ (l : TextLine). AllByRecursion (IsKnown names) l.symbols) front back (subst (LinesAreKnown names) e h)

pub parts_left : (names : List (List ℕ)) (level : ℕ) (ps : List Proc) (i : ℕ) (p : Proc) → i < length ps → p ≡ get_or ps i p
    → LinesAreKnown names (all_lines level (trees (drop i ps))) → LinesAreKnown names (all_lines level (trees (drop (i + 1) ps)))
parts_left names level ps i p h e k = back_known names _ (part_lines level (tree p)) (all_lines level (trees (drop (i + 1) ps))) (next_part level ps i p h e) k

pub cases_left : (names : List (List ℕ)) (level : ℕ) (cs : List (Expr × Proc)) (i : ℕ) (c : Expr × Proc) → i < length cs → c ≡ get_or cs i c
    → LinesAreKnown names (case_lines level (cases (drop i cs))) → LinesAreKnown names (case_lines level (cases (drop (i + 1) cs)))
cases_left names level cs i c h e k =
    let back = case_lines level (cases (drop (i + 1) cs)) in
    let r : LinesAreKnown names (part_lines (level + 1) (tree c.1) ++ back)
    = rest_known names _ (line level (whole_symbols (exp c.0))) (part_lines (level + 1) (tree c.1) ++ back) (next_case level cs i c h e) k in
    back_known names _ (part_lines (level + 1) (tree c.1)) back refl r

pub branches_left : (names : List (List ℕ)) (level : ℕ) (bs : List (Guard × Proc)) (i : ℕ) (b : Guard × Proc) → i < length bs → b ≡ get_or bs i b
    → LinesAreKnown names (branch_lines level (branches (drop i bs))) → LinesAreKnown names (branch_lines level (branches (drop (i + 1) bs)))
branches_left names level bs i b h e k =
    let back = branch_lines level (branches (drop (i + 1) bs)) in
    let r : LinesAreKnown names (part_lines (level + 1) (tree b.1) ++ back)
    = rest_known names _ (line level (guard_symbols (exp b.0.condition) (waiting b.0.wait))) (part_lines (level + 1) (tree b.1) ++ back) (next_branch level bs i b h e) k in
    back_known names _ (part_lines (level + 1) (tree b.1)) back refl r

-- a line is printed, and then those below it
pub lines_ok : {A E : Type 0} (r : Result A E) (names : List (List ℕ)) (all : List TextLine) (l : TextLine) (ls : List TextLine) (t0 t1 t2 : List ℕ)
    → all ≡ l ∷ ls → t1 ≡ t0 ++ printed_line (printed names l) → OnOk r (t2 ≡ t1 ++ lines_text names ls) → OnOk r (t2 ≡ t0 ++ lines_text names all)
lines_ok (Ok x) names all l ls t0 t1 t2 e f h = line_then names l ls t0 t1 t2 f h ∙ ap (λ ms. t0 ++ lines_text names ms) (sym e)
lines_ok (Err x) names all l ls t0 t1 t2 e f h = tt

-- one part, choice or alternative more is printed
pub part_printed : (names : List (List ℕ)) (level : ℕ) (ps : List Proc) (i : ℕ) (p : Proc) (t0 t1 : List ℕ) → i < length ps → p ≡ get_or ps i p
    → t1 ≡ t0 ++ lines_text names (part_lines level (tree p))
    → t1 ++ lines_text names (all_lines level (trees (drop (i + 1) ps))) ≡ t0 ++ lines_text names (all_lines level (trees (drop i ps)))
part_printed names level ps i p t0 t1 h e f =
    lines_before names _ (part_lines level (tree p)) (all_lines level (trees (drop (i + 1) ps))) t0 t1 (next_part level ps i p h e) f

pub case_printed : (names : List (List ℕ)) (level : ℕ) (cs : List (Expr × Proc)) (i : ℕ) (c : Expr × Proc) (t0 t1 t2 : List ℕ) → i < length cs → c ≡ get_or cs i c
    → t1 ≡ t0 ++ printed_line (printed names (line level (whole_symbols (exp c.0)))) → t2 ≡ t1 ++ lines_text names (part_lines (level + 1) (tree c.1))
    → t2 ++ lines_text names (case_lines level (cases (drop (i + 1) cs))) ≡ t0 ++ lines_text names (case_lines level (cases (drop i cs)))
case_printed names level cs i c t0 t1 t2 h e f g =
    line_before names _ (line level (whole_symbols (exp c.0))) (part_lines (level + 1) (tree c.1)) (case_lines level (cases (drop (i + 1) cs))) t0 t1 t2
    (next_case level cs i c h e) f g

pub branch_printed : (names : List (List ℕ)) (level : ℕ) (bs : List (Guard × Proc)) (i : ℕ) (b : Guard × Proc) (t0 t1 t2 : List ℕ) → i < length bs → b ≡ get_or bs i b
    → t1 ≡ t0 ++ printed_line (printed names (line level (guard_symbols (exp b.0.condition) (waiting b.0.wait)))) → t2 ≡ t1 ++ lines_text names (part_lines (level + 1) (tree b.1))
    → t2 ++ lines_text names (branch_lines level (branches (drop (i + 1) bs))) ≡ t0 ++ lines_text names (branch_lines level (branches (drop i bs)))
branch_printed names level bs i b t0 t1 t2 h e f g =
    line_before names _ (line level (guard_symbols (exp b.0.condition) (waiting b.0.wait))) (part_lines (level + 1) (tree b.1)) (branch_lines level (branches (drop (i + 1) bs)))
    t0 t1 t2 (next_branch level bs i b h e) f g
