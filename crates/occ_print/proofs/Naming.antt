-- Where the names of a part are in the table, those on its lines are.
use Rattle.std.proofs.Common.{ℕ, ◌+◌, ◌<◌, Bool, true, false, not, ◌&&◌, ◌||◌, List, [], ◌∷◌, ◌++◌, length, None, Some}
use Rattle.std.specs.Prelude.{if◌then◌else◌}
use Rattle.std.specs.List.{AllByRecursion, flat_map}
use Rattle.occ_syntax.specs.occ_base.declared.event.Dir.TheVariants as dir
use Rattle.occ_syntax.specs.occ_base.declared.names.Name.{Name}
use Rattle.occ_syntax.specs.declared.expr.Op.{Op}
use Rattle.occ_syntax.specs.declared.expr.Op.TheVariants as op
use Rattle.occ_syntax.specs.declared.scope.Kind.{Kind}
use Rattle.occ_syntax.specs.declared.scope.Kind.TheVariants as kind
use Rattle.occ_syntax.specs.Tree.{Exp, variable, numeral, truth, negation, complement, operation, Waiting, ready, input, output, Tree, skip, stop, assign, receive, send, seq, par, select, alt, declare, connect, Trees, no_tree, and_tree, Cases, no_case, and_case, Branches, no_branch, and_branch}
use Rattle.occ_parse_forms.specs.occ_lex.declared.symbol.Symbol.{Symbol}
use Rattle.occ_parse_forms.specs.occ_lex.declared.symbol.Sign.TheVariants as sign
use Rattle.occ_parse_forms.specs.occ_lex.declared.symbol.Symbol.TheVariants as symbol
use Rattle.occ_parse_forms.specs.occ_lex.Symbols.{IsKnown}
use Rattle.occ_parse_forms.specs.Lines.{comma, kind_words, mark_words}
use Rattle.occ_parse_forms.specs.Written.{op_word, truth_word}
use Rattle.occ_print.specs.Symbols.{name_symbol, separated, is_operation, goes_on, compares_numerals, in_brackets, width_symbols, exp_symbols, whole_symbols, assign_symbols, waiting_symbols, is_true, is_ready, guard_symbols, named_symbols, declaration_symbols, header_symbols}
use Rattle.occ_print.specs.Lines.{TextLine, part_lines, all_lines, case_lines, branch_lines}
use Rattle.occ_print.specs.Known.{ExpIsKnown, WaitingIsKnown, PartIsKnown, PartsAreKnown, CasesAreKnown, BranchesAreKnown, LinesAreKnown}
use Rattle.occ_print.proofs.Lists.{all-append}

abbrev Known : List (List ℕ) → List Symbol → Type 0
Known names symbols = AllByRecursion (IsKnown names) symbols

both : (names : List (List ℕ)) (xs ys : List Symbol) → Known names xs → Known names ys → Known names (xs ++ ys)
both names xs ys h k = all-append (IsKnown names) xs ys h k

brackets_known : (names : List (List ℕ)) (b : Bool) (xs : List Symbol) → Known names xs → Known names (in_brackets b xs)
brackets_known names false xs h = h
brackets_known names true xs h = (tt, both names xs _ h (tt, tt))

truth_known : (names : List (List ℕ)) (b : Bool) → IsKnown names (truth_word b)
truth_known names true = tt
truth_known names false = tt

op_known : (names : List (List ℕ)) (o : Op) → IsKnown names (op_word o)
op_known names op.Plus = tt
op_known names op.Minus = tt
op_known names op.And = tt
op_known names op.Or = tt
op_known names op.BitAnd = tt
op_known names op.BitOr = tt
op_known names op.BitXor = tt
op_known names op.Equal = tt
op_known names op.Differ = tt
op_known names op.Less = tt
op_known names op.Greater = tt
op_known names op.AtMost = tt
op_known names op.AtLeast = tt

width_known : (names : List (List ℕ)) (wide : Bool) (bits : ℕ) → Known names (width_symbols wide bits)
width_known names false bits = tt
width_known names true bits = (tt, (tt, (tt, tt)))

exp_known : (names : List (List ℕ)) (wide : Bool) (e : Exp) → ExpIsKnown (length names) e → Known names (exp_symbols wide e)
exp_known names wide (variable x) h = (h, tt)
exp_known names wide (numeral bits value) h = (tt, width_known names wide bits)
exp_known names wide (truth b) h = (truth_known names b, tt)
exp_known names wide (negation e) h = (tt, brackets_known names (is_operation e) _ (exp_known names wide e h))
exp_known names wide (complement e) h = (tt, brackets_known names (is_operation e) _ (exp_known names wide e h))
exp_known names wide (operation o left right) h =
    let w = wide || compares_numerals o left right in
    both names _ _ (brackets_known names (is_operation left && not (goes_on o left)) _ (exp_known names w left h.0))
    (op_known names o, brackets_known names (is_operation right) _ (exp_known names w right h.1))

-- what stands behind commas
flat_known : {X : Type 0} (names : List (List ℕ)) (spell : X → List Symbol) (P : X → Type 0) → ((x : X) → P x → Known names (spell x))
    → (xs : List X) → AllByRecursion P xs → Known names (flat_map (λ x. comma ∷ spell x) xs)
flat_known names spell P known [] h = tt
flat_known names spell P known (x ∷ xs) h = both names (comma ∷ spell x) _ (tt, known x h.0) (flat_known names spell P known xs h.1)

separated_known : {X : Type 0} (names : List (List ℕ)) (spell : X → List Symbol) (P : X → Type 0) → ((x : X) → P x → Known names (spell x))
    → (xs : List X) → AllByRecursion P xs → Known names (separated spell xs)
separated_known names spell P known [] h = tt
separated_known names spell P known (x ∷ xs) h = both names (spell x) _ (known x h.0) (flat_known names spell P known xs h.1)

assign_known : (names : List (List ℕ)) (xs : List ℕ) (es : List Exp) → AllByRecursion (λ x. x < length names) xs → AllByRecursion (ExpIsKnown (length names)) es
    → Known names (assign_symbols xs es)
assign_known names xs es h k = both names _ _
    (separated_known names (λ x. name_symbol x ∷ []) (λ x. x < length names) (λ x l. (l, tt)) xs h)
    (tt, separated_known names whole_symbols (ExpIsKnown (length names)) (λ e l. exp_known names false e l) es k)

waiting_known : (names : List (List ℕ)) (w : Waiting) → WaitingIsKnown (length names) w → Known names (waiting_symbols w)
waiting_known names ready h = (tt, tt)
waiting_known names (input c x) h = (h.0, (tt, (h.1, tt)))
waiting_known names (output c e) h = (h.0, (tt, exp_known names false e h.1))

condition_known : (names : List (List ℕ)) (b : Bool) (xs : List Symbol) → Known names xs → Known names (if b then [] else xs ++ symbol.Sign sign.Ampersand ∷ [])
condition_known names true xs h = tt
condition_known names false xs h = both names xs _ h (tt, tt)

guard_known : (names : List (List ℕ)) (e : Exp) (w : Waiting) → ExpIsKnown (length names) e → WaitingIsKnown (length names) w → Known names (guard_symbols e w)
guard_known names e w h k =
    let left_out = is_true e && not (is_ready w) in
    both names _ (waiting_symbols w) (condition_known names left_out (whole_symbols e) (exp_known names false e h)) (waiting_known names w k)

kind_known : (names : List (List ℕ)) (k : Kind) → Known names (kind_words k)
kind_known names (kind.Var w) = (tt, tt)
kind_known names (kind.Chan w mark) = (tt, (tt, (tt, tt)))

mark_known : (names : List (List ℕ)) (k : Kind) → Known names (mark_words k)
mark_known names (kind.Var w) = tt
mark_known names (kind.Chan w None) = tt
mark_known names (kind.Chan w (Some dir.Input)) = (tt, tt)
mark_known names (kind.Chan w (Some dir.Output)) = (tt, tt)

named_known : (names : List (List ℕ)) (x : ℕ) (k : Kind) → x < length names → Known names (named_symbols x k)
named_known names x k h = both names (kind_words k) _ (kind_known names k) (h, mark_known names k)

declaration_known : (names : List (List ℕ)) (x : ℕ) (k : Kind) → x < length names → Known names (declaration_symbols x k)
declaration_known names x k h = both names (kind_words k) _ (kind_known names k) (h, (tt, tt))

pub header_known : (names : List (List ℕ)) (name : ℕ) (params : List (Name × Kind)) → name < length names
    → AllByRecursion (λ (p : Name × Kind). p.0.0 < length names) params → Known names (header_symbols name params)
header_known names name params h k = (
  tt,
  (
    h,
    (
      tt,
      both names _ _
          (separated_known names (λ (p : Name × Kind). named_symbols p.0.0 p.1) (λ (p : Name × Kind). p.0.0 < length names) (λ p l. named_known names p.0.0 p.1 l) params k) (tt, tt),
    ),
  ),
)

lines_both : (names : List (List ℕ)) (xs ys : List TextLine) → LinesAreKnown names xs → LinesAreKnown names ys → LinesAreKnown names (xs ++ ys)
lines_both names xs ys h k = all-append (λ (l : TextLine). Known names l.symbols) xs ys h k

mutual
  pub part_known : (names : List (List ℕ)) (level : ℕ) (p : Tree) → PartIsKnown (length names) p → LinesAreKnown names (part_lines level p)
  part_known names level skip h = ((tt, tt), tt)
  part_known names level stop h = ((tt, tt), tt)
  part_known names level (assign xs es) h = (assign_known names xs es h.0 h.1, tt)
  part_known names level (receive c x) h = ((h.0, (tt, (h.1, tt))), tt)
  part_known names level (send c e) h = ((h.0, (tt, exp_known names false e h.1)), tt)
  part_known names level (seq ps) h = ((tt, tt), parts_known names (level + 1) ps h)
  part_known names level (par ps) h = ((tt, tt), parts_known names (level + 1) ps h)
  part_known names level (select cs) h = ((tt, tt), cases_known names (level + 1) cs h)
  part_known names level (alt bs) h = ((tt, tt), branches_known names (level + 1) bs h)
  part_known names level (declare x w p) h = (declaration_known names x (kind.Var w) h.0, part_known names level p h.1)
  part_known names level (connect c w p) h = (declaration_known names c (kind.Chan w None) h.0, part_known names level p h.1)

  pub parts_known : (names : List (List ℕ)) (level : ℕ) (ps : Trees) → PartsAreKnown (length names) ps → LinesAreKnown names (all_lines level ps)
  parts_known names level no_tree h = tt
  parts_known names level (and_tree p ps) h = lines_both names _ _ (part_known names level p h.0) (parts_known names level ps h.1)

  pub cases_known : (names : List (List ℕ)) (level : ℕ) (cs : Cases) → CasesAreKnown (length names) cs → LinesAreKnown names (case_lines level cs)
  cases_known names level no_case h = tt
  cases_known names level (and_case e p cs) h =
      (exp_known names false e h.0, lines_both names _ _ (part_known names (level + 1) p h.1) (cases_known names level cs h.2))

  pub branches_known : (names : List (List ℕ)) (level : ℕ) (bs : Branches) → BranchesAreKnown (length names) bs → LinesAreKnown names (branch_lines level bs)
  branches_known names level no_branch h = tt
  branches_known names level (and_branch e w p bs) h =
      (guard_known names e w h.0 h.1, lines_both names _ _ (part_known names (level + 1) p h.2) (branches_known names level bs h.3))
