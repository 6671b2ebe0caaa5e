-- The lines of a part whose types are kept can be printed and read back.
use Rattle.std.proofs.Common.{◌≡◌, ℕ, ◌<◌, ◌≤◌, ◌+◌, ◌^◌, Bool, true, false, not, ◌&&◌, ◌||◌, nat_le, nat_lt, List, [], ◌∷◌, ◌++◌, Option, None, Some, refl, arith}
use Rattle.std.specs.Prelude.{if◌then◌else◌}
use Rattle.std.specs.List.{AllByRecursion, flat_map}
use Rattle.std.proofs.lemmas.Bool.{and_parts, leb-true, ltb-true, agree_below_at}
use Rattle.occ_print.specs.occ_base.declared.event.Dir.TheVariants as dir
use Rattle.occ_print.specs.occ_base.declared.width.Width.{Width}
use Rattle.occ_print.specs.occ_base.declared.width.Width.TheVariants.{Bool as TruthValue, Word}
use Rattle.occ_print.specs.occ_syntax.declared.expr.Op.{Op}
use Rattle.occ_print.specs.occ_syntax.declared.expr.Op.TheVariants as op
use Rattle.occ_print.specs.occ_syntax.declared.scope.Kind.{Kind}
use Rattle.occ_print.specs.occ_syntax.declared.scope.Kind.TheVariants as kind
use Rattle.occ_print.specs.occ_syntax.Scopes.{Environment, with_name, allows, variable_width, channel_width}
use Rattle.occ_print.specs.occ_syntax.Tree.{Exp, variable, numeral, truth, negation, complement, operation, Waiting, ready, input, output, Tree, skip, stop, assign, receive, send, seq, par, select, alt, declare, connect, Trees, no_tree, and_tree, Cases, no_case, and_case, Branches, no_branch, and_branch}
use Rattle.occ_print.specs.occ_syntax.Types.{is_width, type_of, agree, is_condition, output_kept, waiting_kept, pairs_kept, is_pair, can_declare, width_of_kind, types_kept, all_types_kept, cases_kept, branches_kept}
use Rattle.occ_print.specs.occ_lex.declared.symbol.Sign.TheVariants as sign
use Rattle.occ_print.specs.occ_lex.declared.symbol.Symbol.{Symbol}
use Rattle.occ_print.specs.occ_lex.declared.symbol.Symbol.TheVariants as symbol
use Rattle.occ_print.specs.occ_parse_forms.Lines.{comma, kind_words, mark_words}
use Rattle.occ_print.specs.occ_parse_forms.Written.{op_word, truth_word}
use Rattle.occ_print.specs.Symbols.{name_symbol, separated, is_operation, goes_on, compares_numerals, in_brackets, numeral_symbols, exp_symbols, whole_symbols, assign_symbols, waiting_symbols, is_true, is_ready, named_symbols, declaration_symbols}
use Rattle.occ_print.specs.Lines.{TextLine, part_lines, all_lines, case_lines, branch_lines}
use Rattle.occ_print.specs.Known.{ExpIsKnown, WaitingIsKnown, PartIsKnown, PartsAreKnown, CasesAreKnown, BranchesAreKnown}
use Rattle.occ_print.proofs.Lists.{all-append}
use Rattle.occ_print_back.specs.Placed.{IsSayable, AreSayable, IsBegun, LinesAreSayable}
use Rattle.occ_print.specs.occ_syntax.Types.{if_truth_value, if_word}
use Rattle.occ_print_back.proofs.Widths.{operands_of}
use Rattle.occ_print_back.proofs.Standing.{agree_is}

-- ---- a line begins

pub begun-append : (xs ys : List Symbol) → IsBegun xs → IsBegun (xs ++ ys)
begun-append [] ys h = absurd h
begun-append (x ∷ xs) ys h = tt

brackets_begun : (b : Bool) (xs : List Symbol) → IsBegun xs → IsBegun (in_brackets b xs)
brackets_begun true xs h = tt
brackets_begun false xs h = h

pub exp_begun : (wide : Bool) (e : Exp) → IsBegun (exp_symbols wide e)
exp_begun wide (variable x) = tt
exp_begun wide (numeral bits v) = tt
exp_begun wide (truth b) = tt
exp_begun wide (negation e) = tt
exp_begun wide (complement e) = tt
exp_begun wide (operation o left right) =
    let w = wide || compares_numerals o left right in
    let front = in_brackets (is_operation left && not (goes_on o left)) (exp_symbols w left) in
    begun-append front (op_word o ∷ in_brackets (is_operation right) (exp_symbols w right))
    (brackets_begun (is_operation left && not (goes_on o left)) (exp_symbols w left) (exp_begun w left))

assign_begun : (xs : List ℕ) (es : List Exp) → is_pair xs ≡ true → IsBegun (assign_symbols xs es)
assign_begun [] es h = absurd (cc)
assign_begun (x ∷ xs) es h = tt

waiting_begun : (w : Waiting) → IsBegun (waiting_symbols w)
waiting_begun ready = tt
waiting_begun (input c x) = tt
waiting_begun (output c e) = tt

guard_begun_at : (b : Bool) (e : Exp) (w : Waiting) → IsBegun ((if b then [] else whole_symbols e ++ symbol.Sign sign.Ampersand ∷ []) ++ waiting_symbols w)
guard_begun_at true e w = waiting_begun w
guard_begun_at false e w =
    begun-append (whole_symbols e ++ symbol.Sign sign.Ampersand ∷ []) (waiting_symbols w) (begun-append (whole_symbols e) (symbol.Sign sign.Ampersand ∷ []) (exp_begun false e))

-- ---- numerals fit

abbrev small_power : ℕ → Bool
small_power b = nat_le (2 ^ b) 256

power_small : (b : ℕ) → b ≤ 8 → 2 ^ b ≤ 256
power_small b h = leb-true _ _ (agree_below_at small_power (λ n. true) 9 b refl (omega (arith, h)))

numeral_fits : (bits v : ℕ) → (is_width (Word bits) && nat_lt v (2 ^ bits)) ≡ true → (v < 256) × (is_width (Word bits) ≡ true)
numeral_fits bits v h =
    let parts = and_parts (is_width (Word bits)) (nat_lt v (2 ^ bits)) h in
    let high : bits ≤ 8 = leb-true bits 8 (and_parts (nat_le 1 bits) (nat_le bits 8) parts.0).1 in
    let below : v < 2 ^ bits = ltb-true _ _ parts.1 in
    (omega (arith, below, power_small bits high), parts.0)

truth_from : (t : Option Width) (w : Width) → if_truth_value t ≡ Some w → t ≡ Some TruthValue
truth_from (Some TruthValue) w h = refl
truth_from (Some (Word b)) w h = absurd (cc)
truth_from None w h = absurd (cc)

word_from : (t : Option Width) (w : Width) → if_word t ≡ Some w → t ≡ Some w
word_from (Some (Word b)) w h = h
word_from (Some TruthValue) w h = absurd (cc)
word_from None w h = absurd (cc)

module _ (count : ℕ) where
  both : (xs ys : List Symbol) → AreSayable count xs → AreSayable count ys → AreSayable count (xs ++ ys)
  both xs ys h k = all-append (IsSayable count) xs ys h k

  brackets_sayable : (b : Bool) (xs : List Symbol) → AreSayable count xs → AreSayable count (in_brackets b xs)
  brackets_sayable false xs h = h
  brackets_sayable true xs h = (tt, both xs (symbol.Sign sign.Close ∷ []) h (tt, tt))

  truth_sayable : (b : Bool) → IsSayable count (truth_word b)
  truth_sayable true = tt
  truth_sayable false = tt

  op_sayable : (o : Op) → IsSayable count (op_word o)
  op_sayable op.Plus = tt
  op_sayable op.Minus = tt
  op_sayable op.And = tt
  op_sayable op.Or = tt
  op_sayable op.BitAnd = tt
  op_sayable op.BitOr = tt
  op_sayable op.BitXor = tt
  op_sayable op.Equal = tt
  op_sayable op.Differ = tt
  op_sayable op.Less = tt
  op_sayable op.Greater = tt
  op_sayable op.AtMost = tt
  op_sayable op.AtLeast = tt

  numeral_sayable : (wide : Bool) (bits v : ℕ) (w : Width) (t : Bool) → (is_width (Word bits) && nat_lt v (2 ^ bits)) ≡ t → (if t then Some (Word bits) else None) ≡ Some w
      → AreSayable count (numeral_symbols wide bits v)
  numeral_sayable false bits v w true h e = ((numeral_fits bits v h).0, tt)
  numeral_sayable true bits v w true h e = ((numeral_fits bits v h).0, (tt, ((numeral_fits bits v h).1, (tt, tt))))
  numeral_sayable wide bits v w false h e = absurd (cc)

  pub exp_sayable : (E : Environment) (wide : Bool) (e : Exp) (w : Width) → ExpIsKnown count e → type_of E e ≡ Some w → AreSayable count (exp_symbols wide e)
  exp_sayable E wide (variable x) w h k = (h, tt)
  exp_sayable E wide (numeral bits v) w h k = numeral_sayable wide bits v w (is_width (Word bits) && nat_lt v (2 ^ bits)) refl k
  exp_sayable E wide (truth b) w h k = (truth_sayable b, tt)
  exp_sayable E wide (negation e) w h k = (tt, brackets_sayable (is_operation e) (exp_symbols wide e) (exp_sayable E wide e TruthValue h (truth_from (type_of E e) w k)))
  exp_sayable E wide (complement e) w h k = (tt, brackets_sayable (is_operation e) (exp_symbols wide e) (exp_sayable E wide e w h (word_from (type_of E e) w k)))
  exp_sayable E wide (operation o left right) w h k =
      let p = operands_of o (type_of E left) (type_of E right) w k in
      let v = wide || compares_numerals o left right in
      let b = is_operation left && not (goes_on o left) in
      both (in_brackets b (exp_symbols v left)) (op_word o ∷ in_brackets (is_operation right) (exp_symbols v right))
      (brackets_sayable b (exp_symbols v left) (exp_sayable E v left p.width h.0 p.left_is))
      (op_sayable o, brackets_sayable (is_operation right) (exp_symbols v right) (exp_sayable E v right p.width h.1 p.right_is))

  flat_sayable : {X : Type 0} (spell : X → List Symbol) (Q : X → Type 0) → ((x : X) → Q x → AreSayable count (spell x)) → (xs : List X) → AllByRecursion Q xs
      → AreSayable count (flat_map (λ x. comma ∷ spell x) xs)
  flat_sayable spell Q f [] h = tt
  flat_sayable spell Q f (x ∷ xs) h = both (comma ∷ spell x) (flat_map (λ y. comma ∷ spell y) xs) (tt, f x h.0) (flat_sayable spell Q f xs h.1)

  pub separated_sayable : {X : Type 0} (spell : X → List Symbol) (Q : X → Type 0) → ((x : X) → Q x → AreSayable count (spell x)) → (xs : List X) → AllByRecursion Q xs
      → AreSayable count (separated spell xs)
  separated_sayable spell Q f [] h = tt
  separated_sayable spell Q f (x ∷ xs) h = both (spell x) (flat_map (λ y. comma ∷ spell y) xs) (f x h.0) (flat_sayable spell Q f xs h.1)

  values_sayable : (E : Environment) (xs : List ℕ) (es : List Exp) → AllByRecursion (ExpIsKnown count) es → pairs_kept E xs es ≡ true → AllByRecursion (λ (e : Exp). AreSayable count (whole_symbols e)) es
  values_sayable E xs [] h t = tt
  values_sayable E [] (e ∷ es) h t = absurd (cc)
  values_sayable E (x ∷ xs) (e ∷ es) h t =
      let front = and_parts _ (pairs_kept E xs es) t in
      let a = agree_is (variable_width E x) (type_of E e) (and_parts (agree (variable_width E x) (type_of E e)) _ front.0).0 in
      (exp_sayable E false e a.0 h.0 a.2, values_sayable E xs es h.1 front.1)

  assign_sayable : (E : Environment) (xs : List ℕ) (es : List Exp) → AllByRecursion (λ (x : ℕ). x < count) xs → AllByRecursion (ExpIsKnown count) es → pairs_kept E xs es ≡ true
      → AreSayable count (assign_symbols xs es)
  assign_sayable E xs es h k t = both (separated (λ x. name_symbol x ∷ []) xs) (symbol.Sign sign.Becomes ∷ separated whole_symbols es)
      (separated_sayable (λ x. name_symbol x ∷ []) (λ (x : ℕ). x < count) (λ x l. (l, tt)) xs h)
      (tt, separated_sayable whole_symbols (λ (e : Exp). AreSayable count (whole_symbols e)) (λ e l. l) es (values_sayable E xs es k t))

  sent_sayable : (E : Environment) (c : ℕ) (e : Exp) → ExpIsKnown count e → output_kept E c e ≡ true → AreSayable count (whole_symbols e)
  sent_sayable E c e h t =
      let a = agree_is (channel_width E c) (type_of E e) (and_parts (allows (E c) dir.Output) _ t).1 in
      exp_sayable E false e a.0 h a.2

  condition_sayable : (E : Environment) (e : Exp) → ExpIsKnown count e → is_condition E e ≡ true → AreSayable count (whole_symbols e)
  condition_sayable E e h t = let a = agree_is (type_of E e) (Some TruthValue) t in exp_sayable E false e a.0 h a.1

  waiting_sayable : (E : Environment) (w : Waiting) → WaitingIsKnown count w → waiting_kept E w ≡ true → AreSayable count (waiting_symbols w)
  waiting_sayable E ready h t = (tt, tt)
  waiting_sayable E (input c x) h t = (h.0, (tt, (h.1, tt)))
  waiting_sayable E (output c e) h t = (h.0, (tt, sent_sayable E c e h.1 t))

  guard_sayable_at : (b : Bool) (e : Exp) (w : Waiting) → AreSayable count (whole_symbols e) → AreSayable count (waiting_symbols w)
      → AreSayable count ((if b then [] else whole_symbols e ++ symbol.Sign sign.Ampersand ∷ []) ++ waiting_symbols w)
  guard_sayable_at true e w h k = k
  guard_sayable_at false e w h k =
      both (whole_symbols e ++ symbol.Sign sign.Ampersand ∷ []) (waiting_symbols w) (both (whole_symbols e) (symbol.Sign sign.Ampersand ∷ []) h (tt, tt)) k

  pub kind_sayable : (k : Kind) → is_width (width_of_kind k) ≡ true → AreSayable count (kind_words k)
  kind_sayable (kind.Var w) h = (h, tt)
  kind_sayable (kind.Chan w mark) h = (tt, (tt, (h, tt)))

  mark_sayable : (k : Kind) → AreSayable count (mark_words k)
  mark_sayable (kind.Var w) = tt
  mark_sayable (kind.Chan w None) = tt
  mark_sayable (kind.Chan w (Some dir.Input)) = (tt, tt)
  mark_sayable (kind.Chan w (Some dir.Output)) = (tt, tt)

  pub named_sayable : (x : ℕ) (k : Kind) → x < count → is_width (width_of_kind k) ≡ true → AreSayable count (named_symbols x k)
  named_sayable x k h t = both (kind_words k) (name_symbol x ∷ mark_words k) (kind_sayable k t) (h, mark_sayable k)

  declaration_sayable : (x : ℕ) (k : Kind) → x < count → is_width (width_of_kind k) ≡ true → AreSayable count (declaration_symbols x k)
  declaration_sayable x k h t = both (kind_words k) (name_symbol x ∷ symbol.Sign sign.Colon ∷ []) (kind_sayable k t) (h, (tt, tt))

  lines_both : (xs ys : List TextLine) → LinesAreSayable count xs → LinesAreSayable count ys → LinesAreSayable count (xs ++ ys)
  lines_both xs ys h k = all-append (λ (l : TextLine). IsBegun l.symbols × AreSayable count l.symbols) xs ys h k

  mutual
    pub part_sayable : (E : Environment) (level : ℕ) (p : Tree) → PartIsKnown count p → types_kept p E ≡ true → LinesAreSayable count (part_lines level p)
    part_sayable E level skip h t = ((tt, (tt, tt)), tt)
    part_sayable E level stop h t = ((tt, (tt, tt)), tt)
    part_sayable E level (assign xs es) h t =
        let parts = and_parts (is_pair xs) (pairs_kept E xs es) t in
        ((assign_begun xs es parts.0, assign_sayable E xs es h.0 h.1 parts.1), tt)
    part_sayable E level (receive c x) h t = ((tt, (h.0, (tt, (h.1, tt)))), tt)
    part_sayable E level (send c e) h t = ((tt, (h.0, (tt, sent_sayable E c e h.1 t))), tt)
    part_sayable E level (seq ps) h t = ((tt, (tt, tt)), all_sayable E (level + 1) ps h t)
    part_sayable E level (par ps) h t = ((tt, (tt, tt)), all_sayable E (level + 1) ps h t)
    part_sayable E level (select cs) h t = ((tt, (tt, tt)), cases_sayable E (level + 1) cs h t)
    part_sayable E level (alt bs) h t = ((tt, (tt, tt)), branches_sayable E (level + 1) bs h t)
    part_sayable E level (declare x w p) h t =
        let parts = and_parts (can_declare E x w) (types_kept p (with_name E x (kind.Var w))) t in
        ((tt, declaration_sayable x (kind.Var w) h.0 (and_parts _ (is_width w) parts.0).1), part_sayable (with_name E x (kind.Var w)) level p h.1 parts.1)
    part_sayable E level (connect c w p) h t =
        let parts = and_parts (can_declare E c w) (types_kept p (with_name E c (kind.Chan w None))) t in
        ((tt, declaration_sayable c (kind.Chan w None) h.0 (and_parts _ (is_width w) parts.0).1), part_sayable (with_name E c (kind.Chan w None)) level p h.1 parts.1)

    all_sayable : (E : Environment) (level : ℕ) (ps : Trees) → PartsAreKnown count ps → all_types_kept ps E ≡ true → LinesAreSayable count (all_lines level ps)
    all_sayable E level no_tree h t = tt
    all_sayable E level (and_tree p ps) h t =
        let parts = and_parts (types_kept p E) (all_types_kept ps E) t in
        lines_both (part_lines level p) (all_lines level ps) (part_sayable E level p h.0 parts.0) (all_sayable E level ps h.1 parts.1)

    cases_sayable : (E : Environment) (level : ℕ) (cs : Cases) → CasesAreKnown count cs → cases_kept cs E ≡ true → LinesAreSayable count (case_lines level cs)
    cases_sayable E level no_case h t = tt
    cases_sayable E level (and_case e p cs) h t =
        let front = and_parts _ (cases_kept cs E) t in
        let first = and_parts (is_condition E e) (types_kept p E) front.0 in (
          (exp_begun false e, condition_sayable E e h.0 first.0),
          lines_both (part_lines (level + 1) p) (case_lines level cs) (part_sayable E (level + 1) p h.1 first.1) (cases_sayable E level cs h.2 front.1),
        )

    branches_sayable : (E : Environment) (level : ℕ) (bs : Branches) → BranchesAreKnown count bs → branches_kept bs E ≡ true → LinesAreSayable count (branch_lines level bs)
    branches_sayable E level no_branch h t = tt
    branches_sayable E level (and_branch e w p bs) h t =
        let front = and_parts _ (branches_kept bs E) t in
        let second = and_parts _ (types_kept p E) front.0 in
        let first = and_parts (is_condition E e) (waiting_kept E w) second.0 in
        let b = is_true e && not (is_ready w) in (
          (guard_begun_at b e w, guard_sayable_at b e w (condition_sayable E e h.0 first.0) (waiting_sayable E w h.1 first.1)),
          lines_both (part_lines (level + 1) p) (branch_lines level bs) (part_sayable E (level + 1) p h.2 second.1) (branches_sayable E level bs h.3 front.1),
        )
