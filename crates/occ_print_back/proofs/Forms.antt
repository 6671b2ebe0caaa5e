-- Each line of a printed part has the form of what it says.
use Rattle.std.proofs.Common.{◌≡◌, ℕ, suc, ◌<◌, ◌+◌, Bool, true, false, not, ◌&&◌, eqb, nat_eq, List, [], ◌∷◌, ◌++◌, length, map, Option, None, Some, refl, ap, sym, ◌∙◌, subst, arith, append_assoc}
use Rattle.std.specs.Prelude.{if◌then◌else◌, is_some}
use Rattle.std.specs.List.{AllByRecursion, IsDistinct, list_any}
use Rattle.std.proofs.lemmas.Bool.{and_parts, or_parts, not-true, eqb-true, eq-eqb, false_from_ne_true}
use Rattle.std.proofs.lemmas.List.{append-nil, length-append, length-map}
use Rattle.occ_print.specs.occ_syntax.declared.scope.Kind.{Kind}
use Rattle.occ_print.specs.occ_syntax.declared.scope.Kind.TheVariants as kind
use Rattle.occ_print.specs.occ_syntax.Scopes.{Environment, with_name, variable_width}
use Rattle.occ_print.specs.occ_syntax.Tree.{Exp, Waiting, ready, input, output, Tree, skip, stop, assign, receive, send, seq, par, select, alt, declare, connect, Trees, no_tree, and_tree, Cases, no_case, and_case, Branches, no_branch, and_branch}
use Rattle.occ_print.specs.occ_syntax.Types.{type_of, agree, pairs_kept, is_pair, is_condition, can_declare, types_kept, all_types_kept, cases_kept, branches_kept}
use Rattle.occ_print.specs.occ_lex.declared.symbol.Keyword.TheVariants as word
use Rattle.occ_print.specs.occ_lex.declared.symbol.Sign.TheVariants as sign
use Rattle.occ_print.specs.occ_lex.declared.symbol.Symbol.{Symbol}
use Rattle.occ_print.specs.occ_lex.declared.symbol.Symbol.TheVariants as symbol
use Rattle.occ_print.specs.occ_parse_forms.declared.form.Group.TheVariants as group
use Rattle.occ_print.specs.occ_parse_forms.declared.form.Item.{Item}
use Rattle.occ_print.specs.occ_parse_forms.Lines.{list_words, IsUnmarked, kind_words, plain_names, IsInput, IsOutput, IsWaiting, IsGuard, IsDeclaration, IsForm}
use Rattle.occ_print.specs.occ_parse_forms.Shape as line
use Rattle.occ_print.specs.occ_parse_forms.Written.{item_words, words, meant}
use Rattle.occ_parse.specs.occ_parse_rules.Forest.{Laid, Forest, no_line, and_line, lines_at}
use Rattle.occ_parse.specs.occ_parse_rules.Places.{Place}
use Rattle.occ_parse.specs.occ_parse_rules.Unrolled.{Numbers}
use Rattle.occ_print.specs.Symbols.{word_symbol, name_symbol, separated, whole_symbols, assign_symbols, receive_symbols, send_symbols, waiting_symbols, is_true, is_ready, guard_symbols, declaration_symbols}
use Rattle.occ_print.specs.Lines.{TextLine, part_lines, all_lines, case_lines, branch_lines}
use Rattle.occ_print.specs.Known.{PartIsKnown, PartsAreKnown, CasesAreKnown, BranchesAreKnown}
use Rattle.occ_print_back.specs.Said.{item_of, declared_at, whole_said, assign_shape, bare_guard, waited_for, guard_shape, declaration_shape}
use Rattle.occ_print_back.specs.Forest.{height, height_of_all, height_of_cases, height_of_branches, part_forest, parts_forest, cases_forest, branches_forest}
use Rattle.occ_print_back.specs.Scoped.{IsNumbered}
use Rattle.occ_print_back.specs.Read.{symbols_read}
use Rattle.occ_print_back.specs.Formed.{AreFormed}
use Rattle.occ_print_back.proofs.Phrases.{written, read-append, exp_read, meant_is, is_written, separated_read}
use Rattle.occ_print_back.proofs.Standing.{not_ready}

-- ---- variables of an assignment stand once

module _ (count : ℕ) (P : ℕ → Place) (N : Numbers) (numbered : IsNumbered count P N) where
  abbrev items : List ℕ → List Item
  items xs = map (λ x. item_of (P x)) xs

  one_place : (x y : ℕ) → x < count → y < count → (P x).name ≡ (P y).name → (P x).element ≡ (P y).element → x ≡ y
  one_place x y h k n e = sym (numbered x h) ∙ ap (λ m. N m (P x).element) n ∙ ap (λ j. N (P y).name j) e ∙ numbered y k

  abbrev Differing : ℕ → List ℕ → Type 0
  Differing x xs = AllByRecursion (λ (name : ℕ). nat_eq (P x).name name ≡ false) (plain_names (items xs))

  -- the names of one item more, by whether it has an index
  named_more : (x : ℕ) (xs : List ℕ) (k : Option ℕ) → (P x).element ≡ k
      → plain_names (items (x ∷ xs)) ≡ (if is_some (item_of (record { name = (P x).name; element = k })).index then plain_names (items xs) else (P x).name ∷ plain_names (items xs))
  named_more x xs k f = ap (λ j. if is_some (item_of (record { name = (P x).name; element = j })).index then plain_names (items xs) else (P x).name ∷ plain_names (items xs)) f

  differ_at : (x : ℕ) → x < count → (P x).element ≡ None → (y : ℕ) (ys : List ℕ) → y < count → eqb x y ≡ false → Differing x ys
      → (k : Option ℕ) → (P y).element ≡ k → Differing x (y ∷ ys)
  differ_at x h e y ys i l r None f =
      let other : nat_eq (P x).name (P y).name ≡ false = false_from_ne_true _ (λ d.
      let g : x ≡ y = one_place x y h i (eqb-true _ _ d) (e ∙ sym f) in
      let t : eqb x y ≡ true = eq-eqb x y g in
      absurd (cc)) in
      subst (λ (names : List ℕ). AllByRecursion (λ (name : ℕ). nat_eq (P x).name name ≡ false) names) (sym (named_more y ys None f)) (other, r)
  differ_at x h e y ys i l r (Some j) f =
      subst (λ (names : List ℕ). AllByRecursion (λ (name : ℕ). nat_eq (P x).name name ≡ false) names) (sym (named_more y ys (Some j) f)) r

  differ : (x : ℕ) → x < count → (P x).element ≡ None → (xs : List ℕ) → AllByRecursion (λ (y : ℕ). y < count) xs → list_any (λ y. eqb x y) xs ≡ false → Differing x xs
  differ x h e [] k l = tt
  differ x h e (y ∷ ys) k l =
      let parts = or_parts (eqb x y) (list_any (λ z. eqb x z) ys) l in
      differ_at x h e y ys k.0 parts.0 (differ x h e ys k.1 parts.1) (P y).element refl

  distinct_at : (x : ℕ) (xs : List ℕ) → AllByRecursion (λ (y : ℕ). y < count) (x ∷ xs) → list_any (λ y. eqb x y) xs ≡ false → IsDistinct nat_eq (plain_names (items xs))
      → (k : Option ℕ) → (P x).element ≡ k → IsDistinct nat_eq (plain_names (items (x ∷ xs)))
  unfolding IsDistinct
  distinct_at x xs h l r None f = subst (IsDistinct nat_eq) (sym (named_more x xs None f)) (differ x h.0 f xs h.1 l, r)
  distinct_at x xs h l r (Some j) f = subst (IsDistinct nat_eq) (sym (named_more x xs (Some j) f)) r

  distinct : (E : Environment) (xs : List ℕ) (es : List Exp) → AllByRecursion (λ (x : ℕ). x < count) xs → pairs_kept E xs es ≡ true → IsDistinct nat_eq (plain_names (items xs))
  unfolding IsDistinct
  distinct E [] es h t = tt
  distinct E (x ∷ xs) [] h t = absurd (cc)
  distinct E (x ∷ xs) (e ∷ es) h t =
      let front = and_parts _ (pairs_kept E xs es) t in
      let one = and_parts (agree (variable_width E x) (type_of E e)) _ front.0 in
      distinct_at x xs h (not-true _ one.1) (distinct E xs es h.1 front.1) (P x).element refl

  as_many : (E : Environment) (xs : List ℕ) (es : List Exp) → pairs_kept E xs es ≡ true → length xs ≡ length es
  as_many E [] [] t = refl
  as_many E [] (e ∷ es) t = absurd (cc)
  as_many E (x ∷ xs) [] t = absurd (cc)
  as_many E (x ∷ xs) (e ∷ es) t = ap suc (as_many E xs es (and_parts _ (pairs_kept E xs es) t).1)

  some_pair : (xs : List ℕ) → is_pair xs ≡ true → 0 < length xs
  some_pair [] t = absurd (cc)
  some_pair (x ∷ xs) t = omega arith

  all_meant : (es : List Exp) → map (whole_said P) es ≡ map meant (map (written P false) es)
  all_meant [] = refl
  all_meant (e ∷ es) = ap (λ d. d ∷ map (whole_said P) es) (sym (meant_is P false e)) ∙ ap (λ ds. meant (written P false e) ∷ ds) (all_meant es)

  pub assign_form : (E : Environment) (xs : List ℕ) (es : List Exp) → AllByRecursion (λ (x : ℕ). x < count) xs → is_pair xs ≡ true → pairs_kept E xs es ≡ true
      → IsForm (symbols_read P (assign_symbols xs es)) (assign_shape P xs es)
  assign_form E xs es h s t =
      let n : length (items xs) ≡ length (map (whole_said P) es) = length-map xs (λ x. item_of (P x)) ∙ as_many E xs es t ∙ sym (length-map es (whole_said P)) in
      let m : 0 < length (items xs) = omega (arith, some_pair xs s, length-map xs (λ x. item_of (P x))) in
      let left = separated (λ x. name_symbol x ∷ []) xs in
      let right = separated whole_symbols es in
      let e : symbols_read P (assign_symbols xs es) ≡ list_words item_words (items xs) ++ symbol.Sign sign.Becomes ∷ list_words words (map (written P false) es)
      = read-append P left (symbol.Sign sign.Becomes ∷ right)
      ∙ ap (λ t. t ++ symbol.Sign sign.Becomes ∷ symbols_read P right) (separated_read P (λ x. name_symbol x ∷ []) item_words (λ x. item_of (P x)) (λ x. append-nil (item_words (item_of (P x)))) xs)
      ∙ ap (λ t. list_words item_words (items xs) ++ symbol.Sign sign.Becomes ∷ t) (separated_read P whole_symbols words (written P false) (λ d. exp_read P false d) es) in
      (map (written P false) es, all_meant es, n, m, distinct E xs es h t, e)

-- ---- inputs, outputs and guards

pub input_form : (P : ℕ → Place) (c x : ℕ) → IsInput (symbols_read P (receive_symbols c x)) (item_of (P c)) (item_of (P x))
input_form P c x = ap (λ t. item_words (item_of (P c)) ++ symbol.Sign sign.Query ∷ t) (append-nil (item_words (item_of (P x))))

pub output_form : (P : ℕ → Place) (c : ℕ) (e : Exp) → IsOutput (symbols_read P (send_symbols c e)) (item_of (P c)) (whole_said P e)
output_form P c e = (written P false e, ap (λ t. item_words (item_of (P c)) ++ symbol.Sign sign.Bang ∷ t) (exp_read P false e), sym (meant_is P false e))

waiting_form : (P : ℕ → Place) (w : Waiting) → IsWaiting (symbols_read P (waiting_symbols w)) (waited_for P w)
waiting_form P ready = refl
waiting_form P (input c x) = input_form P c x
waiting_form P (output c e) = output_form P c e

bare_form : (P : ℕ → Place) (e : Exp) (w : Waiting) → (is_true e && not (is_ready w)) ≡ true → IsForm (symbols_read P (waiting_symbols w)) (bare_guard P w)
bare_form P e ready h = absurd (not_ready e h)
bare_form P e (input c x) h = input_form P c x
bare_form P e (output c v) h = output_form P c v

guard_whole : (P : ℕ → Place) (e : Exp) (w : Waiting)
    → IsGuard (symbols_read P ((whole_symbols e ++ symbol.Sign sign.Ampersand ∷ []) ++ waiting_symbols w)) (whole_said P e) (waited_for P w)
guard_whole P e w = (
  symbols_read P (whole_symbols e),
  symbols_read P (waiting_symbols w),
  read-append P (whole_symbols e ++ symbol.Sign sign.Ampersand ∷ []) (waiting_symbols w)
      ∙ ap (λ t. t ++ symbols_read P (waiting_symbols w)) (read-append P (whole_symbols e) (symbol.Sign sign.Ampersand ∷ []))
      ∙ append_assoc (symbols_read P (whole_symbols e)) (symbol.Sign sign.Ampersand ∷ []) (symbols_read P (waiting_symbols w)),
  is_written P e,
  waiting_form P w,
)

guard_at : (P : ℕ → Place) (e : Exp) (w : Waiting) (b : Bool) → (is_true e && not (is_ready w)) ≡ b
    → IsForm (symbols_read P ((if b then [] else whole_symbols e ++ symbol.Sign sign.Ampersand ∷ []) ++ waiting_symbols w))
    (if b then bare_guard P w else line.guard (whole_said P e) (waited_for P w))
guard_at P e w true h = bare_form P e w h
guard_at P e w false h = guard_whole P e w

pub guard_form : (P : ℕ → Place) (e : Exp) (w : Waiting) → IsForm (symbols_read P (guard_symbols e w)) (guard_shape P e w)
guard_form P e w = guard_at P e w (is_true e && not (is_ready w)) refl

-- ---- declarations

declared_form : (y : ℕ) (j : Option ℕ) (w : Symbol) (k : Kind) → kind_words k ≡ w ∷ [] → IsUnmarked k
    → IsDeclaration (w ∷ (item_words (item_of (record { name = y; element = j })) ++ symbol.Sign sign.Colon ∷ [])) k (declared_at y j ∷ [])
declared_form y None w k e u = (u, tt, tt, ap (λ t. t ++ symbol.Name (record { 0 = y }) ∷ symbol.Sign sign.Colon ∷ []) (sym e))
declared_form y (Some j) w k e u =
    (u, tt, tt, ap (λ t. t ++ symbol.Name (record { 0 = y }) ∷ symbol.Sign sign.OpenIndex ∷ symbol.Numeral j ∷ symbol.Sign sign.CloseIndex ∷ symbol.Sign sign.Colon ∷ []) (sym e))

connected_form : (y : ℕ) (j : Option ℕ) (a b w : Symbol) (k : Kind) → kind_words k ≡ a ∷ b ∷ w ∷ [] → IsUnmarked k
    → IsDeclaration (a ∷ b ∷ w ∷ (item_words (item_of (record { name = y; element = j })) ++ symbol.Sign sign.Colon ∷ [])) k (declared_at y j ∷ [])
connected_form y None a b w k e u = (u, tt, tt, ap (λ t. t ++ symbol.Name (record { 0 = y }) ∷ symbol.Sign sign.Colon ∷ []) (sym e))
connected_form y (Some j) a b w k e u =
    (u, tt, tt, ap (λ t. t ++ symbol.Name (record { 0 = y }) ∷ symbol.Sign sign.OpenIndex ∷ symbol.Numeral j ∷ symbol.Sign sign.CloseIndex ∷ symbol.Sign sign.Colon ∷ []) (sym e))

pub variable_form : (P : ℕ → Place) (x : ℕ) (w : _) → IsForm (symbols_read P (declaration_symbols x (kind.Var w))) (declaration_shape P x (kind.Var w))
variable_form P x w = declared_form (P x).name (P x).element _ (kind.Var w) refl tt

pub channel_form : (P : ℕ → Place) (x : ℕ) (w : _) → IsForm (symbols_read P (declaration_symbols x (kind.Chan w None))) (declaration_shape P x (kind.Chan w None))
channel_form P x w = connected_form (P x).name (P x).element _ _ _ (kind.Chan w None) refl tt

-- ---- lines

mutual
  pub part_height : (level : ℕ) (p : Tree) → length (part_lines level p) ≡ height p
  part_height level skip = refl
  part_height level stop = refl
  part_height level (assign xs es) = refl
  part_height level (receive c x) = refl
  part_height level (send c e) = refl
  part_height level (seq ps) = omega (arith, all_height (level + 1) ps)
  part_height level (par ps) = omega (arith, all_height (level + 1) ps)
  part_height level (select cs) = omega (arith, cases_height (level + 1) cs)
  part_height level (alt bs) = omega (arith, branches_height (level + 1) bs)
  part_height level (declare x w p) = omega (arith, part_height level p)
  part_height level (connect c w p) = omega (arith, part_height level p)

  pub all_height : (level : ℕ) (ps : Trees) → length (all_lines level ps) ≡ height_of_all ps
  all_height level no_tree = refl
  all_height level (and_tree p ps) = omega (arith, length-append (part_lines level p) (all_lines level ps), part_height level p, all_height level ps)

  pub cases_height : (level : ℕ) (cs : Cases) → length (case_lines level cs) ≡ height_of_cases cs
  cases_height level no_case = refl
  cases_height level (and_case e p cs) = omega (arith, length-append (part_lines (level + 1) p) (case_lines level cs), part_height (level + 1) p, cases_height level cs)

  pub branches_height : (level : ℕ) (bs : Branches) → length (branch_lines level bs) ≡ height_of_branches bs
  branches_height level no_branch = refl
  branches_height level (and_branch e w p bs) = omega (arith, length-append (part_lines (level + 1) p) (branch_lines level bs), part_height (level + 1) p, branches_height level bs)

pub moved : (P : ℕ → Place) (m n : ℕ) (ts : List TextLine) (ls : List Laid) → m ≡ n → AreFormed P m ts ls → AreFormed P n ts ls
moved P m n ts ls e h = subst (λ (k : ℕ). AreFormed P k ts ls) e h

unpadded : (P : ℕ → Place) (n : ℕ) (ts : List TextLine) (ls : List Laid) → AreFormed P n (ts ++ []) ls → AreFormed P n ts ls
unpadded P n ts ls h = subst (λ (us : List TextLine). AreFormed P n us ls) (append-nil ts) h

pub formed-append : (P : ℕ → Place) (n m : ℕ) (xs ys : List TextLine) (ls ms : List Laid) → m ≡ n + length xs → AreFormed P n xs ls → AreFormed P m ys ms → AreFormed P n (xs ++ ys) (ls ++ ms)
formed-append P n m [] ys [] ms e h k = moved P m n ys ms (omega (arith, e)) k
formed-append P n m [] ys (l ∷ ls) ms e h k = absurd h
formed-append P n m (x ∷ xs) ys [] ms e h k = absurd h
formed-append P n m (x ∷ xs) ys (l ∷ ls) ms e h k = (h.0, h.1, h.2, formed-append P (n + 1) m xs ys ls ms (omega (arith, e)) h.3 k)

module _ (count : ℕ) (P : ℕ → Place) (N : Numbers) (numbered : IsNumbered count P N) where
  -- a line with lines below it, in front of others
  nested : (n m level : ℕ) (t : List Symbol) (s : line.Shape) (below rest : Forest) (ts others : List TextLine) → IsForm (symbols_read P t) s → m ≡ n + 1 + length ts
      → AreFormed P (n + 1) ts (lines_at (level + 1) below) → AreFormed P m others (lines_at level rest)
      → AreFormed P n (record { level = level; symbols = t } ∷ (ts ++ others)) (lines_at level (and_line n s below rest))
  nested n m level t s below rest ts others f e h k =
      (refl, refl, f, formed-append P (n + 1) m ts others (lines_at (level + 1) below) (lines_at level rest) e h k)

  mutual
    pub part_formed : (E : Environment) (level n : ℕ) (p : Tree) (rest : Forest) (others : List TextLine) → PartIsKnown count p → types_kept p E ≡ true
        → AreFormed P (n + height p) others (lines_at level rest) → AreFormed P n (part_lines level p ++ others) (lines_at level (part_forest P n p rest))
    part_formed E level n skip rest others h t k = (refl, refl, refl, k)
    part_formed E level n stop rest others h t k = (refl, refl, refl, k)
    part_formed E level n (assign xs es) rest others h t k =
        let parts = and_parts (is_pair xs) (pairs_kept E xs es) t in
        (refl, refl, assign_form count P N numbered E xs es h.0 parts.0 parts.1, k)
    part_formed E level n (receive c x) rest others h t k = (refl, refl, input_form P c x, k)
    part_formed E level n (send c e) rest others h t k = (refl, refl, output_form P c e, k)
    part_formed E level n (seq ps) rest others h t k =
        nested n (n + height (seq ps)) level (word_symbol word.Seq) (line.group group.Seq None) (parts_forest P (n + 1) ps) rest (all_lines (level + 1) ps) others refl (omega (arith, all_height (level + 1) ps))
        (all_formed E (level + 1) (n + 1) ps h t) k
    part_formed E level n (par ps) rest others h t k =
        nested n (n + height (par ps)) level (word_symbol word.Par) (line.group group.Par None) (parts_forest P (n + 1) ps) rest (all_lines (level + 1) ps) others refl (omega (arith, all_height (level + 1) ps))
        (all_formed E (level + 1) (n + 1) ps h t) k
    part_formed E level n (select cs) rest others h t k =
        nested n (n + height (select cs)) level (word_symbol word.If) (line.group group.If None) (cases_forest P (n + 1) cs) rest (case_lines (level + 1) cs) others refl (omega (arith, cases_height (level + 1) cs))
        (cases_formed E (level + 1) (n + 1) cs h t) k
    part_formed E level n (alt bs) rest others h t k =
        nested n (n + height (alt bs)) level (word_symbol word.Alt) (line.group group.Alt None) (branches_forest P (n + 1) bs) rest (branch_lines (level + 1) bs) others refl (omega (arith, branches_height (level + 1) bs))
        (branches_formed E (level + 1) (n + 1) bs h t) k
    part_formed E level n (declare x w p) rest others h t k = (
      refl,
      refl,
      variable_form P x w,
      part_formed (with_name E x (kind.Var w)) level (n + 1) p rest others h.1 (and_parts (can_declare E x w) _ t).1
          (moved P (n + height (declare x w p)) (n + 1 + height p) others (lines_at level rest) (omega arith) k),
    )
    part_formed E level n (connect c w p) rest others h t k = (
      refl,
      refl,
      channel_form P c w,
      part_formed (with_name E c (kind.Chan w None)) level (n + 1) p rest others h.1 (and_parts (can_declare E c w) _ t).1
          (moved P (n + height (connect c w p)) (n + 1 + height p) others (lines_at level rest) (omega arith) k),
    )

    pub all_formed : (E : Environment) (level n : ℕ) (ps : Trees) → PartsAreKnown count ps → all_types_kept ps E ≡ true
        → AreFormed P n (all_lines level ps) (lines_at level (parts_forest P n ps))
    all_formed E level n no_tree h t = tt
    all_formed E level n (and_tree p ps) h t =
        let parts = and_parts (types_kept p E) (all_types_kept ps E) t in
        part_formed E level n p (parts_forest P (n + height p) ps) (all_lines level ps) h.0 parts.0 (all_formed E level (n + height p) ps h.1 parts.1)

    pub cases_formed : (E : Environment) (level n : ℕ) (cs : Cases) → CasesAreKnown count cs → cases_kept cs E ≡ true
        → AreFormed P n (case_lines level cs) (lines_at level (cases_forest P n cs))
    cases_formed E level n no_case h t = tt
    cases_formed E level n (and_case e p cs) h t =
        let front = and_parts _ (cases_kept cs E) t in
        let first = and_parts (is_condition E e) (types_kept p E) front.0 in
        nested n (n + 1 + height p) level (whole_symbols e) (line.condition (whole_said P e)) (part_forest P (n + 1) p no_line) (cases_forest P (n + 1 + height p) cs) (part_lines (level + 1) p) (case_lines level cs) (is_written P e)
        (omega (arith, part_height (level + 1) p)) (unpadded P (n + 1) (part_lines (level + 1) p) _ (part_formed E (level + 1) (n + 1) p no_line [] h.1 first.1 tt)) (cases_formed E level (n + 1 + height p) cs h.2 front.1)

    pub branches_formed : (E : Environment) (level n : ℕ) (bs : Branches) → BranchesAreKnown count bs → branches_kept bs E ≡ true
        → AreFormed P n (branch_lines level bs) (lines_at level (branches_forest P n bs))
    branches_formed E level n no_branch h t = tt
    branches_formed E level n (and_branch e w p bs) h t =
        let front = and_parts _ (branches_kept bs E) t in
        let second = and_parts _ (types_kept p E) front.0 in
        nested n (n + 1 + height p) level (guard_symbols e w) (guard_shape P e w) (part_forest P (n + 1) p no_line) (branches_forest P (n + 1 + height p) bs) (part_lines (level + 1) p) (branch_lines level bs) (guard_form P e w)
        (omega (arith, part_height (level + 1) p)) (unpadded P (n + 1) (part_lines (level + 1) p) _ (part_formed E (level + 1) (n + 1) p no_line [] h.2 second.1 tt)) (branches_formed E level (n + 1 + height p) bs h.3 front.1)

  -- the lines of a part by itself
  pub alone : (E : Environment) (level n : ℕ) (p : Tree) → PartIsKnown count p → types_kept p E ≡ true → AreFormed P n (part_lines level p) (lines_at level (part_forest P n p no_line))
  alone E level n p h t = unpadded P n (part_lines level p) (lines_at level (part_forest P n p no_line)) (part_formed E level n p no_line [] h t tt)
