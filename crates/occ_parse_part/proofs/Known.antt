-- The arrays of a part's lines are names of the table.
use Rattle.std.proofs.Common.{◌≡◌, ℕ, ◌<◌, Bool, true, false, cond, nat_lt, List, [], ◌∷◌, ◌++◌, length, Option, Some, None, refl, ap, ◌∙◌}
use Rattle.std.specs.List.{AllByRecursion, list_all, flat_map}
use Rattle.std.proofs.lemmas.Bool.{and_parts, and_from, ltb-true}
use Rattle.occ_syntax.specs.occ_base.declared.names.Name.{Name}
use Rattle.occ_syntax.specs.View.{numbers}
use Rattle.occ_parse_forms.specs.occ_lex.declared.token.Line.{Line}
use Rattle.occ_parse_forms.specs.occ_lex.Placed.{IsLineOf as IsTextLine}
use Rattle.occ_parse_forms.specs.occ_lex.Symbols.{Extends, rows_of, with_names_of_all}
use Rattle.occ_parse.specs.occ_names.Once.{has, same_number, with_one, with_all}
use Rattle.occ_parse_forms.specs.declared.form.Declared.{Declared}
use Rattle.occ_parse_forms.specs.declared.form.Declared.TheVariants as declared
use Rattle.occ_parse_forms.specs.declared.form.Item.{Item}
use Rattle.occ_parse_forms.specs.declared.form.Param.{Param}
use Rattle.occ_parse_forms.specs.declared.phrase.Index.{Index}
use Rattle.occ_parse_forms.specs.Shape.{Said, item, numeral, typed, truth, negation, complement, operation, Waiting, ready, input, output, Shape, header, close, skip, stop, assign, receive, send, group, declare, condition, guard, nothing}
use Rattle.occ_parse_rules.specs.Forest.{Laid}
use Rattle.occ_parse_rules.specs.Names.{items_in, items_in_all, items_of_waiting}
use Rattle.occ_parse_rules.specs.Passing.{place_passes, item_passes, declared_passes, said_passes, waiting_passes, param_passes, shape_passes}
use Rattle.occ_parse.specs.declared.bound.Bound.TheVariants as bound
use Rattle.occ_parse.specs.declared.fault.ParseFault.{ParseFault}
use Rattle.occ_parse.specs.Limits.{stopped}
use Rattle.occ_parse.proofs.Texts.{AreOf, OfNames, rows_are, in_table}
use Rattle.occ_parse.proofs.Knowing.{IsLineOf, line_passes, lines_of_rows, stopped_keeps}
use Rattle.occ_parse_part.specs.Arrays.{array_at, item_array, declared_array, line_arrays, arrays_of}
use Rattle.occ_parse_part.specs.Parts.{AreJudged}

-- ---- names that pass a test

module _ (test : ℕ → Bool) where
  both : (xs ys : List ℕ) → list_all test xs ≡ true → list_all test ys ≡ true → list_all test (xs ++ ys) ≡ true
  both [] ys h k = k
  both (x ∷ xs) ys h k = let parts = and_parts (test x) (list_all test xs) h in and_from (test x) (list_all test (xs ++ ys)) parts.0 (both xs ys parts.1 k)

  flat : {A : Type 0} (f : A → List ℕ) (passes : A → Bool) → ((a : A) → passes a ≡ true → list_all test (f a) ≡ true) → (xs : List A) → list_all passes xs ≡ true → list_all test (flat_map f xs) ≡ true
  flat f passes g [] h = refl
  flat f passes g (x ∷ xs) h = let parts = and_parts (passes x) (list_all passes xs) h in both (f x) (flat_map f xs) (g x parts.0) (flat f passes g xs parts.1)

  array_passes : (x : ℕ) (i : Option Index) → test x ≡ true → list_all test (array_at x i) ≡ true
  array_passes x None h = refl
  array_passes x (Some i) h = and_from (test x) true h refl

  item_pass : (i : Item) → item_passes test i ≡ true → list_all test (item_array i) ≡ true
  item_pass i h = array_passes i.name.0 i.index (and_parts (test i.name.0) (place_passes test i.index) h).0

  abbrev items : List Item → List ℕ
  items is = flat_map item_array is

  items_both : (xs ys : List Item) → list_all test (items xs) ≡ true → list_all test (items ys) ≡ true → list_all test (items (xs ++ ys)) ≡ true
  items_both [] ys h k = k
  items_both (x ∷ xs) ys h k = append_passes (item_array x) (items xs) (items (xs ++ ys)) h (λ m. items_both xs ys m k)
    where
      append_passes : (ms bs cs : List ℕ) → list_all test (ms ++ bs) ≡ true → (list_all test bs ≡ true → list_all test cs ≡ true) → list_all test (ms ++ cs) ≡ true
      append_passes [] bs cs h f = f h
      append_passes (a ∷ ms) bs cs h f = let parts = and_parts (test a) (list_all test (ms ++ bs)) h in and_from (test a) (list_all test (ms ++ cs)) parts.0 (append_passes ms bs cs parts.1 f)

  said_pass : (e : Said) → said_passes test e ≡ true → list_all test (items (items_in e)) ≡ true
  said_pass (item i) h = both (item_array i) [] (item_pass i h) refl
  said_pass (numeral value) h = refl
  said_pass (typed value width) h = refl
  said_pass (truth b) h = refl
  said_pass (negation e) h = said_pass e h
  said_pass (complement e) h = said_pass e h
  said_pass (operation op left right) h =
      let parts = and_parts (said_passes test left) (said_passes test right) h in
      items_both (items_in left) (items_in right) (said_pass left parts.0) (said_pass right parts.1)

  all_said_pass : (es : List Said) → list_all (said_passes test) es ≡ true → list_all test (items (items_in_all es)) ≡ true
  all_said_pass [] h = refl
  all_said_pass (e ∷ es) h =
      let parts = and_parts (said_passes test e) (list_all (said_passes test) es) h in
      items_both (items_in e) (items_in_all es) (said_pass e parts.0) (all_said_pass es parts.1)

  two_pass : (c x : Item) → item_passes test c ≡ true → item_passes test x ≡ true → list_all test (items (c ∷ x ∷ [])) ≡ true
  two_pass c x h k = both (item_array c) (item_array x ++ []) (item_pass c h) (both (item_array x) [] (item_pass x k) refl)

  out_pass : (c : Item) (e : Said) → item_passes test c ≡ true → said_passes test e ≡ true → list_all test (items (c ∷ items_in e)) ≡ true
  out_pass c e h k = both (item_array c) (items (items_in e)) (item_pass c h) (said_pass e k)

  waiting_pass : (w : Waiting) → waiting_passes test w ≡ true → list_all test (items (items_of_waiting w)) ≡ true
  waiting_pass ready h = refl
  waiting_pass (input c x) h = let parts = and_parts (item_passes test c) (item_passes test x) h in two_pass c x parts.0 parts.1
  waiting_pass (output c e) h = let parts = and_parts (item_passes test c) (said_passes test e) h in out_pass c e parts.0 parts.1

  declared_pass : (d : Declared) → declared_passes test d ≡ true → list_all test (declared_array d) ≡ true
  declared_pass (declared.Plain x) h = refl
  declared_pass (declared.Element x k) h = and_from (test x.0) true h refl
  declared_pass (declared.Array x n) h = and_from (test x.0) true h refl

  shape_pass : (s : Shape) → shape_passes test s ≡ true → list_all test (line_arrays s) ≡ true
  shape_pass (header name params) h =
      flat (λ (p : Param). declared_array p.declared) (param_passes test) (λ p k. declared_pass p.declared (and_parts (declared_passes test p.declared) _ k).0) params
      (and_parts (test name.0) (list_all (param_passes test) params) h).1
  shape_pass close h = refl
  shape_pass skip h = refl
  shape_pass stop h = refl
  shape_pass (assign xs es) h =
      let parts = and_parts (list_all (item_passes test) xs) (list_all (said_passes test) es) h in
      items_both xs (items_in_all es) (flat item_array (item_passes test) item_pass xs parts.0) (all_said_pass es parts.1)
  shape_pass (receive c x) h = let parts = and_parts (item_passes test c) (item_passes test x) h in two_pass c x parts.0 parts.1
  shape_pass (send c e) h = let parts = and_parts (item_passes test c) (said_passes test e) h in out_pass c e parts.0 parts.1
  shape_pass (group g times) h = refl
  shape_pass (declare k ds) h = flat declared_array (declared_passes test) declared_pass ds (and_parts _ (list_all (declared_passes test) ds) h).1
  shape_pass (condition e) h = said_pass e h
  shape_pass (guard e w) h =
      let parts = and_parts (said_passes test e) (waiting_passes test w) h in
      items_both (items_in e) (items_of_waiting w) (said_pass e parts.0) (waiting_pass w parts.1)
  shape_pass nothing h = refl

  lines_pass : (lines : List Laid) → AllByRecursion (λ (line : Laid). shape_passes test line.shape ≡ true) lines → list_all test (flat_map (λ (line : Laid). line_arrays line.shape) lines) ≡ true
  lines_pass [] h = refl
  lines_pass (line ∷ lines) h = both (line_arrays line.shape) (flat_map (λ (l : Laid). line_arrays l.shape) lines) (shape_pass line.shape h.0) (lines_pass lines h.1)

  one_passes : (b : Bool) (fs : List ℕ) (x : ℕ) → list_all test fs ≡ true → test x ≡ true → list_all test (cond b fs (fs ++ x ∷ [])) ≡ true
  one_passes true fs x h k = h
  one_passes false fs x h k = both fs (x ∷ []) h (and_from (test x) true k refl)

  once_passes : (fs xs : List ℕ) → list_all test fs ≡ true → list_all test xs ≡ true → list_all test (with_all same_number fs xs) ≡ true
  once_passes fs [] h k = h
  once_passes fs (x ∷ xs) h k =
      let parts = and_parts (test x) (list_all test xs) k in
      once_passes (with_one same_number fs x) xs (one_passes (has same_number fs x) fs x h parts.0) parts.1

  pub arrays_pass : (lines : List Laid) → AllByRecursion (λ (line : Laid). shape_passes test line.shape ≡ true) lines → list_all test (arrays_of lines) ≡ true
  arrays_pass lines h = once_passes [] (flat_map (λ (line : Laid). line_arrays line.shape) lines) refl (lines_pass lines h)

-- ---- the lines of a part

each_line : {P Q : Laid → Type 0} → ((l : Laid) → P l → Q l) → (lines : List Laid) → AllByRecursion P lines → AllByRecursion Q lines
each_line f [] h = tt
each_line f (l ∷ lines) h = (f l h.0, each_line f lines h.1)

pub lines_are_of : (text : List ℕ) (old t : List (List ℕ)) (lines : List Line) (laid : List Laid) (halt : Option ParseFault) → AllByRecursion (IsTextLine text) lines
    → Extends (with_names_of_all text old lines) t → AreJudged text old lines laid halt → AllByRecursion (λ (line : Laid). IsLineOf t line.shape) laid
lines_are_of text old t lines laid halt h e j =
    let rows = rows_of text old lines in
    lines_of_rows t (stopped bound.Script rows None).0 laid (stopped_keeps (λ row. AreOf t row.symbols) bound.Script rows None (rows_are text old t lines h e)) j.forms

pub lines_pass_test : (t : List (List ℕ)) (test : ℕ → Bool) → OfNames t test → (laid : List Laid) → AllByRecursion (λ (line : Laid). IsLineOf t line.shape) laid
    → AllByRecursion (λ (line : Laid). shape_passes test line.shape ≡ true) laid
lines_pass_test t test f laid h = each_line (λ l k. line_passes t test f l.shape k) laid h

pub names_pass : (test : ℕ → Bool) (arrays : List Name) → list_all test (numbers arrays) ≡ true → AllByRecursion (λ (x : Name). test x.0 ≡ true) arrays
names_pass test [] h = tt
names_pass test (x ∷ arrays) h = let parts = and_parts (test x.0) (list_all test (numbers arrays)) h in (parts.0, names_pass test arrays parts.1)

names_below : (n : ℕ) (arrays : List Name) → list_all (λ x. nat_lt x n) (numbers arrays) ≡ true → AllByRecursion (λ (x : Name). x.0 < n) arrays
names_below n [] h = tt
names_below n (x ∷ arrays) h =
    let parts = and_parts (nat_lt x.0 n) (list_all (λ x. nat_lt x n) (numbers arrays)) h in (ltb-true _ _ parts.0, names_below n arrays parts.1)

pub arrays_known : (text : List ℕ) (old t : List (List ℕ)) (lines : List Line) (laid : List Laid) (halt : Option ParseFault) (arrays : List Name) → AllByRecursion (IsTextLine text) lines
    → Extends (with_names_of_all text old lines) t → AreJudged text old lines laid halt → numbers arrays ≡ arrays_of laid → AllByRecursion (λ (x : Name). x.0 < length t) arrays
arrays_known text old t lines laid halt arrays h e j n =
    let test : ℕ → Bool = λ x. nat_lt x (length t) in
    names_below (length t) arrays (ap (list_all test) n ∙ arrays_pass test laid (lines_pass_test t test (in_table t) laid (lines_are_of text old t lines laid halt h e j)))
