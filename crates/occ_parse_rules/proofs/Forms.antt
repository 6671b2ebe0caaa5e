-- What a line's form says stands in its symbols, and is sound.
use Rattle.std.proofs.Common.{◌≡◌, refl, ap, sym, ◌∙◌, subst, Bool, true, false, not, ◌&&◌, ◌==◌, ◌<◌, nat_eq, if◌then◌else◌, arith, length, map, Option, Some, None, is_none, is_some, List, [], ◌∷◌, ◌++◌, inl, inr, ℕ}
use Rattle.std.specs.List.{list_any, list_all, AllByRecursion, IsDistinct}
use Rattle.std.proofs.lemmas.Bool.{and_parts, and_from, and_left, and_right, or_from, cases_Bool}
use Rattle.std.proofs.lemmas.List.Folds.{list_all-append}
use Rattle.occ_meaning.proofs.Facts.{none_not_some, false_not_true, some_is}
use Rattle.occ_meaning.specs.occ_syntax.declared.expr.Op.{Op}
use Rattle.occ_meaning.specs.occ_syntax.declared.expr.Op.TheVariants as op
use Rattle.occ_meaning.specs.occ_syntax.declared.scope.Kind.{Kind}
use Rattle.occ_meaning.specs.occ_syntax.declared.scope.Kind.TheVariants as kind
use Rattle.occ_meaning.specs.occ_syntax.Types.{is_width, width_of_kind}
use Rattle.occ_parse_forms.specs.occ_lex.declared.symbol.Symbol.{Symbol}
use Rattle.occ_parse_forms.specs.occ_lex.declared.symbol.Symbol.TheVariants as symbol
use Rattle.occ_parse_forms.specs.occ_lex.declared.symbol.Sign.TheVariants as sign
use Rattle.occ_parse_forms.specs.occ_lex.declared.symbol.Keyword.TheVariants as word
use Rattle.occ_parse_forms.specs.declared.form.Declared.{Declared}
use Rattle.occ_parse_forms.specs.declared.form.Declared.TheVariants as declared
use Rattle.occ_parse_forms.specs.declared.form.Group.TheVariants as construct
use Rattle.occ_parse_forms.specs.declared.form.Item.{Item}
use Rattle.occ_parse_forms.specs.declared.form.Param.{Param}
use Rattle.occ_parse_forms.specs.declared.form.Times.{Times}
use Rattle.occ_parse_forms.specs.declared.phrase.Index.{Index}
use Rattle.occ_parse_forms.specs.declared.phrase.Index.TheVariants as index
use Rattle.occ_parse_forms.specs.Shape.{Said, Waiting, ready, input, output, Shape, header, close, skip, stop, assign, receive, send, group, declare, condition, guard, nothing}
use Rattle.occ_parse_forms.specs.Shape as said
use Rattle.occ_parse_forms.specs.Written.{Operand, named, number, number_of, constant, bracketed, Chain, pair, longer, Written, only, negated, complemented, between, all, any, op_word, index_words, place_words, item_words, operand_words, chain_words, words, operand_meant, chain_meant, meant}
use Rattle.occ_parse_forms.specs.Lines.{joined, list_words, count_words, kind_words, front_words, declared_words, mark_words, IsUnmarked, tail_words, param_front, IsParam, AreParams, IsDeclaration, plain_names, IsWritten, IsInput, IsOutput, IsWaiting, times_words, IsForm}
use Rattle.occ_parse_rules.specs.Sound.{has_widths, waiting_has_widths, is_unmarked, has_width, is_same_name, are_distinct, are_pairs, is_sound}
use Rattle.occ_parse_rules.specs.Passing.{symbol_passes, index_passes, place_passes, item_passes, declared_passes, said_passes, waiting_passes, param_passes, times_passes, shape_passes}

abbrev pub Passes : (ℕ → Bool) → List Symbol → Type 0
Passes test symbols = list_all (symbol_passes test) symbols ≡ true

in_two : (test : ℕ → Bool) (a b : List Symbol) → Passes test (a ++ b) → Passes test a × Passes test b
in_two test a b h = and_parts (list_all (symbol_passes test) a) (list_all (symbol_passes test) b) (sym (list_all-append (symbol_passes test) a b) ∙ h)

in_front : (test : ℕ → Bool) (s : Symbol) (b : List Symbol) → Passes test (s ∷ b) → (symbol_passes test s ≡ true) × Passes test b
in_front test s b h = and_parts (symbol_passes test s) (list_all (symbol_passes test) b) h

-- ---- items and expressions

index_in : (test : ℕ → Bool) (i : Index) (rest : List Symbol) → Passes test (index_words i ++ rest) → index_passes test i ≡ true
index_in test (index.Number k) rest h = refl
index_in test (index.Name i) rest h = (in_front test (symbol.Name i) rest h).0
index_in test (index.Plus i k) rest h = (in_front test (symbol.Name i) (symbol.Keyword word.Plus ∷ symbol.Numeral k ∷ rest) h).0
index_in test (index.Minus i k) rest h = (in_front test (symbol.Name i) (symbol.Keyword word.Minus ∷ symbol.Numeral k ∷ rest) h).0

place_in : (test : ℕ → Bool) (i : Option Index) → Passes test (place_words i) → place_passes test i ≡ true
place_in test None h = refl
place_in test (Some i) h = index_in test i (symbol.Sign sign.CloseIndex ∷ []) (in_front test (symbol.Sign sign.OpenIndex) (index_words i ++ symbol.Sign sign.CloseIndex ∷ []) h).1

item_in : (test : ℕ → Bool) (i : Item) → Passes test (item_words i) → item_passes test i ≡ true
item_in test i h = let parts = in_front test (symbol.Name i.name) (place_words i.index) h in and_from (test i.name.0) (place_passes test i.index) parts.0 (place_in test i.index parts.1)

mutual
  operand_in : (test : ℕ → Bool) (a : Operand) → Passes test (operand_words a) → said_passes test (operand_meant a) ≡ true
  operand_in test (named i) h = item_in test i h
  operand_in test (number value) h = refl
  operand_in test (number_of value width) h =
      (in_front test (symbol.Keyword (word.Width width)) (symbol.Sign sign.Close ∷ [])
      (in_front test (symbol.Sign sign.Open) (symbol.Keyword (word.Width width) ∷ symbol.Sign sign.Close ∷ [])
      (in_front test (symbol.Numeral value) (symbol.Sign sign.Open ∷ symbol.Keyword (word.Width width) ∷ symbol.Sign sign.Close ∷ []) h).1).1).0
  operand_in test (constant b) h = refl
  operand_in test (bracketed w) h = written_in test w (in_two test (words w) (symbol.Sign sign.Close ∷ []) (in_front test (symbol.Sign sign.Open) (words w ++ symbol.Sign sign.Close ∷ []) h).1).0

  chain_in : (test : ℕ → Bool) (o : Op) (c : Chain) → Passes test (chain_words o c) → said_passes test (chain_meant o c) ≡ true
  chain_in test o (pair a b) h =
      let parts = in_two test (operand_words a) (op_word o ∷ operand_words b) h in
      and_from (said_passes test (operand_meant a)) (said_passes test (operand_meant b)) (operand_in test a parts.0) (operand_in test b (in_front test (op_word o) (operand_words b) parts.1).1)
  chain_in test o (longer c b) h =
      let parts = in_two test (chain_words o c) (op_word o ∷ operand_words b) h in
      and_from (said_passes test (chain_meant o c)) (said_passes test (operand_meant b)) (chain_in test o c parts.0) (operand_in test b (in_front test (op_word o) (operand_words b) parts.1).1)

  written_in : (test : ℕ → Bool) (w : Written) → Passes test (words w) → said_passes test (meant w) ≡ true
  written_in test (only a) h = operand_in test a h
  written_in test (negated a) h = operand_in test a (in_front test (symbol.Keyword word.Not) (operand_words a) h).1
  written_in test (complemented a) h = operand_in test a (in_front test (symbol.Sign sign.Flip) (operand_words a) h).1
  written_in test (between o a b) h =
      let parts = in_two test (operand_words a) (op_word o ∷ operand_words b) h in
      and_from (said_passes test (operand_meant a)) (said_passes test (operand_meant b)) (operand_in test a parts.0) (operand_in test b (in_front test (op_word o) (operand_words b) parts.1).1)
  written_in test (all c) h = chain_in test op.And c h
  written_in test (any c) h = chain_in test op.Or c h

said_in : (test : ℕ → Bool) (symbols : List Symbol) (e : Said) → IsWritten symbols e → Passes test symbols → said_passes test e ≡ true
said_in test symbols e w h = subst (λ s. said_passes test s ≡ true) (sym w.2) (written_in test w.0 (subst (λ s. Passes test s) w.1 h))

-- ---- lists

joined_in : {A : Type 0} (test : ℕ → Bool) (spell : A → List Symbol) (first : List Symbol) (xs : List A) → Passes test (joined first (map spell xs))
    → Passes test first × (list_all (λ x. list_all (symbol_passes test) (spell x)) xs ≡ true)
joined_in test spell first [] h = (h, refl)
joined_in test spell first (x ∷ xs) h =
    let parts = in_two test first (symbol.Sign sign.Comma ∷ joined (spell x) (map spell xs)) h in
    let more = joined_in test spell (spell x) xs (in_front test (symbol.Sign sign.Comma) (joined (spell x) (map spell xs)) parts.1).1 in
    (parts.0, and_from (list_all (symbol_passes test) (spell x)) (list_all (λ y. list_all (symbol_passes test) (spell y)) xs) (shown more.0) more.1)
  where
    shown : Passes test (spell x) → list_all (symbol_passes test) (spell x) ≡ true
    shown k = k

list_in : {A : Type 0} (test : ℕ → Bool) (spell : A → List Symbol) (xs : List A) → Passes test (list_words spell xs) → list_all (λ x. list_all (symbol_passes test) (spell x)) xs ≡ true
list_in test spell [] h = refl
list_in test spell (x ∷ xs) h =
    let parts = joined_in test spell (spell x) xs h in
    and_from (list_all (symbol_passes test) (spell x)) (list_all (λ y. list_all (symbol_passes test) (spell y)) xs) (shown parts.0) parts.1
  where
    shown : Passes test (spell x) → list_all (symbol_passes test) (spell x) ≡ true
    shown k = k

all_from : {A : Type 0} (p q : A → Bool) → ((x : A) → p x ≡ true → q x ≡ true) → (xs : List A) → list_all p xs ≡ true → list_all q xs ≡ true
all_from p q f [] h = refl
all_from p q f (x ∷ xs) h = let parts = and_parts (p x) (list_all p xs) h in and_from (q x) (list_all q xs) (f x parts.0) (all_from p q f xs parts.1)

all_written : (test : ℕ → Bool) (ws : List Written) → list_all (λ w. list_all (symbol_passes test) (words w)) ws ≡ true → list_all (said_passes test) (map meant ws) ≡ true
all_written test [] h = refl
all_written test (w ∷ ws) h =
    let parts = and_parts (list_all (symbol_passes test) (words w)) (list_all (λ v. list_all (symbol_passes test) (words v)) ws) h in
    and_from (said_passes test (meant w)) (list_all (said_passes test) (map meant ws)) (written_in test w parts.0) (all_written test ws parts.1)

-- ---- declarations

kind_in : (test : ℕ → Bool) (k : Kind) → Passes test (kind_words k) → is_width (width_of_kind k) ≡ true
kind_in test (kind.Var width) h = (in_front test (symbol.Keyword (word.Width width)) [] h).0
kind_in test (kind.Chan width mark) h =
    (in_front test (symbol.Keyword (word.Width width)) [] (in_front test (symbol.Keyword word.Of) (symbol.Keyword (word.Width width) ∷ []) (in_front test (symbol.Keyword word.Chan) (symbol.Keyword word.Of ∷ symbol.Keyword (word.Width width) ∷ []) h).1).1).0

front_in : (test : ℕ → Bool) (d : Declared) (k : Kind) → Passes test (front_words d k) → is_width (width_of_kind k) ≡ true
front_in test d k h = kind_in test k (in_two test (count_words d) (kind_words k) h).1

declared_in : (test : ℕ → Bool) (d : Declared) (rest : List Symbol) → Passes test (declared_words d ++ rest) → declared_passes test d ≡ true
declared_in test (declared.Plain x) rest h = (in_front test (symbol.Name x) rest h).0
declared_in test (declared.Element x k) rest h = (in_front test (symbol.Name x) (symbol.Sign sign.OpenIndex ∷ symbol.Numeral k ∷ symbol.Sign sign.CloseIndex ∷ rest) h).0
declared_in test (declared.Array x n) rest h = (in_front test (symbol.Name x) rest h).0

declared_alone : (test : ℕ → Bool) (d : Declared) → list_all (symbol_passes test) (declared_words d) ≡ true → declared_passes test d ≡ true
declared_alone test (declared.Plain x) h = (and_parts (test x.0) true h).0
declared_alone test (declared.Element x k) h = (and_parts (test x.0) true h).0
declared_alone test (declared.Array x n) h = (and_parts (test x.0) true h).0

abbrev pub FrontPasses : (ℕ → Bool) → Option (List Symbol) → Type 0
FrontPasses test before = (front : List Symbol) → before ≡ Some front → Passes test front

one_param : (test : ℕ → Bool) (before : Option (List Symbol)) (symbols : List Symbol) (p : Param) → FrontPasses test before → IsParam before symbols p → Passes test symbols
    → Passes test (param_front p) × (param_passes test p ≡ true)
one_param test before symbols p f i h = elim i.2 [
  | inl e ↦ let parts = in_two test (param_front p) (tail_words p) (subst (λ s. Passes test s) e h) in
      (parts.0, and_from (declared_passes test p.declared) (is_width (width_of_kind p.kind)) (declared_in test p.declared (mark_words p.kind) parts.1) (front_in test p.declared p.kind parts.0))
  | inr e ↦ let front = f (param_front p) e.0 in
      (front, and_from (declared_passes test p.declared) (is_width (width_of_kind p.kind)) (declared_in test p.declared (mark_words p.kind) (subst (λ s. Passes test s) e.1 h)) (front_in test p.declared p.kind front))
]

params_in : (test : ℕ → Bool) (before : Option (List Symbol)) (groups : List (List Symbol)) (ps : List Param) → FrontPasses test before → AreParams before groups ps
    → list_all (λ g. list_all (symbol_passes test) g) groups ≡ true → list_all (param_passes test) ps ≡ true
params_in test before [] [] f a h = refl
params_in test before [] (p ∷ ps) f a h = absurd a
params_in test before (g ∷ groups) [] f a h = absurd a
params_in test before (g ∷ groups) (p ∷ ps) f a h =
    let parts = and_parts (list_all (symbol_passes test) g) (list_all (λ g'. list_all (symbol_passes test) g') groups) h in
    let one = one_param test before g p f a.0 (passed parts.0) in
    and_from (param_passes test p) (list_all (param_passes test) ps) one.1 (params_in test (Some (param_front p)) groups ps (λ front e. subst (λ s. Passes test s) (some_is e) one.0) a.1 parts.1)
  where
    passed : list_all (symbol_passes test) g ≡ true → Passes test g
    passed k = k

declaration_in : (test : ℕ → Bool) (symbols : List Symbol) (k : Kind) (ds : List Declared) → IsDeclaration symbols k ds → Passes test symbols
    → (is_width (width_of_kind k) ≡ true) × (list_all (declared_passes test) ds ≡ true)
declaration_in test symbols k [] i h = absurd i
declaration_in test symbols k (d ∷ ds) i h =
    let parts = in_two test (front_words d k) (list_words declared_words (d ∷ ds) ++ symbol.Sign sign.Colon ∷ []) (subst (λ s. Passes test s) i.3 h) in
    let names = list_in test declared_words (d ∷ ds) (in_two test (list_words declared_words (d ∷ ds)) (symbol.Sign sign.Colon ∷ []) parts.1).0 in
    (front_in test d k parts.0, all_from (λ e. list_all (symbol_passes test) (declared_words e)) (declared_passes test) (declared_alone test) (d ∷ ds) names)

-- ---- lines

input_in : (test : ℕ → Bool) (symbols : List Symbol) (c x : Item) → IsInput symbols c x → Passes test symbols → (item_passes test c && item_passes test x) ≡ true
input_in test symbols c x i h =
    let parts = in_two test (item_words c) (symbol.Sign sign.Query ∷ item_words x) (subst (λ s. Passes test s) i h) in
    and_from (item_passes test c) (item_passes test x) (item_in test c parts.0) (item_in test x (in_front test (symbol.Sign sign.Query) (item_words x) parts.1).1)

output_in : (test : ℕ → Bool) (symbols : List Symbol) (c : Item) (e : Said) → IsOutput symbols c e → Passes test symbols → (item_passes test c && said_passes test e) ≡ true
output_in test symbols c e i h =
    let parts = in_two test (item_words c) (symbol.Sign sign.Bang ∷ words i.0) (subst (λ s. Passes test s) i.1 h) in
    and_from (item_passes test c) (said_passes test e) (item_in test c parts.0)
    (subst (λ s. said_passes test s ≡ true) (sym i.2) (written_in test i.0 (in_front test (symbol.Sign sign.Bang) (words i.0) parts.1).1))

waiting_in : (test : ℕ → Bool) (symbols : List Symbol) (w : Waiting) → IsWaiting symbols w → Passes test symbols → waiting_passes test w ≡ true
waiting_in test symbols ready i h = refl
waiting_in test symbols (input c x) i h = input_in test symbols c x i h
waiting_in test symbols (output c e) i h = output_in test symbols c e i h

times_in : (test : ℕ → Bool) (times : Option Times) → Passes test (times_words times) → times_passes test times ≡ true
times_in test None h = refl
times_in test (Some times) h = (in_front test (symbol.Name times.index) (symbol.Sign sign.Equal ∷ symbol.Numeral times.base ∷ symbol.Keyword word.For ∷ symbol.Numeral times.count ∷ []) h).0

group_in : (test : ℕ → Bool) (symbols : List Symbol) (s : Symbol) (times : Option Times) → symbols ≡ s ∷ times_words times → Passes test symbols → times_passes test times ≡ true
group_in test symbols s times e h = times_in test times (in_front test s (times_words times) (subst (λ x. Passes test x) e h)).1

pub form_in : (test : ℕ → Bool) (symbols : List Symbol) (s : Shape) → IsForm symbols s → Passes test symbols → shape_passes test s ≡ true
form_in test symbols (header name params) i h =
    let body = in_front test (symbol.Keyword word.Proc) (symbol.Name name ∷ symbol.Sign sign.Open ∷ (list_words (λ g. g) i.0 ++ symbol.Sign sign.Close ∷ [])) (subst (λ x. Passes test x) i.2 h) in
    let rest = in_front test (symbol.Name name) (symbol.Sign sign.Open ∷ (list_words (λ g. g) i.0 ++ symbol.Sign sign.Close ∷ [])) body.1 in
    let inner = in_two test (list_words (λ g. g) i.0) (symbol.Sign sign.Close ∷ []) (in_front test (symbol.Sign sign.Open) (list_words (λ g. g) i.0 ++ symbol.Sign sign.Close ∷ []) rest.1).1 in
    and_from (test name.0) (list_all (param_passes test) params) rest.0 (params_in test None i.0 params (λ front e. none_not_some e) i.1 (list_in test (λ g. g) i.0 inner.0))
form_in test symbols close i h = refl
form_in test symbols skip i h = refl
form_in test symbols stop i h = refl
form_in test symbols (assign xs es) i h =
    let parts = in_two test (list_words item_words xs) (symbol.Sign sign.Becomes ∷ list_words words i.0) (subst (λ x. Passes test x) i.5 h) in
    and_from (list_all (item_passes test) xs) (list_all (said_passes test) es)
    (all_from (λ x. list_all (symbol_passes test) (item_words x)) (item_passes test) (λ x k. item_in test x k) xs (list_in test item_words xs parts.0))
    (subst (λ l. list_all (said_passes test) l ≡ true) (sym i.1) (all_written test i.0 (list_in test words i.0 (in_front test (symbol.Sign sign.Becomes) (list_words words i.0) parts.1).1)))
form_in test symbols (receive c x) i h = input_in test symbols c x i h
form_in test symbols (send c e) i h = output_in test symbols c e i h
form_in test symbols (group construct.Seq times) i h = group_in test symbols (symbol.Keyword word.Seq) times i h
form_in test symbols (group construct.Par times) i h = group_in test symbols (symbol.Keyword word.Par) times i h
form_in test symbols (group construct.If times) i h = group_in test symbols (symbol.Keyword word.If) times i h
form_in test symbols (group construct.Alt times) i h = group_in test symbols (symbol.Keyword word.Alt) times i h
form_in test symbols (declare k ds) i h = let d = declaration_in test symbols k ds i h in and_from (is_width (width_of_kind k)) (list_all (declared_passes test) ds) d.0 d.1
form_in test symbols (condition e) i h = said_in test symbols e i h
form_in test symbols (guard e w) i h =
    let parts = in_two test i.0 (symbol.Sign sign.Ampersand ∷ i.1) (subst (λ x. Passes test x) i.2 h) in
    and_from (said_passes test e) (waiting_passes test w) (said_in test i.0 e i.3 parts.0) (waiting_in test i.1 w i.4 (in_front test (symbol.Sign sign.Ampersand) i.1 parts.1).1)
form_in test symbols nothing i h = refl

-- ---- a form is sound

widths_pass : (test : ℕ → Bool) (e : Said) → said_passes test e ≡ true → has_widths e ≡ true
widths_pass test (said.item i) h = refl
widths_pass test (said.numeral value) h = refl
widths_pass test (said.typed value width) h = h
widths_pass test (said.truth b) h = refl
widths_pass test (said.negation e) h = widths_pass test e h
widths_pass test (said.complement e) h = widths_pass test e h
widths_pass test (said.operation op left right) h =
    let parts = and_parts (said_passes test left) (said_passes test right) h in and_from (has_widths left) (has_widths right) (widths_pass test left parts.0) (widths_pass test right parts.1)

waiting_widths : (test : ℕ → Bool) (w : Waiting) → waiting_passes test w ≡ true → waiting_has_widths w ≡ true
waiting_widths test ready h = refl
waiting_widths test (input c x) h = refl
waiting_widths test (output c e) h = widths_pass test e (and_parts (item_passes test c) (said_passes test e) h).1

pairs_from : (xs : List Item) (es : List Said) → length xs ≡ length es → 0 < length xs → are_pairs xs es ≡ true
pairs_from [] es h k = absurd (omega (arith, k))
pairs_from (x ∷ xs) [] h k = absurd (omega (arith, h))
pairs_from (x ∷ []) (e ∷ []) h k = refl
pairs_from (x ∷ []) (e ∷ f ∷ es) h k = absurd (omega (arith, h))
pairs_from (x ∷ y ∷ xs) (e ∷ es) h k = pairs_from (y ∷ xs) es (omega (arith, h)) (omega arith)

one_name : (b : Bool) (o : Option Index) (x y : ℕ) (names : List ℕ) → AllByRecursion (λ z. nat_eq x z ≡ false) (if is_some o then names else y ∷ names)
    → (((b && is_none o) && x == y) ≡ false) × AllByRecursion (λ z. nat_eq x z ≡ false) names
one_name b (Some i) x y names h = (and_left (b && false) (x == y) (and_right b false refl), h)
one_name b None x y names h = (and_right (b && true) (x == y) h.0, h.1)

none_same : (i : Item) (xs : List Item) → AllByRecursion (λ y. nat_eq i.name.0 y ≡ false) (plain_names xs) → list_any (is_same_name i) xs ≡ false
none_same i [] h = refl
none_same i (j ∷ xs) h =
    let one = one_name (is_none i.index) j.index i.name.0 j.name.0 (plain_names xs) h in
    or_from (is_same_name i j) (list_any (is_same_name i) xs) one.0 (none_same i xs one.1)

none_indexed : (i : Item) → is_none i.index ≡ false → (xs : List Item) → list_any (is_same_name i) xs ≡ false
none_indexed i h [] = refl
none_indexed i h (j ∷ xs) =
    or_from (is_same_name i j) (list_any (is_same_name i) xs) (and_left (is_none i.index && is_none j.index) (i.name.0 == j.name.0) (and_left (is_none i.index) (is_none j.index) h)) (none_indexed i h xs)

one_distinct : (o : Option Index) (y : ℕ) (names : List ℕ) → IsDistinct nat_eq (if is_some o then names else y ∷ names)
    → (is_none o ≡ true → AllByRecursion (λ z. nat_eq y z ≡ false) names) × IsDistinct nat_eq names
unfolding IsDistinct
one_distinct (Some i) y names h = (λ e. false_not_true e, h)
one_distinct None y names h = (λ e. h.0, h.1)

distinct_from : (xs : List Item) → IsDistinct nat_eq (plain_names xs) → are_distinct xs ≡ true
distinct_from [] h = refl
distinct_from (i ∷ xs) h =
    let one = one_distinct i.index i.name.0 (plain_names xs) h in
    and_from (not (list_any (is_same_name i) xs)) (are_distinct xs)
    (ap not (elim (cases_Bool (is_none i.index)) [ inl e ↦ none_same i xs (one.0 e) | inr e ↦ none_indexed i e xs ]))
    (distinct_from xs one.1)

unmarked_from : (k : Kind) → IsUnmarked k → is_unmarked k ≡ true
unmarked_from (kind.Var width) h = refl
unmarked_from (kind.Chan width None) h = refl
unmarked_from (kind.Chan width (Some mark)) h = absurd h

declaration_unmarked : (symbols : List Symbol) (k : Kind) (ds : List Declared) → IsDeclaration symbols k ds → is_unmarked k ≡ true
declaration_unmarked symbols k [] i = absurd i
declaration_unmarked symbols k (d ∷ ds) i = unmarked_from k i.0

pub form_sound : (test : ℕ → Bool) (symbols : List Symbol) (s : Shape) → IsForm symbols s → shape_passes test s ≡ true → is_sound s ≡ true
form_sound test symbols (header name params) i h =
    all_from (param_passes test) (λ p. has_width p.kind) (λ p k. (and_parts (declared_passes test p.declared) (is_width (width_of_kind p.kind)) k).1) params (and_parts (test name.0) (list_all (param_passes test) params) h).1
form_sound test symbols close i h = refl
form_sound test symbols skip i h = refl
form_sound test symbols stop i h = refl
form_sound test symbols (assign xs es) i h =
    let parts = and_parts (list_all (item_passes test) xs) (list_all (said_passes test) es) h in
    and_from (are_pairs xs es && are_distinct xs) (list_all has_widths es) (and_from (are_pairs xs es) (are_distinct xs) (pairs_from xs es i.2 i.3) (distinct_from xs i.4))
    (all_from (said_passes test) has_widths (widths_pass test) es parts.1)
form_sound test symbols (receive c x) i h = refl
form_sound test symbols (send c e) i h = widths_pass test e (and_parts (item_passes test c) (said_passes test e) h).1
form_sound test symbols (group g times) i h = refl
form_sound test symbols (declare k ds) i h = and_from (has_width k) (is_unmarked k) (and_parts (is_width (width_of_kind k)) (list_all (declared_passes test) ds) h).0 (declaration_unmarked symbols k ds i)
form_sound test symbols (condition e) i h = widths_pass test e h
form_sound test symbols (guard e w) i h =
    let parts = and_parts (said_passes test e) (waiting_passes test w) h in and_from (has_widths e) (waiting_has_widths w) (widths_pass test e parts.0) (waiting_widths test w parts.1)
form_sound test symbols nothing i h = refl
