-- Symbols that say something say it of the other names, where each name is another one.
use Rattle.std.proofs.Common.{◌≡◌, ℕ, ◌<◌, Bool, true, false, nat_eq, if◌then◌else◌, List, [], ◌∷◌, ◌++◌, map, length, Option, Some, None, is_some, inl, inr, refl, sym, ap, ap₂, subst, ◌∙◌}
use Rattle.std.specs.List.{AllByRecursion, IsDistinct}
use Rattle.std.proofs.lemmas.List.{length-map, map-append}
use Rattle.occ_replay_rules.specs.occ_syntax.declared.expr.Op.{Op}
use Rattle.occ_replay_rules.specs.occ_syntax.declared.expr.Op.TheVariants as op
use Rattle.occ_replay_rules.specs.occ_syntax.declared.scope.Kind.{Kind}
use Rattle.occ_replay_rules.specs.occ_syntax.declared.scope.Kind.TheVariants as kind
use Rattle.occ_replay_rules.specs.occ_base.declared.event.Dir.TheVariants as dir
use Rattle.occ_replay_rules.specs.occ_base.declared.names.Name.{Name}
use Rattle.occ_replay_rules.specs.occ_lex.declared.symbol.Keyword.TheVariants as word
use Rattle.occ_replay_rules.specs.occ_lex.declared.symbol.Sign.TheVariants as sign
use Rattle.occ_replay_rules.specs.occ_lex.declared.symbol.Symbol.{Symbol}
use Rattle.occ_replay_rules.specs.occ_lex.declared.symbol.Symbol.TheVariants as symbol
use Rattle.occ_replay_rules.specs.occ_parse_forms.declared.form.Declared.{Declared}
use Rattle.occ_replay_rules.specs.occ_parse_forms.declared.form.Declared.TheVariants as declared
use Rattle.occ_replay_rules.specs.occ_parse_forms.declared.form.Group.{Group}
use Rattle.occ_replay_rules.specs.occ_parse_forms.declared.form.Group.TheVariants as construct
use Rattle.occ_replay_rules.specs.occ_parse_forms.declared.form.Item.{Item}
use Rattle.occ_replay_rules.specs.occ_parse_forms.declared.form.Param.{Param}
use Rattle.occ_replay_rules.specs.occ_parse_forms.declared.form.Times.{Times}
use Rattle.occ_replay_rules.specs.occ_parse_forms.declared.phrase.Index.{Index}
use Rattle.occ_replay_rules.specs.occ_parse_forms.declared.phrase.Index.TheVariants as index
use Rattle.occ_replay_rules.specs.occ_parse_forms.Lines.{AreParams, HasCount, IsAssignment, IsDeclaration, IsForm, IsGuard, IsHeader, IsInput, IsOutput, IsParam, IsWaiting, IsWritten, Says, comma, count_words, declared_words, front_words, group_word, joined, kind_words, list_words, mark_words, param_front, plain_names, tail_words, times_words}
use Rattle.occ_replay_rules.specs.occ_parse_forms.Shape.{Said, Waiting, ready, input, output, Shape, header, close, skip, stop, assign, receive, send, group, declare, condition, guard, nothing}
use Rattle.occ_replay_rules.specs.occ_parse_forms.Shape as said
use Rattle.occ_replay_rules.specs.occ_parse_forms.Written.{Operand, named, number, number_of, constant, bracketed, Chain, pair, longer, Written, only, negated, complemented, between, all, any, op_word, index_words, place_words, item_words, truth_word, operand_words, chain_words, words, operand_meant, chain_meant, meant}
use Rattle.occ_renamed.specs.Renamed.{all_declared_renamed, declared_renamed, index_renamed, indexed_renamed, item_renamed, items_renamed, param_renamed, params_renamed, said_renamed, shape_renamed, symbol_renamed, symbols_renamed, times_renamed, waits_renamed}
use Rattle.occ_renamed.specs.Standing.{IsOneForOne}

module _ (f : ℕ → ℕ) where
  abbrev Ren : List Symbol → List Symbol
  Ren us = symbols_renamed f us

  join : (us vs us' vs' : List Symbol) → us' ≡ Ren us → vs' ≡ Ren vs → us' ++ vs' ≡ Ren (us ++ vs)
  join us vs us' vs' h k = ap₂ ◌++◌ h k ∙ sym (map-append (symbol_renamed f) us vs)

  -- ---- items and expressions

  index_so : (i : Index) → index_words (index_renamed f i) ≡ Ren (index_words i)
  index_so (index.Number k) = refl
  index_so (index.Name i) = refl
  index_so (index.Plus i k) = refl
  index_so (index.Minus i k) = refl

  place_so : (i : Option Index) → place_words (indexed_renamed f i) ≡ Ren (place_words i)
  place_so None = refl
  place_so (Some i) =
      let end = symbol.Sign sign.CloseIndex ∷ [] in
      ap (λ us. symbol.Sign sign.OpenIndex ∷ us) (join (index_words i) end (index_words (index_renamed f i)) end (index_so i) refl)

  item_so : (i : Item) → item_words (item_renamed f i) ≡ Ren (item_words i)
  item_so i = ap (λ us. symbol.Name (record { 0 = f i.name.0 }) ∷ us) (place_so i.index)

  abbrev mutual
    operand_renamed : Operand → Operand
    operand_renamed (named i) = named (item_renamed f i)
    operand_renamed (number value) = number value
    operand_renamed (number_of value width) = number_of value width
    operand_renamed (constant b) = constant b
    operand_renamed (bracketed w) = bracketed (written_renamed w)

    chain_renamed : Chain → Chain
    chain_renamed (pair a b) = pair (operand_renamed a) (operand_renamed b)
    chain_renamed (longer c b) = longer (chain_renamed c) (operand_renamed b)

    written_renamed : Written → Written
    written_renamed (only a) = only (operand_renamed a)
    written_renamed (negated a) = negated (operand_renamed a)
    written_renamed (complemented a) = complemented (operand_renamed a)
    written_renamed (between o a b) = between o (operand_renamed a) (operand_renamed b)
    written_renamed (all c) = all (chain_renamed c)
    written_renamed (any c) = any (chain_renamed c)

  op_so : (o : Op) → op_word o ≡ symbol_renamed f (op_word o)
  op_so op.Plus = refl
  op_so op.Minus = refl
  op_so op.And = refl
  op_so op.Or = refl
  op_so op.BitAnd = refl
  op_so op.BitOr = refl
  op_so op.BitXor = refl
  op_so op.Equal = refl
  op_so op.Differ = refl
  op_so op.Less = refl
  op_so op.Greater = refl
  op_so op.AtMost = refl
  op_so op.AtLeast = refl

  truth_so : (b : Bool) → truth_word b ∷ [] ≡ Ren (truth_word b ∷ [])
  truth_so true = refl
  truth_so false = refl

  -- an operator between symbols
  between_so : (o : Op) (us vs us' vs' : List Symbol) → us' ≡ Ren us → vs' ≡ Ren vs → us' ++ op_word o ∷ vs' ≡ Ren (us ++ op_word o ∷ vs)
  between_so o us vs us' vs' h k = join us (op_word o ∷ vs) us' (op_word o ∷ vs') h (ap₂ ◌∷◌ (op_so o) k)

  mutual
    operand_so : (a : Operand) → operand_words (operand_renamed a) ≡ Ren (operand_words a)
    operand_so (named i) = item_so i
    operand_so (number value) = refl
    operand_so (number_of value width) = refl
    operand_so (constant b) = truth_so b
    operand_so (bracketed w) =
        let end = symbol.Sign sign.Close ∷ [] in
        ap (λ us. symbol.Sign sign.Open ∷ us) (join (words w) end (words (written_renamed w)) end (written_so w) refl)

    chain_so : (o : Op) (c : Chain) → chain_words o (chain_renamed c) ≡ Ren (chain_words o c)
    chain_so o (pair a b) = between_so o (operand_words a) (operand_words b) (operand_words (operand_renamed a)) (operand_words (operand_renamed b)) (operand_so a) (operand_so b)
    chain_so o (longer c b) = between_so o (chain_words o c) (operand_words b) (chain_words o (chain_renamed c)) (operand_words (operand_renamed b)) (chain_so o c) (operand_so b)

    written_so : (w : Written) → words (written_renamed w) ≡ Ren (words w)
    written_so (only a) = operand_so a
    written_so (negated a) = ap (λ us. symbol.Keyword word.Not ∷ us) (operand_so a)
    written_so (complemented a) = ap (λ us. symbol.Sign sign.Flip ∷ us) (operand_so a)
    written_so (between o a b) = between_so o (operand_words a) (operand_words b) (operand_words (operand_renamed a)) (operand_words (operand_renamed b)) (operand_so a) (operand_so b)
    written_so (all c) = chain_so op.And c
    written_so (any c) = chain_so op.Or c

  mutual
    operand_says : (a : Operand) → operand_meant (operand_renamed a) ≡ said_renamed f (operand_meant a)
    operand_says (named i) = refl
    operand_says (number value) = refl
    operand_says (number_of value width) = refl
    operand_says (constant b) = refl
    operand_says (bracketed w) = written_says w

    chain_says : (o : Op) (c : Chain) → chain_meant o (chain_renamed c) ≡ said_renamed f (chain_meant o c)
    chain_says o (pair a b) = ap₂ (said.operation o) (operand_says a) (operand_says b)
    chain_says o (longer c b) = ap₂ (said.operation o) (chain_says o c) (operand_says b)

    written_says : (w : Written) → meant (written_renamed w) ≡ said_renamed f (meant w)
    written_says (only a) = operand_says a
    written_says (negated a) = ap said.negation (operand_says a)
    written_says (complemented a) = ap said.complement (operand_says a)
    written_says (between o a b) = ap₂ (said.operation o) (operand_says a) (operand_says b)
    written_says (all c) = chain_says op.And c
    written_says (any c) = chain_says op.Or c

  said_so : (symbols : List Symbol) (e : Said) → IsWritten symbols e → IsWritten (Ren symbols) (said_renamed f e)
  said_so symbols e h = (written_renamed h.0, ap Ren h.1 ∙ sym (written_so h.0), ap (said_renamed f) h.2 ∙ sym (written_says h.0))

  -- ---- lists

  module _ {A : Type 0} (R : A → A) (spell : A → List Symbol) (so : (x : A) → spell (R x) ≡ Ren (spell x)) where
    joined_so : (first first' : List Symbol) (xs : List A) → first' ≡ Ren first → joined first' (map spell (map R xs)) ≡ Ren (joined first (map spell xs))
    joined_so first first' [] h = h
    joined_so first first' (x ∷ xs) h =
        join first (comma ∷ joined (spell x) (map spell xs)) first' (comma ∷ joined (spell (R x)) (map spell (map R xs))) h
        (ap (λ us. comma ∷ us) (joined_so (spell x) (spell (R x)) xs (so x)))

    list_so : (xs : List A) → list_words spell (map R xs) ≡ Ren (list_words spell xs)
    list_so [] = refl
    list_so (x ∷ xs) = joined_so (spell x) (spell (R x)) xs (so x)

  all_meant : (ws : List Written) → map (said_renamed f) (map meant ws) ≡ map meant (map written_renamed ws)
  all_meant [] = refl
  all_meant (w ∷ ws) = ap₂ ◌∷◌ (sym (written_says w)) (all_meant ws)

  -- ---- declarations and parameters

  count_so : (d : Declared) → count_words (declared_renamed f d) ≡ Ren (count_words d)
  count_so (declared.Plain x) = refl
  count_so (declared.Element x k) = refl
  count_so (declared.Array x n) = refl

  kind_so : (k : Kind) → kind_words k ≡ Ren (kind_words k)
  kind_so (kind.Var width) = refl
  kind_so (kind.Chan width mark) = refl

  front_so : (d : Declared) (k : Kind) → front_words (declared_renamed f d) k ≡ Ren (front_words d k)
  front_so d k = join (count_words d) (kind_words k) (count_words (declared_renamed f d)) (kind_words k) (count_so d) (kind_so k)

  declared_so : (d : Declared) → declared_words (declared_renamed f d) ≡ Ren (declared_words d)
  declared_so (declared.Plain x) = refl
  declared_so (declared.Element x k) = refl
  declared_so (declared.Array x n) = refl

  mark_so : (k : Kind) → mark_words k ≡ Ren (mark_words k)
  mark_so (kind.Var width) = refl
  mark_so (kind.Chan width None) = refl
  mark_so (kind.Chan width (Some dir.Input)) = refl
  mark_so (kind.Chan width (Some dir.Output)) = refl

  counted_so : (d : Declared) → HasCount d → HasCount (declared_renamed f d)
  counted_so (declared.Plain x) h = h
  counted_so (declared.Element x k) h = h
  counted_so (declared.Array x n) h = h

  tail_so : (p : Param) → tail_words (param_renamed f p) ≡ Ren (tail_words p)
  tail_so p = join (declared_words p.declared) (mark_words p.kind) (declared_words (declared_renamed f p.declared)) (mark_words p.kind) (declared_so p.declared) (mark_so p.kind)

  abbrev before_renamed : Option (List Symbol) → Option (List Symbol)
  before_renamed None = None
  before_renamed (Some us) = Some (Ren us)

  param_so : (before : Option (List Symbol)) (symbols : List Symbol) (p : Param) → IsParam before symbols p → IsParam (before_renamed before) (Ren symbols) (param_renamed f p)
  param_so before symbols p h = (
    counted_so p.declared h.0,
    h.1,
    elim h.2 [
      | inl e ↦ inl (ap Ren e ∙ sym (join (param_front p) (tail_words p) (param_front (param_renamed f p)) (tail_words (param_renamed f p)) (front_so p.declared p.kind) (tail_so p)))
      | inr e ↦ inr (ap before_renamed e.0 ∙ ap (λ us. Some us) (sym (front_so p.declared p.kind)), ap Ren e.1 ∙ sym (tail_so p))
    ],
  )

  params_so : (before : Option (List Symbol)) (groups : List (List Symbol)) (ps : List Param) → AreParams before groups ps
      → AreParams (before_renamed before) (map Ren groups) (params_renamed f ps)
  params_so before [] [] h = tt
  params_so before [] (p ∷ ps) h = absurd h
  params_so before (symbols ∷ groups) [] h = absurd h
  params_so before (symbols ∷ groups) (p ∷ ps) h = (
    param_so before symbols p h.0,
    subst (λ us. AreParams (Some us) (map Ren groups) (params_renamed f ps)) (sym (front_so p.declared p.kind)) (params_so (Some (param_front p)) groups ps h.1),
  )

  header_so : (symbols : List Symbol) (name : Name) (ps : List Param) → IsHeader symbols name ps → IsHeader (Ren symbols) (record { 0 = f name.0 }) (params_renamed f ps)
  header_so symbols name ps h =
      let end = symbol.Sign sign.Close ∷ [] in
      let inner = join (list_words (λ g. g) h.0) end (list_words (λ g. g) (map Ren h.0)) end (list_so Ren (λ g. g) (λ g. refl) h.0) refl in
      (map Ren h.0, params_so None h.0 ps h.1, ap Ren h.2 ∙ ap (λ us. symbol.Keyword word.Proc ∷ symbol.Name (record { 0 = f name.0 }) ∷ symbol.Sign sign.Open ∷ us) (sym inner))

  fronts_so : (d : Declared) (k : Kind) (ds : List Declared) → AllByRecursion (λ e. front_words e k ≡ front_words d k) ds
      → AllByRecursion (λ e. front_words e k ≡ front_words (declared_renamed f d) k) (all_declared_renamed f ds)
  fronts_so d k [] h = tt
  fronts_so d k (e ∷ ds) h = (front_so e k ∙ (ap Ren h.0 ∙ sym (front_so d k)), fronts_so d k ds h.1)

  declaration_so : (symbols : List Symbol) (k : Kind) (ds : List Declared) → IsDeclaration symbols k ds → IsDeclaration (Ren symbols) k (all_declared_renamed f ds)
  declaration_so symbols k [] h = absurd h
  declaration_so symbols k (d ∷ ds) h =
      let end = symbol.Sign sign.Colon ∷ [] in
      let list = list_words declared_words (d ∷ ds) in
      let list' = list_words declared_words (all_declared_renamed f (d ∷ ds)) in (
        h.0,
        counted_so d h.1,
        fronts_so d k ds h.2,
        ap Ren h.3 ∙ sym (join (front_words d k) (list ++ end) (front_words (declared_renamed f d) k) (list' ++ end) (front_so d k)
            (join list end list' end (list_so (declared_renamed f) declared_words declared_so (d ∷ ds)) refl)),
      )

  -- ---- the other lines

  input_so : (symbols : List Symbol) (c x : Item) → IsInput symbols c x → IsInput (Ren symbols) (item_renamed f c) (item_renamed f x)
  input_so symbols c x h =
      let s = symbol.Sign sign.Query in
      ap Ren h ∙ sym (join (item_words c) (s ∷ item_words x) (item_words (item_renamed f c)) (s ∷ item_words (item_renamed f x)) (item_so c) (ap (λ us. s ∷ us) (item_so x)))

  output_so : (symbols : List Symbol) (c : Item) (e : Said) → IsOutput symbols c e → IsOutput (Ren symbols) (item_renamed f c) (said_renamed f e)
  output_so symbols c e h =
      let s = symbol.Sign sign.Bang in (
        written_renamed h.0,
        ap Ren h.1 ∙ sym (join (item_words c) (s ∷ words h.0) (item_words (item_renamed f c)) (s ∷ words (written_renamed h.0)) (item_so c) (ap (λ us. s ∷ us) (written_so h.0))),
        ap (said_renamed f) h.2 ∙ sym (written_says h.0),
      )

  waiting_so : (symbols : List Symbol) (w : Waiting) → IsWaiting symbols w → IsWaiting (Ren symbols) (waits_renamed f w)
  waiting_so symbols ready h = ap Ren h
  waiting_so symbols (input c x) h = input_so symbols c x h
  waiting_so symbols (output c e) h = output_so symbols c e h

  guard_so : (symbols : List Symbol) (e : Said) (w : Waiting) → IsGuard symbols e w → IsGuard (Ren symbols) (said_renamed f e) (waits_renamed f w)
  guard_so symbols e w h =
      let s = symbol.Sign sign.Ampersand in
      (Ren h.0, Ren h.1, ap Ren h.2 ∙ sym (join h.0 (s ∷ h.1) (Ren h.0) (s ∷ Ren h.1) refl refl), said_so h.0 e h.3, waiting_so h.1 w h.4)

  times_so : (times : Option Times) → times_words (times_renamed f times) ≡ Ren (times_words times)
  times_so None = refl
  times_so (Some times) = refl

  group_so : (g : Group) → group_word g ≡ symbol_renamed f (group_word g)
  group_so construct.Seq = refl
  group_so construct.Par = refl
  group_so construct.If = refl
  group_so construct.Alt = refl

  -- ---- the names of an assignment, which are distinct

  named_so : (o : Option Index) (x : ℕ) (xs ys : List ℕ) → ys ≡ map f xs
      → (if is_some (indexed_renamed f o) then ys else f x ∷ ys) ≡ map f (if is_some o then xs else x ∷ xs)
  named_so None x xs ys h = ap (λ zs. f x ∷ zs) h
  named_so (Some k) x xs ys h = h

  plain_so : (is : List Item) → plain_names (items_renamed f is) ≡ map f (plain_names is)
  plain_so [] = refl
  plain_so (i ∷ is) = named_so i.index i.name.0 (plain_names is) (plain_names (items_renamed f is)) (plain_so is)

  module _ (one : IsOneForOne f) where
    others_so : (x : ℕ) (xs : List ℕ) → AllByRecursion (λ z. nat_eq x z ≡ false) xs → AllByRecursion (λ z. nat_eq (f x) z ≡ false) (map f xs)
    others_so x [] h = tt
    others_so x (y ∷ ys) h = (one x y ∙ h.0, others_so x ys h.1)

    distinct_so : (xs : List ℕ) → IsDistinct nat_eq xs → IsDistinct nat_eq (map f xs)
    unfolding IsDistinct
    distinct_so [] h = tt
    distinct_so (x ∷ xs) h = (others_so x xs h.0, distinct_so xs h.1)

    assignment_so : (symbols : List Symbol) (xs : List Item) (es : List Said) → IsAssignment symbols xs es
        → IsAssignment (Ren symbols) (items_renamed f xs) (map (said_renamed f) es)
    assignment_so symbols xs es h =
        let s = symbol.Sign sign.Becomes in
        let left = list_words item_words xs in
        let left' = list_words item_words (items_renamed f xs) in
        let right = list_words words h.0 in
        let right' = list_words words (map written_renamed h.0) in
        let few : length (items_renamed f xs) ≡ length xs = length-map xs (item_renamed f) in (
          map written_renamed h.0,
          ap (λ ds. map (said_renamed f) ds) h.1 ∙ all_meant h.0,
          few ∙ (h.2 ∙ sym (length-map es (said_renamed f))),
          subst (λ n. 0 < n) (sym few) h.3,
          subst (IsDistinct nat_eq) (sym (plain_so xs)) (distinct_so (plain_names xs) h.4),
          ap Ren h.5 ∙ sym (join left (s ∷ right) left' (s ∷ right') (list_so (item_renamed f) item_words item_so xs) (ap (λ us. s ∷ us) (list_so written_renamed words written_so h.0))),
        )

    says_so : (symbols : List Symbol) (s : Shape) → Says symbols s → Says (Ren symbols) (shape_renamed f s)
    says_so symbols (header name params) h = header_so symbols name params h
    says_so symbols close h = ap Ren h
    says_so symbols skip h = ap Ren h
    says_so symbols stop h = ap Ren h
    says_so symbols (assign xs es) h = assignment_so symbols xs es h
    says_so symbols (receive c x) h = input_so symbols c x h
    says_so symbols (send c e) h = output_so symbols c e h
    says_so symbols (group g times) h = ap Ren h ∙ sym (ap₂ ◌∷◌ (group_so g) (times_so times))
    says_so symbols (declare kind ds) h = declaration_so symbols kind ds h
    says_so symbols (condition e) h = said_so symbols e h
    says_so symbols (guard e w) h = guard_so symbols e w h
    says_so symbols nothing h = h

-- and where the names of the symbols come back, other symbols say nothing that these don't say
module _ (f back : ℕ → ℕ) (one : IsOneForOne f) (other : IsOneForOne back) where
  pub form_so : (symbols : List Symbol) (s : Shape) → symbols_renamed back (symbols_renamed f symbols) ≡ symbols → IsForm symbols s
      → IsForm (symbols_renamed f symbols) (shape_renamed f s)
  form_so symbols (header name params) e h = says_so f one symbols (header name params) h
  form_so symbols close e h = says_so f one symbols close h
  form_so symbols skip e h = says_so f one symbols skip h
  form_so symbols stop e h = says_so f one symbols stop h
  form_so symbols (assign xs es) e h = says_so f one symbols (assign xs es) h
  form_so symbols (receive c x) e h = says_so f one symbols (receive c x) h
  form_so symbols (send c v) e h = says_so f one symbols (send c v) h
  form_so symbols (group g times) e h = says_so f one symbols (group g times) h
  form_so symbols (declare kind ds) e h = says_so f one symbols (declare kind ds) h
  form_so symbols (condition c) e h = says_so f one symbols (condition c) h
  form_so symbols (guard c w) e h = says_so f one symbols (guard c w) h
  form_so symbols nothing e h =
      λ s says. h (shape_renamed back s) (subst (λ us. Says us (shape_renamed back s)) e (says_so back other (symbols_renamed f symbols) s says))
