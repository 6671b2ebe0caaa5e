-- Items and expressions that are spelled are read.
use Rattle.std.proofs.Common.{◌≡◌, ℕ, zero, suc, ◌+◌, ◌-◌, ◌≤◌, true, false, cond, List, [], ◌∷◌, ◌++◌, length, Option, Some, None, refl, sym, ap, ◌∙◌, append_assoc, arith, length-append, inl, inr}
use Rattle.std.proofs.lemmas.List.{append-nil}
use Rattle.std.proofs.lemmas.Bool.{cases_Bool, cond-true, cond-false}
use Rattle.occ_lex.specs.occ_base.declared.names.Name.{Name}
use Rattle.occ_syntax.specs.declared.expr.Op.{Op}
use Rattle.occ_syntax.specs.declared.expr.Op.TheVariants as op
use Rattle.occ_lex.specs.declared.symbol.Keyword.TheVariants as word
use Rattle.occ_lex.specs.declared.symbol.Sign.TheVariants as sign
use Rattle.occ_lex.specs.declared.symbol.Symbol.{Symbol}
use Rattle.occ_lex.specs.declared.symbol.Symbol.TheVariants as symbol
use Rattle.occ_parse_forms.specs.declared.form.Item.{Item}
use Rattle.occ_parse_forms.specs.declared.phrase.Index.{Index}
use Rattle.occ_parse_forms.specs.declared.phrase.Index.TheVariants as index
use Rattle.occ_parse_forms.specs.Reading.{index_first, item_behind, item_of, width_in_brackets, plain_operand, op_first, is_chained, further, operated, expression_by, operand_with, operand_within, expression_of}
use Rattle.occ_parse_forms.specs.Shape.{Said, item, numeral, operation}
use Rattle.occ_parse_forms.specs.Symbols.{Found, then_read, either, alone, behind, behind_sign, behind_word}
use Rattle.occ_parse_forms.specs.Written.{Operand, named, number, number_of, constant, bracketed, Chain, pair, longer, Written, only, negated, complemented, between, all, any, op_word, place_words, item_words, operand_words, chain_words, words, operand_meant, chain_meant, meant}
use Rattle.occ_parse_forms.proofs.Chains.{further_end, further_more}

-- what may stand behind an operand, and behind an expression
record Follows (rest : List Symbol) : Type 0 where
  no_index : behind_sign sign.OpenIndex rest ≡ None
  no_open : behind_sign sign.Open rest ≡ None

record Stops (rest : List Symbol) : Type 0 where
  follows : Follows rest
  no_op : op_first rest ≡ None
  no_further : (o : Op) → behind (op_word o) rest ≡ None

stops_nil : Stops []
stops_nil = record { follows = record { no_index = refl; no_open = refl }; no_op = refl; no_further = λ o. refl }

no_close : (o : Op) (rest : List Symbol) → behind (op_word o) (symbol.Sign sign.Close ∷ rest) ≡ None
no_close op.Plus rest = refl
no_close op.Minus rest = refl
no_close op.And rest = refl
no_close op.Or rest = refl
no_close op.BitAnd rest = refl
no_close op.BitOr rest = refl
no_close op.BitXor rest = refl
no_close op.Equal rest = refl
no_close op.Differ rest = refl
no_close op.Less rest = refl
no_close op.Greater rest = refl
no_close op.AtMost rest = refl
no_close op.AtLeast rest = refl

stops_close : (rest : List Symbol) → Stops (symbol.Sign sign.Close ∷ rest)
stops_close rest = record { follows = record { no_index = refl; no_open = refl }; no_op = refl; no_further = λ o. no_close o rest }

-- an operator as it stands behind an operand
record IsOp (o : Op) (rest : List Symbol) : Type 0 where
  follows : Follows (op_word o ∷ rest)
  first : op_first (op_word o ∷ rest) ≡ Some (o, rest)
  itself : behind (op_word o) (op_word o ∷ rest) ≡ Some rest

is_op : (o : Op) (rest : List Symbol) → IsOp o rest
is_op op.Plus rest = record { follows = record { no_index = refl; no_open = refl }; first = refl; itself = refl }
is_op op.Minus rest = record { follows = record { no_index = refl; no_open = refl }; first = refl; itself = refl }
is_op op.And rest = record { follows = record { no_index = refl; no_open = refl }; first = refl; itself = refl }
is_op op.Or rest = record { follows = record { no_index = refl; no_open = refl }; first = refl; itself = refl }
is_op op.BitAnd rest = record { follows = record { no_index = refl; no_open = refl }; first = refl; itself = refl }
is_op op.BitOr rest = record { follows = record { no_index = refl; no_open = refl }; first = refl; itself = refl }
is_op op.BitXor rest = record { follows = record { no_index = refl; no_open = refl }; first = refl; itself = refl }
is_op op.Equal rest = record { follows = record { no_index = refl; no_open = refl }; first = refl; itself = refl }
is_op op.Differ rest = record { follows = record { no_index = refl; no_open = refl }; first = refl; itself = refl }
is_op op.Less rest = record { follows = record { no_index = refl; no_open = refl }; first = refl; itself = refl }
is_op op.Greater rest = record { follows = record { no_index = refl; no_open = refl }; first = refl; itself = refl }
is_op op.AtMost rest = record { follows = record { no_index = refl; no_open = refl }; first = refl; itself = refl }
is_op op.AtLeast rest = record { follows = record { no_index = refl; no_open = refl }; first = refl; itself = refl }

-- ---- items

item_behind_back : (name : Name) (x : Option Index) (rest : List Symbol) → behind_sign sign.OpenIndex rest ≡ None → item_behind name (place_words x ++ rest) ≡ Some (record { name = name; index = x }, rest)
unfolding item_behind index_first
item_behind_back name None rest h = rw h refl
item_behind_back name (Some (index.Number value)) rest h = refl
item_behind_back name (Some (index.Name other)) rest h = refl
item_behind_back name (Some (index.Plus other value)) rest h = refl
item_behind_back name (Some (index.Minus other value)) rest h = refl

pub item_back : (i : Item) → item_of (item_words i) ≡ Some i
unfolding item_of
item_back i =
    let e = item_behind_back i.name i.index [] refl in
    ap (λ r. then_read (item_behind i.name r) (λ i. alone i.0 i.1)) (sym (append-nil (place_words i.index))) ∙ ap (λ f. then_read f (λ i. alone i.0 i.1)) e

-- ---- operands

plain_back : (inside : List Symbol → Found Said) (symbols : List Symbol) → behind_sign sign.Open symbols ≡ None → operand_with inside symbols ≡ plain_operand symbols
unfolding operand_with
plain_back inside symbols h = rw h refl

named_back : (i : Item) (rest : List Symbol) → Follows rest → plain_operand (item_words i ++ rest) ≡ Some (item i, rest)
unfolding plain_operand
named_back i rest h = ap (λ f. then_read f (λ i. Some (item i.0, i.1))) (item_behind_back i.name i.index rest h.no_index)

number_back : (value : ℕ) (rest : List Symbol) → Follows rest → plain_operand (symbol.Numeral value ∷ rest) ≡ Some (numeral value, rest)
unfolding plain_operand width_in_brackets
number_back value rest h = let e = h.no_open in rw e refl

simple_back : (inside : List Symbol → Found Said) (o : Operand) (rest : List Symbol) → Follows rest → (((w : Written) → o ≡ bracketed w → ⊥)) → operand_with inside (operand_words o ++ rest) ≡ Some (operand_meant o, rest)
unfolding plain_operand width_in_brackets
simple_back inside (named i) rest h plain = plain_back inside _ refl ∙ named_back i rest h
simple_back inside (number value) rest h plain = plain_back inside _ refl ∙ number_back value rest h
simple_back inside (number_of value width) rest h plain = plain_back inside _ refl
simple_back inside (constant true) rest h plain = plain_back inside _ refl
simple_back inside (constant false) rest h plain = plain_back inside _ refl
simple_back inside (bracketed w) rest h plain = absurd (plain w refl)

record Within (depth : ℕ) : Type 0 where
  inside : List Symbol → Found Said
  are : (symbols : List Symbol) → operand_within depth symbols ≡ operand_with inside symbols

within : (depth : ℕ) → Within depth
unfolding operand_within
within zero = record { inside = λ rest. None; are = λ symbols. refl }
within (suc depth) = record { inside = expression_by (operand_within depth); are = λ symbols. refl }

simple_within : (depth : ℕ) (o : Operand) (rest : List Symbol) → Follows rest → (((w : Written) → o ≡ bracketed w → ⊥)) → operand_within depth (operand_words o ++ rest) ≡ Some (operand_meant o, rest)
simple_within depth o rest h plain = let w = within depth in w.are (operand_words o ++ rest) ∙ simple_back w.inside o rest h plain

bracket_within : (depth : ℕ) (w : Written) (rest : List Symbol) → expression_by (operand_within depth) (words w ++ symbol.Sign sign.Close ∷ rest) ≡ Some (meant w, symbol.Sign sign.Close ∷ rest)
    → operand_within (suc depth) (operand_words (bracketed w) ++ rest) ≡ Some (meant w, rest)
unfolding operand_within operand_with
bracket_within depth w rest e =
    ap (λ r. then_read (expression_by (operand_within depth) r) (λ f. then_read (behind_sign sign.Close f.1) (λ rest. Some (f.0, rest)))) (append_assoc (words w) (symbol.Sign sign.Close ∷ []) rest)
    ∙ ap (λ r. then_read r (λ f. then_read (behind_sign sign.Close f.1) (λ rest. Some (f.0, rest)))) e

-- ---- expressions

-- an operand begins with neither NOT nor `~`
record Begins (symbols : List Symbol) : Type 0 where
  no_not : behind_word word.Not symbols ≡ None
  no_flip : behind_sign sign.Flip symbols ≡ None

begins : (o : Operand) (rest : List Symbol) → Begins (operand_words o ++ rest)
begins (named i) rest = record { no_not = refl; no_flip = refl }
begins (number value) rest = record { no_not = refl; no_flip = refl }
begins (number_of value width) rest = record { no_not = refl; no_flip = refl }
begins (constant true) rest = record { no_not = refl; no_flip = refl }
begins (constant false) rest = record { no_not = refl; no_flip = refl }
begins (bracketed w) rest = record { no_not = refl; no_flip = refl }

first_back : (operand : List Symbol → Found Said) (a : Operand) (rest : List Symbol) → operand (operand_words a ++ rest) ≡ Some (operand_meant a, rest)
    → expression_by operand (operand_words a ++ rest) ≡ operated operand (operand_meant a) rest
unfolding expression_by
first_back operand a rest h =
    let b = begins a rest in
    let e = b.no_not in
    let f = b.no_flip in
    rw (e, f, h) refl

pair_back : (operand : List Symbol → Found Said) (o : Op) (a b : Operand) (rest : List Symbol)
    → operand (operand_words a ++ op_word o ∷ (operand_words b ++ rest)) ≡ Some (operand_meant a, op_word o ∷ (operand_words b ++ rest))
    → operand (operand_words b ++ rest) ≡ Some (operand_meant b, rest)
    → expression_by operand (operand_words a ++ op_word o ∷ (operand_words b ++ rest))
    ≡ cond (is_chained o) (further operand o (length rest) (operation o (operand_meant a) (operand_meant b)) rest) (Some (operation o (operand_meant a) (operand_meant b), rest))
unfolding operated
pair_back operand o a b rest h k =
    first_back operand a (op_word o ∷ (operand_words b ++ rest)) h
    ∙ ap (λ f. either f (Some (operand_meant a, op_word o ∷ (operand_words b ++ rest))) (λ o. then_read (operand o.1) (λ f. cond (is_chained o.0) (further operand o.0 (length f.1) (operation o.0 (operand_meant a) f.0) f.1) (Some (operation o.0 (operand_meant a) f.0, f.1)))))
    (is_op o (operand_words b ++ rest)).first
    ∙ ap (λ f. then_read f (λ f. cond (is_chained o) (further operand o (length f.1) (operation o (operand_meant a) f.0) f.1) (Some (operation o (operand_meant a) f.0, f.1)))) k

record ChainRead (operand : List Symbol → Found Said) (o : Op) (c : Chain) (rest : List Symbol) : Type 0 where
  most : ℕ
  enough : length rest ≤ most
  are : expression_by operand (chain_words o c ++ rest) ≡ further operand o most (chain_meant o c) rest

pair_chain : (operand : List Symbol → Found Said) (o : Op) (a b : Operand) (rest : List Symbol) → is_chained o ≡ true
    → operand (operand_words a ++ op_word o ∷ (operand_words b ++ rest)) ≡ Some (operand_meant a, op_word o ∷ (operand_words b ++ rest))
    → operand (operand_words b ++ rest) ≡ Some (operand_meant b, rest) → ChainRead operand o (pair a b) rest
pair_chain operand o a b rest chained h k = record {
  most = length rest;
  enough = omega arith;
  are = ap (expression_by operand) (append_assoc (operand_words a) (op_word o ∷ operand_words b) rest) ∙ pair_back operand o a b rest h k ∙ cond-true (is_chained o) _ _ chained;
}

longer_chain : (operand : List Symbol → Found Said) (o : Op) (c : Chain) (b : Operand) (rest : List Symbol) → ChainRead operand o c (op_word o ∷ (operand_words b ++ rest))
    → operand (operand_words b ++ rest) ≡ Some (operand_meant b, rest) → ChainRead operand o (longer c b) rest
longer_chain operand o c b rest r k =
    let le = r.enough in
    let more : length rest + 1 ≤ r.most = omega (arith, le, length-append (operand_words b) rest) in
    record {
      most = r.most - 1;
      enough = omega arith;
      are = ap (expression_by operand) (append_assoc (chain_words o c) (op_word o ∷ operand_words b) rest) ∙ r.are
          ∙ further_more operand o r.most (r.most - 1) (chain_meant o c) (operand_meant b) (op_word o ∷ (operand_words b ++ rest)) (operand_words b ++ rest) rest (omega arith) (is_op o (operand_words b ++ rest)).itself k;
    }

chain_ends : (operand : List Symbol → Found Said) (o : Op) (c : Chain) (rest : List Symbol) → Stops rest → ChainRead operand o c rest → expression_by operand (chain_words o c ++ rest) ≡ Some (chain_meant o c, rest)
chain_ends operand o c rest stops r = r.are ∙ further_end operand o r.most (chain_meant o c) rest (stops.no_further o)

only_ends : (operand : List Symbol → Found Said) (a : Operand) (rest : List Symbol) → Stops rest → operand (operand_words a ++ rest) ≡ Some (operand_meant a, rest)
    → expression_by operand (operand_words a ++ rest) ≡ Some (operand_meant a, rest)
unfolding operated
only_ends operand a rest stops h = first_back operand a rest h ∙ (let e = stops.no_op in rw e refl)

pair_ends : (operand : List Symbol → Found Said) (o : Op) (a b : Operand) (rest : List Symbol) → Stops rest
    → operand (operand_words a ++ op_word o ∷ (operand_words b ++ rest)) ≡ Some (operand_meant a, op_word o ∷ (operand_words b ++ rest))
    → operand (operand_words b ++ rest) ≡ Some (operand_meant b, rest)
    → expression_by operand (words (between o a b) ++ rest) ≡ Some (meant (between o a b), rest)
pair_ends operand o a b rest stops h k =
    ap (expression_by operand) (append_assoc (operand_words a) (op_word o ∷ operand_words b) rest) ∙ pair_back operand o a b rest h k
    ∙ ap (λ f. cond (is_chained o) f (Some (operation o (operand_meant a) (operand_meant b), rest))) (further_end operand o (length rest) (operation o (operand_meant a) (operand_meant b)) rest (stops.no_further o))
    ∙ elim (cases_Bool (is_chained o)) [ inl t ↦ cond-true (is_chained o) _ _ t | inr f ↦ cond-false (is_chained o) _ _ f ]

not_ends : (operand : List Symbol → Found Said) (a : Operand) (rest : List Symbol) → operand (operand_words a ++ rest) ≡ Some (operand_meant a, rest) → expression_by operand (words (negated a) ++ rest) ≡ Some (meant (negated a), rest)
unfolding expression_by
not_ends operand a rest h = rw h refl

flip_ends : (operand : List Symbol → Found Said) (a : Operand) (rest : List Symbol) → operand (operand_words a ++ rest) ≡ Some (operand_meant a, rest) → expression_by operand (words (complemented a) ++ rest) ≡ Some (meant (complemented a), rest)
unfolding expression_by
flip_ends operand a rest h = rw h refl

mutual
  operand_back : (o : Operand) (depth : ℕ) (rest : List Symbol) → length (operand_words o) ≤ depth → Follows rest → operand_within depth (operand_words o ++ rest) ≡ Some (operand_meant o, rest)
  operand_back (named i) depth rest le h = simple_within depth (named i) rest h (λ w e. cc)
  operand_back (number value) depth rest le h = simple_within depth (number value) rest h (λ w e. cc)
  operand_back (number_of value width) depth rest le h = simple_within depth (number_of value width) rest h (λ w e. cc)
  operand_back (constant b) depth rest le h = simple_within depth (constant b) rest h (λ w e. cc)
  operand_back (bracketed w) zero rest le h = absurd (omega (arith, le))
  operand_back (bracketed w) (suc depth) rest le h =
      bracket_within depth w rest (written_back w depth (symbol.Sign sign.Close ∷ rest) (omega (arith, le, length-append (words w) (symbol.Sign sign.Close ∷ []))) (stops_close rest))

  chain_back : (c : Chain) (o : Op) (depth : ℕ) (rest : List Symbol) → is_chained o ≡ true → length (chain_words o c) ≤ depth → Follows rest → ChainRead (operand_within depth) o c rest
  chain_back (pair a b) o depth rest chained le h =
      let n = length-append (operand_words a) (op_word o ∷ operand_words b) in
      pair_chain (operand_within depth) o a b rest chained
      (operand_back a depth (op_word o ∷ (operand_words b ++ rest)) (omega (arith, le, n)) (is_op o (operand_words b ++ rest)).follows)
      (operand_back b depth rest (omega (arith, le, n)) h)
  chain_back (longer c b) o depth rest chained le h =
      let n = length-append (chain_words o c) (op_word o ∷ operand_words b) in
      longer_chain (operand_within depth) o c b rest
      (chain_back c o depth (op_word o ∷ (operand_words b ++ rest)) chained (omega (arith, le, n)) (is_op o (operand_words b ++ rest)).follows)
      (operand_back b depth rest (omega (arith, le, n)) h)

  written_back : (w : Written) (depth : ℕ) (rest : List Symbol) → length (words w) ≤ depth → Stops rest → expression_by (operand_within depth) (words w ++ rest) ≡ Some (meant w, rest)
  written_back (only a) depth rest le h = only_ends (operand_within depth) a rest h (operand_back a depth rest le h.follows)
  written_back (negated a) depth rest le h = not_ends (operand_within depth) a rest (operand_back a depth rest (omega (arith, le)) h.follows)
  written_back (complemented a) depth rest le h = flip_ends (operand_within depth) a rest (operand_back a depth rest (omega (arith, le)) h.follows)
  written_back (between o a b) depth rest le h =
      let n = length-append (operand_words a) (op_word o ∷ operand_words b) in
      pair_ends (operand_within depth) o a b rest h
      (operand_back a depth (op_word o ∷ (operand_words b ++ rest)) (omega (arith, le, n)) (is_op o (operand_words b ++ rest)).follows)
      (operand_back b depth rest (omega (arith, le, n)) h.follows)
  written_back (all c) depth rest le h = chain_ends (operand_within depth) op.And c rest h (chain_back c op.And depth rest refl le h.follows)
  written_back (any c) depth rest le h = chain_ends (operand_within depth) op.Or c rest h (chain_back c op.Or depth rest refl le h.follows)

pub expression_back : (w : Written) → expression_of (words w) ≡ Some (meant w)
unfolding expression_of
expression_back w =
    let read = expression_by (operand_within (length (words w))) in
    ap (λ f. then_read f (λ f. alone f.0 f.1)) (ap read (sym (append-nil (words w))) ∙ written_back w (length (words w)) [] (omega arith) stops_nil)
