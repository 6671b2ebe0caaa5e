-- Expressions as they are written, with their brackets: the symbols of each, and what it says.
use Rattle.std.specs.Prelude.{ℕ, Bool, true, false, List, [], ◌∷◌, ◌++◌, Option, Some, None}
use Rattle.occ_lex.specs.occ_base.declared.width.Width.{Width}
use Rattle.occ_syntax.specs.declared.expr.Op.{Op}
use Rattle.occ_syntax.specs.declared.expr.Op.TheVariants as op
use Rattle.occ_lex.specs.declared.symbol.Keyword.TheVariants as word
use Rattle.occ_lex.specs.declared.symbol.Sign.TheVariants as sign
use Rattle.occ_lex.specs.declared.symbol.Symbol.{Symbol}
use Rattle.occ_lex.specs.declared.symbol.Symbol.TheVariants as symbol
use Rattle.occ_parse_forms.specs.declared.form.Item.{Item}
use Rattle.occ_parse_forms.specs.declared.phrase.Index.{Index}
use Rattle.occ_parse_forms.specs.declared.phrase.Index.TheVariants as index
use Rattle.occ_parse_forms.specs.Shape.{Said, item, numeral, typed, truth, negation, complement, operation}

mutual
  pub data Operand : Type 0 where
    named : Item → Operand
    number : ℕ → Operand
    number_of : ℕ → Width → Operand
    constant : Bool → Operand
    bracketed : Written → Operand

  -- two operands or more with the same operator between them all
  pub data Chain : Type 0 where
    pair : Operand → Operand → Chain
    longer : Chain → Operand → Chain

  pub data Written : Type 0 where
    only : Operand → Written
    negated : Operand → Written
    complemented : Operand → Written
    between : Op → Operand → Operand → Written
    all : Chain → Written
    any : Chain → Written

-- ---- the symbols

abbrev pub op_word : Op → Symbol
op_word op.Plus = symbol.Keyword word.Plus
op_word op.Minus = symbol.Keyword word.Minus
op_word op.And = symbol.Keyword word.And
op_word op.Or = symbol.Keyword word.Or
op_word op.BitAnd = symbol.Sign sign.BitAnd
op_word op.BitOr = symbol.Sign sign.BitOr
op_word op.BitXor = symbol.Sign sign.BitXor
op_word op.Equal = symbol.Sign sign.Equal
op_word op.Differ = symbol.Sign sign.Differ
op_word op.Less = symbol.Sign sign.Less
op_word op.Greater = symbol.Sign sign.Greater
op_word op.AtMost = symbol.Sign sign.AtMost
op_word op.AtLeast = symbol.Sign sign.AtLeast

abbrev pub index_words : Index → List Symbol
index_words (index.Number value) = symbol.Numeral value ∷ []
index_words (index.Name name) = symbol.Name name ∷ []
index_words (index.Plus name value) = symbol.Name name ∷ symbol.Keyword word.Plus ∷ symbol.Numeral value ∷ []
index_words (index.Minus name value) = symbol.Name name ∷ symbol.Keyword word.Minus ∷ symbol.Numeral value ∷ []

abbrev pub place_words : Option Index → List Symbol
place_words None = []
place_words (Some place) = symbol.Sign sign.OpenIndex ∷ (index_words place ++ symbol.Sign sign.CloseIndex ∷ [])

abbrev pub item_words : Item → List Symbol
item_words i = symbol.Name i.name ∷ place_words i.index

abbrev pub truth_word : Bool → Symbol
truth_word true = symbol.Keyword word.True
truth_word false = symbol.Keyword word.False

abbrev mutual
  pub operand_words : Operand → List Symbol
  operand_words (named i) = item_words i
  operand_words (number value) = symbol.Numeral value ∷ []
  operand_words (number_of value width) =
      symbol.Numeral value ∷ symbol.Sign sign.Open ∷ symbol.Keyword (word.Width width) ∷ symbol.Sign sign.Close ∷ []
  operand_words (constant b) = truth_word b ∷ []
  operand_words (bracketed w) = symbol.Sign sign.Open ∷ (words w ++ symbol.Sign sign.Close ∷ [])

  pub chain_words : Op → Chain → List Symbol
  chain_words o (pair a b) = operand_words a ++ op_word o ∷ operand_words b
  chain_words o (longer c b) = chain_words o c ++ op_word o ∷ operand_words b

  pub words : Written → List Symbol
  words (only a) = operand_words a
  words (negated a) = symbol.Keyword word.Not ∷ operand_words a
  words (complemented a) = symbol.Sign sign.Flip ∷ operand_words a
  words (between o a b) = operand_words a ++ op_word o ∷ operand_words b
  words (all c) = chain_words op.And c
  words (any c) = chain_words op.Or c

-- ---- what is said: brackets are dropped, and a chain is read from the left

abbrev mutual
  pub operand_meant : Operand → Said
  operand_meant (named i) = item i
  operand_meant (number value) = numeral value
  operand_meant (number_of value width) = typed value width
  operand_meant (constant b) = truth b
  operand_meant (bracketed w) = meant w

  pub chain_meant : Op → Chain → Said
  chain_meant o (pair a b) = operation o (operand_meant a) (operand_meant b)
  chain_meant o (longer c b) = operation o (chain_meant o c) (operand_meant b)

  pub meant : Written → Said
  meant (only a) = operand_meant a
  meant (negated a) = negation (operand_meant a)
  meant (complemented a) = complement (operand_meant a)
  meant (between o a b) = operation o (operand_meant a) (operand_meant b)
  meant (all c) = chain_meant op.And c
  meant (any c) = chain_meant op.Or c
