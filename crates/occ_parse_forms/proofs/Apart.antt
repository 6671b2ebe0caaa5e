-- The signs that stand between the parts of a line stand in no item and in no expression.
use Rattle.std.proofs.Common.{◌≡◌, Bool, true, false, [], ◌∷◌, Option, Some, None, refl, ap, ◌∙◌, inl, inr}
use Rattle.std.proofs.lemmas.Bool.{both_ways, cases_Bool}
use Rattle.occ_syntax.specs.declared.expr.Op.{Op}
use Rattle.occ_syntax.specs.declared.expr.Op.TheVariants as op
use Rattle.occ_lex.specs.declared.symbol.Sign.{Sign}
use Rattle.occ_lex.specs.declared.symbol.Sign.TheVariants as sign
use Rattle.occ_lex.specs.declared.symbol.Symbol.TheVariants as symbol
use Rattle.occ_parse_forms.specs.declared.form.Item.{Item}
use Rattle.occ_parse_forms.specs.declared.phrase.Index.{Index}
use Rattle.occ_parse_forms.specs.declared.phrase.Index.TheVariants as index
use Rattle.occ_parse_forms.specs.Written.{Operand, named, number, number_of, constant, bracketed, Chain, pair, longer, Written, only, negated, complemented, between, all, any, op_word, place_words, item_words, operand_words, chain_words, words}
use Rattle.occ_parse_forms.proofs.Basics.{same_is}
use Rattle.occ_parse_forms.proofs.Lists.{is_sign, Free, free_append}

abbrev pub is_outer : Sign → Bool
is_outer sign.Becomes = true
is_outer sign.Ampersand = true
is_outer sign.Query = true
is_outer sign.Bang = true
is_outer sign.Comma = true
is_outer other = false

sign_is : (g h : Sign) → symbol.Sign g ≡ symbol.Sign h → g ≡ h
sign_is g h e = cc

apart : (g at : Sign) → is_outer at ≡ true → is_outer g ≡ false → is_sign at (symbol.Sign g) ≡ false
apart g at h k = elim (cases_Bool (is_sign at (symbol.Sign g))) [
  | inl t ↦ absurd (both_ways (is_outer g) k (ap is_outer (sign_is g at (same_is (symbol.Sign g) (symbol.Sign at) t)) ∙ h))
  | inr f ↦ f
]

op_free : (at : Sign) → is_outer at ≡ true → (o : Op) → is_sign at (op_word o) ≡ false
op_free at h op.Plus = refl
op_free at h op.Minus = refl
op_free at h op.And = refl
op_free at h op.Or = refl
op_free at h op.BitAnd = apart sign.BitAnd at h refl
op_free at h op.BitOr = apart sign.BitOr at h refl
op_free at h op.BitXor = apart sign.BitXor at h refl
op_free at h op.Equal = apart sign.Equal at h refl
op_free at h op.Differ = apart sign.Differ at h refl
op_free at h op.Less = apart sign.Less at h refl
op_free at h op.Greater = apart sign.Greater at h refl
op_free at h op.AtMost = apart sign.AtMost at h refl
op_free at h op.AtLeast = apart sign.AtLeast at h refl

place_free : (at : Sign) → is_outer at ≡ true → (x : Option Index) → Free at (place_words x)
place_free at h None = tt
place_free at h (Some (index.Number value)) = (apart sign.OpenIndex at h refl, (refl, (apart sign.CloseIndex at h refl, tt)))
place_free at h (Some (index.Name name)) = (apart sign.OpenIndex at h refl, (refl, (apart sign.CloseIndex at h refl, tt)))
place_free at h (Some (index.Plus name value)) = (apart sign.OpenIndex at h refl, (refl, (refl, (refl, (apart sign.CloseIndex at h refl, tt)))))
place_free at h (Some (index.Minus name value)) = (apart sign.OpenIndex at h refl, (refl, (refl, (refl, (apart sign.CloseIndex at h refl, tt)))))

pub item_free : (at : Sign) → is_outer at ≡ true → (i : Item) → Free at (item_words i)
item_free at h i = (refl, place_free at h i.index)

mutual
  operand_free : (o : Operand) (at : Sign) → is_outer at ≡ true → Free at (operand_words o)
  operand_free (named i) at h = item_free at h i
  operand_free (number value) at h = (refl, tt)
  operand_free (number_of value width) at h = (refl, (apart sign.Open at h refl, (refl, (apart sign.Close at h refl, tt))))
  operand_free (constant true) at h = (refl, tt)
  operand_free (constant false) at h = (refl, tt)
  operand_free (bracketed w) at h = (apart sign.Open at h refl, free_append at (words w) (symbol.Sign sign.Close ∷ []) (words_free w at h) (apart sign.Close at h refl, tt))

  chain_free : (c : Chain) (o : Op) (at : Sign) → is_outer at ≡ true → Free at (chain_words o c)
  chain_free (pair a b) o at h = free_append at (operand_words a) (op_word o ∷ operand_words b) (operand_free a at h) (op_free at h o, operand_free b at h)
  chain_free (longer c b) o at h = free_append at (chain_words o c) (op_word o ∷ operand_words b) (chain_free c o at h) (op_free at h o, operand_free b at h)

  pub words_free : (w : Written) (at : Sign) → is_outer at ≡ true → Free at (words w)
  words_free (only a) at h = operand_free a at h
  words_free (negated a) at h = (refl, operand_free a at h)
  words_free (complemented a) at h = (apart sign.Flip at h refl, operand_free a at h)
  words_free (between o a b) at h = free_append at (operand_words a) (op_word o ∷ operand_words b) (operand_free a at h) (op_free at h o, operand_free b at h)
  words_free (all c) at h = chain_free c op.And at h
  words_free (any c) at h = chain_free c op.Or at h
