-- Expressions are read as they are spelled.
use Rattle.std.proofs.Common.{◌≡◌, ℕ, zero, suc, inl, inr, Bool, true, false, List, [], ◌∷◌, ◌++◌, length, Some, None, refl, sym, ap, ◌∙◌, append_assoc, cond}
use Rattle.std.proofs.lemmas.List.{append-nil}
use Rattle.std.proofs.lemmas.Bool.{cases_Bool, cond-true, cond-false}
use Rattle.occ_lex.specs.occ_base.declared.width.Width.{Width}
use Rattle.occ_syntax.specs.declared.expr.Op.{Op}
use Rattle.occ_syntax.specs.declared.expr.Op.TheVariants as op
use Rattle.occ_lex.specs.declared.symbol.Keyword.{Keyword}
use Rattle.occ_lex.specs.declared.symbol.Keyword.TheVariants as word
use Rattle.occ_lex.specs.declared.symbol.Sign.{Sign}
use Rattle.occ_lex.specs.declared.symbol.Sign.TheVariants as sign
use Rattle.occ_lex.specs.declared.symbol.Symbol.{Symbol}
use Rattle.occ_lex.specs.declared.symbol.Symbol.TheVariants as symbol
use Rattle.occ_parse_forms.specs.Lines.{IsWritten}
use Rattle.occ_parse_forms.specs.Reading.{item_behind, width_in_brackets, truth_in, plain_operand, op_in_word, op_in_sign, op_in, op_first, is_chained, further, operated, expression_by, operand_with, operand_within, expression_of}
use Rattle.occ_parse_forms.specs.Shape.{Said, item, numeral, typed, truth, negation, complement, operation}
use Rattle.occ_parse_forms.specs.Symbols.{Found, then_read, alone, behind, behind_sign, behind_word, width_first}
use Rattle.occ_parse_forms.specs.Written.{Operand, named, number, number_of, constant, bracketed, Chain, pair, longer, Written, only, negated, complemented, between, all, any, op_word, truth_word, operand_words, chain_words, words, operand_meant, chain_meant, meant}
use Rattle.occ_parse_forms.proofs.Basics.{inspect, read_ok, alone_ok, some_is, behind_ok, width_ok}
use Rattle.occ_parse_forms.proofs.SoundItems.{item_behind_ok}

-- an operand, an expression and a chain in front of symbols, with what each says
pub record HasOperand (symbols : List Symbol) (f : Said × List Symbol) : Type 0 where
  pub operand : Operand
  pub spelled : symbols ≡ operand_words operand ++ f.1
  pub says : f.0 ≡ operand_meant operand

pub record HasWritten (symbols : List Symbol) (f : Said × List Symbol) : Type 0 where
  pub written : Written
  pub spelled : symbols ≡ words written ++ f.1
  pub says : f.0 ≡ meant written

record HasChain (o : Op) (symbols : List Symbol) (f : Said × List Symbol) : Type 0 where
  chain : Chain
  spelled : symbols ≡ chain_words o chain ++ f.1
  says : f.0 ≡ chain_meant o chain

abbrev pub Operands : (List Symbol → Found Said) → Type 0
Operands read = (symbols : List Symbol) (f : Said × List Symbol) → read symbols ≡ Some f → HasOperand symbols f

abbrev pub Expressions : (List Symbol → Found Said) → Type 0
Expressions read = (symbols : List Symbol) (f : Said × List Symbol) → read symbols ≡ Some f → HasWritten symbols f

-- ---- operands

in_brackets_ok : (symbols : List Symbol) (f : Width × List Symbol) → width_in_brackets symbols ≡ Some f
    → symbols ≡ symbol.Sign sign.Open ∷ symbol.Keyword (word.Width f.0) ∷ symbol.Sign sign.Close ∷ f.1
unfolding width_in_brackets
in_brackets_ok symbols f h =
    let a = read_ok (behind_sign sign.Open symbols) (λ rest. then_read (width_first rest) (λ w. then_read (behind_sign sign.Close w.1) (λ rest. Some (w.0, rest)))) f h in
    let w = read_ok (width_first a.0) (λ w. then_read (behind_sign sign.Close w.1) (λ rest. Some (w.0, rest))) f a.2 in
    let z = read_ok (behind_sign sign.Close w.0.1) (λ rest. Some (w.0.0, rest)) f w.2 in
    let e = some_is (w.0.0, z.0) f z.2 in
    behind_ok (symbol.Sign sign.Open) symbols a.0 a.1
    ∙ ap (λ r. symbol.Sign sign.Open ∷ r) (width_ok a.0 w.0 w.1 ∙ ap (λ r. symbol.Keyword (word.Width w.0.0) ∷ r) (behind_ok (symbol.Sign sign.Close) w.0.1 z.0 z.1))
    ∙ ap (λ f. symbol.Sign sign.Open ∷ symbol.Keyword (word.Width f.0) ∷ symbol.Sign sign.Close ∷ f.1) e

truth_ok : (k : Keyword) (b : Bool) → truth_in k ≡ Some b → symbol.Keyword k ≡ truth_word b
truth_ok word.True b h = ap truth_word (some_is true b h)
truth_ok word.False b h = ap truth_word (some_is false b h)
truth_ok k b h = absurd cc

said_is : (s : Said) (rest : List Symbol) (f : Said × List Symbol) (o : Operand) (symbols : List Symbol) → Some (s, rest) ≡ Some f → symbols ≡ operand_words o ++ rest → s ≡ operand_meant o → HasOperand symbols f
said_is s rest f o symbols h spelled says =
    let e = some_is (s, rest) f h in
    record { operand = o; spelled = spelled ∙ ap (λ f. operand_words o ++ f.1) e; says = sym (ap (λ f. f.0) e) ∙ says }

pub plain_operand_ok : Operands plain_operand
unfolding plain_operand
plain_operand_ok [] f h = absurd cc
plain_operand_ok (symbol.Name name ∷ rest) f h =
    let i = read_ok (item_behind name rest) (λ i. Some (item i.0, i.1)) f h in
    said_is (item i.0.0) i.0.1 f (named i.0.0) (symbol.Name name ∷ rest) i.2 (item_behind_ok name rest i.0 i.1) refl
plain_operand_ok (symbol.Numeral value ∷ rest) f h = elim (inspect (width_in_brackets rest)) [
  | inr w ↦ said_is (typed value w.0.0) w.0.1 f (number_of value w.0.0) (symbol.Numeral value ∷ rest) (rw w.1 at h) (ap (λ r. symbol.Numeral value ∷ r) (in_brackets_ok rest w.0 w.1)) refl
  | inl n ↦ said_is (numeral value) rest f (number value) (symbol.Numeral value ∷ rest) (rw n at h) refl refl
]
plain_operand_ok (symbol.Keyword k ∷ rest) f h =
    let b = read_ok (truth_in k) (λ b. Some (truth b, rest)) f h in
    said_is (truth b.0) rest f (constant b.0) (symbol.Keyword k ∷ rest) b.2 (ap (λ s. s ∷ rest) (truth_ok k b.0 b.1)) refl
plain_operand_ok (symbol.Sign s ∷ rest) f h = absurd cc

pub operand_with_ok : (inside : List Symbol → Found Said) → Expressions inside → Operands (operand_with inside)
unfolding operand_with
operand_with_ok inside ok symbols f h = elim (inspect (behind_sign sign.Open symbols)) [
  | inr a ↦
      let w = read_ok (inside a.0) (λ f. then_read (behind_sign sign.Close f.1) (λ rest. Some (f.0, rest))) f (rw a.1 at h) in
      let z = read_ok (behind_sign sign.Close w.0.1) (λ rest. Some (w.0.0, rest)) f w.2 in
      let e = ok a.0 w.0 w.1 in
      said_is w.0.0 z.0 f (bracketed e.written) symbols z.2
      (behind_ok (symbol.Sign sign.Open) symbols a.0 a.1
      ∙ ap (λ r. symbol.Sign sign.Open ∷ r) (e.spelled ∙ ap (λ r. words e.written ++ r) (behind_ok (symbol.Sign sign.Close) w.0.1 z.0 z.1) ∙ sym (append_assoc (words e.written) (symbol.Sign sign.Close ∷ []) z.0)))
      e.says
  | inl n ↦ plain_operand_ok symbols f (rw n at h)
]

-- ---- chains

op_in_word_ok : (k : Keyword) (o : Op) → op_in_word k ≡ Some o → symbol.Keyword k ≡ op_word o
op_in_word_ok word.Plus o h = ap op_word (some_is op.Plus o h)
op_in_word_ok word.Minus o h = ap op_word (some_is op.Minus o h)
op_in_word_ok word.And o h = ap op_word (some_is op.And o h)
op_in_word_ok word.Or o h = ap op_word (some_is op.Or o h)
op_in_word_ok k o h = absurd cc

op_in_sign_ok : (s : Sign) (o : Op) → op_in_sign s ≡ Some o → symbol.Sign s ≡ op_word o
op_in_sign_ok sign.BitAnd o h = ap op_word (some_is op.BitAnd o h)
op_in_sign_ok sign.BitOr o h = ap op_word (some_is op.BitOr o h)
op_in_sign_ok sign.BitXor o h = ap op_word (some_is op.BitXor o h)
op_in_sign_ok sign.Equal o h = ap op_word (some_is op.Equal o h)
op_in_sign_ok sign.Differ o h = ap op_word (some_is op.Differ o h)
op_in_sign_ok sign.Less o h = ap op_word (some_is op.Less o h)
op_in_sign_ok sign.Greater o h = ap op_word (some_is op.Greater o h)
op_in_sign_ok sign.AtMost o h = ap op_word (some_is op.AtMost o h)
op_in_sign_ok sign.AtLeast o h = ap op_word (some_is op.AtLeast o h)
op_in_sign_ok s o h = absurd cc

op_in_ok : (s : Symbol) (o : Op) → op_in s ≡ Some o → s ≡ op_word o
op_in_ok (symbol.Keyword k) o h = op_in_word_ok k o h
op_in_ok (symbol.Sign s) o h = op_in_sign_ok s o h
op_in_ok (symbol.Name name) o h = absurd cc
op_in_ok (symbol.Numeral value) o h = absurd cc

op_ok : (symbols : List Symbol) (f : Op × List Symbol) → op_first symbols ≡ Some f → symbols ≡ op_word f.0 ∷ f.1
op_ok [] f h = absurd cc
op_ok (s ∷ rest) f h =
    let o = read_ok (op_in s) (λ o. Some (o, rest)) f h in
    ap (λ s. s ∷ rest) (op_in_ok s o.0 o.1) ∙ ap (λ f. op_word f.0 ∷ f.1) (some_is (o.0, rest) f o.2)

chain_is : (o : Op) (c : Chain) (rest : List Symbol) (f : Said × List Symbol) → Some (chain_meant o c, rest) ≡ Some f → HasChain o (chain_words o c ++ rest) f
chain_is o c rest f h =
    let e = some_is (chain_meant o c, rest) f h in
    record { chain = c; spelled = ap (λ f. chain_words o c ++ f.1) e; says = sym (ap (λ f. f.0) e) }

further_ok : (operand : List Symbol → Found Said) → Operands operand → (o : Op) (most : ℕ) (c : Chain) (symbols : List Symbol) (f : Said × List Symbol)
    → further operand o most (chain_meant o c) symbols ≡ Some f → HasChain o (chain_words o c ++ symbols) f
unfolding further
further_ok operand ok o zero c symbols f h = chain_is o c symbols f h
further_ok operand ok o (suc most) c symbols f h = elim (inspect (behind (op_word o) symbols)) [
  | inr a ↦
      let g = read_ok (operand a.0) (λ f. further operand o most (operation o (chain_meant o c) f.0) f.1) f (rw a.1 at h) in
      let b = ok a.0 g.0 g.1 in
      let r = further_ok operand ok o most (longer c b.operand) g.0.1 f (ap (λ s. further operand o most (operation o (chain_meant o c) s) g.0.1) (sym b.says) ∙ g.2) in
      record {
        chain = r.chain;
        spelled = ap (λ r. chain_words o c ++ r) (behind_ok (op_word o) symbols a.0 a.1 ∙ ap (λ r. op_word o ∷ r) b.spelled)
            ∙ sym (append_assoc (chain_words o c) (op_word o ∷ operand_words b.operand) g.0.1) ∙ r.spelled;
        says = r.says;
      }
  | inl n ↦ chain_is o c symbols f (rw n at h)
]

written_is : (s : Said) (rest : List Symbol) (f : Said × List Symbol) (w : Written) (symbols : List Symbol) → Some (s, rest) ≡ Some f → symbols ≡ words w ++ rest → s ≡ meant w → HasWritten symbols f
written_is s rest f w symbols h spelled says =
    let e = some_is (s, rest) f h in
    record { written = w; spelled = spelled ∙ ap (λ f. words w ++ f.1) e; says = sym (ap (λ f. f.0) e) ∙ says }

chained_ok : (o : Op) (symbols : List Symbol) (f : Said × List Symbol) → is_chained o ≡ true → HasChain o symbols f → HasWritten symbols f
chained_ok op.And symbols f h c = record { written = all c.chain; spelled = c.spelled; says = c.says }
chained_ok op.Or symbols f h c = record { written = any c.chain; spelled = c.spelled; says = c.says }
chained_ok o symbols f h c = absurd cc

operated_ok : (operand : List Symbol → Found Said) → Operands operand → (a : Operand) (symbols : List Symbol) (f : Said × List Symbol)
    → operated operand (operand_meant a) symbols ≡ Some f → HasWritten (operand_words a ++ symbols) f
unfolding operated
operated_ok operand ok a symbols f h = elim (inspect (op_first symbols)) [
  | inr o ↦
      let g = read_ok (operand o.0.1) (λ f. cond (is_chained o.0.0) (further operand o.0.0 (length f.1) (operation o.0.0 (operand_meant a) f.0) f.1) (Some (operation o.0.0 (operand_meant a) f.0, f.1))) f (rw o.1 at h) in
      let b = ok o.0.1 g.0 g.1 in
      let both : operand_words a ++ symbols ≡ (operand_words a ++ op_word o.0.0 ∷ operand_words b.operand) ++ g.0.1 =
      ap (λ r. operand_words a ++ r) (op_ok symbols o.0 o.1 ∙ ap (λ r. op_word o.0.0 ∷ r) b.spelled) ∙ sym (append_assoc (operand_words a) (op_word o.0.0 ∷ operand_words b.operand) g.0.1) in
      elim (cases_Bool (is_chained o.0.0)) [
        | inl t ↦
            let k : further operand o.0.0 (length g.0.1) (chain_meant o.0.0 (pair a b.operand)) g.0.1 ≡ Some f =
            ap (λ s. further operand o.0.0 (length g.0.1) (operation o.0.0 (operand_meant a) s) g.0.1) (sym b.says) ∙ sym (cond-true (is_chained o.0.0) _ _ t) ∙ g.2 in
            let r = further_ok operand ok o.0.0 (length g.0.1) (pair a b.operand) g.0.1 f k in
            let w = chained_ok o.0.0 _ f t r in
            record { written = w.written; spelled = both ∙ w.spelled; says = w.says }
        | inr n ↦
            written_is (operation o.0.0 (operand_meant a) g.0.0) g.0.1 f (between o.0.0 a b.operand) (operand_words a ++ symbols) (sym (cond-false (is_chained o.0.0) _ _ n) ∙ g.2) both (ap (operation o.0.0 (operand_meant a)) b.says)
      ]
  | inl n ↦ written_is (operand_meant a) symbols f (only a) (operand_words a ++ symbols) (rw n at h) refl refl
]

pub expression_by_ok : (operand : List Symbol → Found Said) → Operands operand → Expressions (expression_by operand)
unfolding expression_by
expression_by_ok operand ok symbols f h = elim (inspect (behind_word word.Not symbols)) [
  | inr a ↦
      let g = read_ok (operand a.0) (λ f. Some (negation f.0, f.1)) f (rw a.1 at h) in
      let b = ok a.0 g.0 g.1 in
      written_is (negation g.0.0) g.0.1 f (negated b.operand) symbols g.2 (behind_ok (symbol.Keyword word.Not) symbols a.0 a.1 ∙ ap (λ r. symbol.Keyword word.Not ∷ r) b.spelled) (ap negation b.says)
  | inl n ↦
      let h2 = rw n at h in
      elim (inspect (behind_sign sign.Flip symbols)) [
        | inr a ↦
            let g = read_ok (operand a.0) (λ f. Some (complement f.0, f.1)) f (rw a.1 at h2) in
            let b = ok a.0 g.0 g.1 in
            written_is (complement g.0.0) g.0.1 f (complemented b.operand) symbols g.2 (behind_ok (symbol.Sign sign.Flip) symbols a.0 a.1 ∙ ap (λ r. symbol.Sign sign.Flip ∷ r) b.spelled) (ap complement b.says)
        | inl m ↦
            let g = read_ok (operand symbols) (λ f. operated operand f.0 f.1) f (rw m at h2) in
            let b = ok symbols g.0 g.1 in
            let r = operated_ok operand ok b.operand g.0.1 f (ap (λ s. operated operand s g.0.1) (sym b.says) ∙ g.2) in
            record { written = r.written; spelled = b.spelled ∙ r.spelled; says = r.says }
      ]
]

none_ok : Expressions (λ rest. None)
none_ok symbols f h = absurd cc

pub operand_within_ok : (depth : ℕ) → Operands (operand_within depth)
unfolding operand_within
operand_within_ok zero symbols f h = operand_with_ok (λ rest. None) none_ok symbols f h
operand_within_ok (suc depth) symbols f h = operand_with_ok (expression_by (operand_within depth)) (expression_by_ok (operand_within depth) (operand_within_ok depth)) symbols f h

pub expression_ok : (symbols : List Symbol) (s : Said) → expression_of symbols ≡ Some s → IsWritten symbols s
unfolding expression_of
expression_ok symbols s h =
    let g = read_ok (expression_by (operand_within (length symbols)) symbols) (λ f. alone f.0 f.1) s h in
    let w = expression_by_ok (operand_within (length symbols)) (operand_within_ok (length symbols)) symbols g.0 g.1 in
    let a = alone_ok g.0.0 s g.0.1 g.2 in
    (w.written, w.spelled ∙ ap (λ r. words w.written ++ r) a.0 ∙ append-nil (words w.written), sym a.1 ∙ w.says)
