-- A line's form, in both directions.
use Rattle.std.proofs.Common.{◌≡◌, true, false, append_assoc, arith, List, [], ◌∷◌, ◌++◌, Option, Some, None, refl, sym, ap, ◌∙◌, subst, inl, inr}
use Rattle.std.proofs.lemmas.List.{append-nil}
use Rattle.occ_syntax.specs.declared.scope.Kind.{Kind}
use Rattle.occ_syntax.specs.declared.scope.Kind.TheVariants as kind
use Rattle.occ_lex.specs.declared.symbol.Keyword.{Keyword}
use Rattle.occ_lex.specs.declared.symbol.Keyword.TheVariants as word
use Rattle.occ_lex.specs.declared.symbol.Sign.{Sign}
use Rattle.occ_lex.specs.declared.symbol.Sign.TheVariants as sign
use Rattle.occ_lex.specs.declared.symbol.Symbol.{Symbol}
use Rattle.occ_lex.specs.declared.symbol.Symbol.TheVariants as symbol
use Rattle.occ_parse_forms.specs.declared.form.Declared.{Declared}
use Rattle.occ_parse_forms.specs.declared.form.Declared.TheVariants as declared
use Rattle.occ_parse_forms.specs.declared.form.Group.{Group}
use Rattle.occ_parse_forms.specs.declared.form.Group.TheVariants as word_of
use Rattle.occ_parse_forms.specs.declared.form.Item.{Item}
use Rattle.occ_parse_forms.specs.declared.form.Times.{Times}
use Rattle.occ_parse_forms.specs.declared.line.Start.{Start}
use Rattle.occ_parse_forms.specs.declared.line.Start.TheVariants as start
use Rattle.occ_parse_forms.specs.Lines.{list_words, front_words, declared_words, group_word, times_words, IsAssignment, IsWritten, IsGuard, IsHeader, IsDeclaration, Says, IsForm}
use Rattle.occ_parse_forms.specs.Reading.{header_of, declaration_of, statement_of, times_of, group_of, start_of, started, form_of}
use Rattle.occ_parse_forms.specs.Shape.{Said, Waiting, Shape, header, close, skip, stop, assign, receive, send, group, declare, condition, guard, nothing}
use Rattle.occ_parse_forms.specs.Symbols.{then_read, alone, behind_sign, behind_word, name_first, numeral_first}
use Rattle.occ_parse_forms.specs.Written.{Operand, named, number, number_of, constant, bracketed, Chain, pair, longer, Written, only, negated, complemented, between, all, any, operand_words, chain_words, op_word, words, item_words}
use Rattle.occ_syntax.specs.declared.expr.Op.{Op}
use Rattle.occ_syntax.specs.declared.expr.Op.TheVariants as op
use Rattle.occ_parse_forms.proofs.Basics.{inspect, read_ok, alone_ok, some_is, behind_ok, name_ok, numeral_ok}
use Rattle.occ_parse_forms.proofs.Declarations.{header_ok, header_back, declaration_ok, declaration_back}
use Rattle.occ_parse_forms.proofs.Statements.{statement_ok, assign_back, guard_said, input_said, output_said, condition_said}

-- ---- what is read is spelled so

times_ok : (symbols : List Symbol) (times : Times) → times_of symbols ≡ Some times → symbols ≡ times_words (Some times)
unfolding times_of
times_ok symbols times h =
    let n = read_ok (name_first symbols) (λ n. then_read (behind_sign sign.Equal n.1) (λ rest. then_read (numeral_first rest) (λ b. then_read (behind_word word.For b.1) (λ rest. then_read (numeral_first rest) (λ c. alone (record { index = n.0; base = b.0; count = c.0 }) c.1))))) times h in
    let e = read_ok (behind_sign sign.Equal n.0.1) (λ rest. then_read (numeral_first rest) (λ b. then_read (behind_word word.For b.1) (λ rest. then_read (numeral_first rest) (λ c. alone (record { index = n.0.0; base = b.0; count = c.0 }) c.1)))) times n.2 in
    let b = read_ok (numeral_first e.0) (λ b. then_read (behind_word word.For b.1) (λ rest. then_read (numeral_first rest) (λ c. alone (record { index = n.0.0; base = b.0; count = c.0 }) c.1))) times e.2 in
    let f = read_ok (behind_word word.For b.0.1) (λ rest. then_read (numeral_first rest) (λ c. alone (record { index = n.0.0; base = b.0.0; count = c.0 }) c.1)) times b.2 in
    let c = read_ok (numeral_first f.0) (λ c. alone (record { index = n.0.0; base = b.0.0; count = c.0 }) c.1) times f.2 in
    let a = alone_ok (record { index = n.0.0; base = b.0.0; count = c.0.0 }) times c.0.1 c.2 in
    name_ok symbols n.0 n.1 ∙ ap (λ r. symbol.Name n.0.0 ∷ r) (behind_ok (symbol.Sign sign.Equal) n.0.1 e.0 e.1
    ∙ ap (λ r. symbol.Sign sign.Equal ∷ r) (numeral_ok e.0 b.0 b.1 ∙ ap (λ r. symbol.Numeral b.0.0 ∷ r) (behind_ok (symbol.Keyword word.For) b.0.1 f.0 f.1
    ∙ ap (λ r. symbol.Keyword word.For ∷ r) (numeral_ok f.0 c.0 c.1 ∙ ap (λ r. symbol.Numeral c.0.0 ∷ r) a.0))))
    ∙ ap (λ t. times_words (Some t)) a.1

group_ok : (g : Group) (rest : List Symbol) (s : Shape) → group_of g rest ≡ Some s → Says (group_word g ∷ rest) s
group_ok g [] s h = subst (Says (group_word g ∷ [])) (some_is (group g None) s h) refl
group_ok g (t ∷ rest) s h =
    let r = read_ok (times_of (t ∷ rest)) (λ times. Some (group g (Some times))) s h in
    subst (Says (group_word g ∷ t ∷ rest)) (some_is (group g (Some r.0)) s r.2) (ap (λ r. group_word g ∷ r) (times_ok (t ∷ rest) r.0 r.1))

-- the first symbol of a line that goes on in a way
abbrev IsStart : Start → Symbol → Type 0
IsStart start.Header s = s ≡ symbol.Keyword word.Proc
IsStart start.Close s = s ≡ symbol.Sign sign.Colon
IsStart start.Skip s = s ≡ symbol.Keyword word.Skip
IsStart start.Stop s = s ≡ symbol.Keyword word.Stop
IsStart (start.Group g) s = s ≡ group_word g
IsStart start.Declaration s = Unit {0}
IsStart start.Other s = Unit {0}

word_starts : (k : Keyword) → IsStart (start_of (symbol.Keyword k)) (symbol.Keyword k)
word_starts word.Proc = refl
word_starts word.Skip = refl
word_starts word.Stop = refl
word_starts word.Seq = refl
word_starts word.Par = refl
word_starts word.If = refl
word_starts word.Alt = refl
word_starts word.Chan = tt
word_starts (word.Width width) = tt
word_starts k = tt

sign_starts : (s : Sign) → IsStart (start_of (symbol.Sign s)) (symbol.Sign s)
sign_starts sign.Colon = refl
sign_starts sign.OpenIndex = tt
sign_starts s = tt

starts : (s : Symbol) → IsStart (start_of s) s
starts (symbol.Keyword k) = word_starts k
starts (symbol.Sign s) = sign_starts s
starts (symbol.Name name) = tt
starts (symbol.Numeral value) = tt

alone_says : (one : Shape) (word s : Symbol) (rest : List Symbol) (f : Shape) → Says (word ∷ []) one → s ≡ word → alone one rest ≡ Some f → Says (s ∷ rest) f
alone_says one word s rest f said e h =
    let a = alone_ok one f rest h in
    subst (Says (s ∷ rest)) a.1 (subst (λ r. Says r one) (λ i. sym e i ∷ sym a.0 i) said)

started_ok : (st : Start) (s : Symbol) (rest : List Symbol) (f : Shape) → IsStart st s → started st s rest ≡ Some f → Says (s ∷ rest) f
started_ok start.Header s rest f e h =
    let r = read_ok (header_of rest) (λ h. Some (header h.0 h.1)) f h in
    subst (Says (s ∷ rest)) (some_is (header r.0.0 r.0.1) f r.2) (subst (λ s. IsHeader (s ∷ rest) r.0.0 r.0.1) (sym e) (header_ok rest r.0 r.1))
started_ok start.Close s rest f e h = alone_says close (symbol.Sign sign.Colon) s rest f refl e h
started_ok start.Skip s rest f e h = alone_says skip (symbol.Keyword word.Skip) s rest f refl e h
started_ok start.Stop s rest f e h = alone_says stop (symbol.Keyword word.Stop) s rest f refl e h
started_ok (start.Group g) s rest f e h = subst (λ s. Says (s ∷ rest) f) (sym e) (group_ok g rest f h)
started_ok start.Declaration s rest f e h =
    let r = read_ok (declaration_of (s ∷ rest)) (λ d. Some (declare d.0 d.1)) f h in
    subst (Says (s ∷ rest)) (some_is (declare r.0.0 r.0.1) f r.2) (declaration_ok (s ∷ rest) r.0 r.1)
started_ok start.Other s rest f e h = statement_ok (s ∷ rest) f h

pub form_ok : (symbols : List Symbol) (f : Shape) → form_of symbols ≡ Some f → Says symbols f
form_ok [] f h = absurd cc
form_ok (s ∷ rest) f h = started_ok (start_of s) s rest f (starts s) h

-- ---- what is spelled is read

record Begins (st : Start) (symbols : List Symbol) : Type 0 where
  first : Symbol
  rest : List Symbol
  are : symbols ≡ first ∷ rest
  begins : start_of first ≡ st

operand_begins : (a : Operand) (more : List Symbol) → Begins start.Other (operand_words a ++ more)
operand_begins (named i) more = record { first = _; rest = _; are = refl; begins = refl }
operand_begins (number value) more = record { first = _; rest = _; are = refl; begins = refl }
operand_begins (number_of value width) more = record { first = _; rest = _; are = refl; begins = refl }
operand_begins (constant true) more = record { first = _; rest = _; are = refl; begins = refl }
operand_begins (constant false) more = record { first = _; rest = _; are = refl; begins = refl }
operand_begins (bracketed w) more = record { first = _; rest = _; are = refl; begins = refl }

moved_start : (st : Start) (a b : List Symbol) → a ≡ b → Begins st b → Begins st a
moved_start st a b e h = record { first = h.first; rest = h.rest; are = e ∙ h.are; begins = h.begins }

chain_begins : (o : Op) (c : Chain) (more : List Symbol) → Begins start.Other (chain_words o c ++ more)
chain_begins o (pair a b) more = moved_start start.Other _ _ (append_assoc (operand_words a) (op_word o ∷ operand_words b) more) (operand_begins a ((op_word o ∷ operand_words b) ++ more))
chain_begins o (longer c b) more = moved_start start.Other _ _ (append_assoc (chain_words o c) (op_word o ∷ operand_words b) more) (chain_begins o c ((op_word o ∷ operand_words b) ++ more))

words_begin : (w : Written) (more : List Symbol) → Begins start.Other (words w ++ more)
words_begin (only a) more = operand_begins a more
words_begin (negated a) more = record { first = _; rest = _; are = refl; begins = refl }
words_begin (complemented a) more = record { first = _; rest = _; are = refl; begins = refl }
words_begin (between o a b) more = moved_start start.Other _ _ (append_assoc (operand_words a) (op_word o ∷ operand_words b) more) (operand_begins a ((op_word o ∷ operand_words b) ++ more))
words_begin (all c) more = chain_begins op.And c more
words_begin (any c) more = chain_begins op.Or c more

items_begin : (i : Item) (items : List Item) (more : List Symbol) → Begins start.Other (list_words item_words (i ∷ items) ++ more)
items_begin i [] more = record { first = _; rest = _; are = refl; begins = refl }
items_begin i (j ∷ items) more = record { first = _; rest = _; are = refl; begins = refl }

front_begins : (d : Declared) (k : Kind) (more : List Symbol) → Begins start.Declaration (front_words d k ++ more)
front_begins (declared.Plain name) (kind.Var width) more = record { first = _; rest = _; are = refl; begins = refl }
front_begins (declared.Plain name) (kind.Chan width mark) more = record { first = _; rest = _; are = refl; begins = refl }
front_begins (declared.Element name place) (kind.Var width) more = record { first = _; rest = _; are = refl; begins = refl }
front_begins (declared.Element name place) (kind.Chan width mark) more = record { first = _; rest = _; are = refl; begins = refl }
front_begins (declared.Array name count) (kind.Var width) more = record { first = _; rest = _; are = refl; begins = refl }
front_begins (declared.Array name count) (kind.Chan width mark) more = record { first = _; rest = _; are = refl; begins = refl }

other_is : (symbols : List Symbol) → Begins start.Other symbols → form_of symbols ≡ statement_of symbols
other_is symbols b = ap form_of b.are ∙ ap (λ st. started st b.first b.rest) b.begins ∙ ap statement_of (sym b.are)

declaration_is : (symbols : List Symbol) → Begins start.Declaration symbols → form_of symbols ≡ then_read (declaration_of symbols) (λ d. Some (declare d.0 d.1))
declaration_is symbols b =
    ap form_of b.are ∙ ap (λ st. started st b.first b.rest) b.begins ∙ ap (λ ts. then_read (declaration_of ts) (λ d. Some (declare d.0 d.1))) (sym b.are)

some_begins : (symbols : List Symbol) (items : List Item) (values : List Said) → IsAssignment symbols items values → Begins start.Other symbols
some_begins symbols [] values h = absurd (omega (arith, h.3))
some_begins symbols (i ∷ items) values h = moved_start start.Other _ _ h.5 (items_begin i items (symbol.Sign sign.Becomes ∷ list_words words h.0))

written_begins : (symbols : List Symbol) (s : Said) → IsWritten symbols s → Begins start.Other symbols
written_begins symbols s h = moved_start start.Other _ _ (h.1 ∙ sym (append-nil (words h.0))) (words_begin h.0 [])

guard_begins : (symbols : List Symbol) (c : Said) (w : Waiting) → IsGuard symbols c w → Begins start.Other symbols
guard_begins symbols c w h = moved_start start.Other _ _ (h.2 ∙ ap (λ f. f ++ symbol.Sign sign.Ampersand ∷ h.1) h.3.1) (words_begin h.3.0 (symbol.Sign sign.Ampersand ∷ h.1))

group_back : (g : Group) (times : Option Times) → form_of (group_word g ∷ times_words times) ≡ Some (group g times)
unfolding times_of
group_back word_of.Seq None = refl
group_back word_of.Par None = refl
group_back word_of.If None = refl
group_back word_of.Alt None = refl
group_back word_of.Seq (Some times) = refl
group_back word_of.Par (Some times) = refl
group_back word_of.If (Some times) = refl
group_back word_of.Alt (Some times) = refl

declare_back : (symbols : List Symbol) (k : Kind) (ds : List Declared) → IsDeclaration symbols k ds → form_of symbols ≡ Some (declare k ds)
declare_back symbols k [] h = absurd h
declare_back symbols k (d ∷ ds) h =
    let spelled = front_words d k ++ (list_words declared_words (d ∷ ds) ++ symbol.Sign sign.Colon ∷ []) in
    ap form_of h.3 ∙ declaration_is spelled (front_begins d k (list_words declared_words (d ∷ ds) ++ symbol.Sign sign.Colon ∷ []))
    ∙ ap (λ r. then_read r (λ d. Some (declare d.0 d.1))) (declaration_back k d ds h.0 h.1 h.2)

pub form_back : (symbols : List Symbol) (f : Shape) → Says symbols f → form_of symbols ≡ Some f
form_back symbols (header name params) h =
    ap form_of h.2 ∙ ap (λ r. then_read r (λ h. Some (header h.0 h.1))) (header_back name h.0 params h.1)
form_back symbols close h = ap form_of h
form_back symbols skip h = ap form_of h
form_back symbols stop h = ap form_of h
form_back symbols (assign left right) h = other_is symbols (some_begins symbols left right h) ∙ assign_back symbols left right h
form_back symbols (receive chan var) h = other_is symbols (record { first = _; rest = _; are = h; begins = refl }) ∙ input_said symbols chan var h
form_back symbols (send chan value) h = other_is symbols (record { first = _; rest = _; are = h.1; begins = refl }) ∙ output_said symbols chan value h
form_back symbols (group g times) h = ap form_of h ∙ group_back g times
form_back symbols (declare k ds) h = declare_back symbols k ds h
form_back symbols (condition c) h = other_is symbols (written_begins symbols c h) ∙ condition_said symbols c h
form_back symbols (guard c w) h = other_is symbols (guard_begins symbols c w h) ∙ guard_said symbols c w h
form_back symbols nothing h = absurd h

-- ---- forms

pub said_form : (symbols : List Symbol) (f : Shape) → Says symbols f → IsForm symbols f
said_form symbols (header name params) h = h
said_form symbols close h = h
said_form symbols skip h = h
said_form symbols stop h = h
said_form symbols (assign left right) h = h
said_form symbols (receive chan var) h = h
said_form symbols (send chan value) h = h
said_form symbols (group g times) h = h
said_form symbols (declare k ds) h = h
said_form symbols (condition c) h = h
said_form symbols (guard c w) h = h
said_form symbols nothing h = absurd h

pub no_form : (symbols : List Symbol) → form_of symbols ≡ None → IsForm symbols nothing
no_form symbols h = λ s said. (let e : None ≡ Some s = sym h ∙ form_back symbols s said in absurd cc)

abbrev or_nothing : Option Shape → Shape
or_nothing None = nothing
or_nothing (Some s) = s

-- a form is what the symbols are read as, and nothing where they are read as none
is_read : (symbols : List Symbol) (f : Shape) → IsForm symbols f → or_nothing (form_of symbols) ≡ f
is_read symbols (header name params) h = ap or_nothing (form_back symbols (header name params) h)
is_read symbols close h = ap or_nothing (form_back symbols close h)
is_read symbols skip h = ap or_nothing (form_back symbols skip h)
is_read symbols stop h = ap or_nothing (form_back symbols stop h)
is_read symbols (assign left right) h = ap or_nothing (form_back symbols (assign left right) h)
is_read symbols (receive chan var) h = ap or_nothing (form_back symbols (receive chan var) h)
is_read symbols (send chan value) h = ap or_nothing (form_back symbols (send chan value) h)
is_read symbols (group g times) h = ap or_nothing (form_back symbols (group g times) h)
is_read symbols (declare k ds) h = ap or_nothing (form_back symbols (declare k ds) h)
is_read symbols (condition c) h = ap or_nothing (form_back symbols (condition c) h)
is_read symbols (guard c w) h = ap or_nothing (form_back symbols (guard c w) h)
is_read symbols nothing h = elim (inspect (form_of symbols)) [
  | inl n ↦ ap or_nothing n
  | inr s ↦ absurd (h s.0 (form_ok symbols s.0 s.1))
]

pub only_form : (symbols : List Symbol) (s t : Shape) → IsForm symbols s → IsForm symbols t → s ≡ t
only_form symbols s t h k = sym (is_read symbols s h) ∙ is_read symbols t k
