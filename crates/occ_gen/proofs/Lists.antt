-- What tests by computing give.
use Rattle.std.proofs.Common.{◌≡◌, ℕ, zero, suc, ◌+◌, ◌<◌, Bool, true, false, ◌&&◌, eqb, is_none, nat_lt, List, [], ◌∷◌, length, map, Option, None, Some, refl, sym, ap, subst, ◌∙◌, arith}
use Rattle.std.specs.List.{list_all}
use Rattle.std.proofs.lemmas.Bool.{and_parts, eqb-true, ltb-true}
use Rattle.occ_gen.proofs.Spoken.{can_be_spoken, spoken, spoken_formed}
use Rattle.occ_gen.proofs.AcceptedTexts.{text_line}
use Rattle.occ_script.specs.occ_lex.declared.token.TokenKind.TheVariants as token
use Rattle.occ_script.specs.occ_lex.declared.symbol.Keyword.{Keyword}
use Rattle.occ_script.specs.occ_lex.declared.symbol.Keyword.TheVariants as word
use Rattle.occ_script.specs.occ_lex.declared.symbol.Row.{Row}
use Rattle.occ_script.specs.occ_lex.declared.symbol.Symbol.{Symbol}
use Rattle.occ_script.specs.occ_lex.declared.symbol.Symbol.TheVariants as symbol
use Rattle.occ_print_back.specs.occ_parse_forms.Lines.{IsForm}
use Rattle.occ_print_back.specs.occ_parse.declared.bound.Bound.{Bound}
use Rattle.occ_print_back.specs.occ_parse.Limits.{line_limit, stop_at, stopped}
use Rattle.occ_print_back.specs.occ_parse.Reading.{AreForms}
use Rattle.occ_print_back.specs.occ_parse_rules.Forest.{Laid}
use Rattle.occ_print_back.specs.occ_parse_rules.Places.{Place}
use Rattle.occ_print_back.specs.occ_print.Lines.{TextLine}
use Rattle.occ_print_back.specs.occ_print.Spelled.{name_text}
use Rattle.occ_print_back.specs.Placed.{AreSayable, IsBegun, IsSayable, IsWord, LinesAreSayable}
use Rattle.occ_print_back.specs.Read.{line_rows, symbols_read}
use Rattle.occ_script.specs.occ_syntax.Types.{is_width}

pub none_is : {A : Type 0} (o : Option A) → is_none o ≡ true → o ≡ None
none_is None h = refl
none_is (Some x) h = absurd cc

-- a test of each text of a table, at the number of one
pub at_number : (test : List ℕ → Bool) (names : List (List ℕ)) (x : ℕ) → list_all test names ≡ true → x < length names → test (name_text names x) ≡ true
at_number test [] x h l = absurd (omega (arith, l))
at_number test (t ∷ names) zero h l = (and_parts (test t) (list_all test names) h).0
at_number test (t ∷ names) (suc x) h l = at_number test names x (and_parts (test t) (list_all test names) h).1 (omega (arith, l))

-- ---- symbols that can be printed

abbrev is_word : Keyword → Bool
is_word (word.Width w) = is_width w
is_word other = true

abbrev is_sayable : ℕ → Symbol → Bool
is_sayable count (symbol.Name name) = nat_lt name.0 count
is_sayable count (symbol.Numeral value) = nat_lt value 256
is_sayable count (symbol.Keyword k) = is_word k
is_sayable count (symbol.Sign s) = true

abbrev is_begun : List Symbol → Bool
is_begun [] = false
is_begun (s ∷ symbols) = true

abbrev pub line_is_sayable : ℕ → TextLine → Bool
line_is_sayable count l = is_begun l.symbols && list_all (is_sayable count) l.symbols

a_word : (k : Keyword) → is_word k ≡ true → IsWord k
a_word (word.Width w) h = h
a_word other h = tt

sayable : (count : ℕ) (s : Symbol) → is_sayable count s ≡ true → IsSayable count s
sayable count (symbol.Name name) h = ltb-true name.0 count h
sayable count (symbol.Numeral value) h = ltb-true value 256 h
sayable count (symbol.Keyword k) h = a_word k h
sayable count (symbol.Sign s) h = tt

symbols_sayable : (count : ℕ) (symbols : List Symbol) → list_all (is_sayable count) symbols ≡ true → AreSayable count symbols
symbols_sayable count [] h = tt
symbols_sayable count (s ∷ symbols) h =
    let both = and_parts (is_sayable count s) (list_all (is_sayable count) symbols) h in
    (sayable count s both.0, symbols_sayable count symbols both.1)

begun : (symbols : List Symbol) → is_begun symbols ≡ true → IsBegun symbols
begun [] h = absurd cc
begun (s ∷ symbols) h = tt

pub lines_sayable : (count : ℕ) (ls : List TextLine) → list_all (line_is_sayable count) ls ≡ true → LinesAreSayable count ls
lines_sayable count [] h = tt
lines_sayable count (l ∷ ls) h =
    let both = and_parts (line_is_sayable count l) (list_all (line_is_sayable count) ls) h in
    let line = and_parts (is_begun l.symbols) (list_all (is_sayable count) l.symbols) both.0 in
    ((begun l.symbols line.0, symbols_sayable count l.symbols line.1), lines_sayable count ls both.1)

-- ---- each name by itself

abbrev pub here : ℕ → Place
here x = record { name = x; element = None }

plain_read : (symbols : List Symbol) → symbols_read here symbols ≡ symbols
plain_read [] = refl
plain_read (symbol.Name name ∷ symbols) = ap (λ ss. symbol.Name name ∷ ss) (plain_read symbols)
plain_read (symbol.Numeral value ∷ symbols) = ap (λ ss. symbol.Numeral value ∷ ss) (plain_read symbols)
plain_read (symbol.Keyword k ∷ symbols) = ap (λ ss. symbol.Keyword k ∷ ss) (plain_read symbols)
plain_read (symbol.Sign s ∷ symbols) = ap (λ ss. symbol.Sign s ∷ ss) (plain_read symbols)

-- ---- lines in order, of which each can be spelled

abbrev pub in_order : ℕ → List Laid → Bool
in_order n [] = true
in_order n (d ∷ ds) = eqb n d.number && in_order (n + 1) ds

abbrev pub is_spoken : Laid → Bool
is_spoken d = can_be_spoken d.shape

pub forms_of : (n : ℕ) (ds : List Laid) → in_order n ds ≡ true → list_all is_spoken ds ≡ true → AreForms (line_rows here n (map text_line ds)) ds
forms_of n [] h k = tt
forms_of n (d ∷ ds) h k =
    let order = and_parts (eqb n d.number) (in_order (n + 1) ds) h in
    let all = and_parts (is_spoken d) (list_all is_spoken ds) k in
    let form = subst (λ symbols. IsForm symbols d.shape) (sym (plain_read (spoken d.shape))) (spoken_formed d.shape all.0) in
    (record { number = eqb-true n d.number order.0; level = refl; form = form }, forms_of (n + 1) ds order.1 all.1)

-- ---- lines within limits

abbrev pub is_within : Bound → Row → Bool
is_within b row = is_none (line_limit b row)

pub none_stopped : (b : Bound) (rows : List Row) → list_all (is_within b) rows ≡ true → stopped b rows None ≡ (rows, None)
none_stopped b [] h = refl
none_stopped b (row ∷ rows) h =
    let both = and_parts (is_within b row) (list_all (is_within b) rows) h in
    ap (λ o. stop_at row o (stopped b rows None)) (none_is (line_limit b row) both.0) ∙ ap (stop_at row None) (none_stopped b rows both.1)
