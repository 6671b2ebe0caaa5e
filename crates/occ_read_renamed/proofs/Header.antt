-- What a text's header says of its parameters: their names are plain names of the table, their numerals are small, their
-- widths are widths, and each channel has a mark.
use Rattle.std.proofs.Common.{◌≡◌, ℕ, Bool, true, false, cond, nat_lt, nat_le, List, [], ◌∷◌, length, get_or, slice_get, Option, Some, None, Ok, Err, refl, ap, subst, ◌∙◌, ◌&&◌}
use Rattle.std.specs.Prelude.{is_ok, IsTrue}
use Rattle.std.specs.List.{AllByRecursion, list_all}
use Rattle.std.proofs.lemmas.Bool.{and_parts, and_from, lt-ltb}
use Rattle.std.proofs.lemmas.Option.{slice_get_within, get_or_from_slice_get}
use Rattle.occ_nform.specs.occ_base.declared.names.Name.{Name}
use Rattle.occ_nform.specs.occ_base.Names.{place_of, with_text, IsDistinct}
use Rattle.occ_nform.proofs.from_base.Naming.{naming}
use Rattle.occ_renamed.specs.occ_lex.declared.fault.LineFault.TheVariants as fault
use Rattle.occ_renamed.specs.occ_lex.declared.token.Line.{Line}
use Rattle.occ_renamed.specs.occ_lex.declared.token.Token.{Token}
use Rattle.occ_renamed.specs.occ_lex.declared.token.TokenKind.{TokenKind}
use Rattle.occ_renamed.specs.occ_lex.declared.token.TokenKind.TheVariants as kind
use Rattle.occ_renamed.specs.occ_lex.Placed.{IsTokenOf, IsLineOf}
use Rattle.occ_renamed.specs.occ_lex.Rows.{reading_of}
use Rattle.occ_renamed.specs.occ_lex.Spelling.{kind_of}
use Rattle.occ_renamed.specs.occ_lex.Token.{text_of}
use Rattle.occ_renamed.specs.occ_lex.Tokens.{judged}
use Rattle.occ_renamed.proofs.from_lex.Placing.{reading_placed}
use Rattle.occ_renamed.specs.occ_lex.declared.symbol.Row.{Row}
use Rattle.occ_renamed.specs.occ_lex.declared.symbol.Symbol.{Symbol}
use Rattle.occ_renamed.specs.occ_lex.declared.symbol.Symbol.TheVariants as symbol
use Rattle.occ_renamed.specs.occ_lex.Symbols.{Extends, names_with, rows_of, symbol_of, symbols_of, with_names, with_names_of_all}
use Rattle.occ_renamed.proofs.from_lex.Interned.{extends_same, extends_trans, extends_names, extends_all}
use Rattle.occ_renamed.specs.occ_parse_forms.declared.form.Param.{Param}
use Rattle.occ_renamed.specs.occ_parse_forms.Lines.{IsForm, IsMarked, AreParams, param_front}
use Rattle.occ_renamed.specs.occ_parse_forms.Shape.{Shape, header, close}
use Rattle.occ_renamed.specs.occ_parse_rules.Forest.{Forest, no_line, and_line, Laid, lines_at}
use Rattle.occ_renamed.specs.occ_parse_rules.Passing.{param_passes, shape_passes, symbol_passes}
use Rattle.occ_renamed.specs.occ_parse_rules.Sound.{has_width}
use Rattle.occ_renamed.proofs.from_parse_rules.Forms.{form_in, form_sound}
use Rattle.occ_renamed.specs.occ_parse_layout.Whole.{IsProgram}
use Rattle.occ_renamed.specs.occ_parse.declared.bound.Bound.TheVariants as bound
use Rattle.occ_renamed.specs.occ_parse.Limits.{stopped}
use Rattle.occ_renamed.specs.occ_parse.Reading.{AreForms, AreJudged, rows_in, names_in}
use Rattle.occ_renamed.proofs.from_parse.Knowing.{stopped_keeps}
use Rattle.occ_renamed.proofs.from_parse.Small.{declared_small, form_small}
use Rattle.occ_renamed.proofs.from_parse.Texts.{stays, IsOf, AreOf, rows_are, small_all}
use Rattle.occ_nform.specs.occ_nform_table.Lines.{is_name_kind, is_plain}

abbrev pub Table : Type 0
Table = List (List ℕ)

-- ---- tables that grow keep each text single

one_distinct : (names : Table) (k : TokenKind) (s : List ℕ) → IsDistinct names → IsDistinct (names_with names k s)
one_distinct names kind.Name s d = (naming names s).distinct d
one_distinct names kind.Numeral s d = d
one_distinct names kind.Word s d = d
one_distinct names kind.Sign s d = d

names_distinct : (text : List ℕ) (names : Table) (tokens : List Token) → IsDistinct names → IsDistinct (with_names text names tokens)
names_distinct text names [] d = d
names_distinct text names (token ∷ tokens) d = names_distinct text (names_with names token.kind (text_of token text)) tokens (one_distinct names token.kind (text_of token text) d)

pub all_distinct : (text : List ℕ) (names : Table) (lines : List Line) → IsDistinct names → IsDistinct (with_names_of_all text names lines)
all_distinct text names [] d = d
all_distinct text names (line ∷ lines) d = all_distinct text (with_names text names line.tokens) lines (names_distinct text names line.tokens d)

-- ---- the texts of names

-- a symbol that is a name has a plain text in the table
abbrev IsPlainOf : Table → Symbol → Type 0
IsPlainOf t (symbol.Name name) = (s : List ℕ) × (slice_get t name.0 ≡ Some s) × (is_plain s ≡ true)
IsPlainOf t (symbol.Numeral value) = Unit {0}
IsPlainOf t (symbol.Keyword k) = Unit {0}
IsPlainOf t (symbol.Sign s) = Unit {0}

abbrev ArePlain : Table → List Symbol → Type 0
ArePlain t symbols = AllByRecursion (IsPlainOf t) symbols

short_if : {A E : Type 0} (b : Bool) (x : A) (e : E) → is_ok (cond b (Ok x) (Err e)) ≡ true → b ≡ true
short_if true x e h = refl
short_if false x e h = absurd cc

plain_is : (s : List ℕ) → kind_of s ≡ Some kind.Name → IsTrue (is_ok (judged (Some kind.Name) s)) → is_plain s ≡ true
unfolding is_plain
plain_is s h good =
    and_from (nat_le (length s) 32) (is_name_kind (kind_of s)) (short_if (nat_le (length s) 32) (kind.Name, length s) fault.Name good) (ap is_name_kind h)

symbol_plain : (names t : Table) (k : TokenKind) (s : List ℕ) → kind_of s ≡ Some k → IsTrue (is_ok (judged (Some k) s)) → Extends (names_with names k s) t → IsPlainOf t (symbol_of names k s)
symbol_plain names t kind.Name s h good e = (s, stays (with_text names s) t (place_of names s) s e (naming names s).there, plain_is s h good)
symbol_plain names t kind.Numeral s h good e = tt
symbol_plain names t kind.Word s h good e = tt
symbol_plain names t kind.Sign s h good e = tt

symbols_plain : (text : List ℕ) (names t : Table) (tokens : List Token) → AllByRecursion (IsTokenOf text) tokens → Extends (with_names text names tokens) t → ArePlain t (symbols_of text names tokens)
symbols_plain text names t [] h e = tt
symbols_plain text names t (token ∷ tokens) h e =
    let next = names_with names token.kind (text_of token text) in (
      symbol_plain names t token.kind (text_of token text) h.0.spelled h.0.good (extends_trans next (with_names text next tokens) t (extends_names text next tokens) e),
      symbols_plain text next t tokens h.1 e,
    )

rows_plain : (text : List ℕ) (names t : Table) (lines : List Line) → AllByRecursion (IsLineOf text) lines → Extends (with_names_of_all text names lines) t
    → AllByRecursion (λ row. ArePlain t row.symbols) (rows_of text names lines)
rows_plain text names t [] h e = tt
rows_plain text names t (line ∷ lines) h e =
    let next = with_names text names line.tokens in (
      symbols_plain text names t line.tokens h.0.tokens (extends_trans next (with_names_of_all text next lines) t (extends_all text next lines) e),
      rows_plain text next t lines h.1 e,
    )

-- ---- the first line

-- what symbols with plain names in the table say
record IsPlainLine (t : Table) (s : Shape) : Type 0 where
  symbols : List Symbol
  are : AreOf t symbols
  plain : ArePlain t symbols
  form : IsForm symbols s

first_line : (t : Table) (rows : List Row) (line : Laid) (others : List Laid) → AllByRecursion (λ row. AreOf t row.symbols) rows → AllByRecursion (λ row. ArePlain t row.symbols) rows
    → AreForms rows (line ∷ others) → IsPlainLine t line.shape
first_line t [] line others h k f = absurd f
first_line t (row ∷ rows) line others h k f = record { symbols = row.symbols; are = h.0; plain = k.0; form = f.0.form }

header_line : (text : List ℕ) (old : Table) (f : Forest) (p : IsProgram f) → AreJudged bound.Program text old (lines_at 0 f) None → IsPlainLine (names_in text old) (header p.name p.params)
header_line text old f p j =
    let t = names_in text old in
    let rows = rows_in text old in
    let found = (reading_of text).1 in
    let same = extends_same t in
    let placed = (reading_placed text).lines_of_text in
    let are : AllByRecursion (λ row. AreOf t row.symbols) rows = rows_are text old t (reading_of text).0 placed same in
    let plain : AllByRecursion (λ row. ArePlain t row.symbols) rows = rows_plain text old t (reading_of text).0 placed same in
    let rest : Forest = and_line p.last close no_line no_line in
    let whole = and_line p.number (header p.name p.params) p.below rest in
    let forms : AreForms (stopped bound.Program rows found).0 (lines_at 0 whole) = subst (λ g. AreForms (stopped bound.Program rows found).0 (lines_at 0 g)) p.whole j.forms in
    first_line t (stopped bound.Program rows found).0 _ _
    (stopped_keeps (λ row. AreOf t row.symbols) bound.Program rows found are)
    (stopped_keeps (λ row. ArePlain t row.symbols) bound.Program rows found plain)
    forms

-- ---- what it says

-- a number of the table whose text is plain
abbrev pub is_good : Table → ℕ → Bool
is_good t x = nat_lt x (length t) && is_plain (get_or t x [])

passes_one : (t : Table) (s : Symbol) → IsOf t s → IsPlainOf t s → symbol_passes (is_good t) s ≡ true
passes_one t (symbol.Name name) h k =
    and_from (nat_lt name.0 (length t)) (is_plain (get_or t name.0 [])) (lt-ltb _ _ (slice_get_within t name.0 k.0 k.1)) (ap is_plain (get_or_from_slice_get t name.0 k.0 [] k.1) ∙ k.2)
passes_one t (symbol.Numeral value) h k = refl
passes_one t (symbol.Keyword word) h k = h
passes_one t (symbol.Sign s) h k = refl

passes_all : (t : Table) (symbols : List Symbol) → AreOf t symbols → ArePlain t symbols → list_all (symbol_passes (is_good t)) symbols ≡ true
passes_all t [] h k = refl
passes_all t (s ∷ symbols) h k =
    and_from (symbol_passes (is_good t) s) (list_all (symbol_passes (is_good t)) symbols) (passes_one t s h.0 k.0) (passes_all t symbols h.1 k.1)

are_marked : (before : Option (List Symbol)) (groups : List (List Symbol)) (ps : List Param) → AreParams before groups ps → AllByRecursion (λ p. IsMarked p.kind) ps
are_marked before [] [] h = tt
are_marked before [] (p ∷ ps) h = absurd h
are_marked before (g ∷ groups) [] h = absurd h
are_marked before (g ∷ groups) (p ∷ ps) h = (h.0.1, are_marked (Some (param_front p)) groups ps h.1)

pub record AreGood (t : Table) (name : Name) (params : List Param) : Type 0 where
  pub first : is_good t name.0 ≡ true
  pub named : list_all (param_passes (is_good t)) params ≡ true
  pub small : list_all (λ p. declared_small p.declared) params ≡ true
  pub wide : list_all (λ p. has_width p.kind) params ≡ true
  pub marked : AllByRecursion (λ p. IsMarked p.kind) params

says : (t : Table) (name : Name) (params : List Param) → IsPlainLine t (header name params) → shape_passes (is_good t) (header name params) ≡ true
says t name params l = form_in (is_good t) l.symbols (header name params) l.form (passes_all t l.symbols l.are l.plain)

pub header_good : (text : List ℕ) (old : Table) (f : Forest) (p : IsProgram f) → AreJudged bound.Program text old (lines_at 0 f) None → AreGood (names_in text old) p.name p.params
header_good text old f p j =
    let t = names_in text old in
    let l = header_line text old f p j in
    let passes = says t p.name p.params l in
    let parts = and_parts (is_good t p.name.0) (list_all (param_passes (is_good t)) p.params) passes in
    record {
      first = parts.0;
      named = parts.1;
      small = form_small l.symbols (header p.name p.params) l.form (small_all t l.symbols l.are);
      wide = form_sound (is_good t) l.symbols (header p.name p.params) l.form passes;
      marked = are_marked None l.form.0 p.params l.form.1;
    }
