-- What the symbols of a text's lines are: names of the table, small numerals, widths.
use Rattle.std.proofs.Common.{◌≡◌, ℕ, ◌<◌, ◌≤◌, Bool, true, false, cond, nat_lt, nat_le, List, [], ◌∷◌, length, get_or, Option, Some, None, Ok, Err, refl, ap, ◌∙◌, arith, rules, ◌&&◌, slice_get}
use Rattle.std.specs.Prelude.{is_ok, IsTrue, unwrap_or}
use Rattle.std.specs.List.{AllByRecursion, list_all}
use Rattle.std.specs.Str.{bytes_eq}
use Rattle.std.proofs.lemmas.Bool.{and_from, leb-true}
use Rattle.std.proofs.lemmas.Option.{slice_get-get_or, slice_get_within, get_or_from_slice_get}
use Rattle.std.proofs.Math.ListN.{get_or-append}
use Rattle.occ_syntax.specs.occ_base.Names.{place_of, with_text}
use Rattle.occ_syntax.proofs.from_base.Naming.{naming}
use Rattle.occ_parse_rules.specs.occ_lex.declared.fault.LineFault.TheVariants as fault
use Rattle.occ_parse_rules.specs.occ_lex.declared.token.Line.{Line}
use Rattle.occ_parse_rules.specs.occ_lex.declared.token.Token.{Token}
use Rattle.occ_parse_rules.specs.occ_lex.declared.token.TokenKind.{TokenKind}
use Rattle.occ_parse_rules.specs.occ_lex.declared.token.TokenKind.TheVariants as kind
use Rattle.occ_parse_rules.specs.occ_lex.Placed.{IsTokenOf, IsLineOf}
use Rattle.occ_parse_rules.specs.occ_lex.Spelling.{is_name, is_numeral, is_reserved, is_sign, kind_of, value_of}
use Rattle.occ_parse_rules.specs.occ_lex.Token.{text_of}
use Rattle.occ_parse_rules.specs.occ_lex.Tokens.{judged}
use Rattle.occ_parse_rules.specs.occ_lex.declared.symbol.Keyword.{Keyword}
use Rattle.occ_parse_rules.specs.occ_lex.declared.symbol.Keyword.TheVariants as word
use Rattle.occ_parse_rules.specs.occ_lex.declared.symbol.Symbol.{Symbol}
use Rattle.occ_parse_rules.specs.occ_lex.declared.symbol.Symbol.TheVariants as symbol
use Rattle.occ_parse_rules.specs.occ_lex.Symbols.{Extends, names_with, rows_of, symbol_of, symbols_of, with_names, with_names_of_all}
use Rattle.occ_parse_rules.specs.occ_lex.SymbolWords.{keyword_of, keywords, look_up}
use Rattle.occ_parse_rules.proofs.from_lex.Interned.{extends_trans, extends_names, extends_all, longer}
use Rattle.occ_parse_rules.specs.Passing.{keyword_passes, symbol_passes}

-- ---- tables

-- what stands in a table stands there in each longer one
pub stays : (old t : List (List ℕ)) (x : ℕ) (s : List ℕ) → Extends old t → slice_get old x ≡ Some s → slice_get t x ≡ Some s
stays old t x s e h =
    let within : x < length old = slice_get_within old x s h in
    let more : x < length t = omega (arith, within, longer old t e) in
    slice_get-get_or t x [] more ∙ ap Some (ap (λ ts. get_or ts x []) e.1 ∙ get_or-append old e.0 [] x within ∙ get_or_from_slice_get old x s [] h)

-- ---- tokens

name_if : (reserved named numeral sign : Bool)
    → cond reserved (Some kind.Word) (cond named (Some kind.Name) (cond numeral (Some kind.Numeral) (cond sign (Some kind.Sign) None))) ≡ Some kind.Name → named ≡ true
name_if true named numeral sign h = absurd cc
name_if false true numeral sign h = refl
name_if false false true sign h = absurd cc
name_if false false false true h = absurd cc
name_if false false false false h = absurd cc

name_is : (s : List ℕ) → kind_of s ≡ Some kind.Name → is_name s ≡ true
unfolding kind_of
name_is s h = name_if (is_reserved s) (is_name s) (is_numeral s) (is_sign s) h

small_if : {A E : Type 0} (b : Bool) (x : A) (e : E) → is_ok (cond b (Ok x) (Err e)) ≡ true → b ≡ true
small_if true x e h = refl
small_if false x e h = absurd cc

small_is : (s : List ℕ) → IsTrue (is_ok (judged (Some kind.Numeral) s)) → nat_lt (value_of s) 256 ≡ true
small_is s h =
    let le : value_of s ≤ 255 = leb-true _ _ (small_if (nat_le (value_of s) 255) (kind.Numeral, length s) fault.Number h) in
    let lt : value_of s < 256 = omega (arith, le) in
    search rules

-- each keyword's width is one
pick : (p : Keyword → Bool) (b : Bool) (x : Keyword) (o : Option Keyword) → p x ≡ true → p (unwrap_or o word.Skip) ≡ true → p (unwrap_or (cond b (Some x) o) word.Skip) ≡ true
pick p true x o h k = h
pick p false x o h k = k

look_up_passes : (p : Keyword → Bool) (entries : List (List ℕ × Keyword)) (s : List ℕ) → p word.Skip ≡ true → AllByRecursion (λ e. p e.1 ≡ true) entries
    → p (unwrap_or (look_up (λ e. e.0) (λ e. e.1) entries s) word.Skip) ≡ true
look_up_passes p [] s skip h = skip
look_up_passes p (e ∷ es) s skip h = pick p (bytes_eq s e.0) e.1 (look_up (λ f. f.0) (λ f. f.1) es s) h.0 (look_up_passes p es s skip h.1)

all_true : {A : Type 0} (p : A → Bool) (xs : List A) → list_all p xs ≡ true → AllByRecursion (λ x. p x ≡ true) xs
all_true p [] h = tt
all_true p (x ∷ xs) h = let parts = both (p x) (list_all p xs) h in (parts.0, all_true p xs parts.1)
  where
    both : (a b : Bool) → (a && b) ≡ true → (a ≡ true) × (b ≡ true)
    both true b k = (refl, k)
    both false b k = absurd cc

keyword_is : (s : List ℕ) → keyword_passes (unwrap_or (keyword_of s) word.Skip) ≡ true
unfolding keyword_of
keyword_is s = look_up_passes keyword_passes keywords s refl (all_true (λ e. keyword_passes e.1) keywords refl)

-- ---- symbols

-- A symbol of a text whose names are in the table.
abbrev pub IsOf : List (List ℕ) → Symbol → Type 0
IsOf t (symbol.Name name) = (s : List ℕ) × (slice_get t name.0 ≡ Some s) × (is_name s ≡ true)
IsOf t (symbol.Numeral value) = nat_lt value 256 ≡ true
IsOf t (symbol.Keyword k) = keyword_passes k ≡ true
IsOf t (symbol.Sign s) = Unit {0}

abbrev pub AreOf : List (List ℕ) → List Symbol → Type 0
AreOf t symbols = AllByRecursion (IsOf t) symbols

symbol_is : (names t : List (List ℕ)) (k : TokenKind) (s : List ℕ) → kind_of s ≡ Some k → IsTrue (is_ok (judged (Some k) s)) → Extends (names_with names k s) t → IsOf t (symbol_of names k s)
symbol_is names t kind.Name s h good e = (s, stays (with_text names s) t (place_of names s) s e (naming names s).there, name_is s h)
symbol_is names t kind.Numeral s h good e = small_is s good
symbol_is names t kind.Word s h good e = keyword_is s
symbol_is names t kind.Sign s h good e = tt

symbols_are : (text : List ℕ) (names t : List (List ℕ)) (tokens : List Token) → AllByRecursion (IsTokenOf text) tokens → Extends (with_names text names tokens) t
    → AreOf t (symbols_of text names tokens)
symbols_are text names t [] h e = tt
symbols_are text names t (token ∷ tokens) h e =
    let next = names_with names token.kind (text_of token text) in (
      symbol_is names t token.kind (text_of token text) h.0.spelled h.0.good (extends_trans next (with_names text next tokens) t (extends_names text next tokens) e),
      symbols_are text next t tokens h.1 e,
    )

pub rows_are : (text : List ℕ) (names t : List (List ℕ)) (lines : List Line) → AllByRecursion (IsLineOf text) lines → Extends (with_names_of_all text names lines) t
    → AllByRecursion (λ row. AreOf t row.symbols) (rows_of text names lines)
rows_are text names t [] h e = tt
rows_are text names t (line ∷ lines) h e =
    let next = with_names text names line.tokens in (
      symbols_are text names t line.tokens h.0.tokens (extends_trans next (with_names_of_all text next lines) t (extends_all text next lines) e),
      rows_are text next t lines h.1 e,
    )

-- ---- tests of symbols

-- a test that the names of the table pass
abbrev pub OfNames : List (List ℕ) → (ℕ → Bool) → Type 0
OfNames t test = (x : ℕ) (s : List ℕ) → slice_get t x ≡ Some s → is_name s ≡ true → test x ≡ true

passes_one : (t : List (List ℕ)) (test : ℕ → Bool) → OfNames t test → (s : Symbol) → IsOf t s → symbol_passes test s ≡ true
passes_one t test f (symbol.Name name) h = f name.0 h.0 h.1 h.2
passes_one t test f (symbol.Numeral value) h = refl
passes_one t test f (symbol.Keyword k) h = h
passes_one t test f (symbol.Sign s) h = refl

pub passes_all : (t : List (List ℕ)) (test : ℕ → Bool) → OfNames t test → (symbols : List Symbol) → AreOf t symbols → list_all (symbol_passes test) symbols ≡ true
passes_all t test f [] h = refl
passes_all t test f (s ∷ symbols) h = and_from (symbol_passes test s) (list_all (symbol_passes test) symbols) (passes_one t test f s h.0) (passes_all t test f symbols h.1)

-- numerals below 256
abbrev pub is_small : Symbol → Bool
is_small (symbol.Name name) = true
is_small (symbol.Numeral value) = nat_lt value 256
is_small (symbol.Keyword k) = true
is_small (symbol.Sign s) = true

small_one : (t : List (List ℕ)) (s : Symbol) → IsOf t s → is_small s ≡ true
small_one t (symbol.Name name) h = refl
small_one t (symbol.Numeral value) h = h
small_one t (symbol.Keyword k) h = refl
small_one t (symbol.Sign s) h = refl

pub small_all : (t : List (List ℕ)) (symbols : List Symbol) → AreOf t symbols → list_all is_small symbols ≡ true
small_all t [] h = refl
small_all t (s ∷ symbols) h = and_from (is_small s) (list_all is_small symbols) (small_one t s h.0) (small_all t symbols h.1)

-- a number of the table
pub in_table : (t : List (List ℕ)) → OfNames t (λ x. nat_lt x (length t))
in_table t x s h n = let within : x < length t = slice_get_within t x s h in search rules

-- a number of the table whose text is that of a name
abbrev pub is_plain : List (List ℕ) → ℕ → Bool
is_plain t x = nat_lt x (length t) && is_name (get_or t x [])

pub plain_table : (t : List (List ℕ)) → OfNames t (is_plain t)
plain_table t x s h n = and_from (nat_lt x (length t)) (is_name (get_or t x [])) (in_table t x s h n) (ap is_name (get_or_from_slice_get t x s [] h) ∙ n)
