-- The tokens of printed lines end where they were printed.
use Rattle.std.proofs.Common.{◌≡◌, ℕ, Bool, true, false, ◌&&◌, ◌||◌, List, [], ◌∷◌, ◌++◌, length, map, Option, None, Some, refl, ⊎_elim}
use Rattle.std.specs.Prelude.{if◌then◌else◌}
use Rattle.std.proofs.lemmas.Bool.{and_parts, or_cases}
use Rattle.occ_print.specs.occ_lex.Printed.{Piece, pieces_text, ArePieces, BeginsAtOnce, IsPrinted, ArePrinted}
use Rattle.occ_print.specs.occ_lex.declared.symbol.Sign.TheVariants as sign
use Rattle.occ_print.specs.occ_lex.declared.symbol.Symbol.{Symbol}
use Rattle.occ_print.specs.occ_lex.declared.symbol.Symbol.TheVariants as symbol
use Rattle.occ_parse.specs.occ_parse_rules.Places.{Place}
use Rattle.occ_print.specs.Lines.{TextLine}
use Rattle.occ_print.specs.Spelled.{opens, leans, is_mark, is_numeral as is_number, is_tight, gap, is_header, symbol_pieces, pieces_behind, printed}
use Rattle.occ_print_back.specs.Placed.{IsTable, AreSayable, IsBegun, LinesAreSayable}
use Rattle.occ_print_back.proofs.Tokens.{Ends, Stop, space, close, comma, colon, query, bang, name_stops, digit_stops, sign_stops, open_always, symbol_are_pieces}

ends_stop : (s : Symbol) (b : ℕ) → Stop b → (rest : List ℕ) → Ends s (b ∷ rest)
ends_stop (symbol.Name name) b h rest = name_stops b h
ends_stop (symbol.Numeral v) b h rest = digit_stops b h
ends_stop (symbol.Keyword k) b h rest = name_stops b h
ends_stop (symbol.Sign s) b h rest = sign_stops s b h

ends_nothing : (s : Symbol) → Ends s []
ends_nothing (symbol.Name name) = refl
ends_nothing (symbol.Numeral v) = refl
ends_nothing (symbol.Keyword k) = refl
ends_nothing (symbol.Sign s) = refl

module _ (names : List (List ℕ)) where
  -- a symbol behind a space
  spaced_ends : (s next : Symbol) (rest : List Piece) → Ends s (pieces_text (symbol_pieces names 1 next ++ rest))
  spaced_ends s (symbol.Name name) rest = ends_stop s 32 space _
  spaced_ends s (symbol.Numeral v) rest = ends_stop s 32 space _
  spaced_ends s (symbol.Keyword k) rest = ends_stop s 32 space _
  spaced_ends s (symbol.Sign t) rest = ends_stop s 32 space _

  opens_ends : (s : Symbol) → opens s ≡ true → (rest : List ℕ) → Ends s rest
  opens_ends (symbol.Sign sign.Open) h rest = open_always rest
  opens_ends s h rest = absurd (cc)

  leans_ends : (s next : Symbol) → leans next ≡ true → (rest : List Piece) → Ends s (pieces_text (symbol_pieces names 0 next ++ rest))
  leans_ends s (symbol.Sign sign.Close) h rest = ends_stop s 41 close _
  leans_ends s (symbol.Sign sign.Comma) h rest = ends_stop s 44 comma _
  leans_ends s (symbol.Sign sign.Colon) h rest = ends_stop s 58 colon _
  leans_ends s next h rest = absurd (cc)

  mark_ends : (s next : Symbol) → is_mark next ≡ true → (rest : List Piece) → Ends s (pieces_text (symbol_pieces names 0 next ++ rest))
  mark_ends s (symbol.Sign sign.Query) h rest = ends_stop s 63 query _
  mark_ends s (symbol.Sign sign.Bang) h rest = ends_stop s 33 bang _
  mark_ends s next h rest = absurd (cc)

  opened_ends : (v : ℕ) (next : Symbol) → opens next ≡ true → (rest : List Piece) → Ends (symbol.Numeral v) (pieces_text (symbol_pieces names 0 next ++ rest))
  opened_ends v (symbol.Sign sign.Open) h rest = refl
  opened_ends v next h rest = absurd (cc)

  number_ends : (s next : Symbol) → is_number s ≡ true → opens next ≡ true → (rest : List Piece) → Ends s (pieces_text (symbol_pieces names 0 next ++ rest))
  number_ends (symbol.Numeral v) next h k rest = opened_ends v next k rest
  number_ends (symbol.Name name) next h k rest = absurd (cc)
  number_ends (symbol.Keyword w) next h k rest = absurd (cc)
  number_ends (symbol.Sign t) next h k rest = absurd (cc)

  tight_ends : (header : Bool) (s next : Symbol) (rest : List Piece) → is_tight header s next ≡ true → Ends s (pieces_text (symbol_pieces names 0 next ++ rest))
  tight_ends header s next rest h = ⊎_elim
      (λ (a : opens s ≡ true). opens_ends s a _)
      (λ (b : (leans next || ((header && is_mark next) || (is_number s && opens next))) ≡ true). ⊎_elim
      (λ (c : leans next ≡ true). leans_ends s next c rest)
      (λ (d : ((header && is_mark next) || (is_number s && opens next)) ≡ true). ⊎_elim
      (λ (e : (header && is_mark next) ≡ true). mark_ends s next (and_parts header (is_mark next) e).1 rest)
      (λ (f : (is_number s && opens next) ≡ true). let parts = and_parts (is_number s) (opens next) f in number_ends s next parts.0 parts.1 rest)
      (or_cases (header && is_mark next) (is_number s && opens next) d))
      (or_cases (leans next) ((header && is_mark next) || (is_number s && opens next)) b))
      (or_cases (opens s) (leans next || ((header && is_mark next) || (is_number s && opens next))) h)

  next_at : (header : Bool) (s next : Symbol) (rest : List Piece) (b : Bool) → is_tight header s next ≡ b
      → Ends s (pieces_text (symbol_pieces names (if b then 0 else 1) next ++ rest))
  next_at header s next rest true h = tight_ends header s next rest h
  next_at header s next rest false h = spaced_ends s next rest

  next_ends : (header : Bool) (s : Symbol) (symbols : List Symbol) → Ends s (pieces_text (pieces_behind names header (Some s) symbols))
  next_ends header s [] = ends_nothing s
  next_ends header s (next ∷ symbols) = next_at header s next (pieces_behind names header (Some next) symbols) (is_tight header s next) refl

module _ (names : List (List ℕ)) (P : ℕ → Place) (table : IsTable names P) where
  are_pieces : (header : Bool) (before : Option Symbol) (symbols : List Symbol) → AreSayable (length names) symbols → ArePieces (pieces_behind names header before symbols)
  are_pieces header before [] h = tt
  are_pieces header before (s ∷ symbols) h =
      symbol_are_pieces names P table (gap header before s) s (pieces_behind names header (Some s) symbols) h.0 (next_ends names header s symbols) (are_pieces header (Some s) symbols h.1)

  begins_at_once : (header : Bool) (s : Symbol) (rest : List Piece) → BeginsAtOnce (symbol_pieces names 0 s ++ rest)
  begins_at_once header (symbol.Name name) rest = refl
  begins_at_once header (symbol.Numeral v) rest = refl
  begins_at_once header (symbol.Keyword k) rest = refl
  begins_at_once header (symbol.Sign s) rest = refl

  printed_at : (level : ℕ) (symbols : List Symbol) → IsBegun symbols → AreSayable (length names) symbols → IsPrinted (printed names (record { level = level; symbols = symbols }))
  printed_at level [] b h = absurd b
  printed_at level (s ∷ symbols) b h =
      (begins_at_once (is_header (s ∷ symbols)) s (pieces_behind names (is_header (s ∷ symbols)) (Some s) symbols), are_pieces (is_header (s ∷ symbols)) None (s ∷ symbols) h)

  pub is_printed : (l : TextLine) → IsBegun l.symbols → AreSayable (length names) l.symbols → IsPrinted (printed names l)
  is_printed l b h = printed_at l.level l.symbols b h

  pub are_printed : (ls : List TextLine) → LinesAreSayable (length names) ls → ArePrinted (map (printed names) ls)
  are_printed [] h = tt
  are_printed (l ∷ ls) h = (is_printed l h.0.0 h.0.1, are_printed ls h.1)
