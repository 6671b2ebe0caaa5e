-- The tokens of printed symbols: each is a token of its kind that ends where it was printed, and stands for its symbol.
use Rattle.std.proofs.Common.{◌≡◌, ℕ, ◌<◌, ◌≤◌, ◌+◌, ◌-◌, Bool, true, false, not, ◌&&◌, ◌||◌, eqb, nat_le, List, [], ◌∷◌, ◌++◌, length, drop, Option, None, Some, refl, ap, sym, ◌∙◌, subst, arith, ⊎_elim}
use Rattle.std.specs.Prelude.{if◌then◌else◌, decimal, is_ok, Ok, Err, IfSome, slice_get, unwrap_or}
use Rattle.std.specs.Fmt.{digits}
use Rattle.std.specs.List.{AllByRecursion, list_all, prefix_len}
use Rattle.std.proofs.lemmas.Bool.{and_parts, and_from, or_cases, not-true, eqb-true, leb-true, agree_below_at}
use Rattle.std.proofs.lemmas.List.{append-nil, length-append, take_at, drop_at, map-append}
use Rattle.std.proofs.lemmas.Option.{slice_get-get_or}
use Rattle.occ_print.specs.occ_base.declared.width.Width.TheVariants as width
use Rattle.occ_print.specs.occ_base.Names.{IsDistinct, place_of}
use Rattle.occ_print.specs.occ_lex.declared.fault.LineFault.{LineFault}
use Rattle.occ_print.specs.occ_lex.declared.fault.LineFault.TheVariants as fault
use Rattle.occ_print.specs.occ_lex.declared.token.TokenKind.{TokenKind}
use Rattle.occ_print.specs.occ_lex.declared.token.TokenKind.TheVariants as token
use Rattle.occ_print.specs.occ_lex.Spelling.{is_letter, is_digit, is_name_byte, signs, is_reserved, is_sign, is_name, is_numeral, kind_of, value_of}
use Rattle.occ_print.specs.occ_lex.Tokens.{judged}
use Rattle.occ_print.specs.occ_lex.Printed.{Piece, pieces_text, begins, sign_goes_on, IsPiece, ArePieces}
use Rattle.occ_print.proofs.from_base.Naming.{naming, with_there}
use Rattle.occ_print.specs.occ_parse_forms.Written.{item_words}
use Rattle.occ_print.proofs.Lists.{all-append}
use Rattle.occ_print_back.specs.Said.{item_of}
use Rattle.occ_print.proofs.from_lex.Classes.{in_table}
use Rattle.occ_print.proofs.from_lex.Printing.{spelled}
use Rattle.occ_print.specs.occ_lex.declared.symbol.Keyword.{Keyword}
use Rattle.occ_print.specs.occ_lex.declared.symbol.Keyword.TheVariants as word
use Rattle.occ_print.specs.occ_lex.declared.symbol.Sign.{Sign}
use Rattle.occ_print.specs.occ_lex.declared.symbol.Sign.TheVariants as sign
use Rattle.occ_print.specs.occ_lex.declared.symbol.Symbol.{Symbol}
use Rattle.occ_print.specs.occ_lex.declared.symbol.Symbol.TheVariants as symbol
use Rattle.occ_print.specs.occ_lex.Symbols.{symbol_of, names_with}
use Rattle.occ_print.specs.occ_lex.SymbolWords.{keyword_of, sign_of}
use Rattle.occ_parse.specs.occ_parse_rules.Places.{Place}
use Rattle.occ_print.specs.Spelled.{keyword_text, sign_text, name_text, gap, piece, index_pieces, name_pieces, symbol_pieces, pieces_behind}
use Rattle.occ_print_back.specs.Placed.{place_text, IsTable, IsWord, IsSayable, AreSayable, piece_symbols}
use Rattle.occ_print_back.specs.Read.{symbol_read, symbols_read}

-- ---- the kinds of texts, by computing

sign_kind : (s : Sign) → kind_of (sign_text s) ≡ Some token.Sign
unfolding kind_of is_reserved is_name is_numeral is_sign
sign_kind sign.Becomes = refl
sign_kind sign.AtMost = refl
sign_kind sign.AtLeast = refl
sign_kind sign.Differ = refl
sign_kind sign.BitXor = refl
sign_kind sign.BitAnd = refl
sign_kind sign.BitOr = refl
sign_kind sign.Flip = refl
sign_kind sign.Ampersand = refl
sign_kind sign.Open = refl
sign_kind sign.Close = refl
sign_kind sign.OpenIndex = refl
sign_kind sign.CloseIndex = refl
sign_kind sign.Comma = refl
sign_kind sign.Colon = refl
sign_kind sign.Query = refl
sign_kind sign.Bang = refl
sign_kind sign.Equal = refl
sign_kind sign.Less = refl
sign_kind sign.Greater = refl

sign_symbol : (s : Sign) → unwrap_or (sign_of (sign_text s)) sign.Becomes ≡ s
unfolding sign_of
sign_symbol sign.Becomes = refl
sign_symbol sign.AtMost = refl
sign_symbol sign.AtLeast = refl
sign_symbol sign.Differ = refl
sign_symbol sign.BitXor = refl
sign_symbol sign.BitAnd = refl
sign_symbol sign.BitOr = refl
sign_symbol sign.Flip = refl
sign_symbol sign.Ampersand = refl
sign_symbol sign.Open = refl
sign_symbol sign.Close = refl
sign_symbol sign.OpenIndex = refl
sign_symbol sign.CloseIndex = refl
sign_symbol sign.Comma = refl
sign_symbol sign.Colon = refl
sign_symbol sign.Query = refl
sign_symbol sign.Bang = refl
sign_symbol sign.Equal = refl
sign_symbol sign.Less = refl
sign_symbol sign.Greater = refl

abbrev ends_before : ℕ → List ℕ → Bool
ends_before b text = not (is_sign (text ++ b ∷ []))

-- no sign goes on with one of these bytes
sign_ends : (b : ℕ) → list_all (ends_before b) signs ≡ true → (s : Sign) → is_sign (sign_text s) ≡ true → is_sign (sign_text s ++ b ∷ []) ≡ false
unfolding is_sign
sign_ends b all s there = not-true _ (in_table (ends_before b) signs (sign_text s) all there)

sign_there : (s : Sign) → is_sign (sign_text s) ≡ true
sign_there s = spelled (sign_text s) token.Sign (sign_kind s)

-- the bytes in front of which every token ends
pub data Stop : ℕ → Type 0 where
  space : Stop 32
  close : Stop 41
  comma : Stop 44
  colon : Stop 58
  query : Stop 63
  bang : Stop 33

pub sign_stops : (s : Sign) (b : ℕ) → Stop b → is_sign (sign_text s ++ b ∷ []) ≡ false
unfolding is_sign
sign_stops s b space = sign_ends 32 refl s (sign_there s)
sign_stops s b close = sign_ends 41 refl s (sign_there s)
sign_stops s b comma = sign_ends 44 refl s (sign_there s)
sign_stops s b colon = sign_ends 58 refl s (sign_there s)
sign_stops s b query = sign_ends 63 refl s (sign_there s)
sign_stops s b bang = sign_ends 33 refl s (sign_there s)

pub name_stops : (b : ℕ) → Stop b → is_name_byte b ≡ false
name_stops b space = refl
name_stops b close = refl
name_stops b comma = refl
name_stops b colon = refl
name_stops b query = refl
name_stops b bang = refl

pub digit_stops : (b : ℕ) → Stop b → is_digit b ≡ false
digit_stops b space = refl
digit_stops b close = refl
digit_stops b comma = refl
digit_stops b colon = refl
digit_stops b query = refl
digit_stops b bang = refl

-- an opening bracket and the brackets of an index end before anything
open_ends : (b : ℕ) → is_sign (40 ∷ b ∷ []) ≡ false
unfolding is_sign
open_ends b = refl

open_index_ends : (b : ℕ) → is_sign (91 ∷ b ∷ []) ≡ false
unfolding is_sign
open_index_ends b = refl

close_index_ends : (b : ℕ) → is_sign (93 ∷ b ∷ []) ≡ false
unfolding is_sign
close_index_ends b = refl

abbrev is_word_kind : Option TokenKind → Bool
is_word_kind (Some token.Word) = true
is_word_kind other = false

abbrev is_numeral_kind : Option TokenKind → Bool
is_numeral_kind (Some token.Numeral) = true
is_numeral_kind other = false

word_kind_is : (o : Option TokenKind) → is_word_kind o ≡ true → o ≡ Some token.Word
word_kind_is None h = absurd (cc)
word_kind_is (Some token.Word) h = refl
word_kind_is (Some token.Name) h = absurd (cc)
word_kind_is (Some token.Numeral) h = absurd (cc)
word_kind_is (Some token.Sign) h = absurd (cc)

numeral_kind_is : (o : Option TokenKind) → is_numeral_kind o ≡ true → o ≡ Some token.Numeral
numeral_kind_is None h = absurd (cc)
numeral_kind_is (Some token.Numeral) h = refl
numeral_kind_is (Some token.Name) h = absurd (cc)
numeral_kind_is (Some token.Word) h = absurd (cc)
numeral_kind_is (Some token.Sign) h = absurd (cc)

-- the keyword WORD with that many bits
abbrev is_wide : ℕ → Keyword → Bool
is_wide n (word.Width (width.Word m)) = eqb m n
is_wide n other = false

wide_is : (n : ℕ) (k : Keyword) → is_wide n k ≡ true → k ≡ word.Width (width.Word n)
wide_is n (word.Width (width.Word m)) h = ap (λ b. word.Width (width.Word b)) (eqb-true m n h)
wide_is n k h = absurd (cc)

abbrev good_width : ℕ → Bool
good_width n = eqb n 0 || (is_word_kind (kind_of (keyword_text (word.Width (width.Word n)))) && is_wide n (unwrap_or (keyword_of (keyword_text (word.Width (width.Word n)))) word.Skip))

abbrev always : ℕ → Bool
always n = true

widths_good : (n : ℕ) → n < 9 → good_width n ≡ true
unfolding kind_of is_reserved keyword_of digits
widths_good n h = agree_below_at good_width always 9 n refl h

width_good : (n : ℕ) → (nat_le 1 n && nat_le n 8) ≡ true
    → (is_word_kind (kind_of (keyword_text (word.Width (width.Word n)))) && is_wide n (unwrap_or (keyword_of (keyword_text (word.Width (width.Word n)))) word.Skip)) ≡ true
width_good n h =
    let parts = and_parts (nat_le 1 n) (nat_le n 8) h in
    let low : 1 ≤ n = leb-true _ _ parts.0 in
    let high : n ≤ 8 = leb-true _ _ parts.1 in
    ⊎_elim
    (λ (z : eqb n 0 ≡ true). absurd (omega (arith, low, eqb-true n 0 z)))
    (λ (g : (is_word_kind (kind_of (keyword_text (word.Width (width.Word n)))) && is_wide n (unwrap_or (keyword_of (keyword_text (word.Width (width.Word n)))) word.Skip)) ≡ true). g)
    (or_cases (eqb n 0) _ (widths_good n (omega (arith, high))))

-- the texts of numerals
abbrev good_numeral : ℕ → Bool
good_numeral v = is_numeral_kind (kind_of (decimal v)) && (eqb (value_of (decimal v)) v && nat_le (value_of (decimal v)) 255)

numeral_good : (v : ℕ) → v < 256 → good_numeral v ≡ true
unfolding kind_of is_reserved is_name is_numeral digits
numeral_good v h = agree_below_at good_numeral always 256 v refl h

numeral_kind : (v : ℕ) → v < 256 → kind_of (decimal v) ≡ Some token.Numeral
numeral_kind v h = numeral_kind_is _ (and_parts (is_numeral_kind (kind_of (decimal v))) _ (numeral_good v h)).0

numeral_value_is : (v : ℕ) → v < 256 → value_of (decimal v) ≡ v
numeral_value_is v h = eqb-true _ _ (and_parts (eqb (value_of (decimal v)) v) _ (and_parts (is_numeral_kind (kind_of (decimal v))) _ (numeral_good v h)).1).0

numeral_small : (v : ℕ) → v < 256 → nat_le (value_of (decimal v)) 255 ≡ true
numeral_small v h = (and_parts (eqb (value_of (decimal v)) v) _ (and_parts (is_numeral_kind (kind_of (decimal v))) _ (numeral_good v h)).1).1

keyword_kind : (k : Keyword) → IsWord k → kind_of (keyword_text k) ≡ Some token.Word
unfolding kind_of is_reserved
keyword_kind word.Skip h = refl
keyword_kind word.Stop h = refl
keyword_kind word.Seq h = refl
keyword_kind word.Par h = refl
keyword_kind word.Alt h = refl
keyword_kind word.If h = refl
keyword_kind word.For h = refl
keyword_kind word.Proc h = refl
keyword_kind word.Chan h = refl
keyword_kind word.Of h = refl
keyword_kind word.True h = refl
keyword_kind word.False h = refl
keyword_kind word.And h = refl
keyword_kind word.Or h = refl
keyword_kind word.Not h = refl
keyword_kind word.Plus h = refl
keyword_kind word.Minus h = refl
keyword_kind (word.Width width.Bool) h = refl
keyword_kind (word.Width (width.Word n)) h = word_kind_is _ (and_parts (is_word_kind (kind_of (keyword_text (word.Width (width.Word n))))) _ (width_good n h)).0

keyword_symbol : (k : Keyword) → IsWord k → unwrap_or (keyword_of (keyword_text k)) word.Skip ≡ k
unfolding keyword_of
keyword_symbol word.Skip h = refl
keyword_symbol word.Stop h = refl
keyword_symbol word.Seq h = refl
keyword_symbol word.Par h = refl
keyword_symbol word.Alt h = refl
keyword_symbol word.If h = refl
keyword_symbol word.For h = refl
keyword_symbol word.Proc h = refl
keyword_symbol word.Chan h = refl
keyword_symbol word.Of h = refl
keyword_symbol word.True h = refl
keyword_symbol word.False h = refl
keyword_symbol word.And h = refl
keyword_symbol word.Or h = refl
keyword_symbol word.Not h = refl
keyword_symbol word.Plus h = refl
keyword_symbol word.Minus h = refl
keyword_symbol (word.Width width.Bool) h = refl
keyword_symbol (word.Width (width.Word n)) h = wide_is n _ (and_parts (is_word_kind (kind_of (keyword_text (word.Width (width.Word n))))) _ (width_good n h)).1

-- ---- the tokens of a name

name_list : (text : List ℕ) → is_name text ≡ true → list_all is_name_byte text ≡ true
unfolding is_name
name_list [] h = refl
name_list (b ∷ rest) h =
    let parts = and_parts (is_letter b) (list_all is_name_byte rest) h in
    and_from (is_name_byte b) (list_all is_name_byte rest) (ap (λ t. t || (is_digit b || eqb b 46)) parts.0) parts.1

name_bytes : (text : List ℕ) → kind_of text ≡ Some token.Name → list_all is_name_byte text ≡ true
name_bytes text h = name_list text (spelled text token.Name h)

prefix_all : (p : ℕ → Bool) (xs rest : List ℕ) → list_all p xs ≡ true → prefix_len p rest ≡ 0 → prefix_len p (xs ++ rest) ≡ length xs
prefix_all p [] rest h k = k
prefix_all p (x ∷ xs) rest h k =
    let parts = and_parts (p x) (list_all p xs) h in
    let e : prefix_len p ((x ∷ xs) ++ rest) ≡ 1 + prefix_len p (xs ++ rest) = ap (λ b. if b then 1 + prefix_len p (xs ++ rest) else 0) parts.0 in
    omega (arith, e, prefix_all p xs rest parts.1 k)

index_tokens : (d : List ℕ) → index_pieces (91 ∷ (d ++ 93 ∷ [])) ≡ piece 0 token.Sign (91 ∷ []) ∷ piece 0 token.Numeral d ∷ piece 0 token.Sign (93 ∷ []) ∷ []
index_tokens d =
    let n : length d ≡ length (d ++ 93 ∷ []) - 1 = omega (arith, length-append d (93 ∷ [])) in
    ap (λ t. piece 0 token.Sign (91 ∷ []) ∷ piece 0 token.Numeral t ∷ piece 0 token.Sign (drop (length (d ++ 93 ∷ []) - 1) (d ++ 93 ∷ [])) ∷ []) (take_at d (93 ∷ []) (length (d ++ 93 ∷ []) - 1) n)
    ∙ ap (λ t. piece 0 token.Sign (91 ∷ []) ∷ piece 0 token.Numeral d ∷ piece 0 token.Sign t ∷ []) (drop_at d (93 ∷ []) (length (d ++ 93 ∷ []) - 1) n)

abbrev place_pieces : ℕ → List ℕ → Option ℕ → List Piece
place_pieces g base None = piece g token.Name base ∷ []
place_pieces g base (Some k) = piece g token.Name base ∷ piece 0 token.Sign (91 ∷ []) ∷ piece 0 token.Numeral (decimal k) ∷ piece 0 token.Sign (93 ∷ []) ∷ []

name_tokens_at : (g : ℕ) (base rest : List ℕ) → list_all is_name_byte base ≡ true → prefix_len is_name_byte rest ≡ 0
    → name_pieces g (base ++ rest) ≡ piece g token.Name base ∷ index_pieces rest
name_tokens_at g base rest h k =
    let n = prefix_len is_name_byte (base ++ rest) in
    let e : length base ≡ n = sym (prefix_all is_name_byte base rest h k) in
    ap (λ t. piece g token.Name t ∷ index_pieces (drop n (base ++ rest))) (take_at base rest n e)
    ∙ ap (λ t. piece g token.Name base ∷ index_pieces t) (drop_at base rest n e)

name_tokens : (g : ℕ) (base : List ℕ) (k : Option ℕ) → list_all is_name_byte base ≡ true → name_pieces g (place_text base k) ≡ place_pieces g base k
name_tokens g base None h = ap (name_pieces g) (sym (append-nil base)) ∙ name_tokens_at g base [] h refl
name_tokens g base (Some k) h = name_tokens_at g base (91 ∷ (decimal k ++ 93 ∷ [])) h refl ∙ ap (λ ps. piece g token.Name base ∷ ps) (index_tokens (decimal k))

-- ---- pieces in front of others

-- the last token of a symbol ends in front of a text
abbrev pub Ends : Symbol → List ℕ → Type 0
Ends (symbol.Name name) rest = begins is_name_byte rest ≡ false
Ends (symbol.Numeral value) rest = begins is_digit rest ≡ false
Ends (symbol.Keyword k) rest = begins is_name_byte rest ≡ false
Ends (symbol.Sign s) rest = sign_goes_on (sign_text s) rest ≡ false

close_index_always : (rest : List ℕ) → sign_goes_on (93 ∷ []) rest ≡ false
close_index_always [] = refl
close_index_always (b ∷ rest) = close_index_ends b

open_index_always : (rest : List ℕ) → sign_goes_on (91 ∷ []) rest ≡ false
open_index_always [] = refl
open_index_always (b ∷ rest) = open_index_ends b

pub open_always : (rest : List ℕ) → sign_goes_on (40 ∷ []) rest ≡ false
open_always [] = refl
open_always (b ∷ rest) = open_ends b

name_judged : (text : List ℕ) → nat_le (length text) 32 ≡ true → is_ok (judged (Some token.Name) text) ≡ true
name_judged text h = ap (λ b. is_ok {T = TokenKind × ℕ} {E = LineFault} (if b then Ok (token.Name, length text) else Err fault.Name)) h

numeral_judged : (text : List ℕ) → nat_le (value_of text) 255 ≡ true → is_ok (judged (Some token.Numeral) text) ≡ true
numeral_judged text h = ap (λ b. is_ok {T = TokenKind × ℕ} {E = LineFault} (if b then Ok (token.Numeral, length text) else Err fault.Number)) h

name_piece : (g : ℕ) (text : List ℕ) (rest : List Piece) → kind_of text ≡ Some token.Name → nat_le (length text) 32 ≡ true → begins is_name_byte (pieces_text rest) ≡ false
    → IsPiece (piece g token.Name text) (pieces_text rest)
name_piece g text rest k s e = record { token = k; good = name_judged text s; ends = e }

numeral_piece : (g v : ℕ) (rest : List Piece) → v < 256 → begins is_digit (pieces_text rest) ≡ false → IsPiece (piece g token.Numeral (decimal v)) (pieces_text rest)
numeral_piece g v rest h e = record { token = numeral_kind v h; good = numeral_judged (decimal v) (numeral_small v h); ends = e }

sign_piece : (g : ℕ) (s : Sign) (rest : List Piece) → sign_goes_on (sign_text s) (pieces_text rest) ≡ false → IsPiece (piece g token.Sign (sign_text s)) (pieces_text rest)
sign_piece g s rest e = record { token = sign_kind s; good = refl; ends = e }

place_are_pieces : (g : ℕ) (base : List ℕ) (k : Option ℕ) (rest : List Piece) → kind_of base ≡ Some token.Name → nat_le (length base) 32 ≡ true → IfSome k (λ i. i < 256)
    → begins is_name_byte (pieces_text rest) ≡ false → ArePieces rest → ArePieces (place_pieces g base k ++ rest)
place_are_pieces g base None rest n s i e h = (name_piece g base rest n s e, h)
place_are_pieces g base (Some k) rest n s i e h =
    let close = piece 0 token.Sign (93 ∷ []) ∷ rest in
    let index = piece 0 token.Numeral (decimal k) ∷ close in (
      name_piece g base (piece 0 token.Sign (91 ∷ []) ∷ index) n s refl,
      (
        sign_piece 0 sign.OpenIndex index (open_index_always (pieces_text index)),
        (
          numeral_piece 0 k close i refl,
          (sign_piece 0 sign.CloseIndex rest (close_index_always (pieces_text rest)), h),
        ),
      ),
    )

module _ (names : List (List ℕ)) (P : ℕ → Place) (table : IsTable names P) where
  name_is_placed : (g x : ℕ) → x < length names → name_pieces g (name_text names x) ≡ place_pieces g (name_text names (P x).name) (P x).element
  name_is_placed g x h =
      let p = table.places x h in
      ap (name_pieces g) p.text_is ∙ name_tokens g (name_text names (P x).name) (P x).element (name_bytes _ p.kind)

  -- a symbol's tokens in front of others
  pub symbol_are_pieces : (g : ℕ) (s : Symbol) (rest : List Piece) → IsSayable (length names) s → Ends s (pieces_text rest) → ArePieces rest → ArePieces (symbol_pieces names g s ++ rest)
  symbol_are_pieces g (symbol.Name name) rest h e k =
      let p = table.places name.0 h in
      subst (λ (ps : List Piece). ArePieces (ps ++ rest)) (sym (name_is_placed g name.0 h))
      (place_are_pieces g (name_text names (P name.0).name) (P name.0).element rest p.kind p.short p.index e k)
  symbol_are_pieces g (symbol.Numeral v) rest h e k = (numeral_piece g v rest h e, k)
  symbol_are_pieces g (symbol.Keyword w) rest h e k = (record { token = keyword_kind w h; good = refl; ends = e }, k)
  symbol_are_pieces g (symbol.Sign s) rest h e k = (sign_piece g s rest e, k)

-- ---- what the tokens stand for

pub number_text : (names : List (List ℕ)) (x : ℕ) → x < length names → slice_get names x ≡ Some (name_text names x)
number_text names x h = let e = slice_get-get_or names x [] h in e ∙ ap Some (sym (ap (λ o. unwrap_or o []) e))

pub place_back : (names : List (List ℕ)) → IsDistinct names → (x : ℕ) → x < length names → place_of names (name_text names x) ≡ x
place_back names d x h = (naming names (name_text names x)).again x d (number_text names x h)

module _ (names : List (List ℕ)) (P : ℕ → Place) (table : IsTable names P) where
  place_symbols_at : (g y : ℕ) (k : Option ℕ) → place_of names (name_text names y) ≡ y → IfSome k (λ i. i < 256)
      → piece_symbols names (place_pieces g (name_text names y) k) ≡ item_words (item_of (record { name = y; element = k }))
  place_symbols_at g y None e i = ap (λ z. symbol.Name (record { 0 = z }) ∷ []) e
  place_symbols_at g y (Some k) e i =
      ap (λ z. symbol.Name (record { 0 = z }) ∷ symbol.Sign (unwrap_or (sign_of (sign_text sign.OpenIndex)) sign.Becomes) ∷ symbol.Numeral (value_of (decimal k)) ∷ symbol.Sign (unwrap_or (sign_of (sign_text sign.CloseIndex)) sign.Becomes) ∷ []) e
      ∙ ap (λ s. symbol.Name (record { 0 = y }) ∷ symbol.Sign s ∷ symbol.Numeral (value_of (decimal k)) ∷ symbol.Sign (unwrap_or (sign_of (sign_text sign.CloseIndex)) sign.Becomes) ∷ []) (sign_symbol sign.OpenIndex)
      ∙ ap (λ v. symbol.Name (record { 0 = y }) ∷ symbol.Sign sign.OpenIndex ∷ symbol.Numeral v ∷ symbol.Sign (unwrap_or (sign_of (sign_text sign.CloseIndex)) sign.Becomes) ∷ []) (numeral_value_is k i)
      ∙ ap (λ s. symbol.Name (record { 0 = y }) ∷ symbol.Sign sign.OpenIndex ∷ symbol.Numeral k ∷ symbol.Sign s ∷ []) (sign_symbol sign.CloseIndex)

  place_symbols : (g : ℕ) (p : Place) → p.name < length names → IfSome p.element (λ i. i < 256)
      → piece_symbols names (place_pieces g (name_text names p.name) p.element) ≡ item_words (item_of p)
  place_symbols g p h i = place_symbols_at g p.name p.element (place_back names table.distinct p.name h) i

  symbol_back : (g : ℕ) (s : Symbol) → IsSayable (length names) s → piece_symbols names (symbol_pieces names g s) ≡ symbol_read P s
  symbol_back g (symbol.Name name) h =
      let p = table.places name.0 h in
      ap (piece_symbols names) (name_is_placed names P table g name.0 h) ∙ place_symbols g (P name.0) p.there p.index
  symbol_back g (symbol.Numeral v) h = ap (λ n. symbol.Numeral n ∷ []) (numeral_value_is v h)
  symbol_back g (symbol.Keyword k) h = ap (λ w. symbol.Keyword w ∷ []) (keyword_symbol k h)
  symbol_back g (symbol.Sign s) h = ap (λ t. symbol.Sign t ∷ []) (sign_symbol s)

  pub symbols_back : (header : Bool) (before : Option Symbol) (symbols : List Symbol) → AreSayable (length names) symbols
      → piece_symbols names (pieces_behind names header before symbols) ≡ symbols_read P symbols
  symbols_back header before [] h = refl
  symbols_back header before (s ∷ symbols) h =
      map-append (λ (p : Piece). symbol_of names p.kind p.text) (symbol_pieces names (gap header before s) s) (pieces_behind names header (Some s) symbols)
      ∙ ap (λ t. t ++ piece_symbols names (pieces_behind names header (Some s) symbols)) (symbol_back (gap header before s) s h.0)
      ∙ ap (λ t. symbol_read P s ++ t) (symbols_back header (Some s) symbols h.1)

  -- the names among the tokens are in the table
  abbrev pub AreThere : List Piece → Type 0
  AreThere ps = AllByRecursion (λ (p : Piece). names_with names p.kind p.text ≡ names) ps

  place_there : (g : ℕ) (base : List ℕ) (k : Option ℕ) → place_of names base < length names → AreThere (place_pieces g base k)
  place_there g base None h = (with_there names base h, tt)
  place_there g base (Some k) h = (with_there names base h, (refl, (refl, (refl, tt))))

  symbol_there : (g : ℕ) (s : Symbol) → IsSayable (length names) s → AreThere (symbol_pieces names g s)
  symbol_there g (symbol.Name name) h =
      let p = table.places name.0 h in
      subst (λ (ps : List Piece). AreThere ps) (sym (name_is_placed names P table g name.0 h))
      (place_there g (name_text names (P name.0).name) (P name.0).element (omega (arith, place_back names table.distinct (P name.0).name p.there, p.there)))
  symbol_there g (symbol.Numeral v) h = (refl, tt)
  symbol_there g (symbol.Keyword k) h = (refl, tt)
  symbol_there g (symbol.Sign s) h = (refl, tt)

  pub symbols_there : (header : Bool) (before : Option Symbol) (symbols : List Symbol) → AreSayable (length names) symbols → AreThere (pieces_behind names header before symbols)
  symbols_there header before [] h = tt
  symbols_there header before (s ∷ symbols) h =
      all-append (λ (p : Piece). names_with names p.kind p.text ≡ names) (symbol_pieces names (gap header before s) s) (pieces_behind names header (Some s) symbols)
      (symbol_there (gap header before s) s h.0) (symbols_there header (Some s) symbols h.1)
