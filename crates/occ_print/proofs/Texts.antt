-- The text of lines, symbol by symbol and line by line.
use Rattle.std.proofs.Common.{◌≡◌, ℕ, zero, suc, ◌+◌, ◌-◌, ◌*◌, ◌<◌, Bool, List, [], ◌∷◌, ◌++◌, length, get_or, take, drop, map, replicate, Option, Some, refl, ap, sym, ◌∙◌, arith, append_assoc}
use Rattle.std.specs.Prelude.{decimal}
use Rattle.std.specs.List.{prefix_len}
use Rattle.std.proofs.lemmas.List.{append-nil, take-append-drop, at_drop_more, map-append}
use Rattle.std.proofs.lemmas.Grind.{flat_map-append}
use Rattle.occ_parse_forms.specs.occ_lex.Printed.{Piece, piece_text, pieces_text, printed_line, printed_text}
use Rattle.occ_parse_forms.specs.occ_lex.Spelling.{is_name_byte}
use Rattle.occ_parse_forms.specs.occ_lex.declared.symbol.Symbol.{Symbol}
use Rattle.occ_parse_forms.specs.occ_lex.declared.symbol.Symbol.TheVariants as symbol
use Rattle.occ_print.specs.Lines.{TextLine}
use Rattle.occ_print.specs.Spelled.{keyword_text, sign_text, name_text, symbol_text, gap, index_pieces, name_pieces, symbol_pieces, pieces_behind, printed, lines_text}

pub pieces_text-append : (xs ys : List Piece) → pieces_text (xs ++ ys) ≡ pieces_text xs ++ pieces_text ys
pieces_text-append [] ys = refl
pieces_text-append (x ∷ xs) ys = ap (λ t. piece_text x ++ t) (pieces_text-append xs ys) ∙ sym (append_assoc (piece_text x) (pieces_text xs) (pieces_text ys))

index_text : (rest : List ℕ) → pieces_text (index_pieces rest) ≡ rest
index_text [] = refl
index_text (byte ∷ rest) =
    ap (λ t. byte ∷ (take (length rest - 1) rest ++ t)) (append-nil (drop (length rest - 1) rest)) ∙ ap (λ t. byte ∷ t) (take-append-drop (length rest - 1) rest)

pub name_pieces_text : (g : ℕ) (text : List ℕ) → pieces_text (name_pieces g text) ≡ replicate g 32 ++ text
name_pieces_text g text =
    let n = prefix_len is_name_byte text in
    ap (λ t. (replicate g 32 ++ take n text) ++ t) (index_text (drop n text)) ∙ append_assoc (replicate g 32) (take n text) (drop n text)
    ∙ ap (λ t. replicate g 32 ++ t) (take-append-drop n text)

pub symbol_pieces_text : (names : List (List ℕ)) (g : ℕ) (s : Symbol) → pieces_text (symbol_pieces names g s) ≡ replicate g 32 ++ symbol_text names s
symbol_pieces_text names g (symbol.Name name) = name_pieces_text g (name_text names name.0)
symbol_pieces_text names g (symbol.Numeral value) = append-nil (replicate g 32 ++ decimal value)
symbol_pieces_text names g (symbol.Keyword k) = append-nil (replicate g 32 ++ keyword_text k)
symbol_pieces_text names g (symbol.Sign s) = append-nil (replicate g 32 ++ sign_text s)

-- one symbol more on a line
pub symbol_more : (names : List (List ℕ)) (header : Bool) (before : Option Symbol) (symbols : List Symbol) (i : ℕ) (d : Symbol) (t0 t1 t2 : List ℕ)
    → i < length symbols → t1 ≡ t0 ++ replicate (gap header before (get_or symbols i d)) 32 → t2 ≡ t1 ++ symbol_text names (get_or symbols i d)
    → t2 ++ pieces_text (pieces_behind names header (Some (get_or symbols i d)) (drop (i + 1) symbols))
    ≡ t0 ++ pieces_text (pieces_behind names header before (drop i symbols))
symbol_more names header before symbols i d t0 t1 t2 h e f =
    let s = get_or symbols i d in
    let g = gap header before s in
    let rest = pieces_text (pieces_behind names header (Some s) (drop (i + 1) symbols)) in
    let k : pieces_text (pieces_behind names header before (drop i symbols)) ≡ (replicate g 32 ++ symbol_text names s) ++ rest
    = at_drop_more (λ ss. pieces_text (pieces_behind names header before ss)) symbols i d h
    ∙ pieces_text-append (symbol_pieces names g s) (pieces_behind names header (Some s) (drop (i + 1) symbols))
    ∙ ap (λ t. t ++ rest) (symbol_pieces_text names g s) in
    ap (λ t. t ++ rest) (f ∙ ap (λ t. t ++ symbol_text names s) e ∙ append_assoc t0 (replicate g 32) (symbol_text names s))
    ∙ append_assoc t0 (replicate g 32 ++ symbol_text names s) rest ∙ ap (λ t. t0 ++ t) (sym k)

-- two spaces more
two_more : (n : ℕ) → replicate {A = ℕ} (n + 2) 32 ≡ replicate {A = ℕ} n 32 ++ 32 ∷ 32 ∷ []
two_more zero = refl
two_more (suc n) =
    let e : suc n + 2 ≡ suc (n + 2) = omega arith in
    ap (λ k. replicate {A = ℕ} k 32) e ∙ ap (λ t. 32 ∷ t) (two_more n)

pub level_more : (n : ℕ) (old t0 t1 : List ℕ) → t0 ≡ old ++ replicate (2 * n) 32 → t1 ≡ t0 ++ 32 ∷ 32 ∷ [] → t1 ≡ old ++ replicate (2 * (n + 1)) 32
level_more n old t0 t1 e f =
    let g : 2 * (n + 1) ≡ 2 * n + 2 = omega arith in
    f ∙ ap (λ t. t ++ 32 ∷ 32 ∷ []) e ∙ append_assoc old (replicate (2 * n) 32) (32 ∷ 32 ∷ [])
    ∙ ap (λ t. old ++ t) (sym (two_more (2 * n)) ∙ ap (λ k. replicate {A = ℕ} k 32) (sym g))

-- lines behind lines
pub lines_text-append : (names : List (List ℕ)) (xs ys : List TextLine) → lines_text names (xs ++ ys) ≡ lines_text names xs ++ lines_text names ys
lines_text-append names xs ys =
    ap printed_text (map-append (printed names) xs ys) ∙ flat_map-append printed_line (map (printed names) xs) (map (printed names) ys)

-- a text with a line behind it, and then with lines
pub line_then : (names : List (List ℕ)) (l : TextLine) (ls : List TextLine) (t0 t1 t2 : List ℕ)
    → t1 ≡ t0 ++ printed_line (printed names l) → t2 ≡ t1 ++ lines_text names ls → t2 ≡ t0 ++ lines_text names (l ∷ ls)
line_then names l ls t0 t1 t2 e f = f ∙ ap (λ t. t ++ lines_text names ls) e ∙ append_assoc t0 (printed_line (printed names l)) (lines_text names ls)

-- lines that were printed in front of those that are left
pub lines_before : (names : List (List ℕ)) (all front back : List TextLine) (t0 t1 : List ℕ)
    → all ≡ front ++ back → t1 ≡ t0 ++ lines_text names front → t1 ++ lines_text names back ≡ t0 ++ lines_text names all
lines_before names all front back t0 t1 e f =
    ap (λ t. t ++ lines_text names back) f ∙ append_assoc t0 (lines_text names front) (lines_text names back)
    ∙ ap (λ t. t0 ++ t) (sym (lines_text-append names front back) ∙ ap (lines_text names) (sym e))

-- a line and lines, in front of those that are left
pub line_before : (names : List (List ℕ)) (all : List TextLine) (l : TextLine) (front back : List TextLine) (t0 t1 t2 : List ℕ)
    → all ≡ l ∷ (front ++ back) → t1 ≡ t0 ++ printed_line (printed names l) → t2 ≡ t1 ++ lines_text names front
    → t2 ++ lines_text names back ≡ t0 ++ lines_text names all
line_before names all l front back t0 t1 t2 e f g =
    lines_before names all (l ∷ front) back t0 t2 e (line_then names l front t0 t1 t2 f g)
