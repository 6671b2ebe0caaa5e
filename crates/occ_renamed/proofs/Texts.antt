-- The text of lines under other names.
use Rattle.occ_replay_rules.specs.occ_base.declared.names.Name.{Name}
use Rattle.occ_renamed.specs.Scopes.{scope_renamed}
use Rattle.occ_replay_rules.specs.occ_lex.Printed.{printed_line}
use Rattle.occ_replay_rules.specs.occ_lex.declared.symbol.Keyword.TheVariants as word
use Rattle.occ_replay_rules.specs.occ_lex.declared.symbol.Symbol.{Symbol}
use Rattle.occ_replay_rules.specs.occ_lex.declared.symbol.Symbol.TheVariants as symbol
use Rattle.occ_replay_rules.specs.occ_meaning.Rename.{renamed}
use Rattle.occ_replay_rules.specs.occ_print.Lines.{TextLine, part_lines, program_lines}
use Rattle.occ_replay_rules.specs.occ_print.Spelled.{gap, is_header, is_mark, is_numeral, is_tight, leans, lines_text, name_pieces, opens, part_text, pieces, pieces_behind, printed, program_text, symbol_pieces}
use Rattle.occ_renamed.proofs.ScriptLines.{part_under, program_under}
use Rattle.occ_renamed.specs.Renamed.{symbol_renamed, symbols_renamed}
use Rattle.occ_renamed.specs.Lines.{IsRenumbered, line_renamed}
use Rattle.occ_replay_rules.specs.occ_syntax.Tree.{Tree}
use Rattle.occ_replay_rules.specs.occ_syntax.declared.scope.Kind.{Kind}
use Rattle.std.proofs.Common.{Bool, List, None, Option, Some, [], ap, if◌then◌else◌, map, refl, ℕ, ◌&&◌, ◌++◌, ◌||◌, ◌∙◌, ◌∷◌, ◌≡◌}
use Rattle.std.specs.Option.{option_map}

opens_under : (f : ℕ → ℕ) (s : Symbol) → opens (symbol_renamed f s) ≡ opens s
opens_under f (symbol.Name name) = refl
opens_under f (symbol.Numeral value) = refl
opens_under f (symbol.Keyword k) = refl
opens_under f (symbol.Sign s) = refl

leans_under : (f : ℕ → ℕ) (s : Symbol) → leans (symbol_renamed f s) ≡ leans s
leans_under f (symbol.Name name) = refl
leans_under f (symbol.Numeral value) = refl
leans_under f (symbol.Keyword k) = refl
leans_under f (symbol.Sign s) = refl

mark_under : (f : ℕ → ℕ) (s : Symbol) → is_mark (symbol_renamed f s) ≡ is_mark s
mark_under f (symbol.Name name) = refl
mark_under f (symbol.Numeral value) = refl
mark_under f (symbol.Keyword k) = refl
mark_under f (symbol.Sign s) = refl

numeral_under : (f : ℕ → ℕ) (s : Symbol) → is_numeral (symbol_renamed f s) ≡ is_numeral s
numeral_under f (symbol.Name name) = refl
numeral_under f (symbol.Numeral value) = refl
numeral_under f (symbol.Keyword k) = refl
numeral_under f (symbol.Sign s) = refl

tight_under : (f : ℕ → ℕ) (header : Bool) (before next : Symbol)
    → is_tight header (symbol_renamed f before) (symbol_renamed f next) ≡ is_tight header before next
tight_under f header before next =
    let B = symbol_renamed f before in let N = symbol_renamed f next in
    ap (λ z. z || (leans N || ((header && is_mark N) || (is_numeral B && opens N)))) (opens_under f before)
    ∙ (ap (λ z. opens before || (z || ((header && is_mark N) || (is_numeral B && opens N)))) (leans_under f next)
    ∙ (ap (λ z. opens before || (leans next || ((header && z) || (is_numeral B && opens N)))) (mark_under f next)
    ∙ (ap (λ z. opens before || (leans next || ((header && is_mark next) || (z && opens N)))) (numeral_under f before)
    ∙ ap (λ z. opens before || (leans next || ((header && is_mark next) || (is_numeral before && z)))) (opens_under f next))))

gap_under : (f : ℕ → ℕ) (header : Bool) (before : Option Symbol) (next : Symbol)
    → gap header (option_map (symbol_renamed f) before) (symbol_renamed f next) ≡ gap header before next
gap_under f header None next = refl
gap_under f header (Some before) next = ap (λ b. if b then 0 else 1) (tight_under f header before next)

header_under : (f : ℕ → ℕ) (us : List Symbol) → is_header (symbols_renamed f us) ≡ is_header us
header_under f [] = refl
header_under f (symbol.Name name ∷ us) = refl
header_under f (symbol.Numeral value ∷ us) = refl
header_under f (symbol.Keyword word.Skip ∷ us) = refl
header_under f (symbol.Keyword word.Stop ∷ us) = refl
header_under f (symbol.Keyword word.Seq ∷ us) = refl
header_under f (symbol.Keyword word.Par ∷ us) = refl
header_under f (symbol.Keyword word.Alt ∷ us) = refl
header_under f (symbol.Keyword word.If ∷ us) = refl
header_under f (symbol.Keyword word.For ∷ us) = refl
header_under f (symbol.Keyword word.Proc ∷ us) = refl
header_under f (symbol.Keyword word.Chan ∷ us) = refl
header_under f (symbol.Keyword word.Of ∷ us) = refl
header_under f (symbol.Keyword word.True ∷ us) = refl
header_under f (symbol.Keyword word.False ∷ us) = refl
header_under f (symbol.Keyword word.And ∷ us) = refl
header_under f (symbol.Keyword word.Or ∷ us) = refl
header_under f (symbol.Keyword word.Not ∷ us) = refl
header_under f (symbol.Keyword word.Plus ∷ us) = refl
header_under f (symbol.Keyword word.Minus ∷ us) = refl
header_under f (symbol.Keyword (word.Width w) ∷ us) = refl
header_under f (symbol.Sign s ∷ us) = refl

symbol_pieces_under : (f : ℕ → ℕ) (names other : List (List ℕ)) → IsRenumbered f names other → (n : ℕ) (s : Symbol)
    → symbol_pieces other n (symbol_renamed f s) ≡ symbol_pieces names n s
symbol_pieces_under f names other h n (symbol.Name name) = ap (name_pieces n) (h name.0)
symbol_pieces_under f names other h n (symbol.Numeral value) = refl
symbol_pieces_under f names other h n (symbol.Keyword k) = refl
symbol_pieces_under f names other h n (symbol.Sign s) = refl

pieces_behind_under : (f : ℕ → ℕ) (names other : List (List ℕ)) → IsRenumbered f names other → (header : Bool) (before : Option Symbol) (us : List Symbol)
    → pieces_behind other header (option_map (symbol_renamed f) before) (symbols_renamed f us) ≡ pieces_behind names header before us
pieces_behind_under f names other h header before [] = refl
pieces_behind_under f names other h header before (s ∷ us) =
    let rest = pieces_behind other header (Some (symbol_renamed f s)) (symbols_renamed f us) in
    ap (λ n. symbol_pieces other n (symbol_renamed f s) ++ rest) (gap_under f header before s)
    ∙ (ap (λ z. z ++ rest) (symbol_pieces_under f names other h (gap header before s) s)
    ∙ ap (λ z. symbol_pieces names (gap header before s) s ++ z) (pieces_behind_under f names other h header (Some s) us))

pieces_under : (f : ℕ → ℕ) (names other : List (List ℕ)) → IsRenumbered f names other → (us : List Symbol)
    → pieces other (symbols_renamed f us) ≡ pieces names us
pieces_under f names other h us =
    ap (λ b. pieces_behind other b None (symbols_renamed f us)) (header_under f us) ∙ pieces_behind_under f names other h (is_header us) None us

printed_under : (f : ℕ → ℕ) (names other : List (List ℕ)) → IsRenumbered f names other → (l : TextLine)
    → printed other (line_renamed f l) ≡ printed names l
printed_under f names other h l = ap (λ z. record { level = l.level; pieces = z }) (pieces_under f names other h l.symbols)

lines_under : (f : ℕ → ℕ) (names other : List (List ℕ)) → IsRenumbered f names other → (ls : List TextLine)
    → lines_text other (map (line_renamed f) ls) ≡ lines_text names ls
lines_under f names other h [] = refl
lines_under f names other h (l ∷ ls) =
    ap (λ z. printed_line z ++ lines_text other (map (line_renamed f) ls)) (printed_under f names other h l)
    ∙ ap (λ z. printed_line (printed names l) ++ z) (lines_under f names other h ls)

pub part_text_under : (f : ℕ → ℕ) (names other : List (List ℕ)) → IsRenumbered f names other → (level : ℕ) (p : Tree)
    → part_text other level (renamed p f) ≡ part_text names level p
part_text_under f names other h level p = ap (lines_text other) (part_under f level p) ∙ lines_under f names other h (part_lines level p)

pub program_text_under : (f : ℕ → ℕ) (names other : List (List ℕ)) → IsRenumbered f names other → (name : ℕ) (ps : List (Name × Kind)) (body : Tree)
    → program_text other (f name) (scope_renamed f ps) (renamed body f) ≡ program_text names name ps body
program_text_under f names other h name ps body =
    ap (lines_text other) (program_under f name ps body) ∙ lines_under f names other h (program_lines name ps body)
