-- A text that is well laid out with two tables is laid out as lines that are the same under other names.
use Rattle.std.proofs.Common.{◌≡◌, ℕ, ◌+◌, ◌<◌, Bool, false, nat_lt, ◌&&◌, if◌then◌else◌, List, [], ◌∷◌, ◌++◌, map, length, Option, Some, None, refl, sym, ap, ap₂, subst, ◌∙◌, arith}
use Rattle.std.specs.List.{AllByRecursion}
use Rattle.std.proofs.lemmas.List.{map-append}
use Rattle.occ_renamed.specs.occ_lex.declared.fault.LineFault.{LineFault}
use Rattle.occ_renamed.specs.occ_lex.Rows.{reading_of}
use Rattle.occ_renamed.specs.occ_lex.declared.symbol.Row.{Row}
use Rattle.occ_renamed.specs.occ_lex.declared.symbol.Symbol.{Symbol}
use Rattle.occ_renamed.specs.occ_lex.declared.symbol.Symbol.TheVariants as symbol
use Rattle.occ_renamed.specs.occ_lex.Symbols.{AreKnown, Extends, IsKnown}
use Rattle.occ_renamed.proofs.from_lex.Interned.{longer, rows_known}
use Rattle.occ_renamed.proofs.from_parse.Knowing.{stopped_keeps}
use Rattle.occ_nform.specs.occ_base.Names.{IsDistinct}
use Rattle.occ_renamed.proofs.from_parse_layout.Once.{one_forest_of}
use Rattle.occ_renamed.specs.occ_parse.declared.bound.Bound.{Bound}
use Rattle.occ_renamed.specs.occ_parse.declared.fault.ParseFault.{ParseFault}
use Rattle.occ_renamed.specs.occ_parse.declared.fault.Which.{Which}
use Rattle.occ_renamed.specs.occ_parse.declared.fault.Which.TheVariants as which
use Rattle.occ_renamed.specs.occ_parse.Limits.{counted_from, is_limited, line_limit, opens, stop_at, stopped, weight}
use Rattle.occ_renamed.specs.occ_parse.Reading.{AreForms, AreJudged, IsLaidOut, names_in, rows_in}
use Rattle.occ_renamed.proofs.from_parse.Once.{OneForm, forms_once}
use Rattle.occ_renamed.specs.Renamed.{forest_renamed, shape_renamed, symbol_renamed, symbols_renamed}
use Rattle.occ_renamed.specs.Standing.{IsOneForOne}
use Rattle.occ_renamed.proofs.Forms.{form_so}
use Rattle.occ_renamed.specs.occ_parse_rules.Forest.{Forest, no_line, and_line, Laid, lines_at}
use Rattle.occ_read_renamed.specs.Readings.{StandIn}
use Rattle.occ_read_renamed.proofs.Numbers.{Table, comes_back, number_in_other, one_number, renumbering}
use Rattle.occ_read_renamed.proofs.Rows.{row_renamed, rows_renamed, rows_so}

-- ---- limits of lines don't see names

weight_same : (f : ℕ → ℕ) (opened : Bool) (s : Symbol) → weight opened (symbol_renamed f s) ≡ weight opened s
weight_same f opened (symbol.Name x) = refl
weight_same f opened (symbol.Numeral value) = refl
weight_same f opened (symbol.Keyword k) = refl
weight_same f opened (symbol.Sign s) = refl

opens_same : (f : ℕ → ℕ) (s : Symbol) → opens (symbol_renamed f s) ≡ opens s
opens_same f (symbol.Name x) = refl
opens_same f (symbol.Numeral value) = refl
opens_same f (symbol.Keyword k) = refl
opens_same f (symbol.Sign s) = refl

counted_same : (f : ℕ → ℕ) (opened : Bool) (symbols : List Symbol) → counted_from opened (symbols_renamed f symbols) ≡ counted_from opened symbols
counted_same f opened [] = refl
counted_same f opened (s ∷ symbols) =
    ap₂ ◌+◌ (weight_same f opened s) (ap (λ b. counted_from b (symbols_renamed f symbols)) (opens_same f s) ∙ counted_same f (opens s) symbols)

limit_same : (f : ℕ → ℕ) (b : Bound) (row : Row) → line_limit b (row_renamed f row) ≡ line_limit b row
limit_same f b row = ap (λ n. if is_limited b && nat_lt 64 row.level then Some which.Levels else (if nat_lt 4096 n then Some which.Tokens else None)) (counted_same f false row.symbols)

stop_same : (f : ℕ → ℕ) (row : Row) (o : Option Which) (us vs : List Row × Option ParseFault) → us.0 ≡ rows_renamed f vs.0
    → (stop_at (row_renamed f row) o us).0 ≡ rows_renamed f (stop_at row o vs).0
stop_same f row (Some w) us vs h = refl
stop_same f row None us vs h = ap (λ rows. row_renamed f row ∷ rows) h

stopped_same : (f : ℕ → ℕ) (b : Bound) (rows : List Row) (found : Option (ℕ × LineFault))
    → (stopped b (rows_renamed f rows) found).0 ≡ rows_renamed f (stopped b rows found).0
stopped_same f b [] found = refl
stopped_same f b (row ∷ rows) found =
    ap (λ o. (stop_at (row_renamed f row) o (stopped b (rows_renamed f rows) found)).0) (limit_same f b row)
    ∙ stop_same f row (line_limit b row) (stopped b (rows_renamed f rows) found) (stopped b rows found) (stopped_same f b rows found)

stop_behind : (f : ℕ → ℕ) (row : Row) (o : Option Which) (us vs : List Row × Option ParseFault) → us.1 ≡ vs.1
    → (stop_at (row_renamed f row) o us).1 ≡ (stop_at row o vs).1
stop_behind f row (Some w) us vs h = refl
stop_behind f row None us vs h = h

stop_kept : (f : ℕ → ℕ) (b : Bound) (rows : List Row) (found : Option (ℕ × LineFault)) → (stopped b (rows_renamed f rows) found).1 ≡ (stopped b rows found).1
stop_kept f b [] found = refl
stop_kept f b (row ∷ rows) found =
    ap (λ o. (stop_at (row_renamed f row) o (stopped b (rows_renamed f rows) found)).1) (limit_same f b row)
    ∙ stop_behind f row (line_limit b row) (stopped b (rows_renamed f rows) found) (stopped b rows found) (stop_kept f b rows found)

-- ---- lines under other names

abbrev pub laid_renamed : (ℕ → ℕ) → Laid → Laid
laid_renamed f l = record { number = l.number; level = l.level; shape = shape_renamed f l.shape }

pub lines_renamed : (f : ℕ → ℕ) (level : ℕ) (g : Forest) → lines_at level (forest_renamed f g) ≡ map (laid_renamed f) (lines_at level g)
lines_renamed f level no_line = refl
lines_renamed f level (and_line number s below rest) =
    ap (λ ls. record { number = number; level = level; shape = shape_renamed f s } ∷ ls)
    (ap₂ ◌++◌ (lines_renamed f (level + 1) below) (lines_renamed f level rest) ∙ sym (map-append (laid_renamed f) (lines_at (level + 1) below) (lines_at level rest)))

-- the names of a row come back
abbrev ComesBack : (ℕ → ℕ) → (ℕ → ℕ) → Row → Type 0
ComesBack f back row = symbols_renamed back (symbols_renamed f row.symbols) ≡ row.symbols

forms_so : (f back : ℕ → ℕ) → IsOneForOne f → IsOneForOne back → (rows : List Row) (ls : List Laid) → AllByRecursion (ComesBack f back) rows → AreForms rows ls
    → AreForms (rows_renamed f rows) (map (laid_renamed f) ls)
forms_so f back one other [] [] s h = tt
forms_so f back one other [] (l ∷ ls) s h = absurd h
forms_so f back one other (row ∷ rows) [] s h = absurd h
forms_so f back one other (row ∷ rows) (l ∷ ls) s h = (
  record { number = h.0.number; level = h.0.level; form = form_so f back one other row.symbols l.shape s.0 h.0.form },
  forms_so f back one other rows ls s.1 h.1,
)

symbol_back : (f back : ℕ → ℕ) (names : Table) → ((x : ℕ) → x < length names → back (f x) ≡ x) → (s : Symbol) → IsKnown names s → symbol_renamed back (symbol_renamed f s) ≡ s
symbol_back f back names c (symbol.Name x) h = ap (λ n. symbol.Name (record { 0 = n })) (c x.0 h)
symbol_back f back names c (symbol.Numeral value) h = refl
symbol_back f back names c (symbol.Keyword k) h = refl
symbol_back f back names c (symbol.Sign s) h = refl

symbols_back : (f back : ℕ → ℕ) (names : Table) → ((x : ℕ) → x < length names → back (f x) ≡ x) → (symbols : List Symbol) → AllByRecursion (IsKnown names) symbols
    → symbols_renamed back (symbols_renamed f symbols) ≡ symbols
symbols_back f back names c [] h = refl
symbols_back f back names c (s ∷ symbols) h = ap₂ ◌∷◌ (symbol_back f back names c s h.0) (symbols_back f back names c symbols h.1)

rows_back : (f back : ℕ → ℕ) (names : Table) → ((x : ℕ) → x < length names → back (f x) ≡ x) → (rows : List Row) → AreKnown names rows
    → AllByRecursion (ComesBack f back) rows
rows_back f back names c [] h = tt
rows_back f back names c (row ∷ rows) h = (symbols_back f back names c row.symbols h.0, rows_back f back names c rows h.1)

-- ---- the lines of the two readings

module _ (form : OneForm) (b : Bound) (text : List ℕ) (old other names others : Table) (d : IsDistinct names) (k : IsDistinct others) (s : StandIn names others)
    (e : Extends (names_in text old) names) (l : Extends (names_in text other) others) where
  abbrev f : ℕ → ℕ
  f = number_in_other names others

  abbrev back : ℕ → ℕ
  back = number_in_other others names

  rows_are : rows_in text other ≡ rows_renamed f (rows_in text old)
  rows_are = rows_so f names others k (renumbering names others d s).texts text old other (reading_of text).0 e l

  -- whatever lines the second reading finds, up to its first faulty line, are those of the first
  pub laid_so : (g : Forest) (ls : List Laid) (stop : Option ParseFault) → IsLaidOut b text old g → AreJudged b text other ls stop
      → ls ≡ map (laid_renamed f) (lines_at 0 g)
  laid_so g ls stop x y =
      let lines = (reading_of text).0 in
      let found = (reading_of text).1 in
      let rows = (stopped b (rows_in text old) found).0 in
      let come = rows_back f back (names_in text old) (λ z small. comes_back names others d s z (omega (arith, small, longer (names_in text old) names e)))
      (rows_in text old) (rows_known text old lines) in
      let mine = forms_so f back (one_number names others d) (one_number others names k) rows (lines_at 0 g)
      (stopped_keeps (ComesBack f back) b (rows_in text old) found come) x.judged.forms in
      let same : (stopped b (rows_in text other) found).0 ≡ rows_renamed f rows = ap (λ rs. (stopped b rs found).0) rows_are ∙ stopped_same f b (rows_in text old) found in
      forms_once form (rows_renamed f rows) ls (map (laid_renamed f) (lines_at 0 g)) (subst (λ rs. AreForms rs ls) same y.forms) mine

  -- and where the first reading has no faulty line, so has the second
  pub stop_so : (g : Forest) (ls : List Laid) (stop : Option ParseFault) → IsLaidOut b text old g → AreJudged b text other ls stop → stop ≡ None
  stop_so g ls stop x y =
      let found = (reading_of text).1 in
      sym y.stop_is ∙ (ap (λ rs. (stopped b rs found).1) rows_are ∙ (stop_kept f b (rows_in text old) found ∙ x.judged.stop_is))

  pub drafts_so : (g h : Forest) → IsLaidOut b text old g → IsLaidOut b text other h → h ≡ forest_renamed f g
  drafts_so g h x y = one_forest_of 0 h (forest_renamed f g) (laid_so g (lines_at 0 h) None x y.judged ∙ sym (lines_renamed f 0 g))
