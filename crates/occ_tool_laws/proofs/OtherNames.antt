-- The lines that are read, under other names: they are as many, and say the same under these names.
use Rattle.std.proofs.Common.{◌≡◌, ℕ, ◌+◌, ◌<◌, Bool, false, nat_lt, ◌&&◌, if◌then◌else◌, List, [], ◌∷◌, map, length, Option, Some, None, refl, ap, ap₂, ◌∙◌}
use Rattle.std.specs.List.{AllByRecursion}
use Rattle.occ_witness.specs.occ_lex.declared.fault.LineFault.{LineFault}
use Rattle.occ_witness.specs.occ_lex.declared.symbol.Row.{Row}
use Rattle.occ_witness.specs.occ_lex.declared.symbol.Symbol.{Symbol}
use Rattle.occ_witness.specs.occ_lex.declared.symbol.Symbol.TheVariants as symbol
use Rattle.occ_witness.specs.occ_lex.Symbols.{AreKnown, IsKnown}
use Rattle.occ_witness.specs.occ_parse.Limits.{counted_from, is_limited, line_limit, opens, stop_at, stopped, weight}
use Rattle.occ_witness.specs.occ_parse.Reading.{AreForms}
use Rattle.occ_witness.specs.occ_parse.declared.bound.Bound.{Bound}
use Rattle.occ_witness.specs.occ_parse.declared.fault.ParseFault.{ParseFault}
use Rattle.occ_witness.specs.occ_parse.declared.fault.Which.{Which}
use Rattle.occ_witness.specs.occ_parse.declared.fault.Which.TheVariants as which
use Rattle.occ_witness.specs.occ_parse_rules.Forest.{Laid}
use Rattle.occ_witness.proofs.from_read_renamed.Laid.{laid_renamed}
use Rattle.occ_witness.proofs.from_read_renamed.Numbers.{Table}
use Rattle.occ_witness.proofs.from_read_renamed.Rows.{row_renamed, rows_renamed}
use Rattle.occ_witness.proofs.from_renamed.Forms.{form_so}
use Rattle.occ_witness.specs.occ_renamed.Renamed.{symbol_renamed, symbols_renamed}
use Rattle.occ_witness.specs.occ_renamed.Standing.{IsOneForOne}

-- a row has its names again, once they were given others and back
abbrev pub ComesBack : (ℕ → ℕ) → (ℕ → ℕ) → Row → Type 0
ComesBack f back row = symbols_renamed back (symbols_renamed f row.symbols) ≡ row.symbols

-- ---- limits of lines don't see names

weight_same : (f : ℕ → ℕ) (opened : Bool) (s : Symbol) → weight opened (symbol_renamed f s) ≡ weight opened s
weight_same f opened (symbol.Name x) = refl
weight_same f opened (symbol.Numeral value) = refl
weight_same f opened (symbol.Keyword k) = refl
weight_same f opened (symbol.Sign s) = refl

opens_same : (f : ℕ → ℕ) (s : Symbol) → opens (symbol_renamed f s) ≡ opens s
opens_same f (symbol.Name x) = refl
opens_same f (symbol.Numeral value) = refl
opens_same f (symbol.Keyword k) = refl
opens_same f (symbol.Sign s) = refl

counted_same : (f : ℕ → ℕ) (opened : Bool) (symbols : List Symbol) → counted_from opened (symbols_renamed f symbols) ≡ counted_from opened symbols
counted_same f opened [] = refl
counted_same f opened (s ∷ symbols) =
    ap₂ ◌+◌ (weight_same f opened s) (ap (λ b. counted_from b (symbols_renamed f symbols)) (opens_same f s) ∙ counted_same f (opens s) symbols)

limit_same : (f : ℕ → ℕ) (b : Bound) (row : Row) → line_limit b (row_renamed f row) ≡ line_limit b row
limit_same f b row = ap (λ n. if is_limited b && nat_lt 64 row.level then Some which.Levels else (if nat_lt 4096 n then Some which.Tokens else None)) (counted_same f false row.symbols)

stop_other : (f : ℕ → ℕ) (row : Row) (o : Option Which) (us vs : List Row × Option ParseFault) → us ≡ (rows_renamed f vs.0, vs.1)
    → stop_at (row_renamed f row) o us ≡ (rows_renamed f (stop_at row o vs).0, (stop_at row o vs).1)
stop_other f row (Some w) us vs h = refl
stop_other f row None us vs h = λ i. (row_renamed f row ∷ (h i).0, (h i).1)

-- the rows in front of the first that is over a limit, and the fault of that one
stopped_other : (f : ℕ → ℕ) (b : Bound) (rows : List Row) (found : Option (ℕ × LineFault))
    → stopped b (rows_renamed f rows) found ≡ (rows_renamed f (stopped b rows found).0, (stopped b rows found).1)
stopped_other f b [] found = refl
stopped_other f b (row ∷ rows) found =
    ap (λ o. stop_at (row_renamed f row) o (stopped b (rows_renamed f rows) found)) (limit_same f b row)
    ∙ stop_other f row (line_limit b row) (stopped b (rows_renamed f rows) found) (stopped b rows found) (stopped_other f b rows found)

pub stopped_same : (f : ℕ → ℕ) (b : Bound) (rows : List Row) (found : Option (ℕ × LineFault))
    → (stopped b (rows_renamed f rows) found).0 ≡ rows_renamed f (stopped b rows found).0
stopped_same f b rows found = ap (λ p. p.0) (stopped_other f b rows found)

pub stop_kept : (f : ℕ → ℕ) (b : Bound) (rows : List Row) (found : Option (ℕ × LineFault)) → (stopped b (rows_renamed f rows) found).1 ≡ (stopped b rows found).1
stop_kept f b rows found = ap (λ p. p.1) (stopped_other f b rows found)

-- ---- what lines say

-- lines whose names come back say the same under other names
pub forms_so : (f back : ℕ → ℕ) → IsOneForOne f → IsOneForOne back → (rows : List Row) (ls : List Laid) → AllByRecursion (ComesBack f back) rows → AreForms rows ls
    → AreForms (rows_renamed f rows) (map (laid_renamed f) ls)
forms_so f back one other [] [] s h = tt
forms_so f back one other [] (l ∷ ls) s h = absurd h
forms_so f back one other (row ∷ rows) [] s h = absurd h
forms_so f back one other (row ∷ rows) (l ∷ ls) s h = (
  record { number = h.0.number; level = h.0.level; form = form_so f back one other row.symbols l.shape s.0 h.0.form },
  forms_so f back one other rows ls s.1 h.1,
)

symbol_back : (f back : ℕ → ℕ) (names : Table) → ((x : ℕ) → x < length names → back (f x) ≡ x) → (s : Symbol) → IsKnown names s → symbol_renamed back (symbol_renamed f s) ≡ s
symbol_back f back names c (symbol.Name x) h = ap (λ n. symbol.Name (record { 0 = n })) (c x.0 h)
symbol_back f back names c (symbol.Numeral value) h = refl
symbol_back f back names c (symbol.Keyword k) h = refl
symbol_back f back names c (symbol.Sign s) h = refl

symbols_back : (f back : ℕ → ℕ) (names : Table) → ((x : ℕ) → x < length names → back (f x) ≡ x) → (symbols : List Symbol) → AllByRecursion (IsKnown names) symbols
    → symbols_renamed back (symbols_renamed f symbols) ≡ symbols
symbols_back f back names c [] h = refl
symbols_back f back names c (s ∷ symbols) h = ap₂ ◌∷◌ (symbol_back f back names c s h.0) (symbols_back f back names c symbols h.1)

-- the names of rows come back that are those of a table
pub rows_back : (f back : ℕ → ℕ) (names : Table) → ((x : ℕ) → x < length names → back (f x) ≡ x) → (rows : List Row) → AreKnown names rows
    → AllByRecursion (ComesBack f back) rows
rows_back f back names c [] h = tt
rows_back f back names c (row ∷ rows) h = (symbols_back f back names c row.symbols h.0, rows_back f back names c rows h.1)

-- what holds of each row holds of those in front of the first that is over a limit
stop_keeps : (P : Row → Type 0) (row : Row) (o : Option Which) (others : List Row × Option ParseFault) → P row → AllByRecursion P others.0
    → AllByRecursion P (stop_at row o others).0
stop_keeps P row None others h k = (h, k)
stop_keeps P row (Some w) others h k = tt

pub stopped_keeps : (P : Row → Type 0) (b : Bound) (rows : List Row) (found : Option (ℕ × LineFault)) → AllByRecursion P rows → AllByRecursion P (stopped b rows found).0
stopped_keeps P b [] found h = tt
stopped_keeps P b (row ∷ rows) found h = stop_keeps P row (line_limit b row) (stopped b rows found) h.0 (stopped_keeps P b rows found h.1)
