-- The rows of a printed text are within the limits of a script, and have the forms of what they say.
use Rattle.std.proofs.Common.{◌≡◌, ℕ, ◌≤◌, ◌+◌, Bool, true, false, ◌&&◌, List, [], ◌∷◌, ◌++◌, length, Option, None, Some, refl, ap, sym, ◌∙◌, arith}
use Rattle.std.specs.Prelude.{if◌then◌else◌, nat_lt}
use Rattle.std.proofs.lemmas.Bool.{le-ltb}
use Rattle.occ_print.specs.occ_lex.declared.symbol.Row.{Row}
use Rattle.occ_print.specs.occ_lex.declared.symbol.Symbol.{Symbol}
use Rattle.occ_print.specs.occ_lex.declared.symbol.Symbol.TheVariants as symbol
use Rattle.occ_print.specs.occ_parse_forms.Written.{item_words}
use Rattle.occ_parse.specs.occ_parse_rules.Forest.{Laid}
use Rattle.occ_parse.specs.occ_parse_rules.Places.{Place}
use Rattle.occ_print.specs.Lines.{TextLine, most_symbols}
use Rattle.occ_parse.specs.declared.bound.Bound.{Bound}
use Rattle.occ_parse.specs.declared.bound.Bound.TheVariants as bound
use Rattle.occ_parse.specs.declared.fault.ParseFault.{ParseFault}
use Rattle.occ_parse.specs.declared.fault.Which.TheVariants as which
use Rattle.occ_parse.specs.Limits.{counts_nothing, weight, opens, counted_from, counted, is_limited, stop_at, stopped}
use Rattle.occ_parse.specs.Reading.{AreForms}
use Rattle.occ_print_back.specs.Said.{item_of}
use Rattle.occ_print_back.specs.Read.{symbols_read, line_rows}
use Rattle.occ_print_back.specs.Formed.{AreFormed}
use Rattle.occ_print_back.specs.Back.{deepest}

zero_or_one : (b : Bool) → (if b then 0 else 1) ≤ 1
zero_or_one true = omega arith
zero_or_one false = omega arith

weight_less : (b : Bool) (s : Symbol) → weight b s ≤ weight false s
weight_less true (symbol.Numeral v) = omega arith
weight_less false (symbol.Numeral v) = omega arith
weight_less b (symbol.Name n) = omega arith
weight_less b (symbol.Keyword k) = omega arith
weight_less b (symbol.Sign s) = omega arith

counted_less : (b : Bool) (ss : List Symbol) → counted_from b ss ≤ counted_from false ss
counted_less b [] = omega arith
counted_less b (s ∷ ss) = omega (arith, weight_less b s)

item_counted : (y : ℕ) (k : Option ℕ) (rest : List Symbol) → counted_from false (item_words (item_of (record { name = y; element = k })) ++ rest) ≡ 1 + counted_from false rest
item_counted y None rest = refl
item_counted y (Some k) rest = omega arith

count_read : (P : ℕ → Place) (ss : List Symbol) → counted (symbols_read P ss) ≤ length ss
count_read P [] = omega arith
count_read P (symbol.Name name ∷ ss) = omega (arith, item_counted (P name.0).name (P name.0).element (symbols_read P ss), count_read P ss)
count_read P (symbol.Numeral v ∷ ss) = omega (arith, count_read P ss)
count_read P (symbol.Keyword k ∷ ss) = omega (arith, count_read P ss)
count_read P (symbol.Sign s ∷ ss) = omega (arith, zero_or_one (counts_nothing s), counted_less (opens (symbol.Sign s)) (symbols_read P ss), count_read P ss)

abbrev line_row : (ℕ → Place) → ℕ → TextLine → Row
line_row P n l = record { number = n; level = l.level; symbols = symbols_read P l.symbols }

-- a line within the limits
shallow : (t : Bool) (m : ℕ) → (t ≡ true → m ≤ 64) → (t && nat_lt 64 m) ≡ false
shallow true m h = le-ltb 64 m (h refl)
shallow false m h = refl

pub none_stopped_within : (b : Bound) (P : ℕ → Place) (n : ℕ) (ls : List TextLine) → most_symbols ls ≤ 4096 → (is_limited b ≡ true → deepest ls ≤ 64)
    → stopped b (line_rows P n ls) None ≡ (line_rows P n ls, None)
none_stopped_within b P n [] h k = refl
none_stopped_within b P n (l ∷ ls) h k =
    let row = line_row P n l in
    let others = stopped b (line_rows P (n + 1) ls) None in
    let small : counted (symbols_read P l.symbols) ≤ 4096 = omega (arith, h, count_read P l.symbols) in
    let within : nat_lt 4096 (counted (symbols_read P l.symbols)) ≡ false = le-ltb _ _ small in
    ap (λ t. stop_at row (if t then Some which.Levels else (if nat_lt 4096 (counted (symbols_read P l.symbols)) then Some which.Tokens else None)) others)
    (shallow (is_limited b) l.level (λ e. let d = k e in omega (arith, d)))
    ∙ ap (λ t. stop_at row (if t then Some which.Tokens else None) others) within
    ∙ ap (λ (rest : List Row × Option ParseFault). (row ∷ rest.0, rest.1)) (none_stopped_within b P (n + 1) ls (omega (arith, h)) (λ e. let d = k e in omega (arith, d)))

pub none_stopped : (P : ℕ → Place) (n : ℕ) (ls : List TextLine) → most_symbols ls ≤ 4096 → stopped bound.Script (line_rows P n ls) None ≡ (line_rows P n ls, None)
none_stopped P n ls h = none_stopped_within bound.Script P n ls h (λ e. absurd (cc))

pub all_said : (P : ℕ → Place) (n : ℕ) (ts : List TextLine) (ls : List Laid) → AreFormed P n ts ls → AreForms (line_rows P n ts) ls
all_said P n [] [] h = tt
all_said P n [] (l ∷ ls) h = h
all_said P n (t ∷ ts) [] h = h
all_said P n (t ∷ ts) (l ∷ ls) h = (record { number = sym h.0; level = sym h.1; form = h.2 }, all_said P (n + 1) ts ls h.3)
