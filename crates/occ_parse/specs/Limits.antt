-- The limits on a text and on its lines.
use Rattle.std.specs.Prelude.{ℕ, ◌+◌, Bool, true, false, nat_lt, ◌&&◌, if◌then◌else◌, List, [], ◌∷◌, length, Option, Some, None}
use Rattle.occ_parse_rules.specs.occ_lex.declared.fault.LineFault.{LineFault}
use Rattle.occ_parse_rules.specs.occ_lex.declared.symbol.Row.{Row}
use Rattle.occ_parse_rules.specs.occ_lex.declared.symbol.Sign.{Sign}
use Rattle.occ_parse_rules.specs.occ_lex.declared.symbol.Sign.TheVariants as sign
use Rattle.occ_parse_rules.specs.occ_lex.declared.symbol.Symbol.{Symbol}
use Rattle.occ_parse_rules.specs.occ_lex.declared.symbol.Symbol.TheVariants as symbol
use Rattle.occ_parse_layout.specs.declared.placed.Frame.{Frame}
use Rattle.occ_parse_layout.specs.declared.placed.Frame.TheVariants as frame
use Rattle.occ_parse.specs.declared.bound.Bound.{Bound}
use Rattle.occ_parse.specs.declared.bound.Bound.TheVariants as bound
use Rattle.occ_parse.specs.declared.fault.ParseFault.{ParseFault}
use Rattle.occ_parse.specs.declared.fault.ParseFault.TheVariants as fault
use Rattle.occ_parse.specs.declared.fault.Which.{Which}
use Rattle.occ_parse.specs.declared.fault.Which.TheVariants as which

-- a program of its own has at most 65,536 bytes
abbrev pub is_too_long : Bound → List ℕ → Bool
is_too_long bound.Program text = nat_lt 65536 (length text)
is_too_long bound.First text = false
is_too_long bound.Script text = false

-- the program behind the steps of a script has no replicators, and no limits but that on the tokens of a line
abbrev pub frame_of : Bound → Frame
frame_of bound.Program = frame.Program
frame_of bound.First = frame.Program
frame_of bound.Script = frame.Plain

abbrev pub is_limited : Bound → Bool
is_limited bound.Program = true
is_limited bound.First = true
is_limited bound.Script = false

-- ---- lines

-- The tokens of a line as they are counted: the brackets of an index aren't, and neither is a numeral directly behind the first.
abbrev pub counts_nothing : Sign → Bool
counts_nothing sign.OpenIndex = true
counts_nothing sign.CloseIndex = true
counts_nothing other = false

abbrev pub opens_index : Sign → Bool
opens_index sign.OpenIndex = true
opens_index other = false

-- what one symbol counts, where it is said whether the symbol before opens an index
abbrev pub weight : Bool → Symbol → ℕ
weight opened (symbol.Sign s) = if counts_nothing s then 0 else 1
weight opened (symbol.Numeral value) = if opened then 0 else 1
weight opened (symbol.Name name) = 1
weight opened (symbol.Keyword word) = 1

abbrev pub opens : Symbol → Bool
opens (symbol.Sign s) = opens_index s
opens (symbol.Numeral value) = false
opens (symbol.Name name) = false
opens (symbol.Keyword word) = false

abbrev pub counted_from : Bool → List Symbol → ℕ
counted_from opened [] = 0
counted_from opened (s ∷ symbols) = weight opened s + counted_from (opens s) symbols

abbrev pub counted : List Symbol → ℕ
counted symbols = counted_from false symbols

-- a line stands at level 64 at most, and has 4,096 tokens at most
abbrev pub line_limit : Bound → Row → Option Which
line_limit b row =
    if is_limited b && nat_lt 64 row.level then Some which.Levels
    else (if nat_lt 4096 (counted row.symbols) then Some which.Tokens else None)

-- the fault of a text's first faulty line, where it has one
abbrev pub line_fault : Option (ℕ × LineFault) → Option ParseFault
line_fault None = None
line_fault (Some found) = Some (fault.Line found.0 found.1)

-- what stands in front of the first line that is over a limit, and its fault; the fault of tokens stands behind all rows
abbrev pub stop_at : Row → Option Which → List Row × Option ParseFault → List Row × Option ParseFault
stop_at row (Some w) others = ([], Some (fault.Limit w row.number))
stop_at row None others = (row ∷ others.0, others.1)

abbrev pub stopped : Bound → List Row → Option (ℕ × LineFault) → List Row × Option ParseFault
stopped b [] found = ([], line_fault found)
stopped b (row ∷ rows) found = stop_at row (line_limit b row) (stopped b rows found)
