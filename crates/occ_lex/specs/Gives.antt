use Rattle.std.specs.Prelude.{ℕ, ◌≡◌, Result, Ok, Err}
use Rattle.occ_lex.specs.declared.fault.LineFault.{LineFault}
use Rattle.occ_lex.specs.declared.fault.RowFault.{RowFault}
use Rattle.occ_lex.specs.declared.fault.RowFault.TheVariants as row
use Rattle.occ_lex.specs.declared.fault.LexFault.{LexFault}
use Rattle.occ_lex.specs.declared.fault.LexFault.TheVariants as lex

-- the fault of a row is the one that reading gives, unless memory ran out
abbrev pub RowFails : {Y : Type 0} → RowFault → Result Y LineFault → Type 0
RowFails row.Memory read = Unit {0}
RowFails (row.Fault fault) read = read ≡ Err fault

-- what a call returned, seen by view, is what reading a row gives, unless memory ran out
abbrev pub RowGives : {X Y : Type 0} → (X → Y) → Result X RowFault → Result Y LineFault → Type 0
RowGives view (Ok x) read = read ≡ Ok (view x)
RowGives view (Err e) read = RowFails e read

-- the same of a text, whose fault names its line
abbrev pub Fails : {Y : Type 0} → LexFault → Result Y (ℕ × LineFault) → Type 0
Fails lex.Memory read = Unit {0}
Fails (lex.Line line fault) read = read ≡ Err (line, fault)

abbrev pub Gives : {X Y : Type 0} → (X → Y) → Result X LexFault → Result Y (ℕ × LineFault) → Type 0
Gives view (Ok x) read = read ≡ Ok (view x)
Gives view (Err e) read = Fails e read
