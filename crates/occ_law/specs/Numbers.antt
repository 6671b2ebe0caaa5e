-- The laws by name: their numbers, which numbers a family has, and at how many lists' ends a law changes parts.
use Rattle.std.specs.Prelude.{ℕ, ◌==◌, Bool, ◌&&◌, nat_le, [], ◌∷◌, if◌then◌else◌}
use Rattle.occ_bits.specs.occ_syntax.Names.{is_in}
use Rattle.occ_law.specs.declared.variants.Changes.{Changes}
use Rattle.occ_law.specs.declared.variants.Changes.TheVariants.{Whole, Behind, Between}
use Rattle.occ_law.specs.declared.variants.Family.{Family}
use Rattle.occ_law.specs.declared.variants.Family.TheVariants.{Seq, If, Alt, Par, Scope}
use Rattle.occ_law.specs.declared.variants.Law.{Law}
use Rattle.occ_law.specs.declared.variants.Law.TheVariants.{SeqNone, SeqOne, SeqFlat, SeqSkip, SeqStop, AssignId, AssignOrder, AssignPad, AssignJoin, AssignIf, AssignAlt, SeqIf, SeqAlt, Expr, IoAlt, IfNone, IfFalse, IfTrue, IfElseStop, IfCut, IfNest, IfSwap, IfMerge, IfCopy, IfUnder, AltNone, AltOrder, AltFalse, AltTwice, AltSkip, AltCase, AltFlat, AltSplit, AltSame, AltSlide, AltLeast, ParNone, ParOne, ParFlat, ParOrder, ParSkip, ParStop, ParAssign, ParIf, ParExpand, VarUnused, VarRename, VarSwap, VarFirst, VarLast, VarIf, VarAlt, VarPar, VarAny, VarAssign, VarEnd, ChanUnused, ChanRename, ChanSwap, ChanSeq, ChanIf, ChanAlt, ChanPar}
use Rattle.occ_law.specs.declared.variants.Row.{Row}

-- the number of a law, by which the table of the laws' definitions has it
abbrev pub number : Law → ℕ
number SeqNone = 1
number SeqOne = 2
number SeqFlat = 3
number SeqSkip = 4
number SeqStop = 5
number AssignId = 6
number AssignOrder = 7
number AssignPad = 8
number AssignJoin = 9
number AssignIf = 10
number AssignAlt = 11
number SeqIf = 12
number SeqAlt = 13
number Expr = 14
number IoAlt = 15
number IfNone = 16
number IfFalse = 17
number IfTrue = 18
number IfElseStop = 19
number IfCut = 20
number IfNest = 21
number IfSwap = 22
number IfMerge = 23
number IfCopy = 24
number IfUnder = 25
number AltNone = 26
number AltOrder = 27
number AltFalse = 28
number AltTwice = 29
number AltSkip = 30
number AltCase = 31
number AltFlat = 32
number AltSplit = 33
number AltSame = 34
number AltSlide = 35
number AltLeast = 36
number ParNone = 37
number ParOne = 38
number ParFlat = 39
number ParOrder = 40
number ParSkip = 41
number ParStop = 42
number ParAssign = 43
number ParIf = 44
number ParExpand = 45
number VarUnused = 46
number VarRename = 47
number VarSwap = 48
number VarFirst = 49
number VarLast = 50
number VarIf = 51
number VarAlt = 52
number VarPar = 53
number VarAny = 54
number VarAssign = 55
number VarEnd = 56
number ChanUnused = 57
number ChanRename = 58
number ChanSwap = 59
number ChanSeq = 60
number ChanIf = 61
number ChanAlt = 62
number ChanPar = 63

-- the first number of a family
abbrev pub first_of : Family → ℕ
first_of Seq = 1
first_of If = 16
first_of Alt = 26
first_of Par = 37
first_of Scope = 46

-- the last number of a family
abbrev pub last_of : Family → ℕ
last_of Seq = 15
last_of If = 25
last_of Alt = 36
last_of Par = 45
last_of Scope = 63

-- how many lists stand in front of the place at which the law of that number changes a part
abbrev pub lists_of : ℕ → ℕ
lists_of n =
    if is_in (29 ∷ 34 ∷ []) n then 2
    else if is_in (3 ∷ 4 ∷ 5 ∷ 17 ∷ 19 ∷ 20 ∷ 21 ∷ 22 ∷ 23 ∷ 25 ∷ 28 ∷ 31 ∷ 32 ∷ 33 ∷ 35 ∷ 39 ∷ 41 ∷ []) n then 1 else 0

-- how many lists that are
abbrev pub lists : Changes → ℕ
lists Whole = 0
lists Behind = 1
lists Between = 2

-- a row of the table says of its law what these definitions say
unfoldable pub is_row : Row → Bool
is_row row =
    (nat_le (first_of row.family) (number row.law) && nat_le (number row.law) (last_of row.family))
    && lists row.changes == lists_of (number row.law)
