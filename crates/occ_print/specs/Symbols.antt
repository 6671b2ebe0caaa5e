-- The symbols of each line of a printed program, from left to right. An element of an array is one name.
use Rattle.std.specs.Prelude.{ℕ, Bool, true, false, not, ◌&&◌, ◌||◌, if◌then◌else◌, List, [], ◌∷◌, ◌++◌}
use Rattle.std.specs.List.{flat_map}
use Rattle.occ_syntax.specs.occ_base.declared.names.Name.{Name}
use Rattle.occ_syntax.specs.occ_base.declared.width.Width.TheVariants as width
use Rattle.occ_syntax.specs.declared.expr.Op.{Op}
use Rattle.occ_syntax.specs.declared.expr.Op.TheVariants as op
use Rattle.occ_syntax.specs.declared.scope.Kind.{Kind}
use Rattle.occ_syntax.specs.Tree.{Exp, variable, numeral, truth, negation, complement, operation, Waiting, ready, input, output}
use Rattle.occ_parse_forms.specs.occ_lex.declared.symbol.Keyword.{Keyword}
use Rattle.occ_parse_forms.specs.occ_lex.declared.symbol.Keyword.TheVariants as word
use Rattle.occ_parse_forms.specs.occ_lex.declared.symbol.Sign.TheVariants as sign
use Rattle.occ_parse_forms.specs.occ_lex.declared.symbol.Symbol.{Symbol}
use Rattle.occ_parse_forms.specs.occ_lex.declared.symbol.Symbol.TheVariants as symbol
use Rattle.occ_parse_forms.specs.Lines.{comma, kind_words, mark_words}
use Rattle.occ_parse_forms.specs.Written.{op_word, truth_word}

abbrev pub name_symbol : ℕ → Symbol
name_symbol x = symbol.Name (record { 0 = x })

abbrev pub word_symbol : Keyword → List Symbol
word_symbol k = symbol.Keyword k ∷ []

-- items with a comma between them
abbrev pub separated : {X : Type 0} → (X → List Symbol) → List X → List Symbol
separated spell [] = []
separated spell (x ∷ xs) = spell x ++ flat_map (λ y. comma ∷ spell y) xs

-- what stands between an item and the one before it
abbrev pub comma_behind : (first : Bool) → List Symbol
comma_behind true = []
comma_behind false = comma ∷ []

-- ---- expressions

-- an expression with an operator outermost
abbrev pub is_operation : Exp → Bool
is_operation (variable x) = false
is_operation (numeral bits value) = false
is_operation (truth b) = false
is_operation (negation e) = true
is_operation (complement e) = true
is_operation (operation o left right) = true

abbrev pub is_and : Op → Bool
is_and op.And = true
is_and other = false

abbrev pub is_or : Op → Bool
is_or op.Or = true
is_or other = false

-- an AND goes on to the left as an AND, and an OR as an OR
abbrev pub goes_on : Op → Exp → Bool
goes_on o (operation p left right) = (is_and o && is_and p) || (is_or o && is_or p)
goes_on o (variable x) = false
goes_on o (numeral bits value) = false
goes_on o (truth b) = false
goes_on o (negation e) = false
goes_on o (complement e) = false

-- an operator that gives a word
abbrev pub gives_word : Op → Bool
gives_word op.Plus = true
gives_word op.Minus = true
gives_word op.BitAnd = true
gives_word op.BitOr = true
gives_word op.BitXor = true
gives_word other = false

abbrev pub is_comparison : Op → Bool
is_comparison op.Equal = true
is_comparison op.Differ = true
is_comparison op.Less = true
is_comparison op.Greater = true
is_comparison op.AtMost = true
is_comparison op.AtLeast = true
is_comparison other = false

-- an expression made of numerals alone, with operators that give words
abbrev pub of_numerals : Exp → Bool
of_numerals (variable x) = false
of_numerals (numeral bits value) = true
of_numerals (truth b) = false
of_numerals (negation e) = false
of_numerals (complement e) = of_numerals e
of_numerals (operation o left right) = gives_word o && (of_numerals left && of_numerals right)

-- a comparison between operands made of numerals alone, which have no width but that of their numerals
abbrev pub compares_numerals : Op → Exp → Exp → Bool
compares_numerals o left right = is_comparison o && (of_numerals left && of_numerals right)

abbrev pub in_brackets : Bool → List Symbol → List Symbol
in_brackets false symbols = symbols
in_brackets true symbols = symbol.Sign sign.Open ∷ (symbols ++ symbol.Sign sign.Close ∷ [])

-- a numeral, with its width where that is asked for
abbrev pub width_symbols : Bool → ℕ → List Symbol
width_symbols false bits = []
width_symbols true bits = symbol.Sign sign.Open ∷ symbol.Keyword (word.Width (width.Word bits)) ∷ symbol.Sign sign.Close ∷ []

abbrev pub numeral_symbols : Bool → ℕ → ℕ → List Symbol
numeral_symbols wide bits value = symbol.Numeral value ∷ width_symbols wide bits

-- An expression, where it is said whether its numerals have their widths. An operand that is an operation stands in
-- brackets, except the left one of AND that is an AND, and the left one of OR that is an OR.
abbrev pub exp_symbols : (wide : Bool) → Exp → List Symbol
exp_symbols wide (variable x) = name_symbol x ∷ []
exp_symbols wide (numeral bits value) = numeral_symbols wide bits value
exp_symbols wide (truth b) = truth_word b ∷ []
exp_symbols wide (negation e) = symbol.Keyword word.Not ∷ in_brackets (is_operation e) (exp_symbols wide e)
exp_symbols wide (complement e) = symbol.Sign sign.Flip ∷ in_brackets (is_operation e) (exp_symbols wide e)
exp_symbols wide (operation o left right) =
    in_brackets (is_operation left && not (goes_on o left)) (exp_symbols (wide || compares_numerals o left right) left)
    ++ op_word o ∷ in_brackets (is_operation right) (exp_symbols (wide || compares_numerals o left right) right)

-- an expression by itself
abbrev pub whole_symbols : Exp → List Symbol
whole_symbols e = exp_symbols false e

-- ---- simple processes and guards

abbrev pub assign_symbols : List ℕ → List Exp → List Symbol
assign_symbols xs es = separated (λ x. name_symbol x ∷ []) xs ++ symbol.Sign sign.Becomes ∷ separated whole_symbols es

abbrev pub receive_symbols : (chan var : ℕ) → List Symbol
receive_symbols c x = name_symbol c ∷ symbol.Sign sign.Query ∷ name_symbol x ∷ []

abbrev pub send_symbols : (chan : ℕ) → Exp → List Symbol
send_symbols c e = name_symbol c ∷ symbol.Sign sign.Bang ∷ whole_symbols e

abbrev pub waiting_symbols : Waiting → List Symbol
waiting_symbols ready = word_symbol word.Skip
waiting_symbols (input c x) = receive_symbols c x
waiting_symbols (output c e) = send_symbols c e

abbrev pub is_true : Exp → Bool
is_true (truth b) = b
is_true (variable x) = false
is_true (numeral bits value) = false
is_true (negation e) = false
is_true (complement e) = false
is_true (operation o left right) = false

abbrev pub is_ready : Waiting → Bool
is_ready ready = true
is_ready (input c x) = false
is_ready (output c e) = false

-- a guard: its condition is left out where it is TRUE, unless the guard is SKIP
abbrev pub guard_symbols : Exp → Waiting → List Symbol
guard_symbols e w =
    (if is_true e && not (is_ready w) then [] else whole_symbols e ++ symbol.Sign sign.Ampersand ∷ []) ++ waiting_symbols w

-- ---- declarations and headers

-- a kind, the name that has it, and a channel's mark where it has one
abbrev pub named_symbols : ℕ → Kind → List Symbol
named_symbols x k = kind_words k ++ name_symbol x ∷ mark_words k

abbrev pub declaration_symbols : ℕ → Kind → List Symbol
declaration_symbols x k = kind_words k ++ name_symbol x ∷ symbol.Sign sign.Colon ∷ []

abbrev pub header_symbols : ℕ → List (Name × Kind) → List Symbol
header_symbols name params =
    symbol.Keyword word.Proc ∷ name_symbol name ∷ symbol.Sign sign.Open
    ∷ (separated (λ p. named_symbols p.0.0 p.1) params ++ symbol.Sign sign.Close ∷ [])
