-- The value of an expression in a state. All operators are total.
use Rattle.std.specs.Prelude.{ℕ, ◌+◌, ◌-◌, ◌%◌, ◌^◌, ◌==◌, Bool, true, false, not, nat_lt, nat_le, bit_and, bit_or, bit_xor, Option, None, Some, if◌then◌else◌}
use Rattle.occ_base.specs.declared.width.Width.{Width}
use Rattle.occ_base.specs.Width.{bits_of}
use Rattle.occ_syntax.specs.declared.expr.Op.{Op}
use Rattle.occ_syntax.specs.declared.expr.Op.TheVariants.{Plus, Minus, And, Or, BitAnd, BitOr, BitXor, Equal, Differ, Less, Greater, AtMost, AtLeast}
use Rattle.occ_syntax.specs.Tree.{Exp, variable, numeral, truth, negation, complement, operation}
use Rattle.occ_syntax.specs.Scopes.{Environment, Values, variable_width}

-- TRUE counts as 1, FALSE as 0
abbrev pub one_if : Bool → ℕ
one_if true = 1
one_if false = 0

abbrev pub bits_in : Option Width → ℕ
bits_in (Some width) = bits_of width
bits_in None = 0

-- whether an operator gives a value of its operands' width; the others give a truth value
abbrev pub keeps_width : Op → Bool
keeps_width Plus = true
keeps_width Minus = true
keeps_width BitAnd = true
keeps_width BitOr = true
keeps_width BitXor = true
keeps_width And = false
keeps_width Or = false
keeps_width Equal = false
keeps_width Differ = false
keeps_width Less = false
keeps_width Greater = false
keeps_width AtMost = false
keeps_width AtLeast = false

-- how many bits an expression's value has
abbrev pub bits_of_exp : Environment → Exp → ℕ
bits_of_exp Γ (variable x) = bits_in (variable_width Γ x)
bits_of_exp Γ (numeral bits value) = bits
bits_of_exp Γ (truth b) = 1
bits_of_exp Γ (negation e) = 1
bits_of_exp Γ (complement e) = bits_of_exp Γ e
bits_of_exp Γ (operation op left right) = if keeps_width op then bits_of_exp Γ left else 1

-- what an operator makes of two values of that many bits: sums and differences are modulo two to the width, the
-- connectives act on each binary digit, and comparisons go by the order of the numbers
abbrev pub applied : Op → ℕ → ℕ → ℕ → ℕ
applied Plus bits a b = (a + b) % 2 ^ bits
applied Minus bits a b = (a + (2 ^ bits - b)) % 2 ^ bits
applied And bits a b = bit_and a b
applied Or bits a b = bit_or a b
applied BitAnd bits a b = bit_and a b
applied BitOr bits a b = bit_or a b
applied BitXor bits a b = bit_xor a b
applied Equal bits a b = one_if (a == b)
applied Differ bits a b = one_if (not (a == b))
applied Less bits a b = one_if (nat_lt a b)
applied Greater bits a b = one_if (nat_lt b a)
applied AtMost bits a b = one_if (nat_le a b)
applied AtLeast bits a b = one_if (nat_le b a)

abbrev pub eval : Environment → Exp → Values → ℕ
eval Γ (variable x) s = s x
eval Γ (numeral bits value) s = value
eval Γ (truth b) s = one_if b
eval Γ (negation e) s = 1 - eval Γ e s
eval Γ (complement e) s = 2 ^ bits_of_exp Γ e - 1 - eval Γ e s
eval Γ (operation op left right) s = applied op (bits_of_exp Γ left) (eval Γ left s) (eval Γ right s)

-- whether a condition is true
abbrev pub is_true : Environment → Exp → Values → Bool
is_true Γ e s = eval Γ e s == 1
