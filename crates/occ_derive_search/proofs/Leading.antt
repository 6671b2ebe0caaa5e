-- Rows of digits that lead from one state of the machine to another.
use Rattle.std.proofs.Common.{◌≡◌, ◌<◌, ◌∙◌, ℕ, List, [], ◌∷◌, ◌++◌, Option, None, Some, true, false, refl, ap, lit<}
use Rattle.std.specs.List.{AllByRecursion}
use Rattle.std.specs.Option.{option_and_then}
use Rattle.occ_derive_search.specs.Codes.{follows, runs}
use Rattle.occ_derive_search.specs.Piles.{Held, does}
use Rattle.occ_derive_search.specs.declared.instruction.TheConstants.{DIGITS}
use Rattle.occ_derive_search.specs.Digits.{told}
use Rattle.occ_derive_search.specs.declared.instruction.Instruction.{Instruction}
use Rattle.occ_derive_search.specs.declared.instruction.Instruction.TheVariants as instruction
use Rattle.occ_derive_moves.specs.occ_script_lines.declared.direction.Direction.TheVariants as direction
use Rattle.occ_syntax.specs.declared.expr.Op.TheVariants as op

-- some row of digits leads from one state to the other
pub record Leads (before after : Held) : Type 0 where
  pub code : List ℕ
  pub digits : AllByRecursion (λ digit. digit < DIGITS) code
  pub run : runs code before ≡ Some after

-- the digit of an instruction
record IsDigit (i : Instruction) : Type 0 where
  digit : ℕ
  small : digit < DIGITS
  tells : told digit ≡ Some i

digit_of : (i : Instruction) → IsDigit i
unfolding told
digit_of instruction.More = record { digit = 0; small = lit< tt; tells = refl }
digit_of instruction.Keep = record { digit = 1; small = lit< tt; tells = refl }
digit_of instruction.Variable = record { digit = 2; small = lit< tt; tells = refl }
digit_of instruction.Word = record { digit = 3; small = lit< tt; tells = refl }
digit_of (instruction.Truth false) = record { digit = 4; small = lit< tt; tells = refl }
digit_of (instruction.Truth true) = record { digit = 5; small = lit< tt; tells = refl }
digit_of instruction.Not = record { digit = 6; small = lit< tt; tells = refl }
digit_of instruction.Flip = record { digit = 7; small = lit< tt; tells = refl }
digit_of (instruction.Two op.Plus) = record { digit = 8; small = lit< tt; tells = refl }
digit_of (instruction.Two op.Minus) = record { digit = 9; small = lit< tt; tells = refl }
digit_of (instruction.Two op.And) = record { digit = 10; small = lit< tt; tells = refl }
digit_of (instruction.Two op.Or) = record { digit = 11; small = lit< tt; tells = refl }
digit_of (instruction.Two op.BitAnd) = record { digit = 12; small = lit< tt; tells = refl }
digit_of (instruction.Two op.BitOr) = record { digit = 13; small = lit< tt; tells = refl }
digit_of (instruction.Two op.BitXor) = record { digit = 14; small = lit< tt; tells = refl }
digit_of (instruction.Two op.Equal) = record { digit = 15; small = lit< tt; tells = refl }
digit_of (instruction.Two op.Differ) = record { digit = 16; small = lit< tt; tells = refl }
digit_of (instruction.Two op.Less) = record { digit = 17; small = lit< tt; tells = refl }
digit_of (instruction.Two op.Greater) = record { digit = 18; small = lit< tt; tells = refl }
digit_of (instruction.Two op.AtMost) = record { digit = 19; small = lit< tt; tells = refl }
digit_of (instruction.Two op.AtLeast) = record { digit = 20; small = lit< tt; tells = refl }
digit_of instruction.Ready = record { digit = 21; small = lit< tt; tells = refl }
digit_of instruction.Get = record { digit = 22; small = lit< tt; tells = refl }
digit_of instruction.Put = record { digit = 23; small = lit< tt; tells = refl }
digit_of instruction.Skip = record { digit = 24; small = lit< tt; tells = refl }
digit_of instruction.Stop = record { digit = 25; small = lit< tt; tells = refl }
digit_of instruction.Assign = record { digit = 26; small = lit< tt; tells = refl }
digit_of instruction.AndPair = record { digit = 27; small = lit< tt; tells = refl }
digit_of instruction.Input = record { digit = 28; small = lit< tt; tells = refl }
digit_of instruction.Output = record { digit = 29; small = lit< tt; tells = refl }
digit_of instruction.Seq = record { digit = 30; small = lit< tt; tells = refl }
digit_of instruction.Par = record { digit = 31; small = lit< tt; tells = refl }
digit_of instruction.AndPart = record { digit = 32; small = lit< tt; tells = refl }
digit_of instruction.If = record { digit = 33; small = lit< tt; tells = refl }
digit_of instruction.AndChoice = record { digit = 34; small = lit< tt; tells = refl }
digit_of instruction.Alt = record { digit = 35; small = lit< tt; tells = refl }
digit_of instruction.AndBranch = record { digit = 36; small = lit< tt; tells = refl }
digit_of instruction.Var = record { digit = 37; small = lit< tt; tells = refl }
digit_of instruction.Chan = record { digit = 38; small = lit< tt; tells = refl }
digit_of instruction.Enter = record { digit = 39; small = lit< tt; tells = refl }
digit_of (instruction.Step direction.Forward) = record { digit = 40; small = lit< tt; tells = refl }
digit_of (instruction.Step direction.Backward) = record { digit = 41; small = lit< tt; tells = refl }

digits_append : (P : ℕ → Type 0) (xs ys : List ℕ) → AllByRecursion P xs → AllByRecursion P ys → AllByRecursion P (xs ++ ys)
digits_append P [] ys all more = more
digits_append P (x ∷ xs) ys all more = (all.0, digits_append P xs ys all.1 more)

one_on : (first second : List ℕ) (c : Held) (o : Option Held) (b : Held)
    → ((t : Held) → runs first t ≡ Some b → runs (first ++ second) t ≡ Some c)
    → option_and_then (runs first) o ≡ Some b → option_and_then (runs (first ++ second)) o ≡ Some c
one_on first second c None b ih h = cc
one_on first second c (Some t) b ih h = ih t h

-- the codes one behind the other do one behind the other
runs_append : (first second : List ℕ) (a b c : Held) → runs first a ≡ Some b → runs second b ≡ Some c → runs (first ++ second) a ≡ Some c
runs_append [] second a b c one two = let e : a ≡ b = cc in ap (runs second) e ∙ two
runs_append (digit ∷ first) second a b c one two =
    one_on first second c (follows digit a) b (λ t h. runs_append first second t b c h two) one

-- no digit leads anywhere else
pub at_once : (held : Held) → Leads held held
at_once held = record { code = []; digits = tt; run = refl }

-- two rows of digits lead on, one behind the other
pub then_on : {a b c : Held} → Leads a b → Leads b c → Leads a c
then_on {a} {b} {c} first second = record {
  code = first.code ++ second.code;
  digits = digits_append (λ digit. digit < DIGITS) first.code second.code first.digits second.digits;
  run = runs_append first.code second.code a b c first.run second.run;
}

-- the digit of an instruction that can be followed leads to what that makes
pub by : (i : Instruction) (a b : Held) → does i a ≡ Some b → Leads a b
by i a b h =
    let d : IsDigit i = digit_of i in
    record {
      code = d.digit ∷ [];
      digits = (d.small, tt);
      run = ap (option_and_then (runs [])) (ap (option_and_then (λ (j : Instruction). does j a)) d.tells ∙ h);
    }
