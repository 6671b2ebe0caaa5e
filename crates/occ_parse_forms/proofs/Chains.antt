-- Steps of reading a chain of operands.
use Rattle.std.proofs.Common.{◌≡◌, ℕ, zero, suc, ◌+◌, ◌-◌, ◌<◌, ◌≤◌, List, Some, None, refl, sym, ap, ◌∙◌, arith}
use Rattle.occ_syntax.specs.declared.expr.Op.{Op}
use Rattle.occ_lex.specs.declared.symbol.Symbol.{Symbol}
use Rattle.occ_parse_forms.specs.declared.fault.Fault.{Fault}
use Rattle.occ_parse_forms.specs.declared.fault.Fault.TheVariants as fault
use Rattle.occ_parse_forms.specs.Gives.{FailsAs}
use Rattle.occ_parse_forms.specs.Reading.{further}
use Rattle.occ_parse_forms.specs.Shape.{Said, operation}
use Rattle.occ_parse_forms.specs.Symbols.{Found, behind, then_read}
use Rattle.occ_parse_forms.specs.Written.{op_word}

pub further_end : (operand : List Symbol → Found Said) (o : Op) (n : ℕ) (left : Said) (symbols : List Symbol) → behind (op_word o) symbols ≡ None → further operand o n left symbols ≡ Some (left, symbols)
unfolding further
further_end operand o zero left symbols h = refl
further_end operand o (suc n) left symbols h = rw h refl

further_suc : (operand : List Symbol → Found Said) (o : Op) (n : ℕ) (left : Said) (symbols rest : List Symbol) → behind (op_word o) symbols ≡ Some rest
    → further operand o (suc n) left symbols ≡ then_read (operand rest) (λ f. further operand o n (operation o left f.0) f.1)
unfolding further
further_suc operand o n left symbols rest h = rw h refl

further_at : (operand : List Symbol → Found Said) (o : Op) (n m : ℕ) (left : Said) (symbols rest : List Symbol) → n ≡ m + 1 → behind (op_word o) symbols ≡ Some rest
    → further operand o n left symbols ≡ then_read (operand rest) (λ f. further operand o m (operation o left f.0) f.1)
further_at operand o n m left symbols rest e h =
    let s : n ≡ suc m = omega arith in
    ap (λ k. further operand o k left symbols) s ∙ further_suc operand o m left symbols rest h

pub further_more : (operand : List Symbol → Found Said) (o : Op) (n m : ℕ) (left s : Said) (symbols rest behind_it : List Symbol) → n ≡ m + 1 → behind (op_word o) symbols ≡ Some rest → operand rest ≡ Some (s, behind_it)
    → further operand o n left symbols ≡ further operand o m (operation o left s) behind_it
further_more operand o n m left s symbols rest behind_it e h k =
    further_at operand o n m left symbols rest e h ∙ ap (λ f. then_read f (λ f. further operand o m (operation o left f.0) f.1)) k

pub further_none : (operand : List Symbol → Found Said) (o : Op) (n m : ℕ) (left : Said) (symbols rest : List Symbol) → n ≡ m + 1 → behind (op_word o) symbols ≡ Some rest → operand rest ≡ None
    → further operand o n left symbols ≡ None
further_none operand o n m left symbols rest e h k =
    further_at operand o n m left symbols rest e h ∙ ap (λ f. then_read f (λ f. further operand o m (operation o left f.0) f.1)) k

pub further_zero : (operand : List Symbol → Found Said) (o : Op) (n : ℕ) (left : Said) (symbols : List Symbol) → n ≡ 0 → further operand o n left symbols ≡ Some (left, symbols)
unfolding further
further_zero operand o n left symbols e = ap (λ k. further operand o k left symbols) e

-- ---- the same as steps of a loop, in which whole is what the whole chain is read as

pub done : (operand : List Symbol → Found Said) (o : Op) (n : ℕ) (left : Said) (symbols : List Symbol) (whole : Found Said) → further operand o n left symbols ≡ whole
    → behind (op_word o) symbols ≡ None → whole ≡ Some (left, symbols)
done operand o n left symbols whole inv h = sym inv ∙ further_end operand o n left symbols h

pub fails : (operand : List Symbol → Found Said) (o : Op) (n i : ℕ) (left : Said) (symbols rest : List Symbol) (whole : Found Said) (f : Fault) → further operand o (n - i) left symbols ≡ whole → i < n
    → behind (op_word o) symbols ≡ Some rest → FailsAs f (operand rest) → FailsAs f whole
fails operand o n i left symbols rest whole fault.Memory inv lt h k = tt
fails operand o n i left symbols rest whole fault.Form inv lt h k = sym inv ∙ further_none operand o (n - i) (n - (i + 1)) left symbols rest (omega arith) h k

pub goes_on : (operand : List Symbol → Found Said) (o : Op) (n i : ℕ) (left s both : Said) (symbols rest behind_it : List Symbol) (whole : Found Said) → further operand o (n - i) left symbols ≡ whole → i < n
    → behind (op_word o) symbols ≡ Some rest → operand rest ≡ Some (s, behind_it) → both ≡ operation o left s → further operand o (n - (i + 1)) both behind_it ≡ whole
goes_on operand o n i left s both symbols rest behind_it whole inv lt h k e =
    ap (λ l. further operand o (n - (i + 1)) l behind_it) e ∙ sym (further_more operand o (n - i) (n - (i + 1)) left s symbols rest behind_it (omega arith) h k) ∙ inv

pub ends : (operand : List Symbol → Found Said) (o : Op) (n i : ℕ) (left : Said) (symbols : List Symbol) (whole : Found Said) → further operand o (n - i) left symbols ≡ whole → n ≤ i → whole ≡ Some (left, symbols)
ends operand o n i left symbols whole inv le = sym inv ∙ further_zero operand o (n - i) left symbols (omega arith)
