-- The first line with a fault, line by line.
use Rattle.std.proofs.Common.{◌≡◌, ℕ, true, false, [], Option, Some, None, refl, ap, sym, ◌∙◌}
use Rattle.occ_parse_forms.specs.Shape.{Shape}
use Rattle.occ_parse_rules.specs.Forest.{Forest, no_line, and_line}
use Rattle.occ_parse_rules.specs.Judging.{or_else, on_line, inside, behind, first_fault}
use Rattle.occ_parse_rules.specs.Limits.{passes_count, count_fault}
use Rattle.occ_parse_rules.specs.Places.{Sorts}
use Rattle.occ_parse_unroll.specs.Reading.{line_of}

pub line_or_else : {F : Type 0} (a b : Option (ℕ × F)) → line_of (or_else a b) ≡ or_else (line_of a) (line_of b)
line_or_else (Some a) b = refl
line_or_else None b = refl

-- a count doesn't depend on what is in scope
pub count_anywhere : (outer Γ outer' Γ' : Sorts) (f : Forest) → first_fault count_fault outer Γ f ≡ first_fault count_fault outer' Γ' f
count_anywhere outer Γ outer' Γ' no_line = refl
count_anywhere outer Γ outer' Γ' (and_line number s below rest) =
    ap (λ a. or_else (on_line number (count_fault Γ s)) (or_else a (first_fault count_fault outer (behind outer Γ s) rest))) (count_anywhere (inside Γ s) (inside Γ s) (inside Γ' s) (inside Γ' s) below)
    ∙ ap (λ b. or_else (on_line number (count_fault Γ s)) (or_else (first_fault count_fault (inside Γ' s) (inside Γ' s) below) b)) (count_anywhere outer (behind outer Γ s) outer' (behind outer' Γ' s) rest)

abbrev pub count_line : Forest → Option ℕ
count_line f = line_of (first_fault count_fault [] [] f)

-- the line itself, else what stands below it, else the lines behind
pub count_step : (f : Forest) (number : ℕ) (s : Shape) (below rest : Forest) → f ≡ and_line number s below rest
    → count_line f ≡ or_else (line_of (on_line number (count_fault [] s))) (or_else (count_line below) (count_line rest))
count_step f number s below rest e =
    ap count_line e
    ∙ line_or_else (on_line number (count_fault [] s)) _
    ∙ ap (or_else (line_of (on_line number (count_fault [] s)))) (line_or_else (first_fault count_fault (inside [] s) (inside [] s) below) (first_fault count_fault [] (behind [] [] s) rest)
    ∙ ap (λ a. or_else (line_of a) (line_of (first_fault count_fault [] (behind [] [] s) rest))) (count_anywhere (inside [] s) (inside [] s) [] [] below)
    ∙ ap (λ b. or_else (count_line below) (line_of b)) (count_anywhere [] (behind [] [] s) [] [] rest))

pub count_here : (f : Forest) (number : ℕ) (s : Shape) (below rest : Forest) → f ≡ and_line number s below rest → passes_count s ≡ true → Some number ≡ count_line f
count_here f number s below rest e t = sym (count_step f number s below rest e ∙ rw t)

pub count_below : (f : Forest) (number deeper : ℕ) (s : Shape) (below rest : Forest) → f ≡ and_line number s below rest → passes_count s ≡ false → Some deeper ≡ count_line below → Some deeper ≡ count_line f
count_below f number deeper s below rest e t d = sym (count_step f number s below rest e ∙ rw (t, ← d))

pub count_behind : (f : Forest) (number : ℕ) (s : Shape) (below rest : Forest) → f ≡ and_line number s below rest → passes_count s ≡ false → None ≡ count_line below → count_line rest ≡ count_line f
count_behind f number s below rest e t d = sym (count_step f number s below rest e ∙ rw (t, ← d))
