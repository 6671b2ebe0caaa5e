-- Printed lines beside what they say.
use Rattle.std.specs.Prelude.{ℕ, ◌≡◌, ◌+◌, List, [], ◌∷◌}
use Rattle.occ_print.specs.occ_parse_forms.Lines.{IsForm}
use Rattle.occ_parse.specs.occ_parse_rules.Forest.{Laid}
use Rattle.occ_parse.specs.occ_parse_rules.Places.{Place}
use Rattle.occ_print.specs.Lines.{TextLine}
use Rattle.occ_print_back.specs.Read.{symbols_read}

-- Each line is read as the form beside it. The first has this number, and the others follow.
abbrev pub AreFormed : (ℕ → Place) → ℕ → List TextLine → List Laid → Type 0
AreFormed P n [] [] = Unit {0}
AreFormed P n [] (l ∷ ls) = ⊥
AreFormed P n (t ∷ ts) [] = ⊥
AreFormed P n (t ∷ ts) (l ∷ ls) = (l.number ≡ n) × (l.level ≡ t.level) × IsForm (symbols_read P t.symbols) l.shape × AreFormed P (n + 1) ts ls
