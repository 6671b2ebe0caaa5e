use Rattle.occ_examples.proofs.behaviours.an_exchange_is_no_sequence.Goals as goal
use Rattle.occ_law.proofs.from_meaning.AssignedFirst.{assign_out}
use Rattle.occ_law.specs.occ_syntax.Meaning.{assigned, ended, in_turn}
use Rattle.occ_law.specs.occ_syntax.Scopes.{Values}
use Rattle.occ_law.specs.occ_syntax.Tree.{and_tree, no_tree, variable}
use Rattle.occ_examples.specs.Programs.{here, holding, one_after_another, set, x, y}
use Rattle.occ_examples.specs.Sayings.{CanEnd}
use Rattle.std.proofs.Common.{[], ◌∷◌, ◌≡◌, ℕ, ap, refl}

abbrev last : Values
last = assigned (x ∷ y ∷ []) (variable y ∷ variable x ∷ []) here (holding 1 2)

abbrev middle : Values
middle = assigned (x ∷ []) (variable y ∷ []) here (holding 1 2)

apart : (n : ℕ) → n ≡ 2 → n ≡ 1 → ⊥
apart n h k = cc

-- behind x := y and y := x the value of x is that of y
never : CanEnd one_after_another (holding 1 2) [] 2 1 → ⊥
never h =
    let first : (in_turn (and_tree (set y (variable x)) no_tree)).does here middle [] (ended h.last) = assign_out (x ∷ []) (variable y ∷ []) _ here (holding 1 2) [] (ended h.last) h.ends in
    let second = assign_out (y ∷ []) (variable x ∷ []) _ here middle [] (ended h.last) first in
    let f : h.last ≡ assigned (y ∷ []) (variable x ∷ []) here middle = (let g : ended h.last ≡ ended (assigned (y ∷ []) (variable x ∷ []) here middle) = second.1 in cc) in
    apart (h.last y) (ap (λ s. s y) f) h.of_y

pub returns : goal.returns
returns given = (record { last = last; ends = (refl, refl); of_x = refl; of_y = refl }, never)
