-- Controls at once, as lists of the code.
use Rattle.std.proofs.Common.{◌≡◌, List, [], ◌∷◌, ◌++◌, refl, ap, sym, ◌∙◌, Global, Vec}
use Rattle.std.specs.declared.rc.Rc.{Rc}
use Rattle.occ_run_steps.specs.Control.{Control as Left, both, Controls, no_control, and_control}
use Rattle.occ_run.specs.declared.control.Control.{Control, Both, Row_of-Control-Both-0-1, end_of-Control-Both-0-1, more_of-Control-Both-0-1, items-the_row-Control-Both-0-1, items_hidden-the_row-Control-Both-0-1-0}
use Rattle.occ_run.specs.declared.control.Control.TheBlock.{hidden-the_row-Control-Both-0-1-0}
use Rattle.occ_run.specs.View.{control, controls, row_controls}

row_controls_are : {m : _} (k : Row_of-Control-Both-0-1 m) → row_controls k ≡ controls (items-the_row-Control-Both-0-1 m k)
row_controls_are end_of-Control-Both-0-1 = refl
row_controls_are (more_of-Control-Both-0-1 p part k) = ap (and_control (control part)) (row_controls_are k)

pub control-Both : (parts : Vec (Rc Control Global) Global) → control (Both parts) ≡ both (controls parts.items)
control-Both parts = ap both (row_controls_are (hidden-the_row-Control-Both-0-1-0 parts) ∙ ap controls (items_hidden-the_row-Control-Both-0-1-0 parts))

-- controls, and then others
abbrev pub and_all : Controls → Controls → Controls
and_all no_control Ds = Ds
and_all (and_control C Cs) Ds = and_control C (and_all Cs Ds)

pub and_none : (Cs : Controls) → and_all Cs no_control ≡ Cs
and_none no_control = refl
and_none (and_control C Cs) = ap (and_control C) (and_none Cs)

and_more : (xs : List (Rc Control Global)) (x : Rc Control Global) (Ds : Controls) → and_all (controls (xs ++ x ∷ [])) Ds ≡ and_all (controls xs) (and_control (control x.value) Ds)
and_more [] x Ds = refl
and_more (y ∷ xs) x Ds = ap (and_control (control y.value)) (and_more xs x Ds)

-- one control more is made of those that are to be made
pub one_made : (xs ys : List (Rc Control Global)) (x : Rc Control Global) (C : Left) (Cs Ds whole : Controls) → ys ≡ xs ++ x ∷ [] → control x.value ≡ C
    → Ds ≡ and_control C Cs → and_all (controls xs) Ds ≡ whole → and_all (controls ys) Cs ≡ whole
one_made xs ys x C Cs Ds whole e f g h =
    ap (λ zs. and_all (controls zs) Cs) e ∙ and_more xs x Cs ∙ ap (λ D. and_all (controls xs) (and_control D Cs)) f ∙ sym (ap (and_all (controls xs)) g) ∙ h

pub all_made : (xs : List (Rc Control Global)) (Ds whole : Controls) → Ds ≡ no_control → and_all (controls xs) Ds ≡ whole → controls xs ≡ whole
all_made xs Ds whole e h = sym (and_none (controls xs)) ∙ sym (ap (and_all (controls xs)) e) ∙ h
