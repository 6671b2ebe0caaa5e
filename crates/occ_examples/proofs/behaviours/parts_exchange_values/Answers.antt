use Rattle.occ_examples.proofs.behaviours.parts_exchange_values.Goals as goal
use Rattle.occ_law.specs.occ_syntax.Meaning.{at_end, at_event, both_done, both_ended, ended, in_second, taken, together, unseen}
use Rattle.occ_law.specs.occ_syntax.Scopes.{Values, with_value}
use Rattle.occ_examples.specs.Programs.{c, d, holding, input_of, output_of, x, y, z}
use Rattle.std.proofs.Common.{arith, [], ◌∷◌, ◌<◌, inl, refl}

-- the first part has taken 2
abbrev first : Values
first = with_value (holding 1 2) x 2

-- the second part: z begins with 0, takes 1, and is put into y
abbrev begin : Values
begin = with_value (holding 1 2) z 0

abbrev taking : Values
taking = with_value begin z 1

abbrev second : Values
second = with_value taking y 1

small : 0 < 4
small = omega arith

pub returns : goal.returns
returns given = record {
  last = _;
  ends = at_end refl (at_end refl (together (output_of c 1 ∷ input_of d 2 ∷ []) (input_of c 1 ∷ output_of d 2 ∷ []) (ended first) (ended (with_value second z (holding 1 2 z)))
      (unseen refl (unseen refl both_done)) (both_ended refl)
      (in_second (output_of c 1 ∷ []) (input_of d 2 ∷ []) (holding 1 2) refl (taken (inl (refl, (holding 1 2, [], at_event (refl, refl), (refl, refl)))))
      (in_second (input_of d 2 ∷ []) [] first refl (taken (inl (refl, (first, [], at_event (2, refl, refl, refl), (refl, refl))))) (refl, refl)))
      (at_end 0 second small refl (in_second (input_of c 1 ∷ []) (output_of d 2 ∷ []) taking refl (taken (inl (refl, (taking, [], at_event (1, refl, refl, refl), (refl, refl)))))
      (in_second (output_of d 2 ∷ []) [] taking refl (taken (inl (refl, (taking, [], at_event (refl, refl), (refl, refl)))))
      (in_second [] [] second refl (refl, refl) (refl, refl)))))));
  of_x = refl;
  of_y = refl;
}
