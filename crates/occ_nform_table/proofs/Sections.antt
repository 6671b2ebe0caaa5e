-- What the rows and the initial states of a text are read as determines their lines.
use Rattle.std.proofs.Common.{◌≡◌, ℕ, zero, suc, ◌+◌, ◌^◌, ◌<◌, ◌≤◌, true, false, List, [], ◌∷◌, ◌++◌, length, Option, Some, None, refl, sym, ap, subst, ◌∙◌, arith, append_assoc, ⊎_elim}
use Rattle.std.specs.List.{concat, flat_map, AllByRecursion}
use Rattle.std.proofs.lemmas.Bool.{cases_Bool, cond-true, cond-false}
use Rattle.occ_lex.specs.occ_base.declared.event.Event.{Event}
use Rattle.occ_lex.specs.occ_base.declared.names.Name.{Name}
use Rattle.occ_syntax.specs.Counts.{bits_of_scope}
use Rattle.occ_syntax.specs.declared.scope.Kind.{Kind}
use Rattle.occ_behaviour.specs.States.{is_state}
use Rattle.occ_nform_table.specs.declared.table.TableRow.{TableRow}
use Rattle.occ_nform_table.specs.Lines.{end_of, accept_of, offer_of, is_row, row_of_state}
use Rattle.occ_nform_table.specs.Reading.{Lines, kept, taken, row_behind, with_row, rows_in, states_in}
use Rattle.occ_nform_table.specs.Judging.{ends_text, accepts_text, offers_text, row_text}
use Rattle.occ_nform_table.specs.Tables.{IsRowOf, AreRowsOf}
use Rattle.occ_nform_table.specs.Texts.{rows_text, states_text}
use Rattle.occ_nform_table.proofs.ReadStates.{end_text, end_inv, row_line, row_inv, state_line, state_line_inv}
use Rattle.occ_nform_table.proofs.ReadEvents.{Apart, IsSet, IsOffer, accept_text, accept_inv, offer_text, offer_inv}

-- ---- lines of one kind

-- the lines that are read, as they are written, stand in front of those that are left
record AreTaken {A : Type 0} (written : A → List ℕ) (P : A → Type 0) (lines : Lines) (found : List A × Lines) : Type 0 where
  are : concat lines ≡ flat_map written found.0 ++ concat found.1
  each_is : AllByRecursion P found.0

taken_inv : {A : Type 0} (read : List ℕ → Option A) (written : A → List ℕ) (P : A → Type 0) → ((line : List ℕ) (x : A) → read line ≡ Some x → (line ≡ written x) × P x)
    → (lines : Lines) → AreTaken written P lines (taken read lines)
unfolding taken
taken_inv read written P inv [] = record { are = refl; each_is = tt }
taken_inv {A = A} read written P inv (line ∷ lines) = at (read line) refl (taken_inv read written P inv lines)
  where
    at : (o : Option A) → read line ≡ o → AreTaken written P lines (taken read lines) → AreTaken written P (line ∷ lines) (kept o (taken read lines) ([], line ∷ lines))
    at None e rest = record { are = refl; each_is = tt }
    at (Some x) e rest =
        let is = inv line x e in
        record {
          are = (λ i. is.0 i ++ rest.are i) ∙ sym (append_assoc (written x) (flat_map written (taken read lines).0) (concat (taken read lines).1));
          each_is = (is.1, rest.each_is);
        }

-- ---- rows

ends_are : (states : List (List (Name × ℕ))) → ends_text states ≡ flat_map end_text states
unfolding ends_text
ends_are [] = refl
ends_are (s ∷ states) = ap (λ t. end_text s ++ t) (ends_are states)

accepts_are : (names : List (List ℕ)) (sets : List (List Event)) → accepts_text names sets ≡ flat_map (accept_text names) sets
unfolding accepts_text
accepts_are names [] = refl
accepts_are names (s ∷ sets) = ap (λ t. accept_text names s ++ t) (accepts_are names sets)

offers_are : (names : List (List ℕ)) (offers : List (Event × ℕ)) → offers_text names offers ≡ flat_map (offer_text names) offers
unfolding offers_text
offers_are names [] = refl
offers_are names (o ∷ offers) = ap (λ t. offer_text names o ++ t) (offers_are names offers)

-- the lines of a row, and those that are left
record IsRowRead (names : List (List ℕ)) (params : List (Name × Kind)) (n : ℕ) (lines : Lines) (found : TableRow × Lines) : Type 0 where
  written : concat lines ≡ row_text names found.0 ++ concat found.1
  form : IsRowOf params n found.0

row_behind_inv : (names : List (List ℕ)) (params : List (Name × Kind)) (n : ℕ) (lines : Lines) → Apart params → n ≤ 2 ^ 64 → IsRowRead names params n lines (row_behind names params n lines)
unfolding row_behind
row_behind_inv names params n lines apart few =
    let ends = taken (end_of params) lines in
    let accepts = taken (accept_of names params) ends.1 in
    let offers = taken (offer_of names params n) accepts.1 in
    let one : AreTaken end_text (λ s. is_state params s ≡ true) lines ends = taken_inv (end_of params) end_text (λ s. is_state params s ≡ true) (end_inv params) lines in
    let two : AreTaken (accept_text names) (IsSet params) ends.1 accepts =
    taken_inv (accept_of names params) (accept_text names) (IsSet params) (λ line set e. accept_inv names params line set apart e) ends.1 in
    let three : AreTaken (offer_text names) (IsOffer params n) accepts.1 offers =
    taken_inv (offer_of names params n) (offer_text names) (IsOffer params n) (λ line offer e. offer_inv names params n line offer apart few e) accepts.1 in
    let first : concat lines ≡ ends_text ends.0 ++ concat ends.1 = one.are ∙ ap (λ t. t ++ concat ends.1) (sym (ends_are ends.0)) in
    let second : concat ends.1 ≡ accepts_text names accepts.0 ++ concat accepts.1 = two.are ∙ ap (λ t. t ++ concat accepts.1) (sym (accepts_are names accepts.0)) in
    let third : concat accepts.1 ≡ offers_text names offers.0 ++ concat offers.1 = three.are ∙ ap (λ t. t ++ concat offers.1) (sym (offers_are names offers.0)) in
    record {
      written = first ∙ ap (λ t. ends_text ends.0 ++ t) (second ∙ ap (λ t. accepts_text names accepts.0 ++ t) third)
          ∙ sym (append_assoc (ends_text ends.0 ++ accepts_text names accepts.0) (offers_text names offers.0) (concat offers.1)
          ∙ append_assoc (ends_text ends.0) (accepts_text names accepts.0) (offers_text names offers.0 ++ concat offers.1));
      form = record { ends = one.each_is; accepts = two.each_is; offers = three.each_is };
    }

-- rows from row n on, and the lines that are left
pub record AreRowsRead (names : List (List ℕ)) (params : List (Name × Kind)) (most n : ℕ) (lines : Lines) (found : List TableRow × Lines) : Type 0 where
  pub written : concat lines ≡ rows_text names n found.0 ++ concat found.1
  pub form : AreRowsOf params n found.0
  pub few : length found.0 ≤ most

no_row_left : (names : List (List ℕ)) (params : List (Name × Kind)) (most n : ℕ) (lines : Lines) → AreRowsRead names params most n lines ([], lines)
unfolding rows_text
no_row_left names params most n lines = record { written = refl; form = tt; few = omega arith }

one_row_more : (names : List (List ℕ)) (params : List (Name × Kind)) (most n : ℕ) (line : List ℕ) (lines : Lines) (row : TableRow × Lines) (next : Lines → List TableRow × Lines) → line ≡ row_line n
    → IsRowRead names params n lines row → AreRowsRead names params most (n + 1) row.1 (next row.1) → AreRowsRead names params (suc most) n (line ∷ lines) (with_row row next)
unfolding rows_text
one_row_more names params most n line lines row next is own rest = record {
  written = (λ i. is i ++ (own.written ∙ ap (λ t. row_text names row.0 ++ t) rest.written) i)
      ∙ sym (append_assoc (row_line n ++ row_text names row.0) (rows_text names (n + 1) (next row.1).0) (concat (next row.1).1)
      ∙ append_assoc (row_line n) (row_text names row.0) (rows_text names (n + 1) (next row.1).0 ++ concat (next row.1).1));
  form = (own.form, rest.form);
  few = omega (arith, rest.few);
}

pub rows_inv : (names : List (List ℕ)) (params : List (Name × Kind)) (most n : ℕ) (lines : Lines) → Apart params → n + most < 2 ^ 64 → AreRowsRead names params most n lines (rows_in names params most n lines)
unfolding rows_in
rows_inv names params zero n lines apart small = no_row_left names params 0 n lines
rows_inv names params (suc most) n [] apart small = no_row_left names params (suc most) n []
rows_inv names params (suc most) n (line ∷ lines) apart small = ⊎_elim
    (λ (t : is_row n line ≡ true).
    let row = row_behind names params n lines in
    let all : AreRowsRead names params (suc most) n (line ∷ lines) (with_row row (rows_in names params most (n + 1))) =
    one_row_more names params most n line lines row (rows_in names params most (n + 1)) (row_inv n line t (omega arith))
    (row_behind_inv names params n lines apart (omega arith)) (rows_inv names params most (n + 1) row.1 apart (omega arith)) in
    subst (AreRowsRead names params (suc most) n (line ∷ lines)) (sym (cond-true (is_row n line) (with_row row (rows_in names params most (n + 1))) ([], line ∷ lines) t)) all)
    (λ (f : is_row n line ≡ false).
    subst (AreRowsRead names params (suc most) n (line ∷ lines)) (sym (cond-false (is_row n line) (with_row (row_behind names params n lines) (rows_in names params most (n + 1))) ([], line ∷ lines) f))
    (no_row_left names params (suc most) n (line ∷ lines)))
    (cases_Bool (is_row n line))

-- ---- initial states

pub record AreStatesRead (params : List (Name × Kind)) (n k : ℕ) (lines : Lines) (found : List ℕ × Lines) : Type 0 where
  pub written : concat lines ≡ states_text params k found.0 ++ concat found.1
  pub each_is : AllByRecursion (λ m. m < n) found.0
  pub within : k ≤ 2 ^ bits_of_scope params → k + length found.0 ≤ 2 ^ bits_of_scope params

pub states_inv : (params : List (Name × Kind)) (n k : ℕ) (lines : Lines) → n ≤ 2 ^ 64 → AreStatesRead params n k lines (states_in params n k lines)
unfolding states_in states_text
states_inv params n k [] few = record { written = refl; each_is = tt; within = λ h. omega (arith, h) }
states_inv params n k (line ∷ lines) few = at (row_of_state params n k line) refl (states_inv params n (k + 1) lines few)
  where
    at : (o : Option ℕ) → row_of_state params n k line ≡ o → AreStatesRead params n (k + 1) lines (states_in params n (k + 1) lines)
        → AreStatesRead params n k (line ∷ lines) (kept o (states_in params n (k + 1) lines) ([], line ∷ lines))
    at None e rest = record { written = refl; each_is = tt; within = λ h. omega (arith, h) }
    at (Some m) e rest =
        let is = state_line_inv params n k m line few e in
        let found = states_in params n (k + 1) lines in
        record {
          written = (λ i. is.0 i ++ rest.written i) ∙ sym (append_assoc (state_line params k m) (states_text params (k + 1) found.0) (concat found.1));
          each_is = (is.1, rest.each_is);
          within = λ h. omega (arith, rest.within (omega (arith, is.2)));
        }
