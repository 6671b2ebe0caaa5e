-- Initial states as they are grouped by rows.
use Rattle.std.proofs.Common.{◌≡◌, ◌<◌, ◌≤◌, ◌+◌, ◌==◌, ℕ, cond, List, [], ◌∷◌, ◌++◌, get_or, take, set, replicate, length, inl, inr, refl, sym, ap, subst, ◌∙◌, arith}
use Rattle.std.specs.Prelude.{◌⊎◌, ◌≢◌, ◌-◌}
use Rattle.std.proofs.lemmas.Bool.{cases_eq, cond-false, cond-true, eq-eqb, ne_eqb}
use Rattle.std.proofs.lemmas.List.{append-nil, append_assoc, get_or-replicate, get_or-set_other, get_or-set_same, get_or_default, length-replicate, length-set, length-take-le, take_all, take_more}
use Rattle.occ_syntax.specs.occ_base.declared.names.Name.{Name}
use Rattle.occ_syntax.specs.declared.scope.Kind.{Kind}
use Rattle.occ_tool_run.specs.occ_nform_table.Texts.{state_at_place}
use Rattle.occ_draw.specs.Grouping.{AreGroups, Groups, with_state}
use Rattle.occ_draw.specs.Pictures.{entries_text, entry_text, states_to}
use Rattle.occ_draw.proofs.Written.{entries_end, entries_step}

-- ---- a group with a state more

group_of : (groups : Groups) (row n : ℕ) (state : List (Name × ℕ)) → n < length groups
    → get_or (with_state groups row state) n [] ≡ get_or groups n [] ++ cond (row == n) (state ∷ []) []
group_of groups row n state h = by (cases_eq n row)
  where
    by : (n ≡ row) ⊎ (n ≢ row) → get_or (with_state groups row state) n [] ≡ get_or groups n [] ++ cond (row == n) (state ∷ []) []
    by (inl same) =
        let longer = get_or groups row [] ++ state ∷ [] in
        ap (λ m. get_or (set groups row longer) m []) same ∙ get_or-set_same groups row longer [] (omega (arith, h, same))
        ∙ ap (λ m. get_or groups m [] ++ state ∷ []) (sym same)
        ∙ ap (λ l. get_or groups n [] ++ l) (sym (cond-true (row == n) (state ∷ []) [] (eq-eqb row n (sym same))))
    by (inr other) =
        get_or-set_other groups row n (get_or groups row [] ++ state ∷ []) [] other
        ∙ sym (append-nil (get_or groups n []))
        ∙ ap (λ l. get_or groups n [] ++ l) (sym (cond-false (row == n) (state ∷ []) [] (ne_eqb row n (λ e. other (sym e)))))

-- ---- the states behind one another

module _ (params : List (Name × Kind)) where
  states_last : (n k row : ℕ) (rows : List ℕ) → states_to params n k (rows ++ row ∷ []) ≡ states_to params n k rows ++ cond (row == n) (state_at_place params (k + length rows) ∷ []) []
  unfolding states_to
  states_last n k row [] =
      let here : k ≡ k + 0 = omega arith in
      append-nil (cond (row == n) (state_at_place params k ∷ []) []) ∙ ap (λ m. cond (row == n) (state_at_place params m ∷ []) []) here
  states_last n k row (first ∷ rows) =
      let own = cond (first == n) (state_at_place params k ∷ []) [] in
      let behind : k + 1 + length rows ≡ k + length (first ∷ rows) = omega arith in
      ap (λ l. own ++ l) (states_last n (k + 1) row rows ∙ ap (λ m. states_to params n (k + 1) rows ++ cond (row == n) (state_at_place params m ∷ []) []) behind)
      ∙ sym (append_assoc own (states_to params n (k + 1) rows) (cond (row == n) (state_at_place params (k + length (first ∷ rows)) ∷ []) []))

  none_lead : (n : ℕ) → states_to params n 0 [] ≡ []
  unfolding states_to
  none_lead n = refl

  -- ---- the loop

  pub grouped_none : (rows : List ℕ) (count : ℕ) (groups : Groups) → groups ≡ replicate count [] → AreGroups params (take 0 rows) count groups
  grouped_none rows count groups e = record {
    many = ap length e ∙ length-replicate count [];
    lead = λ n h. ap (λ gs. get_or gs n []) e ∙ get_or-replicate count n [] [] h ∙ sym (none_lead n);
  }

  pub grouped_further : (rows : List ℕ) (count i d : ℕ) (old new : Groups) → i < length rows → AreGroups params (take i rows) count old
      → new ≡ with_state old (get_or rows i d) (state_at_place params i) → AreGroups params (take (i + 1) rows) count new
  grouped_further rows count i d old new h so_far e =
      let row = get_or rows i d in
      let state = state_at_place params i in
      let front : length (take i rows) ≡ i = length-take-le i rows (omega (arith, h)) in
      let place : i ≡ 0 + length (take i rows) = omega (arith, front) in
      record {
        many = ap length e ∙ length-set old row (get_or old row [] ++ state ∷ []) ∙ so_far.many;
        lead = λ n below.
            let there : n < length old = subst (λ m. n < m) (sym so_far.many) below in
            ap (λ gs. get_or gs n []) e ∙ group_of old row n state there
            ∙ ap (λ l. l ++ cond (row == n) (state ∷ []) []) (so_far.lead n below)
            ∙ ap (λ m. states_to params n 0 (take i rows) ++ cond (row == n) (state_at_place params m ∷ []) []) place
            ∙ sym (states_last n 0 row (take i rows)) ∙ ap (states_to params n 0) (sym (take_more rows i d h));
      }

  pub grouped_all : (rows : List ℕ) (count i : ℕ) (groups : Groups) → length rows ≤ i → AreGroups params (take i rows) count groups → AreGroups params rows count groups
  grouped_all rows count i groups past is = subst (λ l. AreGroups params l count groups) (take_all i rows past) is

  -- ---- the entries of all groups

  pub entries_further : (rows : List ℕ) (count : ℕ) (groups items : Groups) (n : ℕ) (d : List (List (Name × ℕ))) (old new all : List ℕ) → AreGroups params rows count groups → items ≡ groups
      → n < length items → old ++ entries_text params rows n (count - n) ≡ all → new ≡ old ++ entry_text n (get_or items n d)
      → new ++ entries_text params rows (n + 1) (count - (n + 1)) ≡ all
  entries_further rows count groups items n d old new all are same h e is =
      let there : n < length groups = subst (λ gs. n < length gs) same h in
      let within : n < count = subst (λ m. n < m) are.many there in
      let own : get_or items n d ≡ states_to params n 0 rows = ap (λ gs. get_or gs n d) same ∙ get_or_default groups n d [] there ∙ are.lead n within in
      entries_step params rows n count old new all within e (is ∙ ap (λ s. old ++ entry_text n s) own)

  pub entries_all : (rows : List ℕ) (count : ℕ) (groups items : Groups) (n : ℕ) (text all : List ℕ) → AreGroups params rows count groups → items ≡ groups → length items ≤ n
      → text ++ entries_text params rows n (count - n) ≡ all → text ≡ all
  entries_all rows count groups items n text all are same past e =
      let beyond : count ≤ n = subst (λ m. m ≤ n) (ap length same ∙ are.many) past in
      entries_end params rows n count text all beyond e
