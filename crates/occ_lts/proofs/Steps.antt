-- The steps that are listed are exactly those of the rows.
use Rattle.std.proofs.Common.{◌≡◌, ◌<◌, ◌+◌, ℕ, zero, suc, List, [], ◌∷◌, ◌++◌, length, get_or, take, map, refl, sym, ap, ◌∙◌, subst, inl, inr, ◌⊎◌, arith}
use Rattle.std.specs.List.{sum_by}
use Rattle.std.proofs.lemmas.List.Sums.{sum_by-cons}
use Rattle.std.specs.Prelude.{◌↔◌}
use Rattle.occ_syntax.specs.occ_base.declared.event.Event.{Event}
use Rattle.occ_syntax.specs.occ_base.declared.names.Name.{Name}
use Rattle.occ_syntax.specs.declared.scope.Kind.{Kind}
use Rattle.occ_tool_run.specs.occ_nform_table.Behaviours.{row_at}
use Rattle.occ_tool_run.specs.occ_nform_table.Lists.{In}
use Rattle.occ_tool_run.specs.occ_nform_table.Texts.{state_at_place}
use Rattle.occ_tool_run.specs.occ_nform_table.declared.table.TableRow.{TableRow}
use Rattle.occ_tool_run.specs.occ_target.Rows.{chosen}
use Rattle.occ_lts.proofs.Lists.{in_either, in_left, in_map, in_right, map_in}
use Rattle.occ_lts.specs.declared.graph.Label.TheVariants.{Starts, Unseen, Ends}
use Rattle.occ_lts.specs.declared.graph.Move.{Move}
use Rattle.occ_lts.specs.Moves.{chosen_moves, ends_moves, graph_moves, offer_move, row_moves, row_place, row_places, rows_moves, sets_moves, starts_moves, step}
use Rattle.occ_lts.specs.Steps.{IsStep, begins, does, settles, accepts, leaves, ends, first_place}

-- no places further, and one
stay : (n : ℕ) → n ≡ n + 0
stay n = omega arith

on : (n k : ℕ) → n + 1 + k ≡ n + suc k
on n k = omega arith

front : (n : ℕ) → 0 + n ≡ n
front n = omega arith

-- ---- the acceptances of a row

-- an unseen step to the place of the k-th, or a step from there by an event of the set
abbrev Opens : ℕ → ℕ → List (List Event) → Move → Type 0
Opens from place sets m = (k : ℕ) × (k < length sets) × (m ≡ step from Unseen (place + k))

abbrev Goes : List (Event × ℕ) → ℕ → List (List Event) → Move → Type 0
Goes offers place sets m = (k : ℕ) × (o : Event × ℕ) × (k < length sets) × In o (chosen (get_or sets k []) offers) × (m ≡ offer_move (place + k) o)

sets_later : (from : ℕ) (offers : List (Event × ℕ)) (place : ℕ) (set : List Event) (sets : List (List Event)) (m : Move) → Opens from (place + 1) sets m ⊎ Goes offers (place + 1) sets m
    → Opens from place (set ∷ sets) m ⊎ Goes offers place (set ∷ sets) m
sets_later from offers place set sets m (inl k) = inl (suc k.0, omega (arith, k.1), k.2 ∙ ap (λ p. step from Unseen p) (on place k.0))
sets_later from offers place set sets m (inr k) = inr (suc k.0, k.1, omega (arith, k.2), k.3, k.4 ∙ ap (λ p. offer_move p k.1) (on place k.0))

sets_are : (from : ℕ) (offers : List (Event × ℕ)) (place : ℕ) (sets : List (List Event)) (m : Move) → In m (sets_moves from place offers sets) → Opens from place sets m ⊎ Goes offers place sets m
unfolding sets_moves
sets_are from offers place [] m i = absurd i
sets_are from offers place (set ∷ sets) m (inl e) = inl (0, omega arith, e ∙ ap (λ p. step from Unseen p) (stay place))
sets_are from offers place (set ∷ sets) m (inr i) = go (in_either (chosen_moves place set offers) (sets_moves from (place + 1) offers sets) m i) (sets_are from offers (place + 1) sets m)
  where
    go : In m (chosen_moves place set offers) ⊎ In m (sets_moves from (place + 1) offers sets) → (In m (sets_moves from (place + 1) offers sets) → Opens from (place + 1) sets m ⊎ Goes offers (place + 1) sets m)
        → Opens from place (set ∷ sets) m ⊎ Goes offers place (set ∷ sets) m
    go (inl j) next = let f = map_in (offer_move place) (chosen set offers) m j in inr (0, f.0, omega arith, f.1, f.2 ∙ ap (λ p. offer_move p f.0) (stay place))
    go (inr j) next = sets_later from offers place set sets m (next j)

set_opens : (from : ℕ) (offers : List (Event × ℕ)) (place : ℕ) (sets : List (List Event)) (k : ℕ) → k < length sets → In (step from Unseen (place + k)) (sets_moves from place offers sets)
unfolding sets_moves
set_opens from offers place [] k h = absurd (omega (arith, h))
set_opens from offers place (set ∷ sets) zero h = inl (ap (λ p. step from Unseen p) (sym (stay place)))
set_opens from offers place (set ∷ sets) (suc k) h =
    let later = set_opens from offers (place + 1) sets k (omega (arith, h)) in
    inr (in_right (chosen_moves place set offers) (sets_moves from (place + 1) offers sets) (step from Unseen (place + suc k)) (subst (λ p. In (step from Unseen p) (sets_moves from (place + 1) offers sets)) (on place k) later))

set_goes : (from : ℕ) (offers : List (Event × ℕ)) (place : ℕ) (sets : List (List Event)) (k : ℕ) (o : Event × ℕ) → k < length sets → In o (chosen (get_or sets k []) offers)
    → In (offer_move (place + k) o) (sets_moves from place offers sets)
unfolding sets_moves
set_goes from offers place [] k o h i = absurd (omega (arith, h))
set_goes from offers place (set ∷ sets) zero o h i =
    inr (in_left (chosen_moves place set offers) (sets_moves from (place + 1) offers sets) (offer_move (place + 0) o)
    (subst (λ p. In (offer_move p o) (chosen_moves place set offers)) (stay place) (in_map (offer_move place) (chosen set offers) o i)))
set_goes from offers place (set ∷ sets) (suc k) o h i =
    let later = set_goes from offers (place + 1) sets k o (omega (arith, h)) i in
    inr (in_right (chosen_moves place set offers) (sets_moves from (place + 1) offers sets) (offer_move (place + suc k) o) (subst (λ p. In (offer_move p o) (sets_moves from (place + 1) offers sets)) (on place k) later))

-- ---- the ends of a row

abbrev Leaves : ℕ → ℕ → List (List (Name × ℕ)) → Move → Type 0
Leaves from place states m = (k : ℕ) × (k < length states) × (m ≡ step from Unseen (place + k))

abbrev Stops : ℕ → List (List (Name × ℕ)) → Move → Type 0
Stops place states m = (k : ℕ) × (k < length states) × (m ≡ step (place + k) (Ends (get_or states k [])) 1)

ends_later : (from place : ℕ) (state : List (Name × ℕ)) (states : List (List (Name × ℕ))) (m : Move) → Leaves from (place + 1) states m ⊎ Stops (place + 1) states m
    → Leaves from place (state ∷ states) m ⊎ Stops place (state ∷ states) m
ends_later from place state states m (inl k) = inl (suc k.0, omega (arith, k.1), k.2 ∙ ap (λ p. step from Unseen p) (on place k.0))
ends_later from place state states m (inr k) = inr (suc k.0, omega (arith, k.1), k.2 ∙ ap (λ p. step p (Ends (get_or states k.0 [])) 1) (on place k.0))

ends_are : (from place : ℕ) (states : List (List (Name × ℕ))) (m : Move) → In m (ends_moves from place states) → Leaves from place states m ⊎ Stops place states m
unfolding ends_moves
ends_are from place [] m i = absurd i
ends_are from place (state ∷ states) m (inl e) = inl (0, omega arith, e ∙ ap (λ p. step from Unseen p) (stay place))
ends_are from place (state ∷ states) m (inr (inl e)) = inr (0, omega arith, e ∙ ap (λ p. step p (Ends state) 1) (stay place))
ends_are from place (state ∷ states) m (inr (inr i)) = ends_later from place state states m (ends_are from (place + 1) states m i)

end_opens : (from place : ℕ) (states : List (List (Name × ℕ))) (k : ℕ) → k < length states → In (step from Unseen (place + k)) (ends_moves from place states)
unfolding ends_moves
end_opens from place [] k h = absurd (omega (arith, h))
end_opens from place (state ∷ states) zero h = inl (ap (λ p. step from Unseen p) (sym (stay place)))
end_opens from place (state ∷ states) (suc k) h = inr (inr (subst (λ p. In (step from Unseen p) (ends_moves from (place + 1) states)) (on place k) (end_opens from (place + 1) states k (omega (arith, h)))))

end_goes : (from place : ℕ) (states : List (List (Name × ℕ))) (k : ℕ) → k < length states → In (step (place + k) (Ends (get_or states k [])) 1) (ends_moves from place states)
unfolding ends_moves
end_goes from place [] k h = absurd (omega (arith, h))
end_goes from place (state ∷ states) zero h = inr (inl (ap (λ p. step p (Ends state) 1) (sym (stay place))))
end_goes from place (state ∷ states) (suc k) h =
    inr (inr (subst (λ p. In (step p (Ends (get_or states k [])) 1) (ends_moves from (place + 1) states)) (on place k) (end_goes from (place + 1) states k (omega (arith, h)))))

-- ---- rows

-- the step is one of a row that stands at a place, with the places behind it from another one on
abbrev OfRow : ℕ → ℕ → TableRow → Move → Type 0
OfRow n place row m = In m (row_moves (row_place n) place row)

moved : (n k place other : ℕ) (row : TableRow) (m : Move) → n ≡ k → place ≡ other → OfRow n place row m → OfRow k other row m
moved n k place other row m e f i = subst (λ p. OfRow k p row m) f (subst (λ j. OfRow j place row m) e i)

-- the first place behind a row, from the row before it on
first_later : (place : ℕ) (row : TableRow) (rows : List TableRow) (i : ℕ) → first_place (place + row_places row) rows i ≡ first_place place (row ∷ rows) (suc i)
first_later place row rows i =
    let all : sum_by row_places (row ∷ take i rows) ≡ row_places row + sum_by row_places (take i rows) = sum_by-cons row_places row (take i rows) in
    let same : place + row_places row + sum_by row_places (take i rows) ≡ place + (row_places row + sum_by row_places (take i rows)) = omega arith in
    same ∙ ap (λ n. place + n) (sym all)

rows_are : (n place : ℕ) (rows : List TableRow) (m : Move) → In m (rows_moves n place rows) → (i : ℕ) × (i < length rows) × OfRow (n + i) (first_place place rows i) (row_at rows i) m
unfolding rows_moves
rows_are n place [] m i = absurd i
rows_are n place (row ∷ rows) m i = go (in_either (row_moves (row_place n) place row) (rows_moves (n + 1) (place + row_places row) rows) m i) (rows_are (n + 1) (place + row_places row) rows m)
  where
    go : OfRow n place row m ⊎ In m (rows_moves (n + 1) (place + row_places row) rows)
        → (In m (rows_moves (n + 1) (place + row_places row) rows) → (i : ℕ) × (i < length rows) × OfRow (n + 1 + i) (first_place (place + row_places row) rows i) (row_at rows i) m)
        → (i : ℕ) × (i < length (row ∷ rows)) × OfRow (n + i) (first_place place (row ∷ rows) i) (row_at (row ∷ rows) i) m
    go (inl j) next = (0, omega arith, moved n (n + 0) place (place + 0) row m (stay n) (stay place) j)
    go (inr j) next =
        let later = next j in (
          suc later.0,
          omega (arith, later.1),
          moved (n + 1 + later.0) (n + suc later.0) (first_place (place + row_places row) rows later.0) (first_place place (row ∷ rows) (suc later.0)) (row_at rows later.0) m
              (on n later.0) (first_later place row rows later.0) later.2,
        )

row_stands : (n place : ℕ) (rows : List TableRow) (m : Move) (i : ℕ) → i < length rows → OfRow (n + i) (first_place place rows i) (row_at rows i) m → In m (rows_moves n place rows)
unfolding rows_moves
row_stands n place [] m i h j = absurd (omega (arith, h))
row_stands n place (row ∷ rows) m zero h j =
    in_left (row_moves (row_place n) place row) (rows_moves (n + 1) (place + row_places row) rows) m (moved (n + 0) n (place + 0) place row m (sym (stay n)) (sym (stay place)) j)
row_stands n place (row ∷ rows) m (suc i) h j =
    in_right (row_moves (row_place n) place row) (rows_moves (n + 1) (place + row_places row) rows) m
    (row_stands (n + 1) (place + row_places row) rows m i (omega (arith, h))
    (moved (n + suc i) (n + 1 + i) (first_place place (row ∷ rows) (suc i)) (first_place (place + row_places row) rows i) (row_at rows i) m (sym (on n i)) (sym (first_later place row rows i)) j))

-- ---- initial states

starts_are : (params : List (Name × Kind)) (k : ℕ) (states : List ℕ) (m : Move) → In m (starts_moves params k states)
    → (i : ℕ) × (i < length states) × (m ≡ step 0 (Starts (state_at_place params (k + i))) (row_place (get_or states i 0)))
unfolding starts_moves
starts_are params k [] m i = absurd i
starts_are params k (n ∷ states) m (inl e) = (0, omega arith, e ∙ ap (λ p. step 0 (Starts (state_at_place params p)) (row_place n)) (stay k))
starts_are params k (n ∷ states) m (inr i) =
    let later = starts_are params (k + 1) states m i in
    (suc later.0, omega (arith, later.1), later.2 ∙ ap (λ p. step 0 (Starts (state_at_place params p)) (row_place (get_or states later.0 0))) (on k later.0))

start_stands : (params : List (Name × Kind)) (k : ℕ) (states : List ℕ) (i : ℕ) → i < length states
    → In (step 0 (Starts (state_at_place params (k + i))) (row_place (get_or states i 0))) (starts_moves params k states)
unfolding starts_moves
start_stands params k [] i h = absurd (omega (arith, h))
start_stands params k (n ∷ states) zero h = inl (ap (λ p. step 0 (Starts (state_at_place params p)) (row_place n)) (sym (stay k)))
start_stands params k (n ∷ states) (suc i) h =
    inr (subst (λ p. In (step 0 (Starts (state_at_place params p)) (row_place (get_or states i 0))) (starts_moves params (k + 1) states)) (on k i) (start_stands params (k + 1) states i (omega (arith, h))))

-- ---- all steps

module _ (params : List (Name × Kind)) (rows : List TableRow) (states : List ℕ) where
  -- the lists of the steps of the n-th row
  abbrev place_of : ℕ → ℕ
  place_of n = first_place (row_place (length rows)) rows n

  abbrev offers_of : ℕ → List Move
  offers_of n = map (offer_move (row_place n)) (row_at rows n).offers

  abbrev sets_of : ℕ → List Move
  sets_of n = sets_moves (row_place n) (place_of n) (row_at rows n).offers (row_at rows n).accepts

  abbrev ends_of : ℕ → List Move
  ends_of n = ends_moves (row_place n) (place_of n + length (row_at rows n).accepts) (row_at rows n).ends

  of_set : (n : ℕ) → n < length rows → (m : Move) → Opens (row_place n) (place_of n) (row_at rows n).accepts m ⊎ Goes (row_at rows n).offers (place_of n) (row_at rows n).accepts m → IsStep params rows states m
  of_set n h m (inl k) = settles n k.0 h k.1 k.2
  of_set n h m (inr k) = accepts n k.0 k.1 h k.2 k.3 k.4

  of_end : (n : ℕ) → n < length rows → (m : Move) → Leaves (row_place n) (place_of n + length (row_at rows n).accepts) (row_at rows n).ends m
      ⊎ Stops (place_of n + length (row_at rows n).accepts) (row_at rows n).ends m → IsStep params rows states m
  of_end n h m (inl k) = leaves n k.0 h k.1 k.2
  of_end n h m (inr k) = ends n k.0 h k.1 k.2

  of_either : (n : ℕ) → n < length rows → (m : Move) → In m (offers_of n) ⊎ In m (sets_of n) → IsStep params rows states m
  of_either n h m (inl j) = let f = map_in (offer_move (row_place n)) (row_at rows n).offers m j in does n f.0 h f.1 f.2
  of_either n h m (inr j) = of_set n h m (sets_are (row_place n) (row_at rows n).offers (place_of n) (row_at rows n).accepts m j)

  of_row : (n : ℕ) → n < length rows → (m : Move) → In m (offers_of n ++ sets_of n) ⊎ In m (ends_of n) → IsStep params rows states m
  of_row n h m (inl j) = of_either n h m (in_either (offers_of n) (sets_of n) m j)
  of_row n h m (inr j) = of_end n h m (ends_are (row_place n) (place_of n + length (row_at rows n).accepts) (row_at rows n).ends m j)

  of_all : (m : Move) → In m (starts_moves params 0 states) ⊎ In m (rows_moves 0 (row_place (length rows)) rows) → IsStep params rows states m
  of_all m (inl j) = let f = starts_are params 0 states m j in begins f.0 f.1 (f.2 ∙ ap (λ p. step 0 (Starts (state_at_place params p)) (row_place (get_or states f.0 0))) (front f.0))
  of_all m (inr j) =
      let f = rows_are 0 (row_place (length rows)) rows m j in
      of_row f.0 f.1 m (in_either (offers_of f.0 ++ sets_of f.0) (ends_of f.0) m (moved (0 + f.0) f.0 (place_of f.0) (place_of f.0) (row_at rows f.0) m (front f.0) refl f.2))

  -- each step that is listed is one of the rows
  pub listed_is : (m : Move) → In m (graph_moves params rows states) → IsStep params rows states m
  listed_is m i = of_all m (in_either (starts_moves params 0 states) (rows_moves 0 (row_place (length rows)) rows) m i)

  in_row : (n : ℕ) → n < length rows → (m : Move) → In m (offers_of n ++ sets_of n ++ ends_of n) → In m (graph_moves params rows states)
  in_row n h m i = in_right (starts_moves params 0 states) (rows_moves 0 (row_place (length rows)) rows) m
      (row_stands 0 (row_place (length rows)) rows m n h (moved n (0 + n) (place_of n) (place_of n) (row_at rows n) m (sym (front n)) refl i))

  in_sets : (n : ℕ) → n < length rows → (m : Move) → In m (sets_of n) → In m (graph_moves params rows states)
  in_sets n h m i = in_row n h m (in_left (offers_of n ++ sets_of n) (ends_of n) m (in_right (offers_of n) (sets_of n) m i))

  in_ends : (n : ℕ) → n < length rows → (m : Move) → In m (ends_of n) → In m (graph_moves params rows states)
  in_ends n h m i = in_row n h m (in_right (offers_of n ++ sets_of n) (ends_of n) m i)

  equal : (m p : Move) → m ≡ p → In p (graph_moves params rows states) → In m (graph_moves params rows states)
  equal m p e i = subst (λ x. In x (graph_moves params rows states)) (sym e) i

  -- each step of the rows is listed
  pub is_listed : (m : Move) → IsStep params rows states m → In m (graph_moves params rows states)
  is_listed m (begins k h e) = equal m _ e (in_left (starts_moves params 0 states) (rows_moves 0 (row_place (length rows)) rows) (step 0 (Starts (state_at_place params k)) (row_place (get_or states k 0)))
      (subst (λ p. In (step 0 (Starts (state_at_place params p)) (row_place (get_or states k 0))) (starts_moves params 0 states)) (front k) (start_stands params 0 states k h)))
  is_listed m (does n o h i e) = equal m _ e (in_row n h _ (in_left (offers_of n ++ sets_of n) (ends_of n) _ (in_left (offers_of n) (sets_of n) _ (in_map (offer_move (row_place n)) (row_at rows n).offers o i))))
  is_listed m (settles n k h l e) = equal m _ e (in_sets n h _ (set_opens (row_place n) (row_at rows n).offers (place_of n) (row_at rows n).accepts k l))
  is_listed m (accepts n k o h l i e) = equal m _ e (in_sets n h _ (set_goes (row_place n) (row_at rows n).offers (place_of n) (row_at rows n).accepts k o l i))
  is_listed m (leaves n k h l e) = equal m _ e (in_ends n h _ (end_opens (row_place n) (place_of n + length (row_at rows n).accepts) (row_at rows n).ends k l))
  is_listed m (ends n k h l e) = equal m _ e (in_ends n h _ (end_goes (row_place n) (place_of n + length (row_at rows n).accepts) (row_at rows n).ends k l))

pub steps_are : (params : List (Name × Kind)) (rows : List TableRow) (states : List ℕ) (m : Move) → In m (graph_moves params rows states) ↔ IsStep params rows states m
steps_are params rows states m = (listed_is params rows states m, is_listed params rows states m)
