-- Edges as they are found, one offer after the other.
use Rattle.std.proofs.Common.{◌≡◌, ◌==◌, ◌&&◌, ◌||◌, ◌<◌, ◌≤◌, ◌+◌, not, zero, suc, ℕ, Bool, true, false, true≢false, cond, List, [], ◌∷◌, ◌++◌, get_or, take, set, length, refl, sym, ap, ◌∙◌, arith}
use Rattle.std.proofs.lemmas.Bool.{both_ways, cond-false, cond-true, false_from_ne_true}
use Rattle.std.proofs.lemmas.Grind.{flat_map-append}
use Rattle.std.proofs.lemmas.List.{append-nil, length-map, map-append, take_all, take_more}
use Rattle.std.specs.List.{filter, list_any, position_or_len}
use Rattle.occ_syntax.specs.occ_base.contracts.event.DirPartialEq.TheImpl.{ghosts as directions}
use Rattle.occ_syntax.specs.occ_base.declared.event.Dir.{Dir}
use Rattle.occ_syntax.specs.occ_base.declared.event.Dir.TheVariants.{Input, Output}
use Rattle.occ_syntax.specs.occ_base.declared.event.Event.{Event}
use Rattle.occ_syntax.specs.Scopes.{same_dir}
use Rattle.occ_draw.specs.declared.edges.Edge.{Edge}
use Rattle.occ_draw.specs.Edges.{alike, edges_of, events_like}
use Rattle.occ_draw.specs.Adding.{Way, edge_of, grown, grown_at, same_way, way_of, ways_of, with_offer, with_way}
use Rattle.occ_draw.proofs.Alike.{alike_back, alike_is, alike_through, is_alike}

-- ---- the edges of offers with one more at the end

module _ (x o : Event × ℕ) where
  abbrev others : Edge → Bool
  others edge = not (alike x edge.offer)

  joined : (edge : Edge) → alike x o ≡ true → alike o edge.offer ≡ true → alike x edge.offer ≡ true
  joined edge h is = is_alike x edge.offer (alike_through x o edge.offer (alike_is x o h) (alike_is o edge.offer is))

  -- an offer that is like the first comes to no other edge
  same_others : alike x o ≡ true → (edges : List Edge) → filter others (with_offer edges o) ≡ filter others edges
  same_others h [] = ap (λ b. cond (not b) (edge_of o ∷ []) []) h
  same_others h (edge ∷ edges) = by (same_others h edges) (alike o edge.offer) refl
    where
      by : filter others (with_offer edges o) ≡ filter others edges → (b : Bool) → alike o edge.offer ≡ b
          → filter others (cond b (grown edge o ∷ edges) (edge ∷ with_offer edges o)) ≡ filter others (edge ∷ edges)
      by rest true is =
          ap (λ b. cond (not b) (grown edge o ∷ filter others edges) (filter others edges)) (joined edge h is)
          ∙ sym (ap (λ b. cond (not b) (edge ∷ filter others edges) (filter others edges)) (joined edge h is))
      by rest false is = ap (λ l. cond (others edge) (edge ∷ l) l) rest

  apart : (edge : Edge) → alike x o ≡ false → alike o edge.offer ≡ true → alike x edge.offer ≡ false
  apart edge h is =
      false_from_ne_true (alike x edge.offer)
      (λ e. both_ways (alike x o) h (is_alike x o (alike_through x edge.offer o (alike_is x edge.offer e) (alike_back o edge.offer (alike_is o edge.offer is)))))

  -- any other offer comes to another edge
  more_others : alike x o ≡ false → (edges : List Edge) → filter others (with_offer edges o) ≡ with_offer (filter others edges) o
  more_others h [] = ap (λ b. cond (not b) (edge_of o ∷ []) []) h
  more_others h (edge ∷ edges) =
      by (more_others h edges) (alike o edge.offer) (alike x edge.offer) refl refl
    where
      by : filter others (with_offer edges o) ≡ with_offer (filter others edges) o → (b d : Bool) → alike o edge.offer ≡ b → alike x edge.offer ≡ d
          → filter others (cond b (grown edge o ∷ edges) (edge ∷ with_offer edges o)) ≡ with_offer (cond (not d) (edge ∷ filter others edges) (filter others edges)) o
      by rest true true is e = absurd (both_ways (alike x edge.offer) (apart edge h is) e)
      by rest true false is e =
          ap (λ b. cond (not b) (grown edge o ∷ filter others edges) (filter others edges)) e
          ∙ sym (cond-true (alike o edge.offer) (grown edge o ∷ filter others edges) (edge ∷ with_offer (filter others edges) o) is)
      by rest false true is e = ap (λ b. cond (not b) (edge ∷ filter others (with_offer edges o)) (filter others (with_offer edges o))) e ∙ rest
      by rest false false is e =
          ap (λ b. cond (not b) (edge ∷ filter others (with_offer edges o)) (filter others (with_offer edges o))) e ∙ ap (λ l. edge ∷ l) rest
          ∙ sym (cond-false (alike o edge.offer) (grown edge o ∷ filter others edges) (edge ∷ with_offer (filter others edges) o) is)

  like_last : (offers : List (Event × ℕ)) → events_like x (offers ++ o ∷ []) ≡ events_like x offers ++ cond (alike x o) (o.0 ∷ []) []
  like_last offers = flat_map-append (λ p. cond (alike x p) (p.0 ∷ []) []) offers (o ∷ []) ∙ ap (λ l. events_like x offers ++ l) (append-nil (cond (alike x o) (o.0 ∷ []) []))

  -- the edge of the first offer, whose events are those of it and the later ones
  abbrev first_of : List Event → Edge
  first_of later = record { offer = x; events = x.0 ∷ later }

  both_added : (events : List Event) (edges : List Edge) (b : Bool) → alike x o ≡ b
      → first_of (events ++ cond b (o.0 ∷ []) []) ∷ filter others (with_offer edges o)
      ≡ cond b (grown (first_of events) o ∷ filter others edges) (first_of events ∷ with_offer (filter others edges) o)
  both_added events edges true is = ap (λ l. grown (first_of events) o ∷ l) (same_others is edges)
  both_added events edges false is = ap (λ l. first_of l ∷ filter others (with_offer edges o)) (append-nil events) ∙ ap (λ l. first_of events ∷ l) (more_others is edges)

  turned_way : (edges : List Edge) (edge : Edge) → alike o x ≡ alike x o → cond (alike x o) (grown edge o ∷ edges) (edge ∷ with_offer edges o) ≡ cond (alike o x) (grown edge o ∷ edges) (edge ∷ with_offer edges o)
  turned_way edges edge e = ap (λ b. cond b (grown edge o ∷ edges) (edge ∷ with_offer edges o)) (sym e)

  either_way : alike o x ≡ alike x o
  either_way = by (alike o x) (alike x o) refl refl
    where
      by : (b d : Bool) → alike o x ≡ b → alike x o ≡ d → b ≡ d
      by true true h e = refl
      by false false h e = refl
      by true false h e = absurd (both_ways (alike x o) e (is_alike x o (alike_back o x (alike_is o x h))))
      by false true h e = absurd (both_ways (alike o x) h (is_alike o x (alike_back x o (alike_is x o e))))

last_added : (offers : List (Event × ℕ)) (o : Event × ℕ) → edges_of (offers ++ o ∷ []) ≡ with_offer (edges_of offers) o
unfolding edges_of
last_added [] o = refl
last_added (x ∷ offers) o =
    ap (λ l. first_of x o l ∷ filter (others x o) (edges_of (offers ++ o ∷ []))) (like_last x o offers)
    ∙ ap (λ l. first_of x o (events_like x offers ++ cond (alike x o) (o.0 ∷ []) []) ∷ filter (others x o) l) (last_added offers o)
    ∙ both_added x o (events_like x offers) (edges_of offers) (alike x o) refl
    ∙ turned_way x o (filter (others x o) (edges_of offers)) (first_of x o (events_like x offers)) (either_way x o)

-- ---- where an offer comes to

module _ (o : Event × ℕ) where
  fresh : (edges : List Edge) → list_any (same_way (way_of o)) (ways_of edges) ≡ false → with_offer edges o ≡ edges ++ edge_of o ∷ []
  fresh [] h = refl
  fresh (edge ∷ edges) h = by (fresh edges) (alike o edge.offer) h
    where
      by : (list_any (same_way (way_of o)) (ways_of edges) ≡ false → with_offer edges o ≡ edges ++ edge_of o ∷ []) → (b : Bool) → (b || list_any (same_way (way_of o)) (ways_of edges)) ≡ false
          → cond b (grown edge o ∷ edges) (edge ∷ with_offer edges o) ≡ edge ∷ (edges ++ edge_of o ∷ [])
      by rest true h = absurd (true≢false h)
      by rest false h = ap (λ l. edge ∷ l) (rest h)

  found_at : (edges : List Edge) → list_any (same_way (way_of o)) (ways_of edges) ≡ true → with_offer edges o ≡ grown_at edges (position_or_len (same_way (way_of o)) (ways_of edges)) o
  found_at [] h = absurd (true≢false (sym h))
  found_at (edge ∷ edges) h = by (found_at edges) (alike o edge.offer) h
    where
      by : (list_any (same_way (way_of o)) (ways_of edges) ≡ true → with_offer edges o ≡ grown_at edges (position_or_len (same_way (way_of o)) (ways_of edges)) o) → (b : Bool)
          → (b || list_any (same_way (way_of o)) (ways_of edges)) ≡ true
          → cond b (grown edge o ∷ edges) (edge ∷ with_offer edges o) ≡ grown_at (edge ∷ edges) (cond (not b) (1 + position_or_len (same_way (way_of o)) (ways_of edges)) 0) o
      by rest true h = refl
      by rest false h =
          let next : suc (position_or_len (same_way (way_of o)) (ways_of edges)) ≡ 1 + position_or_len (same_way (way_of o)) (ways_of edges) = omega arith in
          ap (λ l. edge ∷ l) (rest h) ∙ ap (λ i. grown_at (edge ∷ edges) i o) next

  same_ways : (edges : List Edge) (i : ℕ) → ways_of (grown_at edges i o) ≡ ways_of edges
  same_ways [] i = refl
  same_ways (edge ∷ edges) zero = refl
  same_ways (edge ∷ edges) (suc i) = ap (λ l. way_of edge.offer ∷ l) (same_ways edges i)

not_true : (b : Bool) → true ≡ not b → b ≡ false
not_true true e = absurd (true≢false e)
not_true false e = refl

not_false : (b : Bool) → false ≡ not b → b ≡ true
not_false true e = refl
not_false false e = absurd (true≢false (sym e))

-- what is noted of the way of an offer
pub record IsNoted (o : Event × ℕ) (keys noted : List Way) (place : ℕ) (is_new : Bool) : Type 0 where
  pub way : Way
  pub way_is : way ≡ way_of o
  pub place_is : place ≡ position_or_len (same_way way) keys
  pub within : place < length noted
  pub tells : is_new ≡ not (list_any (same_way way) keys)
  pub keys_are : noted ≡ with_way keys way

module _ (o : Event × ℕ) (edges : List Edge) (keys noted : List Way) (place : ℕ) (is_new : Bool) (h : IsNoted o keys noted place is_new) (kept : keys ≡ ways_of edges) where
  told : is_new ≡ not (list_any (same_way (way_of o)) (ways_of edges))
  told = h.tells ∙ ap (λ w. not (list_any (same_way w) keys)) h.way_is ∙ ap (λ ks. not (list_any (same_way (way_of o)) ks)) kept

  noted_are : noted ≡ with_way (ways_of edges) (way_of o)
  noted_are = h.keys_are ∙ ap (with_way keys) h.way_is ∙ ap (λ ks. with_way ks (way_of o)) kept

  none_there : is_new ≡ true → list_any (same_way (way_of o)) (ways_of edges) ≡ false
  none_there is = not_true _ (sym is ∙ told)

  one_there : is_new ≡ false → list_any (same_way (way_of o)) (ways_of edges) ≡ true
  one_there is = not_false _ (sym is ∙ told)

  -- the way was new, and the offer has an edge of its own
  pub new_edges : (new : List Edge) → is_new ≡ true → new ≡ edges ++ edge_of o ∷ [] → new ≡ with_offer edges o
  new_edges new is added = added ∙ sym (fresh o edges (none_there is))

  pub new_ways : (new : List Edge) → is_new ≡ true → new ≡ edges ++ edge_of o ∷ [] → noted ≡ ways_of new
  new_ways new is added =
      noted_are ∙ cond-false _ (ways_of edges) (ways_of edges ++ way_of o ∷ []) (none_there is)
      ∙ sym (map-append (λ (edge : Edge). way_of edge.offer) edges (edge_of o ∷ [])) ∙ ap ways_of (sym added)

  -- it was there, and the offer comes to the edge that goes it
  same_noted : is_new ≡ false → noted ≡ ways_of edges
  same_noted is = noted_are ∙ cond-true _ (ways_of edges) (ways_of edges ++ way_of o ∷ []) (one_there is)

  pub is_there : is_new ≡ false → place < length edges
  is_there is =
      let same : length noted ≡ length edges = ap length (same_noted is) ∙ length-map edges (λ (edge : Edge). way_of edge.offer) in
      omega (arith, same, h.within)

  pub grown_edges : (new : List Edge) → is_new ≡ false → new ≡ grown_at edges place o → new ≡ with_offer edges o
  grown_edges new is added =
      let at : place ≡ position_or_len (same_way (way_of o)) (ways_of edges) =
      h.place_is ∙ ap (λ w. position_or_len (same_way w) keys) h.way_is ∙ ap (position_or_len (same_way (way_of o))) kept in
      added ∙ ap (λ i. grown_at edges i o) at ∙ sym (found_at o edges (one_there is))

  pub grown_ways : (new : List Edge) → is_new ≡ false → new ≡ grown_at edges place o → noted ≡ ways_of new
  grown_ways new is added = same_noted is ∙ sym (same_ways o edges place) ∙ ap ways_of (sym added)

-- an edge exchanged for one with an offer more
pub grown_set : (edges : List Edge) (i : ℕ) (edge : Edge) (events : List Event) (o : Event × ℕ) → i < length edges → edge ≡ get_or edges i edge → events ≡ edge.events ++ o.0 ∷ []
    → set edges i (record { offer = edge.offer; events = events }) ≡ grown_at edges i o
grown_set [] i edge events o h at is = absurd (omega (arith, h))
grown_set (first ∷ edges) zero edge events o h at is = ap (λ l. record { offer = edge.offer; events = l } ∷ edges) is ∙ ap (λ d. grown d o ∷ edges) at
grown_set (first ∷ edges) (suc i) edge events o h at is = ap (λ l. first ∷ l) (grown_set edges i edge events o (omega (arith, h)) at is)

-- ---- ways as they are told apart

dirs_tested : (d e : Dir) → directions.eq d e ≡ same_dir d e
dirs_tested Input Input = refl
dirs_tested Input Output = refl
dirs_tested Output Input = refl
dirs_tested Output Output = refl

pub tested : (w : Way) → (λ (v : Way). ((w.0.0.0 == v.0.0.0) && directions.eq w.0.1 v.0.1) && (w.1 == v.1)) ≡ same_way w
tested w = λ i v. ((w.0.0.0 == v.0.0.0) && dirs_tested w.0.1 v.0.1 i) && (w.1 == v.1)

-- ---- the loop

pub found_none : (edges : List Edge) → edges ≡ [] → edges ≡ edges_of []
unfolding edges_of
found_none edges none = none

pub found_further : (offers : List (Event × ℕ)) (i : ℕ) (d : Event × ℕ) (old new : List Edge) → i < length offers
    → old ≡ edges_of (take i offers) → new ≡ with_offer old (get_or offers i d) → new ≡ edges_of (take (i + 1) offers)
found_further offers i d old new h is added =
    added ∙ ap (λ l. with_offer l (get_or offers i d)) is ∙ sym (last_added (take i offers) (get_or offers i d)) ∙ ap edges_of (sym (take_more offers i d h))

pub found_all : (offers : List (Event × ℕ)) (i : ℕ) (edges : List Edge) → length offers ≤ i → edges ≡ edges_of (take i offers) → edges ≡ edges_of offers
found_all offers i edges past is = is ∙ ap edges_of (take_all i offers past)
