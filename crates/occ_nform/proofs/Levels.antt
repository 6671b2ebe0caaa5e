-- The rows of one height: they get the numbers behind those of the lower rows, in the order of their texts.
use Rattle.std.proofs.Common.{◌≡◌, ◌⊎◌, ◌≤◌, ◌<◌, ◌+◌, ◌-◌, ◌^◌, ◌==◌, ◌&&◌, ◌++◌, ℕ, zero, suc, Bool, true, false, nat_lt, List, [], ◌∷◌, Some, length, get_or, set, map, refl, sym, ap, ◌∙◌, subst, inl, inr, ⊎_elim, arith, length-append}
use Rattle.std.proofs.lemmas.Bool.{and_from, or_left, or_right, cases_lt, eqb-false, ne_eqb, eq-eqb, lt-ltb}
use Rattle.std.proofs.lemmas.List.{get_or_append_left, get_or-append-add, get_or-map, get_or_default, get_or-set_other, get_or-set_same, length-map, length-set}
use Rattle.std.proofs.lemmas.List.Elements.{recursion_from_All}
use Rattle.std.proofs.lemmas.List.Sorted.{length_permutation, All-permutation, Contains-permutation}
use Rattle.std.proofs.lemmas.Map.Keys.{IsDistinct-IsPermutation, IsDistinct-head, IsDistinct-tail, IsDistinct-from_apart, apart_from_distinct}
use Rattle.std.specs.List.{All, AllByRecursion, IsDistinct}
use Rattle.occ_syntax.specs.occ_base.Names.{IsDistinct as AreDistinct}
use Rattle.occ_syntax.specs.occ_base.declared.event.Event.{Event}
use Rattle.occ_syntax.specs.occ_base.declared.names.Name.{Name}
use Rattle.occ_syntax.specs.declared.scope.Kind.{Kind}
use Rattle.occ_syntax.specs.Counts.{bits_of_scope}
use Rattle.occ_nform_rows.specs.occ_node.Offers.{are_below}
use Rattle.occ_nform_rows.specs.occ_node.World.{nodes_of, row_of}
use Rattle.occ_nform_rows.specs.occ_node.declared.node.NodeId.{NodeId}
use Rattle.occ_nform_rows.specs.occ_node.declared.world.World.{World}
use Rattle.occ_nform_rows.specs.occ_nform_table.declared.table.TableRow.{TableRow}
use Rattle.occ_nform_rows.specs.occ_nform_table.Behaviours.{row_at, no_row}
use Rattle.occ_nform_rows.specs.occ_nform_table.Judging.{row_text, comes_after, text_less}
use Rattle.occ_nform_rows.specs.occ_nform_table.Tables.{are_params, IsInterface, IsRowOf}
use Rattle.occ_nform_rows.specs.Listed.{IsListed, number_of}
use Rattle.occ_nform.specs.declared.level.Draft.{Draft}
use Rattle.occ_nform.specs.declared.numbering.Numbering.{Numbering}
use Rattle.occ_nform.specs.declared.order.Placed.{Placed}
use Rattle.occ_nform.specs.Numbering.{placed_at, key_at, IsGraph, IsLower, AreReady, IsDraft, AreDrafts, AreSorted, text_before, numbered_from, IsNumbered, IsNumbering}
use Rattle.occ_nform.proofs.Rows.{row_get}
use Rattle.occ_nform.proofs.NumberTexts.{marked_params, one_text}
use Rattle.occ_nform.proofs.Nodes.{each_more, listed_same, nodes_same, less_from}

-- ---- lists that were made longer
pub row_left : (rows rs : List TableRow) (i : ℕ) → i < length rows → row_at (rows ++ rs) i ≡ row_at rows i
row_left rows rs i h =
    let more : i < length (rows ++ rs) = omega (arith, length-append rows rs) in
    sym (row_get (rows ++ rs) i no_row more) ∙ get_or_append_left rows rs no_row i h ∙ row_get rows i no_row h

pub row_right : (rows : List TableRow) (drafts : List Draft) (j : ℕ) (d : Draft) → j < length drafts → row_at (rows ++ map (λ (d : Draft). d.row) drafts) (length rows + j) ≡ (get_or drafts j d).row
row_right rows drafts j d h =
    let more : length rows + j < length (rows ++ map (λ (d : Draft). d.row) drafts) = omega (arith, length-append rows (map (λ (d : Draft). d.row) drafts), length-map drafts (λ (d : Draft). d.row)) in
    sym (row_get (rows ++ map (λ (d : Draft). d.row) drafts) (length rows + j) no_row more) ∙ get_or-append-add rows (map (λ (d : Draft). d.row) drafts) j no_row ∙ get_or-map (λ (d : Draft). d.row) drafts j d no_row h

-- the node of a draft, with its height
abbrev placed_as : ℕ → Draft → Placed
placed_as height d = record { height = height; node = d.node }

placed_right : (height : ℕ) (done : List Placed) (drafts : List Draft) (j : ℕ) (d : Draft) → j < length drafts → placed_at (done ++ map (placed_as height) drafts) (length done + j) ≡ placed_as height (get_or drafts j d)
placed_right height done drafts j d h = get_or-append-add done (map (placed_as height) drafts) j (record { height = 0; node = record { 0 = 0 } }) ∙ get_or-map (placed_as height) drafts j d (record { height = 0; node = record { 0 = 0 } }) h

placed_left : (done more : List Placed) (i : ℕ) → i < length done → placed_at (done ++ more) i ≡ placed_at done i
placed_left done more i h = get_or_append_left done more (record { height = 0; node = record { 0 = 0 } }) i h

-- ---- numbers of drafts
abbrev pub same_draft : Draft → Draft → Bool
same_draft d e = d.node.0 == e.node.0

draft_flips : (d e : Draft) → same_draft d e ≡ same_draft e d
draft_flips d e = turned d.node.0 e.node.0
  where
    turned : (m n : ℕ) → (m == n) ≡ (n == m)
    turned m n = grind arith

pub numbers_wide : (n : ℕ) (drafts : List Draft) (numbers : List ℕ) → length (numbered_from n drafts numbers) ≡ length numbers
numbers_wide n [] numbers = refl
numbers_wide n (d ∷ drafts) numbers = numbers_wide (n + 1) drafts (set numbers d.node.0 n) ∙ length-set numbers d.node.0 n

number_other : (n : ℕ) (drafts : List Draft) (numbers : List ℕ) (a : ℕ) → AllByRecursion (λ (d : Draft). (d.node.0 == a) ≡ false) drafts → get_or (numbered_from n drafts numbers) a 0 ≡ get_or numbers a 0
number_other n [] numbers a h = refl
number_other n (d ∷ drafts) numbers a h = number_other (n + 1) drafts (set numbers d.node.0 n) a h.1
    ∙ get_or-set_other numbers d.node.0 a n 0 (λ e. eqb-false d.node.0 a h.0 (sym e))

number_at : (n : ℕ) (drafts : List Draft) (numbers : List ℕ) → IsDistinct same_draft drafts → AllByRecursion (λ (d : Draft). d.node.0 < length numbers) drafts
    → (i : ℕ) (d : Draft) → i < length drafts → get_or (numbered_from n drafts numbers) (get_or drafts i d).node.0 0 ≡ n + i
number_at n [] numbers apart known i d h = absurd (omega arith)
number_at n (e ∷ drafts) numbers apart known zero d h =
    let same : n ≡ n + zero = omega arith in
    number_other (n + 1) drafts (set numbers e.node.0 n) e.node.0 (each_more _ (λ (d : Draft). (d.node.0 == e.node.0) ≡ false) (λ d t. draft_flips d e ∙ t) drafts (IsDistinct-head same_draft e drafts apart))
    ∙ get_or-set_same numbers e.node.0 n 0 known.0 ∙ same
number_at n (e ∷ drafts) numbers apart known (suc i) d h =
    let same : n + 1 + i ≡ n + suc i = omega arith in
    number_at (n + 1) drafts (set numbers e.node.0 n) (IsDistinct-tail same_draft e drafts apart)
    (each_more _ (λ (d : Draft). d.node.0 < length (set numbers e.node.0 n)) (λ d (t : d.node.0 < length numbers). omega (arith, length-set numbers e.node.0 n)) drafts known.1) i d (omega arith) ∙ same

-- before any level
pub none_numbered : (w : World) (names : List (List ℕ)) (params : List (Name × Kind)) (placed : List Placed) → IsGraph w params placed → (n : Numbering) → n.rows ≡ [] → length n.numbers.items ≡ nodes_of w → IsNumbering w names params placed 0 n
none_numbered w names params placed graph n none long = record {
  done = [];
  numbered = record {
    count = ap length none;
    most = omega arith;
    wide = λ k h. let node : (placed_at placed k).node.0 < nodes_of w = graph.node k h in omega arith;
    met = λ i h. absurd (omega arith);
    all = λ k h. absurd (omega arith);
    numbered = λ i h. absurd (omega arith);
    listed = λ i h. absurd (omega arith);
    rising = λ i h. absurd (omega arith);
    whole = λ k h more. absurd (omega arith);
  };
}

module _ (w : World) (names : List (List ℕ)) (params : List (Name × Kind)) (placed : List Placed) (graph : IsGraph w params placed)
    (start : ℕ) (small : start < length placed) (done : List Placed) (rows : List TableRow) (numbers : List ℕ) (is : IsNumbered w names params placed start done rows numbers) where
  -- ---- the nodes that are lower have their numbers
  abbrev IsKnown : NodeId → Type 0
  IsKnown b = (number_of numbers b < length done) × ((placed_at done (number_of numbers b)).node ≡ b)

  lower_place : (b : NodeId) (height : ℕ) → height ≤ (placed_at placed start).height → IsLower placed height b → (j : ℕ) × (j < start) × ((placed_at placed j).node ≡ b)
  lower_place b height most v = ⊎_elim
      (λ (h : v.0 < start). (v.0, h, v.2))
      (λ (h : start ≤ v.0).
      let low : (placed_at placed start).height ≤ (placed_at placed v.0).height = graph.sorted start v.0 h v.1 in
      let less : (placed_at placed v.0).height < height = v.3 in absurd (omega arith))
      (cases_lt v.0 start)

  known_at : (j : ℕ) → j < start → IsKnown (placed_at placed j).node
  known_at j h = let v = is.all j h in (v.0, ap (λ (p : Placed). p.node) v.1)

  lower_known : (b : NodeId) (height : ℕ) → height ≤ (placed_at placed start).height → IsLower placed height b → IsKnown b
  lower_known b height most v = let u = lower_place b height most v in subst IsKnown u.2 (known_at u.0 u.1)

  offers_known : (k : ℕ) → k < length placed → (placed_at placed k).height ≤ (placed_at placed start).height → AllByRecursion (λ (o : Event × NodeId). IsKnown o.1) (row_of w (placed_at placed k).node).offers
  offers_known k h most = each_more _ (λ (o : Event × NodeId). IsKnown o.1) (λ o v. lower_known o.1 (placed_at placed k).height most v) (row_of w (placed_at placed k).node).offers (graph.closed k h)

  pub ready : AreReady w params numbers placed start
  ready k low high same = record {
    bound = length done;
    node = graph.node k high;
    within = graph.within k high;
    wide = all_below (row_of w (placed_at placed k).node).offers (graph.closed k high);
    lower = each_more _ (λ (o : Event × NodeId). number_of numbers o.1 < length done) (λ o v. v.0) (row_of w (placed_at placed k).node).offers (offers_known k high (omega (arith, same)));
  }
    where
      wide_at : (b : NodeId) → IsLower placed (placed_at placed k).height b → b.0 < length numbers
      wide_at b v = subst (λ (b : NodeId). b.0 < length numbers) v.2 (is.wide v.0 v.1)

      all_below : (offers : List (Event × NodeId)) → AllByRecursion (λ (o : Event × NodeId). IsLower placed (placed_at placed k).height o.1) offers → are_below (length numbers) offers ≡ true
      all_below [] h = refl
      all_below (o ∷ offers) h = and_from (nat_lt o.1.0 (length numbers)) (are_below (length numbers) offers) (lt-ltb o.1.0 (length numbers) (wide_at o.1 h.0)) (all_below offers h.1)

  -- ---- the drafts of a level, sorted
  module _ (distinct : 0 < length params → AreDistinct names) (interface : IsInterface names params) (params_are : are_params names [] params ≡ true)
      (drafts sorted : List Draft) (level : AreDrafts w names params numbers placed start drafts) (by : AreSorted drafts sorted) where
    abbrev IsOfLevel : Draft → Type 0
    IsOfLevel d = (k : ℕ) × (k < length drafts) × IsDraft w names params numbers (placed_at placed (start + k)).node d

    count : length sorted ≡ length drafts
    count = length_permutation drafts sorted by.same

    of_level : All IsOfLevel sorted
    of_level = All-permutation IsOfLevel drafts sorted by.same (λ k d h. (k, h, level.each k d h))

    place_within : (k : ℕ) → k < length drafts → start + k < length placed
    place_within k h = let within : start + length drafts ≤ length placed = level.within in omega arith

    abbrev height : ℕ
    height = (placed_at placed start).height

    node_of : (k : ℕ) → k < length drafts → (d : Draft) → IsDraft w names params numbers (placed_at placed (start + k)).node d → placed_as height d ≡ placed_at placed (start + k)
    node_of k h d is = λ t. record { height = sym (level.level k h) t; node = is.node t }

    apart_drafts : (i j : ℕ) (d : Draft) → i < j → j < length drafts → same_draft (get_or drafts i d) (get_or drafts j d) ≡ false
    apart_drafts i j d low high = ne_eqb (get_or drafts i d).node.0 (get_or drafts j d).node.0 (λ e.
        let first = ap (λ (a : NodeId). a.0) (level.each i d (omega arith)).node in
        let second = ap (λ (a : NodeId). a.0) (level.each j d high).node in
        let same : start + i ≡ start + j = graph.apart (start + i) (start + j) (place_within i (omega arith)) (place_within j high) (sym first ∙ e ∙ second) in
        omega arith)

    apart : IsDistinct same_draft sorted
    apart = IsDistinct-IsPermutation same_draft draft_flips drafts sorted by.same (IsDistinct-from_apart same_draft drafts apart_drafts)

    pub level_known : All (λ d. d.node.0 < length numbers) sorted
    level_known k d h = let v = of_level k d h in subst (λ (a : NodeId). a.0 < length numbers) (sym v.2.node) (is.wide (start + v.0) (place_within v.0 v.1))

    abbrev new_numbers : List ℕ
    new_numbers = numbered_from (length done) sorted numbers

    abbrev new_done : List Placed
    new_done = done ++ map (placed_as height) sorted

    abbrev new_rows : List TableRow
    new_rows = rows ++ map (λ (d : Draft). d.row) sorted

    -- the numbers of the lower nodes stay
    other_draft : (j : ℕ) → j < start → (d : Draft) → IsOfLevel d → (d.node.0 == (placed_at placed j).node.0) ≡ false
    other_draft j h d v = ne_eqb d.node.0 (placed_at placed j).node.0 (λ e.
        let same : start + v.0 ≡ j = graph.apart (start + v.0) j (place_within v.0 v.1) (omega arith) (sym (ap (λ (a : NodeId). a.0) v.2.node) ∙ e) in
        omega arith)

    number_stays : (j : ℕ) → j < start → number_of new_numbers (placed_at placed j).node ≡ number_of numbers (placed_at placed j).node
    number_stays j h = number_other (length done) sorted numbers (placed_at placed j).node.0
        (recursion_from_All (λ d. (d.node.0 == (placed_at placed j).node.0) ≡ false) sorted (λ k d small. other_draft j h (get_or sorted k d) (of_level k d small)))

    lower_stays : (b : NodeId) (height : ℕ) → height ≤ (placed_at placed start).height → IsLower placed height b → number_of numbers b ≡ number_of new_numbers b
    lower_stays b height most v = let u = lower_place b height most v in subst (λ b. number_of numbers b ≡ number_of new_numbers b) u.2 (sym (number_stays u.0 u.1))

    still_listed : (k : ℕ) (row : TableRow) → k < length placed → (placed_at placed k).height ≤ (placed_at placed start).height → IsListed w params numbers (placed_at placed k).node row → IsListed w params new_numbers (placed_at placed k).node row
    still_listed k row h most listed = listed_same w params numbers new_numbers (placed_at placed k).node row listed
        (each_more _ (λ (o : Event × NodeId). number_of numbers o.1 ≡ number_of new_numbers o.1) (λ o v. lower_stays o.1 (placed_at placed k).height most v) (row_of w (placed_at placed k).node).offers (graph.closed k h))

    -- two drafts of one text are of one node
    draft_form : (k : ℕ) (d : Draft) → k < length drafts → IsDraft w names params numbers (placed_at placed (start + k)).node d → IsRowOf params (length done) d.row
    draft_form k d h v = v.listed.form (marked_params names [] params params_are) (length done) (each_more _ (λ (o : Event × NodeId). number_of numbers o.1 < length done) (λ o u. u.0) (row_of w (placed_at placed (start + k)).node).offers
        (offers_known (start + k) (place_within k h) (omega (arith, level.level k h))))

    one_node : (d e : Draft) → IsOfLevel d → IsOfLevel e → d.text.items ≡ e.text.items → d.node ≡ e.node
    one_node d e v u same =
        let bound : length done ≤ 10 ^ 64 = omega (arith, is.most) in
        let row : d.row ≡ e.row = one_text names params distinct interface params_are (length done) d.row e.row bound (draft_form v.0 d v.1 v.2) (draft_form u.0 e u.1 u.2) (sym v.2.text ∙ same ∙ u.2.text) in
        let back : (k : ℕ) → k < length drafts → AllByRecursion (λ (o : Event × NodeId). (placed_at done (number_of numbers o.1)).node ≡ o.1) (row_of w (placed_at placed (start + k)).node).offers
        = λ k h. each_more _ (λ (o : Event × NodeId). (placed_at done (number_of numbers o.1)).node ≡ o.1) (λ o t. t.1) (row_of w (placed_at placed (start + k)).node).offers (offers_known (start + k) (place_within k h) (omega (arith, level.level k h))) in
        let few_bits : bits_of_scope params ≤ 64 = omega (arith, interface.bits) in
        let nodes = nodes_same w params numbers (λ n. (placed_at done n).node) (placed_at placed (start + v.0)).node (placed_at placed (start + u.0)).node
        (graph.node (start + v.0) (place_within v.0 v.1)) (graph.node (start + u.0) (place_within u.0 u.1)) (graph.within (start + v.0) (place_within v.0 v.1)) (graph.within (start + u.0) (place_within u.0 u.1)) few_bits
        (back v.0 v.1) (back u.0 u.1) d.row e.row v.2.listed u.2.listed row in
        v.2.node ∙ nodes ∙ sym u.2.node

    texts_rise : (j : ℕ) (d : Draft) → suc j < length sorted → text_less (get_or sorted j d).text.items (get_or sorted (suc j) d).text.items ≡ true
    texts_rise j d h =
        let next : suc j ≡ j + 1 = omega arith in
        let order : text_before (get_or sorted (suc j) d) (get_or sorted j d) ≡ false = subst (λ n. text_before (get_or sorted n d) (get_or sorted j d) ≡ false) (sym next) (by.sorted j d (omega arith) (omega arith)) in
        less_from (get_or sorted j d).text.items (get_or sorted (suc j) d).text.items order (λ e.
        let nodes : (get_or sorted j d).node ≡ (get_or sorted (suc j) d).node = one_node (get_or sorted j d) (get_or sorted (suc j) d) (of_level j d (omega arith)) (of_level (suc j) d h) e in
        eqb-false (get_or sorted j d).node.0 (get_or sorted (suc j) d).node.0 (apart_from_distinct same_draft sorted j (suc j) d apart (omega arith) h) (ap (λ (a : NodeId). a.0) nodes))

    -- ---- all rows so far
    first_of : (xs : List Draft) → 0 < length xs → Draft
    first_of [] h = absurd (omega arith)
    first_of (x ∷ xs) h = x

    abbrev some_draft : Draft
    some_draft = first_of drafts level.some

    abbrev draft_at : ℕ → Draft
    draft_at j = get_or sorted j some_draft

    wide_now : length new_done ≡ length done + length sorted
    wide_now = omega (arith, length-append done (map (placed_as height) sorted), length-map sorted (placed_as height))

    -- a place is one of the old ones or one of a draft
    abbrev IsDraftAt : ℕ → Type 0
    IsDraftAt i = (j : ℕ) × (j < length sorted) × (length done + j ≡ i)

    old_or_new : (i : ℕ) → i < length new_done → (i < length done) ⊎ IsDraftAt i
    old_or_new i h = ⊎_elim
        (λ (k : i < length done). inl k)
        (λ (k : length done ≤ i). let wide = wide_now in inr (i - length done, omega arith, omega arith))
        (cases_lt i (length done))

    new_left : (i : ℕ) → i < length done → placed_at new_done i ≡ placed_at done i
    new_left i h = placed_left done (map (placed_as height) sorted) i h

    new_right : (j : ℕ) → j < length sorted → placed_at new_done (length done + j) ≡ placed_as height (draft_at j)
    new_right j h = placed_right height done sorted j some_draft h

    rows_left : (i : ℕ) → i < length done → row_at new_rows i ≡ row_at rows i
    rows_left i h = row_left rows (map (λ (d : Draft). d.row) sorted) i (omega (arith, is.count))

    rows_right : (j : ℕ) → j < length sorted → row_at new_rows (length done + j) ≡ (draft_at j).row
    rows_right j h = subst (λ n. row_at new_rows (n + j) ≡ (draft_at j).row) is.count (row_right rows sorted j some_draft h)

    level_of : (j : ℕ) → j < length sorted → IsOfLevel (draft_at j)
    level_of j h = of_level j some_draft h

    -- each new place is one of the placed nodes
    new_met : (i : ℕ) → i < length new_done → (k : ℕ) × (k < start + length drafts) × (placed_at placed k ≡ placed_at new_done i)
    new_met i h = ⊎_elim
        (λ (l : i < length done). let v = is.met i l in (v.0, omega (arith, v.1), v.2 ∙ sym (new_left i l)))
        (λ (r : IsDraftAt i).
        let u = level_of r.0 r.1 in
        (start + u.0, omega (arith, u.1), sym (node_of u.0 u.1 (draft_at r.0) u.2) ∙ sym (new_right r.0 r.1) ∙ ap (placed_at new_done) r.2))
        (old_or_new i h)

    new_number : (j : ℕ) → j < length sorted → number_of new_numbers (draft_at j).node ≡ length done + j
    new_number j h = number_at (length done) sorted numbers apart (recursion_from_All (λ d. d.node.0 < length numbers) sorted level_known) j some_draft h

    abbrev HasNumber : Placed → ℕ → Type 0
    HasNumber p n = (n < length new_done) × (placed_at new_done n ≡ p)

    -- each placed node has its number
    of_draft : (k : ℕ) → k < length drafts → (j : ℕ) × (j < length sorted) × (placed_as height (draft_at j) ≡ placed_at placed (start + k))
    of_draft k h =
        let x = get_or drafts k some_draft in
        let v = Contains-permutation drafts sorted x by.same (k, h, get_or_default drafts k x some_draft h) in
        (v.0, v.1, ap (placed_as height) (get_or_default sorted v.0 some_draft x v.1 ∙ v.2) ∙ node_of k h x (level.each k some_draft h))

    new_all : (k : ℕ) → k < start + length drafts → HasNumber (placed_at placed k) (number_of new_numbers (placed_at placed k).node)
    new_all k h = ⊎_elim
        (λ (l : k < start).
        let v = is.all k l in
        let wide = wide_now in
        subst (HasNumber (placed_at placed k)) (sym (number_stays k l)) (omega (arith, v.0), new_left (number_of numbers (placed_at placed k).node) v.0 ∙ v.1))
        (λ (l : start ≤ k).
        let same : start + (k - start) ≡ k = omega arith in
        let v = of_draft (k - start) (omega arith) in
        let wide = wide_now in
        let p : placed_as height (draft_at v.0) ≡ placed_at placed k = v.2 ∙ ap (placed_at placed) same in
        let number : number_of new_numbers (placed_at placed k).node ≡ length done + v.0 = ap (λ (p : Placed). number_of new_numbers p.node) (sym p) ∙ new_number v.0 v.1 in
        subst (HasNumber (placed_at placed k)) (sym number) (omega (arith, v.1), new_right v.0 v.1 ∙ p))
        (cases_lt k start)

    new_numbered : (i : ℕ) → i < length new_done → number_of new_numbers (placed_at new_done i).node ≡ i
    new_numbered i h = ⊎_elim
        (λ (l : i < length done). let v = is.met i l in
        ap (λ (p : Placed). number_of new_numbers p.node) (new_left i l ∙ sym v.2) ∙ number_stays v.0 v.1 ∙ ap (λ (p : Placed). number_of numbers p.node) v.2 ∙ is.numbered i l)
        (λ (r : IsDraftAt i).
        ap (λ n. number_of new_numbers (placed_at new_done n).node) (sym r.2) ∙ ap (λ (p : Placed). number_of new_numbers p.node) (new_right r.0 r.1) ∙ new_number r.0 r.1 ∙ r.2)
        (old_or_new i h)

    abbrev IsRowHere : Placed → TableRow → Type 0
    IsRowHere p row = IsListed w params new_numbers p.node row

    lower_height : (k : ℕ) → k < start → (placed_at placed k).height ≤ (placed_at placed start).height
    lower_height k h = graph.sorted k start (omega arith) small

    new_listed : (i : ℕ) → i < length new_done → IsRowHere (placed_at new_done i) (row_at new_rows i)
    new_listed i h = ⊎_elim
        (λ (l : i < length done).
        let v = is.met i l in
        let old = subst (λ (p : Placed). IsListed w params numbers p.node (row_at rows i)) (sym v.2) (is.listed i l) in
        let now = still_listed v.0 (row_at rows i) (omega (arith, v.1)) (lower_height v.0 v.1) old in
        subst (λ row. IsRowHere (placed_at new_done i) row) (sym (rows_left i l)) (subst (λ p. IsRowHere p (row_at rows i)) (v.2 ∙ sym (new_left i l)) now))
        (λ (r : IsDraftAt i).
        let u = level_of r.0 r.1 in
        let now = still_listed (start + u.0) (draft_at r.0).row (place_within u.0 u.1) (omega (arith, level.level u.0 u.1)) u.2.listed in
        subst (λ n. IsRowHere (placed_at new_done n) (row_at new_rows n)) r.2
        (subst (λ row. IsRowHere (placed_at new_done (length done + r.0)) row) (sym (rows_right r.0 r.1)) (subst (λ p. IsRowHere p (draft_at r.0).row) (sym (node_of u.0 u.1 (draft_at r.0) u.2) ∙ sym (new_right r.0 r.1)) now)))
        (old_or_new i h)

    -- ---- the order of the rows
    key_left : (i : ℕ) → i < length done → key_at names new_done new_rows i ≡ key_at names done rows i
    key_left i h = let p = new_left i h in let r = rows_left i h in λ t. ((p t).height, row_text names (r t))

    key_right : (j : ℕ) → j < length sorted → key_at names new_done new_rows (length done + j) ≡ ((placed_at placed start).height, (draft_at j).text.items)
    key_right j h =
        let place = new_right j h in
        let text : row_text names (row_at new_rows (length done + j)) ≡ (draft_at j).text.items = ap (row_text names) (rows_right j h) ∙ sym (level_of j h).2.text in
        λ t. ((place t).height, text t)

    abbrev Rises : ℕ × List ℕ → ℕ × List ℕ → Type 0
    Rises before key = comes_after (Some before) key ≡ true

    higher : (m n : ℕ) (s t : List ℕ) → m < n → Rises (m, s) (n, t)
    higher m n s t h = or_left (nat_lt m n) (m == n && text_less s t) (lt-ltb m n h)

    level_with : (n : ℕ) (s t : List ℕ) → text_less s t ≡ true → Rises (n, s) (n, t)
    level_with n s t h = or_right (nat_lt n n) (n == n && text_less s t) (and_from (n == n) (text_less s t) (eq-eqb n n refl) h)

    rises_by : (k l m n : ℕ × List ℕ) → k ≡ m → l ≡ n → Rises m n → Rises k l
    rises_by k l m n e f h = subst (λ k. Rises k l) (sym e) (subst (λ l. Rises m l) (sym f) h)

    height_under : (i : ℕ) → i < length done → (placed_at done i).height < (placed_at placed start).height
    height_under i h = let v = is.met i h in subst (λ (p : Placed). p.height < (placed_at placed start).height) v.2 (is.whole v.0 v.1 small)

    new_rising : (i : ℕ) → suc i < length new_done → Rises (key_at names new_done new_rows i) (key_at names new_done new_rows (suc i))
    new_rising i h = ⊎_elim
        (λ (l : suc i < length done). rises_by _ _ (key_at names done rows i) (key_at names done rows (suc i)) (key_left i (omega arith)) (key_left (suc i) l) (is.rising i l))
        (λ (r : IsDraftAt (suc i)). at_draft r.0 r.1 r.2)
        (old_or_new (suc i) h)
      where
        at_draft : (j : ℕ) → j < length sorted → length done + j ≡ suc i → Rises (key_at names new_done new_rows i) (key_at names new_done new_rows (suc i))
        at_draft zero k e = rises_by _ _ (key_at names done rows i) ((placed_at placed start).height, (draft_at 0).text.items) (key_left i (omega arith)) (ap (key_at names new_done new_rows) (sym e) ∙ key_right 0 k)
            (higher (placed_at done i).height (placed_at placed start).height (row_text names (row_at rows i)) (draft_at 0).text.items (height_under i (omega arith)))
        at_draft (suc j) k e =
            let before : length done + j ≡ i = omega arith in
            rises_by _ _ ((placed_at placed start).height, (draft_at j).text.items) ((placed_at placed start).height, (draft_at (suc j)).text.items)
            (ap (key_at names new_done new_rows) (sym before) ∙ key_right j (omega arith)) (ap (key_at names new_done new_rows) (sym e) ∙ key_right (suc j) k)
            (level_with (placed_at placed start).height (draft_at j).text.items (draft_at (suc j)).text.items (texts_rise j some_draft k))

    new_whole : (k : ℕ) → k < start + length drafts → start + length drafts < length placed → (placed_at placed k).height < (placed_at placed (start + length drafts)).height
    new_whole k h more =
        let low : (placed_at placed start).height ≤ (placed_at placed (start + length drafts)).height = graph.sorted start (start + length drafts) (omega arith) more in
        let apart_heights : (placed_at placed (start + length drafts)).height ≡ (placed_at placed start).height → ⊥ = level.end more in
        ⊎_elim
        (λ (l : k < start). let less : (placed_at placed k).height < (placed_at placed start).height = is.whole k l small in omega arith)
        (λ (l : start ≤ k).
        let same : start + (k - start) ≡ k = omega arith in
        let height : (placed_at placed k).height ≡ (placed_at placed start).height = ap (λ n. (placed_at placed n).height) (sym same) ∙ level.level (k - start) (omega arith) in
        strict_from (placed_at placed k).height (placed_at placed start).height (placed_at placed (start + length drafts)).height height low apart_heights)
        (cases_lt k start)
      where
        strict_from : (a b c : ℕ) → a ≡ b → b ≤ c → (c ≡ b → ⊥) → a < c
        strict_from a b c e l n = omega arith

    level_numbered : length new_done ≤ 4294967294 → IsNumbered w names params placed (start + length drafts) new_done new_rows new_numbers
    level_numbered few = record {
      count = omega (arith, wide_now, length-append rows (map (λ (d : Draft). d.row) sorted), length-map sorted (λ (d : Draft). d.row), is.count);
      most = few;
      wide = λ k h. subst (λ n. (placed_at placed k).node.0 < n) (sym (numbers_wide (length done) sorted numbers)) (is.wide k h);
      met = new_met;
      all = new_all;
      numbered = new_numbered;
      listed = new_listed;
      rising = new_rising;
      whole = new_whole;
    }

    -- the drafts have become the next rows
    pub level_done : (new : Numbering) → new.rows ≡ new_rows → new.numbers.items ≡ numbered_from (length rows) sorted numbers → (length rows ≤ 4294967294 → length new.rows ≤ 4294967294) → (end : ℕ) → end ≡ start + length drafts
        → IsNumbering w names params placed end new
    level_done new rows_are numbers_are most end at =
        let most_rows : length new.rows ≤ 4294967294 = most (omega (arith, is.count, is.most)) in
        let few : length new_done ≤ 4294967294 = omega (arith, most_rows, ap length rows_are, wide_now, length-append rows (map (λ (d : Draft). d.row) sorted), length-map sorted (λ (d : Draft). d.row), is.count) in
        let same : new.numbers.items ≡ new_numbers = numbers_are ∙ ap (λ n. numbered_from n sorted numbers) is.count in
        record {
          done = new_done;
          numbered = subst (λ n. IsNumbered w names params placed n new_done new.rows new.numbers.items) (sym at)
              (subst (λ l. IsNumbered w names params placed (start + length drafts) new_done l new.numbers.items) (sym rows_are)
              (subst (λ l. IsNumbered w names params placed (start + length drafts) new_done new_rows l) (sym same) (level_numbered few)));
        }
