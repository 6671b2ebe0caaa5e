-- The process of a row of a normal table has normal shape.
use Rattle.std.proofs.Common.{◌≡◌, ℕ, ◌<◌, ◌==◌, true, false, ◌&&◌, List, [], ◌∷◌, ◌++◌, length, map, None, Some, refl, sym, ap, ◌∙◌, subst, inl, inr, ◌⊎◌, arith}
use Rattle.std.proofs.lemmas.Bool.{and_right, both_ways, cases_Bool, eq-eqb, true≢false}
use Rattle.std.specs.List.{AllByRecursion, list_all, list_any}
use Rattle.occ_target.specs.occ_base.declared.event.Event.{Event}
use Rattle.occ_target.specs.occ_base.declared.names.Name.{Name}
use Rattle.occ_target.specs.occ_syntax.declared.scope.Kind.{Kind}
use Rattle.occ_target.specs.occ_syntax.Scopes.{environment, in_interface}
use Rattle.occ_target.specs.occ_syntax.Tree.{Tree, Waiting, alt}
use Rattle.occ_target.specs.occ_nform_table.declared.table.TableRow.{TableRow}
use Rattle.occ_target.specs.occ_nform_table.Judging.{contains, has_event, is_empty_row, is_none, is_offered, set_less}
use Rattle.occ_target.specs.occ_nform_table.Lines.{is_rising, rank}
use Rattle.occ_target.specs.occ_nform_table.Tables.{IsRowOf}
use Rattle.occ_target.specs.occ_nform_table.Lists.{Chain, In}
use Rattle.occ_target.proofs.from_nform_table.Lists.{in_all, in_any, test_all, test_in}
use Rattle.occ_target.proofs.from_nform_table.Events.{IsProper}
use Rattle.occ_target.proofs.from_nform_table.Facts.{IsTidy}
use Rattle.occ_target.proofs.from_nform_table.Sets.{is_whole}
use Rattle.occ_target.specs.Rows.{Frame, chosen, end_branch, guarded, is_in_branch, is_input, of_events, part_at, row_process}
use Rattle.occ_target_laws.specs.Shapes.{IsNode, IsShaped, Node, accepting, branch_less, of_node, process_of, set_less as lists_less}
use Rattle.occ_target_laws.proofs.Lists.{in_map, map_in}
use Rattle.occ_target_laws.specs.Whole.{IsWhole, offered}
use Rattle.occ_target_laws.proofs.Groups.{Groups, source}
use Rattle.occ_target_laws.proofs.Grouping.{Rise, grouped, rise_from}
use Rattle.occ_target_laws.proofs.Chosen.{chosen_events, chosen_in, chosen_rise, offered_from}
use Rattle.occ_target_laws.proofs.Made.{branch_stays, event_stays, follows, header_of, in_order, less_so, source_leads}

-- ---- lists

same_maps : {A B C : Type 0} (g : B → C) (f : A → B) (xs : List A) → map g (map f xs) ≡ map (λ x. g (f x)) xs
same_maps g f [] = refl
same_maps g f (x ∷ xs) = ap (λ ys. g (f x) ∷ ys) (same_maps g f xs)

no_items : {A : Type 0} {x : A} {xs : List A} → x ∷ xs ≡ [] → ⊥
no_items h = cc

-- a row is the n-th of a normal table, and has all inputs from a channel or none
pub record IsGood (params : List (Name × Kind)) (n : ℕ) (row : TableRow) : Type 0 where
  pub form : IsRowOf params n row
  pub tidy : IsTidy params row
  pub full : is_empty_row row ≡ false
  pub whole : IsWhole params (offered row.offers)
  pub sets_whole : AllByRecursion (IsWhole params) row.accepts

module _ (f : Frame) (proper : IsProper f.params) (row : TableRow) (good : IsGood f.params (length f.parts) row) where
  abbrev IsEvent : Event → Type 0
  IsEvent e = in_interface (environment f.params) e ≡ true

  pub formed : (o : Event × ℕ) → In o row.offers → IsEvent o.0
  formed o i = (in_all (λ (x : Event × ℕ). (in_interface (environment f.params) x.0 ≡ true) × (x.1 < length f.parts)) row.offers o good.form.offers i).0

  pub lower : (o : Event × ℕ) → In o row.offers → o.1 < length f.parts
  lower o i = (in_all (λ (x : Event × ℕ). (in_interface (environment f.params) x.0 ≡ true) × (x.1 < length f.parts)) row.offers o good.form.offers i).1

  rise : Rise f.params 0 row.offers
  rise = rise_from f.params row.offers good.tidy.offers

  abbrev branches_of : List Event → List (Waiting × Tree)
  branches_of set = of_events f (chosen set row.offers)

  abbrev pub node : Node
  node = record { events = of_events f row.offers; accepts = map (λ set. of_events f (chosen set row.offers)) row.accepts; ends = row.ends }

  -- ---- the branches are in groups

  begin : (offers : List (Event × ℕ)) (o : Event × ℕ) → In o offers → is_in_branch None o.0 ≡ false
  begin offers o i = and_right (is_input o.0.dir) false refl

  pub all_groups : Groups f row.offers (of_events f row.offers)
  all_groups =
      let all = grouped f proper (length row.offers) row.offers (omega arith) 0 rise formed good.whole None (begin row.offers) in
      subst (Groups f row.offers) (sym all.2) all.1

  set_form : (set : List Event) → In set row.accepts → (list_all (in_interface (environment f.params)) set ≡ true) × (is_rising f.params 0 set ≡ true)
  set_form set i = in_all (λ s. (list_all (in_interface (environment f.params)) s ≡ true) × (is_rising f.params 0 s ≡ true)) row.accepts set good.form.accepts i

  pub set_events : (set : List Event) → In set row.accepts → offered (chosen set row.offers) ≡ set
  set_events set i =
      let form = set_form set i in
      chosen_events f.params 0 0 set row.offers form.1 rise
      (offered_from f.params proper set row.offers (λ e j. test_in (in_interface (environment f.params)) set e form.0 j) formed (in_all (λ s. is_offered f.params row.offers s ≡ true) row.accepts set good.tidy.offered i))

  pub set_formed : (set : List Event) (o : Event × ℕ) → In o (chosen set row.offers) → IsEvent o.0
  set_formed set o j = formed o (chosen_in set row.offers o j)

  set_rise : (set : List Event) → Rise f.params 0 (chosen set row.offers)
  set_rise set = chosen_rise f.params 0 set row.offers rise

  pub set_groups : (set : List Event) → In set row.accepts → Groups f (chosen set row.offers) (of_events f (chosen set row.offers))
  set_groups set i =
      let all = grouped f proper (length (chosen set row.offers)) (chosen set row.offers) (omega arith) 0 (set_rise set) (set_formed set)
      (subst (IsWhole f.params) (sym (set_events set i)) (in_all (IsWhole f.params) row.accepts set good.sets_whole i)) None (begin (chosen set row.offers)) in
      subst (Groups f (chosen set row.offers)) (sym all.2) all.1

  -- ---- acceptances

  pub set_of : (bs : List (Waiting × Tree)) → In bs node.accepts → (set : List Event) × In set row.accepts × (bs ≡ of_events f (chosen set row.offers))
  set_of bs i = map_in (λ set. of_events f (chosen set row.offers)) row.accepts bs i

  set_stays : (set : List Event) → In set row.accepts → (b : Waiting × Tree) → In b (of_events f (chosen set row.offers)) → In b (of_events f row.offers)
  set_stays set i b j =
      branch_stays f proper (chosen set row.offers) row.offers (of_events f (chosen set row.offers)) (of_events f row.offers) (set_groups set i) all_groups (chosen_in set row.offers) good.tidy.offers b j

  less_sets : (set other : List Event) → In set row.accepts → In other row.accepts → set_less f.params set other ≡ true
      → lists_less (header_of f proper) (of_events f (chosen set row.offers)) (of_events f (chosen other row.offers)) ≡ true
  less_sets set other i j h =
      less_so f proper (chosen set row.offers) (of_events f (chosen set row.offers)) (set_groups set i) (chosen other row.offers) (of_events f (chosen other row.offers)) (set_groups other j)
      (set_formed set) (set_formed other)
      (subst (λ s. set_less f.params s (offered (chosen other row.offers)) ≡ true) (sym (set_events set i)) (subst (λ s. set_less f.params set s ≡ true) (sym (set_events other j)) h))

  sets_behind : (set : List Event) → In set row.accepts → (sets : List (List Event)) → ((s : List Event) → In s sets → In s row.accepts) → Chain (set_less f.params) (Some set) sets
      → Chain (lists_less (header_of f proper)) (Some (of_events f (chosen set row.offers))) (map (λ s. of_events f (chosen s row.offers)) sets)
  sets_behind set i [] sub h = tt
  sets_behind set i (s ∷ sets) sub h = (less_sets set s i (sub s (inl refl)) h.0, sets_behind s (sub s (inl refl)) sets (λ x j. sub x (inr j)) h.1)

  sets_from : (sets : List (List Event)) → ((s : List Event) → In s sets → In s row.accepts) → Chain (set_less f.params) None sets
      → Chain (lists_less (header_of f proper)) None (map (λ s. of_events f (chosen s row.offers)) sets)
  sets_from [] sub h = tt
  sets_from (s ∷ sets) sub h = (refl, sets_behind s (sub s (inl refl)) sets (λ x j. sub x (inr j)) h.1)

  -- an event of branches that are all among those of a set has the rank of one of the set
  event_there : (set other : List Event) → In set row.accepts → In other row.accepts
      → ((b : Waiting × Tree) → In b (of_events f (chosen other row.offers)) → In b (of_events f (chosen set row.offers))) → (e : Event) → In e other → has_event f.params set e ≡ true
  event_there set other i j sub e k =
      let found = map_in (λ (o : Event × ℕ). o.0) (chosen other row.offers) e (subst (In e) (sym (set_events other j)) k) in
      let there = event_stays f proper (chosen other row.offers) (chosen set row.offers) (of_events f (chosen other row.offers)) (of_events f (chosen set row.offers)) (set_groups other j) (set_groups set i)
      (set_formed other) (set_formed set) sub found.0 found.1 in
      in_any (λ x. rank f.params e == rank f.params x) set there.0.0 (subst (In there.0.0) (set_events set i) (in_map (λ (x : Event × ℕ). x.0) (chosen set row.offers) there.0 there.1))
      (eq-eqb (rank f.params e) (rank f.params there.0.0) (ap (rank f.params) found.2 ∙ there.2))

  contains_not : (set other : List Event) → In set row.accepts → In other row.accepts → contains f.params set other ≡ false
  contains_not set other i j = go (cases_Bool (contains f.params set other))
    where
      go : (contains f.params set other ≡ true) ⊎ (contains f.params set other ≡ false) → contains f.params set other ≡ false
      go (inl e) = absurd (both_ways (list_any (contains f.params set) row.accepts) (in_all (λ s. list_any (contains f.params s) row.accepts ≡ false) row.accepts set good.tidy.least i)
          (in_any (contains f.params set) row.accepts other j e))
      go (inr e) = e

  one_set : (set other : List Event) → In set row.accepts → In other row.accepts
      → ((b : Waiting × Tree) → In b (of_events f (chosen other row.offers)) → In b (of_events f (chosen set row.offers))) → other ≡ set
  one_set set other i j sub =
      let form = set_form set i in
      let other_form = set_form other j in
      is_whole f.params proper other set other_form.0 form.0 other_form.1 form.1 (test_all (has_event f.params set) other (event_there set other i j sub)) (contains_not set other i j)

  least : (bs cs : List (Waiting × Tree)) → In bs node.accepts → In cs node.accepts → ((b : Waiting × Tree) → In b cs → In b bs) → cs ≡ bs
  least bs cs i j sub =
      let one = set_of bs i in
      let two = set_of cs j in
      two.2 ∙ ap branches_of (one_set one.0 two.0 one.1 two.1 (λ b k. subst (In b) one.2 (sub b (subst (In b) (sym two.2) k)))) ∙ sym one.2

  -- ---- the process

  full_so : (ends : List (List (Name × ℕ))) (accepts : List (List Event)) → (is_none ends && is_none accepts) ≡ false → map branches_of accepts ≡ [] → ends ≡ [] → ⊥
  full_so [] [] h e g = true≢false h
  full_so [] (s ∷ accepts) h e g = no_items e
  full_so (s ∷ ends) accepts h e g = no_items g

  pub is_node : IsNode (header_of f proper) node
  is_node = record {
    events = λ b i. source_leads f proper row.offers formed b (source f row.offers (of_events f row.offers) all_groups b i);
    rising = in_order f proper row.offers (of_events f row.offers) all_groups formed rise;
    within = λ bs i b j. (let found = set_of bs i in set_stays found.0 found.1 b (subst (In b) found.2 j));
    accepts_in_order = λ bs i. (let found = set_of bs i in
        subst (Chain (branch_less (header_of f proper)) None) (sym found.2)
        (in_order f proper (chosen found.0 row.offers) (of_events f (chosen found.0 row.offers)) (set_groups found.0 found.1) (set_formed found.0) (set_rise found.0)));
    accepts_rising = sets_from row.accepts (λ s i. i) good.tidy.accepts;
    least = least;
    states = good.form.ends;
    ends_rising = good.tidy.ends;
    full = full_so row.ends row.accepts good.full;
  }

  pub same_process : row_process f row ≡ process_of (header_of f proper) node
  same_process = ap (λ xs. alt (guarded (of_events f row.offers ++ xs ++ map (end_branch f) row.ends))) (sym (same_maps accepting branches_of row.accepts))

  pub row_shaped : ((n : ℕ) → n < length f.parts → IsShaped (header_of f proper) (part_at f.parts n)) → IsShaped (header_of f proper) (row_process f row)
  row_shaped parts = of_node (row_process f row) node same_process is_node (λ b e q i l. (
      let found = follows f proper row.offers formed b (source f row.offers (of_events f row.offers) all_groups b i) e q l in
      subst (IsShaped (header_of f proper)) (sym found.3) (parts found.0.1 (lower found.0 found.1))
      ))
