-- The lists of a row together are the row that a node is.
use Rattle.std.proofs.Common.{◌≡◌, ◌≤◌, ◌<◌, ◌%◌, ◌^◌, ◌==◌, ◌||◌, ◌&&◌, ◌++◌, ℕ, Bool, true, false, cond, nat_lt, List, [], ◌∷◌, Option, Some, None, is_some, length, refl, sym, ap, ◌∙◌, subst, arith, ⊎_elim, eq-eqb}
use Rattle.std.specs.Prelude.{option_map, map}
use Rattle.std.specs.List.{list_all, list_any, AllByRecursion}
use Rattle.std.specs.Cmp.{IsTotalOrder}
use Rattle.std.specs.Ordering.{eq_by_cmp, nat_cmp, on}
use Rattle.std.specs.declared.cmp.Ordering.{Ordering}
use Rattle.std.proofs.lemmas.Bool.{and_parts, or_left, or_right, cases_Bool, both_ways, lt-ltb, ltb-true, false≢true}
use Rattle.std.proofs.lemmas.Option.{same_Some}
use Rattle.occ_syntax.specs.occ_base.declared.event.Event.{Event}
use Rattle.occ_syntax.specs.occ_base.declared.names.Name.{Name}
use Rattle.occ_syntax.specs.declared.scope.Kind.{Kind}
use Rattle.occ_syntax.specs.Counts.{bits_of_scope}
use Rattle.occ_syntax.specs.Scopes.{environment, in_interface, same_event}
use Rattle.occ_syntax.specs.Types.{scope_kept}
use Rattle.occ_compare.specs.occ_dd.Store.{depth, has}
use Rattle.occ_compare.specs.occ_accept.Accept.{in_set, misses, refuses}
use Rattle.occ_compare.specs.occ_accept.Order.{event_cmp, strict, is_in}
use Rattle.occ_compare.proofs.from_accept.Chains.{apart_same}
use Rattle.occ_compare.proofs.from_accept.Strict.{tied, tied_same, all_at, all_each}
use Rattle.occ_compare.proofs.from_accept.Events.{cmp_total, event_exact, sets_total, set_exact}
use Rattle.occ_compare.specs.occ_node.Offers.{next_in, is_offered}
use Rattle.occ_compare.specs.occ_node.Rows.{IsRow}
use Rattle.occ_compare.specs.occ_node.World.{IsNode, row_of}
use Rattle.occ_compare.specs.occ_node.declared.node.NodeId.{NodeId}
use Rattle.occ_compare.specs.occ_node.declared.world.World.{World}
use Rattle.occ_compare.proofs.from_node.Behaviours.{ends_nil}
use Rattle.occ_compare.proofs.from_node.Worlds.{is_row}
use Rattle.occ_compare.specs.Interface.{IsWithin}
use Rattle.occ_compare.specs.Orders.{print_cmp, list_cmp, IsListOf}
use Rattle.occ_compare.specs.Places.{number_in}
use Rattle.occ_compare.proofs.Numbers.{again, below}
use Rattle.occ_compare.proofs.Printing.{one_list}
use Rattle.occ_compare.proofs.Walking.{within_offer}
use Rattle.occ_nform_table.specs.declared.table.TableRow.{TableRow}
use Rattle.occ_nform_table.specs.Behaviours.{next_row}
use Rattle.occ_nform_table.specs.Judging.{list_marks, accept_marks, row_marks, is_empty_row, is_none, has_event, contains, is_offered as is_offered_by}
use Rattle.occ_nform_table.specs.Lines.{rank, is_rising, state_place}
use Rattle.occ_nform_table.specs.Tables.{IsRowOf}
use Rattle.occ_nform_rows.specs.Listed.{IsListed, number_of, are_marked}
use Rattle.occ_nform_rows.specs.Lists.{AreEnds, AreSets, AreOffers, IsOffer}
use Rattle.occ_compare.specs.occ_dd.declared.set.SetId.{SetId}
use Rattle.occ_compare.specs.occ_dd.declared.store.Store.{Store}
use Rattle.occ_nform_rows.specs.Ends.{byte_state_at, has_number, places_of}
use Rattle.occ_nform_rows.proofs.Placing.{states_members, states_are, states_strict}
use Rattle.occ_nform_rows.proofs.Halving.{depth_within, place_member, place_small}
use Rattle.occ_nform_rows.proofs.Listing.{event_is, list_total}
use Rattle.occ_nform_rows.proofs.Marking.{AreFine, IsLeast, fine_both, fine_marks, least_marks, number_less}
use Rattle.occ_nform_rows.proofs.Ranking.{IsOwn, ranks_tie, rank_less, rising, lists_less}

-- ---- items of lists
each_of : {A : Type 0} {R : A → A → Ordering} → IsTotalOrder R → (P : A → Type 0) (xs : List A) → ((x : A) → is_in R xs x ≡ true → P x) → AllByRecursion P xs
each_of o P [] h = tt
each_of {A} {R} o P (x ∷ xs) h = (h x (or_left (eq_by_cmp R x x) (is_in R xs x) (tied o x)), each_of o P xs (λ y k. h y (or_right (eq_by_cmp R y x) (is_in R xs y) k)))

none_any : {A : Type 0} {R : A → A → Ordering} → IsTotalOrder R → (p : A → Bool) (xs : List A) → ((x : A) → is_in R xs x ≡ true → p x ≡ false) → list_any p xs ≡ false
none_any o p [] h = refl
none_any {A} {R} o p (x ∷ xs) h =
    let first : p x ≡ false = h x (or_left (eq_by_cmp R x x) (is_in R xs x) (tied o x)) in
    let rest : list_any p xs ≡ false = none_any o p xs (λ y k. h y (or_right (eq_by_cmp R y x) (is_in R xs y) k)) in
    λ i. first i || rest i

from_all : {A : Type 0} (p : A → Bool) (xs : List A) → list_all p xs ≡ true → AllByRecursion (λ x. p x ≡ true) xs
from_all p [] h = tt
from_all p (x ∷ xs) h = let k = and_parts (p x) (list_all p xs) h in (k.0, from_all p xs k.1)

any_units : {A : Type 0} (xs : List A) → AllByRecursion (λ x. Unit {0}) xs
any_units [] = tt
any_units (x ∷ xs) = (tt, any_units xs)

mapped : {A : Type 0} (P Q : A → Type 0) → ((x : A) → P x → Q x) → (xs : List A) → AllByRecursion P xs → AllByRecursion Q xs
mapped P Q f [] h = tt
mapped P Q f (x ∷ xs) h = (f x h.0, mapped P Q f xs h.1)

at_next : (Q : NodeId → Type 0) (offers : List (Event × NodeId)) (e : Event) (b : NodeId) → AllByRecursion (λ (o : Event × NodeId). Q o.1) offers → next_in offers e ≡ Some b → Q b
at_next Q [] e b all h = cc
at_next Q (o ∷ offers) e b all h = ⊎_elim
    (λ (t : eq_by_cmp event_cmp e o.0 ≡ true).
    let same : o.1 ≡ b = same_Some o.1 b (sym (ap (λ c. cond c (Some o.1) (next_in offers e)) t) ∙ h) in
    subst Q same all.0)
    (λ (f : eq_by_cmp event_cmp e o.0 ≡ false). at_next Q offers e b all.1 (sym (ap (λ c. cond c (Some o.1) (next_in offers e)) f) ∙ h))
    (cases_Bool (eq_by_cmp event_cmp e o.0))

-- ---- rows that aren't empty
none_missed : (set : List Event) → misses (λ e. false) set ≡ true
none_missed [] = refl
none_missed (e ∷ set) = none_missed set

no_sets : (sets : List (List Event)) → refuses sets (λ e. false) ≡ false → sets ≡ []
no_sets [] h = refl
no_sets (s ∷ sets) h = absurd (both_ways (refuses (s ∷ sets) (λ e. false)) h (or_left (misses (λ e. false) s) (refuses sets (λ e. false)) (none_missed s)))

alive_by : {A B : Type 0} (xs : List A) (ys : List B) → (xs ≡ [] → ys ≡ [] → ⊥) → (is_none xs && is_none ys) ≡ false
alive_by [] [] h = absurd (h refl refl)
alive_by [] (y ∷ ys) h = refl
alive_by (x ∷ xs) ys h = refl

-- ---- an event that is offered is among the offers
found_rank : (ps : List (Name × Kind)) (offers : List (Event × ℕ)) (e : Event) (n : ℕ) → next_row offers e ≡ Some n → list_any (λ (o : Event × ℕ). rank ps e == rank ps o.0) offers ≡ true
unfolding next_row
found_rank ps [] e n h = cc
found_rank ps (o ∷ offers) e n h = ⊎_elim
    (λ (t : same_event o.0 e ≡ true).
    let same : o.0 ≡ e = tied_same cmp_total event_exact o.0 e (sym (event_is o.0 e) ∙ t) in
    or_left (rank ps e == rank ps o.0) (list_any (λ (o : Event × ℕ). rank ps e == rank ps o.0) offers) (eq-eqb (rank ps e) (rank ps o.0) (ap (rank ps) (sym same))))
    (λ (f : same_event o.0 e ≡ false).
    or_right (rank ps e == rank ps o.0) (list_any (λ (o : Event × ℕ). rank ps e == rank ps o.0) offers) (found_rank ps offers e n (sym (ap (λ c. cond c (Some o.1) (next_row offers e)) f) ∙ h)))
    (cases_Bool (same_event o.0 e))

module _ (w : World) (ps : List (Name × Kind)) (numbers : List ℕ) (a : NodeId) (kept : scope_kept ps ≡ true) (node : IsNode w a) (within : IsWithin w ps a) where
  row : IsRow w.store a.0 (row_of w a)
  row = is_row w a node

  -- no bit from those of the interface on matters to the ends
  same_ends : (x : ℕ) → x < 2 ^ 64 → has w.store (row_of w a).ends x ≡ has w.store (row_of w a).ends (x % 2 ^ bits_of_scope ps)
  same_ends x small = sym (ends_nil w a x) ∙ within.bits [] x small ∙ ends_nil w a (x % 2 ^ bits_of_scope ps)

  pub deep : depth w.store (row_of w a).ends ≤ bits_of_scope ps
  deep = depth_within w.store (row_of w a).ends (bits_of_scope ps) row.known same_ends

  own_offer : (e : Event) → is_offered (row_of w a).offers e ≡ true → IsOwn ps e
  own_offer e h = within_offer w ps a e node within h

  module _ (states : List (List (Name × ℕ))) (sets : List (List Event)) (offers : List (Event × ℕ))
      (are_ends : AreEnds w.store ps (row_of w a).ends states) (are_sets : AreSets ps (row_of w a).accepts sets) (are_offers : AreOffers ps numbers (row_of w a).offers offers) where
    abbrev listed_row : TableRow
    listed_row = record { ends = states; accepts = sets; offers = offers }

    -- ---- the sets
    offered_each : (list : List Event) → is_in (list_cmp ps) sets list ≡ true → (e : Event) → in_set list e ≡ true → is_offered (row_of w a).offers e ≡ true
    offered_each list h e m =
        let s = are_sets.each list h in
        all_at cmp_total event_exact (is_offered (row_of w a).offers) s.0 e
        (all_at sets_total set_exact (list_all (is_offered (row_of w a).offers)) (row_of w a).accepts s.0 row.offered s.1) (sym (s.2.members e) ∙ m)

    own_set : (list : List Event) → is_in (list_cmp ps) sets list ≡ true → list_all (in_interface (environment ps)) list ≡ true
    own_set list h = all_each cmp_total event_exact (in_interface (environment ps)) list (λ e m. own_offer e (offered_each list h e m))

    own_events : (list : List Event) → is_in (list_cmp ps) sets list ≡ true → AllByRecursion (IsOwn ps) list
    own_events list h = from_all (in_interface (environment ps)) list (own_set list h)

    offered_rank : (e : Event) (o : Option NodeId) → next_in (row_of w a).offers e ≡ o → is_some o ≡ true → list_any (λ (o : Event × ℕ). rank ps e == rank ps o.0) offers ≡ true
    offered_rank e None is h = absurd (false≢true h)
    offered_rank e (Some b) is h = found_rank ps offers e (number_of numbers b) (are_offers.next e ∙ ap (option_map (number_of numbers)) is)

    offered_by : (list : List Event) → is_in (list_cmp ps) sets list ≡ true → is_offered_by ps offers list ≡ true
    offered_by list h = all_each cmp_total event_exact (λ e. list_any (λ (o : Event × ℕ). rank ps e == rank ps o.0) offers) list
        (λ e m. offered_rank e (next_in (row_of w a).offers e) refl (offered_each list h e m))

    abbrev OwnOffer : Event × ℕ → Type 0
    OwnOffer o = IsOwn ps o.0

    own_offers : AllByRecursion OwnOffer offers
    own_offers = mapped (IsOffer numbers (row_of w a).offers) OwnOffer (λ o is. own_offer o.0 (ap is_some is.1)) offers are_offers.each

    module _ (marked : are_marked ps ≡ true) where
      event_in : (e : Event) (list : List Event) → IsOwn ps e → AllByRecursion (IsOwn ps) list → has_event ps list e ≡ in_set list e
      event_in e [] h all = refl
      event_in e (f ∷ list) h all =
          let first : (rank ps e == rank ps f) ≡ eq_by_cmp event_cmp e f = ranks_tie ps kept marked e f h all.0 in
          let rest : has_event ps list e ≡ in_set list e = event_in e list h all.1 in
          λ i. first i || rest i

      -- no set contains another
      apart_lists : (list other : List Event) → is_in (list_cmp ps) sets list ≡ true → is_in (list_cmp ps) sets other ≡ true → (b : Bool) → contains ps list other ≡ b → b ≡ false
      apart_lists list other h k false e = refl
      apart_lists list other h k true e =
          let p = and_parts (nat_lt (length other) (length list)) (list_all (has_event ps list) other) e in
          let s = are_sets.each list h in
          let t = are_sets.each other k in
          let part : list_all (in_set s.0) t.0 ≡ true = all_each cmp_total event_exact (in_set s.0) t.0 (λ f m.
          let inside : in_set other f ≡ true = t.2.members f ∙ m in
          sym (s.2.members f) ∙ sym (event_in f list (own_offer f (offered_each other k f inside)) (own_events list h)) ∙ all_at cmp_total event_exact (has_event ps list) other f p.1 inside) in
          let one : t.0 ≡ s.0 = apart_same (row_of w a).accepts s.0 t.0 row.chain.apart s.1 t.1 part in
          let same : other ≡ list = one_list ps s.0 other list (subst (λ (z : List Event). IsListOf ps z other) one t.2) s.2 in
          let less : length other < length list = ltb-true (length other) (length list) p.0 in
          let lengths : length other ≡ length list = ap length same in
          absurd (omega arith)

      least_set : (list : List Event) → is_in (list_cmp ps) sets list ≡ true → IsLeast ps offers sets list
      least_set list h = (offered_by list h, none_any (list_total ps) (contains ps list) sets (λ other k. apart_lists list other h k (contains ps list other) refl))

      pub fine : AreFine (row_marks ps listed_row)
      fine = fine_both (list_marks (λ s u. nat_lt (state_place ps s) (state_place ps u)) None states ++ accept_marks ps offers sets None sets) (list_marks (λ (o p : Event × ℕ). nat_lt (rank ps o.0) (rank ps p.0)) None offers)
          (fine_both (list_marks (λ s u. nat_lt (state_place ps s) (state_place ps u)) None states) (accept_marks ps offers sets None sets)
          (fine_marks (λ s u. nat_lt (state_place ps s) (state_place ps u)) (on (state_place ps) nat_cmp) (λ s. Unit {0}) (λ s u p q h. number_less (state_place ps s) (state_place ps u) h) states (any_units states) are_ends.increasing)
          (least_marks ps offers sets (list_cmp ps) (λ l. AllByRecursion (IsOwn ps) l) (lists_less ps kept marked) sets (each_of (list_total ps) (λ l. AllByRecursion (IsOwn ps) l) sets own_events) (each_of (list_total ps) (IsLeast ps offers sets) sets least_set) are_sets.increasing))
          (fine_marks (λ (o p : Event × ℕ). nat_lt (rank ps o.0) (rank ps p.0)) (on (λ (o : Event × ℕ). o.0) (print_cmp ps)) OwnOffer (λ o p h k less. lt-ltb (rank ps o.0) (rank ps p.0) (rank_less ps kept marked o.0 p.0 h k less)) offers own_offers are_offers.increasing)

      abbrev SetForm : List Event → Type 0
      SetForm list = (list_all (in_interface (environment ps)) list ≡ true) × (is_rising ps 0 list ≡ true)

      form_set : (list : List Event) → is_in (list_cmp ps) sets list ≡ true → SetForm list
      form_set list h = (own_set list h, rising ps kept marked list (own_events list h) (are_sets.each list h).2.increasing)

      pub form : (n : ℕ) → AllByRecursion (λ (o : Event × NodeId). number_of numbers o.1 < n) (row_of w a).offers → IsRowOf ps n listed_row
      form n low = record {
        ends = are_ends.forms;
        accepts = each_of (list_total ps) SetForm sets form_set;
        offers = mapped (IsOffer numbers (row_of w a).offers) (λ (o : Event × ℕ). (in_interface (environment ps) o.0 ≡ true) × (o.1 < n))
            (λ o is. (own_offer o.0 (ap is_some is.1), subst (λ m. m < n) (sym is.2) (at_next (λ b. number_of numbers b < n) (row_of w a).offers o.0 is.0 low is.1))) offers are_offers.each;
      }

    no_end : states ≡ [] → (x : ℕ) → x < 2 ^ 64 → has w.store (row_of w a).ends x ≡ false
    no_end none x small = same_ends x small ∙ ap (has w.store (row_of w a).ends) (sym (again ps x)) ∙ sym (are_ends.members (number_in ps x) (below ps x)) ∙ ap (list_any (λ s. state_place ps s == number_in ps x)) none

    alive : is_empty_row listed_row ≡ false
    alive = alive_by states sets (λ none no_set. row.alive (no_sets (row_of w a).accepts (sym (are_sets.refusals (λ e. false)) ∙ ap (λ l. refuses l (λ e. false)) no_set)) (no_end none))

    pub listed : IsListed w ps numbers a (record { ends = states; accepts = sets; offers = offers })
    listed = record {
      ends = are_ends.members;
      refusals = are_sets.refusals;
      offers = are_offers.next;
      form = form;
      fine = fine;
      alive = alive;
    }

-- ---- the lists of states
pub ends_listed : (s : Store) (ps : List (Name × Kind)) (set : SetId) (found places : List ℕ) (states : List (List (Name × ℕ))) → scope_kept ps ≡ true → found ≡ [] ++ places_of ps (has s set) (bits_of_scope ps) 0
    → strict nat_cmp places ≡ true → ((k : ℕ) → has_number places k ≡ has_number found k) → states ≡ map (byte_state_at ps) places → AreEnds s ps set states
ends_listed s ps set found places states kept is up members e = subst (AreEnds s ps set) (sym e) (record {
  members = λ k h. states_members ps kept places small k ∙ here k ∙ place_member ps (has s set) k h;
  increasing = states_strict ps kept places small up;
  forms = states_are ps kept places small;
})
  where
    here : (k : ℕ) → has_number places k ≡ has_number (places_of ps (has s set) (bits_of_scope ps) 0) k
    here k = members k ∙ ap (λ l. has_number l k) is

    small : (k : ℕ) → has_number places k ≡ true → k < 2 ^ bits_of_scope ps
    small k h = place_small ps (has s set) k (sym (here k) ∙ h)
