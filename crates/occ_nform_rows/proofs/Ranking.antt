-- The ranks of the events of an interface whose channels are marked: one rank is of one event.
use Rattle.std.proofs.Common.{◌≡◌, ◌≤◌, ◌<◌, ◌+◌, ◌*◌, ◌^◌, ◌==◌, ◌||◌, ◌&&◌, ℕ, Bool, true, false, cond, nat_lt, nat_le, is_none, List, [], ◌∷◌, Option, Some, None, refl, sym, ap, ◌∙◌, subst, arith, ⊎_elim, eq-eqb}
use Rattle.std.specs.List.{list_all, AllByRecursion}
use Rattle.std.specs.Cmp.{unsigned_ties}
use Rattle.std.specs.Ordering.{is_lt, is_eq, eq_by_cmp, nat_cmp, ordering_then}
use Rattle.std.specs.declared.cmp.Ordering.{Ordering}
use Rattle.std.specs.declared.cmp.Ordering.TheVariants.{Less, Equal, Greater}
use Rattle.std.proofs.Math.Nat.{pow-le-pow_right}
use Rattle.std.proofs.lemmas.Bool.{and_parts, and_from, or_left, or_right, cases_Bool, both_ways, eqb-true, ltb-true, lt-ltb, le-leb, false≢true}
use Rattle.std.proofs.lemmas.Option.{same_Some}
use Rattle.occ_syntax.specs.occ_base.declared.event.Dir.{Dir}
use Rattle.occ_syntax.specs.occ_base.declared.event.Dir.TheVariants.{Input, Output}
use Rattle.occ_syntax.specs.occ_base.declared.event.Event.{Event}
use Rattle.occ_syntax.specs.occ_base.declared.names.Name.{Name}
use Rattle.occ_syntax.specs.occ_base.Width.{bits_of}
use Rattle.occ_syntax.specs.declared.scope.Kind.{Kind}
use Rattle.occ_syntax.specs.declared.scope.Kind.TheVariants.{Var, Chan}
use Rattle.occ_syntax.specs.Types.{scope_kept, width_of_kind}
use Rattle.occ_syntax.specs.Scopes.{environment, in_interface, in_scope, allows, channel_kind, has_width, same_dir}
use Rattle.occ_compare.specs.occ_accept.Order.{event_cmp, dir_number, strict}
use Rattle.occ_compare.proofs.from_accept.Strict.{same_tests, tied, tied_same}
use Rattle.occ_compare.proofs.from_accept.Events.{cmp_total, event_exact}
use Rattle.occ_nform_table.specs.occ_behaviour.Places.{place_in}
use Rattle.occ_compare.specs.Orders.{print_cmp, list_cmp}
use Rattle.occ_compare.proofs.Printing.{print_total, print_exact}
use Rattle.occ_nform_table.specs.Lines.{rank, is_rising}
use Rattle.occ_nform_table.specs.Judging.{set_less}
use Rattle.occ_nform_table.specs.Tables.{is_marked}
use Rattle.occ_nform_rows.specs.Listed.{are_marked}
use Rattle.occ_nform_rows.proofs.Placing.{kept_width, kept_rest}

-- ---- channels of an interface
abbrev pub IsOwn : List (Name × Kind) → Event → Type 0
IsOwn ps e = in_interface (environment ps) e ≡ true

own_small : (v : ℕ) (kind : Kind) → bits_of (width_of_kind kind) ≤ 8 → has_width (channel_kind (Some kind)) v ≡ true → v < 256
own_small v (Var w) few k = absurd (false≢true k)
own_small v (Chan w d) few k =
    let small : v < 2 ^ bits_of w = ltb-true v (2 ^ bits_of w) k in
    let most : 2 ^ bits_of w ≤ 2 ^ 8 = pow-le-pow_right (omega arith) few in
    omega arith

value_small : (ps : List (Name × Kind)) (c v : ℕ) → scope_kept ps ≡ true → has_width (channel_kind (environment ps c)) v ≡ true → v < 256
value_small [] c v kept h = absurd (false≢true h)
value_small (entry ∷ ps) c v kept h = ⊎_elim
    (λ (e : (c == entry.0.0) ≡ true). own_small v entry.1 (kept_width entry ps kept) (sym (ap (λ b. has_width (channel_kind (cond b (Some entry.1) (environment ps c))) v) e) ∙ h))
    (λ (e : (c == entry.0.0) ≡ false). value_small ps c v (kept_rest entry ps kept) (sym (ap (λ b. has_width (channel_kind (cond b (Some entry.1) (environment ps c))) v) e) ∙ h))
    (cases_Bool (c == entry.0.0))

-- the mark of a channel that an event uses
own_dir : (k : Option Kind) (d e : Dir) → ((kind : Kind) → k ≡ Some kind → is_marked kind ≡ true) → allows k d ≡ true → allows k e ≡ true → d ≡ e
own_dir None d e marked h g = absurd (false≢true h)
own_dir (Some (Var w)) d e marked h g = absurd (false≢true h)
own_dir (Some (Chan w None)) d e marked h g = absurd (false≢true (marked (Chan w None) refl))
own_dir (Some (Chan w (Some m))) d e marked h g = sym (one m d h) ∙ one m e g
  where
    one : (m d : Dir) → same_dir m d ≡ true → m ≡ d
    one Input Input h = refl
    one Input Output h = absurd (false≢true h)
    one Output Input h = absurd (false≢true h)
    one Output Output h = refl

none_some : {A : Type 0} (a : A) → None ≡ Some a → ⊥
none_some a e = cc

kind_marked : (ps : List (Name × Kind)) (c : ℕ) (kind : Kind) → are_marked ps ≡ true → environment ps c ≡ Some kind → is_marked kind ≡ true
kind_marked [] c kind marked h = absurd (none_some kind h)
kind_marked (entry ∷ ps) c kind marked h =
    let p = and_parts (is_marked entry.1) (are_marked ps) marked in
    ⊎_elim
    (λ (e : (c == entry.0.0) ≡ true).
    let same : Some entry.1 ≡ Some kind = sym (ap (λ b. cond b (Some entry.1) (environment ps c)) e) ∙ h in
    let one : entry.1 ≡ kind = same_Some entry.1 kind same in
    sym (ap is_marked one) ∙ p.0)
    (λ (e : (c == entry.0.0) ≡ false). kind_marked ps c kind p.1 (sym (ap (λ b. cond b (Some entry.1) (environment ps c)) e) ∙ h))
    (cases_Bool (c == entry.0.0))

-- channels of an interface that have one place are one
abbrev IsThere : List (Name × Kind) → Name → Type 0
IsThere ps c = is_none (environment ps c.0) ≡ false

place_step : (entry : Name × Kind) (ps : List (Name × Kind)) (c : Name) → (b : Bool) → (entry.0.0 == c.0) ≡ b → place_in (entry ∷ ps) c ≡ cond b 0 (1 + place_in ps c)
place_step entry ps c b e = ap (λ b. cond b 0 (1 + place_in ps c)) e

there_step : (entry : Name × Kind) (ps : List (Name × Kind)) (c : Name) → (entry.0.0 == c.0) ≡ false → IsThere (entry ∷ ps) c → IsThere ps c
there_step entry ps c e h = sym (ap (λ b. is_none (cond b (Some entry.1) (environment ps c.0))) (turned entry.0.0 c.0 e)) ∙ h
  where
    turned : (m n : ℕ) → (m == n) ≡ false → (n == m) ≡ false
    turned m n e = ⊎_elim
        (λ (t : (n == m) ≡ true). absurd (both_ways (m == n) e (eq-eqb m n (sym (eqb-true n m t)))))
        (λ (f : (n == m) ≡ false). f)
        (cases_Bool (n == m))

one_place : (ps : List (Name × Kind)) (c d : Name) → IsThere ps c → IsThere ps d → place_in ps c ≡ place_in ps d → c.0 ≡ d.0
one_place [] c d h k e = absurd (false≢true (sym h))
one_place (entry ∷ ps) c d h k e = by (one_place ps c d) (entry.0.0 == c.0) (entry.0.0 == d.0) refl refl
  where
    by : (IsThere ps c → IsThere ps d → place_in ps c ≡ place_in ps d → c.0 ≡ d.0) → (a b : Bool) → (entry.0.0 == c.0) ≡ a → (entry.0.0 == d.0) ≡ b → c.0 ≡ d.0
    by rest true true p q = sym (eqb-true entry.0.0 c.0 p) ∙ eqb-true entry.0.0 d.0 q
    by rest true false p q =
        let n : ℕ = place_in ps d in
        let zero_more : 0 ≡ 1 + n = sym (place_step entry ps c true p) ∙ e ∙ place_step entry ps d false q in
        absurd (omega arith)
    by rest false true p q =
        let n : ℕ = place_in ps c in
        let zero_more : 1 + n ≡ 0 = sym (place_step entry ps c false p) ∙ e ∙ place_step entry ps d true q in
        absurd (omega arith)
    by rest false false p q =
        let m : ℕ = place_in ps c in
        let n : ℕ = place_in ps d in
        let more : 1 + m ≡ 1 + n = sym (place_step entry ps c false p) ∙ e ∙ place_step entry ps d false q in
        rest (there_step entry ps c p h) (there_step entry ps d q k) (omega arith)

some_there : (k : Option Kind) (d : Dir) → allows k d ≡ true → is_none k ≡ false
some_there None d h = absurd (false≢true h)
some_there (Some kind) d h = refl

-- ---- ranks
number_same : (m n : ℕ) → is_eq (nat_cmp m n) ≡ true → m ≡ n
number_same m n h = eqb-true m n (unsigned_ties m n ∙ h)

number_less : (m n : ℕ) → is_lt (nat_cmp m n) ≡ true → m < n
number_less m n h = ltb-true m n (is_test (nat_lt m n) (m == n) h)
  where
    is_test : (a b : Bool) → is_lt (cond a Less (cond b Equal Greater)) ≡ true → a ≡ true
    is_test true b h = refl
    is_test false true h = absurd (false≢true h)
    is_test false false h = absurd (false≢true h)

module _ (ps : List (Name × Kind)) (kept : scope_kept ps ≡ true) (marked : are_marked ps ≡ true) where
  parts : (e : Event) → IsOwn ps e → (in_scope (environment ps) e ≡ true) × (allows (environment ps e.chan.0) e.dir ≡ true)
  parts e h = and_parts (in_scope (environment ps) e) (allows (environment ps e.chan.0) e.dir) h

  byte : (e : Event) → IsOwn ps e → e.value < 256
  byte e h = value_small ps e.chan.0 e.value kept (parts e h).0

  one_event : (e f : Event) → IsOwn ps e → IsOwn ps f → place_in ps e.chan ≡ place_in ps f.chan → e.value ≡ f.value → e ≡ f
  one_event e f h k places values =
      let allowed : allows (environment ps e.chan.0) e.dir ≡ true = (parts e h).1 in
      let allowed_too : allows (environment ps f.chan.0) f.dir ≡ true = (parts f k).1 in
      let chan : e.chan.0 ≡ f.chan.0 = one_place ps e.chan f.chan (some_there (environment ps e.chan.0) e.dir allowed) (some_there (environment ps f.chan.0) f.dir allowed_too) places in
      let dir : e.dir ≡ f.dir = own_dir (environment ps e.chan.0) e.dir f.dir (λ kind is. kind_marked ps e.chan.0 kind marked is) allowed (ap (λ c. allows (environment ps c) f.dir) chan ∙ allowed_too) in
      λ i. record { chan = record { 0 = chan i }; dir = dir i; value = values i }

  -- one rank, one event
  pub one_rank : (e f : Event) → IsOwn ps e → IsOwn ps f → rank ps e ≡ rank ps f → e ≡ f
  one_rank e f h k same =
      let m : ℕ = place_in ps e.chan in
      let n : ℕ = place_in ps f.chan in
      let small : e.value < 256 = byte e h in
      let small_too : f.value < 256 = byte f k in
      let ranks : 256 * m + e.value ≡ 256 * n + f.value = same in
      let places : m ≡ n = omega arith in
      let values : e.value ≡ f.value = omega arith in
      one_event e f h k places values

  pub ranks_tie : (e f : Event) → IsOwn ps e → IsOwn ps f → (rank ps e == rank ps f) ≡ eq_by_cmp event_cmp e f
  ranks_tie e f h k = same_tests (rank ps e == rank ps f) (eq_by_cmp event_cmp e f)
      (λ t. subst (λ (g : Event). eq_by_cmp event_cmp e g ≡ true) (one_rank e f h k (eqb-true (rank ps e) (rank ps f) t)) (tied cmp_total e))
      (λ t. eq-eqb (rank ps e) (rank ps f) (ap (rank ps) (tied_same cmp_total event_exact e f t)))

  -- an event that goes before another has a lower rank
  pub rank_less : (e f : Event) → IsOwn ps e → IsOwn ps f → is_lt (print_cmp ps e f) ≡ true → rank ps e < rank ps f
  rank_less e f h k less =
      let m : ℕ = place_in ps e.chan in
      let n : ℕ = place_in ps f.chan in
      let small : e.value < 256 = byte e h in
      let small_too : f.value < 256 = byte f k in
      let ranks : 256 * m + e.value < 256 * n + f.value = by (nat_cmp m n) (nat_cmp e.value f.value) refl refl less in
      ranks
    where
      rest : Ordering
      rest = ordering_then (nat_cmp (dir_number e.dir) (dir_number f.dir)) (nat_cmp e.chan.0 f.chan.0)

      itself : e ≡ f → is_lt (print_cmp ps e f) ≡ true → ⊥
      itself same l = not_less (print_cmp ps e e) (tied (print_total ps) e) (subst (λ (g : Event). is_lt (print_cmp ps e g) ≡ true) (sym same) l)
        where
          not_less : (r : Ordering) → is_eq r ≡ true → is_lt r ≡ true → ⊥
          not_less Less p q = false≢true p
          not_less Equal p q = false≢true q
          not_less Greater p q = false≢true q

      by : (r s : Ordering) → nat_cmp (place_in ps e.chan) (place_in ps f.chan) ≡ r → nat_cmp e.value f.value ≡ s → is_lt (ordering_then (nat_cmp (place_in ps e.chan) (place_in ps f.chan)) (ordering_then (nat_cmp e.value f.value) rest)) ≡ true
          → 256 * place_in ps e.chan + e.value < 256 * place_in ps f.chan + f.value
      by Less s p q l =
          let lower : place_in ps e.chan < place_in ps f.chan = number_less (place_in ps e.chan) (place_in ps f.chan) (ap is_lt p) in
          let small : e.value < 256 = byte e h in
          omega arith
      by Greater s p q l = absurd (false≢true (sym (ap (λ r. is_lt (ordering_then r (ordering_then (nat_cmp e.value f.value) rest))) p) ∙ l))
      by Equal Less p q l =
          let places : place_in ps e.chan ≡ place_in ps f.chan = number_same (place_in ps e.chan) (place_in ps f.chan) (ap is_eq p) in
          let lower : e.value < f.value = number_less e.value f.value (ap is_lt q) in
          omega arith
      by Equal Greater p q l = absurd (false≢true (sym (λ i. is_lt (ordering_then (p i) (ordering_then (q i) rest))) ∙ l))
      by Equal Equal p q l =
          let places : place_in ps e.chan ≡ place_in ps f.chan = number_same (place_in ps e.chan) (place_in ps f.chan) (ap is_eq p) in
          let values : e.value ≡ f.value = number_same e.value f.value (ap is_eq q) in
          absurd (itself (one_event e f h k places values) l)

  -- ---- lists of events
  all_ranks : (e : Event) (list : List Event) → IsOwn ps e → AllByRecursion (IsOwn ps) list → list_all (λ f. is_lt (print_cmp ps e f)) list ≡ true → list_all (λ f. nat_le (rank ps e + 1) (rank ps f)) list ≡ true
  all_ranks e [] h all above = refl
  all_ranks e (f ∷ list) h all above =
      let p = and_parts (is_lt (print_cmp ps e f)) (list_all (λ f. is_lt (print_cmp ps e f)) list) above in
      let less : rank ps e < rank ps f = rank_less e f h all.0 p.0 in
      and_from (nat_le (rank ps e + 1) (rank ps f)) (list_all (λ f. nat_le (rank ps e + 1) (rank ps f)) list) (le-leb (rank ps e + 1) (rank ps f) (omega arith)) (all_ranks e list h all.1 p.1)

  rising_from : (floor : ℕ) (list : List Event) → AllByRecursion (IsOwn ps) list → strict (print_cmp ps) list ≡ true → list_all (λ f. nat_le floor (rank ps f)) list ≡ true → is_rising ps floor list ≡ true
  unfolding is_rising
  rising_from floor [] all up least = refl
  rising_from floor (e ∷ list) all up least =
      let p = and_parts (list_all (λ f. is_lt (print_cmp ps e f)) list) (strict (print_cmp ps) list) up in
      let q = and_parts (nat_le floor (rank ps e)) (list_all (λ f. nat_le floor (rank ps f)) list) least in
      and_from (nat_le floor (rank ps e)) (is_rising ps (rank ps e + 1) list) q.0 (rising_from (rank ps e + 1) list all.1 p.1 (all_ranks e list all.0 all.1 p.0))

  none_below : (list : List Event) → list_all (λ f. nat_le 0 (rank ps f)) list ≡ true
  none_below [] = refl
  none_below (e ∷ list) = and_from (nat_le 0 (rank ps e)) (list_all (λ f. nat_le 0 (rank ps f)) list) (le-leb 0 (rank ps e) (omega arith)) (none_below list)

  pub rising : (list : List Event) → AllByRecursion (IsOwn ps) list → strict (print_cmp ps) list ≡ true → is_rising ps 0 list ≡ true
  rising list all up = rising_from 0 list all up (none_below list)

  -- lists in their order
  pub lists_less : (s t : List Event) → AllByRecursion (IsOwn ps) s → AllByRecursion (IsOwn ps) t → is_lt (list_cmp ps s t) ≡ true → set_less ps s t ≡ true
  unfolding set_less
  lists_less [] [] a b h = absurd (false≢true h)
  lists_less [] (f ∷ t) a b h = refl
  lists_less (e ∷ s) [] a b h = absurd (false≢true h)
  lists_less (e ∷ s) (f ∷ t) a b h = by (lists_less s t a.1 b.1) (print_cmp ps e f) refl
    where
      by : (is_lt (list_cmp ps s t) ≡ true → set_less ps s t ≡ true) → (r : Ordering) → print_cmp ps e f ≡ r → (nat_lt (rank ps e) (rank ps f) || (rank ps e == rank ps f && set_less ps s t)) ≡ true
      by rest Less q = or_left (nat_lt (rank ps e) (rank ps f)) (rank ps e == rank ps f && set_less ps s t) (lt-ltb (rank ps e) (rank ps f) (rank_less e f a.0 b.0 (ap is_lt q)))
      by rest Greater q = absurd (false≢true (sym (ap (λ r. is_lt (ordering_then r (list_cmp ps s t))) q) ∙ h))
      by rest Equal q =
          let same : e ≡ f = print_exact ps e f q in
          let less : is_lt (list_cmp ps s t) ≡ true = sym (ap (λ r. is_lt (ordering_then r (list_cmp ps s t))) q) ∙ h in
          or_right (nat_lt (rank ps e) (rank ps f)) (rank ps e == rank ps f && set_less ps s t)
          (and_from (rank ps e == rank ps f) (set_less ps s t) (eq-eqb (rank ps e) (rank ps f) (ap (rank ps) same)) (rest less))
