-- Offers in their order, with all values of a channel or none, are in groups, and their branches are those of the groups.
use Rattle.std.proofs.Common.{◌≡◌, ℕ, zero, suc, ◌+◌, ◌*◌, ◌^◌, ◌<◌, ◌≤◌, ◌==◌, true, false, ◌&&◌, nat_lt, List, [], ◌∷◌, ◌++◌, length, Option, None, Some, refl, sym, ap, ◌∙◌, subst, inl, inr, ◌⊎◌, arith, length-append}
use Rattle.std.proofs.lemmas.Bool.{and_from, and_left, and_parts, and_right, cases_Bool, eqb-true, false≢true, ltb-true, lt-ltb, ne_eqb}
use Rattle.std.proofs.lemmas.Nat.{pow_pos}
use Rattle.occ_target.specs.occ_base.declared.event.Dir.{Dir}
use Rattle.occ_target.specs.occ_base.declared.event.Dir.TheVariants.{Input, Output}
use Rattle.occ_target.specs.occ_base.declared.event.Event.{Event}
use Rattle.occ_target.specs.occ_base.declared.names.Name.{Name}
use Rattle.occ_target.specs.occ_base.declared.width.Width.{Width}
use Rattle.occ_target.specs.occ_base.Width.{bits_of}
use Rattle.occ_target.specs.occ_syntax.declared.scope.Kind.{Kind}
use Rattle.occ_target.specs.occ_syntax.declared.scope.Kind.TheVariants.{Var, Chan}
use Rattle.occ_target.specs.occ_syntax.Scopes.{allows, channel_kind, environment, has_width, in_interface, in_scope}
use Rattle.occ_target.specs.occ_syntax.Tree.{Waiting, Tree}
use Rattle.occ_target.proofs.from_meaning.Facts.{dir_itself, same_dirs}
use Rattle.occ_target.specs.occ_behaviour.Places.{place_in}
use Rattle.occ_target.specs.occ_nform_table.Lines.{rank}
use Rattle.occ_target.specs.occ_nform_table.Tables.{is_marked}
use Rattle.occ_target.specs.occ_nform_table.Lists.{Chain, In}
use Rattle.occ_target.proofs.from_nform_table.Events.{IsProper, kind_holds}
use Rattle.occ_target.specs.Rows.{Frame, event_branches, is_in_branch, is_input, is_name, is_on, or_bool, width_in}
use Rattle.occ_target_laws.specs.Shapes.{event}
use Rattle.occ_target_laws.proofs.Lists.{in_either, in_map, in_right, map_in}
use Rattle.occ_target_laws.proofs.Following.{two_ways}
use Rattle.occ_target_laws.specs.Whole.{IsWhole, offered}
use Rattle.occ_target_laws.proofs.Groups.{Groups, a_received, a_sent, in_inputs, inputs_of, no_group, received_branch, received_first, sent_branch, sent_first, values_of}

-- ---- events of an interface

inside_kind : (k : Option Kind) (v : ℕ) (d : Dir) → ((kind : Kind) → k ≡ Some kind → is_marked kind ≡ true) → has_width (channel_kind k) v ≡ true → allows k d ≡ true
    → (w : Width) × (k ≡ Some (Chan w (Some d))) × (v < 2 ^ bits_of w)
inside_kind None v d marked h a = absurd (false≢true h)
inside_kind (Some (Var w)) v d marked h a = absurd (false≢true h)
inside_kind (Some (Chan w None)) v d marked h a = absurd (false≢true (marked (Chan w None) refl))
inside_kind (Some (Chan w (Some m))) v d marked h a = (w, ap (λ x. Some (Chan w (Some x))) (same_dirs m d a), ltb-true v (2 ^ bits_of w) h)

pub inside : (params : List (Name × Kind)) → IsProper params → (e : Event) → in_interface (environment params) e ≡ true
    → (w : Width) × (environment params e.chan.0 ≡ Some (Chan w (Some e.dir))) × (e.value < 2 ^ bits_of w)
inside params proper e h =
    let both = and_parts (in_scope (environment params) e) (allows (environment params e.chan.0) e.dir) h in
    inside_kind (environment params e.chan.0) e.value e.dir (kind_holds (λ z. is_marked z ≡ true) params proper.marked e.chan.0) both.0 both.1

pub inside_from : (params : List (Name × Kind)) (c : ℕ) (w : Width) (d : Dir) (v : ℕ) → environment params c ≡ Some (Chan w (Some d)) → v < 2 ^ bits_of w → in_interface (environment params) (event c d v) ≡ true
inside_from params c w d v e l =
    and_from (in_scope (environment params) (event c d v)) (allows (environment params c) d)
    (subst (λ k. has_width (channel_kind k) v ≡ true) (sym e) (lt-ltb v (2 ^ bits_of w) l)) (subst (λ k. allows k d ≡ true) (sym e) (dir_itself d))

one_dir : {v w : Width} {d f : Dir} → Some (Chan v (Some d)) ≡ Some (Chan w (Some f)) → d ≡ f
one_dir h = cc

one_width : {v w : Width} {d f : Dir} → Some (Chan v (Some d)) ≡ Some (Chan w (Some f)) → v ≡ w
one_width h = cc

pub width_known : (params : List (Name × Kind)) (c : ℕ) (w : Width) (d : Dir) → environment params c ≡ Some (Chan w (Some d)) → width_in params c ≡ w
width_known params c w d e = ap (λ k. or_bool (channel_kind k)) e

-- ---- offers in their order

abbrev pub Rise : List (Name × Kind) → ℕ → List (Event × ℕ) → Type 0
Rise params floor [] = Unit {0}
Rise params floor (o ∷ offers) = (floor ≤ rank params o.0) × Rise params (rank params o.0 + 1) offers

rise_behind : (params : List (Name × Kind)) (x : Event × ℕ) (offers : List (Event × ℕ)) → Chain (λ (o p : Event × ℕ). nat_lt (rank params o.0) (rank params p.0)) (Some x) offers → Rise params (rank params x.0 + 1) offers
rise_behind params x [] h = tt
rise_behind params x (o ∷ offers) h = (let l = ltb-true (rank params x.0) (rank params o.0) h.0 in omega (arith, l), rise_behind params o offers h.1)

pub rise_from : (params : List (Name × Kind)) (offers : List (Event × ℕ)) → Chain (λ (o p : Event × ℕ). nat_lt (rank params o.0) (rank params p.0)) None offers → Rise params 0 offers
rise_from params [] h = tt
rise_from params (o ∷ offers) h = (omega arith, rise_behind params o offers h.1)

pub rise_in : (params : List (Name × Kind)) (floor : ℕ) (offers : List (Event × ℕ)) → Rise params floor offers → (o : Event × ℕ) → In o offers → floor ≤ rank params o.0
rise_in params floor [] h o i = absurd i
rise_in params floor (x ∷ offers) h o (inl e) = subst (λ (y : Event × ℕ). floor ≤ rank params y.0) (sym e) h.0
rise_in params floor (x ∷ offers) h o (inr i) = let l = rise_in params (rank params x.0 + 1) offers h.1 o i in omega (arith, h.0, l)

pub rise_lower : (params : List (Name × Kind)) (low floor : ℕ) (offers : List (Event × ℕ)) → low ≤ floor → Rise params floor offers → Rise params low offers
rise_lower params low floor [] l h = tt
rise_lower params low floor (o ∷ offers) l h = (omega (arith, l, h.0), h.1)

-- ---- the inputs from a channel stand first, one for each value

pub in_offered : (offers : List (Event × ℕ)) (e : Event) → In e (offered offers) → (m : ℕ) × In (e, m) offers
in_offered offers e i =
    let found = map_in (λ (o : Event × ℕ). o.0) offers e i in
    (found.0.1, subst (λ x. In x offers) (λ i. (sym found.2 i, found.0.1)) found.1)

length_inputs : (c v : ℕ) (rows : List ℕ) → length (inputs_of c v rows) ≡ length rows
length_inputs c v [] = refl
length_inputs c v (n ∷ rows) = ap suc (length_inputs c (v + 1) rows)

module _ (params : List (Name × Kind)) (c most : ℕ) where
  abbrev base : ℕ
  base = 256 * place_in params (record { 0 = c })

  abbrev Taken : ℕ → ℕ → List (Event × ℕ) → Type 0
  Taken v n offers = (rows : List ℕ) × (rest : List (Event × ℕ)) × (offers ≡ inputs_of c v rows ++ rest) × (length rows ≡ n) × Rise params (base + most) rest

  take_inputs : (n v : ℕ) → v + n ≡ most → (offers : List (Event × ℕ)) → Rise params (base + v) offers
      → ((u : ℕ) → v ≤ u → u < most → (m : ℕ) × In (event c Input u, m) offers) → Taken v n offers
  take_inputs zero v sum offers rise there = ([], offers, refl, refl, subst (λ x. Rise params (base + x) offers) (let e : v ≡ most = omega (arith, sum) in e) rise)
  take_inputs (suc n) v sum [] rise there = absurd ((there v (omega arith) (omega (arith, sum))).1)
  take_inputs (suc n) v sum (o ∷ offers) rise there =
      let found = there v (omega arith) (omega (arith, sum)) in
      let first : (event c Input v, found.0) ≡ o = head found.0 found.1 in
      let placed : rank params o.0 ≡ base + v = ap (λ (x : Event × ℕ). rank params x.0) (sym first) in
      let later : Rise params (base + (v + 1)) offers = subst (λ x. Rise params x offers) (let e : rank params o.0 + 1 ≡ base + (v + 1) = omega (arith, placed) in e) rise.1 in
      let rest = take_inputs n (v + 1) (omega (arith, sum)) offers later (λ u l g. tail found.0 first u l (there u (omega (arith, l)) g)) in
      (found.0 ∷ rest.0, rest.1, (λ i. sym first i ∷ rest.2 i), ap suc rest.3, rest.4)
    where
      head : (m : ℕ) → In (event c Input v, m) (o ∷ offers) → (event c Input v, m) ≡ o
      head m (inl e) = e
      head m (inr i) = absurd (let l = rise_in params (rank params o.0 + 1) offers rise.1 (event c Input v, m) i in omega (arith, l, rise.0))

      tail : (m : ℕ) → (event c Input v, m) ≡ o → (u : ℕ) → v + 1 ≤ u → (k : ℕ) × In (event c Input u, k) (o ∷ offers) → (k : ℕ) × In (event c Input u, k) offers
      tail m first u l (k, inl e) = absurd (let same : u ≡ v = ap (λ (x : Event × ℕ). x.0.value) (e ∙ sym first) in omega (arith, l, same))
      tail m first u l (k, inr i) = (k, i)

-- ---- grouping

module _ (f : Frame) (proper : IsProper f.params) where
  abbrev Formed : List (Event × ℕ) → Type 0
  Formed offers = (o : Event × ℕ) → In o offers → in_interface (environment f.params) o.0 ≡ true

  abbrev Fresh : Option Name → List (Event × ℕ) → Type 0
  Fresh before offers = (o : Event × ℕ) → In o offers → is_in_branch before o.0 ≡ false

  abbrev Grouped : Option Name → List (Event × ℕ) → Type 0
  Grouped before offers = (bs : List (Waiting × Tree)) × Groups f offers bs × (event_branches f before offers ≡ bs)

  -- behind an output each event makes a branch of its own, or is on another channel
  fresh_sent : (o : Event × ℕ) (offers : List (Event × ℕ)) → Formed (o ∷ offers) → o.0.dir ≡ Output → Fresh (Some o.0.chan) offers
  fresh_sent o offers formed dir x i = go (cases_Bool (o.0.chan.0 == x.0.chan.0))
    where
      go : ((o.0.chan.0 == x.0.chan.0) ≡ true) ⊎ ((o.0.chan.0 == x.0.chan.0) ≡ false) → (is_input x.0.dir && (o.0.chan.0 == x.0.chan.0)) ≡ false
      go (inl e) =
          let here = inside f.params proper o.0 (formed o (inl refl)) in
          let there = inside f.params proper x.0 (formed x (inr i)) in
          let same : x.0.dir ≡ Output = one_dir (sym there.1 ∙ ap (environment f.params) (sym (eqb-true o.0.chan.0 x.0.chan.0 e)) ∙ here.1) ∙ dir in
          and_left (is_input x.0.dir) (o.0.chan.0 == x.0.chan.0) (ap is_input same)
      go (inr e) = and_right (is_input x.0.dir) (o.0.chan.0 == x.0.chan.0) e

  whole_sent : (o : Event × ℕ) (offers : List (Event × ℕ)) → o.0.dir ≡ Output → IsWhole f.params (offered (o ∷ offers)) → IsWhole f.params (offered offers)
  whole_sent o offers dir whole c v w i inner = go (whole c v w (inr i) inner)
    where
      go : (event c Input w ≡ o.0) ⊎ In (event c Input w) (offered offers) → In (event c Input w) (offered offers)
      go (inl e) = two_ways dir (sym (ap (λ (x : Event). x.dir) e))
      go (inr j) = j

  module _ (c : ℕ) (w : Width) (known : environment f.params c ≡ Some (Chan w (Some Input))) (rest : List (Event × ℕ))
      (rise : Rise f.params (base f.params c (2 ^ bits_of w) + 2 ^ bits_of w) rest) (formed : Formed rest) where
    -- no further event is on the channel
    apart : (x : Event × ℕ) → In x rest → x.0.chan.0 ≡ c → ⊥
    apart x i e =
        let there = inside f.params proper x.0 (formed x i) in
        let same : there.0 ≡ w = one_width (sym there.1 ∙ ap (environment f.params) e ∙ known) in
        let below : x.0.value < 2 ^ bits_of w = subst (λ z. x.0.value < 2 ^ bits_of z) same there.2 in
        let placed : rank f.params x.0 ≡ base f.params c (2 ^ bits_of w) + x.0.value = ap (λ z. 256 * place_in f.params (record { 0 = z }) + x.0.value) e in
        let l = rise_in f.params _ rest rise x i in
        omega (arith, l, placed, below)

    off : (x : Event × ℕ) → In x rest → is_on c x ≡ false
    off x i = ne_eqb x.0.chan.0 c (apart x i)

    fresh_received : Fresh (Some (record { 0 = c })) rest
    fresh_received x i = and_right (is_input x.0.dir) (c == x.0.chan.0) (ne_eqb c x.0.chan.0 (λ e. apart x i (sym e)))

    whole_received : (rows : List ℕ) → IsWhole f.params (offered (inputs_of c 0 rows ++ rest)) → IsWhole f.params (offered rest)
    whole_received rows whole d v u i inner =
        let at = in_offered rest (event d Input v) i in
        let found = in_offered (inputs_of c 0 rows ++ rest) (event d Input u)
        (whole d v u (in_map (λ (o : Event × ℕ). o.0) (inputs_of c 0 rows ++ rest) (event d Input v, at.0) (in_right (inputs_of c 0 rows) rest (event d Input v, at.0) at.1)) inner) in
        go found.0 (in_either (inputs_of c 0 rows) rest (event d Input u, found.0) found.1) at.0 at.1
      where
        go : (m : ℕ) → In (event d Input u, m) (inputs_of c 0 rows) ⊎ In (event d Input u, m) rest → (n : ℕ) → In (event d Input v, n) rest → In (event d Input u) (offered rest)
        go m (inl j) n k = let k' = in_inputs c 0 rows (event d Input u, m) j in absurd (apart (event d Input v, n) k (ap (λ (x : Event × ℕ). x.0.chan.0) k'.2))
        go m (inr j) n k = in_map (λ (o : Event × ℕ). o.0) rest (event d Input u, m) j

  pub grouped : (k : ℕ) (offers : List (Event × ℕ)) → length offers ≤ k → (floor : ℕ) → Rise f.params floor offers → Formed offers → IsWhole f.params (offered offers)
      → (before : Option Name) → Fresh before offers → Grouped before offers
  unfolding event_branches
  grouped k [] l floor rise formed whole before fresh = ([], no_group, refl)
  grouped zero (o ∷ offers) l floor rise formed whole before fresh = absurd (omega (arith, l))
  grouped (suc k) (o ∷ offers) l floor rise formed whole before fresh =
      go o.0.dir refl (λ rest lr fr rr rf rw b bf. grouped k rest lr fr rr rf rw b bf)
    where
      go : (d : Dir) → o.0.dir ≡ d
          → ((rest : List (Event × ℕ)) → length rest ≤ k → (floor : ℕ) → Rise f.params floor rest → Formed rest → IsWhole f.params (offered rest) → (b : Option Name) → Fresh b rest → Grouped b rest)
          → Grouped before (o ∷ offers)
      go Output dir ih =
          let rest = ih offers (omega (arith, l)) (rank f.params o.0 + 1) rise.1 (λ x i. formed x (inr i)) (whole_sent o offers dir whole) (Some o.0.chan) (fresh_sent o offers formed dir) in
          (sent_branch f o ∷ rest.0, a_sent o offers rest.0 dir rest.1, sent_first f o offers before dir ∙ (λ i. sent_branch f o ∷ rest.2 i))
      go Input dir ih =
          let here = inside f.params proper o.0 (formed o (inl refl)) in
          let w : Width = here.0 in
          let c : ℕ = o.0.chan.0 in
          let known : environment f.params c ≡ Some (Chan w (Some Input)) = here.1 ∙ ap (λ d. Some (Chan w (Some d))) dir in
          let is : o.0 ≡ event c Input o.0.value = λ i. record { chan = o.0.chan; dir = dir i; value = o.0.value } in
          let all : Rise f.params (base f.params c (2 ^ bits_of w) + 0) (o ∷ offers) = (omega arith, rise.1) in
          let taken = take_inputs f.params c (2 ^ bits_of w) (2 ^ bits_of w) 0 (omega arith) (o ∷ offers) all
          (λ u low high. in_offered (o ∷ offers) (event c Input u) (whole c o.0.value u (inl (sym is)) (inside_from f.params c w Input u known high))) in
          received w known taken.0 taken.1 taken.2 taken.3 taken.4
        where
          received : (w : Width) → environment f.params o.0.chan.0 ≡ Some (Chan w (Some Input)) → (rows : List ℕ) (rest : List (Event × ℕ)) → o ∷ offers ≡ inputs_of o.0.chan.0 0 rows ++ rest
              → length rows ≡ 2 ^ bits_of w → Rise f.params (base f.params o.0.chan.0 (2 ^ bits_of w) + 2 ^ bits_of w) rest → Grouped before (o ∷ offers)
          received w known [] rest same count high = absurd (let p = pow_pos (bits_of w) in omega (arith, count, p))
          received w known (n ∷ rows) rest same count high =
              let c : ℕ = o.0.chan.0 in
              let inner : Formed rest = λ x i. formed x (subst (In x) (sym same) (in_right (inputs_of c 0 (n ∷ rows)) rest x i)) in
              let size : suc (length offers) ≡ length (n ∷ rows) + length rest = ap length same ∙ length-append (inputs_of c 0 (n ∷ rows)) rest ∙ ap (λ x. x + length rest) (length_inputs c 0 (n ∷ rows)) in
              let on = ih rest (omega (arith, l, size)) _ high inner
              (whole_received c w known rest high inner (n ∷ rows) (subst (λ os. IsWhole f.params (offered os)) same whole)) (Some (record { 0 = c })) (fresh_received c w known rest high inner) in
              let values : length (n ∷ rows) ≡ values_of f c = count ∙ ap (λ z. 2 ^ bits_of z) (sym (width_known f.params c w Input known)) in
              let new : is_name c before ≡ false = (let e = fresh o (inl refl) in ap (λ d. is_input d && is_name c before) (sym dir) ∙ e) in
              subst (Grouped before) (sym same) (
                received_branch f c (n ∷ rows) ∷ on.0,
                a_received c n rows rest on.0 values on.1,
                received_first f c n rows rest before new (off c w known rest high inner) ∙ (λ i. received_branch f c (n ∷ rows) ∷ on.2 i),
              )
