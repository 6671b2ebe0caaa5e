-- The branches that are made of offers: which events they take part in, what follows, and their order.
use Rattle.std.proofs.Common.{◌≡◌, ℕ, ◌+◌, ◌*◌, ◌^◌, ◌<◌, ◌≤◌, ◌==◌, true, nat_lt, ◌&&◌, if◌then◌else◌, List, [], ◌∷◌, ◌++◌, length, map, get_or, None, Some, refl, sym, ap, ◌∙◌, subst, inl, inr, ◌⊎◌, arith}
use Rattle.std.proofs.lemmas.Bool.{and_from, eq-eqb, false≢true, lt-ltb, or_left, or_right}
use Rattle.std.proofs.lemmas.List.{ext_get_or, get_or-map, length-map}
use Rattle.std.proofs.lemmas.Nat.{pow_pos}
use Rattle.occ_target.specs.occ_base.declared.event.Dir.{Dir}
use Rattle.occ_target.specs.occ_base.declared.event.Dir.TheVariants.{Input, Output}
use Rattle.occ_target.specs.occ_base.declared.event.Event.{Event}
use Rattle.occ_target.specs.occ_base.declared.names.Name.{Name}
use Rattle.occ_target.specs.occ_base.declared.width.Width.{Width}
use Rattle.occ_target.specs.occ_base.Width.{bits_of}
use Rattle.occ_target.specs.occ_syntax.declared.scope.Kind.{Kind}
use Rattle.occ_target.specs.occ_syntax.declared.scope.Kind.TheVariants.{Chan}
use Rattle.occ_target.specs.occ_syntax.Scopes.{environment, in_interface}
use Rattle.occ_target.specs.occ_syntax.Tree.{Exp, Tree, Waiting, input, output, select, stop}
use Rattle.occ_target.specs.occ_behaviour.Places.{place_in}
use Rattle.occ_target.specs.occ_nform_table.Judging.{set_less, text_less}
use Rattle.occ_target.specs.occ_nform_table.Lines.{rank}
use Rattle.occ_target.specs.occ_nform_table.Lists.{Chain, In}
use Rattle.occ_target.proofs.from_nform_table.Events.{IsProper, same_rank}
use Rattle.occ_target.proofs.from_nform_table.Orders.{first_cases}
use Rattle.occ_target.specs.Rows.{Frame, is_input, part_at, variable_of, width_in}
use Rattle.occ_target.specs.States.{constant, is_at}
use Rattle.occ_target_laws.specs.Shapes.{Header, Leads, branch_less, event, numbered, place}
use Rattle.occ_target_laws.proofs.Lists.{in_right, one_by_key}
use Rattle.occ_target_laws.proofs.Following.{entry, leads_place, numbered_parts, same_cases, two_ways}
use Rattle.occ_target_laws.proofs.Unique.{lead_inside}
use Rattle.occ_target_laws.specs.Whole.{offered}
use Rattle.occ_target_laws.proofs.Groups.{Groups, Source, a_received, a_sent, inputs_of, no_group, received_branch, received_in, sent_branch, sent_in, source, values_of}
use Rattle.occ_target_laws.proofs.Grouping.{Rise, inside, rise_lower, width_known}

-- ---- the order of sets and of lists of branches, by their first items

first_of_sets : (params : List (Name × Kind)) (e f : Event) (S T : List Event) → set_less params (e ∷ S) (f ∷ T) ≡ true
    → (rank params e < rank params f) ⊎ ((rank params e ≡ rank params f) × (set_less params S T ≡ true))
unfolding set_less
first_of_sets params e f S T h = first_cases (rank params e) (rank params f) (set_less params S T) h

nothing_less : (params : List (Name × Kind)) (S : List Event) → set_less params S [] ≡ true → ⊥
unfolding set_less
nothing_less params [] h = false≢true h
nothing_less params (e ∷ S) h = false≢true h

texts_from : (p q : ℕ) (P Q : List ℕ) → (p < q) ⊎ ((p ≡ q) × (text_less P Q ≡ true)) → text_less (p ∷ P) (q ∷ Q) ≡ true
unfolding text_less
texts_from p q P Q (inl l) = or_left (nat_lt p q) (p == q && text_less P Q) (lt-ltb p q l)
texts_from p q P Q (inr k) = or_right (nat_lt p q) (p == q && text_less P Q) (and_from (p == q) (text_less P Q) (eq-eqb p q k.0) k.1)

shorter : (q : ℕ) (Q : List ℕ) → text_less [] (q ∷ Q) ≡ true
unfolding text_less
shorter q Q = refl

out_in : {A : Type 0} {c d x : ℕ} {z : Exp} → output c z ≡ input d x → A
out_in h = absurd (cc)

same_source : {c d x y : ℕ} → input c x ≡ input d y → c ≡ d
same_source h = cc

no_values : (w : Width) (rows : List ℕ) → length rows ≡ 2 ^ bits_of w → 0 < length rows
no_values w rows e = let p = pow_pos (bits_of w) in omega (arith, e, p)

module _ (f : Frame) (proper : IsProper f.params) where
  abbrev pub header_of : Header
  header_of = record { params = f.params; inputs = f.inputs }

  abbrev pub Formed : List (Event × ℕ) → Type 0
  Formed offers = (o : Event × ℕ) → In o offers → in_interface (environment f.params) o.0 ≡ true

  -- ---- events and what follows them

  pub sent_leads : (o : Event × ℕ) → in_interface (environment f.params) o.0 ≡ true → o.0.dir ≡ Output → Leads header_of (sent_branch f o) o.0 (part_at f.parts o.1)
  sent_leads o inner dir =
      let here = inside f.params proper o.0 inner in
      let width : width_in f.params o.0.chan.0 ≡ here.0 = width_known f.params o.0.chan.0 here.0 o.0.dir here.1 in
      inl (record {
        width = here.0;
        dir = dir;
        channel = here.1 ∙ ap (λ d. Some (Chan here.0 (Some d))) dir;
        value = here.2;
        branch = λ i. (output o.0.chan.0 (constant (width i) o.0.value), part_at f.parts o.1);
      })

  -- the width of a channel from which there are inputs
  pub received_width : (offers : List (Event × ℕ)) → Formed offers → (c : ℕ) (rows : List ℕ) → length rows ≡ values_of f c → ((v : ℕ) → v < length rows → In (event c Input v, get_or rows v 0) offers)
      → (w : Width) × (environment f.params c ≡ Some (Chan w (Some Input))) × (length rows ≡ 2 ^ bits_of w)
  received_width offers formed c rows count inn =
      let here = inside f.params proper (event c Input 0) (formed (event c Input 0, get_or rows 0 0) (inn 0 (no_values (width_in f.params c) rows count))) in
      (here.0, here.1, count ∙ ap (λ w. 2 ^ bits_of w) (width_known f.params c here.0 Input here.1))

  pub received_leads : (c : ℕ) (rows : List ℕ) (w : Width) → environment f.params c ≡ Some (Chan w (Some Input)) → length rows ≡ 2 ^ bits_of w → (v : ℕ) → v < length rows
      → Leads header_of (received_branch f c rows) (event c Input v) (part_at f.parts (get_or rows v 0))
  received_leads c rows w known count v l =
      let width : width_in f.params c ≡ w = width_known f.params c w Input known in
      inr (record {
        width = w;
        parts = map (part_at f.parts) rows;
        dir = refl;
        channel = known;
        value = omega (arith, l, count);
        count = length-map rows (part_at f.parts) ∙ count;
        branch = λ i. (input c (variable_of f.inputs (width i)), select (numbered (is_at (variable_of f.inputs (width i)) (width i)) 0 (map (part_at f.parts) rows)));
        next = sym (get_or-map (part_at f.parts) rows v 0 stop l);
      })

  pub source_leads : (offers : List (Event × ℕ)) → Formed offers → (b : Waiting × Tree) → Source f offers b → (e : Event) × (p : Tree) × Leads header_of b e p
  source_leads offers formed b (inl k) =
      (k.0.0, part_at f.parts k.0.1, subst (λ (x : Waiting × Tree). Leads header_of x k.0.0 (part_at f.parts k.0.1)) (sym k.3) (sent_leads k.0 (formed k.0 k.1) k.2))
  source_leads offers formed b (inr k) =
      let wide = received_width offers formed k.0 k.1 k.2 k.3 in (
        event k.0 Input 0,
        part_at f.parts (get_or k.1 0 0),
        subst (λ (x : Waiting × Tree). Leads header_of x (event k.0 Input 0) (part_at f.parts (get_or k.1 0 0))) (sym k.4)
            (received_leads k.0 k.1 wide.0 wide.1 wide.2 0 (no_values wide.0 k.1 wide.2)),
      )

  -- ---- order

  entry_sent : (e : Event) → e.dir ≡ Output → rank f.params (entry e) ≡ rank f.params e
  entry_sent e dir = ap (λ d. 256 * place_in f.params e.chan + (if is_input d then 0 else e.value)) dir

  sent_place : (o : Event × ℕ) → in_interface (environment f.params) o.0 ≡ true → o.0.dir ≡ Output → place header_of (sent_branch f o) ≡ rank f.params o.0
  sent_place o inner dir = leads_place header_of (sent_branch f o) o.0 (part_at f.parts o.1) (sent_leads o inner dir) ∙ entry_sent o.0 dir

  -- ---- an event of a branch is that of an offer, and what follows it is the process of the row that is offered

  pub follows : (offers : List (Event × ℕ)) → Formed offers → (b : Waiting × Tree) → Source f offers b → (e : Event) (q : Tree) → Leads header_of b e q
      → (o : Event × ℕ) × In o offers × (o.0 ≡ e) × (q ≡ part_at f.parts o.1)
  follows offers formed b (inl k) e q (inl j) =
      let own : place header_of b ≡ rank f.params k.0.0 = ap (place header_of) k.3 ∙ sent_place k.0 (formed k.0 k.1) k.2 in
      let same = same_rank f.params proper k.0.0 e (formed k.0 k.1) (lead_inside header_of b e q (inl j)) (sym own ∙ leads_place header_of b e q (inl j) ∙ entry_sent e j.dir) in
      (k.0, k.1, same, ap (λ (x : Waiting × Tree). x.1) (sym j.branch ∙ k.3))
  follows offers formed b (inl k) e q (inr j) = out_in (ap (λ (x : Waiting × Tree). x.0) (sym k.3 ∙ j.branch))
  follows offers formed b (inr k) e q (inl j) = out_in (ap (λ (x : Waiting × Tree). x.0) (sym j.branch ∙ k.4))
  follows offers formed b (inr k) e q (inr j) =
      let same : j.parts ≡ map (part_at f.parts) k.1 = numbered_parts _ _ 0 j.parts (map (part_at f.parts) k.1) (same_cases (ap (λ (x : Waiting × Tree). x.1) (sym j.branch ∙ k.4))) in
      let size : length j.parts ≡ length k.1 = ap length same ∙ length-map k.1 (part_at f.parts) in
      let below : e.value < length k.1 = (let l = j.value in omega (arith, l, j.count, size)) in
      let channel : k.0 ≡ e.chan.0 = same_source (ap (λ (x : Waiting × Tree). x.0) (sym k.4 ∙ j.branch)) in (
        (event k.0 Input e.value, get_or k.1 e.value 0),
        k.3 e.value below,
        λ i. record { chan = record { 0 = channel i }; dir = sym j.dir i; value = e.value },
        j.next ∙ ap (λ ps. part_at ps e.value) same ∙ get_or-map (part_at f.parts) k.1 e.value 0 stop below,
      )

  abbrev BranchesRise : ℕ → List (Waiting × Tree) → Type 0
  BranchesRise floor [] = Unit {0}
  BranchesRise floor (b ∷ bs) = (floor ≤ place header_of b) × BranchesRise (place header_of b + 1) bs

  rise_skip : (floor : ℕ) (offers more : List (Event × ℕ)) → Rise f.params floor (offers ++ more) → Rise f.params floor more
  rise_skip floor [] more h = h
  rise_skip floor (o ∷ offers) more h = rise_lower f.params floor (rank f.params o.0 + 1) more (omega (arith, h.0)) (rise_skip (rank f.params o.0 + 1) offers more h.1)

  branches_rise : (offers : List (Event × ℕ)) (bs : List (Waiting × Tree)) → Groups f offers bs → Formed offers → (floor : ℕ) → Rise f.params floor offers → BranchesRise floor bs
  branches_rise offers bs no_group formed floor rise = tt
  branches_rise offers bs (a_sent o others cs dir g) formed floor rise =
      let at : place header_of (sent_branch f o) ≡ rank f.params o.0 = sent_place o (formed o (inl refl)) dir in
      (omega (arith, rise.0, at), branches_rise others cs g (λ x i. formed x (inr i)) (place header_of (sent_branch f o) + 1) (subst (λ z. Rise f.params (z + 1) others) (sym at) rise.1))
  branches_rise offers bs (a_received c n rows others cs count g) formed floor rise =
      (rise.0, branches_rise others cs g (λ x i. formed x (inr (in_right (inputs_of c 1 rows) others x i))) _ (rise_skip _ (inputs_of c 1 rows) others rise.1))

  chain_behind : (b : Waiting × Tree) (bs : List (Waiting × Tree)) → BranchesRise (place header_of b + 1) bs → Chain (branch_less header_of) (Some b) bs
  chain_behind b [] h = tt
  chain_behind b (c ∷ bs) h = (lt-ltb (place header_of b) (place header_of c) (omega (arith, h.0)), chain_behind c bs h.1)

  chain_from : (floor : ℕ) (bs : List (Waiting × Tree)) → BranchesRise floor bs → Chain (branch_less header_of) None bs
  chain_from floor [] h = tt
  chain_from floor (b ∷ bs) h = (refl, chain_behind b bs h.1)

  pub in_order : (offers : List (Event × ℕ)) (bs : List (Waiting × Tree)) → Groups f offers bs → Formed offers → Rise f.params 0 offers → Chain (branch_less header_of) None bs
  in_order offers bs g formed rise = chain_from 0 bs (branches_rise offers bs g formed 0 rise)

  -- ---- lists of branches are in the order of their sets

  strip : (c d : ℕ) → c ≡ d → (v : ℕ) (rows others : List ℕ) → length rows ≡ length others → (xs ys : List (Event × ℕ))
      → set_less f.params (offered (inputs_of c v rows ++ xs)) (offered (inputs_of d v others ++ ys)) ≡ true → set_less f.params (offered xs) (offered ys) ≡ true
  strip c d same v [] [] count xs ys h = h
  strip c d same v [] (m ∷ others) count xs ys h = absurd (omega (arith, count))
  strip c d same v (n ∷ rows) [] count xs ys h = absurd (omega (arith, count))
  strip c d same v (n ∷ rows) (m ∷ others) count xs ys h =
      go (first_of_sets f.params (event c Input v) (event d Input v) (offered (inputs_of c (v + 1) rows ++ xs)) (offered (inputs_of d (v + 1) others ++ ys)) h)
      (strip c d same (v + 1) rows others (omega (arith, count)) xs ys)
    where
      go : (rank f.params (event c Input v) < rank f.params (event d Input v)) ⊎ ((rank f.params (event c Input v) ≡ rank f.params (event d Input v))
          × (set_less f.params (offered (inputs_of c (v + 1) rows ++ xs)) (offered (inputs_of d (v + 1) others ++ ys)) ≡ true))
          → (set_less f.params (offered (inputs_of c (v + 1) rows ++ xs)) (offered (inputs_of d (v + 1) others ++ ys)) ≡ true → set_less f.params (offered xs) (offered ys) ≡ true)
          → set_less f.params (offered xs) (offered ys) ≡ true
      go (inl l) ih = absurd (omega (arith, l, ap (λ z. rank f.params (event z Input v)) same))
      go (inr k) ih = ih k.1

  abbrev Places : List (Waiting × Tree) → List ℕ
  Places bs = map (place header_of) bs

  -- both are led by an event each, and what comes behind is in order where these are the same
  headed : (b c : Waiting × Tree) (bs cs : List (Waiting × Tree)) (e d : Event) (S T : List Event) → place header_of b ≡ rank f.params e → place header_of c ≡ rank f.params d
      → set_less f.params (e ∷ S) (d ∷ T) ≡ true → (rank f.params e ≡ rank f.params d → set_less f.params S T ≡ true → text_less (Places bs) (Places cs) ≡ true)
      → text_less (Places (b ∷ bs)) (Places (c ∷ cs)) ≡ true
  headed b c bs cs e d S T p q h rest = texts_from (place header_of b) (place header_of c) (Places bs) (Places cs) (go (first_of_sets f.params e d S T h))
    where
      go : (rank f.params e < rank f.params d) ⊎ ((rank f.params e ≡ rank f.params d) × (set_less f.params S T ≡ true))
          → (place header_of b < place header_of c) ⊎ ((place header_of b ≡ place header_of c) × (text_less (map (place header_of) bs) (map (place header_of) cs) ≡ true))
      go (inl l) = inl (omega (arith, l, p, q))
      go (inr k) = inr (p ∙ k.0 ∙ sym q, rest k.0 k.1)

  pub less_so : (xs : List (Event × ℕ)) (bs : List (Waiting × Tree)) → Groups f xs bs → (ys : List (Event × ℕ)) (cs : List (Waiting × Tree)) → Groups f ys cs → Formed xs → Formed ys
      → set_less f.params (offered xs) (offered ys) ≡ true → text_less (Places bs) (Places cs) ≡ true
  less_so xs bs no_group ys cs no_group fx fy h = absurd (nothing_less f.params [] h)
  less_so xs bs no_group ys cs (a_sent o others ds dir g) fx fy h = shorter _ _
  less_so xs bs no_group ys cs (a_received c n rows others ds count g) fx fy h = shorter _ _
  less_so xs bs (a_sent p more es way k) ys cs no_group fx fy h = absurd (nothing_less f.params (offered (p ∷ more)) h)
  less_so xs bs (a_received d m parts more es size k) ys cs no_group fx fy h = absurd (nothing_less f.params (offered (inputs_of d 0 (m ∷ parts) ++ more)) h)
  less_so xs bs (a_sent p more es way k) ys cs (a_sent o others ds dir g) fx fy h =
      headed (sent_branch f p) (sent_branch f o) es ds p.0 o.0 (offered more) (offered others) (sent_place p (fx p (inl refl)) way) (sent_place o (fy o (inl refl)) dir) h
      (λ e l. less_so more es k others ds g (λ x i. fx x (inr i)) (λ x i. fy x (inr i)) l)
  less_so xs bs (a_sent p more es way k) ys cs (a_received c n rows others ds count g) fx fy h =
      headed (sent_branch f p) (received_branch f c (n ∷ rows)) es ds p.0 (event c Input 0) (offered more) (offered (inputs_of c 1 rows ++ others)) (sent_place p (fx p (inl refl)) way) refl h
      (λ e l. two_ways way (ap (λ (x : Event). x.dir) (same_rank f.params proper p.0 (event c Input 0) (fx p (inl refl)) (fy (event c Input 0, n) (inl refl)) e)))
  less_so xs bs (a_received d m parts more es size k) ys cs (a_sent o others ds dir g) fx fy h =
      headed (received_branch f d (m ∷ parts)) (sent_branch f o) es ds (event d Input 0) o.0 (offered (inputs_of d 1 parts ++ more)) (offered others) refl (sent_place o (fy o (inl refl)) dir) h
      (λ e l. two_ways dir (sym (ap (λ (x : Event). x.dir) (same_rank f.params proper (event d Input 0) o.0 (fx (event d Input 0, m) (inl refl)) (fy o (inl refl)) e))))
  less_so xs bs (a_received d m parts more es size k) ys cs (a_received c n rows others ds count g) fx fy h =
      headed (received_branch f d (m ∷ parts)) (received_branch f c (n ∷ rows)) es ds (event d Input 0) (event c Input 0) (offered (inputs_of d 1 parts ++ more)) (offered (inputs_of c 1 rows ++ others)) refl refl h
      (λ e l. (
      let same : d ≡ c = ap (λ (x : Event). x.chan.0) (same_rank f.params proper (event d Input 0) (event c Input 0) (fx (event d Input 0, m) (inl refl)) (fy (event c Input 0, n) (inl refl)) e) in
      let long : length parts ≡ length rows = (let z : length (m ∷ parts) ≡ length (n ∷ rows) = size ∙ ap (values_of f) same ∙ sym count in omega (arith, z)) in
      less_so more es k others ds g (λ x i. fx x (inr (in_right (inputs_of d 1 parts) more x i))) (λ x i. fy x (inr (in_right (inputs_of c 1 rows) others x i)))
      (strip d c same 1 parts rows long more others l)
      ))

  -- ---- branches of some of the offers

  pub one_offer : (offers : List (Event × ℕ)) → Chain (λ (o p : Event × ℕ). nat_lt (rank f.params o.0) (rank f.params p.0)) None offers → (e : Event) (m n : ℕ) → In (e, m) offers → In (e, n) offers → m ≡ n
  one_offer offers chain e m n i j = ap (λ (o : Event × ℕ). o.1) (one_by_key (λ (o : Event × ℕ). rank f.params o.0) None offers chain (e, m) (e, n) i j refl)

  pub branch_stays : (some offers : List (Event × ℕ)) (bs cs : List (Waiting × Tree)) → Groups f some bs → Groups f offers cs → ((o : Event × ℕ) → In o some → In o offers)
      → Chain (λ (o p : Event × ℕ). nat_lt (rank f.params o.0) (rank f.params p.0)) None offers → (b : Waiting × Tree) → In b bs → In b cs
  branch_stays some offers bs cs g k sub chain b i = go (source f some bs g b i)
    where
      go : Source f some b → In b cs
      go (inl m) = subst (λ x. In x cs) (sym m.3) (sent_in f offers cs k m.0 (sub m.0 m.1) m.2)
      go (inr m) =
          let there = received_in f offers cs k m.0 0 (get_or m.1 0 0) (sub (event m.0 Input 0, get_or m.1 0 0) (m.3 0 (no_values (width_in f.params m.0) m.1 m.2))) in
          let count : length m.1 ≡ length there.0 = m.2 ∙ sym there.1 in
          let same : m.1 ≡ there.0 = ext_get_or 0 m.1 there.0 count (λ v l.
          one_offer offers chain (event m.0 Input v) (get_or m.1 v 0) (get_or there.0 v 0) (sub (event m.0 Input v, get_or m.1 v 0) (m.3 v l)) (there.2 v (omega (arith, l, count)))) in
          subst (λ x. In x cs) (sym (m.4 ∙ ap (received_branch f m.0) same)) there.3

  -- ---- events of branches that are all among others

  sent_stays : (more : List (Event × ℕ)) (cs : List (Waiting × Tree)) → Groups f more cs → Formed more → (o : Event × ℕ) → in_interface (environment f.params) o.0 ≡ true → o.0.dir ≡ Output
      → In (sent_branch f o) cs → (p : Event × ℕ) × In p more × (rank f.params o.0 ≡ rank f.params p.0)
  sent_stays more cs g formed o inner dir i = go (source f more cs g (sent_branch f o) i)
    where
      go : Source f more (sent_branch f o) → (p : Event × ℕ) × In p more × (rank f.params o.0 ≡ rank f.params p.0)
      go (inl m) = (m.0, m.1, sym (sent_place o inner dir) ∙ ap (place header_of) m.3 ∙ sent_place m.0 (formed m.0 m.1) m.2)
      go (inr m) = out_in (ap (λ (x : Waiting × Tree). x.0) m.4)

  received_stays : (more : List (Event × ℕ)) (cs : List (Waiting × Tree)) → Groups f more cs → (o : Event × ℕ) → in_interface (environment f.params) o.0 ≡ true
      → (rows : List ℕ) → In (received_branch f o.0.chan.0 rows) cs → (p : Event × ℕ) × In p more × (rank f.params o.0 ≡ rank f.params p.0)
  received_stays more cs g o inner rows i = go (source f more cs g (received_branch f o.0.chan.0 rows) i)
    where
      go : Source f more (received_branch f o.0.chan.0 rows) → (p : Event × ℕ) × In p more × (rank f.params o.0 ≡ rank f.params p.0)
      go (inl m) = out_in (ap (λ (x : Waiting × Tree). x.0) (sym m.3))
      go (inr m) =
          let same : o.0.chan.0 ≡ m.0 = same_source (ap (λ (x : Waiting × Tree). x.0) m.4) in
          let here = inside f.params proper o.0 inner in
          let values : 2 ^ bits_of here.0 ≡ length m.1 = ap (λ w. 2 ^ bits_of w) (sym (width_known f.params o.0.chan.0 here.0 o.0.dir here.1)) ∙ ap (values_of f) same ∙ sym m.2 in
          let below : o.0.value < length m.1 = (let l = here.2 in omega (arith, l, values)) in
          ((event m.0 Input o.0.value, get_or m.1 o.0.value 0), m.3 o.0.value below, ap (λ z. 256 * place_in f.params (record { 0 = z }) + o.0.value) same)

  pub event_stays : (some more : List (Event × ℕ)) (bs cs : List (Waiting × Tree)) → Groups f some bs → Groups f more cs → Formed some → Formed more → ((b : Waiting × Tree) → In b bs → In b cs)
      → (o : Event × ℕ) → In o some → (p : Event × ℕ) × In p more × (rank f.params o.0 ≡ rank f.params p.0)
  event_stays some more bs cs g k formed others sub o i = go o.0.dir refl
    where
      go : (d : Dir) → o.0.dir ≡ d → (p : Event × ℕ) × In p more × (rank f.params o.0 ≡ rank f.params p.0)
      go Output dir = sent_stays more cs k others o (formed o i) dir (sub (sent_branch f o) (sent_in f some bs g o i dir))
      go Input dir =
          let is : o ≡ (event o.0.chan.0 Input o.0.value, o.1) = λ z. (record { chan = o.0.chan; dir = dir z; value = o.0.value }, o.1) in
          let taken = received_in f some bs g o.0.chan.0 o.0.value o.1 (subst (λ x. In x some) is i) in
          received_stays more cs k o (formed o i) taken.0 (sub (received_branch f o.0.chan.0 taken.0) taken.3)

  -- the event of an offer is one of a branch
  pub lead_for : (offers : List (Event × ℕ)) (bs : List (Waiting × Tree)) → Groups f offers bs → Formed offers → (o : Event × ℕ) → In o offers → (b : Waiting × Tree) × (q : Tree) × In b bs × Leads header_of b o.0 q
  lead_for offers bs g formed o i = go o.0.dir refl
    where
      go : (d : Dir) → o.0.dir ≡ d → (b : Waiting × Tree) × (q : Tree) × In b bs × Leads header_of b o.0 q
      go Output dir = (sent_branch f o, part_at f.parts o.1, sent_in f offers bs g o i dir, sent_leads o (formed o i) dir)
      go Input dir =
          let is : o ≡ (event o.0.chan.0 Input o.0.value, o.1) = λ z. (record { chan = o.0.chan; dir = dir z; value = o.0.value }, o.1) in
          let taken = received_in f offers bs g o.0.chan.0 o.0.value o.1 (subst (λ x. In x offers) is i) in
          let wide = received_width offers formed o.0.chan.0 taken.0 taken.1 taken.2 in
          let here = inside f.params proper o.0 (formed o i) in
          let values : 2 ^ bits_of here.0 ≡ length taken.0 = ap (λ w. 2 ^ bits_of w) (sym (width_known f.params o.0.chan.0 here.0 o.0.dir here.1)) ∙ sym taken.1 in
          let below : o.0.value < length taken.0 = (let l = here.2 in omega (arith, l, values)) in
          let q : Tree = part_at f.parts (get_or taken.0 o.0.value 0) in (
            received_branch f o.0.chan.0 taken.0,
            q,
            taken.3,
            subst (λ (x : Event × ℕ). Leads header_of (received_branch f o.0.chan.0 taken.0) x.0 q) (sym is) (received_leads o.0.chan.0 taken.0 wide.0 wide.1 wide.2 o.0.value below),
          )
