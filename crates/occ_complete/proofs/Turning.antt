-- ALTs all of whose conditions are TRUE, by the laws of ALT: the order of branches, and how often each stands there, don't matter.
use Rattle.std.proofs.Common.{◌≡◌, ◌∙◌, true, ◌&&◌, List, [], ◌∷◌, ◌++◌, map, refl, sym, ap, subst, inl, inr}
use Rattle.std.proofs.lemmas.Bool.{and_from, and_parts, or_right}
use Rattle.std.proofs.lemmas.List.{append-nil, append_assoc}
use Rattle.std.specs.List.{AllByRecursion}
use Rattle.occ_engine.specs.occ_base.declared.names.Name.{Name}
use Rattle.occ_complete_states.proofs.from_derive_laws.Holding.{law_flat, law_skip, law_slide, law_twice, least_law, order_law, same_law, split_law, twice_law}
use Rattle.occ_complete_states.proofs.from_derive_laws.Keeping.{kept_each}
use Rattle.occ_complete_states.proofs.Leading.{law_leads, law_leads_back, leads_itself, leads_keep, leads_on}
use Rattle.occ_complete_states.proofs.Rows.{branch_becomes, goes_flat, guarded_append, ready_is_skip}
use Rattle.occ_complete_states.specs.Leads.{Leads}
use Rattle.occ_complete_states.specs.Nodes.{any_of}
use Rattle.occ_complete_states.specs.Rows.{has_ready}
use Rattle.occ_complete.proofs.Sets.{Same, Within, both_within, flat, same_back, same_both, same_itself, same_more, same_on, same_turned, same_within, split_in}
use Rattle.occ_engine.specs.occ_law.Choice.{are_events, are_plain_events, is_event, is_ready}
use Rattle.occ_engine.specs.occ_law.Lists.{BranchesReordered, all_branches, behind_branch, branches_in_steps, same_branches, two_branches}
use Rattle.occ_complete_states.specs.occ_nform_table.Lists.{In}
use Rattle.occ_engine.specs.occ_syntax.declared.scope.Kind.{Kind}
use Rattle.occ_engine.specs.occ_syntax.Scopes.{environment}
use Rattle.occ_engine.specs.occ_syntax.Tree.{Branches, Tree, Waiting, alt, and_branch, no_branch, ready, truth}
use Rattle.occ_engine.specs.occ_syntax.Types.{scope_kept}
use Rattle.occ_engine.specs.occ_syntax.Usage.{Keeps}
use Rattle.occ_complete_states.specs.occ_target.Rows.{guarded}
use Rattle.occ_complete_states.proofs.from_target_laws.Lists.{in_left, in_right}
use Rattle.occ_complete_states.specs.occ_target_laws.Shapes.{accepting}

-- from an ALT of these branches to one of those
pub record Turns (S : List (Name × Kind)) (xs ys : List (Waiting × Tree)) : Type 0 where
  pub leads : Keeps (environment S) (alt (guarded xs)) → Leads S (alt (guarded xs)) (alt (guarded ys))

by_forms : (S : List (Name × Kind)) (xs ys : List (Waiting × Tree)) (gs hs : Branches) → guarded xs ≡ gs → guarded ys ≡ hs
    → (Keeps (environment S) (alt gs) → Leads S (alt gs) (alt hs)) → Turns S xs ys
by_forms S xs ys gs hs e f t = record {
  leads = λ k. subst (λ g. Leads S (alt g) (alt (guarded ys))) (sym e) (subst (λ g. Leads S (alt gs) (alt g)) (sym f) (t (subst (λ g. Keeps (environment S) (alt g)) e k)));
}

-- ---- orders

first_of : (b : Waiting × Tree) (front rest : List (Waiting × Tree)) → BranchesReordered (guarded (front ++ b ∷ rest)) (guarded (b ∷ (front ++ rest)))
first_of b [] rest = same_branches
first_of b (c ∷ front) rest = branches_in_steps (behind_branch (first_of b front rest)) two_branches

behind_of : (b : Waiting × Tree) (front rest : List (Waiting × Tree)) → BranchesReordered (guarded (b ∷ (front ++ rest))) (guarded (front ++ b ∷ rest))
behind_of b [] rest = same_branches
behind_of b (c ∷ front) rest = branches_in_steps two_branches (behind_branch (behind_of b front rest))

other_first : (xs ys : List (Waiting × Tree)) → BranchesReordered (guarded (xs ++ ys)) (guarded (ys ++ xs))
other_first [] ys = subst (λ l. BranchesReordered (guarded ys) (guarded l)) (sym (append-nil ys)) same_branches
other_first (x ∷ xs) ys = branches_in_steps (behind_branch (other_first xs ys)) (behind_of x ys xs)

-- ---- events

pub are_all_events : (bs : List (Waiting × Tree)) → ((b : Waiting × Tree) → In b bs → is_event b.0 ≡ true) → are_events (guarded bs) ≡ true
are_all_events [] f = refl
are_all_events (b ∷ bs) f = ap (λ t. t && are_events (guarded bs)) (f b (inl refl)) ∙ are_all_events bs (λ c i. f c (inr i))

are_plain : (bs : List (Waiting × Tree)) → are_events (guarded bs) ≡ true → are_plain_events (guarded bs) ≡ true
are_plain [] e = refl
are_plain (b ∷ bs) e = let t = and_parts (is_event b.0) (are_events (guarded bs)) e in and_from (is_event b.0) (are_plain_events (guarded bs)) t.0 (are_plain bs t.1)

module _ (S : List (Name × Kind)) (h : scope_kept S ≡ true) where
  pub turns_itself : (xs : List (Waiting × Tree)) → Turns S xs xs
  turns_itself xs = record { leads = λ k. leads_itself S (alt (guarded xs)) }

  pub turns_on : {xs ys zs : List (Waiting × Tree)} → Turns S xs ys → Turns S ys zs → Turns S xs zs
  turns_on a b = record { leads = λ k. leads_on S (a.leads k) (b.leads (leads_keep S h k (a.leads k))) }

  in_order : (xs ys : List (Waiting × Tree)) → BranchesReordered (guarded xs) (guarded ys) → Turns S xs ys
  in_order xs ys r = record { leads = λ k. law_leads S 27 (order_law S (guarded xs) (guarded ys) r k) }

  -- ---- the same branches

  twice_form : (b : Waiting × Tree) (front rest : List (Waiting × Tree))
      → guarded (b ∷ (front ++ b ∷ rest)) ≡ and_branch (truth true) b.0 b.1 (all_branches (guarded front) (and_branch (truth true) b.0 b.1 (guarded rest)))
  twice_form b front rest = ap (and_branch (truth true) b.0 b.1) (guarded_append front (b ∷ rest))

  once_form : (b : Waiting × Tree) (front rest : List (Waiting × Tree))
      → guarded (b ∷ (front ++ rest)) ≡ and_branch (truth true) b.0 b.1 (all_branches (guarded front) (guarded rest))
  once_form b front rest = ap (and_branch (truth true) b.0 b.1) (guarded_append front rest)

  drop_one : (b : Waiting × Tree) (xs : List (Waiting × Tree)) → In b xs → Turns S (b ∷ xs) xs
  drop_one b xs i =
      let r = split_in b xs i in
      let f = r.front in
      let l = r.rest in
      subst (λ z. Turns S (b ∷ z) z) (sym r.form)
      (turns_on (by_forms S (b ∷ (f ++ b ∷ l)) (b ∷ (f ++ l)) _ _ (twice_form b f l) (once_form b f l)
      (λ k. law_leads S 29 (twice_law S no_branch (guarded f) (guarded l) (truth true) b.0 b.1 k)))
      (in_order (b ∷ (f ++ l)) (f ++ b ∷ l) (behind_of b f l)))

  add_one : (b : Waiting × Tree) (xs : List (Waiting × Tree)) → In b xs → Turns S xs (b ∷ xs)
  add_one b xs i =
      let r = split_in b xs i in
      let f = r.front in
      let l = r.rest in
      subst (λ z. Turns S z (b ∷ z)) (sym r.form)
      (turns_on (in_order (f ++ b ∷ l) (b ∷ (f ++ l)) (first_of b f l))
      (by_forms S (b ∷ (f ++ l)) (b ∷ (f ++ b ∷ l)) _ _ (once_form b f l) (twice_form b f l)
      (λ k. law_leads_back S 29 (law_twice S no_branch (guarded f) (guarded l) (truth true) b.0 b.1 k))))

  adds : (ys xs : List (Waiting × Tree)) → Within ys xs → Turns S xs (ys ++ xs)
  adds [] xs f = turns_itself xs
  adds (y ∷ ys) xs f = turns_on (adds ys xs (λ b i. f b (inr i))) (add_one y (ys ++ xs) (in_right ys xs y (f y (inl refl))))

  drops : (xs ys : List (Waiting × Tree)) → Within xs ys → Turns S (xs ++ ys) ys
  drops [] ys f = turns_itself ys
  drops (x ∷ xs) ys f = turns_on (drop_one x (xs ++ ys) (in_right xs ys x (f x (inl refl)))) (drops xs ys (λ b i. f b (inr i)))

  pub same_turns : {xs ys : List (Waiting × Tree)} → Same xs ys → Turns S xs ys
  same_turns {xs} {ys} s = turns_on (adds ys xs s.back) (turns_on (in_order (ys ++ xs) (xs ++ ys) (other_first ys xs)) (drops xs ys s.there))

  -- ---- inside a branch

  pub process_turns : (w : Waiting) (p q : Tree) (R : List (Waiting × Tree)) → (Keeps (environment S) p → Leads S p q) → Turns S ((w, p) ∷ R) ((w, q) ∷ R)
  process_turns w p q R a = record { leads = λ k. branch_becomes S [] R w (a (kept_each (environment S) (guarded ((w, p) ∷ R)) k).0.part) }

  pub acceptance_turns : {xs ys : List (Waiting × Tree)} (R : List (Waiting × Tree)) → Turns S xs ys → Turns S (accepting xs ∷ R) (accepting ys ∷ R)
  acceptance_turns {xs} {ys} R a = process_turns ready (alt (guarded xs)) (alt (guarded ys)) R a.leads

  -- ---- flat

  flattens : (bs R : List (Waiting × Tree)) → has_ready bs ≡ true → Turns S (accepting bs ∷ R) (bs ++ R)
  flattens bs R r = record { leads = λ k. goes_flat S [] bs R r k }

  nests : (bs R : List (Waiting × Tree)) → has_ready bs ≡ true → Turns S (bs ++ R) (accepting bs ∷ R)
  nests bs R r = by_forms S (bs ++ R) (accepting bs ∷ R) _ _ (guarded_append bs R) refl
      (λ k. law_leads_back S 32 (law_flat S no_branch (guarded bs) (guarded R) (ready_is_skip bs ∙ r) k))

  ready_last : (bs : List (Waiting × Tree)) (p : Tree) → has_ready (bs ++ (ready, p) ∷ []) ≡ true
  ready_last [] p = refl
  ready_last (b ∷ bs) p = or_right (is_ready b.0) (has_ready (bs ++ (ready, p) ∷ [])) (ready_last bs p)

  -- ---- acceptances

  -- events, and an acceptance of them
  pub events_slide : (A : List (Waiting × Tree)) → are_events (guarded A) ≡ true → Turns S A (A ++ accepting A ∷ [])
  events_slide A e =
      let whole : guarded A ≡ all_branches (guarded A) no_branch = ap guarded (sym (append-nil A)) ∙ guarded_append A [] in
      by_forms S A (A ++ accepting A ∷ []) _ _ whole
      (guarded_append A (accepting A ∷ []) ∙ ap (λ g. all_branches (guarded A) (and_branch (truth true) ready (alt g) no_branch)) whole)
      (λ k. law_leads_back S 35 (law_slide S (guarded A) no_branch e k))

  -- the events of an acceptance are offered
  pub acceptance_offers : (A R : List (Waiting × Tree)) → are_events (guarded A) ≡ true → Turns S (accepting A ∷ R) ((A ++ accepting A ∷ []) ++ R)
  acceptance_offers A R e =
      turns_on (acceptance_turns R (events_slide A e)) (flattens (A ++ accepting A ∷ []) R (ready_last A (alt (guarded A))))

  -- an event of the ALT itself goes into an acceptance that has its guard
  pub acceptance_grows : (E A R : List (Waiting × Tree)) (w : Waiting) (p q : Tree) → is_event w ≡ true → In (w, p) E → In (w, q) A
      → Turns S (E ++ accepting A ∷ R) (E ++ accepting ((w, p) ∷ A) ∷ R)
  acceptance_grows E A R w p q e i j =
      let before : Same (E ++ accepting A ∷ R) (accepting A ∷ ((w, p) ∷ (E ++ R))) =
      same_on (same_turned E (accepting A ∷ []) R) (same_both (accepting A ∷ []) (accepting A ∷ []) (E ++ R) ((w, p) ∷ (E ++ R))
      (same_itself (accepting A ∷ [])) (same_more (w, p) (E ++ R) (in_left E R (w, p) i))) in
      turns_on (same_turns before)
      (turns_on (acceptance_turns ((w, p) ∷ (E ++ R)) (add_one (w, q) A j))
      (turns_on (in_order (accepting ((w, q) ∷ A) ∷ ((w, p) ∷ (E ++ R))) ((w, p) ∷ (accepting ((w, q) ∷ A) ∷ (E ++ R))) two_branches)
      (turns_on goes_in
      (turns_on (acceptance_turns (E ++ R) less)
      (same_turns (same_turned (accepting ((w, p) ∷ A) ∷ []) E R))))))
    where
      goes_in : Turns S ((w, p) ∷ (accepting ((w, q) ∷ A) ∷ (E ++ R))) (accepting ((w, p) ∷ ((w, q) ∷ A)) ∷ (E ++ R))
      goes_in = record { leads = λ k. law_leads S 33 (split_law S no_branch (guarded A) (guarded (E ++ R)) w p q e k) }

      less : Turns S ((w, p) ∷ ((w, q) ∷ A)) ((w, p) ∷ A)
      less = same_turns (same_both ((w, p) ∷ []) ((w, p) ∷ []) ((w, q) ∷ A) A (same_itself ((w, p) ∷ [])) (same_back (same_more (w, q) A j)))

  -- an acceptance that has all events of another goes
  pub acceptance_goes : (E A B R : List (Waiting × Tree)) → are_events (guarded A) ≡ true → are_events (guarded B) ≡ true → Within A B → Within B E
      → Turns S (E ++ accepting A ∷ (accepting B ∷ R)) (E ++ accepting A ∷ R)
  acceptance_goes E A B R e f less there =
      turns_on (same_turns (same_on (same_turned E (accepting A ∷ []) (accepting B ∷ R)) (same_on
      (same_both (accepting A ∷ []) (accepting A ∷ []) (E ++ accepting B ∷ R) (accepting B ∷ (E ++ R)) (same_itself (accepting A ∷ [])) (same_turned E (accepting B ∷ []) R))
      (same_turned (accepting A ∷ []) (accepting B ∷ []) (E ++ R)))))
      (turns_on (acceptance_turns (accepting A ∷ (E ++ R)) (same_turns (same_back (same_within A B less))))
      (turns_on (in_order (accepting (A ++ B) ∷ (accepting A ∷ (E ++ R))) (accepting A ∷ (accepting (A ++ B) ∷ (E ++ R))) two_branches)
      (turns_on (nests (accepting A ∷ (accepting (A ++ B) ∷ [])) (E ++ R) refl)
      (turns_on (acceptance_turns (E ++ R) least)
      (turns_on (flattens (B ++ accepting A ∷ []) (E ++ R) (ready_last B (alt (guarded A))))
      (same_turns after))))))
    where
      least : Turns S (accepting A ∷ (accepting (A ++ B) ∷ [])) (B ++ accepting A ∷ [])
      least = by_forms S (accepting A ∷ (accepting (A ++ B) ∷ [])) (B ++ accepting A ∷ []) _ _
          (ap (λ g. and_branch (truth true) ready (alt (guarded A)) (and_branch (truth true) ready (alt g) no_branch)) (guarded_append A B))
          (guarded_append B (accepting A ∷ []))
          (λ k. law_leads S 36 (least_law S (guarded A) (guarded B) (are_plain A e) (are_plain B f) k))

      after : Same ((B ++ accepting A ∷ []) ++ (E ++ R)) (E ++ accepting A ∷ R)
      after = record {
        there = both_within (B ++ accepting A ∷ []) (E ++ R) (E ++ accepting A ∷ R)
            (both_within B (accepting A ∷ []) (E ++ accepting A ∷ R) (λ x i. in_left E (accepting A ∷ R) x (there x i)) (λ x i. in_right E (accepting A ∷ R) x (in_left (accepting A ∷ []) R x i)))
            (both_within E R (E ++ accepting A ∷ R) (in_left E (accepting A ∷ R)) (λ x i. in_right E (accepting A ∷ R) x (inr i)));
        back = both_within E (accepting A ∷ R) ((B ++ accepting A ∷ []) ++ (E ++ R)) (λ x i. in_right (B ++ accepting A ∷ []) (E ++ R) x (in_left E R x i))
            (both_within (accepting A ∷ []) R ((B ++ accepting A ∷ []) ++ (E ++ R)) (λ x i. in_left (B ++ accepting A ∷ []) (E ++ R) x (in_right B (accepting A ∷ []) x i))
            (λ x i. in_right (B ++ accepting A ∷ []) (E ++ R) x (in_right E R x i)));
      }

  -- ---- one branch behind the other

  -- each of these lists of branches is turned, beside the others
  pub each_turns : {A : Type 0} (E : List (Waiting × Tree)) (f g : A → List (Waiting × Tree)) (xs : List A) (R : List (Waiting × Tree))
      → ((x : A) → In x xs → (T : List (Waiting × Tree)) → Turns S (E ++ (f x ++ T)) (E ++ (g x ++ T)))
      → Turns S (E ++ (flat f xs ++ R)) (E ++ (flat g xs ++ R))
  each_turns E f g [] R t = turns_itself (E ++ R)
  each_turns E f g (x ∷ xs) R t =
      let own = flat f xs in
      let new = flat g xs in
      turns_on (turned (append_assoc (f x) own R))
      (turns_on (t x (inl refl) (own ++ R))
      (turns_on (same_turns (same_both E E (g x ++ (own ++ R)) (own ++ (g x ++ R)) (same_itself E) (same_turned (g x) own R)))
      (turns_on (each_turns E f g xs (g x ++ R) (λ y i. t y (inr i)))
      (turns_on (same_turns (same_both E E (new ++ (g x ++ R)) (g x ++ (new ++ R)) (same_itself E) (same_turned new (g x) R)))
      (turned (sym (append_assoc (g x) new R)))))))
    where
      turned : {us vs : List (Waiting × Tree)} → us ≡ vs → Turns S (E ++ us) (E ++ vs)
      turned {us} {vs} e = subst (λ l. Turns S (E ++ us) (E ++ l)) e (turns_itself (E ++ us))

  -- ---- events of one guard

  abbrev at_once : Tree → Waiting × Tree
  at_once p = (ready, p)

  rows_append : (ps : List Tree) (q : Tree) → map at_once ps ++ at_once q ∷ [] ≡ map at_once (ps ++ q ∷ [])
  rows_append [] q = refl
  rows_append (p ∷ ps) q = ap (λ l. at_once p ∷ l) (rows_append ps q)

  gathered : (w : Waiting) (p : Tree) (ps : List Tree) (bs R : List (Waiting × Tree)) → is_event w ≡ true → AllByRecursion (λ (b : Waiting × Tree). b.0 ≡ w) bs
      → Turns S ((w, any_of (p ∷ ps)) ∷ (bs ++ R)) ((w, any_of ((p ∷ ps) ++ map (λ (b : Waiting × Tree). b.1) bs)) ∷ R)
  gathered w p ps [] R e all = subst (λ l. Turns S ((w, any_of (p ∷ ps)) ∷ R) ((w, any_of l) ∷ R)) (sym (append-nil (p ∷ ps))) (turns_itself ((w, any_of (p ∷ ps)) ∷ R))
  gathered w p ps (b ∷ bs) R e all =
      subst (λ v. Turns S ((w, any_of (p ∷ ps)) ∷ ((v, b.1) ∷ (bs ++ R))) ((w, any_of ((p ∷ ps) ++ b.1 ∷ rest)) ∷ R)) (sym all.0)
      (turns_on together (turns_on joined
      (subst (λ l. Turns S ((w, any_of (p ∷ (ps ++ b.1 ∷ []))) ∷ (bs ++ R)) ((w, any_of l) ∷ R)) (append_assoc (p ∷ ps) (b.1 ∷ []) rest)
      (gathered w p (ps ++ b.1 ∷ []) bs R e all.1))))
    where
      rest : List Tree
      rest = map (λ (c : Waiting × Tree). c.1) bs

      together : Turns S ((w, any_of (p ∷ ps)) ∷ ((w, b.1) ∷ (bs ++ R))) ((w, alt (guarded ((ready, any_of (p ∷ ps)) ∷ ((ready, b.1) ∷ [])))) ∷ (bs ++ R))
      together = record { leads = λ k. law_leads S 34 (same_law S no_branch no_branch (guarded (bs ++ R)) (truth true) w (any_of (p ∷ ps)) b.1 e k) }

      joined : Turns S ((w, alt (guarded ((ready, any_of (p ∷ ps)) ∷ ((ready, b.1) ∷ [])))) ∷ (bs ++ R)) ((w, any_of (p ∷ (ps ++ b.1 ∷ []))) ∷ (bs ++ R))
      joined = process_turns w (alt (guarded ((ready, any_of (p ∷ ps)) ∷ ((ready, b.1) ∷ [])))) (any_of (p ∷ (ps ++ b.1 ∷ []))) (bs ++ R)
          (subst (λ l. Turns S ((ready, any_of (p ∷ ps)) ∷ ((ready, b.1) ∷ [])) l) (rows_append (p ∷ ps) b.1)
          (flattens (map (λ (q : Tree). (ready, q)) (p ∷ ps)) ((ready, b.1) ∷ []) refl)).leads

  -- such events as one
  pub events_join : (b : Waiting × Tree) (bs R : List (Waiting × Tree)) → is_event b.0 ≡ true → AllByRecursion (λ (c : Waiting × Tree). c.0 ≡ b.0) bs
      → Turns S ((b ∷ bs) ++ R) ((b.0, any_of (b.1 ∷ map (λ (c : Waiting × Tree). c.1) bs)) ∷ R)
  events_join b bs R e all =
      turns_on (process_turns b.0 b.1 (any_of (b.1 ∷ [])) (bs ++ R) (λ k. law_leads_back S 30 (law_skip S b.1 k))) (gathered b.0 b.1 [] bs R e all)
