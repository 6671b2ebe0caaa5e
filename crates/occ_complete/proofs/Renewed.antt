-- A node whose events are followed as in a normal program is one of a normal program.
use Rattle.std.proofs.Common.{◌≡◌, ◌∙◌, ◌<◌, ◌==◌, ◌+◌, ℕ, zero, suc, Bool, true, false, List, [], ◌∷◌, length, map, Option, None, Some, if◌then◌else◌, refl, sym, ap, subst, inl, inr, ◌⊎◌, arith}
use Rattle.std.proofs.lemmas.Bool.{eqb-true, eq-eqb, true≢false}
use Rattle.std.proofs.lemmas.Nat.{pow_pos}
use Rattle.std.specs.List.{AllByRecursion}
use Rattle.occ_engine.specs.occ_base.declared.event.Dir.TheVariants.{Input, Output}
use Rattle.occ_engine.specs.occ_base.declared.event.Event.{Event}
use Rattle.occ_engine.specs.occ_base.Width.{bits_of}
use Rattle.occ_complete.specs.Followed.{IsFollowed, after_input, after_output, renewed, with_next}
use Rattle.occ_complete_states.specs.Nodes.{IsUnifiedNode}
use Rattle.occ_complete_states.specs.occ_nform_table.Judging.{text_less}
use Rattle.occ_complete_states.specs.occ_nform_table.Lines.{rank}
use Rattle.occ_complete_states.specs.occ_nform_table.Lists.{Chain, In}
use Rattle.occ_engine.specs.occ_syntax.Tree.{Cases, Exp, Tree, Waiting, and_case, input, no_case, output, select, stop}
use Rattle.occ_complete_states.specs.occ_target.Rows.{part_at, variable_of}
use Rattle.occ_complete_states.specs.occ_target.States.{is_at}
use Rattle.occ_complete_states.proofs.from_target_laws.Lists.{in_map, map_in, one_by_key}
use Rattle.occ_complete_states.specs.occ_target_laws.Shapes.{Header, IsNode, IsShaped, Leads, Node, branch_less, event, first_event, numbered, of_node, place, process_of, set_less}

-- ---- the processes of branches as a function: the place of the guard tells which

-- the process of the first branch at that place
abbrev found : Header → List (Waiting × Tree) → ℕ → Tree
found h [] k = stop
found h (c ∷ cs) k = if place h c == k then c.1 else found h cs k

-- branches with the same guards, and processes that are right for the first ones
abbrev AreRight : (Waiting × Tree → Tree → Type 0) → List (Waiting × Tree) → List (Waiting × Tree) → Type 0
AreRight P [] [] = Unit {0}
AreRight P (b ∷ bs) (c ∷ cs) = (b.0 ≡ c.0) × P b c.1 × AreRight P bs cs
AreRight P [] (c ∷ cs) = ⊥
AreRight P (b ∷ bs) [] = ⊥

found_right : (h : Header) (P : Waiting × Tree → Tree → Type 0) (before : Option (Waiting × Tree)) (bs cs : List (Waiting × Tree))
    → Chain (branch_less h) before bs → AreRight P bs cs → (b : Waiting × Tree) → In b bs → P b (found h cs (place h b))
found_right h P before [] cs chain a b i = absurd i
found_right h P before (x ∷ xs) [] chain a b i = absurd a
found_right h P before (x ∷ xs) (c ∷ cs) chain a b i = go (place h c == place h b) refl (found_right h P (Some x) xs cs chain.1 a.2 b) i
  where
    same : place h x ≡ place h c
    same = ap (λ w. rank h.params (first_event w)) a.0

    go : (t : Bool) → (place h c == place h b) ≡ t → (In b xs → P b (found h cs (place h b))) → (b ≡ x) ⊎ In b xs
        → P b (if t then c.1 else found h cs (place h b))
    go true e ih j =
        subst (λ z. P z c.1) (one_by_key (place h) before (x ∷ xs) chain x b (inl refl) i (same ∙ eqb-true (place h c) (place h b) e)) a.1
    go false e ih (inl f) = absurd (true≢false (sym (eq-eqb (place h c) (place h b) (sym same ∙ sym (ap (place h) f))) ∙ e))
    go false e ih (inr j) = ih j

rights : (P : Waiting × Tree → Tree → Type 0) (bs : List (Waiting × Tree)) → ((b : Waiting × Tree) → In b bs → (q : Tree) × P b q)
    → (cs : List (Waiting × Tree)) × AreRight P bs cs
rights P [] f = ([], tt)
rights P (b ∷ bs) f =
    let one = f b (inl refl) in
    let rest = rights P bs (λ c i. f c (inr i)) in
    ((b.0, one.0) ∷ rest.0, (refl, one.1, rest.1))

pub processes_by_branch : (h : Header) (P : Waiting × Tree → Tree → Type 0) (bs : List (Waiting × Tree)) → Chain (branch_less h) None bs
    → ((b : Waiting × Tree) → In b bs → (q : Tree) × P b q) → (f : Waiting × Tree → Tree) × ((b : Waiting × Tree) → In b bs → P b (f b))
processes_by_branch h P bs chain f =
    let r = rights P bs f in
    (λ b. found h r.0 (place h b), λ b i. found_right h P None bs r.0 chain r.1 b i)

-- ---- what follows an event

pub next_leads : (h : Header) (g : Waiting) (q : Tree) → IsFollowed h g q → (e : Event) × (p : Tree) × Leads h (g, q) e p
next_leads h g q (after_output c w v p channel less shaped) =
    (event c Output v, p, inl (record { width = w; dir = refl; channel = channel; value = less; branch = refl }))
next_leads h g q (after_input c w parts channel count all) = (
  event c Input 0,
  part_at parts 0,
  inr (record { width = w; parts = parts; dir = refl; channel = channel; value = pow_pos (bits_of w); count = count; branch = refl; next = refl }),
)

-- the processes of choices
abbrev processes_of : Cases → List Tree
processes_of no_case = []
processes_of (and_case b p cs) = p ∷ processes_of cs

abbrev choices_in : Tree → List Tree
choices_in (select cs) = processes_of cs
choices_in p = []

numbered_back : (test : ℕ → Exp) (k : ℕ) (ps : List Tree) → processes_of (numbered test k ps) ≡ ps
numbered_back test k [] = refl
numbered_back test k (p ∷ ps) = ap (λ z. p ∷ z) (numbered_back test (k + 1) ps)

each_at : (P : Tree → Type 0) (ps : List Tree) → AllByRecursion P ps → (i : ℕ) → i < length ps → P (part_at ps i)
each_at P [] all i l = absurd (omega (arith, l))
each_at P (p ∷ ps) all zero l = all.0
each_at P (p ∷ ps) all (suc i) l = each_at P ps all.1 i (omega (arith, l))

pub shaped_behind : (h : Header) (g : Waiting) (q : Tree) → IsFollowed h g q → (e : Event) (p : Tree) → Leads h (g, q) e p → IsShaped h p
shaped_behind h g q (after_output c w v r channel less shaped) e p (inl k) = subst (IsShaped h) (ap (λ (b : Waiting × Tree). b.1) k.branch) shaped
shaped_behind h g q (after_output c w v r channel less shaped) e p (inr k) = no_input (ap (λ (b : Waiting × Tree). b.0) k.branch)
  where
    no_input : {A : Type 0} {a x b : ℕ} {f : Exp} → output a f ≡ input b x → A
    no_input n = absurd (cc)
shaped_behind h g q (after_input c w parts channel count all) e p (inl k) = no_output (ap (λ (b : Waiting × Tree). b.0) k.branch)
  where
    no_output : {A : Type 0} {a x b : ℕ} {f : Exp} → input b x ≡ output a f → A
    no_output n = absurd (cc)
shaped_behind h g q (after_input c w parts channel count all) e p (inr k) =
    let same : parts ≡ k.parts = sym (numbered_back (is_at (variable_of h.inputs w) w) 0 parts)
    ∙ ap (λ (b : Waiting × Tree). choices_in b.1) k.branch ∙ numbered_back (is_at (variable_of h.inputs k.width) k.width) 0 k.parts in
    let less = k.value in
    let size = k.count in
    subst (IsShaped h) (sym k.next) (each_at (IsShaped h) k.parts (subst (AllByRecursion (IsShaped h)) same all) e.value (omega (arith, less, size)))

-- ---- the node

module _ (h : Header) (f : Waiting × Tree → Tree) where
  chain_behind : (b : Waiting × Tree) (bs : List (Waiting × Tree)) → Chain (branch_less h) (Some b) bs
      → Chain (branch_less h) (Some (with_next f b)) (map (with_next f) bs)
  chain_behind b [] k = tt
  chain_behind b (c ∷ cs) k = (k.0, chain_behind c cs k.1)

  chain_renewed : (bs : List (Waiting × Tree)) → Chain (branch_less h) None bs → Chain (branch_less h) None (map (with_next f) bs)
  chain_renewed [] k = tt
  chain_renewed (c ∷ cs) k = (k.0, chain_behind c cs k.1)

  same_places : (bs : List (Waiting × Tree)) → map (place h) (map (with_next f) bs) ≡ map (place h) bs
  same_places [] = refl
  same_places (b ∷ bs) = ap (λ z. place h b ∷ z) (same_places bs)

  sets_behind : (s : List (Waiting × Tree)) (sets : List (List (Waiting × Tree))) → Chain (set_less h) (Some s) sets
      → Chain (set_less h) (Some (map (with_next f) s)) (map (map (with_next f)) sets)
  sets_behind s [] k = tt
  sets_behind s (u ∷ sets) k = ((λ i. text_less (same_places s i) (same_places u i)) ∙ k.0, sets_behind u sets k.1)

  sets_renewed : (sets : List (List (Waiting × Tree))) → Chain (set_less h) None sets → Chain (set_less h) None (map (map (with_next f)) sets)
  sets_renewed [] k = tt
  sets_renewed (s ∷ sets) k = (k.0, sets_behind s sets k.1)

  none_mapped : (sets : List (List (Waiting × Tree))) → map (map (with_next f)) sets ≡ [] → sets ≡ []
  none_mapped [] e = refl
  none_mapped (s ∷ sets) e = absurd (cc)

  module _ (Next : Waiting → Tree → Type 0) (n : Node) (u : IsUnifiedNode h Next n) (next : (b : Waiting × Tree) → In b n.events → IsFollowed h b.0 (f b)) where
    within : (set : List (Waiting × Tree)) → In set (map (map (with_next f)) n.accepts) → (b : Waiting × Tree) → In b set
        → In b (map (with_next f) n.events)
    within set i b j =
        let one = map_in (map (with_next f)) n.accepts set i in
        let c = map_in (with_next f) one.0 b (subst (In b) one.2 j) in
        subst (λ z. In z (map (with_next f) n.events)) (sym c.2) (in_map (with_next f) n.events c.0 (u.within one.0 one.1 c.0 c.1))

    least : (set other : List (Waiting × Tree)) → In set (map (map (with_next f)) n.accepts) → In other (map (map (with_next f)) n.accepts)
        → ((b : Waiting × Tree) → In b other → In b set) → other ≡ set
    least set other i j sub =
        let s = map_in (map (with_next f)) n.accepts set i in
        let o = map_in (map (with_next f)) n.accepts other j in
        let same : o.0 ≡ s.0 = u.least s.0 o.0 s.1 o.1 (λ b k. (
        let c = map_in (with_next f) s.0 (with_next f b)
        (subst (In (with_next f b)) s.2 (sub (with_next f b) (subst (In (with_next f b)) (sym o.2) (in_map (with_next f) o.0 b k)))) in
        subst (λ z. In z s.0)
        (sym (one_by_key (place h) None n.events u.rising b c.0 (u.within o.0 o.1 b k) (u.within s.0 s.1 c.0 c.1) (ap (place h) c.2))) c.1
        )) in
        o.2 ∙ ap (map (with_next f)) same ∙ sym s.2

    is_node : IsNode h (renewed f n)
    is_node = record {
      events = λ b i. (
          let c = map_in (with_next f) n.events b i in
          let l = next_leads h c.0.0 (f c.0) (next c.0 c.1) in
          (l.0, l.1, subst (λ z. Leads h z l.0 l.1) (sym c.2) l.2)
          );
      rising = chain_renewed n.events u.rising;
      within = within;
      accepts_in_order = λ set i. (
          let one = map_in (map (with_next f)) n.accepts set i in
          subst (Chain (branch_less h) None) (sym one.2) (chain_renewed one.0 (u.accepts_in_order one.0 one.1))
          );
      accepts_rising = sets_renewed n.accepts u.accepts_rising;
      least = least;
      states = u.states;
      ends_rising = u.ends_rising;
      full = λ a e. u.full (none_mapped n.accepts a) e;
    }

    pub renewed_shaped : IsShaped h (process_of h (renewed f n))
    renewed_shaped = of_node (process_of h (renewed f n)) (renewed f n) refl is_node (λ b e q i l. (
        let c = map_in (with_next f) n.events b i in
        shaped_behind h c.0.0 (f c.0) (next c.0 c.1) e q (subst (λ z. Leads h z e q) c.2 l)
        ))
