-- Acceptances have all branches of an ALT that have their guards, and none of them has all events of another.
use Rattle.std.proofs.Common.{◌≡◌, ◌∙◌, ℕ, ◌<◌, true, List, [], ◌∷◌, ◌++◌, refl, sym, ap, subst, inl, inr, ◌⊎◌, arith}
use Rattle.std.proofs.lemmas.Bool.{cases_order}
use Rattle.occ_complete_states.specs.occ_derive_moves.Settled.{IsEventGuard}
use Rattle.occ_complete_states.specs.Headers.{IsHeader}
use Rattle.occ_complete_states.specs.States.{scope_of}
use Rattle.occ_complete.proofs.Blocks.{blocks, blocks_in, guards_wait, in_blocks, in_keys, key_in, keys, one_place}
use Rattle.occ_complete.proofs.Sets.{Decided, Same, Within, both_within, flat, numbers_within, same_both, same_itself, same_more, same_on, same_turned, same_back}
use Rattle.occ_complete.proofs.Turning.{Turns, acceptance_goes, acceptance_grows, acceptance_turns, are_all_events, same_turns, turns_itself, turns_on}
use Rattle.occ_engine.specs.occ_law.Choice.{are_events}
use Rattle.occ_complete_states.specs.occ_nform_table.Lines.{HaveWidths}
use Rattle.occ_complete_states.specs.occ_nform_table.Lists.{In}
use Rattle.occ_engine.specs.occ_syntax.Tree.{Tree, Waiting}
use Rattle.occ_complete_states.specs.occ_target.Rows.{guarded}
use Rattle.occ_complete_states.proofs.from_target_laws.Lists.{in_left, in_right}
use Rattle.occ_complete_states.specs.occ_target_laws.Shapes.{Header, accepting, place}

module _ (h : Header) (is : IsHeader h) (wide : HaveWidths h.params) (E : List (Waiting × Tree)) (guards : (b : Waiting × Tree) → In b E → IsEventGuard h b.0) where
  on : {xs ys zs : List (Waiting × Tree)} → Turns (scope_of h) xs ys → Turns (scope_of h) ys zs → Turns (scope_of h) xs zs
  on a b = turns_on (scope_of h) is.kept a b

  by_same : {xs ys : List (Waiting × Tree)} → Same xs ys → Turns (scope_of h) xs ys
  by_same s = same_turns (scope_of h) is.kept s

  pub waits : (A : List (Waiting × Tree)) → Within A E → are_events (guarded A) ≡ true
  waits A f = are_all_events A (λ b i. guards_wait h b.0 (guards b (f b i)))

  abbrev pub share : List ℕ → Waiting × Tree
  share ks = accepting (blocks h E ks)

  share_waits : (ks : List ℕ) → are_events (guarded (blocks h E ks)) ≡ true
  share_waits ks = waits (blocks h E ks) (λ b i. (in_blocks h E ks b i).0)

  -- ---- one acceptance

  module _ (A : List (Waiting × Tree)) (some : Within A E) where
    abbrev IsAlike : Waiting × Tree → Type 0
    IsAlike b = (c : Waiting × Tree) × In c A × (place h c ≡ place h b)

    alike_in : (b : Waiting × Tree) (L : List (Waiting × Tree)) → Decided ((c : Waiting × Tree) × In c L × (place h c ≡ place h b))
    alike_in b [] = inr (λ r. r.1)
    alike_in b (c ∷ L) = go (cases_order (place h c) (place h b)) (alike_in b L)
      where
        other : (place h c ≡ place h b → ⊥) → Decided ((d : Waiting × Tree) × In d L × (place h d ≡ place h b))
            → Decided ((d : Waiting × Tree) × In d (c ∷ L) × (place h d ≡ place h b))
        other f (inl r) = inl (r.0, inr r.1, r.2)
        other f (inr g) = inr (λ r. elim r.1 [ inl e ↦ f (ap (place h) (sym e) ∙ r.2) | inr i ↦ g (r.0, i, r.2) ])

        go : (place h c ≡ place h b) ⊎ ((place h c < place h b) ⊎ (place h b < place h c)) → Decided ((d : Waiting × Tree) × In d L × (place h d ≡ place h b))
            → Decided ((d : Waiting × Tree) × In d (c ∷ L) × (place h d ≡ place h b))
        go (inl e) d = inl (c, inl refl, e)
        go (inr (inl l)) d = other (λ e. omega (arith, l, e)) d
        go (inr (inr l)) d = other (λ e. omega (arith, l, e)) d

    -- the acceptance with some more branches: those of a list whose guards it has
    record Grown (L : List (Waiting × Tree)) : Type 0 where
      more : List (Waiting × Tree)
      turns : (R : List (Waiting × Tree)) → Turns (scope_of h) (E ++ accepting A ∷ R) (E ++ accepting (more ++ A) ∷ R)
      has : (b : Waiting × Tree) → In b L → IsAlike b → In b more
      only : (b : Waiting × Tree) → In b more → In b E × IsAlike b

    one_more : (b : Waiting × Tree) (L : List (Waiting × Tree)) → In b E → Grown L → Decided (IsAlike b) → Grown (b ∷ L)
    one_more b L i r (inl c) = record {
      more = b ∷ r.more;
      turns = λ R. on (r.turns R) (acceptance_grows (scope_of h) is.kept E (r.more ++ A) R b.0 b.1 c.0.1 (guards_wait h b.0 (guards b i)) i (in_right r.more A (b.0, c.0.1) there));
      has = λ d j k. elim j [ inl e ↦ inl e | inr l ↦ inr (r.has d l k) ];
      only = λ d j. own d j;
    }
      where
        there : In (b.0, c.0.1) A
        there = subst (λ w. In (w, c.0.1) A) (one_place h is wide c.0 b (guards c.0 (some c.0 c.1)) (guards b i) c.2) c.1

        own : (d : Waiting × Tree) → In d (b ∷ r.more) → In d E × IsAlike d
        own d (inl e) = subst (λ z. In z E × IsAlike z) (sym e) (i, c)
        own d (inr j) = r.only d j
    one_more b L i r (inr g) = record {
      more = r.more;
      turns = r.turns;
      has = λ d j k. elim j [ inl e ↦ absurd (g (subst IsAlike e k)) | inr l ↦ r.has d l k ];
      only = r.only;
    }

    grown : (L : List (Waiting × Tree)) → Within L E → Grown L
    grown [] f = record { more = []; turns = λ R. turns_itself (scope_of h) is.kept (E ++ accepting A ∷ R); has = λ b i k. i; only = λ b i. absurd i }
    grown (b ∷ L) f = one_more b L (f b (inl refl)) (grown L (λ c i. f c (inr i))) (alike_in b A)

    -- it has all branches of the ALT that have its guards
    pub shares : (R : List (Waiting × Tree)) → Turns (scope_of h) (E ++ accepting A ∷ R) (E ++ share (keys h A) ∷ R)
    shares R =
        let g = grown E (λ b i. i) in
        on (g.turns R) (on (by_same (same_turned E (accepting (g.more ++ A) ∷ []) R))
        (on (acceptance_turns (scope_of h) is.kept (E ++ R) (by_same (all_same g))) (by_same (same_turned (share (keys h A) ∷ []) E R))))
      where
        all_same : (g : Grown E) → Same (g.more ++ A) (blocks h E (keys h A))
        all_same g = record {
          there = both_within g.more A (blocks h E (keys h A))
              (λ b i. let r = g.only b i in blocks_in h E (keys h A) b r.0 (subst (λ k. In k (keys h A)) r.1.2 (key_in h A r.1.0 r.1.1)))
              (λ b i. blocks_in h E (keys h A) b (some b i) (key_in h A b i));
          back = λ b i. let r = in_blocks h E (keys h A) b i in
              let c = in_keys h A (place h b) r.1 in
              in_left g.more A b (g.has b r.0 (c.0, c.1, sym c.2));
        }

  -- ---- least acceptances

  abbrev pub each_share : List (List ℕ) → List (Waiting × Tree)
  each_share sets = flat (λ ks. share ks ∷ []) sets

  -- the less of two goes with the other
  less_stays : (ks ls : List ℕ) (R : List (Waiting × Tree)) → Within ks ls → Turns (scope_of h) (E ++ share ks ∷ (share ls ∷ R)) (E ++ share ks ∷ R)
  less_stays ks ls R f =
      acceptance_goes (scope_of h) is.kept E (blocks h E ks) (blocks h E ls) R (share_waits ks) (share_waits ls)
      (λ b i. let r = in_blocks h E ks b i in blocks_in h E ls b r.0 (f (place h b) r.1)) (λ b i. (in_blocks h E ls b i).0)

  behind_events : {xs ys : List (Waiting × Tree)} → Same xs ys → Turns (scope_of h) (E ++ xs) (E ++ ys)
  behind_events {xs} {ys} s = by_same (same_both E E xs ys (same_itself E) s)

  second_first : (x y : Waiting × Tree) (R : List (Waiting × Tree)) → Same (x ∷ (y ∷ R)) (y ∷ (x ∷ R))
  second_first x y R = same_turned (x ∷ []) (y ∷ []) R

  -- those go that have all events of this one
  record Beside (ks : List ℕ) (sets : List (List ℕ)) : Type 0 where
    kept : List (List ℕ)
    inside : Within kept sets
    none : (ls : List ℕ) → In ls kept → Within ks ls → ⊥
    turns : (R : List (Waiting × Tree)) → Turns (scope_of h) (E ++ share ks ∷ (each_share sets ++ R)) (E ++ share ks ∷ (each_share kept ++ R))

  beside : (ks : List ℕ) (sets : List (List ℕ)) → Beside ks sets
  beside ks [] = record { kept = []; inside = λ l i. i; none = λ l i f. i; turns = λ R. turns_itself (scope_of h) is.kept (E ++ share ks ∷ R) }
  beside ks (ls ∷ sets) = go (numbers_within ks ls) (beside ks sets)
    where
      go : Decided (Within ks ls) → Beside ks sets → Beside ks (ls ∷ sets)
      go (inl f) r = record {
        kept = r.kept;
        inside = λ l i. inr (r.inside l i);
        none = r.none;
        turns = λ R. on (less_stays ks ls (each_share sets ++ R) f) (r.turns R);
      }
      go (inr g) r = record {
        kept = ls ∷ r.kept;
        inside = λ l i. elim i [ inl e ↦ inl e | inr j ↦ inr (r.inside l j) ];
        none = λ l i f. elim i [ inl e ↦ g (subst (λ z. Within ks z) e f) | inr j ↦ r.none l j f ];
        turns = λ R. on (behind_events (same_both (share ks ∷ []) (share ks ∷ []) (share ls ∷ (each_share sets ++ R)) (each_share sets ++ share ls ∷ R)
            (same_itself (share ks ∷ [])) (same_turned (share ls ∷ []) (each_share sets) R)))
            (on (r.turns (share ls ∷ R)) (behind_events (same_both (share ks ∷ []) (share ks ∷ []) (each_share r.kept ++ share ls ∷ R) (share ls ∷ (each_share r.kept ++ R))
            (same_itself (share ks ∷ [])) (same_turned (each_share r.kept) (share ls ∷ []) R))));
      }

  -- none has all events of another
  pub record AreLeast (sets : List (List ℕ)) : Type 0 where
    pub kept : List (List ℕ)
    pub inside : Within kept sets
    pub apart : (ks ls : List ℕ) → In ks kept → In ls kept → Within ks ls → ks ≡ ls
    pub turns : (R : List (Waiting × Tree)) → Turns (scope_of h) (E ++ (each_share sets ++ R)) (E ++ (each_share kept ++ R))
    pub some : kept ≡ [] → sets ≡ []

  less_in : (ks : List ℕ) (sets : List (List ℕ)) → Decided ((ls : List ℕ) × In ls sets × Within ls ks)
  less_in ks [] = inr (λ r. r.1)
  less_in ks (ls ∷ sets) = go (numbers_within ls ks) (less_in ks sets)
    where
      go : Decided (Within ls ks) → Decided ((l : List ℕ) × In l sets × Within l ks) → Decided ((l : List ℕ) × In l (ls ∷ sets) × Within l ks)
      go (inl f) d = inl (ls, inl refl, f)
      go (inr g) (inl r) = inl (r.0, inr r.1, r.2)
      go (inr g) (inr k) = inr (λ r. elim r.1 [ inl e ↦ g (subst (λ z. Within z ks) e r.2) | inr i ↦ k (r.0, i, r.2) ])

  share_in : (sets : List (List ℕ)) (ls : List ℕ) → In ls sets → In (share ls) (each_share sets)
  share_in [] ls i = absurd i
  share_in (ks ∷ sets) ls (inl e) = inl (ap share e)
  share_in (ks ∷ sets) ls (inr i) = inr (share_in sets ls i)

  one_set : (ks : List ℕ) (sets : List (List ℕ)) (r : AreLeast sets) → Decided ((ls : List ℕ) × In ls r.kept × Within ls ks) → AreLeast (ks ∷ sets)
  one_set ks sets r (inl d) = record {
    kept = r.kept;
    inside = λ l i. inr (r.inside l i);
    apart = r.apart;
    turns = λ R. on (behind_events (same_turned (share ks ∷ []) (each_share sets) R)) (on (r.turns (share ks ∷ R)) (goes R));
    some = λ e. absurd (subst (λ l. In d.0 l) e d.1);
  }
    where
      more : (R : List (Waiting × Tree)) → Same (each_share r.kept ++ R) (share d.0 ∷ (each_share r.kept ++ R))
      more R = same_more (share d.0) (each_share r.kept ++ R) (in_left (each_share r.kept) R (share d.0) (share_in r.kept d.0 d.1))

      goes : (R : List (Waiting × Tree)) → Turns (scope_of h) (E ++ (each_share r.kept ++ share ks ∷ R)) (E ++ (each_share r.kept ++ R))
      goes R =
          on (behind_events (same_on (same_turned (each_share r.kept) (share ks ∷ []) R) (same_on
          (same_both (share ks ∷ []) (share ks ∷ []) (each_share r.kept ++ R) (share d.0 ∷ (each_share r.kept ++ R)) (same_itself (share ks ∷ [])) (more R))
          (second_first (share ks) (share d.0) (each_share r.kept ++ R)))))
          (on (less_stays d.0 ks (each_share r.kept ++ R) d.2) (behind_events (same_back (more R))))
  one_set ks sets r (inr g) =
      let b = beside ks r.kept in
      record {
        kept = ks ∷ b.kept;
        inside = λ l i. elim i [ inl e ↦ inl e | inr j ↦ inr (r.inside l (b.inside l j)) ];
        apart = all_apart b;
        turns = λ R. on (behind_events (same_turned (share ks ∷ []) (each_share sets) R)) (on (r.turns (share ks ∷ R))
            (on (behind_events (same_turned (each_share r.kept) (share ks ∷ []) R)) (b.turns R)));
        some = λ e. cc;
      }
    where
      all_apart : (b : Beside ks r.kept) → (k l : List ℕ) → In k (ks ∷ b.kept) → In l (ks ∷ b.kept) → Within k l → k ≡ l
      all_apart b k l (inl e) (inl f) w = e ∙ sym f
      all_apart b k l (inl e) (inr j) w = absurd (b.none l j (subst (λ z. Within z l) e w))
      all_apart b k l (inr i) (inl f) w = absurd (g (k, b.inside k i, subst (λ z. Within k z) f w))
      all_apart b k l (inr i) (inr j) w = r.apart k l (b.inside k i) (b.inside l j) w

  pub least_of : (sets : List (List ℕ)) → AreLeast sets
  least_of [] = record { kept = []; inside = λ l i. i; apart = λ k l i j w. absurd i; turns = λ R. turns_itself (scope_of h) is.kept (E ++ R); some = λ e. e }
  least_of (ks ∷ sets) = let r = least_of sets in one_set ks sets r (less_in ks r.kept)
