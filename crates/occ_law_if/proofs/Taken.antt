-- if-under as a change at a place, and its test there.
use Rattle.std.proofs.Common.{◌≡◌, ℕ, ◌↔◌, Bool, IsTrue, List, [], ◌∷◌, refl, sym, ◌∙◌, subst}
use Rattle.occ_syntax.specs.occ_base.declared.names.Name.{Name}
use Rattle.occ_syntax.specs.declared.scope.Kind.{Kind}
use Rattle.occ_syntax.specs.Tree.{Exp, Tree, assign, seq, select, alt, Trees, and_tree, Cases, no_case, and_case}
use Rattle.occ_law_shape.specs.occ_law.Choice.{IfUnder, under_assignment, under_seq, under_alt}
use Rattle.occ_law_shape.specs.occ_law.Lists.{all_cases, conditions, count}
use Rattle.occ_law_shape.specs.occ_law.States.{IsEqualWhere}
use Rattle.occ_law_if.specs.Places.{Somewhere, UnderHere, under_here}
use Rattle.occ_law_if.specs.Processes.{AssignmentsEqual, equal_assignments, ProcessesEqual, by_assignments, by_beginnings, by_branches}
use Rattle.occ_law_if.proofs.Fronts.{choice_is}
use Rattle.occ_law_if.proofs.Parted.{IsPlaced, placed}

-- ---- the law

of_assignments : (S : List (Name × Kind)) (front ds : Cases) (b : Exp) (p q : Tree) → AssignmentsEqual (IsEqualWhere S b (conditions front)) p q
    → IfUnder S (count front ∷ []) (select (all_cases front (and_case b p ds))) (select (all_cases front (and_case b q ds)))
of_assignments S front ds b p q (equal_assignments xs es fs h) = under_assignment front ds b xs es fs h

of_beginnings : (S : List (Name × Kind)) (front ds : Cases) (b : Exp) (ps : Trees) (p q : Tree) → AssignmentsEqual (IsEqualWhere S b (conditions front)) p q
    → IfUnder S (count front ∷ []) (select (all_cases front (and_case b (seq (and_tree p ps)) ds))) (select (all_cases front (and_case b (seq (and_tree q ps)) ds)))
of_beginnings S front ds b ps p q (equal_assignments xs es fs h) = under_seq front ds b xs es fs ps h

of_processes : (S : List (Name × Kind)) (front ds : Cases) (b : Exp) (p q : Tree) → ProcessesEqual (IsEqualWhere S b (conditions front)) p q
    → IfUnder S (count front ∷ []) (select (all_cases front (and_case b p ds))) (select (all_cases front (and_case b q ds)))
of_processes S front ds b p q (by_assignments h) = of_assignments S front ds b p q h
of_processes S front ds b p q (by_beginnings {p = l} {q = r} ps h) = of_beginnings S front ds b ps l r h
of_processes S front ds b p q (by_branches gs hs h) = under_alt front ds b gs hs h

under_out : (S : List (Name × Kind)) (front rest other : Cases) → UnderHere S front rest other → IfUnder S (count front ∷ []) (select (all_cases front rest)) (select (all_cases front other))
under_out S front rest other (under_here b p q ds h) = of_processes S front ds b p q h

under_at : (S : List (Name × Kind)) (front ds : Cases) (b : Exp) (p q : Tree) → ProcessesEqual (IsEqualWhere S b (conditions front)) p q
    → IsPlaced (UnderHere S) (select (all_cases front (and_case b p ds))) (select (all_cases front (and_case b q ds)))
under_at S front ds b p q h = record { front = front; rest = and_case b p ds; other = and_case b q ds; left = refl; right = refl; join = under_here b p q ds h }

under_into : (S : List (Name × Kind)) (place : List ℕ) (l r : Tree) → IfUnder S place l r → IsPlaced (UnderHere S) l r
under_into S place l r (under_assignment cs ds b xs es fs h) = under_at S cs ds b (assign xs es) (assign xs fs) (by_assignments (equal_assignments xs es fs h))
under_into S place l r (under_seq cs ds b xs es fs ps h) =
    under_at S cs ds b (seq (and_tree (assign xs es) ps)) (seq (and_tree (assign xs fs) ps)) (by_beginnings ps (equal_assignments xs es fs h))
under_into S place l r (under_alt cs ds b gs hs h) = under_at S cs ds b (alt gs) (alt hs) (by_branches gs hs h)

pub under_placed : (S : List (Name × Kind)) (cs ds : Cases) (l r : Tree) → select cs ≡ l → select ds ≡ r → Somewhere (UnderHere S) no_case cs ds ↔ ((place : List ℕ) × IfUnder S place l r)
under_placed S = placed (UnderHere S) (IfUnder S) (under_out S) (under_into S)

-- ---- the test at a place

under_rest : (S : List (Name × Kind)) {front ds es : Cases} {b c : Exp} {p q : Tree} → UnderHere S front (and_case b p ds) (and_case c q es)
    → (b ≡ c) × (ds ≡ es) × ProcessesEqual (IsEqualWhere S b (conditions front)) p q
under_rest S (under_here b p q ds h) = (refl, refl, h)

-- two lists with a first choice each, of which the changed one is the first
under_first : (S : List (Name × Kind)) (front xs us : Cases) (b c : Exp) (p q : Tree) (ds es : Cases) → xs ≡ and_case b p ds → us ≡ and_case c q es → UnderHere S front xs us
    → (b ≡ c) × (ds ≡ es) × ProcessesEqual (IsEqualWhere S b (conditions front)) p q
under_first S front xs us b c p q ds es e f j = under_rest S (subst (λ z. UnderHere S front (and_case b p ds) z) f (subst (λ z. UnderHere S front z us) e j))

pub under_test : (S : List (Name × Kind)) (front xs us : Cases) (b c : Exp) (p q : Tree) (ds es : Cases) (a : Bool) → xs ≡ and_case b p ds → us ≡ and_case c q es → b ≡ c → ds ≡ es
    → (IsTrue a ↔ ProcessesEqual (IsEqualWhere S b (conditions front)) p q) → IsTrue a ↔ UnderHere S front xs us
under_test S front xs us b c p q ds es a e f g h test = (
  (λ t. subst (λ z. UnderHere S front z us) (sym e) (subst (λ z. UnderHere S front (and_case b p ds) z) (choice_is g refl h ∙ sym f) (under_here b p q ds (test.0 t)))),
  (λ j. test.1 (under_first S front xs us b c p q ds es e f j).2),
)

-- not where the conditions differ, or what stands behind
pub under_differs : (S : List (Name × Kind)) (front xs us : Cases) (b c : Exp) (p q : Tree) (ds es : Cases) → xs ≡ and_case b p ds → us ≡ and_case c q es → ((b ≡ c) × (ds ≡ es) → ⊥)
    → UnderHere S front xs us → ⊥
under_differs S front xs us b c p q ds es e f differ j = let k = under_first S front xs us b c p q ds es e f j in differ (k.0, k.1)
