-- A map that takes the numbers of one list of parameters to those of another one, and no two numbers to one.
use Rattle.std.proofs.Common.{◌≡◌, ℕ, true, ◌==◌, not, ◌&&◌, List, [], ◌∷◌, refl, sym, ap, ap₂, ◌∙◌}
use Rattle.std.specs.List.{list_all}
use Rattle.std.proofs.lemmas.Bool.{and_parts, both_ways, eq-eqb, not-true}
use Rattle.occ_nform.specs.occ_base.declared.names.Name.{Name}
use Rattle.occ_renamed.specs.occ_meaning.Rename.{exchanging}
use Rattle.occ_read_renamed.proofs.Exchanges.{Exchanges, applied, exchanges_one, left_alone, to_second}
use Rattle.occ_read_renamed.proofs.Headers.{AreLike, Table}
use Rattle.occ_nform.proofs.from_nform_table.ReadEvents.{Apart}
use Rattle.occ_renamed.specs.Renamed.{kinds_renamed}
use Rattle.occ_nform.specs.occ_syntax.declared.scope.Kind.{Kind}

-- no parameter has the number
abbrev lack : ℕ → (ℕ → ℕ) → List (Name × Kind) → Type 0
lack n g ps = list_all (λ (q : Name × Kind). not (g q.0.0 == n)) ps ≡ true

differs : (m n : ℕ) → not (m == n) ≡ true → m ≡ n → ⊥
differs m n h e = both_ways (m == n) (not-true (m == n) h) (eq-eqb m n e)

-- an exchange of two numbers that no parameter has
stay : (a b : ℕ) (g : ℕ → ℕ) (ps : List (Name × Kind)) → lack a g ps → lack b g ps → kinds_renamed (λ x. exchanging a b (g x)) ps ≡ kinds_renamed g ps
stay a b g [] h k = refl
stay a b g (p ∷ ps) h k =
    let first = and_parts (not (g p.0.0 == a)) (list_all (λ (q : Name × Kind). not (g q.0.0 == a)) ps) h in
    let second = and_parts (not (g p.0.0 == b)) (list_all (λ (q : Name × Kind). not (g q.0.0 == b)) ps) k in
    ap₂ (λ x qs. (record { 0 = x }, p.1) ∷ qs) (left_alone a b (g p.0.0) (differs (g p.0.0) a first.0) (differs (g p.0.0) b second.0)) (stay a b g ps first.1 second.1)

lack_same : (n : ℕ) (g : ℕ → ℕ) (ps : List (Name × Kind)) → list_all (λ (q : Name × Kind). not (q.0.0 == n)) (kinds_renamed g ps) ≡ list_all (λ (q : Name × Kind). not (g q.0.0 == n)) ps
lack_same n g [] = refl
lack_same n g (p ∷ ps) = ap (λ b. not (g p.0.0 == n) && b) (lack_same n g ps)

lack_under : (pairs : Exchanges) (n : ℕ) (ps : List (Name × Kind)) → list_all (λ (q : Name × Kind). not (applied pairs q.0.0 == applied pairs n)) ps ≡ list_all (λ (q : Name × Kind). not (q.0.0 == n)) ps
lack_under pairs n [] = refl
lack_under pairs n (p ∷ ps) = ap₂ (λ b c. not b && c) (exchanges_one pairs p.0.0 n) (lack_under pairs n ps)

-- from the numbers of the first list to those of the second
abbrev pub exchanges_of : List (Name × Kind) → List (Name × Kind) → Exchanges
exchanges_of [] qs = []
exchanges_of (p ∷ ps) [] = []
exchanges_of (p ∷ ps) (q ∷ qs) = (applied (exchanges_of ps qs) p.0.0, q.0.0) ∷ exchanges_of ps qs

pub exchanged_so : (names other : Table) (ps qs : List (Name × Kind)) → Apart ps → Apart qs → AreLike names other ps qs → kinds_renamed (applied (exchanges_of ps qs)) ps ≡ qs
exchanged_so names other [] [] h k like = refl
exchanged_so names other [] (q ∷ qs) h k like = absurd like
exchanged_so names other (p ∷ ps) [] h k like = absurd like
exchanged_so names other (p ∷ ps) (q ∷ qs) h k like =
    let pairs = exchanges_of ps qs in
    let g = applied pairs in
    let later : kinds_renamed g ps ≡ qs = exchanged_so names other ps qs h.1 k.1 like.2 in
    let first : lack (g p.0.0) g ps = lack_under pairs p.0.0 ps ∙ h.0 in
    let second : lack q.0.0 g ps = sym (lack_same q.0.0 g ps) ∙ (ap (list_all (λ (r : Name × Kind). not (r.0.0 == q.0.0))) later ∙ k.0) in
    let head = to_second (g p.0.0) q.0.0 in
    let rest = stay (g p.0.0) q.0.0 g ps first second ∙ later in
    λ i. (record { 0 = head i }, like.1 i) ∷ rest i
