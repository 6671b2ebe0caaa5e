-- IFs with a last choice, whose processes are put into others.
use Rattle.std.proofs.Common.{arith, ◌≡◌, ◌≤◌, ◌+◌, ℕ, List, ◌∷◌, refl, ap, subst, sym}
use Rattle.occ_engine.specs.occ_base.declared.names.Name.{Name}
use Rattle.occ_complete_states.specs.occ_derive_moves.Weight.{heaviest_case, weight}
use Rattle.occ_complete.specs.Headed.{HasHead}
use Rattle.occ_complete_states.proofs.Leading.{spares_itself, spares_on}
use Rattle.occ_complete_states.specs.Few.{CasesFew, IsFew}
use Rattle.occ_complete_states.specs.Heads.{IsHead, chooses, or_else}
use Rattle.occ_complete_states.specs.Leads.{LeadsSparing}
use Rattle.occ_engine.specs.occ_law.Lists.{conditions}
use Rattle.occ_engine.specs.occ_law.States.{AreFew}
use Rattle.occ_engine.specs.occ_syntax.declared.scope.Kind.{Kind}
use Rattle.occ_engine.specs.occ_syntax.Tree.{Cases, Tree, and_case, no_case, select}

-- a part that leads to one with a head, which is no heavier
pub first_then : (S : List (Name × Kind)) {p q : Tree} → LeadsSparing S p q → weight q ≤ weight p → HasHead S q → HasHead S p
first_then S a w t = record { head = t.head; leads = spares_on S a t.leads; is = t.is; light = (let l = t.light in omega (arith, w, l)); few = t.few }

-- a head leads to itself
pub its_own : (S : List (Name × Kind)) (p : Tree) → IsHead p → IsFew S p → HasHead S p
its_own S p is few = record { head = p; leads = spares_itself S p; is = is; light = omega arith; few = few }

-- ---- choices

abbrev pub each_case : (Tree → Tree) → Cases → Cases
each_case f no_case = no_case
each_case f (and_case b p cs) = and_case b (f p) (each_case f cs)

same_conditions : (f : Tree → Tree) (cs : Cases) → conditions (each_case f cs) ≡ conditions cs
same_conditions f no_case = refl
same_conditions f (and_case b p cs) = ap (λ bs. b ∷ bs) (same_conditions f cs)

still_or_else : (f : Tree → Tree) (cs : Cases) (p : Tree) → each_case f (or_else cs p) ≡ or_else (each_case f cs) (f p)
still_or_else f no_case p = refl
still_or_else f (and_case b q cs) p = ap (and_case b (f q)) (still_or_else f cs p)

each_few : (S T : List (Name × Kind)) (f : Tree → Tree) (cs : Cases) → ((q : Tree) → IsFew T q → IsFew S (f q)) → CasesFew T cs → CasesFew S (each_case f cs)
each_few S T f no_case h few = tt
each_few S T f (and_case b p cs) h few = (h p few.0, each_few S T f cs h few.1)

each_weighs : (f : Tree → Tree) (n : ℕ) (cs : Cases) → ((q : Tree) → weight (f q) ≤ weight q + n) → heaviest_case (each_case f cs) ≤ heaviest_case cs + n
each_weighs f n no_case h = omega arith
each_weighs f n (and_case b p cs) h = let here = h p in let rest = each_weighs f n cs h in omega (arith, here, rest)

-- The IF is the head, where each process may be put into another one, which weighs n more: what is few in T is few there in S.
pub choices_head : (S T : List (Name × Kind)) (f : Tree → Tree) (n : ℕ) (cs : Cases) (p : Tree) {from : Tree}
    → LeadsSparing S from (select (each_case f (or_else cs p))) → AreFew S (conditions (or_else cs p)) → CasesFew T (or_else cs p)
    → ((q : Tree) → IsFew T q → IsFew S (f q)) → ((q : Tree) → weight (f q) ≤ weight q + n) → weight (select (or_else cs p)) + n ≤ weight from → HasHead S from
choices_head S T f n cs p {from} a few each h weighs w =
    let heaviest = each_weighs f n (or_else cs p) weighs in
    record {
      head = select (each_case f (or_else cs p));
      leads = a;
      is = subst (λ ds. IsHead (select ds)) (sym (still_or_else f cs p)) (chooses (each_case f cs) (f p));
      light = omega (arith, heaviest, w);
      few = (subst (AreFew S) (sym (same_conditions f (or_else cs p))) few, each_few S T f (or_else cs p) h each);
    }
