-- The head of the first part of a SEQ, and then the others.
use Rattle.std.proofs.Common.{arith, ◌≡◌, ◌≤◌, ◌+◌, ℕ, true, List, [], ◌∷◌, ◌++◌, refl, ap, subst}
use Rattle.occ_engine.specs.occ_base.declared.names.Name.{Name}
use Rattle.occ_engine.specs.occ_base.declared.width.Width.{Width}
use Rattle.occ_complete_states.specs.occ_derive_moves.Weight.{heaviest_branch, weight_of_all}
use Rattle.occ_complete.proofs.Bits.{few_there, more_counts}
use Rattle.occ_complete.proofs.Choices.{choices_head, each_case, first_then}
use Rattle.occ_complete.proofs.Renaming.{renewed}
use Rattle.occ_complete.specs.Headed.{HasHead}
use Rattle.occ_complete_states.proofs.from_derive_laws.Declared.{round_last, round_last_spares}
use Rattle.occ_complete_states.proofs.from_derive_laws.Behind.{alt_law, alt_spares, if_law, if_spares}
use Rattle.occ_complete_states.proofs.from_derive_laws.Turns.{first_keeps, flat_last_back, flat_last_spares_back, flat_law, flat_spares, skip_law, skip_spares}
use Rattle.occ_complete_states.proofs.Nowhere.{nowhere_declared}
use Rattle.occ_complete_states.proofs.Leading.{first_spares, law_spares, law_spares_back, spares_keep, spares_on}
use Rattle.occ_complete_states.specs.Few.{AllFew, BranchesFew, IsFew}
use Rattle.occ_complete_states.specs.Heads.{IsHead, assigns, assigns_first, chooses, declares, nothing, or_else, waits}
use Rattle.occ_complete_states.specs.Leads.{LeadsSparing}
use Rattle.occ_engine.specs.occ_law.Sequence.{each_branch_before, each_case_before}
use Rattle.occ_engine.specs.occ_meaning.Parallel.{one, two}
use Rattle.occ_engine.specs.occ_syntax.declared.scope.Kind.{Kind}
use Rattle.occ_engine.specs.occ_syntax.declared.scope.Kind.TheVariants.{Var}
use Rattle.occ_engine.specs.occ_syntax.Scopes.{environment}
use Rattle.occ_engine.specs.occ_syntax.Tree.{Branches, Cases, Exp, Tree, Trees, alt, and_branch, and_case, and_tree, assign, declare, no_branch, no_case, no_tree, select, seq, skip}
use Rattle.occ_engine.specs.occ_syntax.Types.{scope_kept}
use Rattle.occ_engine.specs.occ_syntax.Usage.{Keeps}

-- all parts but the first as one
grouped : (S : List (Name × Kind)) (p : Tree) (ps : Trees) → Keeps (environment S) (seq (and_tree p ps)) → LeadsSparing S (seq (and_tree p ps)) (seq (two p (seq ps)))
grouped S p ps k = law_spares_back S 3 (flat_last_back S (one p) ps k) (flat_last_spares_back (one p) ps)

nothing_before : (S : List (Name × Kind)) (ps : Trees) → Keeps (environment S) (seq (and_tree skip ps)) → HasHead S (seq ps) → HasHead S (seq (and_tree skip ps))
nothing_before S ps k t = first_then S (law_spares S 4 (skip_law S no_tree ps k) (skip_spares no_tree ps)) (omega arith) t

assignment_before : (S : List (Name × Kind)) (xs : List ℕ) (es : List Exp) (ps : Trees) → Keeps (environment S) (seq (and_tree (assign xs es) ps)) → AllFew S ps
    → HasHead S (seq (and_tree (assign xs es) ps))
assignment_before S xs es ps k few = record {
  head = seq (two (assign xs es) (seq ps));
  leads = grouped S (assign xs es) ps k;
  is = assigns_first xs es (seq ps);
  light = omega arith;
  few = (tt, (few, tt));
}

first_before : (S : List (Name × Kind)) (xs : List ℕ) (es : List Exp) (p : Tree) (ps : Trees) → Keeps (environment S) (seq (and_tree (seq (two (assign xs es) p)) ps))
    → IsFew S p → AllFew S ps → HasHead S (seq (and_tree (seq (two (assign xs es) p)) ps))
first_before S xs es p ps k few rest =
    let a = assign xs es in
    let law = flat_law S no_tree (two a p) ps k in
    first_then S (law_spares S 3 law (flat_spares no_tree (two a p) ps)) (omega arith) (assignment_before S xs es (and_tree p ps) law.right (few, rest))

-- ---- an IF, and an ALT

as_each : (cs : Cases) (ps : Trees) → each_case_before cs ps ≡ each_case (λ p. seq (and_tree p ps)) cs
as_each no_case ps = refl
as_each (and_case b p cs) ps = ap (and_case b (seq (and_tree p ps))) (as_each cs ps)

choice_before : (S : List (Name × Kind)) (cs : Cases) (p : Tree) (ps : Trees) → Keeps (environment S) (seq (and_tree (select (or_else cs p)) ps)) → IsFew S (select (or_else cs p))
    → AllFew S ps → HasHead S (seq (and_tree (select (or_else cs p)) ps))
choice_before S cs p ps k few rest =
    let from = seq (and_tree (select (or_else cs p)) ps) in
    choices_head S S (λ q. seq (and_tree q ps)) (weight_of_all ps) cs p
    (subst (λ ds. LeadsSparing S from (select ds)) (as_each (or_else cs p) ps) (law_spares S 12 (if_law S (or_else cs p) ps k) (if_spares (or_else cs p) ps)))
    few.0 few.1 (λ q f. (f, rest)) (λ q. omega arith) (omega arith)

branches_weigh : (gs : Branches) (ps : Trees) → heaviest_branch (each_branch_before gs ps) ≤ heaviest_branch gs + weight_of_all ps
branches_weigh no_branch ps = omega arith
branches_weigh (and_branch b w p gs) ps = let rest = branches_weigh gs ps in omega (arith, rest)

branches_few : (S : List (Name × Kind)) (gs : Branches) (ps : Trees) → BranchesFew S gs → AllFew S ps → BranchesFew S (each_branch_before gs ps)
branches_few S no_branch ps few rest = tt
branches_few S (and_branch b w p gs) ps few rest = ((few.0, rest), branches_few S gs ps few.1 rest)

alternatives_before : (S : List (Name × Kind)) (gs : Branches) (ps : Trees) → Keeps (environment S) (seq (and_tree (alt gs) ps)) → BranchesFew S gs → AllFew S ps
    → HasHead S (seq (and_tree (alt gs) ps))
alternatives_before S gs ps k few rest = record {
  head = alt (each_branch_before gs ps);
  leads = law_spares S 13 (alt_law S gs ps k) (alt_spares gs ps);
  is = waits (each_branch_before gs ps);
  light = (let w = branches_weigh gs ps in omega (arith, w));
  few = branches_few S gs ps few rest;
}

-- ---- a declaration

declared_before : (S : List (Name × Kind)) (x : ℕ) (w : Width) (p : Tree) (ps : Trees) → scope_kept S ≡ true → Keeps (environment S) (seq (and_tree (declare x w p) ps))
    → IsFew S (declare x w p) → AllFew S ps → HasHead S (seq (and_tree (declare x w p) ps))
declared_before S x w p ps h k few rest =
    let Γ = environment S in
    let d = declare x w p in
    let r = renewed S x w p (seq ps) (first_keeps Γ d ps k) few in
    let y = r.name in
    let group = grouped S d ps k in
    let other = first_spares S (one (seq ps)) r.leads in
    let both = spares_on S group other in
    let round = law_spares_back S 50 (round_last S y w r.part (seq ps) (spares_keep S h k both) (nowhere_declared (seq ps) y r.off)) (round_last_spares y w r.part (seq ps)) in
    record {
      head = declare y w (seq (two r.part (seq ps)));
      leads = spares_on S both round;
      is = declares y w (seq (two r.part (seq ps)));
      light = (let same = r.weighs in omega (arith, same));
      few = (r.few, (few_there y S (S ++ (record { 0 = y }, Var w) ∷ []) (seq ps) (more_counts S y (Var w)) r.off rest, tt));
    }

-- ---- whatever is first

head_before : (S : List (Name × Kind)) (p : Tree) (ps : Trees) → IsHead p → scope_kept S ≡ true → Keeps (environment S) (seq (and_tree p ps)) → IsFew S p → AllFew S ps
    → HasHead S (seq ps) → HasHead S (seq (and_tree p ps))
head_before S p ps nothing h k few rest t = nothing_before S ps k t
head_before S p ps (assigns xs es) h k few rest t = assignment_before S xs es ps k rest
head_before S p ps (assigns_first xs es q) h k few rest t = first_before S xs es q ps k few.1.0 rest
head_before S p ps (chooses cs q) h k few rest t = choice_before S cs q ps k few rest
head_before S p ps (waits gs) h k few rest t = alternatives_before S gs ps k few rest
head_before S p ps (declares x w q) h k few rest t = declared_before S x w q ps h k few rest

-- The first part leads to its head, and the others lead to one too.
pub first_has_head : (S : List (Name × Kind)) (p : Tree) (ps : Trees) → scope_kept S ≡ true → Keeps (environment S) (seq (and_tree p ps)) → HasHead S p → AllFew S ps
    → HasHead S (seq ps) → HasHead S (seq (and_tree p ps))
first_has_head S p ps h k t rest further =
    let a = first_spares S ps t.leads in
    let w = t.light in
    first_then S a (omega (arith, w)) (head_before S t.head ps t.is h (spares_keep S h k a) t.few rest further)
