-- The heads of two parts side by side.
use Rattle.std.proofs.Common.{arith, ◌≡◌, ◌==◌, ℕ, Bool, true, false, if◌then◌else◌, List, [], ◌∷◌, ◌++◌, refl, ap, subst}
use Rattle.std.proofs.lemmas.Bool.{or_from}
use Rattle.occ_engine.specs.occ_base.declared.names.Name.{Name}
use Rattle.occ_engine.specs.occ_base.declared.width.Width.{Width}
use Rattle.occ_complete_states.specs.occ_derive_moves.Apart.{has_declared}
use Rattle.occ_complete_states.specs.occ_derive_moves.Weight.{weight}
use Rattle.occ_complete.proofs.Bits.{few_there, more_counts}
use Rattle.occ_complete.proofs.Choices.{choices_head, each_case, first_then, its_own}
use Rattle.occ_complete.proofs.Renaming.{renewed}
use Rattle.occ_complete.specs.Headed.{HasHead}
use Rattle.occ_complete.proofs.Beside.{after_skip, assignment_leaves, assignment_leaves_spares, before_skip, choices_leave, choices_leave_spares, last_true, one_is_it, others_as_one, others_as_one_spares, turned, turned_spares, two_of}
use Rattle.occ_complete.proofs.Expanding.{expansion_spares}
use Rattle.occ_complete.proofs.Heaviest.{expansion_weighs}
use Rattle.occ_complete.proofs.Meeting.{expansion}
use Rattle.occ_complete_states.proofs.from_derive_laws.Declared.{round_par, round_par_spares}
use Rattle.occ_complete_states.proofs.from_derive_laws.Using.{first_part, later_parts, one_uses}
use Rattle.occ_complete_states.proofs.from_derive_laws.Turns.{one_law_back, one_spares_back}
use Rattle.occ_complete_states.proofs.Nowhere.{nowhere_declared}
use Rattle.occ_complete_states.proofs.Leading.{first_beside_spares, law_spares, law_spares_back, second_beside_spares, spares_keep, spares_on}
use Rattle.occ_complete_states.specs.Few.{BranchesFew, IsFew}
use Rattle.occ_complete_states.specs.Heads.{IsHead, assigns, assigns_first, chooses, declares, nothing, or_else, waits}
use Rattle.occ_complete_states.specs.Leads.{LeadsSparing}
use Rattle.occ_engine.specs.occ_law.Lists.{all_branches}
use Rattle.occ_engine.specs.occ_law.Parallel.{both_go, each_case_beside, expanded, first_goes, meeting, meetings, meetings_of, second_goes}
use Rattle.occ_engine.specs.occ_meaning.Parallel.{one, two}
use Rattle.occ_engine.specs.occ_syntax.declared.expr.Op.TheVariants.{And}
use Rattle.occ_engine.specs.occ_syntax.declared.scope.Kind.{Kind}
use Rattle.occ_engine.specs.occ_syntax.declared.scope.Kind.TheVariants.{Var}
use Rattle.occ_engine.specs.occ_syntax.Scopes.{environment}
use Rattle.occ_engine.specs.occ_syntax.Tree.{Branches, Cases, Exp, Tree, Trees, Waiting, alt, and_branch, and_case, and_tree, assign, declare, input, no_branch, no_case, no_tree, operation, output, par, ready, select, seq, skip}
use Rattle.occ_engine.specs.occ_syntax.Types.{scope_kept}
use Rattle.occ_engine.specs.occ_syntax.Usage.{Keeps}

-- ---- SKIP

alone : (S : List (Name × Kind)) (p : Tree) → Keeps (environment S) (par (one p)) → LeadsSparing S (par (one p)) p
alone S p k = law_spares S 38 (one_is_it S p k) (first_part p no_tree)

nothing_beside : (S : List (Name × Kind)) (q : Tree) → IsHead q → Keeps (environment S) (par (two skip q)) → IsFew S q → HasHead S (par (two skip q))
nothing_beside S q is k few =
    let law = after_skip S q k in first_then S (spares_on S (law_spares S 41 law (later_parts skip (one q))) (alone S q law.right)) (omega arith) (its_own S q is few)

beside_nothing : (S : List (Name × Kind)) (p : Tree) → IsHead p → Keeps (environment S) (par (two p skip)) → IsFew S p → HasHead S (par (two p skip))
beside_nothing S p is k few =
    let law = before_skip S p k in
    first_then S (spares_on S (law_spares S 41 law (one_uses p (par (two p skip)) (first_part p (one skip)))) (alone S p law.right)) (omega arith) (its_own S p is few)

-- ---- an assignment

leaves : (S : List (Name × Kind)) (xs : List ℕ) (es : List Exp) (ps : Trees) (q : Tree) → Keeps (environment S) (par (two (seq (and_tree (assign xs es) ps)) q))
    → LeadsSparing S (par (two (seq (and_tree (assign xs es) ps)) q)) (seq (two (assign xs es) (par (two (seq ps) q))))
leaves S xs es ps q k = law_spares S 43 (assignment_leaves S xs es ps q k) (assignment_leaves_spares xs es ps q)

assignment_beside : (S : List (Name × Kind)) (xs : List ℕ) (es : List Exp) (q : Tree) → scope_kept S ≡ true → Keeps (environment S) (par (two (assign xs es) q)) → IsFew S q
    → HasHead S (par (two (assign xs es) q))
assignment_beside S xs es q h k few =
    let a = assign xs es in
    let t = two_of (environment S) a q k in
    let first = first_beside_spares S (one q) (law_spares_back S 2 (one_law_back S a (record { types = t.first; usage = t.first_usage })) (one_spares_back a)) in
    record {
      head = seq (two a (par (two (seq no_tree) q)));
      leads = spares_on S first (leaves S xs es no_tree q (spares_keep S h k first));
      is = assigns_first xs es (par (two (seq no_tree) q));
      light = omega arith;
      few = (tt, ((tt, (few, tt)), tt));
    }

first_beside : (S : List (Name × Kind)) (xs : List ℕ) (es : List Exp) (p q : Tree) → Keeps (environment S) (par (two (seq (two (assign xs es) p)) q)) → IsFew S p → IsFew S q
    → HasHead S (par (two (seq (two (assign xs es) p)) q))
first_beside S xs es p q k few rest = record {
  head = seq (two (assign xs es) (par (two (seq (one p)) q)));
  leads = leaves S xs es (one p) q k;
  is = assigns_first xs es (par (two (seq (one p)) q));
  light = omega arith;
  few = (tt, (((few, tt), (rest, tt)), tt));
}

-- ---- an IF

as_each : (cs : Cases) (q : Tree) → each_case_beside cs q ≡ each_case (λ p. par (two p q)) cs
as_each no_case q = refl
as_each (and_case b p cs) q = ap (and_case b (par (two p q))) (as_each cs q)

choice_beside : (S : List (Name × Kind)) (cs : Cases) (p q : Tree) → Keeps (environment S) (par (two (select (or_else cs p)) q)) → IsFew S (select (or_else cs p)) → IsFew S q
    → HasHead S (par (two (select (or_else cs p)) q))
choice_beside S cs p q k few rest =
    let from = par (two (select (or_else cs p)) q) in
    choices_head S S (λ r. par (two r q)) (weight q) cs p
    (subst (λ ds. LeadsSparing S from (select ds)) (as_each (or_else cs p) q)
    (law_spares S 44 (choices_leave S (or_else cs p) q k few.0 (last_true (environment S) cs p)) (choices_leave_spares (or_else cs p) q)))
    few.0 few.1 (λ r f. (f, (rest, tt))) (λ r. omega arith) (omega arith)

-- ---- a declaration

declared_beside : (S : List (Name × Kind)) (x : ℕ) (w : Width) (p q : Tree) → scope_kept S ≡ true → Keeps (environment S) (par (two (declare x w p) q))
    → IsFew S (declare x w p) → IsFew S q → HasHead S (par (two (declare x w p) q))
declared_beside S x w p q h k few rest =
    let t = two_of (environment S) (declare x w p) q k in
    let r = renewed S x w p q (record { types = t.first; usage = t.first_usage }) few in
    let y = r.name in
    let other = first_beside_spares S (one q) r.leads in
    let round = law_spares_back S 53 (round_par S y w r.part (one q) (spares_keep S h k other) (or_from (has_declared q y) false (nowhere_declared q y r.off) refl)) (round_par_spares y w r.part (one q)) in
    record {
      head = declare y w (par (two r.part q));
      leads = spares_on S other round;
      is = declares y w (par (two r.part q));
      light = (let same = r.weighs in omega (arith, same));
      few = (r.few, (few_there y S (S ++ (record { 0 = y }, Var w) ∷ []) q (more_counts S y (Var w)) r.off rest, tt));
    }

-- ---- two ALTs

lists_few : (S : List (Name × Kind)) (gs hs : Branches) → BranchesFew S gs → BranchesFew S hs → BranchesFew S (all_branches gs hs)
lists_few S no_branch hs f g = g
lists_few S (and_branch b w p gs) hs f g = (f.0, lists_few S gs hs f.1 g)

first_few : (S : List (Name × Kind)) (ls : Branches) (m : Tree) → BranchesFew S ls → IsFew S m → BranchesFew S (first_goes ls m)
first_few S no_branch m f g = tt
first_few S (and_branch b w p ls) m f g = ((f.0, (g, tt)), first_few S ls m f.1 g)

second_few : (S : List (Name × Kind)) (l : Tree) (ms : Branches) → IsFew S l → BranchesFew S ms → BranchesFew S (second_goes l ms)
second_few S l no_branch f g = tt
second_few S l (and_branch b w q ms) f g = ((f, (g.0, tt)), second_few S l ms f g.1)

met_few : (S : List (Name × Kind)) (t : Bool) (b c : Exp) (x : ℕ) (e : Exp) (p q : Tree) (rest : Branches) → IsFew S p → IsFew S q → BranchesFew S rest
    → BranchesFew S (if t then and_branch (operation And b c) ready (both_go x e p q) rest else rest)
met_few S true b c x e p q rest f g k = ((tt, ((f, (g, tt)), tt)), k)
met_few S false b c x e p q rest f g k = k

meeting_few : (S : List (Name × Kind)) (b : Exp) (v : Waiting) (p : Tree) (c : Exp) (w : Waiting) (q : Tree) (rest : Branches) → IsFew S p → IsFew S q → BranchesFew S rest
    → BranchesFew S (meeting b v p c w q rest)
meeting_few S b (output i e) p c (input j x) q rest f g k = met_few S (i == j) b c x e p q rest f g k
meeting_few S b (input j x) p c (output i e) q rest f g k = met_few S (j == i) b c x e p q rest f g k
meeting_few S b (output i e) p c (output j y) q rest f g k = k
meeting_few S b (output i e) p c ready q rest f g k = k
meeting_few S b (input i x) p c (input j y) q rest f g k = k
meeting_few S b (input i x) p c ready q rest f g k = k
meeting_few S b ready p c w q rest f g k = k

meetings_of_few : (S : List (Name × Kind)) (b : Exp) (v : Waiting) (p : Tree) (ms rest : Branches) → IsFew S p → BranchesFew S ms → BranchesFew S rest
    → BranchesFew S (meetings_of b v p ms rest)
meetings_of_few S b v p no_branch rest f g k = k
meetings_of_few S b v p (and_branch c w q ms) rest f g k = meeting_few S b v p c w q (meetings_of b v p ms rest) f g.0 (meetings_of_few S b v p ms rest f g.1 k)

meetings_few : (S : List (Name × Kind)) (ls ms : Branches) → BranchesFew S ls → BranchesFew S ms → BranchesFew S (meetings ls ms)
meetings_few S no_branch ms f g = tt
meetings_few S (and_branch b v p ls) ms f g = meetings_of_few S b v p ms (meetings ls ms) f.0 g (meetings_few S ls ms f.1 g)

alternatives_meet : (S : List (Name × Kind)) (ls ms : Branches) → Keeps (environment S) (par (two (alt ls) (alt ms))) → BranchesFew S ls → BranchesFew S ms
    → HasHead S (par (two (alt ls) (alt ms)))
alternatives_meet S ls ms k f g = record {
  head = alt (expanded ls ms);
  leads = law_spares S 45 (expansion S ls ms k) (expansion_spares ls ms);
  is = waits (expanded ls ms);
  light = expansion_weighs ls ms;
  few = lists_few S (first_goes ls (alt ms)) (all_branches (second_goes (alt ls) ms) (meetings ls ms)) (first_few S ls (alt ms) f g)
      (lists_few S (second_goes (alt ls) ms) (meetings ls ms) (second_few S (alt ls) ms f g) (meetings_few S ls ms f g));
}

-- ---- whatever is first

-- the other part does something first, beside an ALT
turn : (S : List (Name × Kind)) (p q : Tree) → Keeps (environment S) (par (two p q)) → (Keeps (environment S) (par (two q p)) → HasHead S (par (two q p))) → HasHead S (par (two p q))
turn S p q k t = let law = turned S p q k in first_then S (law_spares S 40 law (turned_spares p q)) (omega arith) (t law.right)

alternatives_beside : (S : List (Name × Kind)) (gs : Branches) (q : Tree) → IsHead q → scope_kept S ≡ true → Keeps (environment S) (par (two (alt gs) q)) → BranchesFew S gs → IsFew S q
    → HasHead S (par (two (alt gs) q))
alternatives_beside S gs q nothing h k f g = beside_nothing S (alt gs) (waits gs) k f
alternatives_beside S gs q (assigns xs es) h k f g = turn S (alt gs) (assign xs es) k (λ m. assignment_beside S xs es (alt gs) h m f)
alternatives_beside S gs q (assigns_first xs es p) h k f g = turn S (alt gs) (seq (two (assign xs es) p)) k (λ m. first_beside S xs es p (alt gs) m g.1.0 f)
alternatives_beside S gs q (chooses cs p) h k f g = turn S (alt gs) (select (or_else cs p)) k (λ m. choice_beside S cs p (alt gs) m g f)
alternatives_beside S gs q (waits hs) h k f g = alternatives_meet S gs hs k f g
alternatives_beside S gs q (declares x w p) h k f g = turn S (alt gs) (declare x w p) k (λ m. declared_beside S x w p (alt gs) h m g f)

heads_beside : (S : List (Name × Kind)) (p q : Tree) → IsHead p → IsHead q → scope_kept S ≡ true → Keeps (environment S) (par (two p q)) → IsFew S p → IsFew S q → HasHead S (par (two p q))
heads_beside S p q nothing is h k f g = nothing_beside S q is k g
heads_beside S p q (assigns xs es) is h k f g = assignment_beside S xs es q h k g
heads_beside S p q (assigns_first xs es r) is h k f g = first_beside S xs es r q k f.1.0 g
heads_beside S p q (chooses cs r) is h k f g = choice_beside S cs r q k f g
heads_beside S p q (waits gs) is h k f g = alternatives_beside S gs q is h k f g
heads_beside S p q (declares x w r) is h k f g = declared_beside S x w r q h k f g

-- The first part leads to its head, and so do the others as one.
pub parts_have_head : (S : List (Name × Kind)) (p : Tree) (ps : Trees) → scope_kept S ≡ true → Keeps (environment S) (par (and_tree p ps)) → HasHead S p → HasHead S (par ps)
    → HasHead S (par (and_tree p ps))
parts_have_head S p ps h k t u =
    let group = law_spares_back S 39 (others_as_one S p ps k) (others_as_one_spares p ps) in
    let a = spares_on S group (spares_on S (first_beside_spares S (one (par ps)) t.leads) (second_beside_spares S t.head no_tree u.leads)) in
    let v = t.light in
    let w = u.light in
    first_then S a (omega (arith, v, w)) (heads_beside S t.head u.head t.is u.is h (spares_keep S h k a) t.few u.few)
