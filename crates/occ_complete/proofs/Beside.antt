-- The laws of PAR but for two ALTs side by side, between two sides that keep the rules, and that their new parts use no more.
use Rattle.std.proofs.Common.{◌≡◌, ℕ, true, ◌&&◌, List, [], ◌∷◌, refl, subst, sym}
use Rattle.std.proofs.lemmas.Bool.{and_from, and_parts, false_from_ne_true, or_right}
use Rattle.occ_engine.specs.occ_base.declared.names.Name.{Name}
use Rattle.occ_complete_states.proofs.from_derive_laws.Opened.{two_types}
use Rattle.occ_complete_states.proofs.from_derive_laws.Using.{cases_use, choice, first_case, first_condition, first_of_seq, first_part, later_cases, later_parts, no_case_used, one_uses, rest_of_seq, second_part, separate_from_none, separate_less, seq_as_par, two_use, uses_itself, uses_through}
use Rattle.occ_engine.specs.occ_law.Lists.{all_cases, conditions}
use Rattle.occ_engine.specs.occ_law.Parallel.{each_case_beside, par_assign, par_flat, par_if, par_one, par_order, par_skip, par_stop, par_none}
use Rattle.occ_engine.specs.occ_law.States.{AreFew, IsExhaustive, some_true}
use Rattle.occ_engine.specs.occ_law.RuleTable.{LAW}
use Rattle.occ_engine.proofs.from_law_shape.Parts.{all_of-none}
use Rattle.occ_engine.proofs.from_meaning.Facts.{and_three, clash}
use Rattle.occ_engine.specs.occ_meaning.Parallel.{first_two, one, two}
use Rattle.occ_engine.specs.occ_syntax.declared.scope.Kind.{Kind}
use Rattle.occ_engine.specs.occ_syntax.Eval.{is_true}
use Rattle.occ_engine.specs.occ_syntax.Names.{uses_end}
use Rattle.occ_engine.specs.occ_syntax.Scopes.{Environment, environment}
use Rattle.occ_engine.specs.occ_syntax.Tree.{Cases, Exp, Tree, Trees, and_case, and_tree, assign, no_case, no_tree, par, select, seq, skip, stop, truth}
use Rattle.occ_engine.specs.occ_syntax.Types.{all_types_kept, cases_kept, is_condition, types_kept}
use Rattle.occ_engine.specs.occ_syntax.Usage.{CasesKeepUsage, IsSeparate, Keeps, KeepsUsage}
use Rattle.occ_engine.specs.occ_usage.Local.{UsesNoMore}

-- ---- a PAR of two parts

-- what it keeps
pub record Two (Γ : Environment) (p q : Tree) : Type 0 where
  pub first : types_kept p Γ ≡ true
  pub second : types_kept q Γ ≡ true
  pub first_usage : KeepsUsage p
  pub second_usage : KeepsUsage q
  pub separate : IsSeparate p q

pub two_of : (Γ : Environment) (p q : Tree) → Keeps Γ (par (two p q)) → Two Γ p q
two_of Γ p q k =
    let t = and_parts (types_kept p Γ) (types_kept q Γ && true) k.types in
    record {
      first = t.0;
      second = (and_parts (types_kept q Γ) true t.1).0;
      first_usage = k.usage.0.0;
      second_usage = k.usage.0.1.0;
      separate = separate_less p q p (par (one q)) k.usage.1.0 (uses_itself p) (first_part q no_tree);
    }

pub keep_two : (Γ : Environment) (p q : Tree) → Two Γ p q → Keeps Γ (par (two p q))
keep_two Γ p q t = record {
  types = two_types Γ p q t.first t.second;
  usage = (
    (t.first_usage, (t.second_usage, tt)),
    (separate_less p (par (one q)) p q t.separate (uses_itself p) (one_uses q q (uses_itself q)), (separate_from_none q, tt)),
  );
}

separate_turned : (p q : Tree) → IsSeparate p q → IsSeparate q p
separate_turned p q s = record {
  first_writes = s.second_writes;
  second_writes = s.first_writes;
  ends = λ c d h. false_from_ne_true (uses_end p c d) (λ i. clash (uses_end q c d) h (s.ends c d i));
}

alone_keeps : (Γ : Environment) (p : Tree) → types_kept p Γ ≡ true → KeepsUsage p → Keeps Γ (par (one p))
alone_keeps Γ p t u = record { types = and_from (types_kept p Γ) true t refl; usage = ((u, tt), (separate_from_none p, tt)) }

-- ---- of none, of one, of others as one

pub none_is_skip : (S : List (Name × Kind)) → LAW 37 S (par no_tree) skip
none_is_skip S = record { place = []; sides = par_none; left = record { types = refl; usage = (tt, tt) }; right = record { types = refl; usage = tt } }

pub one_is_it : (S : List (Name × Kind)) (p : Tree) → Keeps (environment S) (par (one p)) → LAW 38 S (par (one p)) p
one_is_it S p k = record {
  place = [];
  sides = par_one p;
  left = k;
  right = record { types = (and_parts (types_kept p (environment S)) true k.types).0; usage = k.usage.0.0 };
}

pub others_as_one : (S : List (Name × Kind)) (p : Tree) (qs : Trees) → Keeps (environment S) (par (and_tree p qs)) → LAW 39 S (par (two p (par qs))) (par (and_tree p qs))
others_as_one S p qs k =
    let Γ = environment S in
    let t = and_parts (types_kept p Γ) (all_types_kept qs Γ) k.types in
    subst (λ ps. LAW 39 S (par (two p (par qs))) (par (and_tree p ps))) (all_of-none qs)
    (record {
      place = 1 ∷ [];
      sides = par_flat (one p) qs no_tree;
      left = keep_two Γ p (par qs) (record { first = t.0; second = t.1; first_usage = k.usage.0.0; second_usage = (k.usage.0.1, k.usage.1.1); separate = k.usage.1.0 });
      right = subst (λ ps. Keeps Γ (par (and_tree p ps))) (sym (all_of-none qs)) k;
    })

pub others_as_one_spares : (p : Tree) (qs : Trees) → UsesNoMore (par (two p (par qs))) (par (and_tree p qs))
others_as_one_spares p qs = two_use p (par qs) (par (and_tree p qs)) (first_part p qs) (later_parts p qs)

-- ---- the other order

pub turned : (S : List (Name × Kind)) (p q : Tree) → Keeps (environment S) (par (two p q)) → LAW 40 S (par (two p q)) (par (two q p))
turned S p q k =
    let t = two_of (environment S) p q k in
    record {
      place = [];
      sides = par_order (two p q) (two q p) first_two;
      left = k;
      right = keep_two (environment S) q p (record {
        first = t.second;
        second = t.first;
        first_usage = t.second_usage;
        second_usage = t.first_usage;
        separate = separate_turned p q t.separate;
      });
    }

pub turned_spares : (p q : Tree) → UsesNoMore (par (two q p)) (par (two p q))
turned_spares p q = two_use q p (par (two p q)) (second_part p q) (first_part p (one q))

-- ---- beside SKIP and STOP

pub after_skip : (S : List (Name × Kind)) (q : Tree) → Keeps (environment S) (par (two skip q)) → LAW 41 S (par (two skip q)) (par (one q))
after_skip S q k =
    let t = two_of (environment S) skip q k in
    record { place = 0 ∷ []; sides = par_skip no_tree (one q); left = k; right = alone_keeps (environment S) q t.second t.second_usage }

pub before_skip : (S : List (Name × Kind)) (p : Tree) → Keeps (environment S) (par (two p skip)) → LAW 41 S (par (two p skip)) (par (one p))
before_skip S p k =
    let t = two_of (environment S) p skip k in
    record { place = 1 ∷ []; sides = par_skip (one p) no_tree; left = k; right = alone_keeps (environment S) p t.first t.first_usage }

pub before_stop : (S : List (Name × Kind)) (p : Tree) → Keeps (environment S) (par (two p stop)) → LAW 42 S (par (two p stop)) (seq (two p stop))
before_stop S p k = record { place = []; sides = par_stop p; left = k; right = record { types = k.types; usage = k.usage.0 } }

-- ---- an assignment leaves

pub assignment_leaves : (S : List (Name × Kind)) (xs : List ℕ) (es : List Exp) (ps : Trees) (q : Tree) → Keeps (environment S) (par (two (seq (and_tree (assign xs es) ps)) q))
    → LAW 43 S (par (two (seq (and_tree (assign xs es) ps)) q)) (seq (two (assign xs es) (par (two (seq ps) q))))
assignment_leaves S xs es ps q k =
    let Γ = environment S in
    let a = assign xs es in
    let t = two_of Γ (seq (and_tree a ps)) q k in
    let u = and_parts (types_kept a Γ) (all_types_kept ps Γ) t.first in
    let rest = keep_two Γ (seq ps) q (record {
      first = u.1;
      second = t.second;
      first_usage = t.first_usage.1;
      second_usage = t.second_usage;
      separate = separate_less (seq ps) q (seq (and_tree a ps)) q t.separate (rest_of_seq a ps) (uses_itself q);
    }) in
    record {
      place = [];
      sides = par_assign xs es ps q;
      left = k;
      right = record { types = two_types Γ a (par (two (seq ps) q)) u.0 rest.types; usage = (tt, (rest.usage, tt)) };
    }

pub assignment_leaves_spares : (xs : List ℕ) (es : List Exp) (ps : Trees) (q : Tree)
    → UsesNoMore (seq (two (assign xs es) (par (two (seq ps) q)))) (par (two (seq (and_tree (assign xs es) ps)) q))
assignment_leaves_spares xs es ps q =
    let a = assign xs es in
    let l = seq (and_tree a ps) in
    let r = par (two l q) in
    let part = first_part l (one q) in
    let rest = par (two (seq ps) q) in
    uses_through (seq (two a rest)) (par (two a rest)) r (seq_as_par (two a rest))
    (two_use a rest r (uses_through a l r (first_of_seq a ps) part) (two_use (seq ps) q r (uses_through (seq ps) l r (rest_of_seq a ps) part) (second_part l q)))

-- ---- an IF leaves

beside_types : (Γ : Environment) (q : Tree) (cs : Cases) → types_kept q Γ ≡ true → cases_kept cs Γ ≡ true → cases_kept (each_case_beside cs q) Γ ≡ true
beside_types Γ q no_case h t = refl
beside_types Γ q (and_case b p cs) h t =
    let k = and_three (is_condition Γ b) (types_kept p Γ) (cases_kept cs Γ) t in
    and_from (is_condition Γ b && types_kept (par (two p q)) Γ) (cases_kept (each_case_beside cs q) Γ)
    (and_from (is_condition Γ b) (types_kept (par (two p q)) Γ) k.0 (two_types Γ p q k.1 h)) (beside_types Γ q cs h k.2)

beside_usage : (q : Tree) (cs : Cases) → KeepsUsage q → CasesKeepUsage cs → IsSeparate (select cs) q → CasesKeepUsage (each_case_beside cs q)
beside_usage q no_case v u s = tt
beside_usage q (and_case b p cs) v u s =
    let whole = select (and_case b p cs) in
    let here = separate_less p (par (one q)) whole q s (first_case b p cs) (one_uses q q (uses_itself q)) in
    (((u.0, (v, tt)), (here, (separate_from_none q, tt))), beside_usage q cs v u.1 (separate_less (select cs) q whole q s (later_cases b p cs) (uses_itself q)))

pub choices_leave : (S : List (Name × Kind)) (cs : Cases) (q : Tree) → Keeps (environment S) (par (two (select cs) q)) → AreFew S (conditions cs)
    → IsExhaustive (environment S) (conditions cs) → LAW 44 S (par (two (select cs) q)) (select (each_case_beside cs q))
choices_leave S cs q k few all =
    let t = two_of (environment S) (select cs) q k in
    record {
      place = [];
      sides = par_if cs q few all;
      left = k;
      right = record { types = beside_types (environment S) q cs t.second t.first; usage = beside_usage q cs t.second_usage t.first_usage t.separate };
    }

beside_use : (q : Tree) (cs : Cases) (r : Tree) → UsesNoMore (select cs) r → UsesNoMore q r → UsesNoMore (select (each_case_beside cs q)) r
beside_use q no_case r v w = no_case_used r
beside_use q (and_case b p cs) r v w =
    let whole = select (and_case b p cs) in
    cases_use b (par (two p q)) (each_case_beside cs q) r
    (uses_through (choice b) whole r (first_condition b p cs) v)
    (two_use p q r (uses_through p whole r (first_case b p cs) v) w)
    (beside_use q cs r (uses_through (select cs) whole r (later_cases b p cs) v) w)

pub choices_leave_spares : (cs : Cases) (q : Tree) → UsesNoMore (select (each_case_beside cs q)) (par (two (select cs) q))
choices_leave_spares cs q = beside_use q cs (par (two (select cs) q)) (first_part (select cs) (one q)) (second_part (select cs) q)

-- ---- an IF whose last condition is TRUE

pub last_true : (Γ : Environment) (cs : Cases) (p : Tree) → IsExhaustive Γ (conditions (all_cases cs (and_case (truth true) p no_case)))
last_true Γ no_case p s state = refl
last_true Γ (and_case b q cs) p s state =
    or_right (is_true Γ b s) (some_true Γ (conditions (all_cases cs (and_case (truth true) p no_case))) s) (last_true Γ cs p s state)
