-- The head of a part, within the declaration of a channel.
use Rattle.std.proofs.Common.{arith, ◌≡◌, ◌≤◌, ℕ, Bool, true, false, if◌then◌else◌, max, List, [], ◌∷◌, ◌++◌, None, refl, ap, subst}
use Rattle.occ_engine.specs.occ_base.declared.names.Name.{Name}
use Rattle.occ_engine.specs.occ_base.declared.width.Width.{Width}
use Rattle.occ_complete_states.specs.occ_derive_moves.Weight.{heaviest_branch, weight}
use Rattle.occ_complete.proofs.Bits.{channel_counts, few_there, turned_counts}
use Rattle.occ_complete.proofs.Choices.{choices_head, each_case, first_then}
use Rattle.occ_complete.specs.Headed.{HasHead}
use Rattle.occ_complete_states.proofs.from_derive_laws.Connected.{channel_into_branches, channel_into_branches_spares, channel_into_choices, channel_into_choices_spares, channel_not_assigned, into_two, into_two_spares, unused_channel_goes}
use Rattle.occ_complete_states.proofs.from_derive_laws.Declared.{past_channel, past_channel_spares}
use Rattle.occ_complete_states.proofs.from_derive_laws.Using.{hidden_uses}
use Rattle.occ_complete_states.proofs.from_derive_laws.Turns.{first_keeps}
use Rattle.occ_complete_states.proofs.Fresh.{stands_below, top_of}
use Rattle.occ_complete_states.proofs.Leading.{connected_spares, first_spares, law_spares, law_spares_back, spares_keep, spares_on}
use Rattle.occ_complete_states.specs.Few.{BranchesFew, IsFew}
use Rattle.occ_complete_states.specs.Heads.{IsHead, assigns, assigns_first, chooses, declares, nothing, or_else, waits}
use Rattle.occ_complete_states.specs.Leads.{LeadsSparing}
use Rattle.occ_engine.specs.occ_law.Scope.{each_case_connecting, is_on, without_channel}
use Rattle.occ_engine.specs.occ_meaning.Parallel.{one, two}
use Rattle.occ_engine.specs.occ_syntax.declared.scope.Kind.{Kind}
use Rattle.occ_engine.specs.occ_syntax.declared.scope.Kind.TheVariants.{Chan, Var}
use Rattle.occ_engine.specs.occ_syntax.Names.{free}
use Rattle.occ_engine.specs.occ_syntax.Scopes.{environment}
use Rattle.occ_engine.specs.occ_syntax.Tree.{Branches, Cases, Exp, Tree, alt, and_branch, and_case, assign, connect, declare, no_branch, no_case, select, seq, skip}
use Rattle.occ_engine.specs.occ_syntax.Types.{scope_kept}
use Rattle.occ_engine.specs.occ_syntax.Usage.{Keeps}

-- where the channel isn't free, its declaration goes
goes : (S : List (Name × Kind)) (c : ℕ) (w : Width) (p : Tree) → Keeps (environment S) (connect c w p) → free p c ≡ false → LeadsSparing S (connect c w p) p
goes S c w p k f = law_spares S 57 (unused_channel_goes S c w p k f) (hidden_uses c w p f)

nothing_hidden : (S : List (Name × Kind)) (c : ℕ) (w : Width) → Keeps (environment S) (connect c w skip) → HasHead S (connect c w skip)
nothing_hidden S c w k = record { head = skip; leads = goes S c w skip k refl; is = nothing; light = omega arith; few = tt }

assignment_hidden : (S : List (Name × Kind)) (c : ℕ) (w : Width) (xs : List ℕ) (es : List Exp) → Keeps (environment S) (connect c w (assign xs es))
    → HasHead S (connect c w (assign xs es))
assignment_hidden S c w xs es k = record {
  head = assign xs es;
  leads = goes S c w (assign xs es) k (channel_not_assigned (environment S) c w xs es k);
  is = assigns xs es;
  light = omega arith;
  few = tt;
}

first_hidden : (S : List (Name × Kind)) (c : ℕ) (w : Width) (xs : List ℕ) (es : List Exp) (p : Tree) → Keeps (environment S) (connect c w (seq (two (assign xs es) p)))
    → IsFew S (connect c w p) → HasHead S (connect c w (seq (two (assign xs es) p)))
first_hidden S c w xs es p k few =
    let a = assign xs es in
    let law = into_two S c w a p k in
    let ka = first_keeps (environment S) (connect c w a) (one (connect c w p)) law.right in
    record {
      head = seq (two a (connect c w p));
      leads = spares_on S (law_spares S 60 law (into_two_spares c w a p)) (first_spares S (one (connect c w p)) (goes S c w a ka (channel_not_assigned (environment S) c w xs es ka)));
      is = assigns_first xs es (connect c w p);
      light = omega arith;
      few = (tt, (few, tt));
    }

-- ---- an IF, and an ALT

as_each : (c : ℕ) (w : Width) (cs : Cases) → each_case_connecting c w cs ≡ each_case (connect c w) cs
as_each c w no_case = refl
as_each c w (and_case b p cs) = ap (and_case b (connect c w p)) (as_each c w cs)

choice_hidden : (S : List (Name × Kind)) (c : ℕ) (w : Width) (cs : Cases) (p : Tree) → Keeps (environment S) (connect c w (select (or_else cs p)))
    → IsFew S (connect c w (select (or_else cs p))) → HasHead S (connect c w (select (or_else cs p)))
choice_hidden S c w cs p k few =
    let T = S ++ (record { 0 = c }, Chan w None) ∷ [] in
    let from = connect c w (select (or_else cs p)) in
    choices_head S T (connect c w) 0 cs p
    (subst (λ ds. LeadsSparing S from (select ds)) (as_each c w (or_else cs p))
    (law_spares S 61 (channel_into_choices S c w (or_else cs p) k) (channel_into_choices_spares (environment S) c w (or_else cs p) k)))
    (few_there (top_of (select (or_else cs p))) T S (select (or_else cs p)) (channel_counts S c w (top_of (select (or_else cs p))))
    (stands_below (select (or_else cs p)) (top_of (select (or_else cs p))) (omega arith)) few).0
    few.1 (λ q f. f) (λ q. omega arith) (omega arith)

branches_weigh : (c : ℕ) (w : Width) (gs : Branches) → heaviest_branch (without_channel c w gs) ≤ heaviest_branch gs
branches_weigh c w no_branch = omega arith
branches_weigh c w (and_branch b v p gs) = at (is_on v c) (branches_weigh c w gs)
  where
    at : (o : Bool) → heaviest_branch (without_channel c w gs) ≤ heaviest_branch gs
        → heaviest_branch (if o then without_channel c w gs else and_branch b v (connect c w p) (without_channel c w gs)) ≤ max (weight p) (heaviest_branch gs)
    at true rest = omega (arith, rest)
    at false rest = omega (arith, rest)

branches_few : (S : List (Name × Kind)) (c : ℕ) (w : Width) (gs : Branches) → BranchesFew (S ++ (record { 0 = c }, Chan w None) ∷ []) gs → BranchesFew S (without_channel c w gs)
branches_few S c w no_branch few = tt
branches_few S c w (and_branch b v p gs) few = at (is_on v c) few.0 (branches_few S c w gs few.1)
  where
    at : (o : Bool) → IsFew S (connect c w p) → BranchesFew S (without_channel c w gs)
        → BranchesFew S (if o then without_channel c w gs else and_branch b v (connect c w p) (without_channel c w gs))
    at true here rest = rest
    at false here rest = (here, rest)

alternatives_hidden : (S : List (Name × Kind)) (c : ℕ) (w : Width) (gs : Branches) → Keeps (environment S) (connect c w (alt gs)) → IsFew S (connect c w (alt gs))
    → HasHead S (connect c w (alt gs))
alternatives_hidden S c w gs k few = record {
  head = alt (without_channel c w gs);
  leads = law_spares S 62 (channel_into_branches S c w gs k) (channel_into_branches_spares (environment S) c w gs k);
  is = waits (without_channel c w gs);
  light = (let l = branches_weigh c w gs in omega (arith, l));
  few = branches_few S c w gs few;
}

-- ---- a declaration

declared_hidden : (S : List (Name × Kind)) (c : ℕ) (w : Width) (x : ℕ) (v : Width) (p : Tree) → Keeps (environment S) (connect c w (declare x v p))
    → IsFew S (connect c w (declare x v p)) → HasHead S (connect c w (declare x v p))
declared_hidden S c w x v p k few =
    let channel : Name × Kind = (record { 0 = c }, Chan w None) in
    let var : Name × Kind = (record { 0 = x }, Var v) in
    record {
      head = declare x v (connect c w p);
      leads = law_spares_back S 48 (past_channel S x c v w p k) (past_channel_spares x c v w p);
      is = declares x v (connect c w p);
      light = omega arith;
      few = few_there (top_of p) ((S ++ channel ∷ []) ++ var ∷ []) ((S ++ var ∷ []) ++ channel ∷ []) p (turned_counts S channel var (top_of p)) (stands_below p (top_of p) (omega arith)) few;
    }

-- ---- whatever is first

head_hidden : (S : List (Name × Kind)) (c : ℕ) (w : Width) (p : Tree) → IsHead p → Keeps (environment S) (connect c w p) → IsFew S (connect c w p) → HasHead S (connect c w p)
head_hidden S c w p nothing k few = nothing_hidden S c w k
head_hidden S c w p (assigns xs es) k few = assignment_hidden S c w xs es k
head_hidden S c w p (assigns_first xs es q) k few = first_hidden S c w xs es q k few.1.0
head_hidden S c w p (chooses cs q) k few = choice_hidden S c w cs q k few
head_hidden S c w p (waits gs) k few = alternatives_hidden S c w gs k few
head_hidden S c w p (declares x v q) k few = declared_hidden S c w x v q k few

-- A part with a head in the scope of the channel has one where this is declared round it.
pub hidden_has_head : (S : List (Name × Kind)) (c : ℕ) (w : Width) (p : Tree) → scope_kept S ≡ true → Keeps (environment S) (connect c w p)
    → HasHead (S ++ (record { 0 = c }, Chan w None) ∷ []) p → HasHead S (connect c w p)
hidden_has_head S c w p h k t =
    let a = connected_spares S c w t.leads in
    let l = t.light in
    first_then S a (omega (arith, l)) (head_hidden S c w t.head t.is (spares_keep S h k a) t.few)
