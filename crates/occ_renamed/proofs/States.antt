-- What conditions do in every state of a scope, where names are exchanged in both.
use Rattle.occ_replay_rules.specs.occ_base.declared.names.Name.{Name}
use Rattle.occ_replay_rules.specs.occ_bits.Named.{bits_named, named_part}
use Rattle.occ_renamed.proofs.Names.{or2, some_names_under}
use Rattle.occ_renamed.specs.Scopes.{scope_renamed}
use Rattle.occ_replay_rules.specs.occ_law.States.{AreFew, BranchesEqual, CasesEqual, EachEqual, ExcludeEachOther, IsAlways, IsEqualAlways, IsEqualWhere, IsExhaustive, IsNever, WaitingEqual, and_equal_branch, and_equal_case, and_place, equal_input, equal_output, equal_ready, no_equal_branch, no_equal_case, no_place, some_true}
use Rattle.occ_replay_rules.proofs.from_meaning.Renaming.{IsExchange, eval_under, name_under}
use Rattle.occ_replay_rules.specs.occ_meaning.Rename.{branches_renamed, cases_renamed, renamed_exp, renamed_exps, renamed_waiting, under}
use Rattle.occ_replay_rules.specs.occ_syntax.Counts.{bits_of_kind, bits_of_scope}
use Rattle.occ_replay_rules.specs.occ_syntax.Eval.{eval, is_true}
use Rattle.occ_replay_rules.specs.occ_syntax.Names.{some_names}
use Rattle.occ_replay_rules.specs.occ_syntax.Scopes.{Environment, IsState, Values, environment, variable_kind, with_name}
use Rattle.occ_replay_rules.specs.occ_syntax.Tree.{Branches, Cases, Exp, Waiting}
use Rattle.occ_replay_rules.specs.occ_syntax.declared.scope.Kind.{Kind}
use Rattle.std.proofs.Common.{Bool, List, [], ap, cond, false, refl, subst, sym, true, ℕ, ◌&&◌, ◌+◌, ◌==◌, ◌∙◌, ◌∷◌, ◌≡◌, ◌≤◌}
use mathlib.Core.Path.{fun_ext}

pub environment_under : (f : ℕ → ℕ) → IsExchange f → (S : List (Name × Kind)) → environment (scope_renamed f S) ≡ under f (environment S)
environment_under f inv [] = refl
environment_under f inv (entry ∷ S) =
    ap (λ Γ. with_name Γ (f entry.0.0) entry.1) (environment_under f inv S) ∙ sym (name_under f inv (environment S) entry.0.0 entry.1)

-- ---- states

state_under : (f : ℕ → ℕ) → IsExchange f → (Γ : Environment) (s : Values) → IsState (under f Γ) s → IsState Γ (under f s)
state_under f inv Γ s k = λ x w h. k (f x) w (ap (λ n. variable_kind (Γ n)) (inv x) ∙ h)

twice : (f : ℕ → ℕ) → IsExchange f → (s : Values) → s ≡ under f (under f s)
twice f inv s = fun_ext (λ n. ap s (sym (inv n)))

eval_at : (f : ℕ → ℕ) → IsExchange f → (Γ : Environment) (e : Exp) (s : Values) → eval (under f Γ) (renamed_exp f e) s ≡ eval Γ e (under f s)
eval_at f inv Γ e s = ap (eval (under f Γ) (renamed_exp f e)) (twice f inv s) ∙ eval_under f inv Γ (under f s) e

truth_at : (f : ℕ → ℕ) → IsExchange f → (Γ : Environment) (e : Exp) (s : Values) → is_true (under f Γ) (renamed_exp f e) s ≡ is_true Γ e (under f s)
truth_at f inv Γ e s = ap (λ n. n == 1) (eval_at f inv Γ e s)

some_true_at : (f : ℕ → ℕ) → IsExchange f → (Γ : Environment) (bs : List Exp) (s : Values)
    → some_true (under f Γ) (renamed_exps f bs) s ≡ some_true Γ bs (under f s)
some_true_at f inv Γ [] s = refl
some_true_at f inv Γ (b ∷ bs) s = or2 (truth_at f inv Γ b s) (some_true_at f inv Γ bs s)

-- ---- how many bits are named

-- a list with or without a first entry, where another first entry and another rest count as many bits
counted : (b : Bool) (entry other : Name × Kind) (S R : List (Name × Kind)) → entry.1 ≡ other.1 → bits_of_scope S ≡ bits_of_scope R
    → bits_of_scope (cond b (entry ∷ S) S) ≡ bits_of_scope (cond b (other ∷ R) R)
counted true entry other S R h k = ap (λ z. bits_of_kind z + bits_of_scope S) h ∙ ap (λ n. bits_of_kind other.1 + n) k
counted false entry other S R h k = k

bits_under : (f : ℕ → ℕ) → IsExchange f → (es : List Exp) (S : List (Name × Kind)) → bits_named (scope_renamed f S) (renamed_exps f es) ≡ bits_named S es
bits_under f inv es [] = refl
bits_under f inv es (entry ∷ S) =
    ap (λ b. bits_of_scope (cond b ((record { 0 = f entry.0.0 }, entry.1) ∷ named_part (scope_renamed f S) (renamed_exps f es)) (named_part (scope_renamed f S) (renamed_exps f es))))
    (some_names_under f inv es entry.0.0)
    ∙ counted (some_names es entry.0.0) (record { 0 = f entry.0.0 }, entry.1) entry (named_part (scope_renamed f S) (renamed_exps f es)) (named_part S es)
    refl (bits_under f inv es S)

pub few_under : (f : ℕ → ℕ) → IsExchange f → (S : List (Name × Kind)) (es : List Exp) → AreFew S es → AreFew (scope_renamed f S) (renamed_exps f es)
few_under f inv S es h = subst (λ n. n ≤ 24) (sym (bits_under f inv es S)) h

-- ---- conditions in every state

pub always_under : (f : ℕ → ℕ) → IsExchange f → (S : List (Name × Kind)) (b : Exp) → IsAlways (environment S) b
    → IsAlways (environment (scope_renamed f S)) (renamed_exp f b)
always_under f inv S b h =
    subst (λ Γ. IsAlways Γ (renamed_exp f b)) (sym (environment_under f inv S))
    (λ s k. truth_at f inv (environment S) b s ∙ h (under f s) (state_under f inv (environment S) s k))

pub never_under : (f : ℕ → ℕ) → IsExchange f → (S : List (Name × Kind)) (b : Exp) → IsNever (environment S) b
    → IsNever (environment (scope_renamed f S)) (renamed_exp f b)
never_under f inv S b h =
    subst (λ Γ. IsNever Γ (renamed_exp f b)) (sym (environment_under f inv S))
    (λ s k. truth_at f inv (environment S) b s ∙ h (under f s) (state_under f inv (environment S) s k))

pub exclude_under : (f : ℕ → ℕ) → IsExchange f → (S : List (Name × Kind)) (b c : Exp) → ExcludeEachOther (environment S) b c
    → ExcludeEachOther (environment (scope_renamed f S)) (renamed_exp f b) (renamed_exp f c)
exclude_under f inv S b c h =
    subst (λ Γ. ExcludeEachOther Γ (renamed_exp f b) (renamed_exp f c)) (sym (environment_under f inv S))
    (λ s k. ap (λ z. z && is_true (under f (environment S)) (renamed_exp f c) s) (truth_at f inv (environment S) b s)
    ∙ (ap (λ z. is_true (environment S) b (under f s) && z) (truth_at f inv (environment S) c s)
    ∙ h (under f s) (state_under f inv (environment S) s k)))

pub exhaustive_under : (f : ℕ → ℕ) → IsExchange f → (S : List (Name × Kind)) (bs : List Exp) → IsExhaustive (environment S) bs
    → IsExhaustive (environment (scope_renamed f S)) (renamed_exps f bs)
exhaustive_under f inv S bs h =
    subst (λ Γ. IsExhaustive Γ (renamed_exps f bs)) (sym (environment_under f inv S))
    (λ s k. some_true_at f inv (environment S) bs s ∙ h (under f s) (state_under f inv (environment S) s k))

-- ---- equal values

pub equal_under : (f : ℕ → ℕ) → IsExchange f → (S : List (Name × Kind)) (d e : Exp) → IsEqualAlways S d e
    → IsEqualAlways (scope_renamed f S) (renamed_exp f d) (renamed_exp f e)
equal_under f inv S d e h = record {
  few = few_under f inv S (d ∷ e ∷ []) h.few;
  equal = subst (λ Γ. (s : Values) → IsState Γ s → eval Γ (renamed_exp f d) s ≡ eval Γ (renamed_exp f e) s) (sym (environment_under f inv S))
      (λ s k. eval_at f inv (environment S) d s ∙ (h.equal (under f s) (state_under f inv (environment S) s k) ∙ sym (eval_at f inv (environment S) e s)));
}

pub equal_where_under : (f : ℕ → ℕ) → IsExchange f → (S : List (Name × Kind)) (b : Exp) (bs : List Exp) (d e : Exp) → IsEqualWhere S b bs d e
    → IsEqualWhere (scope_renamed f S) (renamed_exp f b) (renamed_exps f bs) (renamed_exp f d) (renamed_exp f e)
equal_where_under f inv S b bs d e h = record {
  few = few_under f inv S (d ∷ e ∷ b ∷ bs) h.few;
  equal = subst (λ Γ. (s : Values) → IsState Γ s → is_true Γ (renamed_exp f b) s ≡ true → some_true Γ (renamed_exps f bs) s ≡ false
      → eval Γ (renamed_exp f d) s ≡ eval Γ (renamed_exp f e) s) (sym (environment_under f inv S))
      (λ s k i j. eval_at f inv (environment S) d s
      ∙ (h.equal (under f s) (state_under f inv (environment S) s k) (sym (truth_at f inv (environment S) b s) ∙ i) (sym (some_true_at f inv (environment S) bs s) ∙ j)
      ∙ sym (eval_at f inv (environment S) e s)));
}

-- ---- lists with equal expressions

pub each_under : (f : ℕ → ℕ) (E F : Exp → Exp → Type 0) → ((d e : Exp) → E d e → F (renamed_exp f d) (renamed_exp f e)) → (ds es : List Exp)
    → EachEqual E ds es → EachEqual F (renamed_exps f ds) (renamed_exps f es)
each_under f E F g ds es no_place = no_place
each_under f E F g ds es (and_place {e = a} {f = b} {es = us} {fs = vs} h k) = and_place (g a b h) (each_under f E F g us vs k)

waiting_equal_under : (f : ℕ → ℕ) (E F : Exp → Exp → Type 0) → ((d e : Exp) → E d e → F (renamed_exp f d) (renamed_exp f e)) → (v w : Waiting)
    → WaitingEqual E v w → WaitingEqual F (renamed_waiting f v) (renamed_waiting f w)
waiting_equal_under f E F g v w equal_ready = equal_ready
waiting_equal_under f E F g v w equal_input = equal_input
waiting_equal_under f E F g v w (equal_output {e = a} {f = b} h) = equal_output (g a b h)

pub cases_equal_under : (f : ℕ → ℕ) (E F : Exp → Exp → Type 0) → ((d e : Exp) → E d e → F (renamed_exp f d) (renamed_exp f e)) → (cs ds : Cases)
    → CasesEqual E cs ds → CasesEqual F (cases_renamed cs f) (cases_renamed ds f)
cases_equal_under f E F g cs ds no_equal_case = no_equal_case
cases_equal_under f E F g cs ds (and_equal_case {b = a} {c = b} {cs = us} {ds = vs} h k) = and_equal_case (g a b h) (cases_equal_under f E F g us vs k)

pub branches_equal_under : (f : ℕ → ℕ) (E F : Exp → Exp → Type 0) → ((d e : Exp) → E d e → F (renamed_exp f d) (renamed_exp f e)) → (gs hs : Branches)
    → BranchesEqual E gs hs → BranchesEqual F (branches_renamed gs f) (branches_renamed hs f)
branches_equal_under f E F g gs hs no_equal_branch = no_equal_branch
branches_equal_under f E F g gs hs (and_equal_branch {b = a} {c = b} {v = v} {w = w} {gs = us} {hs = vs} h i k) =
    and_equal_branch (g a b h) (waiting_equal_under f E F g v w i) (branches_equal_under f E F g us vs k)
