-- What an ALT does, by its single branches.
-- the branch is one of them
use Rattle.occ_meaning.proofs.Settled.{chosen_first, chosen_second, first_of}
use Rattle.occ_syntax.specs.Eval.{is_true}
use Rattle.occ_syntax.specs.Meaning.{IsQuiet, Outcome, Taken, guards, meaning}
use Rattle.occ_syntax.specs.Scopes.{Environment, EventSet, Trace, Values}
use Rattle.occ_syntax.specs.Tree.{Branches, Exp, Tree, Waiting, and_branch, no_branch}
use Rattle.std.proofs.Common.{inl, inr, true, ◌≡◌, ◌⊎◌}
use Rattle.std.proofs.lemmas.Bool.{cases_Bool}

pub data Among (e : Exp) (w : Waiting) (p : Tree) : Branches → Type 0 where
  first_branch : {bs : Branches} → Among e w p (and_branch e w p bs)
  later_branch : {f : Exp} {v : Waiting} {q : Tree} {bs : Branches} → Among e w p bs → Among e w p (and_branch f v q bs)

-- An enabled branch is taken by its guard, and its process goes on.
pub record Goes (Γ : Environment) (s : Values) (bs : Branches) (t : Trace) (o : Outcome) : Type 0 where
  pub condition : Exp
  pub guard : Waiting
  pub process : Tree
  pub among_them : Among condition guard process bs
  pub enabled : is_true Γ condition s ≡ true
  pub state : Values
  pub rest : Trace
  pub taken_by : Taken Γ s guard t state rest
  pub goes_on : (meaning process).does Γ state rest o

pub goes_out : (Γ : Environment) (s : Values) (bs : Branches) (t : Trace) (o : Outcome) → (guards bs).goes Γ s t o → Goes Γ s bs t o
goes_out Γ s no_branch t o d = absurd d
goes_out Γ s (and_branch e w p bs) t o d = elim d [
  | inl k ↦ record { condition = e; guard = w; process = p; among_them = first_branch; enabled = k.0; state = k.1.0; rest = k.1.1; taken_by = k.1.2; goes_on = k.1.3 }
  | inr k ↦ (let g = goes_out Γ s bs t o k in
      record { condition = g.condition; guard = g.guard; process = g.process; among_them = later_branch g.among_them; enabled = g.enabled; state = g.state; rest = g.rest; taken_by = g.taken_by; goes_on = g.goes_on })
]

pub goes_in : (Γ : Environment) (s : Values) (e : Exp) (w : Waiting) (p : Tree) (bs : Branches) → Among e w p bs → is_true Γ e s ≡ true
    → (t : Trace) (u : Values) (a : Trace) (o : Outcome) → Taken Γ s w t u a → (meaning p).does Γ u a o → (guards bs).goes Γ s t o
goes_in Γ s e w p bs first_branch h t u a o k d = inl (h, (u, a, k, d))
goes_in Γ s e w p bs (later_branch {bs = cs} m) h t u a o k d = inr (goes_in Γ s e w p cs m h t u a o k d)

pub refuses_out : (Γ : Environment) (s : Values) (X : EventSet) (e : Exp) (w : Waiting) (p : Tree) (bs : Branches)
    → (guards bs).refuses Γ s X → Among e w p bs → is_true Γ e s ≡ true → IsQuiet Γ s w X
refuses_out Γ s X e w p bs d first_branch h = first_of (is_true Γ e s) _ _ h d.0
refuses_out Γ s X e w p bs d (later_branch {bs = cs} m) h = refuses_out Γ s X e w p cs d.1 m h

pub refuses_in : (Γ : Environment) (s : Values) (bs : Branches) (X : EventSet)
    → ((e : Exp) (w : Waiting) (p : Tree) → Among e w p bs → is_true Γ e s ≡ true → IsQuiet Γ s w X) → (guards bs).refuses Γ s X
refuses_in Γ s no_branch X h = tt
refuses_in Γ s (and_branch e w p bs) X h = (
  elim (cases_Bool (is_true Γ e s)) [ inl k ↦ chosen_first (is_true Γ e s) _ _ k (h e w p first_branch k) | inr k ↦ chosen_second (is_true Γ e s) _ _ k tt ],
  refuses_in Γ s bs X (λ f v q m k. h f v q (later_branch m) k),
)

-- ---- the ALT itself

-- ---- lists of branches one behind the other

abbrev pub all_branches : Branches → Branches → Branches
all_branches no_branch cs = cs
all_branches (and_branch e w p bs) cs = and_branch e w p (all_branches bs cs)

pub among_left : (e : Exp) (w : Waiting) (p : Tree) (bs cs : Branches) → Among e w p bs → Among e w p (all_branches bs cs)
among_left e w p bs cs first_branch = first_branch
among_left e w p bs cs (later_branch {bs = ds} m) = later_branch (among_left e w p ds cs m)

pub among_right : (e : Exp) (w : Waiting) (p : Tree) (bs cs : Branches) → Among e w p cs → Among e w p (all_branches bs cs)
among_right e w p no_branch cs m = m
among_right e w p (and_branch f v q bs) cs m = later_branch (among_right e w p bs cs m)

pub among_either : (e : Exp) (w : Waiting) (p : Tree) (bs cs : Branches) → Among e w p (all_branches bs cs) → Among e w p bs ⊎ Among e w p cs
among_either e w p no_branch cs m = inr m
among_either e w p (and_branch f v q bs) cs m = first_or_later bs cs f v q e w p m (λ k. among_either e w p bs cs k)
  where
    first_or_later : (bs cs : Branches) (f : Exp) (v : Waiting) (q : Tree) (e : Exp) (w : Waiting) (p : Tree)
        → Among e w p (and_branch f v q (all_branches bs cs)) → (Among e w p (all_branches bs cs) → Among e w p bs ⊎ Among e w p cs)
        → Among e w p (and_branch f v q bs) ⊎ Among e w p cs
    first_or_later bs cs f v q e w p first_branch ih = inl first_branch
    first_or_later bs cs f v q e w p (later_branch k) ih = elim (ih k) [ inl a ↦ inl (later_branch a) | inr b ↦ inr b ]
