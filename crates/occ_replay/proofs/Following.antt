-- Steps that are taken one after the other.
use Rattle.std.proofs.Common.{◌≡◌, ℕ, ◌+◌, ◌<◌, zero, suc, true, add-one, List, [], ◌∷◌, ◌++◌, length, map, take, drop, get_or, Some, refl, sym, ap, subst, ◌∙◌, arith}
use Rattle.occ_syntax.specs.occ_base.declared.names.Name.{Name}
use Rattle.occ_replay.specs.Changes.{IsStopped, IsTaken}
use Rattle.occ_replay.specs.declared.change.Stopped.{Stopped}
use Rattle.occ_replay.specs.declared.change.Stopped.TheVariants as stopped
use Rattle.occ_replay.specs.Scripts.{IsDerived, IsRejectedSteps, rejects, step_of}
use Rattle.occ_replay_rules.specs.Steps.{Derives, IsGoodStep, Lack, Lacks, Step, Stops, and_step, new_whole, no_law, no_path, no_step, not_accepted, not_instance}
use Rattle.occ_replay_rules.proofs.Deriving.{follow}
use Rattle.occ_script.specs.declared.script.Step.{Step as Read}
use Rattle.occ_syntax.specs.declared.scope.Kind.{Kind}
use Rattle.occ_syntax.specs.declared.scope.Program.{Program}
use Rattle.occ_syntax.specs.Scopes.{environment}
use Rattle.occ_syntax.specs.Tree.{Tree}
use Rattle.occ_syntax.specs.Types.{scope_kept}
use Rattle.occ_syntax.specs.Usage.{Keeps}
use Rattle.occ_syntax.specs.View.{tree}
use Rattle.occ_law_any.specs.occ_usage.Accepted.{KeepsRules}

-- ---- lists as they are gone through

pub taken_next : {A : Type 0} (xs : List A) (n : ℕ) (x : A) → n < length xs → get_or xs n x ≡ x → take (suc n) xs ≡ take n xs ++ x ∷ []
taken_next [] n x l e = absurd (omega (arith, l))
taken_next (y ∷ xs) zero x l e = ap (λ z. z ∷ []) e
taken_next (y ∷ xs) (suc n) x l e = ap (λ zs. y ∷ zs) (taken_next xs n x (omega (arith, l)) e)

pub divided : {A : Type 0} (xs : List A) (n : ℕ) (x : A) → n < length xs → get_or xs n x ≡ x → xs ≡ take n xs ++ x ∷ drop (suc n) xs
divided [] n x l e = absurd (omega (arith, l))
divided (y ∷ xs) zero x l e = ap (λ z. z ∷ xs) e
divided (y ∷ xs) (suc n) x l e = ap (λ zs. y ∷ zs) (divided xs n x (omega (arith, l)) e)

pub map_joined : {A B : Type 0} (f : A → B) (xs ys : List A) → map f (xs ++ ys) ≡ map f xs ++ map f ys
map_joined f [] ys = refl
map_joined f (x ∷ xs) ys = ap (λ zs. f x ∷ zs) (map_joined f xs ys)

pub map_long : {A B : Type 0} (f : A → B) (xs : List A) → length (map f xs) ≡ length xs
map_long f [] = refl
map_long f (x ∷ xs) = ap suc (map_long f xs)

pub long_front : {A : Type 0} (xs : List A) (n : ℕ) → n < length xs → length (take n xs) ≡ n
long_front [] n l = absurd (omega (arith, l))
long_front (x ∷ xs) zero l = refl
long_front (x ∷ xs) (suc n) l = ap suc (long_front xs n (omega (arith, l)))

-- ---- steps

-- a step that is taken leads on from where others led
pub further : (from here next : Program) (steps : List Step) (step : Step) → IsDerived from steps here → IsTaken here step next → IsDerived from (steps ++ step ∷ []) next
further from here next steps step d t = record {
  name = t.name ∙ d.name;
  params = t.params ∙ d.params;
  derived =
      let good : IsGoodStep from.params (tree here.body) step = subst (λ T. IsGoodStep T (tree here.body) step) d.params t.good in
      let body : tree next.body ≡ new_whole from.params (tree here.body) step = t.body ∙ ap (λ T. new_whole T (tree here.body) step) d.params in
      follow from.params (tree from.body) (tree here.body) (tree next.body) steps (step ∷ []) d.derived
      (and_step (tree here.body) (tree next.body) step [] good (subst (λ q. Derives from.params q [] (tree next.body)) body (no_step (tree next.body))));
}

-- and to a program that keeps the rules
pub rules_further : (here next : Program) (step : Step) → KeepsRules here → IsTaken here step next → KeepsRules next
rules_further here next step kept t = record {
  scope = subst (λ T. scope_kept T ≡ true) (sym t.params) kept.scope;
  keeps = subst (λ T. Keeps (environment T) (tree next.body)) (sym t.params) (subst (Keeps (environment here.params)) (sym t.body) t.good.acceptable.keeps);
}

-- the first steps of a list with the next one
pub further_in : (from here next : Program) (steps : List Read) (n : ℕ) (step : Read) → n < length steps → get_or steps n step ≡ step
    → IsDerived from (map step_of (take n steps)) here → IsTaken here (step_of step) next → IsDerived from (map step_of (take (n + 1) steps)) next
further_in from here next steps n step l e d t =
    subst (λ ss. IsDerived from ss next)
    (sym (ap (λ k. map step_of (take k steps)) (add-one n) ∙ ap (map step_of) (taken_next steps n step l e) ∙ map_joined step_of (take n steps) (step ∷ [])))
    (further from here next (map step_of (take n steps)) (step_of step) d t)

-- a step that isn't taken stops them
stopped_in : (from here : Program) (steps : List Read) (n k : ℕ) (step : Read) (lack : Lack) → n < length steps → get_or steps n step ≡ step → k ≡ n + 1
    → IsDerived from (map step_of (take n steps)) here → Lacks here.params (tree here.body) (step_of step) lack
    → Stops from.params (tree from.body) (map step_of steps) k lack
stopped_in from here steps n k step lack l e number d lacks = record {
  front = map step_of (take n steps);
  step = step_of step;
  rest = map step_of (drop (suc n) steps);
  parts = ap (map step_of) (divided steps n step l e) ∙ map_joined step_of (take n steps) (step ∷ drop (suc n) steps);
  number_is = number ∙ ap (λ m. m + 1) (sym (map_long step_of (take n steps) ∙ long_front steps n l));
  here = tree here.body;
  derived = d.derived;
  lacks = subst (λ T. Lacks T (tree here.body) (step_of step) lack) d.params lacks;
}

pub rejected_in : (from here : Program) (steps : List Read) (n k : ℕ) (step : Read) (s : Stopped) → n < length steps → get_or steps n step ≡ step → k ≡ n + 1
    → IsDerived from (map step_of (take n steps)) here → IsStopped here (step_of step) s → IsRejectedSteps from (map step_of steps) (rejects s k)
rejected_in from here steps n k step stopped.NoLaw l e number d h = stopped_in from here steps n k step no_law l e number d h
rejected_in from here steps n k step stopped.NoPath l e number d h = stopped_in from here steps n k step no_path l e number d h
rejected_in from here steps n k step stopped.NotAccepted l e number d h = stopped_in from here steps n k step not_accepted l e number d h
rejected_in from here steps n k step stopped.NotInstance l e number d h = stopped_in from here steps n k step not_instance l e number d h
rejected_in from here steps n k step stopped.Memory l e number d h = tt

-- no step leads from a program to a copy of it
pub begins : (from copy : Program) → copy.name ≡ from.name → copy.params ≡ from.params → tree copy.body ≡ tree from.body → IsDerived from [] copy
begins from copy name params body = record {
  name = name;
  params = params;
  derived = subst (Derives from.params (tree from.body) []) (sym body) (no_step (tree from.body));
}

pub rules_copied : (from copy : Program) → copy.params ≡ from.params → tree copy.body ≡ tree from.body → KeepsRules from → KeepsRules copy
rules_copied from copy params body kept = record {
  scope = subst (λ T. scope_kept T ≡ true) (sym params) kept.scope;
  keeps = subst (λ T. Keeps (environment T) (tree copy.body)) (sym params) (subst (Keeps (environment from.params)) (sym body) kept.keeps);
}
