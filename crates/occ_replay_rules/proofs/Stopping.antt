-- Steps stop at one place for one lack, and steps that stop derive nothing.
use Rattle.std.proofs.Common.{◌≡◌, ℕ, ◌+◌, List, [], ◌∷◌, ◌++◌, length, Option, Some, None, refl, sym, ap, subst, ◌∙◌, arith}
use Rattle.occ_print.specs.occ_base.declared.names.Name.{Name}
use Rattle.occ_replay_rules.specs.Steps.{Derives, IsGoodStep, Joins, Lack, Lacks, Step, Stops, new_part, new_whole, nowhere, scope_there, unacceptable, unjoined, unnamed}
use Rattle.occ_replay_rules.proofs.Deriving.{begun, ended}
use Rattle.occ_print.specs.occ_syntax.declared.scope.Kind.{Kind}
use Rattle.occ_print.specs.occ_syntax.Tree.{Tree}

-- a value isn't there and there
none_some : {A : Type 0} (o : Option A) (x : A) → o ≡ None → o ≡ Some x → ⊥
none_some o x h k = cc

same_some : {A : Type 0} (o : Option A) (x y : A) → o ≡ Some x → o ≡ Some y → x ≡ y
same_some o x y h k = cc

-- a step that lacks something isn't good
pub lacks_good : (S : List (Name × Kind)) (p : Tree) (step : Step) (lack : Lack) → Lacks S p step lack → IsGoodStep S p step → ⊥
lacks_good S p step lack (unnamed h) good = none_some step.law good.law h good.named
lacks_good S p step lack (nowhere law l h) good = none_some _ good.old h good.there
lacks_good S p step lack (unacceptable law old l h bars) good = bars good.acceptable
lacks_good S p step lack (unjoined law old l h may bars) good =
    bars (subst (λ (n : ℕ). Joins step.dir n (scope_there S p step) old (new_part S p step)) (same_some step.law good.law law good.named l)
    (subst (λ (q : Tree). Joins step.dir good.law (scope_there S p step) q (new_part S p step)) (same_some _ good.old old good.there h) good.joins))

-- a step has one lack
pub one_lack : (S : List (Name × Kind)) (p : Tree) (step : Step) (a b : Lack) → Lacks S p step a → Lacks S p step b → a ≡ b
one_lack S p step a b (unnamed h) (unnamed k) = refl
one_lack S p step a b (unnamed h) (nowhere law l k) = absurd (none_some step.law law h l)
one_lack S p step a b (unnamed h) (unacceptable law old l k bars) = absurd (none_some step.law law h l)
one_lack S p step a b (unnamed h) (unjoined law old l k may bars) = absurd (none_some step.law law h l)
one_lack S p step a b (nowhere law l h) (unnamed k) = absurd (none_some step.law law k l)
one_lack S p step a b (nowhere law l h) (nowhere n m k) = refl
one_lack S p step a b (nowhere law l h) (unacceptable n old m k bars) = absurd (none_some _ old h k)
one_lack S p step a b (nowhere law l h) (unjoined n old m k may bars) = absurd (none_some _ old h k)
one_lack S p step a b (unacceptable law old l h bars) (unnamed k) = absurd (none_some step.law law k l)
one_lack S p step a b (unacceptable law old l h bars) (nowhere n m k) = absurd (none_some _ old k h)
one_lack S p step a b (unacceptable law old l h bars) (unacceptable n o m k denies) = refl
one_lack S p step a b (unacceptable law old l h bars) (unjoined n o m k may denies) = absurd (bars may)
one_lack S p step a b (unjoined law old l h may bars) (unnamed k) = absurd (none_some step.law law k l)
one_lack S p step a b (unjoined law old l h may bars) (nowhere n m k) = absurd (none_some _ old k h)
one_lack S p step a b (unjoined law old l h may bars) (unacceptable n o m k denies) = absurd (denies may)
one_lack S p step a b (unjoined law old l h may bars) (unjoined n o m k also denies) = refl

-- ---- where steps stop

-- steps stop at the first one, or behind it
data IsStopped (S : List (Name × Kind)) (p : Tree) (step : Step) (steps : List Step) (number : ℕ) (lack : Lack) : Type 0 where
  at_once : Lacks S p step lack → number ≡ 1 → IsStopped S p step steps number lack
  later_on : IsGoodStep S p step → (before : ℕ) → number ≡ before + 1 → Stops S (new_whole S p step) steps before lack → IsStopped S p step steps number lack

first_is : {A : Type 0} (x y : A) (xs ys : List A) → x ∷ xs ≡ y ∷ ys → x ≡ y
first_is x y xs ys h = cc

rest_is : {A : Type 0} (x y : A) (xs ys : List A) → x ∷ xs ≡ y ∷ ys → xs ≡ ys
rest_is x y xs ys h = cc

stopped : (S : List (Name × Kind)) (p : Tree) (step : Step) (steps : List Step) (number : ℕ) (lack : Lack) → Stops S p (step ∷ steps) number lack → IsStopped S p step steps number lack
stopped S p step steps number lack s = at s.front s.parts s.number_is s.derived
  where
    at : (front : List Step) → step ∷ steps ≡ front ++ s.step ∷ s.rest → number ≡ length front + 1 → Derives S p front s.here → IsStopped S p step steps number lack
    at [] e k d =
        at_once (subst (λ (a : Tree). Lacks S a step lack) (sym (ended S p s.here d)) (subst (λ (g : Step). Lacks S s.here g lack) (sym (first_is step s.step steps s.rest e)) s.lacks)) (omega (arith, k))
    at (f ∷ front) e k d =
        let is : f ≡ step = sym (first_is step f steps (front ++ s.step ∷ s.rest) e) in
        let b = begun S p s.here f front d in
        later_on (subst (IsGoodStep S p) is b.0) (length front + 1) (omega (arith, k))
        (record {
          front = front;
          step = s.step;
          rest = s.rest;
          parts = rest_is step f steps (front ++ s.step ∷ s.rest) e;
          number_is = refl;
          here = s.here;
          derived = subst (λ (g : Step). Derives S (new_whole S p g) front s.here) is b.1;
          lacks = s.lacks;
        })

-- where there is no step, none stops
never : (S : List (Name × Kind)) (p : Tree) (number : ℕ) (lack : Lack) → Stops S p [] number lack → ⊥
never S p number lack s = at s.front s.parts
  where
    at : (front : List Step) → [] ≡ front ++ s.step ∷ s.rest → ⊥
    at [] e = cc
    at (f ∷ front) e = cc

-- steps that stop derive nothing
pub stops_derives : (S : List (Name × Kind)) (p q : Tree) (steps : List Step) (number : ℕ) (lack : Lack) → Stops S p steps number lack → Derives S p steps q → ⊥
stops_derives S p q [] number lack s d = never S p number lack s
stops_derives S p q (step ∷ steps) number lack s d =
    let b = begun S p q step steps d in
    at b.0 (λ before t. stops_derives S (new_whole S p step) q steps before lack t b.1) (stopped S p step steps number lack s)
  where
    at : IsGoodStep S p step → ((before : ℕ) → Stops S (new_whole S p step) steps before lack → ⊥) → IsStopped S p step steps number lack → ⊥
    at good further (at_once l e) = lacks_good S p step lack l good
    at good further (later_on fine before e t) = further before t

-- steps stop at one place for one lack
pub one_stop : (S : List (Name × Kind)) (p : Tree) (steps : List Step) (n m : ℕ) (a b : Lack) → Stops S p steps n a → Stops S p steps m b → (n ≡ m) × (a ≡ b)
one_stop S p [] n m a b s t = absurd (never S p n a s)
one_stop S p (step ∷ steps) n m a b s t =
    at (λ i j. one_stop S (new_whole S p step) steps i j a b) (stopped S p step steps n a s) (stopped S p step steps m b t)
  where
    at : ((i j : ℕ) → Stops S (new_whole S p step) steps i a → Stops S (new_whole S p step) steps j b → (i ≡ j) × (a ≡ b))
        → IsStopped S p step steps n a → IsStopped S p step steps m b → (n ≡ m) × (a ≡ b)
    at further (at_once l e) (at_once k f) = (e ∙ sym f, one_lack S p step a b l k)
    at further (at_once l e) (later_on good j f v) = absurd (lacks_good S p step a l good)
    at further (later_on good i e u) (at_once k f) = absurd (lacks_good S p step b k good)
    at further (later_on good i e u) (later_on fine j f v) =
        let same = further i j u v in
        (e ∙ ap (λ k. k + 1) same.0 ∙ sym f, same.1)
