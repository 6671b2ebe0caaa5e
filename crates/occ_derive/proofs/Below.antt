-- Names below a number are below a greater one.
use Rattle.std.proofs.Common.{◌<◌, ◌≤◌, ℕ, suc, ◌+◌, ◌≡◌, List, [], ◌∷◌, drop, get_or, length, sym, subst, arith}
use Rattle.std.specs.List.{AllByRecursion}
use Rattle.std.proofs.Math.Seq.{drop-cons}
use Rattle.occ_syntax.specs.occ_base.declared.names.Name.{Name}
use Rattle.occ_derive.specs.Derived.{AreBelow, IsBelow, ParamIsBelow, ProgramIsBelow}
use Rattle.occ_derive_search.specs.occ_engine.declared.outcome.Outcome.{Outcome}
use Rattle.occ_script_back.specs.occ_print.Greatest.{greatest}
use Rattle.occ_script_back.specs.occ_script_write.declared.writing.Done.{Done}
use Rattle.occ_syntax.specs.declared.scope.Kind.{Kind}
use Rattle.occ_syntax.specs.declared.scope.Program.{Program}
use Rattle.occ_syntax.specs.View.{tree}

add_one : (n : ℕ) → n + 1 ≡ suc n
add_one n = omega arith

-- what is left of a list, from one place and from the next
from_next : {A : Type 0} (P : A → Type 0) (xs : List A) (i : ℕ) (d : A) → i < length xs → P (get_or xs i d) → AllByRecursion P (drop (i + 1) xs)
    → AllByRecursion P (drop i xs)
from_next P xs i d h first rest =
    subst (AllByRecursion P) (sym (drop-cons xs i d h)) (first, subst (λ (n : ℕ). AllByRecursion P (drop n xs)) (add_one i) rest)

-- one parameter more
pub params_on : (r m : ℕ) (params : List (Name × Kind)) (i : ℕ) (d : Name × Kind) → i < length params → (get_or params i d).0.0 ≤ r → r ≤ m
    → AllByRecursion (ParamIsBelow m) (drop (i + 1) params) → AllByRecursion (ParamIsBelow m) (drop i params)
params_on r m params i d h first l rest = from_next (ParamIsBelow m) params i d h (omega (arith, first, l)) rest

step_more : (a m : ℕ) (step : Done) → a ≤ m → IsBelow a step → IsBelow m step
step_more a m step l h = let low = h.part in record { part = omega (arith, low, l); path = h.path }

-- one step more
pub steps_on : (a r m : ℕ) (steps : List Done) (i : ℕ) (d step : Done) → i < length steps → get_or steps i d ≡ step → IsBelow a step → a ≤ r → r ≤ m
    → AllByRecursion (IsBelow m) (drop (i + 1) steps) → AllByRecursion (IsBelow m) (drop i steps)
steps_on a r m steps i d step h e first low l rest =
    from_next (IsBelow m) steps i d h (subst (IsBelow m) (sym e) (step_more a m step (omega (arith, low, l)) first)) rest

params_more : (a m : ℕ) (params : List (Name × Kind)) → a ≤ m → AllByRecursion (ParamIsBelow a) params → AllByRecursion (ParamIsBelow m) params
params_more a m [] l h = tt
params_more a m (p ∷ ps) l h = let low = h.0 in (omega (arith, low, l), params_more a m ps l h.1)

steps_more : (a m : ℕ) (steps : List Done) → a ≤ m → AllByRecursion (IsBelow a) steps → AllByRecursion (IsBelow m) steps
steps_more a m [] l h = tt
steps_more a m (s ∷ ss) l h = (step_more a m s l h.0, steps_more a m ss l h.1)

program_more : (a m : ℕ) (p : Program) → a ≤ m → ProgramIsBelow a p → ProgramIsBelow m p
program_more a m p l h = let name = h.name in let body = h.body in record {
  name = omega (arith, name, l);
  params = params_more a m p.params l h.params;
  body = omega (arith, body, l);
}

-- the names of a program, from those of its parts
pub program_below : (header params last : ℕ) (p : Program) → p.name.0 ≤ header → params ≤ header → header ≤ last → AllByRecursion (ParamIsBelow params) p.params
    → greatest (tree p.body) 0 ≤ last → ProgramIsBelow last p
program_below header params last p name few l h body = record {
  name = omega (arith, name, l);
  params = params_more params last p.params (omega (arith, few, l)) h;
  body = body;
}

-- those of a derivation
pub all_below : (from to ends steps last : ℕ) (p : Program) (o : Outcome) → ProgramIsBelow from p → ProgramIsBelow to o.to → from ≤ ends → to ≤ ends → ends ≤ last
    → AllByRecursion (IsBelow steps) o.steps → steps ≤ last → AreBelow last p o
all_below from to ends steps last p o first end a b l h few = record {
  first = program_more from last p (omega (arith, a, l)) first;
  steps = steps_more steps last o.steps few h;
  to = program_more to last o.to (omega (arith, b, l)) end;
}
