-- Parts in other scopes: their conditions name few bits there too, where the scope has no more bits of the variables that they name.
use Rattle.std.proofs.Common.{arith, ◌≡◌, ◌≤◌, ◌+◌, ◌==◌, ℕ, Bool, true, false, ◌||◌, cond, List, [], ◌∷◌, ◌++◌, None, refl, ap}
use Rattle.std.proofs.lemmas.Bool.{or_from, or_parts}
use Rattle.occ_engine.specs.occ_base.declared.names.Name.{Name}
use Rattle.occ_engine.specs.occ_base.declared.width.Width.{Width}
use Rattle.occ_engine.specs.occ_bits.Named.{bits_named, named_part}
use Rattle.occ_complete_states.specs.Few.{AllFew, BranchesFew, CasesFew, IsFew}
use Rattle.occ_engine.specs.occ_law.Lists.{conditions}
use Rattle.occ_engine.specs.occ_meaning.Rename.{stands, stands_in_branches, stands_in_cases, stands_in_some, stands_in_waiting}
use Rattle.occ_engine.specs.occ_syntax.declared.scope.Kind.{Kind}
use Rattle.occ_engine.specs.occ_syntax.declared.scope.Kind.TheVariants.{Chan, Var}
use Rattle.occ_engine.specs.occ_syntax.Counts.{bits_of_scope}
use Rattle.occ_engine.specs.occ_syntax.Names.{names, some_names}
use Rattle.occ_engine.specs.occ_syntax.Tree.{Branches, Cases, Exp, Tree, Trees, alt, and_branch, and_case, and_tree, assign, connect, declare, no_branch, no_case, no_tree, par, receive, select, send, seq, skip, stop}

bits_append : (S T : List (Name × Kind)) (es : List Exp) → bits_named (S ++ T) es ≡ bits_named S es + bits_named T es
bits_append [] T es = omega arith
bits_append (entry ∷ S) T es = choose (some_names es entry.0.0) (bits_append S T es)
  where
    choose : (b : Bool) → bits_named (S ++ T) es ≡ bits_named S es + bits_named T es
        → bits_of_scope (cond b (entry ∷ named_part (S ++ T) es) (named_part (S ++ T) es)) ≡ bits_of_scope (cond b (entry ∷ named_part S es) (named_part S es)) + bits_named T es
    choose true h = omega (arith, h)
    choose false h = h

-- expressions that don't name y name no more bits of T than of S
abbrev pub CountsNoMore : ℕ → List (Name × Kind) → List (Name × Kind) → Type 0
CountsNoMore y S T = (es : List Exp) → some_names es y ≡ false → bits_named T es ≤ bits_named S es

one_behind : (y : ℕ) (S T : List (Name × Kind)) (entry : Name × Kind) → CountsNoMore y S T → CountsNoMore y (S ++ entry ∷ []) (T ++ entry ∷ [])
one_behind y S T entry h es off =
    let a = bits_append S (entry ∷ []) es in
    let b = bits_append T (entry ∷ []) es in
    let c = h es off in
    omega (arith, a, b, c)

conditions_off : (cs : Cases) (y : ℕ) → stands_in_cases cs y ≡ false → some_names (conditions cs) y ≡ false
conditions_off no_case y h = refl
conditions_off (and_case b p cs) y h =
    let k = or_parts (names b y || stands p y) (stands_in_cases cs y) h in
    or_from (names b y) (some_names (conditions cs) y) (or_parts (names b y) (stands p y) k.0).0 (conditions_off cs y k.1)

mutual
  pub few_there : (y : ℕ) (S T : List (Name × Kind)) (p : Tree) → CountsNoMore y S T → stands p y ≡ false → IsFew S p → IsFew T p
  few_there y S T skip h off few = tt
  few_there y S T stop h off few = tt
  few_there y S T (assign xs es) h off few = tt
  few_there y S T (receive c x) h off few = tt
  few_there y S T (send c e) h off few = tt
  few_there y S T (seq ps) h off few = all_there y S T ps h off few
  few_there y S T (par ps) h off few = all_there y S T ps h off few
  few_there y S T (select cs) h off few = (let less = h (conditions cs) (conditions_off cs y off) in let k = few.0 in omega (arith, less, k), cases_there y S T cs h off few.1)
  few_there y S T (alt gs) h off few = branches_there y S T gs h off few
  few_there y S T (declare x w p) h off few =
      let entry : Name × Kind = (record { 0 = x }, Var w) in
      few_there y (S ++ entry ∷ []) (T ++ entry ∷ []) p (one_behind y S T entry h) (or_parts (y == x) (stands p y) off).1 few
  few_there y S T (connect c w p) h off few =
      let entry : Name × Kind = (record { 0 = c }, Chan w None) in
      few_there y (S ++ entry ∷ []) (T ++ entry ∷ []) p (one_behind y S T entry h) (or_parts (y == c) (stands p y) off).1 few

  all_there : (y : ℕ) (S T : List (Name × Kind)) (ps : Trees) → CountsNoMore y S T → stands_in_some ps y ≡ false → AllFew S ps → AllFew T ps
  all_there y S T no_tree h off few = tt
  all_there y S T (and_tree p ps) h off few =
      let k = or_parts (stands p y) (stands_in_some ps y) off in (few_there y S T p h k.0 few.0, all_there y S T ps h k.1 few.1)

  cases_there : (y : ℕ) (S T : List (Name × Kind)) (cs : Cases) → CountsNoMore y S T → stands_in_cases cs y ≡ false → CasesFew S cs → CasesFew T cs
  cases_there y S T no_case h off few = tt
  cases_there y S T (and_case b p cs) h off few =
      let k = or_parts (names b y || stands p y) (stands_in_cases cs y) off in
      (few_there y S T p h (or_parts (names b y) (stands p y) k.0).1 few.0, cases_there y S T cs h k.1 few.1)

  branches_there : (y : ℕ) (S T : List (Name × Kind)) (gs : Branches) → CountsNoMore y S T → stands_in_branches gs y ≡ false → BranchesFew S gs → BranchesFew T gs
  branches_there y S T no_branch h off few = tt
  branches_there y S T (and_branch b w p gs) h off few =
      let k = or_parts ((names b y || stands_in_waiting w y) || stands p y) (stands_in_branches gs y) off in
      (few_there y S T p h (or_parts (names b y || stands_in_waiting w y) (stands p y) k.0).1 few.0, branches_there y S T gs h k.1 few.1)

-- ---- with a further variable, which isn't named; without a channel, and with a channel in another place

bits_off : (y : ℕ) (kind : Kind) (es : List Exp) → some_names es y ≡ false → bits_named ((record { 0 = y }, kind) ∷ []) es ≡ 0
bits_off y kind es off = ap (λ b. bits_of_scope (cond b ((record { 0 = y }, kind) ∷ []) [])) off

pub more_counts : (S : List (Name × Kind)) (y : ℕ) (kind : Kind) → CountsNoMore y S (S ++ (record { 0 = y }, kind) ∷ [])
more_counts S y kind es off =
    let a = bits_append S ((record { 0 = y }, kind) ∷ []) es in
    let b = bits_off y kind es off in
    omega (arith, a, b)

bits_of_channel : (c : ℕ) (w : Width) (es : List Exp) → bits_named ((record { 0 = c }, Chan w None) ∷ []) es ≡ 0
bits_of_channel c w es = choose (some_names es c)
  where
    choose : (b : Bool) → bits_of_scope (cond b ((record { 0 = c }, Chan w None) ∷ []) []) ≡ 0
    choose true = refl
    choose false = refl

pub channel_counts : (S : List (Name × Kind)) (c : ℕ) (w : Width) (y : ℕ) → CountsNoMore y (S ++ (record { 0 = c }, Chan w None) ∷ []) S
channel_counts S c w y es off =
    let a = bits_append S ((record { 0 = c }, Chan w None) ∷ []) es in
    let b = bits_of_channel c w es in
    omega (arith, a, b)

pub turned_counts : (S : List (Name × Kind)) (s t : Name × Kind) (y : ℕ) → CountsNoMore y ((S ++ s ∷ []) ++ t ∷ []) ((S ++ t ∷ []) ++ s ∷ [])
turned_counts S s t y es off =
    let a = bits_append (S ++ s ∷ []) (t ∷ []) es in
    let b = bits_append S (s ∷ []) es in
    let c = bits_append (S ++ t ∷ []) (s ∷ []) es in
    let d = bits_append S (t ∷ []) es in
    omega (arith, a, b, c, d)
