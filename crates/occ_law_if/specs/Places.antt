-- Two lists of choices that are equal up to a place, and what if-false, if-nest, if-swap, if-merge and if-under change there.
use Rattle.std.specs.Prelude.{List, [], ◌∷◌}
use Rattle.occ_syntax.specs.occ_base.declared.names.Name.{Name}
use Rattle.occ_syntax.specs.declared.expr.Op.TheVariants.{Or}
use Rattle.occ_syntax.specs.declared.scope.Kind.{Kind}
use Rattle.occ_syntax.specs.Scopes.{environment}
use Rattle.occ_syntax.specs.Tree.{Exp, operation, Tree, stop, select, Cases, no_case, and_case}
use Rattle.occ_law_shape.specs.occ_law.Choice.{each_case_under}
use Rattle.occ_law_shape.specs.occ_law.Lists.{all_cases, conditions}
use Rattle.occ_law_shape.specs.occ_law.States.{AreFew, ExcludeEachOther, IsEqualWhere, IsNever}
use Rattle.occ_law_if.specs.Processes.{ProcessesEqual}

-- behind choices that are the same in both: here, or further on
pub data Somewhere (J : Cases → Cases → Cases → Type 0) : Cases → Cases → Cases → Type 0 where
  here : {front cs ds : Cases} → J front cs ds → Somewhere J front cs ds
  later : {front cs ds : Cases} {b : Exp} {p : Tree} → Somewhere J (all_cases front (and_case b p no_case)) cs ds → Somewhere J front (and_case b p cs) (and_case b p ds)

-- a choice leaves
pub data FalseHere (S : List (Name × Kind)) : Cases → Cases → Cases → Type 0 where
  false_here : {front : Cases} (b : Exp) (p : Tree) (ds : Cases) → AreFew S (b ∷ []) → IsNever (environment S) b → FalseHere S front (and_case b p ds) ds

-- an IF in a choice goes into the list
pub data NestHere : Cases → Cases → Cases → Type 0 where
  nest_here : {front : Cases} (b : Exp) (es ds : Cases) → NestHere front (and_case b (select es) ds) (all_cases (each_case_under b es) (and_case b stop ds))

-- two choices change places
pub data SwapHere (S : List (Name × Kind)) : Cases → Cases → Cases → Type 0 where
  swap_here : {front : Cases} (b c : Exp) (p q : Tree) (ds : Cases) → AreFew S (b ∷ c ∷ []) → ExcludeEachOther (environment S) b c
      → SwapHere S front (and_case b p (and_case c q ds)) (and_case c q (and_case b p ds))

-- two choices of one process become one
pub data MergeHere : Cases → Cases → Cases → Type 0 where
  merge_here : {front : Cases} (b c : Exp) (p : Tree) (ds : Cases) → MergeHere front (and_case b p (and_case c p ds)) (and_case (operation Or b c) p ds)

-- the process of a choice changes
pub data UnderHere (S : List (Name × Kind)) : Cases → Cases → Cases → Type 0 where
  under_here : {front : Cases} (b : Exp) (p q : Tree) (ds : Cases) → ProcessesEqual (IsEqualWhere S b (conditions front)) p q
      → UnderHere S front (and_case b p ds) (and_case b q ds)

-- where nothing is left, there is no such place

pub no_false_at_end : (S : List (Name × Kind)) (front us : Cases) → FalseHere S front no_case us → ⊥
no_false_at_end S front us h = elim h [ ]

pub no_nest_at_end : (front us : Cases) → NestHere front no_case us → ⊥
no_nest_at_end front us h = elim h [ ]

pub no_swap_at_end : (S : List (Name × Kind)) (front us : Cases) → SwapHere S front no_case us → ⊥
no_swap_at_end S front us h = elim h [ ]

pub no_merge_at_end : (front us : Cases) → MergeHere front no_case us → ⊥
no_merge_at_end front us h = elim h [ ]

pub no_under_at_end : (S : List (Name × Kind)) (front us : Cases) → UnderHere S front no_case us → ⊥
no_under_at_end S front us h = elim h [ ]
