-- What conditions do in every state of a scope, and processes that differ in expressions alone. Expressions that one
-- condition of a law compares are few: they name variables of at most 24 bits together, each variable counted once.
use Rattle.std.specs.Prelude.{ℕ, ◌≡◌, ◌≤◌, Bool, true, false, ◌&&◌, List, [], ◌∷◌}
use Rattle.std.specs.List.{list_any}
use Rattle.occ_bits.specs.occ_base.declared.names.Name.{Name}
use Rattle.occ_bits.specs.occ_syntax.declared.scope.Kind.{Kind}
use Rattle.occ_bits.specs.occ_syntax.Eval.{eval, is_true}
use Rattle.occ_bits.specs.occ_syntax.Scopes.{Environment, IsState, Values, environment}
use Rattle.occ_bits.specs.occ_syntax.Tree.{Exp, Waiting, ready, input, output, Tree, Cases, no_case, and_case, Branches, no_branch, and_branch}
use Rattle.occ_bits.specs.Named.{bits_named}

abbrev pub AreFew : List (Name × Kind) → List Exp → Type 0
AreFew S es = bits_named S es ≤ 24

abbrev pub IsAlways : Environment → Exp → Type 0
IsAlways Γ b = (s : Values) → IsState Γ s → is_true Γ b s ≡ true

abbrev pub IsNever : Environment → Exp → Type 0
IsNever Γ b = (s : Values) → IsState Γ s → is_true Γ b s ≡ false

-- in no state are both true
abbrev pub ExcludeEachOther : Environment → Exp → Exp → Type 0
ExcludeEachOther Γ b c = (s : Values) → IsState Γ s → is_true Γ b s && is_true Γ c s ≡ false

abbrev pub some_true : Environment → List Exp → Values → Bool
some_true Γ bs s = list_any (λ b. is_true Γ b s) bs

-- in every state one of the conditions is true
abbrev pub IsExhaustive : Environment → List Exp → Type 0
IsExhaustive Γ bs = (s : Values) → IsState Γ s → some_true Γ bs s ≡ true

-- two expressions that have one value in every state
pub record IsEqualAlways (S : List (Name × Kind)) (e f : Exp) : Type 0 where
  pub few : AreFew S (e ∷ f ∷ [])
  pub equal : (s : Values) → IsState (environment S) s → eval (environment S) e s ≡ eval (environment S) f s

-- two expressions that have one value in every state in which b is true and all of bs are false
pub record IsEqualWhere (S : List (Name × Kind)) (b : Exp) (bs : List Exp) (e f : Exp) : Type 0 where
  pub few : AreFew S (e ∷ f ∷ b ∷ bs)
  pub equal : (s : Values) → IsState (environment S) s → is_true (environment S) b s ≡ true → some_true (environment S) bs s ≡ false
      → eval (environment S) e s ≡ eval (environment S) f s

-- ---- lists that differ in expressions alone, where expressions in one place are related by E

pub data EachEqual (E : Exp → Exp → Type 0) : List Exp → List Exp → Type 0 where
  no_place : EachEqual E [] []
  and_place : {e f : Exp} {es fs : List Exp} → E e f → EachEqual E es fs → EachEqual E (e ∷ es) (f ∷ fs)

-- the values of outputs
pub data WaitingEqual (E : Exp → Exp → Type 0) : Waiting → Waiting → Type 0 where
  equal_ready : WaitingEqual E ready ready
  equal_input : {c x : ℕ} → WaitingEqual E (input c x) (input c x)
  equal_output : {c : ℕ} {e f : Exp} → E e f → WaitingEqual E (output c e) (output c f)

-- the conditions of choices
pub data CasesEqual (E : Exp → Exp → Type 0) : Cases → Cases → Type 0 where
  no_equal_case : CasesEqual E no_case no_case
  and_equal_case : {b c : Exp} {p : Tree} {cs ds : Cases} → E b c → CasesEqual E cs ds → CasesEqual E (and_case b p cs) (and_case c p ds)

-- the conditions of branches, and the values of their outputs
pub data BranchesEqual (E : Exp → Exp → Type 0) : Branches → Branches → Type 0 where
  no_equal_branch : BranchesEqual E no_branch no_branch
  and_equal_branch : {b c : Exp} {v w : Waiting} {p : Tree} {gs hs : Branches} → E b c → WaitingEqual E v w → BranchesEqual E gs hs
      → BranchesEqual E (and_branch b v p gs) (and_branch c w p hs)
