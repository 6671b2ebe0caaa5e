-- The laws of declarations that the laws of the meaning give.
use Rattle.occ_law.specs.occ_base.declared.width.Width.{Width}
use Rattle.occ_law.specs.Scope.{ChanPar, ChanRename, ChanSeq, ChanSwap, ChanUnused, VarFirst, VarLast, VarPar, VarRename, VarSwap, VarUnused, chan_par, chan_rename, chan_seq, chan_swap, chan_unused, swap_variables, swap_with_channel, var_first, var_last, var_par, var_rename, var_unused}
use Rattle.occ_law.proofs.from_meaning.Alike.{same_itself}
use Rattle.occ_law.proofs.from_meaning.Declared.{channel_unused, channels_swapped, variable_and_channel_swapped, variable_unused, variables_swapped}
use Rattle.occ_law.proofs.from_meaning.DeclaredBeside.{channel_of_one_part, variable_of_one_part}
use Rattle.occ_law.proofs.from_meaning.DeclaredInTurn.{channel_for_each, variable_past_first, variable_past_last}
use Rattle.occ_law.proofs.from_meaning.Facts.{name_at, none_not_some}
use Rattle.occ_law.proofs.from_meaning.Redeclared.{channel_renamed, itself_replaced, variable_renamed}
use Rattle.occ_law.proofs.from_meaning.States.{fresh_name}
use Rattle.occ_law.specs.occ_meaning.Parallel.{two}
use Rattle.occ_law.specs.occ_meaning.Rename.{renamed, replacing}
use Rattle.occ_law.specs.occ_syntax.Same.{SAME}
use Rattle.occ_law.specs.occ_syntax.Scopes.{Environment, with_name}
use Rattle.occ_law.specs.occ_syntax.Tree.{Tree, and_tree, connect, declare, par, seq}
use Rattle.occ_law.specs.occ_syntax.Types.{all_types_kept, can_declare, types_kept}
use Rattle.occ_law.specs.occ_syntax.declared.scope.Kind.{Kind}
use Rattle.occ_law.specs.occ_syntax.declared.scope.Kind.TheVariants.{Chan, Var}
use Rattle.std.proofs.Common.{List, None, ap, false, inl, inr, subst, sym, true, ℕ, ◌&&◌, ◌==◌, ◌∙◌, ◌≡◌}
use Rattle.std.proofs.lemmas.Bool.{and_parts}
use Rattle.std.proofs.lemmas.Bool.Decides.{eqb_tells}

-- the part of a declared variable keeps its types, and the name was new
variable_kept : (Γ : Environment) (x : ℕ) (w : Width) (p : Tree) → types_kept (declare x w p) Γ ≡ true
    → (Γ x ≡ None) × (types_kept p (with_name Γ x (Var w)) ≡ true)
variable_kept Γ x w p t = let k = and_parts (can_declare Γ x w) (types_kept p (with_name Γ x (Var w))) t in (fresh_name Γ x w k.0, k.1)

channel_kept : (Γ : Environment) (c : ℕ) (w : Width) (p : Tree) → types_kept (connect c w p) Γ ≡ true
    → (Γ c ≡ None) × (types_kept p (with_name Γ c (Chan w None)) ≡ true)
channel_kept Γ c w p t = let k = and_parts (can_declare Γ c w) (types_kept p (with_name Γ c (Chan w None))) t in (fresh_name Γ c w k.0, k.1)

two_kept : (Δ : Environment) (p q : Tree) → types_kept (seq (two p q)) Δ ≡ true → (types_kept p Δ ≡ true) × (types_kept q Δ ≡ true)
two_kept Δ p q t = let k = and_parts (types_kept p Δ) (types_kept q Δ && true) t in (k.0, (and_parts (types_kept q Δ) true k.1).0)

-- a name that is new in the scope of another is another name
other_name : (Γ : Environment) (x y : ℕ) (k : Kind) → with_name Γ x k y ≡ None → (x == y) ≡ false
other_name Γ x y k h = elim (eqb_tells x y) [
  | inl i ↦ none_not_some (sym h ∙ (ap (with_name Γ x k) (sym i.1) ∙ name_at Γ x k))
  | inr i ↦ i.0
]

pub var_unused_sound : (Γ : Environment) (ks : List ℕ) (l r : Tree) → types_kept l Γ ≡ true → VarUnused ks l r → SAME Γ l r
var_unused_sound Γ ks l r t (var_unused x w p h) = variable_unused Γ x w p (with_name Γ x (Var w)) (variable_kept Γ x w p t).1 h

pub var_rename_sound : (Γ : Environment) (ks : List ℕ) (l r : Tree) → types_kept l Γ ≡ true → VarRename Γ ks l r → SAME Γ l r
var_rename_sound Γ ks l r t (var_rename x y w p h new) = elim (eqb_tells x y) [
  | inl i ↦ (let P : ℕ → Type 0 = λ z. SAME Γ (declare x w p) (declare z w (renamed p (replacing x z))) in
      let Q : Tree → Type 0 = λ q. SAME Γ (declare x w p) (declare x w q) in
      subst P i.1 (subst Q (sym (itself_replaced x p)) (same_itself Γ (declare x w p))))
  | inr i ↦ (let k = variable_kept Γ x w p t in variable_renamed Γ x y w p i.0 k.0 new k.1 h)
]

pub var_swap_sound : (Γ : Environment) (ks : List ℕ) (l r : Tree) → types_kept l Γ ≡ true → VarSwap ks l r → SAME Γ l r
var_swap_sound Γ ks l r t (swap_variables x y v w p) =
    let k = variable_kept Γ x v (declare y w p) t in
    variables_swapped Γ x y v w p (other_name Γ x y (Var v) (variable_kept (with_name Γ x (Var v)) y w p k.1).0)
var_swap_sound Γ ks l r t (swap_with_channel x c v w p) =
    let k = variable_kept Γ x v (connect c w p) t in
    variable_and_channel_swapped Γ x c v w p (other_name Γ x c (Var v) (channel_kept (with_name Γ x (Var v)) c w p k.1).0)

pub var_first_sound : (Γ : Environment) (ks : List ℕ) (l r : Tree) → types_kept l Γ ≡ true → VarFirst ks l r → SAME Γ l r
var_first_sound Γ ks l r t (var_first x w p q h) =
    let Δ : Environment = with_name Γ x (Var w) in variable_past_first Γ x w p q Δ (two_kept Δ p q (variable_kept Γ x w (seq (two p q)) t).1).0 h

pub var_last_sound : (Γ : Environment) (ks : List ℕ) (l r : Tree) → types_kept l Γ ≡ true → VarLast ks l r → SAME Γ l r
var_last_sound Γ ks l r t (var_last x w p q h) =
    let Δ : Environment = with_name Γ x (Var w) in variable_past_last Γ x w p q Δ (two_kept Δ p q (variable_kept Γ x w (seq (two p q)) t).1).1 h

pub var_par_sound : (Γ : Environment) (ks : List ℕ) (l r : Tree) → types_kept l Γ ≡ true → VarPar ks l r → SAME Γ l r
var_par_sound Γ ks l r t (var_par x w p qs h) =
    let Δ : Environment = with_name Γ x (Var w) in
    let k = variable_kept Γ x w (par (and_tree p qs)) t in
    variable_of_one_part Γ x w p qs Δ k.0 (and_parts (types_kept p Δ) (all_types_kept qs Δ) k.1).1 h

pub chan_unused_sound : (Γ : Environment) (ks : List ℕ) (l r : Tree) → types_kept l Γ ≡ true → ChanUnused ks l r → SAME Γ l r
chan_unused_sound Γ ks l r t (chan_unused c w p h) = channel_unused Γ c w p (with_name Γ c (Chan w None)) (channel_kept Γ c w p t).1 h

pub chan_rename_sound : (Γ : Environment) (ks : List ℕ) (l r : Tree) → types_kept l Γ ≡ true → ChanRename Γ ks l r → SAME Γ l r
chan_rename_sound Γ ks l r t (chan_rename c d w p h new) = elim (eqb_tells c d) [
  | inl i ↦ (let P : ℕ → Type 0 = λ z. SAME Γ (connect c w p) (connect z w (renamed p (replacing c z))) in
      let Q : Tree → Type 0 = λ q. SAME Γ (connect c w p) (connect c w q) in
      subst P i.1 (subst Q (sym (itself_replaced c p)) (same_itself Γ (connect c w p))))
  | inr i ↦ (let k = channel_kept Γ c w p t in channel_renamed Γ c d w p i.0 k.0 new k.1 h)
]

pub chan_swap_sound : (Γ : Environment) (ks : List ℕ) (l r : Tree) → types_kept l Γ ≡ true → ChanSwap ks l r → SAME Γ l r
chan_swap_sound Γ ks l r t (chan_swap c d v w p) =
    let k = channel_kept Γ c v (connect d w p) t in
    channels_swapped Γ c d v w p (other_name Γ c d (Chan v None) (channel_kept (with_name Γ c (Chan v None)) d w p k.1).0)

pub chan_seq_sound : (Γ : Environment) (ks : List ℕ) (l r : Tree) → ChanSeq ks l r → SAME Γ l r
chan_seq_sound Γ ks l r (chan_seq c w p q) = channel_for_each Γ c w p q

pub chan_par_sound : (Γ : Environment) (ks : List ℕ) (l r : Tree) → types_kept l Γ ≡ true → ChanPar ks l r → SAME Γ l r
chan_par_sound Γ ks l r t (chan_par c w p qs h) =
    let Δ : Environment = with_name Γ c (Chan w None) in
    let k = channel_kept Γ c w (par (and_tree p qs)) t in
    channel_of_one_part Γ c w p qs Δ (and_parts (types_kept p Δ) (all_types_kept qs Δ) k.1).1 h
