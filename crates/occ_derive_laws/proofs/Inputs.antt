-- The second form of var-alt: an input goes into a declared variable first, and from there to its own.
use Rattle.std.proofs.Common.{◌≡◌, ◌∙◌, ℕ, true, false, ◌&&◌, ◌||◌, ◌==◌, List, [], ◌∷◌, None, Some, inr, refl, ap, sym}
use Rattle.std.proofs.lemmas.Bool.{and_from, and_parts, eqb-true, false_from_ne_true, or_from, or_parts}
use Rattle.occ_renamed.specs.occ_base.declared.event.Dir.TheVariants.{Input}
use Rattle.occ_renamed.specs.occ_base.declared.names.Name.{Name}
use Rattle.occ_renamed.specs.occ_base.declared.width.Width.{Width}
use Rattle.occ_derive_laws.proofs.Opened.{agree_both, declared_width, opened, two_types, types_of_two}
use Rattle.occ_derive_laws.specs.Passing.{MayPass}
use Rattle.occ_renamed.specs.occ_law.Lists.{all_branches, tally}
use Rattle.occ_renamed.specs.occ_law.Scope.{var_alt_input}
use Rattle.occ_renamed.specs.occ_law.RuleTable.{LAW}
use Rattle.occ_renamed.proofs.from_meaning.Facts.{and_four, name_off, none_not_some, or_four}
use Rattle.occ_renamed.proofs.from_meaning.InScope.{free_in_scope}
use Rattle.occ_renamed.specs.occ_meaning.Parallel.{two}
use Rattle.occ_renamed.specs.occ_syntax.declared.scope.Kind.{Kind}
use Rattle.occ_renamed.specs.occ_syntax.declared.scope.Kind.TheVariants.{Var}
use Rattle.occ_renamed.specs.occ_syntax.Names.{free, free_in_branches, free_in_waiting, names}
use Rattle.occ_renamed.specs.occ_syntax.Scopes.{Environment, allows, channel_width, environment, variable_kind, variable_width, with_name}
use Rattle.occ_renamed.specs.occ_syntax.Tree.{Branches, Exp, Tree, alt, and_branch, assign, declare, input, no_branch, seq, variable}
use Rattle.occ_renamed.specs.occ_syntax.Types.{agree, branches_kept, can_declare, input_kept, is_condition, types_kept, waiting_kept}
use Rattle.occ_renamed.specs.occ_syntax.Usage.{BranchesKeepUsage, Keeps}

-- ---- a branch behind others

-- branches behind others that are exchanged keep types and usage
types_behind : (Γ : Environment) (gs hs ks : Branches) → (branches_kept hs Γ ≡ true → branches_kept ks Γ ≡ true) → branches_kept (all_branches gs hs) Γ ≡ true
    → branches_kept (all_branches gs ks) Γ ≡ true
types_behind Γ no_branch hs ks f t = f t
types_behind Γ (and_branch b w p gs) hs ks f t =
    let k = and_parts ((is_condition Γ b && waiting_kept Γ w) && types_kept p Γ) (branches_kept (all_branches gs hs) Γ) t in
    and_from ((is_condition Γ b && waiting_kept Γ w) && types_kept p Γ) (branches_kept (all_branches gs ks) Γ) k.0 (types_behind Γ gs hs ks f k.1)

usage_behind : (gs hs ks : Branches) → (BranchesKeepUsage hs → BranchesKeepUsage ks) → BranchesKeepUsage (all_branches gs hs) → BranchesKeepUsage (all_branches gs ks)
usage_behind no_branch hs ks f u = f u
usage_behind (and_branch b w p gs) hs ks f u = (u.0, usage_behind gs hs ks f u.1)

-- ---- the two inputs

-- the process behind the input into the declared variable
abbrev passed : ℕ → ℕ → Tree → Tree
passed x z p = seq (two (assign (x ∷ []) (variable z ∷ [])) p)

abbrev straight : Exp → ℕ → ℕ → Tree → Branches → Branches
straight b c x p hs = and_branch b (input c x) p hs

abbrev around : Exp → ℕ → ℕ → ℕ → Tree → Branches → Branches
around b c x z p hs = and_branch b (input c z) (passed x z p) hs

-- an input into a variable of the same width
other_input : (Γ : Environment) (c x z : ℕ) → variable_width Γ x ≡ variable_width Γ z → input_kept Γ c x ≡ input_kept Γ c z
other_input Γ c x z same = ap (λ o. allows (Γ c) Input && agree (channel_width Γ c) o) same

pass_types : (Γ : Environment) (x z : ℕ) (w : Width) (p : Tree) → variable_width Γ x ≡ Some w → variable_width Γ z ≡ Some w → types_kept p Γ ≡ true
    → types_kept (passed x z p) Γ ≡ true
pass_types Γ x z w p wx wz t =
    let a = agree (variable_width Γ x) (variable_width Γ z) in
    two_types Γ (assign (x ∷ []) (variable z ∷ [])) p (and_from (a && true) true (and_from a true (agree_both (variable_width Γ x) (variable_width Γ z) w wx wz) refl) refl) t

go_around : (Γ : Environment) (b : Exp) (c x z : ℕ) (w : Width) (p : Tree) (hs : Branches) → variable_width Γ x ≡ Some w → variable_width Γ z ≡ Some w
    → branches_kept (straight b c x p hs) Γ ≡ true → branches_kept (around b c x z p hs) Γ ≡ true
go_around Γ b c x z w p hs wx wz t =
    let k = and_four (is_condition Γ b) (input_kept Γ c x) (types_kept p Γ) (branches_kept hs Γ) t in
    and_from ((is_condition Γ b && input_kept Γ c z) && types_kept (passed x z p) Γ) (branches_kept hs Γ)
    (and_from (is_condition Γ b && input_kept Γ c z) (types_kept (passed x z p) Γ)
    (and_from (is_condition Γ b) (input_kept Γ c z) k.0 (sym (other_input Γ c x z (wx ∙ sym wz)) ∙ k.1)) (pass_types Γ x z w p wx wz k.2)) k.3

go_straight : (Γ : Environment) (b : Exp) (c x z : ℕ) (p : Tree) (hs : Branches) → variable_width Γ x ≡ variable_width Γ z
    → branches_kept (around b c x z p hs) Γ ≡ true → branches_kept (straight b c x p hs) Γ ≡ true
go_straight Γ b c x z p hs same t =
    let k = and_four (is_condition Γ b) (input_kept Γ c z) (types_kept (passed x z p) Γ) (branches_kept hs Γ) t in
    let q = types_of_two Γ (assign (x ∷ []) (variable z ∷ [])) p k.2 in
    and_from ((is_condition Γ b && input_kept Γ c x) && types_kept p Γ) (branches_kept hs Γ)
    (and_from (is_condition Γ b && input_kept Γ c x) (types_kept p Γ) (and_from (is_condition Γ b) (input_kept Γ c x) k.0 (other_input Γ c x z same ∙ k.1)) q.1) k.3

-- ---- the law, for a variable that isn't free in the ALT

inner_width : (S : List (Name × Kind)) (z : ℕ) (w : Width) (x : ℕ) → (x == z) ≡ false → variable_width (environment S) x ≡ Some w
    → variable_width (with_name (environment S) z (Var w)) x ≡ Some w
inner_width S z w x off h = ap variable_kind (name_off (environment S) z (Var w) x off) ∙ h

pub passed_on : (S : List (Name × Kind)) (z : ℕ) (w : Width) (gs hs : Branches) (b : Exp) (c x : ℕ) (p : Tree)
    → Keeps (environment S) (declare z w (alt (all_branches gs (and_branch b (input c x) p hs)))) → MayPass S z w gs hs b x p
    → LAW 52 S (declare z w (alt (all_branches gs (and_branch b (input c x) p hs))))
    (declare z w (alt (all_branches gs (and_branch b (input c z) (seq (two (assign (x ∷ []) (variable z ∷ [])) p)) hs))))
passed_on S z w gs hs b c x p k m =
    let Γ = environment S in
    let Δ = with_name Γ z (Var w) in
    let old = straight b c x p hs in
    let new = around b c x z p hs in
    let o = opened Γ z w (Var w) (alt (all_branches gs old)) k.types in
    record {
      place = tally gs ∷ [];
      sides = inr (var_alt_input z w gs hs b c x p m.other m.width m.before m.condition m.process m.behind);
      left = k;
      right = record {
        types = and_from (can_declare Γ z w) (branches_kept (all_branches gs new) Δ) o.can
            (types_behind Δ gs old new (go_around Δ b c x z w p hs (inner_width S z w x m.other m.width) (declared_width Γ z w)) o.types);
        usage = usage_behind gs old new (λ u. ((tt, (u.0, tt)), u.1)) k.usage;
      };
    }

pub input_at_once : (S : List (Name × Kind)) (z : ℕ) (w : Width) (gs hs : Branches) (b : Exp) (c x : ℕ) (p : Tree)
    → Keeps (environment S) (declare z w (alt (all_branches gs (and_branch b (input c z) (seq (two (assign (x ∷ []) (variable z ∷ [])) p)) hs))))
    → MayPass S z w gs hs b x p
    → LAW 52 S (declare z w (alt (all_branches gs (and_branch b (input c x) p hs))))
    (declare z w (alt (all_branches gs (and_branch b (input c z) (seq (two (assign (x ∷ []) (variable z ∷ [])) p)) hs))))
input_at_once S z w gs hs b c x p k m =
    let Γ = environment S in
    let Δ = with_name Γ z (Var w) in
    let old = around b c x z p hs in
    let new = straight b c x p hs in
    let o = opened Γ z w (Var w) (alt (all_branches gs old)) k.types in
    record {
      place = tally gs ∷ [];
      sides = inr (var_alt_input z w gs hs b c x p m.other m.width m.before m.condition m.process m.behind);
      left = record {
        types = and_from (can_declare Γ z w) (branches_kept (all_branches gs new) Δ) o.can
            (types_behind Δ gs old new (go_straight Δ b c x z p hs (inner_width S z w x m.other m.width ∙ sym (declared_width Γ z w))) o.types);
        usage = usage_behind gs old new (λ u. (u.0.1.0, u.1)) k.usage;
      };
      right = k;
    }

-- ---- a variable that isn't in scope

free_in_both : (gs hs : Branches) (z : ℕ) → free_in_branches (all_branches gs hs) z ≡ false → (free_in_branches gs z ≡ false) × (free_in_branches hs z ≡ false)
free_in_both no_branch hs z f = (refl, f)
free_in_both (and_branch b w p gs) hs z f =
    let j = or_parts ((names b z || free_in_waiting w z) || free p z) (free_in_branches (all_branches gs hs) z) f in
    let k = free_in_both gs hs z j.1 in
    (or_from ((names b z || free_in_waiting w z) || free p z) (free_in_branches gs z) j.0 k.0, k.1)

pub may_pass : (S : List (Name × Kind)) (z : ℕ) (w : Width) (gs hs : Branches) (b : Exp) (c x : ℕ) (p : Tree) → environment S z ≡ None
    → variable_width (environment S) x ≡ Some w → Keeps (environment S) (alt (all_branches gs (and_branch b (input c x) p hs))) → MayPass S z w gs hs b x p
may_pass S z w gs hs b c x p new width k =
    let Γ = environment S in
    let f = free_in_both gs (and_branch b (input c x) p hs) z (free_in_scope (alt (all_branches gs (and_branch b (input c x) p hs))) Γ k.types z new) in
    let j = or_four (names b z) (free_in_waiting (input c x) z) (free p z) (free_in_branches hs z) f.1 in
    record {
      other = false_from_ne_true (x == z) (λ e. none_not_some (sym (ap variable_kind new) ∙ ap (variable_width Γ) (sym (eqb-true x z e)) ∙ width));
      width = width;
      before = f.0;
      condition = j.0;
      process = j.2;
      behind = j.3;
    }
