-- The laws of IF, from one side that keeps names, types, directions and usage.
use Rattle.std.proofs.Common.{◌≡◌, ◌∙◌, ◌||◌, ℕ, List, [], ◌∷◌, None, true, false, ap, refl}
use Rattle.occ_renamed.specs.occ_base.declared.names.Name.{Name}
use Rattle.occ_renamed.specs.occ_bits.Named.{are_conditions}
use Rattle.occ_derive_laws.proofs.Rows.{unnamed_few}
use Rattle.occ_derive_laws.proofs.Choices.{all_kept, and_kept, behind_kept, copies_kept, first_case, front_kept, later_cases, none_kept, stop_kept, under_kept}
use Rattle.occ_derive_laws.proofs.Conditions.{truth_anywhere}
use Rattle.occ_renamed.specs.occ_law.Choice.{copies, each_case_under, if_copy, if_cut, if_else_stop, if_false, if_nest, if_true, under_assignment}
use Rattle.occ_renamed.specs.occ_law.Lists.{all_cases, conditions, count}
use Rattle.occ_renamed.specs.occ_law.States.{AreFew, EachEqual, IsEqualWhere, IsExhaustive}
use Rattle.occ_renamed.specs.occ_law.RuleTable.{LAW}
use Rattle.occ_renamed.specs.occ_syntax.declared.scope.Kind.{Kind}
use Rattle.occ_renamed.specs.occ_syntax.Eval.{is_true}
use Rattle.occ_renamed.specs.occ_syntax.Names.{names}
use Rattle.occ_renamed.specs.occ_syntax.Scopes.{environment}
use Rattle.occ_renamed.specs.occ_syntax.Tree.{Cases, Exp, Tree, and_case, assign, no_case, select, stop, truth}
use Rattle.occ_renamed.specs.occ_syntax.Usage.{Keeps}

one_few : (S : List (Name × Kind)) (b : Exp) → ((x : ℕ) → names b x ≡ false) → AreFew S (b ∷ [])
one_few S b h = unnamed_few S (b ∷ []) (λ x. ap (λ z. z || false) (h x))

pub false_law : (S : List (Name × Kind)) (cs ds : Cases) (b : Exp) (p : Tree) → ((x : ℕ) → names b x ≡ false)
    → is_true (λ x. None) b (λ x. 0) ≡ false → Keeps (environment S) (select (all_cases cs (and_case b p ds)))
    → LAW 17 S (select (all_cases cs (and_case b p ds))) (select (all_cases cs ds))
false_law S cs ds b p h e k =
    let Γ = environment S in
    record {
      place = count cs ∷ [];
      sides = if_false cs ds b p (one_few S b h) (λ s state. truth_anywhere Γ b s h ∙ e);
      left = k;
      right = all_kept Γ cs ds (front_kept Γ cs (and_case b p ds) k) (later_cases Γ b p ds (behind_kept Γ cs (and_case b p ds) k));
    }

pub true_law : (S : List (Name × Kind)) (b : Exp) (p : Tree) (ds : Cases) → ((x : ℕ) → names b x ≡ false)
    → is_true (λ x. None) b (λ x. 0) ≡ true → Keeps (environment S) (select (and_case b p ds)) → LAW 18 S (select (and_case b p ds)) p
true_law S b p ds h e k = record {
  place = [];
  sides = if_true b p ds (one_few S b h) (λ s state. truth_anywhere (environment S) b s h ∙ e);
  left = k;
  right = (first_case (environment S) b p ds k).part;
}

pub law_else : (S : List (Name × Kind)) (cs : Cases) → Keeps (environment S) (select cs)
    → LAW 19 S (select (all_cases cs (and_case (truth true) stop no_case))) (select cs)
law_else S cs k =
    let Γ = environment S in
    record {
      place = count cs ∷ [];
      sides = if_else_stop cs;
      left = all_kept Γ cs (and_case (truth true) stop no_case) k (and_kept Γ (truth true) stop no_case (stop_kept Γ (truth true) refl) (none_kept Γ));
      right = k;
    }

pub cut_law : (S : List (Name × Kind)) (cs ds : Cases) → AreFew S (conditions cs) → IsExhaustive (environment S) (conditions cs)
    → Keeps (environment S) (select (all_cases cs ds)) → LAW 20 S (select (all_cases cs ds)) (select cs)
cut_law S cs ds few h k = record { place = count cs ∷ []; sides = if_cut cs ds few h; left = k; right = front_kept (environment S) cs ds k }

pub nest_law : (S : List (Name × Kind)) (cs es ds : Cases) (b : Exp) → Keeps (environment S) (select (all_cases cs (and_case b (select es) ds)))
    → LAW 21 S (select (all_cases cs (and_case b (select es) ds)))
    (select (all_cases cs (all_cases (each_case_under b es) (and_case b stop ds))))
nest_law S cs es ds b k =
    let Γ = environment S in
    let tail = and_case b (select es) ds in
    let rest = behind_kept Γ cs tail k in
    let first = first_case Γ b (select es) ds rest in
    record {
      place = count cs ∷ [];
      sides = if_nest cs es ds b;
      left = k;
      right = all_kept Γ cs (all_cases (each_case_under b es) (and_case b stop ds)) (front_kept Γ cs tail k)
          (all_kept Γ (each_case_under b es) (and_case b stop ds) (under_kept Γ b es first.condition first.part)
          (and_kept Γ b stop ds (stop_kept Γ b first.condition) (later_cases Γ b (select es) ds rest)));
    }

pub copy_law : (S : List (Name × Kind)) (p : Tree) (bs : List Exp) → AreFew S bs → IsExhaustive (environment S) bs
    → are_conditions (environment S) bs ≡ true → Keeps (environment S) p → LAW 24 S p (select (copies bs p))
copy_law S p bs few h t k =
    record { place = []; sides = if_copy p bs few h; left = k; right = copies_kept (environment S) bs p t k }

pub under_law : (S : List (Name × Kind)) (cs ds : Cases) (b : Exp) (xs : List ℕ) (es fs : List Exp)
    → EachEqual (IsEqualWhere S b (conditions cs)) es fs → Keeps (environment S) (assign xs fs)
    → Keeps (environment S) (select (all_cases cs (and_case b (assign xs es) ds)))
    → LAW 25 S (select (all_cases cs (and_case b (assign xs es) ds))) (select (all_cases cs (and_case b (assign xs fs) ds)))
under_law S cs ds b xs es fs e h k =
    let Γ = environment S in
    let tail = and_case b (assign xs es) ds in
    let rest = behind_kept Γ cs tail k in
    record {
      place = count cs ∷ [];
      sides = under_assignment cs ds b xs es fs e;
      left = k;
      right = all_kept Γ cs (and_case b (assign xs fs) ds) (front_kept Γ cs tail k)
          (and_kept Γ b (assign xs fs) ds (record { condition = (first_case Γ b (assign xs es) ds rest).condition; part = h })
          (later_cases Γ b (assign xs es) ds rest));
    }
