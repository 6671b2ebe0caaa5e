-- A process is arranged as it is, in steps, and by what it is equal to; lists of parts in one.
use Rattle.std.proofs.Common.{◌≡◌, ◌≤◌, ℕ, max, true, Option, Some, IfSome, refl, sym, subst, arith}
use Rattle.std.proofs.lemmas.Bool.{and_from, and_parts}
use Rattle.occ_meaning.proofs.Beside.{Gives, beside_gives, gives_itself, gives_through}
use Rattle.occ_meaning.proofs.Parts.{all_of_beside, beside_all_of}
use Rattle.occ_meaning.specs.Parallel.{all_of}
use Rattle.occ_syntax.specs.Counts.{most_bits_of_all}
use Rattle.occ_syntax.specs.Meaning.{at_the_same_time, beside, meaning}
use Rattle.occ_syntax.specs.Scopes.{Environment}
use Rattle.occ_syntax.specs.Tree.{Tree, Trees, and_tree, no_tree, par}
use Rattle.occ_syntax.specs.Types.{all_types_kept, types_kept}
use Rattle.occ_norm_arrange.specs.Arranged.{IsArranged}

pub arranged_itself : (p : Tree) → IsArranged p p
arranged_itself p = record {
  types = λ Γ h. h;
  forth = λ Γ h. gives_itself Γ (meaning p);
  back = λ Γ h. gives_itself Γ (meaning p);
  bits = λ n. omega arith;
}

pub arranged_steps : (p q r : Tree) → IsArranged p q → IsArranged q r → IsArranged p r
arranged_steps p q r a b = record {
  types = λ Γ h. b.types Γ (a.types Γ h);
  forth = λ Γ h. gives_through Γ (meaning p) (meaning q) (meaning r) (a.forth Γ h) (b.forth Γ (a.types Γ h));
  back = λ Γ h. gives_through Γ (meaning r) (meaning q) (meaning p) (b.back Γ (a.types Γ h)) (a.back Γ h);
  bits = λ n. let h = a.bits n in let k = b.bits n in omega (arith, h, k);
}

pub copied : (p q : Tree) → q ≡ p → IsArranged p q
copied p q e = subst (λ z. IsArranged p z) (sym e) (arranged_itself p)

-- the same process, seen from code
pub arranged_copy : (p q r : Tree) → IsArranged p q → r ≡ q → IsArranged p r
arranged_copy p q r a e = subst (λ z. IsArranged p z) (sym e) a

pub arranged_as : (p q p' q' : Tree) → p' ≡ p → q' ≡ q → IsArranged p q → IsArranged p' q'
arranged_as p q p' q' e f a = subst (λ r. IsArranged r q') (sym e) (subst (λ r. IsArranged p r) (sym f) a)

-- what is found is as all that can be found
pub found_is : {X : Type 0} (o : Option X) (x : X) (P : X → Type 0) → o ≡ Some x → IfSome o P → P x
found_is o x P e h = subst (λ r. IfSome r P) e h

-- ---- lists of parts

pub types_of_all : (ps qs : Trees) (Γ : Environment) → all_types_kept (all_of ps qs) Γ ≡ true → (all_types_kept ps Γ ≡ true) × (all_types_kept qs Γ ≡ true)
types_of_all no_tree qs Γ h = (refl, h)
types_of_all (and_tree p ps) qs Γ h =
    let one = and_parts (types_kept p Γ) (all_types_kept (all_of ps qs) Γ) h in
    let more = types_of_all ps qs Γ one.1 in (and_from (types_kept p Γ) (all_types_kept ps Γ) one.0 more.0, more.1)

pub types_of_both : (ps qs : Trees) (Γ : Environment) → all_types_kept ps Γ ≡ true → all_types_kept qs Γ ≡ true → all_types_kept (all_of ps qs) Γ ≡ true
types_of_both no_tree qs Γ h k = k
types_of_both (and_tree p ps) qs Γ h k =
    let one = and_parts (types_kept p Γ) (all_types_kept ps Γ) h in and_from (types_kept p Γ) (all_types_kept (all_of ps qs) Γ) one.0 (types_of_both ps qs Γ one.1 k)

pub all_at_least : (ps : Trees) (n : ℕ) → n ≤ most_bits_of_all ps n
all_at_least no_tree n = omega arith
all_at_least (and_tree p ps) n = let h = all_at_least ps n in omega (arith, h)

pub bits_of_both : (ps qs : Trees) (n : ℕ) → most_bits_of_all (all_of ps qs) n ≡ max (most_bits_of_all ps n) (most_bits_of_all qs n)
bits_of_both no_tree qs n = let h = all_at_least qs n in omega (arith, h)
bits_of_both (and_tree p ps) qs n = let h = bits_of_both ps qs n in omega (arith, h)

pub both_give : (Γ : Environment) (ps ps' qs qs' : Trees) → Gives Γ (at_the_same_time ps) (at_the_same_time ps') → Gives Γ (at_the_same_time qs) (at_the_same_time qs')
    → Gives Γ (at_the_same_time (all_of ps qs)) (at_the_same_time (all_of ps' qs'))
both_give Γ ps ps' qs qs' h k =
    gives_through Γ (at_the_same_time (all_of ps qs)) (beside (at_the_same_time ps) (at_the_same_time qs)) (at_the_same_time (all_of ps' qs')) (all_of_beside Γ ps qs)
    (gives_through Γ (beside (at_the_same_time ps) (at_the_same_time qs)) (beside (at_the_same_time ps') (at_the_same_time qs')) (at_the_same_time (all_of ps' qs'))
    (beside_gives Γ (at_the_same_time ps) (at_the_same_time ps') (at_the_same_time qs) (at_the_same_time qs') h k) (beside_all_of Γ ps' qs'))

-- two lists side by side, each arranged
pub both_arranged : (ps ps' qs qs' : Trees) → IsArranged (par ps) (par ps') → IsArranged (par qs) (par qs') → IsArranged (par (all_of ps qs)) (par (all_of ps' qs'))
both_arranged ps ps' qs qs' a b = record {
  types = λ Γ h. let k = types_of_all ps qs Γ h in types_of_both ps' qs' Γ (a.types Γ k.0) (b.types Γ k.1);
  forth = λ Γ h. let k = types_of_all ps qs Γ h in both_give Γ ps ps' qs qs' (a.forth Γ k.0) (b.forth Γ k.1);
  back = λ Γ h. let k = types_of_all ps qs Γ h in both_give Γ ps' ps qs' qs (a.back Γ k.0) (b.back Γ k.1);
  bits = λ n.
      let e = bits_of_both ps qs n in
      let f = bits_of_both ps' qs' n in
      let g = a.bits n in
      let h = b.bits n in omega (arith, e, f, g, h);
}
