use Rattle.std.proofs.Common.{◌≡◌, ◌<◌, ◌≤◌, ◌^◌, ◌&&◌, ℕ, true, List, [], ◌∷◌, refl, sym, ap, ◌∙◌, inr, ⊎_elim, arith}
use Rattle.std.specs.Prelude.{◌↔◌, bit_xor}
use Rattle.std.specs.Int.{bit_at}
use Rattle.std.specs.Int.Bits.{xor_zero_r}
use Rattle.std.specs.List.{list_all}
use Rattle.occ_node.specs.occ_base.declared.event.Event.{Event}
use Rattle.occ_node.specs.occ_base.declared.names.Name.{Name}
use Rattle.occ_node.specs.World.{IsNode, ends, Leads}
use Rattle.occ_node.specs.declared.node.NodeId.{NodeId}
use Rattle.occ_node.specs.declared.world.World.{World}
use Rattle.occ_scope.specs.Silent.{is_off, is_silent}
use Rattle.occ_scope.specs.Bits.{passes_freed, turned_below}
use Rattle.occ_scope.specs.Change.{IsChanged}
use Rattle.occ_scope.specs.Results.{IsRestricted, IsForgotten, IsShifted, EndsBeside}
use Rattle.occ_scope.specs.declared.change.Change.TheVariants.{Restrict, Forget, Shift}
use Rattle.occ_scope.proofs.Altering.{after_same}
use Rattle.occ_scope.proofs.Turning.{FreedAt, passes_iff, turned_is}

all_stay : (t : List Event) → list_all (λ (e : Event). true) t ≡ true
all_stay [] = refl
all_stay (e ∷ t) = all_stay t

module _ (u w : World) (k : Leads u w) (p r : NodeId) (h : IsNode u p) where
  pub restricted : (chan : Name) → IsChanged w (Restrict chan) p r → IsRestricted u w chan p r
  restricted chan is = record {
    known = is.known;
    silent_fail = λ t X. is.after_fail t X ∙ ap (λ b. is_silent chan t && b) (k.same_fails p t (λ e. is_off chan e && X e) h);
    silent_end = λ t x. is.after_end t x ∙ ap (λ b. is_silent chan t && b) (k.same_ends p t x h);
  }

  free_ends : (bits : ℕ) (t : List Event) (x : ℕ) → x < 2 ^ 64 → (passes_freed 64 bits (ends u p t) x ≡ true) ↔ EndsBeside u bits p t x
  free_ends bits t x b = (
    λ e. let f : FreedAt (ends u p t) bits 64 x = (passes_iff (ends u p t) bits 64 x (omega arith) b).0 e in
        record { y = f.y; below = f.below; ended = f.passed; same = λ n l z. f.same n l (inr z) },
    λ f. (passes_iff (ends u p t) bits 64 x (omega arith) b).1 (record {
      y = f.y;
      below = f.below;
      passed = f.ended;
      same = λ n l. ⊎_elim (λ (o : 64 ≤ n). absurd (omega arith)) (λ (z : bit_at bits n ≡ 0). f.same n l z);
    }),
  )

  pub forgotten : (bits : ℕ) → IsChanged w (Forget bits) p r → IsForgotten u w bits p r
  forgotten bits is = record {
    known = is.known;
    same_fail = λ t X. is.after_fail t X ∙ (λ i. all_stay t i && k.same_fails p t X h i);
    free_end = λ t x b.
        let e : ends w r t x ≡ passes_freed 64 bits (ends u p t) x = is.after_end t x ∙ (λ i. all_stay t i && after_same (Forget bits) (ends w p t) (ends u p t) (λ y. k.same_ends p t y h) x i) in
        let f = free_ends bits t x b in
        (λ y. f.0 (sym e ∙ y), λ y. e ∙ f.1 y);
  }

  pub shifted : (change : ℕ) → change < 2 ^ 64 → IsChanged w (Shift change) p r → IsShifted u w change p r
  shifted change small is = record {
    known = is.known;
    same_fail = λ t X. is.after_fail t X ∙ (λ i. all_stay t i && k.same_fails p t X h i);
    turned_end = λ t x b. is.after_end t x ∙ (λ i. all_stay t i && k.same_ends p t (turned_below 64 change x) h i) ∙ ap (ends u p t) (turned_is change x small b);
  }

-- no bits are turned
zero_turned : (w : World) (p : NodeId) (t : List Event) (x : ℕ) → x < 2 ^ 64 → ends w p t x ≡ ends w p t (bit_xor x 0)
zero_turned w p t x b = ap (ends w p t) (sym (xor_zero_r x))

pub shifted_none : (w : World) (p : NodeId) (change : ℕ) → change ≡ 0 → IsNode w p → IsShifted w w change p p
shifted_none w p change zero h = record {
  known = h;
  same_fail = λ t X. refl;
  turned_end = λ t x b. zero_turned w p t x b ∙ ap (λ c. ends w p t (bit_xor x c)) (sym zero);
}
