-- An ALT with one more branch, from what was known before.
use Rattle.std.proofs.Common.{◌≡◌, ◌≤◌, ℕ, true, sym, ◌∙◌, subst, arith}
use Rattle.occ_syntax.specs.Scopes.{Environment}
use Rattle.occ_syntax.specs.Tree.{Branches, Exp, Tree, Waiting, and_branch, input, output, ready, receive, send}
use Rattle.occ_syntax.specs.Types.{types_kept, waiting_kept}
use Rattle.occ_norm_frame.specs.occ_dd.Store.{IsKnown as IsSetKnown, has}
use Rattle.occ_norm_frame.specs.occ_dd.declared.set.SetId.{SetId}
use Rattle.occ_norm_frame.specs.occ_mdd.declared.map.MapId.{MapId}
use Rattle.occ_norm_frame.specs.occ_node.declared.world.World.{World}
use Rattle.occ_norm_frame.specs.occ_follow.Sequence.{HasNodes}
use Rattle.occ_norm_frame.specs.Maps.{Extends}
use Rattle.occ_norm_frame.proofs.Worlds.{extends_trans, has_nodes-extends}
use Rattle.occ_norm_frame.specs.After.{IsAfter, IsOver}
use Rattle.occ_norm_frame.specs.Placed.{IsAround}
use Rattle.occ_norm_frame.specs.declared.frame.Frame.{Frame}
use Rattle.occ_norm_frame.proofs.After.{after-extends}
use Rattle.occ_norm_alt.specs.Alternation.{AreHeld, IsAlternation, IsEnabledBy, IsOffered, IsUnited}
use Rattle.occ_norm_alt.specs.Offering.{IsGuarded}
use Rattle.occ_norm_alt.proofs.Alternatives.{alternation_grow}
use Rattle.occ_norm_alt.proofs.Guarding.{receive_settles}
use Rattle.occ_norm_alt.proofs.Joining.{alternation_going, alternation_offering}
use Rattle.occ_norm_alt.proofs.Receiving.{guarded_grow}

module _ (u : World) (f : Frame) (set : SetId) (next waiting readies : MapId) (known : IsSetKnown u.store set) (over : IsOver u f.bits next) (held : AreHeld u waiting readies) where
  few : f.bits ≤ 64
  few = let bits : f.bits ≤ 24 = subst (λ m. m ≤ 24) (sym f.kept.bits_are) f.kept.few in omega arith

  pub add_offering : (v w : World) → Extends u v → Extends v w → (wait : Waiting) → (wait ≡ ready → ⊥) → (offered r s : MapId) → HasNodes v offered
      → ((Γ : Environment) → IsAround Γ f.vars → waiting_kept Γ wait ≡ true → IsGuarded v f.layout f.keep f.closed.items Γ wait next offered) → s ≡ readies → IsOffered w (has v.store set) waiting offered r
      → (Γ : Environment) (bs : Branches) (e : Exp) (p : Tree) (rest : MapId) → IsAround Γ f.vars → waiting_kept Γ wait ≡ true → IsEnabledBy u f.layout Γ e set → IsOver u f.bits rest
      → IsAlternation u f.layout f.keep f.closed.items Γ bs rest waiting readies → IsAfter u f.layout f.keep f.closed.items Γ p rest next → IsAlternation w f.layout f.keep f.closed.items Γ (and_branch e wait p bs) rest r s
  add_offering v w k l wait event offered r s ho guarded same joined Γ bs e p rest around kept enabled over_rest is after =
      let uw = extends_trans u v w k l in
      subst (λ m. IsAlternation w f.layout f.keep f.closed.items Γ (and_branch e wait p bs) rest r m) (sym same)
      (alternation_offering w f.layout f.keep f.closed.items Γ bs e p rest waiting readies next (alternation_grow u w uw f.layout f.keep f.closed.items Γ bs rest waiting readies held is)
      (has_nodes-extends u w uw rest over_rest.has) (has_nodes-extends u w uw next over.has) (after-extends u w uw f.layout f.keep f.closed.items Γ p rest next over_rest.has over.has after)
      (has v.store set) (λ x h. k.grows.stored.same set x known ∙ enabled x h)
      wait event (λ x h. receive_settles f.vars f.layout f.bits f.kept Γ around wait kept few x) offered r (has_nodes-extends u w uw waiting held.waiting) (has_nodes-extends v w l offered ho)
      (guarded_grow v w l next (has_nodes-extends u v k next over.has) f.layout f.keep f.closed.items Γ wait offered ho (guarded Γ around kept)) joined)

  pub add_going : (w : World) → Extends u w → (r s : MapId) → s ≡ waiting → IsUnited w (has u.store set) readies next r
      → (Γ : Environment) (bs : Branches) (e : Exp) (p : Tree) (rest : MapId) → IsAround Γ f.vars → waiting_kept Γ ready ≡ true → IsEnabledBy u f.layout Γ e set → IsOver u f.bits rest
      → IsAlternation u f.layout f.keep f.closed.items Γ bs rest waiting readies → IsAfter u f.layout f.keep f.closed.items Γ p rest next → IsAlternation w f.layout f.keep f.closed.items Γ (and_branch e ready p bs) rest s r
  add_going w k r s same united Γ bs e p rest around kept enabled over_rest is after =
      subst (λ m. IsAlternation w f.layout f.keep f.closed.items Γ (and_branch e ready p bs) rest m r) (sym same)
      (alternation_going w f.layout f.keep f.closed.items Γ bs e p rest waiting readies next (alternation_grow u w k f.layout f.keep f.closed.items Γ bs rest waiting readies held is)
      (has_nodes-extends u w k rest over_rest.has) (has_nodes-extends u w k next over.has) (after-extends u w k f.layout f.keep f.closed.items Γ p rest next over_rest.has over.has after)
      (has u.store set) enabled r united)

  -- what is said of an ALT with one more branch
  abbrev pub Adds : World → Waiting → MapId → MapId → Type 0
  Adds w wait r s = (Γ : Environment) (bs : Branches) (e : Exp) (p : Tree) (rest : MapId) → IsAround Γ f.vars → waiting_kept Γ wait ≡ true → IsEnabledBy u f.layout Γ e set → IsOver u f.bits rest
      → IsAlternation u f.layout f.keep f.closed.items Γ bs rest waiting readies → IsAfter u f.layout f.keep f.closed.items Γ p rest next → IsAlternation w f.layout f.keep f.closed.items Γ (and_branch e wait p bs) rest r s

  pub add_input : (v w : World) → Extends u v → Extends v w → (wait : Waiting) (c x : ℕ) → wait ≡ input c x → (offered r s : MapId) → HasNodes v offered
      → ((Γ : Environment) → IsAround Γ f.vars → types_kept (receive c x) Γ ≡ true → IsGuarded v f.layout f.keep f.closed.items Γ (input c x) next offered) → s ≡ readies → IsOffered w (has v.store set) waiting offered r → Adds w wait r s
  add_input v w k l wait c x is offered r s ho guarded same joined = subst (λ wt. Adds w wt r s) (sym is) (add_offering v w k l (input c x) not_ready offered r s ho guarded same joined)
    where
      not_ready : input c x ≡ ready → ⊥
      not_ready e = cc

  pub add_output : (v w : World) → Extends u v → Extends v w → (wait : Waiting) (c : ℕ) (z : Exp) → wait ≡ output c z → (offered r s : MapId) → HasNodes v offered
      → ((Γ : Environment) → IsAround Γ f.vars → types_kept (send c z) Γ ≡ true → IsGuarded v f.layout f.keep f.closed.items Γ (output c z) next offered) → s ≡ readies → IsOffered w (has v.store set) waiting offered r → Adds w wait r s
  add_output v w k l wait c z is offered r s ho guarded same joined = subst (λ wt. Adds w wt r s) (sym is) (add_offering v w k l (output c z) not_ready offered r s ho guarded same joined)
    where
      not_ready : output c z ≡ ready → ⊥
      not_ready e = cc

  pub add_ready : (w : World) → Extends u w → (wait : Waiting) → wait ≡ ready → (r s : MapId) → s ≡ waiting → IsUnited w (has u.store set) readies next r → Adds w wait s r
  add_ready w k wait is r s same united = subst (λ wt. Adds w wt s r) (sym is) (add_going w k r s same united)
