use Rattle.std.proofs.Common.{◌≡◌, refl, sym, ap, ◌∙◌, subst}
use Rattle.std.proofs.lemmas.Bool.{eqb-true}
use Rattle.occ_bits.specs.occ_dd.Store.{IsKnown, has}
use Rattle.occ_bits.specs.occ_dd.declared.set.SetId.{SetId}
use Rattle.occ_bits.specs.occ_dd.Assignment.{turned}
use Rattle.occ_weave.proofs.from_node.Table.{rows-keeps}
use Rattle.occ_norm_frame.proofs.Worlds.{extends_sets, right_sets}
use Rattle.occ_norm_frame.proofs.normaliser.Normaliser.is_free.Goals as goal

same_set : (a b : SetId) → a.0 ≡ b.0 → a ≡ b
same_set a b e = λ i. record { 0 = e i }

pub flip-requires-clause-a : goal.flip-requires-clause-a
flip-requires-clause-a c = subst (λ v. IsKnown v.store c.args.set) (sym c.self.view_is) c.requires.set

pub invariant_of-self-inside : goal.invariant_of-self-inside
invariant_of-self-inside c =
    let w = c.self.inside.lifting.weaver.world in
    record { right = rows-keeps w.store c.flip.new.self c.flip.ensures.keeps w.rows.keys w.right }

pub invariant_of-self : goal.invariant_of-self
invariant_of-self c = right_sets c.self.inside.lifting _ c.flip.ensures.keeps refl refl c.self.invariant

pub invariant_of-self-2 : goal.invariant_of-self-2
invariant_of-self-2 c = right_sets c.self.inside.lifting _ c.flip.ensures.keeps refl refl c.self.invariant

pub returns-clause-extends : goal.returns-clause-extends
returns-clause-extends c = extends_sets _ c.args.self.now _ c.self.view_is c.flip.ensures.keeps refl refl

pub returns-in_err-turned-clause-extends : goal.returns-in_err-turned-clause-extends
returns-in_err-turned-clause-extends c = extends_sets _ c.args.self.now _ c.self.view_is c.flip.ensures.keeps refl refl

pub returns-clause-free : goal.returns-clause-free
returns-clause-free c e x =
    subst (λ v. has v.store c.args.set (turned x c.args.bit) ≡ has v.store c.args.set x) c.self.view_is
    (sym (c.in_ok-turned.ensures.set.members x)
    ∙ ap (λ s. has c.flip.new.self s x) (same_set c.in_ok-turned.turned c.args.set (eqb-true c.in_ok-turned.turned.0 c.args.set.0 e))
    ∙ c.flip.ensures.keeps.same c.args.set x (subst (λ v. IsKnown v.store c.args.set) (sym c.self.view_is) c.requires.set))
