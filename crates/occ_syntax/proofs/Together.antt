use Rattle.std.proofs.Common.{◌≡◌, ◌++◌, [], refl, sym, ap, ◌∙◌, subst, append-nil}
use Rattle.occ_syntax.specs.Tree.{Tree, seq, no_tree, and_tree}
use Rattle.occ_syntax.specs.Scopes.{Environment, Values, Trace}
use Rattle.occ_syntax.specs.Meaning.{Outcome, ended, refusing, meaning, in_first, in_second}
use Rattle.occ_syntax.specs.Same.{SAME}

into_one : (p : Tree) (Γ : Environment) (s : Values) (t : Trace) (o : Outcome) → (meaning (seq (and_tree p no_tree))).does Γ s t o → (meaning p).does Γ s t o
into_one p Γ s t o (in_first d) = d
into_one p Γ s t o (in_second t1 t2 s1 e d f) =
    let whole : t1 ≡ t = sym (append-nil t1) ∙ ap (λ r. t1 ++ r) (sym f.0) ∙ sym e in
    subst (λ r. (meaning p).does Γ s r o) whole (subst (λ r. (meaning p).does Γ s t1 r) (sym f.1) d)

-- a behaviour of the part is one of the SEQ, whichever its outcome
out_of_one : (p : Tree) (Γ : Environment) (s : Values) (t : Trace) (o : Outcome) → (meaning p).does Γ s t o → (meaning (seq (and_tree p no_tree))).does Γ s t o
out_of_one p Γ s t (ended s1) d = in_second t [] s1 (sym (append-nil t)) d (refl, refl)
out_of_one p Γ s t (refusing X) d = in_first d

pub one_part : (Γ : Environment) (p : Tree) → SAME Γ (seq (and_tree p no_tree)) p
one_part Γ p = record {
  same_failures = λ s t X state within. (into_one p Γ s t (refusing X), out_of_one p Γ s t (refusing X));
  same_ends = λ s t s' state. (into_one p Γ s t (ended s'), out_of_one p Γ s t (ended s'));
}
