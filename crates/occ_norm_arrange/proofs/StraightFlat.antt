-- SEQs with the parts of SEQs inside them; SEQs and PARs of one part.
use Rattle.std.proofs.Common.{◌≡◌, ◌≤◌, ℕ, true, List, length, take, refl, sym, ap, subst, ◌∙◌, arith}
use Rattle.std.proofs.lemmas.List.{take_all}
use Rattle.std.proofs.lemmas.Bool.{and_from, and_parts}
use Rattle.occ_meaning.proofs.AssignedFirst.{then_skip_in, then_skip_out}
use Rattle.occ_meaning.proofs.Beside.{Gives, gives_itself, gives_through}
use Rattle.occ_meaning.proofs.Sequence.{all_of_followed, followed_all_of, followed_gives}
use Rattle.occ_meaning.specs.Parallel.{all_of, one}
use Rattle.occ_syntax.specs.Meaning.{followed, in_turn, meaning}
use Rattle.occ_syntax.specs.Scopes.{Environment}
use Rattle.occ_syntax.specs.Tree.{Tree, Trees, no_tree, par, seq}
use Rattle.occ_syntax.specs.Types.{types_kept}
use Rattle.occ_syntax.specs.View.{trees}
use Rattle.occ_syntax.specs.declared.proc.Proc.{Proc}
use Rattle.occ_norm_arrange.specs.Arranged.{GoesOn, IsArranged}
use Rattle.occ_norm_arrange.proofs.Itself.{all_at_least, arranged_itself, arranged_steps, bits_of_both, types_of_all, types_of_both}
use Rattle.occ_norm_arrange.proofs.Listed.{all_of_none, all_of_three}

-- ---- one part

then_skip : (Γ : Environment) (p : Tree) → Gives Γ (in_turn (one p)) (meaning p)
then_skip Γ p = record { gives = λ s t o d. then_skip_out (meaning p) Γ s t o d }

skip_behind : (Γ : Environment) (p : Tree) → Gives Γ (meaning p) (in_turn (one p))
skip_behind Γ p = record { gives = λ s t o d. then_skip_in (meaning p) Γ s t o d }

-- a SEQ of one part is that part
pub one_of_seq : (p : Tree) → IsArranged (seq (one p)) p
one_of_seq p = record {
  types = λ Γ h. (and_parts (types_kept p Γ) true h).0;
  forth = λ Γ h. then_skip Γ p;
  back = λ Γ h. skip_behind Γ p;
  bits = λ n. omega arith;
}

-- a PAR of one part is that part
pub one_of_par : (p : Tree) → IsArranged (par (one p)) p
one_of_par p = record {
  types = λ Γ h. (and_parts (types_kept p Γ) true h).0;
  forth = λ Γ h. gives_itself Γ (meaning p);
  back = λ Γ h. gives_itself Γ (meaning p);
  bits = λ n. omega arith;
}

-- what does what a PAR does, as a SEQ of one part
pub as_seq : (rs : Trees) (q : Tree) → IsArranged (par rs) q → IsArranged (par rs) (seq (one q))
as_seq rs q a = record {
  types = λ Γ h. and_from (types_kept q Γ) true (a.types Γ h) refl;
  forth = λ Γ h. gives_through Γ (meaning (par rs)) (meaning q) (in_turn (one q)) (a.forth Γ h) (skip_behind Γ q);
  back = λ Γ h. gives_through Γ (in_turn (one q)) (meaning q) (meaning (par rs)) (then_skip Γ q) (a.back Γ h);
  bits = λ n. let e = a.bits n in let f = all_at_least rs n in omega (arith, e, f);
}

-- neither has a part
pub none_as_seq : IsArranged (par no_tree) (seq no_tree)
none_as_seq = record {
  types = λ Γ h. h;
  forth = λ Γ h. gives_itself Γ (in_turn no_tree);
  back = λ Γ h. gives_itself Γ (in_turn no_tree);
  bits = λ n. omega arith;
}

-- ---- two lists of parts in one

turn_gives : (Γ : Environment) (ps ps' qs qs' : Trees) → Gives Γ (in_turn ps) (in_turn ps') → Gives Γ (in_turn qs) (in_turn qs')
    → Gives Γ (in_turn (all_of ps qs)) (in_turn (all_of ps' qs'))
turn_gives Γ ps ps' qs qs' h k =
    gives_through Γ (in_turn (all_of ps qs)) (followed (in_turn ps) (in_turn qs)) (in_turn (all_of ps' qs')) (all_of_followed Γ ps qs)
    (gives_through Γ (followed (in_turn ps) (in_turn qs)) (followed (in_turn ps') (in_turn qs')) (in_turn (all_of ps' qs'))
    (followed_gives Γ (in_turn ps) (in_turn ps') (in_turn qs) (in_turn qs') h k) (followed_all_of Γ ps' qs'))

seq_both : (ps ps' qs qs' : Trees) → IsArranged (seq ps) (seq ps') → IsArranged (seq qs) (seq qs') → IsArranged (seq (all_of ps qs)) (seq (all_of ps' qs'))
seq_both ps ps' qs qs' a b = record {
  types = λ Γ h. let k = types_of_all ps qs Γ h in types_of_both ps' qs' Γ (a.types Γ k.0) (b.types Γ k.1);
  forth = λ Γ h. let k = types_of_all ps qs Γ h in turn_gives Γ ps ps' qs qs' (a.forth Γ k.0) (b.forth Γ k.1);
  back = λ Γ h. let k = types_of_all ps qs Γ h in turn_gives Γ ps' ps qs' qs (a.back Γ k.0) (b.back Γ k.1);
  bits = λ n.
      let e = bits_of_both ps qs n in
      let f = bits_of_both ps' qs' n in
      let g = a.bits n in
      let h = b.bits n in omega (arith, e, f, g, h);
}

-- ---- parts that are added

-- none
pub goes_none : (ps : Trees) → GoesOn ps no_tree ps
goes_none ps = record { others = no_tree; whole = sym (all_of_none ps); alike = arranged_itself (seq no_tree) }

-- some and then more
pub goes_more : (ps qs rs xs ys : Trees) → GoesOn ps xs qs → GoesOn qs ys rs → GoesOn ps (all_of xs ys) rs
goes_more ps qs rs xs ys a b = record {
  others = all_of a.others b.others;
  whole = b.whole ∙ ap (λ zs. all_of zs b.others) a.whole ∙ sym (all_of_three ps a.others b.others);
  alike = seq_both xs a.others ys b.others a.alike b.alike;
}

-- one as it is
pub goes_one : (ps qs : Trees) (p : Tree) → qs ≡ all_of ps (one p) → GoesOn ps (one p) qs
goes_one ps qs p e = record { others = one p; whole = e; alike = arranged_itself (seq (one p)) }

-- those of a SEQ
pub goes_seq : (ps qs rs : Trees) → rs ≡ all_of ps qs → GoesOn ps (one (seq qs)) rs
goes_seq ps qs rs e = record { others = qs; whole = e; alike = one_of_seq (seq qs) }

-- all that there are
pub gone : (ps rs : Trees) → GoesOn no_tree ps rs → IsArranged (seq ps) (seq rs)
gone ps rs a = subst (λ zs. IsArranged (seq ps) (seq zs)) (sym a.whole) a.alike

-- the same, seen from code
pub all_gone : (xs : List Proc) (i : ℕ) (rs : Trees) → length xs ≤ i → GoesOn no_tree (trees (take i xs)) rs → IsArranged (seq (trees xs)) (seq rs)
all_gone xs i rs h a = gone (trees xs) rs (subst (λ ys. GoesOn no_tree (trees ys) rs) (take_all i xs h) a)

pub single_of_seq : (ps qs : Trees) (q : Tree) → IsArranged (seq ps) (seq qs) → qs ≡ one q → IsArranged (seq ps) q
single_of_seq ps qs q a e = arranged_steps (seq ps) (seq (one q)) q (subst (λ zs. IsArranged (seq ps) (seq zs)) e a) (one_of_seq q)
