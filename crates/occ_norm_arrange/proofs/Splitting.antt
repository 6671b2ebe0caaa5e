-- Each part of a PAR goes in front, or behind the others.
use Rattle.std.proofs.Common.{◌≡◌, ◌⊎◌, inl, inr, ℕ, true, false, List, [], refl, sym, subst, arith}
use Rattle.std.proofs.lemmas.Bool.{and_from, and_parts, or_from, or_parts}
use Rattle.occ_meaning.proofs.Beside.{ChangeApart, apart_turned, beside_turned, gives_through}
use Rattle.occ_meaning.proofs.Frame.{parallel_value, part_value}
use Rattle.occ_meaning.proofs.Free.{none_written}
use Rattle.occ_meaning.proofs.Parts.{all_of_beside, beside_all_of, beside_whole, whole_beside}
use Rattle.occ_meaning.specs.Parallel.{all_of, one}
use Rattle.occ_syntax.specs.Meaning.{at_the_same_time, beside, meaning}
use Rattle.occ_syntax.specs.Names.{free, free_in_some, is_in, written, written_in_some}
use Rattle.occ_syntax.specs.Scopes.{Environment}
use Rattle.occ_syntax.specs.Tree.{Tree, Trees, and_tree, no_tree, par}
use Rattle.occ_syntax.specs.Types.{all_types_kept, types_kept}
use Rattle.occ_syntax.specs.View.{trees}
use Rattle.occ_syntax.specs.declared.proc.Proc.{Proc}
use Rattle.occ_norm_arrange.specs.Arranged.{IsArranged}
use Rattle.occ_norm_arrange.specs.Notes.{Notes}
use Rattle.occ_norm_arrange.specs.Split.{EachLeads, IsSplit, WritesOff}
use Rattle.occ_norm_arrange.specs.Straight.{straight}
use Rattle.occ_norm_arrange.proofs.Itself.{all_at_least, arranged_itself, arranged_steps, bits_of_both, both_arranged, types_of_all}
use Rattle.occ_norm_arrange.proofs.Listed.{all_of_three}

-- ---- names in lists of parts

-- a name that stands free in none of these, and not in the part either
free_between : (ps rs : Trees) (q : Tree) (x : ℕ) → free_in_some (all_of ps rs) x ≡ false → free q x ≡ false → free_in_some (all_of (all_of ps (one q)) rs) x ≡ false
free_between no_tree rs q x h k = or_from (free q x) (free_in_some rs x) k h
free_between (and_tree p ps) rs q x h k =
    let j = or_parts (free p x) (free_in_some (all_of ps rs) x) h in
    or_from (free p x) (free_in_some (all_of (all_of ps (one q)) rs) x) j.0 (free_between ps rs q x j.1 k)

free_behind : (ps rs : Trees) (q : Tree) (x : ℕ) → free_in_some (all_of ps rs) x ≡ false → free q x ≡ false → free_in_some (all_of ps (all_of rs (one q))) x ≡ false
free_behind no_tree no_tree q x h k = or_from (free q x) false k refl
free_behind no_tree (and_tree r rs) q x h k =
    let j = or_parts (free r x) (free_in_some rs x) h in
    or_from (free r x) (free_in_some (all_of rs (one q)) x) j.0 (free_behind no_tree rs q x j.1 k)
free_behind (and_tree p ps) rs q x h k =
    let j = or_parts (free p x) (free_in_some (all_of ps rs) x) h in
    or_from (free p x) (free_in_some (all_of ps (all_of rs (one q))) x) j.0 (free_behind ps rs q x j.1 k)

free_last : (ps rs : Trees) (x : ℕ) → free_in_some (all_of ps rs) x ≡ false → free_in_some rs x ≡ false
free_last no_tree rs x h = h
free_last (and_tree p ps) rs x h = free_last ps rs x (or_parts (free p x) (free_in_some (all_of ps rs) x) h).1

written_behind : (ps : Trees) (q : Tree) (x : ℕ) → written_in_some ps x ≡ false → written q x ≡ false → written_in_some (all_of ps (one q)) x ≡ false
written_behind no_tree q x h k = or_from (written q x) false k refl
written_behind (and_tree p ps) q x h k =
    let j = or_parts (written p x) (written_in_some ps x) h in
    or_from (written p x) (written_in_some (all_of ps (one q)) x) j.0 (written_behind ps q x j.1 k)

-- ---- one part more

-- no variable that one of these writes stands free in the part
abbrev AllOff : Trees → Tree → Type 0
AllOff ps q = (x : ℕ) → (written_in_some ps x ≡ false) ⊎ (free q x ≡ false)

rest_off : (p : Tree) (ps : Trees) (q : Tree) → AllOff (and_tree p ps) q → AllOff ps q
rest_off p ps q h x = elim (h x) [ inl e ↦ inl (or_parts (written p x) (written_in_some ps x) e).1 | inr e ↦ inr e ]

leads_other : (ps rs : Trees) (q : Tree) → EachLeads ps rs → AllOff ps q → EachLeads ps (all_of rs (one q))
leads_other no_tree rs q h off = tt
leads_other (and_tree p ps) rs q h off = (
  h.0,
  λ x. elim (h.1 x) [
    | inl e ↦ inl e
    | inr e ↦ elim (off x) [ inl w ↦ inl (or_parts (written p x) (written_in_some ps x) w).0 | inr f ↦ inr (free_behind ps rs q x e f) ]
  ],
  leads_other ps rs q h.2 (rest_off p ps q off),
)

leads_front : (ps rs : Trees) (q : Tree) → EachLeads ps rs → straight q ≡ true → AllOff ps q → WritesOff q rs → EachLeads (all_of ps (one q)) rs
leads_front no_tree rs q h s off last = (s, last, tt)
leads_front (and_tree p ps) rs q h s off last = (
  h.0,
  λ x. elim (h.1 x) [
    | inl e ↦ inl e
    | inr e ↦ elim (off x) [ inl w ↦ inl (or_parts (written p x) (written_in_some ps x) w).0 | inr f ↦ inr (free_between ps rs q x e f) ]
  ],
  leads_front ps rs q h.2 s (rest_off p ps q off) last,
)

-- ---- the last part in front of others

change_apart : (Γ : Environment) (rs : Trees) (p : Tree) → all_types_kept rs Γ ≡ true → types_kept p Γ ≡ true → WritesOff p rs → ChangeApart (at_the_same_time rs) (meaning p)
change_apart Γ rs p tr tp off = record {
  one_keeps = λ x. elim (off x) [ inl e ↦ inr (part_value p Γ tp x e) | inr e ↦ inl (parallel_value rs Γ tr x (none_written rs x e)) ];
}

last_types : (rs : Trees) (p : Tree) (Γ : Environment) → all_types_kept (all_of rs (one p)) Γ ≡ true → (all_types_kept rs Γ ≡ true) × (types_kept p Γ ≡ true)
last_types rs p Γ h = let k = types_of_all rs (one p) Γ h in (k.0, (and_parts (types_kept p Γ) true k.1).0)

last_first : (rs : Trees) (p : Tree) → WritesOff p rs → IsArranged (par (all_of rs (one p))) (par (and_tree p rs))
last_first rs p off = record {
  types = λ Γ h. let k = last_types rs p Γ h in and_from (types_kept p Γ) (all_types_kept rs Γ) k.1 k.0;
  forth = λ Γ h.
      let k = last_types rs p Γ h in
      let m = meaning p in
      let n = at_the_same_time rs in
      gives_through Γ (at_the_same_time (all_of rs (one p))) (beside n m) (at_the_same_time (and_tree p rs)) (all_of_beside Γ rs (one p))
      (gives_through Γ (beside n m) (beside m n) (at_the_same_time (and_tree p rs)) (beside_turned Γ n m (change_apart Γ rs p k.0 k.1 off)) (beside_whole Γ p rs));
  back = λ Γ h.
      let k = last_types rs p Γ h in
      let m = meaning p in
      let n = at_the_same_time rs in
      gives_through Γ (at_the_same_time (and_tree p rs)) (beside m n) (at_the_same_time (all_of rs (one p))) (whole_beside Γ p rs)
      (gives_through Γ (beside m n) (beside n m) (at_the_same_time (all_of rs (one p))) (beside_turned Γ m n (apart_turned n m (change_apart Γ rs p k.0 k.1 off))) (beside_all_of Γ rs (one p)));
  bits = λ n. let e = bits_of_both rs (one p) n in let f = all_at_least rs n in omega (arith, e, f);
}

last_moved : (ps rs : Trees) (p : Tree) → WritesOff p rs → IsArranged (par (all_of (all_of ps rs) (one p))) (par (all_of (all_of ps (one p)) rs))
last_moved ps rs p off =
    subst (λ zs. IsArranged (par zs) (par (all_of (all_of ps (one p)) rs))) (all_of_three ps rs (one p))
    (subst (λ zs. IsArranged (par (all_of ps (all_of rs (one p)))) (par zs)) (all_of_three ps (one p) rs)
    (both_arranged ps ps (all_of rs (one p)) (and_tree p rs) (arranged_itself (par ps)) (last_first rs p off)))

one_more : (ps qs : Trees) (p : Tree) → IsArranged (par ps) (par qs) → IsArranged (par (all_of ps (one p))) (par (all_of qs (one p)))
one_more ps qs p a = both_arranged ps qs (one p) (one p) a (arranged_itself (par (one p)))

-- ---- what the parts are split into

pub split_other : (ps front others : Trees) (writes names names' : List ℕ) (p : Tree) → IsSplit ps front others writes names
    → ((x : ℕ) → (is_in writes x ≡ false) ⊎ (free p x ≡ false)) → Notes names (free p) names' → IsSplit (all_of ps (one p)) front (all_of others (one p)) writes names'
split_other ps front others writes names names' p a off n = record {
  alike = subst (λ zs. IsArranged (par (all_of ps (one p))) (par zs)) (sym (all_of_three front others (one p))) (one_more ps (all_of front others) p a.alike);
  leads = leads_other front others p a.leads (λ x. elim (off x) [ inl e ↦ inl (a.writes x e) | inr e ↦ inr e ]);
  writes = a.writes;
  names = λ x h. free_behind front others p x (a.names x (n.kept x h)) (n.noted x h);
}

pub split_front : (ps front others : Trees) (writes writes' names names' : List ℕ) (p : Tree) → IsSplit ps front others writes names → straight p ≡ true
    → ((x : ℕ) → (is_in writes x ≡ false) ⊎ (free p x ≡ false)) → ((x : ℕ) → (is_in names x ≡ false) ⊎ (written p x ≡ false))
    → Notes writes (written p) writes' → Notes names (free p) names' → IsSplit (all_of ps (one p)) (all_of front (one p)) others writes' names'
split_front ps front others writes writes' names names' p a s off own w n =
    let last : WritesOff p others = λ x. elim (own x) [ inl e ↦ inr (free_last front others x (a.names x e)) | inr e ↦ inl e ] in
    record {
      alike = arranged_steps (par (all_of ps (one p))) (par (all_of (all_of front others) (one p))) (par (all_of (all_of front (one p)) others))
          (one_more ps (all_of front others) p a.alike) (last_moved front others p last);
      leads = leads_front front others p a.leads s (λ x. elim (off x) [ inl e ↦ inl (a.writes x e) | inr e ↦ inr e ]) last;
      writes = λ x h. written_behind front p x (a.writes x (w.kept x h)) (w.noted x h);
      names = λ x h. free_between front others p x (a.names x (n.kept x h)) (n.noted x h);
    }
