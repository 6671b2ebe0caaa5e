-- A part that ends at once may go in front of parts beside it in which no variable that it writes stands free.
use Rattle.std.proofs.Common.{◌≡◌, ◌==◌, ◌++◌, inl, inr, ℕ, true, false, List, [], ◌∷◌, refl, sym, ap, subst, ◌∙◌, arith}
use Rattle.std.proofs.lemmas.Bool.{and_parts, or_from}
use Rattle.std.proofs.lemmas.Bool.Decides.{eqb_tells}
use Rattle.occ_meaning.proofs.Beside.{Gives, beside_gives, done, gives_itself, gives_through, skip_before, skip_beside}
use Rattle.occ_meaning.proofs.Facts.{clash, if_true, value_off}
use Rattle.occ_meaning.proofs.Frame.{parallel_value, part_value}
use Rattle.occ_meaning.proofs.Free.{none_written}
use Rattle.occ_meaning.proofs.Moved.{IgnoresAll, MovedSecond, second_past, second_past_back}
use Rattle.occ_meaning.proofs.OffValues.{parallel_ignores}
use Rattle.occ_meaning.proofs.Parts.{beside_whole, whole_beside}
use Rattle.occ_meaning.proofs.Sequence.{all_of_followed, followed_all_of, followed_gives, followed_grouped, followed_ungrouped, skip_followed, skip_goes_first}
use Rattle.occ_meaning.specs.Parallel.{all_of}
use Rattle.occ_names.proofs.Members.{written_is}
use Rattle.occ_names.specs.Mentions.{written_names}
use Rattle.occ_syntax.specs.Meaning.{Combines, Followed, Meaning, Outcome, Together, assigned, at_the_same_time, beside, ended, followed, in_first, in_second, in_turn, meaning, together}
use Rattle.occ_syntax.specs.Names.{free_in_some, is_in, written}
use Rattle.occ_syntax.specs.Scopes.{Environment, Trace, Values}
use Rattle.occ_syntax.specs.Tree.{Exp, numeral, Tree, Trees, and_tree, no_tree, par, seq}
use Rattle.occ_syntax.specs.Types.{all_types_kept, types_kept}
use Rattle.occ_norm_arrange.specs.Arranged.{IsArranged}
use Rattle.occ_norm_arrange.specs.Split.{EachLeads, WritesOff}
use Rattle.occ_norm_arrange.specs.Straight.{straight}
use Rattle.occ_norm_arrange.proofs.Ending.{EndsAtOnce, refusing_no_end, straight_ends, to_state}
use Rattle.occ_norm_arrange.proofs.Itself.{bits_of_both, types_of_all, types_of_both}
use mathlib.Core.Path.{fun_ext}

-- ---- a state that differs at some names is what an assignment to these makes

abbrev held : List ℕ → Values → List Exp
held [] r = []
held (x ∷ xs) r = numeral 0 (r x) ∷ held xs r

held_at : (Γ : Environment) (s r : Values) (xs : List ℕ) (y : ℕ) → (is_in xs y ≡ false → r y ≡ s y) → assigned xs (held xs r) Γ s y ≡ r y
held_at Γ s r [] y h = sym (h refl)
held_at Γ s r (x ∷ xs) y h = elim (eqb_tells y x) [
  | inl k ↦ if_true (y == x) (r x) (assigned xs (held xs r) Γ s y) k.0 ∙ ap r (sym k.1)
  | inr k ↦ value_off (assigned xs (held xs r) Γ s) x (r x) y k.0 ∙ held_at Γ s r xs y (λ j. h (or_from (y == x) (is_in xs y) k.0 j))
]

held_is : (Γ : Environment) (s r : Values) (xs : List ℕ) → ((y : ℕ) → is_in xs y ≡ false → r y ≡ s y) → assigned xs (held xs r) Γ s ≡ r
held_is Γ s r xs h = fun_ext (λ y. held_at Γ s r xs y (h y))

-- ---- a change of state beside and in front of a part that doesn't see it

state_out : (f : Values → Values) (n : Meaning) (Γ : Environment) (s : Values) (t : Trace) (o : Outcome) → Followed (to_state f) n Γ s t o → n.does Γ (f s) t o
state_out f n Γ s t o (in_first d) = refusing_no_end d.1
state_out f n Γ s t o (in_second t1 t2 s1 e d1 d2) =
    let there : s1 ≡ f s = (let i : ended s1 ≡ ended (f s) = d1.1 in cc) in
    let whole : t2 ≡ t = sym (e ∙ ap (λ r. r ++ t2) d1.0) in
    subst (λ r. n.does Γ r t o) there (subst (λ r. n.does Γ s1 r o) whole d2)

module _ (Γ : Environment) (f : Values → Values) (n : Meaning) (xs : List ℕ) (ignored : IgnoresAll n xs)
    (kept : (s : Values) (y : ℕ) → is_in xs y ≡ false → f s y ≡ s y) where
  from_beside : (s : Values) (t : Trace) (o : Outcome) → Together (to_state f) n Γ s t o → n.does Γ (f s) t o
  from_beside s t o (together t1 t2 o1 o2 w c d1 d2) =
      let k = second_past n Γ s t2 xs (held xs (f s)) ignored o1 o2 o c d2 in
      let j : MovedSecond n Γ (f s) t2 o1 o = subst (λ r. MovedSecond n Γ r t2 o1 o) (held_is Γ s (f s) xs (kept s)) k in
      (skip_beside Γ n).gives (f s) t o (together t1 t2 o1 j.other w j.combines d1 j.does)

  back_beside : (s : Values) (t : Trace) (o : Outcome) → Together done n Γ (f s) t o → Together (to_state f) n Γ s t o
  back_beside s t o (together t1 t2 o1 o2 w c d1 d2) =
      let e = sym (held_is Γ s (f s) xs (kept s)) in
      let k = second_past_back n Γ s t2 xs (held xs (f s)) ignored o1 o2 o (subst (λ r. Combines Γ r o1 o2 o) e c) (subst (λ r. n.does Γ r t2 o2) e d2) in
      together t1 t2 o1 k.other w k.combines d1 k.does

  state_first : Gives Γ (beside (to_state f) n) (followed (to_state f) n)
  state_first = record { gives = λ s t o d. in_second [] t (f s) refl (refl, refl) (from_beside s t o d) }

  state_beside : Gives Γ (followed (to_state f) n) (beside (to_state f) n)
  state_beside = record { gives = λ s t o d. back_beside s t o ((skip_before Γ n).gives (f s) t o (state_out f n Γ s t o d)) }

-- ---- a straight part

module _ (Γ : Environment) (p : Tree) (qs : Trees) (h : straight p ≡ true) (off : WritesOff p qs) (tp : types_kept p Γ ≡ true) (tq : all_types_kept qs Γ ≡ true) where
  one_end : EndsAtOnce Γ (meaning p)
  one_end = straight_ends p Γ h

  free_nowhere : (x : ℕ) → is_in (written_names p) x ≡ true → free_in_some qs x ≡ false
  free_nowhere x k = elim (off x) [ inl e ↦ clash (written p x) (sym (written_is p x) ∙ k) e | inr e ↦ e ]

  others_ignore : IgnoresAll (at_the_same_time qs) (written_names p)
  others_ignore x k =
      let no = free_nowhere x k in (parallel_ignores qs Γ tq x (inl no), parallel_value qs Γ tq x (none_written qs x no))

  state_kept : (s : Values) (y : ℕ) → is_in (written_names p) y ≡ false → one_end.state s y ≡ s y
  state_kept s y k = (part_value p Γ tp y (sym (written_is p y) ∙ k)).value Γ s [] (one_end.state s) (one_end.back.gives s [] (ended (one_end.state s)) (refl, refl))

  goes_first : Gives Γ (beside (meaning p) (at_the_same_time qs)) (followed (meaning p) (at_the_same_time qs))
  goes_first =
      let m = meaning p in
      let n = at_the_same_time qs in
      let f = to_state one_end.state in
      gives_through Γ (beside m n) (beside f n) (followed m n) (beside_gives Γ m f n n one_end.forth (gives_itself Γ n))
      (gives_through Γ (beside f n) (followed f n) (followed m n) (state_first Γ one_end.state n (written_names p) others_ignore state_kept) (followed_gives Γ f m n n one_end.back (gives_itself Γ n)))

  goes_beside : Gives Γ (followed (meaning p) (at_the_same_time qs)) (beside (meaning p) (at_the_same_time qs))
  goes_beside =
      let m = meaning p in
      let n = at_the_same_time qs in
      let f = to_state one_end.state in
      gives_through Γ (followed m n) (followed f n) (beside m n) (followed_gives Γ m f n n one_end.forth (gives_itself Γ n))
      (gives_through Γ (followed f n) (beside f n) (beside m n) (state_beside Γ one_end.state n (written_names p) others_ignore state_kept) (beside_gives Γ f m n n one_end.back (gives_itself Γ n)))

-- ---- straight parts

front_first : (Γ : Environment) (ps rs : Trees) → EachLeads ps rs → all_types_kept (all_of ps rs) Γ ≡ true
    → Gives Γ (at_the_same_time (all_of ps rs)) (followed (in_turn ps) (at_the_same_time rs))
front_first Γ no_tree rs h t = skip_goes_first Γ (at_the_same_time rs)
front_first Γ (and_tree p ps) rs h t =
    let j = and_parts (types_kept p Γ) (all_types_kept (all_of ps rs) Γ) t in
    let m = meaning p in
    let n = at_the_same_time (all_of ps rs) in
    let l = in_turn ps in
    let r = at_the_same_time rs in
    gives_through Γ (at_the_same_time (and_tree p (all_of ps rs))) (beside m n) (followed (followed m l) r) (whole_beside Γ p (all_of ps rs))
    (gives_through Γ (beside m n) (followed m n) (followed (followed m l) r) (goes_first Γ p (all_of ps rs) h.0 h.1 j.0 j.1)
    (gives_through Γ (followed m n) (followed m (followed l r)) (followed (followed m l) r) (followed_gives Γ m m n (followed l r) (gives_itself Γ m) (front_first Γ ps rs h.2 j.1)) (followed_ungrouped Γ m l r)))

front_beside : (Γ : Environment) (ps rs : Trees) → EachLeads ps rs → all_types_kept (all_of ps rs) Γ ≡ true
    → Gives Γ (followed (in_turn ps) (at_the_same_time rs)) (at_the_same_time (all_of ps rs))
front_beside Γ no_tree rs h t = skip_followed Γ (at_the_same_time rs)
front_beside Γ (and_tree p ps) rs h t =
    let j = and_parts (types_kept p Γ) (all_types_kept (all_of ps rs) Γ) t in
    let m = meaning p in
    let n = at_the_same_time (all_of ps rs) in
    let l = in_turn ps in
    let r = at_the_same_time rs in
    gives_through Γ (followed (followed m l) r) (followed m (followed l r)) (at_the_same_time (and_tree p (all_of ps rs))) (followed_grouped Γ m l r)
    (gives_through Γ (followed m (followed l r)) (followed m n) (at_the_same_time (and_tree p (all_of ps rs))) (followed_gives Γ m m (followed l r) n (gives_itself Γ m) (front_beside Γ ps rs h.2 j.1))
    (gives_through Γ (followed m n) (beside m n) (at_the_same_time (and_tree p (all_of ps rs))) (goes_beside Γ p (all_of ps rs) h.0 h.1 j.0 j.1) (beside_whole Γ p (all_of ps rs))))

-- the parts in front one by one, and then what does what the others do
pub front_arranged : (ps rs ts : Trees) → EachLeads ps rs → IsArranged (par rs) (seq ts) → IsArranged (par (all_of ps rs)) (seq (all_of ps ts))
front_arranged ps rs ts h a = record {
  types = λ Γ t. let k = types_of_all ps rs Γ t in types_of_both ps ts Γ k.0 (a.types Γ k.1);
  forth = λ Γ t.
      let k = types_of_all ps rs Γ t in
      gives_through Γ (at_the_same_time (all_of ps rs)) (followed (in_turn ps) (at_the_same_time rs)) (in_turn (all_of ps ts)) (front_first Γ ps rs h t)
      (gives_through Γ (followed (in_turn ps) (at_the_same_time rs)) (followed (in_turn ps) (in_turn ts)) (in_turn (all_of ps ts))
      (followed_gives Γ (in_turn ps) (in_turn ps) (at_the_same_time rs) (in_turn ts) (gives_itself Γ (in_turn ps)) (a.forth Γ k.1)) (followed_all_of Γ ps ts));
  back = λ Γ t.
      let k = types_of_all ps rs Γ t in
      gives_through Γ (in_turn (all_of ps ts)) (followed (in_turn ps) (in_turn ts)) (at_the_same_time (all_of ps rs)) (all_of_followed Γ ps ts)
      (gives_through Γ (followed (in_turn ps) (in_turn ts)) (followed (in_turn ps) (at_the_same_time rs)) (at_the_same_time (all_of ps rs))
      (followed_gives Γ (in_turn ps) (in_turn ps) (in_turn ts) (at_the_same_time rs) (gives_itself Γ (in_turn ps)) (a.back Γ k.1)) (front_beside Γ ps rs h t));
  bits = λ n.
      let e = bits_of_both ps rs n in
      let f = bits_of_both ps ts n in
      let g = a.bits n in omega (arith, e, f, g);
}
