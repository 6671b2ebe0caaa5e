-- Two ALTs side by side are the ALT of all that they can do first.
use Rattle.occ_law.specs.occ_base.Event.{counterpart}
use Rattle.occ_law.specs.occ_base.Width.{bits_of}
use Rattle.occ_law.specs.occ_base.declared.event.Dir.TheVariants.{Input, Output}
use Rattle.occ_law.specs.occ_base.declared.event.Event.{Event}
use Rattle.occ_law.specs.occ_base.declared.width.Width.{Width}
use Rattle.occ_law_sound.proofs.Meetings.{Meets, among_first, among_meetings, among_second, each_first, each_meetings, each_second, gets_puts, puts_gets}
use Rattle.occ_law_sound.proofs.Parts.{two_kept}
use Rattle.occ_law.specs.Lists.{all_branches}
use Rattle.occ_law.specs.Parallel.{ParExpand, both_go, expanded, first_goes, meetings, par_expand, second_goes}
use Rattle.occ_law.proofs.from_meaning.Facts.{and_four, at_itself, clash, false_not_true, if_true, or_four}
use Rattle.occ_law.proofs.from_meaning.Frame.{KeepsValue, part_value}
use Rattle.occ_law.proofs.from_meaning.Free.{not_written}
use Rattle.occ_law.proofs.from_meaning.Members.{Among, first_branch, goes_in, goes_out, later_branch, refuses_in, refuses_out}
use Rattle.occ_law.proofs.from_meaning.Moved.{MovedSecond, second_moved, second_moved_back}
use Rattle.occ_law.proofs.from_meaning.Named.{and_condition}
use Rattle.occ_law.proofs.from_meaning.OffValues.{Ignores, part_ignores, value_again, value_back}
use Rattle.occ_law.proofs.from_meaning.Typing.{eval_below, output_types}
use Rattle.occ_law.specs.occ_meaning.Foundation.{with_result}
use Rattle.occ_law.specs.occ_meaning.Parallel.{two}
use Rattle.occ_law.proofs.from_meaning.AtState.{assigned_then, same_at}
use Rattle.occ_law.proofs.from_meaning.Covering.{Covers, CoversEach, alt_covered, covers_all, part_left, part_refused, part_right, refused_all}
use Rattle.occ_law.specs.occ_syntax.Eval.{eval, is_true}
use Rattle.occ_law.specs.occ_syntax.Meaning.{After, Alternates, Combines, IsQuiet, Meaning, Outcome, Taken, Together, Weave, answered, at_event, at_ready, beside, both_done, both_ended, ended, first_ended, guards, join, meaning, neither_ended, of_first, of_second, refused_with, refusing, second_ended, stable, taken, together, unseen}
use Rattle.occ_law.specs.occ_syntax.Names.{free, free_in_branches, free_in_waiting, names, written, written_in_branches, written_in_waiting}
use Rattle.occ_law.specs.occ_syntax.Same.{SAME}
use Rattle.occ_law.specs.occ_syntax.Scopes.{Environment, EventSet, IsState, Trace, Values, channel_width, has_width, in_scope, same_dir, with_value}
use Rattle.occ_law.specs.occ_syntax.Tree.{Branches, Exp, Tree, Waiting, alt, and_branch, input, no_branch, operation, output, par, ready}
use Rattle.occ_law.specs.occ_syntax.Types.{branches_kept, is_condition, types_kept, waiting_kept}
use Rattle.occ_law.specs.occ_syntax.Usage.{Keeps}
use Rattle.occ_law.specs.occ_syntax.declared.expr.Op.TheVariants.{And}
use Rattle.std.proofs.Common.{Bool, List, Option, [], ap, false, if◌then◌else◌, inl, inr, not, refl, subst, sym, true, ℕ, ◌&&◌, ◌==◌, ◌^◌, ◌∙◌, ◌∷◌, ◌≡◌, ◌||◌}
use Rattle.std.proofs.lemmas.Bool.{and_from, and_parts, cases_Bool, eqb-true, lt-ltb, or_cases, or_from, or_left, or_parts, or_right}
use mathlib.Core.Path.{fun_ext}

-- ---- the first part of a PAR moved to other values

join_at : (p : Bool) (a b v s : ℕ) → (p ≡ true → a ≡ s) → (if a == s then b else a) ≡ (if (if p then v else a) == (if p then v else s) then b else (if p then v else a))
join_at true a b v s h = if_true (a == s) b a (ap (λ n. n == s) (h refl) ∙ at_itself s) ∙ sym (if_true (v == v) b v (at_itself v))
join_at false a b v s h = refl

join_first_moved : (s a b : Values) (x v : ℕ) → a x ≡ s x → join s a b ≡ join (with_value s x v) (with_value a x v) b
join_first_moved s a b x v kept = fun_ext (λ z. join_at (z == x) (a z) (b z) v (s z) (λ h. (let P : ℕ → Type 0 = λ y. a y ≡ s y in subst P (sym (eqb-true z x h)) kept)))

combined_first_moved : (Γ : Environment) (s : Values) (x v : ℕ) (o1 o2 o : Outcome) → ((a : Values) → o1 ≡ ended a → a x ≡ s x)
    → Combines Γ s o1 o2 o → Combines Γ (with_value s x v) (with_result x v o1) o2 o
combined_first_moved Γ s x v o1 o2 o kept (both_ended {s1 = a} {s2 = b} {s' = r} e) = both_ended (e ∙ join_first_moved s a b x v (kept a refl))
combined_first_moved Γ s x v o1 o2 o kept first_ended = first_ended
combined_first_moved Γ s x v o1 o2 o kept second_ended = second_ended
combined_first_moved Γ s x v o1 o2 o kept (neither_ended X Y) = neither_ended X Y

record MovedFirst (n : Meaning) (Γ : Environment) (s : Values) (t : Trace) (o2 o : Outcome) : Type 0 where
  other : Outcome
  combines : Combines Γ s other o2 o
  does : n.does Γ s t other

first_moved : (n : Meaning) (x : ℕ) → Ignores x n → KeepsValue x n → (Γ : Environment) (s : Values) (v : ℕ) (t : Trace) (o1 o2 o : Outcome)
    → Combines Γ s o1 o2 o → n.does Γ s t o1 → MovedFirst n Γ (with_value s x v) t o2 o
first_moved n x ignores keeps Γ s v t o1 o2 o c d = record {
  other = with_result x v o1;
  combines = combined_first_moved Γ s x v o1 o2 o (λ a e. keeps.value Γ s t a (let P : Outcome → Type 0 = λ k. n.does Γ s t k in subst P e d)) c;
  does = ignores.ignored Γ s v t o1 d;
}

first_moved_back : (n : Meaning) (x : ℕ) → Ignores x n → KeepsValue x n → (Γ : Environment) (s : Values) (v : ℕ) (t : Trace) (o1 o2 o : Outcome)
    → Combines Γ (with_value s x v) o1 o2 o → n.does Γ (with_value s x v) t o1 → MovedFirst n Γ s t o2 o
first_moved_back n x ignores keeps Γ s v t o1 o2 o c d =
    let P : Values → Type 0 = λ r. MovedFirst n Γ r t o2 o in
    subst P (value_again s x v (s x) ∙ value_back s x) (first_moved n x ignores keeps Γ (with_value s x v) (s x) t o1 o2 o c d)

-- ---- past a guard

-- what a guard inputs into, a process neither reads nor changes
record Apart (w : Waiting) (n : Meaning) : Type 0 where
  ignores : (x : ℕ) → written_in_waiting w x ≡ true → Ignores x n
  keeps : (x : ℕ) → written_in_waiting w x ≡ true → KeepsValue x n

second_forth : (Γ : Environment) (s : Values) (w : Waiting) (n : Meaning) → Apart w n → (e : Event) (u : Values) → After Γ s w e u
    → (t : Trace) (o1 o2 o : Outcome) → Combines Γ s o1 o2 o → n.does Γ s t o2 → MovedSecond n Γ u t o1 o
second_forth Γ s ready n h e u i t o1 o2 o c d = absurd i
second_forth Γ s (input b x) n h e u i t o1 o2 o c d =
    let P : Values → Type 0 = λ r. MovedSecond n Γ r t o1 o in
    subst P (sym i.3) (second_moved n x (h.ignores x (at_itself x)) (h.keeps x (at_itself x)) Γ s i.0 t o1 o2 o c d)
second_forth Γ s (output b z) n h e u i t o1 o2 o c d =
    let P : Values → Type 0 = λ r. MovedSecond n Γ r t o1 o in subst P (sym i.1) (record { other = o2; combines = c; does = d })

second_back : (Γ : Environment) (s : Values) (w : Waiting) (n : Meaning) → Apart w n → (e : Event) (u : Values) → After Γ s w e u
    → (t : Trace) (o1 o2 o : Outcome) → Combines Γ u o1 o2 o → n.does Γ u t o2 → MovedSecond n Γ s t o1 o
second_back Γ s ready n h e u i t o1 o2 o c d = absurd i
second_back Γ s (input b x) n h e u i t o1 o2 o c d =
    let P : Values → Type 0 = λ r. Combines Γ r o1 o2 o in
    let Q : Values → Type 0 = λ r. n.does Γ r t o2 in
    second_moved_back n x (h.ignores x (at_itself x)) (h.keeps x (at_itself x)) Γ s i.0 t o1 o2 o (subst P i.3 c) (subst Q i.3 d)
second_back Γ s (output b z) n h e u i t o1 o2 o c d =
    let P : Values → Type 0 = λ r. Combines Γ r o1 o2 o in
    let Q : Values → Type 0 = λ r. n.does Γ r t o2 in
    record { other = o2; combines = subst P i.1 c; does = subst Q i.1 d }

first_forth : (Γ : Environment) (s : Values) (w : Waiting) (n : Meaning) → Apart w n → (e : Event) (u : Values) → After Γ s w e u
    → (t : Trace) (o1 o2 o : Outcome) → Combines Γ s o1 o2 o → n.does Γ s t o1 → MovedFirst n Γ u t o2 o
first_forth Γ s ready n h e u i t o1 o2 o c d = absurd i
first_forth Γ s (input b x) n h e u i t o1 o2 o c d =
    let P : Values → Type 0 = λ r. MovedFirst n Γ r t o2 o in
    subst P (sym i.3) (first_moved n x (h.ignores x (at_itself x)) (h.keeps x (at_itself x)) Γ s i.0 t o1 o2 o c d)
first_forth Γ s (output b z) n h e u i t o1 o2 o c d =
    let P : Values → Type 0 = λ r. MovedFirst n Γ r t o2 o in subst P (sym i.1) (record { other = o1; combines = c; does = d })

first_back : (Γ : Environment) (s : Values) (w : Waiting) (n : Meaning) → Apart w n → (e : Event) (u : Values) → After Γ s w e u
    → (t : Trace) (o1 o2 o : Outcome) → Combines Γ u o1 o2 o → n.does Γ u t o1 → MovedFirst n Γ s t o2 o
first_back Γ s ready n h e u i t o1 o2 o c d = absurd i
first_back Γ s (input b x) n h e u i t o1 o2 o c d =
    let P : Values → Type 0 = λ r. Combines Γ r o1 o2 o in
    let Q : Values → Type 0 = λ r. n.does Γ r t o1 in
    first_moved_back n x (h.ignores x (at_itself x)) (h.keeps x (at_itself x)) Γ s i.0 t o1 o2 o (subst P i.3 c) (subst Q i.3 d)
first_back Γ s (output b z) n h e u i t o1 o2 o c d =
    let P : Values → Type 0 = λ r. Combines Γ r o1 o2 o in
    let Q : Values → Type 0 = λ r. n.does Γ r t o1 in
    record { other = o1; combines = subst P i.1 c; does = subst Q i.1 d }

-- ---- what types and usage give

member_kept : (Γ : Environment) (b : Exp) (w : Waiting) (p : Tree) (bs : Branches) → branches_kept bs Γ ≡ true → Among b w p bs
    → (is_condition Γ b ≡ true) × (waiting_kept Γ w ≡ true) × (types_kept p Γ ≡ true)
member_kept Γ b w p bs h (first_branch {bs = ks}) = let k = and_four (is_condition Γ b) (waiting_kept Γ w) (types_kept p Γ) (branches_kept ks Γ) h in (k.0, k.1, k.2)
member_kept Γ b w p bs h (later_branch {f = f} {v = v} {q = q} {bs = ks} i) =
    member_kept Γ b w p ks (and_four (is_condition Γ f) (waiting_kept Γ v) (types_kept q Γ) (branches_kept ks Γ) h).3 i

member_free : (x : ℕ) (b : Exp) (w : Waiting) (p : Tree) (bs : Branches) → free_in_branches bs x ≡ false → Among b w p bs → free p x ≡ false
member_free x b w p bs h (first_branch {bs = ks}) = (or_four (names b x) (free_in_waiting w x) (free p x) (free_in_branches ks x) h).2
member_free x b w p bs h (later_branch {f = f} {v = v} {q = q} {bs = ks} i) =
    member_free x b w p ks (or_four (names f x) (free_in_waiting v x) (free q x) (free_in_branches ks x) h).3 i

member_written : (x : ℕ) (b : Exp) (w : Waiting) (p : Tree) (bs : Branches) → written_in_waiting w x ≡ true → Among b w p bs → written_in_branches bs x ≡ true
member_written x b w p bs h (first_branch {bs = ks}) =
    or_left (written_in_waiting w x || written p x) (written_in_branches ks x) (or_left (written_in_waiting w x) (written p x) h)
member_written x b w p bs h (later_branch {f = f} {v = v} {q = q} {bs = ks} i) =
    or_right (written_in_waiting v x || written q x) (written_in_branches ks x) (member_written x b w p ks h i)

-- two ALTs of which neither writes what the other has
record Fit (Γ : Environment) (ls ms : Branches) : Type 0 where
  first_kept : branches_kept ls Γ ≡ true
  second_kept : branches_kept ms Γ ≡ true
  first_writes : (x : ℕ) → written_in_branches ls x ≡ true → free_in_branches ms x ≡ false
  second_writes : (x : ℕ) → written_in_branches ms x ≡ true → free_in_branches ls x ≡ false

tree_apart : (Γ : Environment) (w : Waiting) (q : Tree) → types_kept q Γ ≡ true → ((x : ℕ) → written_in_waiting w x ≡ true → free q x ≡ false) → Apart w (meaning q)
tree_apart Γ w q t h = record {
  ignores = λ x i. part_ignores q Γ t x (inl (h x i));
  keeps = λ x i. part_value q Γ t x (not_written q x (h x i));
}

-- the guards of one list against the whole other ALT, and against each process of it
guard_apart : (Γ : Environment) (ls ms : Branches) (b : Exp) (w : Waiting) (p : Tree) → branches_kept ms Γ ≡ true
    → ((x : ℕ) → written_in_branches ls x ≡ true → free_in_branches ms x ≡ false) → Among b w p ls → Apart w (meaning (alt ms))
guard_apart Γ ls ms b w p t h i = tree_apart Γ w (alt ms) t (λ x j. h x (member_written x b w p ls j i))

process_apart : (Γ : Environment) (ls ms : Branches) (b : Exp) (w : Waiting) (p : Tree) (f : Exp) (v : Waiting) (q : Tree) → branches_kept ms Γ ≡ true
    → ((x : ℕ) → written_in_branches ls x ≡ true → free_in_branches ms x ≡ false) → Among b w p ls → Among f v q ms → Apart w (meaning q)
process_apart Γ ls ms b w p f v q t h i j =
    tree_apart Γ w q (member_kept Γ f v q ms t j).2 (λ x k. member_free x f v q ms (h x (member_written x b w p ls k i)) j)

-- ---- from the expansion to both ALTs

abbrev both : Branches → Branches → Meaning
both ls ms = beside (meaning (alt ls)) (meaning (alt ms))

-- a guard of one part in front of what both do from there
put_first : (Γ : Environment) (s : Values) (ls ms : Branches) (b : Exp) (w : Waiting) (p : Tree) → Among b w p ls → is_true Γ b s ≡ true → Apart w (meaning (alt ms))
    → (t : Trace) (u : Values) (a : Trace) (o : Outcome) → Taken Γ s w t u a → Together (meaning p) (meaning (alt ms)) Γ u a o → Together (meaning (alt ls)) (meaning (alt ms)) Γ s t o
put_first Γ s ls ms b w p i j h t u a o at_ready (together t1 t2 o1 o2 k c d1 d2) =
    together t1 t2 o1 o2 k c (taken (goes_in Γ s b ready p ls i j t1 s t1 o1 at_ready d1)) d2
put_first Γ s ls ms b w p i j h t u a o (at_event {w = z} {e = e} {u = q} {t = f} k) (together t1 t2 o1 o2 l c d1 d2) =
    let m = second_back Γ s z (meaning (alt ms)) h e q k t2 o1 o2 o c d2 in
    together (e ∷ t1) t2 o1 m.other (of_first l) m.combines (taken (goes_in Γ s b z p ls i j (e ∷ t1) q t1 o1 (at_event k) d1)) m.does

put_second : (Γ : Environment) (s : Values) (ls ms : Branches) (b : Exp) (w : Waiting) (p : Tree) → Among b w p ms → is_true Γ b s ≡ true → Apart w (meaning (alt ls))
    → (t : Trace) (u : Values) (a : Trace) (o : Outcome) → Taken Γ s w t u a → Together (meaning (alt ls)) (meaning p) Γ u a o → Together (meaning (alt ls)) (meaning (alt ms)) Γ s t o
put_second Γ s ls ms b w p i j h t u a o at_ready (together t1 t2 o1 o2 k c d1 d2) =
    together t1 t2 o1 o2 k c d1 (taken (goes_in Γ s b ready p ms i j t2 s t2 o2 at_ready d2))
put_second Γ s ls ms b w p i j h t u a o (at_event {w = z} {e = e} {u = q} {t = f} k) (together t1 t2 o1 o2 l c d1 d2) =
    let m = first_back Γ s z (meaning (alt ls)) h e q k t1 o1 o2 o c d1 in
    together t1 (e ∷ t2) m.other o2 (of_second l) m.combines m.does (taken (goes_in Γ s b z p ms i j (e ∷ t2) q t2 o2 (at_event k) d2))

-- the value of an output is one of its channel
sent_value : (Γ : Environment) (s : Values) → IsState Γ s → (c : ℕ) (e : Exp) → waiting_kept Γ (output c e) ≡ true → has_width (channel_width Γ c) (eval Γ e s) ≡ true
sent_value Γ s state c e h =
    let k = output_types Γ c e h in
    let P : Option Width → Type 0 = λ o. has_width o (eval Γ e s) ≡ true in
    subst P (sym k.1.1) (lt-ltb (eval Γ e s) (2 ^ bits_of k.1.0) (eval_below Γ s state e k.1.0 k.1.2))

-- one outputs what the other inputs
put_both : (Γ : Environment) (s : Values) → IsState Γ s → (ls ms : Branches) → Fit Γ ls ms → (b : Exp) (w : Waiting) (p : Tree) (f : Exp) (v : Waiting) (q : Tree) (x : ℕ) (e : Exp)
    → Among b w p ls → Among f v q ms → is_true Γ b s ≡ true → is_true Γ f s ≡ true → Meets w v x e
    → (t : Trace) (o : Outcome) → Together (meaning p) (meaning q) Γ (with_value s x (eval Γ e s)) t o → Together (meaning (alt ls)) (meaning (alt ms)) Γ s t o
put_both Γ s state ls ms fit b w p f v q x e i j hb hf (puts_gets c y z) t o (together t1 t2 o1 o2 k c1 d1 d2) =
    let n : ℕ = eval Γ z s in
    let kept = member_kept Γ b (output c z) p ls fit.first_kept i in
    let apart = process_apart Γ ms ls f (input c y) q b (output c z) p fit.first_kept fit.second_writes j i in
    let m = first_moved_back (meaning p) y (apart.ignores y (at_itself y)) (apart.keeps y (at_itself y)) Γ s n t1 o1 o2 o c1 d1 in
    let out : Event = record { chan = record { 0 = c }; dir = Output; value = n } in
    let in_ : Event = record { chan = record { 0 = c }; dir = Input; value = n } in
    together (out ∷ t1) (in_ ∷ t2) m.other o2 (unseen refl k) m.combines
    (taken (goes_in Γ s b (output c z) p ls i hb (out ∷ t1) s t1 m.other (at_event (refl, refl)) m.does))
    (taken (goes_in Γ s f (input c y) q ms j hf (in_ ∷ t2) (with_value s y n) t2 o2 (at_event (n, sent_value Γ s state c z kept.1, refl, refl)) d2))
put_both Γ s state ls ms fit b w p f v q x e i j hb hf (gets_puts c y z) t o (together t1 t2 o1 o2 k c1 d1 d2) =
    let n : ℕ = eval Γ z s in
    let kept = member_kept Γ f (output c z) q ms fit.second_kept j in
    let apart = process_apart Γ ls ms b (input c y) p f (output c z) q fit.second_kept fit.first_writes i j in
    let m = second_moved_back (meaning q) y (apart.ignores y (at_itself y)) (apart.keeps y (at_itself y)) Γ s n t2 o1 o2 o c1 d2 in
    let out : Event = record { chan = record { 0 = c }; dir = Output; value = n } in
    let in_ : Event = record { chan = record { 0 = c }; dir = Input; value = n } in
    together (in_ ∷ t1) (out ∷ t2) o1 m.other (unseen refl k) m.combines
    (taken (goes_in Γ s b (input c y) p ls i hb (in_ ∷ t1) (with_value s y n) t1 o1 (at_event (n, sent_value Γ s state c z kept.1, refl, refl)) d1))
    (taken (goes_in Γ s f (output c z) q ms j hf (out ∷ t2) s t2 m.other (at_event (refl, refl)) m.does))

at_once_ready : (Γ : Environment) (s : Values) (m : Meaning) (t : Trace) (u : Values) (a : Trace) (o : Outcome) → Taken Γ s ready t u a → m.does Γ u a o → m.does Γ s t o
at_once_ready Γ s m t u a o at_ready d = d
at_once_ready Γ s m t u a o (at_event k) d = absurd k

both_true : (Γ : Environment) (s : Values) → IsState Γ s → (b f : Exp) → is_condition Γ b ≡ true → is_condition Γ f ≡ true
    → is_true Γ (operation And b f) s ≡ true → (is_true Γ b s ≡ true) × (is_true Γ f s ≡ true)
both_true Γ s state b f hb hf h = and_parts (is_true Γ b s) (is_true Γ f s) (sym (and_condition Γ s state b f hb hf) ∙ h)

covers_meeting : (Γ : Environment) (s : Values) → IsState Γ s → (ls ms : Branches) → Fit Γ ls ms → (b : Exp) (w : Waiting) (p : Tree) (f : Exp) (v : Waiting) (q : Tree)
    → Among b w p ls → Among f v q ms → (x : ℕ) (e : Exp) → Meets w v x e → Covers Γ s (both ls ms) (operation And b f) ready (both_go x e p q)
covers_meeting Γ s state ls ms fit b w p f v q i j x e h =
    let kb = member_kept Γ b w p ls fit.first_kept i in
    let kf = member_kept Γ f v q ms fit.second_kept j in
    record {
      covered = λ k t u a o l d.
          (let c = both_true Γ s state b f kb.0 kf.0 k in
          put_both Γ s state ls ms fit b w p f v q x e i j c.0 c.1 h t o
          ((assigned_then Γ s (x ∷ []) (e ∷ []) (par (two p q))).forth t o (at_once_ready Γ s (meaning (both_go x e p q)) t u a o l d)));
    }

covers_expanded : (Γ : Environment) (s : Values) → IsState Γ s → (ls ms : Branches) → Fit Γ ls ms → CoversEach Γ s (both ls ms) (expanded ls ms)
covers_expanded Γ s state ls ms fit =
    covers_all Γ s (both ls ms) (first_goes ls (alt ms)) (all_branches (second_goes (alt ls) ms) (meetings ls ms))
    (record {
      each = (each_first (Covers Γ s (both ls ms)) (alt ms) ls (record {
        each = λ b w p i. record { covered = λ j t u a o k d. put_first Γ s ls ms b w p i j (guard_apart Γ ls ms b w p fit.second_kept fit.first_writes i) t u a o k d };
      })).each;
    })
    (covers_all Γ s (both ls ms) (second_goes (alt ls) ms) (meetings ls ms)
    (record {
      each = (each_second (Covers Γ s (both ls ms)) (alt ls) ms (record {
        each = λ b w p i. record { covered = λ j t u a o k d. put_second Γ s ls ms b w p i j (guard_apart Γ ms ls b w p fit.first_kept fit.second_writes i) t u a o k d };
      })).each;
    })
    (record {
      each = (each_meetings (Covers Γ s (both ls ms)) ls ms (record {
        each = λ b w p i. record { each = λ f v q j x e h. covers_meeting Γ s state ls ms fit b w p f v q i j x e h };
      })).each;
    }))

-- ---- where both are stable

-- an event on the end of a guard
abbrev on_end : Waiting → Event → Bool
on_end ready e = false
on_end (input c x) e = e.chan.0 == c && same_dir e.dir Input
on_end (output c z) e = e.chan.0 == c && same_dir e.dir Output

-- an enabled guard is on the end of the event
abbrev offers : Environment → Values → Branches → Event → Bool
offers Γ s no_branch e = false
offers Γ s (and_branch b w p bs) e = (is_true Γ b s && on_end w e) || offers Γ s bs e

after_on_end : (Γ : Environment) (s : Values) (w : Waiting) (e : Event) (u : Values) → After Γ s w e u → on_end w e ≡ true
after_on_end Γ s ready e u a = absurd a
after_on_end Γ s (input c x) e u a = let P : Event → Type 0 = λ z. (z.chan.0 == c && same_dir z.dir Input) ≡ true in subst P (sym a.2) (and_from (c == c) true (at_itself c) refl)
after_on_end Γ s (output c z) e u a = let P : Event → Type 0 = λ y. (y.chan.0 == c && same_dir y.dir Output) ≡ true in subst P (sym a.0) (and_from (c == c) true (at_itself c) refl)

offers_there : (Γ : Environment) (s : Values) (b : Exp) (w : Waiting) (p : Tree) (bs : Branches) (e : Event) → Among b w p bs → is_true Γ b s ≡ true → on_end w e ≡ true
    → offers Γ s bs e ≡ true
offers_there Γ s b w p bs e (first_branch {bs = ks}) h k = or_left (is_true Γ b s && on_end w e) (offers Γ s ks e) (and_from (is_true Γ b s) (on_end w e) h k)
offers_there Γ s b w p bs e (later_branch {f = f} {v = v} {q = q} {bs = ks} i) h k =
    or_right (is_true Γ f s && on_end v e) (offers Γ s ks e) (offers_there Γ s b w p ks e i h k)

record Offered (Γ : Environment) (s : Values) (bs : Branches) (e : Event) : Type 0 where
  condition : Exp
  guard : Waiting
  process : Tree
  among_them : Among condition guard process bs
  enabled : is_true Γ condition s ≡ true
  on_it : on_end guard e ≡ true

offered : (Γ : Environment) (s : Values) (bs : Branches) (e : Event) → offers Γ s bs e ≡ true → Offered Γ s bs e
offered Γ s no_branch e h = false_not_true h
offered Γ s (and_branch b w p bs) e h = elim (or_cases (is_true Γ b s && on_end w e) (offers Γ s bs e) h) [
  | inl k ↦ (let j = and_parts (is_true Γ b s) (on_end w e) k in record { condition = b; guard = w; process = p; among_them = first_branch; enabled = j.0; on_it = j.1 })
  | inr k ↦ (let j = offered Γ s bs e k in record { condition = j.condition; guard = j.guard; process = j.process; among_them = later_branch j.among_them; enabled = j.enabled; on_it = j.on_it })
]

-- a guard on the counterpart of an event of another meets it
record Meeting (w v : Waiting) : Type 0 where
  variable_ : ℕ
  value_ : Exp
  meet : Meets w v variable_ value_

meets_on : (Γ : Environment) (s : Values) (w v : Waiting) (e : Event) (u : Values) → After Γ s v e u → on_end w (counterpart e) ≡ true → Meeting w v
meets_on Γ s w ready e u a h = absurd a
meets_on Γ s ready (input d y) e u a h = false_not_true h
meets_on Γ s ready (output d z) e u a h = false_not_true h
meets_on Γ s (input c x) (input d y) e u a h =
    let P : Event → Type 0 = λ g. on_end (input c x) (counterpart g) ≡ true in false_not_true ((and_parts (d == c) false (subst P a.2 h)).1)
meets_on Γ s (output c z) (output d g) e u a h =
    let P : Event → Type 0 = λ k. on_end (output c z) (counterpart k) ≡ true in false_not_true ((and_parts (d == c) false (subst P a.0 h)).1)
meets_on Γ s (output c z) (input d y) e u a h =
    let P : Event → Type 0 = λ g. on_end (output c z) (counterpart g) ≡ true in
    let same : d ≡ c = eqb-true d c (and_parts (d == c) true (subst P a.2 h)).0 in
    let Q : ℕ → Type 0 = λ n. Meeting (output c z) (input n y) in
    subst Q (sym same) (record { variable_ = y; value_ = z; meet = puts_gets c y z })
meets_on Γ s (input c x) (output d z) e u a h =
    let P : Event → Type 0 = λ g. on_end (input c x) (counterpart g) ≡ true in
    let same : d ≡ c = eqb-true d c (and_parts (d == c) true (subst P a.0 h)).0 in
    let Q : ℕ → Type 0 = λ n. Meeting (input c x) (output n z) in
    subst Q (sym same) (record { variable_ = x; value_ = z; meet = gets_puts c x z })

quiet_less : (Γ : Environment) (s : Values) (w : Waiting) (X Y : EventSet) → IsQuiet Γ s w X → ((e : Event) (u : Values) → After Γ s w e u → X e ≡ false → Y e ≡ false) → IsQuiet Γ s w Y
quiet_less Γ s w X Y q h = record { not_ready = q.not_ready; refused = λ e u a. h e u a (q.refused e u a) }

expanded_stable : (Γ : Environment) (s : Values) → IsState Γ s → (ls ms : Branches) → Fit Γ ls ms → (X : EventSet) → (guards (expanded ls ms)).refuses Γ s X
    → Together (meaning (alt ls)) (meaning (alt ms)) Γ s [] (refusing X)
expanded_stable Γ s state ls ms fit X d =
    let Y : EventSet = λ e. not (offers Γ s ls e) in
    let rest : Branches = all_branches (second_goes (alt ls) ms) (meetings ls ms) in
    let first_quiet = part_refused Γ s (first_goes ls (alt ms)) (expanded ls ms) (part_left (first_goes ls (alt ms)) rest) X d in
    let later = part_refused Γ s rest (expanded ls ms) (part_right (first_goes ls (alt ms)) rest) X d in
    let second_quiet = part_refused Γ s (second_goes (alt ls) ms) rest (part_left (second_goes (alt ls) ms) (meetings ls ms)) X later in
    let none_meet = part_refused Γ s (meetings ls ms) rest (part_right (second_goes (alt ls) ms) (meetings ls ms)) X later in
    together [] [] (refusing (refused_with Γ X Y)) (refusing (refused_with Γ X (answered Y))) both_done (neither_ended X Y)
    (stable (refuses_in Γ s ls (refused_with Γ X Y) (λ b w p i k.
    quiet_less Γ s w X (refused_with Γ X Y) (refuses_out Γ s X b w (par (two p (alt ms))) (first_goes ls (alt ms)) first_quiet (among_first b w p (alt ms) ls i) k)
    (λ e u a h. or_from (X e) (in_scope Γ e && Y e) h (and_none (in_scope Γ e) (Y e) (λ n. ap not (offers_there Γ s b w p ls e i k (after_on_end Γ s w e u a))))))))
    (stable (refuses_in Γ s ms (refused_with Γ X (answered Y)) (λ f v q j k.
    quiet_less Γ s v X (refused_with Γ X (answered Y)) (refuses_out Γ s X f v (par (two (alt ls) q)) (second_goes (alt ls) ms) second_quiet (among_second f v q (alt ls) ms j) k)
    (λ e u a h. or_from (X e) (in_scope Γ e && answered Y e) h (and_none (in_scope Γ e) (answered Y e) (λ n. ap (λ z. not (not z)) (unmet Γ s state ls ms fit X none_meet f v q j k e u a)))))))
  where
    and_none : (a b : Bool) → (a ≡ true → b ≡ false) → (a && b) ≡ false
    and_none true b h = h refl
    and_none false b h = refl

    unmet : (Γ : Environment) (s : Values) → IsState Γ s → (ls ms : Branches) → Fit Γ ls ms → (X : EventSet) → (guards (meetings ls ms)).refuses Γ s X
        → (f : Exp) (v : Waiting) (q : Tree) → Among f v q ms → is_true Γ f s ≡ true → (e : Event) (u : Values) → After Γ s v e u → offers Γ s ls (counterpart e) ≡ false
    unmet Γ s state ls ms fit X d f v q j k e u a = elim (cases_Bool (offers Γ s ls (counterpart e))) [
      | inl h ↦ (let g = offered Γ s ls (counterpart e) h in
          let m = meets_on Γ s g.guard v e u a g.on_it in
          let kb = member_kept Γ g.condition g.guard g.process ls fit.first_kept g.among_them in
          let kf = member_kept Γ f v q ms fit.second_kept j in
          let both_hold : is_true Γ (operation And g.condition f) s ≡ true = and_condition Γ s state g.condition f kb.0 kf.0 ∙ and_from (is_true Γ g.condition s) (is_true Γ f s) g.enabled k in
          absurd ((refuses_out Γ s X (operation And g.condition f) ready (both_go m.variable_ m.value_ g.process q) (meetings ls ms) d
          (among_meetings g.condition g.guard g.process f v q ls ms m.variable_ m.value_ g.among_them j m.meet) both_hold).not_ready refl))
      | inr no_offer ↦ no_offer
    ]

expanded_back : (Γ : Environment) (s : Values) → IsState Γ s → (ls ms : Branches) → Fit Γ ls ms → (t : Trace) (o : Outcome)
    → (meaning (alt (expanded ls ms))).does Γ s t o → Together (meaning (alt ls)) (meaning (alt ms)) Γ s t o
expanded_back Γ s state ls ms fit =
    alt_covered Γ s (expanded ls ms) (both ls ms) (λ X d. expanded_stable Γ s state ls ms fit X d) (covers_expanded Γ s state ls ms fit)

-- ---- from both ALTs to the expansion

-- what an ALT does first
data View (Γ : Environment) (s : Values) (bs : Branches) : Trace → Outcome → Type 0 where
  at_rest : {X : EventSet} → (guards bs).refuses Γ s X → View Γ s bs [] (refusing X)
  by_ready : {t : Trace} {o : Outcome} (b : Exp) (p : Tree) → Among b ready p bs → is_true Γ b s ≡ true → (meaning p).does Γ s t o → View Γ s bs t o
  by_event : {t : Trace} {o : Outcome} (b : Exp) (w : Waiting) (p : Tree) (e : Event) (u : Values) → Among b w p bs → is_true Γ b s ≡ true → After Γ s w e u
      → (meaning p).does Γ u t o → View Γ s bs (e ∷ t) o

view_taken : (Γ : Environment) (s : Values) (bs : Branches) (b : Exp) (w : Waiting) (p : Tree) → Among b w p bs → is_true Γ b s ≡ true
    → (t : Trace) (u : Values) (a : Trace) (o : Outcome) → Taken Γ s w t u a → (meaning p).does Γ u a o → View Γ s bs t o
view_taken Γ s bs b w p i h t u a o at_ready d = by_ready b p i h d
view_taken Γ s bs b w p i h t u a o (at_event {w = z} {e = e} {u = q} k) d = by_event b z p e q i h k d

view : (Γ : Environment) (s : Values) (bs : Branches) (t : Trace) (o : Outcome) → Alternates (guards bs) Γ s t o → View Γ s bs t o
view Γ s bs t o (stable d) = at_rest d
view Γ s bs t o (taken d) =
    let g = goes_out Γ s bs t o d in view_taken Γ s bs g.condition g.guard g.process g.among_them g.enabled t g.state g.rest o g.taken_by g.goes_on

viewed : (Γ : Environment) (s : Values) (bs : Branches) (t : Trace) (o : Outcome) → View Γ s bs t o → Alternates (guards bs) Γ s t o
viewed Γ s bs t o (at_rest d) = stable d
viewed Γ s bs t o (by_ready {t = a} b p i h d) = taken (goes_in Γ s b ready p bs i h a s a o at_ready d)
viewed Γ s bs t o (by_event {t = a} b w p e u i h k d) = taken (goes_in Γ s b w p bs i h (e ∷ a) u a o (at_event k) d)

-- the branches of the expansion
first_among : (b : Exp) (w : Waiting) (p : Tree) (ls ms : Branches) → Among b w p ls → Among b w (par (two p (alt ms))) (expanded ls ms)
first_among b w p ls ms i =
    (part_left (first_goes ls (alt ms)) (all_branches (second_goes (alt ls) ms) (meetings ls ms))).there b w (par (two p (alt ms))) (among_first b w p (alt ms) ls i)

second_among : (b : Exp) (w : Waiting) (q : Tree) (ls ms : Branches) → Among b w q ms → Among b w (par (two (alt ls) q)) (expanded ls ms)
second_among b w q ls ms i =
    let rest : Branches = all_branches (second_goes (alt ls) ms) (meetings ls ms) in
    (part_right (first_goes ls (alt ms)) rest).there b w (par (two (alt ls) q))
    ((part_left (second_goes (alt ls) ms) (meetings ls ms)).there b w (par (two (alt ls) q)) (among_second b w q (alt ls) ms i))

meeting_among : (g : Exp) (r : Tree) (ls ms : Branches) → Among g ready r (meetings ls ms) → Among g ready r (expanded ls ms)
meeting_among g r ls ms i =
    let rest : Branches = all_branches (second_goes (alt ls) ms) (meetings ls ms) in
    (part_right (first_goes ls (alt ms)) rest).there g ready r ((part_right (second_goes (alt ls) ms) (meetings ls ms)).there g ready r i)

take_first : (Γ : Environment) (s : Values) (ls ms : Branches) → Fit Γ ls ms → (b : Exp) (w : Waiting) (p : Tree) (e : Event) (u : Values) → Among b w p ls → is_true Γ b s ≡ true
    → After Γ s w e u → (t1 t2 t : Trace) (o1 o2 o : Outcome) → Weave t1 t2 t → Combines Γ s o1 o2 o → (meaning p).does Γ u t1 o1 → (meaning (alt ms)).does Γ s t2 o2
    → (meaning (alt (expanded ls ms))).does Γ s (e ∷ t) o
take_first Γ s ls ms fit b w p e u i h k t1 t2 t o1 o2 o v c d1 d2 =
    let m = second_forth Γ s w (meaning (alt ms)) (guard_apart Γ ls ms b w p fit.second_kept fit.first_writes i) e u k t2 o1 o2 o c d2 in
    taken (goes_in Γ s b w (par (two p (alt ms))) (expanded ls ms) (first_among b w p ls ms i) h (e ∷ t) u t o (at_event k)
    (together t1 t2 o1 m.other v m.combines d1 m.does))

take_second : (Γ : Environment) (s : Values) (ls ms : Branches) → Fit Γ ls ms → (b : Exp) (w : Waiting) (q : Tree) (e : Event) (u : Values) → Among b w q ms → is_true Γ b s ≡ true
    → After Γ s w e u → (t1 t2 t : Trace) (o1 o2 o : Outcome) → Weave t1 t2 t → Combines Γ s o1 o2 o → (meaning (alt ls)).does Γ s t1 o1 → (meaning q).does Γ u t2 o2
    → (meaning (alt (expanded ls ms))).does Γ s (e ∷ t) o
take_second Γ s ls ms fit b w q e u i h k t1 t2 t o1 o2 o v c d1 d2 =
    let m = first_forth Γ s w (meaning (alt ls)) (guard_apart Γ ms ls b w q fit.first_kept fit.second_writes i) e u k t1 o1 o2 o c d1 in
    taken (goes_in Γ s b w (par (two (alt ls) q)) (expanded ls ms) (second_among b w q ls ms i) h (e ∷ t) u t o (at_event k)
    (together t1 t2 m.other o2 v m.combines m.does d2))

-- both go at once
meet_by : (Γ : Environment) (s : Values) → IsState Γ s → (ls ms : Branches) → Fit Γ ls ms → (b : Exp) (w : Waiting) (p : Tree) (f : Exp) (v : Waiting) (q : Tree) (x : ℕ) (g : Exp)
    → Among b w p ls → Among f v q ms → is_true Γ b s ≡ true → is_true Γ f s ≡ true → Meets w v x g
    → (t : Trace) (o : Outcome) → Together (meaning p) (meaning q) Γ (with_value s x (eval Γ g s)) t o → (meaning (alt (expanded ls ms))).does Γ s t o
meet_by Γ s state ls ms fit b w p f v q x g i j hb hf h t o d =
    let kb = member_kept Γ b w p ls fit.first_kept i in
    let kf = member_kept Γ f v q ms fit.second_kept j in
    let e : Exp = operation And b f in
    taken (goes_in Γ s e ready (both_go x g p q) (expanded ls ms) (meeting_among e (both_go x g p q) ls ms (among_meetings b w p f v q ls ms x g i j h))
    (and_condition Γ s state b f kb.0 kf.0 ∙ and_from (is_true Γ b s) (is_true Γ f s) hb hf) t s t o at_ready
    ((assigned_then Γ s (x ∷ []) (g ∷ []) (par (two p q))).back t o d))

take_both : (Γ : Environment) (s : Values) → IsState Γ s → (ls ms : Branches) → Fit Γ ls ms → (b : Exp) (w : Waiting) (p : Tree) (f : Exp) (v : Waiting) (q : Tree)
    (e1 e2 : Event) (u1 u2 : Values) → Among b w p ls → Among f v q ms → is_true Γ b s ≡ true → is_true Γ f s ≡ true → After Γ s w e1 u1 → After Γ s v e2 u2
    → e2 ≡ counterpart e1 → (t1 t2 t : Trace) (o1 o2 o : Outcome) → Weave t1 t2 t → Combines Γ s o1 o2 o → (meaning p).does Γ u1 t1 o1 → (meaning q).does Γ u2 t2 o2
    → (meaning (alt (expanded ls ms))).does Γ s t o
take_both Γ s state ls ms fit b ready p f v q e1 e2 u1 u2 i j hb hf k l same t1 t2 t o1 o2 o z c d1 d2 = absurd k
take_both Γ s state ls ms fit b (input a x) p f ready q e1 e2 u1 u2 i j hb hf k l same t1 t2 t o1 o2 o z c d1 d2 = absurd l
take_both Γ s state ls ms fit b (output a g) p f ready q e1 e2 u1 u2 i j hb hf k l same t1 t2 t o1 o2 o z c d1 d2 = absurd l
take_both Γ s state ls ms fit b (input a x) p f (input d y) q e1 e2 u1 u2 i j hb hf k l same t1 t2 t o1 o2 o z c d1 d2 =
    absurd (in_not_out (ap (λ n. n.dir) (sym l.2 ∙ (same ∙ ap counterpart k.2))))
  where
    in_not_out : Input ≡ Output → ⊥
    in_not_out h = cc
take_both Γ s state ls ms fit b (output a g) p f (output d y) q e1 e2 u1 u2 i j hb hf k l same t1 t2 t o1 o2 o z c d1 d2 =
    absurd (out_not_in (ap (λ n. n.dir) (sym l.0 ∙ (same ∙ ap counterpart k.0))))
  where
    out_not_in : Output ≡ Input → ⊥
    out_not_in h = cc
take_both Γ s state ls ms fit b (output a g) p f (input d y) q e1 e2 u1 u2 i j hb hf k l same t1 t2 t o1 o2 o z c d1 d2 =
    let one_event = sym l.2 ∙ (same ∙ ap counterpart k.0) in
    let chans : d ≡ a = ap (λ n. n.chan.0) one_event in
    let vals : l.0 ≡ eval Γ g s = ap (λ n. n.value) one_event in
    let n : ℕ = eval Γ g s in
    let P : Values → Type 0 = λ r. (meaning p).does Γ r t1 o1 in
    let Q : Values → Type 0 = λ r. (meaning q).does Γ r t2 o2 in
    let R : ℕ → Type 0 = λ m. Meets (output a g) (input m y) y g in
    let apart = process_apart Γ ms ls f (input d y) q b (output a g) p fit.first_kept fit.second_writes j i in
    let m = first_moved (meaning p) y (apart.ignores y (at_itself y)) (apart.keeps y (at_itself y)) Γ s n t1 o1 o2 o c (subst P k.1 d1) in
    meet_by Γ s state ls ms fit b (output a g) p f (input d y) q y g i j hb hf (subst R (sym chans) (puts_gets a y g)) t o
    (together t1 t2 m.other o2 z m.combines m.does (subst Q (l.3 ∙ ap (λ r. with_value s y r) vals) d2))
take_both Γ s state ls ms fit b (input a x) p f (output d g) q e1 e2 u1 u2 i j hb hf k l same t1 t2 t o1 o2 o z c d1 d2 =
    let one_event = sym l.0 ∙ (same ∙ ap counterpart k.2) in
    let chans : d ≡ a = ap (λ n. n.chan.0) one_event in
    let vals : eval Γ g s ≡ k.0 = ap (λ n. n.value) one_event in
    let n : ℕ = eval Γ g s in
    let P : Values → Type 0 = λ r. (meaning p).does Γ r t1 o1 in
    let Q : Values → Type 0 = λ r. (meaning q).does Γ r t2 o2 in
    let R : ℕ → Type 0 = λ m. Meets (input a x) (output m g) x g in
    let apart = process_apart Γ ls ms b (input a x) p f (output d g) q fit.second_kept fit.first_writes i j in
    let m = second_moved (meaning q) x (apart.ignores x (at_itself x)) (apart.keeps x (at_itself x)) Γ s n t2 o1 o2 o c (subst Q l.1 d2) in
    meet_by Γ s state ls ms fit b (input a x) p f (output d g) q x g i j hb hf (subst R (sym chans) (gets_puts a x g)) t o
    (together t1 t2 o1 m.other z m.combines (subst P (k.3 ∙ ap (λ r. with_value s x r) (sym vals)) d1) m.does)

-- ---- both stable

-- an event that is in neither set, though one of them has what the other leaves out
either_has : (a b i y : Bool) → i ≡ true → (a || (i && y)) ≡ false → (b || (i && not y)) ≡ false → ⊥
either_has a b true true h k l = clash true refl (or_parts a true k).1
either_has a b true false h k l = clash true refl (or_parts b true l).1
either_has a b false y h k l = false_not_true h

-- two guards that meet aren't both quiet: whatever one leaves out, the other takes in
no_meeting : (Γ : Environment) (s : Values) → IsState Γ s → (w v : Waiting) (x : ℕ) (g : Exp) → Meets w v x g → waiting_kept Γ w ≡ true → waiting_kept Γ v ≡ true
    → (X Y : EventSet) → IsQuiet Γ s w (refused_with Γ X Y) → IsQuiet Γ s v (refused_with Γ X (answered Y)) → ⊥
no_meeting Γ s state w v x g (puts_gets c y z) hw hv X Y q r =
    let n : ℕ = eval Γ z s in
    let has = sent_value Γ s state c z hw in
    let out : Event = record { chan = record { 0 = c }; dir = Output; value = n } in
    let in_ : Event = record { chan = record { 0 = c }; dir = Input; value = n } in
    either_has (X out) (X in_) (in_scope Γ out) (Y out) has (q.refused out s (refl, refl)) (r.refused in_ (with_value s y n) (n, has, refl, refl))
no_meeting Γ s state w v x g (gets_puts c y z) hw hv X Y q r =
    let n : ℕ = eval Γ z s in
    let has = sent_value Γ s state c z hv in
    let out : Event = record { chan = record { 0 = c }; dir = Output; value = n } in
    let in_ : Event = record { chan = record { 0 = c }; dir = Input; value = n } in
    either_has (X in_) (X out) (in_scope Γ in_) (Y in_) has (q.refused in_ (with_value s y n) (n, has, refl, refl)) (r.refused out s (refl, refl))

both_rest : (Γ : Environment) (s : Values) → IsState Γ s → (ls ms : Branches) → Fit Γ ls ms → (X Y : EventSet) → (guards ls).refuses Γ s (refused_with Γ X Y)
    → (guards ms).refuses Γ s (refused_with Γ X (answered Y)) → (guards (expanded ls ms)).refuses Γ s X
both_rest Γ s state ls ms fit X Y d1 d2 =
    refused_all Γ s (first_goes ls (alt ms)) (all_branches (second_goes (alt ls) ms) (meetings ls ms)) X
    (refuses_in Γ s (first_goes ls (alt ms)) X (each_first (λ b w p. is_true Γ b s ≡ true → IsQuiet Γ s w X) (alt ms) ls (record {
      each = λ b w p i k. quiet_less Γ s w (refused_with Γ X Y) X (refuses_out Γ s (refused_with Γ X Y) b w p ls d1 i k) (λ e u a h. (or_parts (X e) (in_scope Γ e && Y e) h).0);
    })).each)
    (refused_all Γ s (second_goes (alt ls) ms) (meetings ls ms) X
    (refuses_in Γ s (second_goes (alt ls) ms) X (each_second (λ b w p. is_true Γ b s ≡ true → IsQuiet Γ s w X) (alt ls) ms (record {
      each = λ b w p i k. quiet_less Γ s w (refused_with Γ X (answered Y)) X (refuses_out Γ s (refused_with Γ X (answered Y)) b w p ms d2 i k) (λ e u a h. (or_parts (X e) (in_scope Γ e && answered Y e) h).0);
    })).each)
    (refuses_in Γ s (meetings ls ms) X (each_meetings (λ b w p. is_true Γ b s ≡ true → IsQuiet Γ s w X) ls ms (record {
      each = λ b w p i. record {
        each = λ f v q j x g h k.
            (let kb = member_kept Γ b w p ls fit.first_kept i in
            let kf = member_kept Γ f v q ms fit.second_kept j in
            let t = both_true Γ s state b f kb.0 kf.0 k in
            absurd (no_meeting Γ s state w v x g h kb.1 kf.1 X Y (refuses_out Γ s (refused_with Γ X Y) b w p ls d1 i t.0) (refuses_out Γ s (refused_with Γ X (answered Y)) f v q ms d2 j t.1)));
      };
    })).each))

rest_combined : (Γ : Environment) (s : Values) → IsState Γ s → (ls ms : Branches) → Fit Γ ls ms → (Z W : EventSet) (o : Outcome) → Combines Γ s (refusing Z) (refusing W) o
    → (guards ls).refuses Γ s Z → (guards ms).refuses Γ s W → (meaning (alt (expanded ls ms))).does Γ s [] o
rest_combined Γ s state ls ms fit Z W o (neither_ended X Y) d1 d2 = stable (both_rest Γ s state ls ms fit X Y d1 d2)

forth : (Γ : Environment) (s : Values) → IsState Γ s → (ls ms : Branches) → Fit Γ ls ms → (t1 t2 t : Trace) (o1 o2 o : Outcome) → View Γ s ls t1 o1 → View Γ s ms t2 o2
    → Weave t1 t2 t → Combines Γ s o1 o2 o → (meaning (alt (expanded ls ms))).does Γ s t o
forth Γ s state ls ms fit t1 t2 t o1 o2 o (by_ready {t = a} b p i h d) k z c =
    taken (goes_in Γ s b ready (par (two p (alt ms))) (expanded ls ms) (first_among b ready p ls ms i) h t s t o at_ready (together a t2 o1 o2 z c d (viewed Γ s ms t2 o2 k)))
forth Γ s state ls ms fit t1 t2 t o1 o2 o (at_rest {X = X} d) (by_ready {t = a} b q i h k) z c =
    taken (goes_in Γ s b ready (par (two (alt ls) q)) (expanded ls ms) (second_among b ready q ls ms i) h t s t o at_ready (together [] a (refusing X) o2 z c (stable d) k))
forth Γ s state ls ms fit t1 t2 t o1 o2 o (by_event {t = a} b w p e u i h k d) (by_ready {t = f} g q j l m) z c =
    taken (goes_in Γ s g ready (par (two (alt ls) q)) (expanded ls ms) (second_among g ready q ls ms j) l t s t o at_ready
    (together (e ∷ a) f o1 o2 z c (viewed Γ s ls (e ∷ a) o1 (by_event b w p e u i h k d)) m))
forth Γ s state ls ms fit t1 t2 t o1 o2 o (at_rest {X = X} d) (at_rest {X = W} k) both_done c = rest_combined Γ s state ls ms fit X W o c d k
forth Γ s state ls ms fit t1 t2 t o1 o2 o (at_rest {X = X} d) (by_event {t = a} b w q e u i h k m) (of_second {c = r} z) c =
    take_second Γ s ls ms fit b w q e u i h k [] a r (refusing X) o2 o z c (stable d) m
forth Γ s state ls ms fit t1 t2 t o1 o2 o (by_event {t = a} b w p e u i h k d) (at_rest {X = X} m) (of_first {c = r} z) c =
    take_first Γ s ls ms fit b w p e u i h k a [] r o1 (refusing X) o z c d (stable m)
forth Γ s state ls ms fit t1 t2 t o1 o2 o (by_event {t = a} b w p e u i h k d) (by_event {t = a2} f v q e2 u2 j l m n) (of_first {c = r} z) c =
    take_first Γ s ls ms fit b w p e u i h k a (e2 ∷ a2) r o1 o2 o z c d (viewed Γ s ms (e2 ∷ a2) o2 (by_event f v q e2 u2 j l m n))
forth Γ s state ls ms fit t1 t2 t o1 o2 o (by_event {t = a} b w p e u i h k d) (by_event {t = a2} f v q e2 u2 j l m n) (of_second {c = r} z) c =
    take_second Γ s ls ms fit f v q e2 u2 j l m (e ∷ a) a2 r o1 o2 o z c (viewed Γ s ls (e ∷ a) o1 (by_event b w p e u i h k d)) n
forth Γ s state ls ms fit t1 t2 t o1 o2 o (by_event {t = a} b w p e u i h k d) (by_event {t = a2} f v q e2 u2 j l m n) (unseen {c = r} same z) c =
    take_both Γ s state ls ms fit b w p f v q e e2 u u2 i j h l k m same a a2 r o1 o2 o z c d n

expanded_forth : (Γ : Environment) (s : Values) → IsState Γ s → (ls ms : Branches) → Fit Γ ls ms → (t : Trace) (o : Outcome)
    → Together (meaning (alt ls)) (meaning (alt ms)) Γ s t o → (meaning (alt (expanded ls ms))).does Γ s t o
expanded_forth Γ s state ls ms fit t o (together t1 t2 o1 o2 w c d1 d2) =
    forth Γ s state ls ms fit t1 t2 t o1 o2 o (view Γ s ls t1 o1 d1) (view Γ s ms t2 o2 d2) w c

-- ---- the law

fit_from : (Γ : Environment) (ls ms : Branches) → Keeps Γ (par (two (alt ls) (alt ms))) → Fit Γ ls ms
fit_from Γ ls ms k =
    let j = two_kept Γ (alt ls) (alt ms) k in
    record {
      first_kept = j.0;
      second_kept = j.1;
      first_writes = λ x h. (or_parts (free_in_branches ms x) false (j.2.first_writes x h)).0;
      second_writes = λ x h. j.2.second_writes x (or_left (written_in_branches ms x) false h);
    }

pub expand_sound : (Γ : Environment) (ks : List ℕ) (l r : Tree) → Keeps Γ l → ParExpand ks l r → SAME Γ l r
expand_sound Γ ks l r k (par_expand ls ms) =
    let fit = fit_from Γ ls ms k in
    same_at Γ (par (two (alt ls) (alt ms))) (alt (expanded ls ms)) (λ s state.
    record { forth = expanded_forth Γ s state ls ms fit; back = expanded_back Γ s state ls ms fit })
