-- The laws of ALT.
use Rattle.occ_law.specs.occ_base.declared.names.Name.{Name}
use Rattle.occ_law.specs.Choice.{AltCase, AltFalse, AltFlat, AltLeast, AltNone, AltOrder, AltSame, AltSkip, AltSlide, AltSplit, AltTwice, alt_case, alt_false, alt_flat, alt_least, alt_none, alt_order, alt_same, alt_skip, alt_slide, alt_split, alt_twice, and_skip, has_skip, is_plain, is_ready}
use Rattle.occ_law.specs.Lists.{BranchesReordered, all_branches, behind_branch, branches_in_steps, same_branches, two_branches}
use Rattle.occ_law.proofs.from_meaning.Facts.{clash, false_not_true}
use Rattle.occ_law.proofs.from_meaning.Members.{Among, first_branch, later_branch}
use Rattle.occ_law.proofs.from_meaning.Settled.{chosen_second}
use Rattle.occ_law.proofs.from_meaning.AtState.{AlikeAt, alike_through, alike_turned, chosen_cases, chosen_true, same_at}
use Rattle.occ_law.proofs.from_meaning.Covering.{Covers, IsPart, alt_covered, by_skip, covers_all, covers_and, covers_behind, covers_member, covers_none, covers_part, covers_ready, not_stable, part_all, part_and, part_itself, part_later, part_left, part_refused, part_right, part_through, parts_alike, refused_all}
use Rattle.occ_law.specs.occ_syntax.Eval.{is_true}
use Rattle.occ_law.specs.occ_syntax.Meaning.{Alternates, IsQuiet, Meaning, Outcome, Stopped, chosen, guards, meaning, never, refusing, stable, stopped, taken}
use Rattle.occ_law.specs.occ_syntax.Same.{SAME}
use Rattle.occ_law.specs.occ_syntax.Scopes.{Environment, EventSet, Trace, Values, environment}
use Rattle.occ_law.specs.occ_syntax.Tree.{Branches, Exp, Tree, Waiting, alt, and_branch, and_case, complement, input, negation, no_branch, no_case, numeral, operation, output, ready, select, stop, truth, variable}
use Rattle.occ_law.specs.occ_syntax.declared.scope.Kind.{Kind}
use Rattle.std.proofs.Common.{Bool, List, MatchBool, [], ap, false, inl, inr, refl, subst, sym, true, ℕ, ◌&&◌, ◌∙◌, ◌≡◌, ◌⊎◌}
use Rattle.std.proofs.lemmas.Bool.{and_parts, or_cases}

none_forth : (Γ : Environment) (s : Values) (t : Trace) (o : Outcome) → Alternates (guards no_branch) Γ s t o → Stopped t o
none_forth Γ s t o (stable d) = stopped
none_forth Γ s t o (taken d) = absurd d

none_back : (Γ : Environment) (s : Values) (t : Trace) (o : Outcome) → Stopped t o → Alternates (guards no_branch) Γ s t o
none_back Γ s t o stopped = stable tt

pub none_sound : (Γ : Environment) (ks : List ℕ) (l r : Tree) → AltNone ks l r → SAME Γ l r
none_sound Γ ks l r alt_none = same_at Γ (alt no_branch) stop (λ s state. record { forth = none_forth Γ s; back = none_back Γ s })

-- ---- other orders

-- one branch more on both sides
part_behind : (b : Exp) (w : Waiting) (p : Tree) (gs hs : Branches) → IsPart gs hs → IsPart (and_branch b w p gs) (and_branch b w p hs)
part_behind b w p gs hs h = part_and b w p gs (and_branch b w p hs) first_branch (part_through gs hs (and_branch b w p hs) h (part_later b w p hs))

swapped_part : (b c : Exp) (v w : Waiting) (p q : Tree) (gs : Branches)
    → IsPart (and_branch b v p (and_branch c w q gs)) (and_branch c w q (and_branch b v p gs))
swapped_part b c v w p q gs =
    let ds : Branches = and_branch c w q (and_branch b v p gs) in
    part_and b v p (and_branch c w q gs) ds (later_branch first_branch)
    (part_and c w q gs ds first_branch (part_through gs (and_branch b v p gs) ds (part_later b v p gs) (part_later c w q (and_branch b v p gs))))

reordered_part : (gs hs : Branches) → BranchesReordered gs hs → IsPart gs hs
reordered_part gs hs same_branches = part_itself gs
reordered_part gs hs (behind_branch {b = b} {w = w} {p = p} {gs = ls} {hs = bs} k) = part_behind b w p ls bs (reordered_part ls bs k)
reordered_part gs hs (two_branches {b = b} {c = c} {v = v} {w = w} {p = p} {q = q} {gs = ls}) = swapped_part b c v w p q ls
reordered_part gs hs (branches_in_steps {gs = ls} {hs = bs} {ks = cs} k l) = part_through ls bs cs (reordered_part ls bs k) (reordered_part bs cs l)

part_reordered : (gs hs : Branches) → BranchesReordered gs hs → IsPart hs gs
part_reordered gs hs same_branches = part_itself gs
part_reordered gs hs (behind_branch {b = b} {w = w} {p = p} {gs = ls} {hs = bs} k) = part_behind b w p bs ls (part_reordered ls bs k)
part_reordered gs hs (two_branches {b = b} {c = c} {v = v} {w = w} {p = p} {q = q} {gs = ls}) = swapped_part c b w v q p ls
part_reordered gs hs (branches_in_steps {gs = ls} {hs = bs} {ks = cs} k l) = part_through cs bs ls (part_reordered bs cs l) (part_reordered ls bs k)

pub order_sound : (Γ : Environment) (ks : List ℕ) (l r : Tree) → AltOrder ks l r → SAME Γ l r
order_sound Γ ks l r (alt_order gs hs k) = same_at Γ (alt gs) (alt hs) (λ s state. parts_alike Γ s gs hs (reordered_part gs hs k) (part_reordered gs hs k))

-- ---- a branch that isn't enabled, or stands twice

-- the lists without a branch in the middle
less : (b : Exp) (w : Waiting) (p : Tree) (gs hs : Branches) → IsPart (all_branches gs hs) (all_branches gs (and_branch b w p hs))
less b w p gs hs =
    let ds : Branches = all_branches gs (and_branch b w p hs) in
    part_all gs hs ds (part_left gs (and_branch b w p hs))
    (part_through hs (and_branch b w p hs) ds (part_later b w p hs) (part_right gs (and_branch b w p hs)))

in_middle : (b : Exp) (w : Waiting) (p : Tree) (gs hs : Branches) → Among b w p (all_branches gs (and_branch b w p hs))
in_middle b w p gs hs = (part_right gs (and_branch b w p hs)).there b w p first_branch

covers_disabled : (Γ : Environment) (s : Values) (m : Meaning) (b : Exp) (w : Waiting) (p : Tree) → is_true Γ b s ≡ false → Covers Γ s m b w p
covers_disabled Γ s m b w p h = record { covered = λ i t u a o k d. clash (is_true Γ b s) i h }

-- an ALT and the same with one more branch, where that is not enabled
disabled_out : (Γ : Environment) (s : Values) (b : Exp) (w : Waiting) (p : Tree) (gs hs : Branches) → is_true Γ b s ≡ false
    → AlikeAt Γ s s (meaning (alt (all_branches gs (and_branch b w p hs)))) (meaning (alt (all_branches gs hs)))
disabled_out Γ s b w p gs hs h =
    let whole : Branches = all_branches gs (and_branch b w p hs) in
    let rest : Branches = all_branches gs hs in
    record {
      forth = alt_covered Γ s whole (meaning (alt rest)) (λ X d. stable (part_refused Γ s rest whole (less b w p gs hs) X d))
          (covers_all Γ s (meaning (alt rest)) gs (and_branch b w p hs) (covers_part Γ s gs rest (part_left gs hs))
          (covers_and Γ s (meaning (alt rest)) b w p hs (covers_disabled Γ s (meaning (alt rest)) b w p h) (covers_part Γ s hs rest (part_right gs hs))));
      back = alt_covered Γ s rest (meaning (alt whole)) (λ X d. stable (refused_all Γ s gs (and_branch b w p hs) X (part_refused Γ s gs rest (part_left gs hs) X d)
          (chosen_second (is_true Γ b s) (IsQuiet Γ s w X) (Unit {0}) h tt, part_refused Γ s hs rest (part_right gs hs) X d)))
          (covers_part Γ s rest whole (less b w p gs hs));
    }

pub false_sound : (S : List (Name × Kind)) (ks : List ℕ) (l r : Tree) → AltFalse S ks l r → SAME (environment S) l r
false_sound S ks l r (alt_false gs hs b w p few h) =
    same_at (environment S) (alt (all_branches gs (and_branch b w p hs))) (alt (all_branches gs hs)) (λ s state. disabled_out (environment S) s b w p gs hs (h s state))

-- what stands behind a branch in the middle is among them
behind_middle : (b : Exp) (w : Waiting) (p : Tree) (gs hs : Branches) → IsPart hs (all_branches gs (and_branch b w p hs))
behind_middle b w p gs hs =
    part_through hs (and_branch b w p hs) (all_branches gs (and_branch b w p hs)) (part_later b w p hs) (part_right gs (and_branch b w p hs))

pub twice_sound : (Γ : Environment) (ks : List ℕ) (l r : Tree) → AltTwice ks l r → SAME Γ l r
twice_sound Γ is l r (alt_twice gs hs ks b w p) =
    let more : Branches = all_branches hs (and_branch b w p ks) in
    let left : Branches = all_branches gs (and_branch b w p more) in
    let right : Branches = all_branches gs (and_branch b w p (all_branches hs ks)) in
    let rest : IsPart (all_branches hs ks) right = behind_middle b w p gs (all_branches hs ks) in
    same_at Γ (alt left) (alt right) (λ s state. parts_alike Γ s left right
    (part_all gs (and_branch b w p more) right (part_left gs (and_branch b w p (all_branches hs ks)))
    (part_and b w p more right (in_middle b w p gs (all_branches hs ks))
    (part_all hs (and_branch b w p ks) right (part_through hs (all_branches hs ks) right (part_left hs ks) rest)
    (part_and b w p ks right (in_middle b w p gs (all_branches hs ks)) (part_through ks (all_branches hs ks) right (part_right hs ks) rest)))))
    (part_all gs (and_branch b w p (all_branches hs ks)) left (part_left gs (and_branch b w p more))
    (part_and b w p (all_branches hs ks) left (in_middle b w p gs more)
    (part_through (all_branches hs ks) more left (less b w p hs ks) (behind_middle b w p gs more)))))

pub skip_sound : (Γ : Environment) (ks : List ℕ) (l r : Tree) → AltSkip ks l r → SAME Γ l r
skip_sound Γ ks l r (alt_skip p) = same_at Γ (alt (and_skip p no_branch)) p (λ s state. record {
  forth = alt_covered Γ s (and_skip p no_branch) (meaning p) (λ X d. not_stable Γ s ((meaning p).does Γ s [] (refusing X)) p (and_skip p no_branch) first_branch X d)
      (covers_and Γ s (meaning p) (truth true) ready p no_branch (covers_ready Γ s (meaning p) (truth true) p (λ t o d. d)) (covers_none Γ s (meaning p)));
  back = by_skip Γ s p (and_skip p no_branch) first_branch;
})

-- ---- by cases on a condition

-- a branch under another condition that is as true
other_condition : (Γ : Environment) (s : Values) (b c : Exp) (w : Waiting) (p : Tree) (gs hs : Branches) → is_true Γ b s ≡ is_true Γ c s
    → (t : Trace) (o : Outcome) → (meaning (alt (all_branches gs (and_branch b w p hs)))).does Γ s t o
    → (meaning (alt (all_branches gs (and_branch c w p hs)))).does Γ s t o
other_condition Γ s b c w p gs hs h =
    let left : Branches = all_branches gs (and_branch b w p hs) in
    let right : Branches = all_branches gs (and_branch c w p hs) in
    let m : Meaning = meaning (alt right) in
    alt_covered Γ s left m
    (λ X d. stable (refused_all Γ s gs (and_branch c w p hs) X (part_refused Γ s gs left (part_left gs (and_branch b w p hs)) X d)
    (let k = part_refused Γ s (and_branch b w p hs) left (part_right gs (and_branch b w p hs)) X d in
    let P : Bool → Type 0 = λ v. MatchBool v (IsQuiet Γ s w X) (Unit {0}) in (subst P h k.0, k.1))))
    (covers_all Γ s m gs (and_branch b w p hs) (covers_part Γ s gs right (part_left gs (and_branch c w p hs)))
    (covers_and Γ s m b w p hs
    (record { covered = λ i t u a o k d. (covers_member Γ s right c w p (in_middle c w p gs hs)).covered (sym h ∙ i) t u a o k d })
    (covers_part Γ s hs right (behind_middle c w p gs hs))))

pub case_sound : (Γ : Environment) (ks : List ℕ) (l r : Tree) → AltCase ks l r → SAME Γ l r
case_sound Γ ks l r (alt_case gs hs b w p) =
    let left : Tree = alt (all_branches gs (and_branch b w p hs)) in
    let sure : Tree = alt (all_branches gs (and_branch (truth true) w p hs)) in
    let rest : Tree = alt (all_branches gs hs) in
    let other : Meaning = meaning (select (and_case (truth true) rest no_case)) in
    same_at Γ left (select (and_case b sure (and_case (truth true) rest no_case))) (λ s state.
    alike_turned Γ s s (chosen b (meaning sure) other) (meaning left) (chosen_cases Γ s s b (meaning sure) other (meaning left)
    (λ i. record { forth = other_condition Γ s (truth true) b w p gs hs (sym i); back = other_condition Γ s b (truth true) w p gs hs i })
    (λ i. alike_through Γ s s s other (meaning rest) (meaning left) (chosen_true Γ s (truth true) (meaning rest) never refl)
    (alike_turned Γ s s (meaning left) (meaning rest) (disabled_out Γ s b w p gs hs i)))))

-- ---- SKIP guards

plain_is : (b : Exp) → is_plain b ≡ true → b ≡ truth true
plain_is (variable x) h = false_not_true h
plain_is (numeral bits value) h = false_not_true h
plain_is (truth b) h = ap truth h
plain_is (negation e) h = false_not_true h
plain_is (complement e) h = false_not_true h
plain_is (operation op left right) h = false_not_true h

ready_is : (w : Waiting) → is_ready w ≡ true → w ≡ ready
ready_is ready h = refl
ready_is (input c x) h = false_not_true h
ready_is (output c e) h = false_not_true h

pub record SkipAmong (hs : Branches) : Type 0 where
  pub process : Tree
  pub among_them : Among (truth true) ready process hs

skip_among : (hs : Branches) → has_skip hs ≡ true → SkipAmong hs
skip_among no_branch h = false_not_true h
skip_among (and_branch b w p hs) h = elim (or_cases (is_plain b && is_ready w) (has_skip hs) h) [
  | inl k ↦ (let j = and_parts (is_plain b) (is_ready w) k in
      let P : Exp → Type 0 = λ e. Among e ready p (and_branch b w p hs) in
      let Q : Waiting → Type 0 = λ v. Among b v p (and_branch b w p hs) in
      record { process = p; among_them = subst P (plain_is b j.0) (subst Q (ready_is w j.1) first_branch) })
  | inr k ↦ (let j = skip_among hs k in record { process = j.process; among_them = later_branch j.among_them })
]

pub flat_sound : (Γ : Environment) (ks : List ℕ) (l r : Tree) → AltFlat ks l r → SAME Γ l r
flat_sound Γ is l r (alt_flat gs hs ks h) =
    let left : Branches = all_branches gs (and_skip (alt hs) ks) in
    let right : Branches = all_branches gs (all_branches hs ks) in
    let m : Meaning = meaning (alt right) in
    let n : Meaning = meaning (alt left) in
    let there : Among (truth true) ready (alt hs) left = in_middle (truth true) ready (alt hs) gs ks in
    let inner : IsPart hs right = part_through hs (all_branches hs ks) right (part_left hs ks) (part_right gs (all_branches hs ks)) in
    let last : IsPart ks right = part_through ks (all_branches hs ks) right (part_right hs ks) (part_right gs (all_branches hs ks)) in
    let k = skip_among hs h in
    same_at Γ (alt left) (alt right) (λ s state. record {
      forth = alt_covered Γ s left m (λ X d. not_stable Γ s (m.does Γ s [] (refusing X)) (alt hs) left there X d)
          (covers_all Γ s m gs (and_skip (alt hs) ks) (covers_part Γ s gs right (part_left gs (all_branches hs ks)))
          (covers_and Γ s m (truth true) ready (alt hs) ks
          (covers_ready Γ s m (truth true) (alt hs) (alt_covered Γ s hs m (λ X d. not_stable Γ s (m.does Γ s [] (refusing X)) k.process hs k.among_them X d) (covers_part Γ s hs right inner)))
          (covers_part Γ s ks right last)));
      back = alt_covered Γ s right n (λ X d. not_stable Γ s (n.does Γ s [] (refusing X)) k.process right (inner.there (truth true) ready k.process k.among_them) X d)
          (covers_all Γ s n gs (all_branches hs ks) (covers_part Γ s gs left (part_left gs (and_skip (alt hs) ks)))
          (covers_all Γ s n hs ks (covers_behind Γ s hs left there) (covers_part Γ s ks left (behind_middle (truth true) ready (alt hs) gs ks))));
    })

pub split_sound : (Γ : Environment) (ks : List ℕ) (l r : Tree) → AltSplit ks l r → SAME Γ l r
split_sound Γ is l r (alt_split gs hs ks g p q e) =
    let one : Branches = and_branch (truth true) g q hs in
    let both : Branches = and_branch (truth true) g p one in
    let rest : Branches = and_skip (alt one) ks in
    let left : Branches = all_branches gs (and_branch (truth true) g p rest) in
    let right : Branches = all_branches gs (and_skip (alt both) ks) in
    let m : Meaning = meaning (alt right) in
    let n : Meaning = meaning (alt left) in
    let there : Among (truth true) ready (alt both) right = in_middle (truth true) ready (alt both) gs ks in
    let here : Among (truth true) ready (alt one) left = (behind_middle (truth true) g p gs rest).there (truth true) ready (alt one) first_branch in
    same_at Γ (alt left) (alt right) (λ s state. record {
      forth = alt_covered Γ s left m (λ X d. not_stable Γ s (m.does Γ s [] (refusing X)) (alt one) left here X d)
          (covers_all Γ s m gs (and_branch (truth true) g p rest) (covers_part Γ s gs right (part_left gs (and_skip (alt both) ks)))
          (covers_and Γ s m (truth true) g p rest ((covers_behind Γ s both right there).each (truth true) g p first_branch)
          (covers_and Γ s m (truth true) ready (alt one) ks
          (covers_ready Γ s m (truth true) (alt one) (alt_covered Γ s one m (λ X d. by_skip Γ s (alt both) right there [] (refusing X) (stable (d.0, d)))
          (record { each = λ f w z i. (covers_behind Γ s both right there).each f w z (later_branch i) })))
          (covers_part Γ s ks right (behind_middle (truth true) ready (alt both) gs ks)))));
      back = alt_covered Γ s right n (λ X d. not_stable Γ s (n.does Γ s [] (refusing X)) (alt both) right there X d)
          (covers_all Γ s n gs (and_skip (alt both) ks) (covers_part Γ s gs left (part_left gs (and_branch (truth true) g p rest)))
          (covers_and Γ s n (truth true) ready (alt both) ks
          (covers_ready Γ s n (truth true) (alt both) (alt_covered Γ s both n (λ X d. by_skip Γ s (alt one) left here [] (refusing X) (stable d.1))
          (covers_and Γ s n (truth true) g p one (covers_member Γ s left (truth true) g p (in_middle (truth true) g p gs rest)) (covers_behind Γ s one left here))))
          (covers_part Γ s ks left (part_through ks rest left (part_later (truth true) ready (alt one) ks) (behind_middle (truth true) g p gs rest)))));
    })

-- ---- one guard, two processes

-- an ALT of two processes behind TRUE & SKIP does what one of them does
either_way : (Γ : Environment) (u : Values) (p q : Tree) (a : Trace) (o : Outcome)
    → (meaning (alt (and_skip p (and_skip q no_branch)))).does Γ u a o → (meaning p).does Γ u a o ⊎ (meaning q).does Γ u a o
either_way Γ u p q a o d =
    let ways : Branches = and_skip p (and_skip q no_branch) in
    let m : Meaning = record { does = λ Δ v b w. (meaning p).does Δ v b w ⊎ (meaning q).does Δ v b w } in
    alt_covered Γ u ways m (λ X k. not_stable Γ u (m.does Γ u [] (refusing X)) p ways first_branch X k)
    (covers_and Γ u m (truth true) ready p (and_skip q no_branch) (covers_ready Γ u m (truth true) p (λ t z k. inl k))
    (covers_and Γ u m (truth true) ready q no_branch (covers_ready Γ u m (truth true) q (λ t z k. inr k)) (covers_none Γ u m))) a o d

pub same_guard_sound : (Γ : Environment) (ks : List ℕ) (l r : Tree) → AltSame ks l r → SAME Γ l r
same_guard_sound Γ is l r (alt_same gs hs ks b g p q e) =
    let two_ways : Branches = and_skip p (and_skip q no_branch) in
    let more : Branches = all_branches hs (and_branch b g q ks) in
    let left : Branches = all_branches gs (and_branch b g p more) in
    let right : Branches = all_branches gs (and_branch b g (alt two_ways) (all_branches hs ks)) in
    let m : Meaning = meaning (alt right) in
    let n : Meaning = meaning (alt left) in
    let there : Among b g (alt two_ways) right = in_middle b g (alt two_ways) gs (all_branches hs ks) in
    let first : Among b g p left = in_middle b g p gs more in
    let second : Among b g q left = (behind_middle b g p gs more).there b g q (in_middle b g q hs ks) in
    let rest : IsPart (all_branches hs ks) right = behind_middle b g (alt two_ways) gs (all_branches hs ks) in
    same_at Γ (alt left) (alt right) (λ s state. record {
      forth = alt_covered Γ s left m (λ X d. stable (both_refused Γ s b g p q gs hs ks X d))
          (covers_all Γ s m gs (and_branch b g p more) (covers_part Γ s gs right (part_left gs (and_branch b g (alt two_ways) (all_branches hs ks))))
          (covers_and Γ s m b g p more (covers_one_way Γ s right b g p two_ways there first_branch)
          (covers_all Γ s m hs (and_branch b g q ks) (covers_part Γ s hs right (part_through hs (all_branches hs ks) right (part_left hs ks) rest))
          (covers_and Γ s m b g q ks (covers_one_way Γ s right b g q two_ways there (later_branch first_branch))
          (covers_part Γ s ks right (part_through ks (all_branches hs ks) right (part_right hs ks) rest))))));
      back = alt_covered Γ s right n (λ X d. stable (one_refused Γ s b g p q gs hs ks X d))
          (covers_all Γ s n gs (and_branch b g (alt two_ways) (all_branches hs ks)) (covers_part Γ s gs left (part_left gs (and_branch b g p more)))
          (covers_and Γ s n b g (alt two_ways) (all_branches hs ks) (covers_both_ways Γ s left b g p q first second)
          (covers_part Γ s (all_branches hs ks) left (part_through (all_branches hs ks) more left (less b g q hs ks) (behind_middle b g p gs more)))));
    })
  where
    both_refused : (Γ : Environment) (s : Values) (b : Exp) (g : Waiting) (p q : Tree) (gs hs ks : Branches) (X : EventSet)
        → (guards (all_branches gs (and_branch b g p (all_branches hs (and_branch b g q ks))))).refuses Γ s X
        → (guards (all_branches gs (and_branch b g (alt (and_skip p (and_skip q no_branch))) (all_branches hs ks)))).refuses Γ s X
    both_refused Γ s b g p q gs hs ks X d =
        let more : Branches = all_branches hs (and_branch b g q ks) in
        let left : Branches = all_branches gs (and_branch b g p more) in
        let k = part_refused Γ s (and_branch b g p more) left (part_right gs (and_branch b g p more)) X d in
        refused_all Γ s gs (and_branch b g (alt (and_skip p (and_skip q no_branch))) (all_branches hs ks)) X (part_refused Γ s gs left (part_left gs (and_branch b g p more)) X d)
        (k.0, part_refused Γ s (all_branches hs ks) more (less b g q hs ks) X k.1)

    one_refused : (Γ : Environment) (s : Values) (b : Exp) (g : Waiting) (p q : Tree) (gs hs ks : Branches) (X : EventSet)
        → (guards (all_branches gs (and_branch b g (alt (and_skip p (and_skip q no_branch))) (all_branches hs ks)))).refuses Γ s X
        → (guards (all_branches gs (and_branch b g p (all_branches hs (and_branch b g q ks))))).refuses Γ s X
    one_refused Γ s b g p q gs hs ks X d =
        let tail : Branches = and_branch b g (alt (and_skip p (and_skip q no_branch))) (all_branches hs ks) in
        let k = part_refused Γ s tail (all_branches gs tail) (part_right gs tail) X d in
        refused_all Γ s gs (and_branch b g p (all_branches hs (and_branch b g q ks))) X (part_refused Γ s gs (all_branches gs tail) (part_left gs tail) X d) (
          k.0,
          refused_all Γ s hs (and_branch b g q ks) X (part_refused Γ s hs (all_branches hs ks) (part_left hs ks) X k.1)
              (k.0, part_refused Γ s ks (all_branches hs ks) (part_right hs ks) X k.1),
        )

    covers_one_way : (Γ : Environment) (s : Values) (ds : Branches) (b : Exp) (g : Waiting) (p : Tree) (ways : Branches) → Among b g (alt ways) ds
        → Among (truth true) ready p ways → Covers Γ s (meaning (alt ds)) b g p
    covers_one_way Γ s ds b g p ways i j = record {
      covered = λ h t u a o k d. (covers_member Γ s ds b g (alt ways) i).covered h t u a o k (by_skip Γ u p ways j a o d);
    }

    covers_both_ways : (Γ : Environment) (s : Values) (ds : Branches) (b : Exp) (g : Waiting) (p q : Tree) → Among b g p ds → Among b g q ds
        → Covers Γ s (meaning (alt ds)) b g (alt (and_skip p (and_skip q no_branch)))
    covers_both_ways Γ s ds b g p q i j = record {
      covered = λ h t u a o k d. elim (either_way Γ u p q a o d) [
        | inl z ↦ (covers_member Γ s ds b g p i).covered h t u a o k z
        | inr z ↦ (covers_member Γ s ds b g q j).covered h t u a o k z
      ];
    }

-- ---- more to choose from

pub slide_sound : (Γ : Environment) (ks : List ℕ) (l r : Tree) → AltSlide ks l r → SAME Γ l r
slide_sound Γ ks l r (alt_slide gs hs e) =
    let right : Branches = all_branches gs hs in
    let left : Branches = all_branches gs (and_skip (alt right) no_branch) in
    let m : Meaning = meaning (alt right) in
    let there : Among (truth true) ready (alt right) left = in_middle (truth true) ready (alt right) gs no_branch in
    same_at Γ (alt left) (alt right) (λ s state. record {
      forth = alt_covered Γ s left m (λ X d. not_stable Γ s (m.does Γ s [] (refusing X)) (alt right) left there X d)
          (covers_all Γ s m gs (and_skip (alt right) no_branch) (covers_part Γ s gs right (part_left gs hs))
          (covers_and Γ s m (truth true) ready (alt right) no_branch (covers_ready Γ s m (truth true) (alt right) (λ t o d. d)) (covers_none Γ s m)));
      back = by_skip Γ s (alt right) left there;
    })

pub least_sound : (Γ : Environment) (ks : List ℕ) (l r : Tree) → AltLeast ks l r → SAME Γ l r
least_sound Γ ks l r (alt_least gs hs e f) =
    let more : Branches = all_branches gs hs in
    let left : Branches = and_skip (alt gs) (and_skip (alt more) no_branch) in
    let right : Branches = all_branches hs (and_skip (alt gs) no_branch) in
    let m : Meaning = meaning (alt right) in
    let n : Meaning = meaning (alt left) in
    let there : Among (truth true) ready (alt gs) right = in_middle (truth true) ready (alt gs) hs no_branch in
    same_at Γ (alt left) (alt right) (λ s state. record {
      forth = alt_covered Γ s left m (λ X d. not_stable Γ s (m.does Γ s [] (refusing X)) (alt gs) left first_branch X d)
          (covers_and Γ s m (truth true) ready (alt gs) (and_skip (alt more) no_branch) (covers_ready Γ s m (truth true) (alt gs) (by_skip Γ s (alt gs) right there))
          (covers_and Γ s m (truth true) ready (alt more) no_branch
          (covers_ready Γ s m (truth true) (alt more) (alt_covered Γ s more m
          (λ X d. by_skip Γ s (alt gs) right there [] (refusing X) (stable (part_refused Γ s gs more (part_left gs hs) X d)))
          (covers_all Γ s m gs hs (covers_behind Γ s gs right there) (covers_part Γ s hs right (part_left hs (and_skip (alt gs) no_branch))))))
          (covers_none Γ s m)));
      back = alt_covered Γ s right n (λ X d. not_stable Γ s (n.does Γ s [] (refusing X)) (alt gs) right there X d)
          (covers_all Γ s n hs (and_skip (alt gs) no_branch)
          (record { each = λ b w p i. (covers_behind Γ s more left (later_branch first_branch)).each b w p ((part_right gs hs).there b w p i) })
          (covers_and Γ s n (truth true) ready (alt gs) no_branch (covers_ready Γ s n (truth true) (alt gs) (by_skip Γ s (alt gs) left first_branch)) (covers_none Γ s n)));
    })
