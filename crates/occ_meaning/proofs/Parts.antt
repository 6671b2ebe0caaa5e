-- PAR of lists of parts: flat, in any order, with SKIP and STOP among them.
use Rattle.occ_meaning.proofs.Beside.{ChangeApart, Gives, apart_turned, beside_gives, beside_grouped, beside_skip, beside_stop, beside_turned, beside_ungrouped, done, gives_itself, gives_through, same_by, skip_added, skip_before, skip_beside, stop_added, stop_apart, then_stop}
use Rattle.occ_meaning.proofs.Frame.{part_value}
use Rattle.occ_meaning.proofs.Free.{not_written}
use Rattle.occ_meaning.proofs.Refusals.{parallel_shrinks, part_shrinks}
use Rattle.occ_meaning.specs.Parallel.{EachWritesApart, Reordered, WriteApart, all_of, as_they_are, behind_first, first_two, in_steps}
use Rattle.occ_syntax.specs.Meaning.{at_the_same_time, beside, meaning, never}
use Rattle.occ_syntax.specs.Names.{written, written_in_some}
use Rattle.occ_syntax.specs.Same.{SAME}
use Rattle.occ_syntax.specs.Scopes.{Environment}
use Rattle.occ_syntax.specs.Tree.{Tree, Trees, and_tree, no_tree, par, seq, skip, stop}
use Rattle.occ_syntax.specs.Types.{all_types_kept, types_kept}
use Rattle.occ_syntax.specs.Usage.{AreSeparate, IsSeparate}
use Rattle.std.proofs.Common.{Bool, ap, false, inl, inr, refl, subst, true, ℕ, ◌&&◌, ◌||◌, ◌∙◌, ◌≡◌, ◌⊎◌}
use Rattle.std.proofs.lemmas.Bool.{and_from, and_parts, cases_Bool, or_from, or_parts}

pub whole_beside : (Γ : Environment) (p : Tree) (ps : Trees) → Gives Γ (at_the_same_time (and_tree p ps)) (beside (meaning p) (at_the_same_time ps))
whole_beside Γ p no_tree = skip_added Γ (meaning p)
whole_beside Γ p (and_tree q qs) = gives_itself Γ (beside (meaning p) (at_the_same_time (and_tree q qs)))

pub beside_whole : (Γ : Environment) (p : Tree) (ps : Trees) → Gives Γ (beside (meaning p) (at_the_same_time ps)) (at_the_same_time (and_tree p ps))
beside_whole Γ p no_tree = beside_skip Γ (meaning p)
beside_whole Γ p (and_tree q qs) = gives_itself Γ (beside (meaning p) (at_the_same_time (and_tree q qs)))

pub all_of_beside : (Γ : Environment) (ps qs : Trees) → Gives Γ (at_the_same_time (all_of ps qs)) (beside (at_the_same_time ps) (at_the_same_time qs))
all_of_beside Γ no_tree qs = skip_before Γ (at_the_same_time qs)
all_of_beside Γ (and_tree p ps) qs =
    let one = meaning p in
    let some = at_the_same_time ps in
    let others = at_the_same_time qs in
    gives_through Γ (at_the_same_time (and_tree p (all_of ps qs))) (beside one (at_the_same_time (all_of ps qs))) (beside (at_the_same_time (and_tree p ps)) others) (whole_beside Γ p (all_of ps qs))
    (gives_through Γ (beside one (at_the_same_time (all_of ps qs))) (beside one (beside some others)) (beside (at_the_same_time (and_tree p ps)) others)
    (beside_gives Γ one one (at_the_same_time (all_of ps qs)) (beside some others) (gives_itself Γ one) (all_of_beside Γ ps qs))
    (gives_through Γ (beside one (beside some others)) (beside (beside one some) others) (beside (at_the_same_time (and_tree p ps)) others)
    (beside_ungrouped one some others (part_shrinks p) (parallel_shrinks ps) (parallel_shrinks qs) Γ)
    (beside_gives Γ (beside one some) (at_the_same_time (and_tree p ps)) others others (beside_whole Γ p ps) (gives_itself Γ others))))

pub beside_all_of : (Γ : Environment) (ps qs : Trees) → Gives Γ (beside (at_the_same_time ps) (at_the_same_time qs)) (at_the_same_time (all_of ps qs))
beside_all_of Γ no_tree qs = skip_beside Γ (at_the_same_time qs)
beside_all_of Γ (and_tree p ps) qs =
    let one = meaning p in
    let some = at_the_same_time ps in
    let others = at_the_same_time qs in
    gives_through Γ (beside (at_the_same_time (and_tree p ps)) others) (beside (beside one some) others) (at_the_same_time (and_tree p (all_of ps qs)))
    (beside_gives Γ (at_the_same_time (and_tree p ps)) (beside one some) others others (whole_beside Γ p ps) (gives_itself Γ others))
    (gives_through Γ (beside (beside one some) others) (beside one (beside some others)) (at_the_same_time (and_tree p (all_of ps qs)))
    (beside_grouped one some others (part_shrinks p) (parallel_shrinks ps) (parallel_shrinks qs) Γ)
    (gives_through Γ (beside one (beside some others)) (beside one (at_the_same_time (all_of ps qs))) (at_the_same_time (and_tree p (all_of ps qs)))
    (beside_gives Γ one one (beside some others) (at_the_same_time (all_of ps qs)) (gives_itself Γ one) (beside_all_of Γ ps qs))
    (beside_whole Γ p (all_of ps qs))))

-- a PAR in the place of a part: its parts stand in its place
flat_in : (Γ : Environment) (qs rs : Trees) → Gives Γ (at_the_same_time (and_tree (par qs) rs)) (at_the_same_time (all_of qs rs))
flat_in Γ qs rs = gives_through Γ (at_the_same_time (and_tree (par qs) rs)) (beside (at_the_same_time qs) (at_the_same_time rs)) (at_the_same_time (all_of qs rs)) (whole_beside Γ (par qs) rs) (beside_all_of Γ qs rs)

flat_out : (Γ : Environment) (qs rs : Trees) → Gives Γ (at_the_same_time (all_of qs rs)) (at_the_same_time (and_tree (par qs) rs))
flat_out Γ qs rs = gives_through Γ (at_the_same_time (all_of qs rs)) (beside (at_the_same_time qs) (at_the_same_time rs)) (at_the_same_time (and_tree (par qs) rs)) (all_of_beside Γ qs rs) (beside_whole Γ (par qs) rs)

-- what holds of the last parts holds behind others
pub behind : (Γ : Environment) (ps qs rs : Trees) → Gives Γ (at_the_same_time qs) (at_the_same_time rs)
    → Gives Γ (at_the_same_time (all_of ps qs)) (at_the_same_time (all_of ps rs))
behind Γ ps qs rs h =
    gives_through Γ (at_the_same_time (all_of ps qs)) (beside (at_the_same_time ps) (at_the_same_time qs)) (at_the_same_time (all_of ps rs)) (all_of_beside Γ ps qs)
    (gives_through Γ (beside (at_the_same_time ps) (at_the_same_time qs)) (beside (at_the_same_time ps) (at_the_same_time rs)) (at_the_same_time (all_of ps rs))
    (beside_gives Γ (at_the_same_time ps) (at_the_same_time ps) (at_the_same_time qs) (at_the_same_time rs) (gives_itself Γ (at_the_same_time ps)) h)
    (beside_all_of Γ ps rs))

pub par_flat : (Γ : Environment) (ps qs rs : Trees) → SAME Γ (par (all_of ps (and_tree (par qs) rs))) (par (all_of ps (all_of qs rs)))
par_flat Γ ps qs rs =
    same_by Γ (par (all_of ps (and_tree (par qs) rs))) (par (all_of ps (all_of qs rs)))
    (behind Γ ps (and_tree (par qs) rs) (all_of qs rs) (flat_in Γ qs rs)) (behind Γ ps (all_of qs rs) (and_tree (par qs) rs) (flat_out Γ qs rs))

-- ---- SKIP and STOP among the parts

skip_dropped : (Γ : Environment) (ps : Trees) → Gives Γ (at_the_same_time (and_tree skip ps)) (at_the_same_time ps)
skip_dropped Γ ps = gives_through Γ (at_the_same_time (and_tree skip ps)) (beside done (at_the_same_time ps)) (at_the_same_time ps) (whole_beside Γ skip ps) (skip_beside Γ (at_the_same_time ps))

skip_inserted : (Γ : Environment) (ps : Trees) → Gives Γ (at_the_same_time ps) (at_the_same_time (and_tree skip ps))
skip_inserted Γ ps = gives_through Γ (at_the_same_time ps) (beside done (at_the_same_time ps)) (at_the_same_time (and_tree skip ps)) (skip_before Γ (at_the_same_time ps)) (beside_whole Γ skip ps)

pub par_skip : (Γ : Environment) (ps qs : Trees) → SAME Γ (par (all_of ps (and_tree skip qs))) (par (all_of ps qs))
par_skip Γ ps qs = same_by Γ (par (all_of ps (and_tree skip qs))) (par (all_of ps qs)) (behind Γ ps (and_tree skip qs) qs (skip_dropped Γ qs)) (behind Γ ps qs (and_tree skip qs) (skip_inserted Γ qs))

pub par_stop : (Γ : Environment) (p : Tree) → SAME Γ (par (and_tree p (and_tree stop no_tree))) (seq (and_tree p (and_tree stop no_tree)))
par_stop Γ p =
    same_by Γ (par (and_tree p (and_tree stop no_tree))) (seq (and_tree p (and_tree stop no_tree)))
    (beside_stop Γ (meaning p) (part_shrinks p)) (stop_added Γ (meaning p) (part_shrinks p))

pub stop_par : (Γ : Environment) (p : Tree) → SAME Γ (par (and_tree stop (and_tree p no_tree))) (seq (and_tree p (and_tree stop no_tree)))
stop_par Γ p =
    let m = meaning p in
    same_by Γ (par (and_tree stop (and_tree p no_tree))) (seq (and_tree p (and_tree stop no_tree)))
    (gives_through Γ (beside never m) (beside m never) (then_stop m) (beside_turned Γ never m (apart_turned m never (stop_apart m))) (beside_stop Γ m (part_shrinks p)))
    (gives_through Γ (then_stop m) (beside m never) (beside never m) (stop_added Γ m (part_shrinks p)) (beside_turned Γ m never (stop_apart m)))

-- ---- in any order

pub written_apart : (p q : Tree) → IsSeparate p q → WriteApart p q
written_apart p q h x = elim (cases_Bool (written p x)) [ inl k ↦ inr (not_written q x (h.first_writes x k)) | inr k ↦ inl k ]

pub each_written_apart : (ps : Trees) → AreSeparate ps → EachWritesApart ps
each_written_apart no_tree h = tt
each_written_apart (and_tree p ps) h = (written_apart p (par ps) h.0, each_written_apart ps h.1)

pub change_apart : (Γ : Environment) (p q : Tree) → types_kept p Γ ≡ true → types_kept q Γ ≡ true → WriteApart p q
    → ChangeApart (meaning p) (meaning q)
change_apart Γ p q tp tq h = record { one_keeps = λ x. elim (h x) [ inl k ↦ inl (part_value p Γ tp x k) | inr k ↦ inr (part_value q Γ tq x k) ] }

pub par_turned : (Γ : Environment) (p q : Tree) → types_kept p Γ ≡ true → types_kept q Γ ≡ true → WriteApart p q
    → SAME Γ (par (and_tree p (and_tree q no_tree))) (par (and_tree q (and_tree p no_tree)))
par_turned Γ p q tp tq h =
    let apart = change_apart Γ p q tp tq h in
    same_by Γ (par (and_tree p (and_tree q no_tree))) (par (and_tree q (and_tree p no_tree))) (beside_turned Γ (meaning p) (meaning q) apart) (beside_turned Γ (meaning q) (meaning p) (apart_turned (meaning p) (meaning q) apart))

-- ---- what an order doesn't change

turn_and : (a b c : Bool) → (a && (b && c)) ≡ true → (b && (a && c)) ≡ true
turn_and a b c h = let k = and_parts a (b && c) h in let j = and_parts b c k.1 in and_from b (a && c) j.0 (and_from a c k.0 j.1)

pub types_reordered : (Γ : Environment) (ps qs : Trees) → Reordered ps qs → all_types_kept ps Γ ≡ true → all_types_kept qs Γ ≡ true
types_reordered Γ ps qs as_they_are h = h
types_reordered Γ ps qs (behind_first {p} {ps = us} {qs = vs} r) h = let k = and_parts (types_kept p Γ) (all_types_kept us Γ) h in and_from (types_kept p Γ) (all_types_kept vs Γ) k.0 (types_reordered Γ us vs r k.1)
types_reordered Γ ps qs (first_two {p} {q} {ps = us}) h = turn_and (types_kept p Γ) (types_kept q Γ) (all_types_kept us Γ) h
types_reordered Γ ps qs (in_steps {ps = us} {qs = vs} {rs = ws} r1 r2) h = types_reordered Γ vs ws r2 (types_reordered Γ us vs r1 h)

turn_or : (a b c : Bool) → (a || (b || c)) ≡ (b || (a || c))
turn_or true true c = refl
turn_or true false c = refl
turn_or false true c = refl
turn_or false false c = refl

pub written_reordered : (ps qs : Trees) → Reordered ps qs → (x : ℕ) → written_in_some ps x ≡ written_in_some qs x
written_reordered ps qs as_they_are x = refl
written_reordered ps qs (behind_first {p} {ps = us} {qs = vs} r) x = ap (λ b. written p x || b) (written_reordered us vs r x)
written_reordered ps qs (first_two {p} {q} {ps = us}) x = turn_or (written p x) (written q x) (written_in_some us x)
written_reordered ps qs (in_steps {ps = us} {qs = vs} {rs = ws} r1 r2) x = written_reordered us vs r1 x ∙ written_reordered vs ws r2 x

apart_of : (p q r : Bool) → (p ≡ false) ⊎ ((q || r) ≡ false) → ((p ≡ false) ⊎ (q ≡ false)) × ((p ≡ false) ⊎ (r ≡ false))
apart_of p q r h = elim h [ inl k ↦ (inl k, inl k) | inr k ↦ (inr (or_parts q r k).0, inr (or_parts q r k).1) ]

apart_from_both : (p q r : Bool) → (p ≡ false) ⊎ (q ≡ false) → (p ≡ false) ⊎ (r ≡ false) → (p ≡ false) ⊎ ((q || r) ≡ false)
apart_from_both p q r h k = elim h [ inl a ↦ inl a | inr a ↦ elim k [ inl b ↦ inl b | inr b ↦ inr (or_from q r a b) ] ]

other_way : {A B : Type 0} → A ⊎ B → B ⊎ A
other_way h = elim h [ inl a ↦ inr a | inr b ↦ inl b ]

pub apart_reordered : (ps qs : Trees) → Reordered ps qs → EachWritesApart ps → EachWritesApart qs
apart_reordered ps qs as_they_are h = h
apart_reordered ps qs (behind_first {p} {ps = us} {qs = vs} r) h =
    (λ x. (let P : Bool → Type 0 = λ b. (written p x ≡ false) ⊎ (b ≡ false) in subst P (written_reordered us vs r x) (h.0 x)), apart_reordered us vs r h.1)
apart_reordered ps qs (first_two {p} {q} {ps = us}) h = (
  λ x. apart_from_both (written q x) (written p x) (written_in_some us x) (other_way (apart_of (written p x) (written q x) (written_in_some us x) (h.0 x)).0) (h.1.0 x),
  (λ x. (apart_of (written p x) (written q x) (written_in_some us x) (h.0 x)).1, h.1.1),
)
apart_reordered ps qs (in_steps {ps = us} {qs = vs} {rs = ws} r1 r2) h = apart_reordered vs ws r2 (apart_reordered us vs r1 h)

pub reordered_back : (ps qs : Trees) → Reordered ps qs → Reordered qs ps
reordered_back ps qs as_they_are = as_they_are
reordered_back ps qs (behind_first {ps = us} {qs = vs} r) = behind_first (reordered_back us vs r)
reordered_back ps qs first_two = first_two
reordered_back ps qs (in_steps {ps = us} {qs = vs} {rs = ws} r1 r2) = in_steps (reordered_back vs ws r2) (reordered_back us vs r1)

first_two_gives : (Γ : Environment) (p q : Tree) (ps : Trees) → ChangeApart (meaning p) (meaning q)
    → Gives Γ (at_the_same_time (and_tree p (and_tree q ps))) (at_the_same_time (and_tree q (and_tree p ps)))
first_two_gives Γ p q ps apart =
    let one = meaning p in
    let two = meaning q in
    let rest = at_the_same_time ps in
    let from = at_the_same_time (and_tree p (and_tree q ps)) in
    let goal = at_the_same_time (and_tree q (and_tree p ps)) in
    gives_through Γ from (beside one (beside two rest)) goal
    (beside_gives Γ one one (at_the_same_time (and_tree q ps)) (beside two rest) (gives_itself Γ one) (whole_beside Γ q ps))
    (gives_through Γ (beside one (beside two rest)) (beside (beside one two) rest) goal (beside_ungrouped one two rest (part_shrinks p) (part_shrinks q) (parallel_shrinks ps) Γ)
    (gives_through Γ (beside (beside one two) rest) (beside (beside two one) rest) goal
    (beside_gives Γ (beside one two) (beside two one) rest rest (beside_turned Γ one two apart) (gives_itself Γ rest))
    (gives_through Γ (beside (beside two one) rest) (beside two (beside one rest)) goal (beside_grouped two one rest (part_shrinks q) (part_shrinks p) (parallel_shrinks ps) Γ)
    (beside_gives Γ two two (beside one rest) (at_the_same_time (and_tree p ps)) (gives_itself Γ two) (beside_whole Γ p ps)))))

pub reordered_gives : (Γ : Environment) (ps qs : Trees) → Reordered ps qs → all_types_kept ps Γ ≡ true → EachWritesApart ps
    → Gives Γ (at_the_same_time ps) (at_the_same_time qs)
reordered_gives Γ ps qs (as_they_are {ps = us}) t h = gives_itself Γ (at_the_same_time us)
reordered_gives Γ ps qs (behind_first {p} {ps = us} {qs = vs} r) t h =
    let k = and_parts (types_kept p Γ) (all_types_kept us Γ) t in
    behind Γ (and_tree p no_tree) us vs (reordered_gives Γ us vs r k.1 h.1)
reordered_gives Γ ps qs (first_two {p} {q} {ps = us}) t h =
    let k = and_parts (types_kept p Γ) (types_kept q Γ && all_types_kept us Γ) t in
    let j = and_parts (types_kept q Γ) (all_types_kept us Γ) k.1 in
    first_two_gives Γ p q us (change_apart Γ p q k.0 j.0 (λ x. (apart_of (written p x) (written q x) (written_in_some us x) (h.0 x)).0))
reordered_gives Γ ps qs (in_steps {ps = us} {qs = vs} {rs = ws} r1 r2) t h =
    gives_through Γ (at_the_same_time us) (at_the_same_time vs) (at_the_same_time ws) (reordered_gives Γ us vs r1 t h) (reordered_gives Γ vs ws r2 (types_reordered Γ us vs r1 t) (apart_reordered us vs r1 h))

pub par_reordered : (Γ : Environment) (ps qs : Trees) → Reordered ps qs → all_types_kept ps Γ ≡ true → EachWritesApart ps → SAME Γ (par ps) (par qs)
par_reordered Γ ps qs r t h =
    same_by Γ (par ps) (par qs) (reordered_gives Γ ps qs r t h) (reordered_gives Γ qs ps (reordered_back ps qs r) (types_reordered Γ ps qs r t) (apart_reordered ps qs r h))
