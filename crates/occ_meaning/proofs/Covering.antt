-- What an ALT does, branch by branch: what each of its enabled branches does is done by another process.
use Rattle.occ_meaning.proofs.Members.{Among, all_branches, among_either, among_left, among_right, first_branch, goes_in, goes_out, later_branch, refuses_in, refuses_out}
use Rattle.occ_meaning.proofs.AtState.{AlikeAt}
use Rattle.occ_syntax.specs.Eval.{is_true}
use Rattle.occ_syntax.specs.Meaning.{Alternates, Meaning, Outcome, Taken, at_event, at_ready, guards, meaning, refusing, stable, taken}
use Rattle.occ_syntax.specs.Scopes.{Environment, EventSet, Trace, Values}
use Rattle.occ_syntax.specs.Tree.{Branches, Exp, Tree, Waiting, alt, and_branch, no_branch, ready, truth}
use Rattle.std.proofs.Common.{[], inl, inr, refl, true, ◌≡◌}

-- what a branch does, where it is enabled, is done by another process
pub record Covers (Γ : Environment) (s : Values) (m : Meaning) (e : Exp) (w : Waiting) (p : Tree) : Type 0 where
  pub covered : is_true Γ e s ≡ true → (t : Trace) (u : Values) (a : Trace) (o : Outcome) → Taken Γ s w t u a → (meaning p).does Γ u a o → m.does Γ s t o

pub record CoversEach (Γ : Environment) (s : Values) (m : Meaning) (bs : Branches) : Type 0 where
  pub each : (e : Exp) (w : Waiting) (p : Tree) → Among e w p bs → Covers Γ s m e w p

-- each branch of the first list is one of the second
pub record IsPart (bs ds : Branches) : Type 0 where
  pub there : (e : Exp) (w : Waiting) (p : Tree) → Among e w p bs → Among e w p ds

pub part_itself : (bs : Branches) → IsPart bs bs
part_itself bs = record { there = λ e w p i. i }

pub part_left : (bs cs : Branches) → IsPart bs (all_branches bs cs)
part_left bs cs = record { there = λ e w p i. among_left e w p bs cs i }

pub part_right : (bs cs : Branches) → IsPart cs (all_branches bs cs)
part_right bs cs = record { there = λ e w p i. among_right e w p bs cs i }

pub part_later : (f : Exp) (v : Waiting) (q : Tree) (bs : Branches) → IsPart bs (and_branch f v q bs)
part_later f v q bs = record { there = λ e w p i. later_branch i }

pub part_through : (bs cs ds : Branches) → IsPart bs cs → IsPart cs ds → IsPart bs ds
part_through bs cs ds h k = record { there = λ e w p i. k.there e w p (h.there e w p i) }

no_member : (S : Type 0) (e : Exp) (w : Waiting) (p : Tree) → Among e w p no_branch → S
no_member S e w p i = elim i [ ]

part_and_at : (f : Exp) (v : Waiting) (q : Tree) (bs ds : Branches) → Among f v q ds → IsPart bs ds → (e : Exp) (w : Waiting) (p : Tree)
    → Among e w p (and_branch f v q bs) → Among e w p ds
part_and_at f v q bs ds h k e w p first_branch = h
part_and_at f v q bs ds h k e w p (later_branch i) = k.there e w p i

pub part_and : (f : Exp) (v : Waiting) (q : Tree) (bs ds : Branches) → Among f v q ds → IsPart bs ds → IsPart (and_branch f v q bs) ds
part_and f v q bs ds h k = record { there = part_and_at f v q bs ds h k }

pub part_all : (bs cs ds : Branches) → IsPart bs ds → IsPart cs ds → IsPart (all_branches bs cs) ds
part_all bs cs ds h k = record { there = λ e w p i. elim (among_either e w p bs cs i) [ inl j ↦ h.there e w p j | inr j ↦ k.there e w p j ] }

-- ---- lists of branches that are covered

covers_and_at : (Γ : Environment) (s : Values) (m : Meaning) (f : Exp) (v : Waiting) (q : Tree) (bs : Branches) → Covers Γ s m f v q
    → CoversEach Γ s m bs → (e : Exp) (w : Waiting) (p : Tree) → Among e w p (and_branch f v q bs) → Covers Γ s m e w p
covers_and_at Γ s m f v q bs h k e w p first_branch = h
covers_and_at Γ s m f v q bs h k e w p (later_branch i) = k.each e w p i

pub covers_and : (Γ : Environment) (s : Values) (m : Meaning) (f : Exp) (v : Waiting) (q : Tree) (bs : Branches) → Covers Γ s m f v q
    → CoversEach Γ s m bs → CoversEach Γ s m (and_branch f v q bs)
covers_and Γ s m f v q bs h k = record { each = covers_and_at Γ s m f v q bs h k }

pub covers_all : (Γ : Environment) (s : Values) (m : Meaning) (bs cs : Branches) → CoversEach Γ s m bs → CoversEach Γ s m cs
    → CoversEach Γ s m (all_branches bs cs)
covers_all Γ s m bs cs h k = record { each = λ e w p i. elim (among_either e w p bs cs i) [ inl j ↦ h.each e w p j | inr j ↦ k.each e w p j ] }

pub covers_none : (Γ : Environment) (s : Values) (m : Meaning) → CoversEach Γ s m no_branch
covers_none Γ s m = record { each = λ e w p i. no_member (Covers Γ s m e w p) e w p i }

pub covers_member : (Γ : Environment) (s : Values) (ds : Branches) (e : Exp) (w : Waiting) (p : Tree) → Among e w p ds
    → Covers Γ s (meaning (alt ds)) e w p
covers_member Γ s ds e w p i = record { covered = λ h t u a o k d. taken (goes_in Γ s e w p ds i h t u a o k d) }

-- an ALT covers the branches that it has
pub covers_part : (Γ : Environment) (s : Values) (bs ds : Branches) → IsPart bs ds → CoversEach Γ s (meaning (alt ds)) bs
covers_part Γ s bs ds h = record { each = λ e w p i. covers_member Γ s ds e w p (h.there e w p i) }

-- ---- from branches to the whole

alternates_covered : (Γ : Environment) (s : Values) (bs : Branches) (m : Meaning)
    → ((X : EventSet) → (guards bs).refuses Γ s X → m.does Γ s [] (refusing X)) → CoversEach Γ s m bs
    → (t : Trace) (o : Outcome) → Alternates (guards bs) Γ s t o → m.does Γ s t o
alternates_covered Γ s bs m first each t o (stable {X = X} d) = first X d
alternates_covered Γ s bs m first each t o (taken d) =
    let g = goes_out Γ s bs t o d in
    (each.each g.condition g.guard g.process g.among_them).covered g.enabled t g.state g.rest o g.taken_by g.goes_on

-- an ALT does nothing that another process doesn't, where that one covers its branches and refuses what it refuses
pub alt_covered : (Γ : Environment) (s : Values) (bs : Branches) (m : Meaning)
    → ((X : EventSet) → (guards bs).refuses Γ s X → m.does Γ s [] (refusing X)) → CoversEach Γ s m bs
    → (t : Trace) (o : Outcome) → (meaning (alt bs)).does Γ s t o → m.does Γ s t o
alt_covered Γ s bs m first each t o d = alternates_covered Γ s bs m first each t o d

-- the branches that the second list has are refused with it
pub part_refused : (Γ : Environment) (s : Values) (bs ds : Branches) → IsPart bs ds → (X : EventSet) → (guards ds).refuses Γ s X
    → (guards bs).refuses Γ s X
part_refused Γ s bs ds h X d = refuses_in Γ s bs X (λ e w p i k. refuses_out Γ s X e w p ds d (h.there e w p i) k)

-- two ALTs that have the same branches are alike
pub parts_alike : (Γ : Environment) (s : Values) (bs ds : Branches) → IsPart bs ds → IsPart ds bs
    → AlikeAt Γ s s (meaning (alt bs)) (meaning (alt ds))
parts_alike Γ s bs ds h k = record {
  forth = alt_covered Γ s bs (meaning (alt ds)) (λ X d. stable (part_refused Γ s ds bs k X d)) (covers_part Γ s bs ds h);
  back = alt_covered Γ s ds (meaning (alt bs)) (λ X d. stable (part_refused Γ s bs ds h X d)) (covers_part Γ s ds bs k);
}

-- ---- branches with the guard TRUE & SKIP

pub by_skip : (Γ : Environment) (s : Values) (p : Tree) (ds : Branches) → Among (truth true) ready p ds → (t : Trace) (o : Outcome)
    → (meaning p).does Γ s t o → (meaning (alt ds)).does Γ s t o
by_skip Γ s p ds i t o d = taken (goes_in Γ s (truth true) ready p ds i refl t s t o at_ready d)

-- the branches of an ALT behind TRUE & SKIP are covered
pub covers_behind : (Γ : Environment) (s : Values) (hs ds : Branches) → Among (truth true) ready (alt hs) ds
    → CoversEach Γ s (meaning (alt ds)) hs
covers_behind Γ s hs ds i = record {
  each = λ e w p j. record { covered = λ h t u a o k d. by_skip Γ s (alt hs) ds i t o (taken (goes_in Γ s e w p hs j h t u a o k d)) };
}

ready_taken : (Γ : Environment) (s : Values) (m : Meaning) (t : Trace) (u : Values) (a : Trace) (o : Outcome) → Taken Γ s ready t u a
    → m.does Γ u a o → m.does Γ s t o
ready_taken Γ s m t u a o at_ready d = d
ready_taken Γ s m t u a o (at_event k) d = absurd k

-- a branch whose guard is SKIP does what its process does
pub covers_ready : (Γ : Environment) (s : Values) (m : Meaning) (e : Exp) (p : Tree)
    → ((t : Trace) (o : Outcome) → (meaning p).does Γ s t o → m.does Γ s t o) → Covers Γ s m e ready p
covers_ready Γ s m e p h = record { covered = λ i t u a o k d. h t o (ready_taken Γ s (meaning p) t u a o k d) }

-- an ALT with a branch TRUE & SKIP isn't stable
pub not_stable : (Γ : Environment) (s : Values) (S : Type 0) (p : Tree) (bs : Branches) → Among (truth true) ready p bs → (X : EventSet)
    → (guards bs).refuses Γ s X → S
not_stable Γ s S p bs i X d = absurd ((refuses_out Γ s X (truth true) ready p bs d i refl).not_ready refl)

-- ---- refusals of two lists in one

pub refused_all : (Γ : Environment) (s : Values) (bs cs : Branches) (X : EventSet) → (guards bs).refuses Γ s X → (guards cs).refuses Γ s X
    → (guards (all_branches bs cs)).refuses Γ s X
refused_all Γ s no_branch cs X d k = k
refused_all Γ s (and_branch e w p bs) cs X d k = (d.0, refused_all Γ s bs cs X d.1 k)
