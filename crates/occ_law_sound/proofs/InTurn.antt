-- SEQ of lists of parts: SEQ in SEQ, SKIP and STOP among the parts.
use Rattle.occ_law.specs.Sequence.{SeqFlat, SeqNone, SeqOne, SeqSkip, SeqStop, seq_flat, seq_none, seq_one, seq_skip, seq_stop}
use Rattle.occ_law.proofs.from_meaning.AssignedFirst.{then_skip_in, then_skip_out}
use Rattle.occ_law.proofs.from_meaning.Beside.{Gives, done, gives_itself, same_by}
use Rattle.occ_law.proofs.from_meaning.Sequence.{all_of_followed, followed_all_of, followed_gives, skip_followed, skip_goes_first}
use Rattle.occ_law.specs.occ_meaning.Parallel.{all_of, one}
use Rattle.occ_law.specs.occ_syntax.Meaning.{Followed, Meaning, Outcome, Stopped, ended, in_first, in_second, in_turn, meaning, never}
use Rattle.occ_law.specs.occ_syntax.Same.{SAME}
use Rattle.occ_law.specs.occ_syntax.Scopes.{Environment, Trace, Values}
use Rattle.occ_law.specs.occ_syntax.Tree.{Tree, Trees, and_tree, no_tree, seq, skip, stop}
use Rattle.std.proofs.Common.{List, ℕ}

pub none_sound : (Γ : Environment) (ks : List ℕ) (l r : Tree) → SeqNone ks l r → SAME Γ l r
none_sound Γ ks l r seq_none = same_by Γ (seq no_tree) skip (gives_itself Γ done) (gives_itself Γ done)

pub one_sound : (Γ : Environment) (ks : List ℕ) (l r : Tree) → SeqOne ks l r → SAME Γ l r
one_sound Γ ks l r (seq_one p) = same_by Γ (seq (one p)) p (record { gives = λ s t o d. then_skip_out (meaning p) Γ s t o d }) (record { gives = λ s t o d. then_skip_in (meaning p) Γ s t o d })

-- what is behind the same parts
behind : (Γ : Environment) (ps qs rs : Trees) → Gives Γ (in_turn qs) (in_turn rs) → Gives Γ (in_turn (all_of ps qs)) (in_turn (all_of ps rs))
behind Γ no_tree qs rs h = h
behind Γ (and_tree p ps) qs rs h = followed_gives Γ (meaning p) (meaning p) (in_turn (all_of ps qs)) (in_turn (all_of ps rs)) (gives_itself Γ (meaning p)) (behind Γ ps qs rs h)

seq_behind : (Γ : Environment) (ps qs rs : Trees) → Gives Γ (in_turn qs) (in_turn rs) → Gives Γ (in_turn rs) (in_turn qs)
    → SAME Γ (seq (all_of ps qs)) (seq (all_of ps rs))
seq_behind Γ ps qs rs h k = same_by Γ (seq (all_of ps qs)) (seq (all_of ps rs)) (behind Γ ps qs rs h) (behind Γ ps rs qs k)

pub flat_sound : (Γ : Environment) (ks : List ℕ) (l r : Tree) → SeqFlat ks l r → SAME Γ l r
flat_sound Γ ks l r (seq_flat ps qs rs) = seq_behind Γ ps (and_tree (seq qs) rs) (all_of qs rs) (followed_all_of Γ qs rs) (all_of_followed Γ qs rs)

pub skip_sound : (Γ : Environment) (ks : List ℕ) (l r : Tree) → SeqSkip ks l r → SAME Γ l r
skip_sound Γ ks l r (seq_skip ps qs) = seq_behind Γ ps (and_tree skip qs) qs (skip_followed Γ (in_turn qs)) (skip_goes_first Γ (in_turn qs))

no_end : (S : Type 0) (t : Trace) (s : Values) → Stopped t (ended s) → S
no_end S t s d = elim d [ ]

stopped_before : (m n : Meaning) (Γ : Environment) (s : Values) (t : Trace) (o : Outcome) → Followed never m Γ s t o → Followed never n Γ s t o
stopped_before m n Γ s t o (in_first d) = in_first d
stopped_before m n Γ s t o (in_second t1 t2 s1 e d1 d2) = no_end (Followed never n Γ s t o) t1 s1 d1

pub stop_sound : (Γ : Environment) (ks : List ℕ) (l r : Tree) → SeqStop ks l r → SAME Γ l r
stop_sound Γ ks l r (seq_stop ps qs) =
    seq_behind Γ ps (and_tree stop qs) (one stop)
    (record { gives = λ s t o d. stopped_before (in_turn qs) done Γ s t o d }) (record { gives = λ s t o d. stopped_before done (in_turn qs) Γ s t o d })
