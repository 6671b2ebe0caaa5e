-- Each law of the table has one right side at one place of a left side.
use Rattle.std.proofs.Common.{◌≡◌, ◌∙◌, ℕ, ◌==◌, nat_le, Bool, true, false, true≢false, MatchBool, List, ap, refl, sym}
use Rattle.std.proofs.lemmas.Bool.{eqb-true}
use Rattle.occ_law.specs.occ_base.declared.names.Name.{Name}
use Rattle.occ_law_sound.proofs.Choice.{alt_case_once, alt_false_once, alt_flat_once, alt_least_once, alt_none_once, alt_same_once}
use Rattle.occ_law_sound.proofs.Choice.{alt_skip_once, alt_slide_once, alt_split_once, alt_twice_once, if_cut_once, if_else_stop_once}
use Rattle.occ_law_sound.proofs.Choice.{if_false_once, if_merge_once, if_nest_once, if_none_once, if_swap_once, if_true_once}
use Rattle.occ_law_sound.proofs.Fronts.{IsOnce, Sides}
use Rattle.occ_law_sound.proofs.Parallel.{par_assign_once, par_expand_once, par_flat_once, par_if_once, par_none_once, par_one_once}
use Rattle.occ_law_sound.proofs.Parallel.{par_skip_once, par_stop_once}
use Rattle.occ_law_sound.proofs.Scope.{chan_alt_once, chan_if_once, chan_par_once, chan_seq_once, chan_swap_once, chan_unused_once}
use Rattle.occ_law_sound.proofs.Scope.{var_alt_once, var_any_once, var_assign_once, var_end_once, var_first_once, var_if_once}
use Rattle.occ_law_sound.proofs.Scope.{var_last_once, var_par_once, var_swap_once, var_unused_once}
use Rattle.occ_law_sound.proofs.Sequence.{assign_alt_once, assign_id_once, assign_if_once, assign_join_once, io_alt_once, seq_alt_once}
use Rattle.occ_law_sound.proofs.Sequence.{seq_flat_once, seq_if_once, seq_none_once, seq_one_once, seq_skip_once, seq_stop_once}
use Rattle.occ_law.specs.Choice.{ChoiceSides}
use Rattle.occ_law.specs.Parallel.{ParallelSides}
use Rattle.occ_law.specs.Scope.{ScopeSides}
use Rattle.occ_law.specs.Sequence.{SequenceSides}
use Rattle.occ_law.specs.RuleTable.{DIRECT_SIDES, SIDES, has_direct}
use Rattle.occ_law.specs.occ_syntax.declared.scope.Kind.{Kind}

-- two sides in either half of a table
by_half : (b : Bool) {D E : Sides} → (b ≡ true → IsOnce D) → (b ≡ false → IsOnce E) → IsOnce (λ ks l r. MatchBool b (D ks l r) (E ks l r))
by_half true f g ks js l m r s e h k = f refl ks js l m r s e h k
by_half false f g ks js l m r s e h k = g refl ks js l m r s e h k

-- the sides of the law of that number, and those of the laws further on
at_number : (n k : ℕ) {D E : Sides} → IsOnce D → IsOnce E → IsOnce (λ ks l r. MatchBool (n == k) (D ks l r) (E ks l r))
at_number n k f g = by_half (n == k) (λ h. f) (λ h. g)

-- the sides of another law
past : (n k : ℕ) (D : Sides) {E : Sides} → n == k ≡ false → IsOnce E → IsOnce (λ ks l r. MatchBool (n == k) (D ks l r) (E ks l r))
past n k D other g = by_half (n == k) (λ h. absurd (true≢false (sym h ∙ other))) (λ h. g)

-- a law that has direct results is none of those that have not
none_at : (n k : ℕ) (D : Sides) {E : Sides} → has_direct n ≡ true → has_direct k ≡ false → IsOnce E
    → IsOnce (λ ks l r. MatchBool (n == k) (D ks l r) (E ks l r))
none_at n k D some none g = by_half (n == k) (λ h. absurd (true≢false (sym some ∙ ap has_direct (eqb-true n k h) ∙ none))) (λ h. g)

no_sides : IsOnce (λ ks l r. ⊥)
no_sides ks js l m r s e h k = absurd h

sequence_once : (n : ℕ) (S : List (Name × Kind)) → has_direct n ≡ true → IsOnce (SequenceSides n S)
sequence_once n S d =
    at_number n 1 seq_none_once (at_number n 2 seq_one_once (at_number n 3 seq_flat_once (at_number n 4 seq_skip_once
    (at_number n 5 seq_stop_once (at_number n 6 assign_id_once (none_at n 7 _ d refl (none_at n 8 _ d refl (at_number n 9 assign_join_once
    (at_number n 10 assign_if_once (at_number n 11 assign_alt_once (at_number n 12 seq_if_once (at_number n 13 seq_alt_once
    (none_at n 14 _ d refl (at_number n 15 io_alt_once no_sides))))))))))))))

choice_once : (n : ℕ) (S : List (Name × Kind)) → has_direct n ≡ true → IsOnce (ChoiceSides n S)
choice_once n S d =
    at_number n 16 if_none_once (at_number n 17 (if_false_once S) (at_number n 18 (if_true_once S) (at_number n 19 if_else_stop_once
    (at_number n 20 (if_cut_once S) (at_number n 21 if_nest_once (at_number n 22 (if_swap_once S) (at_number n 23 if_merge_once
    (none_at n 24 _ d refl (none_at n 25 _ d refl (at_number n 26 alt_none_once (none_at n 27 _ d refl (at_number n 28 (alt_false_once S)
    (at_number n 29 alt_twice_once (at_number n 30 alt_skip_once (at_number n 31 alt_case_once (at_number n 32 alt_flat_once
    (at_number n 33 alt_split_once (at_number n 34 alt_same_once (at_number n 35 alt_slide_once (at_number n 36 alt_least_once
    no_sides))))))))))))))))))))

parallel_once : (n : ℕ) (S : List (Name × Kind)) → has_direct n ≡ true → IsOnce (ParallelSides n S)
parallel_once n S d =
    at_number n 37 par_none_once (at_number n 38 par_one_once (at_number n 39 par_flat_once (none_at n 40 _ d refl
    (at_number n 41 par_skip_once (at_number n 42 par_stop_once (at_number n 43 par_assign_once (at_number n 44 (par_if_once S)
    (at_number n 45 par_expand_once no_sides))))))))

scope_once : (n : ℕ) (S : List (Name × Kind)) → has_direct n ≡ true → n == 52 ≡ false → IsOnce (ScopeSides n S)
scope_once n S d not_alt =
    at_number n 46 var_unused_once (none_at n 47 _ d refl (at_number n 48 var_swap_once (at_number n 49 var_first_once
    (at_number n 50 var_last_once (at_number n 51 var_if_once (past n 52 _ not_alt (at_number n 53 var_par_once
    (at_number n 54 var_any_once (at_number n 55 var_assign_once (at_number n 56 var_end_once (at_number n 57 chan_unused_once
    (none_at n 58 _ d refl (at_number n 59 chan_swap_once (at_number n 60 chan_seq_once (at_number n 61 chan_if_once
    (at_number n 62 chan_alt_once (at_number n 63 chan_par_once no_sides)))))))))))))))))

sides_once : (n : ℕ) (S : List (Name × Kind)) → has_direct n ≡ true → n == 52 ≡ false → IsOnce (SIDES n S)
sides_once n S d not_alt =
    by_half (nat_le n 15) (λ h. sequence_once n S d) (λ h. by_half (nat_le n 36) (λ i. choice_once n S d)
    (λ i. by_half (nat_le n 45) (λ j. parallel_once n S d) (λ j. scope_once n S d not_alt)))

-- the sides from which direct results are taken
pub direct_sides_once : (n : ℕ) (S : List (Name × Kind)) → IsOnce (DIRECT_SIDES n S)
direct_sides_once n S =
    by_half (has_direct n) (λ d. by_half (n == 52) (λ h. var_alt_once) (λ h. sides_once n S d h)) (λ d. no_sides)
