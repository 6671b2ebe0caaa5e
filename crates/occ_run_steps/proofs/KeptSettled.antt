-- What a control tree comes to without a step keeps the rules that the tree keeps.
use Rattle.occ_meaning.specs.occ_base.declared.width.Width.{Width}
use Rattle.occ_meaning.specs.occ_base.Width.{bits_of}
use Rattle.occ_meaning.proofs.Facts.{and_three}
use Rattle.occ_run_steps.proofs.Less.{all_begun_less, all_settled_less, apart_less, begun_less, settled_less}
use Rattle.occ_run_steps.specs.Control.{Control, Controls, after, all_done, and_control, both, channel, done, local, no_control, unbegun}
use Rattle.occ_run_steps.specs.Kept.{IsApart, Kept, all_types_held, types_held}
use Rattle.occ_run_steps.specs.Settled.{all_settled, begun, begun_all, begun_choice, begun_turn, in_channel, in_variable, settled, side_by_side, then_turn}
use Rattle.occ_meaning.specs.occ_syntax.Eval.{is_true}
use Rattle.occ_meaning.specs.occ_syntax.Scopes.{Environment, Values, with_name, with_value}
use Rattle.occ_meaning.specs.occ_syntax.Tree.{Cases, Tree, Trees, alt, and_case, and_tree, assign, connect, declare, no_case, no_tree, par, receive, select, send, seq, skip, stop}
use Rattle.occ_meaning.specs.occ_syntax.Types.{all_types_kept, can_declare, cases_kept, input_kept, is_condition, output_kept, types_kept}
use Rattle.occ_meaning.specs.occ_syntax.Usage.{AllKeepUsage, AreSeparate, CasesKeepUsage, IsSeparate, KeepsUsage}
use Rattle.occ_meaning.specs.occ_syntax.declared.scope.Kind.TheVariants.{Chan, Var}
use Rattle.std.proofs.Common.{Bool, None, false, if◌then◌else◌, nat_lt, refl, true, ℕ, ◌&&◌, ◌^◌, ◌≡◌}
use Rattle.std.proofs.lemmas.Bool.{and_from, and_parts}

-- what is over keeps the rules
pub done_kept : (Γ : Environment) → Kept Γ done
done_kept Γ = record { types = refl; usage = tt }

-- a tree with processes behind it keeps the rules
pub kept_after : (Γ : Environment) (C : Control) (ps : Trees) → Kept Γ C → all_types_kept ps Γ ≡ true → AllKeepUsage ps → Kept Γ (after C ps)
kept_after Γ C ps h t u = record { types = and_from (types_held C Γ) (all_types_kept ps Γ) h.types t; usage = (h.usage, u) }

-- under a channel
pub kept_channel : (Γ : Environment) (c : ℕ) (w : Width) (C : Control) → can_declare Γ c w ≡ true → Kept (with_name Γ c (Chan w None)) C → Kept Γ (channel c w C)
kept_channel Γ c w C t h = record { types = and_from (can_declare Γ c w) (types_held C (with_name Γ c (Chan w None))) t h.types; usage = h.usage }

-- under a variable
pub kept_local : (Γ : Environment) (x : ℕ) (w : Width) (v : ℕ) (C : Control) → (can_declare Γ x w && nat_lt v (2 ^ bits_of w)) ≡ true
    → Kept (with_name Γ x (Var w)) C → Kept Γ (local x w v C)
kept_local Γ x w v C t h = record { types = and_from (can_declare Γ x w && nat_lt v (2 ^ bits_of w)) (types_held C (with_name Γ x (Var w))) t h.types; usage = h.usage }

then_kept : (Γ : Environment) (C : Control) (ps : Trees) (next : Control) → Kept Γ C → all_types_kept ps Γ ≡ true → AllKeepUsage ps → Kept Γ next
    → Kept Γ (then_turn C ps next)
then_kept Γ done ps next h t u k = k
then_kept Γ (unbegun p) ps next h t u k = kept_after Γ (unbegun p) ps h t u
then_kept Γ (after C qs) ps next h t u k = kept_after Γ (after C qs) ps h t u
then_kept Γ (both Cs) ps next h t u k = kept_after Γ (both Cs) ps h t u
then_kept Γ (local x w v C) ps next h t u k = kept_after Γ (local x w v C) ps h t u
then_kept Γ (channel c w C) ps next h t u k = kept_after Γ (channel c w C) ps h t u

either_kept : (Γ : Environment) (b : Bool) (C D : Control) → Kept Γ C → Kept Γ D → Kept Γ (if b then C else D)
either_kept Γ true C D h k = h
either_kept Γ false C D h k = k

in_channel_kept : (Γ : Environment) (c : ℕ) (w : Width) (C : Control) → Kept Γ (channel c w C) → Kept Γ (in_channel c w C)
in_channel_kept Γ c w done h = done_kept Γ
in_channel_kept Γ c w (unbegun p) h = h
in_channel_kept Γ c w (after C qs) h = h
in_channel_kept Γ c w (both Cs) h = h
in_channel_kept Γ c w (local y u n C) h = h
in_channel_kept Γ c w (channel b u C) h = h

in_variable_kept : (Γ : Environment) (x : ℕ) (w : Width) (v : ℕ) (C : Control) → Kept Γ (local x w v C) → Kept Γ (in_variable x w v C)
in_variable_kept Γ x w v done h = done_kept Γ
in_variable_kept Γ x w v (unbegun p) h = h
in_variable_kept Γ x w v (after C qs) h = h
in_variable_kept Γ x w v (both Cs) h = h
in_variable_kept Γ x w v (local y u n C) h = h
in_variable_kept Γ x w v (channel c u C) h = h

-- one more tree at once, apart from the others
pub kept_and : (Γ : Environment) (C : Control) (Cs : Controls) → Kept Γ C → Kept Γ (both Cs) → IsApart C (both Cs) → Kept Γ (both (and_control C Cs))
kept_and Γ C Cs h k apart = record {
  types = and_from (types_held C Γ) (all_types_held Cs Γ) h.types k.types;
  usage = ((h.usage, k.usage.0), (apart, k.usage.1));
}

-- the first of trees at once keeps the rules
pub first_kept : (Γ : Environment) (C : Control) (Cs : Controls) → Kept Γ (both (and_control C Cs)) → Kept Γ C
first_kept Γ C Cs h = record { types = (and_parts (types_held C Γ) (all_types_held Cs Γ) h.types).0; usage = h.usage.0.0 }

-- and so do the others
pub rest_kept : (Γ : Environment) (C : Control) (Cs : Controls) → Kept Γ (both (and_control C Cs)) → Kept Γ (both Cs)
rest_kept Γ C Cs h = record { types = (and_parts (types_held C Γ) (all_types_held Cs Γ) h.types).1; usage = (h.usage.0.1, h.usage.1.1) }

separate_apart : (p : Tree) (ps : Trees) → IsSeparate p (par ps) → IsApart (unbegun p) (unbegun (par ps))
separate_apart p ps h = record { first_writes = h.first_writes; second_writes = h.second_writes; ends = h.ends }

side_kept : (Γ : Environment) (Cs : Controls) → Kept Γ (both Cs) → Kept Γ (side_by_side Cs)
side_kept Γ Cs h = either_kept Γ (all_done Cs) done (both Cs) (done_kept Γ) h

mutual
  -- a process that keeps the rules begins as a tree that keeps them
  pub begun_kept : (Γ : Environment) (s : Values) (p : Tree) → types_kept p Γ ≡ true → KeepsUsage p → Kept Γ (begun Γ s p)
  begun_kept Γ s skip t u = done_kept Γ
  begun_kept Γ s stop t u = record { types = refl; usage = tt }
  begun_kept Γ s (assign xs es) t u = record { types = t; usage = tt }
  begun_kept Γ s (receive c x) t u = record { types = and_from (input_kept Γ c x && true) true (and_from (input_kept Γ c x) true t refl) refl; usage = (tt, tt) }
  begun_kept Γ s (send c e) t u = record { types = and_from (output_kept Γ c e && true) true (and_from (output_kept Γ c e) true t refl) refl; usage = (tt, tt) }
  begun_kept Γ s (seq ps) t u = turn_kept Γ s ps t u
  begun_kept Γ s (par ps) t u = side_kept Γ (begun_all Γ s ps) (all_begun_kept Γ s ps t u.0 u.1)
  begun_kept Γ s (select cs) t u = choice_kept Γ s cs t u
  begun_kept Γ s (alt bs) t u = record { types = t; usage = u }
  begun_kept Γ s (declare x w p) t u = record { types = t; usage = u }
  begun_kept Γ s (connect c w p) t u =
      let Δ : Environment = with_name Γ c (Chan w None) in
      let j = and_parts (can_declare Γ c w) (types_kept p Δ) t in
      in_channel_kept Γ c w (begun Δ s p) (kept_channel Γ c w (begun Δ s p) j.0 (begun_kept Δ s p j.1 u))

  turn_kept : (Γ : Environment) (s : Values) (ps : Trees) → all_types_kept ps Γ ≡ true → AllKeepUsage ps → Kept Γ (begun_turn Γ s ps)
  turn_kept Γ s no_tree t u = done_kept Γ
  turn_kept Γ s (and_tree p ps) t u =
      let j = and_parts (types_kept p Γ) (all_types_kept ps Γ) t in
      then_kept Γ (begun Γ s p) ps (begun_turn Γ s ps) (begun_kept Γ s p j.0 u.0) j.1 u.1 (turn_kept Γ s ps j.1 u.1)

  all_begun_kept : (Γ : Environment) (s : Values) (ps : Trees) → all_types_kept ps Γ ≡ true → AllKeepUsage ps → AreSeparate ps → Kept Γ (both (begun_all Γ s ps))
  all_begun_kept Γ s no_tree t u a = record { types = refl; usage = (tt, tt) }
  all_begun_kept Γ s (and_tree p ps) t u a =
      let j = and_parts (types_kept p Γ) (all_types_kept ps Γ) t in
      kept_and Γ (begun Γ s p) (begun_all Γ s ps) (begun_kept Γ s p j.0 u.0) (all_begun_kept Γ s ps j.1 u.1 a.1)
      (apart_less (begun Γ s p) (unbegun p) (both (begun_all Γ s ps)) (unbegun (par ps)) (begun_less Γ s p) (all_begun_less Γ s ps) (separate_apart p ps a.0))

  choice_kept : (Γ : Environment) (s : Values) (cs : Cases) → cases_kept cs Γ ≡ true → CasesKeepUsage cs → Kept Γ (begun_choice Γ s cs)
  choice_kept Γ s no_case t u = record { types = refl; usage = tt }
  choice_kept Γ s (and_case e p cs) t u =
      let j = and_three (is_condition Γ e) (types_kept p Γ) (cases_kept cs Γ) t in
      either_kept Γ (is_true Γ e s) (begun Γ s p) (begun_choice Γ s cs) (begun_kept Γ s p j.1 u.0) (choice_kept Γ s cs j.2 u.1)

mutual
  -- a tree that keeps the rules comes to one that keeps them
  pub settled_kept : (Γ : Environment) (s : Values) (C : Control) → Kept Γ C → Kept Γ (settled Γ s C)
  settled_kept Γ s done h = h
  settled_kept Γ s (unbegun p) h = begun_kept Γ s p h.types h.usage
  settled_kept Γ s (after C ps) h =
      let j = and_parts (types_held C Γ) (all_types_kept ps Γ) h.types in
      then_kept Γ (settled Γ s C) ps (begun_turn Γ s ps) (settled_kept Γ s C (record { types = j.0; usage = h.usage.0 })) j.1 h.usage.1
      (turn_kept Γ s ps j.1 h.usage.1)
  settled_kept Γ s (both Cs) h = either_kept Γ (all_done (all_settled Γ s Cs)) done (both (all_settled Γ s Cs)) (done_kept Γ) (all_settled_kept Γ s Cs h)
  settled_kept Γ s (local x w v C) h =
      let Δ : Environment = with_name Γ x (Var w) in
      let r : Values = with_value s x v in
      let j = and_parts (can_declare Γ x w && nat_lt v (2 ^ bits_of w)) (types_held C Δ) h.types in
      in_variable_kept Γ x w v (settled Δ r C) (kept_local Γ x w v (settled Δ r C) j.0 (settled_kept Δ r C (record { types = j.1; usage = h.usage })))
  settled_kept Γ s (channel c w C) h =
      let Δ : Environment = with_name Γ c (Chan w None) in
      let j = and_parts (can_declare Γ c w) (types_held C Δ) h.types in
      in_channel_kept Γ c w (settled Δ s C) (kept_channel Γ c w (settled Δ s C) j.0 (settled_kept Δ s C (record { types = j.1; usage = h.usage })))

  all_settled_kept : (Γ : Environment) (s : Values) (Cs : Controls) → Kept Γ (both Cs) → Kept Γ (both (all_settled Γ s Cs))
  all_settled_kept Γ s no_control h = h
  all_settled_kept Γ s (and_control C Cs) h =
      kept_and Γ (settled Γ s C) (all_settled Γ s Cs) (settled_kept Γ s C (first_kept Γ C Cs h)) (all_settled_kept Γ s Cs (rest_kept Γ C Cs h))
      (apart_less (settled Γ s C) C (both (all_settled Γ s Cs)) (both Cs) (settled_less Γ s C) (all_settled_less Γ s Cs) h.usage.1.0)
