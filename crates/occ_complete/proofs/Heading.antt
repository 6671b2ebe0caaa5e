-- Each part leads to a head.
use Rattle.std.proofs.Common.{arith, ◌≡◌, ◌∙◌, ◌≤◌, ℕ, true, ◌||◌, max, List, [], ◌∷◌, ◌++◌, None, refl, ap, sym}
use Rattle.occ_engine.specs.occ_base.declared.names.Name.{Name}
use Rattle.occ_complete_states.specs.occ_derive_moves.Weight.{heaviest_case, weight}
use Rattle.occ_complete.proofs.HeadsBeside.{parts_have_head}
use Rattle.occ_complete.proofs.Choices.{its_own}
use Rattle.occ_complete.proofs.Channels.{hidden_has_head}
use Rattle.occ_complete.proofs.Sequence.{first_has_head}
use Rattle.occ_complete.specs.Headed.{HasHead}
use Rattle.occ_complete_states.proofs.from_derive_laws.Holding as alternative
use Rattle.occ_complete_states.proofs.from_derive_laws.Choices.{else_spares}
use Rattle.occ_complete_states.proofs.from_derive_laws.Conditions.{less_few}
use Rattle.occ_complete_states.proofs.from_derive_laws.IfHolding.{law_else}
use Rattle.occ_complete.proofs.Beside.{none_is_skip, others_as_one, two_of}
use Rattle.occ_complete_states.proofs.from_derive_laws.Opened.{opened}
use Rattle.occ_complete_states.proofs.from_derive_laws.Using.{no_branch_used, nothing_used}
use Rattle.occ_complete_states.proofs.from_derive_laws.Exchanged.{input_law, input_spares, output_law, output_spares}
use Rattle.occ_complete_states.proofs.from_derive_laws.Turns.{first_keeps, none_law, none_spares, rest_keeps}
use Rattle.occ_complete_states.proofs.Leading.{law_spares, law_spares_back}
use Rattle.occ_complete_states.specs.Few.{AllFew, BranchesFew, CasesFew, IsFew}
use Rattle.occ_complete_states.specs.Heads.{assigns, chooses, declares, nothing, or_else, waits}
use Rattle.occ_complete_states.specs.Leads.{LeadsSparing}
use Rattle.occ_engine.specs.occ_law.Lists.{conditions}
use Rattle.occ_engine.proofs.from_script_lines.Scoping.{scope_kept-push}
use Rattle.occ_engine.specs.occ_syntax.declared.scope.Kind.{Kind}
use Rattle.occ_engine.specs.occ_syntax.declared.scope.Kind.TheVariants.{Chan}
use Rattle.occ_engine.specs.occ_syntax.Names.{names, some_names}
use Rattle.occ_engine.specs.occ_syntax.Scopes.{environment}
use Rattle.occ_engine.specs.occ_syntax.Tree.{Branches, Cases, Tree, Trees, alt, and_branch, and_case, and_tree, assign, connect, declare, input, no_branch, no_case, no_tree, output, par, receive, select, send, seq, skip, stop, truth}
use Rattle.occ_engine.specs.occ_syntax.Types.{scope_kept, types_kept}
use Rattle.occ_engine.specs.occ_syntax.Usage.{Keeps}
use Rattle.occ_engine.proofs.from_usage.Scoped.{environment-push}

-- ---- an IF, with a last choice that stops

no_more_named : (cs : Cases) (x : ℕ) → some_names (conditions (or_else cs stop)) x ≡ some_names (conditions cs) x
no_more_named no_case x = refl
no_more_named (and_case b p cs) x = ap (λ t. names b x || t) (no_more_named cs x)

with_stop_few : (S : List (Name × Kind)) (cs : Cases) → CasesFew S cs → CasesFew S (or_else cs stop)
with_stop_few S no_case few = (tt, tt)
with_stop_few S (and_case b p cs) few = (few.0, with_stop_few S cs few.1)

with_stop_weighs : (cs : Cases) → heaviest_case (or_else cs stop) ≤ max 1 (heaviest_case cs)
with_stop_weighs no_case = omega arith
with_stop_weighs (and_case b p cs) = let rest = with_stop_weighs cs in omega (arith, rest)

choice_has_head : (S : List (Name × Kind)) (cs : Cases) → Keeps (environment S) (select cs) → IsFew S (select cs) → HasHead S (select cs)
choice_has_head S cs k few = record {
  head = select (or_else cs stop);
  leads = law_spares_back S 19 (law_else S cs k) (else_spares cs);
  is = chooses cs stop;
  light = (let w = with_stop_weighs cs in omega (arith, w));
  few = (less_few S (conditions (or_else cs stop)) (conditions cs) few.0 (λ x h. sym (no_more_named cs x) ∙ h), with_stop_few S cs few.1);
}

-- ---- whatever there is

waiting_has_head : (S : List (Name × Kind)) (p : Tree) (gs : Branches) → LeadsSparing S p (alt gs) → weight (alt gs) ≤ weight p → BranchesFew S gs → HasHead S p
waiting_has_head S p gs a w few = record { head = alt gs; leads = a; is = waits gs; light = w; few = few }

mutual
  pub part_has_head : (S : List (Name × Kind)) (p : Tree) → scope_kept S ≡ true → Keeps (environment S) p → IsFew S p → HasHead S p
  part_has_head S skip h k few = its_own S skip nothing few
  part_has_head S stop h k few = waiting_has_head S stop no_branch (law_spares_back S 26 (alternative.none_law S) (no_branch_used stop)) (omega arith) tt
  part_has_head S (assign xs es) h k few = its_own S (assign xs es) (assigns xs es) few
  part_has_head S (receive c x) h k few =
      waiting_has_head S (receive c x) (and_branch (truth true) (input c x) skip no_branch) (law_spares S 15 (input_law S c x k) (input_spares c x)) (omega arith) (tt, tt)
  part_has_head S (send c e) h k few =
      waiting_has_head S (send c e) (and_branch (truth true) (output c e) skip no_branch) (law_spares S 15 (output_law S c e k) (output_spares c e)) (omega arith) (tt, tt)
  part_has_head S (seq ps) h k few = sequence_has_head S ps h k few
  part_has_head S (par ps) h k few = parallel_has_head S ps h k few
  part_has_head S (select cs) h k few = choice_has_head S cs k few
  part_has_head S (alt gs) h k few = its_own S (alt gs) (waits gs) few
  part_has_head S (declare x w p) h k few = its_own S (declare x w p) (declares x w p) few
  part_has_head S (connect c w p) h k few =
      let o = opened (environment S) c w (Chan w None) p k.types in
      hidden_has_head S c w p h k (part_has_head (S ++ (record { 0 = c }, Chan w None) ∷ []) p
      (scope_kept-push S (record { 0 = c }) (Chan w None) h o.new o.width)
      (record { types = ap (types_kept p) (environment-push S (record { 0 = c }) (Chan w None) o.new) ∙ o.types; usage = k.usage }) few)

  sequence_has_head : (S : List (Name × Kind)) (ps : Trees) → scope_kept S ≡ true → Keeps (environment S) (seq ps) → AllFew S ps → HasHead S (seq ps)
  sequence_has_head S no_tree h k few = record { head = skip; leads = law_spares S 1 (none_law S) none_spares; is = nothing; light = omega arith; few = tt }
  sequence_has_head S (and_tree p ps) h k few =
      first_has_head S p ps h k (part_has_head S p h (first_keeps (environment S) p ps k) few.0) few.1 (sequence_has_head S ps h (rest_keeps (environment S) p ps k) few.1)

  parallel_has_head : (S : List (Name × Kind)) (ps : Trees) → scope_kept S ≡ true → Keeps (environment S) (par ps) → AllFew S ps → HasHead S (par ps)
  parallel_has_head S no_tree h k few = record { head = skip; leads = law_spares S 37 (none_is_skip S) (nothing_used (par no_tree)); is = nothing; light = omega arith; few = tt }
  parallel_has_head S (and_tree p ps) h k few =
      let t = two_of (environment S) p (par ps) (others_as_one S p ps k).left in
      parts_have_head S p ps h k (part_has_head S p h (record { types = t.first; usage = t.first_usage }) few.0)
      (parallel_has_head S ps h (record { types = t.second; usage = t.second_usage }) few.1)
