-- The steps that are read are those of a derivation.
use Rattle.std.proofs.Common.{◌≡◌, ℕ, suc, ◌<◌, ◌≤◌, true, List, [], ◌∷◌, length, map, refl, ap, sym, ◌∙◌, subst}
use Rattle.std.specs.Option.{option_map}
use Rattle.std.specs.List.{AllByRecursion}
use Rattle.occ_script_write.specs.occ_base.declared.names.Name.{Name}
use Rattle.occ_replay_rules.specs.Moves.{IsMove, Move, Moves, and_move, no_move}
use Rattle.occ_script_write.proofs.from_meaning.Places.{part_keeps, put_scope, put_there}
use Rattle.occ_script_write.specs.occ_meaning.Context.{part_at, put}
use Rattle.occ_script.specs.occ_parse_part.Resolving.{part_fault, part_process}
use Rattle.occ_script.specs.occ_parse_part.Shown.{part_of}
use Rattle.occ_print_back.specs.occ_parse_rules.Places.{Place}
use Rattle.occ_script_write.specs.occ_print.Known.{PartIsKnown}
use Rattle.occ_print_back.specs.Placed.{IsTable}
use Rattle.occ_script_back.specs.Part.{IsPrintablePart}
use Rattle.occ_replay_rules.specs.Replays.{IsDerivation}
use Rattle.occ_replay_rules.specs.Steps.{Derives, IsGoodStep, Joins, and_step, no_step}
use Rattle.occ_script.specs.declared.script.Script.{Script}
use Rattle.occ_script.specs.declared.script.Step.{Step as Read}
use Rattle.occ_script_back.specs.Joined.{AreNamedSteps, AreWrittenMoves, move_of, number_of, step_of}
use Rattle.occ_script_back.proofs.Known.{put_known, scope_known}
use Rattle.occ_script_write.proofs.from_script_lines.Scoping.{scopes}
use Rattle.occ_script_write.specs.occ_script_lines.Places.{scope_list}
use Rattle.occ_script_write.specs.declared.writing.Done.{Done}
use Rattle.occ_script_back.specs.Programs.{IsProgramOf}
use Rattle.occ_script_back.specs.Reads.{AreStepsOf, IsStepOf, Resolves}
use Rattle.occ_script_back.specs.Whole.{IsScriptOf}
use Rattle.occ_script_write.specs.occ_syntax.declared.scope.Kind.{Kind}
use Rattle.occ_script_write.specs.occ_syntax.declared.scope.Program.{Program}
use Rattle.occ_script_write.specs.occ_syntax.Counts.{bits_of_scope, controls, most_bits}
use Rattle.occ_script_write.specs.occ_syntax.Scopes.{environment}
use Rattle.occ_script_write.specs.occ_syntax.Tree.{Tree}
use Rattle.occ_script_write.specs.occ_syntax.Types.{scope_kept, types_kept}
use Rattle.occ_script_write.specs.occ_syntax.Usage.{Keeps}
use Rattle.occ_script_write.specs.occ_syntax.View.{tree}
use Rattle.occ_script_write.specs.occ_usage.Accepted.{IsAccepted}

pub same_move : (x y : Move) (xs ys : List Move) → x ∷ xs ≡ y ∷ ys → x ≡ y
same_move x y xs ys e = cc

pub same_moves : (x y : Move) (xs ys : List Move) → x ∷ xs ≡ y ∷ ys → xs ≡ ys
same_moves x y xs ys e = cc

module _ (names : List (List ℕ)) (P : ℕ → Place) (table : IsTable names P) (S : List (Name × Kind)) (kept : scope_kept S ≡ true)
    (S_known : AllByRecursion (λ (p : Name × Kind). p.0.0 < length names) S) where
  -- the part of a move can be printed in the scope at its path
  pub part_printable : (p : Tree) (move : Move) → Keeps (environment S) p → PartIsKnown (length names) p → IsMove S p move → PartIsKnown (length names) move.part
      → IsPrintablePart names P (scope_list move.path S p) move.part
  part_printable p move k known m part_known =
      let Γ = environment S in
      let s = scopes move.path S p kept k.types in
      let there = part_keeps move.path Γ (put move.path p move.part) move.part m.admitted.keeps (put_there move.path p m.old move.part m.there) in
      let here = subst (λ Δ. Keeps Δ move.part) (put_scope move.path Γ p m.old move.part m.there ∙ sym s.gives) there in
      record {
        table = table;
        known = part_known;
        scope_known = scope_known (length names) move.path S p S_known known;
        scope_kept_is = s.kept;
        types = here.types;
      }

  -- a step that is read is good where the one that was written is a move
  good : (p : Tree) (done : Done) (s : Read) → Keeps (environment S) p → PartIsKnown (length names) p → IsMove S p (move_of done) → PartIsKnown (length names) (tree done.part)
      → IsStepOf names P done s → (IsGoodStep S p (step_of s)) × (part_process (part_of s.part) (scope_list s.path S p) ≡ tree done.part)
  good p done s k known m part_known is =
      let move = move_of done in
      let r : Resolves (scope_list done.path S p) done s = is.resolves (scope_list done.path S p) (part_printable p move k known m part_known) in
      let scope : scope_list s.path S p ≡ scope_list done.path S p = ap (λ path. scope_list path S p) is.path in
      let same : part_process (part_of s.part) (scope_list s.path S p) ≡ tree done.part = ap (part_process (part_of s.part)) scope ∙ r.stands in
      let whole : put s.path p (part_process (part_of s.part) (scope_list s.path S p)) ≡ put done.path p (tree done.part) = (λ i. put (is.path i) p (same i)) in (
        record {
          law = done.law.0;
          named = ap (option_map number_of) is.law;
          old = m.old;
          there = ap (λ path. part_at path p) is.path ∙ m.there;
          acceptable = record {
            faultless = ap (part_fault (part_of s.part)) scope ∙ r.faultless;
            keeps = subst (Keeps (environment S)) (sym whole) m.admitted.keeps;
          };
          joins = subst (λ dir. Joins dir done.law.0 (scope_list s.path S p) m.old (part_process (part_of s.part) (scope_list s.path S p))) (sym is.dir)
              (subst (λ new. Joins done.dir done.law.0 (scope_list s.path S p) m.old new) (sym same)
              (subst (λ T. Joins done.dir done.law.0 T m.old (tree done.part)) (sym scope) m.joins));
        },
        same,
      )

  derives : (p q : Tree) (dones : List Done) (steps : List Read) {moves : List Move} → Moves S p moves q → moves ≡ map move_of dones → Keeps (environment S) p
      → PartIsKnown (length names) p → AreNamedSteps (length names) dones → AreStepsOf names P dones steps → Derives S p (map step_of steps) q
  derives p q [] [] (no_move a) e k known h is = no_step a
  derives p q [] (s ∷ steps) m e k known h is = absurd is
  derives p q (d ∷ dones) [] m e k known h is = absurd is
  derives p q (d ∷ dones) (s ∷ steps) (no_move a) e k known h is = absurd (cc)
  derives p q [] [] (and_move a b move moves m more) e k known h is = absurd (cc)
  derives p q (d ∷ dones) (s ∷ steps) (and_move a b move moves m more) e k known h is =
      let first : move ≡ move_of d = same_move move (move_of d) moves (map move_of dones) e in
      let rest : moves ≡ map move_of dones = same_moves move (move_of d) moves (map move_of dones) e in
      let one : IsMove S a (move_of d) = subst (IsMove S a) first m in
      let g = good a d s k known one h.0.known is.0 in
      let next : put move.path a move.part ≡ put s.path a (part_process (part_of s.part) (scope_list s.path S a)) =
      ap (λ (o : Move). put o.path a o.part) first ∙ sym (λ i. put (is.0.path i) a (g.1 i)) in
      let after = put move.path a move.part in
      let later = derives after b dones steps more rest m.admitted.keeps
      (put_known (length names) move.path a move.part known (subst (λ (o : Move). PartIsKnown (length names) o.part) (sym first) h.0.known)) h.1 is.1 in
      and_step a b (step_of s) (map step_of steps) g.0 (subst (λ t. Derives S t (map step_of steps) b) next later)

-- as many steps are read as were written
pub as_many : (names : List (List ℕ)) (P : ℕ → Place) (dones : List Done) (steps : List Read) → AreStepsOf names P dones steps → length steps ≡ length dones
as_many names P [] [] h = refl
as_many names P [] (s ∷ steps) h = absurd h
as_many names P (d ∷ dones) [] h = absurd h
as_many names P (d ∷ dones) (s ∷ steps) h = ap suc (as_many names P dones steps h.1)

pub accepted_also : (from other : Program) → IsProgramOf from other → IsAccepted from → IsAccepted other
accepted_also from other is a =
    let t = a.typed in
    record {
      typed = record {
        scope = ap scope_kept is.params ∙ t.scope;
        types = (λ i. types_kept (is.body i) (environment (is.params i))) ∙ t.types;
        controls = subst (λ p. controls p ≤ 4096) (sym is.body) t.controls;
        parameters = subst (λ (ps : List (Name × Kind)). length ps ≤ 16) (sym is.params) t.parameters;
        interface = subst (λ ps. bits_of_scope ps ≤ 16) (sym is.params) t.interface;
        state = subst (λ p. most_bits p (bits_of_scope other.params) ≤ 24) (sym is.body) (subst (λ ps. most_bits (tree from.body) (bits_of_scope ps) ≤ 24) (sym is.params) t.state);
      };
      keeps = subst (λ p. Keeps (environment other.params) p) (sym is.body) (subst (λ ps. Keeps (environment ps) (tree from.body)) (sym is.params) a.keeps);
    }

pub joined : (names : List (List ℕ)) (P : ℕ → Place) (from to : Program) (steps : List Done) (new : List (List ℕ)) (script : Script) → AreWrittenMoves names P from steps to
    → IsScriptOf names P from steps to new script → IsDerivation script.from.program (map step_of script.steps) script.to
joined names P from to steps new script w is =
    let a = w.accepted in
    let m = w.moves in
    let known = w.from_is.known in
    let derived = derives names P w.from_is.table from.params a.typed.scope known.params_are (tree from.body) (tree to.body) steps script.steps m.moves refl a.keeps known.body_is w.named is.steps_are in
    record {
      accepted = accepted_also from script.from.program is.from_is a;
      end = tree to.body;
      derived = subst (λ p. Derives script.from.program.params p (map step_of script.steps) (tree to.body)) (sym is.from_is.body)
          (subst (λ S. Derives S (tree from.body) (map step_of script.steps) (tree to.body)) (sym is.from_is.params) derived);
      is_end = record {
        name = is.to_is.name ∙ m.name ∙ sym is.from_is.name;
        params = is.to_is.params ∙ m.params ∙ sym is.from_is.params;
        body = is.to_is.body;
      };
    }
