-- Written moves stay such where names of the table are exchanged, with the same text.
use Rattle.std.proofs.Common.{◌≡◌, ℕ, ◌<◌, ◌≤◌, List, [], ◌∷◌, ◌++◌, codes, length, map, max, refl, sym, ap, ap₂, subst, ◌∙◌}
use Rattle.std.specs.List.{AllByRecursion}
use Rattle.occ_engine_known.specs.occ_base.declared.names.Name.{Name}
use Rattle.occ_renamed.specs.occ_replay_rules.Moves.{Move, Moves}
use Rattle.occ_renamed.proofs.Laws.{kept_under}
use Rattle.occ_renamed.proofs.States.{environment_under}
use Rattle.occ_renamed.specs.Scopes.{scope_renamed}
use Rattle.occ_renamed.proofs.from_meaning.RenamedTrees.{types_under}
use Rattle.occ_renamed.proofs.from_meaning.Renaming.{IsExchange, exchange_is}
use Rattle.occ_renamed.specs.occ_meaning.Rename.{exchanging, renamed}
use Rattle.occ_renamed.specs.occ_parse_rules.Places.{Place}
use Rattle.occ_renamed.specs.occ_print.Known.{PartIsKnown}
use Rattle.occ_renamed.specs.occ_print.Lines.{TextLine, most_symbols, part_lines, program_lines}
use Rattle.occ_renamed.specs.occ_print.Spelled.{part_text, program_text}
use Rattle.occ_script_table.specs.occ_print_back.Back.{deepest}
use Rattle.occ_script_table.specs.occ_print_back.Program.{IsPrintable}
use Rattle.occ_script_table.specs.occ_script_back.Joined.{AreMoves, AreNamedSteps, AreWrittenMoves, move_of}
use Rattle.occ_engine_written.specs.Exchanged.{names_exchanged, places_renamed}
use Rattle.occ_engine_written.specs.Renamed.{done_renamed, name_renamed, proc_renamed, program_renamed, steps_renamed}
use Rattle.occ_engine_written.proofs.Counts.{controls_under, most_under, scope_bits_under, scope_kept_under, scope_length_under}
use Rattle.occ_engine_written.proofs.NumberedKnown.{part_known, scope_known, scope_marked}
use Rattle.occ_engine_written.proofs.Renamed.{tree_under}
use Rattle.occ_engine_written.proofs.Tables.{exchanged_length, exchanged_within, renumbered, table_under}
use Rattle.occ_renamed.proofs.ScriptLines.{most_under as symbols_under, part_under, program_under}
use Rattle.occ_renamed.proofs.Moving.{moves_under}
use Rattle.occ_renamed.proofs.Texts.{part_text_under, program_text_under}
use Rattle.occ_renamed.specs.Lines.{IsRenumbered, line_renamed}
use Rattle.occ_renamed.specs.Moves.{moves_renamed}
use Rattle.occ_engine_known.specs.occ_script_write.declared.writing.Done.{Done}
use Rattle.occ_engine_known.specs.occ_script_write.Text.{line, script_text, step_text, step_words, steps_text, text_of_program}
use Rattle.occ_engine_known.specs.occ_syntax.Counts.{bits_of_scope, controls, most_bits}
use Rattle.occ_engine_known.specs.occ_syntax.declared.scope.Kind.{Kind}
use Rattle.occ_engine_known.specs.occ_syntax.declared.scope.Program.{Program}
use Rattle.occ_engine_known.specs.occ_syntax.Scopes.{environment}
use Rattle.occ_engine_known.specs.occ_syntax.Tree.{Tree}
use Rattle.occ_engine_known.specs.occ_syntax.Types.{types_kept}
use Rattle.occ_engine_known.specs.occ_syntax.Usage.{Keeps}
use Rattle.occ_engine_known.specs.occ_syntax.View.{tree}
use Rattle.occ_renamed.specs.occ_usage.Accepted.{IsAccepted}

deepest_under : (f : ℕ → ℕ) (ls : List TextLine) → deepest (map (line_renamed f) ls) ≡ deepest ls
deepest_under f [] = refl
deepest_under f (l ∷ ls) = ap (max l.level) (deepest_under f ls)

moves_same : (f : ℕ → ℕ) (steps : List Done) → map move_of (steps_renamed f steps) ≡ moves_renamed f (map move_of steps)
moves_same f [] = refl
moves_same f (d ∷ steps) =
    let part : Move → Tree → Move = λ m t. record { law = m.law; dir = m.dir; path = m.path; part = t } in
    λ i. part (move_of d) (tree_under f d.part i) ∷ moves_same f steps i

module _ (f : ℕ → ℕ) (inv : IsExchange f) where
  types_kept_under : (S : List (Name × Kind)) (p : Tree) → types_kept (renamed p f) (environment (scope_renamed f S)) ≡ types_kept p (environment S)
  types_kept_under S p = ap (types_kept (renamed p f)) (environment_under f inv S) ∙ types_under p f inv (environment S)

  accepted_under : (program : Program) → IsAccepted program → IsAccepted (program_renamed f program)
  accepted_under program a =
      let S = program.params in
      let p = tree program.body in
      let R = scope_renamed f S in
      let e : tree (proc_renamed f program.body) ≡ renamed p f = tree_under f program.body in
      let t = a.typed in
      record {
        typed = record {
          scope = scope_kept_under f inv S ∙ t.scope;
          types = ap (λ q. types_kept q (environment R)) e ∙ types_kept_under S p ∙ t.types;
          controls = subst (λ n. n ≤ 4096) (sym (ap controls e ∙ controls_under f p)) t.controls;
          parameters = subst (λ n. n ≤ 16) (sym (scope_length_under f S)) t.parameters;
          interface = subst (λ n. n ≤ 16) (sym (scope_bits_under f S)) t.interface;
          state = subst (λ n. n ≤ 24) (sym (ap₂ most_bits e (scope_bits_under f S) ∙ most_under f p (bits_of_scope S))) t.state;
        };
        keeps = subst (Keeps (environment R)) (sym e) (kept_under f inv S p a.keeps);
      }

  moves_stay : (from to : Program) (steps : List Done) → AreMoves from steps to → AreMoves (program_renamed f from) (steps_renamed f steps) (program_renamed f to)
  moves_stay from to steps m =
      let S = scope_renamed f from.params in
      let moved = moves_under f inv from.params (tree from.body) (tree to.body) (map move_of steps) m.moves in
      record {
        name = ap (name_renamed f) m.name;
        params = ap (scope_renamed f) m.params;
        moves = subst (λ p. Moves S p (map move_of (steps_renamed f steps)) (tree (proc_renamed f to.body))) (sym (tree_under f from.body))
            (subst (λ ms. Moves S (renamed (tree from.body) f) ms (tree (proc_renamed f to.body))) (sym (moves_same f steps))
            (subst (λ q. Moves S (renamed (tree from.body) f) (moves_renamed f (map move_of steps)) q) (sym (tree_under f to.body)) moved));
      }

module _ (f : ℕ → ℕ) (inv : IsExchange f) (names other : List (List ℕ)) (same : IsRenumbered f names other) (long : length other ≡ length names)
    (within : (x : ℕ) → x < length names → f x < length names) where
  program_text_same : (program : Program) → text_of_program other (program_renamed f program) ≡ text_of_program names program
  program_text_same program =
      ap (program_text other (f program.name.0) (scope_renamed f program.params)) (tree_under f program.body)
      ∙ program_text_under f names other same program.name.0 program.params (tree program.body)

  step_text_same : (done : Done) → step_text other (done_renamed f done) ≡ step_text names done
  step_text_same done = ap (λ t. line (step_words done) ++ t) (ap (part_text other 1) (tree_under f done.part) ∙ part_text_under f names other same 1 (tree done.part))

  steps_text_same : (steps : List Done) → steps_text other (steps_renamed f steps) ≡ steps_text names steps
  steps_text_same [] = refl
  steps_text_same (d ∷ steps) = ap₂ ◌++◌ (step_text_same d) (steps_text_same steps)

  pub script_text_same : (from to : Program) (steps : List Done)
      → script_text other (program_renamed f from) (steps_renamed f steps) (program_renamed f to) ≡ script_text names from steps to
  script_text_same from to steps = λ i.
      line (codes "occam-script 2") ++ line (codes "FROM") ++ program_text_same from i ++ steps_text_same steps i ++ line (codes "TO") ++ program_text_same to i

  printable_under : (P : ℕ → Place) (program : Program) → IsPrintable names P program.name.0 program.params (tree program.body)
      → IsPrintable other (places_renamed f P) (f program.name.0) (scope_renamed f program.params) (tree (proc_renamed f program.body))
  printable_under P program h =
      let n = length names in
      let p = tree program.body in
      let S = program.params in
      let e : tree (proc_renamed f program.body) ≡ renamed p f = tree_under f program.body in
      let k = h.known in
      record {
        table = table_under f inv names other same long within P h.table;
        known = record {
          name_is = subst (λ m. f program.name.0 < m) (sym long) (within program.name.0 k.name_is);
          params_are = subst (λ m. AllByRecursion (λ (q : Name × Kind). q.0.0 < m) (scope_renamed f S)) (sym long) (scope_known f n within S k.params_are);
          body_is = subst (λ m. PartIsKnown m (tree (proc_renamed f program.body))) (sym long) (subst (PartIsKnown n) (sym e) (part_known f n within p k.body_is));
        };
        plain = ap (λ x. (P x).element) (inv program.name.0) ∙ h.plain;
        marked = scope_marked f S h.marked;
        scope = scope_kept_under f inv S ∙ h.scope;
        types = ap (λ q. types_kept q (environment (scope_renamed f S))) e ∙ types_kept_under f inv S p ∙ h.types;
      }

  named_under : (steps : List Done) → AreNamedSteps (length names) steps → AreNamedSteps (length other) (steps_renamed f steps)
  named_under [] h = tt
  named_under (d ∷ steps) h =
      let known : PartIsKnown (length names) (tree (proc_renamed f d.part)) =
      subst (PartIsKnown (length names)) (sym (tree_under f d.part)) (part_known f (length names) within (tree d.part) h.0.known) in (
        record {
          said = record { low = h.0.said.low; high = h.0.said.high; path = h.0.said.path };
          known = subst (λ m. PartIsKnown m (tree (proc_renamed f d.part))) (sym long) known;
        },
        named_under steps h.1,
      )

  pub written_under : (P : ℕ → Place) (from to : Program) (steps : List Done) → AreWrittenMoves names P from steps to
      → AreWrittenMoves other (places_renamed f P) (program_renamed f from) (steps_renamed f steps) (program_renamed f to)
  written_under P from to steps w =
      let p = tree from.body in
      let e : tree (proc_renamed f from.body) ≡ renamed p f = tree_under f from.body in
      let ls = program_lines from.name.0 from.params p in
      record {
        from_is = printable_under P from w.from_is;
        accepted = accepted_under f inv from w.accepted;
        narrow = subst (λ n. n ≤ 4096)
            (sym (ap (λ q. most_symbols (program_lines (f from.name.0) (scope_renamed f from.params) q)) e
            ∙ ap most_symbols (program_under f from.name.0 from.params p) ∙ symbols_under f ls)) w.narrow;
        levels = subst (λ n. n ≤ 64) (sym (ap (λ q. deepest (part_lines 1 q)) e ∙ ap deepest (part_under f 1 p) ∙ deepest_under f (part_lines 1 p))) w.levels;
        named = named_under steps w.named;
        moves = moves_stay f inv from to steps w.moves;
      }

-- ---- where two names of the table are exchanged

module _ (a b : ℕ) (names : List (List ℕ)) (p : a < length names) (q : b < length names) where
  pub moves_exchanged : (P : ℕ → Place) (from to : Program) (steps : List Done) → AreWrittenMoves names P from steps to
      → AreWrittenMoves (names_exchanged a b names) (places_renamed (exchanging a b) P) (program_renamed (exchanging a b) from)
      (steps_renamed (exchanging a b) steps) (program_renamed (exchanging a b) to)
  moves_exchanged P from to steps w =
      written_under (exchanging a b) (exchange_is a b) names (names_exchanged a b names) (renumbered a b names p q) (exchanged_length a b names)
      (exchanged_within a b (length names) p q) P from to steps w

  pub text_exchanged : (from to : Program) (steps : List Done)
      → script_text (names_exchanged a b names) (program_renamed (exchanging a b) from) (steps_renamed (exchanging a b) steps) (program_renamed (exchanging a b) to)
      ≡ script_text names from steps to
  text_exchanged from to steps =
      script_text_same (exchanging a b) (exchange_is a b) names (names_exchanged a b names) (renumbered a b names p q) (exchanged_length a b names)
      (exchanged_within a b (length names) p q) from to steps
