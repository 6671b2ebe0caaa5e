-- Moves from an accepted program are written well, and the script that is read from them is a derivation.
use Rattle.std.proofs.Common.{◌≡◌, ℕ, ◌<◌, ◌≤◌, true, List, [], ◌∷◌, length, map, refl, sym, subst, arith}
use Rattle.std.specs.List.{AllByRecursion}
use Rattle.occ_script_write.specs.occ_base.declared.names.Name.{Name}
use Rattle.occ_replay_rules.specs.Moves.{IsMove, Move, Moves, and_move, no_move}
use Rattle.occ_script_write.specs.occ_lex.declared.symbol.Sign.TheVariants as sign
use Rattle.occ_script_write.specs.occ_lex.declared.symbol.Symbol.TheVariants as symbol
use Rattle.occ_script_write.specs.occ_meaning.Context.{put}
use Rattle.occ_print_back.specs.occ_parse_rules.Places.{Place}
use Rattle.occ_script_write.specs.occ_print.Known.{PartIsKnown}
use Rattle.occ_script_write.specs.occ_print.Lines.{TextLine, part_lines}
use Rattle.occ_script_write.proofs.from_print.Counting.{most-append, part_widest, widest}
use Rattle.occ_print_back.specs.Back.{IsNarrow}
use Rattle.occ_print_back.specs.Placed.{IsTable}
use Rattle.occ_print_back.specs.Program.{IsPrintable}
use Rattle.occ_script_back.specs.Joined.{AreNamedSteps, AreWrittenMoves, move_of}
use Rattle.occ_script_back.proofs.Joining.{part_printable, same_move, same_moves}
use Rattle.occ_script_back.proofs.Known.{put_known}
use Rattle.occ_script_back.proofs.Narrow.{put_narrow}
use Rattle.occ_script_write.specs.occ_script_lines.Places.{scope_list}
use Rattle.occ_script_write.specs.declared.writing.Done.{Done}
use Rattle.occ_script_back.specs.Reads.{IsStepWell}
use Rattle.occ_script_back.specs.Whole.{AreWrittenWell}
use Rattle.occ_script_write.specs.occ_syntax.declared.scope.Kind.{Kind}
use Rattle.occ_script_write.specs.occ_syntax.declared.scope.Program.{Program}
use Rattle.occ_script_write.specs.occ_syntax.Scopes.{environment}
use Rattle.occ_script_write.specs.occ_syntax.Tree.{Tree}
use Rattle.occ_script_write.specs.occ_syntax.Types.{scope_kept}
use Rattle.occ_script_write.specs.occ_syntax.Usage.{Keeps}
use Rattle.occ_script_write.specs.occ_syntax.View.{tree}

-- what is known of steps that are moves, and of the process that they lead to
record AreWell (names : List (List ℕ)) (P : ℕ → Place) (S : List (Name × Kind)) (dones : List Done) (q : Tree) : Type 0 where
  steps_are : AllByRecursion (IsStepWell names P) dones
  keeps : Keeps (environment S) q
  known : PartIsKnown (length names) q
  narrow : widest q ≤ 4096

module _ (names : List (List ℕ)) (P : ℕ → Place) (table : IsTable names P) (S : List (Name × Kind)) (kept : scope_kept S ≡ true)
    (S_known : AllByRecursion (λ (p : Name × Kind). p.0.0 < length names) S) where
  are_well : (p q : Tree) (dones : List Done) {moves : List Move} → Moves S p moves q → moves ≡ map move_of dones → Keeps (environment S) p
      → PartIsKnown (length names) p → widest p ≤ 4096 → AreNamedSteps (length names) dones → AreWell names P S dones q
  are_well p q [] (no_move a) e k known few h = record { steps_are = tt; keeps = k; known = known; narrow = few }
  are_well p q (d ∷ dones) (no_move a) e k known few h = absurd (cc)
  are_well p q [] (and_move a b move moves m more) e k known few h = absurd (cc)
  are_well p q (d ∷ dones) (and_move a b move moves m more) e k known few h =
      let first : move ≡ move_of d = same_move move (move_of d) moves (map move_of dones) e in
      let rest : moves ≡ map move_of dones = same_moves move (move_of d) moves (map move_of dones) e in
      let one : IsMove S a (move_of d) = subst (IsMove S a) first m in
      let part_known : PartIsKnown (length names) move.part = subst (λ (o : Move). PartIsKnown (length names) o.part) (sym first) h.0.known in
      let part_few : widest move.part ≤ 4096 = omega (arith, m.admitted.narrow, part_widest 0 move.part) in
      let later = are_well (put move.path a move.part) b dones more rest m.admitted.keeps (put_known (length names) move.path a move.part known part_known)
      (put_narrow 4096 move.path a move.part few part_few) h.1 in
      record {
        steps_are = (
          record {
            written = record {
              said = h.0.said;
              scope = scope_list d.path S a;
              printable = part_printable names P table S kept S_known a (move_of d) k known one h.0.known;
            };
            narrow = omega (arith, one.admitted.narrow, part_widest 0 (tree d.part), part_widest 1 (tree d.part));
          },
          later.steps_are,
        );
        keeps = later.keeps;
        known = later.known;
        narrow = later.narrow;
      }

pub written_well : (names : List (List ℕ)) (P : ℕ → Place) (from to : Program) (steps : List Done) → AreWrittenMoves names P from steps to → AreWrittenWell names P from steps to
written_well names P from to steps w =
    let is = w.from_is in
    let a = w.accepted in
    let body = tree from.body in
    let close : List TextLine = record { level = 0; symbols = symbol.Sign sign.Colon ∷ [] } ∷ [] in
    let few : widest body ≤ 4096 = omega (arith, w.narrow, most-append (part_lines 1 body) close, part_widest 1 body) in
    let well : AreWell names P from.params steps (tree to.body) = are_well names P is.table from.params a.typed.scope is.known.params_are body (tree to.body) steps w.moves.moves refl a.keeps is.known.body_is few w.named in
    let printable : IsPrintable names P from.name.0 from.params (tree to.body) = record {
      table = is.table;
      known = record { name_is = is.known.name_is; params_are = is.known.params_are; body_is = well.known };
      plain = is.plain;
      marked = is.marked;
      scope = is.scope;
      types = well.keeps.types;
    } in
    let narrow : IsNarrow from.name.0 from.params (tree to.body) =
    omega (arith, w.narrow, most-append (part_lines 1 body) close, most-append (part_lines 1 (tree to.body)) close, part_widest 1 (tree to.body), well.narrow) in
    record {
      from_is = is;
      from_within = record {
        narrow = w.narrow;
        limits = λ e. record {
          controls = a.typed.controls;
          parameters = a.typed.parameters;
          interface = a.typed.interface;
          state = a.typed.state;
          levels = w.levels;
        };
      };
      steps_are = well.steps_are;
      to_is = subst (λ (n : Name). IsPrintable names P n.0 to.params (tree to.body)) (sym w.moves.name)
          (subst (λ (ps : List (Name × Kind)). IsPrintable names P from.name.0 ps (tree to.body)) (sym w.moves.params) printable);
      to_narrow = subst (λ (n : Name). IsNarrow n.0 to.params (tree to.body)) (sym w.moves.name)
          (subst (λ (ps : List (Name × Kind)). IsNarrow from.name.0 ps (tree to.body)) (sym w.moves.params) narrow);
    }
