-- Moves under other names.
use Rattle.occ_replay_rules.specs.occ_base.declared.names.Name.{Name}
use Rattle.occ_replay_rules.specs.Moves.{IsAdmitted, IsMove, Move, Moves, and_move, no_move}
use Rattle.occ_renamed.proofs.Laws.{kept_under, law_under}
use Rattle.occ_renamed.specs.Scopes.{scope_renamed}
use Rattle.occ_replay_rules.proofs.from_meaning.Renaming.{IsExchange}
use Rattle.occ_replay_rules.specs.occ_meaning.Context.{put}
use Rattle.occ_replay_rules.specs.occ_meaning.Rename.{renamed}
use Rattle.occ_replay_rules.specs.occ_print.Lines.{most_symbols, part_lines}
use Rattle.occ_replay_rules.specs.Steps.{Joins}
use Rattle.occ_replay_rules.specs.occ_script_lines.Places.{scope_list}
use Rattle.occ_replay_rules.specs.occ_script_lines.declared.direction.Direction.{Direction}
use Rattle.occ_replay_rules.specs.occ_script_lines.declared.direction.Direction.TheVariants as direction
use Rattle.occ_renamed.proofs.ScriptLines.{most_under, part_under}
use Rattle.occ_renamed.proofs.Places.{maybe_renamed, part_at_under, put_under, scope_list_under}
use Rattle.occ_renamed.specs.Moves.{move_renamed, moves_renamed}
use Rattle.occ_replay_rules.specs.occ_syntax.Scopes.{environment}
use Rattle.occ_replay_rules.specs.occ_syntax.Tree.{Tree}
use Rattle.occ_replay_rules.specs.occ_syntax.Usage.{Keeps}
use Rattle.occ_replay_rules.specs.occ_syntax.declared.scope.Kind.{Kind}
use Rattle.std.proofs.Common.{List, ap, subst, sym, ℕ, ◌∙◌, ◌≤◌}

joins_under : (f : ℕ → ℕ) → IsExchange f → (d : Direction) (n : ℕ) (S : List (Name × Kind)) (old new : Tree) → Joins d n S old new
    → Joins d n (scope_renamed f S) (renamed old f) (renamed new f)
joins_under f inv direction.Forward n S old new h = law_under f inv n S old new h
joins_under f inv direction.Backward n S old new h = law_under f inv n S new old h

admitted_under : (f : ℕ → ℕ) → IsExchange f → (S : List (Name × Kind)) (p : Tree) (path : List ℕ) (new : Tree) → IsAdmitted S p path new
    → IsAdmitted (scope_renamed f S) (renamed p f) path (renamed new f)
admitted_under f inv S p path new h = record {
  keeps = subst (Keeps (environment (scope_renamed f S))) (sym (put_under f path p new)) (kept_under f inv S (put path p new) h.keeps);
  narrow = subst (λ n. n ≤ 4096) (sym (ap most_symbols (part_under f 0 new) ∙ most_under f (part_lines 0 new))) h.narrow;
}

move_under : (f : ℕ → ℕ) → IsExchange f → (S : List (Name × Kind)) (p : Tree) (move : Move) → IsMove S p move
    → IsMove (scope_renamed f S) (renamed p f) (move_renamed f move)
move_under f inv S p move h = record {
  old = renamed h.old f;
  there = part_at_under f move.path p ∙ ap (maybe_renamed f) h.there;
  admitted = admitted_under f inv S p move.path move.part h.admitted;
  joins = subst (λ R. Joins move.dir move.law R (renamed h.old f) (renamed move.part f)) (sym (scope_list_under f move.path S p))
      (joins_under f inv move.dir move.law (scope_list move.path S p) h.old move.part h.joins);
}

pub moves_under : (f : ℕ → ℕ) → IsExchange f → (S : List (Name × Kind)) (p q : Tree) (moves : List Move) → Moves S p moves q
    → Moves (scope_renamed f S) (renamed p f) (moves_renamed f moves) (renamed q f)
moves_under f inv S p q moves (no_move a) = no_move (renamed a f)
moves_under f inv S p q moves (and_move a b move rest h k) =
    and_move (renamed a f) (renamed b f) (move_renamed f move) (moves_renamed f rest) (move_under f inv S a move h)
    (subst (λ z. Moves (scope_renamed f S) z (moves_renamed f rest) (renamed b f)) (sym (put_under f move.path a move.part))
    (moves_under f inv S (put move.path a move.part) b rest k))
