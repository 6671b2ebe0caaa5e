-- Derivations of a part: laws used at places in it, one after the other, whatever stands round the part.
use Rattle.std.specs.Prelude.{ℕ, ◌≡◌, ◌≤◌, Bool, true, false, not, ◌&&◌, List, [], ◌∷◌, ◌++◌, Some, map, option_map, unwrap_or}
use Rattle.std.specs.List.{AllByRecursion}
use Rattle.occ_target_laws.specs.occ_base.declared.names.Name.{Name}
use Rattle.occ_replay_rules.specs.Moves.{Move}
use Rattle.occ_replay_rules.specs.occ_meaning.Context.{child, part_at, put}
use Rattle.occ_replay_rules.specs.occ_print.Lines.{most_symbols, part_lines}
use Rattle.occ_replay_rules.specs.Steps.{Joins}
use Rattle.occ_replay_rules.specs.occ_script_lines.Places.{scope_list}
use Rattle.occ_target_laws.specs.occ_syntax.declared.scope.Kind.{Kind}
use Rattle.occ_target_laws.specs.occ_syntax.Tree.{Tree, skip, stop, assign, receive, send, seq, par, select, alt, declare, connect}
use Rattle.occ_target_laws.specs.occ_usage.Local.{UsesNoMore}

-- ---- one law

abbrev pub is_par : Tree → Bool
is_par skip = false
is_par stop = false
is_par (assign xs es) = false
is_par (receive c x) = false
is_par (send c e) = false
is_par (seq ps) = false
is_par (par ps) = true
is_par (select cs) = false
is_par (alt bs) = false
is_par (declare x w p) = false
is_par (connect c w p) = false

-- whether no PAR stands round the place at a path
abbrev pub is_open : List ℕ → Tree → Bool
is_open [] p = true
is_open (i ∷ path) p = not (is_par p) && unwrap_or (option_map (is_open path) (child p i)) true

-- A law is used at a place of a part: it joins what stands there with what comes there.
pub record IsUse (S : List (Name × Kind)) (p : Tree) (move : Move) : Type 0 where
  pub old : Tree
  pub there : part_at move.path p ≡ Some old
  pub joins : Joins move.dir move.law (scope_list move.path S p) old move.part

-- What comes there names, writes and uses no more than what stood there. So it may stand anywhere.
pub record IsSparing (S : List (Name × Kind)) (p : Tree) (move : Move) : Type 0 where
  pub use_is : IsUse S p move
  pub spares : UsesNoMore move.part use_is.old

-- A law is used well: at a place with no PAR round it, or sparing.
pub data IsGood (S : List (Name × Kind)) (p : Tree) (move : Move) : Type 0 where
  in_the_open : IsUse S p move → is_open move.path p ≡ true → IsGood S p move
  sparingly : IsSparing S p move → IsGood S p move

-- ---- one law after the other

-- moves lead from one part to another, each used as it is asked
pub data Row (Used : Tree → Move → Type 0) : Tree → List Move → Tree → Type 0 where
  no_use : (p : Tree) → Row Used p [] p
  and_use : (p q : Tree) (move : Move) (moves : List Move) → Used p move
      → Row Used (put move.path p move.part) moves q → Row Used p (move ∷ moves) q

-- The moves are a derivation of a part in a scope, under no PAR: they work the one part into the other.
abbrev pub Works : List (Name × Kind) → Tree → List Move → Tree → Type 0
Works S p moves q = Row (IsGood S) p moves q

-- The moves are a derivation of a part in a scope, wherever it stands: they work the one part into the other, and each is sparing.
abbrev pub Spares : List (Name × Kind) → Tree → List Move → Tree → Type 0
Spares S p moves q = Row (IsSparing S) p moves q

-- no printed line of the parts that come in has more tokens than a line of a text may have
abbrev pub AreNarrow : List Move → Type 0
AreNarrow moves = AllByRecursion (λ (move : Move). most_symbols (part_lines 0 move.part) ≤ 4096) moves

-- ---- moves of a part inside another

-- the move of a part, said of the process in which that part stands at a path
abbrev pub under : List ℕ → Move → Move
under path move = record { law = move.law; dir = move.dir; path = path ++ move.path; part = move.part }

abbrev pub all_under : List ℕ → List Move → List Move
all_under path moves = map (under path) moves
