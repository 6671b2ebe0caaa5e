-- What the code asks for in an expansion.
use Rattle.std.specs.Prelude.{◌≡◌, List, map, Option, None, Some, option_map}
use Rattle.std.specs.Borrow.{Bor}
use Rattle.occ_engine.specs.declared.wishes.Wish.{Wish as Asked}
use Rattle.occ_replay_rules.specs.Moves.{Wish}
use Rattle.occ_script_write.specs.occ_law.Choice.{and_skip}
use Rattle.occ_syntax.specs.declared.proc.Proc.{Proc}
use Rattle.occ_syntax.specs.Tree.{Tree, skip, stop, assign, receive, send, seq, par, select, alt, declare, connect, Trees, no_tree, and_tree, no_branch}
use Rattle.occ_syntax.specs.View.{tree}

-- a wish as the definitions have it
abbrev pub wish_of : Asked → Wish
wish_of asked = record { law = asked.law.0; dir = asked.dir; path = asked.path; wanted = option_map tree asked.wanted }

abbrev pub wishes_of : List Asked → List Wish
wishes_of wishes = map wish_of wishes

-- the two parts of a row of two, and of a PAR of two
abbrev pub two_in : Trees → Option (Tree × Tree)
two_in no_tree = None
two_in (and_tree p no_tree) = None
two_in (and_tree p (and_tree q no_tree)) = Some (p, q)
two_in (and_tree p (and_tree q (and_tree r rs))) = None

abbrev pub pair_of : Tree → Option (Tree × Tree)
pair_of (par ps) = two_in ps
pair_of skip = None
pair_of stop = None
pair_of (assign xs es) = None
pair_of (receive c x) = None
pair_of (send c e) = None
pair_of (seq ps) = None
pair_of (select cs) = None
pair_of (alt gs) = None
pair_of (declare x w p) = None
pair_of (connect c w p) = None

-- these are found, or there are none
abbrev pub IsPair : Option (Tree × Tree) → Option (Bor Proc × Bor Proc) → Type 0
IsPair wanted None = wanted ≡ None
IsPair wanted (Some both) = wanted ≡ Some (tree both.0.now, tree both.1.now)

-- a process as an ALT that goes on with it at once
abbrev pub wrapped_tree : Tree → Tree
wrapped_tree p = alt (and_skip p no_branch)
