-- A PAR of two parts expanded: each part is made an ALT first, and then par-expand is used.
use Rattle.std.specs.Prelude.{ℕ, ◌≡◌, List, [], ◌∷◌, ◌++◌, Option, Some, None}
use Rattle.occ_print.specs.occ_base.declared.names.Name.{Name}
use Rattle.occ_replay_rules.specs.Moves.{IsAdmitted, IsApplied, IsGranted, Move, Wish}
use Rattle.occ_law_sound.specs.occ_law.Choice.{and_skip}
use Rattle.occ_parse_part.specs.occ_meaning.Context.{part_at, put}
use Rattle.occ_parse_part.specs.occ_meaning.Parallel.{two}
use Rattle.occ_script_lines.specs.declared.direction.Direction.TheVariants as direction
use Rattle.occ_script_lines.specs.Places.{scope_list}
use Rattle.occ_print.specs.occ_syntax.declared.scope.Kind.{Kind}
use Rattle.occ_print.specs.occ_syntax.Tree.{Tree, skip, stop, assign, receive, send, seq, par, select, alt, declare, connect, Trees, no_tree, and_tree, no_branch}

-- a law used forward at a path, without a wanted part
abbrev pub forward : ℕ → List ℕ → Wish
forward law path = record { law = law; dir = direction.Forward; path = path; wanted = None }

-- the numbers of the laws that an expansion uses
abbrev pub seq_alt : ℕ
seq_alt = 13

abbrev pub io_alt : ℕ
io_alt = 15

abbrev pub alt_skip : ℕ
alt_skip = 30

abbrev pub par_expand : ℕ
par_expand = 45

-- a process as an ALT that goes on with it at once
abbrev pub wrapping : List ℕ → Tree → List Wish
wrapping path p = record { law = alt_skip; dir = direction.Backward; path = path; wanted = Some (alt (and_skip p no_branch)) } ∷ []

-- a SEQ made an ALT, where its first part is one, inputs or outputs
abbrev pub sequencing : List ℕ → Trees → List Wish
sequencing path no_tree = wrapping path (seq no_tree)
sequencing path (and_tree (receive c x) ps) = forward io_alt (path ++ 0 ∷ []) ∷ forward seq_alt path ∷ []
sequencing path (and_tree (send c e) ps) = forward io_alt (path ++ 0 ∷ []) ∷ forward seq_alt path ∷ []
sequencing path (and_tree (alt gs) ps) = forward seq_alt path ∷ []
sequencing path (and_tree skip ps) = wrapping path (seq (and_tree skip ps))
sequencing path (and_tree stop ps) = wrapping path (seq (and_tree stop ps))
sequencing path (and_tree (assign xs es) ps) = wrapping path (seq (and_tree (assign xs es) ps))
sequencing path (and_tree (seq qs) ps) = wrapping path (seq (and_tree (seq qs) ps))
sequencing path (and_tree (par qs) ps) = wrapping path (seq (and_tree (par qs) ps))
sequencing path (and_tree (select cs) ps) = wrapping path (seq (and_tree (select cs) ps))
sequencing path (and_tree (declare x w p) ps) = wrapping path (seq (and_tree (declare x w p) ps))
sequencing path (and_tree (connect c w p) ps) = wrapping path (seq (and_tree (connect c w p) ps))

-- the wishes that make the process at a path an ALT
abbrev pub preparing : List ℕ → Tree → List Wish
preparing path (alt gs) = []
preparing path (receive c x) = forward io_alt path ∷ []
preparing path (send c e) = forward io_alt path ∷ []
preparing path (seq ps) = sequencing path ps
preparing path skip = wrapping path skip
preparing path stop = wrapping path stop
preparing path (assign xs es) = wrapping path (assign xs es)
preparing path (par ps) = wrapping path (par ps)
preparing path (select cs) = wrapping path (select cs)
preparing path (declare x w p) = wrapping path (declare x w p)
preparing path (connect c w p) = wrapping path (connect c w p)

-- the wishes that expand the PAR of these two at a path
abbrev pub expanding : List ℕ → Tree → Tree → List Wish
expanding path p q = preparing (path ++ 0 ∷ []) p ++ (preparing (path ++ 1 ∷ []) q ++ forward par_expand path ∷ [])

-- wishes are granted, one after the other
pub data Grants (S : List (Name × Kind)) : Tree → List Wish → List Move → Tree → Type 0 where
  no_wish : (p : Tree) → Grants S p [] [] p
  and_wish : (p q : Tree) (wish : Wish) (wishes : List Wish) (move : Move) (moves : List Move) → IsGranted S p wish move
      → Grants S (put move.path p move.part) wishes moves q → Grants S p (wish ∷ wishes) (move ∷ moves) q

-- The PAR at a path is expanded by moves.
pub record IsExpanded (S : List (Name × Kind)) (p : Tree) (path : List ℕ) (moves : List Move) (q : Tree) : Type 0 where
  pub first : Tree
  pub second : Tree
  pub there : part_at path p ≡ Some (par (two first second))
  pub granted : Grants S p (expanding path first second) moves q

-- ---- why it can't be

-- there is a part at the path, and it isn't a PAR of two parts
pub record IsNoPar (p : Tree) (path : List ℕ) : Type 0 where
  pub old : Tree
  pub there : part_at path p ≡ Some old
  pub other : (first second : Tree) → old ≡ par (two first second) → ⊥

-- A wish on the way is applied, and what comes of it may not be put in.
pub record IsBlocked (S : List (Name × Kind)) (p : Tree) (path : List ℕ) : Type 0 where
  pub first : Tree
  pub second : Tree
  pub there : part_at path p ≡ Some (par (two first second))
  pub front : List Wish
  pub wish : Wish
  pub rest : List Wish
  pub parts : expanding path first second ≡ front ++ wish ∷ rest
  pub moves : List Move
  pub here : Tree
  pub granted : Grants S p front moves here
  pub old : Tree
  pub new : Tree
  pub old_there : part_at wish.path here ≡ Some old
  pub applied : IsApplied wish.dir wish.law (scope_list wish.path S here) wish.wanted old new
  pub refused : IsAdmitted S here wish.path new → ⊥
