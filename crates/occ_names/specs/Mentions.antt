-- What a part does with names, in the order of its text.
use Rattle.std.specs.Prelude.{ℕ, ◌==◌, Bool, false, ◌&&◌, List, [], ◌∷◌, ◌++◌, map, Option, None, Some, if◌then◌else◌}
use Rattle.occ_syntax.specs.occ_base.declared.event.Dir.{Dir}
use Rattle.occ_syntax.specs.occ_base.declared.event.Dir.TheVariants.{Input, Output}
use Rattle.occ_syntax.specs.occ_base.declared.names.Name.{Name}
use Rattle.occ_syntax.specs.Names.{is_in}
use Rattle.occ_syntax.specs.Scopes.{same_dir}
use Rattle.occ_syntax.specs.Tree.{Exp, variable, numeral, truth, negation, complement, operation, Waiting, ready, input, output, Tree, skip, stop, assign, receive, send, seq, par, select, alt, declare, connect, Trees, no_tree, and_tree, Cases, no_case, and_case, Branches, no_branch, and_branch}
use Rattle.occ_names.specs.declared.mention.Mention.{Mention}
use Rattle.occ_names.specs.declared.mention.Mention.TheVariants.{Read, Write, End, Declare}

-- the name of a number
abbrev pub called : ℕ → Name
called x = record { 0 = x }

abbrev pub reads : Exp → List Mention
reads (variable x) = Read (called x) ∷ []
reads (numeral bits value) = []
reads (truth b) = []
reads (negation e) = reads e
reads (complement e) = reads e
reads (operation op left right) = reads left ++ reads right

abbrev pub reads_of_all : List Exp → List Mention
reads_of_all [] = []
reads_of_all (e ∷ es) = reads e ++ reads_of_all es

abbrev pub writes : List ℕ → List Mention
writes [] = []
writes (x ∷ xs) = Write (called x) ∷ writes xs

abbrev pub mentions_of_waiting : Waiting → List Mention
mentions_of_waiting ready = []
mentions_of_waiting (input c x) = End (called c) Input ∷ Write (called x) ∷ []
mentions_of_waiting (output c e) = End (called c) Output ∷ reads e

-- whether a use of one of these names, which a declaration is not
abbrev pub hidden : List ℕ → Mention → Bool
hidden xs (Read y) = is_in xs y.0
hidden xs (Write y) = is_in xs y.0
hidden xs (End y d) = is_in xs y.0
hidden xs (Declare y) = false

-- what is left where the uses of these names are taken out
abbrev pub outside : List ℕ → List Mention → List Mention
outside xs [] = []
outside xs (m ∷ ms) = if hidden xs m then outside xs ms else m ∷ outside xs ms

-- each declaration of a part, and each use of a name that no declaration of the part governs
abbrev mutual
  pub mentions : Tree → List Mention
  mentions skip = []
  mentions stop = []
  mentions (assign xs es) = writes xs ++ reads_of_all es
  mentions (receive c x) = End (called c) Input ∷ Write (called x) ∷ []
  mentions (send c e) = End (called c) Output ∷ reads e
  mentions (seq ps) = mentions_of_all ps
  mentions (par ps) = mentions_of_all ps
  mentions (select cs) = mentions_of_cases cs
  mentions (alt bs) = mentions_of_branches bs
  mentions (declare x w p) = Declare (called x) ∷ outside (x ∷ []) (mentions p)
  mentions (connect c w p) = Declare (called c) ∷ outside (c ∷ []) (mentions p)

  pub mentions_of_all : Trees → List Mention
  mentions_of_all no_tree = []
  mentions_of_all (and_tree p ps) = mentions p ++ mentions_of_all ps

  pub mentions_of_cases : Cases → List Mention
  mentions_of_cases no_case = []
  mentions_of_cases (and_case e p cs) = (reads e ++ mentions p) ++ mentions_of_cases cs

  pub mentions_of_branches : Branches → List Mention
  mentions_of_branches no_branch = []
  mentions_of_branches (and_branch e w p bs) = ((reads e ++ mentions_of_waiting w) ++ mentions p) ++ mentions_of_branches bs

-- ---- lists of names out of what is done with them

abbrev pub used : List Mention → List ℕ
used [] = []
used (Read x ∷ ms) = x.0 ∷ used ms
used (Write x ∷ ms) = x.0 ∷ used ms
used (End c d ∷ ms) = c.0 ∷ used ms
used (Declare x ∷ ms) = used ms

abbrev pub set_in : List Mention → List ℕ
set_in [] = []
set_in (Read x ∷ ms) = set_in ms
set_in (Write x ∷ ms) = x.0 ∷ set_in ms
set_in (End c d ∷ ms) = set_in ms
set_in (Declare x ∷ ms) = set_in ms

abbrev pub ends_in : List Mention → List (ℕ × Dir)
ends_in [] = []
ends_in (Read x ∷ ms) = ends_in ms
ends_in (Write x ∷ ms) = ends_in ms
ends_in (End c d ∷ ms) = (c.0, d) ∷ ends_in ms
ends_in (Declare x ∷ ms) = ends_in ms

abbrev pub declared_in : List Mention → List ℕ
declared_in [] = []
declared_in (Read x ∷ ms) = declared_in ms
declared_in (Write x ∷ ms) = declared_in ms
declared_in (End c d ∷ ms) = declared_in ms
declared_in (Declare x ∷ ms) = x.0 ∷ declared_in ms

-- Where the free names of a part stand, where it assigns or inputs free variables, where it uses free channels and where
-- it declares names, in the order of its text.
abbrev pub free_names : Tree → List ℕ
free_names p = used (mentions p)

abbrev pub written_names : Tree → List ℕ
written_names p = set_in (mentions p)

abbrev pub used_ends : Tree → List (ℕ × Dir)
used_ends p = ends_in (mentions p)

abbrev pub declared_names : Tree → List ℕ
declared_names p = declared_in (mentions p)

-- ---- ends of channels

abbrev pub same_end : (ℕ × Dir) → (ℕ × Dir) → Bool
same_end a b = a.0 == b.0 && same_dir a.1 b.1

abbrev pub end_number : Name × Dir → ℕ × Dir
end_number a = (a.0.0, a.1)

abbrev pub end_numbers : List (Name × Dir) → List (ℕ × Dir)
end_numbers ends = map end_number ends

-- the items that there may be
abbrev pub number_in : Option Name → List ℕ
number_in None = []
number_in (Some name) = name.0 ∷ []

abbrev pub end_in : Option (Name × Dir) → List (ℕ × Dir)
end_in None = []
end_in (Some end) = end_number end ∷ []
