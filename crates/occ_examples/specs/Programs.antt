-- The programs of the examples as trees, each with its text. A name is a number. x, y and z are words of two bits; c and d are channels
-- of such words.
use Rattle.std.specs.Prelude.{ℕ, List, [], ◌∷◌, true, None}
use Rattle.occ_law.specs.occ_base.declared.names.Name.{Name}
use Rattle.occ_law.specs.occ_base.declared.event.Dir.TheVariants.{Input, Output}
use Rattle.occ_law.specs.occ_base.declared.event.Event.{Event}
use Rattle.occ_law.specs.occ_base.declared.width.Width.TheVariants.{Word}
use Rattle.occ_law.specs.occ_syntax.declared.expr.Op.TheVariants.{Equal, Plus}
use Rattle.occ_law.specs.occ_syntax.declared.scope.Kind.{Kind}
use Rattle.occ_law.specs.occ_syntax.declared.scope.Kind.TheVariants.{Chan, Var}
use Rattle.occ_law.specs.occ_syntax.Scopes.{Environment, Values, environment, values}
use Rattle.occ_law.specs.occ_syntax.Tree.{Exp, numeral, operation, truth, variable, input, output, ready, Tree, alt, assign, connect, declare, par, receive, select, send, seq, skip, Trees, and_tree, no_tree, and_case, no_case, Branches, and_branch, no_branch}

abbrev pub x : ℕ
x = 0

abbrev pub y : ℕ
y = 1

abbrev pub z : ℕ
z = 2

abbrev pub c : ℕ
c = 3

abbrev pub d : ℕ
d = 4

-- (WORD2 x, y, CHAN OF WORD2 c, d), where the channels may be used in both directions
abbrev pub scope : List (Name × Kind)
scope = (record { 0 = x }, Var (Word 2)) ∷ (record { 0 = y }, Var (Word 2)) ∷ (record { 0 = c }, Chan (Word 2) None)
    ∷ (record { 0 = d }, Chan (Word 2) None) ∷ []

abbrev pub here : Environment
here = environment scope

-- the state in which x and y hold these values
abbrev pub holding : ℕ → ℕ → Values
holding u v = values ((record { 0 = x }, u) ∷ (record { 0 = y }, v) ∷ [])

-- the events c ? v and c ! v of a channel
abbrev pub input_of : ℕ → ℕ → Event
input_of chan v = record { chan = record { 0 = chan }; dir = Input; value = v }

abbrev pub output_of : ℕ → ℕ → Event
output_of chan v = record { chan = record { 0 = chan }; dir = Output; value = v }

abbrev pub word : ℕ → Exp
word v = numeral 2 v

-- name := e
abbrev pub set : ℕ → Exp → Tree
set name e = assign (name ∷ []) (e ∷ [])

-- two parts
abbrev pub both : Tree → Tree → Trees
both p q = and_tree p (and_tree q no_tree)

-- an alternative in front of others
abbrev pub ready_first : Tree → Branches → Branches
ready_first p rest = and_branch (truth true) ready p rest

-- x, y := y, x
abbrev pub exchange : Tree
exchange = assign (x ∷ y ∷ []) (variable y ∷ variable x ∷ [])

-- SEQ(x := y, y := x)
abbrev pub one_after_another : Tree
one_after_another = seq (both (set x (variable y)) (set y (variable x)))

-- CHAN OF WORD2 c, d: PAR(SEQ(c ! x, d ? x), WORD2 z: SEQ(c ? z, d ! y, y := z))
abbrev pub swapping : Tree
swapping = connect c (Word 2) (connect d (Word 2) (par (both (seq (both (send c (variable x)) (receive d x)))
    (declare z (Word 2) (seq (and_tree (receive c z) (both (send d (variable y)) (set y (variable z)))))))))

-- CHAN OF WORD2 c: c ! 1
abbrev pub hidden_output : Tree
hidden_output = connect c (Word 2) (send c (word 1))

-- ALT(c ? x SKIP, TRUE & SKIP SKIP)
abbrev pub beside_ready : Tree
beside_ready = alt (and_branch (truth true) (input c x) skip (ready_first skip no_branch))

-- ALT(TRUE & SKIP c ! 1, TRUE & SKIP d ! 1)
abbrev pub inside_chooses : Tree
inside_chooses = alt (ready_first (send c (word 1)) (ready_first (send d (word 1)) no_branch))

-- ALT(c ! 1 SKIP, d ! 1 SKIP)
abbrev pub outside_chooses : Tree
outside_chooses = alt (and_branch (truth true) (output c (word 1)) skip (and_branch (truth true) (output d (word 1)) skip no_branch))

-- ALT(c ? x p)
abbrev pub behind_input : Tree → Tree
behind_input p = alt (and_branch (truth true) (input c x) p no_branch)

-- x = 1
abbrev pub x_is_one : Exp
x_is_one = operation Equal (variable x) (word 1)

-- x PLUS 1
abbrev pub x_and_one : Exp
x_and_one = operation Plus (variable x) (word 1)

-- IF(e p)
abbrev pub if_then : Exp → Tree → Tree
if_then e p = select (and_case e p no_case)

-- IF(e p, TRUE q)
abbrev pub if_else : Exp → Tree → Tree → Tree
if_else e p q = select (and_case e p (and_case (truth true) q no_case))

-- CHAN OF WORD2 d: PAR(d ! x, d ? y)
abbrev pub passing : Tree
passing = connect d (Word 2) (par (both (send d (variable x)) (receive d y)))

-- WORD2 z: y := z
abbrev pub any_value : Tree
any_value = declare z (Word 2) (set y (variable z))
