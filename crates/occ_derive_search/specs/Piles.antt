-- The machine that builds steps, and what each instruction does.
use Rattle.std.specs.Prelude.{ℕ, suc, zero, Bool, nat_lt, ◌&&◌, List, [], ◌∷◌, ◌++◌, Option, None, Some, ◌≡◌, if◌then◌else◌}
use Rattle.occ_syntax.specs.occ_base.declared.width.Width.{Width}
use Rattle.occ_syntax.specs.occ_base.declared.width.Width.TheVariants.{Bool as TruthValue, Word}
use Rattle.occ_derive_search.specs.declared.instruction.Instruction.{Instruction}
use Rattle.occ_derive_search.specs.declared.instruction.Instruction.TheVariants as instruction
use Rattle.occ_derive_search.specs.Longer.{longer_alt, longer_assignment, longer_if, longer_row}
use Rattle.occ_derive_moves.specs.occ_replay_rules.Moves.{Move}
use Rattle.occ_syntax.specs.Tree.{Exp, variable, numeral, truth, negation, complement, operation, Waiting, ready, input, output, Tree, skip, stop, assign, receive, send, seq, par, select, alt, declare, connect, no_tree, no_case, no_branch}

-- What the machine holds: a number and one that is kept; piles of expressions, of waits and of parts, the last first; the path of the
-- step to come; and the steps so far, in order.
pub record Held : Type 0 where
  pub number : ℕ
  pub kept : ℕ
  pub exps : List Exp
  pub waits : List Waiting
  pub parts : List Tree
  pub path : List ℕ
  pub moves : List Move

-- it holds nothing
abbrev pub nothing : Held
nothing = record { number = 0; kept = 0; exps = []; waits = []; parts = []; path = []; moves = [] }

-- both numbers begin again
abbrev pub begun : Held → Held
begun held = record held { number = 0; kept = 0 }

-- one item more on a pile
abbrev pub and_exp : Exp → Held → Held
and_exp e held = record held { exps = e ∷ held.exps }

abbrev pub and_wait : Waiting → Held → Held
and_wait w held = record held { waits = w ∷ held.waits }

abbrev pub and_part : Tree → Held → Held
and_part p held = record held { parts = p ∷ held.parts }

-- what comes of the last item of a pile and of the others, where there is one
abbrev pub with_last : {A : Type 0} → List A → (A → List A → Option Held) → Option Held
with_last [] makes = None
with_last (x ∷ xs) makes = makes x xs

-- what comes of the last expression
abbrev pub with_exp : Held → (Exp → Held → Option Held) → Option Held
with_exp held makes = with_last held.exps (λ e es. makes e (record held { exps = es }))

abbrev pub with_wait : Held → (Waiting → Held → Option Held) → Option Held
with_wait held makes = with_last held.waits (λ w ws. makes w (record held { waits = ws }))

abbrev pub with_part : Held → (Tree → Held → Option Held) → Option Held
with_part held makes = with_last held.parts (λ p ps. makes p (record held { parts = ps }))

-- a part is put on the pile, where there is one
abbrev pub and_made : Option Tree → Held → Option Held
and_made None held = None
and_made (Some p) held = Some (and_part p held)

-- only where the test is true
abbrev pub where_true : Bool → Option Held → Option Held
where_true b result = if b then result else None

-- the width of that number of bits; 0 stands for that of a truth value
abbrev pub width_of : ℕ → Width
width_of zero = TruthValue
width_of (suc n) = Word (suc n)

-- What an instruction makes of what the machine holds. None where it asks for more items than there are, or for others, and where
-- a number is too great.
abbrev pub does : Instruction → Held → Option Held
does instruction.More held = Some (record held { number = suc held.number })
does instruction.Keep held = Some (record held { number = 0; kept = held.number })
does instruction.Variable held = Some (and_exp (variable held.number) (begun held))
does instruction.Word held =
    where_true (nat_lt held.kept 256 && nat_lt held.number 256) (Some (and_exp (numeral held.kept held.number) (begun held)))
does (instruction.Truth b) held = Some (and_exp (truth b) held)
does instruction.Not held = with_exp held (λ e rest. Some (and_exp (negation e) rest))
does instruction.Flip held = with_exp held (λ e rest. Some (and_exp (complement e) rest))
does (instruction.Two op) held = with_exp held (λ right rest. with_exp rest (λ left rest. Some (and_exp (operation op left right) rest)))
does instruction.Ready held = Some (and_wait ready held)
does instruction.Get held = Some (and_wait (input held.kept held.number) (begun held))
does instruction.Put held = with_exp held (λ e rest. Some (and_wait (output rest.number e) (begun rest)))
does instruction.Skip held = Some (and_part skip held)
does instruction.Stop held = Some (and_part stop held)
does instruction.Assign held = Some (and_part (assign [] []) held)
does instruction.AndPair held =
    with_exp held (λ e rest. with_part rest (λ whole rest. and_made (longer_assignment whole rest.number e) (begun rest)))
does instruction.Input held = Some (and_part (receive held.kept held.number) (begun held))
does instruction.Output held = with_exp held (λ e rest. Some (and_part (send rest.number e) (begun rest)))
does instruction.Seq held = Some (and_part (seq no_tree) held)
does instruction.Par held = Some (and_part (par no_tree) held)
does instruction.AndPart held = with_part held (λ p rest. with_part rest (λ whole rest. and_made (longer_row whole p) rest))
does instruction.If held = Some (and_part (select no_case) held)
does instruction.AndChoice held =
    with_exp held (λ e rest. with_part rest (λ p rest. with_part rest (λ whole rest. and_made (longer_if whole e p) rest)))
does instruction.Alt held = Some (and_part (alt no_branch) held)
does instruction.AndBranch held =
    with_exp held (λ e rest. with_wait rest (λ w rest. with_part rest (λ p rest. with_part rest (λ whole rest.
    and_made (longer_alt whole e w p) rest))))
does instruction.Var held =
    with_part held (λ p rest. where_true (nat_lt rest.kept 256) (Some (and_part (declare rest.number (width_of rest.kept) p) (begun rest))))
does instruction.Chan held =
    with_part held (λ p rest. where_true (nat_lt rest.kept 256) (Some (and_part (connect rest.number (width_of rest.kept) p) (begun rest))))
does instruction.Enter held = Some (record held { number = 0; kept = 0; path = held.path ++ held.number ∷ [] })
does (instruction.Step dir) held = with_part held (λ p rest. where_true (nat_lt rest.number 256) (Some (record rest {
  number = 0;
  kept = 0;
  path = [];
  moves = rest.moves ++ record { law = rest.number; dir = dir; path = rest.path; part = p } ∷ [];
})))

-- one state of the machine leads to the other by an instruction, where it can be followed
abbrev pub Obeys : Instruction → Held → Held → Type 0
Obeys instruction before after = (next : Held) → does instruction before ≡ Some next → after ≡ next
