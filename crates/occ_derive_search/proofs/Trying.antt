-- A row of digits is tried, and goes on to the next.
use Rattle.std.proofs.Common.{◌≡◌, ℕ, List, None, sym, subst}
use Rattle.occ_derive_search.specs.Derivations.{AreFollowed, IsDerived}
use Rattle.occ_derive_search.specs.Codes.{Spells}
use Rattle.occ_derive_search.specs.Attempts.{IsAttempt}
use Rattle.occ_derive_moves.proofs.Steps.{one_end}
use Rattle.occ_derive_moves.specs.Steps.{Steps}
use Rattle.occ_engine.specs.Followed.{ended}
use Rattle.occ_engine.specs.Moved.{moves_of}
use Rattle.occ_derive_moves.specs.occ_replay_rules.Moves.{Move}
use Rattle.occ_engine.specs.occ_script_write.declared.writing.Done.{Done}
use Rattle.occ_syntax.specs.declared.scope.Program.{Program}
use Rattle.occ_syntax.specs.Tree.{Tree}
use Rattle.occ_syntax.specs.View.{tree}

-- what a row was read as: the steps that it spells
abbrev pub AreRead : List ℕ → List Done → Type 0
AreRead code steps = (moves : List Move) → Spells code moves → moves_of steps ≡ moves

-- steps that lead nowhere aren't a derivation
pub not_followed : (from : Program) (q : Tree) (code : List ℕ) (steps : List Done) → AreRead code steps → AreFollowed from steps None → IsAttempt from q code None
not_followed from q code steps read nowhere moves spells led =
    nowhere q (subst (λ ms. Steps from.params (tree from.body) ms q) (sym (read moves spells)) led)

-- steps that lead to another body neither
pub elsewhere : (from to : Program) (q : Tree) (code : List ℕ) (steps : List Done) → AreRead code steps → IsDerived from (ended steps to) → (tree to.body ≡ q → ⊥) → IsAttempt from q code None
elsewhere from to q code steps read derived other moves spells led =
    other (one_end from.params (tree from.body) (tree to.body) q (moves_of steps) derived.steps
    (subst (λ ms. Steps from.params (tree from.body) ms q) (sym (read moves spells)) led))
