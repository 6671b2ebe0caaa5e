-- An expansion is one list of moves, or it has one fault.
use Rattle.std.proofs.Common.{◌≡◌, ◌∙◌, ℕ, List, Some, None, ap, subst}
use Rattle.occ_engine.specs.occ_base.declared.names.Name.{Name}
use Rattle.occ_engine_known.proofs.Applying.{Makes, granted_once, granted_part, none_some, same_some}
use Rattle.occ_engine_known.proofs.Chains.{Chain, and_link, never_barred, no_link, one_chain}
use Rattle.occ_engine.specs.occ_replay_rules.Expansion.{Grants, IsBlocked, IsExpanded, IsNoPar, and_wish, expanding, no_wish}
use Rattle.occ_engine.specs.occ_replay_rules.Moves.{IsAdmitted, IsGranted, Move, Wish}
use Rattle.occ_engine.specs.occ_meaning.Context.{part_at, put}
use Rattle.occ_engine.specs.occ_meaning.Parallel.{two}
use Rattle.occ_engine.specs.occ_syntax.Tree.{Tree, par}
use Rattle.occ_engine.specs.occ_syntax.declared.scope.Kind.{Kind}

chain_of : (S : List (Name × Kind)) (p q : Tree) (wishes : List Wish) (moves : List Move) → Grants S p wishes moves q
    → Chain (IsGranted S) p wishes moves q
chain_of S p q wishes moves (no_wish a) = no_link a
chain_of S p q wishes moves (and_wish a b wish others move rest g further) =
    and_link a b wish others move rest g (chain_of S (put move.path a move.part) b others rest further)

-- one part is a PAR of two parts in one way
same_pair : (a b c d : Tree) → par (two a b) ≡ par (two c d) → (a ≡ c) × (b ≡ d)
same_pair a b c d e = ((cc), (cc))

same_wishes : (p : Tree) (path : List ℕ) (a b c d : Tree) → part_at path p ≡ Some (par (two a b))
    → part_at path p ≡ Some (par (two c d)) → expanding path a b ≡ expanding path c d
same_wishes p path a b c d e f =
    let k = same_pair a b c d (same_some _ _ _ e f) in
    ap (λ z. expanding path z b) k.0 ∙ ap (expanding path c) k.1

pub one_expansion : (S : List (Name × Kind)) (p q r : Tree) (path : List ℕ) (moves others : List Move) → IsExpanded S p path moves q
    → IsExpanded S p path others r → (moves ≡ others) × (q ≡ r)
one_expansion S p q r path moves others e f =
    let same = same_wishes p path f.first f.second e.first e.second f.there e.there in
    one_chain (IsGranted S) (granted_once S) p q r (expanding path e.first e.second) moves others (chain_of S p q _ moves e.granted)
    (subst (λ z. Chain (IsGranted S) p z others r) same (chain_of S p r _ others f.granted))

-- a wish is applied, and what comes of it may not be put in
record IsRefused (S : List (Name × Kind)) (p : Tree) (wish : Wish) : Type 0 where
  pub old : Tree
  pub new : Tree
  pub there : part_at wish.path p ≡ Some old
  pub applied : Makes S p wish old new
  pub refused : IsAdmitted S p wish.path new → ⊥

refused_never : (S : List (Name × Kind)) (p : Tree) (wish : Wish) (move : Move) → IsRefused S p wish → IsGranted S p wish move → ⊥
refused_never S p wish move b g =
    b.refused (subst (IsAdmitted S p wish.path) (granted_part S p wish move b.old b.new g b.there b.applied) g.admitted)

never_blocked : (S : List (Name × Kind)) (p q : Tree) (path : List ℕ) (moves : List Move) → IsExpanded S p path moves q
    → IsBlocked S p path → ⊥
never_blocked S p q path moves e b =
    never_barred (IsGranted S) (IsRefused S) (granted_once S) (refused_never S) p q b.here (expanding path e.first e.second) b.front b.rest
    b.wish moves b.moves (chain_of S p q _ moves e.granted)
    (same_wishes p path e.first e.second b.first b.second e.there b.there ∙ b.parts) (chain_of S p b.here b.front b.moves b.granted)
    (record { old = b.old; new = b.new; there = b.old_there; applied = b.applied; refused = b.refused })

pub no_fault : (S : List (Name × Kind)) (p q : Tree) (path : List ℕ) (moves : List Move) → IsExpanded S p path moves q
    → (part_at path p ≡ None → ⊥) × (IsNoPar p path → ⊥) × (IsBlocked S p path → ⊥)
no_fault S p q path moves e = (
  (λ h. none_some _ _ h e.there),
  (λ h. h.other e.first e.second (same_some _ _ _ h.there e.there)),
  (λ b. never_blocked S p q path moves e b),
)

pub one_fault : (S : List (Name × Kind)) (p : Tree) (path : List ℕ)
    → (part_at path p ≡ None → IsNoPar p path → ⊥) × (part_at path p ≡ None → IsBlocked S p path → ⊥)
    × (IsNoPar p path → IsBlocked S p path → ⊥)
one_fault S p path = (
  (λ h n. none_some _ _ h n.there),
  (λ h b. none_some _ _ h b.there),
  (λ n b. n.other b.first b.second (same_some _ _ _ n.there b.there)),
)
