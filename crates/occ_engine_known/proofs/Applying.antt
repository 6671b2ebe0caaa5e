-- What a law makes of a part is one part, and a wish is granted by one move.
use Rattle.std.proofs.Common.{◌≡◌, ◌∙◌, ℕ, List, Option, Some, None, ap, sym, subst}
use Rattle.occ_engine.specs.occ_base.declared.names.Name.{Name}
use Rattle.occ_engine.specs.occ_replay_rules.Moves.{IsApplied, IsGranted, Move, Wish}
use Rattle.occ_engine.proofs.from_law_sound.Direct.{direct_once}
use Rattle.occ_engine.specs.occ_meaning.Context.{part_at}
use Rattle.occ_engine.specs.occ_replay_rules.Steps.{Joins}
use Rattle.occ_engine.specs.occ_script_lines.declared.direction.Direction.{Direction}
use Rattle.occ_engine.specs.occ_script_lines.declared.direction.Direction.TheVariants as direction
use Rattle.occ_engine.specs.occ_script_lines.Places.{scope_list}
use Rattle.occ_engine.specs.occ_syntax.declared.scope.Kind.{Kind}
use Rattle.occ_engine.specs.occ_syntax.Tree.{Tree}

-- a value isn't there and there
pub none_some : {A : Type 0} (o : Option A) (x : A) → o ≡ None → o ≡ Some x → ⊥
none_some o x h k = cc

pub same_some : {A : Type 0} (o : Option A) (x y : A) → o ≡ Some x → o ≡ Some y → x ≡ y
same_some o x y h k = cc

pub applied_once : (dir : Direction) (n : ℕ) (S : List (Name × Kind)) (wanted : Option Tree) (old new other : Tree)
    → IsApplied dir n S wanted old new → IsApplied dir n S wanted old other → new ≡ other
applied_once direction.Forward n S (Some part) old new other a b = a.0 ∙ sym b.0
applied_once direction.Backward n S (Some part) old new other a b = a.0 ∙ sym b.0
applied_once direction.Forward n S None old new other a b = direct_once n S old new other a b
applied_once direction.Backward n S None old new other a b = absurd a

-- what is applied where a part is wanted: that part, and the law joins the two
pub applied_wanted : (dir : Direction) (n : ℕ) (S : List (Name × Kind)) (part old new : Tree) → IsApplied dir n S (Some part) old new
    → (new ≡ part) × Joins dir n S old part
applied_wanted direction.Forward n S part old new a = a
applied_wanted direction.Backward n S part old new a = a

abbrev made : ℕ → Direction → List ℕ → Tree → Move
made law dir path part = record { law = law; dir = dir; path = path; part = part }

-- moves with one law, way, path and part are one
same_moves : (a b : Move) → a.law ≡ b.law → a.dir ≡ b.dir → a.path ≡ b.path → a.part ≡ b.part → a ≡ b
same_moves a b e f g h =
    ap (λ z. made z a.dir a.path a.part) e ∙ ap (λ z. made b.law z a.path a.part) f ∙ ap (λ z. made b.law b.dir z a.part) g
    ∙ ap (made b.law b.dir b.path) h

-- what the law of a wish makes of a part at its path
abbrev pub Makes : List (Name × Kind) → Tree → Wish → Tree → Tree → Type 0
Makes S p wish old new = IsApplied wish.dir wish.law (scope_list wish.path S p) wish.wanted old new

-- a wish is granted with what its law makes of the part there
pub granted_part : (S : List (Name × Kind)) (p : Tree) (wish : Wish) (move : Move) (old new : Tree) → IsGranted S p wish move
    → part_at wish.path p ≡ Some old → Makes S p wish old new → move.part ≡ new
granted_part S p wish move old new g e a =
    applied_once wish.dir wish.law (scope_list wish.path S p) wish.wanted old move.part new
    (subst (λ z. Makes S p wish z move.part) (same_some _ g.old old g.there e) g.applied) a

pub granted_once : (S : List (Name × Kind)) (p : Tree) (wish : Wish) (a b : Move) → IsGranted S p wish a → IsGranted S p wish b → a ≡ b
granted_once S p wish a b g h =
    same_moves a b (g.law ∙ sym h.law) (g.dir ∙ sym h.dir) (g.path ∙ sym h.path) (granted_part S p wish a h.old b.part g h.there h.applied)
