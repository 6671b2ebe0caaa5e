-- Each law of the table leads to parts that are the same.
use Rattle.occ_law.specs.occ_base.declared.names.Name.{Name}
use Rattle.occ_law_sound.proofs.ChoiceSound.{choice_sound}
use Rattle.occ_law_sound.proofs.ParSound.{parallel_sound}
use Rattle.occ_law.specs.RuleTable.{LAW, SIDES}
use Rattle.occ_law_sound.proofs.ScopeSound.{scope_sound}
use Rattle.occ_law_sound.proofs.SeqSound.{sequence_sound}
use Rattle.occ_law.proofs.from_meaning.Facts.{either}
use Rattle.occ_law.specs.occ_syntax.Same.{SAME}
use Rattle.occ_law.specs.occ_syntax.Scopes.{environment}
use Rattle.occ_law.specs.occ_syntax.Tree.{Tree}
use Rattle.occ_law.specs.occ_syntax.Usage.{Keeps}
use Rattle.occ_law.specs.occ_syntax.declared.scope.Kind.{Kind}
use Rattle.std.proofs.Common.{List, nat_le, ℕ}

sides_sound : (n : ℕ) (S : List (Name × Kind)) (ks : List ℕ) (l r : Tree) → Keeps (environment S) l → SIDES n S ks l r
    → SAME (environment S) l r
sides_sound n S ks l r k =
    either (nat_le n 15) (sequence_sound n S ks l r k.types) (either (nat_le n 36) (choice_sound n S ks l r k.types)
    (either (nat_le n 45) (parallel_sound n S ks l r k) (scope_sound n S ks l r k.types)))

pub all_sound : (n : ℕ) (S : List (Name × Kind)) (l r : Tree) → LAW n S l r → SAME (environment S) l r
all_sound n S l r h = sides_sound n S h.place l r h.left h.sides
