-- Two programs mean the same exactly where each refines the other.
use Rattle.std.proofs.Common.{◌≡◌, ◌↔◌, true, List}
use Rattle.occ_compare.proofs.from_meaning.Alike.{same_back}
use Rattle.occ_compare.specs.Programs.{Refines}
use Rattle.occ_refine_laws.proofs.EachWithin.{IsWithin, same_from_both, within_from_same}
use Rattle.occ_syntax.specs.Same.{SAME}
use Rattle.occ_syntax.specs.Scopes.{environment}
use Rattle.occ_syntax.specs.Tree.{Tree}
use Rattle.occ_syntax.specs.Types.{scope_kept, types_kept}
use Rattle.occ_syntax.specs.declared.scope.Kind.{Kind}
use Rattle.occ_syntax.specs.occ_base.declared.names.Name.{Name}

within : (ps : List (Name × Kind)) (p q : Tree) → Refines ps p q → IsWithin ps p q
within ps p q r = record { failing = λ s h t X d. (r s h).fails t X d; ending = λ s u h k t d. ((r s h).ends t u (k, d)).1 }

refines : (ps : List (Name × Kind)) (p q : Tree) → IsWithin ps p q → Refines ps p q
refines ps p q w = λ s h. record { fails = λ t X d. w.failing s h t X d; ends = λ t u d. (d.0, w.ending s u h d.0 t d.1) }

pub each_refines : (ps : List (Name × Kind)) (p q : Tree) → scope_kept ps ≡ true → types_kept p (environment ps) ≡ true → types_kept q (environment ps) ≡ true
    → SAME (environment ps) p q ↔ (Refines ps p q × Refines ps q p)
each_refines ps p q kept hp hq = (
  λ same. (refines ps p q (within_from_same ps kept p q hp same), refines ps q p (within_from_same ps kept q p hq (same_back (environment ps) p q same))),
  λ both. same_from_both ps kept p q hp hq (within ps p q both.0) (within ps q p both.1),
)
