-- An expansion asks for nothing that a law doesn't make: what its wishes ask for is always there.
use Rattle.std.proofs.Common.{◌≡◌, ◌∙◌, ℕ, true, false, ◌&&◌, List, [], ◌∷◌, ◌++◌, append-nil, Some, refl, sym, ap, subst}
use Rattle.std.proofs.lemmas.Bool.{and_parts}
use Rattle.occ_syntax.specs.occ_base.declared.names.Name.{Name}
use Rattle.occ_engine.proofs.Keeping.{expansion_kept, input_alt_kept, output_alt_kept, seq_alt_kept, skip_alt_kept}
use Rattle.occ_engine.proofs.Reaching.{Goes, IsReached, and_goes, at_end, goes_on, reached}
use Rattle.occ_replay_rules.specs.Expansion.{Grants, alt_skip as alt_skip_number, expanding, forward, io_alt, par_expand as par_expand_number, preparing, seq_alt as seq_alt_number, sequencing, wrapping}
use Rattle.occ_replay_rules.specs.Moves.{IsApplied, Move, Wish}
use Rattle.occ_script_write.specs.occ_law.Choice.{alt_skip, and_skip}
use Rattle.occ_script_write.specs.occ_law.Parallel.{expanded, par_expand}
use Rattle.occ_script_write.specs.occ_law.Sequence.{IoAlt, SeqAlt, each_branch_before, input_alt, output_alt, seq_alt}
use Rattle.occ_script_write.specs.occ_law.RuleTable.{DIRECT_SIDES, IsDirect, is_before}
use Rattle.occ_script_write.proofs.from_meaning.Places.{part_keeps}
use Rattle.occ_script_write.specs.occ_meaning.Context.{part_at, put}
use Rattle.occ_script_write.specs.occ_meaning.Parallel.{two}
use Rattle.occ_script_write.proofs.from_script_lines.Scoping.{scopes}
use Rattle.occ_script_write.specs.occ_script_lines.declared.direction.Direction.TheVariants as direction
use Rattle.occ_script_write.specs.occ_script_lines.Places.{scope_list}
use Rattle.occ_syntax.specs.declared.scope.Kind.{Kind}
use Rattle.occ_syntax.specs.Scopes.{environment}
use Rattle.occ_syntax.specs.Tree.{Exp, truth, input, output, Tree, skip, stop, assign, receive, send, seq, par, select, alt, declare, connect, Trees, no_tree, and_tree, Branches, no_branch, and_branch}
use Rattle.occ_syntax.specs.Types.{all_types_kept, scope_kept, types_kept}
use Rattle.occ_syntax.specs.Usage.{Keeps}

-- ---- what the laws make, and that they make it

abbrev IsAlt : Tree → Type 0
IsAlt r = (gs : Branches) × (r ≡ alt gs)

-- no list stands in front of none
none_before : (other : List ℕ) → is_before other [] ≡ false
none_before [] = refl
none_before (j ∷ js) = refl

direct : (n : ℕ) (T : List (Name × Kind)) (l r : Tree) → DIRECT_SIDES n T [] l r → (l ≡ r → ⊥) → Keeps (environment T) l → Keeps (environment T) r → IsDirect n T l r
direct n T l r sides differ left right = record {
  place = [];
  change = record { sides = sides; differ = differ; left = left; right = right };
  least = λ other q c. none_before other;
}

receive_apart : (c x : ℕ) (gs : Branches) → receive c x ≡ alt gs → ⊥
receive_apart c x gs e = cc

send_apart : (c : ℕ) (e : Exp) (gs : Branches) → send c e ≡ alt gs → ⊥
send_apart c e gs h = cc

seq_apart : (ps : Trees) (gs : Branches) → seq ps ≡ alt gs → ⊥
seq_apart ps gs h = cc

par_apart : (ps : Trees) (gs : Branches) → par ps ≡ alt gs → ⊥
par_apart ps gs h = cc

io_is_alt : (ks : List ℕ) (l r : Tree) → IoAlt ks l r → IsAlt r
io_is_alt ks l r (output_alt c e) = (and_branch (truth true) (output c e) skip no_branch, refl)
io_is_alt ks l r (input_alt c x) = (and_branch (truth true) (input c x) skip no_branch, refl)

seq_is_alt : (ks : List ℕ) (l r : Tree) → SeqAlt ks l r → IsAlt r
seq_is_alt ks l r (seq_alt gs qs) = (each_branch_before gs qs, refl)

-- a communication as an ALT
record IsCommunication (T : List (Name × Kind)) (p : Tree) : Type 0 where
  new : Tree
  made : IsDirect io_alt T p new

inputs : (T : List (Name × Kind)) (c x : ℕ) → Keeps (environment T) (receive c x) → IsCommunication T (receive c x)
inputs T c x k = record {
  new = alt (and_branch (truth true) (input c x) skip no_branch);
  made = direct io_alt T (receive c x) (alt (and_branch (truth true) (input c x) skip no_branch)) (input_alt c x)
      (receive_apart c x (and_branch (truth true) (input c x) skip no_branch)) k (input_alt_kept (environment T) c x k);
}

outputs : (T : List (Name × Kind)) (c : ℕ) (e : Exp) → Keeps (environment T) (send c e) → IsCommunication T (send c e)
outputs T c e k = record {
  new = alt (and_branch (truth true) (output c e) skip no_branch);
  made = direct io_alt T (send c e) (alt (and_branch (truth true) (output c e) skip no_branch)) (output_alt c e)
      (send_apart c e (and_branch (truth true) (output c e) skip no_branch)) k (output_alt_kept (environment T) c e k);
}

-- ---- a part of a PAR

-- a process stands in the hole at a place of another one, which declares nothing
record IsHole (T : List (Name × Kind)) (i : ℕ) (hole : Tree → Tree) : Type 0 where
  part : (sub : List ℕ) (z : Tree) → part_at (i ∷ sub) (hole z) ≡ part_at sub z
  scope : (sub : List ℕ) (z : Tree) → scope_list (i ∷ sub) T (hole z) ≡ scope_list sub T z
  put_in : (sub : List ℕ) (z r : Tree) → put (i ∷ sub) (hole z) r ≡ hole (put sub z r)
  keeps : (z : Tree) → Keeps (environment T) (hole z) → Keeps (environment T) z

first_hole : (T : List (Name × Kind)) (q : Tree) → IsHole T 0 (λ z. par (two z q))
first_hole T q = record {
  part = λ sub z. refl;
  scope = λ sub z. ap (λ U. scope_list sub U z) (append-nil T);
  put_in = λ sub z r. refl;
  keeps = λ z k. record { types = (and_parts (types_kept z (environment T)) (types_kept q (environment T) && true) k.types).0; usage = k.usage.0.0 };
}

second_hole : (T : List (Name × Kind)) (p : Tree) → IsHole T 1 (λ z. par (two p z))
second_hole T p = record {
  part = λ sub z. refl;
  scope = λ sub z. ap (λ U. scope_list sub U z) (append-nil T);
  put_in = λ sub z r. refl;
  keeps = λ z k. record {
    types = (and_parts (types_kept z (environment T)) true (and_parts (types_kept p (environment T)) (types_kept z (environment T) && true) k.types).1).0;
    usage = k.usage.0.1.0;
  };
}

-- what is to be done once an ALT stands in the hole
abbrev Then : List (Name × Kind) → (Tree → Type 0) → (Tree → Tree) → Type 0
Then T K hole = (gs : Branches) → Keeps (environment T) (hole (alt gs)) → K (hole (alt gs))

-- one wish that makes an ALT of the part in the hole
one_goes : (path : List ℕ) (T : List (Name × Kind)) (i : ℕ) (hole : Tree → Tree) (K : Tree → Type 0) (wish : Wish) (p new : Tree) → IsHole T i hole → wish.path ≡ path ++ i ∷ []
    → IsApplied wish.dir wish.law T wish.wanted p new → ((r : Tree) → IsApplied wish.dir wish.law T wish.wanted p r → IsAlt r) → Then T K hole → Goes path T K (wish ∷ []) (hole p)
one_goes path T i hole K wish p new h e applied alts k =
    and_goes (hole p) wish [] (i ∷ []) p new e (h.part [] p) (subst (λ U. IsApplied wish.dir wish.law U wish.wanted p new) (sym (h.scope [] p)) applied)
    (λ r b kept.
    let a = alts r (subst (λ U. IsApplied wish.dir wish.law U wish.wanted p r) (h.scope [] p) b) in
    let same : put (i ∷ []) (hole p) r ≡ hole (alt a.0) = h.put_in [] p r ∙ ap hole a.1 in
    subst (Goes path T K []) (sym same) (at_end (hole (alt a.0)) (k a.0 (subst (Keeps (environment T)) same kept))))

-- an input or an output
communication_goes : (path : List ℕ) (T : List (Name × Kind)) (i : ℕ) (hole : Tree → Tree) (K : Tree → Type 0) (p : Tree) → IsHole T i hole → IsCommunication T p → Then T K hole
    → Goes path T K (forward io_alt (path ++ i ∷ []) ∷ []) (hole p)
communication_goes path T i hole K p h m k =
    one_goes path T i hole K (forward io_alt (path ++ i ∷ [])) p m.new h refl m.made (λ r d. io_is_alt d.place p r d.change.sides) k

-- a SEQ that begins with an ALT
choice_goes : (path : List ℕ) (T : List (Name × Kind)) (i : ℕ) (hole : Tree → Tree) (K : Tree → Type 0) (gs : Branches) (ps : Trees) → IsHole T i hole
    → Keeps (environment T) (hole (seq (and_tree (alt gs) ps))) → Then T K hole → Goes path T K (forward seq_alt_number (path ++ i ∷ []) ∷ []) (hole (seq (and_tree (alt gs) ps)))
choice_goes path T i hole K gs ps h kept k =
    let p = seq (and_tree (alt gs) ps) in
    let here = h.keeps p kept in
    one_goes path T i hole K (forward seq_alt_number (path ++ i ∷ [])) p (alt (each_branch_before gs ps)) h refl
    (direct seq_alt_number T p (alt (each_branch_before gs ps)) (seq_alt gs ps) (seq_apart (and_tree (alt gs) ps) (each_branch_before gs ps)) here
    (seq_alt_kept (environment T) gs ps here)) (λ r d. seq_is_alt d.place p r d.change.sides) k

-- a SEQ that begins with an input or an output
begun_goes : (path : List ℕ) (T : List (Name × Kind)) (i : ℕ) (hole : Tree → Tree) (K : Tree → Type 0) (a : Tree) (ps : Trees) → IsHole T i hole → IsCommunication T a → Then T K hole
    → Goes path T K (forward io_alt ((path ++ i ∷ []) ++ 0 ∷ []) ∷ forward seq_alt_number (path ++ i ∷ []) ∷ []) (hole (seq (and_tree a ps)))
begun_goes path T i hole K a ps h m k =
    let p = seq (and_tree a ps) in
    let scope : scope_list (i ∷ 0 ∷ []) T (hole p) ≡ T = h.scope (0 ∷ []) p ∙ append-nil T in
    and_goes (hole p) (forward io_alt ((path ++ i ∷ []) ++ 0 ∷ [])) (forward seq_alt_number (path ++ i ∷ []) ∷ []) (i ∷ 0 ∷ []) a m.new (longer path i)
    (h.part (0 ∷ []) p) (subst (λ U. IsDirect io_alt U a m.new) (sym scope) m.made)
    (λ r b kept.
    let d = subst (λ U. IsDirect io_alt U a r) scope b in
    let c = io_is_alt d.place a r d.change.sides in
    let same : put (i ∷ 0 ∷ []) (hole p) r ≡ hole (seq (and_tree (alt c.0) ps)) = h.put_in (0 ∷ []) p r ∙ ap (λ z. hole (seq (and_tree z ps))) c.1 in
    subst (Goes path T K (forward seq_alt_number (path ++ i ∷ []) ∷ [])) (sym same) (choice_goes path T i hole K c.0 ps h (subst (Keeps (environment T)) same kept) k))
  where
    longer : (path : List ℕ) (i : ℕ) → (path ++ i ∷ []) ++ 0 ∷ [] ≡ path ++ (i ∷ 0 ∷ [])
    longer [] i = refl
    longer (j ∷ js) i = ap (λ ks. j ∷ ks) (longer js i)

-- any other part
wrapping_goes : (path : List ℕ) (T : List (Name × Kind)) (i : ℕ) (hole : Tree → Tree) (K : Tree → Type 0) (p : Tree) → IsHole T i hole → Keeps (environment T) (hole p) → Then T K hole
    → Goes path T K (wrapping (path ++ i ∷ []) p) (hole p)
wrapping_goes path T i hole K p h kept k =
    let here = h.keeps p kept in
    one_goes path T i hole K (record { law = alt_skip_number; dir = direction.Backward; path = path ++ i ∷ []; wanted = Some (alt (and_skip p no_branch)) }) p
    (alt (and_skip p no_branch)) h refl (refl, record { place = []; sides = alt_skip p; left = skip_alt_kept (environment T) p here; right = here })
    (λ r b. (and_skip p no_branch, b.0)) k

-- ---- the wishes of an expansion

front_kept : (T : List (Name × Kind)) (p : Tree) (ps : Trees) → Keeps (environment T) (seq (and_tree p ps)) → Keeps (environment T) p
front_kept T p ps k = record { types = (and_parts (types_kept p (environment T)) (all_types_kept ps (environment T)) k.types).0; usage = k.usage.0 }

sequencing_goes : (path : List ℕ) (T : List (Name × Kind)) (i : ℕ) (hole : Tree → Tree) (K : Tree → Type 0) (ps : Trees) → IsHole T i hole → Keeps (environment T) (hole (seq ps)) → Then T K hole
    → Goes path T K (sequencing (path ++ i ∷ []) ps) (hole (seq ps))
sequencing_goes path T i hole K no_tree h kept k = wrapping_goes path T i hole K (seq no_tree) h kept k
sequencing_goes path T i hole K (and_tree (receive c x) ps) h kept k =
    begun_goes path T i hole K (receive c x) ps h (inputs T c x (front_kept T (receive c x) ps (h.keeps _ kept))) k
sequencing_goes path T i hole K (and_tree (send c e) ps) h kept k =
    begun_goes path T i hole K (send c e) ps h (outputs T c e (front_kept T (send c e) ps (h.keeps _ kept))) k
sequencing_goes path T i hole K (and_tree (alt gs) ps) h kept k = choice_goes path T i hole K gs ps h kept k
sequencing_goes path T i hole K (and_tree skip ps) h kept k = wrapping_goes path T i hole K (seq (and_tree skip ps)) h kept k
sequencing_goes path T i hole K (and_tree stop ps) h kept k = wrapping_goes path T i hole K (seq (and_tree stop ps)) h kept k
sequencing_goes path T i hole K (and_tree (assign xs es) ps) h kept k = wrapping_goes path T i hole K (seq (and_tree (assign xs es) ps)) h kept k
sequencing_goes path T i hole K (and_tree (seq qs) ps) h kept k = wrapping_goes path T i hole K (seq (and_tree (seq qs) ps)) h kept k
sequencing_goes path T i hole K (and_tree (par qs) ps) h kept k = wrapping_goes path T i hole K (seq (and_tree (par qs) ps)) h kept k
sequencing_goes path T i hole K (and_tree (select cs) ps) h kept k = wrapping_goes path T i hole K (seq (and_tree (select cs) ps)) h kept k
sequencing_goes path T i hole K (and_tree (declare x w p) ps) h kept k = wrapping_goes path T i hole K (seq (and_tree (declare x w p) ps)) h kept k
sequencing_goes path T i hole K (and_tree (connect c w p) ps) h kept k = wrapping_goes path T i hole K (seq (and_tree (connect c w p) ps)) h kept k

preparing_goes : (path : List ℕ) (T : List (Name × Kind)) (i : ℕ) (hole : Tree → Tree) (K : Tree → Type 0) (p : Tree) → IsHole T i hole → Keeps (environment T) (hole p) → Then T K hole
    → Goes path T K (preparing (path ++ i ∷ []) p) (hole p)
preparing_goes path T i hole K (alt gs) h kept k = at_end (hole (alt gs)) (k gs kept)
preparing_goes path T i hole K (receive c x) h kept k = communication_goes path T i hole K (receive c x) h (inputs T c x (h.keeps _ kept)) k
preparing_goes path T i hole K (send c e) h kept k = communication_goes path T i hole K (send c e) h (outputs T c e (h.keeps _ kept)) k
preparing_goes path T i hole K (seq ps) h kept k = sequencing_goes path T i hole K ps h kept k
preparing_goes path T i hole K skip h kept k = wrapping_goes path T i hole K skip h kept k
preparing_goes path T i hole K stop h kept k = wrapping_goes path T i hole K stop h kept k
preparing_goes path T i hole K (assign xs es) h kept k = wrapping_goes path T i hole K (assign xs es) h kept k
preparing_goes path T i hole K (par ps) h kept k = wrapping_goes path T i hole K (par ps) h kept k
preparing_goes path T i hole K (select cs) h kept k = wrapping_goes path T i hole K (select cs) h kept k
preparing_goes path T i hole K (declare x w p) h kept k = wrapping_goes path T i hole K (declare x w p) h kept k
preparing_goes path T i hole K (connect c w p) h kept k = wrapping_goes path T i hole K (connect c w p) h kept k

abbrev Anything : Tree → Type 0
Anything t = Unit {0}

last_goes : (path : List ℕ) (T : List (Name × Kind)) (ls ms : Branches) → Keeps (environment T) (par (two (alt ls) (alt ms)))
    → Goes path T Anything (forward par_expand_number path ∷ []) (par (two (alt ls) (alt ms)))
last_goes path T ls ms kept =
    let p = par (two (alt ls) (alt ms)) in
    and_goes p (forward par_expand_number path) [] [] p (alt (expanded ls ms)) (sym (append-nil path)) refl
    (direct par_expand_number T p (alt (expanded ls ms)) (par_expand ls ms) (par_apart (two (alt ls) (alt ms)) (expanded ls ms)) kept
    (expansion_kept (environment T) [] p (alt (expanded ls ms)) (par_expand ls ms) kept))
    (λ r b k. at_end r tt)

expanding_goes : (path : List ℕ) (T : List (Name × Kind)) (p q : Tree) → Keeps (environment T) (par (two p q)) → Goes path T Anything (expanding path p q) (par (two p q))
expanding_goes path T p q kept =
    let last = forward par_expand_number path ∷ [] in
    let second = preparing (path ++ 1 ∷ []) q in
    goes_on path T Anything (second ++ last) (preparing (path ++ 0 ∷ []) p) (par (two p q))
    (preparing_goes path T 0 (λ z. par (two z q)) (Goes path T Anything (second ++ last)) p (first_hole T q) kept
    (λ gs there. goes_on path T Anything last second (par (two (alt gs) q))
    (preparing_goes path T 1 (λ z. par (two (alt gs) z)) (Goes path T Anything last) q (second_hole T (alt gs)) there (λ hs done. last_goes path T gs hs done))))

-- Of the wishes of an expansion each one is reached, once those in front of it are granted.
pub expansion_reached : (S : List (Name × Kind)) (p : Tree) (path : List ℕ) (first second : Tree) → scope_kept S ≡ true → Keeps (environment S) p
    → part_at path p ≡ Some (par (two first second)) → (front : List Wish) (wish : Wish) (rest : List Wish) (moves : List Move) (here : Tree)
    → expanding path first second ≡ front ++ wish ∷ rest → Grants S p front moves here → IsReached S here wish
expansion_reached S p path first second scope keeps there =
    let T = scope_list path S p in
    let t = par (two first second) in
    let kept : Keeps (environment T) t =
    subst (λ Δ. Keeps Δ t) (sym (scopes path S p scope keeps.types).gives) (part_keeps path (environment S) p t keeps there) in
    reached path S T Anything (expanding path first second) p t (record { scope = scope; keeps = keeps; there = there; scope_there = refl })
    (expanding_goes path T first second kept)
