-- Steps undone, and steps joined with others.
use Rattle.std.proofs.Common.{◌≡◌, ◌∙◌, ℕ, ◌≤◌, List, [], ◌∷◌, ◌++◌, length, reverse, Some, None, refl, sym, ap, subst, append_assoc, append-nil}
use Rattle.std.proofs.lemmas.Grind.{reverse_onto}
use Rattle.std.proofs.lemmas.List.{map-append}
use Rattle.std.specs.List.{AllByRecursion}
use Rattle.occ_syntax.specs.occ_base.declared.names.Name.{Name}
use Rattle.occ_tool_run.specs.occ_derive_search.Derivations.{IsDerived}
use Rattle.occ_tool_run.proofs.from_derive_moves.Steps.{begun}
use Rattle.occ_tool_run.specs.occ_derive_moves.Steps.{Steps}
use Rattle.occ_tool_run.specs.occ_engine.declared.outcome.Outcome.{Outcome}
use Rattle.occ_tool_run.specs.occ_engine.Moved.{move_of, moves_of}
use Rattle.occ_tool_run.specs.occ_engine.Outcomes.{IsTabled}
use Rattle.occ_tool_run.specs.occ_replay_rules.Moves.{Move}
use Rattle.occ_tool_run.proofs.from_meaning.Facts.{none_not_some, some_is}
use Rattle.occ_tool_run.specs.occ_meaning.Context.{child, part_at, put}
use Rattle.occ_tool_run.proofs.from_print.Lists.{all-append}
use Rattle.occ_tool_run.specs.occ_print.Known.{PartIsKnown}
use Rattle.occ_prove.specs.Joined.{AreWritable, HaveOneHeader, IsProof}
use Rattle.occ_prove.specs.Undone.{AreUndone, IsUndone}
use Rattle.occ_tool_run.proofs.from_script_back.Known.{child_known, put_known}
use Rattle.occ_tool_run.specs.occ_script_write.declared.writing.Done.{Done}
use Rattle.occ_tool_run.specs.occ_script_write.Text.{IsWritable}
use Rattle.occ_syntax.specs.declared.scope.Kind.{Kind}
use Rattle.occ_syntax.specs.declared.scope.Program.{Program}
use Rattle.occ_syntax.specs.Scopes.{environment}
use Rattle.occ_syntax.specs.Tree.{Tree}
use Rattle.occ_syntax.specs.Usage.{Keeps}
use Rattle.occ_syntax.specs.View.{tree}
use Rattle.std.specs.Option.{option_and_then}

-- ---- undone one after the other

-- Of the steps from one process to another these are left, and those before them have been undone.
pub record IsReturning (S : List (Name × Kind)) (p q : Tree) (all left : List Move) (here : Tree) (back : List Move) : Type 0 where
  pub led : Steps S here left q
  pub undone : (rest : List Move) → AreUndone here left rest → AreUndone p all (back ++ rest)

pub goes_back : (S : List (Name × Kind)) (p q here next : Tree) (all left back now : List Move) (move b : Move) → next ≡ put move.path here move.part → now ≡ back ++ b ∷ [] → IsUndone here move b
    → IsReturning S p q all (move ∷ left) here back → IsReturning S p q all left next now
goes_back S p q here next all left back now move b e f u r = record {
  led = subst (λ z. Steps S z left q) (sym e) (begun S here q move left r.led).1;
  undone = λ rest v.
      subst (AreUndone p all) (sym (append_assoc back (b ∷ []) rest) ∙ ap (λ bs. bs ++ rest) (sym f)) (r.undone (b ∷ rest) (u, subst (λ z. AreUndone z left rest) e v));
}

pub arrives : (S : List (Name × Kind)) (p q here : Tree) (all back : List Move) → IsReturning S p q all [] here back → AreUndone p all back
arrives S p q here all back r = subst (AreUndone p all) (append-nil back) (r.undone [] tt)

-- ---- names

pub part_known : (n : ℕ) (path : List ℕ) (p q : Tree) → PartIsKnown n p → part_at path p ≡ Some q → PartIsKnown n q
part_known n [] p q h e = subst (PartIsKnown n) (some_is e) h
part_known n (i ∷ path) p q h e = below (λ c k f. part_known n path c q k f) (child p i) refl e
  where
    below : ((c : Tree) → PartIsKnown n c → part_at path c ≡ Some q → PartIsKnown n q) → (o : _) → child p i ≡ o → option_and_then (part_at path) o ≡ Some q → PartIsKnown n q
    below ih None is k = none_not_some k
    below ih (Some c) is k = ih c (child_known n p i c is h) k

-- what was undone has known names, where the steps have
pub back_writable : (names : List (List ℕ)) (p : Tree) (steps back : List Done) → PartIsKnown (length names) p → AreWritable names steps
    → AreUndone p (moves_of steps) (moves_of back) → AreWritable names back
back_writable names p [] [] k w u = tt
back_writable names p [] (b ∷ back) k w u = absurd u
back_writable names p (s ∷ steps) [] k w u = absurd u
back_writable names p (s ∷ steps) (b ∷ back) k w u = (
  record {
    low = subst (λ n. 1 ≤ n) (sym u.0.law) w.0.low;
    high = subst (λ n. n ≤ 63) (sym u.0.law) w.0.high;
    known = part_known (length names) s.path p (tree b.part) k u.0.part;
  },
  back_writable names (put s.path p (tree s.part)) steps back (put_known (length names) s.path p (tree s.part) k w.0.known) w.1 u.1,
)

reversed : {X : Type 0} (P : X → Type 0) (xs : List X) → AllByRecursion P xs → AllByRecursion P (reverse xs)
reversed P [] h = tt
reversed P (x ∷ xs) h = subst (AllByRecursion P) (sym (reverse_onto xs x [])) (all-append P (reverse xs) (x ∷ []) (reversed P xs h.1) (h.0, tt))

pub joined_writable : (names : List (List ℕ)) (right : Tree) (there steps back all : List Done) → all ≡ there ++ reverse back → PartIsKnown (length names) right → AreWritable names there
    → AreWritable names steps → AreUndone right (moves_of steps) (moves_of back) → AreWritable names all
joined_writable names right there steps back all e k w v u =
    subst (AreWritable names) (sym e)
    (all-append (IsWritable names) there (reverse back) w (reversed (IsWritable names) back (back_writable names right steps back k v u)))

-- ---- joined

moves_reversed : (steps : List Done) → moves_of (reverse steps) ≡ reverse (moves_of steps)
moves_reversed [] = refl
moves_reversed (s ∷ steps) =
    ap moves_of (reverse_onto steps s []) ∙ (map-append move_of (reverse steps) (s ∷ []) ∙ (ap (λ ms. ms ++ move_of s ∷ []) (moves_reversed steps)
    ∙ sym (reverse_onto (moves_of steps) (move_of s) [])))

-- what was undone has laws of the table, where the steps have
back_tabled : (p : Tree) (steps back : List Done) → AllByRecursion IsTabled steps → AreUndone p (moves_of steps) (moves_of back) → AllByRecursion IsTabled back
back_tabled p [] [] h u = tt
back_tabled p [] (b ∷ back) h u = absurd u
back_tabled p (s ∷ steps) [] h u = absurd u
back_tabled p (s ∷ steps) (b ∷ back) h u = (
  record { low = subst (λ n. 1 ≤ n) (sym u.0.law) h.0.low; high = subst (λ n. n ≤ 63) (sym u.0.law) h.0.high },
  back_tabled (put s.path p (tree s.part)) steps back h.1 u.1,
)

abbrev pub GoOn : Type 0
GoOn = (S : List (Name × Kind)) (p q r : Tree) (moves more : List Move) → Steps S p moves q → Steps S q more r → Steps S p (moves ++ more) r

abbrev pub LeadBack : Type 0
LeadBack = (S : List (Name × Kind)) (p q : Tree) (moves back : List Move) → Keeps (environment S) p → Steps S p moves q → AreUndone p moves back
    → Steps S q (reverse back) p

-- steps to one process from both programs, the second's undone behind the first's, lead from the one program to the other
pub joined_proof : GoOn → LeadBack → (left right : Program) (there o : Outcome) (back all : List Done) → all ≡ there.steps ++ reverse back → HaveOneHeader left right
    → IsDerived left there → IsDerived right o → tree there.to.body ≡ tree o.to.body → Keeps (environment right.params) (tree right.body)
    → AreUndone (tree right.body) (moves_of o.steps) (moves_of back) → IsProof left right all
joined_proof go_on lead_back left right there o back all e header a b meet k u =
    let returns : Steps right.params (tree o.to.body) (reverse (moves_of back)) (tree right.body) =
    lead_back right.params (tree right.body) (tree o.to.body) (moves_of o.steps) (moves_of back) k b.steps u in
    let here : Steps left.params (tree there.to.body) (reverse (moves_of back)) (tree right.body) =
    subst (λ z. Steps left.params z (reverse (moves_of back)) (tree right.body)) (sym meet)
    (subst (λ S. Steps S (tree o.to.body) (reverse (moves_of back)) (tree right.body)) (sym header.1) returns) in
    let whole : Steps left.params (tree left.body) (moves_of there.steps ++ reverse (moves_of back)) (tree right.body) =
    go_on left.params (tree left.body) (tree there.to.body) (tree right.body) (moves_of there.steps) (reverse (moves_of back)) a.steps here in
    let same : moves_of all ≡ moves_of there.steps ++ reverse (moves_of back) =
    ap moves_of e ∙ (map-append move_of there.steps (reverse back) ∙ ap (λ ms. moves_of there.steps ++ ms) (moves_reversed back)) in
    record {
      name = sym header.0;
      params = sym header.1;
      steps = subst (λ ms. Steps left.params (tree left.body) ms (tree right.body)) (sym same) whole;
      tabled = subst (AllByRecursion IsTabled) (sym e)
          (all-append IsTabled there.steps (reverse back) a.tabled (reversed IsTabled back (back_tabled (tree right.body) o.steps back b.tabled u)));
    }
