-- A part put into a program.
use Rattle.std.proofs.Common.{◌≡◌, ℕ, true, List, Option, Some, None, refl, sym, ap, subst, ◌∙◌}
use Rattle.std.proofs.lemmas.Option.{same_Some}
use Rattle.occ_syntax.specs.occ_base.declared.names.Name.{Name}
use Rattle.occ_law_any.specs.occ_meaning.Context.{environment_at, part_at, put}
use Rattle.occ_law_any.proofs.from_meaning.Places.{part_keeps, put_scope, put_there}
use Rattle.occ_script.specs.occ_parse_part.Parts.{Part}
use Rattle.occ_script.specs.occ_parse_part.Resolving.{part_fault, part_process}
use Rattle.occ_replay.specs.declared.change.Change.{Change}
use Rattle.occ_replay.specs.declared.change.Stopped.{Stopped}
use Rattle.occ_replay.specs.declared.change.Stopped.TheVariants as stopped
use Rattle.occ_replay.specs.Changes.{IsChange, IsRefused, IsResolved, IsStopped, IsTaken}
use Rattle.occ_replay_rules.specs.Steps.{IsAcceptable, Joins, Lacks, Step, new_part, new_whole, not_instance, scope_there, unacceptable, unjoined}
use Rattle.occ_script.proofs.from_script_lines.Scoping.{scopes}
use Rattle.occ_script.specs.occ_script_lines.Places.{IsPutIn, scope_list}
use Rattle.occ_syntax.specs.declared.scope.Kind.{Kind}
use Rattle.occ_syntax.specs.declared.scope.Program.{Program}
use Rattle.occ_syntax.specs.Scopes.{environment}
use Rattle.occ_syntax.specs.Tree.{Tree}
use Rattle.occ_syntax.specs.Types.{scope_kept}
use Rattle.occ_syntax.specs.Usage.{Keeps}
use Rattle.occ_syntax.specs.View.{tree}
use Rattle.occ_law_any.specs.occ_usage.Accepted.{KeepsRules}
use Rattle.occ_law_any.specs.occ_usage.Local.{IsExchanged}

-- ---- putting in

-- the process that a step's part is in the scope there is put in
pub body_of : (program whole : Program) (step : Step) (S : List (Name × Kind)) (p : Tree) → S ≡ scope_there program.params (tree program.body) step
    → IsResolved S step.part p → IsPutIn program step.path p whole → tree whole.body ≡ new_whole program.params (tree program.body) step
body_of program whole step S p e found put_in =
    put_in.body ∙ ap (put step.path (tree program.body)) (found.process ∙ ap (part_process step.part) e)

-- a part that has no fault and leaves the rules kept may be put in
pub acceptable : (program whole : Program) (step : Step) (S : List (Name × Kind)) (p : Tree) → S ≡ scope_there program.params (tree program.body) step
    → IsResolved S step.part p → IsPutIn program step.path p whole → KeepsRules whole → IsAcceptable program.params (tree program.body) step
acceptable program whole step S p e found put_in kept = record {
  faultless = subst (λ T. part_fault step.part T ≡ None) e found.faultless;
  keeps = subst (Keeps (environment program.params)) (body_of program whole step S p e found put_in)
      (subst (λ T. Keeps (environment T) (tree whole.body)) put_in.params kept.keeps);
}

-- the program with the part put in has the part in the place of the one that stood there
pub exchanged : (program whole : Program) (path : List ℕ) (S : List (Name × Kind)) (old part new : Tree) → KeepsRules program → S ≡ scope_list path program.params (tree program.body)
    → IsPutIn program path part whole → part_at path (tree program.body) ≡ Some old → part_at path (tree whole.body) ≡ Some new → IsExchanged S old new whole
exchanged program whole path S old part new kept e put_in there found =
    let p = tree program.body in
    let s = scopes path program.params p kept.scope kept.keeps.types in
    let same : part ≡ new = same_Some part new (sym (ap (part_at path) put_in.body ∙ put_there path p old part there) ∙ found) in
    record {
      before = p;
      path = path;
      scope = subst (λ T. scope_kept T ≡ true) (sym put_in.params) kept.scope;
      kept = subst (λ T. Keeps (environment T) p) (sym put_in.params) kept.keeps;
      there = there;
      put_in = put_in.body ∙ ap (put path p) same;
      scope_there = ap environment e ∙ s.gives ∙ ap (λ T. environment_at path (environment T) p) (sym put_in.params);
      scope_kept = subst (λ T. scope_kept T ≡ true) (sym e) s.kept;
    }

-- ---- the part there, before and after

-- the scope at a path of a program that keeps the rules
pub scope_there_kept : (program : Program) (path : List ℕ) (S : List (Name × Kind)) → KeepsRules program → S ≡ scope_list path program.params (tree program.body) → scope_kept S ≡ true
scope_there_kept program path S kept e = subst (λ T. scope_kept T ≡ true) (sym e) (scopes path program.params (tree program.body) kept.scope kept.keeps.types).kept

-- the part at a path keeps the rules in the scope there
pub old_kept : (program : Program) (path : List ℕ) (S : List (Name × Kind)) (q : Tree) → KeepsRules program → S ≡ scope_list path program.params (tree program.body)
    → part_at path (tree program.body) ≡ Some q → Keeps (environment S) q
old_kept program path S q kept e there =
    let s = scopes path program.params (tree program.body) kept.scope kept.keeps.types in
    subst (λ Γ. Keeps Γ q) (sym (ap environment e ∙ s.gives)) (part_keeps path (environment program.params) (tree program.body) q kept.keeps there)

-- so does the part that is put in, where the whole keeps them then
pub new_kept : (program : Program) (step : Step) (S : List (Name × Kind)) (q : Tree) → KeepsRules program → S ≡ scope_there program.params (tree program.body) step
    → part_at step.path (tree program.body) ≡ Some q → IsAcceptable program.params (tree program.body) step → Keeps (environment S) (new_part program.params (tree program.body) step)
new_kept program step S q kept e there may =
    let Γ = environment program.params in
    let p = tree program.body in
    let r = new_part program.params p step in
    let s = scopes step.path program.params p kept.scope kept.keeps.types in
    subst (λ Δ. Keeps Δ r) (put_scope step.path Γ p q r there ∙ sym (ap environment e ∙ s.gives))
    (part_keeps step.path Γ (put step.path p r) r may.keeps (put_there step.path p q r there))

-- and it is what is found there then
pub new_there : (program : Program) (step : Step) (change : Change) → IsChange program step change
    → part_at step.path (tree change.whole.body) ≡ Some (new_part program.params (tree program.body) step)
new_there program step change c =
    ap (part_at step.path) c.body ∙ put_there step.path (tree program.body) (tree change.old) (new_part program.params (tree program.body) step) c.old

pub found_new : (program : Program) (step : Step) (change : Change) (r : Tree) → IsChange program step change → part_at step.path (tree change.whole.body) ≡ Some r
    → new_part program.params (tree program.body) step ≡ r
found_new program step change r c e = same_Some (new_part program.params (tree program.body) step) r (sym (new_there program step change c) ∙ e)

-- ---- a step

-- a law that joins the part that stood there and the one that is put in
pub taken : (program : Program) (step : Step) (change : Change) (law : ℕ) (new : Tree) → IsChange program step change → step.law ≡ Some law
    → part_at step.path (tree change.whole.body) ≡ Some new → Joins step.dir law change.scope (tree change.old) new → IsTaken program step change.whole
taken program step change law new c named e j = record {
  good = record {
    law = law;
    named = named;
    old = tree change.old;
    there = c.old;
    acceptable = c.acceptable;
    joins = subst (λ S. Joins step.dir law S (tree change.old) (new_part program.params (tree program.body) step)) c.scope
        (subst (Joins step.dir law change.scope (tree change.old)) (sym (found_new program step change new c e)) j);
  };
  name = c.name;
  params = c.params;
  body = c.body;
}

pub unjoined_there : (program : Program) (step : Step) (change : Change) (law : ℕ) (new : Tree) → IsChange program step change → step.law ≡ Some law
    → part_at step.path (tree change.whole.body) ≡ Some new → (Joins step.dir law change.scope (tree change.old) new → ⊥)
    → Lacks program.params (tree program.body) step not_instance
unjoined_there program step change law new c named e none = unjoined law (tree change.old) named c.old c.acceptable (λ j.
    none (subst (Joins step.dir law change.scope (tree change.old)) (found_new program step change new c e)
    (subst (λ S. Joins step.dir law S (tree change.old) (new_part program.params (tree program.body) step)) (sym c.scope) j)))

-- a part that may not be put in stops the step
pub refused_stops : (program : Program) (step : Step) (law : ℕ) (old : Tree) → step.law ≡ Some law → part_at step.path (tree program.body) ≡ Some old
    → (s : Stopped) → IsRefused program step s → IsStopped program step s
refused_stops program step law old named there stopped.NotAccepted h = unacceptable law old named there h
refused_stops program step law old named there stopped.Memory h = tt
refused_stops program step law old named there stopped.NoLaw h = absurd h
refused_stops program step law old named there stopped.NoPath h = absurd h
refused_stops program step law old named there stopped.NotInstance h = absurd h
