-- What is known of names stays known where the table of names grows.
use Rattle.std.proofs.Common.{◌<◌, ◌≤◌, ◌↔◌, ℕ, List, [], ◌∷◌, length, sym, subst, arith}
use Rattle.std.specs.List.{AllByRecursion}
use Rattle.occ_syntax.specs.occ_base.declared.names.Name.{Name}
use Rattle.occ_syntax.specs.occ_base.Names.{with_text}
use Rattle.occ_tool_run.specs.occ_lex.Growth.{GrowsByNames, with_texts}
use Rattle.occ_tool_run.proofs.from_lex.Interned.{extends_same, extends_text, extends_trans, longer}
use Rattle.occ_tool_run.specs.occ_lex.Symbols.{Extends}
use Rattle.occ_tool_run.specs.occ_print.Known.{PartIsKnown, ProgramIsKnown}
use Rattle.occ_tool_run.specs.occ_print.Greatest.{greatest}
use Rattle.occ_prove.specs.Joined.{AreWritable}
use Rattle.occ_tool_run.specs.occ_script_write.declared.writing.Done.{Done}
use Rattle.occ_syntax.specs.declared.scope.Kind.{Kind}
use Rattle.occ_syntax.specs.declared.scope.Program.{Program}
use Rattle.occ_syntax.specs.Tree.{Tree}
use Rattle.occ_syntax.specs.View.{tree}

abbrev Table : Type 0
Table = List (List ℕ)

-- the names of parameters have texts in the table
abbrev AreNamed : Table → List (Name × Kind) → Type 0
AreNamed names params = AllByRecursion (λ (p : Name × Kind). p.0.0 < length names) params

-- a table with further texts is the one before with some behind it
with_more : (old : Table) (texts : List (List ℕ)) → Extends old (with_texts old texts)
unfolding with_texts
with_more old [] = extends_same old
with_more old (text ∷ texts) =
    extends_trans old (with_text old text) (with_texts (with_text old text) texts) (extends_text old text) (with_more (with_text old text) texts)

pub grown : (old new : Table) → GrowsByNames old new → Extends old new
grown old new g = subst (Extends old) (sym g.new_is) (with_more old g.texts)

-- ---- the names of a program

named_grown : (old new : Table) → Extends old new → (params : List (Name × Kind)) → AreNamed old params → AreNamed new params
named_grown old new e [] n = tt
named_grown old new e (p ∷ params) n = let a = n.0 in let l = longer old new e in (omega (arith, a, l), named_grown old new e params n.1)

abbrev pub KnownLaw : Type 0
KnownLaw = (n : ℕ) (p : Tree) → 0 < n → (greatest p 0 < n) ↔ PartIsKnown n p

part_grown : KnownLaw → (n m : ℕ) (p : Tree) → 0 < n → n ≤ m → PartIsKnown n p → PartIsKnown m p
part_grown law n m p some l k = let g = (law n p some).1 k in (law m p (omega (arith, some, l))).0 (omega (arith, g, l))

pub program_grown : KnownLaw → (old new : Table) (p : Program) → Extends old new → ProgramIsKnown old p.name.0 p.params (tree p.body)
    → ProgramIsKnown new p.name.0 p.params (tree p.body)
program_grown law old new p e k =
    let l = longer old new e in
    let a = k.name_is in
    record {
      name_is = omega (arith, a, l);
      params_are = named_grown old new e p.params k.params_are;
      body_is = part_grown law (length old) (length new) (tree p.body) (omega (arith, a)) l k.body_is;
    }

pub steps_grown : KnownLaw → (old new : Table) (steps : List Done) → 0 < length old → Extends old new → AreWritable old steps → AreWritable new steps
steps_grown law old new [] some e w = tt
steps_grown law old new (s ∷ steps) some e w = (
  record { low = w.0.low; high = w.0.high; known = part_grown law (length old) (length new) (tree s.part) some (longer old new e) w.0.known },
  steps_grown law old new steps some e w.1,
)
