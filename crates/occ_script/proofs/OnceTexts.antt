-- A text has one reading: as a script, or with one first fault.
use Rattle.std.proofs.Common.{◌≡◌, ℕ, true, false, List, [], ◌∷◌, length, take, Some, None, refl, sym, ap, subst, ◌∙◌}
use Rattle.std.specs.Str.{bytes_eq}
use Rattle.std.proofs.lemmas.Bool.{and_parts}
use Rattle.std.proofs.lemmas.Slice.Eq.{bytes_eq-Decides}
use Rattle.occ_script_lines.specs.occ_lex.Rows.{code_of}
use Rattle.occ_parse_part.specs.occ_parse.declared.bound.Bound.{Bound}
use Rattle.occ_parse_part.specs.occ_parse.declared.bound.Bound.TheVariants as bound
use Rattle.occ_parse_part.specs.occ_parse.declared.fault.ParseFault.{ParseFault}
use Rattle.occ_parse_part.specs.occ_parse.Reading.{IsRefused, SameReading}
use Rattle.occ_parse_part.proofs.from_parse.Once.{not_both, read_once, refused_once}
use Rattle.occ_parse_part.specs.occ_parse_rules.Forest.{Laid}
use Rattle.occ_syntax.specs.declared.scope.Program.{Program}
use Rattle.occ_syntax.specs.View.{tree}
use Rattle.occ_script.specs.declared.content.Content.TheVariants as content
use Rattle.occ_script.specs.declared.fault.ScriptFault.{ScriptFault}
use Rattle.occ_script.specs.declared.fault.ScriptFault.TheVariants as fault
use Rattle.occ_script.specs.declared.script.Script.{Script}
use Rattle.occ_script.specs.declared.script.Step.{Step}
use Rattle.occ_script.specs.Faults.{text_fault}
use Rattle.occ_script.specs.Lines.{named_in}
use Rattle.occ_script.specs.Refusals.{IsBadHead, IsBadText, IsNoDerivation, IsScriptFault, IsUnformed, another, bad_head, behind_head, earlier, further, in_from, in_to, no_line, too_long, unformed, unread}
use Rattle.occ_script.specs.Scripts.{IsDerivation, IsFormed, IsHead, IsProgram, IsScript, first_line, is_too_long, old_line}
use Rattle.occ_script.specs.Shown.{shown}
use Rattle.occ_script_lines.specs.declared.section.Format.{Format}
use Rattle.occ_script_lines.specs.declared.section.Format.TheVariants as format
use Rattle.occ_script_lines.specs.Lines.{is_line}
use Rattle.occ_script_lines.specs.Sections.{Section, last_line_of, sections_of}
use Rattle.occ_script.proofs.Once.{IsOnce, Table, judged_once, one_answer}
use Rattle.occ_script.proofs.OnceAll.{AreSameSections, IsDerivedOnce, derivation_fault_once, derivation_once, derivation_or_fault, same_sections}

-- ---- the first line

same_first : (l m : Laid) (ls ms : List Laid) → l ∷ ls ≡ m ∷ ms → l ≡ m
same_first l m ls ms e = cc

some_and_none : {A : Type 0} (l : Laid) (ls : List Laid) → l ∷ ls ≡ [] → A
some_and_none l ls e = absurd cc

same_fault : (d e : ParseFault) → Some d ≡ Some e → d ≡ e
same_fault d e h = cc

no_fault : {A : Type 0} (e : ParseFault) → None ≡ Some e → A
no_fault e h = absurd cc

pub some_section : {A : Type 0} (s : Section) (ss all : List Section) → all ≡ [] → all ≡ s ∷ ss → A
some_section s ss all e f = let h : [] ≡ s ∷ ss = sym e ∙ f in absurd cc

words_differ : (f : Format) → bytes_eq (old_line f) (first_line f) ≡ false
words_differ format.Script = refl
words_differ format.Orders = refl

words_as_long : (f : Format) → length (old_line f) ≡ length (first_line f)
words_as_long format.Script = refl
words_as_long format.Orders = refl

-- a line begins with one of two texts that are as long
two_words : (v w row : List ℕ) → length v ≡ length w → bytes_eq v w ≡ false → is_line v row ≡ true → is_line w row ≡ true → ⊥
unfolding is_line
two_words v w row long differ h g =
    let one : take (length v) (code_of row) ≡ v = (bytes_eq-Decides (take (length v) (code_of row)) v).0 (and_parts _ _ h).0 in
    let two : take (length w) (code_of row) ≡ w = (bytes_eq-Decides (take (length w) (code_of row)) w).0 (and_parts _ _ g).0 in
    let same : v ≡ w = sym one ∙ ap (λ n. take n (code_of row)) long ∙ two in
    one_answer (bytes_eq v w) ((bytes_eq-Decides v w).1 same) differ

module _ (once : IsOnce) where
  pub head_fault_once : (f : Format) (old : Table) (s : Section) {d e : ScriptFault} → IsBadHead f old s d → IsBadHead f old s e → d ≡ e
  head_fault_once f old s (earlier h) (earlier g) = refl
  head_fault_once f old s (earlier h) (another g k) = one_answer (is_line (old_line f) s.row) h g
  head_fault_once f old s (earlier h) (further l ls a g k y) = one_answer (is_line (old_line f) s.row) h g
  head_fault_once f old s (earlier h) (unread e g k y) = one_answer (is_line (old_line f) s.row) h g
  head_fault_once f old s (another h k) (earlier g) = one_answer (is_line (old_line f) s.row) g h
  head_fault_once f old s (another h k) (another g m) = refl
  head_fault_once f old s (another h k) (further l ls a g m y) = one_answer (is_line (first_line f) s.row) m k
  head_fault_once f old s (another h k) (unread e g m y) = one_answer (is_line (first_line f) s.row) m k
  head_fault_once f old s (further l ls a h k x) (earlier g) = one_answer (is_line (old_line f) s.row) g h
  head_fault_once f old s (further l ls a h k x) (another g m) = one_answer (is_line (first_line f) s.row) k m
  head_fault_once f old s (further l ls a h k x) (further n ns b g m y) =
      ap (λ (i : Laid). fault.Form i.number) (same_first l n ls ns (judged_once once content.Part old s (l ∷ ls) (n ∷ ns) a b x y).laid)
  head_fault_once f old s (further l ls a h k x) (unread e g m y) =
      some_and_none l ls (judged_once once content.Part old s (l ∷ ls) [] a (Some e) x y).laid
  head_fault_once f old s (unread d h k x) (earlier g) = one_answer (is_line (old_line f) s.row) g h
  head_fault_once f old s (unread d h k x) (another g m) = one_answer (is_line (first_line f) s.row) k m
  head_fault_once f old s (unread d h k x) (further n ns b g m y) =
      some_and_none n ns (sym (judged_once once content.Part old s [] (n ∷ ns) (Some d) b x y).laid)
  head_fault_once f old s (unread d h k x) (unread e g m y) =
      ap text_fault (same_fault d e (judged_once once content.Part old s [] [] (Some d) (Some e) x y).stop)

  pub head_or_fault : (f : Format) (old : Table) (s : Section) {e : ScriptFault} → IsHead f old s → IsBadHead f old s e → ⊥
  head_or_fault f old s x (earlier g) = two_words (old_line f) (first_line f) s.row (words_as_long f) (words_differ f) g x.line
  head_or_fault f old s x (another g m) = one_answer (is_line (first_line f) s.row) x.line m
  head_or_fault f old s x (further n ns b g m y) =
      some_and_none n ns (sym (judged_once once content.Part old s [] (n ∷ ns) None b x.empty y).laid)
  head_or_fault f old s x (unread e g m y) = no_fault e (judged_once once content.Part old s [] [] None (Some e) x.empty y).stop

  -- ---- the lines

  bad_head_here : (text : List ℕ) (old : Table) (h k : Section) (hs ks : List Section) {e : ScriptFault}
      → sections_of format.Script text ≡ h ∷ hs → sections_of format.Script text ≡ k ∷ ks
      → IsBadHead format.Script old k e → IsBadHead format.Script old h e
  bad_head_here text old h k hs ks {e} p q x =
      subst (λ s. IsBadHead format.Script old s e) (sym (same_sections h k hs ks (sections_of format.Script text) p q).first) x

  behind_here : (text : List ℕ) (old : Table) (h k : Section) (hs ks : List Section) {e : ScriptFault}
      → sections_of format.Script text ≡ h ∷ hs → sections_of format.Script text ≡ k ∷ ks
      → IsNoDerivation (last_line_of text) (named_in k old) ks e → IsNoDerivation (last_line_of text) (named_in h old) hs e
  behind_here text old h k hs ks {e} p q x =
      let same : AreSameSections h k hs ks = same_sections h k hs ks (sections_of format.Script text) p q in
      subst (λ (r : List Section). IsNoDerivation (last_line_of text) (named_in h old) r e) (sym same.rest)
      (subst (λ (s : Section). IsNoDerivation (last_line_of text) (named_in s old) ks e) (sym same.first) x)

  unformed_once : (text : List ℕ) (old : Table) {d e : ScriptFault} → IsUnformed text old d → IsUnformed text old e → d ≡ e
  unformed_once text old (no_line h) (no_line g) = refl
  unformed_once text old (no_line h) (bad_head k ks e q y) = some_section k ks (sections_of format.Script text) h q
  unformed_once text old (no_line h) (behind_head k ks e q good y) = some_section k ks (sections_of format.Script text) h q
  unformed_once text old (bad_head h hs d p x) (no_line g) = some_section h hs (sections_of format.Script text) g p
  unformed_once text old (bad_head h hs d p x) (bad_head k ks e q y) =
      head_fault_once format.Script old h x (bad_head_here text old h k hs ks p q y)
  unformed_once text old (bad_head h hs d p x) (behind_head k ks e q good y) =
      absurd (head_or_fault format.Script old k good (bad_head_here text old k h ks hs q p x))
  unformed_once text old (behind_head h hs d p good x) (no_line g) = some_section h hs (sections_of format.Script text) g p
  unformed_once text old (behind_head h hs d p good x) (bad_head k ks e q y) =
      absurd (head_or_fault format.Script old h good (bad_head_here text old h k hs ks p q y))
  unformed_once text old (behind_head h hs d p good x) (behind_head k ks e q also y) =
      derivation_fault_once once (last_line_of text) (named_in h old) x (behind_here text old h k hs ks p q y)

  formed_or_fault : (text : List ℕ) (old t : Table) (from to : List ℕ) (steps : List Step) {e : ScriptFault}
      → IsFormed text old t from steps to → IsUnformed text old e → ⊥
  formed_or_fault text old t from to steps x (no_line h) = some_section x.head x.rest (sections_of format.Script text) h x.parts
  formed_or_fault text old t from to steps x (bad_head k ks e q y) =
      head_or_fault format.Script old x.head x.is_head (bad_head_here text old x.head k x.rest ks x.parts q y)
  formed_or_fault text old t from to steps x (behind_head k ks e q good y) =
      derivation_or_fault once (last_line_of text) (named_in x.head old) t x.rest steps from to x.derivation
      (behind_here text old x.head k x.rest ks x.parts q y)

  formed_once : (text : List ℕ) (old t u : Table) (from source to last : List ℕ) (steps others : List Step)
      → IsFormed text old t from steps to → IsFormed text old u source others last
      → IsDerivedOnce t u from source steps others to last
  formed_once text old t u from source to last steps others x y =
      let same : AreSameSections x.head y.head x.rest y.rest =
      same_sections x.head y.head x.rest y.rest (sections_of format.Script text) x.parts y.parts in
      let also : IsDerivation (named_in x.head old) u x.rest source others last =
      subst (λ (r : List Section). IsDerivation (named_in x.head old) u r source others last) (sym same.rest)
      (subst (λ (s : Section). IsDerivation (named_in s old) u y.rest source others last) (sym same.first) y.derivation) in
      derivation_once once (named_in x.head old) t u x.rest steps others from source to last x.derivation also

  -- ---- the programs

  program_once : (b : Bound) (text other : List ℕ) (old next t u : Table) (p q : Program) (ks ls : List ℕ) → text ≡ other → old ≡ next
      → IsProgram b text old t p ks → IsProgram b other next u q ls
      → SameReading t u p.name q.name p.params q.params (tree p.body) (tree q.body) ks ls
  program_once b text other old next t u p q ks ls e g x y =
      read_once once.form b text old t u p.name q.name p.params q.params (tree p.body) (tree q.body) ks ls x
      (subst (λ v. IsProgram b v old u q ls) (sym e) (subst (λ o. IsProgram b other o u q ls) (sym g) y))

  refused_here : (b : Bound) (text other : List ℕ) (old next : Table) {f : ParseFault} → text ≡ other → old ≡ next
      → IsRefused b other next f → IsRefused b text old f
  refused_here b text other old next {f} e g y = subst (λ v. IsRefused b v old f) (sym e) (subst (λ o. IsRefused b other o f) (sym g) y)

  text_fault_once : (b : Bound) (text other : List ℕ) (old next : Table) (d e : ScriptFault) → text ≡ other → old ≡ next
      → IsBadText b text old d → IsBadText b other next e → d ≡ e
  text_fault_once b text other old next d e same also x y =
      x.is ∙ ap text_fault (refused_once once.form b text old x.refused (refused_here b text other old next same also y.refused)) ∙ sym y.is

  program_or_fault : (b : Bound) (text other : List ℕ) (old next t : Table) (p : Program) (ks : List ℕ) (e : ScriptFault) → text ≡ other
      → old ≡ next → IsProgram b text old t p ks → IsBadText b other next e → ⊥
  program_or_fault b text other old next t p ks e same also x y =
      not_both once.form b text old x.draft x.laid_out x.in_order (refused_here b text other old next same also y.refused)

  -- ---- scripts

  pub fault_once : (text : List ℕ) (old : Table) {d e : ScriptFault} → IsScriptFault text old d → IsScriptFault text old e → d ≡ e
  fault_once text old (too_long h) (too_long g) = refl
  fault_once text old (too_long h) (unformed e g y) = one_answer (is_too_long text) h g
  fault_once text old (too_long h) (in_from u source last others e g y z) = one_answer (is_too_long text) h g
  fault_once text old (too_long h) (in_to u next source last others q ls e g y r z) = one_answer (is_too_long text) h g
  fault_once text old (unformed d h x) (too_long g) = one_answer (is_too_long text) g h
  fault_once text old (unformed d h x) (unformed e g y) = unformed_once text old x y
  fault_once text old (unformed d h x) (in_from u source last others e g y z) = absurd (formed_or_fault text old u source last others y x)
  fault_once text old (unformed d h x) (in_to u next source last others q ls e g y r z) =
      absurd (formed_or_fault text old u source last others y x)
  fault_once text old (in_from t from to steps d h x bad) (too_long g) = one_answer (is_too_long text) g h
  fault_once text old (in_from t from to steps d h x bad) (unformed e g y) = absurd (formed_or_fault text old t from to steps x y)
  fault_once text old (in_from t from to steps d h x bad) (in_from u source last others e g y z) =
      let same : IsDerivedOnce t u from source steps others to last = formed_once text old t u from source to last steps others x y in
      text_fault_once bound.First from source t u d e same.from same.end.table bad z
  fault_once text old (in_from t from to steps d h x bad) (in_to u next source last others q ls e g y r z) =
      let same : IsDerivedOnce u t source from others steps last to = formed_once text old u t source from last to others steps y x in
      absurd (program_or_fault bound.First source from u t next q ls d same.from same.end.table r bad)
  fault_once text old (in_to t between from to steps p ks d h x good bad) (too_long g) = one_answer (is_too_long text) g h
  fault_once text old (in_to t between from to steps p ks d h x good bad) (unformed e g y) =
      absurd (formed_or_fault text old t from to steps x y)
  fault_once text old (in_to t between from to steps p ks d h x good bad) (in_from u source last others e g y z) =
      let same : IsDerivedOnce t u from source steps others to last = formed_once text old t u from source to last steps others x y in
      absurd (program_or_fault bound.First from source t u between p ks e same.from same.end.table good z)
  fault_once text old (in_to t between from to steps p ks d h x good bad) (in_to u next source last others q ls e g y r z) =
      let same : IsDerivedOnce t u from source steps others to last = formed_once text old t u from source to last steps others x y in
      let first : SameReading between next p.name q.name p.params q.params (tree p.body) (tree q.body) ks ls =
      program_once bound.First from source t u between next p q ks ls same.from same.end.table good r in
      text_fault_once bound.Script to last between next d e same.end.to first.table bad z

  pub script_or_fault : (text : List ℕ) (old new : Table) (s : Script) {e : ScriptFault} → IsScript text old new s
      → IsScriptFault text old e → ⊥
  script_or_fault text old new s x (too_long g) = one_answer (is_too_long text) g x.short
  script_or_fault text old new s x (unformed e g y) = formed_or_fault text old x.formed_table x.from x.to s.steps x.formed y
  script_or_fault text old new s x (in_from u source last others e g y z) =
      let same : IsDerivedOnce x.formed_table u x.from source s.steps others x.to last =
      formed_once text old x.formed_table u x.from source x.to last s.steps others x.formed y in
      program_or_fault bound.First x.from source x.formed_table u x.between s.from.program s.from.lines e same.from same.end.table
      x.is_from z
  script_or_fault text old new s x (in_to u next source last others q ls e g y r z) =
      let same : IsDerivedOnce x.formed_table u x.from source s.steps others x.to last =
      formed_once text old x.formed_table u x.from source x.to last s.steps others x.formed y in
      let p : Program = s.from.program in
      let first : SameReading x.between next p.name q.name p.params q.params (tree p.body) (tree q.body) s.from.lines ls =
      program_once bound.First x.from source x.formed_table u x.between next p q s.from.lines ls same.from same.end.table x.is_from r in
      program_or_fault bound.Script x.to last x.between next new s.to x.numbers e same.end.to first.table x.is_to z

  pub script_once : (text : List ℕ) (old new other : Table) (s t : Script) → IsScript text old new s → IsScript text old other t
      → (shown s ≡ shown t) × (new ≡ other)
  script_once text old new other s t x y =
      let same : IsDerivedOnce x.formed_table y.formed_table x.from y.from s.steps t.steps x.to y.to =
      formed_once text old x.formed_table y.formed_table x.from y.from x.to y.to s.steps t.steps x.formed y.formed in
      let p : Program = s.from.program in
      let q : Program = t.from.program in
      let first : SameReading x.between y.between p.name q.name p.params q.params (tree p.body) (tree q.body) s.from.lines t.from.lines =
      program_once bound.First x.from y.from x.formed_table y.formed_table x.between y.between p q s.from.lines t.from.lines same.from
      same.end.table x.is_from y.is_from in
      let last : SameReading new other s.to.name t.to.name s.to.params t.to.params (tree s.to.body) (tree t.to.body) x.numbers y.numbers =
      program_once bound.Script x.to y.to x.between y.between new other s.to t.to x.numbers y.numbers same.end.to first.table x.is_to
      y.is_to in
      let scripts : shown s ≡ shown t = λ i. record {
        from = record { name = first.name i; params = first.params i; body = first.body i };
        lines = first.numbers i;
        steps = same.end.steps i;
        to = record { name = last.name i; params = last.params i; body = last.body i };
      } in
      (scripts, last.table)
