-- Two files that have normal texts, and what is answered of the two.
use Rattle.std.proofs.Common.{◌≡◌, ◌↔◌, ◌<◌, ◌^◌, ℕ, true, List, [], length, Some, Ok, refl, sym, ap, subst, ◌∙◌, arith}
use Rattle.std.specs.Prelude.{codes}
use Rattle.std.specs.declared.cmp.Ordering.{Ordering}
use Rattle.std.specs.declared.cmp.Ordering.TheVariants.{Less, Equal, Greater}
use Rattle.occ_witness.specs.occ_nform.Written.{IsNormalText}
use Rattle.occ_witness.specs.occ_behaviour_read.Tables.{IsTextOf as IsOwnText}
use Rattle.occ_witness.specs.occ_nform_table.Behaviours.{Stands}
use Rattle.occ_witness.specs.occ_nform_table.Normal.{Parts, text_read}
use Rattle.occ_witness.specs.occ_nform_table.Tables.{IsInterface, are_params}
use Rattle.occ_witness.specs.occ_base.declared.names.Name.{Name}
use Rattle.occ_witness.specs.occ_syntax.Tree.{Tree}
use Rattle.occ_witness.specs.occ_syntax.declared.scope.Kind.{Kind}
use Rattle.occ_witness.specs.occ_base.Names.{IsDistinct}
use Rattle.occ_witness.specs.occ_parse.declared.fault.ParseFault.{ParseFault}
use Rattle.occ_witness.specs.occ_usage.declared.fault.UsageFault.{UsageFault}
use Rattle.occ_witness.specs.occ_behaviour.declared.behaviour.Side.{Side}
use Rattle.occ_witness.specs.occ_behaviour.declared.behaviour.Side.TheVariants.{First, Second}
use Rattle.occ_tool_laws.proofs.Texts.{File, IsTextOf, Laws, Table, Told, both, no_misuse, no_refusal, told}
use Rattle.occ_witness.specs.occ_tool_run.declared.answer.Answer.{Answer}
use Rattle.occ_witness.specs.occ_tool_run.declared.judge.Question.TheVariants.{WhetherSame}
use Rattle.occ_witness.specs.occ_tool_run.Accepts.{IsAccepted, IsAcceptedText, IsRefused, IsUnusable, Program}
use Rattle.occ_witness.specs.occ_tool_run.Answers.{Answers, Compares, IsAnswerTo, IsNormalised, Settles, Takes, TakesBoth, Turned, accepted, accepted_behind, refused, refused_behind, unusable, unusable_behind}
use Rattle.occ_witness.specs.occ_call.Files.{Files, order_of, short_bytes}
use Rattle.occ_witness.specs.occ_tool_run.Texts.{status_of, text_of}
use Rattle.occ_witness.proofs.from_engine_written.Typed.{AreKept}
use Rattle.occ_witness.proofs.from_tool_run.Accepting.{names_read, read_kept}
use Rattle.occ_witness.proofs.from_tool_run.EitherOrder.{kept_bytes, one_text}
use Rattle.occ_witness.proofs.from_tool_run.Judging.{no_name_twice}
use Rattle.occ_witness.proofs.from_tool_run.OneAnswer.{back, does, short}
use Rattle.occ_witness.proofs.from_tool_run.Taken.{AreOne, agree, as_taken}
use Rattle.occ_witness.specs.occ_tool_words.Words.{Job, job_of, normalise, same}

-- a text is read as a table that stands for a program exactly where it is the text of such a table
abbrev pub TextsLaw : Type 0
TextsLaw = (names : Table) (params : List (Name × Kind)) (p : Tree) (text : List ℕ) → IsDistinct names → IsInterface names params → are_params names [] params ≡ true
    → length text < 2 ^ 64
    → ((t : Parts) × (text_read names text ≡ Ok t) × (t.names ≡ names) × (t.params ≡ params) × Stands params t.rows t.states p) ↔ IsOwnText names params p text

-- a file whose normal text is the answer
pub normal_of : TextsLaw → (file : File) (a : Answer) → Takes First file [] IsNormalised a → status_of a ≡ 0 → IsTextOf file (text_of a)
normal_of law file a (refused f r e) h = let no : status_of a ≡ 3 = ap status_of e in absurd (omega (arith, no, h))
normal_of law file a (unusable n l f r e) h = let no : status_of a ≡ 3 = ap status_of e in absurd (omega (arith, no, h))
normal_of law file a (accepted n p r x) h =
    let text : x.text.items ≡ text_of a = sym (ap text_of x.answer_is) in
    let o = names_read r.bytes [] n p r.text.numbers no_name_twice r.text.read in
    let t = (law n p.params p.body x.text.items o.0 o.1 o.2 (short x.text)).1 x.is in
    record {
      names = n;
      program = p;
      accepted = r;
      normal = subst (IsNormalText n p.params p.body) text (record { table = t.0; reads = t.1; names_are = t.2; params_are = t.3; stands = t.4 });
      small = subst (λ t. length t < 2 ^ 64) text (short x.text);
    }

-- a text that is neither refused nor misuses what it shares
taken : (place : Side) (file : File) (old : Table) (R : Table → Program → Answer → Type 0) (a : Answer) (P : Type 0) → ((fault : ParseFault) → IsRefused file old fault → ⊥)
    → ((new : Table) (line : ℕ) (fault : UsageFault) → IsUnusable file old new line fault → ⊥) → Takes place file old R a
    → ((names : Table) (p : Program) → IsAccepted file old names p → R names p a → P) → P
taken place file old R a P g m (refused f r e) next = absurd (g f r)
taken place file old R a P g m (unusable n l f r e) next = absurd (m n l f r)
taken place file old R a P g m (accepted n p r x) next = next n p r x

-- what words that ask for something are answered with
pub asked : (files : Files) (words : List (List ℕ)) (job : Job) (status : ℕ) (text : List ℕ) → job_of words ≡ Some job → (h : Answers files words status text) → IsAnswerTo files (Some job) h.answer
asked files words job status text e h = subst (λ j. IsAnswerTo files j h.answer) e (does files words h.answer h.is)

-- the program of a file keeps types
pub typed_in : (file : File) (old names : Table) (p : Program) → IsAccepted file old names p → IsDistinct old → AreKept p.params p.body
typed_in file old names p a d = read_kept a.bytes old names p a.text.numbers d a.text.read

module _ (L : Laws) where
  taken_file : (place : Side) (file : File) (text : List ℕ) (x : IsTextOf file text) (old : Table) → IsDistinct old → (R : Table → Program → Answer → Type 0) (a : Answer) (P : Type 0)
      → Takes place file old R a → ((names : Table) (p : Program) → IsAccepted file old names p → R names p a → P) → P
  taken_file place file text x old d R a P h next = taken place file old R a P (no_refusal L file text x old d) (no_misuse L file text x old d) h next

  pub left_distinct : (file : File) (names : Table) (p : Program) → IsAccepted file [] names p → IsDistinct names
  left_distinct file names p r = L.distinct r.bytes [] names p.name p.params p.body r.text.numbers no_name_twice r.text.read

  module _ (c d : File) (s t : List ℕ) (x : IsTextOf c s) (y : IsTextOf d t) (a : Answer) where
    in_order : TakesBoth Less WhetherSame c d a → Told L s t a
    in_order h =
        taken_file First c s x [] no_name_twice (λ m p. Takes Second d m (Compares p)) a (Told L s t a) h
        (λ m p r k. taken_file Second d t y m (left_distinct c m p r) (Compares p) a (Told L s t a) k
        (λ n q u z. told L n p q s t a (typed_in c [] m p r no_name_twice) (typed_in d m n q u (left_distinct c m p r)) x.small y.small (both L c d s t x y m n p q r u) z))

    turned : Turned WhetherSame c d a → Told L s t a
    turned (refused_behind f r h) = absurd (no_refusal L d t y [] no_name_twice f r)
    turned (unusable_behind m l f r h) = absurd (no_misuse L d t y [] no_name_twice m l f r)
    turned (accepted_behind m q r h) =
        taken_file First c s x m (left_distinct d m q r) (λ n p. Compares p n q) a (Told L s t a) h
        (λ n p u z.
        let b = both L d c t s y x m n q p r u in
        told L n p q s t a (typed_in c m n p u (left_distinct d m q r)) (typed_in d [] m q r no_name_twice) x.small y.small (record { distinct = b.distinct; first = b.second; second = b.first }) z)

    one_file : short_bytes c ≡ short_bytes d → TakesBoth Equal WhetherSame c d a → Told L s t a
    one_file e h =
        taken_file First c s x [] no_name_twice (λ n p. Compares p n p) a (Told L s t a) h
        (λ n p r z.
        let bytes : y.accepted.bytes ≡ r.bytes =
        let k : Some y.accepted.bytes ≡ Some r.bytes = sym (kept_bytes L.once d y.names y.program y.accepted) ∙ (sym e ∙ kept_bytes L.once c n p r) in cc in
        let other : IsAccepted c [] y.names y.program =
        record { bytes = r.bytes; there = r.there; text = subst (λ u. IsAcceptedText u [] y.names y.program) bytes y.accepted.text } in
        let mine : AreOne n x.names p x.program = agree L.once c [] (as_taken n p) (as_taken x.names x.program) r x.accepted in
        let theirs : AreOne n y.names p y.program = agree L.once c [] (as_taken n p) (as_taken y.names y.program) r other in
        told L n p p s t a (typed_in c [] n p r no_name_twice) (typed_in c [] n p r no_name_twice) x.small y.small (record {
          distinct = left_distinct c n p r;
          first = back (λ ns ps u. IsNormalText ns ps u s) n x.names p.params x.program.params p.body x.program.body mine.names mine.params mine.body x.normal;
          second = back (λ ns ps u. IsNormalText ns ps u t) n y.names p.params y.program.params p.body y.program.body theirs.names theirs.params theirs.body y.normal;
        }) z)

    ways : (order : Ordering) → order_of c d ≡ order → TakesBoth order WhetherSame c d a → Told L s t a
    ways Less e h = in_order h
    ways Equal e h = one_file (one_text (short_bytes c) (short_bytes d) e) h
    ways Greater e h = turned h

    settled : Settles WhetherSame c d a → Told L s t a
    settled h = ways (order_of c d) refl h.text

  pub files_apart : TextsLaw → (files : Files) (words again pair : List (List ℕ)) (first second : List ℕ) (status : ℕ) (x y z : List ℕ) → job_of words ≡ Some (normalise first)
      → Answers files words 0 x → job_of again ≡ Some (normalise second) → Answers files again 0 y → job_of pair ≡ Some (same first second)
      → Answers files pair status z → (x ≡ y) ↔ (z ≡ codes "SAME\n")
  files_apart law files words again pair first second status x y z jx ax jy ay jz az =
      let one = normal_of law (files first) ax.answer (asked files words (normalise first) 0 x jx ax) (sym ax.status_is) in
      let two = normal_of law (files second) ay.answer (asked files again (normalise second) 0 y jy ay) (sym ay.status_is) in
      let both = settled (files first) (files second) (text_of ax.answer) (text_of ay.answer) one two az.answer
      (asked files pair (same first second) status z jz az) in (
        λ e. az.text_is ∙ both.0 (sym ax.text_is ∙ (e ∙ ay.text_is)),
        λ e. ax.text_is ∙ (both.1 (sym az.text_is ∙ e) ∙ sym ay.text_is),
      )
