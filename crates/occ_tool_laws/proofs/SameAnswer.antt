-- Two files that have one normal text have the answer SAME.
use Rattle.std.proofs.Common.{◌≡◌, ◌↔◌, ◌<◌, ◌^◌, ℕ, true, List, [], ◌∷◌, length, Some, refl, sym, ap, subst, ◌∙◌, codes}
use Rattle.std.specs.Prelude.{slice_index_or}
use Rattle.std.specs.declared.cmp.Ordering.{Ordering}
use Rattle.std.specs.declared.cmp.Ordering.TheVariants.{Less, Equal, Greater}
use Rattle.occ_witness.specs.occ_base.Names.{IsDistinct}
use Rattle.occ_witness.specs.occ_base.declared.names.Name.{Name}
use Rattle.occ_witness.specs.occ_behaviour.declared.behaviour.Verdict.TheVariants.{Same}
use Rattle.occ_witness.specs.occ_nform.Written.{IsNormalText}
use Rattle.occ_witness.specs.occ_parse.Reading.{IsRead}
use Rattle.occ_witness.specs.occ_parse.declared.bound.Bound.{Bound}
use Rattle.occ_witness.specs.occ_parse.declared.bound.Bound.TheVariants as bound
use Rattle.occ_witness.specs.occ_read_renamed.Readings.{StandIn}
use Rattle.occ_witness.specs.occ_syntax.Same.{SAME}
use Rattle.occ_witness.specs.occ_syntax.Scopes.{environment}
use Rattle.occ_witness.specs.occ_syntax.Tree.{Tree}
use Rattle.occ_witness.specs.occ_syntax.Types.{types_kept}
use Rattle.occ_witness.specs.occ_syntax.declared.scope.Kind.{Kind}
use Rattle.occ_witness.specs.occ_call.Files.{Files, order_of}
use Rattle.occ_witness.specs.occ_tool_run.Accepts.{IsAccepted, Program, node_of, usage_faults}
use Rattle.occ_witness.specs.occ_tool_run.Answers.{Answers, Compares, TakesBoth, accepted, accepted_behind, compared, comparison}
use Rattle.occ_witness.specs.occ_tool_run.Texts.{status_of, text_of}
use Rattle.occ_witness.specs.occ_tool_run.declared.answer.Answer.{Answer}
use Rattle.occ_witness.specs.occ_tool_run.declared.answer.Answer.TheVariants.{Compared}
use Rattle.occ_witness.specs.occ_tool_run.declared.judge.Question.TheVariants.{WhetherSame}
use Rattle.occ_witness.proofs.from_engine_written.Typed.{AreKept}
use Rattle.occ_witness.proofs.from_tool_run.Judging.{no_name_twice}
use Rattle.occ_witness.specs.occ_tool_words.Words.{job_of, normalise, same}
use Rattle.occ_tool_laws.specs.Reads.{Reads}
use Rattle.occ_tool_laws.proofs.Files.{TextsLaw, asked, files_apart, left_distinct, normal_of, typed_in}
use Rattle.occ_tool_laws.proofs.Texts.{AreBoth, File, IsTextOf, Laws, Table, both, no_misuse, none_stands, one_interface}

-- a text that reads as a program with one table reads as one with each other table
abbrev pub EachLaw : Type 0
EachLaw = (b : Bound) (text : List ℕ) (old between new : Table) (n : Name) (ps : List (Name × Kind)) (p : Tree) (ks : List ℕ) → IsDistinct old → IsDistinct between
    → StandIn old between → IsRead b text old new n ps p ks → Reads b text between

-- a list that begins with nothing is empty
nothing_first : {A : Type 0} (xs : List A) → ((x : A) (rest : List A) → xs ≡ x ∷ rest → ⊥) → xs ≡ []
nothing_first [] h = refl
nothing_first (x ∷ xs) h = absurd (h x xs refl)

-- a file that is accepted with a table
record IsTaken (file : File) (old : Table) : Type 0 where
  names : Table
  program : Program
  is : IsAccepted file old names program

-- the answer is SAME, whatever names there are
record HasSame (order : Ordering) (c d : File) : Type 0 where
  answer : Answer
  names : Table
  is : answer ≡ Compared names Same
  takes : TakesBoth order WhetherSame c d answer

itself : (ps : List (Name × Kind)) (p : Tree) → SAME (environment ps) p p
itself ps p = record { same_failures = λ s t X state within. (λ h. h, λ h. h); same_ends = λ s t u state. (λ h. h, λ h. h) }

says_same : (p q : Program) (names : Table) → p.params ≡ q.params → SAME (environment p.params) p.body q.body → Compares p names q (Compared names Same)
says_same p q names e h = compared Same e (record { same = (λ k. h, λ k. refl); first = tt }) refl

module _ (L : Laws) (each : EachLaw) where
  -- a file that has a normal text is accepted with each table
  taken_too : (file : File) (text : List ℕ) (x : IsTextOf file text) (between : Table) → IsDistinct between → IsTaken file between
  taken_too file text x between d =
      let p = x.program in
      let bytes = x.accepted.bytes in
      let r = each bound.Program bytes [] between x.names p.name p.params p.body x.accepted.text.numbers no_name_twice d (none_stands between) x.accepted.text.read in
      let q : Program = record { name = r.name; params = r.params; body = r.body } in
      record {
        names = r.new;
        program = q;
        is = record {
          bytes = bytes;
          there = x.accepted.there;
          text = record {
            numbers = r.numbers;
            read = r.read;
            usage = nothing_first (usage_faults q) (λ f rest h.
                no_misuse L file text x between d r.new (slice_index_or r.numbers (node_of f) 1) f (record {
                  bytes = bytes;
                  there = x.accepted.there;
                  text = record { program = q; numbers = r.numbers; read = r.read; later = rest; found = h; line_is = refl };
                }));
          };
        };
      }

  -- programs with one normal text mean the same
  same_programs : (names : Table) (p q : Program) (s t : List ℕ) → AreKept p.params p.body → AreKept q.params q.body → length s < 2 ^ 64 → length t < 2 ^ 64
      → AreBoth L names p q s t → s ≡ t → Compares p names q (Compared names Same)
  same_programs names p q s t hp hq small less b e =
      let params : p.params ≡ q.params = one_interface L names p.params q.params p.body q.body s t b.first b.second e in
      let types = subst (λ ps. types_kept q.body (environment ps) ≡ true) (sym params) hq.types in
      let second = subst (λ ps. IsNormalText names ps q.body t) (sym params) b.second in
      says_same p q names params ((L.apart names p.params p.body q.body s t b.distinct hp.scope hp.types types small less b.first second).0 e)

  module _ (c d : File) (s t : List ℕ) (x : IsTextOf c s) (y : IsTextOf d t) (e : s ≡ t) where
    -- the first file is read first
    in_order : HasSame Less c d
    in_order =
        let p = x.program in
        let m = x.names in
        let own = left_distinct L c m p x.accepted in
        let k = taken_too d t y m own in
        let b = both L c d s t x y m k.names p k.program x.accepted k.is in
        record {
          answer = Compared k.names Same;
          names = k.names;
          is = refl;
          takes = accepted m p x.accepted (accepted k.names k.program k.is
              (same_programs k.names p k.program s t (typed_in c [] m p x.accepted no_name_twice) (typed_in d m k.names k.program k.is own) x.small y.small b e));
        }

    -- both have one text
    one_file : HasSame Equal c d
    one_file = record {
      answer = Compared x.names Same;
      names = x.names;
      is = refl;
      takes = accepted x.names x.program x.accepted (says_same x.program x.program x.names refl (itself x.program.params x.program.body));
    }

    -- the second file is read first
    turned : HasSame Greater c d
    turned =
        let q = y.program in
        let m = y.names in
        let own = left_distinct L d m q y.accepted in
        let k = taken_too c s x m own in
        let b = both L d c t s y x m k.names q k.program y.accepted k.is in
        record {
          answer = Compared k.names Same;
          names = k.names;
          is = refl;
          takes = accepted_behind m q y.accepted (accepted k.names k.program k.is
              (same_programs k.names k.program q s t (typed_in c m k.names k.program k.is own) (typed_in d [] m q y.accepted no_name_twice) x.small y.small
              (record { distinct = b.distinct; first = b.second; second = b.first }) e));
        }

    ways : (order : Ordering) → HasSame order c d
    ways Less = in_order
    ways Equal = one_file
    ways Greater = turned

  -- and so the two files are answered
  pub answered : (files : Files) (pair : List (List ℕ)) (first second : List ℕ) (s t : List ℕ) → IsTextOf (files first) s → IsTextOf (files second) t → s ≡ t
      → job_of pair ≡ Some (same first second) → Answers files pair 0 (codes "SAME\n")
  answered files pair first second s t x y e j =
      let h = ways (files first) (files second) s t x y e (order_of (files first) (files second)) in
      record {
        answer = h.answer;
        is = comparison first second j (record { bytes = y.accepted.bytes; there = y.accepted.there; text = h.takes });
        status_is = sym (ap status_of h.is);
        text_is = sym (ap text_of h.is);
      }

-- two files that have normal texts have the answer SAME exactly where the texts are one
pub one_text_same : Laws → EachLaw → TextsLaw → (files : Files) (words again pair : List (List ℕ)) (first second : List ℕ) (x y : List ℕ) → job_of words ≡ Some (normalise first)
    → Answers files words 0 x → job_of again ≡ Some (normalise second) → Answers files again 0 y → job_of pair ≡ Some (same first second)
    → (x ≡ y) ↔ Answers files pair 0 (codes "SAME\n")
one_text_same L each law files words again pair first second x y jx ax jy ay jz =
    let one = normal_of law (files first) ax.answer (asked files words (normalise first) 0 x jx ax) (sym ax.status_is) in
    let two = normal_of law (files second) ay.answer (asked files again (normalise second) 0 y jy ay) (sym ay.status_is) in (
      λ e. answered L each files pair first second (text_of ax.answer) (text_of ay.answer) one two (sym ax.text_is ∙ (e ∙ ay.text_is)) jz,
      λ a. (files_apart L law files words again pair first second 0 x y (codes "SAME\n") jx ax jy ay jz a).1 refl,
    )
