-- Two files are answered with SAME exactly where each of them is answered to refine the other, in whichever order they are given.
use Rattle.std.proofs.Common.{◌≡◌, ◌↔◌, ◌==◌, ◌⊎◌, inl, inr, ℕ, List, [], ◌∷◌, length, Bool, true, false, ◌&&◌, cond, nat_lt, Option, Some, None, codes, refl, sym, ap, ◌∙◌, subst}
use Rattle.std.specs.Cmp.Lexicographic.{nat_list_cmp_total}
use Rattle.std.specs.FinMap.{nat_cmp-IsAntisymmetric, slice_cmp-IsAntisymmetric}
use Rattle.std.specs.Ordering.{ordering_reverse}
use Rattle.std.specs.declared.cmp.Ordering.{Ordering}
use Rattle.std.specs.declared.cmp.Ordering.TheVariants.{Less, Equal, Greater}
use Rattle.std.proofs.lemmas.Bool.{cases_Bool, false≢true}
use Rattle.occ_syntax.specs.occ_base.declared.names.Name.{Name}
use Rattle.occ_syntax.specs.declared.scope.Kind.{Kind}
use Rattle.occ_syntax.specs.Tree.{Tree}
use Rattle.occ_run_schedule.specs.occ_behaviour.declared.behaviour.Side.{Side}
use Rattle.occ_run_schedule.specs.occ_behaviour.declared.behaviour.Side.TheVariants.{First, Second}
use Rattle.occ_tool_words.specs.occ_parse.Reading.{too_long}
use Rattle.occ_refine.specs.Verdict.{IsVerdictOf}
use Rattle.occ_run_schedule.specs.occ_compare.Programs.{IsRefinement}
use Rattle.occ_tool_words.specs.Words.{is_plain, refine, same}
use Rattle.occ_tool_run.specs.declared.answer.Answer.{Answer}
use Rattle.occ_tool_run.specs.declared.answer.Answer.TheVariants.{Refused, Unusable, Usage}
use Rattle.occ_tool_run.specs.declared.judge.Question.{Question}
use Rattle.occ_tool_run.specs.declared.judge.Question.TheVariants.{WhetherRefined, WhetherSame}
use Rattle.occ_tool_run.specs.Accepts.{IsAccepted, Program}
use Rattle.occ_tool_run.specs.Answers.{Answers, Compares, IsAnswerTo, Refines, Replies, Settles, Takes, TakesBoth, Turned, accepted, accepted_behind, allowed, apart, compared, other, refused, refused_behind, unusable, unusable_behind}
use Rattle.occ_call.specs.Files.{Files, order_of, short_bytes, text_order}
use Rattle.occ_tool_run.specs.Texts.{text_of}
use Rattle.occ_tool_run.proofs.BothWays.{AgreeBothWays, same_where_both_refine}
use Rattle.occ_tool_run.proofs.Once.{IsOnce}
use Rattle.occ_tool_run.proofs.OneAnswer.{back, does}
use Rattle.occ_tool_run.proofs.Taken.{AreOne, agree, as_refused, as_taken, as_unusable}

abbrev Table : Type 0
Table = List (List ℕ)

abbrev File : Type 0
File = Option (List ℕ)

-- ---- the texts of refusals

abbrev letter : List ℕ → ℕ
letter (a ∷ b ∷ c ∷ d ∷ text) = d
letter text = 0

abbrev first_letter : List ℕ → ℕ
first_letter [] = 0
first_letter (a ∷ text) = a

-- the fourth letter of REFUSED
abbrev IsRefusing : Answer → Type 0
IsRefusing a = letter (text_of a) ≡ 85

not_refines : (a : Answer) → IsRefusing a → text_of a ≡ codes "REFINES\n" → ⊥
not_refines a l e = false≢true (sym (ap (λ n. n == 73) l) ∙ ap (λ text. letter text == 73) e)

not_same : (a : Answer) → IsRefusing a → text_of a ≡ codes "SAME\n" → ⊥
not_same a l e = false≢true (sym (ap (λ n. n == 69) l) ∙ ap (λ text. letter text == 69) e)

-- ---- what is answered of programs that look alike

refines_as : (p q r s : Program) (n : Table) (a : Answer) → p.params ≡ r.params → p.body ≡ r.body → q.params ≡ s.params → q.body ≡ s.body → Refines r n s a → Refines p n q a
refines_as p q r s n a e f g h (other d t) = other (λ u. d (sym e ∙ u ∙ g)) t
refines_as p q r s n a e f g h (allowed v o x t) =
    let F : List (Name × Kind) → Tree → Tree → Type 0 = λ ps x y. IsRefinement ps x y v in
    allowed v (e ∙ o ∙ sym g) (back F p.params r.params p.body r.body q.body s.body e f h x) t

compares_as : (p q r s : Program) (n : Table) (a : Answer) → p.params ≡ r.params → p.body ≡ r.body → q.params ≡ s.params → q.body ≡ s.body → Compares r n s a → Compares p n q a
compares_as p q r s n a e f g h (apart d t) = apart (λ u. d (sym e ∙ u ∙ g)) t
compares_as p q r s n a e f g h (compared v o x t) =
    let F : List (Name × Kind) → Tree → Tree → Type 0 = λ ps x y. IsVerdictOf ps x y v in
    compared v (e ∙ o ∙ sym g) (back F p.params r.params p.body r.body q.body s.body e f h x) t

replies_as : (question : Question) (p q r s : Program) (n : Table) (a : Answer) → p.params ≡ r.params → p.body ≡ r.body → q.params ≡ s.params → q.body ≡ s.body
    → Replies question r n s a → Replies question p n q a
replies_as WhetherSame = compares_as
replies_as WhetherRefined = refines_as

-- ---- files that are accepted, with what is answered of their programs

record Found (file : File) (old : Table) (R : Table → Program → Answer → Type 0) (a : Answer) : Type 0 where
  names : Table
  program : Program
  is : IsAccepted file old names program
  more : R names program a

-- or the answer is a refusal
record IsNot (file : File) (old : Table) (a : Answer) : Type 0 where
  none : (names : Table) (program : Program) → IsAccepted file old names program → ⊥
  refusing : IsRefusing a

-- two files that are accepted one after the other
record Both (c d : File) : Type 0 where
  between : Table
  p : Program
  first : IsAccepted c [] between p
  names : Table
  q : Program
  second : IsAccepted d between names q

record Told (c d : File) (F : Program → Table → Program → Answer → Type 0) (a : Answer) : Type 0 where
  both : Both c d
  more : F both.p both.names both.q a

record Untold (c d : File) (a : Answer) : Type 0 where
  none : Both c d → ⊥
  refusing : IsRefusing a

-- what stands of two files that are read in order, each way: whether the second one that is read is asked about first
abbrev Each : Bool → Question → Program → Table → Program → Answer → Type 0
Each true question p n q a = Replies question p n q a
Each false question p n q a = Replies question q n p a

same_answers : AgreeBothWays → (straight : Bool) (p q : Program) (k m n : Table) (x y z : Answer) → Each straight WhetherRefined p k q x → Each (cond straight false true) WhetherRefined p m q y
    → Each straight WhetherSame p n q z → ((text_of x ≡ codes "REFINES\n") × (text_of y ≡ codes "REFINES\n")) ↔ (text_of z ≡ codes "SAME\n")
same_answers law true p q k m n x y z f g h = same_where_both_refine law p q k m n x y z f g h
same_answers law false p q k m n x y z f g h = same_where_both_refine law q p k m n x y z f g h

each_as : (straight : Bool) (question : Question) (p q r s : Program) (n : Table) (a : Answer) → p.params ≡ r.params → p.body ≡ r.body → q.params ≡ s.params → q.body ≡ s.body
    → Each straight question r n s a → Each straight question p n q a
each_as true question p q r s n a e f g h x = replies_as question p q r s n a e f g h x
each_as false question p q r s n a e f g h x = replies_as question q p s r n a g h e f x

turned_order : (x y : Option (List ℕ)) → text_order y x ≡ ordering_reverse (text_order x y)
turned_order None None = refl
turned_order None (Some y) = refl
turned_order (Some x) None = refl
turned_order (Some x) (Some y) = nat_list_cmp_total.antisymm y x

pub one_text : (x y : Option (List ℕ)) → text_order x y ≡ Equal → x ≡ y
one_text None None e = refl
one_text None (Some y) e = absurd (let no : ⊥ = cc in no)
one_text (Some x) None e = absurd (let no : ⊥ = cc in no)
one_text (Some x) (Some y) e = ap Some (slice_cmp-IsAntisymmetric nat_cmp-IsAntisymmetric x y e)

-- the bytes of a file that has these and no more
long_or_bytes : (file : File) (bytes : List ℕ) → short_bytes file ≡ Some bytes → file ≡ Some bytes
long_or_bytes None bytes e = absurd (let no : ⊥ = cc in no)
long_or_bytes (Some b) bytes e = by (nat_lt 65536 (length b)) e
  where
    by : (long : Bool) → cond long None (Some b) ≡ Some bytes → Some b ≡ Some bytes
    by true e = absurd (let no : ⊥ = cc in no)
    by false e = e

-- an accepted file isn't too long
pub kept_bytes : IsOnce → (file : Option (List ℕ)) (names : List (List ℕ)) (p : Program) (a : IsAccepted file [] names p) → short_bytes file ≡ Some a.bytes
kept_bytes once file names p a = ap short_bytes a.there ∙ by (cases_Bool (nat_lt 65536 (length a.bytes)))
  where
    by : ((nat_lt 65536 (length a.bytes) ≡ true) ⊎ (nat_lt 65536 (length a.bytes) ≡ false)) → cond (nat_lt 65536 (length a.bytes)) None (Some a.bytes) ≡ Some a.bytes
    by (inl e) = absurd (once.not_both a.bytes [] names p a.text.numbers _ a.text.read (too_long e))
    by (inr e) = ap (λ long. cond long None (Some a.bytes)) e

module _ (once : IsOnce) (law : AgreeBothWays) where
  found : (place : Side) (file : File) (old : Table) (R : Table → Program → Answer → Type 0) (a : Answer) → Takes place file old R a → Found file old R a ⊎ IsNot file old a
  found place file old R a (refused f r e) = inr (record { none = λ n p t. agree once file old (as_taken n p) (as_refused f) t r; refusing = ap (λ b. letter (text_of b)) e })
  found place file old R a (unusable m l f r e) = inr (record { none = λ n p t. agree once file old (as_taken n p) (as_unusable m l f) t r; refusing = ap (λ b. letter (text_of b)) e })
  found place file old R a (accepted n p r x) = inl (record { names = n; program = p; is = r; more = x })

  -- the second file, behind one that is accepted
  behind : (place : Side) (c d : File) (F : Program → Table → Program → Answer → Type 0) (a : Answer) (m : Table) (p : Program) → IsAccepted c [] m p → Takes place d m (F p) a
      → Told c d F a ⊎ Untold c d a
  behind place c d F a m p r t = elim (found place d m (F p) a t) [
    | inl f ↦ inl (record { both = record { between = m; p = p; first = r; names = f.names; q = f.program; second = f.is }; more = f.more })
    | inr n ↦ inr (record {
      none = λ b.
          let e : AreOne b.between m b.p p = agree once c [] (as_taken b.between b.p) (as_taken m p) b.first r in
          n.none b.names b.q (subst (λ o. IsAccepted d o b.names b.q) e.names b.second);
      refusing = n.refusing;
    })
  ]

  in_order : (question : Question) (c d : File) (a : Answer) → TakesBoth Less question c d a → Told c d (Each true question) a ⊎ Untold c d a
  in_order question c d a t = elim (found First c [] (λ m p. Takes Second d m (Replies question p)) a t) [
    | inl f ↦ behind Second c d (Each true question) a f.names f.program f.is f.more
    | inr n ↦ inr (record { none = λ b. n.none b.between b.p b.first; refusing = n.refusing })
  ]

  -- a refusal behind which another text may be refused too
  still : (file : File) (b a : Answer) → IsRefusing b → Takes First file [] (λ n p x. x ≡ b) a → IsRefusing a
  still file b a l t = elim (found First file [] (λ n p x. x ≡ b) a t) [
    | inl f ↦ ap (λ x. letter (text_of x)) f.more ∙ l
    | inr n ↦ n.refusing
  ]

  turned : (question : Question) (c d : File) (a : Answer) → Turned question d c a → Told c d (Each false question) a ⊎ Untold c d a
  turned question c d a (refused_behind f r t) =
      inr (record { none = λ b. agree once c [] (as_taken b.between b.p) (as_refused f) b.first r; refusing = still d (Refused Second f) a refl t })
  turned question c d a (unusable_behind m l f r t) =
      inr (record { none = λ b. agree once c [] (as_taken b.between b.p) (as_unusable m l f) b.first r; refusing = still d (Unusable m Second l f) a refl t })
  turned question c d a (accepted_behind m q r t) = behind First c d (Each false question) a m q r t

  alike : (c d : File) (b e : Both c d) → (AreOne b.between e.between b.p e.p) × (AreOne b.names e.names b.q e.q)
  alike c d b e =
      let f : AreOne b.between e.between b.p e.p = agree once c [] (as_taken b.between b.p) (as_taken e.between e.p) b.first e.first in
      (f, agree once d b.between (as_taken b.names b.q) (as_taken e.names e.q) b.second (subst (λ o. IsAccepted d o e.names e.q) (sym f.names) e.second))

  moved : (straight : Bool) (question : Question) (c d : File) (a : Answer) (b : Both c d) (t : Told c d (Each straight question) a) → Each straight question b.p t.both.names b.q a
  moved straight question c d a b t =
      let e = alike c d b t.both in
      each_as straight question b.p b.q t.both.p t.both.q t.both.names a e.0.params e.0.body e.1.params e.1.body t.more

  three : (straight : Bool) (c d : File) (x y z : Answer) → Told c d (Each straight WhetherRefined) x ⊎ Untold c d x → Told c d (Each (cond straight false true) WhetherRefined) y ⊎ Untold c d y
      → Told c d (Each straight WhetherSame) z ⊎ Untold c d z → ((text_of x ≡ codes "REFINES\n") × (text_of y ≡ codes "REFINES\n")) ↔ (text_of z ≡ codes "SAME\n")
  three straight c d x y z (inl f) (inl g) (inl h) =
      same_answers law straight f.both.p f.both.q f.both.names g.both.names h.both.names x y z f.more (moved (cond straight false true) WhetherRefined c d y f.both g) (moved straight WhetherSame c d z f.both h)
  three straight c d x y z (inl f) (inl g) (inr n) = absurd (n.none f.both)
  three straight c d x y z (inl f) (inr n) h = absurd (n.none f.both)
  three straight c d x y z (inr n) g (inl h) = absurd (n.none h.both)
  three straight c d x y z (inr n) g (inr m) = (λ t. absurd (not_refines x n.refusing t.0), λ t. absurd (not_same z m.refusing t))

  -- ---- two files with one text

  of_other : (one two : File) (names : Table) (p : Program) → short_bytes one ≡ short_bytes two → IsAccepted one [] names p → IsAccepted two [] names p
  of_other one two names p e a = record { bytes = a.bytes; there = long_or_bytes two a.bytes (sym e ∙ kept_bytes once one names p a); text = a.text }

  one_file : (one two : File) (x y z : Answer) → short_bytes one ≡ short_bytes two → TakesBoth Equal WhetherRefined one two x → TakesBoth Equal WhetherRefined two one y → TakesBoth Equal WhetherSame one two z
      → ((text_of x ≡ codes "REFINES\n") × (text_of y ≡ codes "REFINES\n")) ↔ (text_of z ≡ codes "SAME\n")
  one_file one two x y z e f g h =
      by (found First one [] (λ n p. Refines p n p) x f) (found First two [] (λ n p. Refines p n p) y g) (found First one [] (λ n p. Compares p n p) z h)
    where
      by : Found one [] (λ n p. Refines p n p) x ⊎ IsNot one [] x → Found two [] (λ n p. Refines p n p) y ⊎ IsNot two [] y → Found one [] (λ n p. Compares p n p) z ⊎ IsNot one [] z
          → ((text_of x ≡ codes "REFINES\n") × (text_of y ≡ codes "REFINES\n")) ↔ (text_of z ≡ codes "SAME\n")
      by (inl i) (inl j) (inl k) =
          let a = agree once one [] (as_taken i.names i.program) (as_taken j.names j.program) i.is (of_other two one j.names j.program (sym e) j.is) in
          let b = agree once one [] (as_taken i.names i.program) (as_taken k.names k.program) i.is k.is in
          same_where_both_refine law i.program i.program i.names j.names k.names x y z i.more
          (refines_as i.program i.program j.program j.program j.names y a.params a.body a.params a.body j.more)
          (compares_as i.program i.program k.program k.program k.names z b.params b.body b.params b.body k.more)
      by (inl i) (inl j) (inr n) = absurd (n.none i.names i.program i.is)
      by (inl i) (inr n) k = absurd (n.none i.names i.program (of_other one two i.names i.program e i.is))
      by (inr n) j (inl k) = absurd (n.none k.names k.program k.is)
      by (inr n) j (inr m) = (λ t. absurd (not_refines x n.refusing t.0), λ t. absurd (not_same z m.refusing t))

  -- ---- files in whichever order

  abbrev Law : Answer → Answer → Answer → Type 0
  Law x y z = ((text_of x ≡ codes "REFINES\n") × (text_of y ≡ codes "REFINES\n")) ↔ (text_of z ≡ codes "SAME\n")

  ways : (order : Ordering) (one two : File) (x y z : Answer) → order_of one two ≡ order → TakesBoth order WhetherRefined one two x → TakesBoth (ordering_reverse order) WhetherRefined two one y
      → TakesBoth order WhetherSame one two z → Law x y z
  ways Less one two x y z e f g h = three true one two x y z (in_order WhetherRefined one two x f) (turned WhetherRefined one two y g) (in_order WhetherSame one two z h)
  ways Equal one two x y z e f g h = one_file one two x y z (one_text (short_bytes one) (short_bytes two) e) f g h
  ways Greater one two x y z e f g h = three false two one x y z (turned WhetherRefined two one x f) (in_order WhetherRefined two one y g) (turned WhetherSame two one z h)

  settled : (one two : File) (x y z : Answer) → Settles WhetherRefined one two x → Settles WhetherRefined two one y → Settles WhetherSame one two z → Law x y z
  settled one two x y z f g h =
      let P : Ordering → Type 0 = λ o. TakesBoth o WhetherRefined two one y in
      ways (order_of one two) one two x y z refl f.text (subst P (turned_order (short_bytes one) (short_bytes two)) g.text) h.text

  -- ---- command lines

  -- words that don't fit
  unfit : (x y z : Answer) → x ≡ Usage → z ≡ Usage → Law x y z
  unfit x y z e f = (
    λ t. absurd (false≢true (ap (λ text. first_letter text == 82) (sym (ap text_of e) ∙ t.0))),
    λ t. absurd (false≢true (ap (λ text. first_letter text == 83) (sym (ap text_of f) ∙ t))),
  )

  -- the words fit, or they don't
  told : (files : Files) (a b : Bool) (first second : List ℕ) (x y z : Answer) → IsAnswerTo files (cond (a && b) (Some (refine first second)) None) x → IsAnswerTo files (cond (b && a) (Some (refine second first)) None) y
      → IsAnswerTo files (cond (a && b) (Some (same first second)) None) z → Law x y z
  told files true true first second x y z f g h = settled (files first) (files second) x y z f g h
  told files true false first second x y z f g h = unfit x y z f h
  told files false b first second x y z f g h = unfit x y z f h

  pub in_either_order : (files : Files) (tool first second : List ℕ) (k m n : ℕ) (x y z : List ℕ) → Answers files (tool ∷ codes "refine" ∷ first ∷ second ∷ []) k x
      → Answers files (tool ∷ codes "refine" ∷ second ∷ first ∷ []) m y → Answers files (tool ∷ codes "same" ∷ first ∷ second ∷ []) n z
      → ((x ≡ codes "REFINES\n") × (y ≡ codes "REFINES\n")) ↔ (z ≡ codes "SAME\n")
  in_either_order files tool first second k m n x y z f g h =
      let law : Law f.answer g.answer h.answer =
      told files (is_plain first) (is_plain second) first second f.answer g.answer h.answer (does files _ f.answer f.is) (does files _ g.answer g.is) (does files _ h.answer h.is) in (
        λ t. h.text_is ∙ law.0 (sym f.text_is ∙ t.0, sym g.text_is ∙ t.1),
        λ t. let both = law.1 (sym h.text_is ∙ t) in (f.text_is ∙ both.0, g.text_is ∙ both.1),
      )
