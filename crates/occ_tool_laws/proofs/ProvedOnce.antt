-- Two answers of `prove` to one command line.
use Rattle.std.proofs.Common.{◌≡◌, ◌∙◌, ◌≤◌, ◌<◌, ℕ, true, List, [], ◌∷◌, Option, Some, if◌then◌else◌, refl, sym, ap, subst, arith}
use Rattle.std.specs.Prelude.{codes}
use Rattle.std.specs.Str.{bytes_eq}
use Rattle.occ_tool_laws.proofs.Told.{told_same}
use Rattle.occ_tool_laws.specs.OneProof.{HaveOneWay, IsProof, IsScriptTo, long, one_text, one_way, script}
use Rattle.occ_witness.proofs.from_tool_run.Once.{IsOnce}
use Rattle.occ_witness.proofs.from_tool_run.Taken.{AreOne, agree, as_refused, as_taken, as_unusable}
use Rattle.occ_witness.specs.occ_behaviour.declared.behaviour.Side.TheVariants.{First, Second}
use Rattle.occ_witness.specs.occ_call.Files.{Files}
use Rattle.occ_prove.specs.Answers.{Answers as ProveAnswers}
use Rattle.occ_prove.specs.Joined.{HaveOneHeader}
use Rattle.occ_prove.specs.Proofs.{AreApart, AreHeadedAlike, IsProved, Proves, as_same, by_laws, long as as_long, proved, status_of_proof, text_of_proof}
use Rattle.occ_prove.specs.declared.proof.Proof.{Proof}
use Rattle.occ_witness.specs.occ_syntax.declared.scope.Program.{Program as Stored}
use Rattle.occ_witness.specs.occ_tool_run.Accepts.{IsAccepted, Program}
use Rattle.occ_witness.specs.occ_tool_run.Answers.{Answers, IsDetermined, Settles, Takes, accepted, comparison, refused, unusable}
use Rattle.occ_witness.specs.occ_tool_run.Stored.{seen}
use Rattle.occ_witness.specs.occ_tool_run.Texts.{status_of, text_of}
use Rattle.occ_witness.specs.occ_tool_run.declared.answer.Answer.{Answer}
use Rattle.occ_witness.specs.occ_tool_run.declared.judge.Question.TheVariants.{WhetherSame}
use Rattle.occ_witness.specs.occ_tool_words.Words.{job_of}

abbrev Table : Type 0
Table = List (List ℕ)

abbrev File : Type 0
File = Option (List ℕ)

-- a command line of the tool has one answer
abbrev pub OneLaw : Type 0
OneLaw = (files : Files) (words : List (List ℕ)) (s t : ℕ) (a b : List ℕ) → IsDetermined (job_of words) → Answers files words s a → Answers files words t b
    → (s ≡ t) × (a ≡ b)

-- ---- what `same` says

-- words that ask it of two files
abbrev asking : List (List ℕ)
asking = codes "occam" ∷ codes "same" ∷ codes "a" ∷ codes "b" ∷ []

abbrev two_files : File → File → Files
two_files one two = λ name. if bytes_eq name (codes "a") then one else two

told : (one two : File) (x : Answer) → Settles WhetherSame one two x → Answers (two_files one two) asking (status_of x) (text_of x)
told one two x s = record { answer = x; is = comparison (codes "a") (codes "b") refl s; status_is = refl; text_is = refl }

settled_once : OneLaw → (one two : File) (x y : Answer) → Settles WhetherSame one two x → Settles WhetherSame one two y → (status_of x ≡ status_of y) × (text_of x ≡ text_of y)
settled_once law one two x y s t = law (two_files one two) asking (status_of x) (status_of y) (text_of x) (text_of y) tt (told one two x s) (told one two y t)

-- what follows stands on the reading of a text being one, and on that answer
module _ (once : IsOnce) (law : OneLaw) where
  -- ---- programs of one header aren't apart

  module _ (one two : File) (m n : Table) (p q : Stored) (a : IsAccepted one [] m (seen p)) (b : IsAccepted two m n (seen q)) (h : HaveOneHeader p q) where
    second_apart : (o : Table) (r : Program) (x : Answer) → AreOne m o (seen p) r → Takes Second two o (λ names s y. AreHeadedAlike r s → ⊥) x → ⊥
    second_apart o r x d (refused f u e) = agree once two o (as_taken n (seen q)) (as_refused f) (subst (λ (t : Table). IsAccepted two t n (seen q)) d.names b) u
    second_apart o r x d (unusable k l f u e) = agree once two o (as_taken n (seen q)) (as_unusable k l f) (subst (λ (t : Table). IsAccepted two t n (seen q)) d.names b) u
    second_apart o r x d (accepted k s u differ) =
        let e : AreOne n k (seen q) s = agree once two o (as_taken n (seen q)) (as_taken k s) (subst (λ (t : Table). IsAccepted two t n (seen q)) d.names b) u in
        differ (sym d.name ∙ h.0 ∙ e.name, sym d.params ∙ h.1 ∙ e.params)

    first_apart : (x : Answer) → Takes First one [] (λ between r. Takes Second two between (λ names s y. AreHeadedAlike r s → ⊥)) x → ⊥
    first_apart x (refused f u e) = agree once one [] (as_taken m (seen p)) (as_refused f) a u
    first_apart x (unusable k l f u e) = agree once one [] (as_taken m (seen p)) (as_unusable k l f) a u
    first_apart x (accepted k r u t) = second_apart k r x (agree once one [] (as_taken m (seen p)) (as_taken k r) a u) t

    not_apart : AreApart one two → ⊥
    not_apart t = first_apart t.0 t.1

  -- ---- two answers by laws

  is_proof : (names : Table) (p q : Stored) (f : Proof) → IsProved names p q f → IsProof names (seen p) (seen q) (status_of_proof f) (text_of_proof f)
  is_proof names p q f (as_long is e) = long p refl is (ap status_of_proof e) (ap text_of_proof e)
  is_proof names p q f (proved new steps answer few led w c e) = script (ap status_of_proof e ∙ ap status_of c.answer_is) (record {
    new = new;
    from = p;
    steps = steps;
    to = q;
    grown = w.grown;
    from_is = refl;
    to_is = refl;
    text_is = ap text_of_proof e ∙ ap text_of c.answer_is ∙ c.text_is;
  })

  renamed : (n k : Table) (p q r s : Program) (x : ℕ) (a : List ℕ) → AreOne n k p r → AreOne n k q s → IsProof k r s x a → IsProof n p q x a
  renamed n k p q r s x a d e w =
      let P : Table → Type 0 = λ t. IsProof t r s x a in
      let Q : Program → Type 0 = λ y. IsProof n y s x a in
      let R : Program → Type 0 = λ y. IsProof n p y x a in
      let f : r ≡ p = λ i. record { name = (sym d.name) i; params = (sym d.params) i; body = (sym d.body) i } in
      let g : s ≡ q = λ i. record { name = (sym e.name) i; params = (sym e.params) i; body = (sym e.body) i } in
      subst R g (subst Q f (subst P (sym d.names) w))

  -- ---- two answers

  one_proof : (one two : File) (f g : Proof) → Proves one two f → Proves one two g → HaveOneWay one two (status_of_proof f) (text_of_proof f) (status_of_proof g) (text_of_proof g)
  one_proof one two f g (as_same x s u e) (as_same y t v h) =
      let o = settled_once law one two x y s t in
      one_text (ap status_of_proof e ∙ o.0 ∙ sym (ap status_of_proof h)) (ap text_of_proof e ∙ o.1 ∙ sym (ap text_of_proof h))
  one_proof one two f g (as_same x s u e) (by_laws y m n p q t is a b h w) =
      absurd (not_apart one two m n p q a b h (u (told_same one two x s ((settled_once law one two x y s t).0 ∙ ap status_of is.1))))
  one_proof one two f g (by_laws y m n p q t is a b h w) (as_same x s u e) =
      absurd (not_apart one two m n p q a b h (u (told_same one two x s ((settled_once law one two x y s t).0 ∙ ap status_of is.1))))
  one_proof one two f g (by_laws x m n p q s is a b h w) (by_laws y m' n' p' q' t is' a' b' h' w') =
      let d : AreOne m m' (seen p) (seen p') = agree once one [] (as_taken m (seen p)) (as_taken m' (seen p')) a a' in
      let e : AreOne n n' (seen q) (seen q') =
      agree once two m (as_taken n (seen q)) (as_taken n' (seen q')) b (subst (λ (t : Table). IsAccepted two t n' (seen q')) (sym d.names) b') in
      let k : AreOne n n' (seen p) (seen p') = record { names = e.names; name = d.name; params = d.params; body = d.body } in
      one_way m n (seen p) (seen q) a b (is_proof n p q f w) (renamed n n' (seen p) (seen q) (seen p') (seen q') (status_of_proof g) (text_of_proof g) k e (is_proof n' p' q' g w'))

  kept : (names : Table) (p q : Program) (s x : ℕ) (a u : List ℕ) → s ≡ x → a ≡ u → IsProof names p q x u → IsProof names p q s a
  kept names p q s x a u e g i =
      let P : ℕ → Type 0 = λ z. IsProof names p q z u in
      let Q : List ℕ → Type 0 = λ w. IsProof names p q s w in
      subst Q (sym g) (subst P (sym e) i)

  moved : (one two : File) (s t x y : ℕ) (a b u v : List ℕ) → s ≡ x → t ≡ y → a ≡ u → b ≡ v → HaveOneWay one two x u y v → HaveOneWay one two s a t b
  moved one two s t x y a b u v e f g h (one_text i j) = one_text (e ∙ i ∙ sym f) (g ∙ j ∙ sym h)
  moved one two s t x y a b u v e f g h (one_way m n p q c d i j) =
      one_way m n p q c d (kept n p q s x a u e g i) (kept n p q t y b v f h j)

  one_answer : (one two : File) (s t : ℕ) (a b : List ℕ) → ProveAnswers one two s a → ProveAnswers one two t b → HaveOneWay one two s a t b
  one_answer one two s t a b x y =
      moved one two s t (status_of_proof x.proof) (status_of_proof y.proof) a b (text_of_proof x.proof) (text_of_proof y.proof) x.status_is y.status_is x.text_is y.text_is
      (one_proof one two x.proof y.proof x.is y.is)

  pub proofs_are_one : (one two : Option (List ℕ)) (s t : ℕ) (a b : List ℕ) → ProveAnswers one two s a → ProveAnswers one two t b
      → HaveOneWay one two s a t b
  proofs_are_one one two s t a b x y = one_answer one two s t a b x y
