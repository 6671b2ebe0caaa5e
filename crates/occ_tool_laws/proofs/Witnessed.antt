-- Two answers of `witness` to the same files.
use Rattle.std.proofs.Common.{◌≡◌, ◌≢◌, ◌≤◌, ℕ, Bool, true, false, List, [], ◌∷◌, Option, Some, if◌then◌else◌, inl, inr, refl, sym, ap, subst, ◌∙◌, arith}
use Rattle.std.specs.Prelude.{codes}
use Rattle.std.specs.Str.{bytes_eq}
use Rattle.occ_tool_laws.specs.Witnessed.{AreOneWitness, IsShowing}
use Rattle.occ_witness.specs.occ_behaviour.declared.behaviour.Behaviour.{Behaviour}
use Rattle.occ_witness.specs.occ_behaviour.declared.behaviour.Side.TheVariants.{First}
use Rattle.occ_witness.specs.occ_call.Files.{Files}
use Rattle.occ_witness.specs.occ_run_schedule.declared.witnessing.Witness.{Witness}
use Rattle.occ_witness.specs.occ_run_schedule.declared.witnessing.Witness.TheVariants as witness
use Rattle.occ_witness.specs.occ_run_schedule.Witnesses.{HasIt, IsWitness}
use Rattle.occ_witness.specs.occ_syntax.declared.scope.Program.{Program as Stored}
use Rattle.occ_witness.specs.occ_tool_run.Accepts.{IsAccepted}
use Rattle.occ_witness.specs.occ_tool_run.Answers.{Answers, IsDetermined, IsJudged, Judges, Takes, accepted, faulty_claim, judged_claim, membership, refused, too_long_claim, unusable}
use Rattle.occ_witness.specs.occ_tool_run.Stored.{seen}
use Rattle.occ_witness.specs.occ_tool_run.Texts.{status_of, text_of}
use Rattle.occ_witness.specs.occ_tool_run.declared.answer.Answer.{Answer}
use Rattle.occ_witness.specs.occ_tool_run.declared.answer.Answer.TheVariants.{Member}
use Rattle.occ_witness.specs.occ_tool_words.Words.{job_of}
use Rattle.occ_witness.specs.Answers.{Answers as WitnessAnswers}
use Rattle.occ_witness.specs.Findings.{Finds, IsFound, as_belongs, finding_of, found, status_of_finding, text_of_finding}
use Rattle.occ_witness.specs.declared.finding.Finding.{Finding}

-- a command line of the tool has one answer
abbrev pub OneLaw : Type 0
OneLaw = (files : Files) (words : List (List ℕ)) (s t : ℕ) (a b : List ℕ) → IsDetermined (job_of words) → Answers files words s a → Answers files words t b
    → (s ≡ t) × (a ≡ b)

-- ---- what `belongs` says

-- words that ask it of two files
abbrev asking : List (List ℕ)
asking = codes "occam" ∷ codes "belongs" ∷ codes "a" ∷ codes "b" ∷ []

abbrev two_files : Option (List ℕ) → Option (List ℕ) → Files
two_files one two = λ name. if bytes_eq name (codes "a") then one else two

told : (one two : Option (List ℕ)) (x : Answer) → Judges one two x → Answers (two_files one two) asking (status_of x) (text_of x)
told one two x j = record { answer = x; is = membership (codes "a") (codes "b") refl j; status_is = refl; text_is = refl }

judged_once : OneLaw → (one two : Option (List ℕ)) (x y : Answer) → Judges one two x → Judges one two y → (status_of x ≡ status_of y) × (text_of x ≡ text_of y)
judged_once law one two x y j k = law (two_files one two) asking (status_of x) (status_of y) (text_of x) (text_of y) tt (told one two x j) (told one two y k)

-- of its answers YES alone has status 0
refusing : (x : Answer) (n : ℕ) → status_of x ≡ 0 → status_of x ≡ n → 1 ≤ n → ⊥
refusing x n z e h = absurd (omega (arith, z, e, h))

yes_alone : (one : Option (List ℕ)) (bytes : List ℕ) (x : Answer) → Takes First one [] (IsJudged bytes) x → status_of x ≡ 0 → x ≡ Member true
yes_alone one bytes x (refused f r e) z = absurd (refusing x 3 z (ap status_of e) (omega arith))
yes_alone one bytes x (unusable n l f r e) z = absurd (refusing x 3 z (ap status_of e) (omega arith))
yes_alone one bytes x (accepted n p a (too_long_claim l e)) z = absurd (refusing x 3 z (ap status_of e) (omega arith))
yes_alone one bytes x (accepted n p a (faulty_claim k l r e)) z = absurd (refusing x 3 z (ap status_of e) (omega arith))
yes_alone one bytes x (accepted n p a (judged_claim b true l r i e)) z = e
yes_alone one bytes x (accepted n p a (judged_claim b false l r i e)) z = absurd (refusing x 1 z (ap status_of e) (omega arith))

yes : (one two : Option (List ℕ)) (bytes : List ℕ) (names : List (List ℕ)) (p : Stored) (f : Finding) → two ≡ Some bytes → IsAccepted one [] names (seen p)
    → IsFound bytes names p f → Judges one two (Member true)
yes one two bytes names p f there a q = record {
  bytes = bytes;
  there = there;
  text = accepted names (seen p) a (judged_claim q.behaviour true q.short q.written ((λ i. q.has), (λ h. refl)) refl);
}

-- ---- what is found

shows : (p : Stored) (b : Behaviour) (w : Witness) (f : Finding) → HasIt p b → IsWitness p b w → f ≡ finding_of w → IsShowing (status_of_finding f) (text_of_finding f)
shows p b (witness.Schedule text) f h i e = inl (ap status_of_finding e)
shows p b witness.Outside f h i e = absurd (i h)
shows p b witness.Long f h i e = inr (ap text_of_finding e)

one_finding : OneLaw → (one two : Option (List ℕ)) (f g : Finding) → Finds one two f → Finds one two g
    → AreOneWitness (status_of_finding f) (text_of_finding f) (status_of_finding g) (text_of_finding g)
one_finding law one two f g (as_belongs x j n e) (as_belongs y k m h) =
    let o = judged_once law one two x y j k in
    inl (ap status_of_finding e ∙ o.0 ∙ sym (ap status_of_finding h), ap text_of_finding e ∙ o.1 ∙ sym (ap text_of_finding h))
one_finding law one two f g (as_belongs x j n e) (found bytes names p there a q) =
    absurd (n (yes_alone one j.bytes x j.text (judged_once law one two x (Member true) j (yes one two bytes names p g there a q)).0))
one_finding law one two f g (found bytes names p there a q) (as_belongs y k m h) =
    absurd (m (yes_alone one k.bytes y k.text (judged_once law one two y (Member true) k (yes one two bytes names p f there a q)).0))
one_finding law one two f g (found bytes names p there a q) (found bytes' names' p' there' a' q') =
    inr (shows p q.behaviour q.shown_by f q.has q.is q.finding_is, shows p' q'.behaviour q'.shown_by g q'.has q'.is q'.finding_is)

shown : (s x : ℕ) (a u : List ℕ) → s ≡ x → a ≡ u → IsShowing x u → IsShowing s a
shown s x a u e f h = elim h [ inl i ↦ inl (e ∙ i) | inr i ↦ inr (f ∙ i) ]

one_witness : OneLaw → (one two : Option (List ℕ)) (s t : ℕ) (a b : List ℕ) → WitnessAnswers one two s a → WitnessAnswers one two t b → AreOneWitness s a t b
one_witness law one two s t a b x y = elim (one_finding law one two x.finding y.finding x.is y.is) [
  | inl h ↦ inl (x.status_is ∙ h.0 ∙ sym y.status_is, x.text_is ∙ h.1 ∙ sym y.text_is)
  | inr h ↦ inr (shown s _ a _ x.status_is x.text_is h.0, shown t _ b _ y.status_is y.text_is h.1)
]

pub witnesses_are_one : OneLaw → (one two : Option (List ℕ)) (s t : ℕ) (a b : List ℕ) → WitnessAnswers one two s a → WitnessAnswers one two t b
    → AreOneWitness s a t b
witnesses_are_one law one two s t a b x y = one_witness law one two s t a b x y
