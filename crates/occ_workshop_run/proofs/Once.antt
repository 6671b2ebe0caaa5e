-- A command line over the same files has one answer, where it asks for a drawing or its words don't fit.
use Rattle.std.proofs.Common.{◌≡◌, ◌∙◌, ℕ, List, Option, None, Some, sym, ap}
use Rattle.occ_witness.specs.occ_call.Files.{Files}
use Rattle.occ_draw.specs.Answers.{Draws, Told}
use Rattle.occ_workshop_run.specs.Answers.{Answers, AnswersJob, IsDetermined}
use Rattle.occ_workshop_run.specs.Words.{Job, check, draw, explain, prove, witness, aut, promela, steps, steps_after, why, why_apart, traces, deterministic, job_of}

module _ (one_drawing : (file : Option (List ℕ)) (a b : Told) → Draws file a → Draws file b → a ≡ b) where
  job_once : (files : Files) (job : Option Job) (s t : ℕ) (a b : List ℕ) → IsDetermined job → AnswersJob files job s a → AnswersJob files job t b → (s ≡ t) × (a ≡ b)
  job_once files None s t a b free x y = (x.0 ∙ sym y.0, x.1 ∙ sym y.1)
  job_once files (Some (check name)) s t a b free x y = absurd free
  job_once files (Some (draw name)) s t a b free x y =
      let e = one_drawing (files name) (record { status = s; text = a }) (record { status = t; text = b }) x y in
      (ap (λ told. told.status) e, ap (λ told. told.text) e)
  job_once files (Some (explain name refusal)) s t a b free x y = absurd free
  job_once files (Some (prove first second)) s t a b free x y = absurd free
  job_once files (Some (witness program name)) s t a b free x y = absurd free
  job_once files (Some (aut program)) s t a b free x y = absurd free
  job_once files (Some (promela program)) s t a b free x y = absurd free
  job_once files (Some (steps program)) s t a b free x y = absurd free
  job_once files (Some (steps_after program text)) s t a b free x y = absurd free
  job_once files (Some (why program)) s t a b free x y = absurd free
  job_once files (Some (why_apart first second)) s t a b free x y = absurd free
  job_once files (Some (traces first second)) s t a b free x y = absurd free
  job_once files (Some (deterministic program)) s t a b free x y = absurd free

  pub once : (files : Files) (words : List (List ℕ)) (s t : ℕ) (a b : List ℕ) → IsDetermined (job_of words) → Answers files words s a → Answers files words t b → (s ≡ t) × (a ≡ b)
  once files words s t a b free x y = job_once files (job_of words) s t a b free x y
