-- What is told of two files.
use Rattle.std.proofs.Common.{◌≡◌, ℕ, List, Option}
use Rattle.occ_tool_run.specs.occ_call.declared.loading.Loaded.{Loaded}
use Rattle.occ_tool_run.specs.occ_call.Files.{IsLoaded, most_bytes}
use Rattle.occ_prove.specs.declared.proof.Proof.{Proof}
use Rattle.occ_prove.specs.Answers.{Answers}
use Rattle.occ_prove.specs.Proofs.{Proves, status_of_proof, text_of_proof}

pub tells_all : (one two : Loaded) (proof : Proof) (status : ℕ) (text : List ℕ)
    → ((x y : Option (List ℕ)) → IsLoaded most_bytes x one → IsLoaded most_bytes y two → Proves x y proof) → status ≡ status_of_proof proof
    → text ≡ text_of_proof proof → (x y : Option (List ℕ)) → IsLoaded most_bytes x one → IsLoaded most_bytes y two → Answers x y status text
tells_all one two proof status text p s t = λ x y j k. record { proof = proof; is = p x y j k; status_is = s; text_is = t }
