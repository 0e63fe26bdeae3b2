-- One text after another.
use Rattle.std.proofs.Common.{ℕ, List, [], ◌++◌, Option, Result, Ok, Err, subst, sym}
use Rattle.std.proofs.lemmas.List.{append-nil}
use Rattle.std.specs.Io.KnownBytes.{Appends}
use Rattle.agc_text.specs.Writing.{Writes, AppendsUpTo}
use Rattle.agc_text.proofs.Steps.{up_to_start, up_to_more, up_to_end, up_to_front}

-- the first of them was written
pub up_to_second : (o m : Option (List ℕ)) (first rest : List ℕ) → Appends o m first → AppendsUpTo o m (first ++ rest) rest
up_to_second o m first rest w = up_to_more o o m (first ++ rest) first rest (up_to_start o (first ++ rest)) w

-- what was left was written, or a front of it
pub writes_last : {U D : Type 0} → (o m n : Option (List ℕ)) (text last : List ℕ) (r : Result U D) → AppendsUpTo o m text last → Writes m n last r → Writes o n text r
writes_last o m n text last (Ok x) h k = up_to_end o n text (up_to_more o m n text last [] (subst (λ (t : List ℕ). AppendsUpTo o m text t) (sym (append-nil last)) h) k)
writes_last o m n text last (Err x) h k = up_to_front o m n text last [] (subst (λ (t : List ℕ). AppendsUpTo o m text t) (sym (append-nil last)) h) k
