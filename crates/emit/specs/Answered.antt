-- What is left of a call that writes once the list is accepted: refusal 11, or the bytes at the front of the buffer.
use Rattle.std.specs.Prelude.{ℕ, ◌≡◌, List, [], ◌∷◌, ltb, length, Result, ⊤}
use Rattle.rules.specs.Files.{file_of, distance_of, filled, write_answer}
use Rattle.rules.specs.Refusals.{verdict}
use Rattle.rules.specs.declared.Cmd.{Cmd}
use Rattle.rules.specs.declared.Format.{Format}
use Rattle.rules.specs.declared.Refusal.TheVariants.{BufferTooShort}
use Rattle.rules.specs.declared.Refusal.{Refusal}
use Rattle.rules.specs.declared.Written.{Written}

unfoldable pub room_verdict : List ℕ → ℕ → Result ⊤ Refusal
room_verdict bytes n = verdict ((BufferTooShort, ltb n (length bytes)) ∷ [])

-- the buffer holds d before and d' after; the call answers r, by a verdict and a length
pub record Answered {A : Type 0} (answer : Result ⊤ Refusal → ℕ → A) (bytes d d' : List ℕ) (r : A) : Type 0 where
  pub told : r ≡ answer (room_verdict bytes (length d)) (length bytes)
  pub stored : d' ≡ filled (room_verdict bytes (length d)) bytes d

-- the same of the file of a list, with its distance
abbrev pub FileAnswered : Format → List ℕ → List Cmd → List ℕ → List ℕ → List ℕ → Result Written Refusal → Type 0
FileAnswered f name cs threads d d' r = Answered (write_answer (distance_of f threads)) (file_of f name cs threads) d d' r
