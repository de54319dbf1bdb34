-- A file that has been written, read back; and both calls.
use Rattle.std.specs.Prelude.{ℕ, ◌≡◌, List, ℤ, Ok, Err, Option, Result}
use Rattle.rules.specs.Promises.{was, left, ReadOf, WroteAndRead}
use Rattle.rules.specs.declared.RoundTripRefusal.TheVariants.{NotRead}
use Rattle.read.specs.Answered.{Lent}
use Rattle.rules.specs.declared.Counts.{Counts}
use Rattle.rules.specs.declared.Refusal.{Refusal}
use Rattle.rules.specs.declared.Format.{Format}
use Rattle.rules.specs.declared.RoundTripRefusal.{RoundTripRefusal}

-- what a read answers, of a file written with n bytes
unfoldable pub back_answer : ℕ → Result Counts Refusal → Result (ℕ × Counts) RoundTripRefusal
back_answer n (Ok c) = Ok (n, c)
back_answer n (Err r) = Err (NotRead n r)

pub record ReadBackOf (e : Option Format) (n : ℕ) (file : List ℕ) (places : List ℤ) (runs blocks : List ℕ)
    (places' : List ℤ) (runs' blocks' : List ℕ) (a : Result (ℕ × Counts) RoundTripRefusal) : Type 0 where
  pub answer : Result Counts Refusal
  pub read : ReadOf e file places runs blocks places' runs' blocks' answer
  pub told : a ≡ back_answer n answer

-- `WroteAndRead` of buffers that a call is passed, at entry and at exit
abbrev pub WritesAndReads : Option Format → List ℕ → List ℤ → List ℤ → List ℕ → List ℕ → Lent (List ℕ) → Lent (List ℤ) → Lent (List ℕ)
    → Lent (List ℕ) → Result (ℕ × Counts) RoundTripRefusal → Type 0
WritesAndReads e name xs ys kinds threads file places runs blocks a = WroteAndRead e name xs ys kinds threads
    (was file) (was places) (was runs) (was blocks) (left file) (left places) (left runs) (left blocks) a
