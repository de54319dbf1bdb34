-- The number, start and length of what the label's call answers, and four promises of crate rules by what an export is passed.
use Rattle.std.specs.Prelude.{ℕ, List, ℤ, Ok, Err, Option, Result}
use Rattle.std.specs.Borrow.{MutBor}
use denote.Triple.Both.{Both}
use Rattle.rules.specs.Promises.{was, left, xs_of, ys_of, kinds_of, ReadNumbers, WroteNumbers, FitsNumbers, ImportedNumbers}
use Rattle.rules.specs.Refusals.{number_of}
use Rattle.rules.specs.declared.Cmd.{Cmd}
use Rattle.rules.specs.declared.Hoop.{Hoop}
use Rattle.rules.specs.declared.Refusal.{Refusal}
use Rattle.rules.specs.declared.Format.{Format}
use Rattle.read_header.specs.declared.Span.{Span}

abbrev pub label_start : Result Span Refusal → ℕ
label_start (Ok p) = p.start
label_start (Err r) = 0

abbrev pub label_length : Result Span Refusal → ℕ
label_length (Ok p) = p.len
label_length (Err r) = 0

-- what a call is passed, at entry and at exit
abbrev pub Lent : Type 0 → Type 0
Lent A = Both (MutBor A) (MutBor A)

-- `ReadNumbers` of the buffers and the numbers passed
abbrev pub ReadsNumbers : Option Format → List ℕ → Lent (List ℤ) → Lent (List ℕ) → Lent (List ℕ) → ℕ → Lent ℕ → Lent ℕ → Lent ℕ → Lent ℕ → Type 0
ReadsNumbers e file places runs blocks r points runs-n blocks-n cuts =
    ReadNumbers e file (was places) (was runs) (was blocks) (left places) (left runs) (left blocks) r (left points) (left runs-n) (left blocks-n) (left cuts)

-- `WroteNumbers` of a list of records
abbrev pub WroteCmdsNumbers : Option Format → List ℕ → List Cmd → List ℕ → List ℕ → List ℕ → ℕ → ℕ → ℕ → Type 0
WroteCmdsNumbers e name cmds threads out out' r len far =
    WroteNumbers e name (xs_of cmds) (ys_of cmds) (kinds_of cmds) threads out out' r len far

-- `FitsNumbers` of the number passed
abbrev pub FitsByNumbers : Option Format → List ℕ → Hoop → ℕ → Lent ℕ → Type 0
FitsByNumbers e file h r bit = FitsNumbers e file h r (left bit)

-- `ImportedNumbers` of the buffers and the numbers passed
abbrev pub ImportsNumbers : List ℕ → Lent (List ℤ) → Lent (List ℤ) → Lent (List ℕ) → Lent (List ℕ) → ℕ → Lent ℕ → Lent ℕ → Type 0
ImportsNumbers job xs ys kinds threads r commands-n thread-bytes-n =
    ImportedNumbers job (was xs) (was ys) (was kinds) (was threads) (left xs) (left ys) (left kinds) (left threads) r (left commands-n) (left thread-bytes-n)
