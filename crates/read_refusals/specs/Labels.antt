-- What the call for the label's place answers.
use Rattle.std.specs.Prelude.{◌≡◌, List, ℕ, Ok, Err, Result, ⊤}
use Rattle.read_header.specs.Spans.{Holds}
use Rattle.rules.specs.declared.Refusal.{Refusal}
use Rattle.read_header.specs.declared.Span.{Span}

-- a place in the file that holds the label, where the checks accept; else their refusal
abbrev pub label_answered : Result ⊤ Refusal → List ℕ → List ℕ → Result Span Refusal → Type 0
label_answered (Ok u) file label (Ok p) = Holds p file label
label_answered (Ok u) file label (Err r) = ⊥
label_answered (Err r) file label answer = answer ≡ Err r
