-- A part of a slice, given by its place.
use Rattle.std.specs.Prelude.{ℕ, ◌+◌, ◌≤◌, ◌≡◌, List, length, take, drop}
use Rattle.read_header.specs.declared.Span.{Span}

-- the bytes at the place
abbrev pub spanned : Span → List ℕ → List ℕ
spanned p s = take p.len (drop p.start s)

-- the place is inside s, and its bytes are t
pub record Holds (p : Span) (s t : List ℕ) : Type 0 where
  pub inside : p.start + p.len ≤ length s
  pub text : spanned p s ≡ t
