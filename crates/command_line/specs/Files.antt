-- What is known of what was read to a buffer.
use Rattle.std.specs.Prelude.{ℕ, List, ◌≡◌, ◌≤◌, length, take}

-- n bytes stand at the front of a buffer, as `&buf[..n]`
abbrev pub IsPrefixLen : ℕ → List ℕ → Type 0
IsPrefixLen n buf = (n ≤ length buf) × (n ≡ length (take n buf))
