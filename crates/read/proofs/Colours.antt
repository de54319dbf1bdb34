-- Stored colours as the blocks take them. Assumes nothing.
use Rattle.std.specs.Prelude.{Result}
use Prim.Native.Nat.{ℕ, zero, suc, ◌%◌, ◌≤◌}
use mathlib.Core.Path.{◌≡◌, refl, sym, ap, ◌∙◌}
use mathlib.Core.List.{List, [], ◌∷◌}
use native.Mathlib.Decide.{dec_lt}
use native.Mathlib.Omega.{arith}
use lib.IntN.{ℤ}
use borrow.Author.Tests.{lt-ltb, le-ltb}
use lib.ListN.{length, take, get_or}
use lib.Seq.{get_or-take, length-take-le}
use Rattle.rules.specs.Answers.{blocks, block_of, points_after, begun_after}
use Rattle.rules.specs.Files.{or_default}
use Rattle.read_records.specs.Firsts.{first_record_of}
use Rattle.read_records.specs.declared.Row.{Row}
use Rattle.rules.specs.Records.{Event, stitch, jump, change, events}
use Rattle.rules.specs.Layout.{Stored, nothing, shade, charted}
use Rattle.read_header.specs.Colors.{Held, Cells}
use Rattle.read_builder.specs.Colour.{colour_in}
use Rattle.read.specs.Answered.{RecordsGiven}
use Rattle.rules.specs.declared.Refusal.{Refusal}
use Rattle.rules.specs.declared.Counts.{Counts}

-- blocks ask for colours by number only
module _ (c d : ℕ → ℕ) (e : (k : ℕ) → c k ≡ d k) where
  block_same : (k m : ℕ) → block_of c k m ≡ block_of d k m
  unfolding block_of
  block_same k zero = refl
  block_same k (suc m) = rw (e k)

  pub blocks-same : (k m n : ℕ) (es : List Event) → blocks c k m n es ≡ blocks d k m n es
  unfolding blocks
  blocks-same k m n [] = block_same k m
  blocks-same k m n (stitch dx dy ∷ es) = blocks-same k (begun_after n m) (points_after n) es
  blocks-same k m n (jump dx dy ∷ es) = blocks-same k m 0 es
  blocks-same k m n (change dx dy ∷ es) = rw (block_same k m, blocks-same (suc k) 0 0 es)

held : (s : Stored) (n k : ℕ) → Held s n → n % 16777216 ≡ or_default s k
unfolding or_default
held nothing n k h = absurd h
held (shade c) n k h = h.low
held (charted e c) n k h = h.low

-- the first r cells, and then the defaults
pub stored-colour : (f : ℕ → Stored) (cells : List ℕ) (r : ℕ) → Cells f cells r → r ≤ length cells → (k : ℕ) → colour_in (take r cells) k ≡ or_default (f k) k
unfolding colour_in
stored-colour f cells r s h k = elim (dec_lt k r) [
  | yes l ↦ rw (length-take-le r cells h, lt-ltb k r l) (ap (λ (n : ℕ). n % 16777216) (get_or-take r cells k 0 l) ∙ held (f k) (get_or cells k 0) k (s.here k l))
  | no l ↦ rw (length-take-le r cells h, le-ltb k r (omega arith), s.past k (omega arith))
]

-- the same answers by other names of the colours and the bytes
pub answered-as : (f : Row) {c d : ℕ → ℕ} {bytes t : List ℕ} {P P' : List ℤ} {R R' B B' : List ℕ} {r : Result Counts Refusal} → ((k : ℕ) → c k ≡ d k) → bytes ≡ t
    → RecordsGiven c f bytes P P' R R' B B' r → RecordsGiven d f t P P' R R' B B' r
answered-as f {c} {d} {bytes} e eb g = rw (← eb, ← blocks-same c d e 0 0 0 (events (first_record_of f) bytes)) g

-- a table of 256 cells, the first n of them filled
module _ {f : ℕ → Stored} {cells : List ℕ} {n : ℕ} (w : Cells f cells n) (e : length cells ≡ 256) where
  pub cells-inside : n ≤ length cells
  cells-inside = omega (arith, w.room)

  pub cells-long : n ≡ length (take n cells)
  cells-long = sym (length-take-le n cells cells-inside)

  -- records that are read by the table are read by what is stored
  pub stored_answer : (g : Row) {bytes t : List ℕ} {P P' : List ℤ} {R R' B B' : List ℕ} {r : Result Counts Refusal} → bytes ≡ t
      → RecordsGiven (colour_in (take n cells)) g bytes P P' R R' B B' r → RecordsGiven (λ k. or_default (f k) k) g t P P' R R' B B' r
  stored_answer g = answered-as g (stored-colour f cells n w cells-inside)
