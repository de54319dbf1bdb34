-- Refusal 11 by the sizes, and what a call gives back with and without it. Assumes nothing.
use Rattle.std.specs.Prelude.{Ok, Err}
use Prim.Native.Nat.{ℕ, ◌*◌, ◌≤◌}
use mathlib.Core.Path.{◌≡◌, sym}
use mathlib.Core.Bool.{true, false, ◌&&◌}
use mathlib.Core.List.{List}
use native.Mathlib.Omega.{arith}
use borrow.Author.Tests.{le-ltb, lt-ltb, leb-true, leb-false}
use lib.Dec.{leb}
use lib.IntN.{ℤ, pos}
use lib.ListN.{length}
use Rattle.rules.specs.Answers.{places, runs, blocks, point_total, block_total}
use Rattle.rules.specs.Limits.{block_cells_of}
use Rattle.rules.specs.Files.{counts_of, read_answer, filled}
use Rattle.rules.specs.Records.{Event, events}
use Rattle.rules.specs.Refusals.{verdict}
use Rattle.rules.specs.declared.Counts.{Counts}
use Rattle.rules.specs.declared.Record.{Record}
use Rattle.rules.specs.declared.Refusal.TheVariants.{BufferTooShort}
use Rattle.laws.specs.Tests.{by-test, false-true, and_left, and_right}
use Rattle.read_records.specs.Firsts.{first_record_of}
use Rattle.read_records.specs.declared.Row.{Row}
use Rattle.read_passes.specs.Told as passes
use Rattle.read_passes.specs.declared.Sizes.{Sizes}
use Rattle.read_vp3.proofs.Tallied.{same-counts}
use Rattle.read_vp3.specs.Walks.{Told}
use Rattle.read.specs.Answered.{room_for, room_verdict, Given}

-- refusal 11 does not hold
room : (ps : List ℤ) (rs bs : List ℕ) (np nr nb : ℕ) → length ps ≤ np → length rs ≤ nr → length bs ≤ nb → room_verdict ps rs bs np nr nb ≡ Ok tt
unfolding room_verdict verdict
room ps rs bs np nr nb hp hr hb = rw (le-ltb np (length ps) hp, le-ltb nr (length rs) hr, le-ltb nb (length bs) hb)

-- the answers of events fit buffers of np, nr and nb cells
pub record Fits (es : List Event) (c : ℕ → ℕ) (np nr nb : ℕ) : Type 0 where
  pub places : length (places (pos 0) (pos 0) 0 es) ≤ np
  pub runs : length (runs 0 es) ≤ nr
  pub blocks : length (blocks c 0 0 0 es) ≤ nb

-- z are the sizes of the answers of events
pub record Sized (es : List Event) (z : Sizes) : Type 0 where
  pub points : length (places (pos 0) (pos 0) 0 es) ≡ 2 * z.points
  pub runs : length (runs 0 es) ≡ z.runs
  pub blocks : (c : ℕ → ℕ) → length (blocks c 0 0 0 es) ≡ block_cells_of * z.blocks

module _ {es : List Event} {z : Sizes} (c : ℕ → ℕ) (t : Sized es z) where
  abbrev ps : List ℤ
  ps = places (pos 0) (pos 0) 0 es

  abbrev rs : List ℕ
  rs = runs 0 es

  abbrev bs : List ℕ
  bs = blocks c 0 0 0 es

  module _ (np nr nb : ℕ) where
    pub fits_told_lem : room_for z np nr nb ≡ true → Fits es c np nr nb
    unfolding room_for
    fits_told_lem e =
        let more = and_right (leb (2 * z.points) np) (leb z.runs nr && leb (block_cells_of * z.blocks) nb) e in
        record {
          places = omega (arith, t.points, leb-true (2 * z.points) np (and_left _ _ e));
          runs = omega (arith, t.runs, leb-true z.runs nr (and_left _ _ more));
          blocks = omega (arith, t.blocks c, leb-true (block_cells_of * z.blocks) nb (and_right (leb z.runs nr) _ more));
        }

    no_room_lem : room_for z np nr nb ≡ false → room_verdict ps rs bs np nr nb ≡ Err BufferTooShort
    unfolding room_for room_verdict verdict
    no_room_lem e =
        rw (t.points, t.runs, t.blocks c)
        (by-test (leb (2 * z.points) np)
        (λ p. by-test (leb z.runs nr)
        (λ q. by-test (leb (block_cells_of * z.blocks) nb)
        (λ s. false-true (sym (rw (p, q, s) at e)))
        (λ s. rw (le-ltb np (2 * z.points) (leb-true _ _ p), le-ltb nr z.runs (leb-true _ _ q), lt-ltb nb (block_cells_of * z.blocks) (leb-false _ _ s))))
        (λ q. rw (le-ltb np (2 * z.points) (leb-true _ _ p), lt-ltb nr z.runs (leb-false _ _ q))))
        (λ p. rw (lt-ltb np (2 * z.points) (leb-false _ _ p))))

  pub given-unread : {P : List ℤ} {R B : List ℕ} {n : ℕ} → room_for z (length P) (length R) (length B) ≡ false
      → Given ps P P rs R R bs B B n (Err BufferTooShort)
  unfolding read_answer filled
  given-unread {P} {R} {B} e = let v = no_room_lem (length P) (length R) (length B) e in record { told = rw v; places = rw v; runs = rw v; blocks = rw v }

module _ {es : List Event} (c : ℕ → ℕ) {P P' : List ℤ} {R R' B B' : List ℕ} {n : ℕ} {k : Counts} where
  pub given-read : Fits es c (length P) (length R) (length B)
      → k ≡ counts_of (places (pos 0) (pos 0) 0 es) (runs 0 es) (blocks c 0 0 0 es) n
      → P' ≡ filled (Ok tt) (places (pos 0) (pos 0) 0 es) P → R' ≡ filled (Ok tt) (runs 0 es) R
      → B' ≡ filled (Ok tt) (blocks c 0 0 0 es) B
      → Given (places (pos 0) (pos 0) 0 es) P P' (runs 0 es) R R' (blocks c 0 0 0 es) B B' n (Ok k)
  unfolding read_answer
  given-read h ek eP eR eB =
      let v = room (places (pos 0) (pos 0) 0 es) (runs 0 es) (blocks c 0 0 0 es) (length P) (length R) (length B) h.places h.runs h.blocks in
      record { told = rw (v, ek); places = rw (v, eP); runs = rw (v, eR); blocks = rw (v, eB) }

-- the same of VP3
pub of-vp3 : {es : List Event} {k : Counts} → Told es k → Sized es (passes.sizes_of k)
of-vp3 t = record { points = t.points; runs = t.runs; blocks = t.blocks }

-- and of a row of records
pub of_row : {first : List ℕ → Record} {bytes : List ℕ} {z : Sizes} → passes.Sized first bytes z → Sized (events first bytes) z
of_row t = record { points = t.points; runs = t.runs; blocks = t.blocks }

-- its counts are those of the answers
pub row_counts : (c : ℕ → ℕ) (bytes : List ℕ) (k : Counts) (f : Row) → passes.Told f bytes k
    → let rs = passes.runs_in (first_record_of f) bytes in let bs = passes.blocks_in c (first_record_of f) bytes in
    k ≡ counts_of (passes.places_in (first_record_of f) bytes) rs bs (passes.cuts_in f rs bs (events (first_record_of f) bytes))
unfolding counts_of point_total block_total
row_counts c bytes k f t =
    let s = t.sizes in
    same-counts k _ _ _ _ (omega (arith, s.points)) (omega (arith, s.runs)) (omega (arith, s.blocks c)) (t.cuts c)

pub row_fits : {first : List ℕ → Record} {bytes : List ℕ} {c : ℕ → ℕ} {np nr nb : ℕ} → Fits (events first bytes) c np nr nb → passes.Fits c first bytes np nr nb
row_fits h = record { places = h.places; runs = h.runs; blocks = h.blocks }

pub fits-row : {first : List ℕ → Record} {bytes : List ℕ} {c : ℕ → ℕ} {np nr nb : ℕ} → passes.Fits c first bytes np nr nb → Fits (events first bytes) c np nr nb
fits-row h = record { places = h.places; runs = h.runs; blocks = h.blocks }
