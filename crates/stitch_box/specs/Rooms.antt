-- Buffers that hold what is read of any file of n bytes: n + 2 cells for places, n / 2 for runs and 3 n / 2 for blocks. A `read` with
-- these is
-- never refused by 11. Assumes nothing.
use Rattle.std.specs.Prelude.{ℕ, ◌+◌, ◌*◌, ◌/◌, ◌≤◌, ◌≡◌, Bool, false, ℤ, pos, nat_abs, length, drop, Some, None, Ok, Err, Option, Result, ⊤}
use Rattle.std.proofs.Common.{sym, ◌∙◌, ap}
use mathlib.Core.List.{List, [], ◌∷◌, ◌++◌}
use native.Mathlib.Omega.{arith}
use borrow.Author.Tests.{le-ltb}
use Rattle.std.specs.Int.Signed.{le_z}
use Rattle.std.proofs.Math.ListN.{length-drop}
use Rattle.rules.specs.Answers.{places, runs, blocks}
use Rattle.rules.specs.Text.{word_at}
use Rattle.rules.specs.Pec.{pec_events}
use Rattle.rules.specs.Pes.{part_at}
use Rattle.rules.specs.Jef.{jef_records}
use Rattle.rules.specs.Vp3.{Blocks, cut, passed, stitch_events, strays, events_in, fault_in, row_of, vp3_blocks}
use Rattle.rules.specs.Files.{events_of, colour_of, places_of, runs_of, blocks_of, file_refusals, no_room, read_verdict, read_answer}
use Rattle.rules.specs.Promises.{ReadOf}
use Rattle.rules.specs.Refusals.{number_of, verdict, answer_number}
use Rattle.rules.specs.declared.Counts.{Counts}
use Rattle.rules.specs.declared.Format.{Format}
use Rattle.rules.specs.declared.Format.TheVariants.{Pes, Pec, Dst, Exp, Jef, Vp3}
use Rattle.rules.specs.declared.Refusal.{Refusal}
use Rattle.rules.specs.declared.Refusal.TheVariants.{BufferTooShort}
use Rattle.laws.specs.Tests.{by-test, pick-both}
use Rattle.laws.specs.Vp3Fields.{blocks-all, file-all}
use Rattle.read_passes.proofs.Bounds.{ample-fits}
use Rattle.read_passes.specs.Told.{Fits, Ample}
use Rattle.read_records.specs.Firsts.{first_record_of}
use Rattle.read_records.specs.declared.Row.{Row}
use Rattle.read_records.specs.declared.Row.TheVariants as row
use Rattle.sewing.specs.Sizes.{Below, Small}
use Rattle.stitch_box.specs.Vp3Rooms.{file-events, place_cells, run_cells, block_cells}

-- JEF's records are a part of the file
jef-part : (s : List ℕ) → length (jef_records s) ≤ length s
unfolding jef_records
jef-part s = by-test (le_z (pos 0) (word_at 0 s)) (λ t. rw t (omega (arith, length-drop (nat_abs (word_at 0 s)) s))) (λ t. rw t (omega arith))

-- a fault of a VP3 file is 4 or 12
fault-row : (s : List ℕ) → Below (row_of (fault_in (vp3_blocks s)))
unfolding row_of fault_in cut passed number_of
fault-row s = row-of (fault_in (vp3_blocks s)) (file-all (λ (bs : Blocks). Small (fault_in bs)) (λ e. omega arith) (λ e. omega arith) s
    (λ n t l. blocks-all (λ (bs : Blocks). Small (fault_in bs)) (λ e. omega arith) (λ e. omega arith) tt
    (λ x y c bytes bs h. pick-both Small (strays x y (stitch_events bytes)) (λ e. omega arith) h) n (pos 0) (pos 0) t))
  where
    row-of : (v : Result ⊤ Refusal) → Small v → Below (row_of v)
    row-of (Ok u) h = tt
    row-of (Err r) h = (h, tt)

module _ (s : List ℕ) (i j k : ℕ) (room : Ample (length s) i j k) where
  -- what is read of a part of the file fits
  fits : (f : Format) (r : Row) (bytes : List ℕ) → length bytes ≤ length s → Fits (colour_of f s) (first_record_of r) bytes i j k
  fits f r bytes h = ample-fits r (colour_of f s) bytes i j k (record {
    places = omega (arith, h, room.places);
    runs = omega (arith, h, room.runs);
    blocks = omega (arith, h, room.blocks);
  })

  enough : (f : Format) → no_room f s i j k ≡ false
  unfolding no_room places_of runs_of blocks_of events_of first_record_of pec_events
  enough Pes = let p = fits Pes row.Pec (drop (part_at s + 528) s) (omega (arith, length-drop (part_at s + 528) s)) in rw (le-ltb i _ p.places, le-ltb j _ p.runs, le-ltb k _ p.blocks)
  enough Pec = let p = fits Pec row.Pec (drop (8 + 528) s) (omega (arith, length-drop (8 + 528) s)) in rw (le-ltb i _ p.places, le-ltb j _ p.runs, le-ltb k _ p.blocks)
  enough Dst = let p = fits Dst row.Dst (drop 512 s) (omega (arith, length-drop 512 s)) in rw (le-ltb i _ p.places, le-ltb j _ p.runs, le-ltb k _ p.blocks)
  enough Exp = let p = fits Exp row.Exp s (omega arith) in rw (le-ltb i _ p.places, le-ltb j _ p.runs, le-ltb k _ p.blocks)
  enough Jef = let p = fits Jef row.Jef (jef_records s) (jef-part s) in rw (le-ltb i _ p.places, le-ltb j _ p.runs, le-ltb k _ p.blocks)
  enough Vp3 =
      let es = events_in (vp3_blocks s) in
      let c = colour_of Vp3 s in
      let h = file-events s in
      rw (
        le-ltb i (length (places (pos 0) (pos 0) 0 es)) (omega (arith, h, room.places, place_cells (pos 0) (pos 0) c es)),
        le-ltb j (length (runs 0 es)) (omega (arith, h, room.runs, run_cells (pos 0) (pos 0) c es)),
        le-ltb k (length (blocks c 0 0 0 es)) (omega (arith, h, room.blocks, block_cells (pos 0) (pos 0) c es)),
      )

  below : (f : Format) → Below (file_refusals f s)
  unfolding file_refusals number_of
  below Pes = (λ e. omega arith, (λ e. omega arith, (λ e. omega arith, (λ e. omega arith, (λ e. omega arith, tt)))))
  below Pec = (λ e. omega arith, (λ e. omega arith, tt))
  below Dst = (λ e. omega arith, (λ e. omega arith, tt))
  below Exp = (λ e. omega arith, tt)
  below Jef = (λ e. omega arith, (λ e. omega arith, tt))
  below Vp3 = (λ e. omega arith, (λ e. omega arith, fault-row s))

  -- what is asked besides does not hold
  small-then : (cs : List (Refusal × Bool)) → Below cs → Small (verdict (cs ++ (BufferTooShort, false) ∷ []))
  unfolding verdict
  small-then [] h = tt
  small-then (c ∷ cs) h = by-test c.1 (λ t. rw t h.0) (λ t. rw t (small-then cs h.1))

  by-extension : (e : Option Format) → Small (read_verdict e s i j k)
  unfolding read_verdict verdict number_of
  by-extension None = λ e. omega arith
  by-extension (Some f) = rw (enough f) (small-then (file_refusals f s) (below f))

not-eleven : (v : Result ⊤ Refusal) (c : Counts) (r : Result Counts Refusal) → Small v → r ≡ read_answer v c → r ≡ Err BufferTooShort → ⊥
unfolding read_answer answer_number number_of
not-eleven (Ok u) c r s e is = let z : ◌≡◌ {A = ℕ} 0 11 = ap answer_number (sym e ∙ is) in omega (arith, z)
not-eleven (Err why) c r s e is = s (ap answer_number (sym e ∙ is))

pub never-short : (e : Option Format) (file : List ℕ) (places : List ℤ) (runs blocks : List ℕ) (places' : List ℤ) (runs' blocks' : List ℕ) (r : Result Counts Refusal)
    → ReadOf e file places runs blocks places' runs' blocks' r
    → length file + 2 ≤ length places → length file / 2 ≤ length runs → 3 * length file / 2 ≤ length blocks
    → r ≡ Err BufferTooShort → ⊥
never-short e file places runs blocks places' runs' blocks' r p a b c is =
    not-eleven _ _ r (by-extension file (length places) (length runs) (length blocks) (record { places = a; runs = b; blocks = c }) e) p.answered is
