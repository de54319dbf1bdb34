-- A VP3 file that is not refused, and its answers at the front of the buffers. Assumes nothing.
use Rattle.std.specs.Prelude.{Ok, Err, Result, ⊤}
use Prim.Native.Nat.{ℕ, ◌≤◌}
use mathlib.Core.Path.{◌≡◌, refl, ◌∙◌}
use mathlib.Core.Bool.{true, false, not}
use mathlib.Core.List.{List}
use native.Mathlib.Omega.{arith}
use borrow.Author.Tests.{not-false}
use lib.IntN.{ℤ}
use lib.ListN.{length}
use lib.Seq.{sets}
use Rattle.rules.specs.Files.{events_of, places_of, runs_of, blocks_of, cuts_of, colour_of, filled}
use Rattle.rules.specs.Refusals.{verdict}
use Rattle.rules.specs.Text.{begins}
use Rattle.rules.specs.Vp3.{vp3_opening, row_of, fault_in, events_in, vp3_blocks}
use Rattle.rules.specs.declared.Counts.{Counts}
use Rattle.rules.specs.declared.Format.TheVariants.{Vp3}
use Rattle.laws.specs.Buffers.{put-by, put_front}
use Rattle.laws.specs.Verdicts.{first-false}
use Rattle.read_refusals.proofs.Checked.{vp3-opened}
use Rattle.read_refusals.specs.declared.Head.TheVariants as head
use Rattle.read_passes.specs.Told.{sizes_of}
use Rattle.read_vp3.proofs.Tallied.{counts-are, told-answers}
use Rattle.read_vp3.specs.Fills as fills
use Rattle.read_vp3.specs.Walks.{Told}
use Rattle.read.specs.Answered.{Opened, room_for, HeadGiven}
use Rattle.read.proofs.Rooms.{Sized, fits_told_lem, given-read, of-vp3}
use Rattle.rules.specs.declared.Refusal.{Refusal}

row-accepts : (v : Result ⊤ Refusal) → verdict (row_of v) ≡ Ok tt → v ≡ Ok tt
unfolding verdict row_of
row-accepts (Ok u) e = e
row-accepts (Err r) e = e

-- the answer at the front, and the rest of the buffer as it was
front_of_lem : {A : Type 0} (vs d : List A) → length vs ≤ length d → sets d 0 vs ≡ filled (Ok tt) vs d
unfolding filled
front_of_lem vs d h = (put_front {d = d} {vs = vs} h (put-by {at = 0} {r = length vs} (omega arith) refl)).1

module _ {s : List ℕ} {k : Counts} (o : Opened (head.Vp3 k) s) where
  begun : (not (begins vp3_opening s) ≡ false) × (verdict (row_of (fault_in (vp3_blocks s))) ≡ Ok tt)
  unfolding verdict
  begun = first-false (not (begins vp3_opening s)) _ _ o.told.0

  pub sound : fault_in (vp3_blocks s) ≡ Ok tt
  sound = row-accepts (fault_in (vp3_blocks s)) begun.1

  pub long : 6 ≤ length s
  long = vp3-opened s (not-false _ begun.0)

  pub counted : Told (events_in (vp3_blocks s)) k
  unfolding places_of runs_of blocks_of cuts_of events_of
  counted = rw o.told.1 (told-answers (events_in (vp3_blocks s)) (colour_of Vp3 s))

  pub sized : Sized (events_in (vp3_blocks s)) (sizes_of k)
  sized = of-vp3 counted

  module _ {np nr nb : ℕ} (room : room_for (sizes_of k) np nr nb ≡ true) where
    pub vp3-fits : fills.Fits (vp3_blocks s) np nr nb
    vp3-fits = record {
      place_cells = (fits_told_lem (colour_of Vp3 s) sized np nr nb room).places;
      run_cells = (fits_told_lem (colour_of Vp3 s) sized np nr nb room).runs;
      block_cells = λ c. (fits_told_lem c sized np nr nb room).blocks;
    }

  pub vp3-read : {P P' : List ℤ} {R R' B B' : List ℕ} → room_for (sizes_of k) (length P) (length R) (length B) ≡ true
      → fills.Filled (vp3_blocks s) P P' R R' B B' → HeadGiven (head.Vp3 k) s P P' R R' B B' (Ok k)
  vp3-read {P} {P'} {R} {R'} {B} {B'} room w =
      let c = fills.colour_by (vp3_blocks s) in
      let h = fits_told_lem c sized (length P) (length R) (length B) room in
      given-read c h (counts-are (events_in (vp3_blocks s)) c counted) (w.places ∙ front_of_lem _ P h.places) (w.runs ∙ front_of_lem _ R h.runs) (w.blocks ∙ front_of_lem _ B h.blocks)
