-- `fits` and `read`: the answer is the one got by a full read with enough space; a file without runs is a yes. Assumes nothing.
use Rattle.std.specs.Prelude.{ℕ, suc, ◌*◌, ◌≡◌, Bool, true, false, List, [], ◌∷◌, ◌++◌, ℤ, pos, ◌+ℤ◌, length, Some, None, Ok, Err, Option, Result, ⊤}
use Rattle.std.proofs.Math.Path.{refl}
use Rattle.std.proofs.Common.{ap, ◌∙◌, arith}
use borrow.Author.Tests.{le-ltb}
use Rattle.rules.specs.Answers.{places, runs, run_of, points_after, point_total}
use Rattle.rules.specs.Files.{events_of, places_of, runs_of, places_told, runs_told, blocks_told, cuts_told, counts_of, no_room}
use Rattle.rules.specs.Files.{file_refusals, file_verdict, read_verdict, read_answer, filled}
use Rattle.rules.specs.Hoop.{all_in_hoop, fits_answer, fits_told, fits_by_read}
use Rattle.rules.specs.Promises.{ReadOf, Enough}
use Rattle.rules.specs.Records.{Event, stitch, jump, change}
use Rattle.rules.specs.Refusals.{verdict}
use Rattle.rules.specs.declared.Hoop.{Hoop}
use Rattle.rules.specs.declared.Refusal.{Refusal}
use Rattle.rules.specs.declared.Refusal.TheVariants.{BufferTooShort}
use Rattle.laws.specs.Tests.{by-test}
use Rattle.sewing.specs.Calls.{points-cells, front}
use Rattle.rules.specs.declared.Counts.{Counts}
use Rattle.rules.specs.declared.Format.{Format}

-- ---- with enough space a read is refused as its file is

unasked : (rs : List (Refusal × Bool)) {b : Bool} → b ≡ false → verdict (rs ++ (BufferTooShort, b) ∷ []) ≡ verdict rs
unfolding verdict
unasked [] e = rw e
unasked (r ∷ rs) e = by-test r.1 (λ t. rw t) (λ t. rw t (unasked rs e))

module _ {file : List ℕ} {places : List ℤ} {runs blocks : List ℕ} where
  same-verdict : (e : Option Format) → Enough e file places runs blocks
      → read_verdict e file (length places) (length runs) (length blocks) ≡ file_verdict e file
  unfolding read_verdict file_verdict no_room places_told runs_told blocks_told
  same-verdict None k = refl
  same-verdict (Some f) k = unasked (file_refusals f file)
      (rw (le-ltb (length places) _ k.place_cells, le-ltb (length runs) _ k.run_cells, le-ltb (length blocks) _ k.block_cells))

-- ---- the answer by what stands in the buffer

point-cells : (e : Option Format) (file : List ℕ) → 2 * point_total (places_told e file) ≡ length (places_told e file)
unfolding places_told point_total
point-cells None file = refl
point-cells (Some f) file = points-cells f file

by-verdict : (h : Hoop) (v : Result ⊤ Refusal) (ps places : List ℤ) (rs bs : List ℕ) (n : ℕ) → 2 * point_total ps ≡ length ps
    → fits_answer v (all_in_hoop h ps) ≡ fits_by_read h (read_answer v (counts_of ps rs bs n)) (filled v ps places)
unfolding fits_answer fits_by_read read_answer filled counts_of
by-verdict h (Ok u) ps places rs bs n e = rw (front ps places (2 * point_total ps) e)
by-verdict h (Err r) ps places rs bs n e = refl

-- It must equal the answer got by a full read with enough space, and every refusal of reading but 11 comes as there.
pub full-read : (e : Option Format) (file : List ℕ) (h : Hoop) {places places' : List ℤ} {runs runs' blocks blocks' : List ℕ} {r : Result Counts Refusal} {a : Result Bool Refusal}
    → Enough e file places runs blocks → ReadOf e file places runs blocks places' runs' blocks' r → a ≡ fits_told e file h → a ≡ fits_by_read h r places'
unfolding fits_told
full-read e file h {places} k p q =
    let v = same-verdict e k in
    q ∙ by-verdict h (file_verdict e file) (places_told e file) places (runs_told e file) (blocks_told e file) (cuts_told e file) (point-cells e file)
    ∙ rw (p.answered, p.places_are, v)

-- ---- no runs, no places

some-run : (n : ℕ) (es : List Event) → runs (suc n) es ≡ [] → ⊥
unfolding runs run_of points_after
some-run n [] e = let z : suc (length {A = ℕ} []) ≡ 0 = ap length e in omega arith
some-run n (stitch dx dy ∷ es) e = some-run (suc n) es e
some-run n (jump dx dy ∷ es) e = let z : suc (length (runs 0 es)) ≡ 0 = ap length e in omega arith
some-run n (change dx dy ∷ es) e = let z : suc (length (runs 0 es)) ≡ 0 = ap length e in omega arith

no-places : (x y : ℤ) (es : List Event) → runs 0 es ≡ [] → places x y 0 es ≡ []
unfolding places runs run_of points_after
no-places x y [] e = refl
no-places x y (stitch dx dy ∷ es) e = absurd (some-run 1 es e)
no-places x y (jump dx dy ∷ es) e = no-places (x +ℤ dx) (y +ℤ dy) es e
no-places x y (change dx dy ∷ es) e = no-places (x +ℤ dx) (y +ℤ dy) es e

places-none : (e : Option Format) (file : List ℕ) → runs_told e file ≡ [] → places_told e file ≡ []
unfolding places_told runs_told places_of runs_of
places-none None file e = refl
places-none (Some f) file e = no-places (pos 0) (pos 0) (events_of f file) e

-- A file without runs is a yes.
pub without-runs : (e : Option Format) (file : List ℕ) (h : Hoop) {a : Result Bool Refusal}
    → a ≡ fits_told e file h → file_verdict e file ≡ Ok tt → runs_told e file ≡ [] → a ≡ Ok true
unfolding fits_told fits_answer all_in_hoop
without-runs e file h q v n = q ∙ rw (v, places-none e file n)
