-- Demand 3 about the calls `write` and `read`: for every list accepted for a format, any name, any threads and buffers long enough,
-- neither call
-- refuses, and what the caller finds in the buffers sews what the list sews. Of two lists, in one format or two: equal sewings come back
-- exactly
-- when the lists sew the same. Assumes nothing.
use Rattle.std.specs.Prelude.{◌≡◌, ◌↔◌, List, [], ◌∷◌, ◌++◌, ℕ, zero, suc, ◌+◌, ◌*◌, ◌≤◌, ℤ, pos, ◌+ℤ◌, length, take, drop, Some, Ok, Option, Result}
use Rattle.std.proofs.Math.Path.{refl}
use Rattle.std.proofs.Common.{◌∙◌, arith, le-ltb, length-append}
use Rattle.std.proofs.Math.Seq.{take-append_seam}
use Rattle.rules.specs.Answers.{points_after, start_of, places, block_of, begun_after, blocks, point_total, block_total}
use Rattle.rules.specs.Limits.{block_cells_of}
use Rattle.rules.specs.Lists.{commands}
use Rattle.rules.specs.Records.{Event, stitch, jump, change}
use Rattle.rules.specs.Refusals.{verdict, list_refusals, list_verdict, answer_number}
use Rattle.rules.specs.Files.{file_of, events_of, colour_of, places_of, runs_of, blocks_of, cuts_of, read_verdict, places_told, runs_told, blocks_told, cuts_told, counts_of}
use Rattle.rules.specs.Files.{read_answer, read_counts, filled, file_told, distance_told, write_verdict, write_answer, write_length}
use Rattle.rules.specs.Sewing.{Entry, entry, Adding, of_blocks, of_buffers, list_sewing, file_sewing, told_sewing, Needle, needle, list_needles, file_needles, told_needles}
use Rattle.rules.specs.Promises.{Wrote, ReadOf, Room, KeepsJumps}
use Rattle.rules.specs.declared.Cmd.{Cmd}
use Rattle.rules.specs.declared.Format.{Format}
use Rattle.rules.specs.declared.Format.TheVariants.{Vp3}
use Rattle.laws.specs.Verdicts.{verdict-on}
use Rattle.sewing.specs.Theorem.{kept, kept-needles, alike, read-accepted}
use Rattle.rules.specs.declared.Counts.{Counts}
use Rattle.rules.specs.declared.Refusal.{Refusal}
use Rattle.rules.specs.declared.Written.{Written}

-- A list accepted for a format, written into a buffer that is long enough; the file is the front bytes of the length reported. It is read
-- under
-- the same extension, with buffers that hold the answer. `extension` is what the extension names, whatever its letters' case.
pub record RoundTrip : Type 0 where
  pub format : Format
  pub extension : Option Format
  pub name : List ℕ
  pub xs : List ℤ
  pub ys : List ℤ
  pub kinds : List ℕ
  pub threads : List ℕ
  pub d : List ℕ
  pub d' : List ℕ
  pub ps : List ℤ
  pub ps' : List ℤ
  pub rs : List ℕ
  pub rs' : List ℕ
  pub bs : List ℕ
  pub bs' : List ℕ
  pub w : Result Written Refusal
  pub r : Result Counts Refusal
  pub named : extension ≡ Some format
  pub accepted : list_verdict format xs ys kinds threads ≡ Ok tt
  pub room : Room format (file_of format name (commands xs ys kinds) threads) d ps rs bs
  pub wrote : Wrote extension name xs ys kinds threads d d' w
  pub read_back : ReadOf extension (take (write_length w) d') ps rs bs ps' rs' bs' r

-- the list's sewing, and the sewing that comes back
abbrev pub sewing : RoundTrip → List Entry
sewing t = list_sewing (commands t.xs t.ys t.kinds)

abbrev pub back : RoundTrip → List Entry
back t = told_sewing (read_counts t.r) t.ps' t.rs' t.bs'

-- the list's stitches, and the needle places that come back
abbrev pub needles : RoundTrip → List Needle
needles t = list_needles (commands t.xs t.ys t.kinds)

abbrev pub needles_back : RoundTrip → List Needle
needles_back t = told_needles (read_counts t.r) t.ps' t.rs' t.bs'

-- neither call refuses, and the sewing that comes back is the list's, in the formats that keep jumps; in VP3 the needle places are
pub record Sewn (t : RoundTrip) : Type 0 where
  pub written : answer_number t.w ≡ 0
  pub read : answer_number t.r ≡ 0
  pub same : KeepsJumps t.format → back t ≡ sewing t
  pub needled : t.format ≡ Vp3 → needles_back t ≡ needles t

-- ---- counts and cells: two cells a point, block_cells_of a block

-- k cells for each
abbrev Rows : ℕ → ℕ → Type 0
Rows k n = (m : ℕ) × (n ≡ k * m)

start-even : (n : ℕ) (x y : ℤ) → Rows 2 (length (start_of n x y))
unfolding start_of
start-even zero x y = (1, refl)
start-even (suc n) x y = (0, refl)

places-even : (x y : ℤ) (n : ℕ) (es : List Event) → Rows 2 (length (places x y n es))
unfolding places
places-even x y n [] = (0, refl)
places-even x y n (stitch dx dy ∷ es) =
    let a = start-even n x y in
    let b = places-even (x +ℤ dx) (y +ℤ dy) (points_after n) es in
    (a.0 + (1 + b.0), omega (arith, length-append (start_of n x y) ((x +ℤ dx) ∷ (y +ℤ dy) ∷ places (x +ℤ dx) (y +ℤ dy) (points_after n) es), a.1, b.1))
places-even x y n (jump dx dy ∷ es) = places-even (x +ℤ dx) (y +ℤ dy) 0 es
places-even x y n (change dx dy ∷ es) = places-even (x +ℤ dx) (y +ℤ dy) 0 es

block-rows : (colour : ℕ → ℕ) (k m : ℕ) → Rows block_cells_of (length (block_of colour k m))
unfolding block_of
block-rows colour k zero = (0, refl)
block-rows colour k (suc m) = (1, refl)

blocks-rows : (colour : ℕ → ℕ) (k m n : ℕ) (es : List Event) → Rows block_cells_of (length (blocks colour k m n es))
unfolding blocks
blocks-rows colour k m n [] = block-rows colour k m
blocks-rows colour k m n (stitch dx dy ∷ es) = blocks-rows colour k (begun_after n m) (points_after n) es
blocks-rows colour k m n (jump dx dy ∷ es) = blocks-rows colour k m 0 es
blocks-rows colour k m n (change dx dy ∷ es) =
    let a = block-rows colour k m in
    let b = blocks-rows colour (suc k) 0 0 es in
    (a.0 + b.0, omega (arith, length-append (block_of colour k m) (blocks colour (suc k) 0 0 es), a.1, b.1))

module _ (f : Format) (s : List ℕ) where
  pub points-cells : 2 * point_total (places_of f s) ≡ length (places_of f s)
  unfolding point_total places_of
  points-cells = omega (arith, (places-even (pos 0) (pos 0) 0 (events_of f s)).1)

  blocks-cells : block_cells_of * block_total (blocks_of f s) ≡ length (blocks_of f s)
  unfolding block_total blocks_of
  blocks-cells = omega (arith, (blocks-rows (colour_of f s) 0 0 0 (events_of f s)).1)

-- the front of a buffer with an answer at its front
pub front : {A : Type 0} (answer l : List A) (n : ℕ) → n ≡ length answer → take n (answer ++ drop (length answer) l) ≡ answer
front answer l n e = rw e (take-append_seam answer (drop (length answer) l))

-- ---- the claim

pub write-accepts : (f : Format) (e : Option Format) (name : List ℕ) (xs ys : List ℤ) (kinds threads : List ℕ) (n : ℕ) → e ≡ Some f → list_verdict f xs ys kinds threads ≡ Ok tt
    → length (file_of f name (commands xs ys kinds) threads) ≤ n → write_verdict e name xs ys kinds threads n ≡ Ok tt
unfolding write_verdict list_verdict verdict
write-accepts f e name xs ys kinds threads n is a h =
    rw is (verdict-on (list_refusals f xs ys kinds threads) _ a ∙ rw (le-ltb n (length (file_of f name (commands xs ys kinds) threads)) h))

module _ (t : RoundTrip) where
  abbrev cs : List Cmd
  cs = commands t.xs t.ys t.kinds

  abbrev file : List ℕ
  file = file_of t.format t.name cs t.threads

  accepts : write_verdict t.extension t.name t.xs t.ys t.kinds t.threads (length t.d) ≡ Ok tt
  accepts = write-accepts t.format t.extension t.name t.xs t.ys t.kinds t.threads (length t.d) t.named t.accepted t.room.bytes

  is-written : t.w ≡ Ok (record { len = (length file); distance = (distance_told t.extension t.threads) })
  unfolding write_answer file_told
  is-written = t.wrote.answered ∙ rw (accepts, t.named)

  buffer : t.d' ≡ file ++ drop (length file) t.d
  unfolding filled file_told
  buffer = t.wrote.stored ∙ rw (accepts, t.named)

  the_file_lem : take (write_length t.w) t.d' ≡ file
  unfolding write_length
  the_file_lem = rw (is-written, buffer) (front file t.d (length file) refl)

  reading : ReadOf t.extension file t.ps t.rs t.bs t.ps' t.rs' t.bs' t.r
  reading = rw the_file_lem at t.read_back

  read-accepts : read_verdict t.extension file (length t.ps) (length t.rs) (length t.bs) ≡ Ok tt
  read-accepts =
      let k = kept t.format t.name t.xs t.ys t.kinds t.threads t.accepted in
      rw t.named (read-accepted t.format file _ _ _ k.taken_back t.room.place_cells t.room.run_cells t.room.block_cells)

  abbrev P : List ℤ
  P = places_of t.format file

  abbrev R : List ℕ
  R = runs_of t.format file

  abbrev B : List ℕ
  B = blocks_of t.format file

  is_read : t.r ≡ Ok (counts_of P R B (cuts_of t.format file))
  unfolding read_answer places_told runs_told blocks_told cuts_told
  is_read = reading.answered ∙ rw (read-accepts, t.named)

  places_are : t.ps' ≡ P ++ drop (length P) t.ps
  unfolding filled places_told
  places_are = reading.places_are ∙ rw (read-accepts, t.named)

  runs_are : t.rs' ≡ R ++ drop (length R) t.rs
  unfolding filled runs_told
  runs_are = reading.runs_are ∙ rw (read-accepts, t.named)

  blocks_are : t.bs' ≡ B ++ drop (length B) t.bs
  unfolding filled blocks_told
  blocks_are = reading.blocks_are ∙ rw (read-accepts, t.named)

  -- what the buffers tell, of the sewing as of the needle places
  told : {A : Type 0} (add : Adding A) → of_buffers add (read_counts t.r) t.ps' t.rs' t.bs' ≡ of_blocks add P R B
  unfolding of_buffers read_counts counts_of
  told add = rw (is_read, places_are, runs_are, blocks_are)
      (rw (front P t.ps _ (points-cells t.format file), front R t.rs _ refl, front B t.bs _ (blocks-cells t.format file)))

  pub sewn : Sewn t
  unfolding answer_number told_sewing file_sewing told_needles file_needles
  sewn = record {
    written = rw is-written;
    read = rw is_read;
    same = λ j. told entry ∙ (kept t.format t.name t.xs t.ys t.kinds t.threads t.accepted).sews_same j;
    needled = λ e. told needle ∙ rw e (kept-needles t.name t.xs t.ys t.kinds t.threads (rw (← e) t.accepted));
  }

-- two lists, in one format or two
pub same_back : (t u : RoundTrip) → KeepsJumps t.format → KeepsJumps u.format → (back t ≡ back u) ↔ (sewing t ≡ sewing u)
same_back t u j k = alike ((sewn t).same j) ((sewn u).same k)

-- two lists in VP3
pub same-needles-back : (t u : RoundTrip) → t.format ≡ Vp3 → u.format ≡ Vp3 → (needles_back t ≡ needles_back u) ↔ (needles t ≡ needles u)
same-needles-back t u e f = alike ((sewn t).needled e) ((sewn u).needled f)
