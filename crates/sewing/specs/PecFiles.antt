-- PEC and PES files: where the stitches stand, how long the parts are, and that they sew what the list sews and are not refused. Assumes
-- nothing.
use Rattle.std.specs.Prelude.{◌≡◌, true, ◌&&◌, ℤ, pos, neg_ℤ, nat_abs, ltb, take, drop, set, Some, Ok}
use Rattle.std.proofs.Math.Path.{refl, ap}
use Rattle.std.proofs.Common.{sym, ◌∙◌, length-append}
use mathlib.Core.List.{List, [], ◌∷◌, ◌++◌, append_assoc, append-nil}
use Prim.Native.Nat.{ℕ, zero, suc, ◌+◌, ◌*◌, ◌/◌, ◌^◌, ◌≤◌, ◌<◌}
use native.Mathlib.Omega.{arith}
use borrow.Author.Tests.{le-ltb, lt-leb, ltb-true}
use Rattle.std.proofs.Math.ListN.{length}
use Rattle.std.proofs.Math.Seq.{drop_at}
use Rattle.rules.specs.Vocabulary.{between, count, same_bytes, signed, from_little, little, joined}
use Rattle.rules.specs.Lists.{op_of, threads_of}
use Rattle.rules.specs.Refusals.{changes, verdict, least_step, greatest_step, step_in}
use Rattle.rules.specs.Charts.{blank_icon}
use Rattle.rules.specs.Thumbnails.{pixel, painted, marked, drawn, icons}
use Rattle.rules.specs.Pec.{pec_first, pec_events, no_count, pec_start, pec_next, pec_cmd, pec_stitches, pec_part, pec_file}
use Rattle.rules.specs.Pes.{pes_middle, pes_file, part_at}
use Rattle.rules.specs.Files.{file_of, events_of, file_refusals, file_verdict}
use Rattle.rules.specs.Text.{word_at, begins}
use Rattle.rules.specs.Sewing.{list_sewing}
use Rattle.rules.specs.declared.Cmd.{Cmd}
use Rattle.rules.specs.declared.Color.{Color}
use Rattle.rules.specs.declared.Format.{Format}
use Rattle.rules.specs.declared.Format.TheVariants.{Pes, Pec}
use Rattle.rules.specs.declared.Op.{Op}
use Rattle.rules.specs.declared.Op.TheVariants.{Stitch, Jump, Trim, ColorChange, End}
use Rattle.rules.specs.declared.Scale.{Scale}
use Rattle.laws.specs.Tests.{by-test, and_left, and_right}
use Rattle.laws.specs.Ints.{InBits, ints, between-true}
use Rattle.laws.specs.Twos.{signed_low}
use Rattle.laws.specs.Little.{length-little, little-at}
use Rattle.laws.specs.Lengths.{whole, parts, length-header, part_front, length-part_front, stitches_of, part-is, length-stitches, length-middle, part_length, pec-length, pes-length}
use Rattle.sewing.specs.EventSewing.{event_sewing}
use Rattle.sewing.specs.Accepting.{Good}
use Rattle.sewing.specs.Round.{sewn, round}
use Rattle.sewing.specs.PecSewing.{pec-owed}

-- ---- thumbnails: each has 228 bytes, and the first is 00

abbrev Headed : List ℕ → Type 0
Headed icon = (t : List ℕ) × (icon ≡ 0x00 ∷ t)

set-headed : (icon : List ℕ) (i v : ℕ) → 0 < i → Headed icon → Headed (set icon i v)
set-headed icon zero v l h = absurd (omega arith)
set-headed icon (suc i) v l h = (set h.0 i v, ap (λ (s : List ℕ). set s (suc i) v) h.1)

pixel-headed : (icon : List ℕ) (x y : ℕ) → Headed icon → Headed (pixel icon x y)
unfolding pixel
pixel-headed icon x y h = by-test (ltb x 48 && (ltb 0 y && ltb y 38))
    (λ t. let p : 0 < y = ltb-true 0 y (and_left (ltb 0 y) _ (and_right (ltb x 48) _ t)) in rw t (set-headed icon (y * 6 + x / 8) _ (omega arith) h))
    (λ t. rw t h)

module _ (s : Scale) where
  marked-headed : (op : Op) (icon : List ℕ) (x y : ℤ) → Headed icon → Headed (marked s icon op x y)
  unfolding marked painted
  marked-headed Stitch icon x y h = pixel-headed icon _ _ h
  marked-headed Jump icon x y h = h
  marked-headed Trim icon x y h = h
  marked-headed ColorChange icon x y h = h
  marked-headed End icon x y h = h

  drawn-headed : (cs : List Cmd) (icon : List ℕ) → Headed icon → Headed (drawn s icon cs)
  unfolding drawn
  drawn-headed [] icon h = h
  drawn-headed (c ∷ cs) icon h = drawn-headed cs _ (marked-headed (op_of c.kind) icon c.x c.y h)

blank-headed : Headed blank_icon
unfolding blank_icon joined
blank-headed = (_, refl)

icons-headed : (cs : List Cmd) → Headed (icons cs)
unfolding icons
icons-headed cs = let h = drawn-headed (whole cs) cs blank_icon blank-headed in (h.0 ++ parts cs, ap (λ (i : List ℕ). i ++ parts cs) h.1)

-- ---- the stitches, read

pec-keeps : (f : Format) → least_step f ≡ neg_ℤ (pos 2048) → greatest_step f ≡ pos 2047 → (dx dy : ℤ) → step_in f dx dy ≡ true → InBits 11 dx × InBits 11 dy
unfolding step_in
pec-keeps f lo hi dx dy e =
    let p = between (least_step f) (greatest_step f) dx in
    let q = between (least_step f) (greatest_step f) dy in
    let a = between-true (neg_ℤ (pos 2048)) (pos 2047) dx (rw (lo, hi) at (and_left p q e)) in
    let b = between-true (neg_ℤ (pos 2048)) (pos 2047) dy (rw (lo, hi) at (and_right p q e)) in
    ((omega ints, omega ints), (omega ints, omega ints))

stitches-sew : (f : Format) → least_step f ≡ neg_ℤ (pos 2048) → greatest_step f ≡ pos 2047 → (cs : List Cmd) → Good (step_in f) (pos 0) (pos 0) cs
    → sewn pec_first (stitches_of cs ++ icons cs) 0 (pos 0) (pos 0) ≡ list_sewing cs
unfolding list_sewing pec_stitches
stitches-sew f lo hi cs g =
    let h = icons-headed cs in
    ap (λ (t : List ℕ). sewn pec_first (stitches_of cs ++ t) 0 (pos 0) (pos 0)) h.1
    ∙ round pec_first (step_in f) pec_cmd pec_next (0x00 ∷ h.0) pec_stitches (λ s x y. refl) (λ s x y c cs. refl)
    (pec-owed (step_in f) (pec-keeps f lo hi) h.0) pec_start (pos 0) (pos 0) cs g 0

abbrev magic : List ℕ
magic = 0x23 ∷ 0x50 ∷ 0x45 ∷ 0x43 ∷ 0x30 ∷ 0x30 ∷ 0x30 ∷ 0x31 ∷ []

pec-bytes : (name : List ℕ) (cs : List Cmd) (threads : List Color) → length threads ≤ 255
    → drop 536 (pec_file name cs threads) ≡ stitches_of cs ++ icons cs
unfolding pec_file
pec-bytes name cs threads h =
    let n : length (magic ++ part_front name cs threads) ≡ 536 = length-append magic (part_front name cs threads) ∙ omega (arith, length-part_front name cs threads h) in
    let e : magic ++ pec_part name cs threads ≡ (magic ++ part_front name cs threads) ++ (stitches_of cs ++ icons cs)
    = ap (λ (p : List ℕ). magic ++ p) (part-is name cs threads) ∙ sym (append_assoc magic (part_front name cs threads) (stitches_of cs ++ icons cs)) in
    ap (drop 536) e ∙ drop_at (magic ++ part_front name cs threads) (stitches_of cs ++ icons cs) 536 n

pub pec_sewing_lem : (name : List ℕ) (cs : List Cmd) (threads : List ℕ) → length (threads_of threads) ≤ 255 → Good (step_in Pec) (pos 0) (pos 0) cs
    → event_sewing 0 (pos 0) (pos 0) (events_of Pec (file_of Pec name cs threads)) ≡ list_sewing cs
unfolding events_of pec_events file_of least_step greatest_step
pec_sewing_lem name cs threads h g =
    ap (λ (b : List ℕ). sewn pec_first b 0 (pos 0) (pos 0)) (pec-bytes name cs (threads_of threads) h) ∙ stitches-sew Pec refl refl cs g

-- ---- PES: the start leads to the part

abbrev pes_magic : List ℕ
pes_magic = 0x23 ∷ 0x50 ∷ 0x45 ∷ 0x53 ∷ 0x30 ∷ 0x30 ∷ 0x30 ∷ 0x31 ∷ []

module _ (name : List ℕ) (cs : List Cmd) (threads : List Color) (few : length cs ≤ 65535) where
  abbrev start : ℕ
  start = 12 + length (pes_middle cs threads)

  start_small : start < 2 ^ 31
  start_small = omega (arith, length-middle cs threads)

  -- the number at 8 is the start
  start_is : word_at 8 (pes_file name cs threads) ≡ pos start
  unfolding word_at pes_file joined
  start_is =
      let s : start < 2 ^ 31 = start_small in
      let n : from_little (take 4 (drop 8 (pes_file name cs threads))) ≡ start
      = little-at pes_magic (pes_middle cs threads ++ (pec_part name cs threads ++ [])) 4 start 8 refl ∙ omega arith in
      ap (signed 31) n ∙ signed_low 31 start s

  pes-bytes : length threads ≤ 255 → drop (start + 528) (pes_file name cs threads) ≡ stitches_of cs ++ icons cs
  unfolding pes_file joined
  pes-bytes h =
      let front : List ℕ = pes_magic ++ (little 4 start ++ (pes_middle cs threads ++ part_front name cs threads)) in
      let n : length front ≡ start + 528
      = simp (length-append, length-little) (omega (arith, length-header name threads h)) in
      let e : pes_file name cs threads ≡ front ++ (stitches_of cs ++ icons cs)
      = ap (λ (p : List ℕ). pes_magic ++ (little 4 start ++ (pes_middle cs threads ++ (p ++ [])))) (part-is name cs threads) ∙ simp (append_assoc, append-nil) in
      ap (drop (start + 528)) e ∙ drop_at front (stitches_of cs ++ icons cs) (start + 528) n

pub pes-sewing : (name : List ℕ) (cs : List Cmd) (threads : List ℕ) → length cs ≤ 65535 → length (threads_of threads) ≤ 255 → Good (step_in Pes) (pos 0) (pos 0) cs
    → event_sewing 0 (pos 0) (pos 0) (events_of Pes (file_of Pes name cs threads)) ≡ list_sewing cs
unfolding events_of pec_events part_at file_of least_step greatest_step
pes-sewing name cs threads few h g =
    let ts = threads_of threads in
    ap (λ (z : ℤ). sewn pec_first (drop (nat_abs z + 528) (pes_file name cs ts)) 0 (pos 0) (pos 0)) (start_is name cs ts few)
    ∙ ap (λ (b : List ℕ). sewn pec_first b 0 (pos 0) (pos 0)) (pes-bytes name cs ts few h) ∙ stitches-sew Pes refl refl cs g

-- ---- neither is refused

-- what acceptance says of sizes
pub record Few (cs : List Cmd) (threads : List ℕ) : Type 0 where
  pub commands_few : length cs ≤ 65535
  pub changes_few : count changes cs ≤ 254
  pub threads_few : length (threads_of threads) ≤ 255

module _ (name : List ℕ) (cs : List Cmd) (threads : List ℕ) (few : Few cs threads) where
  abbrev ts : List Color
  ts = threads_of threads

  part-long : length (pec_part name cs ts) ≡ 984 + length (stitches_of cs) + 228 * count changes cs
  part-long = part_length name cs ts few.threads_few

  pub pec-taken : file_verdict (Some Pec) (file_of Pec name cs threads) ≡ Ok tt
  unfolding file_verdict verdict file_refusals no_count file_of
  pec-taken =
      let n : length (pec_file name cs ts) ≤ 2097152 = omega (arith, pec-length name cs ts, part-long, length-stitches pec_start (pos 0) (pos 0) cs, few) in
      let m : 56 < length (pec_file name cs ts) = omega (arith, pec-length name cs ts, part-long) in
      rw (le-ltb 2097152 (length (pec_file name cs ts)) n, lt-leb (length (pec_file name cs ts)) 56 m)

  begins-pes : begins (0x23 ∷ 0x50 ∷ 0x45 ∷ 0x53 ∷ []) (pes_file name cs ts) ≡ true
  unfolding begins same_bytes pes_file joined
  begins-pes = refl

  pub pes-taken : file_verdict (Some Pes) (file_of Pes name cs threads) ≡ Ok tt
  unfolding file_verdict verdict file_refusals no_count part_at file_of
  pes-taken =
      let s : List ℕ = pes_file name cs ts in
      let v : ℕ = 12 + length (pes_middle cs ts) in
      let n : length s ≤ 2097152 = omega (arith, pes-length name cs ts, part-long, length-stitches pec_start (pos 0) (pos 0) cs, length-middle cs ts, few) in
      let m : v + 48 < length s = omega (arith, pes-length name cs ts, part-long) in
      let q : 12 ≤ length s = omega (arith, pes-length name cs ts) in
      rw (le-ltb 2097152 (length s) n, begins-pes, le-ltb (length s) 12 q, start_is name cs ts few.commands_few, lt-leb (length s) (v + 48) m, le-ltb v 0 (omega arith))
