-- What the code finds where a record stands, by format, and the record that it is. Assumes nothing.
use Prim.Native.Nat.{ℕ, ◌+◌, ◌/◌, ◌%◌, ◌≤◌, ◌<◌}
use mathlib.Core.Path.{◌≡◌, refl, sym, ◌∙◌}
use mathlib.Core.Bool.{Bool, true, false, ◌&&◌}
use mathlib.Core.List.{List}
use native.Mathlib.Omega.{arith}
use borrow.Author.Tests.{eq-eqb, ne_eqb}
use lib.Bits.{bit_and}
use lib.Dec.{eqb}
use lib.IntN.{ℤ, pos, neg_ℤ}
use lib.ListN.{length, get_or, drop}
use mir.Syntax.{w8}
use mir.Val.{Fits}
use Rattle.rules.specs.Dst.{dst_first, under}
use Rattle.rules.specs.Exp.{pair_first}
use Rattle.rules.specs.Pec.{pec_first}
use Rattle.rules.specs.Vocabulary.{pick, signed}
use Rattle.read_records.specs.declared.Row.TheVariants.{Pec, Dst, Exp, Jef}
use Rattle.rules.specs.declared.Record.{Record}
use Rattle.rules.specs.declared.Record.TheVariants.{StitchBy, JumpBy, ChangeBy, Finish}
use Rattle.read_records.specs.Firsts.{first_record_of}
use Rattle.read_records.specs.Tables.{kind_of}
use Rattle.read_records.specs.Words.{four_at, eight_at, past_step, axis_step, first_part, plain_step, masked}
use Rattle.read_records.proofs.Controls.{kind-few, kind-sewn, kind-changed, kind-stitch, kind-change, kind-jump, kind-end}
use Rattle.read_records.proofs.Dsts.{step_x, step_y, dst-ended, dst-change, dst-jump, dst-stitch}
use Rattle.read_records.proofs.Eights.{two-short-here, two-long-here, short-long-here}
use Rattle.read_records.proofs.Fours.{steps_of, word_end, word-change, word-steps, word_low}
use Rattle.read_records.proofs.Pairs.{pair-stitch}

pub in_dst : (s : List ℕ) → first_record_of Dst s ≡ dst_first s
unfolding first_record_of
in_dst s = refl

pub in-pec : (s : List ℕ) → first_record_of Pec s ≡ pec_first s
unfolding first_record_of
in-pec s = refl

pub in_pair : (jef : Bool) (s : List ℕ) → first_record_of (pick jef Jef Exp) s ≡ pair_first jef s
unfolding first_record_of
in_pair true s = refl
in_pair false s = refl

-- the code's tests of a mask
pub has : (m c : ℕ) → bit_and c m ≡ m → under m c ≡ true
unfolding under
has m c e = eq-eqb _ _ e

pub lacks : (m c : ℕ) → (bit_and c m ≡ m → ⊥) → under m c ≡ false
unfolding under
lacks m c e = ne_eqb _ _ e

-- DST: a record with the step that the code gives it
pub record Triple (s : List ℕ) (i : ℕ) (x y : ℤ) : Type 0 where
  pub room : i + 2 < length s
  pub dx : x ≡ step_x s i
  pub dy : y ≡ step_y s i

module _ {s : List ℕ} {i : ℕ} {x y : ℤ} (g : Triple s i x y) where
  abbrev third : ℕ
  third = get_or s (i + 2) 0

  pub triple-stitch : under 0x83 third ≡ false → first_record_of Dst (drop i s) ≡ StitchBy x y 3
  triple-stitch n = rw (g.dx, g.dy) (in_dst _ ∙ dst-stitch s i g.room n)

  pub triple-end : under 0xF3 third ≡ true → first_record_of Dst (drop i s) ≡ Finish
  triple-end e = in_dst _ ∙ dst-ended s i g.room e

  module _ (n : under 0xF3 third ≡ false) where
    pub triple-change : under 0xC3 third ≡ true → first_record_of Dst (drop i s) ≡ ChangeBy x y 3
    triple-change e = rw (g.dx, g.dy) (in_dst _ ∙ dst-change s i g.room n e)

    pub triple-jump : under 0xC3 third ≡ false → under 0x83 third ≡ true → first_record_of Dst (drop i s) ≡ JumpBy x y 3
    triple-jump n' e = rw (g.dx, g.dy) (in_dst _ ∙ dst-jump s i g.room n n' e)

-- EXP and JEF: a control with the kind and the step that the code gives it
module _ (s : List ℕ) (i : ℕ) where
  abbrev pub control_x : ℤ
  control_x = pick (eqb (get_or s (i + 1) 0) 0x80) (pos 0) (signed 7 (get_or s (i + 2) 0))

  abbrev pub control_y : ℤ
  control_y = pick (eqb (get_or s (i + 1) 0) 0x80) (pos 0) (neg_ℤ (signed 7 (get_or s (i + 3) 0)))

pub record Control (jef : Bool) (s : List ℕ) (i k : ℕ) (x y : ℤ) : Type 0 where
  pub room : i + 3 < length s
  pub mark : get_or s i 0 ≡ 128
  pub kind : k ≡ kind_of jef (get_or s (i + 1) 0)
  pub dx : x ≡ control_x s i
  pub dy : y ≡ control_y s i

module _ {jef : Bool} {s : List ℕ} {i k : ℕ} {x y : ℤ} (g : Control jef s i k x y) where
  abbrev code : ℕ
  code = get_or s (i + 1) 0

  pub is-stitch : k ≡ 0 → first_record_of (pick jef Jef Exp) (drop i s) ≡ StitchBy x y 4
  is-stitch e =
      let z = sym g.kind ∙ e in
      rw (g.dx, g.dy, ne_eqb code 0x80 (kind-sewn jef code z)) (in_pair jef (drop i s) ∙ kind-stitch jef s i g.room g.mark z)

  pub is-change : k ≡ 2 → first_record_of (pick jef Jef Exp) (drop i s) ≡ ChangeBy x y 4
  is-change e =
      let z = sym g.kind ∙ e in
      rw (g.dx, g.dy, ne_eqb code 0x80 (kind-changed jef code z)) (in_pair jef (drop i s) ∙ kind-change jef s i g.room g.mark z)

  pub is-end : k ≡ 3 → first_record_of (pick jef Jef Exp) (drop i s) ≡ Finish
  is-end e = in_pair jef (drop i s) ∙ kind-end jef s i g.room g.mark (sym g.kind ∙ e)

  pub is-jump : k ≡ 1 → first_record_of (pick jef Jef Exp) (drop i s) ≡ JumpBy x y 4
  is-jump e = rw (g.dx, g.dy) (in_pair jef (drop i s) ∙ kind-jump jef s i g.room g.mark (sym g.kind ∙ e))

  -- one of the four
  pub few : k ≤ 3
  few = omega (arith, kind-few jef code, g.kind)

-- and a pair that is none
module _ (jef : Bool) (s : List ℕ) (i : ℕ) (h : i + 4 ≤ length s) where
  pub pair-first : (get_or s i 0 ≡ 128 → ⊥)
      → first_record_of (pick jef Jef Exp) (drop i s) ≡ StitchBy (signed 7 (get_or s i 0)) (neg_ℤ (signed 7 (get_or s (i + 1) 0))) 2
  pair-first k = in_pair jef (drop i s) ∙ pair-stitch jef s i (omega arith) k

  pub pair-second : (get_or s (i + 2) 0 ≡ 128 → ⊥)
      → first_record_of (pick jef Jef Exp) (drop (i + 2) s) ≡ StitchBy (signed 7 (get_or s (i + 2) 0)) (neg_ℤ (signed 7 (get_or s (i + 3) 0))) 2
  pair-second k =
      let e : i + 2 + 1 ≡ i + 3 = omega arith in
      in_pair jef (drop (i + 2) s) ∙ rw e at (pair-stitch jef s (i + 2) (omega arith) k)

-- ---- PES and PEC

pub below : (s : List ℕ) → ((k : ℕ) → Fits w8 (get_or s k 0)) → (k : ℕ) → get_or s k 0 < 256
below s f k = omega (arith, f k)

-- the lower half of eight bytes
pub low_word : (s : List ℕ) (i : ℕ) → ((k : ℕ) → get_or s k 0 < 256) → eight_at s i % 4294967296 ≡ four_at s i
unfolding four_at
low_word s i low = omega (arith, low i, low (i + 1), low (i + 2), low (i + 3))

-- two stitches
pub record Two (s : List ℕ) (i : ℕ) (dx dy : ℤ) (n : ℕ) (ex ey : ℤ) (m : ℕ) : Type 0 where
  pub one : first_record_of Pec (drop i s) ≡ StitchBy dx dy n
  pub two : first_record_of Pec (drop (i + n) s) ≡ StitchBy ex ey m

module _ (s : List ℕ) (i : ℕ) where
  abbrev pub Short : Type 0
  Short = Two s i (first_part (get_or s i 0)) (first_part (get_or s (i + 1) 0)) 2 (first_part (get_or s (i + 2) 0)) (first_part (get_or s (i + 3) 0)) 2

  abbrev pub Long : Type 0
  Long = Two s i (axis_step (get_or s i 0) (get_or s (i + 1) 0)) (axis_step (get_or s (i + 2) 0) (get_or s (i + 3) 0)) 4
      (axis_step (get_or s (i + 4) 0) (get_or s (i + 5) 0)) (axis_step (get_or s (i + 6) 0) (get_or s (i + 7) 0)) 4

  abbrev pub ShortLong : Type 0
  ShortLong = Two s i (first_part (get_or s i 0)) (axis_step (get_or s (i + 1) 0) (get_or s (i + 2) 0)) 3
      (first_part (get_or s (i + 3) 0)) (axis_step (get_or s (i + 4) 0) (get_or s (i + 5) 0)) 3

  module _ (f : (k : ℕ) → Fits w8 (get_or s k 0)) (h : i + 8 ≤ length s) where
    pub here-short : masked 0x80808080 0 (eight_at s i) ≡ true → Short
    here-short e = let k = two-short-here s i (below s f) h e in record { one = in-pec _ ∙ k.0; two = in-pec _ ∙ k.1 }

    pub here-long : masked 0x00B000B000B000B0 0x0080008000800080 (eight_at s i) ≡ true → Long
    here-long e = let k = two-long-here s i (below s f) h e in record { one = in-pec _ ∙ k.0; two = in-pec _ ∙ k.1 }

    pub here-short-long : masked 0x000000B08000B080 0x0000008000008000 (eight_at s i) ≡ true → ShortLong
    here-short-long e = let k = short-long-here s i (below s f) h e in record { one = in-pec _ ∙ k.0; two = in-pec _ ∙ k.1 }

-- the word of four bytes at a record

pub record Word (s : List ℕ) (i w : ℕ) : Type 0 where
  pub low : (k : ℕ) → Fits w8 (get_or s k 0)
  pub room : i + 8 ≤ length s
  pub four : w ≡ four_at s i

-- the record of kind r whose first step is in w and whose second step is in y
abbrev pub stepped : (ℤ → ℤ → ℕ → Record) → ℕ → ℕ → Record
stepped r w y = r (axis_step (w % 256) (w / 256 % 256)) (axis_step (y % 256) (y / 256 % 256)) (2 + w / 128 % 2 + y / 128 % 2)

module _ {s : List ℕ} {i w : ℕ} (g : Word s i w) where
  pub ends-here : w % 65536 ≡ 0x00FF → first_record_of Pec (drop i s) ≡ Finish
  ends-here e = in-pec _ ∙ word_end s i (below s g.low) (omega arith) (rw g.four at e)

  pub changes-here : w % 65536 ≡ 0xB0FE → first_record_of Pec (drop i s) ≡ ChangeBy (pos 0) (pos 0) 3
  changes-here e = in-pec _ ∙ word-change s i (below s g.low) (omega arith) (rw g.four at e)

  module _ {y : ℕ} (ey : y ≡ past_step w) {p : Bool} (ep : p ≡ (plain_step (w % 256) && plain_step (y % 256))) where
    of_steps : pec_first (drop i s) ≡ steps_of (four_at s i) → first_record_of Pec (drop i s) ≡ pick p (stepped StitchBy w y) (stepped JumpBy w y)
    of_steps e = rw (ep, ey, g.four) (in-pec _ ∙ e)

    pub steps-here : (w % 65536 ≡ 0x00FF → ⊥) → (w % 65536 ≡ 0xB0FE → ⊥)
        → (p ≡ true → first_record_of Pec (drop i s) ≡ stepped StitchBy w y) × (p ≡ false → first_record_of Pec (drop i s) ≡ stepped JumpBy w y)
    steps-here e f =
        let k = of_steps (word-steps s i (below s g.low) (omega arith) (rw g.four at e) (rw g.four at f)) in
        (λ t. rw t at k, λ t. rw t at k)

    pub hops-low : w % 256 < 0xFE → p ≡ false → first_record_of Pec (drop i s) ≡ stepped JumpBy w y
    hops-low l t = rw t at (of_steps (word_low s i (below s g.low) (omega arith) (rw g.four at l)))
