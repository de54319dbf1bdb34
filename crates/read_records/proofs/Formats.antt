-- Bounds on the first record of any bytes, in every format: its length, and its step on each axis for each byte of it. They keep a
-- reader's sums in range.
-- Assumes nothing.
use Prim.Native.Nat.{ℕ, suc, ◌+◌, ◌-◌, ◌*◌, ◌/◌, ◌%◌, ◌≤◌, ◌<◌}
use mathlib.Core.Bool.{Bool, true, false, ◌||◌}
use mathlib.Core.List.{List, [], ◌∷◌}
use native.Mathlib.Omega.{arith}
use lib.Dec.{eqb, ltb}
use lib.ListN.{length, drop, length-drop}
use lib.IntN.{ℤ, pos, neg_ℤ, nat_abs, ◌-ℤ◌}
use Rattle.rules.specs.Vocabulary.{pick, signed}
use Rattle.rules.specs.Exp.{two, control, after80, pair_first}
use Rattle.rules.specs.Dst.{bit, weigh, dst_x, dst_y, under, dst_record, dst_first}
use Rattle.rules.specs.Pec.{Axis, axis, none, long_axis, axis_of, after_axis, both_axes, starts, pec_change, pec_first}
use Rattle.read_records.specs.Firsts.{first_record_of}
use Rattle.read_records.specs.declared.Row.{Row}
use Rattle.read_records.specs.declared.Row.TheVariants.{Pec, Dst, Exp, Jef}
use Rattle.rules.specs.declared.Record.{Record}
use Rattle.rules.specs.declared.Record.TheVariants.{StitchBy, JumpBy, ChangeBy, Finish}
use Rattle.laws.specs.Ints.{abs_neg}
use Rattle.laws.specs.Tests.{pick-both}
use Rattle.laws.specs.Reading.{Within, Inside}
use Rattle.read_records.specs.Fields.{len_of, dx_of, dy_of}
use Rattle.read_records.proofs.Signs.{signed-size, less-size}

-- no record is shorter than two bytes; the end takes none
abbrev pub Fair : Record → Type 0
Fair (StitchBy dx dy n) = 1 < n
Fair (JumpBy dx dy n) = 1 < n
Fair (ChangeBy dx dy n) = 1 < n
Fair Finish = Unit {0}

-- the first record of n bytes
pub record Near (r : Record) (n : ℕ) : Type 0 where
  pub fair : Fair r
  pub len : len_of r ≤ n
  pub dx : nat_abs (dx_of r) ≤ 1000 * len_of r
  pub dy : nat_abs (dy_of r) ≤ 1000 * len_of r

near-end : (n : ℕ) → Near Finish n
near-end n = omega arith

near-pick : {r r' : Record} {n : ℕ} (b : Bool) → Near r n → Near r' n → Near (pick b r r') n
near-pick {n = n} b h h' = pick-both (λ (r : Record). Near r n) b h h'

-- ---- EXP and JEF

minus-size : (n : ℕ) → nat_abs (neg_ℤ (signed 7 n)) ≤ 128
minus-size n = omega (arith, abs_neg (signed 7 n), signed-size 7 n)

near-two : (jef : Bool) (dx dy : ℤ) (n : ℕ) → nat_abs dx ≤ 128 → nat_abs dy ≤ 128 → 4 ≤ n → Near (two jef dx dy) n
unfolding two
near-two true dx dy n hx hy h = omega arith
near-two false dx dy n hx hy h = omega arith

near-80 : (jef : Bool) (l : List ℕ) → Near (after80 jef l) (suc (length l))
unfolding after80 control
near-80 jef [] = near-end _
near-80 jef (c ∷ []) = near-end _
near-80 jef (c ∷ a ∷ []) = near-end _
near-80 jef (c ∷ a ∷ b ∷ l) =
    let x = signed-size 7 a in let y = minus-size b in
    near-pick (eqb c 0x10) (near-end _) (near-pick (eqb c 0x80) (omega arith) (near-pick (eqb c 0x01) (omega arith)
    (near-pick (eqb c 0x02) (near-two jef _ _ _ x y (omega arith)) (near-pick (eqb c 0x04) (omega arith) (near-end _)))))

pub near-pair : (jef : Bool) (l : List ℕ) → Near (pair_first jef l) (length l)
unfolding pair_first
near-pair jef [] = near-end _
near-pair jef (a ∷ []) = near-end _
near-pair jef (a ∷ b ∷ l) = near-pick (eqb a 0x80) (near-80 jef (b ∷ l)) (omega (arith, signed-size 7 a, minus-size b))

-- ---- DST

weigh-le : (p q r s t : ℕ) → weigh (p % 2) (q % 2) (r % 2) (s % 2) (t % 2) ≤ 121
unfolding weigh
weigh-le p q r s t = omega arith

step-le : (m n : ℕ) → m ≤ 121 → n ≤ 121 → nat_abs (pos m -ℤ pos n) ≤ 242
step-le m n h k = omega (arith, less-size m n)

pub x-le : (a b c : ℕ) → nat_abs (dst_x a b c) ≤ 242
unfolding dst_x bit
x-le a b c = step-le _ _ (weigh-le (c / 4) (b / 4) (a / 4) (b / 1) (a / 1)) (weigh-le (c / 8) (b / 8) (a / 8) (b / 2) (a / 2))

pub y-le : (a b c : ℕ) → nat_abs (dst_y a b c) ≤ 242
unfolding dst_y bit
y-le a b c = rw abs_neg (step-le _ _ (weigh-le (c / 32) (b / 32) (a / 32) (b / 128) (a / 128)) (weigh-le (c / 16) (b / 16) (a / 16) (b / 64) (a / 64)))

pub near-dst : (l : List ℕ) → Near (dst_first l) (length l)
unfolding dst_first dst_record
near-dst [] = near-end _
near-dst (a ∷ []) = near-end _
near-dst (a ∷ b ∷ []) = near-end _
near-dst (a ∷ b ∷ c ∷ l) =
    let x = x-le a b c in let y = y-le a b c in
    near-pick (under 0xF3 c) (near-end _) (near-pick (under 0xC3 c) (omega arith) (near-pick (under 0x83 c) (omega arith) (omega arith)))

-- ---- PES and PEC

-- a step z of m bytes, of n
record Small (z : ℤ) (m n : ℕ) : Type 0 where
  step : nat_abs z ≤ 1024 * m
  one : 1 ≤ m
  two : m ≤ 2
  len : m ≤ n

abbrev SmallAxis : Axis → ℕ → Type 0
SmallAxis none n = Unit {0}
SmallAxis (axis j z m) n = Small z m n

small-long : (a : ℕ) (l : List ℕ) → SmallAxis (long_axis a l) (suc (length l))
unfolding long_axis
small-long a [] = tt
small-long a (b ∷ l) = omega (arith, signed-size 11 (a % 16 * 256 + b))

small-axis : (l : List ℕ) → SmallAxis (axis_of l) (length l)
unfolding axis_of
small-axis [] = tt
small-axis (a ∷ l) = pick-both (λ (x : Axis). SmallAxis x (suc (length l))) (ltb a 0x80) (omega (arith, signed-size 6 a)) (small-long a l)

near-second : (j : Bool) (dx : ℤ) (m n : ℕ) (y : Axis) → Small dx m n → SmallAxis y (n - m) → Near (both_axes (axis j dx m) y) n
unfolding both_axes
near-second j dx m n none h k = near-end n
near-second j dx m n (axis j' dy m') h k = near-pick (j || j') (omega arith) (omega arith)

near-both : (x : Axis) (l : List ℕ) → SmallAxis x (length l) → Near (both_axes x (after_axis x l)) (length l)
unfolding both_axes after_axis
near-both none l h = near-end _
near-both (axis j dx m) l h = near-second j dx m (length l) (axis_of (drop m l)) h (rw length-drop at (small-axis (drop m l)))

near-change : (l : List ℕ) → Near (pec_change l) (length l)
unfolding pec_change
near-change [] = near-end _
near-change (a ∷ []) = near-end _
near-change (a ∷ b ∷ []) = near-end _
near-change (a ∷ b ∷ c ∷ l) = omega arith

pub near-pec : (l : List ℕ) → Near (pec_first l) (length l)
unfolding pec_first
near-pec l = near-pick (starts 0xFF 0x00 l) (near-end _) (near-pick (starts 0xFE 0xB0 l) (near-change l) (near-both (axis_of l) l (small-axis l)))

-- ---- every format

pub near : (f : Row) (s : List ℕ) → Near (first_record_of f s) (length s)
unfolding first_record_of
near Pec s = near-pec s
near Dst s = near-dst s
near Exp s = near-pair false s
near Jef s = near-pair true s

within : (r : Record) (n : ℕ) → Near r n → Within n r
within (StitchBy dx dy m) n h = (omega arith, h.len)
within (JumpBy dx dy m) n h = (omega arith, h.len)
within (ChangeBy dx dy m) n h = (omega arith, h.len)
within Finish n h = tt

-- so the laws of `Reading` hold
pub inside : (f : Row) → Inside (first_record_of f)
inside f s = within (first_record_of f s) (length s) (near f s)
