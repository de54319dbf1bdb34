-- The bytes of a command by format, which steps are small enough, which kinds are counted, and the parts of a DST record.
use Rattle.std.specs.Prelude.{ℕ, ◌+◌, ◌≤◌, ◌<◌, ◌≡◌, Bool, true, false, ◌&&◌, List, leb, ℤ, pos, negsuc, nat_abs, ◌-ℤ◌, length, get_or}
use Rattle.rules.specs.Vocabulary.{from_little}
use Rattle.rules.specs.Lists.{op_of, commands, written}
use Rattle.rules.specs.Refusals.{step_too_long}
use Rattle.rules.specs.Dst.{Digit, minus, nought, plus, digit, z27, z9, z3, z1, dst_bytes, dst_cmd}
use Rattle.rules.specs.Exp.{exp_cmd}
use Rattle.rules.specs.Jef.{jef_cmd}
use Rattle.stream_cmd.specs.declared.Stream.{Stream}
use Rattle.stream_cmd.specs.declared.Stream.TheVariants.{Dst, Exp, Jef}
use Rattle.stream_cmd.specs.declared.triples.Digits.{Digits}
use Rattle.rules.specs.declared.Format.{Format}
use Rattle.rules.specs.declared.Format.TheVariants as format
use Rattle.rules.specs.declared.Op.{Op}

-- what the rules call it
abbrev pub format_of : Stream → Format
format_of Dst = format.Dst
format_of Exp = format.Exp
format_of Jef = format.Jef

abbrev pub cmd_of : Stream → Op → ℤ → ℤ → List ℕ
cmd_of Dst op dx dy = dst_cmd op dx dy
cmd_of Exp op dx dy = exp_cmd op dx dy
cmd_of Jef op dx dy = jef_cmd op dx dy

-- the greatest step on either axis
unfoldable pub most : Stream → ℕ
most Dst = 121
most Exp = 127
most Jef = 127

pub record Step (f : Stream) (dx dy : ℤ) : Type 0 where
  pub x : nat_abs dx ≤ most f
  pub y : nat_abs dy ≤ most f

-- a kind from lo to hi
abbrev pub kind_in : ℕ → ℕ → ℕ → Bool
kind_in lo hi k = leb lo k && leb k hi

-- those whose steps are pairs of bytes
abbrev pub pair_stream : Bool → Stream
pair_stream true = Jef
pair_stream false = Exp

-- what a format's loop asks: no step is too long, and the buffer d has room from `at` on
abbrev pub Ready : Stream → List ℤ → List ℤ → List ℕ → List ℕ → ℕ → Type 0
Ready f xs ys ks d at = (step_too_long (format_of f) (commands xs ys ks) ≡ false) × (at + length (written (cmd_of f) (pos 0) (pos 0) (commands xs ys ks)) ≤ length d)

-- the command at i, after the place (x, y): its step, and its bytes
abbrev pub StepAt : Stream → List ℤ → List ℤ → ℕ → ℤ → ℤ → Type 0
StepAt f xs ys i x y = Step f (get_or xs i (pos 0) -ℤ x) (get_or ys i (pos 0) -ℤ y)

abbrev pub bytes_at : Stream → List ℤ → List ℤ → List ℕ → ℕ → ℤ → ℤ → List ℕ
bytes_at f xs ys ks i x y = cmd_of f (op_of (get_or ks i 0)) (get_or xs i (pos 0) -ℤ x) (get_or ys i (pos 0) -ℤ y)

-- the number of a digit, and those of a step by the greedy rule
unfoldable pub digit_value : Digit → ℤ
digit_value minus = negsuc 0
digit_value nought = pos 0
digit_value plus = pos 1

abbrev pub digits_of : ℤ → Digits
digits_of z = record {
  d81 = digit_value (digit 40 z);
  d27 = digit_value (digit 13 (z27 z));
  d9 = digit_value (digit 4 (z9 z));
  d3 = digit_value (digit 1 (z3 z));
  d1 = digit_value (digit 0 (z1 z));
}

-- a DST record that moves by z along x, or else by -z along y, with no bits of a kind
abbrev pub along : Bool → ℤ → List ℕ
along true z = dst_bytes 0 z (pos 0)
along false z = dst_bytes 0 (pos 0) z

-- its bits in one number, z being t - 121
abbrev pub part_of : Bool → ℕ → ℕ
part_of wide t = from_little (along wide (pos t -ℤ pos 121))

-- those of all steps along one axis, and along both
pub record Parts (wide : Bool) (s : List ℕ) : Type 0 where
  pub size : length s ≡ 243
  pub each : (t : ℕ) → t < 243 → get_or s t 0 ≡ part_of wide t

abbrev pub Tables : List ℕ → List ℕ → Type 0
Tables wide high = Parts true wide × Parts false high
