-- DST: four stitches at once, and a stitch or a jump by one number. Assumes nothing.
use Prim.Native.Nat.{ℕ, ◌+◌, ◌≤◌, ◌<◌}
use mathlib.Core.Path.{◌≡◌, refl, ◌∙◌}
use mathlib.Core.Bool.{false}
use mathlib.Core.List.{List}
use native.Mathlib.Omega.{arith}
use lib.Bits.{bit_or}
use lib.ListN.{length, get_or, drop}
use Rattle.rules.specs.Dst.{under}
use Rattle.rules.specs.Vocabulary.{pick}
use Rattle.read_records.specs.declared.Row.TheVariants.{Dst}
use Rattle.rules.specs.declared.Record.TheVariants.{StitchBy}
use Rattle.laws.specs.Tests.{by-test}
use Rattle.read_records.proofs.Dsts.{or-below, step_x, step_y, dst-sewn}
use Rattle.read_records.specs.Firsts.{first_record_of}
use Rattle.read_passes.proofs.Found.{in_dst, Triple, triple-stitch, triple-jump}
use Rattle.read_count.specs.Tallies.{tallied, tallied_many, Tallying}
use Rattle.read_count.specs.declared.tally.Tally.{Tally}
use Rattle.read_count.proofs.Laws.{retold, tallying-on}

-- a third byte below 128 sews
sewn : (s : List ℕ) (i k : ℕ) → k < length s → i + 2 ≡ k → get_or s k 0 < 128 → first_record_of Dst (drop i s) ≡ StitchBy (step_x s i) (step_y s i) 3
sewn s i k h e l = in_dst (drop i s) ∙ dst-sewn s i (omega arith) (rw e l)

module _ {bytes : List ℕ} {t : Tally} {at : ℕ} (g : Tallying Dst bytes t at) (h : at + 12 ≤ length bytes) where
  abbrev third : ℕ
  third = get_or bytes (at + 2) 0

  pub triple-four : bit_or (bit_or (bit_or (get_or bytes (at + 2) 0) (get_or bytes (at + 5) 0)) (get_or bytes (at + 8) 0)) (get_or bytes (at + 11) 0) < 128
      → Tallying Dst bytes (tallied_many 4 t) (at + 12)
  triple-four l =
      let p = or-below (bit_or (bit_or third (get_or bytes (at + 5) 0)) (get_or bytes (at + 8) 0)) (get_or bytes (at + 11) 0) l in
      let q = or-below (bit_or third (get_or bytes (at + 5) 0)) (get_or bytes (at + 8) 0) p.0 in
      let r = or-below third (get_or bytes (at + 5) 0) q.0 in
      let one = tallying-on g (sewn bytes at (at + 2) (omega arith) (omega arith) r.0) in
      let two = tallying-on one (sewn bytes (at + 3) (at + 5) (omega arith) (omega arith) r.1) in
      let three = tallying-on two (sewn bytes (at + 3 + 3) (at + 8) (omega arith) (omega arith) q.1) in
      let four = tallying-on three (sewn bytes (at + 3 + 3 + 3) (at + 11) (omega arith) (omega arith) p.1) in
      let e : at + 12 ≡ at + 3 + 3 + 3 + 3 = omega arith in
      rw e (retold (λ b k. omega (arith, k)) four)

  abbrev pub Here : Type 0
  Here = Triple bytes at (step_x bytes at) (step_y bytes at)

  pub here : Here
  here = record { room = omega arith; dx = refl; dy = refl }

  pub triple-other : under 0xF3 third ≡ false → under 0xC3 third ≡ false
      → Tallying Dst bytes (tallied (pick (under 0x83 third) 0 1) t) (at + 3)
  triple-other n m =
      by-test (under 0x83 third) (λ e. rw e (tallying-on g (triple-jump here n m e))) (λ e. rw e (tallying-on g (triple-stitch here e)))
