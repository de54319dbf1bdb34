-- A tally goes with the records as a builder does, and at the end its numbers are the counts. Assumes nothing.
use Prim.Native.Nat.{ℕ, zero, suc, ◌+◌, ◌-◌, ◌*◌, ◌≤◌, ◌<◌}
use mathlib.Core.Path.{◌≡◌, refl, sym}
use mathlib.Core.Bool.{Bool, true, false}
use mathlib.Core.List.{List}
use native.Mathlib.Omega.{arith}
use native.Mathlib.Nat.{mul-le-mul}
use borrow.Author.Tests.{eq-eqb, ne_eqb}
use lib.Dec.{eqb}
use lib.IntN.{ℤ, pos}
use lib.ListN.{length, drop}
use Rattle.rules.specs.Answers.{points_after}
use Rattle.rules.specs.Vocabulary.{pick}
use Rattle.read_records.specs.declared.Row.{Row}
use Rattle.rules.specs.declared.Record.{Record}
use Rattle.rules.specs.declared.Record.TheVariants.{StitchBy, JumpBy, ChangeBy, Finish}
use Rattle.read_records.specs.Firsts.{first_record_of}
use Rattle.read_records.specs.Fields.{len_of}
use Rattle.read_builder.proofs.Parts.{may-open, sizes}
use Rattle.read_builder.specs.Builders.{origin, some, opening, followed, place_after}
use Rattle.read_builder.specs.declared.Builder.{Builder}
use Rattle.read_passes.proofs.Loops.{counting-start, counting-again, counting-done, stays, later}
use Rattle.read_passes.specs.Told.{Sized}
use Rattle.read_passes.specs.declared.Sizes.{Sizes}
use Rattle.read_count.specs.Tallies.{no_tally, tallied, tallied_many, tallied_change, SmallTally, Like, Tallying, Jumps, none, more}
use Rattle.read_count.specs.declared.tally.Tally.{Tally}

-- ---- numbers

opens-or : (n : ℕ) → some n + opening n ≡ 1
opens-or zero = refl
opens-or (suc n) = refl

some_after : (n : ℕ) → some (points_after n) ≡ 1
unfolding points_after
some_after zero = refl
some_after (suc n) = refl

-- a block has runs where more have begun than before it
differs : (m a b : ℕ) → m + b ≡ a → some m ≡ pick (eqb a b) 0 1
differs zero a b e = rw (eq-eqb a b (omega arith))
differs (suc m) a b e = rw (ne_eqb a b (λ z. omega arith))

pub opened-le : (s r : ℕ) → s ≤ 1 → s * (1 - r) ≤ 1
opened-le s r h = let k : 1 - r ≤ 1 = omega arith in mul-le-mul h k

pub bit_le : (x : Bool) → pick x 0 1 ≤ 1
bit_le true = omega arith
bit_le false = omega arith

-- ---- a builder and its tally

-- what a record makes of a tally
abbrev pub tallied_by : Record → Tally → Tally
tallied_by (StitchBy dx dy n) t = tallied 1 t
tallied_by (JumpBy dx dy n) t = tallied 0 t
tallied_by (ChangeBy dx dy n) t = tallied_change t
tallied_by Finish t = t

like-on : {t : Tally} {b : Builder} → Like t b → (r : Record) (x y : ℤ) → Like (tallied_by r t) (followed b r x y)
like-on {t} {b} l (StitchBy dx dy n) x y =
    let o = may-open b.run in
    omega (arith, l, o.after, o.begun b.begun, o.adds b.points, opens-or b.run, some_after b.run)
like-on l (JumpBy dx dy n) x y = omega (arith, l)
like-on {t} {b} l (ChangeBy dx dy n) x y = omega (arith, l, differs b.begun t.runs t.first l.first)
like-on l Finish x y = l

-- ---- a tally of the bytes before `at`

module _ {f : Row} {bytes : List ℕ} where
  pub tallying-start : length bytes ≤ 2097152 → Tallying f bytes no_tally 0
  tallying-start s = record { builder = origin; counting = counting-start f bytes; like = omega arith; short = s }

  -- another tally of the same builder
  pub retold : {t t' : Tally} {at : ℕ} → ((b : Builder) → Like t b → Like t' b) → Tallying f bytes t at → Tallying f bytes t' at
  retold l g = record { builder = g.builder; counting = g.counting; like = l g.builder g.like; short = g.short }

  module _ {t : Tally} {at : ℕ} (g : Tallying f bytes t at) where
    pub tallying-small : SmallTally t
    tallying-small = omega (arith, g.counting.bounded, g.counting.within, g.short, g.like, (sizes g.builder.run 0).one)

    -- one record more
    pub tallying-on : {r : Record} → first_record_of f (drop at bytes) ≡ r → Tallying f bytes (tallied_by r t) (place_after r at (length bytes))
    tallying-on {r} e = record {
      builder = followed g.builder r (pos 0) (pos 0);
      counting = counting-again f bytes at (sym e) g.builder g.counting refl refl;
      like = like-on g.like r (pos 0) (pos 0);
      short = g.short;
    }

    -- it ends in the bytes
    pub tallying-stays : {r : Record} → first_record_of f (drop at bytes) ≡ r → at + len_of r ≤ length bytes
    tallying-stays e = stays f bytes at (sym e) g.counting.within

    -- what a pass ensures, over one record and over two stitches
    pub passed : at < length bytes → {r : Record} → first_record_of f (drop at bytes) ≡ r → {t' : Tally} → t' ≡ tallied_by r t
        → {j : ℕ} → j ≡ place_after r at (length bytes) → Tallying f bytes t' j × (at < j)
    passed l e et ej = rw (et, ej) (tallying-on e, later f bytes at (sym e) l)

    -- at the end
    pub change-small : SmallTally (tallied_change t)
    change-small =
        omega (arith, tallying-small, g.counting.bounded, g.counting.within, g.short, g.like, bit_le (eqb t.runs t.first))

    pub tallying-done : length bytes ≤ at → {z : Sizes} → z.points ≡ t.stitches + t.runs → z.runs ≡ t.runs
        → z.blocks ≡ (tallied_change t).blocks → Sized (first_record_of f) bytes z
    tallying-done h p r bl =
        let d = differs g.builder.begun t.runs t.first g.like.first in
        counting-done f bytes h g.counting (omega (arith, g.like)) (omega (arith, g.like)) (omega (arith, g.like, d))

  pub passed-two : {t : Tally} {at : ℕ} → Tallying f bytes t at → at < length bytes → {dx dy ex ey : ℤ} {n m : ℕ}
      → first_record_of f (drop at bytes) ≡ StitchBy dx dy n
      → first_record_of f (drop (at + n) bytes) ≡ StitchBy ex ey m → {t' : Tally} → t' ≡ tallied_many 2 t → {j : ℕ} → j ≡ at + n + m
      → Tallying f bytes t' j × (at < j)
  passed-two {at = at} g l e e₂ et ej =
      rw (et, ej) (retold (λ b k. omega (arith, k)) (tallying-on (tallying-on g e) e₂), omega (arith, later f bytes at (sym e) l))

  -- a jump changes nothing where no run is open
  pub tallying-jumps : {t : Tally} {from at : ℕ} → t.running ≡ 0 → Tallying f bytes t from → Jumps f bytes from at → Tallying f bytes t at
  tallying-jumps z g none = g
  tallying-jumps z g (more j e) = retold (λ b k. omega (arith, k)) (tallying-on (tallying-jumps z g j) (sym e))
