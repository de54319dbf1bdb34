-- Each cell of the table is right.
use Prim.Native.Nat.{ℕ}
use mathlib.Core.Path.{◌≡◌, refl}
use mathlib.Core.Bool.{Bool, true, false}
use mathlib.Core.List.{List}
use lib.Dec.{T, eqb, eqb→eq}
use lib.ListN.{length, get_or, set, replicate}
use Rattle.laws.specs.Tables.{every, at}
use Rattle.read_records.specs.Tables.{kind_of, Kinds}
use Rattle.read_records.proofs.pair.kinds.Goals as goal
use Rattle.read_records.proofs.pair.kinds.Goals.{then-jef, else-jef}

right : Bool → ℕ → ℕ → Bool
right jef c k = eqb k (kind_of jef c)

by-cells : (jef : Bool) (t : List ℕ) → length t ≡ 256 → T (every (right jef) 0 t) → Kinds jef t
unfolding right
by-cells jef t e k = record { long = e; kind = λ c h. eqb→eq (get_or t c 0) (kind_of jef c) (at (right jef) t 0 k c (rw e h)) }

sewn : List ℕ
sewn = set (set (set (replicate 256 3) 0x80 1) 1 2) 2 0

kinds-exp : Kinds false (set sewn 4 1)
unfolding right sewn
kinds-exp = by-cells false (set sewn 4 1) refl tt

kinds-jef : Kinds true (set (set sewn 2 1) 4 1)
unfolding right sewn
kinds-jef = by-cells true (set (set sewn 2 1) 4 1) refl tt

pub returns : goal.returns
unfolding sewn
returns c = elim c.if-jef.branch [ then-jef w ↦ rw (w.t-is, w.if-jef.true) kinds-jef | else-jef w ↦ rw (w.t-is, w.if-jef.false) kinds-exp ]
