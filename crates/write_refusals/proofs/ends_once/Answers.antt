-- The list ends once where no kind before i is an end and the kinds that are left, of which there is one at least, end once.
use mathlib.Core.Path.{◌≡◌, refl, sym, ap, ◌∙◌}
use mathlib.Core.Bool.{Bool, true, false, ◌&&◌, ◌||◌, not}
use mathlib.Core.List.{List}
use Prim.Native.Nat.{ℕ, ◌+◌, ◌-◌, ◌≤◌, ◌<◌}
use native.Mathlib.Omega.{arith}
use lib.Dec.{eqb}
use lib.ListN.{length, get_or, drop}
use Rattle.rules.specs.Lists.{ends_once}
use Rattle.laws.specs.Listing.{list-more, list-end}
use Rattle.write_refusals.proofs.ends_once.Goals as goal

-- a kind before the last, and the last
more : (ks : List ℕ) (i : ℕ) (early : Bool) → i + 1 < length ks
    → (not early && ends_once (drop i ks)) ≡ (not (early || eqb (get_or ks i 0) 4) && ends_once (drop (i + 1) ks))
unfolding ends_once
more ks i true h = refl
more ks i false h = rw (list-more ks 0 i (omega arith), list-more ks 0 (i + 1) h)

last : (ks : List ℕ) (i : ℕ) → i < length ks → length ks ≤ i + 1 → ends_once (drop i ks) ≡ eqb (get_or ks i 0) 4
unfolding ends_once
last ks i h l = rw (list-more ks 0 i h, list-end ks (i + 1) l)

pub returns-then-kinds-eq0 : goal.returns-then-kinds-eq0
unfolding ends_once
returns-then-kinds-eq0 c = sym (ap ends_once (list-end c.args.kinds.now 0 (omega arith)))

pub loop-i-init : goal.loop-i-init
loop-i-init c = (omega arith, refl)

pub bounds-kinds-i : goal.bounds-kinds-i
bounds-kinds-i c = omega arith

pub loop-i-preserved : goal.loop-i-preserved
loop-i-preserved c =
    let loop = c.loop-i in
    (omega arith, loop.invariant.1 ∙ more c.args.kinds.now loop.i loop.early (omega arith))

pub returns : goal.returns
returns c =
    let ks = c.args.kinds.now in
    let loop = c.loop-i in
    let e : loop.i ≡ length ks - 1 = omega arith in
    sym (loop.invariant.1 ∙ rw (last ks loop.i loop.invariant.0 (omega arith), e))
