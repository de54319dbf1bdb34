-- One of the first n threads is t if one of those from i on is.
use Prim.Native.Nat.{ℕ, ◌<◌}
use mathlib.Core.Bool.{Bool}
use mathlib.Core.List.{List}
use mathlib.Core.Path.{◌≡◌, refl, sym, ◌∙◌}
use native.Mathlib.Omega.{arith}
use lib.ListN.{get_or, take}
use lib.Seq.{length-take-le, get_or-take}
use Rattle.rules.specs.Charts.{color}
use Rattle.rules.specs.Choices.{same_color}
use Rattle.rules.specs.Lists.{threads_of}
use Rattle.rules.specs.declared.Color.{Color}
use Rattle.laws.specs.Listing.{any-hit, any-miss, any-end}
use Rattle.pec_palette.proofs.is_seen.Goals as goal

-- the thread at i among the first n
test : (t : Color) (ts : List Color) (n i : ℕ) {u : Color} {b : Bool} → i < n → u ≡ get_or ts i (color 0 0 0) → b ≡ same_color t u → same_color t (get_or (take n ts) i (color 0 0 0)) ≡ b
test t ts n i h e f = rw (get_or-take n ts i (color 0 0 0) h, ← e) (sym f)

pub loop-i-init : goal.loop-i-init
loop-i-init c = (omega arith, refl)

pub thread_at-requires : goal.thread_at-requires
thread_at-requires c = omega (arith, c.requires)

pub returns-then-eq : goal.returns-then-eq
unfolding same_color
returns-then-eq c = let loop-test = c.loop-i-test in let l = c.loop-i in
    let ts = threads_of c.args.threads.now in
    any-hit (same_color c.args.t) (take c.args.n ts) (color 0 0 0) l.i l.invariant.1 (omega (arith, length-take-le c.args.n ts c.requires))
    (test c.args.t ts c.args.n l.i loop-test.true c.thread_at.ensures c.eq.ensures ∙ c.if-eq.true)

pub loop-i-preserved : goal.loop-i-preserved
unfolding same_color
loop-i-preserved c = let loop-test = c.loop-i-test in let l = c.loop-i in
    let ts = threads_of c.args.threads.now in (
      omega arith,
      any-miss (same_color c.args.t) (take c.args.n ts) (color 0 0 0) l.i l.invariant.1 (omega (arith, length-take-le c.args.n ts c.requires))
          (test c.args.t ts c.args.n l.i loop-test.true c.thread_at.ensures c.eq.ensures ∙ c.if-eq.false),
    )

pub returns : goal.returns
returns c =
    let l = c.loop-i in
    let ts = threads_of c.args.threads.now in
    any-end (same_color c.args.t) (take c.args.n ts) (color 0 0 0) l.i l.invariant.1 (omega (arith, length-take-le c.args.n ts c.requires))
