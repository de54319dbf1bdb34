-- `nearest` meets its contract. Assumes nothing.
use Rattle.std.specs.Prelude.{Some, None}
use mathlib.Core.Path.{◌≡◌, sym, ◌∙◌}
use lib.ListN.{length}
use native.Mathlib.Omega.{arith}
use Rattle.laws.specs.Choosing.{leading-none}
use Rattle.formats.specs.Closer.{seen}
use Rattle.formats.proofs.Leads.{leads-more, leads-all}
use Rattle.formats.proofs.Turns.{there, nothing, no_more, hit, miss}
use Rattle.formats.proofs.nearest.Goals as goal
use Rattle.formats.proofs.nearest.Goals.{then-takes, else-takes}

pub loop-i-init : goal.loop-i-init
loop-i-init c = (omega arith, leading-none c.args.later c.args.color c.args.palette.now 0)

pub loop-i-preserved-in_default : goal.loop-i-preserved-in_default
loop-i-preserved-in_default c =
    let a = c.args in
    let l = c.loop-i in
    (l.invariant.0, leads-more a.later a.color a.palette.now l.i (seen l.at l.least) None c.in_default.is l.invariant.1)

pub loop-i-preserved : goal.loop-i-preserved
loop-i-preserved c =
    let a = c.args in
    let l = c.loop-i in
    let d = c.color_distance-d in
    let t = c.in-Some.t in
    let go = leads-more a.later a.color a.palette.now l.i (seen l.at l.least) (Some t) c.in-Some.is l.invariant.1 in
    elim c.if-takes.branch [
      | then-takes w ↦
          let h = sym c.takes.ensures ∙ w.if-takes.true in
          rw (w.at-is, w.least-is) (
            omega (arith, no_more a.later d.result l.least h, l.invariant.0),
            rw (hit a.later a.color t l.at l.least l.i d.ensures (omega arith) h) at go,
          )
      | else-takes w ↦
          let h = sym c.takes.ensures ∙ w.if-takes.false in
          rw (w.at-is, w.least-is) (
            l.invariant.0,
            rw (miss a.later a.color t l.at l.least l.i d.ensures (omega arith) h) at go,
          )
    ]

pub returns-then-least-eq-FAR : goal.returns-then-least-eq-FAR
returns-then-least-eq-FAR c =
    let a = c.args in
    let l = c.loop-i in
    let e : l.i ≡ length a.palette.now = omega arith in
    sym (nothing l.at l.least c.if-least-eq-FAR.true) ∙ leads-all a.later a.color a.palette.now (seen l.at l.least) (rw e at l.invariant.1)

pub returns : goal.returns
returns c =
    let a = c.args in
    let l = c.loop-i in
    let e : l.i ≡ length a.palette.now = omega arith in
    sym (there l.at l.least (omega (arith, l.invariant.0, c.if-least-eq-FAR.false)))
    ∙ leads-all a.later a.color a.palette.now (seen l.at l.least) (rw e at l.invariant.1)
