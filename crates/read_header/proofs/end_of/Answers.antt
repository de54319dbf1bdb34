-- The text without its last blanks is that of the bytes before i. Assumes nothing.
use Prim.Native.Nat.{◌+◌, ◌-◌}
use mathlib.Core.Path.{◌≡◌, sym, ap, ◌∙◌}
use native.Mathlib.Omega.{arith}
use lib.ListN.{take}
use lib.Seq.{take-length}
use Rattle.rules.specs.Text.{trim_end}
use Rattle.read_header.proofs.Texts.{end_more, end-here, end_none}
use Rattle.read_header.proofs.end_of.Goals as goal

pub loop-i-init : goal.loop-i-init
loop-i-init c = ap trim_end (sym (take-length c.args.s.now))

pub returns-then-not-is_blank : goal.returns-then-not-is_blank
returns-then-not-is_blank c = let h = c.loop-i in
    let p : h.i - 1 + 1 ≡ h.i = omega arith in
    rw p (
      h.auto.i,
      sym (h.invariant ∙ end-here _ _ c.loop-i-test.true h.auto.i
          (sym c.is_blank.ensures ∙ c.if-not-is_blank.true)),
    )

pub loop-i-preserved : goal.loop-i-preserved
loop-i-preserved c = let h = c.loop-i in
    h.invariant ∙ end_more _ _ c.loop-i-test.true h.auto.i
    (sym c.is_blank.ensures ∙ c.if-not-is_blank.false)

pub returns : goal.returns
returns c = let h = c.loop-i in let p : h.i ≡ 0 = omega arith in
    (omega arith, sym (h.invariant ∙ end_none _ _ c.loop-i-test.false ∙ ap (λ n. take n c.args.s.now) p))
