-- The step is added to the place; both tests decide.
use mathlib.Core.Path.{◌≡◌, sym, ◌∙◌}
use lib.IntN.{◌+ℤ◌}
use mir.Syntax.{w32}
use mir.Val.{SFits}
use Rattle.read_passes.proofs.Turns.{read}
use Rattle.hoop_records.proofs.Sums.{added}
use borrow.Author.Rules.{rules}
use Rattle.hoop_records.proofs.looks.sew.Goals as goal

pub returns-then-not-starts : goal.returns-then-not-starts
returns-then-not-starts c = rw (sym c.starts.ensures ∙ c.if-not-starts.true)

pub returns-then-not-holds : goal.returns-then-not-holds
returns-then-not-holds c =
    let across : let a = c.args in read c.sum-x.result ≡ a.w.x +ℤ a.dx = let f : SFits w32 c.args.w.x = search (rules, c.struct_told-1.given) in
    added c.sum-x.type_inv c.sum-x.ensures f c.ranges.dx in
    let down : let a = c.args in read c.sum-y.result ≡ a.w.y +ℤ a.dy = let g : SFits w32 c.args.w.y = search (rules, c.struct_told-2-1.given) in
    added c.sum-y.type_inv c.sum-y.ensures g c.ranges.dy in
    let e = sym c.starts.ensures ∙ c.if-not-starts.false in
    rw (e, sym (rw (across, down) at c.holds.ensures) ∙ c.if-not-holds.true)

pub returns : goal.returns
returns c =
    let across : let a = c.args in read c.sum-x.result ≡ a.w.x +ℤ a.dx = let f : SFits w32 c.args.w.x = search (rules, c.struct_told-1.given) in
    added c.sum-x.type_inv c.sum-x.ensures f c.ranges.dx in
    let down : let a = c.args in read c.sum-y.result ≡ a.w.y +ℤ a.dy = let g : SFits w32 c.args.w.y = search (rules, c.struct_told-2-1.given) in
    added c.sum-y.type_inv c.sum-y.ensures g c.ranges.dy in
    let e = sym c.starts.ensures ∙ c.if-not-starts.false in
    rw (across, down, e, sym (rw (across, down) at c.holds.ensures) ∙ c.if-not-holds.false)
