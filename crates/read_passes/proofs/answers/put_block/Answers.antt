-- Three stores where the block has runs.
use native.Mathlib.Omega.{arith}
use native.Mathlib.Numerals.{add-one, add-two}
use mathlib.Core.Path.{◌≡◌, ap}
use lib.ListN.{length, length-set}
use Rattle.rules.specs.Answers.{block_of}
use Rattle.read_builder.proofs.Parts.{listed}
use borrow.Author.Rules.{rules}
use Rattle.read_passes.proofs.answers.put_block.Goals as goal

pub returns-then-b-eq0 : goal.returns-then-b-eq0
unfolding block_of
returns-then-b-eq0 c = search rules

pub bounds-blocks-at : goal.bounds-blocks-at
bounds-blocks-at c =
    let a = c.args in
    let three : length (block_of (λ k. a.color) a.b.block a.b.begun) ≡ 3 = ap length (listed _ _ _ c.if-b-eq0.false) in
    omega (arith, three)

pub bounds-blocks-at-2 : goal.bounds-blocks-at-2
bounds-blocks-at-2 c =
    let a = c.args in
    let three : length (block_of (λ k. a.color) a.b.block a.b.begun) ≡ 3 = ap length (listed _ _ _ c.if-b-eq0.false) in
    simp length-set (omega (arith, three))

pub bounds-blocks-at-3 : goal.bounds-blocks-at-3
bounds-blocks-at-3 c =
    let a = c.args in
    let three : length (block_of (λ k. a.color) a.b.block a.b.begun) ≡ 3 = ap length (listed _ _ _ c.if-b-eq0.false) in
    simp length-set (omega (arith, three))

pub returns : goal.returns
returns c = let a = c.args in
    rw (listed (λ k. a.color) a.b.block a.b.begun c.if-b-eq0.false, add-one, add-two)
