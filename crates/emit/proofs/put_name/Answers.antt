-- A byte that stays is the next to come, any other changes nothing, and blanks are the rest.
use Prim.Native.Nat.{ℕ, ◌+◌, ◌-◌, ◌≤◌, ◌<◌}
use mathlib.Core.Path.{◌≡◌, refl, sym, ap, ◌∙◌}
use mathlib.Core.Bool.{Bool}
use mathlib.Core.List.{List, [], ◌∷◌, ◌++◌, append-nil}
use native.Mathlib.Omega.{arith}
use lib.ListN.{length, get_or, take, replicate, length-replicate}
use Rattle.rules.specs.Vocabulary.{keep, padded}
use Rattle.laws.specs.Buffers.{Put, Writing, writing_start, writing-room, writing_more, writing-done}
use Rattle.laws.specs.Names.{coming, length-coming, name-start, name-more, name-skip, name-end}
use Rattle.emit.proofs.put_name.Invariants.{within}
use Rattle.emit.proofs.put_name.Goals as goal

positive : (n : ℕ) → ((n ≡ 0) → ⊥) → 0 < n
positive n h = omega (arith, h)

-- a whole name
module _ (p : ℕ → Bool) (most : ℕ) (name : List ℕ) (h : most ≤ 16) where
  start : padded 16 (take most (keep p name)) ≡ coming p (16 - most) most name
  start = name-start p (16 - most) most 16 name (omega arith)

  sixteen : length (padded 16 (take most (keep p name))) ≡ 16
  sixteen = ap length start ∙ length-coming p (16 - most) most name ∙ omega arith

-- blanks are all that is to come
module _ {d₀ whole d coming : List ℕ} {base n : ℕ} (k : ℕ) (w : Writing d₀ base whole d n coming) (e : coming ≡ replicate k 0x20) where
  all : coming ≡ replicate k 0x20 ++ []
  all = e ∙ sym (append-nil (replicate k 0x20))

  room : n + k ≤ length d
  room = omega (arith, writing-room (replicate k 0x20) [] w all, length-replicate {A = ℕ} k 0x20)

  last : {d' : List ℕ} {m : ℕ} → Put d d' n m (replicate k 0x20) → Put d₀ d' base m whole
  last p = writing-done {coming = []} (writing_more w all p) refl

pub loop-b-init : goal.loop-b-init
loop-b-init c =
    let a = c.args in
    let p = within a.low a.high in
    rw (← start p a.most a.name.now c.requires.0)
    (writing_start a.out.now a.at (padded 16 (take a.most (keep p a.name.now)))
    (omega (arith, c.requires, sixteen p a.most a.name.now c.requires.0)))

pub loop-b-preserved-then-not-stays : goal.loop-b-preserved-then-not-stays
loop-b-preserved-then-not-stays c = let loop-test = c.loop-b-test in let l = c.loop-b in
    let a = c.args in
    rw (← name-skip (within a.low a.high) (16 - a.most) l.left l.b-index a.name.now loop-test.true
    (sym c.stays.ensures ∙ c.if-not-stays.true)) l.invariant

pub loop-b-preserved : goal.loop-b-preserved
loop-b-preserved c = let if2 = c.if-not-stays in let stays' = c.stays in
    let if1 = c.if-left-eq0 in
    let loop-test = c.loop-b-test in
    let l = c.loop-b in
    let a = c.args in
    let s = a.name.now in
    writing_more {vs = get_or s l.b-index 0 ∷ []} l.invariant
    (name-more (within a.low a.high) (16 - a.most) l.left l.b-index s (positive l.left if1.false) loop-test.true
    (sym stays'.ensures ∙ if2.false))
    c.put-to.ensures

pub returns : goal.returns
returns c = let loop-test = c.loop-b-test in let l = c.loop-b in
    let a = c.args in
    last (16 - a.most + l.left) l.invariant (name-end (within a.low a.high) (16 - a.most) l.left l.b-index a.name.now loop-test.false) c.put_times-2.ensures
