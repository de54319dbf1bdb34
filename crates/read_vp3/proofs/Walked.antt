-- The first pass: a block's stitches, a block, and one block after the other. Assumes nothing.
use Rattle.std.specs.Prelude.{Some, None, Ok, Err, Result}
use Rattle.std.specs.Option.{ok_or}
use Prim.Native.Nat.{ℕ, suc, ◌+◌, ◌-◌, ◌≤◌, ◌<◌}
use mathlib.Core.Path.{◌≡◌, refl, ap, ◌∙◌}
use mathlib.Core.Bool.{Bool, true, false}
use mathlib.Core.List.{List}
use native.Mathlib.Omega.{arith}
use lib.Dec.{ltb}
use lib.IntN.{ℤ}
use lib.ListN.{length, length-take, length-drop}
use Rattle.rules.specs.Vocabulary.{pick}
use Rattle.rules.specs.Vp3.{Blocks, blocks_from, stitch_events, strays, fault_in}
use Rattle.rules.specs.declared.Counts.{Counts}
use Rattle.rules.specs.declared.Refusal.{Refusal}
use Rattle.rules.specs.declared.Refusal.TheVariants.{OutOfRange}
use Rattle.laws.specs.Tests.{by-test}
use Rattle.read_count.specs.Tallies.{no_tally, tallied_change, SmallTally}
use Rattle.read_count.specs.declared.tally.Tally.{Tally}
use Rattle.read_vp3_fields.specs.Fields.{within, BlockRead}
use Rattle.read_vp3_fields.specs.declared.Block.{Block}
use Rattle.read_vp3_stitches.specs.Tallies.{tally_all}
use Rattle.read_vp3_stitches.specs.Ways.{followed}
use Rattle.read_vp3_stitches.proofs.Counting.{spare-small}
use Rattle.read_vp3.specs.Walks.{blocks_at, tally_blocks, Stands, Passes, Walks, Lies, walk_of, Checks}
use Rattle.read_vp3_stitches.specs.declared.follow.Way.{Way}
use Rattle.read_vp3.proofs.Tallied.{told, spare-after, spare-next, fewer-next}

-- ---- what the stitches of a block came to

refused-by : (b : Bool) (t : Tally) {r : Refusal} → ok_or (pick b None (Some t)) OutOfRange ≡ Err r → (b ≡ true) × (r ≡ OutOfRange)
refused-by true t e = (refl, cc)
refused-by false t e = cc

kept-by : (b : Bool) (t : Tally) {u : Tally} → ok_or (pick b None (Some t)) OutOfRange ≡ Ok u → (b ≡ false) × (u ≡ t)
kept-by true t e = cc
kept-by false t e = (refl, cc)

module _ (s : List ℕ) (k : Block) (w : Way) where
  abbrev bytes : List ℕ
  bytes = within s k.at k.end

  -- the walker's tally behind them
  abbrev after : Tally
  after = tally_all w.t (stitch_events bytes)

  abbrev stray : Bool
  stray = strays w.x w.y (stitch_events bytes)

  abbrev comes : Result Tally Refusal
  comes = ok_or (followed w.t w.x w.y (stitch_events bytes)) OutOfRange

  pub walk-not : {r : Refusal} → comes ≡ Err r → Err r ≡ walk_of s k w
  walk-not e = let k = refused-by stray after e in rw (k.0, k.1)

  pub walk-on : {t t' : Tally} {x y : ℤ} → comes ≡ Ok t → t' ≡ tallied_change t → x ≡ k.x → y ≡ k.y
      → Ok (record { t = t'; x = x; y = y; at = k.next }) ≡ walk_of s k w
  walk-on e et ex ey = let k = kept-by stray after e in rw (k.0, et, k.1, ex, ey)

  -- what is left of the file behind the block
  less : Stands s (length s) w → Lies (length s) k w → suc (length bytes + (length s - k.next)) ≤ length s - w.at
  unfolding within
  less h l = simp (length-take, length-drop) (omega (arith, l))

  pub small-after : Stands s (length s) w → Lies (length s) k w → {t : Tally} → comes ≡ Ok t → SmallTally t
  small-after h l e = rw (kept-by stray after e).1 (spare-small (spare-after w.t bytes (length s - w.at) (length s - k.next) h.spare (less h l)))

-- ---- a block

module _ {s : List ℕ} {end : ℕ} {w : Way} (h : Stands s end w) where
  to-all : Stands s (length s) w
  to-all = record { inside = omega (arith, h.inside, h.within); within = omega arith; short = h.short; spare = h.spare; fewer = h.fewer }

  module _ (n : ℕ) {k : Block} (b : BlockRead s w.at end w.x w.y (ltb 0 n) (Ok k)) where
    lies-by : Lies (length s) k w
    lies-by = record { later = b.lies.0; ends = b.lies.1.0; next = b.lies.1.1.0; inside = omega (arith, b.lies, h.within) }

    abbrev next : Way
    next = record { t = tallied_change (after s k w); x = k.x; y = k.y; at = k.next }

    stands-next : Stands s end next
    stands-next =
        let m = length s - w.at in
        let r = length s - k.next in
        record {
          inside = b.lies.1.1.1;
          within = h.within;
          short = h.short;
          spare = spare-next w.t (bytes s k w) m r h.spare (less s k w to-all lies-by);
          fewer = fewer-next w.t (bytes s k w) m r h.spare (less s k w to-all lies-by) h.fewer;
        }

    pub walks-of : Walks s end n w (walk_of s k w)
    unfolding fault_in tally_blocks
    walks-of = by-test (stray s k w)
        (λ t. rw t (ap fault_in (b.tells n refl) ∙ rw t))
        (λ f. rw f (record {
          fault = ap fault_in (b.tells n refl) ∙ rw f;
          tally = ap (tally_blocks w.t) (b.tells n refl);
          later = omega (arith, b.lies);
          stands = stands-next;
        }))

pub walks-not : {s : List ℕ} {end : ℕ} (w : Way) (n : ℕ) {r : Refusal} → BlockRead s w.at end w.x w.y (ltb 0 n) (Err r)
    → Walks s end n w (Err r)
unfolding fault_in
walks-not w n b = ap fault_in (b.tells n refl)

-- ---- one after the other: n are to come

pub record Going (s : List ℕ) (end : ℕ) (bs : Blocks) (n : ℕ) (w : Way) : Type 0 where
  pub fault : fault_in bs ≡ fault_in (blocks_at s end n w)
  pub tally : tally_blocks no_tally bs ≡ tally_blocks w.t (blocks_at s end n w)
  pub stands : Stands s end w

module _ {s : List ℕ} {end : ℕ} {bs : Blocks} {n : ℕ} {w : Way} (g : Going s end bs n w) where
  -- n blocks are one and those behind it
  back : 0 < n → blocks_at s end n w ≡ blocks_at s end (suc (n - 1)) w
  back l = ap (λ m. blocks_at s end m w) (omega arith)

  pub going_on : {v : Way} → 0 < n → Passes s end (n - 1) w v → Going s end bs (n - 1) v
  going_on l p = record {
    fault = g.fault ∙ ap fault_in (back l) ∙ p.fault;
    tally = g.tally ∙ ap (tally_blocks w.t) (back l) ∙ p.tally;
    stands = p.stands;
  }

  pub going-not : {r : Refusal} → 0 < n → Walks s end (n - 1) w (Err r) → Checks bs (Err r)
  going-not l p = g.fault ∙ ap fault_in (back l) ∙ p

  none_left : n ≤ 0 → blocks_at s end n w ≡ blocks_at s end 0 w
  none_left l = ap (λ m. blocks_at s end m w) (omega arith)

  pub going_done : {c : Counts} → n ≤ 0 → c.points ≡ w.t.stitches + w.t.runs → c.runs ≡ w.t.runs → c.blocks ≡ w.t.blocks
      → c.cuts + w.t.blocks ≡ w.t.runs → Checks bs (Ok c)
  unfolding fault_in tally_blocks blocks_from
  going_done {c} l p r b k =
      let e : tally_blocks no_tally bs ≡ w.t = g.tally ∙ ap (tally_blocks w.t) (none_left l) in
      (g.fault ∙ ap fault_in (none_left l), told bs c (rw e p) (rw e r) (rw e b) (rw e k))
