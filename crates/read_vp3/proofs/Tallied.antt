-- What a tally of all blocks says of the answers, and how far it can have grown. Assumes nothing.
use Prim.Native.Nat.{ℕ, zero, suc, ◌+◌, ◌-◌, ◌*◌, ◌≤◌, ◌<◌}
use mathlib.Core.Path.{◌≡◌, refl, sym, ap, ◌∙◌}
use mathlib.Core.List.{List, [], ◌∷◌, ◌++◌}
use native.Mathlib.Omega.{arith}
use native.Mathlib.Nat.{add-zero, zero-add, suc-add}
use borrow.Author.Tests.{eq-eqb, ne_eqb, eqb-false, ltb-true, ltb-false}
use lib.Dec.{eqb, ltb}
use lib.IntN.{ℤ, pos, ◌+ℤ◌}
use lib.ListN.{length, drop, length-append}
use Rattle.rules.specs.Vocabulary.{pick}
use Rattle.rules.specs.Answers.{places, runs, blocks, points_after, begun_after, point_total, block_total, cuts}
use Rattle.rules.specs.Files.{counts_of}
use Rattle.rules.specs.Limits.{block_cells_of}
use Rattle.rules.specs.Records.{Event, stitch, jump, change}
use Rattle.rules.specs.Vp3.{Blocks, ended, block, stitch_events, change_to, events_in}
use Rattle.rules.specs.declared.Counts.{Counts}
use Rattle.laws.specs.Tests.{by-test}
use Rattle.read_builder.specs.Builders.{some, added}
use Rattle.read_builder.proofs.Parts.{run_cells, block_cells, point-cells}
use Rattle.read_count.specs.Tallies.{no_tally, tallied, tallied_change}
use Rattle.read_count.specs.declared.tally.Tally.{Tally}
use Rattle.read_vp3_stitches.specs.Steps.{StepAt}
use Rattle.read_vp3_stitches.specs.Tallies.{tally_all, Spare}
use Rattle.read_vp3_stitches.specs.declared.steps.Step.{Step}
use Rattle.read_vp3_stitches.specs.declared.steps.Step.TheVariants.{Stitch, EndRun, Nothing, Finish}
use Rattle.read_vp3_stitches.proofs.Stepping.{end-at, somehow}
use Rattle.read_vp3.specs.Walks.{tally_blocks, Told}

-- ---- the answers of events, by what they make of a tally

after-stitch : (n : ℕ) → some (points_after n) ≡ 1
unfolding points_after
after-stitch zero = refl
after-stitch (suc n) = refl

-- a stitch opens a run, or goes on with one
adds-points : (n : ℕ) → added n ≡ 1 + (1 - some n)
adds-points zero = refl
adds-points (suc n) = refl

some-le : (n : ℕ) → some n ≤ 1
some-le zero = omega arith
some-le (suc n) = omega arith

adds-begun : (n m : ℕ) → begun_after n m ≡ m + (1 - some n)
unfolding begun_after
adds-begun zero m = omega arith
adds-begun (suc n) m = omega arith

pub points-by : (t : Tally) (x y : ℤ) (n : ℕ) (es : List Event) → t.running ≡ some n
    → length (places x y n es) + 2 * (t.stitches + t.runs) ≡ 2 * ((tally_all t es).stitches + (tally_all t es).runs)
unfolding places tally_all
points-by t x y n [] e = omega arith
points-by t x y n (stitch dx dy ∷ es) e =
    simp length-append (omega (arith, points-by (tallied 1 t) (x +ℤ dx) (y +ℤ dy) (points_after n) es (sym (after-stitch n)), point-cells n x y, adds-points n))
points-by t x y n (jump dx dy ∷ es) e = omega (arith, points-by (tallied 0 t) (x +ℤ dx) (y +ℤ dy) 0 es refl)
points-by t x y n (change dx dy ∷ es) e = omega (arith, points-by (tallied_change t) (x +ℤ dx) (y +ℤ dy) 0 es refl)

pub runs_by_lem : (t : Tally) (n : ℕ) (es : List Event) → t.running ≡ some n → length (runs n es) + t.runs ≡ (tally_all t es).runs + t.running
unfolding runs tally_all
runs_by_lem t n [] e = omega (arith, run_cells n)
runs_by_lem t n (stitch dx dy ∷ es) e = omega (arith, runs_by_lem (tallied 1 t) (points_after n) es (sym (after-stitch n)), some-le n)
runs_by_lem t n (jump dx dy ∷ es) e = simp length-append (omega (arith, run_cells n, runs_by_lem (tallied 0 t) 0 es refl))
runs_by_lem t n (change dx dy ∷ es) e = simp length-append (omega (arith, run_cells n, runs_by_lem (tallied_change t) 0 es refl))

-- a block of m runs is listed if there are more runs than before it
listed_by : (a b m : ℕ) → m + b ≡ a → some m ≡ pick (eqb a b) 0 1
listed_by a b zero e = sym (ap (λ t. pick t 0 1) (eq-eqb a b (omega arith)))
listed_by a b (suc m) e = sym (ap (λ t. pick t 0 1) (ne_eqb a b (λ p. omega arith)))

pub blocks-by : (c : ℕ → ℕ) (t : Tally) (k m n : ℕ) (es : List Event) → t.running ≡ some n → m + t.first ≡ t.runs
    → length (blocks c k m n es) + block_cells_of * t.blocks ≡ block_cells_of * (tallied_change (tally_all t es)).blocks
unfolding blocks tally_all
blocks-by c t k m n [] e f = omega (arith, block_cells c k m, listed_by t.runs t.first m f)
blocks-by c t k m n (stitch dx dy ∷ es) e f =
    blocks-by c (tallied 1 t) k (begun_after n m) (points_after n) es (sym (after-stitch n)) (omega (arith, adds-begun n m))
blocks-by c t k m n (jump dx dy ∷ es) e f = blocks-by c (tallied 0 t) k m 0 es refl (omega arith)
blocks-by c t k m n (change dx dy ∷ es) e f =
    simp length-append
    (omega (arith, block_cells c k m, listed_by t.runs t.first m f, blocks-by c (tallied_change t) (suc k) 0 0 es refl (omega arith)))

-- ---- blocks, one after the other

-- no run is open, and the block has none yet
pub record Settled (t : Tally) : Type 0 where
  pub shut : t.running ≡ 0
  pub fresh : t.first ≡ t.runs

pub settles : (t : Tally) → Settled (tallied_change t)
settles t = record { shut = refl; fresh = refl }

same-tally : (t : Tally) (a b c d e : ℕ) → a ≡ t.stitches → b ≡ t.runs → c ≡ t.running → d ≡ t.first → e ≡ t.blocks
    → record { stitches = a; runs = b; running = c; first = d; blocks = e } ≡ t
same-tally t a b c d e p q r u v = rw (p, q, r, u, v)

settled-stays : (t : Tally) → Settled t → tallied_change t ≡ t
settled-stays t s = same-tally t _ _ _ _ _ refl refl (sym s.shut) (sym s.fresh) (rw (eq-eqb t.runs t.first (sym s.fresh)) (add-zero t.blocks))

pub all_append : (t : Tally) (es fs : List Event) → tally_all t (es ++ fs) ≡ tally_all (tally_all t es) fs
unfolding tally_all
all_append t [] fs = refl
all_append t (stitch dx dy ∷ es) fs = all_append (tallied 1 t) es fs
all_append t (jump dx dy ∷ es) fs = all_append (tallied 0 t) es fs
all_append t (change dx dy ∷ es) fs = all_append (tallied_change t) es fs

pub tally-events : (t : Tally) (bs : Blocks) → Settled t → tallied_change (tally_all t (events_in bs)) ≡ tally_blocks t bs
unfolding tally_blocks events_in tally_all change_to
tally-events t (ended v) s = settled-stays t s
tally-events t (block x y c bytes (ended v)) s = ap tallied_change (all_append t (stitch_events bytes) [])
tally-events t (block x y c bytes (block x' y' c' bytes' bs)) s =
    let es = stitch_events bytes in
    ap tallied_change (all_append t es _) ∙ tally-events (tallied_change (tally_all t es)) (block x' y' c' bytes' bs) (settles (tally_all t es))

-- ---- the counts

module _ (bs : Blocks) where
  abbrev last : Tally
  last = tally_blocks no_tally bs

  whole : tallied_change (tally_all no_tally (events_in bs)) ≡ last
  whole = tally-events no_tally bs (record { shut = refl; fresh = refl })

  pub told : (c : Counts) → c.points ≡ last.stitches + last.runs → c.runs ≡ last.runs → c.blocks ≡ last.blocks
      → c.cuts + last.blocks ≡ last.runs → Told (events_in bs) c
  told c p r b k =
      let es = events_in bs in
      record {
        points = omega (arith, points-by no_tally (pos 0) (pos 0) 0 es refl, ap (λ (t : Tally). t.stitches) whole, ap (λ (t : Tally). t.runs) whole);
        runs = omega (arith, runs_by_lem no_tally 0 es refl, ap (λ (t : Tally). t.runs) whole);
        blocks = λ colour. omega (arith, blocks-by colour no_tally 0 0 0 es refl refl, ap (λ (t : Tally). t.blocks) whole);
        cuts = omega arith;
      }

-- ---- how far a tally can have grown

-- no more blocks are listed than had runs before
abbrev pub Fewer : Tally → Type 0
Fewer t = t.blocks ≤ t.first

module _ (t : Tally) where
  spare-tallied : (n : ℕ) → Spare t (suc n) → (s : ℕ) → s ≤ 1 → Spare (tallied s t) n
  spare-tallied n h zero l = omega (arith, h)
  spare-tallied n h (suc zero) l = omega (arith, h)
  spare-tallied n h (suc (suc s)) l = absurd (omega arith)

  pub spare-change : (n : ℕ) → Spare t (suc n) → Spare (tallied_change t) n
  spare-change n h = by-test (eqb t.runs t.first) (λ e. rw e (omega (arith, h))) (λ e. rw e (omega (arith, h)))

  pub fewer-change : t.first ≤ t.runs → Fewer t → Fewer (tallied_change t)
  fewer-change l f = by-test (eqb t.runs t.first)
      (λ e. rw e (omega arith))
      (λ e. let n = eqb-false t.runs t.first e in rw e (omega (arith, lt_of_ne n)))
    where
      lt_of_ne : (t.runs ≡ t.first → ⊥) → t.first < t.runs
      lt_of_ne n = by-test (ltb t.first t.runs) (λ e. ltb-true _ _ e) (λ e. absurd (n (omega (arith, ltb-false t.first t.runs e))))

pub spare-all : (t : Tally) (es : List Event) (m : ℕ) → Spare t (length es + m) → Spare (tally_all t es) m
unfolding tally_all
spare-all t [] m h = rw zero-add at h
spare-all t (stitch dx dy ∷ es) m h = spare-all (tallied 1 t) es m (spare-tallied t (length es + m) (rw suc-add at h) 1 (omega arith))
spare-all t (jump dx dy ∷ es) m h = spare-all (tallied 0 t) es m (spare-tallied t (length es + m) (rw suc-add at h) 0 (omega arith))
spare-all t (change dx dy ∷ es) m h = spare-all (tallied_change t) es m (spare-change t (length es + m) (rw suc-add at h))

pub fewer-all : (t : Tally) (es : List Event) → t.first ≤ t.runs → Fewer t → ((tally_all t es).first ≤ (tally_all t es).runs) × Fewer (tally_all t es)
unfolding tally_all
fewer-all t [] l f = (l, f)
fewer-all t (stitch dx dy ∷ es) l f = fewer-all (tallied 1 t) es (omega arith) f
fewer-all t (jump dx dy ∷ es) l f = fewer-all (tallied 0 t) es (omega arith) f
fewer-all t (change dx dy ∷ es) l f = fewer-all (tallied_change t) es (omega arith) (fewer-change t l f)

-- a step takes two bytes at least, and is one event at most
few-step : (s : List ℕ) (n at : ℕ) → ((i : ℕ) → i ≤ length s → length s ≤ n + i → 2 * length (stitch_events (drop i s)) ≤ length s - i)
    → length s ≤ suc n + at → (r : Step) → StepAt s at r → 2 * length (stitch_events (drop at s)) ≤ length s - at
few-step s n at h l (Stitch dx dy m) w = rw w.tells (omega (arith, w.inside, w.moves.0, h (at + m) w.inside (omega (arith, w.moves.0))))
few-step s n at h l EndRun w = rw w.tells (omega (arith, w.inside, h (at + 2) w.inside (omega arith)))
few-step s n at h l Nothing w = rw w.tells (omega (arith, w.inside, h (at + 2) w.inside (omega arith)))
few-step s n at h l Finish w = rw w.tells (omega arith)

few-from : (s : List ℕ) (n at : ℕ) → at ≤ length s → length s ≤ n + at → 2 * length (stitch_events (drop at s)) ≤ length s - at
few-from s zero at h l = rw (end-at s at (omega arith)) (omega arith)
few-from s (suc n) at h l = let k = somehow s at in few-step s n at (few-from s n) l k.step k.there

pub few-events : (s : List ℕ) → 2 * length (stitch_events s) ≤ length s
few-events s = omega (arith, few-from s (length s) 0 (omega arith) (omega arith))

-- ---- from block to block: k is what is left of the bytes behind the block

module _ (t : Tally) (bytes : List ℕ) (m k : ℕ) (h : Spare t m) (l : suc (length bytes + k) ≤ m) where
  abbrev after : Tally
  after = tally_all t (stitch_events bytes)

  pub spare-after : Spare after (suc k)
  spare-after = spare-all t (stitch_events bytes) (suc k) (less (omega (arith, few-events bytes)))
    where
      less : length (stitch_events bytes) + suc k ≤ m → Spare t (length (stitch_events bytes) + suc k)
      less i = omega (arith, h)

  pub spare-next : Spare (tallied_change after) k
  spare-next = spare-change after k spare-after

  pub fewer-next : Fewer t → Fewer (tallied_change after)
  fewer-next f = let g = fewer-all t (stitch_events bytes) h.first f in fewer-change after g.0 g.1

-- ---- the counts of the answers, by the answers themselves

pub same-counts : (k : Counts) (p r b c : ℕ) → k.points ≡ p → k.runs ≡ r → k.blocks ≡ b → k.cuts ≡ c → k ≡ record { points = p; runs = r; blocks = b; cuts = c }
same-counts k p r b c ep er eb ec = rw (← ep, ← er, ← eb, ← ec)

module _ (es : List Event) (colour : ℕ → ℕ) where
  abbrev answers : Counts
  answers = counts_of (places (pos 0) (pos 0) 0 es) (runs 0 es) (blocks colour 0 0 0 es) (cuts (runs 0 es) (blocks colour 0 0 0 es))

  pub counts-are : {k : Counts} → Told es k → k ≡ answers
  unfolding counts_of point_total block_total cuts
  counts-are {k} t = same-counts k _ _ _ _ (omega (arith, t.points)) (omega (arith, t.runs)) (omega (arith, t.blocks colour)) (omega (arith, t, t.blocks colour))

  pub told-answers : Told es answers
  unfolding counts_of point_total block_total cuts
  told-answers =
      let p = points-by no_tally (pos 0) (pos 0) 0 es refl in
      let r = runs_by_lem no_tally 0 es refl in
      let b = blocks-by colour no_tally 0 0 0 es refl refl in
      let f = fewer-all no_tally es (omega arith) (omega arith) in
      let g = fewer-change (tally_all no_tally es) f.0 f.1 in
      record {
        points = omega (arith, p);
        runs = refl;
        blocks = λ other. omega (arith, b, blocks-by other no_tally 0 0 0 es refl refl);
        cuts = omega (arith, b, r, g);
      }
