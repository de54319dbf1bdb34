-- One record: the answers to come are what it adds and what comes after it; counts and places stay small. Assumes nothing.
use Prim.Native.Nat.{ℕ, suc, ◌+◌, ◌*◌, ◌^◌, ◌≤◌, ◌<◌}
use mathlib.Core.Path.{◌≡◌, refl, sym, ◌∙◌}
use mathlib.Core.List.{List, [], ◌∷◌, ◌++◌, append_assoc}
use native.Mathlib.Numerals.{add-one}
use native.Mathlib.Omega.{arith}
use lib.IntN.{ℤ, nat_abs, ◌+ℤ◌}
use lib.ListN.{length, length-append}
use lib.Seq.{sets}
use lib.Signed.{mag}
use mir.Facts.{to_z-of_z}
use mir.Syntax.{w32}
use mir.Val.{SFits, hbits, to_z, of_z}
use Rattle.laws.specs.Ints.{ret}
use Rattle.rules.specs.Answers.{places, runs, blocks, start_of, points_after, begun_after}
use Rattle.rules.specs.Limits.{block_cells_of}
use Rattle.laws.specs.Buffers.{sets-append}
use Rattle.rules.specs.Records.{Event, stitch, jump, change, record_then}
use Rattle.rules.specs.declared.Record.{Record}
use Rattle.rules.specs.declared.Record.TheVariants.{StitchBy, JumpBy, ChangeBy, Finish}
use Rattle.read_records.proofs.Formats.{Fair}
use Rattle.read_records.specs.Fields.{len_of}
use Rattle.read_builder.proofs.Parts.{run_cells, point-cells, block_cells, sizes}
use Rattle.read_builder.specs.Builders.{followed, place_after, places_by, runs_by, blocks_by, Reach}
use Rattle.read_builder.specs.declared.Builder.{Builder}
use Rattle.read_passes.specs.Walks.{places_left, runs_left, blocks_left, moved, Bounded}

-- the events behind a record, where `go n` are those from n bytes on
abbrev pub events_after : Record → (ℕ → List Event) → List Event
events_after (StitchBy dx dy n) go = go n
events_after (JumpBy dx dy n) go = go n
events_after (ChangeBy dx dy n) go = go n
events_after Finish go = []

pub places-next : (b : Builder) (r : Record) (go : ℕ → List Event) → places_left b (record_then r go) ≡ places_by b r ++ places_left (moved b r) (events_after r go)
unfolding places record_then
places-next b (StitchBy dx dy n) go = rw append_assoc
places-next b (JumpBy dx dy n) go = refl
places-next b (ChangeBy dx dy n) go = refl
places-next b Finish go = refl

module _ (b : Builder) where
  -- runs and blocks do not ask for the place
  pub runs-next : (r : Record) (x y : ℤ) (go : ℕ → List Event) → runs_left b (record_then r go) ≡ runs_by b r ++ runs_left (followed b r x y) (events_after r go)
  unfolding runs record_then
  runs-next (StitchBy dx dy n) x y go = refl
  runs-next (JumpBy dx dy n) x y go = refl
  runs-next (ChangeBy dx dy n) x y go = refl
  runs-next Finish x y go = refl

  pub blocks-next : (c : ℕ → ℕ) (r : Record) (x y : ℤ) (go : ℕ → List Event)
      → blocks_left c b (record_then r go) ≡ blocks_by c b r ++ blocks_left c (followed b r x y) (events_after r go)
  unfolding blocks record_then
  blocks-next c (StitchBy dx dy n) x y go = refl
  blocks-next c (JumpBy dx dy n) x y go = refl
  blocks-next c (ChangeBy dx dy n) x y go = rw add-one
  blocks-next c Finish x y go = refl

  -- ---- the cells of what a record adds are what the builder counts

  pub points-by : (r : Record) (x y : ℤ) → 2 * (followed b r x y).points ≡ 2 * b.points + length (places_by b r)
  points-by (StitchBy dx dy n) x y = simp length-append (omega (arith, point-cells b.run b.x b.y))
  points-by (JumpBy dx dy n) x y = omega arith
  points-by (ChangeBy dx dy n) x y = omega arith
  points-by Finish x y = omega arith

  pub runs_by_lem : (r : Record) (x y : ℤ) → (followed b r x y).runs ≡ b.runs + length (runs_by b r)
  runs_by_lem (StitchBy dx dy n) x y = omega arith
  runs_by_lem (JumpBy dx dy n) x y = rw (run_cells b.run)
  runs_by_lem (ChangeBy dx dy n) x y = rw (run_cells b.run)
  runs_by_lem Finish x y = omega arith

  pub blocks-by : (c : ℕ → ℕ) (r : Record) (x y : ℤ) → block_cells_of * (followed b r x y).blocks ≡ block_cells_of * b.blocks + length (blocks_by c b r)
  blocks-by c (StitchBy dx dy n) x y = omega arith
  blocks-by c (JumpBy dx dy n) x y = omega arith
  blocks-by c (ChangeBy dx dy n) x y = omega (arith, block_cells c b.block b.begun)
  blocks-by c Finish x y = omega arith

-- ---- how many places come does not hang on where they are, nor how many cells of blocks on the colours

start-cells : (n : ℕ) (x y x' y' : ℤ) → length (start_of n x y) ≡ length (start_of n x' y')
start-cells n x y x' y' = omega (arith, point-cells n x y, point-cells n x' y')

places-anywhere : (x y x' y' : ℤ) (n : ℕ) (es : List Event) → length (places x y n es) ≡ length (places x' y' n es)
unfolding places
places-anywhere x y x' y' n [] = refl
places-anywhere x y x' y' n (stitch dx dy ∷ es) =
    simp length-append (omega (arith, start-cells n x y x' y', places-anywhere (x +ℤ dx) (y +ℤ dy) (x' +ℤ dx) (y' +ℤ dy) (points_after n) es))
places-anywhere x y x' y' n (jump dx dy ∷ es) = places-anywhere (x +ℤ dx) (y +ℤ dy) (x' +ℤ dx) (y' +ℤ dy) 0 es
places-anywhere x y x' y' n (change dx dy ∷ es) = places-anywhere (x +ℤ dx) (y +ℤ dy) (x' +ℤ dx) (y' +ℤ dy) 0 es

pub left-anywhere : (b : Builder) (r : Record) (x y x' y' : ℤ) (es : List Event) → length (places_left (followed b r x y) es) ≡ length (places_left (followed b r x' y') es)
left-anywhere b (StitchBy dx dy n) x y x' y' es = places-anywhere x y x' y' (points_after b.run) es
left-anywhere b (JumpBy dx dy n) x y x' y' es = places-anywhere x y x' y' 0 es
left-anywhere b (ChangeBy dx dy n) x y x' y' es = places-anywhere x y x' y' 0 es
left-anywhere b Finish x y x' y' es = refl

pub any-colours : (c c' : ℕ → ℕ) (k m n : ℕ) (es : List Event) → length (blocks c k m n es) ≡ length (blocks c' k m n es)
unfolding blocks
any-colours c c' k m n [] = block_cells c k m ∙ sym (block_cells c' k m)
any-colours c c' k m n (stitch dx dy ∷ es) = any-colours c c' k (begun_after n m) (points_after n) es
any-colours c c' k m n (jump dx dy ∷ es) = any-colours c c' k m 0 es
any-colours c c' k m n (change dx dy ∷ es) =
    simp length-append (omega (arith, block_cells c k m, block_cells c' k m, any-colours c c' (suc k) 0 0 es))

pub bounded-next : (b : Builder) (at N : ℕ) (r : Record) (x y : ℤ) → Bounded b at → Fair r → at + len_of r ≤ N
    → nat_abs x ≤ 1000 * (at + len_of r) → nat_abs y ≤ 1000 * (at + len_of r) → Bounded (followed b r x y) (place_after r at N)
bounded-next b at N (StitchBy dx dy n) x y w f h hx hy = omega (arith, w, sizes b.run b.begun)
bounded-next b at N (JumpBy dx dy n) x y w f h hx hy = omega (arith, w, sizes b.run b.begun)
bounded-next b at N (ChangeBy dx dy n) x y w f h hx hy = omega (arith, w, sizes b.run b.begun, sizes b.begun 0)
bounded-next b at N Finish x y w f h hx hy = omega (arith, w)

-- ---- the place that a stitch leaves and the one it reaches, put one after the other

pub two-points : (P : List ℤ) (n : ℕ) (x y u v : ℤ) → sets (sets P (2 * n) (x ∷ y ∷ [])) (2 * (n + 1)) (u ∷ v ∷ []) ≡ sets P (2 * n) (start_of 0 x y ++ u ∷ v ∷ [])
unfolding start_of
two-points P n x y u v =
    let e : 2 * (n + 1) ≡ 2 * n + 2 = omega arith in
    rw e (sym (sets-append P (2 * n) (x ∷ y ∷ []) (u ∷ v ∷ [])))

-- ---- an i32 as a callee reads it

abbrev pub read : ℤ → ℤ
read z = to_z w32 (of_z w32 z)

pub reads : {z v : ℤ} → mag z < 2 ^ hbits w32 → z ≡ v → read z ≡ v
reads {z} h e = ret w32 z h ∙ e

-- a sum of two such
pub summed : (u : ℤ) {z d : ℤ} → mag z < 2 ^ hbits w32 → z ≡ read u +ℤ read d → mag u < 2 ^ 31 → SFits w32 d → read z ≡ u +ℤ d
summed u h e k f = reads h (rw (ret w32 u k, to_z-of_z f) at e)

-- a step that stays in reach
pub step-reads : {b : Builder} {dx dy : ℤ} → Reach b dx dy → (read dx ≡ dx) × (read dy ≡ dy)
step-reads {dx = dx} {dy = dy} h = (ret w32 dx h.x_step, ret w32 dy h.y_step)
