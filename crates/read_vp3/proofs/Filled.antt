-- What the stitches of a block and its end add to the answers. Assumes nothing.
use Prim.Native.Nat.{ℕ, zero, suc, ◌+◌, ◌*◌, ◌≤◌}
use mathlib.Core.Path.{◌≡◌, refl, sym, ap, ap₂, ◌∙◌}
use mathlib.Core.List.{List, [], ◌∷◌, ◌++◌, append_assoc, append-nil}
use native.Mathlib.Omega.{arith}
use native.Mathlib.Nat.{zero-add}
use lib.IntN.{ℤ, ◌+ℤ◌, ◌-ℤ◌}
use lib.ListN.{length, drop, length-append}
use Rattle.rules.specs.Answers.{places, runs, blocks, start_of, run_of, block_of}
use Rattle.rules.specs.Records.{Event, stitch, jump, change}
use Rattle.rules.specs.Vp3.{Blocks, ended, block, stitch_events, reach_x, reach_y, change_to, events_in}
use Rattle.rules.specs.declared.Color.{Color}
use Rattle.laws.specs.Ints.{parts, add-law, sub-law}
use Rattle.read_builder.specs.Builders.{stitched, jumped, changed}
use Rattle.read_builder.specs.declared.Builder.{Builder}
use Rattle.read_builder.proofs.Parts.{run_cells, point-cells, sizes}
use Rattle.read_vp3_stitches.specs.Fills.{built, runs_ended, places_on, Spare}
use Rattle.read_vp3_stitches.specs.Steps.{StepAt}
use Rattle.read_vp3_stitches.specs.declared.steps.Step.{Step}
use Rattle.read_vp3_stitches.specs.declared.steps.Step.TheVariants.{Stitch, EndRun, Nothing, Finish}
use Rattle.read_vp3_stitches.proofs.Stepping.{end-at, somehow}

-- ---- events without a colour change

abbrev pub Plain : List Event → Type 0
Plain [] = Unit {0}
Plain (stitch dx dy ∷ es) = Plain es
Plain (jump dx dy ∷ es) = Plain es
Plain (change dx dy ∷ es) = ⊥

plain_step_lem : (s : List ℕ) (n at : ℕ) → ((i : ℕ) → i ≤ length s → length s ≤ n + i → Plain (stitch_events (drop i s)))
    → length s ≤ suc n + at → (r : Step) → StepAt s at r → Plain (stitch_events (drop at s))
plain_step_lem s n at h l (Stitch dx dy m) w = rw w.tells (h (at + m) w.inside (omega (arith, w.moves.0)))
plain_step_lem s n at h l EndRun w = rw w.tells (h (at + 2) w.inside (omega arith))
plain_step_lem s n at h l Nothing w = rw w.tells (h (at + 2) w.inside (omega arith))
plain_step_lem s n at h l Finish w = rw w.tells tt

plain-from : (s : List ℕ) (n at : ℕ) → at ≤ length s → length s ≤ n + at → Plain (stitch_events (drop at s))
plain-from s zero at h l = rw (end-at s at (omega arith)) tt
plain-from s (suc n) at h l = let k = somehow s at in plain_step_lem s n at (plain-from s n) l k.step k.there

pub plain : (s : List ℕ) → Plain (stitch_events s)
plain s = plain-from s (length s) 0 (omega arith) (omega arith)

-- ---- what comes behind them

pub places-append : (b : Builder) (es fs : List Event) → places_on b (es ++ fs) ≡ places_on b es ++ places_on (built b es) fs
unfolding places built
places-append b [] fs = refl
places-append b (stitch dx dy ∷ es) fs =
    let q = stitched b (b.x +ℤ dx) (b.y +ℤ dy) in
    rw (places-append q es fs) (sym (append_assoc (start_of b.run b.x b.y) (q.x ∷ q.y ∷ places_on q es) (places_on (built q es) fs)))
places-append b (jump dx dy ∷ es) fs = places-append (jumped b (b.x +ℤ dx) (b.y +ℤ dy)) es fs
places-append b (change dx dy ∷ es) fs = places-append (changed b (b.x +ℤ dx) (b.y +ℤ dy)) es fs

pub runs_append : (b : Builder) (es fs : List Event) → runs b.run (es ++ fs) ≡ runs_ended b.run es ++ runs (built b es).run fs
unfolding runs runs_ended built
runs_append b [] fs = refl
runs_append b (stitch dx dy ∷ es) fs = runs_append (stitched b (b.x +ℤ dx) (b.y +ℤ dy)) es fs
runs_append b (jump dx dy ∷ es) fs =
    let q = jumped b (b.x +ℤ dx) (b.y +ℤ dy) in
    rw (runs_append q es fs) (sym (append_assoc (run_of b.run) (runs_ended 0 es) (runs (built q es).run fs)))
runs_append b (change dx dy ∷ es) fs =
    let q = changed b (b.x +ℤ dx) (b.y +ℤ dy) in
    rw (runs_append q es fs) (sym (append_assoc (run_of b.run) (runs_ended 0 es) (runs (built q es).run fs)))

pub blocks-append : (c : ℕ → ℕ) (b : Builder) (es fs : List Event) → Plain es
    → blocks c b.block b.begun b.run (es ++ fs) ≡ blocks c (built b es).block (built b es).begun (built b es).run fs
unfolding blocks built
blocks-append c b [] fs p = refl
blocks-append c b (stitch dx dy ∷ es) fs p = blocks-append c (stitched b (b.x +ℤ dx) (b.y +ℤ dy)) es fs p
blocks-append c b (jump dx dy ∷ es) fs p = blocks-append c (jumped b (b.x +ℤ dx) (b.y +ℤ dy)) es fs p
blocks-append c b (change dx dy ∷ es) fs p = absurd p

-- ---- what they make of the builder

-- counts by the cells of the answers; number and listed blocks stay
pub record Grown (b q : Builder) (es : List Event) : Type 0 where
  pub points : 2 * q.points ≡ 2 * b.points + length (places_on b es)
  pub runs : q.runs ≡ b.runs + length (runs_ended b.run es)
  pub block : q.block ≡ b.block
  pub blocks : q.blocks ≡ b.blocks
  pub x : q.x ≡ reach_x b.x es
  pub y : q.y ≡ reach_y b.y es

pub grown : (b : Builder) (es : List Event) → Plain es → Grown b (built b es) es
unfolding places runs_ended built reach_x reach_y
grown b [] p = record { points = omega arith; runs = omega arith; block = refl; blocks = refl; x = refl; y = refl }
grown b (stitch dx dy ∷ es) p =
    let g = grown (stitched b (b.x +ℤ dx) (b.y +ℤ dy)) es p in record {
      points = simp length-append (omega (arith, g.points, point-cells b.run b.x b.y));
      runs = g.runs;
      block = g.block;
      blocks = g.blocks;
      x = g.x;
      y = g.y;
    }
grown b (jump dx dy ∷ es) p =
    let g = grown (jumped b (b.x +ℤ dx) (b.y +ℤ dy)) es p in record {
      points = g.points;
      runs = simp length-append (omega (arith, g.runs, run_cells b.run));
      block = g.block;
      blocks = g.blocks;
      x = g.x;
      y = g.y;
    }
grown b (change dx dy ∷ es) p = absurd p

pub spare-built : (b : Builder) (es : List Event) (m : ℕ) → Plain es → Spare b (2 * length es + m) → Spare (built b es) m
unfolding built
spare-built b [] m p h = rw zero-add at h
spare-built b (stitch dx dy ∷ es) m p h = spare-built (stitched b (b.x +ℤ dx) (b.y +ℤ dy)) es m p (one b dx dy (2 * length es + m) (less b (length es) m h))
  where
    less : (b : Builder) (n m : ℕ) → Spare b (2 * suc n + m) → Spare b (2 + (2 * n + m))
    less b n m h = omega (arith, h)

    one : (b : Builder) (dx dy : ℤ) (n : ℕ) → Spare b (2 + n) → Spare (stitched b (b.x +ℤ dx) (b.y +ℤ dy)) n
    one b dx dy n h = omega (arith, h, sizes b.run b.begun)
spare-built b (jump dx dy ∷ es) m p h = spare-built (jumped b (b.x +ℤ dx) (b.y +ℤ dy)) es m p (omega (arith, h, sizes b.run 0))
spare-built b (change dx dy ∷ es) m p h = absurd p

-- ---- the end of a block, and what comes behind it

-- the blocks begin at (x, y), if there are any
abbrev pub StartAt : ℤ → ℤ → Blocks → Type 0
StartAt x y (ended v) = Unit {0}
StartAt x y (block x' y' c bytes bs) = (x' ≡ x) × (y' ≡ y)

to-there : (a b : ℤ) → a +ℤ (b -ℤ a) ≡ b
to-there a b = parts (a +ℤ (b -ℤ a)) b (omega (arith, add-law a (b -ℤ a), sub-law b a))

module _ (q : Builder) (x y : ℤ) where
  abbrev rest : Blocks → List Event
  rest bs = change_to q.x q.y bs (events_in bs)

  pub places-rest : (bs : Blocks) → StartAt x y bs → places_on q (rest bs) ≡ places x y 0 (events_in bs)
  unfolding places change_to events_in
  places-rest (ended v) h = refl
  places-rest (block x' y' c bytes bs) h =
      ap₂ (λ (u v : ℤ). places u v 0 (events_in (block x' y' c bytes bs))) (to-there q.x x' ∙ h.0) (to-there q.y y' ∙ h.1)

  pub runs-rest : (bs : Blocks) → runs q.run (rest bs) ≡ run_of q.run ++ runs 0 (events_in bs)
  unfolding runs run_of change_to events_in
  runs-rest (ended v) = sym (append-nil (run_of q.run))
  runs-rest (block x' y' c bytes bs) = refl

  pub blocks-rest : (c : ℕ → ℕ) (bs : Blocks) → blocks c q.block q.begun q.run (rest bs) ≡ block_of c q.block q.begun ++ blocks c (suc q.block) 0 0 (events_in bs)
  unfolding blocks block_of change_to events_in
  blocks-rest c (ended v) = sym (append-nil (block_of c q.block q.begun))
  blocks-rest c (block x' y' c' bytes bs) = refl

-- ---- a whole block

module _ (b : Builder) (x y : ℤ) (c : Color) (bytes : List ℕ) (bs : Blocks) (k : StartAt x y bs) (shut : b.run ≡ 0) (fresh : b.begun ≡ 0) where
  abbrev es : List Event
  es = stitch_events bytes

  abbrev q : Builder
  q = built b es

  abbrev all : Blocks
  all = block b.x b.y c bytes bs

  events-are : events_in all ≡ es ++ rest q x y bs
  unfolding events_in
  events-are = let g = grown b es (plain bytes) in rw (g.x, g.y) refl

  pub places-all : places b.x b.y 0 (events_in all) ≡ places_on b es ++ places x y 0 (events_in bs)
  places-all =
      ap (λ n. places b.x b.y n (events_in all)) (sym shut) ∙ ap (places_on b) events-are ∙ places-append b es (rest q x y bs)
      ∙ ap (λ t. places_on b es ++ t) (places-rest q x y bs k)

  pub runs-all : runs 0 (events_in all) ≡ runs_ended b.run es ++ (run_of q.run ++ runs 0 (events_in bs))
  runs-all =
      ap (λ n. runs n (events_in all)) (sym shut) ∙ ap (runs b.run) events-are ∙ runs_append b es (rest q x y bs)
      ∙ ap (λ t. runs_ended b.run es ++ t) (runs-rest q x y bs)

  pub blocks-all : (f : ℕ → ℕ) → blocks f b.block 0 0 (events_in all) ≡ block_of f q.block q.begun ++ blocks f (suc q.block) 0 0 (events_in bs)
  blocks-all f = ap (λ n. blocks f b.block n 0 (events_in all)) (sym fresh) ∙ ap (λ n. blocks f b.block b.begun n (events_in all)) (sym shut)
      ∙ ap (blocks f b.block b.begun b.run) events-are ∙ blocks-append f b es (rest q x y bs) (plain bytes) ∙ blocks-rest q x y f bs
