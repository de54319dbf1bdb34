-- The two passes over the records of any format: what holds where they begin, in each turn and at the end. Assumes nothing.
use Rattle.std.specs.Prelude.{Ok}
use Prim.Native.Nat.{ℕ, ◌+◌, ◌*◌, ◌≤◌, ◌<◌}
use mathlib.Core.Path.{◌≡◌, refl, sym, ap, ◌∙◌}
use mathlib.Core.List.{List, [], ◌++◌, append-nil}
use native.Mathlib.Nat.{zero-add}
use native.Mathlib.Omega.{arith}
use lib.IntN.{ℤ, pos, nat_abs, ◌+ℤ◌}
use lib.ListN.{length, drop, length-drop, length-append}
use lib.Seq.{sets, length-sets, drop-drop}
use Rattle.rules.specs.Answers.{places, runs, blocks, run_of, block_of}
use Rattle.rules.specs.Limits.{block_cells_of}
use Rattle.rules.specs.Files.{filled}
use Rattle.read_records.specs.Firsts.{first_record_of}
use Rattle.rules.specs.Records.{Event, record_then, events}
use Rattle.rules.specs.declared.Counts.{Counts}
use Rattle.read_records.specs.declared.Row.{Row}
use Rattle.rules.specs.declared.Record.{Record}
use Rattle.rules.specs.declared.Record.TheVariants.{StitchBy, JumpBy, ChangeBy, Finish}
use Rattle.laws.specs.Buffers.{Writing, put-by, writing_start, writing-room, writing_more, writing-done, put_front}
use Rattle.laws.specs.Ints.{abs-add}
use Rattle.read_builder.proofs.Places.{mag-abs}
use Rattle.laws.specs.Reading.{events-step, read-finish}
use Rattle.read_records.proofs.Formats.{Near, near, inside}
use Rattle.read_records.specs.Fields.{len_of, dx_of, dy_of}
use Rattle.read_builder.proofs.Parts.{run_cells, block_cells}
use Rattle.read_builder.specs.Builders.{origin, followed, finished, place_after, places_by, runs_by, blocks_by, Counted, Small, Reach, Holds}
use Rattle.read_builder.specs.declared.Builder.{Builder}
use Rattle.read_passes.specs.Told.{places_in, runs_in, blocks_in, Sized, sizes_of, Fits}
use Rattle.read_passes.specs.declared.Sizes.{Sizes}
use Rattle.read_passes.specs.Walks.{places_left, runs_left, blocks_left, moved, Bounded, events_from, Counting, Ready, Went, none, on, Ended}
use Rattle.read_passes.proofs.Turns.{events_after, places-next, runs-next, blocks-next, points-by, runs_by_lem, blocks-by, left-anywhere, any-colours, bounded-next}

-- buffers that keep their lengths
pub record Same (P : List ℤ) (R B : List ℕ) (P' : List ℤ) (R' B' : List ℕ) : Type 0 where
  pub places : length P' ≡ length P
  pub runs : length R' ≡ length R
  pub blocks : length B' ≡ length B

module _ (f : Row) (bytes : List ℕ) where
  abbrev coming : ℕ → List Event
  coming at = events_from f bytes at

  -- the pass that writes: P₀ R₀ B₀ are the buffers at first, P R B the buffers now; c gives a block's colour
  pub record Filling (c : ℕ → ℕ) (P₀ : List ℤ) (R₀ B₀ : List ℕ) (P : List ℤ) (R B : List ℕ) (b : Builder) (at : ℕ) : Type 0 where
    pub places : Writing P₀ 0 (places_in (first_record_of f) bytes) P (2 * b.points) (places_left b (coming at))
    pub runs : Writing R₀ 0 (runs_in (first_record_of f) bytes) R b.runs (runs_left b (coming at))
    pub blocks : Writing B₀ 0 (blocks_in c (first_record_of f) bytes) B (block_cells_of * b.blocks) (blocks_left c b (coming at))
    pub bounded : Bounded b at
    pub within : at ≤ length bytes

  pub counting-start : Counting f bytes origin 0
  counting-start = record { places = zero-add _; runs = zero-add _; blocks = λ c. zero-add _; bounded = omega arith; within = omega arith }

  filling-start : {c : ℕ → ℕ} (P : List ℤ) (R B : List ℕ) → Fits c (first_record_of f) bytes (length P) (length R) (length B) → Filling c P R B P R B origin 0
  filling-start {c} P R B fit = record {
    places = writing_start P 0 (places_in (first_record_of f) bytes) (omega (arith, fit.places));
    runs = writing_start R 0 (runs_in (first_record_of f) bytes) (omega (arith, fit.runs));
    blocks = writing_start B 0 (blocks_in c (first_record_of f) bytes) (omega (arith, fit.blocks));
    bounded = omega arith;
    within = omega arith;
  }

  -- ---- past the last byte nothing comes

  no_record : (r : Record) → Near r 0 → r ≡ Finish
  no_record (StitchBy dx dy n) h = absurd (omega (arith, h.fair, h.len))
  no_record (JumpBy dx dy n) h = absurd (omega (arith, h.fair, h.len))
  no_record (ChangeBy dx dy n) h = absurd (omega (arith, h.fair, h.len))
  no_record Finish h = refl

  pub ended : (at : ℕ) → length bytes ≤ at → coming at ≡ []
  ended at h =
      let z : length (drop at bytes) ≡ 0 = length-drop at bytes ∙ omega arith in
      read-finish (first_record_of f) (inside f) (drop at bytes) (no_record (first_record_of f (drop at bytes)) (rw z at (near f (drop at bytes))))

  pub small : {b : Builder} {at : ℕ} → Bounded b at → at ≤ length bytes → length bytes ≤ 2097152 → Small b
  small {b} w i s = omega (arith, w, mag-abs b.x, mag-abs b.y)

  -- ---- one turn: r is the record at `at`

  module _ (at : ℕ) {r : Record} (e : r ≡ first_record_of f (drop at bytes)) where
    pub this : Near r (length (drop at bytes))
    this = rw e (near f (drop at bytes))

    behind : (s : Record) → events_after s (λ n. coming (at + n)) ≡ coming (place_after s at (length bytes))
    behind (StitchBy dx dy n) = refl
    behind (JumpBy dx dy n) = refl
    behind (ChangeBy dx dy n) = refl
    behind Finish = sym (ended (length bytes) (omega arith))

    pub now-then : coming at ≡ record_then r (λ n. coming (at + n))
    now-then = rw (e, events-step (first_record_of f) (inside f) (drop at bytes)) (simp drop-drop)

    -- the record ends in the bytes, and the measure of the loop falls
    pub stays : at ≤ length bytes → at + len_of r ≤ length bytes
    stays i = omega (arith, this.len, length-drop at bytes)

    next-within : (s : Record) → at + len_of s ≤ length bytes → place_after s at (length bytes) ≤ length bytes
    next-within (StitchBy dx dy n) h = h
    next-within (JumpBy dx dy n) h = h
    next-within (ChangeBy dx dy n) h = h
    next-within Finish h = omega arith

    next-later : (s : Record) → Near s (length (drop at bytes)) → at < length bytes → at < place_after s at (length bytes)
    next-later (StitchBy dx dy n) h l = omega (arith, h.fair, h.len, length-drop at bytes)
    next-later (JumpBy dx dy n) h l = omega (arith, h.fair, h.len, length-drop at bytes)
    next-later (ChangeBy dx dy n) h l = omega (arith, h.fair, h.len, length-drop at bytes)
    next-later Finish h l = l

    pub later : at < length bytes → at < place_after r at (length bytes)
    later l = next-later r this l

    module _ {b : Builder} (w : Bounded b at) (i : at ≤ length bytes) where
      pub reach : length bytes ≤ 2097152 → Reach b (dx_of r) (dy_of r)
      reach s =
          let size-x : nat_abs (b.x +ℤ dx_of r) ≤ nat_abs b.x + nat_abs (dx_of r) = abs-add b.x (dx_of r) in
          let size-y : nat_abs (b.y +ℤ dy_of r) ≤ nat_abs b.y + nat_abs (dy_of r) = abs-add b.y (dy_of r) in
          record {
            x_step = omega (arith, w, this.dx, stays i, mag-abs (dx_of r));
            y_step = omega (arith, w, this.dy, stays i, mag-abs (dy_of r));
            x = omega (arith, w, this.dx, stays i, mag-abs (b.x +ℤ dx_of r));
            y = omega (arith, w, this.dy, stays i, mag-abs (b.y +ℤ dy_of r));
          }

      still-bounded : (x y : ℤ) → nat_abs x ≤ 1000 * (at + len_of r) → nat_abs y ≤ 1000 * (at + len_of r) → Bounded (followed b r x y) (place_after r at (length bytes))
      still-bounded x y hx hy = bounded-next b at (length bytes) r x y w this.fair (stays i) hx hy

      moved-bounded : Bounded (moved b r) (place_after r at (length bytes))
      moved-bounded = still-bounded (b.x +ℤ dx_of r) (b.y +ℤ dy_of r)
          (omega (arith, w, this.dx, abs-add b.x (dx_of r))) (omega (arith, w, this.dy, abs-add b.y (dy_of r)))

    module _ (b : Builder) where
      to-places : places_left b (coming at) ≡ places_by b r ++ places_left (moved b r) (coming (place_after r at (length bytes)))
      to-places = ap (places_left b) now-then ∙ places-next b r (λ n. coming (at + n)) ∙ rw (behind r)

      to-runs : (x y : ℤ) → runs_left b (coming at) ≡ runs_by b r ++ runs_left (followed b r x y) (coming (place_after r at (length bytes)))
      to-runs x y = ap (runs_left b) now-then ∙ runs-next b r x y (λ n. coming (at + n)) ∙ rw (behind r)

      to-blocks : (c : ℕ → ℕ) (x y : ℤ) → blocks_left c b (coming at) ≡ blocks_by c b r ++ blocks_left c (followed b r x y) (coming (place_after r at (length bytes)))
      to-blocks c x y = ap (blocks_left c b) now-then ∙ blocks-next b c r x y (λ n. coming (at + n)) ∙ rw (behind r)

      module _ {c : ℕ → ℕ} {P₀ : List ℤ} {R₀ B₀ : List ℕ} {P : List ℤ} {R B : List ℕ} (g : Filling c P₀ R₀ B₀ P R B b at) where
        filling-next : Filling c P₀ R₀ B₀ (sets P (2 * b.points) (places_by b r)) (sets R b.runs (runs_by b r)) (sets B (block_cells_of * b.blocks) (blocks_by c b r))
            (moved b r) (place_after r at (length bytes))
        filling-next =
            let x = b.x +ℤ dx_of r in
            let y = b.y +ℤ dy_of r in
            record {
              places = writing_more {vs = places_by b r} g.places to-places (put-by (points-by b r x y) refl);
              runs = writing_more {vs = runs_by b r} g.runs (to-runs x y) (put-by (runs_by_lem b r x y) refl);
              blocks = writing_more {vs = blocks_by c b r} g.blocks (to-blocks c x y) (put-by (blocks-by b c r x y) refl);
              bounded = moved-bounded g.bounded g.within;
              within = next-within r (stays g.within);
            }

      -- counting stays at (0, 0)
      module _ (g : Counting f bytes b at) where
        pub counting-again : {q : Builder} {n : ℕ} → q ≡ followed b r (pos 0) (pos 0) → n ≡ place_after r at (length bytes) → Counting f bytes q n
        counting-again eq en = rw (eq, en) (record {
          places =
              omega (
                arith,
                g.places,
                points-by b r (pos 0) (pos 0),
                simp length-append at (ap length to-places),
                left-anywhere b r (b.x +ℤ dx_of r) (b.y +ℤ dy_of r) (pos 0) (pos 0) (coming (place_after r at (length bytes))),
              );
          runs = omega (arith, g.runs, runs_by_lem b r (pos 0) (pos 0), simp length-append at (ap length (to-runs (pos 0) (pos 0))));
          blocks = λ c. omega (arith, g.blocks c, blocks-by b c r (pos 0) (pos 0), simp length-append at (ap length (to-blocks c (pos 0) (pos 0))));
          bounded = still-bounded g.bounded g.within (pos 0) (pos 0) (omega arith) (omega arith);
          within = next-within r (stays g.within);
        })

  module _ {b : Builder} {start : ℕ} {c : ℕ → ℕ} {P₀ : List ℤ} {R₀ B₀ : List ℕ} {P : List ℤ} {R B : List ℕ} (g : Filling c P₀ R₀ B₀ P R B b start) where
    -- what is written is counted
    counted : Counting f bytes b start
    counted = record {
      places = omega (arith, g.places.place);
      runs = omega (arith, g.runs.place);
      blocks = λ c'. omega (arith, g.blocks.place, any-colours c c' b.block b.begun b.run (events_from f bytes start), any-colours c c' 0 0 0 (events (first_record_of f) bytes));
      bounded = g.bounded;
      within = g.within;
    }

  -- ---- room for all that is to come, and so many records later

  module _ (c : ℕ → ℕ) where
    pub ready-start : {np nr nb : ℕ} → Fits c (first_record_of f) bytes np nr nb → length bytes ≤ 2097152 → Ready f bytes c origin 0 np nr nb
    ready-start fit s = record {
      places = omega (arith, fit.places);
      runs = omega (arith, fit.runs);
      blocks = omega (arith, fit.blocks);
      bounded = omega arith;
      within = omega arith;
      short = s;
    }

    module _ {b : Builder} {at np nr nb : ℕ} (g : Ready f bytes c b at np nr nb) where
      pub ready-small : Small b
      ready-small = small g.bounded g.within g.short

      module _ {r : Record} (e : r ≡ first_record_of f (drop at bytes)) where
        pub ready-reach : Reach b (dx_of r) (dy_of r)
        ready-reach = reach at e g.bounded g.within g.short

        pub ready-holds : Holds c b r np nr nb
        ready-holds = record {
          places = omega (arith, g.places, simp length-append at (ap length (to-places at e b)));
          runs = omega (arith, g.runs, simp length-append at (ap length (to-runs at e b b.x b.y)));
          blocks = omega (arith, g.blocks, simp length-append at (ap length (to-blocks at e b c b.x b.y)));
        }

        pub ready-next : Ready f bytes c (moved b r) (place_after r at (length bytes)) np nr nb
        ready-next =
            let x = b.x +ℤ dx_of r in
            let y = b.y +ℤ dy_of r in
            record {
              places = omega (arith, g.places, points-by b r x y, simp length-append at (ap length (to-places at e b)));
              runs = omega (arith, g.runs, runs_by_lem b r x y, simp length-append at (ap length (to-runs at e b x y)));
              blocks = omega (arith, g.blocks, blocks-by b c r x y, simp length-append at (ap length (to-blocks at e b c x y)));
              bounded = moved-bounded at e g.bounded g.within;
              within = next-within at e r (stays at e g.within);
              short = g.short;
            }

    module _ {b : Builder} {at : ℕ} {P : List ℤ} {R B : List ℕ} where
      pub went-same : {q : Builder} {i : ℕ} {P' : List ℤ} {R' B' : List ℕ} → Went f bytes c b at P R B q i P' R' B' → Same P R B P' R' B'
      went-same none = record { places = refl; runs = refl; blocks = refl }
      went-same (on {q = q} {P' = P'} {R' = R'} {B' = B'} w r e) =
          let h = went-same w in
          record {
            places = length-sets P' (2 * q.points) (places_by q r) ∙ h.places;
            runs = length-sets R' q.runs (runs_by q r) ∙ h.runs;
            blocks = length-sets B' (block_cells_of * q.blocks) (blocks_by c q r) ∙ h.blocks;
          }

      pub ready_on : {np nr nb : ℕ} → Ready f bytes c b at np nr nb → {q : Builder} {i : ℕ} {P' : List ℤ} {R' B' : List ℕ}
          → Went f bytes c b at P R B q i P' R' B' → Ready f bytes c q i np nr nb
      ready_on g none = g
      ready_on g (on w r e) = ready-next (ready_on g w) e

      filling-on : {P₀ : List ℤ} {R₀ B₀ : List ℕ} → Filling c P₀ R₀ B₀ P R B b at → {q : Builder} {i : ℕ} {P' : List ℤ} {R' B' : List ℕ}
          → Went f bytes c b at P R B q i P' R' B' → Filling c P₀ R₀ B₀ P' R' B' q i
      filling-on g none = g
      filling-on g (on {q = q} {i = i} w r e) = filling-next i e q (filling-on g w)

      module _ {q : Builder} {i : ℕ} {P' : List ℤ} {R' B' : List ℕ} (w : Went f bytes c b at P R B q i P' R' B') where
        -- some records, and some more
        pub went_on : {q₂ : Builder} {i₂ : ℕ} {P₂ : List ℤ} {R₂ B₂ : List ℕ} → Went f bytes c q i P' R' B' q₂ i₂ P₂ R₂ B₂
            → Went f bytes c b at P R B q₂ i₂ P₂ R₂ B₂
        went_on none = w
        went_on (on v r e) = on (went_on v) r e

        pub ended-on : {q₂ : Builder} {P₂ : List ℤ} {R₂ B₂ : List ℕ} → Ended f bytes c q i P' R' B' q₂ P₂ R₂ B₂ → Ended f bytes c b at P R B q₂ P₂ R₂ B₂
        ended-on v = record { end = v.end; past = v.past; went = went_on v.went }

        -- one more, by what the calls gave
        pub one_on : {r : Record} → r ≡ first_record_of f (drop i bytes) → {q₂ : Builder} {i₂ : ℕ} {P₂ : List ℤ} {R₂ B₂ : List ℕ} → q₂ ≡ moved q r
            → i₂ ≡ place_after r i (length bytes) → P₂ ≡ sets P' (2 * q.points) (places_by q r) → R₂ ≡ sets R' q.runs (runs_by q r)
            → B₂ ≡ sets B' (block_cells_of * q.blocks) (blocks_by c q r) → Went f bytes c b at P R B q₂ i₂ P₂ R₂ B₂
        one_on {r} e eq ei eP eR eB = rw (eq, ei, eP, eR, eB) (on w r e)

  -- ---- at the end

  -- z is what the builder counts once it is finished
  pub counting-done : {b : Builder} {at : ℕ} → length bytes ≤ at → Counting f bytes b at → {z : Sizes} → z.points ≡ b.points
      → z.runs ≡ (finished b).runs → z.blocks ≡ (finished b).blocks → Sized (first_record_of f) bytes z
  unfolding places runs blocks
  counting-done {b} {at} h g ep er eb =
      let gp = rw (ended at h) at g.places in
      let gr = rw (ended at h) at g.runs in
      record {
        points = omega (arith, gp, ep);
        runs = omega (arith, gr, er, run_cells b.run);
        blocks = λ c. omega (arith, rw (ended at h) at (g.blocks c), eb, block_cells c b.block b.begun);
      }

  -- from the first record to the last
  module _ {c : ℕ → ℕ} {P₀ : List ℤ} {R₀ B₀ : List ℕ} (fit : Fits c (first_record_of f) bytes (length P₀) (length R₀) (length B₀)) (s : length bytes ≤ 2097152)
      {b : Builder} {P : List ℤ} {R B : List ℕ} (w : Ended f bytes c origin 0 P₀ R₀ B₀ b P R B) where
    all : Filling c P₀ R₀ B₀ P R B b w.end
    all = filling-on c (filling-start P₀ R₀ B₀ fit) w.went

    last-run : runs_left b (coming w.end) ≡ run_of b.run ++ []
    unfolding runs
    last-run = rw (ended w.end w.past) (sym (append-nil (run_of b.run)))

    last_block : blocks_left c b (coming w.end) ≡ block_of c b.block b.begun ++ []
    unfolding blocks
    last_block = rw (ended w.end w.past) (sym (append-nil (block_of c b.block b.begun)))

    -- what `settle` asks, and what follows from what it makes
    pub can-settle : Small b × (((finished b).blocks ≤ (finished b).runs)
        × ((b.runs + length (run_of b.run) ≤ length R) × (block_cells_of * b.blocks + length (block_of c b.block b.begun) ≤ length B)))
    can-settle =
        let r = writing-room (run_of b.run) [] all.runs last-run in
        let l = writing-room (block_of c b.block b.begun) [] all.blocks last_block in
        (ready-small c (ready_on c (ready-start c fit s) w.went), (all.bounded.fewer, (r, l)))

    pub settled : {k : Counts} {R' B' : List ℕ} → Counted (finished b) k
        × ((R' ≡ sets R b.runs (run_of b.run)) × (B' ≡ sets B (block_cells_of * b.blocks) (block_of c b.block b.begun)))
        → Sized (first_record_of f) bytes (sizes_of k) × ((P ≡ filled (Ok tt) (places_in (first_record_of f) bytes) P₀)
        × ((R' ≡ filled (Ok tt) (runs_in (first_record_of f) bytes) R₀) × (B' ≡ filled (Ok tt) (blocks_in c (first_record_of f) bytes) B₀)))
    unfolding filled places
    settled q =
        let r = writing_more {vs = run_of b.run} all.runs last-run (put-by refl q.1.0) in
        let l = writing_more {vs = block_of c b.block b.begun} all.blocks last_block (put-by refl q.1.1) in (
          counting-done w.past (counted all) q.0.points q.0.runs q.0.blocks,
          (
            (put_front fit.places (writing-done all.places (rw (ended w.end w.past)))).1,
            ((put_front fit.runs (writing-done r refl)).1, (put_front fit.blocks (writing-done l refl)).1),
          ),
        )

-- ---- a loop over the records that begins with b₀ at `from`

pub record Going (f : Row) (bytes : List ℕ) (c : ℕ → ℕ) (b₀ : Builder) (from : ℕ) (P₀ : List ℤ) (R₀ B₀ : List ℕ)
    (b : Builder) (at : ℕ) (P : List ℤ) (R B : List ℕ) : Type 0 where
  pub went : Went f bytes c b₀ from P₀ R₀ B₀ b at P R B
  pub ready : Ready f bytes c b at (length P) (length R) (length B)
  pub same : Same P₀ R₀ B₀ P R B

module _ {f : Row} {bytes : List ℕ} {c : ℕ → ℕ} {b₀ : Builder} {from : ℕ} {P₀ : List ℤ} {R₀ B₀ : List ℕ} where
  pub going_start : {b : Builder} → b ≡ b₀ → Ready f bytes c b₀ from (length P₀) (length R₀) (length B₀)
      → Going f bytes c b₀ from P₀ R₀ B₀ b from P₀ R₀ B₀
  going_start e g = rw e (record { went = none; ready = g; same = record { places = refl; runs = refl; blocks = refl } })

  module _ {b : Builder} {at : ℕ} {P : List ℤ} {R B : List ℕ} (g : Going f bytes c b₀ from P₀ R₀ B₀ b at P R B) where
    pub going_on : {q : Builder} {i : ℕ} {P' : List ℤ} {R' B' : List ℕ} → Went f bytes c b at P R B q i P' R' B'
        → Going f bytes c b₀ from P₀ R₀ B₀ q i P' R' B'
    going_on w =
        let s = went-same f bytes c w in
        let v = went_on f bytes c g.went w in
        record { went = v; ready = rw (s.places, s.runs, s.blocks) (ready_on f bytes c g.ready w); same = went-same f bytes c v }

    pub going-ended : {q : Builder} {P' : List ℤ} {R' B' : List ℕ} → Ended f bytes c b at P R B q P' R' B'
        → Ended f bytes c b₀ from P₀ R₀ B₀ q P' R' B'
    going-ended e = ended-on f bytes c g.went e
