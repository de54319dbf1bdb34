-- One block of the second pass, and one block after the other. Assumes nothing.
use Rattle.std.specs.Prelude.{Ok, Err, Result, IsOk}
use Prim.Native.Nat.{ℕ, zero, suc, ◌+◌, ◌-◌, ◌*◌, ◌^◌, ◌≤◌, ◌<◌}
use mathlib.Core.Path.{◌≡◌, refl, sym, ap, ◌∙◌}
use mathlib.Core.Bool.{false}
use mathlib.Core.List.{List, ◌++◌}
use native.Mathlib.Omega.{arith}
use native.Mathlib.Nat.{add-zero}
use native.Mathlib.Numerals.{add-one}
use lib.Dec.{ltb}
use lib.IntN.{ℤ, pos}
use lib.ListN.{length, length-append, length-take, length-drop}
use lib.Seq.{sets, length-sets}
use lib.Signed.{mag}
use Rattle.rules.specs.Answers.{places, runs, blocks, run_of, block_of}
use Rattle.rules.specs.Files.{color_number, or_default}
use Rattle.rules.specs.Layout.{shade_at}
use Rattle.rules.specs.Limits.{block_cells_of}
use Rattle.rules.specs.Records.{Event}
use Rattle.rules.specs.Vp3.{Blocks, ended, block, cut, passed, blocks_from, stitch_events, strays, fault_in, events_in, colors_in}
use Rattle.rules.specs.declared.Refusal.{Refusal}
use Rattle.laws.specs.Buffers.{sets-append}
use Rattle.laws.specs.Verdicts.{never_both, first-false}
use Rattle.laws.specs.Vp3Fields.{block-all}
use Rattle.read_builder.specs.Builders.{origin, changed, Small}
use Rattle.read_builder.specs.declared.Builder.{Builder}
use Rattle.read_builder.proofs.Parts.{own-colour, run_cells, block_cells, sizes}
use Rattle.read_vp3_fields.specs.Fields.{within, Designs, BlockRead}
use Rattle.read_vp3_fields.specs.declared.Block.{Block}
use Rattle.read_vp3_fields.specs.declared.Design.{Design}
use Rattle.read_vp3_stitches.specs.Fills as stitches
use Rattle.read_vp3_stitches.specs.Fills.{built, runs_ended, places_on, Spare}
use Rattle.read_vp3.specs.Fills.{Coloured, colour_by, places_by, runs_by, blocks_by, blocks_at, Ready, Fills, Fits, Filled}
use Rattle.read_passes.specs.declared.Turn.{Turn}
use Rattle.read_vp3.proofs.Filled.{plain, grown, spare-built, StartAt, places-all, runs-all, blocks-all}
use Rattle.read_vp3.proofs.Tallied.{few-events}

-- ---- blocks without fault

pub not-refused : {bs : Blocks} {r : Refusal} → bs ≡ ended (Err r) → fault_in bs ≡ Ok tt → ⊥
unfolding fault_in
not-refused e h = never_both (sym (ap fault_in e) ∙ h)

pub found : {s : List ℕ} {bs : Blocks} → (r : Result Design Refusal) → Designs s bs r → fault_in bs ≡ Ok tt → IsOk r
found (Ok d) t h = refl
found (Err why) t h = absurd (not-refused t.tells h)

start-at : (n : ℕ) (x y : ℤ) (s : List ℕ) → StartAt x y (blocks_from n x y s)
unfolding blocks_from cut passed
start-at zero x y s = tt
start-at (suc n) x y s = block-all (StartAt x y) tt tt n x y s (λ x' y' rest c bytes l. (refl, refl))

within-length : (s : List ℕ) (at end : ℕ) → at ≤ end → end ≤ length s → length (within s at end) ≡ end - at
unfolding within
within-length s at end l h = simp (length-take, length-drop) (omega arith)

-- ---- one block

module _ {s : List ℕ} {end n : ℕ} {f : Turn} {np nr nb : ℕ} (g : Ready s end (suc n) f np nr nb) where
  -- the fields are without fault too
  pub no-fault : (r : Result Block Refusal) → BlockRead s f.at end f.b.x f.b.y (ltb 0 n) r → IsOk r
  no-fault (Ok k) d = refl
  no-fault (Err why) d = absurd (not-refused (d.tells n refl) g.sound)

  module _ {k : Block} (d : BlockRead s f.at end f.b.x f.b.y (ltb 0 n) (Ok k)) where
    abbrev bytes : List ℕ
    bytes = within s k.at k.end

    abbrev es : List Event
    es = stitch_events bytes

    abbrev last : Builder
    last = built f.b es

    abbrev next : Turn
    next = record { b = changed last k.x k.y; at = k.next }

    abbrev rest : Blocks
    rest = blocks_at s end n next

    tells : blocks_at s end (suc n) f ≡ block f.b.x f.b.y k.color bytes rest
    tells = d.tells n refl

    sounds : (strays f.b.x f.b.y es ≡ false) × (fault_in rest ≡ Ok tt)
    unfolding fault_in
    sounds = first-false _ _ _ (sym (ap fault_in tells) ∙ g.sound)

    starts : StartAt k.x k.y rest
    starts = start-at n k.x k.y (within s k.next end)

    size : length bytes ≡ k.end - k.at
    size = within-length s k.at k.end d.lies.1.0 (omega (arith, d.lies, g.within))

    places_are : places_by f.b (blocks_at s end (suc n) f) ≡ places_on f.b es ++ places_by next.b rest
    places_are = ap (places_by f.b) tells ∙ places-all f.b k.x k.y k.color bytes rest starts g.shut g.fresh

    runs_are : runs_by (blocks_at s end (suc n) f) ≡ runs_ended f.b.run es ++ (run_of last.run ++ runs_by rest)
    runs_are = ap runs_by tells ∙ runs-all f.b k.x k.y k.color bytes rest starts g.shut g.fresh

    blocks_are : (c : ℕ → ℕ) → blocks_by c f.b (blocks_at s end (suc n) f) ≡ block_of c last.block last.begun ++ blocks_by c next.b rest
    blocks_are c = ap (blocks_by c f.b) tells ∙ blocks-all f.b k.x k.y k.color bytes rest starts g.shut g.fresh c
        ∙ rw (add-one last.block) refl

    less : (m : ℕ) → m ≤ length s - f.at → Spare f.b m
    less m h = omega (arith, g.spare)

    -- what the callees ask
    pub fill-ready : stitches.Ready bytes f.b 0 np nr
    fill-ready = record {
      stays = sounds.0;
      places = omega (arith, g.place_cells, simp length-append at (ap length places_are));
      runs = omega (arith, g.run_cells, simp length-append at (ap length runs_are));
      spare = less _ (omega (arith, size, d.lies, g.within));
      within = omega arith;
    }

    spare-last : Spare last (1 + (length s - k.next))
    spare-last = spare-built f.b es _ (plain bytes) (less _ (omega (arith, few-events bytes, size, d.lies, g.within)))

    pub run_room : last.runs + length (run_of last.run) ≤ nr
    run_room = omega (arith, (grown f.b es (plain bytes)).runs, g.run_cells, simp length-append at (ap length runs_are))

    pub block_room : (c : ℕ → ℕ) → block_cells_of * last.blocks + length (block_of c last.block last.begun) ≤ nb
    block_room c = rw (grown f.b es (plain bytes)).blocks (omega (arith, g.block_cells c, simp length-append at (ap length (blocks_are c))))

    pub last-small : {q : Builder} → q ≡ last → mag q.x < 2 ^ 31 → mag q.y < 2 ^ 31 → Small q
    last-small {q} e hx hy = let h : Spare q (1 + (length s - k.next)) = rw e spare-last in omega (arith, h)

    -- the buffers after the block
    module _ (P : List ℤ) (R B : List ℕ) where
      abbrev places_after : List ℤ
      places_after = sets P (2 * f.b.points) (places_on f.b es)

      abbrev runs_after : List ℕ
      runs_after = sets (sets R f.b.runs (runs_ended f.b.run es)) last.runs (run_of last.run)

      abbrev blocks_after : List ℕ
      blocks_after = sets B (block_cells_of * last.blocks) (block_of (λ j. color_number k.color) last.block last.begun)

      places-on : sets P (2 * f.b.points) (places_by f.b (blocks_at s end (suc n) f)) ≡ sets places_after (2 * next.b.points) (places_by next.b rest)
      places-on = ap (sets P (2 * f.b.points)) places_are ∙ sets-append P (2 * f.b.points) (places_on f.b es) _
          ∙ ap (λ i. sets places_after i (places_by next.b rest)) (sym (grown f.b es (plain bytes)).points)

      runs_on : sets R f.b.runs (runs_by (blocks_at s end (suc n) f)) ≡ sets runs_after next.b.runs (runs_by rest)
      runs_on =
          let R' = sets R f.b.runs (runs_ended f.b.run es) in
          ap (sets R f.b.runs) runs_are ∙ sets-append R f.b.runs (runs_ended f.b.run es) _
          ∙ ap (λ i. sets R' i (run_of last.run ++ runs_by rest)) (sym (grown f.b es (plain bytes)).runs)
          ∙ sets-append R' last.runs (run_of last.run) (runs_by rest)
          ∙ ap (λ i. sets runs_after i (runs_by rest)) (omega (arith, run_cells last.run))

      own : (c : ℕ → ℕ) → c f.b.block ≡ color_number k.color
          → block_of c last.block last.begun ≡ block_of (λ j. color_number k.color) last.block last.begun
      own c e = sym (own-colour c last.block last.begun)
          ∙ ap (λ v. block_of (λ j. v) last.block last.begun) (ap c (grown f.b es (plain bytes)).block ∙ e)

      blocks-on : (c : ℕ → ℕ) → c f.b.block ≡ color_number k.color
          → sets B (block_cells_of * f.b.blocks) (blocks_by c f.b (blocks_at s end (suc n) f)) ≡ sets blocks_after (block_cells_of * next.b.blocks) (blocks_by c next.b rest)
      blocks-on c e =
          let own_Block = block_of (λ j. color_number k.color) last.block last.begun in
          let own-cells : block_cells_of * last.blocks + length own_Block ≡ block_cells_of * next.b.blocks = omega (arith, block_cells (λ j. color_number k.color) last.block last.begun) in
          ap (λ i. sets B (block_cells_of * i) (blocks_by c f.b (blocks_at s end (suc n) f))) (sym (grown f.b es (plain bytes)).blocks)
          ∙ ap (sets B (block_cells_of * last.blocks)) (blocks_are c)
          ∙ ap (λ t. sets B (block_cells_of * last.blocks) (t ++ blocks_by c next.b rest)) (own c e)
          ∙ sets-append B (block_cells_of * last.blocks) own_Block (blocks_by c next.b rest)
          ∙ ap (λ i. sets blocks_after i (blocks_by c next.b rest)) own-cells

      coloured-on : (c : ℕ → ℕ) → Coloured c f.b.block (blocks_at s end (suc n) f)
          → (c f.b.block ≡ color_number k.color) × Coloured c next.b.block rest
      coloured-on c h =
          let t : Coloured c f.b.block (block f.b.x f.b.y k.color bytes rest) = rw tells at h in
          let e : suc f.b.block ≡ next.b.block = omega (arith, (grown f.b es (plain bytes)).block) in
          (t.0, rw e at t.1)

      next-spare : Spare next.b (length s - k.next)
      next-spare = omega (arith, spare-last, sizes last.run 0, sizes last.begun 0)

      fills-next : np ≡ length P → nr ≡ length R → nb ≡ length B → Fills s end n f P places_after R runs_after B blocks_after next
      fills-next ep er eb =
          let G = grown f.b es (plain bytes) in
          let lp = length-sets P (2 * f.b.points) (places_on f.b es) in
          let lr = length-sets (sets R f.b.runs (runs_ended f.b.run es)) last.runs (run_of last.run)
          ∙ length-sets R f.b.runs (runs_ended f.b.run es) in
          let lb = length-sets B (block_cells_of * last.blocks) (block_of (λ j. color_number k.color) last.block last.begun) in
          record {
            places = places-on;
            runs = runs_on;
            blocks = λ c h. let t = coloured-on c h in (t.1, blocks-on c t.0);
            same_places = lp;
            same_runs = lr;
            same_blocks = lb;
            ready = record {
              sound = sounds.1;
              shut = refl;
              fresh = refl;
              place_cells = omega (arith, g.place_cells, simp length-append at (ap length places_are), G.points);
              run_cells = omega (arith, g.run_cells, simp length-append at (ap length runs_are), G.runs, run_cells last.run);
              block_cells = λ c. omega (arith, g.block_cells c, simp length-append at (ap length (blocks_are c)), G.blocks, block_cells c last.block last.begun);
              spare = next-spare;
              inside = d.lies.1.1.1;
              within = g.within;
              short = g.short;
            };
          }

    -- and as the callees tell it
    pub fills-by : {P P' : List ℤ} {R R₁ R' B B' : List ℕ} {q v : Builder} {colour : ℕ}
        → np ≡ length P → nr ≡ length R → nb ≡ length B
        → stitches.Filled es f.b P P' R R₁ q → R' ≡ sets R₁ q.runs (run_of q.run) → colour ≡ color_number k.color
        → B' ≡ sets B (block_cells_of * q.blocks) (block_of (λ j. colour) q.block q.begun) → v ≡ changed q k.x k.y
        → Fills s end n f P P' R R' B B' (record { b = v; at = k.next })
    fills-by {P = P} {R = R} {B = B} ep er eb w eR ec eB ev = rw (ev, eR, eB, ec, w.places, w.runs, w.builder) (fills-next P R B ep er eb)

-- ---- one block after the other

-- the colours of blocks by their number
coloured-by : (c : ℕ → ℕ) (k : ℕ) (bs : Blocks) → ((i : ℕ) → c (k + i) ≡ or_default (shade_at (colors_in bs) i) (k + i)) → Coloured c k bs
unfolding colors_in shade_at or_default
coloured-by c k (ended v) h = tt
coloured-by c k (block x y colour t bs) h =
    (rw add-zero at (h 0), coloured-by c (suc k) bs (λ i. let e : suc k + i ≡ k + suc i = omega arith in rw e (h (suc i))))

coloured : (bs : Blocks) → Coloured (colour_by bs) 0 bs
coloured bs = coloured-by (colour_by bs) 0 bs (λ i. let e : 0 + i ≡ i = omega arith in rw e refl)

-- m blocks of bs are to come, from f on
module _ (s : List ℕ) (end : ℕ) (bs : Blocks) where
  pub record Going (P : List ℤ) (R B : List ℕ) (m : ℕ) (f : Turn) (P' : List ℤ) (R' B' : List ℕ) : Type 0 where
    pub places : sets P 0 (places (pos 0) (pos 0) 0 (events_in bs)) ≡ sets P' (2 * f.b.points) (places_by f.b (blocks_at s end m f))
    pub runs : sets R 0 (runs 0 (events_in bs)) ≡ sets R' f.b.runs (runs_by (blocks_at s end m f))
    pub blocks : sets B 0 (blocks (colour_by bs) 0 0 0 (events_in bs)) ≡ sets B' (block_cells_of * f.b.blocks) (blocks_by (colour_by bs) f.b (blocks_at s end m f))
    pub coloured : Coloured (colour_by bs) f.b.block (blocks_at s end m f)
    pub same_places : length P' ≡ length P
    pub same_runs : length R' ≡ length R
    pub same_blocks : length B' ≡ length B
    pub ready : Ready s end m f (length P') (length R') (length B')

  module _ {P : List ℤ} {R B : List ℕ} {P' : List ℤ} {R' B' : List ℕ} where
    -- there is none
    at-end : {f : Turn} → Going P R B 0 f P' R' B' → Filled bs P P' R R' B B'
    unfolding blocks_from events_in places runs blocks run_of block_of
    at-end w = record { places = sym w.places; runs = sym w.runs; blocks = sym w.blocks }

    pub going_done : {m : ℕ} {f : Turn} → Going P R B m f P' R' B' → m ≤ 0 → Filled bs P P' R R' B B'
    going_done {m} w h = let e : m ≡ 0 = omega arith in at-end (rw e at w)

-- all are to come
pub going_start : (s : List ℕ) (from end count : ℕ) {b : Builder} {P : List ℤ} {R B : List ℕ} → (let bs = blocks_from count (pos 0) (pos 0) (within s from end) in
    b ≡ origin → (from ≤ end) × ((end ≤ length s) × (length s ≤ 2097152)) → fault_in bs ≡ Ok tt → Fits bs (length P) (length R) (length B)
    → Going s end bs P R B count (record { b = b; at = from }) P R B)
going_start s from end count o h e w =
    let bs = blocks_from count (pos 0) (pos 0) (within s from end) in
    rw o (record {
      places = refl;
      runs = refl;
      blocks = refl;
      coloured = coloured bs;
      same_places = refl;
      same_runs = refl;
      same_blocks = refl;
      ready = record {
        sound = e;
        shut = refl;
        fresh = refl;
        place_cells = omega (arith, w.place_cells);
        run_cells = omega (arith, w.run_cells);
        block_cells = λ c. omega (arith, w.block_cells c);
        spare = omega arith;
        inside = h.0;
        within = h.1.0;
        short = h.1.1;
      };
    })
