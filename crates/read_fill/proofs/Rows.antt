-- DST: the cuts counted and those left, from record to record. Assumes nothing.
use Prim.Native.Nat.{ℕ, ◌+◌, ◌≤◌, ◌<◌}
use mathlib.Core.Path.{◌≡◌, ap, ◌∙◌}
use mathlib.Core.List.{List, [], ◌∷◌}
use native.Mathlib.Nat.{zero-add}
use native.Mathlib.Omega.{arith}
use lib.IntN.{ℤ}
use lib.ListN.{length, drop}
use lib.Seq.{drop-drop}
use Rattle.rules.specs.Answers.{block_total, cuts}
use Rattle.rules.specs.Dst.{dst_cuts}
use Rattle.rules.specs.Records.{Event, stitch, jump, events}
use Rattle.rules.specs.declared.Counts.{Counts}
use Rattle.rules.specs.declared.Record.{Record}
use Rattle.rules.specs.declared.Record.TheVariants.{StitchBy, JumpBy, ChangeBy, Finish}
use Rattle.laws.specs.Reading.{read-stitch, read-jump, read-change, read-finish}
use Rattle.read_records.proofs.Dsts.{dst-short}
use Rattle.read_records.proofs.Formats.{inside}
use Rattle.read_records.specs.Firsts.{first_record_of}
use Rattle.read_records.specs.declared.Row.{Row}
use Rattle.read_records.specs.declared.Row.TheVariants.{Pec, Dst, Exp, Jef}
use Rattle.read_builder.proofs.Rows.{none_left, kept-change}
use Rattle.read_builder.specs.Builders.{origin, jumped, changed}
use Rattle.read_builder.specs.Cuts.{cuts_left, Kept}
use Rattle.read_builder.specs.declared.Builder.{Builder}
use Rattle.read_passes.proofs.Found.{in_dst}
use Rattle.read_passes.specs.Told.{runs_in, blocks_in, Sized, sizes_of, Told}
use Rattle.read_passes.specs.Walks.{events_from}
use Rattle.read_fill.specs.Cutting.{Cutting, RowsOf, with_rows}

pub cutting-start : {bytes : List ℕ} {b : Builder} → b ≡ origin → Cutting bytes b 0 0 0
cutting-start e = record { all = zero-add _; sewing = λ k. absurd (k (ap (λ (q : Builder). q.run) e)); since = omega arith; cuts = omega arith }

module _ {bytes : List ℕ} {b : Builder} {s n at : ℕ} (g : Cutting bytes b s n at) where
  -- the record at `at` is of three bytes and makes event e
  keeps : {e : Event} → events_from Dst bytes at ≡ e ∷ events (first_record_of Dst) (drop 3 (drop at bytes)) → (s' n' : ℕ) → Kept e s n s' n'
      → n' + cuts_left s' (events_from Dst bytes (at + 3)) ≡ dst_cuts (events (first_record_of Dst) bytes)
  keeps here s' n' w =
      let next : events (first_record_of Dst) (drop 3 (drop at bytes)) ≡ events_from Dst bytes (at + 3) = simp drop-drop in
      w (events_from Dst bytes (at + 3)) ∙ rw (← next, ← here) g.all

  module _ {dx dy : ℤ} where
    pub cutting-stitch : first_record_of Dst (drop at bytes) ≡ StitchBy dx dy 3 → {s' n' : ℕ} → Kept (stitch dx dy) s n s' n' → s' ≡ 1 → n' ≤ n + 1
        → {q : Builder} → Cutting bytes q s' n' (at + 3)
    cutting-stitch e {s'} {n'} w one h = record {
      all = keeps (read-stitch (first_record_of Dst) (inside Dst) (drop at bytes) e) s' n' w;
      sewing = λ k. one;
      since = omega (arith, one);
      cuts = omega (arith, h, g.cuts);
    }

    -- no run is open then
    pub cutting-jump : first_record_of Dst (drop at bytes) ≡ JumpBy dx dy 3 → {s' : ℕ} → Kept (jump dx dy) s n s' n → s' ≤ s + 1
        → {q : Builder} {x y : ℤ} → q ≡ jumped b x y → Cutting bytes q s' n (at + 3)
    cutting-jump e {s'} w h z = record {
      all = keeps (read-jump (first_record_of Dst) (inside Dst) (drop at bytes) e) s' n w;
      sewing = λ k. absurd (k (ap (λ (q : Builder). q.run) z));
      since = omega (arith, h, g.since);
      cuts = omega (arith, g.cuts);
    }

    pub cutting-change : first_record_of Dst (drop at bytes) ≡ ChangeBy dx dy 3 → {q : Builder} {x y : ℤ} → q ≡ changed b x y → Cutting bytes q 0 n (at + 3)
    cutting-change e z = record {
      all = keeps (read-change (first_record_of Dst) (inside Dst) (drop at bytes) e) 0 n (kept-change s n dx dy);
      sewing = λ k. absurd (k (ap (λ (q : Builder). q.run) z));
      since = omega arith;
      cuts = omega (arith, g.cuts);
    }

  -- nothing more is read
  all-counted : events_from Dst bytes at ≡ [] → n ≡ dst_cuts (events (first_record_of Dst) bytes)
  all-counted e =
      let z : cuts_left s (events_from Dst bytes at) ≡ 0 = rw e (none_left s) in
      omega (arith, g.all, z)

  pub cutting-done : length bytes < at + 3 → n ≡ dst_cuts (events (first_record_of Dst) bytes)
  cutting-done h = all-counted (read-finish (first_record_of Dst) (inside Dst) (drop at bytes) (in_dst _ ∙ dst-short bytes at h))

  pub cutting-end : first_record_of Dst (drop at bytes) ≡ Finish → at ≤ length bytes → Cutting bytes b s n (length bytes)
  cutting-end e h =
      let f : first_record_of Dst (drop (length bytes) bytes) ≡ Finish = in_dst _ ∙ dst-short bytes (length bytes) (omega arith) in
      let z : events_from Dst bytes (length bytes) ≡ [] = read-finish (first_record_of Dst) (inside Dst) (drop (length bytes) bytes) f in
      let c = all-counted (read-finish (first_record_of Dst) (inside Dst) (drop at bytes) e) in
      record {
        all = rw (z, none_left s) (omega (arith, c));
        sewing = g.sewing;
        since = omega (arith, g.since);
        cuts = omega (arith, g.cuts);
      }

-- ---- all formats

-- runs less blocks
plain-cuts : {first : List ℕ → Record} {bytes : List ℕ} (c : Counts) → Sized first bytes (sizes_of c) → c.cuts + c.blocks ≡ c.runs
    → (colour : ℕ → ℕ) → c.cuts ≡ cuts (runs_in first bytes) (blocks_in colour first bytes)
unfolding cuts block_total
plain-cuts c s e colour = omega (arith, e, s.runs, s.blocks colour)

pub told_with : (f : Row) (bytes : List ℕ) (c : Counts) (n : ℕ) → Sized (first_record_of f) bytes (sizes_of c) → c.cuts + c.blocks ≡ c.runs
    → RowsOf f bytes n → Told f bytes (with_rows f c n)
told_with Pec bytes c n s e w = record { sizes = s; cuts = plain-cuts c s e }
told_with Dst bytes c n s e w = record { sizes = s; cuts = λ colour. w }
told_with Exp bytes c n s e w = record { sizes = s; cuts = plain-cuts c s e }
told_with Jef bytes c n s e w = record { sizes = s; cuts = plain-cuts c s e }
