-- The records of a file looked at, one or two at once, and so on to the end. Assumes nothing.
use Rattle.std.specs.Prelude.{Some, None, Option}
use Prim.Native.Nat.{ℕ, ◌+◌, ◌≤◌, ◌<◌}
use mathlib.Core.Path.{◌≡◌, refl, sym, ap, ◌∙◌}
use mathlib.Core.Bool.{Bool, true, false, ◌&&◌}
use mathlib.Core.List.{List}
use native.Mathlib.Omega.{arith}
use lib.IntN.{ℤ, pos, ◌+ℤ◌}
use lib.ListN.{length, drop}
use Rattle.rules.specs.Hoop.{in_hoop, all_in_hoop}
use Rattle.rules.specs.Records.{record_then}
use Rattle.rules.specs.declared.Hoop.{Hoop}
use Rattle.rules.specs.declared.Record.{Record}
use Rattle.rules.specs.declared.Record.TheVariants.{StitchBy, JumpBy, ChangeBy, Finish}
use Rattle.laws.specs.Ints.{abs-add}
use Rattle.laws.specs.Tests.{by-test}
use Rattle.read_records.specs.Fields.{len_of, dx_of, dy_of}
use Rattle.read_records.specs.Firsts.{first_record_of}
use Rattle.read_records.specs.declared.Row.{Row}
use Rattle.read_builder.proofs.Places.{mag-abs}
use Rattle.read_passes.proofs.Loops.{this, stays, ended, now-then}
use Rattle.read_passes.specs.Told.{places_in}
use Rattle.read_passes.specs.Walks.{events_from}
use Rattle.hoop_records.specs.Looks.{starts_in, stepped, placed_at, sewn, sewn_two, Leads, LeadsTwo, fits_from}
use Rattle.hoop_records.specs.Rows.{Looking, Onward, Looks}
use Rattle.hoop_records.specs.declared.looks.Look.{Look}
use Rattle.hoop_records.proofs.Events.{fits-stitch, fits-jump, fits-change, looks-more, Going, going_done}

module _ (f : Row) {bytes : List ℕ} {w : Look} (g : Looking bytes w) where
  -- ---- the record at a look leads to a place of 32 bits, near by the bytes that are then behind

  module _ {r : Record} (e : first_record_of f (drop w.at bytes) ≡ r) where
    pub can-step : Leads w (dx_of r) (dy_of r) (len_of r)
    can-step =
        let k = this f bytes w.at (sym e) in
        let l = stays f bytes w.at (sym e) g.within in
        record {
          x = omega (arith, g, k.dx, l, abs-add w.x (dx_of r), mag-abs (w.x +ℤ dx_of r));
          y = omega (arith, g, k.dy, l, abs-add w.y (dy_of r), mag-abs (w.y +ℤ dy_of r));
          at = omega (arith, g, l);
        }

    near-still : (o : Bool) → Looking bytes (stepped o w (dx_of r) (dy_of r) (len_of r))
    near-still o =
        let k = this f bytes w.at (sym e) in
        let l = stays f bytes w.at (sym e) g.within in
        record {
          x = omega (arith, g, k.dx, abs-add w.x (dx_of r));
          y = omega (arith, g, k.dy, abs-add w.y (dy_of r));
          within = l;
          short = g.short;
        }

  -- ---- what is seen of it

  module _ {h : Hoop} {dx dy : ℤ} {n : ℕ} where
    pub looks-sewn : first_record_of f (drop w.at bytes) ≡ StitchBy dx dy n → Looks f h bytes w (sewn h w dx dy n)
    unfolding record_then
    looks-sewn e = record {
      same = ap (fits_from h w) (now-then f bytes w.at (sym e)) ∙ fits-stitch h w dx dy n (events_from f bytes);
      onward =
          let k = this f bytes w.at (sym e) in
          by-test (starts_in h w && in_hoop h (w.x +ℤ dx) (w.y +ℤ dy)) (λ t. rw t (near-still e true, omega (arith, k.fair))) (λ t. rw t tt);
    }

    pub looks-jump : first_record_of f (drop w.at bytes) ≡ JumpBy dx dy n → Looks f h bytes w (Some (stepped false w dx dy n))
    unfolding record_then
    looks-jump e = record {
      same = ap (fits_from h w) (now-then f bytes w.at (sym e)) ∙ fits-jump h w dx dy n (events_from f bytes);
      onward = let k = this f bytes w.at (sym e) in (near-still e false, omega (arith, k.fair));
    }

    pub looks-change : first_record_of f (drop w.at bytes) ≡ ChangeBy dx dy n → Looks f h bytes w (Some (stepped false w dx dy n))
    unfolding record_then
    looks-change e = record {
      same = ap (fits_from h w) (now-then f bytes w.at (sym e)) ∙ fits-change h w dx dy n (events_from f bytes);
      onward = let k = this f bytes w.at (sym e) in (near-still e false, omega (arith, k.fair));
    }

  pub looks-end : {h : Hoop} → w.at < length bytes → first_record_of f (drop w.at bytes) ≡ Finish → Looks f h bytes w (Some (placed_at w (length bytes)))
  unfolding record_then
  looks-end {h} l e = record {
    same = ap (fits_from h w) (now-then f bytes w.at (sym e) ∙ sym (ended f bytes (length bytes) (omega arith)));
    onward = (omega (arith, g), l);
  }

-- ---- two in a row

onward_then : (bytes : List ℕ) (w v : Look) → w.at < v.at → (r : Option Look) → Onward bytes v r → Onward bytes w r
onward_then bytes w v l (Some u) o = (o.0, omega (arith, o.1))
onward_then bytes w v l None o = tt

module _ (f : Row) {bytes : List ℕ} {w : Look} (g : Looking bytes w) {dx dy ex ey : ℤ} {n : ℕ}
    (e : first_record_of f (drop w.at bytes) ≡ StitchBy dx dy n) (e₂ : first_record_of f (drop (w.at + n) bytes) ≡ StitchBy ex ey n) where
  pub can-two : LeadsTwo w dx dy ex ey n
  can-two = (can-step f g e, can-step f (near-still f g e true) e₂)

  pub looks-two : {h : Hoop} → Looks f h bytes w (sewn_two h w dx dy ex ey n)
  looks-two {h} =
      let v = stepped true w dx dy n in
      let k = this f bytes w.at (sym e) in
      looks-more ex ey n (starts_in h w && in_hoop h (w.x +ℤ dx) (w.y +ℤ dy)) (onward_then bytes w v (omega (arith, k.fair)))
      (looks-sewn f g e) (looks-sewn f (near-still f g e true) e₂)

-- ---- from the front, to the end

module _ (f : Row) (h : Hoop) (bytes : List ℕ) where
  abbrev pub Rows : Look → Look → Type 0
  Rows first w = Going h (events_from f bytes) (Looking bytes) first w

  module _ {w : Look} (e : w ≡ record { x = pos 0; y = pos 0; running = false; at = 0 }) where
    pub front-looking : length bytes ≤ 2097152 → Looking bytes w
    front-looking s = rw e (record { x = omega arith; y = omega arith; within = omega arith; short = s })

    pub front-all : fits_from h w (events_from f bytes w.at) ≡ all_in_hoop h (places_in (first_record_of f) bytes)
    front-all = rw e refl

  pub at-end : {first w : Look} → Rows first w → length bytes ≤ w.at → true ≡ fits_from h first (events_from f bytes first.at)
  at-end {w = w} g l = going_done g (ended f bytes w.at l)
