-- One turn of a loop over the commands of a block: a stitch, or another command. Assumes nothing.
use Prim.Native.Nat.{ℕ, zero, suc, ◌+◌, ◌*◌, ◌^◌, ◌≤◌, ◌<◌}
use mathlib.Core.Path.{◌≡◌, refl, ap, ◌∙◌}
use mathlib.Core.Bool.{true, false}
use mathlib.Core.List.{List, ◌∷◌, ◌++◌}
use native.Mathlib.Omega.{arith}
use lib.IntN.{ℤ, pos, nat_abs, ◌-ℤ◌}
use lib.ListN.{length, get_or, length-append}
use Rattle.rules.specs.Lists.{op_of, is_change, commands}
use Rattle.rules.specs.Refusals.{place_outside}
use Rattle.rules.specs.Vp3.{stitch_of, vp3_cmd, last_stitch, stitches_from}
use Rattle.rules.specs.declared.Cmd.{Cmd}
use Rattle.laws.specs.Vp3Lengths.{stitches-length}
use Rattle.laws.specs.Places.{Small, Within, every, apart}
use Rattle.laws.specs.Listing.{cmd_at, commands-at, commands-more}
use Rattle.laws.specs.Buffers.{Put, Writing, writing_start, writing-room, writing_more, writing-done}
use Rattle.vp3.specs.Blocks.{between, Scanned}
use Rattle.vp3.proofs.Numbers.{read, back-small}
use Rattle.vp3.proofs.Slices.{between_none, commands-between}
use Rattle.vp3.proofs.Splits.{first_at, first_short, first-end, first-change, first_more}

-- ---- kinds

pub change-is : (k : ℕ) → k ≡ 3 → is_change (op_of k) ≡ true
unfolding op_of is_change
change-is k e = rw e

pub change-not : (k : ℕ) → (k ≡ 3 → ⊥) → is_change (op_of k) ≡ false
unfolding op_of is_change
change-not zero h = refl
change-not (suc zero) h = refl
change-not (suc (suc zero)) h = refl
change-not (suc (suc (suc zero))) h = absurd (h refl)
change-not (suc (suc (suc (suc k)))) h = refl

last-stays : (k : ℕ) (z z' : ℤ) → (k ≡ 0 → ⊥) → last_stitch (op_of k) z z' ≡ z
unfolding op_of last_stitch
last-stays zero z z' h = absurd (h refl)
last-stays (suc zero) z z' h = refl
last-stays (suc (suc zero)) z z' h = refl
last-stays (suc (suc (suc zero))) z z' h = refl
last-stays (suc (suc (suc (suc k)))) z z' h = refl

-- ---- the bytes of a command and of those behind it

module _ (x y : ℤ) (c : Cmd) (cs : List Cmd) where
  pub stitch-more : c.kind ≡ 0 → stitches_from x y (c ∷ cs) ≡ stitch_of (c.x -ℤ x) (c.y -ℤ y) ++ stitches_from c.x c.y cs
  unfolding stitches_from op_of vp3_cmd last_stitch
  stitch-more e = rw e

  pub other-more : (c.kind ≡ 0 → ⊥) → stitches_from x y (c ∷ cs) ≡ vp3_cmd (op_of c.kind) (c.x -ℤ x) (c.y -ℤ y) ++ stitches_from x y cs
  unfolding stitches_from
  other-more h = rw (last-stays c.kind x c.x h, last-stays c.kind y c.y h)

-- ---- the command at i, and the step to it from (px, py) as the code has it

abbrev pub read_at : List ℤ → ℕ → ℤ
read_at zs i = read (get_or zs i (pos 0))

pub record Here (xs ys : List ℤ) (i : ℕ) : Type 0 where
  pub across : Small (get_or xs i (pos 0))
  pub down : Small (get_or ys i (pos 0))
  pub read_across : read_at xs i ≡ get_or xs i (pos 0)
  pub read_down : read_at ys i ≡ get_or ys i (pos 0)

pub here : (xs ys : List ℤ) (ks : List ℕ) (i : ℕ) → place_outside (commands xs ys ks) ≡ false → i < length (commands xs ys ks) → Here xs ys i
here xs ys ks i e l =
    let w : Within (cmd_at xs ys ks i) = rw (commands-at xs ys ks i l) at (every (commands xs ys ks) e i l) in
    record {
      across = w.across;
      down = w.down;
      read_across = back-small (get_or xs i (pos 0)) (omega (arith, w.across));
      read_down = back-small (get_or ys i (pos 0)) (omega (arith, w.down));
    }

pub near-across : {xs ys : List ℤ} {i : ℕ} → Here xs ys i → Small (read_at xs i)
near-across h = rw h.read_across h.across

pub near_down : {xs ys : List ℤ} {i : ℕ} → Here xs ys i → Small (read_at ys i)
near_down h = rw h.read_down h.down

pub record Moves (xs ys : List ℤ) (i : ℕ) (px py dx dy : ℤ) : Type 0 where
  pub across : read dx ≡ get_or xs i (pos 0) -ℤ px
  pub down : read dy ≡ get_or ys i (pos 0) -ℤ py
  pub near_x : nat_abs (read dx) ≤ 32767
  pub near_y : nat_abs (read dy) ≤ 32767

-- the step between two places that are near 0
pub step-fits : (a b : ℤ) → Small a → Small b → nat_abs (b -ℤ a) < 2 ^ 31
step-fits a b h k = omega (arith, apart b a k h)

step-near : (a b d : ℤ) → Small a → Small b → d ≡ b -ℤ a → nat_abs d ≤ 32000
step-near a b d h k e = rw e (apart b a k h)

pub moves : {xs ys : List ℤ} {i : ℕ} {px py dx dy : ℤ} → Here xs ys i → Small px → Small py → dx ≡ read_at xs i -ℤ px → dy ≡ read_at ys i -ℤ py
    → Moves xs ys i px py dx dy
moves {xs} {ys} {i} {px} {py} {dx} {dy} h sx sy e f =
    let near_x = step-near px (read_at xs i) dx sx (near-across h) e in
    let near_y = step-near py (read_at ys i) dy sy (near_down h) f in
    let p : read dx ≡ dx = back-small dx (omega (arith, near_x)) in
    let q : read dy ≡ dy = back-small dy (omega (arith, near_y)) in
    record {
      across = p ∙ e ∙ ap (λ (z : ℤ). z -ℤ px) h.read_across;
      down = q ∙ f ∙ ap (λ (z : ℤ). z -ℤ py) h.read_down;
      near_x = rw p (omega (arith, near_x));
      near_y = rw q (omega (arith, near_y));
    }

-- the command c, from (px, py): its bytes vs, and where the last stitch is behind it
pub record Turn (px py : ℤ) (c : Cmd) (vs : List ℕ) (x y : ℤ) : Type 0 where
  pub bytes : (b : List Cmd) → stitches_from px py (c ∷ b) ≡ vs ++ stitches_from x y b
  pub across : Small x
  pub down : Small y

-- ---- a scan

pub record Scanning (xs ys : List ℤ) (ks : List ℕ) (from : ℕ) (x y : ℤ) (n i : ℕ) (px py : ℤ) (len : ℕ) : Type 0 where
  pub count : n ≡ length (commands xs ys ks)
  pub inside : i ≤ n
  pub ends : i + length (first_at (commands xs ys ks) i) ≡ from + length (first_at (commands xs ys ks) from)
  pub bytes : len + length (stitches_from px py (first_at (commands xs ys ks) i)) ≡ length (stitches_from x y (first_at (commands xs ys ks) from))
  pub across : Small px
  pub down : Small py

pub scan-start : (xs ys : List ℤ) (ks : List ℕ) (from : ℕ) (x y : ℤ) {n : ℕ} → n ≡ length (commands xs ys ks) → from ≤ length (commands xs ys ks) → Small x → Small y
    → Scanning xs ys ks from x y n from x y 0
scan-start xs ys ks from x y e h p q = record { count = e; inside = omega arith; ends = refl; bytes = omega arith; across = p; down = q }

module _ {xs ys : List ℤ} {ks : List ℕ} {from : ℕ} {x y : ℤ} {n i : ℕ} {px py : ℤ} {len : ℕ} (s : Scanning xs ys ks from x y n i px py len) where
  -- what was counted is little
  pub scan-little : from ≤ n → len ≤ 8 * n
  scan-little h =
      let cs : List Cmd = commands xs ys ks in
      omega (arith, s.count, s.bytes, stitches-length x y (first_at cs from), first_short cs from (omega (arith, s.count)))

  pub scan-done : n ≤ i → Scanned (commands xs ys ks) from x y record { len = len; end = i }
  unfolding stitches_from
  scan-done h =
      let none = first-end (commands xs ys ks) i (omega (arith, s.count)) in
      let b = rw none at s.bytes in
      record { end = omega (arith, s.ends, ap length none); len = omega (arith, b); within = omega (arith, s.count, s.inside) }

  module _ (l : i < n) where
    inside : i < length (commands xs ys ks)
    inside = omega (arith, s.count)

    pub scan-change : get_or ks i 0 ≡ 3 → Scanned (commands xs ys ks) from x y record { len = len; end = i }
    unfolding stitches_from
    scan-change k =
        let none = first-change (commands xs ys ks) (cmd_at xs ys ks i) i (commands-more xs ys ks i inside) (change-is _ k) in
        let b = rw none at s.bytes in
        record { end = omega (arith, s.ends, ap length none); len = omega (arith, b); within = omega (arith, s.count) }

    first : (get_or ks i 0 ≡ 3 → ⊥) → first_at (commands xs ys ks) i ≡ cmd_at xs ys ks i ∷ first_at (commands xs ys ks) (i + 1)
    first k = first_more (commands xs ys ks) (cmd_at xs ys ks i) i (commands-more xs ys ks i inside) (change-not _ k)

    pub scan-on : {vs : List ℕ} {x' y' : ℤ} {m : ℕ} → Turn px py (cmd_at xs ys ks i) vs x' y' → (get_or ks i 0 ≡ 3 → ⊥) → m ≡ length vs
        → Scanning xs ys ks from x y n (i + 1) x' y' (len + m)
    scan-on {vs} {x'} {y'} t k e =
        let next : List Cmd = first_at (commands xs ys ks) (i + 1) in
        let some = ap (stitches_from px py) (first k) ∙ t.bytes next in
        record {
          count = s.count;
          inside = omega arith;
          ends = omega (arith, s.ends, ap length (first k));
          bytes = omega (arith, s.bytes, ap length some, length-append vs (stitches_from x' y' next), e);
          across = t.across;
          down = t.down;
        }

-- ---- the commands of a block, written: whole is what the buffer gets, and these from i to before `end` are still to come

pub record Stitching (xs ys : List ℤ) (ks d₀ : List ℕ) (base : ℕ) (whole d : List ℕ) (to i end : ℕ) (px py : ℤ) : Type 0 where
  pub writing : Writing d₀ base whole d to (stitches_from px py (between (commands xs ys ks) i end))
  pub ahead : base ≤ to
  pub inside : i ≤ end
  pub listed : end ≤ length (commands xs ys ks)
  pub across : Small px
  pub down : Small py

pub stitch-start : (xs ys : List ℤ) (ks d : List ℕ) (base from end : ℕ) (x y : ℤ) → from ≤ end → end ≤ length (commands xs ys ks) → Small x → Small y
    → (let whole = stitches_from x y (between (commands xs ys ks) from end) in base + length whole ≤ length d → Stitching xs ys ks d base whole d base from end x y)
stitch-start xs ys ks d base from end x y h k p q room =
    record { writing = writing_start d base _ room; ahead = omega arith; inside = h; listed = k; across = p; down = q }

module _ {xs ys : List ℤ} {ks d₀ : List ℕ} {base : ℕ} {whole d : List ℕ} {to i end : ℕ} {px py : ℤ} (s : Stitching xs ys ks d₀ base whole d to i end px py) where
  pub stitch-done : end ≤ i → Put d₀ d base to whole
  unfolding stitches_from
  stitch-done h = writing-done s.writing (rw (between_none (commands xs ys ks) i end h))

  module _ {vs : List ℕ} {x' y' : ℤ} (l : i < end) (t : Turn px py (cmd_at xs ys ks i) vs x' y') where
    abbrev behind : List Cmd
    behind = between (commands xs ys ks) (i + 1) end

    bytes : stitches_from px py (between (commands xs ys ks) i end) ≡ vs ++ stitches_from x' y' behind
    bytes = ap (stitches_from px py) (commands-between xs ys ks i end l s.listed) ∙ t.bytes behind

    pub stitch-room : to + length vs ≤ length d
    stitch-room = writing-room vs (stitches_from x' y' behind) s.writing bytes

    pub stitch-on : {d' : List ℕ} {m : ℕ} → Put d d' to m vs → Stitching xs ys ks d₀ base whole d' m (i + 1) end x' y'
    stitch-on p = record {
      writing = writing_more s.writing bytes p;
      ahead = omega (arith, s.ahead, p.ends);
      inside = omega arith;
      listed = s.listed;
      across = t.across;
      down = t.down;
    }
