-- A scan by two stitches at once, and its last command. Assumes nothing.
use Prim.Native.Nat.{ℕ, ◌+◌, ◌^◌, ◌≤◌, ◌<◌}
use mathlib.Core.Path.{◌≡◌, refl, ap, ◌∙◌}
use mathlib.Core.List.{List}
use native.Mathlib.Omega.{arith}
use lib.IntN.{ℤ, pos, nat_abs, ◌-ℤ◌}
use lib.ListN.{length, get_or}
use mir.Facts.{to_z-of_z}
use mir.Syntax.{w32}
use mir.Val.{SFits}
use Rattle.rules.specs.Lists.{op_of, commands}
use Rattle.rules.specs.Vp3.{stitch_of, vp3_cmd, last_stitch, stitches_from}
use Rattle.rules.specs.declared.Op.{Op}
use Rattle.rules.specs.declared.Op.TheVariants.{Stitch, Jump, Trim, ColorChange, End}
use Rattle.laws.specs.Places.{Small, apart}
use Rattle.laws.specs.Listing.{cmd_at}
use Rattle.vp3.specs.Blocks.{Scanned, Rest}
use Rattle.vp3.specs.declared.blocks.Scan.{Scan}
use Rattle.vp3.proofs.Numbers.{read, back-small}
use Rattle.vp3.proofs.Stitches.{Scanning, Here, Moves, Turn, read_at, stitch-more, scan-on}

-- a step, as the code has it
pub stepped : {a b d : ℤ} → SFits w32 a → SFits w32 b → Small a → Small b → d ≡ read a -ℤ read b → (read d ≡ a -ℤ b) × (nat_abs (read d) ≤ 32767)
stepped {a} {b} {d} f g h k e =
    let is : d ≡ a -ℤ b = rw (to_z-of_z f, to_z-of_z g) at e in
    let near = apart a b h k in
    let back : read d ≡ d = back-small d (rw is (omega (arith, near))) in
    (back ∙ is, rw (back, is) (omega (arith, near)))

-- what is asked of it
pub step-room : (a b : ℤ) → SFits w32 a → SFits w32 b → Small a → Small b → nat_abs (read a -ℤ read b) < 2 ^ 31
step-room a b f g h k = rw (to_z-of_z f, to_z-of_z g) (omega (arith, apart a b h k))

-- ---- the turn of a stitch, by the two places, and of any command

pub place-turn : {xs ys : List ℤ} {i : ℕ} (ks : List ℕ) (px py : ℤ) → Here xs ys i → get_or ks i 0 ≡ 0
    → Turn px py (cmd_at xs ys ks i) (stitch_of (read_at xs i -ℤ px) (read_at ys i -ℤ py)) (read_at xs i) (read_at ys i)
place-turn {xs} {ys} {i} ks px py h k = rw (h.read_across, h.read_down)
    record { bytes = λ b. stitch-more px py (cmd_at xs ys ks i) b k; across = h.across; down = h.down }

pub last-small : (op : Op) (z z' : ℤ) → Small z → Small z' → Small (last_stitch op z z')
unfolding last_stitch
last-small Stitch z z' h k = k
last-small Jump z z' h k = h
last-small Trim z z' h k = h
last-small ColorChange z z' h k = h
last-small End z z' h k = h

last-read : (op : Op) (z z' : ℤ) {r : ℤ} → Small z → Small z' → r ≡ last_stitch op z (read z') → read z' ≡ z' → read r ≡ last_stitch op z z'
last-read op z z' {r} h k e f =
    let g : r ≡ last_stitch op z z' = rw f at e in
    let small : Small r = rw g (last-small op z z' h k) in
    back-small r (omega (arith, small)) ∙ g

module _ {xs ys : List ℤ} {i : ℕ} {px py dx dy : ℤ} (ks : List ℕ) (h : Here xs ys i) (d : Moves xs ys i px py dx dy) (p : Small px) (q : Small py) where
  any : Turn px py (cmd_at xs ys ks i) (vp3_cmd (op_of (get_or ks i 0)) (get_or xs i (pos 0) -ℤ px) (get_or ys i (pos 0) -ℤ py))
      (last_stitch (op_of (get_or ks i 0)) px (get_or xs i (pos 0))) (last_stitch (op_of (get_or ks i 0)) py (get_or ys i (pos 0)))
  unfolding stitches_from
  any = record { bytes = λ b. refl; across = last-small _ _ _ p h.across; down = last-small _ _ _ q h.down }

  pub any-turn : {op : Op} {x y : ℤ} → op ≡ op_of (get_or ks i 0) → x ≡ last_stitch op px (read_at xs i) → y ≡ last_stitch op py (read_at ys i)
      → Turn px py (cmd_at xs ys ks i) (vp3_cmd op (read dx) (read dy)) (read x) (read y)
  any-turn {op} {x} {y} e f g =
      let u : read x ≡ last_stitch op px (get_or xs i (pos 0)) = last-read op px (get_or xs i (pos 0)) p h.across f h.read_across in
      let v : read y ≡ last_stitch op py (get_or ys i (pos 0)) = last-read op py (get_or ys i (pos 0)) q h.down g h.read_down in
      rw (u, v, e, d.across, d.down) any

-- ---- two at once

module _ {xs ys : List ℤ} {ks : List ℕ} {from : ℕ} {x y : ℤ} {n i : ℕ} {px py : ℤ} {len : ℕ} (s : Scanning xs ys ks from x y n i px py len) where
  pub scan-two : {m : ℕ} → i + 1 < n → Here xs ys i → Here xs ys (i + 1) → get_or ks i 0 + get_or ks (i + 1) 0 ≡ 0
      → m ≡ length (stitch_of (read_at xs i -ℤ px) (read_at ys i -ℤ py))
      + length (stitch_of (read_at xs (i + 1) -ℤ read_at xs i) (read_at ys (i + 1) -ℤ read_at ys i))
      → Scanning xs ys ks from x y n (i + 1 + 1) (read_at xs (i + 1)) (read_at ys (i + 1)) (len + m)
  scan-two l h k zero e =
      let one = scan-on s (omega arith) (place-turn ks px py h (omega arith)) (λ z. omega arith) refl in
      let two = scan-on one l (place-turn ks (read_at xs i) (read_at ys i) k (omega arith)) (λ z. omega arith) refl in
      record {
        count = two.count;
        inside = two.inside;
        ends = two.ends;
        bytes = omega (arith, two.bytes, e);
        across = two.across;
        down = two.down;
      }

  -- the rest is what the last command takes
  pub scan-rest : {r : Scan} → Rest xs ys ks i px py len r → Scanned (commands xs ys ks) from x y r
  scan-rest t = record { end = t.end ∙ s.ends; len = t.len_is ∙ s.bytes; within = t.within }

pub rest-is : {xs ys : List ℤ} {ks : List ℕ} {i : ℕ} {px py : ℤ} {len m end : ℕ} {r : Scan} → Scanned (commands xs ys ks) i px py record { len = m; end = end }
    → r.end ≡ end → r.len ≡ len + m → Rest xs ys ks i px py len r
rest-is {len = len} s e f = record { end = e ∙ s.end; len_is = f ∙ ap (λ (k : ℕ). len + k) s.len; within = rw e s.within }
