-- A file by what was counted: its bounds, its length, its head and its blocks. Assumes nothing.
use Prim.Native.Nat.{ℕ, ◌+◌, ◌*◌}
use mathlib.Core.Path.{◌≡◌, refl, sym, ◌∙◌}
use mathlib.Core.Bool.{false}
use mathlib.Core.List.{List, ◌++◌}
use native.Mathlib.Omega.{arith}
use lib.IntN.{ℤ, pos, ◌+ℤ◌}
use lib.ListN.{length}
use Rattle.rules.specs.Refusals.{place_outside}
use Rattle.rules.specs.Thumbnails.{color_blocks}
use Rattle.rules.specs.Vp3.{color_parts, vp3_file}
use Rattle.rules.specs.declared.Cmd.{Cmd}
use Rattle.rules.specs.declared.Color.{Color}
use Rattle.geom.specs.declared.Bounds.{Bounds}
use Rattle.geom.specs.Frames.{bounds_of}
use Rattle.laws.specs.Places.{small-min_x, small-min_y, small-max_x, small-max_y}
use Rattle.vp3.specs.declared.heads.Middle.{Middle}
use Rattle.vp3.specs.declared.blocks.Scans.{Scans}
use Rattle.vp3.specs.Heads.{Near, head_text}
use Rattle.vp3.specs.Blocks.{ScannedAll}
use Rattle.vp3.proofs.Texts.{middle_of, parts, length-parts, length-file, file-is}

pub bounds-near : (cs : List Cmd) {b : Bounds} → place_outside cs ≡ false → b ≡ bounds_of cs → Near b
unfolding bounds_of
bounds-near cs p e = rw e record { left = small-min_x cs p; right = small-max_x cs p; top = small-min_y cs p; bottom = small-max_y cs p }

-- r, b, m and l are what the code has found
module _ (cs : List Cmd) (ts : List Color) {r : Scans} {ends lens : List ℕ} (s : ScannedAll cs ends lens r) where
  pub parts-long : (mx my : ℤ) → length (color_parts mx my (pos 0) (pos 0) ts (color_blocks cs)) ≡ 57 * r.blocks + r.len
  parts-long mx my = omega (arith, length-parts mx my (pos 0) (pos 0) ts (color_blocks cs), s.listed.blocks, s.len)

  all-long : 226 + 57 * r.blocks + r.len ≡ 226 + length (parts cs ts)
  all-long = omega (arith, parts-long (middle_of cs ts).x (middle_of cs ts).y)

  pub file-long : length (vp3_file cs ts) ≡ 226 + 57 * r.blocks + r.len
  file-long = length-file cs ts ∙ sym all-long

  pub file-as : {b : Bounds} {m : Middle} {l : ℕ} → b ≡ bounds_of cs → m.x ≡ b.max.x +ℤ b.min.x → m.y ≡ b.max.y +ℤ b.min.y → l ≡ length cs
      → head_text b (226 + 57 * r.blocks + r.len) l r.blocks ++ color_parts m.x m.y (pos 0) (pos 0) ts (color_blocks cs) ≡ vp3_file cs ts
  file-as e x y n = rw (x, y, e, n, all-long, s.listed.blocks) (file-is cs ts refl)
