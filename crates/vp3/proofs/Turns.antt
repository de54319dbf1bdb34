-- Any command by itself, and two stitches at once. Assumes nothing.
use Prim.Native.Nat.{ℕ, ◌+◌, ◌≤◌, ◌<◌}
use mathlib.Core.Path.{◌≡◌, refl, sym, ap, ◌∙◌}
use mathlib.Core.List.{List, ◌++◌, append_assoc}
use native.Mathlib.Omega.{arith}
use lib.IntN.{ℤ}
use lib.ListN.{length, get_or, length-append}
use Rattle.rules.specs.Lists.{op_of, commands}
use Rattle.rules.specs.Vp3.{vp3_cmd, last_stitch, stitches_from}
use Rattle.rules.specs.declared.Cmd.{Cmd}
use Rattle.rules.specs.declared.Op.{Op}
use Rattle.laws.specs.Buffers.{Put, writing-room, writing_more}
use Rattle.laws.specs.Listing.{cmd_at}
use Rattle.laws.specs.Places.{Small}
use Rattle.vp3.specs.Blocks.{between}
use Rattle.vp3.proofs.Numbers.{read}
use Rattle.vp3.proofs.Slices.{commands-between}
use Rattle.vp3.proofs.Stitches.{Here, Moves, Turn, read_at, Stitching}
use Rattle.vp3.proofs.Pairs.{last-small}

pub cmd-turn : {xs ys : List ℤ} {i : ℕ} {px py dx dy : ℤ} (ks : List ℕ) {op : Op} → Here xs ys i → Moves xs ys i px py dx dy → op ≡ op_of (get_or ks i 0) → Small px → Small py
    → Turn px py (cmd_at xs ys ks i) (vp3_cmd op (read dx) (read dy)) (last_stitch op px (read_at xs i)) (last_stitch op py (read_at ys i))
unfolding stitches_from
cmd-turn ks {op} h d e p q = rw (h.read_across, h.read_down, d.across, d.down, e) record {
  bytes = λ b. refl;
  across = last-small _ _ _ p h.across;
  down = last-small _ _ _ q h.down;
}

module _ {xs ys : List ℤ} {ks d₀ : List ℕ} {base : ℕ} {whole d : List ℕ} {to i end : ℕ} {px py : ℤ} (s : Stitching xs ys ks d₀ base whole d to i end px py)
    {vs ws : List ℕ} {x y x' y' : ℤ} (l : i + 1 < end) (t : Turn px py (cmd_at xs ys ks i) vs x y) (u : Turn x y (cmd_at xs ys ks (i + 1)) ws x' y') where
  abbrev behind : List Cmd
  behind = between (commands xs ys ks) (i + 1 + 1) end

  bytes : stitches_from px py (between (commands xs ys ks) i end) ≡ (vs ++ ws) ++ stitches_from x' y' behind
  bytes =
      ap (stitches_from px py) (commands-between xs ys ks i end (omega arith) s.listed) ∙ t.bytes (between (commands xs ys ks) (i + 1) end)
      ∙ ap (λ (z : List ℕ). vs ++ z) (ap (stitches_from x y) (commands-between xs ys ks (i + 1) end l s.listed) ∙ u.bytes behind)
      ∙ sym (append_assoc vs ws (stitches_from x' y' behind))

  pub two-room : to + (length vs + length ws) ≤ length d
  two-room = omega (arith, writing-room (vs ++ ws) (stitches_from x' y' behind) s.writing bytes, length-append vs ws)

  pub two-on : {d' : List ℕ} {m : ℕ} → Put d d' to m (vs ++ ws) → Stitching xs ys ks d₀ base whole d' m (i + 1 + 1) end x' y'
  two-on p = record {
    writing = writing_more s.writing bytes p;
    ahead = omega (arith, s.ahead, p.ends);
    inside = omega arith;
    listed = s.listed;
    across = u.across;
    down = u.down;
  }
