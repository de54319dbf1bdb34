-- The loop that writes the sections: the place of the last stitch stays near. Assumes nothing.
use Prim.Native.Nat.{ℕ, ◌<◌}
use mathlib.Core.Path.{◌≡◌, sym, subst}
use mathlib.Core.Bool.{Bool, true, false}
use mathlib.Core.List.{List}
use lib.IntN.{ℤ, pos}
use lib.ListN.{length}
use Rattle.rules.specs.Lists.{commands}
use Rattle.rules.specs.Pes.{PesState, pes_start, pes_next}
use Rattle.rules.specs.declared.Cmd.{Cmd}
use Rattle.rules.specs.declared.Color.{Color}
use Rattle.rules.specs.declared.Op.{Op}
use Rattle.rules.specs.declared.Op.TheVariants.{Stitch, Jump, Trim, ColorChange, End}
use Rattle.pes_section_cmd.specs.States.{Near}
use Rattle.pes_sections.specs.States.{placed}
use Rattle.pes_sections.proofs.Points.{near-at}
use Rattle.pes_sections.proofs.Steps.{Turn}

-- a state by another name
pub near-as : {left bottom : ℤ} {s t : PesState} → t ≡ s → Near left bottom s.x s.y → Near left bottom t.x t.y
near-as {left} {bottom} e p = subst (λ (t : PesState). Near left bottom t.x t.y) (sym e) p

-- the state at first, as the code has it
pub near-start : (left bottom : ℤ) (ts : List Color) {t : PesState} → t ≡ pes_start ts → Near left bottom (pos 0) (pos 0) → Near left bottom t.x t.y
unfolding pes_start
near-start left bottom ts e p = near-as e p

module _ (left bottom : ℤ) (ts : List Color) (s : PesState) where
  -- the place of the last stitch is the one that was, or the command's
  near_next : (new : Bool) (op : Op) (c : Cmd) → Near left bottom s.x s.y → Near left bottom c.x c.y
      → Near left bottom (pes_next ts s new op c).x (pes_next ts s new op c).y
  unfolding pes_next
  near_next new Stitch c p q = q
  near_next new Jump c p q = p
  near_next new Trim c p q = p
  near_next true ColorChange c p q = p
  near_next false ColorChange c p q = p
  near_next new End c p q = p

-- the state after the command at i
pub near-after : {left bottom : ℤ} {xs ys : List ℤ} {ks : List ℕ} {i : ℕ} {s : PesState} {ts : List Color} {new : Bool} {t : PesState}
    → Turn xs ys ks i s ts new t → Near left bottom s.x s.y → placed left bottom (commands xs ys ks) → i < length (commands xs ys ks)
    → Near left bottom t.x t.y
near-after {left} {bottom} {xs} {ys} {ks} {i} {s} {ts} e p q l = near-as e.after (near_next left bottom ts s _ _ _ p (near-at xs ys ks i q l))
