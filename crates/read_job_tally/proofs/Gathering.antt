-- A tally of the commands of a content: one row more, and the end. Assumes nothing.
use Prim.Native.Nat.{ℕ, ◌+◌, ◌-◌, ◌≤◌, ◌<◌}
use mathlib.Core.Path.{◌≡◌, refl, sym, ap, ◌∙◌}
use mathlib.Core.Bool.{Bool, true, false, ◌&&◌, ◌||◌, not}
use mathlib.Core.List.{List}
use native.Mathlib.Omega.{arith}
use lib.Dec.{ltb, eqb}
use lib.IntN.{ℤ}
use lib.ListN.{length, drop, length-drop}
use mir.Val.{bool_byte}
use Rattle.rules.specs.Vocabulary.{pick}
use Rattle.rules.specs.Lists.{op_of, placed, same_place, is_change, stands}
use Rattle.rules.specs.Refusals.{outside, changes, moves}
use Rattle.rules.specs.Jobs.{rows_of}
use Rattle.laws.specs.Jobs.{row_at, rows_more, rows_none}
use Rattle.read_job_tally.specs.Tallies.{counted, tallied, Spare}
use Rattle.read_job_tally.specs.declared.Tally.{Tally}

-- a bool as a number
byte-is : (b : Bool) → bool_byte b ≡ pick b 1 0
byte-is true = refl
byte-is false = refl

pick_small : (b : Bool) → pick b 1 0 ≤ 1
pick_small true = omega arith
pick_small false = omega arith

-- t is the tally of the rows before `at`; with those from there on it is that of all
pub record Gathering (bytes : List ℕ) (t₀ t : Tally) (at : ℕ) : Type 0 where
  pub told : tallied t (rows_of (drop at bytes)) ≡ tallied t₀ (rows_of bytes)
  pub inside : at ≤ length bytes
  pub spare : Spare t (length bytes - at)

module _ {bytes : List ℕ} {t₀ : Tally} where
  module _ {t : Tally} {at : ℕ} (g : Gathering bytes t₀ t at) where
    pub gathering-more : {r : Tally} → 5 ≤ length bytes - at → r ≡ counted t (row_at bytes at) → Gathering bytes t₀ r (at + 5)
    unfolding tallied counted
    gathering-more h e = rw e record {
      told = sym (ap (tallied t) (rows_more bytes at (omega arith))) ∙ g.told;
      inside = omega arith;
      spare = record {
        few = omega (arith, g.spare.few);
        fewer = omega (arith, g.spare.fewer, pick_small (changes (row_at bytes at)));
      };
    }

    pub gathering-done : length bytes - at < 5 → t ≡ tallied t₀ (rows_of bytes)
    unfolding tallied
    gathering-done h = sym (ap (tallied t) (rows_none (drop at bytes) (rw (length-drop at bytes) h))) ∙ g.told

-- ---- the parts of a tally, as the code has them

module _ (t : Tally) (x y : ℤ) (kind : ℕ) where
  pub tally-is : {x' y' : ℤ} {change place move : Bool} → x' ≡ x → y' ≡ y → change ≡ is_change (op_of kind) → place ≡ placed x y
      → move ≡ (stands (op_of kind) && not (same_place t.x t.y x y))
      → ◌≡◌ {A = Tally} (record {
        commands = t.commands + 1;
        changes = t.changes + bool_byte change;
        x = x';
        y = y';
        ended = eqb kind 4;
        early = t.early || t.ended;
        unknown = t.unknown || ltb 4 kind;
        outside = t.outside || not place;
        moved = t.moved || move;
      }) (counted t (record { x = x; y = y; kind = kind }))
  unfolding counted changes outside moves
  tally-is ex ey ec ep em = rw (ex, ey, ec, ep, em, byte-is)
