-- A look at the colour blocks, one after the other: what is to come is the same from block to block.
use Rattle.std.specs.Prelude.{ℕ, suc, ◌≤◌, ◌≡◌, Bool, false, List, length, Some, None, Ok, Option}
use Rattle.rules.specs.Answers.{places}
use Rattle.rules.specs.Hoop.{all_in_hoop}
use Rattle.rules.specs.Vp3.{Blocks, blocks_from, fault_in, events_in}
use Rattle.rules.specs.declared.Hoop.{Hoop}
use Rattle.read_vp3_fields.specs.Fields.{within}
use Rattle.hoop_vp3.specs.declared.Start.{Start}

module _ (file : List ℕ) (end : ℕ) where
  -- n blocks from a start on
  abbrev pub blocks_at : ℕ → Start → Blocks
  blocks_at n s = blocks_from n s.x s.y (within file s.at end)

  abbrev pub fits_at : Hoop → ℕ → Start → Bool
  fits_at h n s = all_in_hoop h (places s.x s.y 0 (events_in (blocks_at n s)))

  -- they are without fault
  pub record Ready (n : ℕ) (s : Start) : Type 0 where
    pub sound : fault_in (blocks_at n s) ≡ Ok tt
    pub inside : s.at ≤ end
    pub within : end ≤ length file
    pub short : length file ≤ 2097152

-- one block from s on, which n more follow
abbrev pub Passes : Hoop → List ℕ → ℕ → ℕ → Start → Option Start → Type 0
Passes h file end n s (Some v) = (fits_at file end h (suc n) s ≡ fits_at file end h n v) × Ready file end n v
Passes h file end n s None = fits_at file end h (suc n) s ≡ false
