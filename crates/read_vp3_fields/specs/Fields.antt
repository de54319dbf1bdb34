-- What each field read says: a part is told by two places of the file, and what the definition makes of the part's bytes from one place on
-- is what it makes of them from the next.
use Rattle.std.specs.Prelude.{ℕ, suc, ◌+◌, ◌-◌, ◌≤◌, ◌<◌, ◌≡◌, Bool, true, false, List, ltb, ℤ, pos, ◌+ℤ◌, length, take, drop, Some, None, Ok, Err, Option, Result}
use Rattle.rules.specs.Vocabulary.{pick}
use Rattle.rules.specs.Vp3.{Blocks, ended, block, part, beyond, stitch_part, blocks_from}
use Rattle.rules.specs.declared.Color.{Color}
use Rattle.rules.specs.declared.Refusal.{Refusal}
use Rattle.read_vp3_fields.specs.declared.Part.{Part}
use Rattle.read_vp3_fields.specs.declared.Design.{Design}
use Rattle.read_vp3_fields.specs.declared.Block.{Block}

-- the bytes from `at` to before `end`
unfoldable pub within : List ℕ → ℕ → ℕ → List ℕ
within s at end = take (end - at) (drop at s)

-- ---- fields

-- behind the n bytes from `at` on, or why not if `end` comes before
abbrev pub Ahead : Refusal → ℕ → ℕ → ℕ → Result ℕ Refusal → Type 0
Ahead why at end n (Ok b) = (b ≡ at + n) × (b ≤ end)
Ahead why at end n (Err r) = (r ≡ why) × (end < at + n)

abbrev pub Later : ℕ → ℕ → Result ℕ Refusal → Type 0
Later at end (Ok b) = (at ≤ b) × (b ≤ end)
Later at end (Err r) = Unit {0}

-- what comes of the bytes from a place on, up to `end`
abbrev pub onward : List ℕ → ℕ → Result ℕ Refusal → (List ℕ → Blocks) → Blocks
onward s end (Ok b) go = go (within s b end)
onward s end (Err r) go = ended (Err r)

-- `body` reads a field of the part of s that ends at `end`: from `at` on to where r tells
pub record Reads (body : (List ℕ → Blocks) → List ℕ → Blocks) (s : List ℕ) (at end : ℕ) (r : Result ℕ Refusal) : Type 0 where
  pub lies : Later at end r
  pub tells : (go : List ℕ → Blocks) → body go (within s at end) ≡ onward s end r go

-- ---- parts

abbrev pub Lies : ℕ → ℕ → Result Part Refusal → Type 0
Lies from to (Ok p) = (from + 4 ≤ p.at) × ((p.at ≤ p.end) × (p.end ≤ to))
Lies from to (Err r) = Unit {0}

abbrev pub part_then : List ℕ → ℕ → Result Part Refusal → (List ℕ → List ℕ → Blocks) → Blocks
part_then s to (Ok p) go = go (within s p.at p.end) (within s p.end to)
part_then s to (Err r) go = ended (Err r)

pub record PartAt (s : List ℕ) (to from : ℕ) (r : Result Part Refusal) : Type 0 where
  pub lies : Lies from to r
  pub tells : (go : List ℕ → List ℕ → Blocks) → part 4 go (within s from to) ≡ part_then s to r go

-- ---- the design part

abbrev pub design_then : List ℕ → Result Design Refusal → Blocks
design_then s (Ok d) = blocks_from d.count (pos 0) (pos 0) (within s d.at d.end)
design_then s (Err r) = ended (Err r)

abbrev pub DesignLies : ℕ → Result Design Refusal → Type 0
DesignLies n (Ok d) = (d.at ≤ d.end) × (d.end ≤ n)
DesignLies n (Err r) = Unit {0}

-- these are the colour blocks that r tells the place of
pub record Designs (s : List ℕ) (bs : Blocks) (r : Result Design Refusal) : Type 0 where
  pub lies : DesignLies (length s) r
  pub tells : bs ≡ design_then s r

-- ---- colour blocks

-- a coordinate of a start: none is made where no block follows
abbrev pub start_by : Bool → ℤ → ℤ → Option ℤ
start_by false z by = Some z
start_by true z by = pick (beyond (z +ℤ by)) None (Some (z +ℤ by))

abbrev pub BlockLies : ℕ → ℕ → Result Block Refusal → Type 0
BlockLies from to (Ok b) = (from ≤ b.at) × ((b.at ≤ b.end) × ((b.end ≤ b.next) × (b.next ≤ to)))
BlockLies from to (Err r) = Unit {0}

-- block b from (x, y), and then bs
abbrev pub stitch_then : List ℕ → ℤ → ℤ → Blocks → Result Block Refusal → Blocks
stitch_then s x y bs (Ok b) = block x y b.color (within s b.at b.end) bs
stitch_then s x y bs (Err r) = ended (Err r)

-- of this colour, with its part's end and the next start as told
abbrev pub Has : Color → ℤ → ℤ → ℕ → Result Block Refusal → Type 0
Has c x y to (Ok b) = (b.color ≡ c) × ((b.x ≡ x) × ((b.y ≡ y) × (b.next ≡ to)))
Has c x y to (Err r) = Unit {0}

pub record StitchPart (s : List ℕ) (from to : ℕ) (c : Color) (x y : ℤ) (r : Result Block Refusal) : Type 0 where
  pub lies : BlockLies from to r
  pub has : Has c x y to r
  pub tells : (x₀ y₀ : ℤ) (bs : Blocks) → stitch_part x₀ y₀ c bs (within s from to) ≡ stitch_then s x₀ y₀ bs r

-- block b from (x, y), and then n blocks in `rest`
abbrev pub color_then : List ℕ → ℕ → ℤ → ℤ → List ℕ → Result Block Refusal → Blocks
color_then s n x y rest (Ok b) = block x y b.color (within s b.at b.end) (blocks_from n b.x b.y rest)
color_then s n x y rest (Err r) = ended (Err r)

abbrev pub Ends : ℕ → Result Block Refusal → Type 0
Ends to (Ok b) = b.next ≡ to
Ends to (Err r) = Unit {0}

-- `body` reads the colour part from `from` to `to`, whose block starts at (x, y); n blocks follow
pub record Colors (s : List ℕ) (from to : ℕ) (x y : ℤ) (follows : Bool) (body : ℕ → (ℤ → ℤ → Blocks) → List ℕ → Blocks) (r : Result Block Refusal) : Type 0 where
  pub lies : BlockLies from to r
  pub ends : Ends to r
  pub tells : (n : ℕ) → follows ≡ ltb 0 n → (rest : List ℕ)
      → body n (λ x' y'. blocks_from n x' y' rest) (within s from to) ≡ color_then s n x y rest r

-- and where they follow it
abbrev pub block_then : List ℕ → ℕ → ℕ → ℤ → ℤ → Result Block Refusal → Blocks
block_then s to n x y (Ok b) = block x y b.color (within s b.at b.end) (blocks_from n b.x b.y (within s b.next to))
block_then s to n x y (Err r) = ended (Err r)

pub record BlockRead (s : List ℕ) (from to : ℕ) (x y : ℤ) (follows : Bool) (r : Result Block Refusal) : Type 0 where
  pub lies : BlockLies (from + 7) to r
  pub tells : (n : ℕ) → follows ≡ ltb 0 n → blocks_from (suc n) x y (within s from to) ≡ block_then s to n x y r
