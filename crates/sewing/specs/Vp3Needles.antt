-- VP3: a file of a list, read back, is not refused and has the needle places of the list. Assumes nothing.
use Rattle.std.specs.Prelude.{◌≡◌, Bool, true, false, ◌&&◌, ℕ, suc, ◌≤◌, ℤ, pos, neg_ℤ, nat_abs, ◌+ℤ◌, ◌-ℤ◌, ltb, length, drop, Ok}
use Rattle.std.proofs.Math.Path.{refl, ap, ap₂}
use Rattle.std.proofs.Common.{sym, ◌∙◌, arith, le-ltb}
use mathlib.Core.List.{List, [], ◌∷◌, ◌++◌}
use Rattle.rules.specs.Vocabulary.{between, count, signed, bits_of, joined, same_bytes}
use Rattle.rules.specs.Lists.{op_of, is_change}
use Rattle.rules.specs.Records.{Event, stitch, jump}
use Rattle.rules.specs.Refusals.{place_outside, changes, verdict}
use Rattle.rules.specs.Limits.{longest_file}
use Rattle.rules.specs.Text.{begins}
use Rattle.rules.specs.Sewing.{Needle, needle, block_after, needles_cmd, needles_from, list_needles}
use Rattle.rules.specs.Thumbnails.{at_front, color_blocks}
use Rattle.rules.specs.Vp3.{big, from_big, end_x, end_y, stitch_of, vp3_cmd, last_stitch, stitches_from, vp3_file, Blocks}
use Rattle.rules.specs.Vp3.{vp3_opening, row_of, vp3_layout, vp3_blocks, long_then, control_then, pair_then, stitch_events, reach_x, reach_y, change_to, events_in, strays, fault_in}
use Rattle.rules.specs.declared.Cmd.{Cmd}
use Rattle.rules.specs.declared.Color.{Color}
use Rattle.rules.specs.declared.Op.{Op}
use Rattle.rules.specs.declared.Op.TheVariants.{Stitch, Jump, Trim, ColorChange, End}
use Rattle.rules.specs.declared.Refusal.TheVariants.{FileTooLong}
use Rattle.laws.specs.Tests.{by-test, and_left, and_right, false-true, pick-ne, pick-ge}
use Rattle.laws.specs.Ints.{InBits, ints, dn, abs_is, add-law, between-true}
use Rattle.laws.specs.Twos.{signed-bits, bits-lt}
use Rattle.laws.specs.Places as places
use Rattle.laws.specs.Vp3Lengths.{most-vp3}
use Rattle.laws.specs.Vp3Reading.{from-big-small, stitches-step}
use Rattle.sewing.specs.EventSewing.{of_events}
use Rattle.sewing.specs.Vp3Files.{as_read, Placed, AllPlaced, all_placed, blocks-placed, end_x-small, end_y-small, not_beyond, written-blocks, there}

-- ---- stitches, read back

-- the events of a command's bytes, and what follows
unfoldable pub cmd_events : Op → ℤ → ℤ → List Event → List Event
cmd_events Stitch dx dy es = stitch dx dy ∷ es
cmd_events Jump dx dy es = es
cmd_events Trim dx dy es = jump (pos 0) (pos 0) ∷ es
cmd_events ColorChange dx dy es = es
cmd_events End dx dy es = jump (pos 0) (pos 0) ∷ es

abbrev near : ℤ → Bool
near z = between (neg_ℤ (pos 127)) (pos 127) z

near-back : (z : ℤ) → near z ≡ true → signed 7 (bits_of 7 z) ≡ z
near-back z e = let h = between-true (neg_ℤ (pos 127)) (pos 127) z e in signed-bits 7 z (omega ints)

-- 0x80 would be -128
not-80 : (z : ℤ) → near z ≡ true → bits_of 7 z ≡ 0x80 → ⊥
unfolding signed
not-80 z e p =
    let h = between-true (neg_ℤ (pos 127)) (pos 127) z e in
    let q : signed 7 0x80 ≡ z = sym (ap (signed 7) p) ∙ near-back z e in
    omega (ints, ap dn q)

module _ (rest : List ℕ) where
  read-pair : (dx dy : ℤ) → near dx ≡ true → near dy ≡ true
      → stitch_events (bits_of 7 dx ∷ bits_of 7 dy ∷ rest) ≡ stitch dx dy ∷ stitch_events rest
  unfolding pair_then
  read-pair dx dy h k =
      stitches-step (bits_of 7 dx ∷ bits_of 7 dy ∷ rest)
      ∙ pick-ne (bits_of 7 dx) 0x80 _ _ (not-80 dx h)
      ∙ ap₂ (λ (a b : ℤ). stitch a b ∷ stitch_events rest) (near-back dx h) (near-back dy k)

  -- 80 03, and a pair that does nothing
  read-trim : stitch_events (0x80 ∷ 0x03 ∷ rest) ≡ jump (pos 0) (pos 0) ∷ stitch_events rest
  unfolding pair_then control_then
  read-trim = stitches-step (0x80 ∷ 0x03 ∷ rest)

  read-nothing : stitch_events (0x80 ∷ 0x02 ∷ rest) ≡ stitch_events rest
  unfolding pair_then control_then
  read-nothing = stitches-step (0x80 ∷ 0x02 ∷ rest)

wide_back : (z : ℤ) → InBits 15 z → signed 15 (from_big (big 2 (bits_of 15 z))) ≡ z
wide_back z h = ap (signed 15) (from-big-small 2 (bits_of 15 z) (bits-lt 15 z)) ∙ signed-bits 15 z h

module _ (dx dy : ℤ) (hx : InBits 15 dx) (hy : InBits 15 dy) where
  abbrev long_x : List ℕ
  long_x = big 2 (bits_of 15 dx)

  abbrev long_y : List ℕ
  long_y = big 2 (bits_of 15 dy)

  read-steps : (rest : List ℕ) → long_then stitch_events (long_x ++ (long_y ++ rest)) ≡ stitch dx dy ∷ stitch_events rest
  unfolding long_then big
  read-steps rest =
      pick-ge (length (long_x ++ (long_y ++ rest))) 4 _ _ (omega arith)
      ∙ ap₂ (λ (u v : ℤ). stitch u v ∷ stitch_events rest) (wide_back dx hx) (wide_back dy hy)

  read-long : (rest : List ℕ) → stitch_events (0x80 ∷ 0x01 ∷ (long_x ++ (long_y ++ 0x80 ∷ 0x02 ∷ rest))) ≡ stitch dx dy ∷ stitch_events rest
  unfolding pair_then control_then
  read-long rest =
      stitches-step (0x80 ∷ 0x01 ∷ (long_x ++ (long_y ++ 0x80 ∷ 0x02 ∷ rest)))
      ∙ read-steps (0x80 ∷ 0x02 ∷ rest)
      ∙ ap (λ (es : List Event). stitch dx dy ∷ es) (read-nothing rest)

  long-is : (rest : List ℕ) → (0x80 ∷ 0x01 ∷ []) ++ long_x ++ long_y ++ 0x80 ∷ 0x02 ∷ [] ++ rest ≡ 0x80 ∷ 0x01 ∷ (long_x ++ (long_y ++ 0x80 ∷ 0x02 ∷ rest))
  unfolding big
  long-is rest = refl

  read-stitch_of : (rest : List ℕ) → stitch_events (stitch_of dx dy ++ rest) ≡ stitch dx dy ∷ stitch_events rest
  unfolding stitch_of
  read-stitch_of rest = by-test (near dx && near dy)
      (λ t. rw t (read-pair rest dx dy (and_left (near dx) (near dy) t) (and_right (near dx) (near dy) t)))
      (λ t. rw t (ap stitch_events (long-is rest) ∙ read-long rest))

pub read-cmd : (op : Op) (dx dy : ℤ) (rest : List ℕ) → nat_abs dx ≤ 32000 → nat_abs dy ≤ 32000
    → stitch_events (vp3_cmd op dx dy ++ rest) ≡ cmd_events op dx dy (stitch_events rest)
unfolding vp3_cmd cmd_events
read-cmd Stitch dx dy rest h k = read-stitch_of dx dy (omega (ints, abs_is dx)) (omega (ints, abs_is dy)) rest
read-cmd Jump dx dy rest h k = refl
read-cmd Trim dx dy rest h k = read-trim rest
read-cmd ColorChange dx dy rest h k = refl
read-cmd End dx dy rest h k = read-trim rest

-- the events of a block that starts at (x, y)
unfoldable pub block_events : ℤ → ℤ → List Cmd → List Event
block_events x y [] = []
block_events x y (c ∷ cs) =
    cmd_events (op_of c.kind) (c.x -ℤ x) (c.y -ℤ y)
    (block_events (last_stitch (op_of c.kind) x c.x) (last_stitch (op_of c.kind) y c.y) cs)

last-small : (op : Op) (z z' : ℤ) → places.Small z → places.Small z' → places.Small (last_stitch op z z')
unfolding last_stitch
last-small Stitch z z' h k = k
last-small Jump z z' h k = h
last-small Trim z z' h k = h
last-small ColorChange z z' h k = h
last-small End z z' h k = h

no_bytes : stitch_events [] ≡ []
unfolding pair_then
no_bytes = stitches-step []

pub read-block : (x y : ℤ) (b : List Cmd) → places.Small x → places.Small y → Placed b → stitch_events (stitches_from x y b) ≡ block_events x y b
unfolding stitches_from block_events
read-block x y [] sx sy p = no_bytes
read-block x y (c ∷ cs) sx sy p =
    let op : Op = op_of c.kind in
    let w = p.0 in
    read-cmd op (c.x -ℤ x) (c.y -ℤ y) (stitches_from (last_stitch op x c.x) (last_stitch op y c.y) cs)
    (places.apart c.x x w.across sx) (places.apart c.y y w.down sy)
    ∙ ap (cmd_events op (c.x -ℤ x) (c.y -ℤ y))
    (read-block (last_stitch op x c.x) (last_stitch op y c.y) cs (last-small op x c.x sx w.across) (last-small op y c.y sy w.down) p.1)

-- ---- nothing is refused

stay : (z : ℤ) → z +ℤ pos 0 ≡ z
stay z = omega (ints, add-law z (pos 0))

module _ (x y x' y' : ℤ) where
  -- a command that leads to (x', y')
  cmd-stays : (op : Op) (es : List Event) → places.Small x' → places.Small y'
      → strays (last_stitch op x x') (last_stitch op y y') es ≡ false → strays x y (cmd_events op (x' -ℤ x) (y' -ℤ y) es) ≡ false
  unfolding cmd_events last_stitch strays
  cmd-stays Stitch es h k e = rw (there x x', there y y', not_beyond x' (omega arith), not_beyond y' (omega arith)) e
  cmd-stays Jump es h k e = e
  cmd-stays Trim es h k e = ap₂ (λ (u v : ℤ). strays u v es) (stay x) (stay y) ∙ e
  cmd-stays ColorChange es h k e = e
  cmd-stays End es h k e = ap₂ (λ (u v : ℤ). strays u v es) (stay x) (stay y) ∙ e

block-stays : (x y : ℤ) (b : List Cmd) → Placed b → strays x y (block_events x y b) ≡ false
unfolding block_events strays
block-stays x y [] p = refl
block-stays x y (c ∷ cs) p =
    let op : Op = op_of c.kind in
    cmd-stays x y c.x c.y op _ p.0.across p.0.down (block-stays (last_stitch op x c.x) (last_stitch op y c.y) cs p.1)

no-fault : (x y : ℤ) (threads : List Color) (bs : List (List Cmd)) → places.Small x → places.Small y → AllPlaced bs → fault_in (as_read x y threads bs) ≡ Ok tt
unfolding fault_in as_read
no-fault x y threads [] sx sy p = refl
no-fault x y threads (b ∷ bs) sx sy p =
    rw (read-block x y b sx sy p.0, block-stays x y b p.0)
    (no-fault (end_x x b) (end_y y b) (drop 1 threads) bs (end_x-small x b sx p.0) (end_y-small y b sy p.0) p.1)

-- ---- needle places

-- what events' stitches are, from block k and place (x, y)
unfoldable pub event_needles : ℕ → ℤ → ℤ → List Event → List Needle
event_needles k x y es = of_events needle k x y es

-- those of a block, and what follows; of blocks, the first of them block k
unfoldable block_needles : ℕ → List Cmd → List Needle → List Needle
block_needles k [] ns = ns
block_needles k (c ∷ cs) ns = needles_cmd (op_of c.kind) k c.x c.y (block_needles k cs ns)

unfoldable blocks_needles : ℕ → List (List Cmd) → List Needle
blocks_needles k [] = []
blocks_needles k (b ∷ bs) = block_needles k b (blocks_needles (suc k) bs)

-- what follows a block: a change that leads from where its stitches end to the start of the next
abbrev goes_on : ℤ → ℤ → List Event → Blocks → List Event → List Event
goes_on x y es bs more = es ++ change_to (reach_x x es) (reach_y y es) bs more

module _ (k : ℕ) (bs : Blocks) (more : List Event) where
  cmd-needles : (op : Op) (x y x' y' : ℤ) (es : List Event)
      → event_needles k x y (goes_on x y (cmd_events op (x' -ℤ x) (y' -ℤ y) es) bs more)
      ≡ needles_cmd op k x' y' (event_needles k (last_stitch op x x') (last_stitch op y y') (goes_on (last_stitch op x x') (last_stitch op y y') es bs more))
  unfolding event_needles of_events cmd_events last_stitch needles_cmd needle reach_x reach_y
  cmd-needles Stitch x y x' y' es = ap₂ (λ (u v : ℤ). record { block = k; x = u; y = v } ∷ event_needles k u v (goes_on u v es bs more)) (there x x') (there y y')
  cmd-needles Jump x y x' y' es = refl
  cmd-needles Trim x y x' y' es = ap₂ (λ (u v : ℤ). event_needles k u v (goes_on u v es bs more)) (stay x) (stay y)
  cmd-needles ColorChange x y x' y' es = refl
  cmd-needles End x y x' y' es = ap₂ (λ (u v : ℤ). event_needles k u v (goes_on u v es bs more)) (stay x) (stay y)

  -- `ns` is what follows the block from wherever its stitches end
  block-needles : (ns : List Needle) → ((x y : ℤ) → event_needles k x y (change_to x y bs more) ≡ ns) → (x y : ℤ) (b : List Cmd)
      → event_needles k x y (goes_on x y (block_events x y b) bs more) ≡ block_needles k b ns
  unfolding block_events block_needles reach_x reach_y
  block-needles ns h x y [] = h x y
  block-needles ns h x y (c ∷ cs) =
      let op : Op = op_of c.kind in
      cmd-needles op x y c.x c.y _ ∙ ap (needles_cmd op k c.x c.y) (block-needles ns h (last_stitch op x c.x) (last_stitch op y c.y) cs)

-- a change to the next block
change-needles : (k : ℕ) (x y x' y' : ℤ) (threads : List Color) (bs : List (List Cmd))
    → event_needles k x y (change_to x y (as_read x' y' threads bs) (events_in (as_read x' y' threads bs))) ≡ event_needles (suc k) x' y' (events_in (as_read x' y' threads bs))
unfolding event_needles of_events change_to as_read events_in
change-needles k x y x' y' threads [] = refl
change-needles k x y x' y' threads (b ∷ bs) =
    ap₂ (λ (u v : ℤ). event_needles (suc k) u v (events_in (as_read x' y' threads (b ∷ bs)))) (there x x') (there y y')

read-needles : (k : ℕ) (x y : ℤ) (threads : List Color) (bs : List (List Cmd)) → places.Small x → places.Small y → AllPlaced bs
    → event_needles k x y (events_in (as_read x y threads bs)) ≡ blocks_needles k bs
unfolding event_needles of_events events_in as_read blocks_needles
read-needles k x y threads [] sx sy p = refl
read-needles k x y threads (b ∷ bs) sx sy p =
    let next : Blocks = as_read (end_x x b) (end_y y b) (drop 1 threads) bs in
    ap (λ (es : List Event). event_needles k x y (goes_on x y es next (events_in next))) (read-block x y b sx sy p.0)
    ∙ block-needles k next (events_in next) (blocks_needles (suc k) bs)
    (λ u v. change-needles k u v (end_x x b) (end_y y b) (drop 1 threads) bs
    ∙ read-needles (suc k) (end_x x b) (end_y y b) (drop 1 threads) bs (end_x-small x b sx p.0) (end_y-small y b sy p.0) p.1)
    x y b

-- ---- the list's

change-none : (op : Op) (k : ℕ) (x y : ℤ) (f : ℕ → List Needle) → is_change op ≡ true → needles_cmd op k x y (f (block_after op k)) ≡ f (suc k)
unfolding is_change needles_cmd block_after
change-none Stitch k x y f e = false-true e
change-none Jump k x y f e = false-true e
change-none Trim k x y f e = false-true e
change-none ColorChange k x y f e = refl
change-none End k x y f e = false-true e

same_block : (op : Op) (k : ℕ) → is_change op ≡ false → block_after op k ≡ k
unfolding is_change block_after
same_block Stitch k e = refl
same_block Jump k e = refl
same_block Trim k e = refl
same_block ColorChange k e = false-true (sym e)
same_block End k e = refl

onto-needles : (k : ℕ) (c : Cmd) (bs : List (List Cmd)) → blocks_needles k (at_front c bs) ≡ needles_cmd (op_of c.kind) k c.x c.y (blocks_needles k bs)
unfolding at_front blocks_needles block_needles
onto-needles k c [] = refl
onto-needles k c (b ∷ bs) = refl

list-needles : (k : ℕ) (cs : List Cmd) → blocks_needles k (color_blocks cs) ≡ needles_from k cs
unfolding color_blocks needles_from blocks_needles block_needles
list-needles k [] = refl
list-needles k (c ∷ cs) =
    let op : Op = op_of c.kind in
    by-test (is_change op)
    (λ t. rw t (list-needles (suc k) cs ∙ sym (change-none op k c.x c.y (λ (n : ℕ). needles_from n cs) t)))
    (λ t. rw t (onto-needles k c (color_blocks cs) ∙ ap (needles_cmd op k c.x c.y) (list-needles k cs ∙ ap (λ (n : ℕ). needles_from n cs) (sym (same_block op k t)))))

-- ---- the theorems

module _ (cs : List Cmd) (threads : List Color) (placed : place_outside cs ≡ false) (few_changes : count changes cs ≤ 254) (few : length cs ≤ 65535) where
  all_in : AllPlaced (color_blocks cs)
  all_in = blocks-placed cs (all_placed cs placed)

  pub vp3-unrefused : fault_in (vp3_blocks (vp3_file cs threads)) ≡ Ok tt
  vp3-unrefused =
      ap fault_in (written-blocks cs threads placed few_changes few) ∙ no-fault (pos 0) (pos 0) threads (color_blocks cs) (omega arith) (omega arith) all_in

  pub vp3-needles : event_needles 0 (pos 0) (pos 0) (events_in (vp3_blocks (vp3_file cs threads))) ≡ list_needles cs
  unfolding list_needles
  vp3-needles =
      ap (λ (bs : Blocks). event_needles 0 (pos 0) (pos 0) (events_in bs)) (written-blocks cs threads placed few_changes few)
      ∙ read-needles 0 (pos 0) (pos 0) threads (color_blocks cs) (omega arith) (omega arith) all_in
      ∙ list-needles 0 cs

  -- it begins as it must
  begins-so : begins vp3_opening (vp3_file cs threads) ≡ true
  unfolding vp3_file vp3_opening joined begins same_bytes
  begins-so = refl

  pub vp3-taken : verdict ((FileTooLong, ltb longest_file (length (vp3_file cs threads))) ∷ vp3_layout.refusals (vp3_file cs threads)) ≡ Ok tt
  unfolding verdict row_of
  vp3-taken = rw (le-ltb 2097152 (length (vp3_file cs threads)) (omega (arith, most-vp3 cs threads few_changes, few)), begins-so, vp3-unrefused)
