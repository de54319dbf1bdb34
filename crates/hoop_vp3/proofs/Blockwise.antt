-- One block looked at, and one block after the other. Assumes nothing.
use Rattle.std.specs.Prelude.{Some, None, Ok, Err, Result, IsOk}
use Prim.Native.Nat.{ℕ, zero, suc, ◌≤◌}
use mathlib.Core.Path.{◌≡◌, refl, sym, ap, ◌∙◌}
use mathlib.Core.Bool.{Bool, true, false, ◌&&◌, and_assoc}
use mathlib.Core.List.{List, [], ◌∷◌, ◌++◌}
use native.Mathlib.Omega.{arith}
use lib.Dec.{ltb}
use lib.IntN.{ℤ, ◌+ℤ◌}
use lib.ListN.{length, length-take, length-drop}
use Rattle.rules.specs.Answers.{places, start_of, points_after}
use Rattle.rules.specs.Hoop.{in_hoop, all_in_hoop}
use Rattle.rules.specs.Records.{Event, stitch, jump, change}
use Rattle.rules.specs.Vp3.{Blocks, block, cut, passed, blocks_from, stitch_events, strays, fault_in, events_in}
use Rattle.rules.specs.declared.Color.{Color}
use Rattle.rules.specs.declared.Hoop.{Hoop}
use Rattle.rules.specs.declared.Refusal.{Refusal}
use Rattle.laws.specs.Verdicts.{first-false}
use Rattle.laws.specs.Vp3Fields.{block-all}
use Rattle.read_vp3_fields.specs.Fields.{within, BlockRead}
use Rattle.read_vp3_fields.specs.declared.Block.{Block}
use Rattle.read_vp3.proofs.Blockwise.{not-refused}
use Rattle.read_vp3.proofs.Filled.{StartAt, places-all}
use Rattle.hoop_vp3.specs.Blocks.{blocks_at, fits_at, Ready, Passes}
use Rattle.hoop_vp3.specs.declared.Start.{Start}

-- ---- places, and then others: they are in the hoop where both are

in-append : (h : Hoop) (x y : ℤ) (n : ℕ) (es : List Event) (ps : List ℤ)
    → all_in_hoop h (places x y n es ++ ps) ≡ all_in_hoop h (places x y n es) && all_in_hoop h ps
unfolding places start_of all_in_hoop
in-append h x y n [] ps = refl
in-append h x y zero (stitch dx dy ∷ es) ps =
    let u = x +ℤ dx in
    let v = y +ℤ dy in
    let t = all_in_hoop h (places u v (points_after zero) es) in
    ap (λ b. in_hoop h x y && (in_hoop h u v && b)) (in-append h u v (points_after zero) es ps)
    ∙ ap (λ b. in_hoop h x y && b) (sym (and_assoc (in_hoop h u v) t (all_in_hoop h ps)))
    ∙ sym (and_assoc (in_hoop h x y) (in_hoop h u v && t) (all_in_hoop h ps))
in-append h x y (suc n) (stitch dx dy ∷ es) ps =
    let u = x +ℤ dx in
    let v = y +ℤ dy in
    ap (λ b. in_hoop h u v && b) (in-append h u v (points_after (suc n)) es ps)
    ∙ sym (and_assoc (in_hoop h u v) (all_in_hoop h (places u v (points_after (suc n)) es)) (all_in_hoop h ps))
in-append h x y n (jump dx dy ∷ es) ps = in-append h (x +ℤ dx) (y +ℤ dy) 0 es ps
in-append h x y n (change dx dy ∷ es) ps = in-append h (x +ℤ dx) (y +ℤ dy) 0 es ps

-- a block's own places, and those of the blocks behind it, which start at (x', y')
fits-block : (h : Hoop) (x y x' y' : ℤ) (c : Color) (bytes : List ℕ) (bs : Blocks) → StartAt x' y' bs
    → all_in_hoop h (places x y 0 (events_in (block x y c bytes bs)))
    ≡ all_in_hoop h (places x y 0 (stitch_events bytes)) && all_in_hoop h (places x' y' 0 (events_in bs))
fits-block h x y x' y' c bytes bs k =
    ap (all_in_hoop h) (places-all (record { x = x; y = y; run = 0; block = 0; begun = 0; points = 0; runs = 0; blocks = 0 }) x' y' c bytes bs k refl refl)
    ∙ in-append h x y 0 (stitch_events bytes) _

-- ---- blocks without fault

start-at : (n : ℕ) (x y : ℤ) (s : List ℕ) → StartAt x y (blocks_from n x y s)
unfolding blocks_from cut passed
start-at zero x y s = tt
start-at (suc n) x y s = block-all (StartAt x y) tt tt n x y s (λ x' y' rest c bytes l. (refl, refl))

-- ---- one block

module _ {s : List ℕ} {end n : ℕ} {a : Start} (g : Ready s end (suc n) a) where
  -- its fields are without fault too
  pub no-fault : (r : Result Block Refusal) → BlockRead s a.at end a.x a.y (ltb 0 n) r → IsOk r
  no-fault (Ok k) d = refl
  no-fault (Err why) d = absurd (not-refused (d.tells n refl) g.sound)

  module _ {k : Block} (d : BlockRead s a.at end a.x a.y (ltb 0 n) (Ok k)) where
    abbrev bytes : List ℕ
    bytes = within s k.at k.end

    abbrev next : Start
    next = record { x = k.x; y = k.y; at = k.next }

    abbrev rest : Blocks
    rest = blocks_at s end n next

    sounds : (strays a.x a.y (stitch_events bytes) ≡ false) × (fault_in rest ≡ Ok tt)
    unfolding fault_in
    sounds = first-false _ _ _ (sym (ap fault_in (d.tells n refl)) ∙ g.sound)

    -- what its stitches ask
    pub stays : strays a.x a.y (stitch_events bytes) ≡ false
    stays = sounds.0

    pub few : length bytes ≤ 2097152
    unfolding within
    few = simp (length-take, length-drop) (omega (arith, g.within, g.short, d.lies))

    -- they are in the hoop, and so are those behind
    both : (h : Hoop) → fits_at s end h (suc n) a ≡ all_in_hoop h (places a.x a.y 0 (stitch_events bytes)) && fits_at s end h n next
    both h = ap (λ bs. all_in_hoop h (places a.x a.y 0 (events_in bs))) (d.tells n refl)
        ∙ fits-block h a.x a.y k.x k.y k.color bytes rest (start-at n k.x k.y (within s k.next end))

    module _ (h : Hoop) {b : Bool} (e : b ≡ all_in_hoop h (places a.x a.y 0 (stitch_events bytes))) where
      pub passes_on : b ≡ true → {x y : ℤ} → x ≡ k.x → y ≡ k.y → Passes h s end n a (Some (record { x = x; y = y; at = k.next }))
      passes_on t ex ey = rw (ex, ey) (
        both h ∙ ap (λ q. q && fits_at s end h n next) (sym e ∙ t),
        record { sound = sounds.1; inside = d.lies.1.1.1; within = g.within; short = g.short },
      )

      pub passes-out : b ≡ false → Passes h s end n a None
      passes-out f = both h ∙ ap (λ q. q && fits_at s end h n next) (sym e ∙ f)

-- ---- one after the other: n are to come

module _ (h : Hoop) (s : List ℕ) (end : ℕ) where
  pub record Going (whole : Bool) (n : ℕ) (a : Start) : Type 0 where
    pub ready : Ready s end n a
    pub same : whole ≡ fits_at s end h n a

  module _ {whole : Bool} where
    -- there is none
    at-end : {a : Start} → Going whole 0 a → true ≡ whole
    unfolding blocks_from events_in places all_in_hoop
    at-end w = sym w.same

    pub going_done : {n : ℕ} {a : Start} → Going whole n a → n ≤ 0 → true ≡ whole
    going_done {n} w l = let e : n ≡ 0 = omega arith in at-end (rw e at w)
