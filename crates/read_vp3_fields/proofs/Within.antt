-- Parts of a file by their places, and what each field makes of them: one law for each outcome of its tests. Assumes nothing.
use Rattle.std.specs.Prelude.{Ok, Err, Option, Result}
use Rattle.std.specs.Option.{ok_or}
use Prim.Native.Nat.{ℕ, zero, suc, ◌+◌, ◌-◌, ◌*◌, ◌≤◌, ◌<◌}
use mathlib.Core.Path.{◌≡◌, refl, sym, ap, ◌∙◌}
use mathlib.Core.Bool.{Bool, true, false}
use mathlib.Core.List.{List}
use native.Mathlib.Omega.{arith}
use lib.IntN.{ℤ, pos, neg_ℤ, ◌+ℤ◌, ◌-ℤ◌}
use lib.Dec.{ltb}
use borrow.Author.Tests.{ltb-false}
use lib.ListN.{length, take, drop, get_or, length-take, length-drop}
use lib.Seq.{take_all, take-take, take-add, drop_at, drop-drop, get_or-take, get_or-drop}
use Rattle.rules.specs.Charts.{color}
use Rattle.rules.specs.Vocabulary.{signed}
use Rattle.rules.specs.Vp3.{Blocks, toward_zero, ended, cut, passed, from_big, fixed, skip, inside, part, text, beyond, starts, shift, stitch_part, shifts, color_of, in_color_part, in_file_part, vp3_opening, vp3_blocks, blocks_from}
use Rattle.rules.specs.declared.Color.{Color}
use Rattle.rules.specs.declared.Refusal.{Refusal}
use Rattle.rules.specs.declared.Refusal.TheVariants.{FileTooShort, OutOfRange}
use Rattle.laws.specs.Tests.{by-test, false-true, pick-lt, pick-ge}
use Rattle.laws.specs.Ints.{eq-neg, sub-law}
use Rattle.laws.specs.Listing.{list-more}
use Rattle.read_vp3_fields.specs.declared.Part.{Part}
use Rattle.read_vp3_fields.specs.declared.Design.{Design}
use Rattle.read_vp3_fields.specs.Fields.{within, Ahead, onward, Reads, PartAt, part_then, Designs, start_by, Colors, StitchPart, BlockRead}
use Rattle.read_vp3_fields.specs.declared.Block.{Block}

-- ---- places

within-length : (s : List ℕ) (at end : ℕ) → end ≤ length s → length (within s at end) ≡ end - at
unfolding within
within-length s at end h = simp (length-take, length-drop) (omega arith)

within-drop : (s : List ℕ) (at end n : ℕ) → end ≤ length s → at + n ≤ end → drop n (within s at end) ≡ within s (at + n) end
unfolding within
within-drop s at end n h l =
    let k : ℕ = end - (at + n) in
    let p : end - at ≡ n + k = omega arith in
    let front : length (take n (drop at s)) ≡ n = simp (length-take, length-drop) (omega arith) in
    rw (p, take-add n k (drop at s)) (drop_at (take n (drop at s)) _ n front ∙ ap (take k) (drop-drop n at s))

within-take : (s : List ℕ) (at end n : ℕ) → at + n ≤ end → take n (within s at end) ≡ take n (drop at s)
unfolding within
within-take s at end n l = take-take n (end - at) (drop at s) (omega arith)

within-front : (s : List ℕ) (at end n : ℕ) → at + n ≤ end → take n (within s at end) ≡ within s at (at + n)
unfolding within
within-front s at end n l = let p : at + n - at ≡ n = omega arith in rw p (within-take s at end n l)

-- to the end of the file
pub within-rest : (s : List ℕ) (at : ℕ) → within s at (length s) ≡ drop at s
unfolding within
within-rest s at = take_all (length s - at) (drop at s) (simp length-drop (omega arith))

-- ---- numbers

pub two : (s : List ℕ) (at : ℕ) → at + 2 ≤ length s → from_big (take 2 (drop at s)) ≡ 256 * get_or s at 0 + get_or s (at + 1) 0
unfolding from_big
two s at h = rw (list-more s 0 at (omega arith), list-more s 0 (at + 1) (omega arith)) (omega arith)

pub four : (s : List ℕ) (at : ℕ) → at + 4 ≤ length s
    → from_big (take 4 (drop at s)) ≡ 65536 * (256 * get_or s at 0 + get_or s (at + 1) 0) + (256 * get_or s (at + 2) 0 + get_or s (at + 3) 0)
unfolding from_big
four s at h =
    let p : at + 1 + 1 ≡ at + 2 = omega arith in
    let q : at + 2 + 1 ≡ at + 3 = omega arith in
    rw (list-more s 0 at (omega arith), list-more s 0 (at + 1) (omega arith), p, list-more s 0 (at + 2) (omega arith), q, list-more s 0 (at + 3) (omega arith)) (omega arith)

-- ---- fields

module _ (s : List ℕ) (at end : ℕ) (h : end ≤ length s) (n : ℕ) where
  fixed-short : (go : List ℕ → List ℕ → Blocks) → end - at < n → fixed n go (within s at end) ≡ ended (Err FileTooShort)
  unfolding fixed cut
  fixed-short go l = rw (within-length s at end h) (pick-lt (end - at) n _ _ l)

  fixed_on : (go : List ℕ → List ℕ → Blocks) → at + n ≤ end → fixed n go (within s at end) ≡ go (take n (drop at s)) (within s (at + n) end)
  unfolding fixed
  fixed_on go l = rw (within-length s at end h, within-take s at end n l, within-drop s at end n h l) (pick-ge (end - at) n _ _ (omega arith))

  inside_past : (go : List ℕ → List ℕ → Blocks) → end - at < n → inside n go (within s at end) ≡ ended (Err OutOfRange)
  unfolding inside passed
  inside_past go l = rw (within-length s at end h) (pick-lt (end - at) n _ _ l)

  inside_on : (go : List ℕ → List ℕ → Blocks) → at + n ≤ end → inside n go (within s at end) ≡ go (within s at (at + n)) (within s (at + n) end)
  unfolding inside
  inside_on go l = rw (within-length s at end h, within-front s at end n l, within-drop s at end n h l) (pick-ge (end - at) n _ _ (omega arith))

  module _ (i : at ≤ end) where
    pub fixed-err : {r : Refusal} (go : List ℕ → List ℕ → Blocks) → Ahead FileTooShort at end n (Err r) → fixed n go (within s at end) ≡ ended (Err r)
    fixed-err go a = rw a.0 (fixed-short go (omega (arith, a.1)))

    inside-err : {r : Refusal} (go : List ℕ → List ℕ → Blocks) → Ahead OutOfRange at end n (Err r) → inside n go (within s at end) ≡ ended (Err r)
    inside-err go a = rw a.0 (inside_past go (omega (arith, a.1)))

  pub fixed-ok : {b : ℕ} (go : List ℕ → List ℕ → Blocks) → Ahead FileTooShort at end n (Ok b)
      → fixed n go (within s at end) ≡ go (take n (drop at s)) (within s b end)
  fixed-ok go a = rw a.0 (fixed_on go (omega (arith, a.0, a.1)))

  inside-ok : {b : ℕ} (go : List ℕ → List ℕ → Blocks) → Ahead OutOfRange at end n (Ok b)
      → inside n go (within s at end) ≡ go (within s at b) (within s b end)
  inside-ok go a = rw a.0 (inside_on go (omega (arith, a.0, a.1)))

-- ---- texts and parts: a length, and what it tells of

module _ (s : List ℕ) (at end : ℕ) (h : end ≤ length s) (i : at ≤ end) where
  pub text-short : {r : Refusal} → Ahead FileTooShort at end 2 (Err r) → Reads text s at end (Err r)
  unfolding text part
  text-short a = record { lies = tt; tells = λ go. fixed-err s at end h 2 i _ a }

  pub text-on : {b n : ℕ} → Ahead FileTooShort at end 2 (Ok b) → n ≡ from_big (take 2 (drop at s)) → (r : Result ℕ Refusal) → Ahead OutOfRange b end n r
      → Reads text s at end r
  unfolding text part
  text-on {b} {n} a q (Ok k) d = record {
    lies = (omega (arith, a.0, d.0), d.1);
    tells = λ go. fixed-ok s at end h 2 _ a ∙ rw (← q) (inside-ok s b end h n _ d);
  }
  text-on {b} {n} a q (Err why) d = record { lies = tt; tells = λ go. fixed-ok s at end h 2 _ a ∙ rw (← q) (inside-err s b end h n a.1 _ d) }

  pub part-short : {r : Refusal} → Ahead FileTooShort at end 4 (Err r) → PartAt s end at (Err r)
  unfolding part
  part-short a = record { lies = tt; tells = λ go. fixed-err s at end h 4 i _ a }

  module _ {b n : ℕ} (a : Ahead FileTooShort at end 4 (Ok b)) (q : n ≡ from_big (take 4 (drop at s))) where
    pub part-past : {r : Refusal} → Ahead OutOfRange b end n (Err r) → PartAt s end at (Err r)
    unfolding part
    part-past d = record { lies = tt; tells = λ go. fixed-ok s at end h 4 _ a ∙ rw (← q) (inside-err s b end h n a.1 _ d) }

    pub part-on : {k : ℕ} → Ahead OutOfRange b end n (Ok k) → PartAt s end at (Ok (record { at = b; end = k }))
    unfolding part
    part-on d = record {
      lies = (omega (arith, a.0), (omega (arith, d.0), d.1));
      tells = λ go. fixed-ok s at end h 4 _ a ∙ rw (← q) (inside-ok s b end h n _ d);
    }

-- ---- the design part

pub told : {s : List ℕ} {bs bs' : Blocks} {r : Result Design Refusal} → bs ≡ bs' → Designs s bs' r → Designs s bs r
told e d = record { lies = d.lies; tells = e ∙ d.tells }

pub refused : {s : List ℕ} {bs : Blocks} {why : Refusal} → bs ≡ ended (Err why) → Designs s bs (Err why)
refused e = record { lies = tt; tells = e }

-- behind the opening
pub opened : {s : List ℕ} {r : Result ℕ Refusal} → Reads text s 6 (length s) r
    → vp3_blocks s ≡ onward s (length s) r (skip 3 (part 4 (λ p rest. in_file_part p)))
unfolding vp3_blocks vp3_opening
opened {s} t = rw (← within-rest s 6) (t.tells _)

-- ---- where the next block starts

none-follow {ℓ} : {X : Type ℓ} (n : ℕ) → false ≡ ltb 0 (suc n) → X
none-follow n e = absurd (omega (arith, ltb-false 0 (suc n) (sym e)))

starts-beyond : {r : Refusal} (n : ℕ) (follows : Bool) (z by : ℤ) (bs : Blocks) → follows ≡ ltb 0 n → ok_or (start_by follows z by) OutOfRange ≡ Err r
    → starts n (z +ℤ by) bs ≡ ended (Err r)
unfolding starts passed
starts-beyond zero true z by bs e b = false-true (sym e)
starts-beyond zero false z by bs e b = cc
starts-beyond (suc n) true z by bs e b = by-test (beyond (z +ℤ by)) (λ t. rw t (let k = rw t at b in cc)) (λ t. let k = rw t at b in cc)
starts-beyond (suc n) false z by bs e b = none-follow n e

starts-at : {z' : ℤ} (n : ℕ) (follows : Bool) (z by : ℤ) (bs : Blocks) → follows ≡ ltb 0 n → ok_or (start_by follows z by) OutOfRange ≡ Ok z' → starts n (z +ℤ by) bs ≡ bs
unfolding starts
starts-at zero follows z by bs e b = refl
starts-at (suc n) true z by bs e b = by-test (beyond (z +ℤ by)) (λ t. let k = rw t at b in cc) (λ t. rw t)
starts-at (suc n) false z by bs e b = none-follow n e

start_is : {z' : ℤ} (z by : ℤ) → ok_or (start_by true z by) OutOfRange ≡ Ok z' → z +ℤ by ≡ z'
start_is z by b = by-test (beyond (z +ℤ by)) (λ t. let k = rw t at b in cc) (λ t. let k = rw t at b in cc)

-- where none follows, no start matters
next-from : {x' y' : ℤ} (n : ℕ) (follows : Bool) (x y a b : ℤ) (rest : List ℕ) → follows ≡ ltb 0 n
    → ok_or (start_by follows x a) OutOfRange ≡ Ok x' → ok_or (start_by follows y b) OutOfRange ≡ Ok y'
    → blocks_from n (x +ℤ a) (y +ℤ b) rest ≡ blocks_from n x' y' rest
unfolding blocks_from
next-from zero follows x y a b rest e p q = refl
next-from (suc n) true x y a b rest e p q = rw (start_is x a p, start_is y b q)
next-from (suc n) false x y a b rest e p q = none-follow n e

-- ---- shift fields

pub zero-sub : (z : ℤ) → pos 0 -ℤ z ≡ neg_ℤ z
zero-sub z = eq-neg (pos 0 -ℤ z) z (omega (arith, sub-law (pos 0) z))

module _ {s : List ℕ} {from to : ℕ} {x y : ℤ} {follows : Bool} where
  -- why a colour part is refused, and what leads on in it
  pub color_not : {body : ℕ → (ℤ → ℤ → Blocks) → List ℕ → Blocks} {why : Refusal}
      → ((n : ℕ) → follows ≡ ltb 0 n → (rest : List ℕ) → body n (λ x' y'. blocks_from n x' y' rest) (within s from to) ≡ ended (Err why))
      → Colors s from to x y follows body (Err why)
  color_not t = record { lies = tt; ends = tt; tells = t }

  pub color_on : {body inner : ℕ → (ℤ → ℤ → Blocks) → List ℕ → Blocks} {b : ℕ} → from ≤ b
      → ((n : ℕ) (go : ℤ → ℤ → Blocks) → body n go (within s from to) ≡ inner n go (within s b to))
      → (r : Result Block Refusal) → Colors s b to x y follows inner r → Colors s from to x y follows body r
  color_on h t (Ok k) w = record { lies = (omega (arith, w.lies.0), w.lies.1); ends = w.ends; tells = λ n e rest. t n _ ∙ w.tells n e rest }
  color_on h t (Err why) w = record { lies = tt; ends = tt; tells = λ n e rest. t n _ ∙ w.tells n e rest }

-- a coordinate, by the number as the file holds it
pub start-told : (f : List ℕ) (follows : Bool) (z : ℤ) {by : ℤ} {n : ℕ} {o : Option ℤ} {q : Result ℤ Refusal} → n ≡ from_big f → by ≡ toward_zero (signed 31 n) 100
    → o ≡ start_by follows z by → q ≡ ok_or o OutOfRange → ok_or (start_by follows z (shift f)) OutOfRange ≡ q
unfolding shift
start-told f follows z e d k v = rw (← e, ← d, ← k) (sym v)

pub start-told-below : (f : List ℕ) (follows : Bool) (z : ℤ) {by : ℤ} {n : ℕ} {o : Option ℤ} {q : Result ℤ Refusal} → n ≡ from_big f → by ≡ toward_zero (signed 31 n) 100
    → o ≡ start_by follows z (neg_ℤ by) → q ≡ ok_or o OutOfRange → ok_or (start_by follows z (neg_ℤ (shift f))) OutOfRange ≡ q
unfolding shift
start-told-below f follows z e d k v = rw (← e, ← d, ← k) (sym v)

module _ (s : List ℕ) (at end : ℕ) (h : end ≤ length s) (x y : ℤ) (c : Color) (follows : Bool) where
  abbrev Here : Result Block Refusal → Type 0
  Here r = Colors s at end x y follows (λ n. shifts n x y c) r

  pub shifts-short : {r : Refusal} → at ≤ end → Ahead FileTooShort at end 4 (Err r) → Here (Err r)
  unfolding shifts
  shifts-short i a = color_not (λ n e rest. fixed-err s at end h 4 i _ a)

  module _ {b : ℕ} (a : Ahead FileTooShort at end 4 (Ok b)) where
    pub shifts-beyond-x : {r : Refusal} → ok_or (start_by follows x (shift (take 4 (drop at s)))) OutOfRange ≡ Err r → Here (Err r)
    unfolding shifts
    shifts-beyond-x d = color_not (λ n e rest. fixed-ok s at end h 4 _ a ∙ starts-beyond n follows x _ _ e d)

    -- the first number is read: x' is the next block's
    module _ {x' : ℤ} (d : ok_or (start_by follows x (shift (take 4 (drop at s)))) OutOfRange ≡ Ok x') where
      pub shifts-half : {r : Refusal} → Ahead FileTooShort b end 4 (Err r) → Here (Err r)
      unfolding shifts
      shifts-half g = color_not (λ n e rest. fixed-ok s at end h 4 _ a ∙ starts-at n follows x _ _ e d ∙ fixed-err s b end h 4 a.1 _ g)

      module _ {k : ℕ} (g : Ahead FileTooShort b end 4 (Ok k)) where
        pub shifts-beyond-y : {r : Refusal} → ok_or (start_by follows y (neg_ℤ (shift (take 4 (drop b s))))) OutOfRange ≡ Err r → Here (Err r)
        unfolding shifts
        shifts-beyond-y f = color_not (λ n e rest. fixed-ok s at end h 4 _ a ∙ starts-at n follows x _ _ e d ∙ fixed-ok s b end h 4 _ g ∙ starts-beyond n follows y _ _ e f)

        module _ {y' : ℤ} (f : ok_or (start_by follows y (neg_ℤ (shift (take 4 (drop b s))))) OutOfRange ≡ Ok y') where
          both : (n : ℕ) → follows ≡ ltb 0 n → (rest : List ℕ)
              → shifts n x y c (λ x'' y''. blocks_from n x'' y'' rest) (within s at end) ≡ stitch_part x y c (blocks_from n x' y' rest) (within s k end)
          unfolding shifts
          both n e rest = fixed-ok s at end h 4 _ a ∙ starts-at n follows x _ _ e d ∙ fixed-ok s b end h 4 _ g
              ∙ starts-at n follows y _ _ e f ∙ rw (next-from n follows x y _ _ rest e d f)

          pub shifts-on : (r : Result Block Refusal) → StitchPart s k end c x' y' r → Here r
          shifts-on (Ok v) w = record {
            lies = (omega (arith, w.lies.0, a.0, g.0), w.lies.1);
            ends = w.has.1.1.1;
            tells = λ n e rest. both n e rest ∙ w.tells x y _ ∙ rw (w.has.1.0, w.has.1.1.0);
          }
          shifts-on (Err why) w = record { lies = tt; ends = tt; tells = λ n e rest. both n e rest ∙ w.tells x y _ }

-- the colour of a colour part
pub color-is : (s : List ℕ) (from : ℕ) → color_of (take 18 (drop from s)) ≡ color (get_or s (from + 10) 0) (get_or s (from + 11) 0) (get_or s (from + 12) 0)
unfolding color_of
color-is s from = rw (at-18 10 (omega arith), at-18 11 (omega arith), at-18 12 (omega arith))
  where
    at-18 : (i : ℕ) → i < 18 → get_or (take 18 (drop from s)) i 0 ≡ get_or s (from + i) 0
    at-18 i g = get_or-take 18 (drop from s) i 0 g ∙ get_or-drop from s i 0

-- ---- stitch parts and blocks: three bytes, and a part

module _ (s : List ℕ) (from to : ℕ) (h : to ≤ length s) where
  pub behind : {b : ℕ} (r : Result Part Refusal) → Ahead FileTooShort from to 3 (Ok b) → PartAt s to b r
      → (go : List ℕ → List ℕ → Blocks) → skip 3 (part 4 go) (within s from to) ≡ part_then s to r go
  unfolding skip
  behind r a k go = fixed-ok s from to h 3 _ a ∙ k.tells go

  module _ {x y : ℤ} {follows : Bool} where
    pub block_not : {why : Refusal} → ((go : List ℕ → List ℕ → Blocks) → skip 3 (part 4 go) (within s from to) ≡ ended (Err why))
        → BlockRead s from to x y follows (Err why)
    unfolding blocks_from
    block_not k = record { lies = tt; tells = λ n e. k _ }

    pub block_on : {b : ℕ} {p : Part} → Ahead FileTooShort from to 3 (Ok b) → PartAt s to b (Ok p)
        → (r : Result Block Refusal) → Colors s p.at p.end x y follows (λ n. in_color_part n x y) r → BlockRead s from to x y follows r
    unfolding blocks_from
    block_on a k (Ok v) w = record {
      lies = (omega (arith, w.lies, k.lies, a.0), (w.lies.1.0, (w.lies.1.1.0, omega (arith, w.lies, k.lies))));
      tells = λ n e. behind _ a k _ ∙ w.tells n e _ ∙ rw w.ends;
    }
    block_on a k (Err why) w = record { lies = tt; tells = λ n e. behind _ a k _ ∙ w.tells n e _ }
