-- The field at a place, by its tag and its length. Assumes nothing.
use Rattle.std.specs.Prelude.{Option, Some, None, Err}
use Prim.Native.Nat.{ℕ, ◌+◌, ◌-◌, ◌≤◌, ◌<◌}
use mathlib.Core.Path.{◌≡◌, refl, ap, ◌∙◌}
use mathlib.Core.Bool.{Bool, true, false, ◌||◌, not}
use mathlib.Core.List.{List, ◌∷◌}
use native.Mathlib.Omega.{arith}
use borrow.Author.Tests.{ltb-false}
use lib.Dec.{ltb}
use lib.ListN.{length, take, drop, get_or, length-drop}
use lib.Seq.{drop-drop}
use Rattle.rules.specs.Vocabulary.{pick, from_little}
use Rattle.rules.specs.Jobs.{Fields, ended, bad_tag, bad_length, follows, length_allowed, content_then, field_then, fields_from}
use Rattle.rules.specs.declared.Refusal.TheVariants.{BadTag, BadLength}
use Rattle.laws.specs.Jobs.{fields-step}
use Rattle.laws.specs.Listing.{list-more}
use Rattle.laws.specs.Tests.{or-no-left}
use Rattle.read_job_fields.specs.Fields.{tag_by, length_by, field_and, Lies}

-- what an answer tells of the tests that it was picked by
a-tag : (b : Bool) (tag : ℕ) {t : ℕ} → pick b (Some tag) None ≡ Some t → (b ≡ true) × (t ≡ tag)
a-tag true tag e = (refl, cc)
a-tag false tag e = cc

no-tag : (b : Bool) (tag : ℕ) (fs : Fields) → pick b (Some tag) None ≡ None → pick (not b) bad_tag fs ≡ ended (Err BadTag)
unfolding bad_tag
no-tag true tag fs e = cc
no-tag false tag fs e = refl

abbrev length_picked : Bool → Bool → ℕ → Option ℕ
length_picked a b n = pick a None (pick b None (Some n))

a-length : (a b : Bool) (n : ℕ) {m : ℕ} → length_picked a b n ≡ Some m → (a ≡ false) × ((b ≡ false) × (m ≡ n))
a-length true b n e = cc
a-length false true n e = cc
a-length false false n e = (refl, (refl, cc))

no_length : (a b : Bool) (n : ℕ) (fs : Fields) → length_picked a b n ≡ None → pick a bad_length (pick b bad_length fs) ≡ ended (Err BadLength)
unfolding bad_length
no_length true b n fs e = refl
no_length false true n fs e = refl
no_length false false n fs e = cc

module _ (s : List ℕ) (before at : ℕ) (h : at < length s) where
  abbrev rest : List ℕ
  rest = drop (at + 1) s

  first : fields_from before (drop at s) ≡ field_then fields_from before (get_or s at 0 ∷ rest)
  first = fields-step before (drop at s) ∙ ap (field_then fields_from before) (list-more s 0 at h)

  pub tag_refused : tag_by before (get_or s at 0) ≡ None → fields_from before (drop at s) ≡ ended (Err BadTag)
  unfolding field_then
  tag_refused e = first ∙ no-tag (follows before (get_or s at 0)) (get_or s at 0) _ e

  module _ {tag : ℕ} (e : tag_by before (get_or s at 0) ≡ Some tag) where
    abbrev len : ℕ
    len = from_little (take 2 rest)

    abbrev past : Bool
    past = ltb (length (drop 2 rest)) len || not (length_allowed tag len)

    second : fields_from before (drop at s) ≡ pick (ltb (length rest) 2) bad_length (content_then fields_from tag len (drop 2 rest))
    unfolding field_then
    second = let t = a-tag (follows before (get_or s at 0)) (get_or s at 0) e in first ∙ rw (t.0, ← t.1)

    pub length_refused : length_by tag rest ≡ None → fields_from before (drop at s) ≡ ended (Err BadLength)
    unfolding content_then
    length_refused l = second ∙ no_length (ltb (length rest) 2) past len _ l

    module _ {n : ℕ} (l : length_by tag rest ≡ Some n) where
      picked : (ltb (length rest) 2 ≡ false) × ((past ≡ false) × (n ≡ len))
      picked = a-length (ltb (length rest) 2) past len l

      content-is : drop 2 rest ≡ drop (at + 3) s
      content-is = let e : at + 1 + 2 ≡ at + 3 = omega arith in rw (← e) (drop-drop 2 (at + 1) s)

      behind-is : drop n (drop (at + 3) s) ≡ drop (at + 3 + n) s
      behind-is = drop-drop n (at + 3) s

      whole : at + 3 + n - (at + 3) ≡ n
      whole = omega arith

      pub inside : at + 3 + n ≤ length s
      inside =
          let a = ltb-false (length rest) 2 picked.0 in
          let b = ltb-false (length (drop 2 rest)) len (or-no-left _ _ picked.1.0) in
          omega (arith, length-drop (at + 1) s, length-drop 2 rest, picked.1.1)

      third : fields_from before (drop at s) ≡ field_and tag (take n (drop 2 rest)) (fields_from tag (drop n (drop 2 rest)))
      unfolding content_then
      third = second ∙ rw (picked.0, picked.1.0, ← picked.1.1)

      pub lies : Lies s before at tag (at + 3) (at + 3 + n)
      lies = record {
        begins = refl;
        ends = omega arith;
        inside = inside;
        tells = third ∙ rw (content-is, behind-is, whole);
      }
