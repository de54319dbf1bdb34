-- The lines of the header text, in the parts that the code puts.
use Rattle.std.specs.Prelude.{ℕ, Bool, List, [], ◌∷◌, ℤ, pos, nat_abs, neg_ℤ, replicate}
use Rattle.rules.specs.Vocabulary.{joined, right}
use Rattle.rules.specs.Lists.{op_of, is_trim}
use Rattle.rules.specs.Dst.{line, signed_right}
use Rattle.rules.specs.declared.Cmd.{Cmd}

unfoldable pub trimming : Cmd → Bool
trimming c = is_trim (op_of c.kind)

abbrev pub counts_text : ℕ → ℕ → List ℕ
counts_text records colors = joined (line 0x53 0x54 (right 7 records) ∷ line 0x43 0x4F (right 3 colors) ∷ [])

abbrev pub bounds_text : ℤ → ℤ → ℤ → ℤ → List ℕ
bounds_text x x' y y' = joined
    (line 0x2B 0x58 (right 5 (nat_abs x))
    ∷ line 0x2D 0x58 (right 5 (nat_abs x'))
    ∷ line 0x2B 0x59 (right 5 (nat_abs y))
    ∷ line 0x2D 0x59 (right 5 (nat_abs y'))
    ∷ [])

abbrev pub last_text : ℤ → ℤ → List ℕ
last_text x y = joined
    (line 0x41 0x58 (signed_right x)
    ∷ line 0x41 0x59 (signed_right (neg_ℤ y))
    ∷ line 0x4D 0x58 (signed_right (pos 0))
    ∷ line 0x4D 0x59 (signed_right (pos 0))
    ∷ [])

abbrev pub end_text : List ℕ
end_text = joined (line 0x50 0x44 (replicate 6 0x2A) ∷ (0x1A ∷ []) ∷ [])
