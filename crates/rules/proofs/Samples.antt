-- The samples of the specification that are to be proved: one theorem over a table of what the definitions give and what the sample says.
use Rattle.std.specs.Prelude.{◌≡◌, refl, List, [], ◌∷◌, ℕ, ℤ, pos, neg_ℤ}
use Rattle.rules.specs.Vocabulary.{signed, bits_of, between, all, any, count, next, or_else, last_where}
use Rattle.rules.specs.Lists.{op_of, commands, ends_once, placed, same_place, is_change, stands, any_from}
use Rattle.rules.specs.Refusals.{number_of, bad_list, outside, place_outside, changes, too_many, moves, moved, least_step, greatest_step, step_in, steps_past, step_too_long, answer_number}
use Rattle.rules.specs.Refusals.{verdict, list_refusals, list_verdict}
use Rattle.rules.specs.Charts.{color, pec_chart}
use Rattle.rules.specs.Choices.{half_to_even, gap, weighed, distance, no_nearer, nearest, nearest_index, choices, pec_palette}
use Rattle.rules.specs.Dst.{digit, rest, z27, z9, z3, z1, pair, dst_bytes, dst_cmd}
use Rattle.rules.specs.Pec.{wide, pec_value, pec_start, pec_cmd, found_or}
use Rattle.rules.specs.Exp.{pair_of, exp_cmd}
use Rattle.rules.specs.Files.{write_answer}
use Rattle.rules.specs.declared.Format.{Format}
use Rattle.rules.specs.declared.Format.TheVariants.{Pec, Dst}
use Rattle.rules.specs.declared.Op.TheVariants.{Stitch, Jump}

-- the number by which a list of a stitch to (z, 0) and the end is refused; 0 if it is accepted
unfoldable pub refused_by : Format → ℤ → ℕ
refused_by f z = answer_number (write_answer 0 (list_verdict f (z ∷ z ∷ []) (pos 0 ∷ pos 0 ∷ []) (0 ∷ 4 ∷ []) []) 0)

-- what a definition gives, and what it must be
unfoldable pub samples : List (List ℕ × List ℕ)
samples =
    (dst_cmd Stitch (pos 0) (pos 0), 0x00 ∷ 0x00 ∷ 0x03 ∷ [])
    ∷ (dst_cmd Stitch (pos 121) (pos 0), 0x05 ∷ 0x05 ∷ 0x07 ∷ [])
    ∷ (refused_by Dst (pos 121) ∷ refused_by Dst (pos 122) ∷ [], 0 ∷ 10 ∷ [])
    ∷ (dst_cmd Jump (pos 0) (pos 1), 0x40 ∷ 0x00 ∷ 0x83 ∷ [])
    ∷ (pec_value (neg_ℤ (pos 63)), 0x41 ∷ [])
    ∷ (pec_value (pos 62), 0x3E ∷ [])
    ∷ (pec_value (pos 63), 0x80 ∷ 0x3F ∷ [])
    ∷ (pec_value (neg_ℤ (pos 64)), 0x8F ∷ 0xC0 ∷ [])
    ∷ (pec_value (pos 2047), 0x87 ∷ 0xFF ∷ [])
    ∷ (pec_value (neg_ℤ (pos 2048)), 0x88 ∷ 0x00 ∷ [])
    ∷ (refused_by Pec (neg_ℤ (pos 2048)) ∷ refused_by Pec (pos 2048) ∷ [], 0 ∷ 10 ∷ [])
    ∷ (pec_cmd pec_start Jump (pos 0) (pos 0), 0x90 ∷ 0x00 ∷ 0x90 ∷ 0x00 ∷ [])
    ∷ (exp_cmd Jump (pos 5) (neg_ℤ (pos 5)), 0x80 ∷ 0x04 ∷ 0x05 ∷ 0x05 ∷ [])
    ∷ (found_or 0 (nearest_index (color 0 0 0) pec_palette) ∷ [], 20 ∷ [])
    ∷ (distance (color 255 255 255) (color 240 240 240) ∷ [], 2023 ∷ [])
    ∷ []

-- each is what it must be
abbrev pub Hold : List (List ℕ × List ℕ) → Type 0
Hold [] = Unit {0}
Hold (s ∷ ss) = (s.0 ≡ s.1) × Hold ss

pub samples-hold : Hold samples
unfolding refused_by samples signed bits_of between all any count next or_else last_where op_of commands ends_once placed same_place is_change stands any_from least_step
    greatest_step step_in number_of bad_list outside place_outside changes too_many moves moved steps_past step_too_long verdict list_refusals list_verdict write_answer answer_number
    pec_chart half_to_even gap weighed distance no_nearer nearest nearest_index choices pec_palette digit rest z27 z9 z3 z1 pair dst_bytes dst_cmd wide pec_value pec_start pec_cmd
    found_or pair_of exp_cmd
samples-hold = (refl, (refl, (refl, (refl, (refl, (refl, (refl, (refl, (refl, (refl, (refl, (refl, (refl, (refl, (refl, tt)))))))))))))))
