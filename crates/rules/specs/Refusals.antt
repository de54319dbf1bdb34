-- Refusals: their numbers, the conditions by whoever made the list, and the extension.
use Rattle.std.specs.Prelude.{ℕ, ◌+◌, ◌/◌, ◌%◌, Bool, ◌&&◌, ◌||◌, not, List, [], ◌∷◌, ◌++◌, map, ltb, leb, eqb, ℤ, pos, ◌-ℤ◌, length, Some, None, Ok, Err, Option, Result, ⊤}
use Rattle.rules.specs.Vocabulary.{pick, between, any, count, same_bytes}
use Rattle.rules.specs.Limits.{most_commands, most_changes, most_threads}
use Rattle.rules.specs.Lists.{op_of, commands, ends_once, placed, same_place, is_change, stands, any_from}
use Rattle.rules.specs.Formats.{layout_of, formats}
use Rattle.rules.specs.declared.Cmd.{Cmd}
use Rattle.rules.specs.declared.Format.{Format}
use Rattle.rules.specs.declared.Refusal.{Refusal}
use Rattle.rules.specs.declared.Refusal.TheVariants.{UnknownExtension, FileTooLong, BadOpening, FileTooShort, StartBelowZero, BadList, PlaceOutside, TooMany, Moved}
use Rattle.rules.specs.declared.Refusal.TheVariants.{StepTooLong, BufferTooShort, OutOfRange, BadTag, BadLength}

-- the number of a refusal
unfoldable pub number_of : Refusal → ℕ
number_of UnknownExtension = 1
number_of FileTooLong = 2
number_of BadOpening = 3
number_of FileTooShort = 4
number_of StartBelowZero = 5
number_of BadList = 6
number_of PlaceOutside = 7
number_of TooMany = 8
number_of Moved = 9
number_of StepTooLong = 10
number_of BufferTooShort = 11
number_of OutOfRange = 12
number_of BadTag = 13
number_of BadLength = 14

-- the number of an answer, 0 without a refusal
unfoldable pub answer_number : {A : Type 0} → Result A Refusal → ℕ
answer_number (Ok a) = 0
answer_number (Err r) = number_of r

-- An extension is compared without regard to ASCII case.
unfoldable pub lower : ℕ → ℕ
lower b = pick (leb 0x41 b && leb b 0x5A) (b + 0x20) b

unfoldable pub named : List ℕ → List ℕ → Bool
named ext name = same_bytes (map lower ext) name

-- 1: an extension that none of the formats has
unfoldable pub named_in : List Format → List ℕ → Option Format
named_in [] ext = None
named_in (f ∷ fs) ext = pick (named ext (layout_of f).extension) (Some f) (named_in fs ext)

unfoldable pub extension_of : List ℕ → Option Format
extension_of ext = named_in formats ext

-- 6: empty, over 65,535 commands, x, y and kind slices of unequal length, a kind over 4, or the end missing, early or repeated
unfoldable pub bad_list : List ℤ → List ℤ → List ℕ → Bool
bad_list xs ys kinds =
    eqb (length kinds) 0
    || (ltb most_commands (length kinds)
    || (not (eqb (length xs) (length kinds))
    || (not (eqb (length ys) (length kinds))
    || (any (ltb 4) kinds
    || not (ends_once kinds)))))

-- 7: a place outside the range
unfoldable pub outside : Cmd → Bool
outside c = not (placed c.x c.y)

unfoldable pub place_outside : List Cmd → Bool
place_outside cs = any outside cs

-- 8: too many colour changes or threads, or thread bytes not a multiple of three
unfoldable pub changes : Cmd → Bool
changes c = is_change (op_of c.kind)

unfoldable pub too_many : List Cmd → List ℕ → Bool
too_many cs threads =
    ltb most_changes (count changes cs)
    || (ltb most_threads (length threads / 3)
    || not (eqb (length threads % 3) 0))

-- 9: a trim, colour change or end that moves
unfoldable pub moves : ℤ → ℤ → Cmd → Bool
moves x y c = stands (op_of c.kind) && not (same_place x y c.x c.y)

unfoldable pub moved : List Cmd → Bool
moved cs = any_from moves (pos 0) (pos 0) cs

-- a step is the change of place on one axis: both are within the format's limits
unfoldable pub least_step : Format → ℤ
least_step f = (layout_of f).least

unfoldable pub greatest_step : Format → ℤ
greatest_step f = (layout_of f).greatest

unfoldable pub step_in : Format → ℤ → ℤ → Bool
step_in f dx dy = between (least_step f) (greatest_step f) dx && between (least_step f) (greatest_step f) dy

-- 10: a step past the format's limit
unfoldable pub steps_past : Format → ℤ → ℤ → Cmd → Bool
steps_past f x y c = not (step_in f (c.x -ℤ x) (c.y -ℤ y))

unfoldable pub step_too_long : Format → List Cmd → Bool
step_too_long f cs = any_from (steps_past f) (pos 0) (pos 0) cs

-- A number comes if its condition holds and no earlier one's does, and otherwise not.
unfoldable pub verdict : List (Refusal × Bool) → Result ⊤ Refusal
verdict [] = Ok tt
verdict (c ∷ cs) = pick c.1 (Err c.0) (verdict cs)

-- 6 to 9, each over the whole list, whatever the format
abbrev pub command_refusals : List ℤ → List ℤ → List ℕ → List ℕ → List (Refusal × Bool)
command_refusals xs ys kinds threads =
    (BadList, bad_list xs ys kinds)
    ∷ (PlaceOutside, place_outside (commands xs ys kinds))
    ∷ (TooMany, too_many (commands xs ys kinds) threads)
    ∷ (Moved, moved (commands xs ys kinds))
    ∷ []

-- 6 to 10
unfoldable pub list_refusals : Format → List ℤ → List ℤ → List ℕ → List ℕ → List (Refusal × Bool)
list_refusals f xs ys kinds threads = command_refusals xs ys kinds threads ++ (StepTooLong, step_too_long f (commands xs ys kinds)) ∷ []

-- A list with its threads is accepted by 6 to 9 if none of them holds.
unfoldable pub command_verdict : List ℤ → List ℤ → List ℕ → List ℕ → Result ⊤ Refusal
command_verdict xs ys kinds threads = verdict (command_refusals xs ys kinds threads)

-- A list with its threads is accepted for a format if none of 6 to 10 holds of them.
unfoldable pub list_verdict : Format → List ℤ → List ℤ → List ℕ → List ℕ → Result ⊤ Refusal
list_verdict f xs ys kinds threads = verdict (list_refusals f xs ys kinds threads)
