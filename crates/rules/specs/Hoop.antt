-- A hoop: whether every place of every run that a file gives lies in it.
use Rattle.std.specs.Prelude.{ℕ, ◌*◌, Bool, true, ◌&&◌, List, [], ◌∷◌, ℤ, take, Ok, Err, Option, Result, ⊤, false}
use Rattle.rules.specs.Vocabulary.{between}
use Rattle.rules.specs.Files.{file_verdict, places_told}
use Rattle.rules.specs.declared.Hoop.{Hoop}
use Rattle.rules.specs.declared.Counts.{Counts}
use Rattle.rules.specs.declared.Refusal.{Refusal}
use Rattle.rules.specs.declared.Format.{Format}

-- x from left to right and y from top to bottom, edges included
unfoldable pub in_hoop : Hoop → ℤ → ℤ → Bool
in_hoop h x y = between h.left h.right x && between h.top h.bottom y

-- every place of every run; each has two cells
unfoldable pub all_in_hoop : Hoop → List ℤ → Bool
all_in_hoop h [] = true
all_in_hoop h (x ∷ []) = true
all_in_hoop h (x ∷ y ∷ ps) = in_hoop h x y && all_in_hoop h ps

-- yes, no, or the refusal
unfoldable pub fits_answer : Result ⊤ Refusal → Bool → Result Bool Refusal
fits_answer (Ok u) b = Ok b
fits_answer (Err r) b = Err r

-- what `fits` answers, which meets every refusal of reading but 11
unfoldable pub fits_told : Option Format → List ℕ → Hoop → Result Bool Refusal
fits_told e s h = fits_answer (file_verdict e s) (all_in_hoop h (places_told e s))

-- the answer got by a read: from its own answer, and from what the buffer for places then holds
unfoldable pub fits_by_read : Hoop → Result Counts Refusal → List ℤ → Result Bool Refusal
fits_by_read h (Ok c) places = fits_answer (Ok tt) (all_in_hoop h (take (2 * c.points) places))
fits_by_read h (Err r) places = Err r

unfoldable pub fits_bit : Result Bool Refusal → ℕ
fits_bit (Ok true) = 1
fits_bit (Ok false) = 0
fits_bit (Err r) = 0
