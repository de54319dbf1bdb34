-- What the definitions of every topic use: tests, numbers in bytes and in text, searches.
use Rattle.std.specs.Prelude.{ℕ, zero, suc, ◌+◌, ◌-◌, ◌*◌, ◌/◌, ◌%◌, ◌^◌, Bool, true, false, ◌&&◌, ◌||◌, List, [], ◌∷◌, ◌++◌, ltb, eqb, ℤ, pos, negsuc, length, replicate, Some, None, Option}
use Rattle.std.specs.Int.Signed.{le_z}

-- if-then-else
abbrev pub pick {ℓ} : {X : Type ℓ} → Bool → X → X → X
pick true x y = x
pick false x y = y

-- two integers are equal
abbrev pub eq_z : ℤ → ℤ → Bool
eq_z a b = le_z a b && le_z b a

-- z is from lo to hi
unfoldable pub between : ℤ → ℤ → ℤ → Bool
between lo hi z = le_z lo z && le_z z hi

-- each element passes the test p
unfoldable pub all : {A : Type 0} → (A → Bool) → List A → Bool
all p [] = true
all p (x ∷ xs) = p x && all p xs

-- some element passes the test p
unfoldable pub any : {A : Type 0} → (A → Bool) → List A → Bool
any p [] = false
any p (x ∷ xs) = p x || any p xs

-- how many elements pass the test p
unfoldable pub count : {A : Type 0} → (A → Bool) → List A → ℕ
count p [] = 0
count p (x ∷ xs) = pick (p x) 1 0 + count p xs

-- the elements that pass the test p
unfoldable pub keep : {A : Type 0} → (A → Bool) → List A → List A
keep p [] = []
keep p (x ∷ xs) = pick (p x) (x ∷ keep p xs) (keep p xs)

-- one place further on
unfoldable pub next : Option ℕ → Option ℕ
next (Some i) = Some (suc i)
next None = None

-- the first place whose element passes the test p
unfoldable pub first_where : {A : Type 0} → (A → Bool) → List A → Option ℕ
first_where p [] = None
first_where p (x ∷ xs) = pick (p x) (Some 0) (next (first_where p xs))

-- the one found, or else the other
unfoldable pub or_else : Option ℕ → Option ℕ → Option ℕ
or_else (Some i) other = Some i
or_else None other = other

-- the last place whose element passes the test p
unfoldable pub last_where : {A : Type 0} → (A → Bool) → List A → Option ℕ
last_where p [] = None
last_where p (x ∷ xs) = or_else (next (last_where p xs)) (pick (p x) (Some 0) None)

-- two lists of bytes are equal
unfoldable pub same_bytes : List ℕ → List ℕ → Bool
same_bytes [] [] = true
same_bytes [] (b ∷ t) = false
same_bytes (a ∷ s) [] = false
same_bytes (a ∷ s) (b ∷ t) = eqb a b && same_bytes s t

-- two's complement at k + 1 bits: n below 2 ^ k is itself, and from there on it is n - 2 ^ (k + 1)
unfoldable pub signed : ℕ → ℕ → ℤ
signed k n = pick (ltb n (2 ^ k)) (pos n) (negsuc (2 ^ (k + 1) - (n + 1)))

-- z modulo 2 ^ (k + 1): the number of k + 1 bits that `signed k` takes back to z, if z is of k + 1 bits
unfoldable pub bits_of : ℕ → ℤ → ℕ
bits_of k (pos n) = n % 2 ^ (k + 1)
bits_of k (negsuc n) = 2 ^ (k + 1) - 1 - n % 2 ^ (k + 1)

-- v modulo 256 ^ n as n bytes, the low byte first
unfoldable pub little : ℕ → ℕ → List ℕ
little zero v = []
little (suc n) v = v % 256 ∷ little n (v / 256)

-- the number that bytes make, the low byte first
unfoldable pub from_little : List ℕ → ℕ
from_little [] = 0
from_little (b ∷ bs) = b + 256 * from_little bs

-- concatenation
unfoldable pub joined : List (List ℕ) → List ℕ
joined [] = []
joined (p ∷ ps) = p ++ joined ps

-- digit k of v, counted from the right, as a character; a blank where v has no such digit
unfoldable pub digit_at : ℕ → ℕ → ℕ
digit_at k v = pick (ltb 0 k && ltb v (10 ^ k)) 0x20 (0x30 + v / 10 ^ k % 10)

-- v in decimal, right-aligned in n columns
unfoldable pub right : ℕ → ℕ → List ℕ
right zero v = []
right (suc k) v = digit_at k v ∷ right k v

-- filled with blanks to n bytes
unfoldable pub padded : ℕ → List ℕ → List ℕ
padded n s = s ++ replicate (n - length s) 0x20

-- `body go x` may ask `go` for smaller ones; with fuel n this goes n deep, and answers `none` at the bottom
unfoldable pub fuelled : {X R : Type 0} → ((X → R) → X → R) → R → ℕ → X → R
fuelled body none zero x = none
fuelled body none (suc n) x = body (fuelled body none n) x
