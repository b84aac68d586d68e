-- Words: the 32 bits of a signed value, as a number below 2^32, and the arithmetic of document 01, "Conditions and values", with
-- plus and minus as document 02, slip 2, has them.
use Rattle.std.specs.Prelude.{◌≡◌, ℕ, ◌+◌, ◌-◌, ◌*◌, ◌%◌, ◌^◌, ◌<◌, Bool, cond, ℤ, pos, negsuc, ◌+ℤ◌, ◌-ℤ◌, ◌≤ℤ◌, ◌<ℤ◌, ◌==◌, int_lt, nat_le, nat_lt}

-- "read as signed": from 2^31 on, a word a stands for a - 2^32
unfoldable pub signed : ℕ → ℤ
signed a = cond (nat_lt a (2 ^ 31)) (pos a) (negsuc (2 ^ 32 - 1 - a))

-- "a minus b modulo 2^32"
unfoldable pub difference : ℕ → ℕ → ℕ
difference a b = (2 ^ 32 + a - b) % 2 ^ 32

-- the word that reads as a number of the signed range
unfoldable pub unsigned : ℤ → ℕ
unsigned (pos n) = n
unsigned (negsuc n) = 2 ^ 32 - 1 - n

-- "the ends of the signed range"
unfoldable pub low_end : ℤ
low_end = negsuc (2 ^ 31 - 1)

unfoldable pub high_end : ℤ
high_end = pos (2 ^ 31 - 1)

-- a whole number, or the end that it is past
unfoldable pub clamp : ℤ → ℤ
clamp z = cond (int_lt z low_end) low_end (cond (int_lt high_end z) high_end z)

-- "Plus and minus therefore stop at the ends of the signed range"
unfoldable pub plus_word : ℕ → ℕ → ℕ
plus_word a b = unsigned (clamp (signed a +ℤ signed b))

unfoldable pub minus_word : ℕ → ℕ → ℕ
minus_word a b = unsigned (clamp (signed a -ℤ signed b))

-- "less e e (signed)"
unfoldable pub less_word : ℕ → ℕ → Bool
less_word a b = int_lt (signed a) (signed b)

unfoldable pub equal_word : ℕ → ℕ → Bool
equal_word a b = a == b

-- "elapsed time is a minus b modulo 2^32, and it holds when that, unsigned, is at most k read unsigned"
unfoldable pub within_word : ℕ → ℕ → ℕ → Bool
within_word a b k = nat_le (difference a b) k

-- four bytes, big-endian
unfoldable pub big_endian : ℕ → ℕ → ℕ → ℕ → ℕ
big_endian a b c d = ((a * 256 + b) * 256 + c) * 256 + d

-- What stopping at the ends means, for a word r in place of a whole number z that modulo 2^32 would be the word m: r reads as a number
-- between the ends; where z is between them too, r reads as z and is m; where z is past one, r reads as that end.
abbrev pub Between : ℤ → Type 0
Between z = (low_end ≤ℤ z) × (z ≤ℤ high_end)

pub record Stops (r : ℕ) (z : ℤ) (m : ℕ) : Type 0 where
  pub between : Between (signed r)
  pub exact : Between z → signed r ≡ z
  pub as_before : Between z → r ≡ m
  pub past_high : high_end <ℤ z → signed r ≡ high_end
  pub past_low : z <ℤ low_end → signed r ≡ low_end

-- Document 01's "modulo 2^32" is what plus and minus still are where that fits.
abbrev pub PlusStops : Type 0
PlusStops = (a b : ℕ) → a < 2 ^ 32 → b < 2 ^ 32 → Stops (plus_word a b) (signed a +ℤ signed b) ((a + b) % 2 ^ 32)

abbrev pub MinusStops : Type 0
MinusStops = (a b : ℕ) → a < 2 ^ 32 → b < 2 ^ 32 → Stops (minus_word a b) (signed a -ℤ signed b) (difference a b)
