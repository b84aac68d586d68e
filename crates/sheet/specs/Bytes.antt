-- Numbers in bytes: "Big-endian". A byte past the end reads as 0, so that every definition answers for every list.
use Rattle.std.specs.Prelude.{List, ℕ, ◌+◌, ◌*◌, get_or}
use Rattle.condition.specs.Word.{big_endian}

abbrev pub byte : List ℕ → ℕ → ℕ
byte s i = get_or s i 0

-- two bytes, four bytes
abbrev pub half : List ℕ → ℕ → ℕ
half s i = byte s i * 256 + byte s (i + 1)

abbrev pub word : List ℕ → ℕ → ℕ
word s i = big_endian (byte s i) (byte s (i + 1)) (byte s (i + 2)) (byte s (i + 3))
