-- Numbers of two, four and eight bytes, the highest byte first.
use Rattle.std.specs.Prelude.{ℕ, ◌<◌, List, slice_index}
use Rattle.byteorder.specs.Endian.{big_bytes, big_from}

-- numbers that are bytes
abbrev pub IsBytes : List ℕ → Type 0
IsBytes bytes = (i : ℕ) → slice_index bytes i < 256

-- the lowest two, four and eight bytes of a number
unfoldable pub be2 : ℕ → List ℕ
be2 x = big_bytes 2 x

unfoldable pub be4 : ℕ → List ℕ
be4 x = big_bytes 4 x

unfoldable pub be8 : ℕ → List ℕ
be8 x = big_bytes 8 x

-- the number in the two, four and eight bytes from a place
unfoldable pub number2 : List ℕ → ℕ → ℕ
number2 bytes at = big_from at 2 bytes

unfoldable pub number4 : List ℕ → ℕ → ℕ
number4 bytes at = big_from at 4 bytes

unfoldable pub number8 : List ℕ → ℕ → ℕ
number8 bytes at = big_from at 8 bytes
