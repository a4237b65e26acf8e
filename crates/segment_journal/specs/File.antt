-- The file of a segment: for each payload an open gate, its length and its bytes, and then a closed gate.
-- A gate is open where it is 1.
use Rattle.std.specs.Prelude.{◌≡◌, ◌≢◌, ◌⊎◌, ℕ, zero, suc, ◌+◌, ◌<◌, nat_lt, nat_le, ◌==◌, ◌&&◌, if◌then◌else◌, List, [], ◌∷◌, ◌++◌, length, take, drop, slice_index_or, Option, None, Some, Result, Ok, Err}
use Rattle.log_base.specs.Wide.{be4, number4}

-- an open gate, a payload's length and the payload
abbrev pub recorded : List ℕ → List ℕ
recorded payload = 1 ∷ (be4 (length payload) ++ payload)

-- all payloads, each behind its open gate
abbrev pub spelled : List (List ℕ) → List ℕ
spelled [] = []
spelled (payload ∷ payloads) = recorded payload ++ spelled payloads

-- what a put writes behind the closed gate: the length, the payload and the next closed gate
abbrev pub framed : List ℕ → List ℕ
framed payload = be4 (length payload) ++ payload ++ 0 ∷ []

-- the place of the gate of this payload, or of the closed gate where it is behind the last
abbrev pub place_of : List (List ℕ) → ℕ → ℕ
place_of payloads k = length (spelled (take k payloads))

-- what stands behind an open gate: a payload, where the length, the payload and one byte more are there and it
-- isn't too long
unfoldable pub payload_behind : List ℕ → Option (List ℕ)
payload_behind bytes = if nat_lt (4 + number4 bytes 0) (length bytes) && nat_le (number4 bytes 0) 131072 then Some (take (number4 bytes 0) (drop 4 bytes)) else None

-- one payload before the others, where these are whole
abbrev pub after_one : List ℕ → Result (List (List ℕ)) ℕ → Result (List (List ℕ)) ℕ
after_one payload (Ok payloads) = Ok (payload ∷ payloads)
after_one payload (Err at) = Err at

-- What stands in bytes from a gate on that is so many bytes away. The first of the bytes is at this place of the
-- file.
unfoldable pub gated : List ℕ → ℕ → ℕ → Result (List (List ℕ)) ℕ
gated [] at away = Err at
gated (byte ∷ bytes) at (suc away) = gated bytes (at + 1) away
gated (gate ∷ bytes) at zero = if gate == 1 then opened at (payload_behind bytes) (gated bytes (at + 1)) else Ok []
  where
    opened : ℕ → Option (List ℕ) → (ℕ → Result (List (List ℕ)) ℕ) → Result (List (List ℕ)) ℕ
    opened at None next = Err at
    opened at (Some payload) next = after_one payload (next (4 + length payload))

-- The payloads of a file, or the place at which it is damaged. Fewer than six bytes hold none.
unfoldable pub recovered : List ℕ → Result (List (List ℕ)) ℕ
recovered bytes = if nat_lt (length bytes) 6 then Ok [] else gated bytes 0 0

-- the file begins with these payloads and a closed gate
pub record EndsClosed (payloads : List (List ℕ)) (bytes : List ℕ) : Type 0 where
  pub gate : ℕ
  pub rest : List ℕ
  pub spells : bytes ≡ spelled payloads ++ gate ∷ rest
  pub closed : gate ≢ 1

-- a file of fewer than six bytes begins with a zero byte
abbrev pub HasStart : List ℕ → Type 0
HasStart bytes = length bytes < 6 → slice_index_or bytes 0 1 ≡ 0

-- The file begins with these payloads and a closed gate, which is zero where the file has fewer than six bytes.
pub record Holds (payloads : List (List ℕ)) (bytes : List ℕ) : Type 0 where
  pub gate : ℕ
  pub rest : List ℕ
  pub spells : bytes ≡ spelled payloads ++ gate ∷ rest
  pub closed : gate ≢ 1
  pub zero_if_short : length bytes < 6 → gate ≡ 0

-- ... or with one payload more
abbrev pub HoldsEither : List (List ℕ) → List ℕ → List ℕ → Type 0
HoldsEither payloads payload bytes = Holds payloads bytes ⊎ Holds (payloads ++ payload ∷ []) bytes

-- the file recovers to these payloads, or to these with one more at their end
abbrev pub IsBeforeOrAfter : List (List ℕ) → List ℕ → List ℕ → Type 0
IsBeforeOrAfter payloads payload bytes = (recovered bytes ≡ Ok payloads) ⊎ (recovered bytes ≡ Ok (payloads ++ payload ∷ []))
