-- What the images of a disk hold.
use Rattle.std.specs.Prelude.{◌≡◌, ◌⊎◌, ℕ, ◌+◌, ◌≤◌, List, length, Option, None, Some, IfSome, Ok, Err}
use Rattle.disk_base.specs.Images.{Torn}
use Rattle.segment_journal.specs.File.{spelled, framed, recovered, Holds, HoldsEither, IsBeforeOrAfter}
use Rattle.segment_journal.specs.Comparing.{IsDifferent}

-- what these images may be torn to by a write of n bytes
abbrev pub TornImages : ℕ → ℕ → (List ℕ → Type 0) → List ℕ → Type 0
TornImages at n images c = (d : List ℕ) × images d × Torn at n d c

-- each image holds these payloads
abbrev pub AllHold : (List ℕ → Type 0) → List (List ℕ) → Type 0
AllHold images payloads = (c : List ℕ) → images c → Holds payloads c

-- the file holds the payloads, or with the one in flight where there is one
abbrev pub HoldsKept : List (List ℕ) → Option (List ℕ) → List ℕ → Type 0
HoldsKept payloads None c = Holds payloads c
HoldsKept payloads (Some payload) c = HoldsEither payloads payload c

-- it recovers to them
abbrev pub RecoversKept : List (List ℕ) → Option (List ℕ) → List ℕ → Type 0
RecoversKept payloads None c = recovered c ≡ Ok payloads
RecoversKept payloads (Some payload) c = IsBeforeOrAfter payloads payload c

-- The bytes break the grammar at this place, or they are those of another list, which differs at this gate.
abbrev pub IsDamage : List (List ℕ) → Option (List ℕ) → ℕ → List ℕ → Type 0
IsDamage payloads flight at bytes = (recovered bytes ≡ Err at) ⊎ ((read : List (List ℕ)) × (recovered bytes ≡ Ok read) × IsDifferent read payloads flight at)

-- what recovers to the same as one of these images
abbrev pub AlikeImages : (List ℕ → Type 0) → List ℕ → Type 0
AlikeImages images c = (d : List ℕ) × images d × (recovered c ≡ recovered d)

-- where there is room for a payload of n bytes, the disk has room for its two writes
abbrev pub HasDiskRoom : Option ℕ → ℕ → ℕ → Type 0
HasDiskRoom room writes bytes = IfSome room (λ n. (2 ≤ writes) × (n + 6 ≤ bytes))

-- the gate is the closed one behind these payloads, and the frame that of the payload
pub record IsFrameOf (gate : ℕ) (frame : List ℕ) (payloads : List (List ℕ)) (payload : List ℕ) : Type 0 where
  pub gate_is : gate ≡ length (spelled payloads)
  pub frame_is : frame ≡ framed payload
