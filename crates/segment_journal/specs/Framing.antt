-- The buffers of the next put.
use Rattle.std.specs.Prelude.{◌≡◌, ℕ, ◌+◌, ◌≤◌, List, [], Option, IfSome}

-- for a payload of how many bytes there is room, and what was framed last
pub record Framing : Type 0 where
  pub room : Option ℕ
  pub frame : List ℕ

-- both buffers are empty, and have the room
abbrev pub HasBuffers : Option ℕ → List ℕ → ℕ → List ℕ → ℕ → Type 0
HasBuffers room frame frame_capacity copy copy_capacity =
    IfSome room (λ bytes. (frame ≡ []) × (bytes + 5 ≤ frame_capacity) × (copy ≡ []) × (bytes ≤ copy_capacity))
