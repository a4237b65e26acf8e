-- How payloads lie in memory, each beside the place of its gate.
use Rattle.std.specs.Prelude.{◌≡◌, ℕ, ◌+◌, ◌^◌, ◌<◌, List, [], ◌∷◌, length, map, vec_capacity}
use Rattle.segment_journal.specs.Journalled.{AllPayloads}
use Rattle.segment_journal.specs.Listed.{Listed}
use Rattle.segment_journal.specs.declared.payloads.Held.{Held}
use Rattle.segment_journal.specs.declared.payloads.Payloads.TheInside.{Inside}

abbrev pub payloads_of : List Held → List (List ℕ)
payloads_of held = map (λ h. h.payload) held

-- each gate stands behind the payload before it, the first at this place, and the closed one at the end
abbrev pub ArePlaced : List Held → ℕ → ℕ → Type 0
ArePlaced [] at end = end ≡ at
ArePlaced (h ∷ held) at end = (h.gate ≡ at) × ArePlaced held (at + 5 + length h.payload) end

pub record AreInOrder (held : List Held) (end : ℕ) : Type 0 where
  pub placed : ArePlaced held 0 end
  pub few : length held < 2 ^ 32
  pub payloads : AllPayloads (payloads_of held)

abbrev pub listed : Inside → Listed
listed s = record { list = payloads_of s.held.items; capacity = vec_capacity s.held }

abbrev pub IsInOrder : Inside → Type 0
IsInOrder s = AreInOrder s.held.items s.end
