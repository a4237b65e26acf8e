-- How a replica copies its own list to its peers: what each acknowledged, and what is sent next.
use Rattle.std.specs.Prelude.{ℕ, zero, suc, ◌+◌, ◌-◌, ◌<◌, ◌≤◌, max, min, nat_lt, ◌==◌, if◌then◌else◌, List, [], ◌∷◌, slice_index, slice_set, replicate}
use Rattle.std.specs.List.{All}
use Rattle.peer_copy.specs.declared.span.Span.{Span}
use Rattle.peer_copy.specs.declared.taking.Taking.{Taking}
use Rattle.peer_copy.specs.declared.taking.Taking.TheVariants.{Put, Have, Gap}

-- the replica itself, and how many entries of its list each replica of the shard acknowledged
pub record Copying : Type 0 where
  pub own : ℕ
  pub acked : List ℕ

-- at first nothing is acknowledged
abbrev pub fresh : ℕ → ℕ → Copying
fresh replicas own = record { own = own; acked = replicate replicas 0 }

-- A peer holds so many entries: it acknowledged them where they are more than before.
abbrev pub after_note : Copying → ℕ → ℕ → Copying
after_note copying peer held = record copying { acked = slice_set copying.acked peer (max (slice_index copying.acked peer) held) }

-- the window of a list of so many entries: four offsets from the acknowledged length, as far as the list goes
abbrev pub window_at : ℕ → ℕ → Span
window_at acked len = record { from = acked; to = min (acked + 4) len }

-- What is sent when a peer that acknowledged one length holds another: what the window has now and had not
-- before, and nothing where the peer holds no more.
abbrev pub span_of_note : ℕ → ℕ → ℕ → Span
span_of_note acked held len =
    if nat_lt acked held then record { from = max (acked + 4) held; to = min (held + 4) len }
    else record { from = acked; to = acked }

-- the offsets of a span
abbrev pub IsWithin : Span → ℕ → Type 0
IsWithin span offset = (span.from ≤ offset) × (offset < span.to)

-- so many offsets, from one on
abbrev pub offsets_from : ℕ → ℕ → List ℕ
offsets_from from zero = []
offsets_from from (suc count) = from ∷ offsets_from (suc from) count

-- the offsets of a span, in order
abbrev pub offsets_of : Span → List ℕ
offsets_of span = offsets_from span.from (span.to - span.from)

-- What becomes of an entry that is copied to a list: it is put at the end where its offset is the length, it
-- is there already where its offset is less, and entries before it are missing where it is greater.
abbrev pub taking_of : ℕ → ℕ → Taking
taking_of offset len = if offset == len then Put else if nat_lt offset len then Have else Gap

-- the fields of a state: at most five replicas, and nobody acknowledged more than a segment can have
pub record IsCopying (replicas : ℕ) (lengths : List ℕ) : Type 0 where
  pub few : replicas ≤ 5
  pub small : All (λ n. n ≤ 16384) lengths
