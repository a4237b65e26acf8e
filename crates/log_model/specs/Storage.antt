-- A replica of a shard: it has a list of entries for each segment of its shard. It is the primary of the segment of its own
-- number: clients append to that list alone, and the others are copies.
use Rattle.std.specs.Prelude.{◌≡◌, ℕ, ◌-◌, ◌<◌, ◌≤◌, map, length, List, [], ◌∷◌, ◌++◌, replicate, Option, Some, None, Result, Ok, Err, slice_get, slice_set}
use Rattle.std.specs.List.{All}
use Rattle.log_base.specs.declared.numbers.Place.{Place}
use Rattle.record_frame.specs.declared.entries.Entry.{Entry}
use Rattle.record_frame.specs.declared.refusals.Refusal.{Refusal}
use Rattle.record_frame.specs.declared.values.Lengths.{Lengths}
use Rattle.record_frame.specs.declared.values.Value.{Value}
use Rattle.record_frame.specs.Entries.{IsEntry, entry_of, entry_at, entry_spelling}
use Rattle.log_model.specs.Chain.{ChainState, ShardState, chain_of, covered_of, state_in}
use Rattle.log_model.specs.Lookup.{position_from}
use Rattle.log_model.specs.Places.{place_at}
use Rattle.log_model.specs.Spelling.{spell}

-- which replica it is: its shard, its own number in it, and how many replicas a shard has
pub record Member : Type 0 where
  pub shard : ℕ
  pub own : ℕ
  pub replicas : ℕ

-- how many entries a list may have
abbrev pub list_limit : ℕ
list_limit = 16384

-- the list of a segment
abbrev pub list_found : Option (List Entry) → List Entry
list_found None = []
list_found (Some entries) = entries

abbrev pub list_in : List (List Entry) → ℕ → List Entry
list_in lists segment = list_found (slice_get lists segment)

-- the lists after an entry is put at the end of one of them
abbrev pub with_entry : List (List Entry) → ℕ → Entry → List (List Entry)
with_entry lists segment entry = slice_set lists segment (list_in lists segment ++ entry ∷ [])

-- the lengths of the lists, and as a report tells them
abbrev pub lengths_of : List (List Entry) → List ℕ
lengths_of lists = map (λ (entries : List Entry). length entries) lists

unfoldable pub report_of : List (List Entry) → Lengths
report_of lists = record { count = length lists; length = lengths_of lists ++ replicate (32 - length lists) 0 }

-- what values make known: their chain, the places that they spell, and how many they are
pub record Knowledge : Type 0 where
  pub chain : ChainState
  pub places : List Place
  pub count : ℕ

abbrev pub knowledge_of : Member → List Value → Knowledge
knowledge_of member values =
    record { chain = chain_of member.replicas values; places = spell member.replicas values; count = length values }

-- the state of the own shard, where it is known as added
abbrev pub own_shard : Member → Knowledge → Option ShardState
own_shard member known = state_in known.chain.shards member.shard

-- the known covered length of the own list
abbrev pub covered_length_of : Member → Knowledge → ℕ
covered_length_of member known = covered_of known.chain member.shard member.own

-- the known position of an offset of the own list
abbrev pub position_of : Member → Knowledge → ℕ → Option ℕ
position_of member known offset = position_from 0 known.places (place_at member.shard member.own offset)

-- every known covered place of the shard is held
abbrev pub HoldsCovered : Member → List (List Entry) → Knowledge → Type 0
HoldsCovered member lists known =
    (segment : ℕ) → segment < member.replicas
    → covered_of known.chain member.shard segment ≤ length (list_in lists segment)

-- the entry that a payload spells; a payload that spells none, which no sound list has, stands for an empty entry
abbrev pub entry_read : Result (Entry × ℕ) Refusal → Entry
entry_read (Ok found) = found.0
entry_read (Err refusal) = entry_of (record { 0 = 0 }) (record { 0 = 0 }) []

unfoldable pub entry_in : List ℕ → Entry
entry_in payload = entry_read (entry_at payload 0)

-- the entries that the payloads of a list spell
abbrev pub entries_in : List (List ℕ) → List Entry
entries_in payloads = map entry_in payloads

-- the payload is the spelling of an entry
pub record IsSpelled (payload : List ℕ) : Type 0 where
  pub entry : IsEntry (entry_in payload)
  pub spelling : payload ≡ entry_spelling (entry_in payload)

-- the payloads of a list spell entries, and there are not too many of them
pub record IsRecords (payloads : List (List ℕ)) : Type 0 where
  pub spelled : All IsSpelled payloads
  pub few : length payloads ≤ list_limit
