-- The index of a list of entries: the offset of each pair of client and number, and the greatest number of each client.
use Rattle.std.specs.Prelude.{◌≡◌, ℕ, ◌+◌, ◌≤◌, length, List, Bool, ◌==◌, ◌&&◌, Option}
use Rattle.std.specs.Map.{lookup}
use Rattle.std.specs.Option.{option_map}
use Rattle.log_base.specs.declared.numbers.Client.{Client}
use Rattle.log_base.specs.declared.numbers.Number.{Number}
use Rattle.record_frame.specs.declared.entries.Entry.{Entry}
use Rattle.log_model.specs.Pairs.{offset_of, last_of}
use Rattle.log_model.specs.Storage.{list_limit}
use Rattle.shard_replica.specs.declared.pairs.Pair.{Pair}

-- the pairs with their offsets, and the clients with their greatest numbers, each in the order in which they came first
pub record Index : Type 0 where
  pub offsets : List (Pair × ℕ)
  pub lasts : List (Client × Number)

-- whether it is the pair of this client and number
abbrev pub is_key : ℕ → ℕ → Pair → Bool
is_key client number pair = (client == pair.client.0) && (number == pair.number.0)

-- whether it is this client
abbrev pub is_client : ℕ → Client → Bool
is_client number client = number == client.0

-- the offset that is noted of a pair
abbrev pub offset_in : Index → ℕ → ℕ → Option ℕ
offset_in index client number = lookup (is_key client number) index.offsets

-- the number that is noted of a client
abbrev pub number_in : Index → ℕ → Option Number
number_in index client = lookup (is_client client) index.lasts

abbrev pub to_ℕ : Number → ℕ
to_ℕ number = number.0

abbrev pub last_in : Index → ℕ → Option ℕ
last_in index client = option_map to_ℕ (number_in index client)

-- the index finds in a list what looking through the list finds
pub record Indexes (index : Index) (entries : List Entry) : Type 0 where
  pub offsets : (client number : ℕ) → offset_in index client number ≡ offset_of entries client number
  pub lasts : (client : ℕ) → last_in index client ≡ last_of entries client
  pub few_offsets : length index.offsets ≤ length entries
  pub few_lasts : length index.lasts ≤ length entries

-- with the room that is left there is room for the pairs of a whole list
abbrev pub HasRoom : ℕ → ℕ → Type 0
HasRoom count room = list_limit ≤ count + room
