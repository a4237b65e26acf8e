-- What an item is, how it is spelled, and how many items there may be.
use Rattle.std.specs.Prelude.{◌≡◌, ℕ, ◌+◌, ◌<◌, ◌≤◌, ◌^◌, List, [], ◌∷◌, ◌++◌, length, nat_lt, if◌then◌else◌, Option, Some, None}
use Rattle.log_base.specs.ClusterShape.{Shape}
use Rattle.log_base.specs.Wide.{IsBytes, be2, be8}
use Rattle.command_frame.specs.declared.items.Item.{Item}
use Rattle.command_frame.specs.declared.items.Item.TheVariants.{Append, Read, Subscribe, Trim, Add, Finalise, Ask, Fault}
use Rattle.fault_script.specs.Lines.{IsFault, fault_line}
use Rattle.reply_frame.specs.Frames.{frame}

-- the kind of an item's frame, and its body
abbrev pub item_kind : Item → ℕ
item_kind (Append lane shard replica bytes) = 1
item_kind (Read lane shard replica position) = 2
item_kind (Subscribe lane shard replica from count) = 3
item_kind (Trim lane position) = 4
item_kind (Add lane shard) = 5
item_kind (Finalise lane shard) = 6
item_kind (Ask lane) = 7
item_kind (Fault lane fault) = 8

abbrev pub item_body : Item → List ℕ
item_body (Append lane shard replica bytes) = lane ∷ be2 shard.0 ++ replica.0 ∷ bytes
item_body (Read lane shard replica position) = lane ∷ be2 shard.0 ++ replica.0 ∷ be8 position.0
item_body (Subscribe lane shard replica from count) = lane ∷ be2 shard.0 ++ replica.0 ∷ (be8 from.0 ++ be2 count)
item_body (Trim lane position) = lane ∷ be8 position.0
item_body (Add lane shard) = lane ∷ be2 shard.0
item_body (Finalise lane shard) = lane ∷ be2 shard.0
item_body (Ask lane) = lane ∷ []
item_body (Fault lane fault) = lane ∷ fault_line fault

-- the one spelling of an item
abbrev pub item_spelling : Item → List ℕ
item_spelling item = frame (item_kind item) (item_body item)

-- the numbers of an item of a config are in range: 64 lanes, the shards and replicas that there are, at most 65,535
-- bytes in a record, 1 to 4,096 entries that are wanted, and a fault that the cluster has
abbrev pub IsItem : Shape → Item → Type 0
IsItem shape (Append lane shard replica bytes) =
    (lane < 64) × (shard.0 < shape.shards) × (replica.0 < shape.replicas) × (length bytes ≤ 65535) × IsBytes bytes
IsItem shape (Read lane shard replica position) =
    (lane < 64) × (shard.0 < shape.shards) × (replica.0 < shape.replicas) × (position.0 < 2 ^ 64)
IsItem shape (Subscribe lane shard replica from count) =
    (lane < 64) × (shard.0 < shape.shards) × (replica.0 < shape.replicas) × (from.0 < 2 ^ 64) × (1 ≤ count) × (count ≤ 4096)
IsItem shape (Trim lane position) = (lane < 64) × (position.0 < 2 ^ 64)
IsItem shape (Add lane shard) = (lane < 64) × (shard.0 < shape.shards)
IsItem shape (Finalise lane shard) = (lane < 64) × (shard.0 < shape.shards)
IsItem shape (Ask lane) = lane < 64
IsItem shape (Fault lane fault) = (lane < 64) × IsFault shape fault

-- a kind and a body spell an item of a config
pub record Spells (shape : Shape) (kind : ℕ) (body : List ℕ) (item : Item) : Type 0 where
  pub of_kind : kind ≡ item_kind item
  pub with_body : body ≡ item_body item
  pub is_item : IsItem shape item

-- an item is no fault
abbrev pub IsNoFault : Item → Type 0
IsNoFault (Fault lane fault) = ⊥
IsNoFault item = Unit {0}

-- What is read from a kind and a body: an item of the config that they spell, or none, where they spell none.
abbrev pub IsReading : Shape → ℕ → List ℕ → Option Item → Type 0
IsReading shape kind body None = (item : Item) → Spells shape kind body item → ⊥
IsReading shape kind body (Some item) = Spells shape kind body item

-- how many items there are, and how many bytes their records have
pub record Counts : Type 0 where
  pub items : ℕ
  pub record_bytes : ℕ

abbrev pub none_yet : Counts
none_yet = record { items = 0; record_bytes = 0 }

-- how many bytes an item's record has
abbrev pub record_bytes_of : Item → ℕ
record_bytes_of (Append lane shard replica bytes) = length bytes
record_bytes_of (Read lane shard replica position) = 0
record_bytes_of (Subscribe lane shard replica from count) = 0
record_bytes_of (Trim lane position) = 0
record_bytes_of (Add lane shard) = 0
record_bytes_of (Finalise lane shard) = 0
record_bytes_of (Ask lane) = 0
record_bytes_of (Fault lane fault) = 0

-- the counts with one more item
abbrev pub counted : Counts → Item → Counts
counted counts item = record { items = counts.items + 1; record_bytes = counts.record_bytes + record_bytes_of item }

-- which limit is passed: 1, that of 65,536 items, or 2, that of 16,777,216 bytes of records
abbrev pub passed_limit : Counts → Option ℕ
passed_limit counts =
    if nat_lt 65536 counts.items then Some 1
    else if nat_lt 16777216 counts.record_bytes then Some 2
    else None
