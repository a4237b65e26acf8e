-- What lies in a rack.
use Rattle.std.specs.Prelude.{ℕ, List, [], Option, Some, true, unwrap_or, IsSome, option_and_then}
use Rattle.std.specs.Ordering.{nat_cmp}
use Rattle.std.specs.BTreeMap.{get}
use Rattle.disk_base.specs.Lending.{IsGivenBack, OthersStay}
use Rattle.disk_base.specs.Replay.{MayLeave}
use Rattle.disk_base.specs.InMemory.{InMemory, new_disk}
use Rattle.disk_base.specs.declared.memory_rack.MemoryRack.{MemoryRack}

-- the disk of a number, where it was placed or given back and isn't lent
abbrev pub disk_of : MemoryRack → ℕ → Option InMemory
disk_of rack number = option_and_then (λ (slot : Option InMemory). slot) (get nat_cmp rack.disks number)

-- what a number's next loan gives: that disk or an empty one
abbrev pub next_loan : MemoryRack → ℕ → InMemory
next_loan rack number = unwrap_or (disk_of rack number) (new_disk [])

-- the number was placed or lent
abbrev pub HasPlace : MemoryRack → ℕ → Type 0
HasPlace rack number = IsSome (get nat_cmp rack.disks number)

-- a disk in memory as it was given back
abbrev pub IsBack : InMemory → InMemory → Type 0
IsBack disk there = IsGivenBack (λ (d : InMemory). Some d.content.kept.seen) (λ (d : InMemory). MayLeave d.content.kept) (λ (d : InMemory). true) (λ (d : InMemory). d.faults) disk there

-- what the rack says of other numbers stays
abbrev pub OtherNumbersStay : MemoryRack → MemoryRack → ℕ → Type 0
OtherNumbersStay old new number =
    OthersStay (λ (rack : MemoryRack) n (folder : Option (List ℕ)). HasPlace rack n) (λ rack (folder : Option (List ℕ)) n. (next_loan rack n).faults) (λ rack (folder : Option (List ℕ)) n. Some (next_loan rack n)) old new number
