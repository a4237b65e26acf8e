-- Finding a pair of client and number in a list of entries by looking through the list, and the greatest number of a client.
use Rattle.std.specs.Prelude.{ℕ, suc, max, List, [], ◌∷◌, Bool, false, ◌==◌, ◌&&◌, nat_lt, if◌then◌else◌, Option, Some, None}
use Rattle.record_frame.specs.declared.entries.Entry.{Entry}
use Rattle.log_model.specs.Storage.{Member, Knowledge, covered_length_of, position_of}

-- whether an entry has this client and number
abbrev pub is_pair : ℕ → ℕ → Entry → Bool
is_pair client number entry = (entry.client.0 == client) && (entry.number.0 == number)

-- of two offsets the later one, where there is one
abbrev pub later : Option ℕ → Option ℕ → Option ℕ
later first None = first
later first (Some last) = Some last

-- the offset of a pair, the greatest one where it stands more than once; the list begins with the offset `at`
abbrev pub offset_from : ℕ → List Entry → ℕ → ℕ → Option ℕ
offset_from at [] client number = None
offset_from at (entry ∷ entries) client number =
    later (if is_pair client number entry then Some at else None) (offset_from (suc at) entries client number)

abbrev pub offset_of : List Entry → ℕ → ℕ → Option ℕ
offset_of entries client number = offset_from 0 entries client number

-- the greater of a number and another, where there is one
abbrev pub greater : ℕ → Option ℕ → ℕ
greater number None = number
greater number (Some other) = max number other

-- the greatest number of a client in a list
abbrev pub last_of : List Entry → ℕ → Option ℕ
last_of [] client = None
last_of (entry ∷ entries) client =
    if entry.client.0 == client then Some (greater entry.number.0 (last_of entries client)) else last_of entries client

-- whether there is a position, and it is below a mark
abbrev pub is_below : ℕ → Option ℕ → Bool
is_below mark None = false
is_below mark (Some position) = nat_lt position mark

-- An offset of the own list is trimmed where it is below the known covered length, and its position below the known mark.
abbrev pub is_trimmed : Member → Knowledge → ℕ → Bool
is_trimmed member known offset =
    nat_lt offset (covered_length_of member known) && is_below known.chain.mark (position_of member known offset)

abbrev pub untrimmed : Member → Knowledge → Option ℕ → Option ℕ
untrimmed member known None = None
untrimmed member known (Some offset) = if is_trimmed member known offset then None else Some offset

-- the offset in the own list of a pair that is stored and not trimmed
unfoldable pub held : Member → List Entry → Knowledge → ℕ → ℕ → Option ℕ
held member own known client number = untrimmed member known (offset_of own client number)
