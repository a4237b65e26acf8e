-- Looking things up in the one sequence: entries by place and by position, and the position of a place.
-- The segments' lists of entries stand in the order of a cut's lengths: segment j of shard s at s times the
-- replicas of a shard, plus j.
use Rattle.std.specs.Prelude.{ℕ, suc, ◌+◌, ◌*◌, List, [], ◌∷◌, slice_get, if◌then◌else◌, Option, Some, None, option_and_then}
use Rattle.log_base.specs.declared.numbers.Place.{Place}
use Rattle.record_frame.specs.declared.entries.Entry.{Entry}
use Rattle.record_frame.specs.declared.values.Value.{Value}
use Rattle.log_model.specs.Places.{is_same_place}
use Rattle.log_model.specs.Spelling.{spell}

-- where a segment's list stands
abbrev pub segment_index : ℕ → ℕ → ℕ → ℕ
segment_index replicas shard segment = shard * replicas + segment

-- the entry at a place
abbrev pub entry_at_place : ℕ → List (List Entry) → Place → Option Entry
entry_at_place replicas segments place =
    option_and_then (λ (entries : List Entry). slice_get entries place.offset)
    (slice_get segments (segment_index replicas place.shard.0 place.segment.0))

-- the place at a position
abbrev pub place_at_position : ℕ → List Value → ℕ → Option Place
place_at_position replicas values position = slice_get (spell replicas values) position

-- the entry at a position
abbrev pub entry_at_position : ℕ → List Value → List (List Entry) → ℕ → Option Entry
entry_at_position replicas values segments position =
    option_and_then (entry_at_place replicas segments) (place_at_position replicas values position)

-- the position of a place in a list whose first element has the position `at`
abbrev pub position_from : ℕ → List Place → Place → Option ℕ
position_from at [] place = None
position_from at (first ∷ rest) place = if is_same_place first place then Some at else position_from (suc at) rest place

-- the position of a place
abbrev pub position_of_place : ℕ → List Value → Place → Option ℕ
position_of_place replicas values place = position_from 0 (spell replicas values) place
