-- The cut of the lengths of lists, and lists of which one grows.
use Rattle.std.proofs.Common.{◌≡◌, ℕ, zero, suc, ◌+◌, ◌-◌, ◌<◌, ◌≤◌, max, List, [], ◌∷◌, ◌++◌, map, length, length-append, replicate, Some, refl, sym, ap, ◌∙◌, ⊎_elim, subst, arith}
use Rattle.std.specs.Prelude.{slice_index, slice_index_or, slice_set}
use Rattle.std.specs.List.{All}
use Rattle.std.proofs.lemmas.Bool.{cases_eq, cases_lt}
use Rattle.std.proofs.lemmas.List.{get_or_past}
use Rattle.std.proofs.lemmas.List.Elements.{All-head, All-tail}
use Rattle.record_frame.specs.declared.entries.Entry.{Entry}
use Rattle.log_model.specs.Chain.{ShardState, raised, state_in}
use Rattle.log_model.proofs.States.{replicate-zero, state_in-here, state_in-later}
use Rattle.plain_log.specs.Log.{cut_of}

lengths_at : (segments : List (List Entry)) (count i : ℕ)
    → slice_index (map (λ (entries : List Entry). length entries) segments ++ replicate count 0) i ≡ length (slice_index_or segments i [])
lengths_at [] count i = replicate-zero count i
lengths_at (entries ∷ rest) count zero = refl
lengths_at (entries ∷ rest) count (suc i) = lengths_at rest count i

-- The cut has the length of each list, and 0 past them.
pub cut_of-at : (segments : List (List Entry)) (i : ℕ) → slice_index (cut_of segments).length i ≡ length (slice_index_or segments i [])
cut_of-at segments i = lengths_at segments (32 - length segments) i

-- No list is there at first.
pub replicate-nil : (count i : ℕ) → slice_index_or (replicate count (let none : List Entry = [] in none)) i [] ≡ []
replicate-nil zero i = refl
replicate-nil (suc count) zero = refl
replicate-nil (suc count) (suc i) = replicate-nil count i

-- Where one list gets an entry, none is shorter than before.
pub grown-at : (segments : List (List Entry)) (at i : ℕ) (entry : Entry)
    → length (slice_index_or segments i []) ≤ length (slice_index_or (slice_set segments at (slice_index_or segments at [] ++ entry ∷ [])) i [])
grown-at [] at i entry = omega arith
grown-at (entries ∷ rest) zero zero entry = omega (arith, length-append entries (entry ∷ []))
grown-at (entries ∷ rest) zero (suc i) entry = omega arith
grown-at (entries ∷ rest) (suc at) zero entry = omega arith
grown-at (entries ∷ rest) (suc at) (suc i) entry = grown-at rest at i entry

-- An element past 0 is within its list.
pub within_where_some : (numbers : List ℕ) (i : ℕ) → 0 < slice_index numbers i → i < length numbers
within_where_some numbers i some =
    ⊎_elim (λ within. within) (λ past. absurd (omega (arith, get_or_past numbers i 0 past))) (cases_lt i (length numbers))

-- A list with an entry is among the lists.
pub list_within : (segments : List (List Entry)) (i offset : ℕ) → offset < length (slice_index_or segments i []) → i < length segments
list_within segments i offset below =
    ⊎_elim (λ within. within)
    (λ past. absurd (omega (arith, ap (λ (entries : List Entry). length entries) (get_or_past segments i [] past))))
    (cases_lt i (length segments))

-- A raised length is the greater of the two.
pub raised-at : (lengths : List ℕ) (at : ℕ) (covered : List ℕ) (k : ℕ) → k < length covered
    → slice_index (raised lengths at covered) k ≡ max (slice_index covered k) (slice_index lengths (at + k))
raised-at lengths at [] k within = absurd (omega arith)
raised-at lengths at (first ∷ rest) zero within =
    let here : at ≡ at + 0 = omega arith in
    ap (λ (i : ℕ). max first (slice_index lengths i)) here
raised-at lengths at (first ∷ rest) (suc k) within =
    let next : suc at + k ≡ at + suc k = omega arith in
    raised-at lengths (suc at) rest k (omega arith) ∙ ap (λ (i : ℕ). max (slice_index rest k) (slice_index lengths i)) next

-- What holds of each shard's state holds of the one that is found, and this is the shard's.
pub found_state : (P : ShardState → Type 0) (states : List ShardState) (shard : ℕ) (state : ShardState) → All P states
    → state_in states shard ≡ Some state → P state × (state.shard ≡ shard)
found_state P [] shard state holds found = absurd (cc)
found_state P (first ∷ rest) shard state holds found =
    ⊎_elim
    (λ same.
    let here : Some first ≡ Some state = sym (state_in-here first rest shard same) ∙ found in
    let is : first ≡ state = cc in
    (subst P is (All-head P first rest holds), ap (λ (s : ShardState). s.shard) (sym is) ∙ same))
    (λ other. found_state P rest shard state (All-tail P first rest holds) (sym (state_in-later first rest shard other) ∙ found))
    (cases_eq first.shard shard)
