-- The lengths of lists, in the first of 32 cells.
use Rattle.std.proofs.Common.{◌≡◌, ◌≢◌, ℕ, zero, suc, ◌+◌, ◌-◌, ◌<◌, ◌≤◌, List, [], ◌∷◌, ◌++◌, map, length, get_or, set, replicate, refl, sym, ap, ◌∙◌, ⊎_elim, arith, length-append}
use Rattle.std.proofs.lemmas.Bool.{cases_lt}
use Rattle.std.proofs.lemmas.List.{get_or_past, get_or-map, length-map, length-set, length-replicate, get_or-set_same, get_or-set_other, ext_get_or}
use Rattle.log_model.specs.Storage.{lengths_of}
use Rattle.log_model.proofs.States.{replicate-zero}
use Rattle.record_frame.specs.declared.entries.Entry.{Entry}
use Rattle.shard_replica.specs.Lists.{Segment, segment_at, no_segment}
use Rattle.shard_replica.proofs.Putting.{cases_≡}

-- the cells before an index have the lengths of the lists, and the others have 0
pub record LengthsTo (i : ℕ) (segments : List Segment) (cells : List ℕ) : Type 0 where
  pub cells_are : length cells ≡ 32
  pub before : (k : ℕ) → k < i → get_or cells k 0 ≡ length (segment_at segments k).entries
  pub rest : (k : ℕ) → i ≤ k → get_or cells k 0 ≡ 0

pub lengths-none : (segments : List Segment) → LengthsTo 0 segments (replicate 32 0)
lengths-none segments = record { cells_are = refl; before = λ k below. absurd (omega arith); rest = λ k past. replicate-zero 32 k }

pub lengths-on : (i at n : ℕ) (segments : List Segment) (cells : List ℕ) → at ≡ i → i < 32 → n ≡ length (segment_at segments i).entries
    → LengthsTo i segments cells → LengthsTo (i + 1) segments (set cells at n)
lengths-on i at n segments cells same within is to =
    let size = length-set cells at n in
    let lt : at < length cells = omega (arith, same, within, to.cells_are) in
    record {
      cells_are = size ∙ to.cells_are;
      before = λ k below.
          ⊎_elim
          (λ here. ap (λ (j : ℕ). get_or (set cells at n) j 0) here ∙ get_or-set_same cells at n 0 lt ∙ is
          ∙ ap (λ (j : ℕ). length (segment_at segments j).entries) (let e : i ≡ k = omega (arith, here, same) in e))
          (λ other. get_or-set_other cells at k n 0 other ∙ to.before k (let b : k < i = below_not i at k same below other in b))
          (cases_≡ k at);
      rest = λ k past. get_or-set_other cells at k n 0 (let o : k ≢ at = omega (arith, past, same) in o) ∙ to.rest k (omega (arith, past));
    }
  where
    below_not : (i at k : ℕ) → at ≡ i → k < i + 1 → k ≢ at → k < i
    below_not i at k same below other = omega (arith, same, below, other)

zeros-after : (lens : List ℕ) (m k : ℕ) → get_or (lens ++ replicate m 0) k 0 ≡ get_or lens k 0
zeros-after [] m k = replicate-zero m k ∙ sym (get_or_past [] k 0 (omega arith))
zeros-after (x ∷ xs) m zero = refl
zeros-after (x ∷ xs) m (suc k) = zeros-after xs m k

pub lengths-all : (n : ℕ) (segments : List Segment) (cells : List ℕ) → length segments ≡ n → n ≤ 32 → LengthsTo n segments cells
    → cells ≡ lengths_of (map (λ (s : Segment). s.entries) segments) ++ replicate (32 - length (map (λ (s : Segment). s.entries) segments)) 0
lengths-all n segments cells count few to =
    let lists = map (λ (s : Segment). s.entries) segments in
    let lens = lengths_of lists in
    let m = 32 - length lists in
    let size_lists = length-map segments (λ (s : Segment). s.entries) in
    let size_lens = length-map lists (λ (entries : List Entry). length entries) in
    let size_all = length-append lens (replicate m 0) in
    let size_rest : length (replicate {A = ℕ} m 0) ≡ m = length-replicate m 0 in
    let sizes : length cells ≡ length (lens ++ replicate m 0) = omega (arith, to.cells_are, size_lists, size_lens, size_all, size_rest, count, few) in
    ext_get_or 0 cells (lens ++ replicate m 0) sizes
    (λ k inside.
    ⊎_elim
    (λ within.
    let in_segments : k < length segments = omega (arith, within, count) in
    let in_lists : k < length lists = omega (arith, in_segments, size_lists) in
    to.before k within
    ∙ sym (ap (λ (entries : List Entry). length entries) (get_or-map (λ (s : Segment). s.entries) segments k no_segment [] in_segments))
    ∙ sym (get_or-map (λ (entries : List Entry). length entries) lists k [] 0 in_lists)
    ∙ sym (zeros-after lens m k))
    (λ past.
    let over : length lens ≤ k = omega (arith, past, size_lists, size_lens, count) in
    to.rest k past ∙ sym (zeros-after lens m k ∙ get_or_past lens k 0 over))
    (cases_lt k n))
