-- The lists of segments: one that is replaced, lists that are equal segment by segment, and the lengths that a report tells.
use Rattle.std.proofs.Common.{◌≡◌, ◌≢◌, ◌-◌, ◌<◌, ◌≤◌, ℕ, zero, suc, List, [], ◌∷◌, ◌++◌, length, replicate, refl, ap, arith, length-append, ◌∙◌}
use Rattle.std.specs.Prelude.{slice_index, slice_set}
use Rattle.std.proofs.lemmas.List.{length-map, length-replicate}
use Rattle.log_model.specs.Storage.{lengths_of, list_in, report_of}
use Rattle.record_frame.specs.declared.entries.Entry.{Entry}
use Rattle.record_frame.specs.declared.values.Lengths.{Lengths}

pub list_here : (lists : List (List Entry)) (segment : ℕ) (list : List Entry) → segment < length lists → list_in (slice_set lists segment list) segment ≡ list
list_here [] segment list h = absurd (omega arith)
list_here (x ∷ lists) zero list h = refl
list_here (x ∷ lists) (suc segment) list h = list_here lists segment list (omega arith)

pub list_other : (lists : List (List Entry)) (segment other : ℕ) (list : List Entry) → other ≢ segment
    → list_in (slice_set lists segment list) other ≡ list_in lists other
list_other [] segment other list h = refl
list_other (x ∷ lists) zero zero list h = absurd (h refl)
list_other (x ∷ lists) zero (suc other) list h = refl
list_other (x ∷ lists) (suc segment) zero list h = refl
list_other (x ∷ lists) (suc segment) (suc other) list h = list_other lists segment other list (λ e. h (ap suc e))

pub same_lists : (one other : List (List Entry)) → length one ≡ length other → ((segment : ℕ) → segment < length one → list_in one segment ≡ list_in other segment)
    → one ≡ other
same_lists [] [] n h = refl
same_lists [] (y ∷ other) n h = absurd (omega arith)
same_lists (x ∷ one) [] n h = absurd (omega arith)
same_lists (x ∷ one) (y ∷ other) n h =
    let head : x ≡ y = h 0 (omega arith) in
    let tail : one ≡ other = same_lists one other (omega arith) (λ segment below. h (suc segment) (omega arith)) in
    cc

-- a list that is replaced by itself
pub set_same : (lists : List (List Entry)) (segment : ℕ) → slice_set lists segment (list_in lists segment) ≡ lists
set_same [] segment = refl
set_same (x ∷ lists) zero = refl
set_same (x ∷ lists) (suc segment) = ap (λ (rest : List (List Entry)). x ∷ rest) (set_same lists segment)

-- ---- reports

pub same_lengths : (one other : Lengths) → one.count ≡ other.count → one.length ≡ other.length → one ≡ other
same_lengths one other e f = λ i. record { count = e i; length = f i }

zeros_at : (n k : ℕ) → slice_index (replicate n 0) k ≡ 0
zeros_at zero k = refl
zeros_at (suc n) zero = refl
zeros_at (suc n) (suc k) = zeros_at n k

filled_at : (xs : List ℕ) (n k : ℕ) → slice_index (xs ++ replicate n 0) k ≡ slice_index xs k
filled_at [] n k = zeros_at n k
filled_at (x ∷ xs) n zero = refl
filled_at (x ∷ xs) n (suc k) = filled_at xs n k

lengths_at : (lists : List (List Entry)) (k : ℕ) → slice_index (lengths_of lists) k ≡ length (list_in lists k)
lengths_at [] k = refl
lengths_at (list ∷ lists) zero = refl
lengths_at (list ∷ lists) (suc k) = lengths_at lists k

-- each length stands in its place
pub report_at : (lists : List (List Entry)) (k : ℕ) → slice_index (report_of lists).length k ≡ length (list_in lists k)
unfolding report_of
report_at lists k = filled_at (lengths_of lists) (32 - length lists) k ∙ lengths_at lists k

pub report_count : (lists : List (List Entry)) → (report_of lists).count ≡ length lists
unfolding report_of
report_count lists = refl

pub report_cells : (lists : List (List Entry)) → length lists ≤ 32 → length (report_of lists).length ≡ 32
unfolding report_of
report_cells lists few =
    omega (arith, length-append (lengths_of lists) (replicate (32 - length lists) 0), length-map lists (λ (entries : List Entry). length entries), length-replicate {A = ℕ} (32 - length lists) 0)
