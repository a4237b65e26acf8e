-- What a report says: the lengths of the lists, each in its place.
use Rattle.std.proofs.Common.{◌≡◌, ◌-◌, ◌<◌, ◌≤◌, ℕ, zero, suc, List, [], ◌∷◌, ◌++◌, length, replicate, refl, ap, arith, length-append, ◌∙◌}
use Rattle.std.specs.Prelude.{slice_index}
use Rattle.std.proofs.lemmas.List.{length-map, length-replicate}
use Rattle.std.proofs.lemmas.Option.{slice_get_past}
use Rattle.log_model.specs.Storage.{lengths_of, list_found, list_in, list_limit, report_of}
use Rattle.record_frame.specs.declared.entries.Entry.{Entry}
use Rattle.record_frame.specs.Values.{IsLengths}

pub zeros_at : (n k : ℕ) → slice_index (replicate n 0) k ≡ 0
zeros_at zero k = refl
zeros_at (suc n) zero = refl
zeros_at (suc n) (suc k) = zeros_at n k

filled_at : (xs : List ℕ) (n k : ℕ) → slice_index (xs ++ replicate n 0) k ≡ slice_index xs k
filled_at [] n k = zeros_at n k
filled_at (x ∷ xs) n zero = refl
filled_at (x ∷ xs) n (suc k) = filled_at xs n k

lengths_at : (lists : List (List Entry)) (k : ℕ) → slice_index (lengths_of lists) k ≡ length (list_in lists k)
lengths_at [] k = refl
lengths_at (list ∷ lists) zero = refl
lengths_at (list ∷ lists) (suc k) = lengths_at lists k

pub report_at : (lists : List (List Entry)) (k : ℕ) → slice_index (report_of lists).length k ≡ length (list_in lists k)
unfolding report_of
report_at lists k = filled_at (lengths_of lists) (32 - length lists) k ∙ lengths_at lists k

pub report_count : (lists : List (List Entry)) → (report_of lists).count ≡ length lists
unfolding report_of
report_count lists = refl

pub no_list : (lists : List (List Entry)) (k : ℕ) → length lists ≤ k → list_in lists k ≡ []
no_list lists k past = ap list_found (slice_get_past lists k past)

report_cells : (lists : List (List Entry)) → length lists ≤ 32 → length (report_of lists).length ≡ 32
unfolding report_of
report_cells lists few =
    omega (arith, length-append (lengths_of lists) (replicate (32 - length lists) 0), length-map lists (λ (entries : List Entry). length entries), length-replicate {A = ℕ} (32 - length lists) 0)

pub report_range : (lists : List (List Entry)) → 1 ≤ length lists → length lists ≤ 5 → ((k : ℕ) → k < length lists → length (list_in lists k) ≤ list_limit)
    → IsLengths 5 (report_of lists)
report_range lists some few small = record {
  some = omega (arith, report_count lists);
  count = omega (arith, report_count lists);
  cells = report_cells lists (omega arith);
  small = λ k below. omega (arith, report_at lists k, small k (omega (arith, report_count lists, below)));
  rest = λ k past. report_at lists k ∙ ap length (no_list lists k (omega (arith, report_count lists, past)));
}
