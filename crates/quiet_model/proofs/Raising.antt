-- The least of equal lengths, lengths that are raised, and the lists of all shards.
use Rattle.std.proofs.Common.{◌≡◌, ◌+◌, ◌-◌, ◌*◌, ◌<◌, ◌≤◌, ◌⊎◌, ℕ, zero, suc, min, max, ◌&&◌, nat_le, nat_lt, true, List, [], ◌∷◌, ◌++◌, length, replicate, take, drop, Option, Some, None, refl, sym, ap, subst, inl, inr, ⊎_elim, arith, length-append, leb-true, ltb-true, ◌∙◌}
use Rattle.std.specs.Prelude.{slice_index, slice_index_or}
use Rattle.std.proofs.lemmas.Bool.{and_from, and_parts, cond-true, cond_both, le-leb, lt-ltb}
use Rattle.std.proofs.lemmas.List.{ext_get_or, get_or-drop, get_or-replicate, get_or-take, length-drop, length-replicate, length-take}
use Rattle.aggregator.specs.Hearing.{Hearing, least_in, least_of_all, least_with, lesser_of}
use Rattle.log_model.specs.Storage.{list_in}
use Rattle.paxos_model.specs.Learner.{raised_from}
use Rattle.record_frame.specs.declared.entries.Entry.{Entry}
use Rattle.record_frame.specs.declared.values.Lengths.{Lengths}
use Rattle.quiet_model.specs.Settled.{ListsOf, lists_from}

-- ---- the least of equal lengths is these

lesser_self : (xs : List ℕ) → lesser_of xs xs ≡ xs
lesser_self [] = refl
lesser_self (x ∷ xs) =
    let head : min x x ≡ x = omega arith in
    let tail : lesser_of xs xs ≡ xs = lesser_self xs in
    cc

with_equals : (x : Lengths) (n : ℕ) → least_with x (replicate n (Some x)) ≡ Some x
with_equals x zero = refl
with_equals x (suc n) =
    subst (λ (xs : List ℕ). least_with (record { count = x.count; length = xs }) (replicate n (Some x)) ≡ Some x) (sym (lesser_self x.length)) (with_equals x n)

pub least_of_equals : (hearing : Hearing) (shard : ℕ) (x : Lengths) → 1 ≤ hearing.replicas → shard * hearing.replicas + hearing.replicas ≤ length hearing.cells
    → ((r : ℕ) → r < hearing.replicas → slice_index_or hearing.cells (shard * hearing.replicas + r) None ≡ Some x)
    → least_in hearing shard ≡ Some x
least_of_equals hearing shard x some inside each = ap least_of_all same ∙ least_is hearing.replicas some
  where
    cells : List (Option Lengths)
    cells = take hearing.replicas (drop (shard * hearing.replicas) hearing.cells)

    size : length (take hearing.replicas (drop (shard * hearing.replicas) hearing.cells)) ≡ hearing.replicas
    size = omega (arith, length-take hearing.replicas (drop (shard * hearing.replicas) hearing.cells), length-drop (shard * hearing.replicas) hearing.cells)

    same : take hearing.replicas (drop (shard * hearing.replicas) hearing.cells) ≡ replicate hearing.replicas (Some x)
    same =
        ext_get_or None (take hearing.replicas (drop (shard * hearing.replicas) hearing.cells)) (replicate hearing.replicas (Some x))
        (size ∙ sym (length-replicate hearing.replicas (Some x)))
        (λ r below.
        let inner : r < hearing.replicas = omega (arith, below, size) in
        get_or-take hearing.replicas (drop (shard * hearing.replicas) hearing.cells) r None inner
        ∙ get_or-drop (shard * hearing.replicas) hearing.cells r None
        ∙ each r inner
        ∙ sym (get_or-replicate hearing.replicas r (Some x) None inner))

    least_is : (n : ℕ) → 1 ≤ n → least_of_all (replicate n (Some x)) ≡ Some x
    least_is zero h = absurd (omega arith)
    least_is (suc n) h = with_equals x n

-- ---- raised lengths

pub raised_length : (at first count : ℕ) (given xs : List ℕ) → length (raised_from at first count given xs) ≡ length xs
raised_length at first count given [] = refl
raised_length at first count given (x ∷ xs) = ap suc (raised_length (suc at) first count given xs)

-- a place within is raised
pub raised_within : (at first count : ℕ) (given xs : List ℕ) (k : ℕ) → k < length xs → first ≤ at + k → at + k < first + count
    → slice_index (raised_from at first count given xs) k ≡ max (slice_index xs k) (slice_index given (at + k - first))
raised_within at first count given [] k below low high = absurd (omega arith)
raised_within at first count given (x ∷ xs) zero below low high =
    let test : (nat_le first at && nat_lt at (first + count)) ≡ true = and_from (nat_le first at) (nat_lt at (first + count)) (le-leb first at (omega arith)) (lt-ltb at (first + count) (omega arith)) in
    let same : at - first ≡ at + 0 - first = omega arith in
    cond-true (nat_le first at && nat_lt at (first + count)) (max x (slice_index given (at - first))) x test
    ∙ ap (λ (n : ℕ). max x (slice_index given n)) same
raised_within at first count given (x ∷ xs) (suc k) below low high =
    let same : suc at + k - first ≡ at + suc k - first = omega arith in
    raised_within (suc at) first count given xs k (omega arith) (omega arith) (omega arith)
    ∙ ap (λ (n : ℕ). max (slice_index xs k) (slice_index given n)) same

-- any other place stays
pub raised_beside : (at first count : ℕ) (given xs : List ℕ) (k : ℕ) → (at + k < first) ⊎ (first + count ≤ at + k)
    → slice_index (raised_from at first count given xs) k ≡ slice_index xs k
raised_beside at first count given [] k apart = refl
raised_beside at first count given (x ∷ xs) zero apart =
    cond_both (nat_le first at && nat_lt at (first + count)) (max x (slice_index given (at - first))) x (λ (n : ℕ). n ≡ x)
    (λ e.
    let parts = and_parts (nat_le first at) (nat_lt at (first + count)) e in
    let low : first ≤ at = leb-true first at parts.0 in
    let high : at < first + count = ltb-true at (first + count) parts.1 in
    ⊎_elim (λ h. absurd (omega arith)) (λ h. absurd (omega arith)) apart)
    (λ e. refl)
raised_beside at first count given (x ∷ xs) (suc k) apart =
    raised_beside (suc at) first count given xs k (⊎_elim (λ h. inl (omega arith)) (λ h. inr (omega arith)) apart)

-- ---- the lists of all shards

list_in-left : (xs ys : List (List Entry)) (k : ℕ) → k < length xs → list_in (xs ++ ys) k ≡ list_in xs k
list_in-left [] ys k h = absurd (omega arith)
list_in-left (x ∷ xs) ys zero h = refl
list_in-left (x ∷ xs) ys (suc k) h = list_in-left xs ys k (omega arith)

list_in-right : (xs ys : List (List Entry)) (k : ℕ) → list_in (xs ++ ys) (length xs + k) ≡ list_in ys k
list_in-right [] ys k = let same : 0 + k ≡ k = omega arith in ap (list_in ys) same
list_in-right (x ∷ xs) ys k =
    let same : suc (length xs) + k ≡ suc (length xs + k) = omega arith in
    subst (λ (n : ℕ). list_in (x ∷ xs ++ ys) n ≡ list_in ys k) (sym same) (list_in-right xs ys k)

module _ (lists : ListsOf) (replicas : ℕ) where
  pub length-lists_from : (shard count : ℕ) → ((s : ℕ) → shard ≤ s → s < shard + count → length (lists s) ≡ replicas) → length (lists_from lists shard count) ≡ count * replicas
  length-lists_from shard zero each = omega arith
  length-lists_from shard (suc count) each =
      let rest = length-lists_from (suc shard) count (λ s low high. each s (omega arith) (omega arith)) in
      omega (arith, length-append (lists shard) (lists_from lists (suc shard) count), rest, each shard (omega arith) (omega arith))

  pub list_in-lists_from : (shard count t p : ℕ) → ((s : ℕ) → shard ≤ s → s < shard + count → length (lists s) ≡ replicas) → t < count → p < replicas
      → list_in (lists_from lists shard count) (t * replicas + p) ≡ list_in (lists (shard + t)) p
  list_in-lists_from shard zero t p each a b = absurd (omega arith)
  list_in-lists_from shard (suc count) zero p each a b =
      let here : 0 * replicas + p ≡ p = omega arith in
      let first : shard + 0 ≡ shard = omega arith in
      ap (list_in (lists shard ++ lists_from lists (suc shard) count)) here
      ∙ list_in-left (lists shard) (lists_from lists (suc shard) count) p (omega (arith, each shard (omega arith) (omega arith)))
      ∙ ap (λ (s : ℕ). list_in (lists s) p) (sym first)
  list_in-lists_from shard (suc count) (suc t) p each a b =
      let here : suc t * replicas + p ≡ length (lists shard) + (t * replicas + p) = omega (arith, each shard (omega arith) (omega arith)) in
      let next : suc shard + t ≡ shard + suc t = omega arith in
      ap (list_in (lists shard ++ lists_from lists (suc shard) count)) here
      ∙ list_in-right (lists shard) (lists_from lists (suc shard) count) (t * replicas + p)
      ∙ list_in-lists_from (suc shard) count t p (λ s low high. each s (omega arith) (omega arith)) (omega arith) b
      ∙ ap (λ (s : ℕ). list_in (lists s) p) next
