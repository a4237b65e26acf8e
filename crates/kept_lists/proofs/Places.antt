-- The payloads of a disk stand from its start on, up to the start of the next disk.
use Rattle.std.proofs.Common.{◌≡◌, ◌≢◌, ◌⊎◌, inl, inr, ℕ, zero, suc, ◌+◌, ◌-◌, ◌<◌, ◌≤◌, min, Bool, true, false, cond, ◌==◌, List, [], ◌∷◌, ◌++◌, length, take, get_or, slice_get, Some, refl, sym, ap, subst, ◌∙◌, arith, eqb-true, eq-eqb, length-append}
use Rattle.std.proofs.lemmas.List.{take_more, take_all}
use Rattle.std.proofs.lemmas.Bool.{false≢true}
use Rattle.std.proofs.lemmas.Option.{get_or_from_slice_get, none-some, same_Some, slice_get-get_or, slice_get_past, slice_get_within}
use Rattle.std.specs.Prelude.{IsTrue, ◌↔◌}
use Rattle.history_frame.specs.declared.events.Kept.{Kept}
use Rattle.history_frame.specs.Spelling.{DisksRise}
use Rattle.node_model.specs.Sound.{payloads_on}
use Rattle.node_model.proofs.Sounding.{stands_on}
use Rattle.kept_lists.specs.Starts.{AreBelow, IsStart}

-- ---- disks that never fall

rise_from : (least : ℕ) (kept : List Kept) (k : ℕ) (one : Kept) → DisksRise least kept → slice_get kept k ≡ Some one → least ≤ one.disk
rise_from least [] k one rise e = absurd (cc)
rise_from least (first ∷ rest) zero one rise e = let same : first ≡ one = cc in subst (λ (x : Kept). least ≤ x.disk) same rise.0
rise_from least (first ∷ rest) (suc k) one rise e = omega (arith, rise.0, rise_from first.disk rest k one rise.1 e)

rise_between : (least : ℕ) (kept : List Kept) (j k : ℕ) (one other : Kept) → DisksRise least kept → j ≤ k
    → slice_get kept j ≡ Some one → slice_get kept k ≡ Some other → one.disk ≤ other.disk
rise_between least [] j k one other rise le e f = absurd (cc)
rise_between least (first ∷ rest) zero zero one other rise le e f =
    let same : one ≡ other = cc in omega (arith, ap (λ (x : Kept). x.disk) same)
rise_between least (first ∷ rest) zero (suc k) one other rise le e f =
    let same : first ≡ one = cc in subst (λ (x : Kept). x.disk ≤ other.disk) same (rise_from first.disk rest k other rise.1 f)
rise_between least (first ∷ rest) (suc j) zero one other rise le e f = absurd (omega arith)
rise_between least (first ∷ rest) (suc j) (suc k) one other rise le e f =
    rise_between first.disk rest j k one other rise.1 (omega arith) e f

-- ---- starts

pub start_here : (kept : List Kept) (disk place : ℕ) (one : Kept) → DisksRise 0 kept → AreBelow kept disk place → slice_get kept place ≡ Some one
    → disk ≤ one.disk → IsStart kept disk place
start_here kept disk place one rise below there least = record {
  below = below;
  behind = λ k other le e. omega (arith, rise_between 0 kept place k one other rise le there e);
}

pub below_next : (kept : List Kept) (disk place : ℕ) (one : Kept) → AreBelow kept disk place → slice_get kept place ≡ Some one
    → one.disk < disk → AreBelow kept disk (place + 1)
below_next kept disk place one below there less = record {
  within = omega (arith, slice_get_within kept place one there);
  before = λ k other lt e. at k other e (grind arith);
}
  where
    at : (k : ℕ) (other : Kept) → slice_get kept k ≡ Some other → (k < place) ⊎ (k ≡ place) → other.disk < disk
    at k other e (inl lt) = below.before k other lt e
    at k other e (inr same) =
        let here : slice_get kept place ≡ Some other = subst (λ n. slice_get kept n ≡ Some other) same e in
        let one_is : one ≡ other = same_Some one other (sym there ∙ here) in
        subst (λ (x : Kept). x.disk < disk) one_is less

pub start_past : (kept : List Kept) (disk place : ℕ) → AreBelow kept disk place → length kept ≤ place → IsStart kept disk (length kept)
start_past kept disk place below past = record {
  below = record { within = omega arith; before = λ k one lt e. below.before k one (omega arith) e };
  behind = λ k one le e. absurd (omega (arith, slice_get_within kept k one e));
}

pub below_none : (kept : List Kept) (disk : ℕ) → AreBelow kept disk 0
below_none kept disk = record { within = omega arith; before = λ k one lt e. absurd (omega arith) }

pub below_more : (kept : List Kept) (disk place : ℕ) → AreBelow kept disk place → AreBelow kept (disk + 1) place
below_more kept disk place below = record { within = below.within; before = λ k one lt e. omega (arith, below.before k one lt e) }

-- ---- counting

on-append : (xs ys : List Kept) (disk : ℕ) → payloads_on (xs ++ ys) disk ≡ payloads_on xs disk ++ payloads_on ys disk
on-append [] ys disk = refl
on-append (x ∷ xs) ys disk = at (x.disk == disk) (on-append xs ys disk)
  where
    at : (b : Bool) → payloads_on (xs ++ ys) disk ≡ payloads_on xs disk ++ payloads_on ys disk
        → cond b (x.payload ∷ payloads_on (xs ++ ys) disk) (payloads_on (xs ++ ys) disk) ≡ cond b (x.payload ∷ payloads_on xs disk) (payloads_on xs disk) ++ payloads_on ys disk
    at true rest = ap (λ (l : List (List ℕ)). x.payload ∷ l) rest
    at false rest = rest

-- one payload more is counted where it is the disk's
count-more : (kept : List Kept) (disk i : ℕ) (one : Kept) → slice_get kept i ≡ Some one
    → length (payloads_on (take (i + 1) kept) disk) ≡ length (payloads_on (take i kept) disk) + cond (one.disk == disk) 1 0
count-more kept disk i one there =
    ap (λ (l : List Kept). length (payloads_on l disk))
    (take_more kept i one (slice_get_within kept i one there) ∙ ap (λ (x : Kept). take i kept ++ x ∷ []) (get_or_from_slice_get kept i one one there))
    ∙ ap (λ (l : List (List ℕ)). length l) (on-append (take i kept) (one ∷ []) disk)
    ∙ length-append (payloads_on (take i kept) disk) (payloads_on (one ∷ []) disk)
    ∙ ap (λ n. length (payloads_on (take i kept) disk) + n) (last (one.disk == disk))
  where
    last : (b : Bool) → length (cond b (one.payload ∷ []) []) ≡ cond b 1 0
    last true = refl
    last false = refl

none_yet : Kept
none_yet = record { disk = 0; payload = [] }

module _ (kept : List Kept) (disk start end : ℕ) (first : IsStart kept disk start) (next : IsStart kept (disk + 1) end) where
  -- the payloads from the start up to the end are the disk's
  pub on_here : (i : ℕ) (one : Kept) → slice_get kept i ≡ Some one → start ≤ i → i < end → one.disk ≡ disk
  on_here i one there from to = omega (arith, first.behind i one from there, next.below.before i one to there)

  pub here_on : (i : ℕ) (one : Kept) → slice_get kept i ≡ Some one → one.disk ≡ disk → (start ≤ i) × (i < end)
  here_on i one there on = (from (grind arith), to (grind arith))
    where
      from : (i < start) ⊎ (start ≤ i) → start ≤ i
      from (inl lt) = absurd (omega (arith, first.below.before i one lt there))
      from (inr le) = le

      to : (i < end) ⊎ (end ≤ i) → i < end
      to (inl lt) = lt
      to (inr le) = absurd (omega (arith, next.behind i one le there))

  count_step : (i n more : ℕ) (one : Kept) → slice_get kept i ≡ Some one → n ≡ min i end - start → more ≡ n + cond (one.disk == disk) 1 0 → more ≡ min (i + 1) end - start
  count_step i n more one there is grows = at (one.disk == disk) refl grows
    where
      before : (i < start) ⊎ (start ≤ i) → (i < end) ⊎ (end ≤ i) → one.disk ≢ disk → n + 0 ≡ min (i + 1) end - start
      before (inl lt) u ne = omega arith
      before (inr le) (inl lt) ne = absurd (ne (on_here i one there le lt))
      before (inr le) (inr past) ne = omega arith

      at : (b : Bool) → (one.disk == disk) ≡ b → more ≡ n + cond b 1 0 → more ≡ min (i + 1) end - start
      at true e g =
          let inside = here_on i one there (eqb-true one.disk disk e) in
          omega (arith, inside.0, inside.1)
      at false e g = g ∙ before (grind arith) (grind arith) (λ same. false≢true (sym e ∙ eq-eqb one.disk disk same))

  -- how many of the first payloads are the disk's
  pub counted : (i : ℕ) → i ≤ length kept → length (payloads_on (take i kept) disk) ≡ min i end - start
  counted zero le = omega arith
  counted (suc i) le =
      let one = get_or kept i none_yet in
      let there : slice_get kept i ≡ Some one = slice_get-get_or kept i none_yet (omega arith) in
      let stepped = count_step i (length (payloads_on (take i kept) disk)) (length (payloads_on (take (i + 1) kept) disk)) one there (counted i (omega arith)) (count-more kept disk i one there) in
      subst (λ k. length (payloads_on (take k kept) disk) ≡ min k end - start) (let z : i + 1 ≡ suc i = omega arith in z) stepped

  pub counted_all : length (payloads_on kept disk) ≡ end - start
  counted_all =
      ap (λ (l : List Kept). length (payloads_on l disk)) (sym (take_all (length kept) kept (omega arith)))
      ∙ counted (length kept) (omega arith) ∙ (let z : min (length kept) end - start ≡ end - start = omega (arith, next.below.within) in z)

  pub start_le : start ≤ end
  start_le = at (grind arith)
    where
      at : (start ≤ end) ⊎ (end < start) → start ≤ end
      at (inl le) = le
      at (inr lt) =
          let one = get_or kept end none_yet in
          let there : slice_get kept end ≡ Some one = slice_get-get_or kept end none_yet (omega (arith, first.below.within)) in
          absurd (omega (arith, first.below.before end one lt there, next.behind end one (omega arith) there))

  -- the offset of a payload
  pub offset_here : (i : ℕ) (one : Kept) → slice_get kept i ≡ Some one → one.disk ≡ disk → length (payloads_on (take i kept) disk) ≡ i - start
  offset_here i one there on =
      let inside = here_on i one there on in
      counted i (omega (arith, slice_get_within kept i one there)) ∙ (let z : min i end - start ≡ i - start = omega (arith, inside.1) in z)

  -- the payload at an offset
  pub payload_here : (offset : ℕ) (one : Kept) → start + offset < end → slice_get kept (start + offset) ≡ Some one → slice_get (payloads_on kept disk) offset ≡ Some one.payload
  payload_here offset one lt there =
      let on : one.disk ≡ disk = on_here (start + offset) one there (omega arith) lt in
      let behind : length (payloads_on (take (start + offset) kept) disk) ≡ offset = offset_here (start + offset) one there on ∙ (let z : start + offset - start ≡ offset = omega arith in z) in
      let stands : slice_get (payloads_on kept disk) (length (payloads_on (take (start + offset) kept) disk)) ≡ Some one.payload =
      subst (λ d. slice_get (payloads_on kept d) (length (payloads_on (take (start + offset) kept) d)) ≡ Some one.payload) on (stands_on kept (start + offset) one there) in
      subst (λ n. slice_get (payloads_on kept disk) n ≡ Some one.payload) behind stands

  -- what stands at an offset, as a test
  pub has_here : (offset : ℕ) (one : Kept) (payload : List ℕ) (b : Bool) → start + offset < end → slice_get kept (start + offset) ≡ Some one
      → IsTrue b ↔ (one.payload ≡ payload) → IsTrue b ↔ (slice_get (payloads_on kept disk) offset ≡ Some payload)
  has_here offset one payload b lt there test =
      let here = payload_here offset one lt there in
      (λ t. here ∙ ap (λ (p : List ℕ). Some p) (test.0 t), λ e. test.1 (same_Some one.payload payload (sym here ∙ e)))

  pub has_past : (offset : ℕ) (payload : List ℕ) → end - start ≤ offset → IsTrue false ↔ (slice_get (payloads_on kept disk) offset ≡ Some payload)
  has_past offset payload past =
      let none = slice_get_past (payloads_on kept disk) offset (omega (arith, counted_all)) in
      (λ t. absurd (false≢true t), λ e. absurd (none-some payload (sym none ∙ e)))

  pub offset_at : (i : ℕ) → i < length kept → ((one : Kept) → slice_get kept i ≡ Some one → one.disk ≡ disk)
      → (start ≤ i) × (i - start ≡ length (payloads_on (take i kept) disk))
  offset_at i lt on =
      let one = get_or kept i none_yet in
      let there : slice_get kept i ≡ Some one = slice_get-get_or kept i none_yet lt in
      ((here_on i one there (on one there)).0, sym (offset_here i one there (on one there)))

  -- an offset that the disk has
  pub within_here : (offset count : ℕ) → count ≡ length (payloads_on kept disk) → offset < count → (start + offset < end) × (start + offset < length kept)
  within_here offset count is lt =
      let inside : start + offset < end = omega (arith, is, counted_all, lt) in
      (inside, omega (arith, inside, next.below.within))
