-- The lists of disks after one payload more.
use Rattle.std.proofs.Common.{◌≡◌, ◌≢◌, ℕ, ◌<◌, ◌≤◌, inl, inr, Bool, true, false, cond, ◌==◌, List, [], ◌∷◌, ◌++◌, length, take, slice_get, Some, refl, sym, ap, subst, arith, eq-eqb, ◌∙◌}
use Rattle.std.proofs.lemmas.Bool.{cases_eq, cond-true, cond-false, ne_eqb}
use Rattle.std.proofs.lemmas.Option.{slice_get_cases}
use Rattle.history_frame.specs.declared.events.Kept.{Kept}
use Rattle.node_model.specs.Sound.{payloads_on}
use Rattle.segment_journal.specs.Journalled.{Journalled, loaded}
use Rattle.history_walk.specs.Beginning.{AreLists}
use Rattle.history_walk.specs.InMemory.{InMemory}
use Rattle.history_walk.specs.Keeping.{AreShort}

-- the list of a disk with one payload more
pub on_push : (kept : List Kept) (one : Kept) (disk : ℕ) → payloads_on (kept ++ one ∷ []) disk ≡ cond (one.disk == disk) (payloads_on kept disk ++ one.payload ∷ []) (payloads_on kept disk)
on_push [] one disk = at (one.disk == disk)
  where
    at : (b : Bool) → cond {A = List (List ℕ)} b (one.payload ∷ []) [] ≡ cond b ([] ++ one.payload ∷ []) []
    at true = refl
    at false = refl
on_push (first ∷ kept) one disk = at (first.disk == disk) (one.disk == disk) (on_push kept one disk)
  where
    at : (a b : Bool) → payloads_on (kept ++ one ∷ []) disk ≡ cond b (payloads_on kept disk ++ one.payload ∷ []) (payloads_on kept disk)
        → cond a (first.payload ∷ payloads_on (kept ++ one ∷ []) disk) (payloads_on (kept ++ one ∷ []) disk)
        ≡ cond b (cond a (first.payload ∷ payloads_on kept disk) (payloads_on kept disk) ++ one.payload ∷ []) (cond a (first.payload ∷ payloads_on kept disk) (payloads_on kept disk))
    at true true e = ap (λ (l : List (List ℕ)). first.payload ∷ l) e
    at true false e = ap (λ (l : List (List ℕ)). first.payload ∷ l) e
    at false true e = e
    at false false e = e

pub on_same : (kept : List Kept) (one : Kept) → payloads_on (kept ++ one ∷ []) one.disk ≡ payloads_on kept one.disk ++ one.payload ∷ []
on_same kept one = on_push kept one one.disk ∙ cond-true (one.disk == one.disk) _ _ (eq-eqb one.disk one.disk refl)

pub on_other : (kept : List Kept) (one : Kept) (disk : ℕ) → disk ≢ one.disk → payloads_on (kept ++ one ∷ []) disk ≡ payloads_on kept disk
on_other kept one disk other = on_push kept one disk ∙ cond-false (one.disk == disk) _ _ (ne_eqb one.disk disk (λ e. other (sym e)))

-- what is short comes next
pub short_next : (count : ℕ) (all kept rest : List Kept) (one : Kept) → AreShort count all → all ≡ kept ++ one ∷ rest
    → (one.disk < count) × (length one.payload ≤ 131072) × (length (payloads_on kept one.disk) < 16777216)
short_next count all kept rest one short e =
    let at = short (length kept) one (ap (λ (l : List Kept). slice_get l (length kept)) e ∙ at_end kept) in
    (at.disk, at.size, subst (λ (l : List Kept). length (payloads_on l one.disk) < 16777216) (ap (take (length kept)) e ∙ front kept) at.few)
  where
    at_end : (xs : List Kept) → slice_get (xs ++ one ∷ rest) (length xs) ≡ Some one
    at_end [] = refl
    at_end (x ∷ xs) = at_end xs

    front : (xs : List Kept) → take (length xs) (xs ++ one ∷ rest) ≡ xs
    front [] = refl
    front (x ∷ xs) = ap (λ (l : List Kept). x ∷ l) (front xs)

-- one payload more is in its list
pub lists_more : (old new : List InMemory) (kept : List Kept) (one : Kept) (count : ℕ) → AreLists old (payloads_on kept) 0 count → one.disk < count
    → length new ≡ length old → ((disk : ℕ) → disk ≢ one.disk → slice_get new disk ≡ slice_get old disk)
    → ((o n : InMemory) → slice_get old one.disk ≡ Some o → slice_get new one.disk ≡ Some n → n.journal ≡ loaded (o.journal.payloads ++ one.payload ∷ []))
    → AreLists new (payloads_on (kept ++ one ∷ [])) 0 count
lists_more old new kept one count lists lt all others added = record { all = all ∙ lists.all; each = each }
  where
    found : (o : InMemory) × (slice_get old one.disk ≡ Some o)
    found = elim (slice_get_cases old one.disk).1 [
      | inl it ↦ (it.0, it.2)
      | inr past ↦ absurd (let size = lists.all in let low = past.0 in omega arith)
    ]

    each : (disk : ℕ) (memory : InMemory) → 0 ≤ disk → slice_get new disk ≡ Some memory → memory.journal ≡ loaded (payloads_on (kept ++ one ∷ []) disk)
    each disk memory low e = elim (cases_eq disk one.disk) [
      | inl same ↦
          let here : slice_get new one.disk ≡ Some memory = ap (slice_get new) (sym same) ∙ e in
          let was : found.0.journal ≡ loaded (payloads_on kept one.disk) = lists.each one.disk found.0 (omega arith) found.1 in
          added found.0 memory found.1 here
          ∙ ap (λ (j : Journalled). loaded (j.payloads ++ one.payload ∷ [])) was
          ∙ ap loaded (sym (on_same kept one))
          ∙ ap (λ (d : ℕ). loaded (payloads_on (kept ++ one ∷ []) d)) (sym same)
      | inr other ↦ lists.each disk memory low (sym (others disk other) ∙ e) ∙ ap loaded (sym (on_other kept one disk other))
    ]
