-- Payloads are copied one behind another, and counted.
use Rattle.std.proofs.Common.{◌≡◌, inl, inr, ℕ, zero, suc, ◌+◌, List, [], ◌∷◌, ◌++◌, length, take, Some, sym, ap, ◌∙◌, append_assoc, append-nil, arith}
use Rattle.std.specs.Prelude.{slice_get}
use Rattle.std.proofs.lemmas.List.Sums.{sum_by-append}
use Rattle.std.specs.List.{AllByRecursion}
use Rattle.history_frame.specs.declared.events.Kept.{Kept}
use Rattle.history_frame.specs.Spelling.{IsKept}
use Rattle.node_table.specs.Numbering.{disk_of}
use Rattle.segment_journal.specs.OnDisk.{OnDisk}
use Rattle.cluster_disks.specs.declared.stop.OpenStop.{OpenStop}
use Rattle.cluster_disks.specs.Found.{TakesIn, TakesNot, bytes_in, kept_from, kept_in, kept_on}

-- ---- how many bytes they have

pub bytes_append : (xs ys : List Kept) → bytes_in (xs ++ ys) ≡ bytes_in xs + bytes_in ys
bytes_append xs ys = sum_by-append (λ (one : Kept). length one.payload) xs ys

-- what fits in a history fits behind what does
pub both_fit : (xs ys : List Kept) → AllByRecursion IsKept xs → AllByRecursion IsKept ys → AllByRecursion IsKept (xs ++ ys)
both_fit [] ys first second = second
both_fit (x ∷ xs) ys first second = (first.0, both_fit xs ys first.1 second)

-- more is copied
pub takes_on : (front more : List Kept) (bytes total next : ℕ) (old now new : List Kept) → TakesIn front bytes total old now → TakesIn more total next now new → TakesIn (front ++ more) bytes next old new
takes_on front more bytes total next old now new first second = record {
  items = second.items ∙ ap (λ (l : List Kept). l ++ more) first.items ∙ append_assoc old front more;
  count = (let a = first.count in let b = second.count in let sum = bytes_append front more in omega arith);
  few = second.few;
  fit = both_fit front more first.fit second.fit;
}

-- what is too much behind a front is too much with all that follows
pub takes_not : (front part rest : List Kept) (bytes total : ℕ) (old now : List Kept) (fault : OpenStop) → TakesIn front bytes total old now → TakesNot part total fault
    → TakesNot (front ++ (part ++ rest)) bytes fault
takes_not front part rest bytes total old now fault first (inl memory) = inl memory
takes_not front part rest bytes total old now fault first (inr many) =
    inr (many.0, (let a = first.count in let b = many.1 in let sum = bytes_append front (part ++ rest) in let both = bytes_append part rest in omega arith))

-- the count so far is that of the payloads so far
pub counted : (part old new : List Kept) (bytes more : ℕ) → bytes ≡ bytes_in old → TakesIn part bytes more old new → more ≡ bytes_in new
counted part old new bytes more was takes =
    takes.count ∙ ap (λ (n : ℕ). n + bytes_in part) was ∙ sym (bytes_append old part) ∙ ap bytes_in (sym takes.items)

-- ---- one more of a list, and what is behind it

pub on_take : (disk : ℕ) (payloads : List (List ℕ)) (k : ℕ) (payload : List ℕ) → slice_get payloads k ≡ Some payload
    → kept_on disk (take (suc k) payloads) ≡ kept_on disk (take k payloads) ++ kept_on disk (payload ∷ [])
on_take disk [] k payload at = cc
on_take disk (first ∷ payloads) zero payload at = (let one : first ≡ payload = cc in ap (λ (p : List ℕ). kept_on disk (p ∷ [])) one)
on_take disk (first ∷ payloads) (suc k) payload at = ap (λ (l : List Kept). kept_on disk (first ∷ []) ++ l) (on_take disk payloads k payload at)

pub on_split : (disk : ℕ) (payloads : List (List ℕ)) (k : ℕ) (payload : List ℕ) → slice_get payloads k ≡ Some payload
    → (rest : List Kept) × (kept_on disk payloads ≡ kept_on disk (take k payloads) ++ (kept_on disk (payload ∷ []) ++ rest))
on_split disk [] k payload at = cc
on_split disk (first ∷ payloads) zero payload at =
    (kept_on disk payloads, (let one : first ≡ payload = cc in ap (λ (p : List ℕ). kept_on disk (p ∷ []) ++ kept_on disk payloads) one))
on_split disk (first ∷ payloads) (suc k) payload at =
    let more = on_split disk payloads k payload at in
    (more.0, ap (λ (l : List Kept). kept_on disk (first ∷ []) ++ l) more.1)

module _ {D : Type 0} where
  pub from_take : (disk : ℕ) (journals : List (OnDisk D)) (k : ℕ) (journal : OnDisk D) → slice_get journals k ≡ Some journal
      → kept_from disk (take (suc k) journals) ≡ kept_from disk (take k journals) ++ kept_on (disk + k) journal.journal.payloads
  from_take disk [] k journal at = cc
  from_take disk (first ∷ journals) zero journal at =
      let one : first ≡ journal = cc in
      let here : disk ≡ disk + 0 = omega arith in
      append-nil (kept_on disk first.journal.payloads) ∙ ap (λ (x : OnDisk D). kept_on disk x.journal.payloads) one ∙ ap (λ (n : ℕ). kept_on n journal.journal.payloads) here
  from_take disk (first ∷ journals) (suc k) journal at =
      let next : suc disk + k ≡ disk + suc k = omega arith in
      ap (λ (l : List Kept). kept_on disk first.journal.payloads ++ l) (from_take (suc disk) journals k journal at)
      ∙ sym (append_assoc (kept_on disk first.journal.payloads) (kept_from (suc disk) (take k journals)) (kept_on (suc disk + k) journal.journal.payloads))
      ∙ ap (λ (n : ℕ). (kept_on disk first.journal.payloads ++ kept_from (suc disk) (take k journals)) ++ kept_on n journal.journal.payloads) next

  pub from_split : (disk : ℕ) (journals : List (OnDisk D)) (k : ℕ) (journal : OnDisk D) → slice_get journals k ≡ Some journal
      → (rest : List Kept) × (kept_from disk journals ≡ kept_from disk (take k journals) ++ (kept_on (disk + k) journal.journal.payloads ++ rest))
  from_split disk [] k journal at = cc
  from_split disk (first ∷ journals) zero journal at =
      let one : first ≡ journal = cc in
      let here : disk ≡ disk + 0 = omega arith in
      (kept_from (suc disk) journals, ap (λ (x : OnDisk D). kept_on disk x.journal.payloads ++ kept_from (suc disk) journals) one ∙ ap (λ (n : ℕ). kept_on n journal.journal.payloads ++ kept_from (suc disk) journals) here)
  from_split disk (first ∷ journals) (suc k) journal at =
      let next : suc disk + k ≡ disk + suc k = omega arith in
      let more = from_split (suc disk) journals k journal at in (
        more.0,
        ap (λ (l : List Kept). kept_on disk first.journal.payloads ++ l) more.1
            ∙ sym (append_assoc (kept_on disk first.journal.payloads) (kept_from (suc disk) (take k journals)) (kept_on (suc disk + k) journal.journal.payloads ++ more.0))
            ∙ ap (λ (n : ℕ). (kept_on disk first.journal.payloads ++ kept_from (suc disk) (take k journals)) ++ (kept_on n journal.journal.payloads ++ more.0)) next,
      )

  pub in_take : (node : ℕ) (nodes : List (List (OnDisk D))) (k : ℕ) (journals : List (OnDisk D)) → slice_get nodes k ≡ Some journals
      → kept_in node (take (suc k) nodes) ≡ kept_in node (take k nodes) ++ kept_from (disk_of (node + k) 0) journals
  in_take node [] k journals at = cc
  in_take node (first ∷ nodes) zero journals at =
      let one : first ≡ journals = cc in
      let here : node ≡ node + 0 = omega arith in
      append-nil (kept_from (disk_of node 0) first) ∙ ap (λ (js : List (OnDisk D)). kept_from (disk_of node 0) js) one ∙ ap (λ (n : ℕ). kept_from (disk_of n 0) journals) here
  in_take node (first ∷ nodes) (suc k) journals at =
      let next : suc node + k ≡ node + suc k = omega arith in
      ap (λ (l : List Kept). kept_from (disk_of node 0) first ++ l) (in_take (suc node) nodes k journals at)
      ∙ sym (append_assoc (kept_from (disk_of node 0) first) (kept_in (suc node) (take k nodes)) (kept_from (disk_of (suc node + k) 0) journals))
      ∙ ap (λ (n : ℕ). (kept_from (disk_of node 0) first ++ kept_in (suc node) (take k nodes)) ++ kept_from (disk_of n 0) journals) next

  pub in_split : (node : ℕ) (nodes : List (List (OnDisk D))) (k : ℕ) (journals : List (OnDisk D)) → slice_get nodes k ≡ Some journals
      → (rest : List Kept) × (kept_in node nodes ≡ kept_in node (take k nodes) ++ (kept_from (disk_of (node + k) 0) journals ++ rest))
  in_split node [] k journals at = cc
  in_split node (first ∷ nodes) zero journals at =
      let one : first ≡ journals = cc in
      let here : node ≡ node + 0 = omega arith in
      (kept_in (suc node) nodes, ap (λ (js : List (OnDisk D)). kept_from (disk_of node 0) js ++ kept_in (suc node) nodes) one ∙ ap (λ (n : ℕ). kept_from (disk_of n 0) journals ++ kept_in (suc node) nodes) here)
  in_split node (first ∷ nodes) (suc k) journals at =
      let next : suc node + k ≡ node + suc k = omega arith in
      let more = in_split (suc node) nodes k journals at in (
        more.0,
        ap (λ (l : List Kept). kept_from (disk_of node 0) first ++ l) more.1
            ∙ sym (append_assoc (kept_from (disk_of node 0) first) (kept_in (suc node) (take k nodes)) (kept_from (disk_of (suc node + k) 0) journals ++ more.0))
            ∙ ap (λ (n : ℕ). (kept_from (disk_of node 0) first ++ kept_in (suc node) (take k nodes)) ++ (kept_from (disk_of n 0) journals ++ more.0)) next,
      )
