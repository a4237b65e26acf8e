-- The payloads that are copied from all disks, in order of disk and offset, are those of each disk.
use Rattle.std.proofs.Common.{◌≡◌, ◌≢◌, ◌⊎◌, inl, inr, ℕ, zero, suc, ◌+◌, ◌<◌, ◌≤◌, Bool, true, false, cond, ◌==◌, List, [], ◌∷◌, ◌++◌, length, take, Some, refl, sym, ap, ◌∙◌, subst, append_assoc, append-nil, arith, eqb-true, eq-eqb}
use Rattle.std.specs.Prelude.{slice_get}
use Rattle.std.specs.List.{AllByRecursion, count_by}
use Rattle.std.proofs.lemmas.List.Recursion.{is_count_by}
use Rattle.history_frame.specs.declared.events.Kept.{Kept}
use Rattle.history_frame.specs.Spelling.{DisksRise}
use Rattle.node_model.specs.Sound.{payloads_on}
use Rattle.node_model.proofs.Letters.{all_append}
use Rattle.node_table.specs.Numbering.{disk_of}
use Rattle.segment_journal.specs.OnDisk.{OnDisk}
use Rattle.cluster_disks.specs.Found.{kept_from, kept_in, kept_on}
use Rattle.cluster_disks.specs.Opened.{AreSmall}
use Rattle.cluster_disks.proofs.Lending.{place_within}

-- ---- the payloads of one disk

pub on_append : (xs ys : List Kept) (disk : ℕ) → payloads_on (xs ++ ys) disk ≡ payloads_on xs disk ++ payloads_on ys disk
on_append [] ys disk = refl
on_append (x ∷ xs) ys disk = at (x.disk == disk) (on_append xs ys disk)
  where
    at : (b : Bool) → payloads_on (xs ++ ys) disk ≡ payloads_on xs disk ++ payloads_on ys disk
        → cond b (x.payload ∷ payloads_on (xs ++ ys) disk) (payloads_on (xs ++ ys) disk) ≡ cond b (x.payload ∷ payloads_on xs disk) (payloads_on xs disk) ++ payloads_on ys disk
    at true e = ap (λ (l : List (List ℕ)). x.payload ∷ l) e
    at false e = e

pub on_here : (disk : ℕ) (payloads : List (List ℕ)) → payloads_on (kept_on disk payloads) disk ≡ payloads
on_here disk [] = refl
on_here disk (payload ∷ payloads) =
    subst (λ (b : Bool). cond b (payload ∷ payloads_on (kept_on disk payloads) disk) (payloads_on (kept_on disk payloads) disk) ≡ payload ∷ payloads) (sym (eq-eqb disk disk refl))
    (ap (λ (l : List (List ℕ)). payload ∷ l) (on_here disk payloads))

pub on_other : (disk other : ℕ) (payloads : List (List ℕ)) → disk ≢ other → payloads_on (kept_on disk payloads) other ≡ []
on_other disk other [] apart = refl
on_other disk other (payload ∷ payloads) apart = at (disk == other) refl (on_other disk other payloads apart)
  where
    at : (b : Bool) → (disk == other) ≡ b → payloads_on (kept_on disk payloads) other ≡ []
        → cond b (payload ∷ payloads_on (kept_on disk payloads) other) (payloads_on (kept_on disk payloads) other) ≡ []
    at true is none = absurd (apart (eqb-true disk other is))
    at false is none = none

-- ---- their order

less_rise : (least more : ℕ) (kept : List Kept) → least ≤ more → DisksRise more kept → DisksRise least kept
less_rise least more [] le rise = tt
less_rise least more (one ∷ kept) le rise = (omega (arith, le, rise.0), rise.1)

on_rise : (least disk : ℕ) (payloads : List (List ℕ)) (rest : List Kept) → least ≤ disk → DisksRise disk rest → DisksRise least (kept_on disk payloads ++ rest)
on_rise least disk [] rest le rise = less_rise least disk rest le rise
on_rise least disk (payload ∷ payloads) rest le rise = (le, on_rise disk disk payloads rest (omega arith) rise)

module _ {D : Type 0} where
  -- ---- those of a node

  pub from_below : (disk other : ℕ) (journals : List (OnDisk D)) → other < disk → payloads_on (kept_from disk journals) other ≡ []
  from_below disk other [] below = refl
  from_below disk other (journal ∷ journals) below =
      on_append (kept_on disk journal.journal.payloads) (kept_from (suc disk) journals) other
      ∙ ap (λ (l : List (List ℕ)). l ++ payloads_on (kept_from (suc disk) journals) other) (on_other disk other journal.journal.payloads (λ e. absurd (omega arith)))
      ∙ from_below (suc disk) other journals (omega arith)

  pub from_past : (disk other : ℕ) (journals : List (OnDisk D)) → disk + length journals ≤ other → payloads_on (kept_from disk journals) other ≡ []
  from_past disk other [] past = refl
  from_past disk other (journal ∷ journals) past =
      on_append (kept_on disk journal.journal.payloads) (kept_from (suc disk) journals) other
      ∙ ap (λ (l : List (List ℕ)). l ++ payloads_on (kept_from (suc disk) journals) other) (on_other disk other journal.journal.payloads (λ e. absurd (omega arith)))
      ∙ from_past (suc disk) other journals (omega arith)

  pub from_here : (disk j other : ℕ) (journals : List (OnDisk D)) (journal : OnDisk D) → slice_get journals j ≡ Some journal → other ≡ disk + j → payloads_on (kept_from disk journals) other ≡ journal.journal.payloads
  from_here disk j other [] journal at is = cc
  from_here disk zero other (first ∷ journals) journal at is =
      let same : other ≡ disk = omega arith in
      let one : first ≡ journal = cc in
      on_append (kept_on disk first.journal.payloads) (kept_from (suc disk) journals) other
      ∙ ap (λ (l : List (List ℕ)). l ++ payloads_on (kept_from (suc disk) journals) other) (subst (λ (n : ℕ). payloads_on (kept_on disk first.journal.payloads) n ≡ first.journal.payloads) (sym same) (on_here disk first.journal.payloads))
      ∙ ap (λ (l : List (List ℕ)). first.journal.payloads ++ l) (from_below (suc disk) other journals (omega arith))
      ∙ append-nil first.journal.payloads
      ∙ ap (λ (x : OnDisk D). x.journal.payloads) one
  from_here disk (suc j) other (first ∷ journals) journal at is =
      on_append (kept_on disk first.journal.payloads) (kept_from (suc disk) journals) other
      ∙ ap (λ (l : List (List ℕ)). l ++ payloads_on (kept_from (suc disk) journals) other) (on_other disk other first.journal.payloads (λ e. absurd (omega arith)))
      ∙ from_here (suc disk) j other journals journal at (omega arith)

  -- ---- those of all nodes

  pub in_below : (node other : ℕ) (nodes : List (List (OnDisk D))) → other < disk_of node 0 → payloads_on (kept_in node nodes) other ≡ []
  in_below node other [] below = refl
  in_below node other (journals ∷ nodes) below =
      on_append (kept_from (disk_of node 0) journals) (kept_in (suc node) nodes) other
      ∙ ap (λ (l : List (List ℕ)). l ++ payloads_on (kept_in (suc node) nodes) other) (from_below (disk_of node 0) other journals below)
      ∙ in_below (suc node) other nodes (omega arith)

  pub in_here : (node n j other : ℕ) (nodes : List (List (OnDisk D))) (journals : List (OnDisk D)) (journal : OnDisk D) → AreSmall nodes
      → slice_get nodes n ≡ Some journals → slice_get journals j ≡ Some journal → other ≡ disk_of (node + n) j
      → payloads_on (kept_in node nodes) other ≡ journal.journal.payloads
  in_here node n j other [] journals journal small here at is = cc
  in_here node zero j other (first ∷ nodes) journals journal small here at is =
      let one : first ≡ journals = cc in
      let few = small 0 first refl in
      let at_first = subst (λ (l : List (OnDisk D)). slice_get l j ≡ Some journal) (sym one) at in
      let inside = place_within first j journal at_first in
      on_append (kept_from (disk_of node 0) first) (kept_in (suc node) nodes) other
      ∙ ap (λ (l : List (List ℕ)). l ++ payloads_on (kept_in (suc node) nodes) other) (from_here (disk_of node 0) j other first journal at_first (omega arith))
      ∙ ap (λ (l : List (List ℕ)). journal.journal.payloads ++ l) (in_below (suc node) other nodes (omega arith))
      ∙ append-nil journal.journal.payloads
  in_here node (suc n) j other (first ∷ nodes) journals journal small here at is =
      let few = small 0 first refl in
      on_append (kept_from (disk_of node 0) first) (kept_in (suc node) nodes) other
      ∙ ap (λ (l : List (List ℕ)). l ++ payloads_on (kept_in (suc node) nodes) other) (from_past (disk_of node 0) other first (omega arith))
      ∙ in_here (suc node) n j other nodes journals journal (λ m js e. small (suc m) js e) here at (omega arith)

  -- ---- their order

  from_rise : (least disk : ℕ) (journals : List (OnDisk D)) (rest : List Kept) → least ≤ disk → DisksRise (disk + length journals) rest → DisksRise least (kept_from disk journals ++ rest)
  from_rise least disk [] rest le rise = less_rise least (disk + 0) rest (omega arith) rise
  from_rise least disk (journal ∷ journals) rest le rise =
      let size : disk + length (journal ∷ journals) ≡ suc disk + length journals = omega arith in
      subst (DisksRise least) (sym (append_assoc (kept_on disk journal.journal.payloads) (kept_from (suc disk) journals) rest))
      (on_rise least disk journal.journal.payloads (kept_from (suc disk) journals ++ rest) le
      (from_rise disk (suc disk) journals rest (omega arith) (subst (λ (n : ℕ). DisksRise n rest) size rise)))

  pub in_rise : (least node : ℕ) (nodes : List (List (OnDisk D))) → least ≤ disk_of node 0 → AreSmall nodes → DisksRise least (kept_in node nodes)
  in_rise least node [] le small = tt
  in_rise least node (journals ∷ nodes) le small =
      let few = small 0 journals refl in
      from_rise least (disk_of node 0) journals (kept_in (suc node) nodes) le
      (in_rise (disk_of node 0 + length journals) (suc node) nodes (omega arith) (λ m js e. small (suc m) js e))

-- ---- where a payload stands

-- a payload is taken from a disk behind those before it
pub offset_within : (kept : List Kept) (index : ℕ) (one : Kept) → slice_get kept index ≡ Some one
    → length (payloads_on (take index kept) one.disk) < length (payloads_on kept one.disk)
offset_within [] index one at = cc
offset_within (first ∷ kept) zero one at =
    let same : first ≡ one = cc in
    let here : (first.disk == one.disk) ≡ true = eq-eqb first.disk one.disk (ap (λ (k : Kept). k.disk) same) in
    subst (λ (b : Bool). 0 < length (cond b (first.payload ∷ payloads_on kept one.disk) (payloads_on kept one.disk))) (sym here) (omega arith)
offset_within (first ∷ kept) (suc index) one at = more (first.disk == one.disk) (offset_within kept index one at)
  where
    more : (b : Bool) → length (payloads_on (take index kept) one.disk) < length (payloads_on kept one.disk)
        → length (cond b (first.payload ∷ payloads_on (take index kept) one.disk) (payloads_on (take index kept) one.disk))
        < length (cond b (first.payload ∷ payloads_on kept one.disk) (payloads_on kept one.disk))
    more true below = omega arith
    more false below = below

-- how many there are on a disk
pub count_on : (disk : ℕ) (kept : List Kept) → length (payloads_on kept disk) ≡ count_by (λ (one : Kept). one.disk == disk) kept
count_on disk kept = is_count_by (λ (l : List Kept). length (payloads_on l disk)) (λ (one : Kept). one.disk == disk) refl (λ one rest. step one rest (one.disk == disk)) kept
  where
    step : (one : Kept) (rest : List Kept) (b : Bool) → length (cond b (one.payload ∷ payloads_on rest disk) (payloads_on rest disk)) ≡ cond b (1 + length (payloads_on rest disk)) (length (payloads_on rest disk))
    step one rest true = omega arith
    step one rest false = refl

-- what stands in joined lists stands in one of them
in_joined : (xs ys : List Kept) (k : ℕ) (one : Kept) → slice_get (xs ++ ys) k ≡ Some one → ((i : ℕ) × (slice_get xs i ≡ Some one)) ⊎ ((i : ℕ) × (slice_get ys i ≡ Some one))
in_joined [] ys k one at = inr (k, at)
in_joined (x ∷ xs) ys zero one at = inl (0, at)
in_joined (x ∷ xs) ys (suc k) one at = elim (in_joined xs ys k one at) [
  | inl there ↦ inl (suc there.0, there.1)
  | inr there ↦ inr there
]

on_its_disk : (disk : ℕ) (payloads : List (List ℕ)) (k : ℕ) (one : Kept) → slice_get (kept_on disk payloads) k ≡ Some one → one.disk ≡ disk
on_its_disk disk [] k one at = cc
on_its_disk disk (payload ∷ payloads) zero one at = (let e : record { disk = disk; payload = payload } ≡ one = cc in sym (ap (λ (x : Kept). x.disk) e))
on_its_disk disk (payload ∷ payloads) (suc k) one at = on_its_disk disk payloads k one at

module _ {D : Type 0} where
  -- a payload was copied from the journal of its disk
  pub record StandsIn (nodes : List (List (OnDisk D))) (first : ℕ) (one : Kept) : Type 0 where
    pub node : ℕ
    pub segment : ℕ
    pub journals : List (OnDisk D)
    pub journal : OnDisk D
    pub at : slice_get nodes node ≡ Some journals
    pub here : slice_get journals segment ≡ Some journal
    pub disk_is : one.disk ≡ disk_of (first + node) segment

  from_its_journal : (disk : ℕ) (journals : List (OnDisk D)) (k : ℕ) (one : Kept) → slice_get (kept_from disk journals) k ≡ Some one
      → (j : ℕ) × (journal : OnDisk D) × (slice_get journals j ≡ Some journal) × (one.disk ≡ disk + j)
  from_its_journal disk [] k one at = cc
  from_its_journal disk (journal ∷ journals) k one at = elim (in_joined (kept_on disk journal.journal.payloads) (kept_from (suc disk) journals) k one at) [
    | inl there ↦ (0, journal, refl, on_its_disk disk journal.journal.payloads there.0 one there.1 ∙ (let e : disk ≡ disk + 0 = omega arith in e))
    | inr there ↦
        let rest = from_its_journal (suc disk) journals there.0 one there.1 in
        (suc rest.0, rest.1, rest.2, rest.3 ∙ (let e : suc disk + rest.0 ≡ disk + suc rest.0 = omega arith in e))
  ]

  pub stands_in : (first : ℕ) (nodes : List (List (OnDisk D))) (k : ℕ) (one : Kept) → slice_get (kept_in first nodes) k ≡ Some one → StandsIn nodes first one
  stands_in first [] k one at = cc
  stands_in first (journals ∷ nodes) k one at = elim (in_joined (kept_from (disk_of first 0) journals) (kept_in (suc first) nodes) k one at) [
    | inl there ↦
        let from = from_its_journal (disk_of first 0) journals there.0 one there.1 in
        record { node = 0; segment = from.0; journals = journals; journal = from.1; at = refl; here = from.2; disk_is = from.3 ∙ (let e : disk_of first 0 + from.0 ≡ disk_of (first + 0) from.0 = omega arith in e) }
    | inr there ↦
        let rest = stands_in (suc first) nodes there.0 one there.1 in
        record {
          node = suc rest.node;
          segment = rest.segment;
          journals = rest.journals;
          journal = rest.journal;
          at = rest.at;
          here = rest.here;
          disk_is = rest.disk_is ∙ ap (λ (n : ℕ). disk_of n rest.segment) (let e : suc first + rest.node ≡ first + suc rest.node = omega arith in e);
        }
  ]

-- ---- whose disks they are

on_all : (P : ℕ → Type 0) (disk : ℕ) (payloads : List (List ℕ)) → P disk → AllByRecursion (λ (one : Kept). P one.disk) (kept_on disk payloads)
on_all P disk [] is = tt
on_all P disk (payload ∷ payloads) is = (is, on_all P disk payloads is)

from_all : {D : Type 0} (P : ℕ → Type 0) (disk : ℕ) (journals : List (OnDisk D)) → ((segment : ℕ) → segment < length journals → P (disk + segment))
    → AllByRecursion (λ (one : Kept). P one.disk) (kept_from disk journals)
from_all P disk [] is = tt
from_all P disk (journal ∷ journals) is =
    all_append (λ (one : Kept). P one.disk) (kept_on disk journal.journal.payloads) (kept_from (suc disk) journals)
    (on_all P disk journal.journal.payloads (subst P (let same : disk + 0 ≡ disk = omega arith in same) (is zero (omega arith))))
    (from_all P (suc disk) journals (λ segment lt. subst P (let same : disk + suc segment ≡ suc disk + segment = omega arith in same) (is (suc segment) (omega arith))))

pub in_all : {D : Type 0} (P : ℕ → Type 0) (node : ℕ) (nodes : List (List (OnDisk D)))
    → ((n : ℕ) (js : List (OnDisk D)) → slice_get nodes n ≡ Some js → (segment : ℕ) → segment < length js → P (disk_of (node + n) segment))
    → AllByRecursion (λ (one : Kept). P one.disk) (kept_in node nodes)
in_all P node [] is = tt
in_all P node (journals ∷ nodes) is =
    all_append (λ (one : Kept). P one.disk) (kept_from (disk_of node 0) journals) (kept_in (suc node) nodes)
    (from_all P (disk_of node 0) journals
    (λ segment lt. subst P (let same : disk_of (node + 0) segment ≡ disk_of node 0 + segment = omega arith in same) (is zero journals refl segment lt)))
    (in_all P (suc node) nodes
    (λ n js at segment lt. subst P (let same : disk_of (node + suc n) segment ≡ disk_of (suc node + n) segment = omega arith in same) (is (suc n) js at segment lt)))
