-- The disks of a node are opened, one after another.
use Rattle.std.proofs.Common.{◌≡◌, ◌≢◌, ◌⊎◌, inl, inr, ℕ, ◌+◌, ◌<◌, ◌≤◌, List, [], ◌∷◌, ◌++◌, Option, Some, None, Ok, length, length-append, refl, sym, ap, ◌∙◌, subst, ⊎_elim, arith}
use Rattle.std.proofs.lemmas.Bool.{cases_eq, cases_lt}
use Rattle.std.specs.Prelude.{IfSome, slice_get}
use Rattle.node_table.specs.Numbering.{disk_of}
use Rattle.segment_journal.specs.File.{recovered}
use Rattle.segment_journal.specs.OnDisk.{OnDisk}
use Rattle.cluster_disks.specs.declared.stop.OpenStop.{OpenStop}
use Rattle.cluster_disks.specs.Lent.{Disks, IsDiskOfNode, Lying}
use Rattle.cluster_disks.specs.Opened.{AreGivenBack, AreOpened, FailsAt, FailsToOpen, IsOpened, IsReturned, IsWhole}
use Rattle.cluster_disks.proofs.Lending.{IsSame, fails_then, in_pushed, later_segment, one_segment, opened_after, place_there, returned_open, returned_same, returned_then, same_fails, same_returned}

module _ {D : Type 0} (by : Disks D) where
  -- a disk that is open was whole
  pub open_whole : (lying : Lying D) (journal : OnDisk D) → IsOpened by lying journal → IsWhole by lying
  open_whole lying journal opened = there lying.disk opened.list
    where
      told : (bytes : Option (List ℕ)) → IfSome bytes (λ b. recovered b ≡ Ok journal.journal.payloads) → IfSome bytes (λ b. (list : List (List ℕ)) × (recovered b ≡ Ok list))
      told None is = tt
      told (Some b) is = (journal.journal.payloads, is)

      there : (disk : Option D) → IfSome disk (λ d. IfSome (by.reads d) (λ b. recovered b ≡ Ok journal.journal.payloads))
          → IfSome disk (λ d. IfSome (by.reads d) (λ b. (list : List (List ℕ)) × (recovered b ≡ Ok list)))
      there None is = tt
      there (Some d) is = told (by.reads d) is

  -- The first disks of a node are open.
  pub record IsOpening (node : ℕ) (old : ℕ → Lying D) (segment : ℕ) (journals : List (OnDisk D)) : Type 0 where
    pub count : length journals ≡ segment
    pub opened : AreOpened by node old journals

  pub one_opened : (node : ℕ) (old now : ℕ → Lying D) (segment : ℕ) (journals : List (OnDisk D)) (journal : OnDisk D)
      → IsOpening node old segment journals → IsSame (old (disk_of node segment)) (now (disk_of node segment))
      → IsOpened by (now (disk_of node segment)) journal
      → IsOpening node old (segment + 1) (journals ++ journal ∷ [])
  one_opened node old now segment journals journal before same opened = record {
    count = length-append journals (journal ∷ []) ∙ ap (λ (n : ℕ). n + 1) before.count;
    opened = λ j one at. there j one (in_pushed journals journal j one at);
  }
    where
      there : (j : ℕ) (one : OnDisk D) → (slice_get journals j ≡ Some one) ⊎ ((j ≡ length journals) × (journal ≡ one)) → IsOpened by (old (disk_of node j)) one
      there j one (inl at) = before.opened j one at
      there j one (inr (is, last)) =
          subst (λ (x : OnDisk D). IsOpened by (old (disk_of node j)) x) last
          (subst (λ (n : ℕ). IsOpened by (old (disk_of node n)) journal) (sym before.count ∙ sym is)
          (opened_after by (old (disk_of node segment)) (now (disk_of node segment)) journal same opened))

  -- All disks of a node came back where one could not be opened: the first ones were opened and given back, and the
  -- others stayed.
  pub all_returned : (node : ℕ) (old before between new : ℕ → Lying D) (segment : ℕ) (journals : List (OnDisk D))
      → IsOpening node old segment journals
      → ((k : ℕ) → ¬ IsDiskOfNode node segment k → IsSame (old k) (before k)) → ((k : ℕ) → k ≢ disk_of node segment → IsSame (before k) (between k))
      → ((k : ℕ) → ¬ IsDiskOfNode node (length journals) k → IsSame (between k) (new k))
      → ((k : ℕ) → (old k).rack_faults ≤ (before k).rack_faults) → ((k : ℕ) → (before k).rack_faults ≤ (between k).rack_faults) → ((k : ℕ) → (between k).rack_faults ≤ (new k).rack_faults)
      → IsReturned by (before (disk_of node segment)) (between (disk_of node segment))
      → AreGivenBack by node journals new
      → (j : ℕ) → IsReturned by (old (disk_of node j)) (new (disk_of node j))
  all_returned node old before between new segment journals opening first second third a b c returned back j =
      ⊎_elim
      (λ below.
      let there = place_there journals j (let n = opening.count in omega arith) in
      returned_open by there.0 (old (disk_of node j)) (new (disk_of node j)) (opening.opened j there.0 there.1) (back j there.0 there.1)
      (let x = a (disk_of node j) in let y = b (disk_of node j) in let z = c (disk_of node j) in omega arith))
      (λ behind. ⊎_elim
      (λ same. subst (λ (n : ℕ). IsReturned by (old (disk_of node n)) (new (disk_of node n))) (sym same) failed)
      (λ other. later j behind other)
      (cases_eq j segment))
      (cases_lt j segment)
    where
      all : length journals ≡ segment
      all = opening.count

      failed : IsReturned by (old (disk_of node segment)) (new (disk_of node segment))
      failed =
          let k = disk_of node segment in
          returned_then by (old k) (between k) (new k)
          (same_returned by (old k) (before k) (between k) (first k (later_segment node segment segment (omega arith))) (a k) returned)
          (third k (later_segment node (length journals) segment (omega arith))) (c k)

      later : (j : ℕ) → segment ≤ j → j ≢ segment → IsReturned by (old (disk_of node j)) (new (disk_of node j))
      later j behind other =
          let k = disk_of node j in
          returned_then by (old k) (between k) (new k)
          (same_returned by (old k) (before k) (between k) (first k (later_segment node segment j behind)) (a k)
          (returned_same by (before k) (between k) (second k (λ e. other (one_segment node j segment e))) (b k)))
          (third k (later_segment node (length journals) j (omega arith))) (c k)

  -- why it could not be opened
  pub one_fails : (node count : ℕ) (old before between new : ℕ → Lying D) (segment : ℕ) (journals : List (OnDisk D)) (fault : OpenStop)
      → segment < count → IsOpening node old segment journals
      → ((k : ℕ) → ¬ IsDiskOfNode node segment k → IsSame (old k) (before k)) → ((k : ℕ) → ¬ IsDiskOfNode node (length journals) k → IsSame (between k) (new k))
      → ((k : ℕ) → (old k).rack_faults ≤ (before k).rack_faults) → ((k : ℕ) → (between k).rack_faults ≤ (new k).rack_faults)
      → FailsToOpen by (disk_of node segment) (before (disk_of node segment)) (between (disk_of node segment)) fault
      → FailsAt by (IsDiskOfNode node count) old new fault
  one_fails node count old before between new segment journals fault lt opening first third a c fails =
      let k = disk_of node segment in
      let all = opening.count in
      record {
        number = k;
        among = (segment, lt, refl);
        fails = fails_then by k (old k) (between k) (new k) fault
            (same_fails by k (old k) (before k) (between k) fault (first k (later_segment node segment segment (omega arith))) (a k) fails)
            (third k (later_segment node (length journals) segment (omega arith))) (c k);
        below = λ lower under is.
            let at : is.0 < length journals = (let e = is.2 in omega arith) in
            let there = place_there journals is.0 at in
            subst (λ (n : ℕ). IsWhole by (old n)) (sym is.2) (open_whole (old (disk_of node is.0)) there.0 (opening.opened is.0 there.0 there.1));
      }
