-- The disks of a node are given back, one after another.
use Rattle.std.proofs.Common.{◌≡◌, ◌≢◌, ◌⊎◌, inl, inr, ℕ, ◌+◌, List, [], ◌∷◌, ◌++◌, length, length-append, Option, Some, None, sym, ap, ◌∙◌, subst, arith}
use Rattle.std.specs.Prelude.{IfSome, IsTrue, slice_get}
use Rattle.disk_base.specs.Lending.{IsGivenBack as IsLaidBack}
use Rattle.node_table.specs.Numbering.{disk_of}
use Rattle.segment_journal.specs.Kept.{RecoversKept}
use Rattle.segment_journal.specs.OnDisk.{OnDisk}
use Rattle.cluster_disks.specs.Lent.{Disks, Lying}
use Rattle.cluster_disks.specs.Opened.{AreGivenBack, IsGivenBack, KeepsList}
use Rattle.cluster_disks.proofs.Lending.{IsSame, given_same, in_pushed, one_segment, place_within}

module _ {D : Type 0} (by : Disks D) where
  -- a journal's disk that lies there again keeps the journal's list
  pub laid_back : (journal : OnDisk D) (disk : D) (new : Lying D) → disk ≡ journal.disk
      → (IsTrue (by.keeps_synced journal.disk) → (c : List ℕ) → by.may_leave disk c → RecoversKept journal.journal.payloads journal.journal.flight c)
      → IfSome new.disk (IsLaidBack by.reads by.may_leave by.keeps_synced by.faults disk) → new.disk_faults ≡ by.faults disk
      → IsGivenBack by journal new
  laid_back journal disk new same keeps_list lies count = record {
    count = count ∙ ap by.faults same;
    keeps = keeps new.disk lies;
    list = list new.disk lies;
    images = images new.disk lies;
  }
    where
      keeps : (there : Option D) → IfSome there (IsLaidBack by.reads by.may_leave by.keeps_synced by.faults disk) → IfSome there (λ d. by.keeps_synced d ≡ by.keeps_synced journal.disk)
      keeps None back = tt
      keeps (Some there) back = back.keeps ∙ ap by.keeps_synced same

      list : (there : Option D) → IfSome there (IsLaidBack by.reads by.may_leave by.keeps_synced by.faults disk)
          → IfSome there (λ d. IsTrue (by.keeps_synced d) → KeepsList journal.journal.payloads journal.journal.flight (by.may_leave d))
      list None back = tt
      list (Some there) back = λ synced c image bytes. keeps_list (sym (ap by.keeps_synced same) ∙ sym back.keeps ∙ synced) c (back.images.no_other c image)

      images : (there : Option D) → IfSome there (IsLaidBack by.reads by.may_leave by.keeps_synced by.faults disk)
          → IfSome there (λ d. (c : List ℕ) → by.may_leave d c → by.may_leave journal.disk c)
      images None back = tt
      images (Some there) back = λ c image. subst (λ (d : D). by.may_leave d c) same (back.images.no_other c image)

  -- The disks of the first journals of a node lie there again.
  pub record IsClosing (node : ℕ) (now : ℕ → Lying D) (segment : ℕ) (journals : List (OnDisk D)) : Type 0 where
    pub count : segment ≡ length journals
    pub back : AreGivenBack by node journals now

  pub one_closed : (node : ℕ) (now new : ℕ → Lying D) (segment : ℕ) (journals : List (OnDisk D)) (journal : OnDisk D)
      → IsClosing node now segment journals → ((k : ℕ) → k ≢ disk_of node segment → IsSame (now k) (new k))
      → IsGivenBack by journal (new (disk_of node segment))
      → IsClosing node new (segment + 1) (journals ++ journal ∷ [])
  one_closed node now new segment journals journal before same given = record {
    count = ap (λ (n : ℕ). n + 1) before.count ∙ sym (length-append journals (journal ∷ []));
    back = λ j one at. there j one (in_pushed journals journal j one at);
  }
    where
      there : (j : ℕ) (one : OnDisk D) → (slice_get journals j ≡ Some one) ⊎ ((j ≡ length journals) × (journal ≡ one)) → IsGivenBack by one (new (disk_of node j))
      there j one (inl at) =
          let lt = place_within journals j one at in
          let apart : j ≢ segment = λ e. (let c = before.count in omega arith) in
          given_same by one (now (disk_of node j)) (new (disk_of node j)) (same (disk_of node j) (λ e. apart (one_segment node j segment e))) (before.back j one at)
      there j one (inr (is, last)) =
          subst (λ (x : OnDisk D). IsGivenBack by x (new (disk_of node j))) last
          (subst (λ (n : ℕ). IsGivenBack by journal (new (disk_of node n))) (before.count ∙ sym is) given)
