-- Where nothing fails, a cluster serves all items over disks that it may begin with.
use Rattle.std.proofs.Common.{◌≡◌, ◌⊎◌, inl, inr, ℕ, ◌≤◌, List, [], ◌++◌, Option, Some, None, Result, Ok, Err, refl, sym, ap, ◌∙◌, subst, arith, append-nil}
use Rattle.std.specs.Prelude.{IfSome, IsSomeAnd}
use Rattle.std.specs.List.{AllByRecursion, flat_map}
use Rattle.std.specs.Io.KnownBytes.{Appends}
use Rattle.command_frame.specs.declared.items.Item.{Item}
use Rattle.command_frame.specs.Items.{IsNoFault, item_spelling}
use Rattle.command_frame.proofs.FrameLaws.{one_item}
use Rattle.history_frame.specs.declared.events.Kept.{Kept}
use Rattle.item_input.specs.Input.{Ending, Whole, BadPlace, TooMany as EndsTooMany}
use Rattle.item_input.specs.Plain.{Ends, FaultLine, IsBadPlace, PlainEnding, ReadsPlain, RefusesPlain}
use Rattle.item_input.proofs.OneReading.{OneItem, plain_one_way}
use Rattle.log_base.specs.ClusterShape.{InRange, Shape}
use Rattle.log_base.specs.Outside.{Rose}
use Rattle.node_model.specs.NodeState.{KeptLists}
use Rattle.node_model.specs.Sound.{IsSound, payloads_on}
use Rattle.node_model.proofs.Sounding.{sound_each}
use Rattle.reply_frame.specs.declared.faults.ItemFault.{ItemFault}
use Rattle.reply_frame.specs.declared.faults.ItemFault.TheVariants.{Bad, Read, Many, Memory as NoSpace}
use Rattle.segment_journal.specs.File.{recovered}
use Rattle.cluster_disks.specs.declared.stop.OpenStop.{OpenStop}
use Rattle.cluster_disks.specs.declared.stop.OpenStop.TheVariants.{Unopened as NotOpened, BadDisk as IsBad, TooManyKept, Memory as NoRoom}
use Rattle.cluster_disks.specs.Failing.{IsRejected, OpensNot}
use Rattle.cluster_disks.specs.Found.{Rejects, bytes_in, kept_limit}
use Rattle.cluster_disks.specs.Lent.{Disks, IsDisk, Lying}
use Rattle.cluster_disks.specs.Opened.{HasFailed, IsDamagedAt, Recovers}
use Rattle.cluster_run.specs.Runs.{StopsWith}
use Rattle.quiet_run.specs.declared.outcomes.DriveStop.{DriveStop}
use Rattle.quiet_run.specs.declared.outcomes.DriveStop.TheVariants.{Limit, Memory as NoMemory}
use Rattle.scalog_run.specs.declared.fault.RunFault.{RunFault}
use Rattle.scalog_run.specs.declared.fault.RunFault.TheVariants.{Memory, TooMany}
use Rattle.scalog_run.specs.Complete.{EndsServed, HoldsList, MayBegin, NoneFails, ServesAll}
use Rattle.scalog_run.specs.Faults.{opening_fault, reading_fault, stopping_fault}
use Rattle.scalog_run.specs.Output.{Sends, Sinking, status_of, to_send}
use Rattle.scalog_run.specs.Quiet.{HoldsItems}
use Rattle.scalog_run.specs.Run.{World}
use Rattle.scalog_run.specs.RunCluster.{ClusterComesTo, RanCluster}
use Rattle.scalog_run.specs.Served.{IsHaltedOver, IsNotServed, IsUnserved, ServesTo}
use Rattle.scalog_run.proofs.SameKept.{same_bytes, same_lists}
use Rattle.scalog_run.proofs.Whole.{few_replicas}

-- ---- disks that hold lists

-- a disk recovers to one list
one_list : {D : Type 0} (by : Disks D) (lying : Lying D) (list other : List (List ℕ)) → HoldsList by lying list → Recovers by lying other → other ≡ list
one_list {D} by lying list other holds found = by_disk lying.disk holds found
  where
    by_bytes : (told : Option (List ℕ)) → IsSomeAnd told (λ bytes. recovered bytes ≡ Ok list) → IfSome told (λ bytes. recovered bytes ≡ Ok other) → other ≡ list
    by_bytes None none is = absurd none
    by_bytes (Some bytes) one is = let same : Ok other ≡ Ok list = sym is ∙ one in cc

    by_disk : (told : Option D) → IsSomeAnd told (λ disk. IsSomeAnd (by.reads disk) (λ bytes. recovered bytes ≡ Ok list))
        → IfSome told (λ disk. IfSome (by.reads disk) (λ bytes. recovered bytes ≡ Ok other)) → other ≡ list
    by_disk None none is = absurd none
    by_disk (Some disk) one is = by_bytes (by.reads disk) one is

-- and so it is not damaged
not_damaged : {D : Type 0} (by : Disks D) (lying : Lying D) (list : List (List ℕ)) (at : ℕ) → HoldsList by lying list → IsDamagedAt by lying at → ⊥
not_damaged {D} by lying list at holds damaged = by_disk lying.disk holds damaged
  where
    by_bytes : (told : Option (List ℕ)) → IsSomeAnd told (λ bytes. recovered bytes ≡ Ok list) → IfSome told (λ bytes. recovered bytes ≡ Err at) → ⊥
    by_bytes None none is = none
    by_bytes (Some bytes) one is = let same : Ok list ≡ Err at = sym one ∙ is in cc

    by_disk : (told : Option D) → IsSomeAnd told (λ disk. IsSomeAnd (by.reads disk) (λ bytes. recovered bytes ≡ Ok list))
        → IfSome told (λ disk. IfSome (by.reads disk) (λ bytes. recovered bytes ≡ Err at)) → ⊥
    by_disk None none is = none
    by_disk (Some disk) one is = by_bytes (by.reads disk) one is

-- ---- a cluster over such disks

module _ {D : Type 0} (by : Disks D) (config : Shape) (few : config.replicas ≤ 8) (run : ℕ) (old new : ℕ → Lying D) (may : MayBegin by config run old)
    (fine : (number : ℕ) → IsDisk config number → ¬ HasFailed (old number) (new number)) where
  opens : (stop : OpenStop) → OpensNot by config old new stop → opening_fault stop ≡ Memory
  opens (NotOpened disk) why = absurd (fine disk why.number_is why.cause)
  opens (IsBad disk at) why = absurd (not_damaged by (old disk) (payloads_on may.kept disk) at (may.hold disk why.number_is) why.damage)
  opens TooManyKept why = absurd why
  opens NoRoom why = refl

  begins : (stop : OpenStop) → IsRejected by config run stop old new → opening_fault stop ≡ Memory
  begins stop h = by_list stop h.rejects
    where
      same : payloads_on h.kept ≡ payloads_on may.kept
      same = same_lists (IsDisk config) h.kept may.kept h.on_disks may.on_disks
          (λ number is. one_list by (old number) (payloads_on may.kept number) (payloads_on h.kept number) (may.hold number is) (h.found number is))

      sound : IsSound config run (payloads_on h.kept)
      sound = subst (IsSound config run) (sym same) may.sound

      by_list : (s : OpenStop) → Rejects config run h.kept s → opening_fault s ≡ Memory
      by_list (NotOpened disk) why = absurd why
      by_list (IsBad disk at) why = absurd (why.1.breaks.breaks (λ one here. sound_each config run h.kept sound why.1.index one here))
      by_list TooManyKept why =
          let bytes = same_bytes config h.kept may.kept few h.on_disks may.on_disks same in
          let within = may.few in
          absurd (omega (arith, bytes, within, why))
      by_list NoRoom why = refl

  -- why it may have no output
  abbrev IsAllowed : RunFault → Type 0
  IsAllowed fault = (fault ≡ Memory) ⊎ ((fault ≡ TooMany 4) × IsHaltedOver by config run (Limit 4) old new)

  stops : (stop : DriveStop) → IsHaltedOver by config run stop old new → IsAllowed (stopping_fault stop)
  stops (Limit cause) halted =
      let four = halted.stops.0 in
      inr (ap TooMany four, subst (λ (n : ℕ). IsHaltedOver by config run (Limit n) old new) four halted)
  stops NoMemory halted = inl refl

  allowed : (fault : RunFault) → IsNotServed by config run fault old new → IsAllowed fault
  allowed fault (inl none) = inl (none.fault_is ∙ by_why none.why)
    where
      by_why : OpensNot by config old new none.stop ⊎ IsUnserved by config run none.stop old new → opening_fault none.stop ≡ Memory
      by_why (inl why) = opens none.stop why
      by_why (inr unserved) = begins none.stop unserved.rejected
  allowed fault (inr (inl half)) = subst IsAllowed (sym half.fault_is) (stops half.stop half.halted)
  allowed fault (inr (inr gone)) = inl gone.fault_is

  module _ (items : List Item) (workers : ℕ) (sink_old sink_new : Sinking) (status : ℕ) where
    abbrev Finish : Type 0
    Finish = EndsServed by config run items workers old new sink_old sink_new status

    no_memory : status ≡ status_of (Err Memory) → Appends sink_old.taken sink_new.taken (to_send (Err Memory)) → Finish
    no_memory is sent = inr (inr (is, sent))

    ends_fault : (fault : RunFault) → IsAllowed fault → status ≡ status_of (Err fault) → Appends sink_old.taken sink_new.taken (to_send (Err fault)) → Finish
    ends_fault fault (inl memory) is sent =
        no_memory (is ∙ ap (λ (f : RunFault). status_of (Err f)) memory) (subst (λ (f : RunFault). Appends sink_old.taken sink_new.taken (to_send (Err f))) memory sent)
    ends_fault fault (inr (many, halted)) is sent = inr (inl (
      is ∙ ap (λ (f : RunFault). status_of (Err f)) many,
      record { halted = halted; sent = subst (λ (f : RunFault). Appends sink_old.taken sink_new.taken (to_send (Err f))) many sent },
    ))

    ends_served : (outcome : Result (List ℕ) RunFault) → ServesTo by config run items workers old new outcome → status ≡ status_of outcome
        → Appends sink_old.taken sink_new.taken (to_send outcome) → Finish
    ends_served (Ok output) served is sent = inl (is, record { output = output; served = served; sent = sent })
    ends_served (Err fault) why is sent = ends_fault fault (allowed fault why) is sent

-- ---- a whole run

module _ {D : Type 0} (by : Disks D) (config : Shape) (few : config.replicas ≤ 8) (one : OneItem config) (run workers : ℕ) (old new : World D) (sink_old sink_new : Sinking) (status : ℕ)
    (items : List Item) (holds : HoldsItems config old.left items) (plain : AllByRecursion IsNoFault items) (may : MayBegin by config run old.lain)
    (fine : NoneFails config old new sink_old sink_new) where
  -- what the source holds reads as these items
  reads_so : ReadsPlain config (Some (flat_map item_spelling items)) items (Ends Whole)
  reads_so = record { each = holds.each; plain = plain; within = holds.within; bytes = ([], sym (append-nil (flat_map item_spelling items)), refl) }

  read_once : (others : List Item) (ending : PlainEnding) → ReadsPlain config old.left others ending → (items ≡ others) × (Ends Whole ≡ ending)
  read_once others ending reads =
      plain_one_way config one (flat_map item_spelling items) items others (Ends Whole) ending reads_so
      (subst (λ (left : Option (List ℕ)). ReadsPlain config left others ending) holds.bytes reads)

  abbrev Finally : Type 0
  Finally = EndsServed by config run items workers old.lain new.lain sink_old sink_new status

  not_bad : Ends Whole ≡ Ends BadPlace → ⊥
  not_bad e = cc

  not_line : Ends Whole ≡ FaultLine → ⊥
  not_line e = cc

  not_many : (cause : ℕ) → Ends Whole ≡ Ends (EndsTooMany cause) → ⊥
  not_many cause e = cc

  not_bad_place : (at : ℕ) → IsBadPlace config old.left at → ⊥
  not_bad_place at (others, inl reads, place) = not_bad (read_once others (Ends BadPlace) reads).1
  not_bad_place at (others, inr reads, place) = not_line (read_once others FaultLine reads).1

  -- the items were read
  all_read : (fault : ItemFault) → RefusesPlain config old.left new.left (Rose old.read_faults new.read_faults) fault → reading_fault fault ≡ Memory
  all_read (Bad at) place = absurd (not_bad_place at place)
  all_read (Read at) (rose, taken) = absurd (fine.source rose)
  all_read (Many cause) (others, reads) = absurd (not_many cause (read_once others (Ends (EndsTooMany cause)) reads).1)
  all_read NoSpace why = refl

  come : (outcome : Result (List ℕ) RunFault) → ClusterComesTo by config run workers old new outcome → status ≡ status_of outcome → Appends sink_old.taken sink_new.taken (to_send outcome) → Finally
  come outcome (inl none) is sent =
      let memory : outcome ≡ Err Memory = none.outcome_is ∙ ap (λ (f : RunFault). Err f) (all_read none.fault none.refuses) in
      no_memory by config few run old.lain new.lain may fine.disks items workers sink_old sink_new status (is ∙ ap status_of memory)
      (subst (λ (o : Result (List ℕ) RunFault). Appends sink_old.taken sink_new.taken (to_send o)) memory sent)
  come outcome (inr served) is sent =
      let same = (read_once served.items (Ends Whole) served.read.reads).0 in
      ends_served by config few run old.lain new.lain may fine.disks items workers sink_old sink_new status outcome
      (subst (λ (its : List Item). ServesTo by config run its workers old.lain new.lain outcome) (sym same) served.serves) is sent

  ends : RanCluster by config run workers old new sink_old sink_new status → Finally
  ends ran = by_sending ran.sends
    where
      by_sending : Sends (to_send ran.outcome) (status_of ran.outcome) sink_old sink_new status → Finally
      by_sending (inl (is, sent)) = come ran.outcome ran.comes is sent
      by_sending (inr (is, broken)) = absurd (fine.sink broken.cause)

pub serves_all : {D : Type 0} (by : Disks D) (config : Shape) → InRange config → (run workers : ℕ) (old new : World D) (sink_old sink_new : Sinking) (status : ℕ)
    → RanCluster by config run workers old new sink_old sink_new status → ServesAll by config run workers old new sink_old sink_new status
serves_all by config range run workers old new sink_old sink_new status ran =
    λ items holds plain may fine.
    ends by config (few_replicas config range) (λ item other rest more is are e. one_item config item other rest more range is are e) run workers old new sink_old sink_new status items holds plain may
    fine ran
