-- Where nothing fails, items over empty disks are answered as the log of one thread answers them.
use Rattle.std.proofs.Common.{◌≡◌, ◌⊎◌, inl, inr, ℕ, zero, suc, ◌-◌, ◌/◌, ◌%◌, ◌^◌, ◌<◌, Bool, true, cond, List, [], ◌∷◌, ◌++◌, Option, Some, None, Result, Ok, Err, refl, sym, ap, ◌∙◌, subst, arith, append-nil, eq-eqb}
use Rattle.std.proofs.lemmas.Bool.{cases_lt}
use Rattle.std.specs.List.{AllByRecursion, flat_map}
use Rattle.std.specs.Prelude.{IfSome, IsSomeAnd, slice_get}
use Rattle.std.specs.Io.KnownBytes.{Appends}
use Rattle.command_frame.specs.declared.items.Item.{Item}
use Rattle.command_frame.specs.Items.{IsNoFault, item_spelling}
use Rattle.command_frame.proofs.FrameLaws.{one_item}
use Rattle.history_frame.specs.declared.events.History.{History}
use Rattle.history_frame.specs.declared.events.Kept.{Kept}
use Rattle.history_frame.specs.Spelling.{history_spelling}
use Rattle.log_base.specs.ClusterShape.{InRange, Shape}
use Rattle.log_base.specs.Outside.{Rose}
use Rattle.node_model.specs.Sound.{IsBefore, IsSound, IsSoundAs, payloads_on}
use Rattle.node_model.proofs.Sounding.{sound_each}
use Rattle.node_table.specs.declared.role.Role.{Role}
use Rattle.node_table.specs.declared.role.Role.TheVariants.{Storage, Gatherer, Orderer}
use Rattle.node_table.specs.Numbering.{disk_of, role_at}
use Rattle.plain_log.specs.Log.{log_of}
use Rattle.reply_frame.specs.declared.faults.ItemFault.{ItemFault}
use Rattle.reply_frame.specs.declared.faults.ItemFault.TheVariants.{Bad, Read, Many, Memory as NoSpace}
use Rattle.reply_frame.specs.declared.replies.Reply.{Reply}
use Rattle.segment_journal.specs.File.{recovered}
use Rattle.schedule_model.specs.Driven.{replies_of}
use Rattle.cluster_disks.specs.declared.stop.OpenStop.{OpenStop}
use Rattle.cluster_disks.specs.declared.stop.OpenStop.TheVariants.{Unopened as NotOpened, BadDisk as IsBad, TooManyKept, Memory as NoRoom}
use Rattle.cluster_disks.specs.Failing.{IsRejected, OpensNot}
use Rattle.cluster_disks.specs.Found.{AreRecovered, Rejects, bytes_in}
use Rattle.cluster_disks.specs.Lent.{Disks, IsDisk, Lying, disks_at, disks_in}
use Rattle.cluster_disks.specs.Opened.{IsDamagedAt, Recovers}
use Rattle.quiet_run.specs.declared.outcomes.DriveStop.{DriveStop}
use Rattle.quiet_run.specs.declared.outcomes.DriveStop.TheVariants.{Limit, Memory as NoMemory}
use Rattle.counted_node.specs.Causes.{failures}
use Rattle.quiet_run.specs.Unfailing.{ShowsNone}
use Rattle.counted_node.proofs.Rises.{last_rose_to, rose_to}
use Rattle.scalog_run.specs.declared.fault.RunFault.{RunFault}
use Rattle.scalog_run.specs.declared.fault.RunFault.TheVariants.{TooMany, Memory}
use Rattle.scalog_run.specs.declared.report.Report.{Report}
use Rattle.scalog_run.specs.declared.report.Report.TheVariants.{Full, Brief}
use Rattle.scalog_run.specs.Causes.{IsRisen, NoDiskRose, disk_rise}
use Rattle.scalog_run.specs.Faults.{opening_fault, reading_fault, stopping_fault}
use Rattle.scalog_run.specs.Histories.{AnswersTo, IsStopped, IsUnanswered, IsUnbegun, IsWholeRun}
use Rattle.item_input.specs.Input.{BadPlace, Ending, ReadsAs, TooMany as EndsTooMany, Whole}
use Rattle.scalog_run.specs.Output.{Sends, Sinking, reply_frames, status_of, to_send}
use Rattle.scalog_run.specs.Quiet.{AnswersAsLog, AreUnfailing, EndsAsLog, HoldsItems, HoldsNone, NothingFails, ReportsLog}
use Rattle.scalog_run.specs.Report.{Reports}
use Rattle.scalog_run.specs.Run.{ComesTo, Ran, World}
use Rattle.item_input.specs.Steps.{Refuses}
use Rattle.item_input.proofs.OneReading.{OneItem, reads_one_way}

-- ---- empty disks

-- what is read of an empty disk recovers to nothing
empty_list : {D : Type 0} (by : Disks D) (lying : Lying D) (list : List (List ℕ)) → HoldsNone by lying → Recovers by lying list → list ≡ []
empty_list {D} by lying list empty found = by_disk lying.disk empty found
  where
    by_bytes : (told : Option (List ℕ)) → IsSomeAnd told (λ bytes. recovered bytes ≡ Ok []) → IfSome told (λ bytes. recovered bytes ≡ Ok list) → list ≡ []
    by_bytes None none is = absurd none
    by_bytes (Some bytes) none is = let same : Ok list ≡ Ok [] = sym is ∙ none in cc

    by_disk : (told : Option D) → IsSomeAnd told (λ disk. IsSomeAnd (by.reads disk) (λ bytes. recovered bytes ≡ Ok []))
        → IfSome told (λ disk. IfSome (by.reads disk) (λ bytes. recovered bytes ≡ Ok list)) → list ≡ []
    by_disk None none is = absurd none
    by_disk (Some disk) none is = by_bytes (by.reads disk) none is

-- and so it is not damaged
not_damaged : {D : Type 0} (by : Disks D) (lying : Lying D) (at : ℕ) → HoldsNone by lying → IsDamagedAt by lying at → ⊥
not_damaged {D} by lying at empty damaged = by_disk lying.disk empty damaged
  where
    by_bytes : (told : Option (List ℕ)) → IsSomeAnd told (λ bytes. recovered bytes ≡ Ok []) → IfSome told (λ bytes. recovered bytes ≡ Err at) → ⊥
    by_bytes None none is = none
    by_bytes (Some bytes) none is = let same : Ok [] ≡ Err at = sym none ∙ is in cc

    by_disk : (told : Option D) → IsSomeAnd told (λ disk. IsSomeAnd (by.reads disk) (λ bytes. recovered bytes ≡ Ok []))
        → IfSome told (λ disk. IfSome (by.reads disk) (λ bytes. recovered bytes ≡ Err at)) → ⊥
    by_disk None none is = none
    by_disk (Some disk) none is = by_bytes (by.reads disk) none is

-- the first payload stands on its disk
first_on : (one : Kept) (rest : List Kept) → payloads_on (one ∷ rest) one.disk ≡ one.payload ∷ payloads_on rest one.disk
first_on one rest = ap (λ (here : Bool). cond here (one.payload ∷ payloads_on rest one.disk) (payloads_on rest one.disk)) (eq-eqb one.disk one.disk refl)

module _ {D : Type 0} (by : Disks D) (config : Shape) (lain : ℕ → Lying D) (empty : (number : ℕ) → IsDisk config number → HoldsNone by (lain number)) where
  none_kept : (kept : List Kept) → AllByRecursion (λ one. IsDisk config one.disk) kept → AreRecovered by config (payloads_on kept) lain → kept ≡ []
  none_kept [] on found = refl
  none_kept (one ∷ rest) on found =
      let none = empty_list by (lain one.disk) (payloads_on (one ∷ rest) one.disk) (empty one.disk on.0) (found one.disk on.0) in
      let some = first_on one rest in
      let wrong : one.payload ∷ payloads_on rest one.disk ≡ [] = sym some ∙ none in
      absurd (cc)

-- a sound payload is on a disk of the cluster
sound_disk : (config : Shape) (run : ℕ) (kept : List Kept) (role : Role) (segment offset : ℕ) (payload : List ℕ)
    → IsSoundAs config (IsBefore run) (payloads_on kept) role segment offset payload → segment < disks_in config role
sound_disk config run kept (Storage shard replica) segment offset payload is = is.0
sound_disk config run kept (Gatherer index) segment offset payload is = absurd is
sound_disk config run kept (Orderer index) segment offset payload is = let first = is.0 in omega arith

all_at : (P : Kept → Type 0) (kept : List Kept) → ((index : ℕ) (one : Kept) → slice_get kept index ≡ Some one → P one) → AllByRecursion P kept
all_at P [] each = tt
all_at P (one ∷ kept) each = (each zero one refl, all_at P kept (λ index other at. each (suc index) other at))

sound_disks : (config : Shape) (run : ℕ) (kept : List Kept) → IsSound config run (payloads_on kept) → AllByRecursion (λ one. IsDisk config one.disk) kept
sound_disks config run kept sound = all_at (λ one. IsDisk config one.disk) kept (λ index one at.
    let is = sound_each config run kept sound index one at in (
      one.disk / 8,
      is.0,
      (one.disk % 8, sound_disk config run kept (role_at config (one.disk / 8)) (one.disk % 8) _ one.payload is.1, omega arith),
    ))

-- ---- no disk rises

module _ {D : Type 0} (old new : ℕ → Lying D) (node : ℕ) where
  none_rises : (count : ℕ) → NoDiskRose old new node count → disk_rise old new node count ≡ 0
  none_rises zero none = refl
  none_rises (suc count) none =
      let rest = none_rises count (λ segment lt. none segment (omega arith)) in
      elim (cases_lt (old (disk_of node count)).disk_faults (new (disk_of node count)).disk_faults) [
        | inl more ↦ absurd (none count (omega arith) (rose_to (2 ^ 64 - 1) (old (disk_of node count)).disk_faults (new (disk_of node count)).disk_faults (omega (arith, more))))
        | inr still ↦ omega (arith, rest, still)
      ]

  none_risen : (config : Shape) (events : ℕ) → NoDiskRose old new node (disks_at config node) → IsRisen config old new node events → events ≡ 0
  none_risen config events none (inl few) = let still = none_rises (disks_at config node) none in omega (arith, few, still)
  none_risen config events none (inr (segment, lt, last)) =
      absurd (none segment lt (last_rose_to (2 ^ 64 - 1) (old (disk_of node segment)).disk_faults (new (disk_of node segment)).disk_faults last))

-- ---- a run over disks that do not fail

module _ {D : Type 0} (by : Disks D) (config : Shape) (run : ℕ) (items : List Item) (plain : AllByRecursion IsNoFault items) (old new : ℕ → Lying D)
    (fine : AreUnfailing by config old new) where
  none_shown : (history : History) → IsWholeRun by config run items history old new → ShowsNone config history.events
  none_shown history whole number below =
      none_risen old new number config (failures true number history.events)
      (λ segment lt rose. fine.none_failed (disk_of number segment) (number, below, (segment, lt, refl)) (inr rose))
      (whole.causes.stayed number below (λ segment lt. fine.keep (disk_of number segment) (number, below, (segment, lt, refl))))

  -- the replies of a run that came to its end
  whole_as_log : (history : History) → IsWholeRun by config run items history old new → replies_of config run items history.events ≡ log_of config run items
  whole_as_log history whole =
      whole.quiet
      (none_kept by config old fine.empty history.kept (sound_disks config run history.kept whole.over.legal.sound) whole.over.found)
      plain
      (none_shown history whole)

  reports_log : (report : Report) (history : History) (bytes : List ℕ) → IsWholeRun by config run items history old new → Reports report config run items history bytes
      → ReportsLog report config run items history bytes
  reports_log Full history bytes whole reports =
      reports
      ∙ ap (λ (s : Shape). reply_frames items (replies_of s history.run items history.events) ++ history_spelling history) whole.config_is
      ∙ ap (λ (r : ℕ). reply_frames items (replies_of config r items history.events) ++ history_spelling history) whole.run_is
      ∙ ap (λ (replies : List Reply). reply_frames items replies ++ history_spelling history) (whole_as_log history whole)
  reports_log Brief history bytes whole reports = reports

  -- why it may have no output
  abbrev IsAllowed : RunFault → Type 0
  IsAllowed fault = (fault ≡ Memory) ⊎ ((cause : ℕ) × (fault ≡ TooMany cause) × IsStopped by config run items (Limit cause) old new)

  opens : (stop : OpenStop) → OpensNot by config old new stop → opening_fault stop ≡ Memory
  opens (NotOpened disk) why = absurd (fine.none_failed disk why.number_is why.cause)
  opens (IsBad disk at) why = absurd (not_damaged by (old disk) at (fine.empty disk why.number_is) why.damage)
  opens TooManyKept why = absurd why
  opens NoRoom why = refl

  begins : (stop : OpenStop) → IsRejected by config run stop old new → opening_fault stop ≡ Memory
  begins stop h = by_list stop h.rejects
    where
      none : h.kept ≡ []
      none = none_kept by config old fine.empty h.kept h.on_disks h.found

      by_list : (s : OpenStop) → Rejects config run h.kept s → opening_fault s ≡ Memory
      by_list (NotOpened disk) why = absurd why
      by_list (IsBad disk at) why =
          let here = ap (λ (kept : List Kept). slice_get kept why.1.index) (sym none) ∙ why.1.here in
          absurd (cc)
      by_list TooManyKept why =
          let few : bytes_in h.kept ≡ 0 = ap bytes_in none in
          absurd (omega (arith, few, why))
      by_list NoRoom why = refl

  stops : (stop : DriveStop) → IsStopped by config run items stop old new → IsAllowed (stopping_fault stop)
  stops (Limit cause) stopped = inr (cause, refl, stopped)
  stops NoMemory stopped = inl refl

  allowed : (fault : RunFault) → IsUnanswered by config run items fault old new → IsAllowed fault
  allowed fault (inl unstarted) = inl (unstarted.fault_is ∙ by_why unstarted.why)
    where
      by_why : OpensNot by config old new unstarted.stop ⊎ IsUnbegun by config run items unstarted.stop old new → opening_fault unstarted.stop ≡ Memory
      by_why (inl why) = opens unstarted.stop why
      by_why (inr unbegun) = begins unstarted.stop unbegun.rejected
  allowed fault (inr unfinished) = subst IsAllowed (sym unfinished.fault_is) (stops unfinished.stop unfinished.stopped)

  module _ (report : Report) (sink_old sink_new : Sinking) (status : ℕ) where
    abbrev Ends : Type 0
    Ends = EndsAsLog by config run report items old new sink_old sink_new status

    no_memory : status ≡ status_of (Err Memory) → Appends sink_old.taken sink_new.taken (to_send (Err Memory)) → Ends
    no_memory is sent = inr (inr (is, sent))

    ends_fault : (fault : RunFault) → IsAllowed fault → status ≡ status_of (Err fault) → Appends sink_old.taken sink_new.taken (to_send (Err fault)) → Ends
    ends_fault fault (inl memory) is sent =
        no_memory (is ∙ ap (λ (f : RunFault). status_of (Err f)) memory) (subst (λ (f : RunFault). Appends sink_old.taken sink_new.taken (to_send (Err f))) memory sent)
    ends_fault fault (inr (cause, many, stopped)) is sent = inr (inl (
      is ∙ ap (λ (f : RunFault). status_of (Err f)) many,
      record { cause = cause; stopped = stopped; sent = subst (λ (f : RunFault). Appends sink_old.taken sink_new.taken (to_send (Err f))) many sent },
    ))

    ends_answered : (outcome : Result (List ℕ) RunFault) → AnswersTo by config run report items old new outcome → status ≡ status_of outcome
        → Appends sink_old.taken sink_new.taken (to_send outcome) → Ends
    ends_answered (Ok output) answers is sent = inl (
      is,
      record {
        history = answers.history;
        output = output;
        whole = answers.whole;
        reports = reports_log report answers.history output answers.whole answers.reports;
        sent = sent;
      },
    )
    ends_answered (Err fault) answers is sent = ends_fault fault (allowed fault answers) is sent

-- ---- a whole run

module _ {D : Type 0} (by : Disks D) (config : Shape) (one : OneItem config) (run : ℕ) (report : Report) (old new : World D) (sink_old sink_new : Sinking) (status : ℕ)
    (items : List Item) (holds : HoldsItems config old.left items) (plain : AllByRecursion IsNoFault items) (fine : NothingFails by config old new sink_old sink_new) where
  -- what the source holds reads as these items
  reads_so : ReadsAs config (Some (flat_map item_spelling items)) items Whole
  reads_so = record { each = holds.each; within = holds.within; bytes = ([], sym (append-nil (flat_map item_spelling items)), refl) }

  read_once : (others : List Item) (ending : Ending) → ReadsAs config old.left others ending → (items ≡ others) × (Whole ≡ ending)
  read_once others ending reads =
      reads_one_way config one (flat_map item_spelling items) items others Whole ending reads_so
      (subst (λ (left : Option (List ℕ)). ReadsAs config left others ending) holds.bytes reads)

  abbrev Finally : Type 0
  Finally = EndsAsLog by config run report items old.lain new.lain sink_old sink_new status

  not_bad : Whole ≡ BadPlace → ⊥
  not_bad e = cc

  not_many : (cause : ℕ) → Whole ≡ EndsTooMany cause → ⊥
  not_many cause e = cc

  -- the items were read
  all_read : (fault : ItemFault) → Refuses config old.left new.left (Rose old.read_faults new.read_faults) fault → reading_fault fault ≡ Memory
  all_read (Bad at) (others, reads, place) = absurd (not_bad (read_once others BadPlace reads).1)
  all_read (Read at) (rose, taken) = absurd (fine.source rose)
  all_read (Many cause) (others, reads) = absurd (not_many cause (read_once others (EndsTooMany cause) reads).1)
  all_read NoSpace why = refl

  come : (outcome : Result (List ℕ) RunFault) → ComesTo by config run report old new outcome → status ≡ status_of outcome → Appends sink_old.taken sink_new.taken (to_send outcome) → Finally
  come outcome (inl unread) is sent =
      let memory : outcome ≡ Err Memory = unread.outcome_is ∙ ap (λ (f : RunFault). Err f) (all_read unread.fault unread.refuses) in
      no_memory by config run items plain old.lain new.lain fine.disks report sink_old sink_new status (is ∙ ap status_of memory)
      (subst (λ (o : Result (List ℕ) RunFault). Appends sink_old.taken sink_new.taken (to_send o)) memory sent)
  come outcome (inr answered) is sent =
      let same = (read_once answered.items Whole answered.read.reads).0 in
      ends_answered by config run items plain old.lain new.lain fine.disks report sink_old sink_new status outcome
      (subst (λ (its : List Item). AnswersTo by config run report its old.lain new.lain outcome) (sym same) answered.answers) is sent

  ends : Ran by config run report old new sink_old sink_new status → Finally
  ends ran = by_sending ran.sends
    where
      by_sending : Sends (to_send ran.outcome) (status_of ran.outcome) sink_old sink_new status → Finally
      by_sending (inl (is, sent)) = come ran.outcome ran.comes is sent
      by_sending (inr (is, broken)) = absurd (fine.sink broken.cause)

pub answers_as_log : {D : Type 0} (by : Disks D) (config : Shape) → InRange config → (run : ℕ) (report : Report) (old new : World D) (sink_old sink_new : Sinking) (status : ℕ)
    → Ran by config run report old new sink_old sink_new status → AnswersAsLog by config run report old new sink_old sink_new status
answers_as_log by config range run report old new sink_old sink_new status ran =
    λ items holds plain fine.
    ends by config (λ item other rest more is are e. one_item config item other rest more range is are e) run report old new sink_old sink_new status items holds plain fine ran
