-- A run over disks that lie in the rack again: it came to its end, or stopped, and no count fell.
use Rattle.std.proofs.Common.{◌≡◌, ◌⊎◌, inl, inr, ℕ, ◌<◌, ◌≤◌, List, [], length, Option, Result, Ok, Err, sym, ap, ◌∙◌, subst, arith}
use Rattle.std.proofs.lemmas.List.{length-map}
use Rattle.std.proofs.lemmas.Option.{same_Some, slice_get-map, slice_get_within}
use Rattle.std.specs.Option.{option_map}
use Rattle.std.specs.Prelude.{IfOk, IfErr, IsErrAnd}
use Rattle.std.specs.List.{AllByRecursion}
use Rattle.command_frame.specs.declared.items.Item.{Item}
use Rattle.command_frame.specs.Items.{IsItem}
use Rattle.core_step.specs.Standing.{Standing, cluster_node}
use Rattle.history_frame.specs.declared.events.Event.{Event}
use Rattle.history_frame.specs.declared.events.History.{History}
use Rattle.history_frame.specs.declared.events.Kept.{Kept}
use Rattle.history_frame.specs.Spelling.{IsHistory}
use Rattle.log_base.specs.ClusterShape.{InRange, Shape}
use Rattle.log_base.specs.Shape.{shape}
use Rattle.node_model.specs.Durable.{IsFounded}
use Rattle.node_model.specs.Legal.{IsLawful, IsLegal}
use Rattle.node_model.specs.Machine.{ClusterNode}
use Rattle.node_model.specs.NodeState.{KeptLists}
use Rattle.node_model.specs.Sound.{payloads_on}
use Rattle.node_table.specs.Numbering.{nodes_of}
use Rattle.safety_law.proofs.Start.{made_from}
use Rattle.segment_journal.specs.OnDisk.{OnDisk}
use Rattle.sequence_law.specs.Safe.{IsSafe}
use Rattle.sequence_law.proofs.Agreeing.{one_list}
use Rattle.sequence_law.proofs.Concluding.{acknowledged, refused}
use Rattle.sequence_law.proofs.Founded.{all_owned}
use Rattle.sequence_law.proofs.Reading.{pending_unknown, reads_agree}
use Rattle.schedule_model.specs.Driven.{IsDriven, replies_of}
use Rattle.stream_law.proofs.Finding.{singles}
use Rattle.stream_law.proofs.Serving.{replies-served}
use Rattle.stream_law.proofs.Standing.{streams_agree_with}
use Rattle.cluster_disks.specs.declared.stop.OpenStop.{OpenStop}
use Rattle.cluster_disks.specs.Failing.{IsRejected, OpensNot}
use Rattle.cluster_disks.specs.Found.{AreRecovered, bytes_in, kept_limit}
use Rattle.cluster_disks.specs.Lent.{Disks, Lying}
use Rattle.cluster_disks.specs.Nodes.{AreAllOf, AreAtFirst, AreSeated, AreStanding, IsStart, nodes_in}
use Rattle.cluster_disks.specs.Opened.{AreLater}
use Rattle.quiet_run.specs.declared.outcomes.Driven.{Driven}
use Rattle.quiet_run.specs.declared.outcomes.DriveStop.{DriveStop}
use Rattle.quiet_run.specs.declared.outcomes.DriveStop.TheVariants.{Memory as NoMemory}
use Rattle.counted_node.specs.Causes.{AllCountOn, BeginWithStarts, HaveCauses, StartsAreClean}
use Rattle.quiet_run.specs.Runs.{IsStoppedRun, IsStoppedWith, IsWithinLimits}
use Rattle.quiet_run.specs.Spelled.{AreKept}
use Rattle.quiet_run.specs.Standing.{Job, StandAfter, job, node_of}
use Rattle.quiet_run.proofs.Unfailing.{quiet_replies}
use Rattle.scalog_run.specs.declared.fault.RunFault.{RunFault}
use Rattle.scalog_run.specs.Faults.{opening_fault, stopping_fault}
use Rattle.scalog_run.specs.Histories.{AreLeft, IsStopped, IsUnanswered, IsUnbegun, IsWholeRun}
use Rattle.scalog_run.proofs.Causes.{AllWentOver, AreAll, disk_causes, disk_opening, told_in, went_over}
use Rattle.scalog_run.proofs.Empty.{empty_over}
use Rattle.scalog_run.proofs.Later.{later_all}
use Rattle.scalog_run.proofs.Left.{left_by}

-- from founded lists every legal history is safe
safe_from : (config : Shape) (run : ℕ) (kept : KeptLists) (events : List Event) → IsFounded config run kept → IsLegal config run kept events → IsSafe config kept events
safe_from config run kept events founded legal = record {
  decided = one_list config run kept founded events legal;
  reads = reads_agree config run kept founded events legal;
  acknowledged = acknowledged config run kept founded events legal (all_owned config run kept founded);
  refused = refused config run kept founded events legal (all_owned config run kept founded);
  pending = pending_unknown config run kept founded (all_owned config run kept founded) events legal;
}

-- a range has at most eight replicas
pub few_replicas : (config : Shape) → InRange config → config.replicas ≤ 8
few_replicas config range = let few = range.replicas in omega arith

-- nodes at their beginning stand after no event
pub begin_so : (config : Shape) (run : ℕ) (items : List Item) (kept : List Kept) (nodes : List ClusterNode) → AreAtFirst config kept nodes → StandAfter (job config run items kept) [] nodes
begin_so config run items kept nodes first = record { all = first.all; each = first.each }

module _ {D P : Type 0} where
  -- there is a node of each number
  pub all_stand : (by : Disks D) (job : Job) (events : List Event) (nodes : List (Standing (OnDisk D) P)) → StandAfter job events (nodes_in nodes) → AreAll by job.config nodes
  all_stand by job events nodes stand number within =
      let there = made_from (λ (x : Standing (OnDisk D) P). cluster_node (λ (o : OnDisk D). o.journal) x) nodes number (node_of job events number) (stand.each number within) in
      (there.0, there.1)

  -- each of them has its number
  pub all_seated : (job : Job) (events : List Event) (nodes : List (Standing (OnDisk D) P)) → StandAfter job events (nodes_in nodes) → AreSeated job.config nodes
  all_seated job events nodes stand number node at =
      let inside = slice_get_within nodes number node at in
      let all = stand.all in
      let below : number < nodes_of job.config = omega (arith, inside, all, length-map nodes (λ (x : Standing (OnDisk D) P). cluster_node (λ (o : OnDisk D). o.journal) x)) in
      let here = slice_get-map (λ (x : Standing (OnDisk D) P). cluster_node (λ (o : OnDisk D). o.journal) x) nodes number
      ∙ ap (λ (o : Option (Standing (OnDisk D) P)). option_map (λ (x : Standing (OnDisk D) P). cluster_node (λ (k : OnDisk D). k.journal) x) o) at in
      let same : cluster_node (λ (o : OnDisk D). o.journal) node ≡ node_of job events number = same_Some _ _ (sym here ∙ stand.each number below) in
      (ap (λ (n : ClusterNode). n.config) same, ap (λ (n : ClusterNode). n.number) same)

-- The nodes began over the disks that lay there, and their disks lie there again.
pub record IsBack {D P : Type 0} (by : Disks D) (config : Shape) (run : ℕ) (old new : ℕ → Lying D) (before after : List (Standing (OnDisk D) P)) (kept : List Kept) : Type 0 where
  pub start : IsStart by config run old (nodes_in before) kept
  pub standing : AreStanding by config old before
  pub back : AreAllOf by config after new
  pub counts : AllCountOn (told_in by before) (told_in by after)
  pub rack : (number : ℕ) → (old number).rack_faults ≤ (new number).rack_faults

-- a run that came to its end, as its history tells
pub record IsFinished {D P : Type 0} (by : Disks D) (config : Shape) (run : ℕ) (items : List Item) (before after : List (Standing (OnDisk D) P)) (kept : List Kept) (history : History) : Type 0 where
  pub config_is : shape history.config ≡ config
  pub run_is : history.run ≡ run
  pub kept_is : history.kept ≡ kept
  pub lawful : IsLawful history
  pub driven : IsDriven config run items history.events
  pub each : length (replies_of config run items history.events) ≡ length items
  pub within : IsWithinLimits (job config run items kept) history.events
  pub spelled : AreKept history.kept → IsHistory history
  pub starts : BeginWithStarts config history.events
  pub clean : StartsAreClean config history.events (told_in by before) (told_in by after)
  pub causes : HaveCauses config history.events (told_in by before) (told_in by after)
  pub stand : StandAfter (job config run items kept) history.events (nodes_in after)
  pub fit : AllByRecursion (IsItem config) items

module _ {D P : Type 0} (by : Disks D) (config : Shape) (range : InRange config) (run : ℕ) (items : List Item) (old new : ℕ → Lying D)
    (before after : List (Standing (OnDisk D) P)) (kept : List Kept) (back : IsBack by config run old new before after kept) where
  all_before : AreAll by config before
  all_before = all_stand by (job config run items kept) [] before (begin_so config run items kept (nodes_in before) back.start.stand)

  pub over_disks : AreAll by config after → AllWentOver by config old new (told_in by before) (told_in by after)
  over_disks all = went_over by config old new before after all_before all back.standing back.back

  -- no count fell
  pub later_back : (events : List Event) → StandAfter (job config run items kept) events (nodes_in after) → AreLater by config old new
  later_back events stand =
      later_all by config old new before after all_before (all_stand by (job config run items kept) events after stand) back.standing back.back back.rack back.counts

  -- a run that came to its end
  pub whole_run : (history : History) → IsFinished by config run items before after kept history → IsWholeRun by config run items history old new
  whole_run history finished =
      let back_to = sym finished.kept_is in
      let over = over_disks (all_stand by (job config run items kept) history.events after finished.stand) in
      let legal_run : IsLegal config history.run (payloads_on history.kept) history.events =
      subst (λ (s : Shape). IsLegal s history.run (payloads_on history.kept) history.events) finished.config_is finished.lawful in
      let legal : IsLegal config run (payloads_on history.kept) history.events =
      subst (λ (n : ℕ). IsLegal config n (payloads_on history.kept) history.events) finished.run_is legal_run in
      record {
        config_is = finished.config_is;
        run_is = finished.run_is;
        over = record {
          found = subst (λ (k : List Kept). AreRecovered by config (payloads_on k) old) back_to back.start.found;
          legal = legal;
          followed = finished.driven.followed;
          left = subst (λ (k : List Kept). AreLeft by config (payloads_on k) history.events new) back_to
              (left_by by config run items kept history.events after new (few_replicas config range) finished.stand back.back);
        };
        driven = finished.driven;
        few = subst (λ (k : List Kept). bytes_in k ≤ kept_limit) back_to back.start.few;
        within = subst (λ (k : List Kept). IsWithinLimits (job config run items k) history.events) back_to finished.within;
        each = finished.each;
        fit = replies-served config run items history.events finished.fit (singles config run (payloads_on history.kept) [] history.events legal.follow);
        spelled = finished.spelled (subst AreKept back_to (record { disks = back.start.order; fit = back.start.fit }));
        opening = disk_opening by config history.events old new (told_in by before) (told_in by after) over finished.starts finished.clean;
        causes = disk_causes by config history.events old new (told_in by before) (told_in by after) over finished.causes;
        safe = λ founded. safe_from config run (payloads_on history.kept) history.events founded legal;
        streams = λ founded. streams_agree_with config run (payloads_on history.kept) founded history.events legal items finished.driven.followed;
        quiet = λ empty plain none. quiet_replies config run items finished.fit plain history.events finished.driven none history.kept empty legal
            (subst (λ (k : List Kept). IsWithinLimits (job config run items k) history.events) back_to finished.within);
      }

  -- a run that stopped
  pub stopped_run : (stop : DriveStop) → IsStoppedWith (job config run items kept) (nodes_in after) (told_in by before) (told_in by after) stop → IsStopped by config run items stop old new
  stopped_run stop stopped =
      let over = over_disks (all_stand by (job config run items kept) stopped.run.events after stopped.run.so_far.stand) in
      record {
        kept = kept;
        events = stopped.run.events;
        few = back.start.few;
        over = record {
          found = back.start.found;
          legal = stopped.run.so_far.legal;
          followed = stopped.run.so_far.followed;
          left = left_by by config run items kept stopped.run.events after new (few_replicas config range) stopped.run.so_far.stand back.back;
        };
        causes = disk_causes by config stopped.run.events old new (told_in by before) (told_in by after) over stopped.causes;
        stops = stopped.run.stops;
      }

-- ---- answers

-- what holds of the error that a call made of another one
pub if_err_with : {T E : Type 0} (result : Result T E) (P Q : E → Type 0) → ((e : E) → P e → Q e) → IsErrAnd result P → IfErr result Q
if_err_with (Ok x) P Q f h = tt
if_err_with (Err e) P Q f h = f e h

-- the nodes stand after some events, whether a run came to its end or stopped
pub some_stand : (job : Job) (nodes : List ClusterNode) (result : Result Driven DriveStop) → IfOk result (λ driven. StandAfter job driven.history.events nodes)
    → IfErr result (λ stop. IsStoppedRun job nodes stop) → (events : List Event) × StandAfter job events nodes
some_stand job nodes (Ok driven) stand stopped = (driven.history.events, stand)
some_stand job nodes (Err stop) stand stopped = (stopped.events, stopped.so_far.stand)

-- there are as many as the cluster has
pub as_many : {D P : Type 0} (job : Job) (events : List Event) (nodes : List (Standing (OnDisk D) P)) → StandAfter job events (nodes_in nodes) → length nodes ≡ nodes_of job.config
as_many {D = D} {P = P} job events nodes stand = sym (length-map nodes (λ (x : Standing (OnDisk D) P). cluster_node (λ (o : OnDisk D). o.journal) x)) ∙ stand.all

module _ {D : Type 0} (by : Disks D) (config : Shape) (range : InRange config) (run : ℕ) (items : List Item) (old new : ℕ → Lying D) where
  -- the cluster could not be opened
  pub unstarted : (stop : OpenStop) (fault : RunFault) → fault ≡ opening_fault stop → OpensNot by config old new stop ⊎ IsRejected by config run stop old new
      → IsUnanswered by config run items fault old new
  unstarted stop fault is why = inl (record { stop = stop; fault_is = is; why = with_empty why })
    where
      with_empty : OpensNot by config old new stop ⊎ IsRejected by config run stop old new → OpensNot by config old new stop ⊎ IsUnbegun by config run items stop old new
      with_empty (inl opens) = inl opens
      with_empty (inr rejected) = inr (record {
        rejected = rejected;
        empty = λ sound. empty_over by config run items rejected.kept old new range (few_replicas config range) sound rejected.found rejected.held;
      })

  -- the run stopped
  pub unfinished : (stop : DriveStop) (fault : RunFault) → fault ≡ stopping_fault stop → IsStopped by config run items stop old new → IsUnanswered by config run items fault old new
  unfinished stop fault is stopped = inr (record { stop = stop; fault_is = is; stopped = stopped })

-- a run that came to its end, whose output could not be written
pub stopped_whole : {D : Type 0} (by : Disks D) (config : Shape) (run : ℕ) (items : List Item) (old new : ℕ → Lying D) (history : History)
    → IsWholeRun by config run items history old new → IsStopped by config run items NoMemory old new
stopped_whole by config run items old new history whole =
    record { kept = history.kept; events = history.events; few = whole.few; over = whole.over; causes = whole.causes; stops = tt }
