use Rattle.std.proofs.Common.{◌≡◌, inl, inr, ℕ, List, Option, Some, None, IsSome, map, string_bytes, subst}
use Rattle.log_base.specs.Shape.{shape}
use Rattle.command_words.specs.Commands.{Spells}
use Rattle.command_words.specs.Offered.{command_of}
use Rattle.command_words.specs.declared.command.Command.TheVariants.{Check, Cluster, Make, Run}
use Rattle.command_words.specs.declared.command.Options.{Options}
use Rattle.command_words.specs.declared.offered.Offered.{Offered}
use Rattle.command_words.proofs.NotBrief.{cluster_not_brief}
use Rattle.command_words.proofs.OneCommand.{one_command}
use Rattle.cluster_disks.specs.Lent.{disks, lain}
use Rattle.scalog_run.specs.Making.{SendsMade}
use Rattle.scalog_run.specs.Output.{Sinking, sinking}
use Rattle.scalog_run.specs.Report.{report_for}
use Rattle.scalog_run.specs.Run.{Ran, world}
use Rattle.scalog_run.specs.RunCluster.{RanCluster}
use Rattle.scalog_run.proofs.Completing.{serves_all}
use Rattle.scalog_run.proofs.Quiet.{answers_as_log}
use Rattle.scalog_run.proofs.run.scalog.Goals as goal

-- the words have one list of options
one_run : (words : List (List ℕ)) (options others : Options) → Spells words (Run options) → Spells words (Run others) → options ≡ others
one_run words options others spells other_spells = (let same = one_command words (Run options) (Run others) spells other_spells in cc)

one_cluster : (words : List (List ℕ)) (options others : Options) → Spells words (Cluster options) → Spells words (Cluster others) → options ≡ others
one_cluster words options others spells other_spells = (let same = one_command words (Cluster options) (Cluster others) spells other_spells in cc)

-- what they ask to be made is one input
one_input : (words : List (List ℕ)) (options others : Options) (seed count other_seed other_count : ℕ) (old new : Sinking) (status : ℕ)
    → Spells words (Make options seed count) → Spells words (Make others other_seed other_count)
    → SendsMade (shape options.config) seed count old new status → SendsMade (shape others.config) other_seed other_count old new status
one_input words options others seed count other_seed other_count old new status spells other_spells sends =
    let same = one_command words (Make options seed count) (Make others other_seed other_count) spells other_spells in
    let options_are : options ≡ others = cc in
    let seed_is : seed ≡ other_seed = cc in
    let count_is : count ≡ other_count = cc in
    subst (λ (n : ℕ). SendsMade (shape others.config) other_seed n old new status) count_is
    (subst (λ (n : ℕ). SendsMade (shape others.config) n count old new status) seed_is
    (subst (λ (o : Options). SendsMade (shape o.config) seed count old new status) options_are sends))

-- what is none names no folder
no_folder : {A : Type 0} (folder : Option A) → folder ≡ None → IsSome folder → ⊥
no_folder None none some = absurd (cc)
no_folder (Some path) none some = cc

-- the words are no command that is served
pub returns-in-Err-NoCommand-clause-command : goal.returns-in-Err-NoCommand-clause-command
returns-in-Err-NoCommand-clause-command g c options spells offered = absurd (c.in-Err-NoCommand.ensures.none (cc) (Run options, spells, offered))

pub returns-in-Err-NoCommand-clause-make : goal.returns-in-Err-NoCommand-clause-make
returns-in-Err-NoCommand-clause-make g c options seed count spells = absurd (c.in-Err-NoCommand.ensures.none (cc) (Make options seed count, spells, tt))

pub returns-in-Err-NoCommand-clause-check : goal.returns-in-Err-NoCommand-clause-check
returns-in-Err-NoCommand-clause-check g c spells = absurd (c.in-Err-NoCommand.ensures.none (cc) (Check, spells, tt))

-- memory ran out over a folder
pub returns-in-Err-Memory-clause-command : goal.returns-in-Err-Memory-clause-command
returns-in-Err-Memory-clause-command g c options spells offered =
    absurd (no_folder options.folder offered (c.in-Err-Memory.ensures.memory (cc) (Run options) spells))

pub returns-in-Err-Memory-clause-check : goal.returns-in-Err-Memory-clause-check
returns-in-Err-Memory-clause-check g c spells = absurd (c.in-Err-Memory.ensures.memory (cc) Check spells)

-- they are no cluster then
pub returns-in-Err-NoCommand-clause-cluster : goal.returns-in-Err-NoCommand-clause-cluster
returns-in-Err-NoCommand-clause-cluster g c options spells offered = absurd (c.in-Err-NoCommand.ensures.none (cc) (Cluster options, spells, offered))

pub returns-in-Err-NoCommand-clause-complete : goal.returns-in-Err-NoCommand-clause-complete
returns-in-Err-NoCommand-clause-complete g c options spells offered = absurd (c.in-Err-NoCommand.ensures.none (cc) (Cluster options, spells, offered))

pub returns-in-Err-Memory-clause-cluster : goal.returns-in-Err-Memory-clause-cluster
returns-in-Err-Memory-clause-cluster g c options spells offered =
    absurd (no_folder options.folder offered (c.in-Err-Memory.ensures.memory (cc) (Cluster options) spells))

pub returns-in-Err-Memory-clause-complete : goal.returns-in-Err-Memory-clause-complete
returns-in-Err-Memory-clause-complete g c options spells offered =
    absurd (no_folder options.folder offered (c.in-Err-Memory.ensures.memory (cc) (Cluster options) spells))

-- a cluster has a full report
pub run_cluster-requires-clause-full : goal.run_cluster-requires-clause-full
run_cluster-requires-clause-full g c κs within =
    let served = subst (λ (o : Offered). Spells (map string_bytes c.args.words.now) (command_of o)) c.in-Cluster.is c.in-Ok.ensures.ok.0 in
    cluster_not_brief served.0 c.in-Cluster.options served.2

-- the words are a run
pub returns-in-Run-clause-command : goal.returns-in-Run-clause-command
returns-in-Run-clause-command g c options spells offered =
    let words = map string_bytes c.args.words.now in
    let served = subst (λ (o : Offered). Spells words (command_of o)) c.in-Run.is c.in-Ok.ensures.ok.0 in
    let same = one_run words c.in-Run.options options served spells in
    let under = lain g.Q.Rack.disk_at g.Q.Rack.disk_faults g.Q.Rack.faults in
    subst (λ (o : Options). Ran (disks g.Q.D.Disk.reads g.Q.D.Disk.may_leave g.Q.D.Disk.keeps_synced g.Q.D.Disk.faults) (shape o.config) o.run (report_for o.brief)
    (world (g.S.Source.left c.args.source.now) (g.S.Source.faults c.args.source.now) (under c.args.rack.now))
    (world (g.S.Source.left c.run_items.new.source) (g.S.Source.faults c.run_items.new.source) (under c.run_items.new.rack))
    (sinking (g.K.Sink.taken c.args.sink.now) (g.K.Sink.faults c.args.sink.now)) (sinking (g.K.Sink.taken c.run_items.new.sink) (g.K.Sink.faults c.run_items.new.sink))
    c.run_items.result) same c.run_items.ensures.run

pub returns-in-Run-clause-others : goal.returns-in-Run-clause-others
returns-in-Run-clause-others g c number unused =
    let words = map string_bytes c.args.words.now in
    let served = subst (λ (o : Offered). Spells words (command_of o)) c.in-Run.is c.in-Ok.ensures.ok.0 in
    c.run_items.ensures.others number (unused c.in-Run.options (inl served))

-- the words are a cluster
pub returns-in-Cluster-clause-cluster : goal.returns-in-Cluster-clause-cluster
returns-in-Cluster-clause-cluster g c options spells offered =
    let words = map string_bytes c.args.words.now in
    let served = subst (λ (o : Offered). Spells words (command_of o)) c.in-Cluster.is c.in-Ok.ensures.ok.0 in
    let same = one_cluster words c.in-Cluster.options options served spells in
    let under = lain g.Q.Rack.disk_at g.Q.Rack.disk_faults g.Q.Rack.faults in
    subst (λ (o : Options). RanCluster (disks g.Q.D.Disk.reads g.Q.D.Disk.may_leave g.Q.D.Disk.keeps_synced g.Q.D.Disk.faults) (shape o.config) o.run o.workers
    (world (g.S.Source.left c.args.source.now) (g.S.Source.faults c.args.source.now) (under c.args.rack.now))
    (world (g.S.Source.left c.run_cluster.new.source) (g.S.Source.faults c.run_cluster.new.source) (under c.run_cluster.new.rack))
    (sinking (g.K.Sink.taken c.args.sink.now) (g.K.Sink.faults c.args.sink.now)) (sinking (g.K.Sink.taken c.run_cluster.new.sink) (g.K.Sink.faults c.run_cluster.new.sink))
    c.run_cluster.result) same c.run_cluster.ensures.cluster

pub returns-in-Cluster-clause-complete : goal.returns-in-Cluster-clause-complete
returns-in-Cluster-clause-complete g c options spells offered =
    serves_all _ (shape options.config) options.config.in_range options.run options.workers _ _ _ _ _ (returns-in-Cluster-clause-cluster g c options spells offered)

pub returns-in-Cluster-clause-others : goal.returns-in-Cluster-clause-others
returns-in-Cluster-clause-others g c number unused =
    let words = map string_bytes c.args.words.now in
    let served = subst (λ (o : Offered). Spells words (command_of o)) c.in-Cluster.is c.in-Ok.ensures.ok.0 in
    c.run_cluster.ensures.others number (unused c.in-Cluster.options (inr served))

-- the words make an input
pub returns-in-Make-clause-make : goal.returns-in-Make-clause-make
returns-in-Make-clause-make g c options seed count spells =
    let words = map string_bytes c.args.words.now in
    let served = subst (λ (o : Offered). Spells words (command_of o)) c.in-Make.is c.in-Ok.ensures.ok.0 in
    one_input words c.in-Make.options options c.in-Make.seed c.in-Make.count seed count _ _ _ served spells c.make_items.ensures

-- a run in which nothing fails
pub returns-in-Err-NoCommand-clause-quiet : goal.returns-in-Err-NoCommand-clause-quiet
returns-in-Err-NoCommand-clause-quiet g c options spells offered = absurd (c.in-Err-NoCommand.ensures.none (cc) (Run options, spells, offered))

pub returns-in-Err-Memory-clause-quiet : goal.returns-in-Err-Memory-clause-quiet
returns-in-Err-Memory-clause-quiet g c options spells offered =
    absurd (no_folder options.folder offered (c.in-Err-Memory.ensures.memory (cc) (Run options) spells))

pub returns-in-Run-clause-quiet : goal.returns-in-Run-clause-quiet
returns-in-Run-clause-quiet g c options spells offered =
    answers_as_log _ (shape options.config) options.config.in_range options.run (report_for options.brief) _ _ _ _ _ (returns-in-Run-clause-command g c options spells offered)
