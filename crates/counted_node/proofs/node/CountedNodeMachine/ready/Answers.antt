use Rattle.std.proofs.Common.{◌≡◌, ◌+◌, ℕ, List, length, Some, sym, ap, subst, ◌∙◌}
use Rattle.history_frame.specs.declared.inputs.Input.TheVariants.{Restart}
use Rattle.node_model.specs.Machine.{ClusterNode}
use Rattle.shard_replica.specs.Lists.{Medium}
use Rattle.core_step.specs.Disks.{IsStarting, start_mark}
use Rattle.core_step.specs.Standing.{IsReadyFor}
use Rattle.counted_node.specs.Causes.{AllKeep, IsCounted, journals_at, node_media}
use Rattle.counted_node.specs.Counted.{AreCounted, IsReadyToCount}
use Rattle.counted_node.proofs.Stepping.{start_rose, still_counted, told_all, when_ready}
use Rattle.counted_node.proofs.node.CountedNodeMachine.ready.Goals as goal

pub invariant_of-self : goal.invariant_of-self
invariant_of-self g c =
    let told = node_media {P = g.row.P.Denot} g.J.Journal.state g.J.Journal.faults g.J.Journal.keeps_synced g.J.Journal.turns in
    let old = c.self.inside.node in
    let new = c.ready-outcome.new.self in
    let first = told c.self.inside.first.value in
    let seat : journals_at new.config new.number ≡ journals_at old.config old.number = ap (λ (n : ClusterNode). journals_at n.config n.number) c.ready-outcome.ensures.same in
    subst (λ (count : ℕ). AreCounted count first (told new) c.self.inside.halted c.self.inside.stayed) (sym seat)
    (still_counted (journals_at old.config old.number) first (told old) (told new) c.self.inside.halted c.self.inside.stayed c.self.invariant c.ready-outcome.ensures.counts)

pub returns-clause-ready : goal.returns-clause-ready
returns-clause-ready g c =
    let told = node_media {P = g.row.P.Denot} g.J.Journal.state g.J.Journal.faults g.J.Journal.keeps_synced g.J.Journal.turns in
    let old = c.self.inside.node in
    let new = c.ready-outcome.new.self in
    let first = told c.self.inside.first.value in
    let count = journals_at old.config old.number in
    let seat : journals_at new.config new.number ≡ count = ap (λ (n : ClusterNode). journals_at n.config n.number) c.ready-outcome.ensures.same in
    let all : length (told old) ≡ count = told_all g.J.Journal.state g.J.Journal.faults g.J.Journal.keeps_synced g.J.Journal.turns count (told old) c.tell.ensures in
    let still : length (told new) ≡ count
    = told_all g.J.Journal.state g.J.Journal.faults g.J.Journal.keeps_synced g.J.Journal.turns (journals_at new.config new.number) (told new) c.tell-2.ensures ∙ seat in
    let start = start_mark g.J.Journal.state new.part in
    when_ready c.ready-outcome.result (IsReadyFor g.J.Journal.state new.part c.args.input.now c.ready-outcome.new.out) (c.args.input.now ≡ Restart) (IsStarting (told old) (told new) start) _
    c.ready-outcome.ensures.ready c.ready-outcome.ensures.opening
    (λ ready starting. record {
      ready = ready;
      rose = λ restarts stays keep.
          subst (λ (n : ℕ). IsCounted first (told new) n (c.self.inside.halted + c.self.inside.stayed + 1)) (sym seat)
          (start_rose count first (told old) (told new) c.self.inside.halted c.self.inside.stayed c.self.invariant c.ready-outcome.ensures.counts start all still (starting restarts) stays
          (subst (AllKeep first) seat keep));
    })
