use Rattle.scalog_run.specs.Checking.{sourcing}
use Rattle.scalog_run.specs.Output.{sinking}
use Rattle.scalog_run.proofs.Checked.{exactly, finds_so}
use Rattle.scalog_run.proofs.checking.check_history.Goals as goal

pub returns : goal.returns
returns g c =
    let old = sourcing (g.S.Source.left c.args.source.now) (g.S.Source.faults c.args.source.now) in
    let new = sourcing (g.S.Source.left c.check-outcome.new.source) (g.S.Source.faults c.check-outcome.new.source) in
    let sink_old = sinking (g.K.Sink.taken c.args.sink.now) (g.K.Sink.faults c.args.sink.now) in
    let sink_new = sinking (g.K.Sink.taken c.tell.new.sink) (g.K.Sink.faults c.tell.new.sink) in
    record {
      outcome = c.check-outcome.result;
      finds = finds_so old new c.check-outcome.result c.check-outcome.ensures.verdict c.check-outcome.ensures.fault;
      tells = c.tell.ensures;
      later = c.check-outcome.ensures.later;
      exact = λ bytes history told are never.
          exactly history sink_old sink_new c.tell.result c.check-outcome.result (c.check-outcome.ensures.judged bytes history told are never) c.tell.ensures;
    }
