-- What is asked is asked of the cluster's nodes.
use Rattle.std.specs.Prelude.{◌<◌}
use Rattle.log_base.specs.ClusterShape.{Shape}
use Rattle.schedule_model.specs.declared.duties.Awaited.{Awaited}
use Rattle.schedule_model.specs.declared.duties.Awaited.TheVariants.{Storing, Requesting, Reading, Streaming, StreamingOn, Last, Held, Again}
use Rattle.schedule_model.specs.declared.duties.PutOff.{PutOff}
use Rattle.schedule_model.specs.declared.duties.Question.{Question}
use Rattle.schedule_model.specs.declared.duties.Question.TheVariants as question
use Rattle.schedule_model.specs.Streams.{IsSubscription}

-- an orderer that is asked is the cluster's
abbrev pub IsQuestion : Shape → Question → Type 0
IsQuestion config (question.Append primary client number) = Unit {0}
IsQuestion config (question.Wish orderer client value from) = orderer < config.orderers

-- and so for each question that is put off
abbrev pub IsPutOff : Shape → PutOff → Type 0
IsPutOff config p = IsQuestion config p.question

-- the orderer and the replica of an answer are the cluster's
abbrev pub IsAwaited : Shape → Awaited → Type 0
IsAwaited config (Storing primary client number) = Unit {0}
IsAwaited config (Requesting orderer client value) = orderer < config.orderers
IsAwaited config (Reading replica client position) = replica.0 < config.replicas
IsAwaited config (Streaming s) = IsSubscription config s
IsAwaited config (StreamingOn s) = IsSubscription config s
IsAwaited config Last = Unit {0}
IsAwaited config (Held asked) = IsQuestion config asked
IsAwaited config (Again item) = Unit {0}
