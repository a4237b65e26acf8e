use Rattle.std.proofs.Common.{◌-◌, length, take, drop}
use Rattle.log_base.specs.Shape.{shape}
use Rattle.fault_script.specs.Grammar.{word_of}
use Rattle.fault_script.proofs.KindReading.{line_read, line_stops, word_missing}
use Rattle.fault_script.proofs.SharedFronts.{word_there}
use Rattle.fault_script.proofs.kind.Kind.read.Goals as goal

pub returns-then-shared-word : goal.returns-then-shared-word
returns-then-shared-word c =
    word_missing (shape c.args.config.now) c.args.self c.args.text.now c.word-word.result.now c.shared_length-shared.result c.args.config.now.in_range
    c.word-word.ensures c.shared_length-shared.ensures.count c.if-shared-word.true

pub returns-in-Ok : goal.returns-in-Ok
returns-in-Ok c =
    let there = word_there c.args.text.now (word_of c.args.self) c.word-word.result.now c.shared_length-shared.result c.word-word.ensures
    c.shared_length-shared.ensures.count c.if-shared-word.false in
    line_read (shape c.args.config.now) c.args.self c.operands.result.now c.args.text.now
    (take (length c.args.text.now - c.shared_length-shared.result) (drop c.shared_length-shared.result c.args.text.now)) c.in-Ok.numbers c.fault.result
    c.operands.ensures.operands there.1 c.in-Ok.ensures.numbers c.fault.ensures

pub returns-in-Err : goal.returns-in-Err
returns-in-Err c =
    let there = word_there c.args.text.now (word_of c.args.self) c.word-word.result.now c.shared_length-shared.result c.word-word.ensures
    c.shared_length-shared.ensures.count c.if-shared-word.false in
    line_stops (shape c.args.config.now) c.args.self c.operands.result.now c.args.text.now
    (take (length c.args.text.now - c.shared_length-shared.result) (drop c.shared_length-shared.result c.args.text.now)) c.shared_length-shared.result
    c.in-Err.at c.operands.ensures.operands there.0 there.1 c.in-Err.ensures.numbers
