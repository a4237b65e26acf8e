use Rattle.std.proofs.Common.{map, string_bytes}
use Rattle.command_words.proofs.OneCommand.{not_offered}
use Rattle.command_words.proofs.offered.read_offered.Goals as goal

pub returns-in-None-clause-none : goal.returns-in-None-clause-none
returns-in-None-clause-none c = λ is.
    not_offered (map string_bytes c.args.words.now) c.in_ok-command.command c.in_ok-command.ensures.command c.in-None.ensures
