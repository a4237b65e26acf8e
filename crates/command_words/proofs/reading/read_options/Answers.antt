use Rattle.std.proofs.Common.{◌≡◌, ℕ, List, Option, Err, sym, subst}
use Rattle.std.proofs.lemmas.Result.{err_from_is_err_and}
use Rattle.std.specs.Prelude.{IsSome}
use Rattle.command_words.specs.Commands.{Says}
use Rattle.command_words.specs.declared.command.WordsFault.TheVariants.{Memory, NoCommand}
use Rattle.command_words.specs.declared.given.Given.{Given}
use Rattle.command_words.proofs.GivenSoFar.{one_given}
use Rattle.command_words.proofs.reading.read_options.Goals as goal

pub returns-in_err-given-clause-none : goal.returns-in_err-given-clause-none
returns-in_err-given-clause-none c = λ is options chooses.
    let exit = err_from_is_err_and c.from_residual.result c.from_residual.ensures.1 in
    let refused : c.read_given.result ≡ Err NoCommand = cc (c.in_err-given.was, exit.1, exit.2, is) in
    c.read_given.ensures.none refused chooses.0 chooses.1

pub returns-in-None-clause-none : goal.returns-in-None-clause-none
returns-in-None-clause-none c = λ is options chooses.
    let same = one_given c.args.command _ chooses.0 c.in_ok-given.given chooses.1 c.in_ok-given.ensures.given in
    c.in-None.ensures options (subst (λ (given : Given). Says given options) same chooses.2)

pub returns-in_err-given-clause-memory : goal.returns-in_err-given-clause-memory
returns-in_err-given-clause-memory c = λ is options chooses.
    let exit = err_from_is_err_and c.from_residual.result c.from_residual.ensures.1 in
    let out : c.read_given.result ≡ Err Memory = cc (c.in_err-given.was, exit.1, exit.2, is) in
    subst (λ (folder : Option (List ℕ)). IsSome folder) (sym chooses.2.folder) (c.read_given.ensures.memory out chooses.0 chooses.1)
