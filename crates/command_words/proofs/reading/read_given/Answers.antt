use Rattle.std.proofs.Common.{◌≡◌, ◌<◌, ℕ, List, length, map, string_bytes, Err, refl, sym, ◌∙◌, subst, rules}
use Rattle.std.proofs.lemmas.List.{length-map}
use Rattle.std.proofs.lemmas.Result.{err_from_is_err_and}
use Rattle.command_words.specs.declared.command.WordsFault.TheVariants.{Memory, NoCommand}
use Rattle.command_words.specs.Settings.{setting_words}
use Rattle.command_words.proofs.WordLists.{words_behind}
use Rattle.command_words.proofs.GivenSoFar.{SoFar, folder_given, given_twice, goes_on_with, no_option, not_taken}
use Rattle.command_words.proofs.reading.read_given.Goals as goal

pub returns-in_err-setting-clause-none : goal.returns-in_err-setting-clause-none
returns-in_err-setting-clause-none c = λ is.
    let some_left : 0 < length c.settings.rest.now = search rules in
    let some : 0 < length (map string_bytes c.settings.rest.now) = rw length-map some_left in
    let exit = err_from_is_err_and c.from_residual.result c.from_residual.ensures.1 in
    let refused : c.read.result ≡ Err NoCommand = cc (c.in_err-setting.was, exit.1, exit.2, is) in
    no_option c.args.command _ (map string_bytes c.settings.rest.now) c.settings.given c.settings.invariant some (c.read.ensures.none refused)

pub returns-then-not-takes-clause-none : goal.returns-then-not-takes-clause-none
returns-then-not-takes-clause-none c = λ is.
    let read = c.in_ok-setting.ensures.ok in
    not_taken c.args.command _ (map string_bytes c.settings.rest.now) c.settings.given c.settings.invariant c.in_ok-setting.setting read.1.0 read.0 read.1.1
    (sym c.takes.ensures ∙ c.if-not-takes.true)

pub settings-preserved : goal.settings-preserved
settings-preserved c =
    let read = c.in_ok-setting.ensures.ok in
    let left = words_behind string_bytes c.settings.rest.now c.word_count.result _ (setting_words c.in_ok-setting.setting) read.1.0 read.1.1 c.word_count.ensures refl in
    subst (λ (rest : List (List ℕ)). SoFar c.args.command (map string_bytes c.args.words.now) rest c.take.new.self) (sym left)
    (goes_on_with c.args.command _ (map string_bytes c.settings.rest.now) c.settings.given c.settings.invariant c.in_ok-setting.setting read.1.0 c.take.new.self
    read.0 read.1.1 (sym c.takes.ensures ∙ c.if-not-takes.false) c.in_ok-take.ensures.ok.0 c.in_ok-take.ensures.ok.1)

pub returns-in_err-take-clause-none : goal.returns-in_err-take-clause-none
returns-in_err-take-clause-none c = λ is.
    let read = c.in_ok-setting.ensures.ok in
    let exit = err_from_is_err_and c.from_residual-in_err-take.result c.from_residual-in_err-take.ensures.1 in
    let refused : c.take.result ≡ Err NoCommand = cc (c.in_err-take.was, exit.1, exit.2, is) in
    given_twice c.args.command _ (map string_bytes c.settings.rest.now) c.settings.given c.settings.invariant c.in_ok-setting.setting read.1.0 read.0 read.1.1
    (c.take.ensures.twice refused)

pub returns-in_err-setting-clause-memory : goal.returns-in_err-setting-clause-memory
returns-in_err-setting-clause-memory c = λ is.
    let exit = err_from_is_err_and c.from_residual.result c.from_residual.ensures.1 in
    let out : c.read.result ≡ Err Memory = cc (c.in_err-setting.was, exit.1, exit.2, is) in
    let folder = c.read.ensures.memory out in
    folder_given c.args.command _ (map string_bytes c.settings.rest.now) c.settings.given c.settings.invariant folder.0 folder.1 folder.2 folder.3
