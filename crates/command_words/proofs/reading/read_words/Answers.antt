use Rattle.std.proofs.Common.{◌≡◌, ℕ, List, ◌∷◌, codes, map, string_bytes, Result, Ok, Err, sym, subst, rules}
use Rattle.std.specs.Result.{IfOk}
use Rattle.command_words.specs.Commands.{HasFolder, Makes, Spells}
use Rattle.command_words.specs.declared.command.Command.{Command}
use Rattle.command_words.specs.declared.command.Command.TheVariants.{Make}
use Rattle.command_words.specs.declared.command.Options.{Options}
use Rattle.command_words.specs.declared.command.WordsFault.TheVariants.{Memory, NoCommand}
use Rattle.command_words.proofs.VerbWords.{cluster_alone, make_alone, run_alone}
use Rattle.command_words.proofs.reading.read_words.Goals as goal

pub returns-in-Err-clause-none : goal.returns-in-Err-clause-none
returns-in-Err-clause-none c = λ is.
    let words : map string_bytes c.args.words.now ≡ codes "run" ∷ map string_bytes c.in-Some.rest.now = search rules in
    let refused : c.read_options.result ≡ Err NoCommand = cc (c.in-Err.is, is) in
    run_alone (λ _. ⊥) _ _ words (c.read_options.ensures.none refused)

pub returns-in-Err-read_options-clause-none : goal.returns-in-Err-read_options-clause-none
returns-in-Err-read_options-clause-none c = λ is.
    let words : map string_bytes c.args.words.now ≡ codes "cluster" ∷ map string_bytes c.in-Some.rest.now = search rules in
    let refused : c.read_options-in-cluster.result ≡ Err NoCommand = cc (c.in-Err-read_options.is, is) in
    cluster_alone (λ _. ⊥) _ _ words (c.read_options-in-cluster.ensures.none refused)

pub returns-in-make-clause-none : goal.returns-in-make-clause-none
returns-in-make-clause-none c = λ is.
    let words : map string_bytes c.args.words.now ≡ codes "make" ∷ map string_bytes c.in-Some.rest.now = search rules in
    make_alone (λ _. ⊥) _ _ words (c.read_make.ensures.none is)

-- the command behind its first word
made : {E : Type 0} (words rest : List (List ℕ)) (result : Result Command E) → words ≡ codes "make" ∷ rest
    → IfOk result (λ command. (options : Options) × (seed : ℕ) × (count : ℕ) × (command ≡ Make options seed count) × Makes rest options seed count)
    → IfOk result (Spells words)
made words rest (Ok command) is read = subst (Spells words) (sym read.3) (rest, is, read.4)
made words rest (Err error) is read = read

pub returns-in-make-clause-command : goal.returns-in-make-clause-command
returns-in-make-clause-command c =
    let words : map string_bytes c.args.words.now ≡ codes "make" ∷ map string_bytes c.in-Some.rest.now = search rules in
    made _ _ c.read_make.result words c.read_make.ensures.command

pub returns-in-Err-clause-memory : goal.returns-in-Err-clause-memory
returns-in-Err-clause-memory c = λ is.
    let words : map string_bytes c.args.words.now ≡ codes "run" ∷ map string_bytes c.in-Some.rest.now = search rules in
    let refused : c.read_options.result ≡ Err Memory = cc (c.in-Err.is, is) in
    run_alone HasFolder _ _ words (c.read_options.ensures.memory refused)

pub returns-in-Err-read_options-clause-memory : goal.returns-in-Err-read_options-clause-memory
returns-in-Err-read_options-clause-memory c = λ is.
    let words : map string_bytes c.args.words.now ≡ codes "cluster" ∷ map string_bytes c.in-Some.rest.now = search rules in
    let refused : c.read_options-in-cluster.result ≡ Err Memory = cc (c.in-Err-read_options.is, is) in
    cluster_alone HasFolder _ _ words (c.read_options-in-cluster.ensures.memory refused)

pub returns-in-make-clause-memory : goal.returns-in-make-clause-memory
returns-in-make-clause-memory c = λ is.
    let words : map string_bytes c.args.words.now ≡ codes "make" ∷ map string_bytes c.in-Some.rest.now = search rules in
    make_alone HasFolder _ _ words (c.read_make.ensures.memory is)
