use Rattle.std.proofs.Common.{◌≡◌, ◌-◌, ℕ, List, ◌∷◌, length, map, take, drop, string_bytes, Option, Some, None, IsSome, Err, refl, sym, ◌∙◌, ap, subst, arith}
use Rattle.std.specs.Fmt.{decimal}
use Rattle.command_words.specs.Commands.{Chooses}
use Rattle.command_words.specs.declared.command.WordsFault.TheVariants.{Memory, NoCommand}
use Rattle.command_words.specs.declared.setting.Verb.TheVariants.{Make}
use Rattle.command_words.proofs.NoFolder.{made_without}
use Rattle.command_words.proofs.WordLists.{behind_two}
use Rattle.command_words.proofs.reading.read_make.Goals as goal

pub returns-in-Ok-clause-command : goal.returns-in-Ok-clause-command
returns-in-Ok-clause-command c =
    let words = behind_two string_bytes c.args.words.now c.index-words-0.result c.index-words-1.result (length c.args.words.now) (omega arith)
    c.index-words-0.is c.index-words-1.is refl in
    let seed : string_bytes c.index-words-0.result ≡ decimal c.in-Some.seed = sym c.as_str.ensures.value ∙ c.in-Some.ensures.2 in
    let count : string_bytes c.index-words-1.result ≡ decimal c.in-Some-read_within.count = sym c.as_str-2.ensures.value ∙ c.in-Some-read_within.ensures.2 in
    let rest = map string_bytes (take (length c.args.words.now - 2) (drop 2 c.args.words.now)) in (
      c.in-Ok.options,
      c.in-Some.seed,
      c.in-Some-read_within.count,
      refl,
      (
        rest,
        words ∙ ap (λ (w : List ℕ). w ∷ string_bytes c.index-words-1.result ∷ rest) seed ∙ ap (λ (w : List ℕ). decimal c.in-Some.seed ∷ w ∷ rest) count,
        c.in-Ok.ensures.options,
        omega arith,
        c.in-Some-read_within.ensures.0,
        c.in-Some-read_within.ensures.1,
      ),
    )

same_rest : (word next first second : List ℕ) (words rest more : List (List ℕ)) → words ≡ word ∷ next ∷ rest → words ≡ first ∷ second ∷ more → more ≡ rest
same_rest word next first second words rest more is other = cc

pub returns-in-Err-clause-none : goal.returns-in-Err-clause-none
returns-in-Err-clause-none c = λ is options seed count makes.
    let words = behind_two string_bytes c.args.words.now c.index-words-0.result c.index-words-1.result (length c.args.words.now) (omega arith)
    c.index-words-0.is c.index-words-1.is refl in
    let refused : c.read_options.result ≡ Err NoCommand = cc (c.in-Err.is, is) in
    let same = same_rest _ _ _ _ _ _ makes.0 words makes.1 in
    c.read_options.ensures.none refused options (subst (λ (rest : List (List ℕ)). Chooses Make rest options) same makes.2)

none_there : {A : Type 0} (folder : Option A) → folder ≡ None → IsSome folder → ⊥
none_there None none some = absurd (cc)
none_there (Some path) none some = cc

pub returns-in-Err-clause-memory : goal.returns-in-Err-clause-memory
returns-in-Err-clause-memory c = λ is options seed count makes.
    let words = behind_two string_bytes c.args.words.now c.index-words-0.result c.index-words-1.result (length c.args.words.now) (omega arith)
    c.index-words-0.is c.index-words-1.is refl in
    let out : c.read_options.result ≡ Err Memory = cc (c.in-Err.is, is) in
    let same = same_rest _ _ _ _ _ _ makes.0 words makes.1 in
    let chooses = subst (λ (rest : List (List ℕ)). Chooses Make rest options) same makes.2 in
    none_there options.folder (made_without _ options chooses) (c.read_options.ensures.memory out options chooses)
