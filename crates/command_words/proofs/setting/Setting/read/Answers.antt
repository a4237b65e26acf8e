use Rattle.std.proofs.Common.{◌≡◌, ℕ, List, ◌∷◌, ap, codes, drop, map, string_bytes, rules, arith, sym, ◌∙◌}
use Rattle.command_words.proofs.SettingWords.{brief_front, folder_read, number_read}
use Rattle.command_words.proofs.WordLists.{first_word, two_words}
use Rattle.command_words.proofs.setting.Setting.read.Goals as goal

pub returns-then-eq-clause-ok : goal.returns-then-eq-clause-ok
returns-then-eq-clause-ok c =
    let named : c.as_str-name.result.now ≡ codes "--brief" = search rules in
    brief_front _ _ (string_bytes c.index-words-0.result) (first_word string_bytes c.args.words.now c.index-words-0.result c.requires c.index-words-0.is)
    (sym c.as_str-name.ensures.value ∙ named)

pub returns-then-eq-2-clause-ok : goal.returns-then-eq-2-clause-ok
returns-then-eq-2-clause-ok c =
    let named : c.as_str-name.result.now ≡ codes "--folder" = search rules in
    folder_read _ (map string_bytes (drop 2 c.args.words.now)) c.as_str-name.result.now c.as_str-value.result.now c.read_folder.result
    (two_words string_bytes c.args.words.now c.index-words-0.result c.index-words-1.result (omega arith) c.index-words-0.is c.index-words-1.is
    ∙ cc (c.as_str-name.ensures.value, c.as_str-value.ensures.value))
    named c.read_folder.ensures.ok

pub returns-clause-ok : goal.returns-clause-ok
returns-clause-ok c =
    number_read _ (map string_bytes (drop 2 c.args.words.now)) c.as_str-name.result.now c.as_str-value.result.now c.read_parameter.result
    (two_words string_bytes c.args.words.now c.index-words-0.result c.index-words-1.result (omega arith) c.index-words-0.is c.index-words-1.is
    ∙ cc (c.as_str-name.ensures.value, c.as_str-value.ensures.value))
    c.read_parameter.ensures.ok

pub returns-then-eq-2-clause-memory : goal.returns-then-eq-2-clause-memory
returns-then-eq-2-clause-memory c = λ is.
    let named : c.as_str-name.result.now ≡ codes "--folder" = search rules in
    let path = c.as_str-value.result.now in
    let rest = map string_bytes (drop 2 c.args.words.now) in (
      path,
      rest,
      c.read_folder.ensures.memory is,
      two_words string_bytes c.args.words.now c.index-words-0.result c.index-words-1.result (omega arith) c.index-words-0.is c.index-words-1.is
          ∙ cc (c.as_str-name.ensures.value, c.as_str-value.ensures.value)
          ∙ ap (λ (w : List ℕ). w ∷ path ∷ rest) named,
    )
