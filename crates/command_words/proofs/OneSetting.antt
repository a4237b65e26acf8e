-- No two options have the same words.
use Rattle.std.proofs.Common.{◌≡◌, ◌≢◌, ℕ, ◌==◌, if◌then◌else◌, List, [], ◌∷◌, ◌++◌, codes, get_or, refl, sym, ◌∙◌, ap, append_assoc, arith}
use Rattle.std.specs.List.{AllByRecursion, flat_map}
use Rattle.std.specs.Fmt.{decimal}
use Rattle.std.proofs.lemmas.Fmt.{decimal_injective}
use Rattle.command_words.specs.declared.setting.Parameter.{Parameter}
use Rattle.command_words.specs.declared.setting.Parameter.TheVariants.{Replicas, Shards, Orderers, Gatherers, Run, Workers}
use Rattle.command_words.specs.declared.setting.Setting.{Setting}
use Rattle.command_words.specs.declared.setting.Setting.TheVariants.{Number, Folder, Brief}
use Rattle.command_words.specs.Settings.{IsSetting, parameter_word, setting_words}

-- the option of a word, by its third and fourth letter
abbrev parameter_by : ℕ → ℕ → Parameter
parameter_by third fourth =
    if third == 115 then Shards
    else if third == 111 then Orderers
    else if third == 103 then Gatherers
    else if third == 119 then Workers
    else (if fourth == 101 then Replicas else Run)

abbrev parameter_from : List ℕ → Parameter
parameter_from word = parameter_by (get_or word 2 0) (get_or word 3 0)

known : (parameter : Parameter) → parameter_from (parameter_word parameter) ≡ parameter
known Replicas = refl
known Shards = refl
known Orderers = refl
known Gatherers = refl
known Run = refl
known Workers = refl

pub one_parameter : (parameter other : Parameter) → parameter_word parameter ≡ parameter_word other → parameter ≡ other
one_parameter parameter other same = sym (known parameter) ∙ ap parameter_from same ∙ known other

-- two options with a number have different words
pub apart : (parameter other : Parameter) → parameter ≢ other → parameter_word parameter ≢ parameter_word other
apart parameter other differ same = differ (one_parameter parameter other same)

-- whether a word is that of a folder, 1, or of the brief line, 2
abbrev without_number : List ℕ → ℕ
without_number word = if get_or word 2 0 == 102 then 1 else if get_or word 2 0 == 98 then 2 else 0

with_number : (parameter : Parameter) → without_number (parameter_word parameter) ≡ 0
with_number Replicas = refl
with_number Shards = refl
with_number Orderers = refl
with_number Gatherers = refl
with_number Run = refl
with_number Workers = refl

pub no_folder : (parameter : Parameter) → parameter_word parameter ≢ codes "--folder"
no_folder parameter is =
    let none : 0 ≡ 1 = sym (with_number parameter) ∙ ap (λ (word : List ℕ). without_number word) is in
    absurd (cc none)

pub no_brief : (parameter : Parameter) → parameter_word parameter ≢ codes "--brief"
no_brief parameter is =
    let none : 0 ≡ 2 = sym (with_number parameter) ∙ ap (λ (word : List ℕ). without_number word) is in
    absurd (cc none)

pub folder_no_brief : codes "--folder" ≢ codes "--brief"
folder_no_brief is = let other : 1 ≡ 2 = ap (λ (word : List ℕ). without_number word) is in absurd (cc other)

first_same : (word other : List ℕ) (words others : List (List ℕ)) → word ∷ words ≡ other ∷ others → (word ≡ other) × (words ≡ others)
first_same word other words others same = (cc, cc)

-- the words of an option begin those of no other
pub one_setting : (setting other : Setting) (rest more : List (List ℕ)) → IsSetting setting → IsSetting other
    → setting_words setting ++ rest ≡ setting_words other ++ more → (setting ≡ other) × (rest ≡ more)
one_setting (Number p n) (Number q m) rest more is other_is same =
    let words = first_same (parameter_word p) (parameter_word q) (decimal n ∷ rest) (decimal m ∷ more) same in
    let values = first_same (decimal n) (decimal m) rest more words.1 in
    let parameter = one_parameter p q words.0 in
    let number = decimal_injective n m (omega arith) (omega arith) values.0 in
    (cc, values.1)
one_setting (Number p n) (Folder path) rest more is other_is same =
    absurd (no_folder p (first_same (parameter_word p) (codes "--folder") (decimal n ∷ rest) (path ∷ more) same).0)
one_setting (Number p n) Brief rest more is other_is same =
    absurd (no_brief p (first_same (parameter_word p) (codes "--brief") (decimal n ∷ rest) more same).0)
one_setting (Folder path) (Number q m) rest more is other_is same =
    absurd (no_folder q (first_same (parameter_word q) (codes "--folder") (decimal m ∷ more) (path ∷ rest) (sym same)).0)
one_setting (Folder path) (Folder other) rest more is other_is same =
    let words = first_same (codes "--folder") (codes "--folder") (path ∷ rest) (other ∷ more) same in
    let values = first_same path other rest more words.1 in
    (ap Folder values.0, values.1)
one_setting (Folder path) Brief rest more is other_is same =
    absurd (folder_no_brief (first_same (codes "--folder") (codes "--brief") (path ∷ rest) more same).0)
one_setting Brief (Number q m) rest more is other_is same =
    absurd (no_brief q (first_same (parameter_word q) (codes "--brief") (decimal m ∷ more) rest (sym same)).0)
one_setting Brief (Folder path) rest more is other_is same =
    absurd (folder_no_brief (first_same (codes "--folder") (codes "--brief") (path ∷ more) rest (sym same)).0)
one_setting Brief Brief rest more is other_is same = (refl, (first_same (codes "--brief") (codes "--brief") rest more same).1)

-- of two lists of options with the same words, one of which goes on with some more words, the other goes on with the
-- options of these
pub front : (settings others : List Setting) (rest : List (List ℕ)) → AllByRecursion IsSetting settings → AllByRecursion IsSetting others
    → flat_map setting_words settings ++ rest ≡ flat_map setting_words others
    → (more : List Setting) × (others ≡ settings ++ more) × (rest ≡ flat_map setting_words more)
front [] others rest are others_are same = (others, refl, same)
front (s ∷ settings) [] rest are others_are same = absurd (cc)
front (s ∷ settings) (t ∷ others) rest are others_are same =
    let one = one_setting s t (flat_map setting_words settings ++ rest) (flat_map setting_words others) are.0 others_are.0 (regroup ∙ same) in
    let deeper = front settings others rest are.1 others_are.1 one.1 in
    (deeper.0, cc, deeper.2)
  where
    regroup : setting_words s ++ (flat_map setting_words settings ++ rest) ≡ flat_map setting_words (s ∷ settings) ++ rest
    regroup = sym (append_assoc (setting_words s) (flat_map setting_words settings) rest)

-- a list of options has no other words
pub one_list : (settings others : List Setting) → AllByRecursion IsSetting settings → AllByRecursion IsSetting others
    → flat_map setting_words settings ≡ flat_map setting_words others → settings ≡ others
one_list [] [] are others_are same = refl
one_list [] (t ∷ others) are others_are same = absurd (cc)
one_list (s ∷ settings) [] are others_are same = absurd (cc)
one_list (s ∷ settings) (t ∷ others) are others_are same =
    let one = one_setting s t (flat_map setting_words settings) (flat_map setting_words others) are.0 others_are.0 same in
    let rest = one_list settings others are.1 others_are.1 one.1 in
    cc
