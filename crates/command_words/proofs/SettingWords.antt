-- An option at the front of some words.
use Rattle.std.proofs.Common.{◌≡◌, ℕ, ◌^◌, ◌<◌, List, ◌∷◌, ◌++◌, codes, sym, ◌∙◌, ap, subst, Result, Ok, Err}
use Rattle.std.specs.Result.{IfOk}
use Rattle.std.specs.Fmt.{decimal}
use Rattle.command_words.specs.declared.setting.Parameter.{Parameter}
use Rattle.command_words.specs.declared.setting.Setting.{Setting}
use Rattle.command_words.specs.declared.setting.Setting.TheVariants.{Number, Folder, Brief}
use Rattle.command_words.specs.Settings.{IsFolder, IsSetting, parameter_word, setting_words}

-- the words begin with the option, whose value is good
abbrev pub IsFront : List (List ℕ) → Setting → Type 0
IsFront words setting = IsSetting setting × ((rest : List (List ℕ)) × (words ≡ setting_words setting ++ rest))

pub brief_front : (words rest : List (List ℕ)) (word : List ℕ) → words ≡ word ∷ rest → word ≡ codes "--brief" → IsFront words Brief
brief_front words rest word is named = (tt, (rest, is ∙ ap (λ (w : List ℕ). w ∷ rest) named))

folder_front : (words rest : List (List ℕ)) (word path : List ℕ) (setting : Setting) → words ≡ word ∷ path ∷ rest → word ≡ codes "--folder"
    → setting ≡ Folder path → IsFolder path → IsFront words setting
folder_front words rest word path setting is named read good =
    subst (IsFront words) (sym read) (good, (rest, is ∙ ap (λ (w : List ℕ). w ∷ path ∷ rest) named))

pub folder_read : {E : Type 0} (words rest : List (List ℕ)) (word path : List ℕ) (result : Result Setting E) → words ≡ word ∷ path ∷ rest → word ≡ codes "--folder"
    → IfOk result (λ setting. (setting ≡ Folder path) × IsFolder path) → IfOk result (IsFront words)
folder_read words rest word path (Ok setting) is named read = folder_front words rest word path setting is named read.0 read.1
folder_read words rest word path (Err error) is named read = read

-- the option of a word, with the number of the next one
abbrev pub IsNumber : List ℕ → List ℕ → Setting → Type 0
IsNumber word value setting = (parameter : Parameter) × (number : ℕ) × (setting ≡ Number parameter number)
    × (number < 10 ^ 10) × (word ≡ parameter_word parameter) × (value ≡ decimal number)

number_front : (words rest : List (List ℕ)) (word value : List ℕ) (setting : Setting) → words ≡ word ∷ value ∷ rest → IsNumber word value setting
    → IsFront words setting
number_front words rest word value setting is read =
    let here : word ∷ value ∷ rest ≡ parameter_word read.0 ∷ decimal read.1 ∷ rest = cc (read.4, read.5) in
    subst (IsFront words) (sym read.2) (read.3, (rest, is ∙ here))

pub number_read : {E : Type 0} (words rest : List (List ℕ)) (word value : List ℕ) (result : Result Setting E) → words ≡ word ∷ value ∷ rest
    → IfOk result (IsNumber word value) → IfOk result (IsFront words)
number_read words rest word value (Ok setting) is read = number_front words rest word value setting is read
number_read words rest word value (Err error) is read = read
