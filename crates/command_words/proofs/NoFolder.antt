-- Items are made without a folder.
use Rattle.std.proofs.Common.{◌≡◌, ℕ, List, [], ◌∷◌, None, fold, refl, ◌∙◌, ap}
use Rattle.std.specs.Bool.{IsTrue}
use Rattle.std.specs.List.{AllByRecursion}
use Rattle.command_words.specs.declared.command.Options.{Options}
use Rattle.command_words.specs.declared.given.Given.{Given}
use Rattle.command_words.specs.declared.setting.Parameter.{Parameter}
use Rattle.command_words.specs.declared.setting.Parameter.TheVariants.{Replicas, Shards, Orderers, Gatherers, Run, Workers}
use Rattle.command_words.specs.declared.setting.Setting.{Setting}
use Rattle.command_words.specs.declared.setting.Setting.TheVariants.{Number, Folder, Brief}
use Rattle.command_words.specs.declared.setting.Verb.TheVariants.{Make}
use Rattle.command_words.specs.Commands.{Chooses}
use Rattle.command_words.specs.Settings.{nothing, takes, with_number, with_setting}

-- a number leaves the folder as it was
folder_stays : (given : Given) (parameter : Parameter) (number : ℕ) → (with_number given parameter number).folder ≡ given.folder
folder_stays given Replicas number = refl
folder_stays given Shards number = refl
folder_stays given Orderers number = refl
folder_stays given Gatherers number = refl
folder_stays given Run number = refl
folder_stays given Workers number = refl

none_from : (settings : List Setting) (given : Given) → AllByRecursion (λ setting. IsTrue (takes Make setting)) settings → given.folder ≡ None
    → (fold with_setting given settings).folder ≡ None
none_from [] given taken none = none
none_from (Number parameter number ∷ settings) given taken none =
    none_from settings (with_number given parameter number) taken.1 (folder_stays given parameter number ∙ none)
none_from (Folder path ∷ settings) given taken none = absurd (cc (taken.0))
none_from (Brief ∷ settings) given taken none = absurd (cc (taken.0))

-- the options of items that are made name no folder
pub made_without : (words : List (List ℕ)) (options : Options) → Chooses Make words options → options.folder ≡ None
made_without words options chooses =
    chooses.2.folder ∙ ap (λ (given : Given). given.folder) chooses.1.2 ∙ none_from chooses.1.0 nothing chooses.1.1.are_taken refl
