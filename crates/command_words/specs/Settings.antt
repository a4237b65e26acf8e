-- The options behind the word of a command: how each is spelled, which command takes it, and what it sets.
use Rattle.std.specs.Prelude.{◌≢◌, ℕ, ◌^◌, ◌<◌, List, [], ◌∷◌, length, slice_index, codes, fold, is_some, Bool, true, false, Option, Some, None}
use Rattle.std.specs.List.{AllByRecursion}
use Rattle.std.specs.Fmt.{decimal}
use Rattle.command_words.specs.declared.setting.Verb.{Verb}
use Rattle.command_words.specs.declared.setting.Verb.TheVariants as verb
use Rattle.command_words.specs.declared.setting.Parameter.{Parameter}
use Rattle.command_words.specs.declared.setting.Parameter.TheVariants.{Replicas, Shards, Orderers, Gatherers, Run, Workers}
use Rattle.command_words.specs.declared.setting.Setting.{Setting}
use Rattle.command_words.specs.declared.setting.Setting.TheVariants.{Number, Folder, Brief}
use Rattle.command_words.specs.declared.given.Given.{Given}

-- the word of an option whose value is a number
abbrev pub parameter_word : Parameter → List ℕ
parameter_word Replicas = codes "--replicas"
parameter_word Shards = codes "--shards"
parameter_word Orderers = codes "--orderers"
parameter_word Gatherers = codes "--gatherers"
parameter_word Run = codes "--run"
parameter_word Workers = codes "--workers"

-- the word of an option
abbrev pub option_word : Setting → List ℕ
option_word (Number parameter number) = parameter_word parameter
option_word (Folder path) = codes "--folder"
option_word Brief = codes "--brief"

-- the words behind it: its value, if it has one
abbrev pub value_words : Setting → List (List ℕ)
value_words (Number parameter number) = decimal number ∷ []
value_words (Folder path) = path ∷ []
value_words Brief = []

-- the words of an option that is given
abbrev pub setting_words : Setting → List (List ℕ)
setting_words setting = option_word setting ∷ value_words setting

-- a folder is a word that is not empty and does not begin with a dash
abbrev pub IsFolder : List ℕ → Type 0
IsFolder path = (0 < length path) × (slice_index path 0 ≢ 45)

-- the value of an option is a number of at most ten digits, or a folder
abbrev pub IsSetting : Setting → Type 0
IsSetting (Number parameter number) = number < 10 ^ 10
IsSetting (Folder path) = IsFolder path
IsSetting Brief = Unit {0}

-- the options with a number that a command takes: a run has no workers, and items are made for a config alone
abbrev pub takes_number : Verb → Parameter → Bool
takes_number verb.Run Workers = false
takes_number verb.Run parameter = true
takes_number verb.Cluster parameter = true
takes_number verb.Make Run = false
takes_number verb.Make Workers = false
takes_number verb.Make parameter = true

-- the options that a command takes
abbrev pub takes : Verb → Setting → Bool
takes command (Number parameter number) = takes_number command parameter
takes verb.Make (Folder path) = false
takes command (Folder path) = true
takes verb.Run Brief = true
takes command Brief = false

-- no option is given twice
abbrev pub Once : List Setting → Type 0
Once [] = Unit {0}
Once (setting ∷ settings) = AllByRecursion (λ other. option_word other ≢ option_word setting) settings × Once settings

-- what is given where no option is
abbrev pub nothing : Given
nothing = record {
  replicas = None;
  shards = None;
  orderers = None;
  gatherers = None;
  run = None;
  workers = None;
  folder = None;
  brief = false;
}

-- the number that is given for an option
abbrev pub number_given : Given → Parameter → Option ℕ
number_given given Replicas = given.replicas
number_given given Shards = given.shards
number_given given Orderers = given.orderers
number_given given Gatherers = given.gatherers
number_given given Run = given.run
number_given given Workers = given.workers

-- whether an option is given
abbrev pub is_given : Given → Setting → Bool
is_given given (Number parameter number) = is_some (number_given given parameter)
is_given given (Folder path) = is_some given.folder
is_given given Brief = given.brief

-- what is given with one number more
abbrev pub with_number : Given → Parameter → ℕ → Given
with_number given Replicas number = record given { replicas = Some number }
with_number given Shards number = record given { shards = Some number }
with_number given Orderers number = record given { orderers = Some number }
with_number given Gatherers number = record given { gatherers = Some number }
with_number given Run number = record given { run = Some number }
with_number given Workers number = record given { workers = Some number }

-- what is given with one option more
abbrev pub with_setting : Given → Setting → Given
with_setting given (Number parameter number) = with_number given parameter number
with_setting given (Folder path) = record given { folder = Some path }
with_setting given Brief = record given { brief = true }

-- what options give together
abbrev pub given_by : List Setting → Given
given_by settings = fold with_setting nothing settings
