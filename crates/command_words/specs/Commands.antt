-- Which lists of words are which command, with which options. A word is the list of its bytes.
use Rattle.std.specs.Prelude.{◌≡◌, ℕ, ◌^◌, ◌<◌, ◌≤◌, List, [], ◌∷◌, codes, unwrap_or, IsSome, IsTrue}
use Rattle.std.specs.List.{AllByRecursion, flat_map}
use Rattle.std.specs.Fmt.{decimal}
use Rattle.log_base.specs.ClusterShape.{Shape}
use Rattle.log_base.specs.Shape.{shape}
use Rattle.command_words.specs.declared.command.Command.{Command}
use Rattle.command_words.specs.declared.command.Command.TheVariants.{Run, Cluster, Check, Make}
use Rattle.command_words.specs.declared.command.Options.{Options}
use Rattle.command_words.specs.declared.setting.Verb.{Verb}
use Rattle.command_words.specs.declared.setting.Verb.TheVariants as verb
use Rattle.command_words.specs.declared.setting.Setting.{Setting}
use Rattle.command_words.specs.declared.given.Given.{Given}
use Rattle.command_words.specs.Settings.{IsSetting, Once, given_by, setting_words, takes}

-- two replicas of each of two shards, three orderers and one gatherer, where nothing else is given
abbrev pub shape_given : Given → Shape
shape_given given = record {
  replicas = unwrap_or given.replicas 2;
  shards = unwrap_or given.shards 2;
  orderers = unwrap_or given.orderers 3;
  gatherers = unwrap_or given.gatherers 1;
}

-- The options say what is given, and the defaults where nothing is: that shape, run 1, disks in memory, all
-- replies, and two workers. A config is always in range.
pub record Says (given : Given) (options : Options) : Type 0 where
  pub config : shape options.config ≡ shape_given given
  pub run : options.run ≡ unwrap_or given.run 1
  pub some_run : 1 ≤ options.run
  pub last_run : options.run ≤ 1000000
  pub folder : options.folder ≡ given.folder
  pub brief : options.brief ≡ given.brief
  pub workers : options.workers ≡ unwrap_or given.workers 2
  pub some_worker : 1 ≤ options.workers
  pub most_workers : options.workers ≤ 8

-- the command takes these options, each is given at most once, and the words are theirs, one option after
-- another in any order
pub record Spelled (command : Verb) (words : List (List ℕ)) (settings : List Setting) : Type 0 where
  pub are_settings : AllByRecursion IsSetting settings
  pub are_taken : AllByRecursion (λ setting. IsTrue (takes command setting)) settings
  pub once : Once settings
  pub words_are : words ≡ flat_map setting_words settings

-- the words are options of the command that give this
abbrev pub Gives : Verb → List (List ℕ) → Given → Type 0
Gives command words given = (settings : List Setting) × Spelled command words settings × (given ≡ given_by settings)

-- the words are options of the command that say this
abbrev pub Chooses : Verb → List (List ℕ) → Options → Type 0
Chooses command words options = (given : Given) × Gives command words given × Says given options

-- the words are a seed, a count and options that say this
abbrev pub Makes : List (List ℕ) → Options → ℕ → ℕ → Type 0
Makes words options seed count =
    (rest : List (List ℕ)) × (words ≡ decimal seed ∷ decimal count ∷ rest) × Chooses verb.Make rest options
    × (seed < 2 ^ 32) × (1 ≤ count) × (count ≤ 60000)

-- the words are the command
abbrev pub Spells : List (List ℕ) → Command → Type 0
Spells words (Run options) = (rest : List (List ℕ)) × (words ≡ codes "run" ∷ rest) × Chooses verb.Run rest options
Spells words (Cluster options) = (rest : List (List ℕ)) × (words ≡ codes "cluster" ∷ rest) × Chooses verb.Cluster rest options
Spells words Check = words ≡ codes "check" ∷ []
Spells words (Make options seed count) = (rest : List (List ℕ)) × (words ≡ codes "make" ∷ rest) × Makes rest options seed count

-- the command names a folder
abbrev pub HasFolder : Command → Type 0
HasFolder (Run options) = IsSome options.folder
HasFolder (Cluster options) = IsSome options.folder
HasFolder Check = ⊥
HasFolder (Make options seed count) = ⊥

-- if the words are a command, it names a folder
abbrev pub NameFolder : List (List ℕ) → Type 0
NameFolder words = (command : Command) → Spells words command → HasFolder command
