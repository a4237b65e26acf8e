-- A cluster is not brief.
use Rattle.std.proofs.Common.{◌≡◌, ℕ, List, [], ◌∷◌, false, fold, refl, ◌∙◌, ap}
use Rattle.std.specs.Bool.{IsTrue}
use Rattle.std.specs.List.{AllByRecursion}
use Rattle.command_words.specs.declared.command.Options.{Options}
use Rattle.command_words.specs.declared.given.Given.{Given}
use Rattle.command_words.specs.declared.setting.Parameter.{Parameter}
use Rattle.command_words.specs.declared.setting.Parameter.TheVariants.{Replicas, Shards, Orderers, Gatherers, Run, Workers}
use Rattle.command_words.specs.declared.setting.Setting.{Setting}
use Rattle.command_words.specs.declared.setting.Setting.TheVariants.{Number, Folder, Brief}
use Rattle.command_words.specs.declared.setting.Verb.TheVariants.{Cluster}
use Rattle.command_words.specs.Commands.{Chooses}
use Rattle.command_words.specs.Settings.{nothing, takes, with_number, with_setting}

-- a number leaves it as it was
brief_stays : (given : Given) (parameter : Parameter) (number : ℕ) → (with_number given parameter number).brief ≡ given.brief
brief_stays given Replicas number = refl
brief_stays given Shards number = refl
brief_stays given Orderers number = refl
brief_stays given Gatherers number = refl
brief_stays given Run number = refl
brief_stays given Workers number = refl

not_brief_from : (settings : List Setting) (given : Given) → AllByRecursion (λ setting. IsTrue (takes Cluster setting)) settings → given.brief ≡ false
    → (fold with_setting given settings).brief ≡ false
not_brief_from [] given taken not = not
not_brief_from (Number parameter number ∷ settings) given taken not =
    not_brief_from settings (with_number given parameter number) taken.1 (brief_stays given parameter number ∙ not)
not_brief_from (Folder path ∷ settings) given taken not = not_brief_from settings (with_setting given (Folder path)) taken.1 not
not_brief_from (Brief ∷ settings) given taken not = absurd (cc (taken.0))

-- the options of a cluster do not ask for a brief report
pub cluster_not_brief : (words : List (List ℕ)) (options : Options) → Chooses Cluster words options → options.brief ≡ false
cluster_not_brief words options chooses =
    chooses.2.brief ∙ ap (λ (given : Given). given.brief) chooses.1.2 ∙ not_brief_from chooses.1.0 nothing chooses.1.1.are_taken refl
