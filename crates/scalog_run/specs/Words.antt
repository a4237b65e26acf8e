-- Which numbers of a rack the words of a command leave alone, and how words go unheard.
use Rattle.std.specs.Prelude.{◌≡◌, ◌⊎◌, ℕ, List}
use Rattle.log_base.specs.Shape.{shape}
use Rattle.command_words.specs.Commands.{NameFolder, Spells}
use Rattle.command_words.specs.declared.command.Command.TheVariants.{Cluster, Run}
use Rattle.command_words.specs.declared.command.Options.{Options}
use Rattle.cluster_disks.specs.Lent.{IsDisk}
use Rattle.scalog_run.specs.Output.{Sinking}

-- If the words are a run, or a cluster of threads, the number is no disk of its cluster. A word is the list of its bytes.
abbrev pub IsUnused : List (List ℕ) → ℕ → Type 0
IsUnused words number = (options : Options) → Spells words (Run options) ⊎ Spells words (Cluster options) → ¬ IsDisk (shape options.config) number

-- Memory ran out over words that name a folder, if they are a command, and nothing was sent.
pub record IsUnheard (words : List (List ℕ)) (sink_old sink_new : Sinking) (status : ℕ) : Type 0 where
  pub status_is : status ≡ 9
  pub folder : NameFolder words
  pub nothing_sent : sink_new ≡ sink_old
