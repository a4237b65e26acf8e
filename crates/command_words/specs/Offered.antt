-- The commands that are served so far.
use Rattle.std.specs.Prelude.{◌≡◌, ℕ, List, None}
use Rattle.command_words.specs.declared.command.Command.{Command}
use Rattle.command_words.specs.declared.command.Command.TheVariants.{Run, Cluster, Check, Make}
use Rattle.command_words.specs.declared.offered.Offered.{Offered}
use Rattle.command_words.specs.declared.offered.Offered.TheVariants as offered
use Rattle.command_words.specs.Commands.{Spells}

-- a run and a cluster with their disks in memory, a check, and items that are made
abbrev pub IsOffered : Command → Type 0
IsOffered (Run options) = options.folder ≡ None
IsOffered (Cluster options) = options.folder ≡ None
IsOffered Check = Unit {0}
IsOffered (Make options seed count) = Unit {0}

-- the words are a command that is served
abbrev pub Offers : List (List ℕ) → Type 0
Offers words = (command : Command) × Spells words command × IsOffered command

-- the command that is served
abbrev pub command_of : Offered → Command
command_of (offered.Run options) = Run options
command_of (offered.Cluster options) = Cluster options
command_of offered.Check = Check
command_of (offered.Make options seed count) = Make options seed count
