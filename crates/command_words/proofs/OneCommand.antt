-- Words are one command, with one list of options.
use Rattle.std.proofs.Common.{◌≡◌, ℕ, Bool, Option, List, [], ◌∷◌, codes, refl, sym, ◌∙◌, ap, subst, arith}
use Rattle.std.proofs.Math.Bridge.{le_prop}
use Rattle.std.proofs.Math.Nat.{ℕ_set}
use Rattle.std.specs.Fmt.{decimal}
use Rattle.std.proofs.lemmas.Fmt.{decimal_injective}
use Rattle.log_base.specs.ClusterShape.{InRange, Shape}
use Rattle.log_base.specs.Shape.{shape}
use Rattle.log_base.specs.declared.cluster_shape.Config.{Config}
use Rattle.command_words.specs.declared.command.Command.{Command}
use Rattle.command_words.specs.declared.command.Command.TheVariants.{Run, Cluster, Check, Make}
use Rattle.command_words.specs.declared.command.Options.{Options}
use Rattle.command_words.specs.declared.given.Given.{Given}
use Rattle.command_words.specs.declared.setting.Verb.{Verb}
use Rattle.command_words.specs.declared.setting.Verb.TheVariants as verb
use Rattle.command_words.specs.Commands.{Chooses, Makes, Says, Spells}
use Rattle.command_words.specs.Offered.{IsOffered, Offers}
use Rattle.command_words.proofs.GivenSoFar.{one_given}
use Rattle.command_words.proofs.VerbWords.{differ}

-- a config is its numbers
in_range-one : (numbers : Shape) → IsProp (InRange numbers)
in_range-one numbers = hlevel (le_prop, ℕ_set)

with_numbers : (numbers : Shape) → InRange numbers → Config
with_numbers numbers fact = record {
  replicas = numbers.replicas;
  shards = numbers.shards;
  orderers = numbers.orderers;
  gatherers = numbers.gatherers;
  in_range = fact;
}

same_numbers : (numbers others : Shape) → numbers ≡ others → (fact : InRange numbers) (other : InRange others)
    → with_numbers numbers fact ≡ with_numbers others other
same_numbers numbers others same fact =
    subst (λ (s : Shape). (other : InRange s) → with_numbers numbers fact ≡ with_numbers s other) same
    (λ other. ap (with_numbers numbers) (in_range-one numbers fact other))

same_config : (config other : Config) → shape config ≡ shape other → config ≡ other
unfolding with_numbers
same_config config other same = same_numbers (shape config) (shape other) same config.in_range other.in_range

with_choices : Config → ℕ → Option (List ℕ) → Bool → ℕ → Options
with_choices config run folder brief workers = record { config = config; run = run; folder = folder; brief = brief; workers = workers }

same_choices : (options others : Options) → with_choices options.config options.run options.folder options.brief options.workers
    ≡ with_choices others.config others.run others.folder others.brief others.workers → options ≡ others
unfolding with_choices
same_choices options others same = same

-- what is given says one list of options
same_options : (given : Given) (options others : Options) → Says given options → Says given others → options ≡ others
same_options given options others says other_says =
    let config = same_config options.config others.config (says.config ∙ sym other_says.config) in
    let run : options.run ≡ others.run = says.run ∙ sym other_says.run in
    let folder : options.folder ≡ others.folder = says.folder ∙ sym other_says.folder in
    let brief : options.brief ≡ others.brief = says.brief ∙ sym other_says.brief in
    let workers : options.workers ≡ others.workers = says.workers ∙ sym other_says.workers in
    same_choices options others (cc)

-- the words of a command's options choose one list of them
pub one_choice : (command : Verb) (words : List (List ℕ)) (options others : Options) → Chooses command words options → Chooses command words others
    → options ≡ others
one_choice command words options others chooses other_chooses =
    let same = one_given command words chooses.0 other_chooses.0 chooses.1 other_chooses.1 in
    same_options other_chooses.0 options others (subst (λ (given : Given). Says given options) same chooses.2) other_chooses.2

behind : (word : List ℕ) (words rest more : List (List ℕ)) → words ≡ word ∷ rest → words ≡ word ∷ more → rest ≡ more
behind word words rest more is other = cc

cells : (first second other next : List ℕ) (rest more : List (List ℕ)) → first ∷ second ∷ rest ≡ other ∷ next ∷ more
    → (first ≡ other) × (second ≡ next) × (rest ≡ more)
cells first second other next rest more same = (cc, cc, cc)

-- the words of items that are made
one_making : (words : List (List ℕ)) (options others : Options) (seed count other_seed other_count : ℕ) → Makes words options seed count
    → Makes words others other_seed other_count → (options ≡ others) × (seed ≡ other_seed) × (count ≡ other_count)
one_making words options others seed count other_seed other_count makes other_makes =
    let parts = cells (decimal seed) (decimal count) (decimal other_seed) (decimal other_count) makes.0 other_makes.0 (sym makes.1 ∙ other_makes.1) in (
      one_choice verb.Make other_makes.0 options others (subst (λ (rest : List (List ℕ)). Chooses verb.Make rest options) parts.2 makes.2) other_makes.2,
      decimal_injective seed other_seed (omega arith) (omega arith) parts.0,
      decimal_injective count other_count (omega arith) (omega arith) parts.1,
    )

pub one_command : (words : List (List ℕ)) (command other : Command) → Spells words command → Spells words other → command ≡ other
one_command words (Run options) (Run others) spells other_spells =
    let rest = behind (codes "run") words spells.0 other_spells.0 spells.1 other_spells.1 in
    ap Run (one_choice verb.Run other_spells.0 options others (subst (λ (r : List (List ℕ)). Chooses verb.Run r options) rest spells.2) other_spells.2)
one_command words (Run options) (Cluster others) spells other_spells = absurd (differ (codes "run" ∷ spells.0) (codes "cluster" ∷ other_spells.0) refl (sym spells.1 ∙ other_spells.1))
one_command words (Run options) Check spells other_spells = absurd (differ (codes "run" ∷ spells.0) (codes "check" ∷ []) refl (sym spells.1 ∙ other_spells))
one_command words (Run options) (Make others seed count) spells other_spells = absurd (differ (codes "run" ∷ spells.0) (codes "make" ∷ other_spells.0) refl (sym spells.1 ∙ other_spells.1))
one_command words (Cluster options) (Run others) spells other_spells = absurd (differ (codes "cluster" ∷ spells.0) (codes "run" ∷ other_spells.0) refl (sym spells.1 ∙ other_spells.1))
one_command words (Cluster options) (Cluster others) spells other_spells =
    let rest = behind (codes "cluster") words spells.0 other_spells.0 spells.1 other_spells.1 in
    ap Cluster (one_choice verb.Cluster other_spells.0 options others (subst (λ (r : List (List ℕ)). Chooses verb.Cluster r options) rest spells.2) other_spells.2)
one_command words (Cluster options) Check spells other_spells = absurd (differ (codes "cluster" ∷ spells.0) (codes "check" ∷ []) refl (sym spells.1 ∙ other_spells))
one_command words (Cluster options) (Make others seed count) spells other_spells = absurd (differ (codes "cluster" ∷ spells.0) (codes "make" ∷ other_spells.0) refl (sym spells.1 ∙ other_spells.1))
one_command words Check (Run others) spells other_spells = absurd (differ (codes "check" ∷ []) (codes "run" ∷ other_spells.0) refl (sym spells ∙ other_spells.1))
one_command words Check (Cluster others) spells other_spells = absurd (differ (codes "check" ∷ []) (codes "cluster" ∷ other_spells.0) refl (sym spells ∙ other_spells.1))
one_command words Check Check spells other_spells = refl
one_command words Check (Make others seed count) spells other_spells = absurd (differ (codes "check" ∷ []) (codes "make" ∷ other_spells.0) refl (sym spells ∙ other_spells.1))
one_command words (Make options seed count) (Run others) spells other_spells = absurd (differ (codes "make" ∷ spells.0) (codes "run" ∷ other_spells.0) refl (sym spells.1 ∙ other_spells.1))
one_command words (Make options seed count) (Cluster others) spells other_spells = absurd (differ (codes "make" ∷ spells.0) (codes "cluster" ∷ other_spells.0) refl (sym spells.1 ∙ other_spells.1))
one_command words (Make options seed count) Check spells other_spells = absurd (differ (codes "make" ∷ spells.0) (codes "check" ∷ []) refl (sym spells.1 ∙ other_spells))
one_command words (Make options seed count) (Make others other_seed other_count) spells other_spells =
    let rest = behind (codes "make") words spells.0 other_spells.0 spells.1 other_spells.1 in
    let same = one_making other_spells.0 options others seed count other_seed other_count
    (subst (λ (r : List (List ℕ)). Makes r options seed count) rest spells.2) other_spells.2 in
    cc (same.0, same.1, same.2)

-- words whose command is not served are no command that is
pub not_offered : (words : List (List ℕ)) (command : Command) → Spells words command → (IsOffered command → ⊥) → Offers words → ⊥
not_offered words command spells refused offers =
    refused (subst IsOffered (one_command words offers.0 command offers.1 spells) offers.2)
