-- The first word of a command.
use Rattle.std.proofs.Common.{◌≡◌, ℕ, true, false, eqb, eq-eqb, List, [], ◌∷◌, codes, get_or, refl, sym, ◌∙◌, ap, subst}
use Rattle.command_words.specs.declared.command.Command.{Command}
use Rattle.command_words.specs.declared.command.Command.TheVariants.{Run, Cluster, Check, Make}
use Rattle.command_words.specs.declared.command.Options.{Options}
use Rattle.command_words.specs.declared.setting.Verb.TheVariants as verb
use Rattle.command_words.specs.Commands.{Chooses, Makes, Spells}

-- the second letter of the first word tells the commands apart
abbrev pub letter : List (List ℕ) → ℕ
letter [] = 0
letter (word ∷ words) = get_or word 1 0

-- words with other letters there are other words
pub differ : (words others : List (List ℕ)) → eqb (letter words) (letter others) ≡ false → words ≡ others → ⊥
differ words others apart same =
    let letters : letter words ≡ letter others = ap (λ (ws : List (List ℕ)). letter ws) same in
    let equal : eqb (letter words) (letter others) ≡ true = eq-eqb (letter words) (letter others) letters in
    absurd (cc (apart, equal))

same_rest : (word : List ℕ) (words rest more : List (List ℕ)) → words ≡ word ∷ rest → words ≡ word ∷ more → more ≡ rest
same_rest word words rest more is other = cc

-- What holds of each command behind its word holds of each command that the words are.
module _ (X : Command → Type 0) (words rest : List (List ℕ)) where
  pub run_alone : words ≡ codes "run" ∷ rest → ((options : Options) → Chooses verb.Run rest options → X (Run options)) → (command : Command) → Spells words command → X command
  run_alone is here (Run options) spells =
      here options (subst (λ (r : List (List ℕ)). Chooses verb.Run r options) (same_rest (codes "run") words rest spells.0 is spells.1) spells.2)
  run_alone is here (Cluster options) spells = absurd (differ (codes "run" ∷ rest) (codes "cluster" ∷ spells.0) refl (sym is ∙ spells.1))
  run_alone is here Check spells = absurd (differ (codes "run" ∷ rest) (codes "check" ∷ []) refl (sym is ∙ spells))
  run_alone is here (Make options seed count) spells = absurd (differ (codes "run" ∷ rest) (codes "make" ∷ spells.0) refl (sym is ∙ spells.1))

  pub cluster_alone : words ≡ codes "cluster" ∷ rest → ((options : Options) → Chooses verb.Cluster rest options → X (Cluster options)) → (command : Command) → Spells words command → X command
  cluster_alone is here (Run options) spells = absurd (differ (codes "cluster" ∷ rest) (codes "run" ∷ spells.0) refl (sym is ∙ spells.1))
  cluster_alone is here (Cluster options) spells =
      here options (subst (λ (r : List (List ℕ)). Chooses verb.Cluster r options) (same_rest (codes "cluster") words rest spells.0 is spells.1) spells.2)
  cluster_alone is here Check spells = absurd (differ (codes "cluster" ∷ rest) (codes "check" ∷ []) refl (sym is ∙ spells))
  cluster_alone is here (Make options seed count) spells = absurd (differ (codes "cluster" ∷ rest) (codes "make" ∷ spells.0) refl (sym is ∙ spells.1))

  pub make_alone : words ≡ codes "make" ∷ rest → ((options : Options) (seed count : ℕ) → Makes rest options seed count → X (Make options seed count))
      → (command : Command) → Spells words command → X command
  make_alone is here (Run options) spells = absurd (differ (codes "make" ∷ rest) (codes "run" ∷ spells.0) refl (sym is ∙ spells.1))
  make_alone is here (Cluster options) spells = absurd (differ (codes "make" ∷ rest) (codes "cluster" ∷ spells.0) refl (sym is ∙ spells.1))
  make_alone is here Check spells = absurd (differ (codes "make" ∷ rest) (codes "check" ∷ []) refl (sym is ∙ spells))
  make_alone is here (Make options seed count) spells =
      here options seed count (subst (λ (r : List (List ℕ)). Makes r options seed count) (same_rest (codes "make") words rest spells.0 is spells.1) spells.2)
