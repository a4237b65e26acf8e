-- Which options are given by a list of them, and lists in which none is given twice.
use Rattle.std.proofs.Common.{◌≡◌, ◌≢◌, ℕ, ◌⊎◌, inl, inr, true, false, List, [], ◌∷◌, ◌++◌, fold, refl, sym, ◌∙◌}
use Rattle.std.specs.List.{AllByRecursion}
use Rattle.command_words.specs.declared.given.Given.{Given}
use Rattle.command_words.specs.declared.setting.Parameter.{Parameter}
use Rattle.command_words.specs.declared.setting.Parameter.TheVariants.{Replicas, Shards, Orderers, Gatherers, Run, Workers}
use Rattle.command_words.specs.declared.setting.Setting.{Setting}
use Rattle.command_words.specs.declared.setting.Setting.TheVariants.{Number, Folder, Brief}
use Rattle.command_words.specs.Settings.{Once, given_by, is_given, nothing, option_word, with_setting}
use Rattle.command_words.proofs.OneSetting.{apart, folder_no_brief, no_brief, no_folder}

-- with one option more, that one is given, and every other as before
abbrev OneMore : Given → Setting → Setting → Type 0
OneMore given setting other =
    ((option_word setting ≡ option_word other) × (is_given (with_setting given setting) other ≡ true))
    ⊎ ((option_word setting ≢ option_word other) × (is_given (with_setting given setting) other ≡ is_given given other))

number_more : (given : Given) (parameter other : Parameter) (n m : ℕ) → OneMore given (Number parameter n) (Number other m)
number_more given Replicas Replicas n m = inl (refl, refl)
number_more given Replicas other n m = inr (apart Replicas other (λ same. cc), refl)
number_more given Shards Shards n m = inl (refl, refl)
number_more given Shards other n m = inr (apart Shards other (λ same. cc), refl)
number_more given Orderers Orderers n m = inl (refl, refl)
number_more given Orderers other n m = inr (apart Orderers other (λ same. cc), refl)
number_more given Gatherers Gatherers n m = inl (refl, refl)
number_more given Gatherers other n m = inr (apart Gatherers other (λ same. cc), refl)
number_more given Run Run n m = inl (refl, refl)
number_more given Run other n m = inr (apart Run other (λ same. cc), refl)
number_more given Workers Workers n m = inl (refl, refl)
number_more given Workers other n m = inr (apart Workers other (λ same. cc), refl)

-- a number leaves the folder and the line as they were
number_else : (given : Given) (parameter : Parameter) (n : ℕ) (path : List ℕ)
    → (is_given (with_setting given (Number parameter n)) (Folder path) ≡ is_given given (Folder path))
    × (is_given (with_setting given (Number parameter n)) Brief ≡ is_given given Brief)
number_else given Replicas n path = (refl, refl)
number_else given Shards n path = (refl, refl)
number_else given Orderers n path = (refl, refl)
number_else given Gatherers n path = (refl, refl)
number_else given Run n path = (refl, refl)
number_else given Workers n path = (refl, refl)

-- and these leave the numbers as they were
else_number : (given : Given) (parameter : Parameter) (n : ℕ) (path : List ℕ)
    → (is_given (with_setting given (Folder path)) (Number parameter n) ≡ is_given given (Number parameter n))
    × (is_given (with_setting given Brief) (Number parameter n) ≡ is_given given (Number parameter n))
else_number given Replicas n path = (refl, refl)
else_number given Shards n path = (refl, refl)
else_number given Orderers n path = (refl, refl)
else_number given Gatherers n path = (refl, refl)
else_number given Run n path = (refl, refl)
else_number given Workers n path = (refl, refl)

one_more : (given : Given) (setting other : Setting) → OneMore given setting other
one_more given (Number p n) (Number q m) = number_more given p q n m
one_more given (Number p n) (Folder path) = inr (no_folder p, (number_else given p n path).0)
one_more given (Number p n) Brief = inr (no_brief p, (number_else given p n []).1)
one_more given (Folder path) (Number q m) = inr (λ is. no_folder q (sym is), (else_number given q m path).0)
one_more given (Folder path) (Folder other) = inl (refl, refl)
one_more given (Folder path) Brief = inr (folder_no_brief, refl)
one_more given Brief (Number q m) = inr (λ is. no_brief q (sym is), (else_number given q m []).1)
one_more given Brief (Folder path) = inr (λ is. folder_no_brief (sym is), refl)
one_more given Brief Brief = inl (refl, refl)

-- no option of the list is that one
abbrev pub Without : Setting → List Setting → Type 0
Without setting settings = AllByRecursion (λ other. option_word other ≢ option_word setting) settings

-- one of them is
abbrev pub With : Setting → List Setting → Type 0
With setting [] = ⊥
With setting (other ∷ settings) = (option_word other ≡ option_word setting) ⊎ With setting settings

not_given_from : (settings : List Setting) (given : Given) (setting : Setting) → is_given (fold with_setting given settings) setting ≡ false
    → Without setting settings × (is_given given setting ≡ false)
not_given_from [] given setting absent = (tt, absent)
not_given_from (other ∷ settings) given setting absent =
    let rest = not_given_from settings (with_setting given other) setting absent in
    elim (one_more given other setting) [
      | inl same ↦ absurd (cc (rest.1, same.1))
      | inr differs ↦ ((differs.0, rest.0), sym differs.1 ∙ rest.1)
    ]

given_from : (settings : List Setting) (given : Given) (setting : Setting) → is_given (fold with_setting given settings) setting ≡ true
    → With setting settings ⊎ (is_given given setting ≡ true)
given_from [] given setting present = inr present
given_from (other ∷ settings) given setting present = elim (given_from settings (with_setting given other) setting present) [
  | inl rest ↦ inl (inr rest)
  | inr here ↦ elim (one_more given other setting) [
    | inl same ↦ inl (inl same.0)
    | inr differs ↦ inr (sym differs.1 ∙ here)
  ]
]

nothing_given : (setting : Setting) → is_given nothing setting ≡ false
nothing_given (Number Replicas n) = refl
nothing_given (Number Shards n) = refl
nothing_given (Number Orderers n) = refl
nothing_given (Number Gatherers n) = refl
nothing_given (Number Run n) = refl
nothing_given (Number Workers n) = refl
nothing_given (Folder path) = refl
nothing_given Brief = refl

-- an option that is not given by a list is not in it
pub not_in : (settings : List Setting) (setting : Setting) → is_given (given_by settings) setting ≡ false → Without setting settings
not_in settings setting absent = (not_given_from settings nothing setting absent).0

-- one that is given is
pub is_in : (settings : List Setting) (setting : Setting) → is_given (given_by settings) setting ≡ true → With setting settings
is_in settings setting present = elim (given_from settings nothing setting present) [
  | inl there ↦ there
  | inr before ↦ absurd (cc (nothing_given setting, before))
]

-- what is given with one more at the end
fold_push : (settings : List Setting) (given : Given) (setting : Setting)
    → fold with_setting given (settings ++ setting ∷ []) ≡ with_setting (fold with_setting given settings) setting
fold_push [] given setting = refl
fold_push (other ∷ settings) given setting = fold_push settings (with_setting given other) setting

pub given_by-push : (settings : List Setting) (setting : Setting) → given_by (settings ++ setting ∷ []) ≡ with_setting (given_by settings) setting
given_by-push settings setting = fold_push settings nothing setting

-- what holds of each holds of one more
pub all_push : (P : Setting → Type 0) (settings : List Setting) (setting : Setting) → AllByRecursion P settings → P setting
    → AllByRecursion P (settings ++ setting ∷ [])
all_push P [] setting all here = (here, tt)
all_push P (other ∷ settings) setting all here = (all.0, all_push P settings setting all.1 here)

-- what holds of each holds of one in the middle
pub all_at : (P : Setting → Type 0) (settings more : List Setting) (setting : Setting) → AllByRecursion P (settings ++ setting ∷ more) → P setting
all_at P [] more setting all = all.0
all_at P (other ∷ settings) more setting all = all_at P settings more setting all.1

pub once_push : (settings : List Setting) (setting : Setting) → Once settings → Without setting settings → Once (settings ++ setting ∷ [])
once_push [] setting once without = (tt, tt)
once_push (other ∷ settings) setting once without =
    (all_push (λ s. option_word s ≢ option_word other) settings setting once.0 (λ is. without.0 (sym is)), once_push settings setting once.1 without.1)

-- an option that is there once does not stand before itself
pub once_at : (settings more : List Setting) (setting : Setting) → Once (settings ++ setting ∷ more) → With setting settings → ⊥
once_at [] more setting once there = there
once_at (other ∷ settings) more setting once there = elim there [
  | inl same ↦ all_at (λ s. option_word s ≢ option_word other) settings more setting once.0 (sym same)
  | inr rest ↦ once_at settings more setting once.1 rest
]
