-- What is given by the options that are read so far.
use Rattle.std.proofs.Common.{◌≡◌, ◌≢◌, ℕ, ◌<◌, Bool, List, [], ◌∷◌, ◌++◌, length, true, false, refl, sym, ◌∙◌, ap, subst, append_assoc, arith}
use Rattle.std.specs.Bool.{IsTrue}
use Rattle.std.specs.Prelude.{IsSome}
use Rattle.std.specs.List.{AllByRecursion, flat_map}
use Rattle.std.proofs.lemmas.List.{append-nil}
use Rattle.std.proofs.lemmas.List.Concat.{flat_map-append}
use Rattle.command_words.specs.declared.given.Given.{Given}
use Rattle.command_words.specs.declared.setting.Setting.{Setting}
use Rattle.command_words.specs.declared.setting.Setting.TheVariants.{Folder}
use Rattle.command_words.specs.declared.setting.Verb.{Verb}
use Rattle.command_words.specs.Commands.{Gives}
use Rattle.command_words.specs.Settings.{IsFolder, IsSetting, Once, given_by, is_given, nothing, option_word, setting_words, takes, with_setting}
use Rattle.command_words.proofs.OneSetting.{front, one_list, one_setting}
use Rattle.command_words.proofs.SettingsGiven.{Without, all_at, all_push, given_by-push, is_in, not_in, once_at, once_push}

-- the words so far are options of the command that give this, and the rest is behind them
pub record SoFar (command : Verb) (words rest : List (List ℕ)) (given : Given) : Type 0 where
  pub settings : List Setting
  pub are_settings : AllByRecursion IsSetting settings
  pub are_taken : AllByRecursion (λ setting. IsTrue (takes command setting)) settings
  pub once : Once settings
  pub words_are : words ≡ flat_map setting_words settings ++ rest
  pub gives : given ≡ given_by settings

pub none_yet : (command : Verb) (words : List (List ℕ)) (given : Given) → given ≡ nothing → SoFar command words words given
none_yet command words given is = record {
  settings = [];
  are_settings = tt;
  are_taken = tt;
  once = tt;
  words_are = refl;
  gives = is;
}

module _ (command : Verb) (words rest : List (List ℕ)) (given : Given) (so_far : SoFar command words rest given) where
  -- the options of the words, where they are options, go on with those of the rest
  goes_on : (all : List Setting) → AllByRecursion IsSetting all → words ≡ flat_map setting_words all
      → (more : List Setting) × (all ≡ so_far.settings ++ more) × (rest ≡ flat_map setting_words more)
  goes_on all are is = front so_far.settings all rest so_far.are_settings are (sym so_far.words_are ∙ is)

  -- where the rest begins with an option, that is the next of them
  next_is : (setting : Setting) (more : List (List ℕ)) → IsSetting setting → rest ≡ setting_words setting ++ more
      → (all : List Setting) → AllByRecursion IsSetting all → words ≡ flat_map setting_words all
      → (others : List Setting) × (all ≡ so_far.settings ++ setting ∷ others)
  next_is setting more is begins all are words_are = next (goes_on all are words_are)
    where
      next : ((others : List Setting) × (all ≡ so_far.settings ++ others) × (rest ≡ flat_map setting_words others))
          → (others : List Setting) × (all ≡ so_far.settings ++ setting ∷ others)
      next ([], all_is, rest_is) = absurd (cc (begins, rest_is))
      next (t ∷ others, all_is, rest_is) =
          let here : IsSetting t = all_at IsSetting so_far.settings others t (subst (AllByRecursion IsSetting) all_is are) in
          let one = one_setting setting t more (flat_map setting_words others) is here (sym begins ∙ rest_is) in
          (others, all_is ∙ ap (λ (s : Setting). so_far.settings ++ s ∷ others) (sym one.0))

  -- the rest is not empty and does not begin with an option
  pub no_option : 0 < length rest → ((setting : Setting) (more : List (List ℕ)) → IsSetting setting → rest ≢ setting_words setting ++ more)
      → (other : Given) → Gives command words other → ⊥
  no_option some none other gives = there (goes_on gives.0 gives.1.are_settings gives.1.words_are)
    where
      there : ((others : List Setting) × (gives.0 ≡ so_far.settings ++ others) × (rest ≡ flat_map setting_words others)) → ⊥
      there ([], all_is, rest_is) = let empty : length rest ≡ 0 = ap length rest_is in omega arith
      there (t ∷ others, all_is, rest_is) =
          none t (flat_map setting_words others) (all_at IsSetting so_far.settings others t (subst (AllByRecursion IsSetting) all_is gives.1.are_settings)) rest_is

  -- it begins with one that the command does not take
  pub not_taken : (setting : Setting) (more : List (List ℕ)) → IsSetting setting → rest ≡ setting_words setting ++ more → takes command setting ≡ false
      → (other : Given) → Gives command words other → ⊥
  not_taken setting more is begins absent other gives =
      let next = next_is setting more is begins gives.0 gives.1.are_settings gives.1.words_are in
      let taken : IsTrue (takes command setting) = all_at (λ s. IsTrue (takes command s)) so_far.settings next.0 setting
      (subst (AllByRecursion (λ s. IsTrue (takes command s))) next.1 gives.1.are_taken) in
      absurd (cc (taken, absent))

  -- it begins with one that is given already
  pub given_twice : (setting : Setting) (more : List (List ℕ)) → IsSetting setting → rest ≡ setting_words setting ++ more → is_given given setting ≡ true
      → (other : Given) → Gives command words other → ⊥
  given_twice setting more is begins present other gives =
      let next = next_is setting more is begins gives.0 gives.1.are_settings gives.1.words_are in
      once_at so_far.settings next.0 setting (subst Once next.1 gives.1.once)
      (is_in so_far.settings setting (ap (λ (g : Given). is_given g setting) (sym so_far.gives) ∙ present))

  -- it begins with a folder
  pub folder_given : (path : List ℕ) (more : List (List ℕ)) → IsFolder path → rest ≡ setting_words (Folder path) ++ more
      → (other : Given) → Gives command words other → IsSome other.folder
  folder_given path more is begins other gives =
      let next = next_is (Folder path) more is begins gives.0 gives.1.are_settings gives.1.words_are in
      by (is_given other (Folder path)) refl
      (λ absent. all_at (λ s. option_word s ≢ option_word (Folder path)) so_far.settings next.0 (Folder path)
      (subst (λ (all : List Setting). Without (Folder path) all) next.1 (not_in gives.0 (Folder path) (ap (λ (g : Given). is_given g (Folder path)) (sym gives.2) ∙ absent))) refl)
    where
      by : (b : Bool) → is_given other (Folder path) ≡ b → (is_given other (Folder path) ≡ false → ⊥) → IsSome other.folder
      by true is not = is
      by false is not = absurd (not is)

  -- it begins with one that may be given too
  pub goes_on_with : (setting : Setting) (more : List (List ℕ)) (now : Given) → IsSetting setting → rest ≡ setting_words setting ++ more
      → takes command setting ≡ true → is_given given setting ≡ false → now ≡ with_setting given setting → SoFar command words more now
  goes_on_with setting more now is begins taken absent gives = record {
    settings = so_far.settings ++ setting ∷ [];
    are_settings = all_push IsSetting so_far.settings setting so_far.are_settings is;
    are_taken = all_push (λ s. IsTrue (takes command s)) so_far.settings setting so_far.are_taken taken;
    once = once_push so_far.settings setting so_far.once (not_in so_far.settings setting (ap (λ (g : Given). is_given g setting) (sym so_far.gives) ∙ absent));
    words_are = so_far.words_are ∙ ap (λ (r : List (List ℕ)). flat_map setting_words so_far.settings ++ r) begins
        ∙ sym (append_assoc (flat_map setting_words so_far.settings) (setting_words setting) more)
        ∙ ap (λ (ws : List (List ℕ)). ws ++ more) (sym pushed);
    gives = gives ∙ ap (λ (g : Given). with_setting g setting) so_far.gives ∙ sym (given_by-push so_far.settings setting);
  }
    where
      pushed : flat_map setting_words (so_far.settings ++ setting ∷ []) ≡ flat_map setting_words so_far.settings ++ setting_words setting
      pushed = flat_map-append setting_words so_far.settings (setting ∷ [])
          ∙ ap (λ (ws : List (List ℕ)). flat_map setting_words so_far.settings ++ ws) (append-nil (setting_words setting))

  -- the rest is empty
  pub all_given : length rest ≡ 0 → Gives command words given
  all_given none = (
    so_far.settings,
    record {
      are_settings = so_far.are_settings;
      are_taken = so_far.are_taken;
      once = so_far.once;
      words_are = so_far.words_are ∙ ap (λ (r : List (List ℕ)). flat_map setting_words so_far.settings ++ r) (empty rest none)
          ∙ append-nil (flat_map setting_words so_far.settings);
    },
    so_far.gives,
  )
    where
      empty : (list : List (List ℕ)) → length list ≡ 0 → list ≡ []
      empty [] is = refl
      empty (x ∷ list) is = absurd (omega arith)

-- the words give this alone
pub one_given : (command : Verb) (words : List (List ℕ)) (given other : Given) → Gives command words given → Gives command words other → given ≡ other
one_given command words given other gives others =
    let same = one_list gives.0 others.0 gives.1.are_settings others.1.are_settings (sym gives.1.words_are ∙ others.1.words_are) in
    gives.2 ∙ ap given_by same ∙ sym others.2
